use Rattle.std.proofs.Common.{true, ◌≡◌, ◌+◌, ◌-◌, length, List}
use Rattle.flat_code.specs.Records.{BlockRecord}
use Rattle.flat_code.specs.Layout.{list_layout}
use Rattle.flat_code.specs.Image.{code_block_layout, after_block}
use Rattle.image_file.specs.Running.{run_layout, reader_cursor, log_of, with_front}
use Rattle.image_file.proofs.reader.Reader.code_blocks.Given as goal

abbrev pub invariant-loop : goal.invariant-loop
invariant-loop l = record {
  read : (bs : List BlockRecord) × (with_front bs (run_layout (list_layout (code_block_layout true) after_block (l.kind_before, l.before) (l.count - l.counter)) (reader_cursor l.self) (log_of l.self)) ≡ run_layout (list_layout (code_block_layout true) after_block (0, 0) l.count) (reader_cursor l.fn.self) (log_of l.fn.self));
  all : l.self.at + length l.self.rest.now ≡ l.fn.self.at + length l.fn.self.rest.now;
}
