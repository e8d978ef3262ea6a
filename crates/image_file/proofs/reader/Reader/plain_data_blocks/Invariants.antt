use Rattle.std.proofs.Common.{◌≡◌, ◌≤◌, ◌+◌, ◌*◌, ◌-◌, length}
use Rattle.flat_code.specs.Layout.{list_layout}
use Rattle.flat_code.specs.Image.{data_block_layout, after_data}
use Rattle.image_file.specs.Running.{run_layout, reader_cursor, log_of, with_front}
use Rattle.image_file.proofs.reader.Reader.plain_data_blocks.Given as goal

abbrev pub invariant-loop : goal.invariant-loop
invariant-loop l = record {
  read : with_front l.blocks.items (run_layout (list_layout data_block_layout after_data (l.before, l.sum) (l.count - l.counter)) (reader_cursor l.self) (log_of l.self)) ≡ run_layout (list_layout data_block_layout after_data (0, 0) l.count) (reader_cursor l.fn.self) (log_of l.fn.self);
  all : l.self.at + length l.self.rest.now ≡ l.fn.self.at + length l.fn.self.rest.now;
  sum : l.sum ≤ 65535 * l.counter;
}
