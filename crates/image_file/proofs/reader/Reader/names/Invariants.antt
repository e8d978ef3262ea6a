use Rattle.std.proofs.Common.{◌≡◌, ◌+◌, ◌-◌, length, []}
use Rattle.flat_code.specs.Layout.{list_layout}
use Rattle.flat_code.specs.Image.{name_record, after_name}
use Rattle.image_file.specs.Running.{run_layout, reader_cursor, log_of, with_front}
use Rattle.image_file.proofs.reader.Reader.names.Given as goal

abbrev pub invariant-loop : goal.invariant-loop
invariant-loop l = record {
  read : with_front l.names.items (run_layout (list_layout name_record after_name l.before (l.count - l.counter)) (reader_cursor l.self) (log_of l.self)) ≡ run_layout (list_layout name_record after_name [] l.count) (reader_cursor l.fn.self) (log_of l.fn.self);
  all : l.self.at + length l.self.rest.now ≡ l.fn.self.at + length l.fn.self.rest.now;
}
