use Rattle.std.proofs.Common.{true, ◌≡◌, ◌+◌, ◌-◌, length}
use Rattle.flat_code.specs.Layout.{list_layout}
use Rattle.flat_code.specs.Image.{line_field, line_after}
use Rattle.image_file.specs.Running.{run_layout, reader_cursor, log_of, with_front}
use Rattle.image_file.proofs.reader.Reader.lines.Given as goal

abbrev pub invariant-loop : goal.invariant-loop
invariant-loop l = record {
  read : with_front l.lines.items (run_layout (list_layout (line_field true) line_after l.before (l.count - l.counter)) (reader_cursor l.self) (log_of l.self)) ≡ run_layout (list_layout (line_field true) line_after 0 l.count) (reader_cursor l.fn.self) (log_of l.fn.self);
  all : l.self.at + length l.self.rest.now ≡ l.fn.self.at + length l.fn.self.rest.now;
}
