use Rattle.std.proofs.Common.{◌≡◌, ◌+◌, ◌*◌, ◌-◌, length, vec_len}
use Rattle.flat_code.specs.Layout.{list_layout}
use Rattle.flat_code.specs.Image.{parameter_layout, same_state}
use Rattle.image_file.specs.Running.{run_layout, reader_cursor, log_of, with_front}
use Rattle.image_file.proofs.reader.Reader.parameters.Given as goal

abbrev pub invariant-loop : goal.invariant-loop
invariant-loop l = record {
  read : with_front l.params.items (run_layout (list_layout (λ s. parameter_layout l.head.kind l.head.instance_bytes) same_state 0 (l.count - l.counter)) (reader_cursor l.self) (log_of l.self)) ≡ run_layout (list_layout (λ s. parameter_layout l.head.kind l.head.instance_bytes) same_state 0 l.count) (reader_cursor l.fn.self) (log_of l.fn.self);
  all : l.self.at + length l.self.rest.now ≡ l.fn.self.at + length l.fn.self.rest.now;
  step : l.self.at ≡ l.fn.self.at + 6 * l.counter;
  count : vec_len l.params ≡ l.counter;
}
