use Rattle.std.proofs.Common.{◌∙◌, arith, ℕ}
use Rattle.std.proofs.lemmas.Result.{err_from_is_err_and}
use Rattle.flat_code.specs.Image.{parameter_layout, parameters_layout, same_state}
use Rattle.image_file.specs.Running.{reader_cursor, log_of}
use Rattle.image_file.proofs.RunLemmas.{more_goes, more_stops, more_done}
use Rattle.image_file.proofs.reader.Reader.parameters.Goals as goal

pub returns-in_err-param-clause-read : goal.returns-in_err-param-clause-read
unfolding parameters_layout
returns-in_err-param-clause-read c =
    let p = err_from_is_err_and c.from_residual.result c.from_residual.ensures.1 in
    rw (p.1, p.2) (more_stops (λ (s : ℕ). parameter_layout c.args.head.kind c.args.head.instance_bytes) same_state 0 c.args.head.parameter_count c.loop.counter (reader_cursor c.loop.self) (log_of c.loop.self) (log_of c.parameter.new.self) c.loop.params.items _ c.loop-test.true c.in_err-param.ensures.read c.loop.invariant.read)

pub loop-preserved : goal.loop-preserved
loop-preserved c = record {
  read = rw c.in_ok-push.ensures.items (more_goes (λ (s : ℕ). parameter_layout c.args.head.kind c.args.head.instance_bytes) same_state 0 c.args.head.parameter_count c.loop.counter (reader_cursor c.loop.self) (log_of c.loop.self) c.loop.params.items c.in_ok-param.param (reader_cursor c.parameter.new.self) (log_of c.parameter.new.self) _ c.loop-test.true c.in_ok-param.ensures.read c.loop.invariant.read);
  all = c.in_ok-param.ensures.all ∙ c.loop.invariant.all;
  step = omega (arith, c.in_ok-param.ensures.step, c.loop.invariant.step);
  count = omega (arith, c.in_ok-push.ensures.len, c.loop.invariant.count);
}

pub returns-clause-read : goal.returns-clause-read
unfolding parameters_layout
returns-clause-read c = more_done (λ (s : ℕ). parameter_layout c.args.head.kind c.args.head.instance_bytes) same_state 0 c.args.head.parameter_count c.loop.counter (reader_cursor c.loop.self) (log_of c.loop.self) c.loop.params.items _ c.loop-test.false c.loop.invariant.read
