use Rattle.std.proofs.Common.{arith, rules}
use Rattle.std.proofs.lemmas.List.Elements.{All-nil}
use Rattle.std.proofs.lemmas.Result.{err_from_is_err_and}
use Rattle.var_access.specs.Entry.{IsValid}
use Rattle.event_text.proofs.ReadingLemmas.{GoesOn-start, GoesOn-line, GoesOn-bad, GoesOn-end}
use Rattle.event_text.proofs.texts.read_history.Goals as goal

pub loop-rest-init : goal.loop-rest-init
loop-rest-init c = record {
  read = rw (c.new-reader.ensures.nothing, c.new-reader.ensures.first) (GoesOn-start _ _ _);
  valid = rw c.new-reader.ensures.nothing (All-nil IsValid);
  lines = omega (arith, c.new-reader.ensures.first);
}

pub loop-rest-preserved : goal.loop-rest-preserved
loop-rest-preserved c = record {
  read = rw c.in_ok-take.ensures.line
      (GoesOn-line _ _ _ _ _ _ _ _ _ _ c.loop-rest.invariant.read c.first_line.ensures.first c.loop-rest.reader.counted c.in_ok-take.ensures.taken);
  valid = c.in_ok-take.ensures.valid c.loop-rest.invariant.valid;
  lines = omega (arith, c.in_ok-take.ensures.line, c.loop-rest.invariant.lines, c.first_line.ensures.shorter);
}

pub returns-in_err-take-clause-refused : goal.returns-in_err-take-clause-refused
returns-in_err-take-clause-refused c =
    let fault = err_from_is_err_and c.from_residual.result c.from_residual.ensures.1 in
    rw (fault.1, fault.2)
    (GoesOn-bad _ _ _ _ _ _ _ _ c.first_line.result.1.now _ c.loop-rest.invariant.read c.first_line.ensures.first c.loop-rest.reader.counted c.in_err-take.ensures.bad)

pub returns-clause-spelled : goal.returns-clause-spelled
returns-clause-spelled c = GoesOn-end _ _ _ _ _ _ c.loop-rest.invariant.read (search rules)
