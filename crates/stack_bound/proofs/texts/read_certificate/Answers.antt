use Rattle.std.proofs.Common.{arith, rules}
use Rattle.std.proofs.lemmas.Result.{err_from_is_err_and}
use Rattle.stack_bound.proofs.TextLemmas.{goes_first, goes_line, goes_bad, goes_end}
use Rattle.stack_bound.proofs.texts.read_certificate.Goals as goal

pub loop-rest-init : goal.loop-rest-init
loop-rest-init c = record {
  read = rw c.new-list.ensures.items (goes_first _ _);
  few = omega arith;
}

pub loop-rest-preserved : goal.loop-rest-preserved
loop-rest-preserved c = record {
  read = goes_line _ _ _ _ _ _ _ _ _ _ c.loop-rest.invariant.read c.first_line.ensures.first c.in_ok-take_line.ensures.taken;
  few = omega (arith, c.loop-rest.invariant.few, c.first_line.ensures.shorter);
}

pub returns-in_err-take_line-clause-refused : goal.returns-in_err-take_line-clause-refused
returns-in_err-take_line-clause-refused c =
    let fault = err_from_is_err_and c.from_residual.result c.from_residual.ensures.1 in
    rw (fault.1, fault.2)
    (goes_bad _ _ _ _ _ _ _ c.first_line.result.1.now _ c.loop-rest.invariant.read c.first_line.ensures.first c.in_err-take_line.ensures.bad)

pub returns-clause-spelled : goal.returns-clause-spelled
returns-clause-spelled c = goes_end _ _ _ _ _ _ c.loop-rest.invariant.read (search rules)
