use Rattle.stack_bound.proofs.HoldLemmas.{never}
use Rattle.stack_bound.proofs.CheckLemmas.{check_decides}
use Rattle.stack_bound.proofs.checking.holds.Goals as goal

pub returns-clause-value : goal.returns-clause-value
returns-clause-value c =
    rw c.is_certificate.ensures (check_decides c.args.l.now.profile c.args.l.now.program c.args.c.now)

pub returns-clause-never : goal.returns-clause-never
returns-clause-never c = λ is.
    never c.args.l.now.profile c.args.l.now.program c.args.c.now c.what_runs_goes_on.ensures.start
    c.what_runs_goes_on.ensures.entry c.law_of_verifying.ensures ((returns-clause-value c).0 is)
