use Rattle.stack_bound.proofs.HoldLemmas.{never}
use Rattle.stack_bound.proofs.laws.certificates_keep_stacks.Goals as goal

pub returns : goal.returns
returns c = λ profile p list verifies holds.
    never profile p list c.what_runs_goes_on.ensures.start c.what_runs_goes_on.ensures.entry verifies holds
