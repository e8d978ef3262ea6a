use Rattle.std.proofs.Common.{sym, ◌∙◌}
use Rattle.machine.specs.Flat.{code_of, statement_fetched}
use Rattle.machine.specs.Statement.{statement_step}
use Rattle.machine.proofs.Going.{fetched_goes}
use Rattle.machine.proofs.readiness.is_ready.Goals as goal

pub returns-in-Some-clause-there : goal.returns-in-Some-clause-there
unfolding statement_step
returns-in-Some-clause-there c = λ yes w.
    rw (sym c.in-Some.ensures)
    (fetched_goes (code_of c.args.c.now.program) (statement_fetched c.in-Some.code c.args.a.now.running.frame.at) c.args.a.now w
    (sym c.is_complete_at.ensures ∙ yes))
