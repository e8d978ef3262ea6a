use Rattle.std.proofs.Common.{ℕ, ◌<◌, ◌≤◌, length}
use Rattle.std.specs.Prelude.{slice_index_or}
use Rattle.event_text.specs.Regular.{FitsPlace}
use Rattle.var_access.specs.declared.requests.Var.{Var}
use Rattle.event_text.proofs.fields.law_of_vars.Given as goal

abbrev pub invariant-loop-var : goal.invariant-loop-var
invariant-loop-var l = (l.var-index ≤ length l.vars) × ((k : ℕ) (d : Var) → k < l.var-index → FitsPlace (slice_index_or l.vars k d))
