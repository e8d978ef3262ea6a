use Rattle.std.proofs.Common.{◌≡◌, drop, []}
use Rattle.stl_types.specs.Brackets.{brackets_behind_all}
use Rattle.stl_types.proofs.brackets.open_at_end.Given as goal

abbrev pub invariant-loop-statement : goal.invariant-loop-statement
invariant-loop-statement l = brackets_behind_all l.brackets.items (drop l.statement-index l.body) ≡ brackets_behind_all [] l.body
