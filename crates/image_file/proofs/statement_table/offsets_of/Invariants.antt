use Rattle.std.proofs.Common.{◌≡◌, map, take}
use Rattle.image_file.proofs.statement_table.offsets_of.Given as goal

abbrev pub invariant-loop-statement : goal.invariant-loop-statement
invariant-loop-statement l = l.offsets.items ≡ map (λ s. s.at) (take l.statement-index l.statements)
