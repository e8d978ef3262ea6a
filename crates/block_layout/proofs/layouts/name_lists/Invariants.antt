use Rattle.std.proofs.Common.{◌≡◌, length}
use Rattle.block_layout.proofs.NameListLemmas.{FirstNameLists}
use Rattle.block_layout.proofs.layouts.name_lists.Given as goal

abbrev pub invariant-loop-i : goal.invariant-loop-i
invariant-loop-i l = record { count : length l.name_lists.items ≡ l.i; first : FirstNameLists l.cells l.name_lists.items l.i }
