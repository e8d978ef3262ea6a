use Rattle.std.proofs.Common.{◌≡◌, take}
use Rattle.image_file.proofs.copies.entries_again.Given as goal

abbrev pub invariant-loop-entry : goal.invariant-loop-entry
invariant-loop-entry l = l.again.items ≡ take l.entry-index l.entries
