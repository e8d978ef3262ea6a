use Rattle.std.proofs.Common.{◌≡◌, ◌+◌, drop}
use Rattle.std.specs.List.{sum_by}
use Rattle.flat_code.specs.Checking.{name_size}
use Rattle.flat_code.proofs.image_size.room_behind_names.Given as goal

abbrev pub invariant-loop-entry : goal.invariant-loop-entry
invariant-loop-entry l = l.room + sum_by name_size l.entries ≡ l.fn.room + sum_by name_size (drop l.entry-index l.entries)
