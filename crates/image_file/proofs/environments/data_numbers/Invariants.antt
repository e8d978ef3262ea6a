use Rattle.std.proofs.Common.{◌≡◌, map, take}
use Rattle.image_file.proofs.environments.data_numbers.Given as goal

abbrev pub invariant-loop-data : goal.invariant-loop-data
invariant-loop-data l = l.numbers.items ≡ map (λ d. d.0) (take l.data-index l.lens)
