use Rattle.std.proofs.Common.{◌≡◌, ◌≤◌, length, map, take}
use Rattle.flat_code.specs.Image.{param_of_record}
use Rattle.image_file.proofs.typing.params_of.Given as goal

abbrev pub invariant-loop-parameter : goal.invariant-loop-parameter
invariant-loop-parameter l = length l.parameters ≤ 60 → l.params.items ≡ map param_of_record (take l.parameter-index l.parameters)
