use Rattle.std.proofs.Common.{◌≡◌, map, take}
use Rattle.flat_code.specs.Image.{param_of_record}
use Rattle.flat_code.proofs.system_functions.params_of.Given as goal

abbrev pub invariant-loop-record : goal.invariant-loop-record
invariant-loop-record l = l.params.items ≡ map param_of_record (take l.record-index l.records)
