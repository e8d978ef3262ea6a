use Rattle.std.proofs.Common.{◌≡◌, ◌++◌, map, drop}
use Rattle.flat_code.specs.Image.{parameter_layout, same_state, record_of_param}
use Rattle.flat_code.specs.Layout.{spell_many}
use Rattle.image_file.proofs.writing.put_parameters.Given as goal

abbrev pub invariant-loop-param : goal.invariant-loop-param
invariant-loop-param l = l.out.items ++ spell_many (λ s. parameter_layout 0 0) same_state 0 (map record_of_param (drop l.param-index l.params)) ≡ l.fn.out.items ++ spell_many (λ s. parameter_layout 0 0) same_state 0 (map record_of_param l.params)
