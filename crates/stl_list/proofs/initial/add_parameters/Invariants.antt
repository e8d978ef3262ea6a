use Rattle.std.proofs.Common.{drop}
use Rattle.stl_codegen.proofs.AppendLemmas.{Between}
use Rattle.stl_list.specs.Initial.{parameter_settings}
use Rattle.stl_list.proofs.initial.add_parameters.Given as goal

abbrev pub invariant-loop-place : goal.invariant-loop-place
invariant-loop-place l =
    Between l.fn.settings.items l.settings.items
    (parameter_settings l.line l.bytes (drop l.place l.formals) (drop l.place l.params))
    (parameter_settings l.line l.bytes l.formals l.params)
