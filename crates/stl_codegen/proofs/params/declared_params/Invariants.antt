use Rattle.std.proofs.Common.{[], drop}
use Rattle.std.specs.List.{flat_map}
use Rattle.stl_codegen.specs.GeneratedProgram.{param_here}
use Rattle.stl_codegen.proofs.AppendLemmas.{Between}
use Rattle.stl_codegen.proofs.params.declared_params.Given as goal

abbrev pub invariant-loop-cell : goal.invariant-loop-cell
invariant-loop-cell l =
    Between [] l.params.items (flat_map (λ c. param_here l.in_instance l.components c) (drop l.cell-index l.components))
    (flat_map (λ c. param_here l.in_instance l.components c) l.components)
