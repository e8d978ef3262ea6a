use Rattle.std.proofs.Common.{drop}
use Rattle.std.specs.List.{flat_map}
use Rattle.stl_codegen.specs.Bodies.{ops_here}
use Rattle.stl_codegen.proofs.AppendLemmas.{Between}
use Rattle.stl_codegen.proofs.bodies.Body.append_to.Given as goal

abbrev pub invariant-loop-statement : goal.invariant-loop-statement
invariant-loop-statement l =
    Between l.fn.ops.items l.ops.items (flat_map (λ s. ops_here l.context l.self s) (drop l.statement-index l.self))
    (flat_map (λ s. ops_here l.context l.self s) l.self)
