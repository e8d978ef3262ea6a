use Rattle.std.proofs.Common.{[], drop}
use Rattle.std.specs.List.{flat_map}
use Rattle.stl_codegen.specs.Bodies.{line_here}
use Rattle.stl_codegen.proofs.AppendLemmas.{Between}
use Rattle.stl_codegen.proofs.bodies.lines_of.Given as goal

abbrev pub invariant-loop-statement : goal.invariant-loop-statement
invariant-loop-statement l = Between [] l.lines.items (flat_map line_here (drop l.statement-index l.block.body)) (flat_map line_here l.block.body)
