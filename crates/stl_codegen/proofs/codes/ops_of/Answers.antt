use Rattle.std.proofs.Common.{[], ◌∷◌}
use Rattle.std.specs.List.{flat_map}
use Rattle.flat_code.specs.declared.operations.EndOperation.TheVariants as ends
use Rattle.stl_codegen.specs.Bodies.{ops_here}
use Rattle.stl_codegen.specs.EmittedOps.{end_op}
use Rattle.stl_codegen.proofs.AppendLemmas.{appended_none, back_has_none}
use Rattle.stl_codegen.proofs.codes.ops_of.Goals as goal

pub returns-in_default-2-clause-none : goal.returns-in_default-2-clause-none
returns-in_default-2-clause-none c =
    back_has_none (flat_map (λ s. ops_here c.args.context.now c.args.block.now.body s) c.args.block.now.body) (end_op ends.Be ∷ [])
    (appended_none c.append_to.new.ops.items c.append_end.new.ops.items (end_op ends.Be ∷ []) c.in_ok-append_end.field-0 c.in_default-2.is c.in_ok-append_end.ensures)
