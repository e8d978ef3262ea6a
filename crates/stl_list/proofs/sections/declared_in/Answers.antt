use Rattle.std.proofs.Common.{[], subst, sym}
use Rattle.stl_ast.specs.Outline.{IsOutline}
use Rattle.stl_codegen.proofs.AppendLemmas.{between_end, flat_end}
use Rattle.stl_list.specs.Sections.{declared_here}
use Rattle.stl_list.proofs.DeclaredLemmas.{declared_outline}
use Rattle.stl_list.proofs.sections.declared_in.Goals as goal

pub from_vec-requires : goal.from_vec-requires
from_vec-requires c =
    subst (IsOutline 0)
    (sym (between_end [] c.loop-formal.items.items _ _ c.loop-formal.invariant
    (flat_end (declared_here c.args.line c.args.kind) c.args.formals.now c.loop-formal.formal-index c.loop-formal-test.false)))
    (declared_outline c.args.line c.args.formals.now c.args.kind)
