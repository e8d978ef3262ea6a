-- Which blocks stand on chains: they are marked, round by round, in the places of the highest layer.
use Rattle.std.specs.Prelude.{ℕ, zero, suc, Bool, true, ◌&&◌, is_none, if◌then◌else◌, List, [], ◌∷◌, ◌++◌, Option, Some, None}
use Rattle.plc_base.specs.Kinds.{is_organization_block}
use Rattle.plc_base.specs.declared.blocks.BlockId.{BlockId}
use Rattle.flat_code.specs.Ops.{OpData}
use Rattle.flat_code.specs.Programs.{CodeBlock, Program}
use Rattle.image_file.specs.Readers.{block_by_id, is_same_id}
use Rattle.stack_bound.specs.Calls.{callee_of_op}
use Rattle.stack_bound.specs.Certificates.{bound_of}
use Rattle.stack_bound.specs.declared.certificates.Bound.{Bound}

-- a block is marked, where it stands first in the list
abbrev pub with_block_marked : List Bool → List Bound → BlockId → List Bool
with_block_marked [] list block = []
with_block_marked (m ∷ marks) [] block = m ∷ marks
with_block_marked (m ∷ marks) (b ∷ list) block =
    if is_same_id b.block block then true ∷ marks else m ∷ with_block_marked marks list block

-- the marks with the block that an op calls marked too, if it calls one
abbrev pub mark_callee : List Bool → List Bound → Option BlockId → List Bool
mark_callee marks list None = marks
mark_callee marks list (Some block) = with_block_marked marks list block

-- the marks with the blocks that ops call marked too
abbrev pub mark_ops : List Bool → List Bound → List OpData → List Bool
mark_ops marks list [] = marks
mark_ops marks list (op ∷ ops) = mark_ops (mark_callee marks list (callee_of_op op)) list ops

-- the marks with the blocks that a block calls marked too, if the block is loaded
abbrev pub mark_called : List Bool → List Bound → Option CodeBlock → List Bool
mark_called marks list None = marks
mark_called marks list (Some b) = mark_ops marks list b.code

-- the marks with the blocks that the block of a bound calls marked too
abbrev pub mark_called_by : Program → List Bool → List Bound → Bound → List Bool
mark_called_by p marks list b = mark_called marks list (block_by_id b.block p.code_blocks)

-- the marks with the blocks marked too that blocks with a mark before the round call
abbrev pub with_callees_marked :
    Program → List Bound → List Bool → (before : List Bool) → (left : List Bound) → List Bool
with_callees_marked p list marks [] left = marks
with_callees_marked p list marks (m ∷ before) [] = marks
with_callees_marked p list marks (m ∷ before) (b ∷ left) =
    with_callees_marked p list (if m then mark_called_by p marks list b else marks) before left

-- the marks of a list of bounds, in which the organization blocks alone are marked
abbrev pub ob_marks : List Bound → List Bool
ob_marks [] = []
ob_marks (b ∷ list) = is_organization_block b.block.kind ∷ ob_marks list

-- the marks of a round: organization blocks, and then what the marked blocks of the round before call
abbrev pub marks_of_round : ℕ → Program → List Bound → List Bool
marks_of_round zero p list = ob_marks list
marks_of_round (suc k) p list =
    with_callees_marked p list (ob_marks list) (marks_of_round k p list) list

-- the bounds that are marked, each block once: behind those that were seen
abbrev pub marked_bounds_behind : (seen : List Bound) → List Bool → List Bound → List Bound
marked_bounds_behind seen [] list = []
marked_bounds_behind seen (m ∷ marks) [] = []
marked_bounds_behind seen (m ∷ marks) (b ∷ list) =
    if m && is_none (bound_of b.block seen)
    then b ∷ marked_bounds_behind (seen ++ b ∷ []) marks list
    else marked_bounds_behind seen marks list
