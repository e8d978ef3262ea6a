-- How a cycle of data types is found: from a block on, step by step, what is used by the blocks
-- that the step before has found. Each block is marked once.
use Rattle.std.specs.Prelude.{ℕ, nat_lt, Bool, true, false, ◌&&◌, not, if◌then◌else◌, List, [], ◌∷◌, ◌++◌, length, map, get_or, slice_set, Some}
use Rattle.stl_ast.specs.declared.blocks.Block.{Block}
use Rattle.block_layout.specs.Rule43.{uses_of}
use Rattle.block_layout.specs.Types.{Types}

-- of each block the data types that it uses, by their places in the source
abbrev pub uses_of_all : Types → List Block → List (List ℕ)
uses_of_all y blocks = map (λ b. uses_of y (Some b)) blocks

-- of each block whether it is marked, and the places of the marked blocks, the first found first
abbrev pub Marks : Type 0
Marks = List Bool × List ℕ

-- the place of a block that isn't marked yet; a place past the last block is never new
abbrev pub is_new : List Bool → ℕ → Bool
is_new reached block = nat_lt block (length reached) && not (get_or reached block false)

-- the marks with this block marked and found, if it wasn't marked
abbrev pub with_mark : Marks → ℕ → Marks
with_mark marks block =
    if is_new marks.0 block then (slice_set marks.0 block true, marks.1 ++ block ∷ []) else marks

-- the marks with these blocks marked and found, one after the other; a block that stands twice
-- among them is found once
abbrev pub with_marks : Marks → List ℕ → Marks
with_marks marks [] = marks
with_marks marks (block ∷ blocks) = with_marks (with_mark marks block) blocks

-- the marks with all blocks marked and found that some blocks use
abbrev pub with_uses_marked : (uses : List (List ℕ)) → Marks → (blocks : List ℕ) → Marks
with_uses_marked uses marks [] = marks
with_uses_marked uses marks (block ∷ blocks) =
    with_uses_marked uses (with_marks marks (get_or uses block [])) blocks
