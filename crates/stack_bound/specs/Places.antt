-- The calls of a program by places: each block has a place among bounds, and calls blocks by their places.
-- Layers and marks come to the same by places as by blocks, and need no search for a block.
use Rattle.std.specs.Prelude.{ℕ, zero, suc, ◌+◌, max, Bool, true, if◌then◌else◌, List, [], ◌∷◌, map, slice_get, slice_set, Option, Some, None}
use Rattle.std.specs.Option.{option_map}
use Rattle.plc_base.specs.declared.blocks.BlockId.{BlockId}
use Rattle.flat_code.specs.Ops.{OpData}
use Rattle.flat_code.specs.Programs.{CodeBlock, Program}
use Rattle.image_file.specs.Readers.{block_by_id, is_same_id}
use Rattle.stack_bound.specs.Calls.{callee_of_op}
use Rattle.stack_bound.specs.Layers.{measure_if_bound, with_bound}
use Rattle.stack_bound.specs.Marks.{ob_marks}
use Rattle.stack_bound.specs.declared.certificates.Bound.{Bound}
use Rattle.stack_bound.specs.declared.measures.Measure.{Measure}
use Rattle.stack_bound.specs.declared.measures.Measure.TheVariants.{Depth, Bytes}

-- ---- places

-- the place where a block stands first among bounds
abbrev pub place_of_bound : BlockId → List Bound → Option ℕ
place_of_bound block [] = None
place_of_bound block (b ∷ rest) =
    if is_same_id b.block block then Some 0 else option_map suc (place_of_bound block rest)

-- the place where a block that an op may call stands first among bounds
abbrev pub place_of_callee : List Bound → Option BlockId → Option ℕ
place_of_callee list None = None
place_of_callee list (Some block) = place_of_bound block list

-- a place that may be there, in front of others
abbrev pub with_place : Option ℕ → List ℕ → List ℕ
with_place None rest = rest
with_place (Some place) rest = place ∷ rest

-- the places of the blocks that ops call
abbrev pub places_called : List Bound → List OpData → List ℕ
places_called list [] = []
places_called list (op ∷ ops) =
    with_place (place_of_callee list (callee_of_op op)) (places_called list ops)

-- a block, with its local bytes and the places of the blocks that it calls
pub record CallerData : Type 0 where
  -- kind and number of the block
  pub block : BlockId
  -- how many local bytes the block has
  pub local_len : ℕ
  -- the places among the bounds, counted from 0, of the blocks that the block calls, in the order of
  -- its code; a block that it calls twice stands there twice
  pub called : List ℕ

-- a code block among those of a list
abbrev pub caller_of : List Bound → BlockId → CodeBlock → CallerData
caller_of list id b =
    record { block = id; local_len = b.local_len; called = places_called list b.code }

-- a block of a program, if it is a code block
abbrev pub caller_in : Program → List Bound → BlockId → Option CallerData
caller_in p list id = option_map (caller_of list id) (block_by_id id p.code_blocks)

-- a caller that may be there, in front of others
abbrev pub with_caller : Option CallerData → List CallerData → List CallerData
with_caller None rest = rest
with_caller (Some c) rest = c ∷ rest

-- the callers among blocks
abbrev pub callers_of : Program → List Bound → List BlockId → List CallerData
callers_of p list [] = []
callers_of p list (id ∷ ids) = with_caller (caller_in p list id) (callers_of p list ids)

-- ---- layers

-- the measure that a layer has at a place, from its depth or its bytes; 0 where no bound stands there
abbrev pub measure_at_place : Measure → List Bound → (place : ℕ) → ℕ
measure_at_place m layer place = measure_if_bound m (slice_get layer place)

-- the most that a layer says in some places
abbrev pub most_at : Measure → List Bound → List ℕ → ℕ
most_at m layer [] = 0
most_at m layer (place ∷ places) = max (measure_at_place m layer place) (most_at m layer places)

-- the bound of a caller above a layer
abbrev pub bound_by : List Bound → CallerData → Bound
bound_by layer c = record {
  block = c.block;
  depth = 1 + most_at Depth layer c.called;
  bytes = c.local_len + most_at Bytes layer c.called;
}

-- the layer that stands so many layers above the layer `first`
abbrev pub layers_by : List CallerData → (first : List Bound) → ℕ → List Bound
layers_by callers first zero = first
layers_by callers first (suc k) = map (bound_by (layers_by callers first k)) callers

-- the bound of a block that calls none
abbrev pub bound_alone : BlockId → CodeBlock → Bound
bound_alone block b = record { block = block; depth = 1; bytes = b.local_len }

-- the bound of a block of a program as of one that calls none; None where it is no code block
abbrev pub bound_alone_in : Program → BlockId → Option Bound
bound_alone_in p id = option_map (bound_alone id) (block_by_id id p.code_blocks)

-- the bounds of some blocks of a program as of blocks that call none; those that are no code blocks
-- have none
abbrev pub bounds_alone : Program → List BlockId → List Bound
bounds_alone p [] = []
bounds_alone p (id ∷ ids) = with_bound (bound_alone_in p id) (bounds_alone p ids)

-- ---- marks

-- the marks with those of some places set
abbrev pub mark_places : List Bool → List ℕ → List Bool
mark_places marks [] = marks
mark_places marks (place ∷ places) = mark_places (slice_set marks place true) places

-- the marks with those of the blocks that a caller calls set, if the caller had a mark
abbrev pub mark_if : Bool → List Bool → CallerData → List Bool
mark_if m marks c = if m then mark_places marks c.called else marks

-- the marks with those of the blocks set that callers with a mark before this round call
abbrev pub mark_callers : List Bool → (before : List Bool) → List CallerData → List Bool
mark_callers marks [] callers = marks
mark_callers marks (m ∷ before) [] = marks
mark_callers marks (m ∷ before) (c ∷ callers) = mark_callers (mark_if m marks c) before callers

-- the marks after so many rounds, by the places of the callers
abbrev pub marks_by : List CallerData → List Bound → ℕ → List Bool
marks_by callers list zero = ob_marks list
marks_by callers list (suc k) = mark_callers (ob_marks list) (marks_by callers list k) callers
