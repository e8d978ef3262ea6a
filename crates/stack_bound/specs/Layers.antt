-- How the least bounds are found: layer by layer, each from the one below it. The bounds of a layer count
-- chains of so many blocks at most.
use Rattle.std.specs.Prelude.{ℕ, zero, suc, ◌+◌, ◌≤◌, max, List, [], ◌∷◌, Option, Some, None}
use Rattle.std.specs.List.{AllByRecursion}
use Rattle.std.specs.Option.{option_map}
use Rattle.plc_base.specs.Profiles.{most_frames}
use Rattle.plc_base.specs.declared.Profile.{Profile}
use Rattle.plc_base.specs.declared.blocks.BlockId.{BlockId}
use Rattle.flat_code.specs.Ops.{OpData}
use Rattle.flat_code.specs.Programs.{CodeBlock, Program}
use Rattle.image_file.specs.Readers.{block_by_id, block_ids}
use Rattle.stack_bound.specs.Calls.{callee_of_op}
use Rattle.stack_bound.specs.Certificates.{bound_of}
use Rattle.stack_bound.specs.Chains.{most_local_bytes}
use Rattle.stack_bound.specs.declared.certificates.Bound.{Bound}
use Rattle.stack_bound.specs.declared.measures.Measure.{Measure}
use Rattle.stack_bound.specs.declared.measures.Measure.TheVariants.{Depth, Bytes}

-- what a block adds to a chain in a measure: 1 block, or its local bytes
abbrev pub measure_of_block : Measure → CodeBlock → ℕ
measure_of_block Depth b = 1
measure_of_block Bytes b = b.local_len

-- what an activation has at most in a measure: frames of the profile, or local bytes
abbrev pub limit_of_measure : Profile → Measure → ℕ
limit_of_measure profile Depth = most_frames profile
limit_of_measure profile Bytes = most_local_bytes

-- what a bound says in a measure: its depth, or its bytes
abbrev pub measure_of_bound : Measure → Bound → ℕ
measure_of_bound Depth b = b.depth
measure_of_bound Bytes b = b.bytes

-- what a bound says in a measure; 0 where there is no bound
abbrev pub measure_if_bound : Measure → Option Bound → ℕ
measure_if_bound m None = 0
measure_if_bound m (Some b) = measure_of_bound m b

-- what a layer says of a block that may be called
abbrev pub measure_in_layer : Measure → List Bound → Option BlockId → ℕ
measure_in_layer m layer None = 0
measure_in_layer m layer (Some block) = measure_if_bound m (bound_of block layer)

-- the most that a layer says of a block that some ops call
abbrev pub most_called : Measure → List Bound → List OpData → ℕ
most_called m layer [] = 0
most_called m layer (op ∷ ops) =
    max (measure_in_layer m layer (callee_of_op op)) (most_called m layer ops)

-- a block by itself, and above the called block of which a layer says most
abbrev pub bound_above : List Bound → BlockId → CodeBlock → Bound
bound_above layer block b = record {
  block = block;
  depth = measure_of_block Depth b + most_called Depth layer b.code;
  bytes = measure_of_block Bytes b + most_called Bytes layer b.code;
}

-- the bound, above a layer, of a block of a program; None where it is no code block
abbrev pub bound_above_in : Program → List Bound → BlockId → Option Bound
bound_above_in p layer id = option_map (bound_above layer id) (block_by_id id p.code_blocks)

-- a bound that may be there, in front of others
abbrev pub with_bound : Option Bound → List Bound → List Bound
with_bound None rest = rest
with_bound (Some b) rest = b ∷ rest

-- the bounds, above a layer, of some blocks of a program; those that are no code blocks have none
abbrev pub bounds_above : Program → List Bound → List BlockId → List Bound
bounds_above p layer [] = []
bounds_above p layer (id ∷ ids) =
    with_bound (bound_above_in p layer id) (bounds_above p layer ids)

-- the layer of a program above another one
abbrev pub layer_above : Program → List Bound → List Bound
layer_above p layer = bounds_above p layer (block_ids p)

-- the layer of a height: the one of height 0 is empty, each other is above the next lower one
abbrev pub layer_of_height : ℕ → Program → List Bound
layer_of_height zero p = []
layer_of_height (suc k) p = layer_above p (layer_of_height k p)

-- neither number of a bound is above the given one
abbrev pub IsBoundAtMost : ℕ → Bound → Type 0
IsBoundAtMost n b = (b.depth ≤ n) × (b.bytes ≤ n)

-- no number of a bound of a layer is above the given one
abbrev pub AreBoundsAtMost : ℕ → List Bound → Type 0
AreBoundsAtMost n layer = AllByRecursion (IsBoundAtMost n) layer
