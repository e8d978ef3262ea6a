-- How a chain is found that is too deep: from an organization block of which the highest layer says more
-- than an activation has, always on to a called block of which it says most.
use Rattle.std.specs.Prelude.{◌≡◌, ℕ, ◌+◌, ◌<◌, ◌≤◌, nat_lt, Bool, ◌||◌, if◌then◌else◌, List, [], ◌∷◌, ◌++◌, length, Option, Some, None, IsSome}
use Rattle.plc_base.specs.Kinds.{is_organization_block}
use Rattle.plc_base.specs.Profiles.{most_frames}
use Rattle.plc_base.specs.declared.Profile.{Profile}
use Rattle.plc_base.specs.declared.blocks.BlockId.{BlockId}
use Rattle.plc_base.specs.declared.blocks.BlockKind.TheVariants.{Ob}
use Rattle.flat_code.specs.Ops.{OpData}
use Rattle.flat_code.specs.Programs.{Program}
use Rattle.image_file.specs.Readers.{block_by_id}
use Rattle.stack_bound.specs.Calls.{CallsIn, callee_of_op}
use Rattle.stack_bound.specs.Certificates.{bound_of}
use Rattle.stack_bound.specs.Chains.{IsCallChain, bytes_of_chain, most_local_bytes}
use Rattle.stack_bound.specs.Layers.{limit_of_measure, most_called, measure_in_layer}
use Rattle.stack_bound.specs.declared.certificates.Bound.{Bound}
use Rattle.stack_bound.specs.declared.deepest.Best.{Best}
use Rattle.stack_bound.specs.declared.deepest.Over.{Over}
use Rattle.stack_bound.specs.declared.measures.Measure.{Measure}
use Rattle.stack_bound.specs.declared.measures.Measure.TheVariants.{Depth, Bytes}

-- ---- the called block of which a layer says most

-- the block that an op calls, where a layer says more of it than of the best so far; else the best
-- so far
abbrev pub better_callee : Measure → List Bound → Best → OpData → Best
better_callee m layer best op =
    if nat_lt best.most (measure_in_layer m layer (callee_of_op op))
    then record { block = callee_of_op op; most = measure_in_layer m layer (callee_of_op op) }
    else best

-- the called block of some ops of which a layer says most, or the best from before
abbrev pub best_callee_from : Measure → List Bound → Best → List OpData → Best
best_callee_from m layer best [] = best
best_callee_from m layer best (op ∷ ops) =
    best_callee_from m layer (better_callee m layer best op) ops

-- a called block of which a layer says most; none where it says nothing of any
abbrev pub IsMostCalled : Measure → List Bound → List OpData → Option BlockId → Type 0
IsMostCalled m layer ops None = most_called m layer ops ≡ 0
IsMostCalled m layer ops (Some called) =
    CallsIn ops called × (measure_in_layer m layer (Some called) ≡ most_called m layer ops)
    × (0 < most_called m layer ops)

-- ---- organization blocks

-- in which measure a bound is above the limits
abbrev pub measure_over : Profile → Option Bound → Option Measure
measure_over profile None = None
measure_over profile (Some b) =
    if nat_lt (limit_of_measure profile Depth) b.depth then Some Depth
    else if nat_lt (limit_of_measure profile Bytes) b.bytes then Some Bytes
    else None

-- in which measure a block's bound is above the limits, where the block is an organization block
abbrev pub ob_over : Profile → List Bound → BlockId → Option Measure
ob_over profile layer id =
    if is_organization_block id.kind then measure_over profile (bound_of id layer) else None

-- a block, if it is above the limits in a measure, else what was found of others
abbrev pub over_or : BlockId → Option Measure → Option Over → Option Over
over_or id None more = more
over_or id (Some m) more = Some (record { block = id; measure = m })

-- the first organization block among blocks that is above the limits
abbrev pub first_over : Profile → List Bound → List BlockId → Option Over
first_over profile layer [] = None
first_over profile layer (id ∷ ids) =
    over_or id (ob_over profile layer id) (first_over profile layer ids)

-- the block is a loaded organization block, whose bound is above the limit in the measure
pub record IsLoadedObOver
    (profile : Profile) (p : Program) (layer : List Bound) (over : Over)
    : Type 0 where
  -- the block is an organization block
  pub organization : over.block.kind ≡ Ob
  -- the block is loaded
  pub loaded : IsSome (block_by_id over.block p.code_blocks)
  -- in the measure the layer says more of the block than an activation has: its frames, or its local
  -- bytes
  pub is_over :
      limit_of_measure profile over.measure
      < measure_in_layer over.measure layer (Some over.block)

-- ---- the chain

-- a chain of so many blocks and local bytes is too deep
abbrev pub is_chain_too_deep : Profile → (blocks bytes : ℕ) → Bool
is_chain_too_deep profile blocks bytes =
    nat_lt (most_frames profile) blocks || nat_lt most_local_bytes bytes

-- what a chain has in a measure: blocks, or local bytes
abbrev pub measure_of_chain : Measure → Program → List BlockId → ℕ
measure_of_chain Depth p chain = length chain
measure_of_chain Bytes p chain = bytes_of_chain p chain

-- blocks before a loaded block make a chain with it, and have room; but with what the layer says of the block
-- they would have more than an activation has
pub record LeadsOver
    (profile : Profile) (p : Program) (m : Measure) (layer : List Bound) (chain : List BlockId)
    (block : BlockId) (bytes : ℕ)
    : Type 0 where
  -- the blocks before and the block behind them are a chain of calls
  pub is_chain : IsCallChain p (chain ++ block ∷ [])
  -- the block behind the others is loaded
  pub loaded : IsSome (block_by_id block p.code_blocks)
  -- `bytes` are the local bytes of the blocks before, together
  pub total_is : bytes ≡ bytes_of_chain p chain
  -- the blocks before are at most as many as an activation has frames
  pub few : length chain ≤ most_frames profile
  -- the blocks before have at most 1,024 local bytes together
  pub within : bytes ≤ most_local_bytes
  -- what the blocks before have in the measure, and what the layer says of the block, are together
  -- more than an activation has
  pub over :
      limit_of_measure profile m
      < measure_of_chain m p chain + measure_in_layer m layer (Some block)
