-- Whether a list of bounds is a certificate, checked entry by entry, and in each block op by op.
use Rattle.std.specs.Prelude.{ℕ, ◌+◌, Bool, true, false, ◌&&◌, ◌||◌, not, nat_le, is_none, List, [], ◌∷◌, Option, Some, None}
use Rattle.plc_base.specs.Kinds.{is_organization_block}
use Rattle.plc_base.specs.Profiles.{most_frames}
use Rattle.plc_base.specs.declared.Profile.{Profile}
use Rattle.plc_base.specs.declared.blocks.BlockId.{BlockId}
use Rattle.flat_code.specs.Ops.{OpData}
use Rattle.flat_code.specs.Programs.{CodeBlock, Program}
use Rattle.image_file.specs.Readers.{block_by_id, block_ids}
use Rattle.stack_bound.specs.Calls.{callee_of_op}
use Rattle.stack_bound.specs.Certificates.{bound_of}
use Rattle.stack_bound.specs.Chains.{most_local_bytes}
use Rattle.stack_bound.specs.declared.certificates.Bound.{Bound}

-- no block stands in the list twice
abbrev pub has_each_block_once : List Bound → Bool
has_each_block_once [] = true
has_each_block_once (b ∷ rest) = is_none (bound_of b.block rest) && has_each_block_once rest

-- a bound counts a called block's, which stands in the list, and its own local bytes
abbrev pub counts_called : (local_len : ℕ) → Bound → Option Bound → Bool
counts_called local_len b None = false
counts_called local_len b (Some d) =
    nat_le (d.depth + 1) b.depth && nat_le (local_len + d.bytes) b.bytes

-- the bound of a block counts what an op calls, if anything; a block that isn't loaded isn't
-- counted
abbrev pub counts_callee : Program → List Bound → (local_len : ℕ) → Bound → Option BlockId → Bool
counts_callee p c local_len b None = true
counts_callee p c local_len b (Some called) =
    is_none (block_by_id called p.code_blocks) || counts_called local_len b (bound_of called c)

-- the bound of a block counts what each of these ops calls
abbrev pub counts_ops : Program → List Bound → (local_len : ℕ) → Bound → List OpData → Bool
counts_ops p c local_len b [] = true
counts_ops p c local_len b (op ∷ ops) =
    counts_callee p c local_len b (callee_of_op op) && counts_ops p c local_len b ops

-- the bound of a loaded block counts the block itself and what it calls
abbrev pub counts_block : Program → List Bound → Bound → Option CodeBlock → Bool
counts_block p c b None = false
counts_block p c b (Some block) =
    nat_le 1 b.depth && nat_le block.local_len b.bytes
    && counts_ops p c block.local_len b block.code

-- a bound of the list `c` counts its own block, which is loaded, and what this calls
abbrev pub counts_its_block : Program → List Bound → Bound → Bool
counts_its_block p c b = counts_block p c b (block_by_id b.block p.code_blocks)

-- each of some bounds of the list `c` counts its own block, which is loaded, and what this calls
abbrev pub each_counts : Program → List Bound → List Bound → Bool
each_counts p c [] = true
each_counts p c (b ∷ rest) =
    counts_its_block p c b && each_counts p c rest

-- a bound that is there, and within the limits of an activation
abbrev pub is_bound_within_limits : Profile → Option Bound → Bool
is_bound_within_limits profile None = false
is_bound_within_limits profile (Some b) =
    nat_le b.depth (most_frames profile) && nat_le b.bytes most_local_bytes

-- the organization blocks among blocks have bounds that are there, and within the limits of an
-- activation
abbrev pub obs_within : Profile → List Bound → List BlockId → Bool
obs_within profile c [] = true
obs_within profile c (id ∷ ids) =
    (not (is_organization_block id.kind) || is_bound_within_limits profile (bound_of id c))
    && obs_within profile c ids

-- the list is a certificate that holds
abbrev pub is_certificate : Profile → Program → List Bound → Bool
is_certificate profile p c =
    has_each_block_once c && each_counts p c c && obs_within profile c (block_ids p)
