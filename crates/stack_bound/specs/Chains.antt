-- Chains of calls, and which of them no stack holds.
use Rattle.std.specs.Prelude.{◌≡◌, ◌⊎◌, ℕ, ◌+◌, ◌<◌, List, [], ◌∷◌, length, Option, Some, None, IsSome}
use Rattle.plc_base.specs.Profiles.{most_frames}
use Rattle.plc_base.specs.declared.Profile.{Profile}
use Rattle.plc_base.specs.declared.blocks.BlockId.{BlockId}
use Rattle.plc_base.specs.declared.blocks.BlockKind.TheVariants.{Ob}
use Rattle.flat_code.specs.Programs.{CodeBlock, Program}
use Rattle.image_file.specs.Readers.{block_by_id}
use Rattle.stack_bound.specs.Calls.{CallsBlock}

-- the local bytes that an activation has at most
abbrev pub most_local_bytes : ℕ
most_local_bytes = 1024

-- each block calls the one behind it
abbrev pub CallEachOther : Program → BlockId → List BlockId → Type 0
CallEachOther p caller [] = Unit {0}
CallEachOther p caller (called ∷ rest) = CallsBlock p caller called × CallEachOther p called rest

-- a chain begins with a loaded organization block, and each block calls the next
abbrev pub IsCallChain : Program → List BlockId → Type 0
IsCallChain p [] = ⊥
IsCallChain p (ob ∷ rest) =
    (ob.kind ≡ Ob) × IsSome (block_by_id ob p.code_blocks) × CallEachOther p ob rest

-- the local bytes of a block; none of one that isn't loaded
abbrev pub local_bytes : Option CodeBlock → ℕ
local_bytes None = 0
local_bytes (Some b) = b.local_len

-- the local bytes of blocks together
abbrev pub bytes_of_chain : Program → List BlockId → ℕ
bytes_of_chain p [] = 0
bytes_of_chain p (block ∷ rest) =
    local_bytes (block_by_id block p.code_blocks) + bytes_of_chain p rest

-- a chain is too deep where it has more blocks than the profile has frames, or more local bytes than an
-- activation has
abbrev pub IsTooDeep : Profile → Program → List BlockId → Type 0
IsTooDeep profile p chain =
    (most_frames profile < length chain) ⊎ (most_local_bytes < bytes_of_chain p chain)
