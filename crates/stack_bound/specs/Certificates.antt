-- Certificates: for blocks, how deep calls go from each of them on, and how many local bytes that takes.
use Rattle.std.specs.Prelude.{◌≡◌, ℕ, ◌+◌, ◌≤◌, if◌then◌else◌, List, [], ◌∷◌, Option, Some, None, IsSome}
use Rattle.plc_base.specs.Profiles.{most_frames}
use Rattle.plc_base.specs.declared.Profile.{Profile}
use Rattle.plc_base.specs.declared.blocks.BlockId.{BlockId}
use Rattle.plc_base.specs.declared.blocks.BlockKind.TheVariants.{Ob}
use Rattle.flat_code.specs.Programs.{CodeBlock, Program}
use Rattle.image_file.specs.Readers.{block_by_id, is_same_id}
use Rattle.stack_bound.specs.Calls.{CallsIn}
use Rattle.stack_bound.specs.Chains.{most_local_bytes}
use Rattle.stack_bound.specs.declared.certificates.Bound.{Bound}

-- what a certificate says of a block
abbrev pub bound_of : BlockId → List Bound → Option Bound
bound_of block [] = None
bound_of block (b ∷ rest) = if is_same_id b.block block then Some b else bound_of block rest

-- no block stands in the list twice
abbrev pub HasEachBlockOnce : List Bound → Type 0
HasEachBlockOnce [] = Unit {0}
HasEachBlockOnce (b ∷ rest) = (bound_of b.block rest ≡ None) × HasEachBlockOnce rest

-- each block of the list is a code block of the program
abbrev pub HasLoadedBlocksOnly : Program → List Bound → Type 0
HasLoadedBlocksOnly p [] = Unit {0}
HasLoadedBlocksOnly p (b ∷ rest) =
    IsSome (block_by_id b.block p.code_blocks) × HasLoadedBlocksOnly p rest

-- a bound that is there, and within the limits of an activation
abbrev pub IsBoundWithinLimits : Profile → Option Bound → Type 0
IsBoundWithinLimits profile None = ⊥
IsBoundWithinLimits profile (Some b) =
    (b.depth ≤ most_frames profile) × (b.bytes ≤ most_local_bytes)

-- a bound counts its block, and the local bytes of it
abbrev pub CountsItself : (local_len : ℕ) → Option Bound → Type 0
CountsItself local_len None = Unit {0}
CountsItself local_len (Some b) = (1 ≤ b.depth) × (local_len ≤ b.bytes)

-- the bound of a caller counts one block more than that of the called block, and its own local
-- bytes besides; a called block stands in the list where its caller does
abbrev pub CountsCalled : (local_len : ℕ) → (caller called : Option Bound) → Type 0
CountsCalled local_len None called = Unit {0}
CountsCalled local_len (Some b) None = ⊥
CountsCalled local_len (Some b) (Some d) =
    (d.depth + 1 ≤ b.depth) × (local_len + d.bytes ≤ b.bytes)

-- A CERTIFICATE HOLDS of a program: each block stands in it once and is loaded; it has every loaded
-- organization block, within the limits, and with a block each loaded block that its code calls; depth
-- and bytes count the block itself and what it calls
pub record IsCertificateOf (profile : Profile) (p : Program) (c : List Bound) : Type 0 where
  -- no block stands in the list twice
  pub once : HasEachBlockOnce c
  -- each block of the list is loaded
  pub loaded : HasLoadedBlocksOnly p c
  -- each loaded organization block stands in the list, with a bound within the limits of an
  -- activation: 16 or 24 frames by the profile, and 1,024 local bytes
  pub obs : (b : CodeBlock) → block_by_id b.id p.code_blocks ≡ Some b → b.id.kind ≡ Ob
      → IsBoundWithinLimits profile (bound_of b.id c)
  -- the bound of a block counts the block itself and its local bytes
  pub own : (block : BlockId) (b : CodeBlock) → block_by_id block p.code_blocks ≡ Some b
      → CountsItself b.local_len (bound_of block c)
  -- the bound of a block counts each loaded block that its code calls, which stands in the list too
  pub calls : (block called : BlockId) (b d : CodeBlock)
      → block_by_id block p.code_blocks ≡ Some b → block_by_id called p.code_blocks ≡ Some d
      → CallsIn b.code called → CountsCalled b.local_len (bound_of block c) (bound_of called c)
