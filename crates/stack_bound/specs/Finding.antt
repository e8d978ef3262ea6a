-- What is found of a program: the least certificate, or a chain that is too deep.
use Rattle.std.specs.Prelude.{◌≡◌, ◌⊎◌, ℕ, ◌<◌, ◌≤◌, List, [], ◌∷◌, length, map, take, Option, Some, None}
use Rattle.std.specs.List.{AllByRecursion}
use Rattle.plc_base.specs.declared.Profile.{Profile}
use Rattle.plc_base.specs.declared.blocks.BlockId.{BlockId}
use Rattle.flat_code.specs.Programs.{Program}
use Rattle.image_file.specs.Readers.{block_ids}
use Rattle.stack_bound.specs.Certificates.{bound_of, IsCertificateOf}
use Rattle.stack_bound.specs.Chains.{IsCallChain, IsTooDeep}
use Rattle.stack_bound.specs.declared.certificates.Bound.{Bound}
use Rattle.stack_bound.specs.declared.finding.Found.{Found}
use Rattle.stack_bound.specs.declared.finding.Found.TheVariants.{Fits, Deep}

-- the last of some blocks
abbrev pub last_block_of : BlockId → List BlockId → BlockId
last_block_of block [] = block
last_block_of block (next ∷ rest) = last_block_of next rest

-- a chain ends with the block
pub record IsOnChain (p : Program) (block : BlockId) : Type 0 where
  -- the organization block with which the chain begins
  pub ob : BlockId
  -- the blocks of the chain behind the organization block, in the order of the calls
  pub rest : List BlockId
  -- the organization block is loaded, and each block calls the next
  pub is_chain : IsCallChain p (ob ∷ rest)
  -- the last block of the chain is the block itself
  pub ends : last_block_of ob rest ≡ block

-- blocks among others and in their order
abbrev pub AreAmong : List BlockId → List BlockId → Type 0
AreAmong [] all = Unit {0}
AreAmong (a ∷ rest) [] = ⊥
AreAmong (a ∷ rest) (b ∷ all) = ((a ≡ b) × AreAmong rest all) ⊎ AreAmong (a ∷ rest) all

-- a bound says at most what another one says, which is there
abbrev pub IsAtMost : Bound → Option Bound → Type 0
IsAtMost b None = ⊥
IsAtMost b (Some d) = (b.depth ≤ d.depth) × (b.bytes ≤ d.bytes)

-- THE LEAST CERTIFICATE: no chain is too deep; it holds, has only blocks that stand on chains, in the order
-- of the image, and says of each at most what any certificate says that holds
pub record IsLeastCertificate (profile : Profile) (p : Program) (c : List Bound) : Type 0 where
  -- no chain of calls of the program is too deep
  pub fits : (chain : List BlockId) → IsCallChain p chain → IsTooDeep profile p chain → ⊥
  -- the list is a certificate that holds of the program
  pub holds : IsCertificateOf profile p c
  -- each block of the list stands on a chain of calls
  pub on_chains : AllByRecursion (λ (b : Bound). IsOnChain p b.block) c
  -- the blocks of the list stand in the order of the image
  pub order : AreAmong (map (λ (b : Bound). b.block) c) (block_ids p)
  -- each bound says at most what any certificate that holds says of its block
  pub least : (d : List Bound) → IsCertificateOf profile p d
      → AllByRecursion (λ (b : Bound). IsAtMost b (bound_of b.block d)) c

-- A CHAIN THAT IS TOO DEEP, and no shorter front of it is
pub record IsDeepChain (profile : Profile) (p : Program) (chain : List BlockId) : Type 0 where
  -- the list is a chain of calls of the program
  pub is_chain : IsCallChain p chain
  -- the chain is too deep: it has more blocks than an activation has frames, or more than 1,024 local
  -- bytes
  pub deep : IsTooDeep profile p chain
  -- no shorter front of the chain is too deep
  pub front : (n : ℕ) → n < length chain → IsTooDeep profile p (take n chain) → ⊥

-- what is found of a program is right: its least certificate, or a chain that is too deep
abbrev pub IsFindingFor : Profile → Program → Found → Type 0
IsFindingFor profile p (Fits list) = IsLeastCertificate profile p list.items
IsFindingFor profile p (Deep chain) = IsDeepChain profile p chain.items
