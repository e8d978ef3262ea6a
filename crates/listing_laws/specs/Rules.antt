-- The declarations and the heads of listed blocks break no rule.
use Rattle.std.specs.Prelude.{◌≡◌, ℕ, false, List, []}
use Rattle.std.specs.List.{AllByRecursion}
use Rattle.stl_ast.specs.Literals.{AreBytes}
use Rattle.stl_ast.specs.declared.blocks.Block.{Block}
use Rattle.stl_ast.specs.declared.blocks.Tree.{Tree}
use Rattle.stl_symbols.specs.Symbol.{Symbol}
use Rattle.block_layout.specs.Around.{refusals_in_block}
use Rattle.block_layout.specs.Rule21.{refusals_21}
use Rattle.block_layout.specs.Rule23.{refusals_23}
use Rattle.block_layout.specs.Rule41.{refusals_41}
use Rattle.block_layout.specs.Rule42.{refusals_42}
use Rattle.block_layout.specs.Rule43.{contains_itself}
use Rattle.block_layout.specs.Rule44.{has_wrong_number}
use Rattle.block_layout.specs.Rule50.{has_too_much_local}
use Rattle.block_layout.specs.Rule51.{is_too_long}
use Rattle.block_layout.specs.Rule56.{refusals_56}
use Rattle.block_layout.specs.Types.{Types}
use Rattle.stl_list.specs.CodeBlocks.{listed_block}
use Rattle.stl_list.specs.DataBlocks.{listed_data}
use Rattle.sem_kept.specs.AcceptedSource.{IsAccepted, program_in}
use Rattle.listing_laws.specs.ListedDeclarations.{signatures_in}

-- the declarations of a block break none of the rules of declarations, whatever types stand beside
-- it
pub record AreDeclarationsRight (y : Types) (b : Block) : Type 0 where
  -- no name is declared twice in a list
  pub by_21 : refusals_in_block refusals_21 b ≡ []
  -- no declaration has an unknown data type
  pub by_23 : refusals_in_block (refusals_23 y) b ≡ []
  -- initial values fit the types of their declarations
  pub by_41 : refusals_in_block refusals_41 b ≡ []
  -- no array has its upper bound below its lower one
  pub by_42 : refusals_in_block refusals_42 b ≡ []
  -- no types are nested more than 8 deep
  pub by_56 : refusals_in_block (refusals_56 y) b ≡ []

-- a block is no data type that contains itself, has a number that its kind may have, and no more
-- than 1,024 bytes of local data, whatever blocks and symbols stand beside it
pub record IsHeadRight (y : Types) (b : Block) : Type 0 where
  -- the block is no data type that contains itself
  pub by_43 : (blocks before : List Block) → contains_itself y blocks before b ≡ false
  -- the number of the block is one that its kind may have
  pub by_44 : (symbols : List Symbol) → has_wrong_number symbols b ≡ false
  -- the block has at most 1,024 bytes of local data
  pub by_50 : has_too_much_local y b ≡ false

-- the heads of the listed blocks of an accepted source's program break no rule, on whichever lines
-- the blocks stand
abbrev pub AreListedHeadsRight : Type 0
AreListedHeadsRight =
    (source file : List ℕ) (symbols : List Symbol) (t : Tree)
    → IsAccepted source file symbols t → AreBytes source → AreBytes file
    → (y : Types) (line : ℕ)
    → AllByRecursion
    (λ b. IsHeadRight y (listed_block (signatures_in (program_in symbols t)) line b))
    (program_in symbols t).code_blocks
    × AllByRecursion
    (λ d. IsHeadRight y
    (listed_data (signatures_in (program_in symbols t)) line d.number d.bytes d.instance_of))
    (program_in symbols t).data_blocks

-- the listed code blocks of an accepted source's program are no longer than 16,384 bytes, as
-- instances
abbrev pub AreListedInstancesShort : Type 0
AreListedInstancesShort =
    (source file : List ℕ) (symbols : List Symbol) (t : Tree)
    → IsAccepted source file symbols t → AreBytes source → AreBytes file
    → (y : Types) (blocks : List Block) (line : ℕ)
    → AllByRecursion
    (λ b. is_too_long y blocks
    (listed_block (signatures_in (program_in symbols t)) line b) ≡ false)
    (program_in symbols t).code_blocks

-- the declarations of the listed blocks of an accepted source's program break no rule, on whichever
-- lines the blocks stand
abbrev pub AreListedDeclarationsRight : Type 0
AreListedDeclarationsRight =
    (source file : List ℕ) (symbols : List Symbol) (t : Tree)
    → IsAccepted source file symbols t → AreBytes source → AreBytes file
    → (y : Types) (line : ℕ)
    → AllByRecursion
    (λ b. AreDeclarationsRight y (listed_block (signatures_in (program_in symbols t)) line b))
    (program_in symbols t).code_blocks
    × AllByRecursion
    (λ d. AreDeclarationsRight y
    (listed_data (signatures_in (program_in symbols t)) line d.number d.bytes d.instance_of))
    (program_in symbols t).data_blocks
