-- What is found of the blocks before they are laid out.
use Rattle.std.specs.Prelude.{◌≡◌, ℕ, Bool, List, [], map}
use Rattle.stl_ast.specs.declared.blocks.Block.{Block}
use Rattle.block_layout.specs.declared.building.Facts.{Facts}
use Rattle.block_layout.specs.declared.outlines.Outline.{Outline}
use Rattle.block_layout.specs.Cells.{components_of, temps_of}
use Rattle.block_layout.specs.Heads.{breach_flags}
use Rattle.block_layout.specs.Lengths.{length_of_block, local_len}
use Rattle.block_layout.specs.Rule43.{contains_itself}
use Rattle.block_layout.specs.Types.{Types}

-- the declarations of a block
abbrev pub outline_of : Types → Block → Outline
outline_of y b = record { components = components_of y b; temps = temps_of y b }

-- of each block whether it is a data type that contains itself, how long its local data are, and
-- how long its structure
pub record AreFacts (y : Types) (blocks : List Block) (f : Facts) : Type 0 where
  -- of each block whether it is a data type that contains itself
  pub in_itself : f.in_itself.items ≡ breach_flags (contains_itself y blocks) [] blocks
  -- of each block the length of its local data in bytes
  pub local_lens : f.local_lens.items ≡ map (local_len y) blocks
  -- of each block the length of its structure in bytes
  pub lengths : f.lengths.items ≡ map (length_of_block y blocks) blocks

-- of one block, before which those in `some` stand, whether it is a data type that contains itself,
-- how long its local data are, and how long its structure, in bytes
pub record AreFactsOf (y : Types) (blocks some : List Block) (b : Block) (in_itself : Bool)
    (local len : ℕ) : Type 0 where
  -- whether the block is a data type that contains itself
  pub itself : in_itself ≡ contains_itself y blocks some b
  -- the length of the local data of the block in bytes
  pub locals : local ≡ local_len y b
  -- the length of the structure of the block in bytes
  pub bytes : len ≡ length_of_block y blocks b
