-- The text of a chain: `chain: KIND n, KIND n ..`, a line.
use Rattle.std.specs.Prelude.{ℕ, List, [], ◌∷◌, ◌++◌, codes, decimal}
use Rattle.std.specs.List.{flat_map}
use Rattle.plc_base.specs.declared.blocks.BlockId.{BlockId}
use Rattle.monitor.specs.LineText.{kind_text}

-- the text of a block: its kind and its number
abbrev pub block_text : BlockId → List ℕ
block_text block = kind_text block.kind ++ (codes " " ++ decimal block.number)

-- the text of a block behind another one: a comma, a blank and the block
abbrev pub behind_text : BlockId → List ℕ
behind_text block = codes ", " ++ block_text block

-- the text of the blocks of a chain, with commas between them
abbrev pub blocks_text : List BlockId → List ℕ
blocks_text [] = []
blocks_text (first ∷ rest) = block_text first ++ flat_map behind_text rest

-- the line of a chain
unfoldable pub chain_text : List BlockId → List ℕ
chain_text chain = codes "chain: " ++ (blocks_text chain ++ codes "\n")
