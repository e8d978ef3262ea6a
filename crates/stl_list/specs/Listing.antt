-- The listing of a program: a source and a symbols file that compile to it.
use Rattle.std.specs.Prelude.{ℕ, List, ◌++◌}
use Rattle.flat_code.specs.Programs.{CodeBlock, DataBlock, Program}
use Rattle.stl_ast.specs.declared.blocks.Block.{Block}
use Rattle.stl_ast.specs.declared.blocks.Tree.{Tree}
use Rattle.stl_print.specs.Trees.{printed_text}
use Rattle.stl_list.specs.CodeBlocks.{in_lines, line_reached, listed_blocks}
use Rattle.stl_list.specs.DataBlocks.{listed_data_blocks}
use Rattle.stl_list.specs.JoinedParameters.{chains_of}
use Rattle.stl_list.specs.Signatures.{Signature, signatures}

-- the blocks of a source: the code blocks by their lines, then the data blocks on the last line
abbrev pub blocks_by : List Signature → (code_blocks : List CodeBlock) → List DataBlock → List Block
blocks_by signatures code_blocks data_blocks =
    listed_blocks signatures 1 code_blocks
    ++ listed_data_blocks signatures (line_reached 1 code_blocks) data_blocks

-- the tree of the source of a program. What no source writes gets the nearest tree, whose text is
-- refused or comes to another program
unfoldable pub listed_tree : Program → Tree
listed_tree p = record {
  blocks =
      blocks_by (signatures (chains_of p.code_blocks) p.code_blocks) (in_lines p.code_blocks)
      p.data_blocks;
}

-- the text of the source of a program
abbrev pub listed_source : Program → List ℕ
listed_source p = printed_text (listed_tree p)
