-- The tree of a program's listing is printable.
use Rattle.std.specs.Prelude.{◌<◌, ◌*◌, List}
use Rattle.std.specs.List.{AllByRecursion}
use Rattle.flat_code.specs.Image.{IsProgram}
use Rattle.flat_code.specs.Programs.{CodeBlock, Program}
use Rattle.flat_code.specs.declared.operands.Operand.{Operand}
use Rattle.flat_code.specs.declared.operands.Operand.TheVariants as flat
use Rattle.stl_lexer.specs.Pieces.{ShowPieces, tokens_of}
use Rattle.stl_lexer.specs.Tokens.{AreTokens}
use Rattle.stl_ast.specs.WellFormed.{IsWellFormed}
use Rattle.stl_ast.specs.declared.blocks.Tree.{Tree}
use Rattle.stl_symbols.specs.Symbol.{Symbol}
use Rattle.block_layout.specs.declared.blocks.BlockLayout.{BlockLayout}
use Rattle.stl_codegen.specs.GeneratedProgram.{program_of}
use Rattle.stl_list.specs.Listing.{listed_source, listed_tree}
use Rattle.stl_print.specs.Trees.{pieces_of_tree}
use Rattle.print_laws.specs.Standing.{HasPrintableTokens}

-- an offset to an address register is one that a pointer constant writes, as P#65535.7 is
abbrev pub IsOffsetWritable : Operand → Type 0
IsOffsetWritable (flat.ByRegister area width register bits) = bits < 8 * 65536
IsOffsetWritable _ = Unit {0}

-- each offset to an address register in a code block is one that a pointer constant writes
abbrev pub IsWrittenBlock : CodeBlock → Type 0
IsWrittenBlock b = AllByRecursion (λ op. IsOffsetWritable op.operand) b.code

-- each offset to an address register in a program is one that a pointer constant writes
abbrev pub IsWrittenProgram : Program → Type 0
IsWrittenProgram p = AllByRecursion IsWrittenBlock p.code_blocks

-- the listing of a program is a printable tree, where each offset to an address register is one
-- that a pointer constant writes
abbrev pub AreListedPrintable : Type 0
AreListedPrintable =
    (p : Program) → IsProgram p → IsWrittenProgram p → HasPrintableTokens (listed_tree p)

-- the text of the listing of a program has just the tokens that were printed, where each offset to
-- an address register is one that a pointer constant writes
abbrev pub AreListedTokens : Type 0
AreListedTokens =
    (p : Program) → IsProgram p → IsWrittenProgram p
    → AreTokens (listed_source p) (tokens_of 0 1 (pieces_of_tree (listed_tree p)))
    × ShowPieces (listed_source p) (pieces_of_tree (listed_tree p))
    (tokens_of 0 1 (pieces_of_tree (listed_tree p)))

-- in the program of a well-formed source each offset to an address register is one that a pointer
-- constant writes
abbrev pub AreCompiledWritten : Type 0
AreCompiledWritten =
    (t : Tree) (symbols : List Symbol) (layouts : List BlockLayout) → IsWellFormed t
    → IsWrittenProgram (program_of t symbols layouts)
