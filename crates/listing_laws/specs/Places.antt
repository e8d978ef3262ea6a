-- The clauses of a listing stand on the lines that its tree has for them.
use Rattle.std.specs.Prelude.{List}
use Rattle.std.specs.List.{flat_map}
use Rattle.block_layout.specs.declared.blocks.BlockLayout.{BlockLayout}
use Rattle.print_laws.specs.Reading.{AreOnLines}
use Rattle.stl_ast.specs.declared.blocks.Tree.{Tree}
use Rattle.stl_codegen.specs.GeneratedProgram.{program_of}
use Rattle.stl_list.specs.Listing.{listed_tree}
use Rattle.stl_print.specs.Trees.{block_clauses}
use Rattle.stl_symbols.specs.Symbol.{Symbol}

-- no clause of the listing of a source's program stands on a line before that of the clause in
-- front of it
abbrev pub AreClausesOnLines : Type 0
AreClausesOnLines =
    (t : Tree) (symbols : List Symbol) (layouts : List BlockLayout)
    → AreOnLines 0 (flat_map block_clauses (listed_tree (program_of t symbols layouts)).blocks)
