-- The blocks of a source, as statements: where its program verifies, code can be generated for
-- each.
use Rattle.std.specs.Prelude.{List}
use Rattle.std.specs.List.{AllByRecursion}
use Rattle.flat_code.specs.Loading.{Verifies}
use Rattle.stl_ast.specs.declared.blocks.Tree.{Tree}
use Rattle.stl_symbols.specs.Symbol.{Symbol}
use Rattle.block_layout.specs.declared.blocks.BlockLayout.{BlockLayout}
use Rattle.stl_codegen.specs.GeneratedProgram.{code_blocks_of, program_of}
use Rattle.sem_kept.specs.Statements.{IsCompilable}

-- where the program verifies, each code block of its source is compilable
abbrev pub VerifiedIsCompilable : Type 0
VerifiedIsCompilable =
    (t : Tree) (symbols : List Symbol) (layouts : List BlockLayout)
    → Verifies (program_of t symbols layouts)
    → AllByRecursion IsCompilable (code_blocks_of t symbols layouts)
