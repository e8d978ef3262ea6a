-- No jump of a source leads to the END clause of its block.
use Rattle.std.specs.Prelude.{◌≡◌, length, List, []}
use Rattle.std.specs.List.{AllByRecursion}
use Rattle.block_layout.specs.declared.blocks.BlockLayout.{BlockLayout}
use Rattle.stl_ast.specs.WellFormed.{IsWellFormed}
use Rattle.stl_ast.specs.declared.blocks.Tree.{Tree}
use Rattle.stl_codegen.specs.GeneratedProgram.{program_of}
use Rattle.stl_symbols.specs.Symbol.{Symbol}
use Rattle.stl_types.specs.Labels.{rule_26}
use Rattle.listing_laws.specs.Bodies.{IsEndFree}

-- where each jump of a source has its label, no jump of its program leads to the END clause of its
-- block: an empty statement has no label
abbrev pub AreEndsFree : Type 0
AreEndsFree =
    (t : Tree) (symbols : List Symbol) (layouts : List BlockLayout) → IsWellFormed t
    → rule_26 t.blocks ≡ []
    → AllByRecursion (λ b. IsEndFree (length b.lines) b) (program_of t symbols layouts).code_blocks
