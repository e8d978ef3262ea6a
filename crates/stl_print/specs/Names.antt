-- Names of blocks, and paths.
use Rattle.std.specs.Prelude.{List, [], ◌∷◌, ◌++◌, ℤ}
use Rattle.std.specs.List.{flat_map}
use Rattle.stl_ast.specs.declared.blocks.PathStep.{PathStep}
use Rattle.stl_ast.specs.declared.blocks.PathStep.TheVariants as step
use Rattle.stl_ast.specs.declared.names.BlockName.{BlockName}
use Rattle.stl_ast.specs.declared.names.BlockName.TheVariants as block
use Rattle.stl_lexer.specs.Pieces.{Piece}
use Rattle.stl_lexer.specs.declared.marks.Mark.TheVariants as mark_of
use Rattle.stl_print.specs.Pieces.{mark_piece, number_piece, quoted_piece, signed_number_pieces, word_piece}
use Rattle.stl_print.specs.Words.{block_letters}
use Rattle.stl_print.specs.declared.gaps.Gap.{Gap}
use Rattle.stl_print.specs.declared.gaps.Gap.TheVariants as gap

-- a block by kind and number, `DB 10`, or by its name in quotes
unfoldable pub block_name_pieces : Gap → BlockName → List Piece
block_name_pieces g (block.Number id) =
    word_piece g (block_letters id.kind) ∷ number_piece gap.Blank id.number ∷ []
block_name_pieces g (block.Quoted name) = quoted_piece g name ∷ []

-- the index of an element, `[2]`
abbrev pub index_pieces : Gap → ℤ → List Piece
index_pieces g at =
    mark_piece g mark_of.OpenBracket
    ∷ (signed_number_pieces gap.Nothing at ++ mark_piece gap.Nothing mark_of.CloseBracket ∷ [])

-- a step of a path, `.speed` or `[2]`
unfoldable pub step_pieces : PathStep → List Piece
step_pieces (step.Named name) =
    mark_piece gap.Nothing mark_of.Dot ∷ word_piece gap.Nothing name ∷ []
step_pieces (step.Index at) = index_pieces gap.Nothing at

-- the steps of a path, with nothing between them
abbrev pub steps_pieces : List PathStep → List Piece
steps_pieces steps = flat_map step_pieces steps

-- the first step of a path that begins with it, without the `.`
unfoldable pub first_step_pieces : Gap → PathStep → List Piece
first_step_pieces g (step.Named name) = word_piece g name ∷ []
first_step_pieces g (step.Index at) = index_pieces g at

-- a path of a setting, `motor.speed[2]`
abbrev pub path_pieces : Gap → List PathStep → List Piece
path_pieces g [] = []
path_pieces g (s ∷ steps) = first_step_pieces g s ++ steps_pieces steps
