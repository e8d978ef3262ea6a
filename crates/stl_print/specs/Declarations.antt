-- Declarations.
use Rattle.std.specs.Prelude.{ℕ, List, [], ◌∷◌, ◌++◌, codes, Option, Some, None}
use Rattle.std.specs.List.{flat_map}
use Rattle.stl_ast.specs.declared.blocks.Setting.{Setting}
use Rattle.stl_ast.specs.declared.declarations.Bounds.{Bounds}
use Rattle.stl_ast.specs.declared.declarations.Declaration.{Declaration}
use Rattle.stl_ast.specs.declared.declarations.ElementType.{ElementType}
use Rattle.stl_ast.specs.declared.declarations.ElementType.TheVariants as element
use Rattle.stl_ast.specs.declared.declarations.Init.{Init}
use Rattle.stl_ast.specs.declared.literals.Literal.{Literal}
use Rattle.stl_lexer.specs.Pieces.{Piece}
use Rattle.stl_lexer.specs.declared.marks.Mark.TheVariants as mark_of
use Rattle.stl_print.specs.Literals.{literal_pieces}
use Rattle.stl_print.specs.Names.{block_name_pieces, path_pieces}
use Rattle.stl_print.specs.Pieces.{mark_piece, number_piece, signed_number_pieces, word_piece}
use Rattle.stl_print.specs.Words.{type_word}
use Rattle.stl_print.specs.declared.gaps.Gap.{Gap}
use Rattle.stl_print.specs.declared.gaps.Gap.TheVariants as gap

-- the words of an array before the type of its elements, `ARRAY [0..9] OF`
unfoldable pub array_pieces : Bounds → List Piece
array_pieces b =
    word_piece gap.Blank (codes "ARRAY") ∷ mark_piece gap.Blank mark_of.OpenBracket
    ∷ (signed_number_pieces gap.Nothing b.low ++ (mark_piece gap.Nothing mark_of.DotDot
    ∷ (signed_number_pieces gap.Nothing b.high
    ++ (mark_piece gap.Nothing mark_of.CloseBracket ∷ word_piece gap.Blank (codes "OF") ∷ []))))

-- how a type that is no array is written
unfoldable pub element_pieces : Gap → ElementType → List Piece
element_pieces g (element.Plain k) = word_piece g (type_word k) ∷ []
element_pieces g element.Structure = word_piece g (codes "STRUCT") ∷ []
element_pieces g (element.Udt name) = block_name_pieces g name
element_pieces g element.DateAndTime = word_piece g (codes "DATE_AND_TIME") ∷ []

-- an initial value, `B#16#FF`, or one that stands for some elements, `4 (B#16#00)`
abbrev pub value_pieces : Gap → Option ℕ → Literal → List Piece
value_pieces g None value = literal_pieces g value
value_pieces g (Some count) value =
    number_piece g count ∷ mark_piece gap.Blank mark_of.OpenParen
    ∷ (literal_pieces gap.Nothing value ++ mark_piece gap.Nothing mark_of.CloseParen ∷ [])

-- how an initial value is written
unfoldable pub init_pieces : Gap → Init → List Piece
init_pieces g i = value_pieces g i.count i.value

-- further initial values, each behind a comma
abbrev pub further_inits : List Init → List Piece
further_inits [] = []
further_inits (i ∷ is) =
    mark_piece gap.Nothing mark_of.Comma ∷ (init_pieces gap.Blank i ++ further_inits is)

-- the initial values of a declaration behind their `:=`, where there are some
abbrev pub inits_pieces : List Init → List Piece
inits_pieces [] = []
inits_pieces (i ∷ is) =
    mark_piece gap.Blank mark_of.Assign ∷ (init_pieces gap.Blank i ++ further_inits is)

-- what is written behind the type of a declaration: its initial values and the `;`; behind a
-- structure nothing, since its components are declarations of their own
unfoldable pub behind_type : ElementType → List Init → List Piece
behind_type element.Structure is = []
behind_type _ is = inits_pieces is ++ mark_piece gap.Nothing mark_of.Semicolon ∷ []

-- a declaration, `t : ARRAY [0..19] OF BYTE;`, of a structure up to its `STRUCT`
unfoldable pub declaration_pieces : Gap → Declaration → List Piece
declaration_pieces g d =
    word_piece g d.name ∷ mark_piece gap.Blank mark_of.Colon
    ∷ (flat_map array_pieces d.of.arrays
    ++ (element_pieces gap.Blank d.of.of ++ behind_type d.of.of d.init))

-- a setting, `p0 := TRUE;`
unfoldable pub setting_pieces : Gap → Setting → List Piece
setting_pieces g s =
    path_pieces g s.path
    ++ (mark_piece gap.Blank mark_of.Assign
    ∷ (literal_pieces gap.Blank s.value ++ mark_piece gap.Nothing mark_of.Semicolon ∷ []))
