-- Constants.
use Rattle.std.specs.Prelude.{ℕ, List, [], ◌∷◌, ◌++◌, codes, decimal}
use Rattle.std.specs.Fmt.{signed_decimal}
use Rattle.stl_ast.specs.declared.literals.Literal.{Literal}
use Rattle.stl_ast.specs.declared.literals.Literal.TheVariants as literal
use Rattle.stl_lexer.specs.Bytes.{single_quote}
use Rattle.stl_lexer.specs.Pieces.{Piece}
use Rattle.stl_lexer.specs.declared.kinds.TokenKind.TheVariants as kind
use Rattle.stl_lexer.specs.declared.marks.Mark.TheVariants as mark_of
use Rattle.stl_print.specs.Digits.{digits_in_base}
use Rattle.stl_print.specs.Pieces.{mark_piece, number_piece, signed_number_pieces, token_piece, word_piece}
use Rattle.stl_print.specs.Words.{truth_word}
use Rattle.stl_print.specs.declared.gaps.Gap.{Gap}
use Rattle.stl_print.specs.declared.gaps.Gap.TheVariants as gap

-- a binary or hexadecimal constant: its prefix and its digits
abbrev pub based_piece : Gap → List ℕ → List ℕ → Piece
based_piece g prefix text = token_piece g kind.Based (prefix ++ text)

-- further bytes of `B#(1, 2)`, each behind a comma, and its end
abbrev pub further_bytes : List ℕ → List Piece
further_bytes [] = mark_piece gap.Nothing mark_of.CloseParen ∷ []
further_bytes (b ∷ bytes) =
    mark_piece gap.Nothing mark_of.Comma ∷ number_piece gap.Blank b ∷ further_bytes bytes

-- the bytes of `B#(1, 2)`, and its end
abbrev pub listed_bytes : List ℕ → List Piece
listed_bytes [] = mark_piece gap.Nothing mark_of.CloseParen ∷ []
listed_bytes (b ∷ bytes) = number_piece gap.Nothing b ∷ further_bytes bytes

-- the tokens of a constant: decimal with its sign; binary with 32 digits; hexadecimal with two,
-- four or eight digits, in upper case; times in milliseconds
unfoldable pub literal_pieces : Gap → Literal → List Piece
literal_pieces g (literal.Truth value) = word_piece g (truth_word value) ∷ []
literal_pieces g (literal.Number value) = signed_number_pieces g value
literal_pieces g (literal.Binary value) =
    based_piece g (codes "2#") (digits_in_base 2 32 value) ∷ []
literal_pieces g (literal.Byte value) =
    based_piece g (codes "B#16#") (digits_in_base 16 2 value) ∷ []
literal_pieces g (literal.Word value) =
    based_piece g (codes "W#16#") (digits_in_base 16 4 value) ∷ []
literal_pieces g (literal.Dword value) =
    based_piece g (codes "DW#16#") (digits_in_base 16 8 value) ∷ []
literal_pieces g (literal.Long value) =
    token_piece g kind.NumberLiteral (codes "L#" ++ signed_decimal value) ∷ []
literal_pieces g (literal.Count value) =
    token_piece g kind.NumberLiteral (codes "C#" ++ decimal value) ∷ []
literal_pieces g (literal.Time ms) =
    token_piece g kind.TimeLiteral (codes "T#" ++ (signed_decimal ms ++ codes "MS")) ∷ []
literal_pieces g (literal.S5time ms) =
    token_piece g kind.TimeLiteral (codes "S5T#" ++ (decimal ms ++ codes "MS")) ∷ []
literal_pieces g (literal.Characters bytes) =
    token_piece g kind.Characters (single_quote ∷ (bytes ++ single_quote ∷ [])) ∷ []
literal_pieces g (literal.Bytes bytes) = mark_piece g mark_of.Bytes ∷ listed_bytes bytes
