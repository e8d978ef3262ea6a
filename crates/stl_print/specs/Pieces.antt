-- Tokens, each with the gap before it.
use Rattle.std.specs.Prelude.{ℕ, List, [], ◌∷◌, ◌++◌, decimal, fold, ℤ, pos, negsuc, suc}
use Rattle.stl_lexer.specs.Bytes.{double_quote, hash}
use Rattle.stl_lexer.specs.Marks.{mark_text}
use Rattle.stl_lexer.specs.Pieces.{Piece}
use Rattle.stl_lexer.specs.declared.kinds.TokenKind.{TokenKind}
use Rattle.stl_lexer.specs.declared.kinds.TokenKind.TheVariants as kind
use Rattle.stl_lexer.specs.declared.marks.Mark.{Mark}
use Rattle.stl_lexer.specs.declared.marks.Mark.TheVariants as mark_of
use Rattle.stl_print.specs.Gaps.{gap_text}
use Rattle.stl_print.specs.declared.gaps.Gap.{Gap}
use Rattle.stl_print.specs.declared.gaps.Gap.TheVariants as gap

-- a text with a piece behind it
abbrev pub with_piece : List ℕ → Piece → List ℕ
with_piece text p = (text ++ p.gap) ++ p.text

-- a text with pieces behind it
abbrev pub with_pieces : List ℕ → List Piece → List ℕ
with_pieces text ps = fold with_piece text ps

-- the piece that is a token behind a gap
abbrev pub token_piece : Gap → TokenKind → List ℕ → Piece
token_piece g k text = record { gap = gap_text g; kind = k; text = text }

-- a word as a piece: its letters as they are, behind a gap
abbrev pub word_piece : Gap → List ℕ → Piece
word_piece g text = token_piece g kind.Word text

-- a mark as a piece: its own text, behind a gap
abbrev pub mark_piece : Gap → Mark → Piece
mark_piece g m = token_piece g kind.Mark (mark_text m)

-- the piece that is a number in decimal digits
abbrev pub number_piece : Gap → ℕ → Piece
number_piece g n = token_piece g kind.Number (decimal n)

-- a number with a sign where it is below 0: the sign is a token of its own
abbrev pub signed_number_pieces : Gap → ℤ → List Piece
signed_number_pieces g (pos n) = number_piece g n ∷ []
signed_number_pieces g (negsuc n) =
    mark_piece g mark_of.Minus ∷ number_piece gap.Nothing (suc n) ∷ []

-- the piece that is a name in double quotes
abbrev pub quoted_piece : Gap → List ℕ → Piece
quoted_piece g name = token_piece g kind.Quoted (double_quote ∷ (name ++ double_quote ∷ []))

-- a name of the block's own, behind `#`
abbrev pub local_piece : Gap → List ℕ → Piece
local_piece g name = token_piece g kind.Local (hash ∷ name)
