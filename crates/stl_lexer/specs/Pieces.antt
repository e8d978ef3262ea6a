-- A source that is written piece by piece: what stands between tokens, and the bytes of a token.
use Rattle.std.specs.Prelude.{◌≡◌, ◌==◌, ◌&&◌, not, true, ℕ, ◌+◌, Bool, false, List, [], ◌∷◌, ◌++◌, length, None, sum_by, codes}
use Rattle.stl_lexer.specs.declared.gaps.GapPart.TheVariants.{Blanks}
use Rattle.stl_lexer.specs.declared.kinds.TokenKind.{TokenKind}
use Rattle.stl_lexer.specs.declared.kinds.TokenKind.TheVariants.{Number, Word}
use Rattle.stl_lexer.specs.declared.kinds.Token.{Token}
use Rattle.stl_lexer.specs.Bytes.{hash, is_word_byte}
use Rattle.stl_lexer.specs.Forms.{begins_with, is_number, is_word}
use Rattle.stl_lexer.specs.Gap.{after_gap, newlines_of}
use Rattle.stl_lexer.specs.Longest.{IsLongestToken}
use Rattle.stl_lexer.specs.Rules.{fault_of}
use Rattle.stl_lexer.specs.Tokens.{AreTokens, is_minus, text_of}

-- a token by its bytes, with the gap before it
pub record Piece : Type 0 where
  -- the bytes between the token and the one before it, or the front of the text
  pub gap : List ℕ
  -- the kind of the token
  pub kind : TokenKind
  -- the bytes of the token
  pub text : List ℕ

-- what pieces spell, with the gap behind the last one
abbrev pub text_of_pieces : List Piece → List ℕ → List ℕ
text_of_pieces [] end = end
text_of_pieces (p ∷ ps) end = p.gap ++ (p.text ++ text_of_pieces ps end)

-- a piece stands before these bytes: its gap ends at its text, which is the longest token there,
-- and right
pub record StandsBefore (p : Piece) (minus : Bool) (after : List ℕ) : Type 0 where
  -- the gap is separators and comments, and ends where the token begins
  pub gap : after_gap Blanks (p.gap ++ (p.text ++ after)) ≡ p.text ++ after
  -- the text of the piece is the longest token at its place
  pub longest : IsLongestToken (p.text ++ after) p.kind (length p.text)
  -- the token breaks no rule; `minus` says that the mark `-` stands before it
  pub right : fault_of p.kind p.text minus ≡ None

-- each piece of a list stands before those behind it, and the end is separators and comments alone
abbrev pub ArePiecesStanding : Bool → List Piece → List ℕ → Type 0
ArePiecesStanding minus [] end = after_gap Blanks end ≡ []
ArePiecesStanding minus (p ∷ ps) end =
    StandsBefore p minus (text_of_pieces ps end) × ArePiecesStanding (is_minus p.kind p.text) ps end

-- the tokens of pieces, the first of which begins with its gap at a place on a line
abbrev pub tokens_of : (from line : ℕ) → List Piece → List Token
tokens_of from line [] = []
tokens_of from line (p ∷ ps) =
    record {
      kind = p.kind;
      start = from + length p.gap;
      end = from + length p.gap + length p.text;
      line = line + sum_by newlines_of p.gap;
    }
    ∷ tokens_of (from + length p.gap + length p.text)
    (line + sum_by newlines_of p.gap + sum_by newlines_of p.text) ps

-- some tokens of a source have the kinds and the bytes of some pieces, one by one
abbrev pub ShowPieces : List ℕ → List Piece → List Token → Type 0
ShowPieces source [] [] = Unit {0}
ShowPieces source (p ∷ ps) (t ∷ ts) =
    (t.kind ≡ p.kind) × (text_of source t ≡ p.text) × ShowPieces source ps ts
ShowPieces source _ _ = ⊥

-- pieces that stand are the tokens of what they spell
abbrev pub ArePiecesRead : Type 0
ArePiecesRead =
    (ps : List Piece) (end : List ℕ) → ArePiecesStanding false ps end
    → AreTokens (text_of_pieces ps end) (tokens_of 0 1 ps)
    × ShowPieces (text_of_pieces ps end) ps (tokens_of 0 1 ps)

-- a text goes on with no word and opens no literal, so that a token before it ends there
abbrev pub stops_token : List ℕ → Bool
stops_token [] = true
stops_token (b ∷ s) = not (is_word_byte b) && not (b == hash)

-- a word before what stops a token is the longest token there, where no title begins
abbrev pub DoWordsStand : Type 0
DoWordsStand =
    (word after : List ℕ) → is_word word ≡ true → stops_token after ≡ true
    → begins_with (codes "TITLE") (word ++ after) ≡ false
    → IsLongestToken (word ++ after) Word (length word)

-- a number before what stops a token is the longest token there
abbrev pub DoNumbersStand : Type 0
DoNumbersStand =
    (digits after : List ℕ) → is_number digits ≡ true → stops_token after ≡ true
    → IsLongestToken (digits ++ after) Number (length digits)
