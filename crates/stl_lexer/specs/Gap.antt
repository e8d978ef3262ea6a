-- What stands between tokens.
use Rattle.std.specs.Prelude.{◌≡◌, ◌<◌, ℕ, ◌+◌, Bool, ◌&&◌, not, ◌==◌, if◌then◌else◌, List, [], ◌∷◌, length, take, drop, Option, MatchOption, sum_by}
use Rattle.stl_lexer.specs.declared.gaps.GapPart.{GapPart}
use Rattle.stl_lexer.specs.declared.gaps.GapPart.TheVariants.{Blanks, Comment}
use Rattle.stl_lexer.specs.Bytes.{newline, is_separator, is_source_byte, opens_comment}

-- what is left of a text behind separators and comments, where this part of a gap is open
abbrev pub after_gap : GapPart → List ℕ → List ℕ
after_gap part [] = []
after_gap Comment (b ∷ s) =
    if b == newline then after_gap Blanks s
    else (if is_source_byte b then after_gap Comment s else b ∷ s)
after_gap Blanks (b ∷ s) =
    if is_separator b then after_gap Blanks s
    else (if opens_comment (b ∷ s) then after_gap Comment s else b ∷ s)

-- what is found is the part of a gap that goes on behind the first byte of a text, where a part is
-- open at the front; None where no gap stands at the front
abbrev pub ContinuesGap : GapPart → List ℕ → Option GapPart → Type 0
ContinuesGap part text found =
    MatchOption found (after_gap part text ≡ text)
    (λ next. (0 < length text) × (after_gap part text ≡ after_gap next (drop 1 text)))

-- a byte that separates tokens and ends no line
unfoldable pub is_inline_separator : ℕ → Bool
is_inline_separator b = is_separator b && not (b == newline)

-- a byte that goes on with a comment: any that a source holds but the line feed, which ends it
unfoldable pub is_comment_byte : ℕ → Bool
is_comment_byte b = is_source_byte b && not (b == newline)

-- how many lines end with a byte: 1 for the line feed, else 0
abbrev pub newlines_of : ℕ → ℕ
newlines_of b = if b == newline then 1 else 0

-- the line of a place: 1, and one more for each line feed before it
unfoldable pub line_at : List ℕ → ℕ → ℕ
line_at source at = 1 + sum_by newlines_of (take at source)
