-- What stands before a token.
use Rattle.std.specs.Prelude.{ℕ, ◌-◌, nat_lt, ◌==◌, max, if◌then◌else◌, List, [], ◌∷◌, replicate}
use Rattle.stl_lexer.specs.Bytes.{blank, newline}
use Rattle.stl_print.specs.declared.gaps.Gap.{Gap}
use Rattle.stl_print.specs.declared.gaps.Gap.TheVariants as gap

-- the bytes of a gap: none, one blank, or ends of lines
abbrev pub gap_text : Gap → List ℕ
gap_text gap.Nothing = []
gap_text gap.Blank = blank ∷ []
gap_text (gap.LineEnds count) = replicate count newline

-- the gap before a clause, where the text has reached a line, or 0 where nothing is printed yet:
-- ends of lines up to the clause's own line, or one blank where the text has reached it or is past
-- it
unfoldable pub clause_gap : (reached line : ℕ) → Gap
clause_gap reached line =
    if reached == 0 then gap.LineEnds (line - 1)
    else (if nat_lt reached line then gap.LineEnds (line - reached) else gap.Blank)

-- the line that the text has reached behind a clause; the first line is line 1
unfoldable pub line_behind : (reached line : ℕ) → ℕ
line_behind reached line = max 1 (max reached line)
