-- The lines on which a listing prints its pieces. No line comes back: what has a line that has
-- passed by stands on the current one.
use Rattle.std.specs.Prelude.{ℕ, max, nat_eq, nat_lt, Bool, ◌&&◌, ◌||◌, ◌-◌, length, List, [], ◌∷◌, slice_get}
use Rattle.std.specs.List.{fold}
use Rattle.std.specs.Option.{unwrap_or}
use Rattle.flat_code.specs.Programs.{CodeBlock}

-- the lines of statements, behind what reaches to a line
abbrev pub lines_from : (reached : ℕ) → List ℕ → List ℕ
lines_from reached [] = []
lines_from reached (line ∷ lines) = max reached line ∷ lines_from (max reached line) lines

-- the line that is reached behind statements on these lines
abbrev pub line_behind_statements : (reached : ℕ) → List ℕ → ℕ
line_behind_statements reached lines = fold max reached lines

-- the line of the statement of a number, counted from 0, in a list of lines; 0 past its end
abbrev pub line_of_statement : List ℕ → (n : ℕ) → ℕ
line_of_statement lines n = unwrap_or (slice_get lines n) 0

-- the line of the first statement of a block
abbrev pub first_statement_line : CodeBlock → ℕ
first_statement_line b = line_of_statement b.lines 0

-- the line of the last statement of a block, which is its END clause
abbrev pub last_statement_line : CodeBlock → ℕ
last_statement_line b = line_of_statement b.lines (length b.lines - 1)

-- whether a code block stands before another in a listing: by the line of its first statement, then
-- of its last
abbrev pub stands_before : CodeBlock → CodeBlock → Bool
stands_before a b =
    nat_lt (first_statement_line a) (first_statement_line b)
    || nat_eq (first_statement_line a) (first_statement_line b)
    && nat_lt (last_statement_line a) (last_statement_line b)
