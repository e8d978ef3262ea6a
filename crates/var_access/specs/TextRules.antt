-- The rules that a part of a line can break, by their numbers.
use Rattle.std.specs.Prelude.{ℕ}

-- the line isn't in the grammar
abbrev pub not_in_grammar : ℕ
not_in_grammar = 1

-- a number is out of its range, or a value is wider or narrower than its variable
abbrev pub out_of_range : ℕ
out_of_range = 2

-- no variable has this name
abbrev pub unknown_name : ℕ
unknown_name = 3
