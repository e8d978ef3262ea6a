-- The labels of statements by their numbers.
use Rattle.std.specs.Prelude.{ℕ, ◌+◌, ◌-◌, ◌/◌, ◌%◌, nat_lt, List, [], ◌∷◌, if◌then◌else◌}

-- a digit of base 36: 0 to 9, then A to Z
abbrev pub base_36_digit : ℕ → ℕ
base_36_digit n = if nat_lt n 10 then 48 + n else 55 + n

-- three digits, the highest first
abbrev pub three_digits : ℕ → List ℕ
three_digits n =
    base_36_digit (n / 1296 % 36) ∷ base_36_digit (n / 36 % 36) ∷ base_36_digit (n % 36) ∷ []

-- `_` and the statement's number, of which three digits hold 46,656; from there on `Z` and what is
-- above
unfoldable pub label_of_number : ℕ → List ℕ
label_of_number n = if nat_lt n 46656 then 95 ∷ three_digits n else 90 ∷ three_digits (n - 46656)
