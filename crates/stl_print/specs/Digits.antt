-- Digits of constants.
use Rattle.std.specs.Prelude.{ℕ, zero, suc, ◌+◌, ◌/◌, ◌%◌, nat_lt, if◌then◌else◌, List, [], ◌∷◌, ◌++◌}

-- a digit, from ten on a letter in upper case
abbrev pub digit_character : ℕ → ℕ
digit_character n = if nat_lt n 10 then n + 48 else n + 55

-- the lowest so many digits of a number in a base
unfoldable pub digits_in_base : (base count : ℕ) → ℕ → List ℕ
digits_in_base base zero n = []
digits_in_base base (suc count) n =
    digits_in_base base count (n / base) ++ digit_character (n % base) ∷ []
