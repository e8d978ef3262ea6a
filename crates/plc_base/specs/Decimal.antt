-- Decimal numbers in texts.
use Rattle.std.specs.Prelude.{ℕ, ◌+◌, ◌*◌, ◌-◌, nat_le, List, [], ◌∷◌, fold, Bool, false, ◌&&◌, Option, Some, None, if◌then◌else◌}
use Rattle.std.specs.Char.{is_ascii_digit}
use Rattle.std.specs.List.{list_all}

-- the number that decimal digits of ASCII write, the highest first; zeros may lead
unfoldable pub decimal_value : List ℕ → ℕ
decimal_value digits = fold (λ n digit. 10 * n + (digit - 48)) 0 digits

-- whether a word is one or more decimal digits, and nothing else
abbrev pub is_decimal : List ℕ → Bool
is_decimal [] = false
is_decimal (digit ∷ more) = list_all is_ascii_digit (digit ∷ more)

-- the number that a word writes in decimal digits, if it is at most so great; none for another word
unfoldable pub decimal_up_to : (most : ℕ) (word : List ℕ) → Option ℕ
decimal_up_to most word =
    if is_decimal word && nat_le (decimal_value word) most then Some (decimal_value word) else None
