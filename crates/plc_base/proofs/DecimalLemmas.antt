-- Decimal numbers, read from the left.
use Rattle.std.proofs.Common.{◌≡◌, ℕ, ◌+◌, ◌*◌, ◌-◌, ◌<◌, ◌≤◌, List, [], length, take, get_or, Option, Some, None, refl, arith}
use Rattle.std.specs.Option.{IfSome}
use Rattle.std.proofs.lemmas.Bool.Decides.{nat_tests}
use Rattle.std.proofs.lemmas.List.Sums.{fold_more}
use Rattle.plc_base.specs.Decimal.{decimal_value, decimal_up_to}

-- one digit more
pub decimal_value_more : (digits : List ℕ) (i : ℕ) → i < length digits →
    decimal_value (take (i + 1) digits) ≡ 10 * decimal_value (take i digits) + (get_or digits i 0 - 48)
unfolding decimal_value
decimal_value_more digits i h = fold_more (λ n digit. 10 * n + (digit - 48)) 0 digits i 0 h

-- no digit
pub decimal_value_none : decimal_value [] ≡ 0
unfolding decimal_value
decimal_value_none = refl

-- the number of a word is at most what it may be
pub decimal_range : (most : ℕ) (word : List ℕ) (n : ℕ) → decimal_up_to most word ≡ Some n → n ≤ most
unfolding decimal_up_to
decimal_range most word n is = grind (arith, nat_tests, is)

if_some_from : (o : Option ℕ) (P : ℕ → Type 0) → ((n : ℕ) → o ≡ Some n → P n) → IfSome o P
if_some_from None P each = tt
if_some_from (Some n) P each = each n refl

pub decimal_within : (most : ℕ) (word : List ℕ) → IfSome (decimal_up_to most word) (λ n. n ≤ most)
decimal_within most word = if_some_from (decimal_up_to most word) (λ n. n ≤ most) (decimal_range most word)
