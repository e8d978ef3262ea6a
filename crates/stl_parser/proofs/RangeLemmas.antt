-- The ranges of the numbers that are read.
use Rattle.std.proofs.Common.{arith, ℕ, zero, suc, ◌≡◌, ◌≤◌, ◌<◌, Bool, true, false, List, [], ◌∷◌, Some, ℤ, pos, negsuc, if◌then◌else◌}
use Rattle.std.specs.Prelude.{◌-ℤ◌, ◌-◌, nat_lt}
use Rattle.std.specs.Option.{option_map, IfSome}
use Rattle.stl_lexer.specs.declared.kinds.Token.{Token}
use Rattle.stl_ast.specs.Literals.{IsBetween, IsDecimal}
use Rattle.stl_ast.specs.Operands.{IsNumber}
use Rattle.stl_lexer.specs.declared.marks.Mark.TheVariants as mark
use Rattle.stl_parser.specs.Terminals.{is_mark}
use Rattle.plc_base.proofs.DecimalLemmas.{decimal_range}
use Rattle.stl_parser.specs.Numbers.{number_up_to, number_of_token, signed_number_at, int_at}
use Rattle.stl_parser.proofs.OptionLemmas.{search_holds, map_holds, either, both}

number_within : (most : ℕ) (source : List ℕ) (t : Token) (n : ℕ) → number_up_to most source t ≡ Some n → n ≤ most
unfolding number_up_to
number_within most source t n found = grind (arith, decimal_range)

pub number_range : (source : List ℕ) (t : Token) (n : ℕ) → number_of_token source t ≡ Some n → n ≤ 65535
unfolding number_of_token
number_range source t n found = number_within 65535 source t n found

-- a number with its sign, by whichever test
between_by_sign : (b : Bool) (low high m n : ℕ) → m < low → n ≤ high → IsBetween low high (if b then negsuc m else pos n)
between_by_sign true low high m n h k = h
between_by_sign false low high m n h k = k

pub negated_between : (low high n : ℕ) → n ≤ low → IsBetween low high (pos 0 -ℤ pos n)
negated_between low high zero within = omega arith
negated_between low high (suc n) within = between_by_sign (nat_lt 0 (suc n)) low high (suc n - 1) (0 - suc n) (omega (arith, within)) (omega arith)

pub number_holds : (source : List ℕ) (t : Token) → IfSome (number_of_token source t) IsNumber
number_holds source t = search_holds (number_of_token source t) IsNumber (number_range source t)

abbrev pub FirstIsDecimal : ℤ × List Token → Type 0
FirstIsDecimal r = IsDecimal r.0

plain_decimal : (source : List ℕ) (t : Token) (rest : List Token) →
    IfSome (option_map (λ n. (pos n, rest)) (number_of_token source t)) FirstIsDecimal
plain_decimal source t rest = map_holds (number_of_token source t) _ IsNumber FirstIsDecimal (number_holds source t) (λ n h. h)

pub signed_holds : (source : List ℕ) (sign : Token) (tokens : List Token) → IfSome (signed_number_at source sign tokens) FirstIsDecimal
unfolding signed_number_at
signed_holds source sign [] = tt
signed_holds source sign (t ∷ rest) =
    both (is_mark source sign mark.Minus) _ _ FirstIsDecimal
    (map_holds (number_up_to 32768 source t) _ (λ n. n ≤ 32768) FirstIsDecimal (search_holds (number_up_to 32768 source t) _ (number_within 32768 source t))
    (λ n h. negated_between 32768 65535 n h))
    (both (is_mark source sign mark.Plus) _ _ FirstIsDecimal (plain_decimal source t rest) tt)

pub int_holds : (source : List ℕ) (tokens : List Token) → IfSome (int_at source tokens) FirstIsDecimal
unfolding int_at
int_holds source [] = tt
int_holds source (t ∷ rest) =
    either (option_map (λ n. (pos n, rest)) (number_of_token source t)) _ FirstIsDecimal (plain_decimal source t rest) (signed_holds source t rest)
