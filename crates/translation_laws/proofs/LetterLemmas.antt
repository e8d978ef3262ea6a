-- The letters of a word before its first digit go by no case.
use Rattle.std.proofs.Common.{ℕ, zero, suc, ◌≡◌, true, List, [], ◌∷◌, take, refl, sym, ◌∙◌, ap, arith}
use Rattle.std.specs.Char.{is_ascii_digit, to_ascii_lowercase}
use Rattle.std.specs.Str.{str_eq_ignore_ascii_case, str_to_ascii_lowercase}
use Rattle.std.proofs.lemmas.Bool.Decides.{nat_tests}
use Rattle.de_mnemonics.specs.Words.{letter_count}
use Rattle.de_mnemonics.proofs.CaseLemmas.{same_from, same_to}

pub digit_lower : (b : ℕ) → is_ascii_digit (to_ascii_lowercase b) ≡ is_ascii_digit b
digit_lower b = grind (arith, nat_tests)

pub count_lower : (text : List ℕ) → letter_count (str_to_ascii_lowercase text) ≡ letter_count text
count_lower [] = refl
count_lower (b ∷ text) = rw (digit_lower b, count_lower text) refl

pub take_lower : (n : ℕ) (text : List ℕ) → str_to_ascii_lowercase (take n text) ≡ take n (str_to_ascii_lowercase text)
take_lower zero text = refl
take_lower (suc n) [] = refl
take_lower (suc n) (b ∷ text) = ap (λ (l : List ℕ). to_ascii_lowercase b ∷ l) (take_lower n text)

pub same_letters : (a b : List ℕ) → str_eq_ignore_ascii_case a b ≡ true
    → str_eq_ignore_ascii_case (take (letter_count a) a) (take (letter_count b) b) ≡ true
same_letters a b e =
    let lower : str_to_ascii_lowercase a ≡ str_to_ascii_lowercase b = same_to a b e in
    let count : letter_count a ≡ letter_count b = sym (count_lower a) ∙ ap letter_count lower ∙ count_lower b in
    same_from (take (letter_count a) a) (take (letter_count b) b)
    (take_lower (letter_count a) a ∙ ap (take (letter_count a)) lower ∙ ap (λ n. take n (str_to_ascii_lowercase b)) count ∙ sym (take_lower (letter_count b) b))
