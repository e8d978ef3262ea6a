-- Texts that are the same without case of ASCII letters.
use Rattle.std.proofs.Common.{◌≡◌, ℕ, Bool, true, false, List, [], ◌∷◌, ◌++◌, refl, sym, ◌∙◌, ap}
use Rattle.std.specs.Char.{to_ascii_lowercase}
use Rattle.std.specs.Str.{bytes_eq, str_eq_ignore_ascii_case, str_to_ascii_lowercase}
use Rattle.std.proofs.lemmas.List.{map-append}
use Rattle.std.proofs.lemmas.Slice.Eq.{bytes_eq-Decides}
use Rattle.de_mnemonics.specs.Places.{is_word_in_list}

pub same_from : (a b : List ℕ) → str_to_ascii_lowercase a ≡ str_to_ascii_lowercase b → str_eq_ignore_ascii_case a b ≡ true
same_from a b e = (bytes_eq-Decides (str_to_ascii_lowercase a) (str_to_ascii_lowercase b)).1 e

pub same_to : (a b : List ℕ) → str_eq_ignore_ascii_case a b ≡ true → str_to_ascii_lowercase a ≡ str_to_ascii_lowercase b
same_to a b e = (bytes_eq-Decides (str_to_ascii_lowercase a) (str_to_ascii_lowercase b)).0 e

pub itself : (a : List ℕ) → str_eq_ignore_ascii_case a a ≡ true
itself a = same_from a a refl

pub case_symmetric : (a b : List ℕ) → str_eq_ignore_ascii_case a b ≡ true → str_eq_ignore_ascii_case b a ≡ true
case_symmetric a b e = same_from b a (sym (same_to a b e))

-- the same bytes behind two texts
pub same_behind : (a b rest : List ℕ) → str_eq_ignore_ascii_case a b ≡ true → str_eq_ignore_ascii_case (a ++ rest) (b ++ rest) ≡ true
same_behind a b rest e = same_from (a ++ rest) (b ++ rest)
    (map-append to_ascii_lowercase a rest ∙ ap (λ (front : List ℕ). front ++ str_to_ascii_lowercase rest) (same_to a b e) ∙ sym (map-append to_ascii_lowercase b rest))

-- what one of two such texts is compared with, the other is too
pub same_text : (a b c : List ℕ) → str_eq_ignore_ascii_case a b ≡ true → str_eq_ignore_ascii_case a c ≡ str_eq_ignore_ascii_case b c
same_text a b c e = ap (λ (l : List ℕ). bytes_eq l (str_to_ascii_lowercase c)) (same_to a b e)

-- a word is in a list where such a word is
pub same_among : (table : List (List ℕ)) (a b : List ℕ) → str_eq_ignore_ascii_case a b ≡ true → is_word_in_list table a ≡ is_word_in_list table b
unfolding is_word_in_list
same_among [] a b e = refl
same_among (x ∷ xs) a b e = rw (same_text a b x e, same_among xs a b e) refl
