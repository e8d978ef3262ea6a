-- The names in a listed block are apart.
use Rattle.std.proofs.Common.{◌≡◌, ℕ, suc, ◌<◌, ◌≤◌, ◌^◌, Bool, true, false, List, [], ◌∷◌, map, decimal, Option, Some, None, refl, sym, ap, ◌∙◌, arith}
use Rattle.std.specs.Prelude.{is_some}
use Rattle.std.specs.Char.{is_ascii_digit, to_ascii_uppercase}
use Rattle.std.specs.List.{AllByRecursion, list_all}
use Rattle.std.specs.Option.{option_map}
use Rattle.std.specs.Str.{bytes_eq}
use Rattle.std.proofs.lemmas.Bool.{and_parts, false_from_ne_true}
use Rattle.std.proofs.lemmas.Bool.Decides.{nat_tests}
use Rattle.std.proofs.lemmas.Slice.Eq.{bytes_eq-Decides}
use Rattle.plc_base.specs.Folding.{upper_case_name}
use Rattle.block_layout.specs.Around.{ret_val}
use Rattle.plc_base.specs.Decimal.{decimal_value}
use Rattle.stl_list.specs.Parameters.{parameter_name}
use Rattle.stl_list.specs.Sections.{static_name, temporary_name}
use Rattle.stl_symbols.specs.Names.{name_place}
use Rattle.print_laws.proofs.lexing.Numerals.{numeral}

-- digits have no case
digit_same : (d : ℕ) → is_ascii_digit d ≡ true → to_ascii_uppercase d ≡ d
digit_same d e = grind (arith, nat_tests)

digits_same : (ds : List ℕ) → list_all is_ascii_digit ds ≡ true → map to_ascii_uppercase ds ≡ ds
digits_same [] e = refl
digits_same (d ∷ ds) e =
    let parts = and_parts (is_ascii_digit d) (list_all is_ascii_digit ds) e in
    rw (digit_same d parts.0, digits_same ds parts.1) refl

pub folded_parameter : (n : ℕ) → n < 2 ^ 64 → upper_case_name (parameter_name n) ≡ 80 ∷ decimal n
folded_parameter n h = ap (λ ds. 80 ∷ ds) (digits_same (decimal n) (numeral n h).digits)

without_first : List ℕ → List ℕ
without_first [] = []
without_first (b ∷ bs) = bs

-- two parameters of one name are one
same_parameter : (m n : ℕ) → m < 2 ^ 64 → n < 2 ^ 64 → upper_case_name (parameter_name m) ≡ upper_case_name (parameter_name n) → m ≡ n
unfolding without_first
same_parameter m n h k e =
    let digits : decimal m ≡ decimal n = ap without_first (sym (folded_parameter m h) ∙ e ∙ folded_parameter n k) in
    sym (numeral m h).value ∙ ap decimal_value digits ∙ (numeral n k).value

pub parameters_apart : (m n : ℕ) → m < 2 ^ 64 → n < m → bytes_eq (upper_case_name (parameter_name m)) (upper_case_name (parameter_name n)) ≡ false
parameters_apart m n h less =
    false_from_ne_true (bytes_eq (upper_case_name (parameter_name m)) (upper_case_name (parameter_name n))) (λ is. below (same_parameter m n h (omega (arith, h, less)) ((bytes_eq-Decides _ _).0 is)))
  where
    below : m ≡ n → ⊥
    below e = omega (arith, e, less)

-- ---- names that stand in a list of sections

-- the return value, a parameter of a lower number, or what VAR holds
pub data IsTaken (count : ℕ) (static_ : Bool) (name : List ℕ) : Type 0 where
  Returned : name ≡ ret_val → IsTaken count static_ name
  Numbered : (n : ℕ) → n < count → n < 2 ^ 64 → name ≡ upper_case_name (parameter_name n) → IsTaken count static_ name
  Static : static_ ≡ true → name ≡ upper_case_name static_name → IsTaken count static_ name

abbrev pub AreTaken : (count : ℕ) → (static_ : Bool) → List (List ℕ) → Type 0
AreTaken count static_ names = AllByRecursion (IsTaken count static_) names

one_apart : (m : ℕ) (static_ : Bool) (name : List ℕ) → m < 2 ^ 64 → IsTaken m static_ name → bytes_eq (upper_case_name (parameter_name m)) name ≡ false
one_apart m static_ name h (Returned e) = ap (λ n. bytes_eq (upper_case_name (parameter_name m)) n) e ∙ refl
one_apart m static_ name h (Numbered n less small e) = ap (λ k. bytes_eq (upper_case_name (parameter_name m)) k) e ∙ parameters_apart m n h less
one_apart m static_ name h (Static is e) = ap (λ n. bytes_eq (upper_case_name (parameter_name m)) n) e ∙ refl

static_apart : (count : ℕ) (name : List ℕ) → IsTaken count false name → bytes_eq (upper_case_name static_name) name ≡ false
static_apart count name (Returned e) = ap (λ n. bytes_eq (upper_case_name static_name) n) e
static_apart count name (Numbered n less small e) = ap (λ k. bytes_eq (upper_case_name static_name) k) e
static_apart count name (Static is e) = absurd cc

temporary_apart : (count : ℕ) (static_ : Bool) (name : List ℕ) → IsTaken count static_ name → bytes_eq (upper_case_name temporary_name) name ≡ false
temporary_apart count static_ name (Returned e) = ap (λ n. bytes_eq (upper_case_name temporary_name) n) e
temporary_apart count static_ name (Numbered n less small e) = ap (λ k. bytes_eq (upper_case_name temporary_name) k) e
temporary_apart count static_ name (Static is e) = ap (λ n. bytes_eq (upper_case_name temporary_name) n) e

-- a name that differs from each has no place among them
not_found : (P : List ℕ → Type 0) (name : List ℕ) (names : List (List ℕ)) → ((m : List ℕ) → P m → bytes_eq name m ≡ false) → AllByRecursion P names → is_some (name_place name names) ≡ false
not_found P name [] apart h = refl
not_found P name (m ∷ names) apart (one, more) =
    let other = apart m one in
    rw other (by (name_place name names) (not_found P name names apart more))
  where
    by : (o : Option ℕ) → is_some o ≡ false → is_some (option_map (λ k. suc k) o) ≡ false
    by None e = refl
    by (Some k) e = absurd cc

pub parameter_new : (m : ℕ) (static_ : Bool) (names : List (List ℕ)) → m < 2 ^ 64 → AreTaken m static_ names → is_some (name_place (upper_case_name (parameter_name m)) names) ≡ false
parameter_new m static_ names h taken = not_found (IsTaken m static_) (upper_case_name (parameter_name m)) names (λ n is. one_apart m static_ n h is) taken

pub static_new : (count : ℕ) (names : List (List ℕ)) → AreTaken count false names → is_some (name_place (upper_case_name static_name) names) ≡ false
static_new count names taken = not_found (IsTaken count false) (upper_case_name static_name) names (static_apart count) taken

pub temporary_new : (count : ℕ) (static_ : Bool) (names : List (List ℕ)) → AreTaken count static_ names → is_some (name_place (upper_case_name temporary_name) names) ≡ false
temporary_new count static_ names taken = not_found (IsTaken count static_) (upper_case_name temporary_name) names (temporary_apart count static_) taken

-- more may be taken
pub taken_more : (m n : ℕ) (static_ : Bool) (names : List (List ℕ)) → m ≤ n → AreTaken m static_ names → AreTaken n static_ names
taken_more m n static_ [] h taken = tt
taken_more m n static_ (name ∷ names) h (one, more) = (one_more one, taken_more m n static_ names h more)
  where
    one_more : IsTaken m static_ name → IsTaken n static_ name
    one_more (Returned e) = Returned e
    one_more (Numbered k less small e) = Numbered k (omega (arith, less, h)) small e
    one_more (Static is e) = Static is e

pub taken_static : (n : ℕ) (names : List (List ℕ)) → AreTaken n false names → AreTaken n true names
taken_static n [] taken = tt
taken_static n (name ∷ names) (one, more) = (one_more one, taken_static n names more)
  where
    one_more : IsTaken n false name → IsTaken n true name
    one_more (Returned e) = Returned e
    one_more (Numbered k less small e) = Numbered k less small e
    one_more (Static is e) = absurd cc
