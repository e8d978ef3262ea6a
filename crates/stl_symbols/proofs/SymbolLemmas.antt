-- Symbols by their names.
use Rattle.std.proofs.Common.{ℕ, suc, ◌≡◌, ◌≤◌, ◌<◌, List, [], ◌∷◌, Option, Some, None, true, false, refl, sym, ◌∙◌, ap, arith, map, slice_get, length, All, ⊎_elim}
use Rattle.std.specs.Option.{option_and_then, option_map}
use Rattle.std.specs.Char.{to_ascii_uppercase}
use Rattle.std.proofs.lemmas.Bool.{cases_Bool, false_from_ne_true}
use Rattle.std.proofs.lemmas.List.{length-map}
use Rattle.std.proofs.lemmas.Slice.Eq.{bytes_eq-Decides}
use Rattle.plc_base.specs.Folding.{upper_case_name, is_same_name}
use Rattle.stl_symbols.specs.Names.{name_place}
use Rattle.stl_symbols.specs.Symbol.{Symbol, symbol_named}

next : (s : Symbol) (list : List Symbol) (o : Option ℕ) → option_and_then (λ k. slice_get list k) o ≡ option_and_then (λ k. slice_get (s ∷ list) k) (option_map (λ k. suc k) o)
next s list None = refl
next s list (Some k) = refl

-- the first symbol of a name stands at the first place of its folded name
pub symbol_placed : (name : List ℕ) (list : List Symbol) → symbol_named name list ≡ option_and_then (λ k. slice_get list k) (name_place (upper_case_name name) (map (λ s. upper_case_name s.name) list))
unfolding symbol_named
symbol_placed name [] = refl
symbol_placed name (s ∷ list) =
    ⊎_elim
    (λ y. rw y refl)
    (λ n. rw n (symbol_placed name list ∙ next s list (name_place (upper_case_name name) (map (λ t. upper_case_name t.name) list))))
    (cases_Bool (is_same_name name s.name))

same_length : (a b : List ℕ) → is_same_name a b ≡ true → length a ≡ length b
same_length a b same =
    sym (length-map a to_ascii_uppercase) ∙ ap (λ (l : List ℕ). length l) ((bytes_eq-Decides (upper_case_name a) (upper_case_name b)).0 same) ∙ length-map b to_ascii_uppercase

other_length : (a b : List ℕ) → length b < length a → is_same_name a b ≡ false
other_length a b longer = false_from_ne_true (is_same_name a b) (λ y. omega (arith, same_length a b y, longer))

-- no symbol has a name that is longer than all
pub no_long_name : (name : List ℕ) (list : List Symbol) → All (λ symbol. length symbol.name ≤ 24) list → 24 < length name → symbol_named name list ≡ None
unfolding symbol_named
no_long_name name [] short long = refl
no_long_name name (s ∷ list) short long =
    let first : length s.name ≤ 24 = short 0 s (omega arith) in
    rw (other_length name s.name (omega (arith, first, long))) (no_long_name name list (λ k d within. short (suc k) d (omega (arith, within))) long)
