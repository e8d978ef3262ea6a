-- Look-ups in tables whose entries are first made plain.
use Rattle.std.proofs.Common.{ℕ, ◌≡◌, Bool, true, false, List, [], ◌∷◌, Option, Some, None, refl, ◌||◌, map, find, cond, ap}
use Rattle.std.specs.List.{list_any}
use Rattle.std.specs.Option.{option_map}
use Rattle.de_mnemonics.specs.Words.{IsFoundAsWanted}

pub found_beside : {A B P : Type 0} (pick : A → P) (test : P → Bool) (wanted : P → List ℕ) (value : A → B) (bytes : B → List ℕ)
    → ((a : A) → wanted (pick a) ≡ bytes (value a)) → (xs : List A)
    → IsFoundAsWanted bytes (option_map wanted (find test (map pick xs))) (option_map value (find (λ a. test (pick a)) xs))
found_beside pick test wanted value bytes same [] = refl
found_beside {A} {B} {P} pick test wanted value bytes same (x ∷ xs) =
    let Test : Bool → Type 0 = λ b.
    IsFoundAsWanted bytes (option_map wanted (cond b (Some (pick x)) (find test (map pick xs)))) (option_map value (cond b (Some x) (find (λ a. test (pick a)) xs))) in
    elim (test (pick x)) as Test [ true ↦ ap Some (same x) | false ↦ found_beside pick test wanted value bytes same xs ]

pub any-map : {A P : Type 0} (pick : A → P) (test : P → Bool) (xs : List A) → list_any test (map pick xs) ≡ list_any (λ a. test (pick a)) xs
any-map pick test [] = refl
any-map pick test (x ∷ xs) = ap (λ b. test (pick x) || b) (any-map pick test xs)
