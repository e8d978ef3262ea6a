-- Labels of parameters.
use Rattle.std.proofs.Common.{◌≡◌, ℕ, ◌+◌, ◌<◌, ◌≤◌, eqb, Bool, true, false, cond, List, [], ◌∷◌, ◌++◌, length, map, take, drop, get_or, set, refl, sym, ap, ◌∙◌, arith}
use Rattle.std.proofs.lemmas.Bool.Decides.{nat_tests}
use Rattle.std.proofs.lemmas.List.{append-nil, drop_all, take_all}
use Rattle.std.proofs.lemmas.List.Edits.{map_over_more}
use Rattle.std.proofs.lemmas.List.{get_or_default}
use Rattle.stl_list.specs.JoinedParameters.{replaced_label}

replaced_here : (a label : ℕ) → (b : Bool) → eqb label a ≡ b → cond b a label ≡ label
replaced_here a label true e = let same : label ≡ a = grind (arith, nat_tests) in sym same
replaced_here a label false e = refl

replaced_all : (a : ℕ) (labels : List ℕ) → map (replaced_label a a) labels ≡ labels
replaced_all a [] = refl
replaced_all a (label ∷ labels) =
    ap (λ (l : ℕ). l ∷ map (replaced_label a a) labels) (replaced_here a label (eqb label a) refl)
    ∙ ap (λ (ls : List ℕ). label ∷ ls) (replaced_all a labels)

-- a label that gives way to itself stays
pub replaced_by_itself : (from to : ℕ) (labels : List ℕ) → from ≡ to → map (replaced_label from to) labels ≡ labels
replaced_by_itself from to labels same = ap (λ (k : ℕ). map (replaced_label from k) labels) (sym same) ∙ replaced_all from labels

-- what is mapped in place
pub mapped_more : {A : Type 0} (f : A → A) (xs ys : List A) (i : ℕ) (d : A) → i < length xs → length ys ≡ length xs
    → ys ≡ map f (take i xs) ++ drop i xs → set ys i (f (get_or ys i d)) ≡ map f (take (i + 1) xs) ++ drop (i + 1) xs
mapped_more f xs ys i d lt same e =
    let within : i < length ys = omega (arith, same) in
    map_over_more f xs ys i (get_or ys i d) lt e (get_or_default ys i d (get_or ys i d) within)

pub mapped_all : {A : Type 0} (f : A → A) (xs ys : List A) (i : ℕ) → length xs ≤ i → ys ≡ map f (take i xs) ++ drop i xs → ys ≡ map f xs
mapped_all f xs ys i past e = e ∙ simp (take_all i xs past, drop_all i xs past, append-nil)
