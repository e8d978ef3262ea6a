-- The least refusal of a list, taken part by part as a loop takes it.
use Rattle.std.proofs.Common.{ℕ, ◌≡◌, ◌<◌, ◌≤◌, ◌+◌, List, [], ◌∷◌, ◌++◌, Option, Some, None, true, false, refl, sym, ◌∙◌, ap, arith, length, drop, get_or, drop-cons, add-one, drop_of_length-le, subst, ⊎_elim}
use Rattle.std.specs.List.{flat_map, AllByRecursion}
use Rattle.std.proofs.lemmas.List.Elements.{Contains-append_right}
use Rattle.std.proofs.lemmas.Bool.{cases_Bool}
use Rattle.plc_base.specs.declared.refusals.Refusal.{Refusal}
use Rattle.plc_base.specs.Least.{least, lesser, is_refusal_before, IsLeastRefusal}

pub lesser_assoc : (a b c : Option Refusal) → lesser (lesser a b) c ≡ lesser a (lesser b c)
unfolding lesser
lesser_assoc None b c = refl
lesser_assoc (Some a) None c = refl
lesser_assoc (Some a) (Some b) None = grind arith
lesser_assoc (Some a) (Some b) (Some c) = grind arith

pub least-append : (xs ys : List Refusal) → least (xs ++ ys) ≡ lesser (least xs) (least ys)
unfolding lesser
least-append [] ys = refl
least-append (x ∷ xs) ys = ap (λ o. lesser (Some x) o) (least-append xs ys) ∙ sym (lesser_assoc (Some x) (least xs) (least ys))

-- one element more
pub least_turn : {X : Type 0} (f : X → List Refusal) (xs : List X) (i : ℕ) (d : X) (found : Option Refusal) → i < length xs →
    lesser (lesser found (least (f (get_or xs i d)))) (least (flat_map f (drop (i + 1) xs))) ≡ lesser found (least (flat_map f (drop i xs)))
least_turn {X = X} f xs i d found within =
    let split : drop i xs ≡ get_or xs i d ∷ drop (i + 1) xs = rw add-one (drop-cons xs i d within) in
    let whole : flat_map f (drop i xs) ≡ f (get_or xs i d) ++ flat_map f (drop (i + 1) xs) = rw split refl in
    rw whole (rw (least-append (f (get_or xs i d)) (flat_map f (drop (i + 1) xs))) (lesser_assoc found (least (f (get_or xs i d))) (least (flat_map f (drop (i + 1) xs)))))

pub lesser_first : (o : Option Refusal) → lesser None o ≡ o
unfolding lesser
lesser_first o = refl

drop_all : {X : Type 0} (xs : List X) → drop (length xs) xs ≡ []
drop_all [] = refl
drop_all (x ∷ xs) = grind (arith, drop_all xs)

-- at the end nothing is left
pub least_end : {X : Type 0} (f : X → List Refusal) (xs : List X) (found : Option Refusal) → lesser found (least (flat_map f (drop (length xs) xs))) ≡ found
unfolding lesser
least_end {X = X} f xs None = rw (drop_all xs) refl
least_end {X = X} f xs (Some r) = rw (drop_all xs) refl

least_cons_some : (r : Refusal) (o : Option Refusal) → lesser (Some r) o ≡ None → ⊥
unfolding lesser
least_cons_some r None e = cc
least_cons_some r (Some q) e = grind arith

pub least_none : (rs : List Refusal) → least rs ≡ None → rs ≡ []
least_none [] e = refl
least_none (r ∷ rs) e = absurd (least_cons_some r (least rs) e)

-- none that is before a lesser one is before
all_after : (a b : Refusal) (rs : List Refusal) → is_refusal_before a b ≡ true → AllByRecursion (λ q. is_refusal_before q a ≡ false) rs → AllByRecursion (λ q. is_refusal_before q a ≡ false) rs
all_after a b rs e h = h

not_before : (a b : Refusal) → is_refusal_before b a ≡ true → is_refusal_before a b ≡ false
not_before a b e = grind arith

not_self : (a : Refusal) → is_refusal_before a a ≡ false
not_self a = grind arith

after_all : (a b : Refusal) (rs : List Refusal) → is_refusal_before b a ≡ false → AllByRecursion (λ q. is_refusal_before q b ≡ false) rs → AllByRecursion (λ q. is_refusal_before q a ≡ false) rs
after_all a b [] e h = tt
after_all a b (q ∷ rs) e h = (let here = h.0 in grind arith, after_all a b rs e h.1)

least_step : (q : Refusal) (rs : List Refusal) (o : Option Refusal) (r : Refusal) → least rs ≡ o → ((s : Refusal) → o ≡ Some s → IsLeastRefusal rs s) → lesser (Some q) o ≡ Some r → IsLeastRefusal (q ∷ rs) r
unfolding lesser
least_step q rs None r is_o later e =
    let same : q ≡ r = cc in
    let none : rs ≡ [] = least_none rs is_o in
    subst (λ (s : Refusal). IsLeastRefusal (q ∷ rs) s) same (subst (λ (l : List Refusal). IsLeastRefusal (q ∷ l) q) (sym none) ((0, omega arith, refl), (not_self q, tt)))
least_step q rs (Some s) r is_o later e =
    ⊎_elim
    (λ y.
    let same : s ≡ r = let taken = rw y at e in cc in
    subst (λ (t : Refusal). IsLeastRefusal (q ∷ rs) t) same (Contains-append_right (q ∷ []) rs s (later s refl).0, (not_before q s y, (later s refl).1)))
    (λ n.
    let same : q ≡ r = let taken = rw n at e in cc in
    subst (λ (t : Refusal). IsLeastRefusal (q ∷ rs) t) same ((0, omega arith, refl), (not_self q, after_all q s rs n (later s refl).1)))
    (cases_Bool (is_refusal_before s q))

pub least_some : (rs : List Refusal) (r : Refusal) → least rs ≡ Some r → IsLeastRefusal rs r
least_some [] r e = cc
least_some (q ∷ rs) r e = least_step q rs (least rs) r refl (λ s h. least_some rs s h) e

-- a turn of a loop that keeps the least
pub least_next : {X : Type 0} (f : X → List Refusal) (xs : List X) (i : ℕ) (x : X) (found one next : Option Refusal) → i < length xs → x ≡ get_or xs i x →
    one ≡ least (f x) → next ≡ lesser found one → lesser found (least (flat_map f (drop i xs))) ≡ least (flat_map f xs) →
    lesser next (least (flat_map f (drop (i + 1) xs))) ≡ least (flat_map f xs)
least_next {X = X} f xs i x found one next within is_x is_one is_next so_far =
    ap (λ (o : Option Refusal). lesser o (least (flat_map f (drop (i + 1) xs)))) (is_next ∙ ap (λ (o : Option Refusal). lesser found o) (is_one ∙ ap (λ (y : X). least (f y)) is_x))
    ∙ least_turn f xs i x found within ∙ so_far

pub least_done : {X : Type 0} (f : X → List Refusal) (xs : List X) (i : ℕ) (found : Option Refusal) → length xs ≤ i →
    lesser found (least (flat_map f (drop i xs))) ≡ least (flat_map f xs) → found ≡ least (flat_map f xs)
least_done {X = X} f xs i found over so_far =
    let none : drop i xs ≡ [] = drop_of_length-le xs over in
    let left : lesser found (least (flat_map f [])) ≡ found = ap (λ (l : List X). lesser found (least (flat_map f l))) (sym (drop_all xs)) ∙ least_end f xs found in
    sym left ∙ ap (λ (l : List X). lesser found (least (flat_map f l))) (sym none) ∙ so_far

pub lesser_nothing : (o : Option Refusal) → lesser o None ≡ o
unfolding lesser
lesser_nothing None = refl
lesser_nothing (Some r) = refl
