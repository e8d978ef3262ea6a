-- A list that is in order comes back into it from any other order.
use Rattle.std.proofs.Common.{◌≡◌, Bool, true, false, cond, ◌||◌, List, [], ◌∷◌, refl, sym, ap, ◌∙◌}
use Rattle.std.specs.List.{AllByRecursion}
use Rattle.stl_codegen.specs.Order.{sorted_insertion, sorted_list}
use Rattle.sem_kept.proofs.accepted.RecordOrder.{AreApart, Differ, Rise, RiseFrom}
use Rattle.listing_laws.proofs.OrderLemmas.{InOrder, all_sorted, in_order}

past : {A : Type 0} (lt : A → A → Bool) (x y : A) (ys : List A) → lt y x ≡ true → sorted_insertion lt x (y ∷ ys) ≡ y ∷ sorted_insertion lt x ys
past lt x y ys h = rw h refl

here : {A : Type 0} (lt : A → A → Bool) (x y : A) (ys : List A) → lt y x ≡ false → sorted_insertion lt x (y ∷ ys) ≡ x ∷ y ∷ ys
here lt x y ys h = rw h refl

-- an order in which what comes first doesn't come last, and comes before what comes behind that
pub record IsOrder {A : Type 0} (lt : A → A → Bool) : Type 0 where
  pub one_way : (a b : A) → lt a b ≡ true → lt b a ≡ false
  pub chain : (a b c : A) → lt a b ≡ true → lt b c ≡ true → lt a c ≡ true

-- two that differ are put into a list in either order
insertions_swapped : {A : Type 0} (lt : A → A → Bool) → IsOrder lt → (x y : A) (ws : List A) → lt x y ≡ true → sorted_insertion lt x (sorted_insertion lt y ws) ≡ sorted_insertion lt y (sorted_insertion lt x ws)
insertions_swapped lt o x y [] h = here lt x y [] (o.one_way x y h) ∙ sym (past lt y x [] h)
insertions_swapped {A = A} lt o x y (w ∷ ws) h = by (lt w x) (lt w y) refl refl (insertions_swapped lt o x y ws h)
  where
    by : (a b : Bool) → lt w x ≡ a → lt w y ≡ b → sorted_insertion lt x (sorted_insertion lt y ws) ≡ sorted_insertion lt y (sorted_insertion lt x ws)
        → sorted_insertion lt x (cond b (w ∷ sorted_insertion lt y ws) (y ∷ w ∷ ws)) ≡ sorted_insertion lt y (cond a (w ∷ sorted_insertion lt x ws) (x ∷ w ∷ ws))
    by true true e f more = past lt x w (sorted_insertion lt y ws) e ∙ ap (λ (z : List A). w ∷ z) more ∙ sym (past lt y w (sorted_insertion lt x ws) f)
    by true false e f more = let other : lt w y ≡ true = o.chain w x y e h in absurd cc
    by false true e f more = here lt x w (sorted_insertion lt y ws) e ∙ ap (λ (z : List A). x ∷ z) (sym (past lt y w ws f)) ∙ sym (past lt y x (w ∷ ws) h)
    by false false e f more = here lt x y (w ∷ ws) (o.one_way x y h) ∙ ap (λ (z : List A). x ∷ z) (sym (here lt y w ws f)) ∙ sym (past lt y x (w ∷ ws) h)

either : {A : Type 0} (lt : A → A → Bool) → IsOrder lt → (x y : A) (ws : List A) → Differ lt x y → sorted_insertion lt x (sorted_insertion lt y ws) ≡ sorted_insertion lt y (sorted_insertion lt x ws)
either lt o x y ws h = by (lt x y) (lt y x) refl refl h
  where
    by : (a b : Bool) → lt x y ≡ a → lt y x ≡ b → (a || b) ≡ true → sorted_insertion lt x (sorted_insertion lt y ws) ≡ sorted_insertion lt y (sorted_insertion lt x ws)
    by true b e f h = insertions_swapped lt o x y ws e
    by false true e f h = sym (insertions_swapped lt o y x ws f)
    by false false e f h = absurd cc

insertion_moved : {A : Type 0} (lt other : A → A → Bool) → IsOrder lt → (x : A) (ys : List A) → AllByRecursion (Differ lt x) ys → sorted_list lt (sorted_insertion other x ys) ≡ sorted_insertion lt x (sorted_list lt ys)
unfolding sorted_list
insertion_moved lt other o x [] h = refl
insertion_moved lt other o x (y ∷ ys) h = by (other y x) (insertion_moved lt other o x ys h.1)
  where
    by : (b : Bool) → sorted_list lt (sorted_insertion other x ys) ≡ sorted_insertion lt x (sorted_list lt ys)
        → sorted_list lt (cond b (y ∷ sorted_insertion other x ys) (x ∷ y ∷ ys)) ≡ sorted_insertion lt x (sorted_insertion lt y (sorted_list lt ys))
    by true more = ap (sorted_insertion lt y) more ∙ sym (either lt o x y (sorted_list lt ys) h.0)
    by false more = refl

list_resorted : {A : Type 0} (lt other : A → A → Bool) → IsOrder lt → (xs : List A) → AreApart lt xs → sorted_list lt (sorted_list other xs) ≡ sorted_list lt xs
unfolding sorted_list
list_resorted lt other o [] h = refl
list_resorted lt other o (x ∷ xs) h =
    insertion_moved lt other o x (sorted_list other xs) (all_sorted (Differ lt x) other xs h.0) ∙ ap (sorted_insertion lt x) (list_resorted lt other o xs h.1)

-- ---- what rises is in order

later : {A : Type 0} (lt : A → A → Bool) → IsOrder lt → (x y : A) (ys : List A) → lt x y ≡ true → RiseFrom lt y ys → AllByRecursion (Differ lt x) ys
later lt o x y [] h rise = tt
later lt o x y (z ∷ zs) h rise =
    let next = o.chain x y z h rise.0 in
    (ap (λ b. b || lt z x) next, later lt o x z zs next rise.1)

behind_apart : {A : Type 0} (lt : A → A → Bool) → IsOrder lt → (x : A) (xs : List A) → RiseFrom lt x xs → AreApart lt (x ∷ xs)
behind_apart lt o x [] rise = (tt, tt)
behind_apart lt o x (y ∷ ys) rise = ((ap (λ b. b || lt y x) rise.0, later lt o x y ys rise.0 rise.1), behind_apart lt o y ys rise.1)

rise_apart : {A : Type 0} (lt : A → A → Bool) → IsOrder lt → (xs : List A) → Rise lt xs → AreApart lt xs
rise_apart lt o [] rise = tt
rise_apart lt o (x ∷ xs) rise = behind_apart lt o x xs rise

behind_order : {A : Type 0} (lt : A → A → Bool) → IsOrder lt → (x : A) (xs : List A) → RiseFrom lt x xs → InOrder lt (x ∷ xs)
behind_order lt o x [] rise = (tt, tt)
behind_order lt o x (y ∷ ys) rise = (o.one_way x y rise.0, behind_order lt o y ys rise.1)

rise_order : {A : Type 0} (lt : A → A → Bool) → IsOrder lt → (xs : List A) → Rise lt xs → InOrder lt xs
rise_order lt o [] rise = tt
rise_order lt o (x ∷ xs) rise = behind_order lt o x xs rise

pub back_in_order : {A : Type 0} (lt other : A → A → Bool) → IsOrder lt → (xs : List A) → Rise lt xs → sorted_list lt (sorted_list other xs) ≡ xs
back_in_order lt other o xs rise = list_resorted lt other o xs (rise_apart lt o xs rise) ∙ in_order lt xs (rise_order lt o xs rise)
