-- What a stable sort keeps, and that what stands in order stays.
use Rattle.std.proofs.Common.{◌≡◌, suc, Bool, true, false, cond, List, [], ◌∷◌, length, refl, ap, ◌∙◌}
use Rattle.std.specs.List.{AllByRecursion}
use Rattle.stl_codegen.specs.Order.{sorted_insertion, sorted_list}

pub all_inserted : {A : Type 0} (P : A → Type 0) (lt : A → A → Bool) (x : A) (ys : List A) → P x → AllByRecursion P ys → AllByRecursion P (sorted_insertion lt x ys)
all_inserted P lt x [] h k = (h, tt)
all_inserted P lt x (y ∷ ys) h k = by (lt y x) (all_inserted P lt x ys h k.1)
  where
    by : (b : Bool) → AllByRecursion P (sorted_insertion lt x ys) → AllByRecursion P (cond b (y ∷ sorted_insertion lt x ys) (x ∷ y ∷ ys))
    by true more = (k.0, more)
    by false more = (h, k)

pub all_sorted : {A : Type 0} (P : A → Type 0) (lt : A → A → Bool) (xs : List A) → AllByRecursion P xs → AllByRecursion P (sorted_list lt xs)
unfolding sorted_list
all_sorted P lt [] h = tt
all_sorted P lt (x ∷ xs) h = all_inserted P lt x (sorted_list lt xs) h.0 (all_sorted P lt xs h.1)

-- each two of a list, the later one first
abbrev pub Pairs : {A : Type 0} → (A → A → Type 0) → List A → Type 0
Pairs R [] = Unit {0}
Pairs R (x ∷ xs) = AllByRecursion (λ y. R y x) xs × Pairs R xs

pub pairs_inserted : {A : Type 0} (R : A → A → Type 0) → ((a b : A) → R a b → R b a) → (lt : A → A → Bool) (x : A) (ys : List A)
    → AllByRecursion (λ y. R y x) ys → Pairs R ys → Pairs R (sorted_insertion lt x ys)
pairs_inserted R turned lt x [] h k = (tt, tt)
pairs_inserted R turned lt x (y ∷ ys) h k = by (lt y x) (pairs_inserted R turned lt x ys h.1 k.1)
  where
    by : (b : Bool) → Pairs R (sorted_insertion lt x ys) → Pairs R (cond b (y ∷ sorted_insertion lt x ys) (x ∷ y ∷ ys))
    by true more = (all_inserted (λ f. R f y) lt x ys (turned y x h.0) k.0, more)
    by false more = (h, k)

pub pairs_sorted : {A : Type 0} (R : A → A → Type 0) → ((a b : A) → R a b → R b a) → (lt : A → A → Bool) (xs : List A) → Pairs R xs → Pairs R (sorted_list lt xs)
unfolding sorted_list
pairs_sorted R turned lt [] h = tt
pairs_sorted R turned lt (x ∷ xs) h = pairs_inserted R turned lt x (sorted_list lt xs) (all_sorted (λ y. R y x) lt xs h.0) (pairs_sorted R turned lt xs h.1)

length_inserted : {A : Type 0} (lt : A → A → Bool) (x : A) (ys : List A) → length (sorted_insertion lt x ys) ≡ suc (length ys)
length_inserted lt x [] = refl
length_inserted lt x (y ∷ ys) = by (lt y x) (length_inserted lt x ys)
  where
    by : (b : Bool) → length (sorted_insertion lt x ys) ≡ suc (length ys) → length (cond b (y ∷ sorted_insertion lt x ys) (x ∷ y ∷ ys)) ≡ suc (suc (length ys))
    by true more = ap (λ n. suc n) more
    by false more = refl

pub length_sorted : {A : Type 0} (lt : A → A → Bool) (xs : List A) → length (sorted_list lt xs) ≡ length xs
unfolding sorted_list
length_sorted lt [] = refl
length_sorted lt (x ∷ xs) = length_inserted lt x (sorted_list lt xs) ∙ ap (λ n. suc n) (length_sorted lt xs)

-- the first of these, if any, doesn't come before x
abbrev pub Heads : {A : Type 0} → (A → A → Bool) → A → List A → Type 0
Heads lt x [] = Unit {0}
Heads lt x (y ∷ ys) = lt y x ≡ false

abbrev pub InOrder : {A : Type 0} → (A → A → Bool) → List A → Type 0
InOrder lt [] = Unit {0}
InOrder lt (x ∷ xs) = Heads lt x xs × InOrder lt xs

heads_inserted : {A : Type 0} (lt : A → A → Bool) (y x : A) (ys : List A) → lt x y ≡ false → Heads lt y ys → Heads lt y (sorted_insertion lt x ys)
heads_inserted lt y x [] h k = h
heads_inserted lt y x (z ∷ zs) h k = by (lt z x)
  where
    by : (b : Bool) → Heads lt y (cond b (z ∷ sorted_insertion lt x zs) (x ∷ z ∷ zs))
    by true = k
    by false = h

order_inserted : {A : Type 0} (lt : A → A → Bool) → ((a b : A) → lt a b ≡ true → lt b a ≡ false) → (x : A) (ys : List A) → InOrder lt ys → InOrder lt (sorted_insertion lt x ys)
order_inserted lt one_way x [] h = (tt, tt)
order_inserted lt one_way x (y ∷ ys) h = by (lt y x) refl (order_inserted lt one_way x ys h.1)
  where
    by : (b : Bool) → lt y x ≡ b → InOrder lt (sorted_insertion lt x ys) → InOrder lt (cond b (y ∷ sorted_insertion lt x ys) (x ∷ y ∷ ys))
    by true e more = (heads_inserted lt y x ys (one_way y x e) h.0, more)
    by false e more = (e, h)

pub order_sorted : {A : Type 0} (lt : A → A → Bool) → ((a b : A) → lt a b ≡ true → lt b a ≡ false) → (xs : List A) → InOrder lt (sorted_list lt xs)
unfolding sorted_list
order_sorted lt one_way [] = tt
order_sorted lt one_way (x ∷ xs) = order_inserted lt one_way x (sorted_list lt xs) (order_sorted lt one_way xs)

inserted_first : {A : Type 0} (lt : A → A → Bool) (x : A) (ys : List A) → Heads lt x ys → sorted_insertion lt x ys ≡ x ∷ ys
inserted_first lt x [] h = refl
inserted_first lt x (y ∷ ys) h = rw h refl

pub in_order : {A : Type 0} (lt : A → A → Bool) (xs : List A) → InOrder lt xs → sorted_list lt xs ≡ xs
unfolding sorted_list
in_order lt [] h = refl
in_order lt (x ∷ xs) h = ap (sorted_insertion lt x) (in_order lt xs h.1) ∙ inserted_first lt x xs h.0
