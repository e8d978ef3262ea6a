-- A stable sort puts records in the order of the definition.
use Rattle.std.proofs.Common.{◌≡◌, ℕ, suc, ◌<◌, ◌≤◌, Bool, true, false, cond, eqb, ltb, not, ◌&&◌, ◌||◌, List, [], ◌∷◌, length, get_or, map, refl, sym, ap, ◌∙◌, arith}
use Rattle.std.specs.Cmp.{IsStrictWeakOrder}
use Rattle.std.specs.Cmp.Lexicographic.{slice_cmp}
use Rattle.std.specs.List.{filter}
use Rattle.std.specs.List.Sorted.{IsSortedBy, IsStableBy, ties}
use Rattle.std.specs.Ordering.{is_lt, nat_cmp}
use Rattle.std.proofs.lemmas.Bool.Decides.{nat_tests}
use Rattle.std.proofs.lemmas.Cmp.{nat_list_cmp_total}
use Rattle.std.proofs.lemmas.List.Sorted.{IsStrictWeakOrder-by_number, ranks_by, sorted_far}
use Rattle.plc_base.specs.Kinds.{kind_number}
use Rattle.flat_code.specs.Programs.{CodeBlock, NameEntry}
use Rattle.flat_code.proofs.NameLemmas.{before_is_less}
use Rattle.stl_codegen.specs.CompiledBlock.{StatedBlock, compiled_block}
use Rattle.stl_codegen.specs.Order.{is_block_before, is_code_before, is_data_before, is_entry_before, sorted_insertion, sorted_list}

-- ---- in order, by recursion

-- none of them comes before x
NoneBefore : {A : Type 0} → (A → A → Bool) → A → List A → Type 0
NoneBefore lt x [] = Unit {0}
NoneBefore lt x (y ∷ ys) = (lt y x ≡ false) × NoneBefore lt x ys

Rises : {A : Type 0} → (A → A → Bool) → List A → Type 0
Rises lt [] = Unit {0}
Rises lt (x ∷ xs) = NoneBefore lt x xs × Rises lt xs

none_from : {A : Type 0} (lt : A → A → Bool) (x : A) (ys : List A) → ((j : ℕ) (d : A) → j < length ys → lt (get_or ys j d) x ≡ false) → NoneBefore lt x ys
unfolding NoneBefore
none_from lt x [] h = tt
none_from lt x (y ∷ ys) h = (h 0 x (omega arith), none_from lt x ys (λ j d lt. h (suc j) d (omega arith)))

rises_from : {A : Type 0} (lt : A → A → Bool) (xs : List A) → ((i j : ℕ) (d : A) → i ≤ j → j < length xs → lt (get_or xs j d) (get_or xs i d) ≡ false) → Rises lt xs
unfolding Rises
rises_from lt [] h = tt
rises_from lt (x ∷ xs) h = (none_from lt x xs (λ j d lt. h 0 (suc j) d (omega arith) (omega arith)), rises_from lt xs (λ i j d le lt. h (suc i) (suc j) d (omega arith) (omega arith)))

same_as_itself : {A : Type 0} (lt : A → A → Bool) → IsStrictWeakOrder lt → (x : A) → ties lt x x ≡ true
same_as_itself lt o x = by_test (lt x x) refl
  where
    by_test : (b : Bool) → lt x x ≡ b → ties lt x x ≡ true
    by_test true e = let f = o.one_way x x e in absurd cc
    by_test false e = rw e refl

-- ---- the definition is in order, and two that are alike stay as they stood

none_inserted : {A : Type 0} (lt : A → A → Bool) (y x : A) (ys : List A) → lt x y ≡ false → NoneBefore lt y ys → NoneBefore lt y (sorted_insertion lt x ys)
unfolding NoneBefore
none_inserted lt y x [] h none = (h, tt)
none_inserted lt y x (z ∷ zs) h none = by_test (lt z x) (none_inserted lt y x zs h none.1)
  where
    by_test : (b : Bool) → NoneBefore lt y (sorted_insertion lt x zs) → NoneBefore lt y (cond b (z ∷ sorted_insertion lt x zs) (x ∷ z ∷ zs))
    by_test true more = (none.0, more)
    by_test false more = (h, none)

none_chained : {A : Type 0} (lt : A → A → Bool) → IsStrictWeakOrder lt → (x y : A) (ys : List A) → lt y x ≡ false → NoneBefore lt y ys → NoneBefore lt x ys
unfolding NoneBefore
none_chained lt o x y [] h none = tt
none_chained lt o x y (z ∷ zs) h none = (o.chain z y x none.0 h, none_chained lt o x y zs h none.1)

rises_inserted : {A : Type 0} (lt : A → A → Bool) → IsStrictWeakOrder lt → (x : A) (ys : List A) → Rises lt ys → Rises lt (sorted_insertion lt x ys)
unfolding Rises NoneBefore
rises_inserted lt o x [] h = (tt, tt)
rises_inserted lt o x (y ∷ ys) h = by_test (lt y x) refl (rises_inserted lt o x ys h.1)
  where
    by_test : (b : Bool) → lt y x ≡ b → Rises lt (sorted_insertion lt x ys) → Rises lt (cond b (y ∷ sorted_insertion lt x ys) (x ∷ y ∷ ys))
    by_test true e more = (none_inserted lt y x ys (o.one_way y x e) h.0, more)
    by_test false e more = ((e, none_chained lt o x y ys e h.0), h)

rises_sorted : {A : Type 0} (lt : A → A → Bool) → IsStrictWeakOrder lt → (xs : List A) → Rises lt (sorted_list lt xs)
unfolding sorted_list Rises
rises_sorted lt o [] = tt
rises_sorted lt o (x ∷ xs) = rises_inserted lt o x (sorted_list lt xs) (rises_sorted lt o xs)

-- two that aren't both alike with a third may change places
filter_exchanged : {A : Type 0} (p : A → Bool) (x y : A) (zs : List A) → (p x ≡ true → p y ≡ true → ⊥) → filter p (y ∷ x ∷ zs) ≡ filter p (x ∷ y ∷ zs)
filter_exchanged p x y zs h = by_tests (p x) (p y) refl refl
  where
    by_tests : (a b : Bool) → p x ≡ a → p y ≡ b → filter p (y ∷ x ∷ zs) ≡ filter p (x ∷ y ∷ zs)
    by_tests true true e f = absurd (h e f)
    by_tests true false e f = rw (e, f) refl
    by_tests false true e f = rw (e, f) refl
    by_tests false false e f = rw (e, f) refl

tie_parts : (a b : Bool) → (not a && not b) ≡ true → (a ≡ false) × (b ≡ false)
tie_parts true b h = absurd cc
tie_parts false true h = absurd cc
tie_parts false false h = (refl, refl)

not_both : {A : Type 0} (lt : A → A → Bool) → IsStrictWeakOrder lt → (z x y : A) → lt y x ≡ true → ties lt z x ≡ true → ties lt z y ≡ true → ⊥
not_both lt o z x y e p q =
    let a = tie_parts (lt z x) (lt x z) p in
    let b = tie_parts (lt z y) (lt y z) q in
    let f = o.chain y z x b.1 a.0 in cc

kept_inserted : {A : Type 0} (lt : A → A → Bool) → IsStrictWeakOrder lt → (z x : A) (ys : List A) → filter (ties lt z) (sorted_insertion lt x ys) ≡ filter (ties lt z) (x ∷ ys)
kept_inserted lt o z x [] = refl
kept_inserted {A = A} lt o z x (y ∷ ys) = by_test (lt y x) refl (kept_inserted lt o z x ys)
  where
    by_test : (b : Bool) → lt y x ≡ b → filter (ties lt z) (sorted_insertion lt x ys) ≡ filter (ties lt z) (x ∷ ys) → filter (ties lt z) (cond b (y ∷ sorted_insertion lt x ys) (x ∷ y ∷ ys)) ≡ filter (ties lt z) (x ∷ y ∷ ys)
    by_test true e more =
        ap (λ (r : List A). cond (ties lt z y) (y ∷ r) r) more
        ∙ filter_exchanged (ties lt z) x y ys (not_both lt o z x y e)
    by_test false e more = refl

kept_sorted : {A : Type 0} (lt : A → A → Bool) → IsStrictWeakOrder lt → (z : A) (xs : List A) → filter (ties lt z) (sorted_list lt xs) ≡ filter (ties lt z) xs
unfolding sorted_list
kept_sorted lt o z [] = refl
kept_sorted {A = A} lt o z (x ∷ xs) =
    kept_inserted lt o z x (sorted_list lt xs)
    ∙ ap (λ (r : List A). cond (ties lt z x) (x ∷ r) r) (kept_sorted lt o z xs)

-- ---- such a list is the only one

heads : {A : Type 0} (x y : A) (xs ys : List A) → x ∷ xs ≡ y ∷ ys → (x ≡ y) × (xs ≡ ys)
heads x y xs ys e = (cc, cc)

-- the first one that is alike is one of them
alike_not_before : {A : Type 0} (lt : A → A → Bool) (p : A → Bool) (z y : A) (zs rest : List A) → NoneBefore lt z zs → filter p zs ≡ y ∷ rest → lt y z ≡ false
unfolding NoneBefore
alike_not_before lt p z y [] rest none e = absurd cc
alike_not_before {A = A} lt p z y (w ∷ ws) rest none e = by_test (p w) e (alike_not_before lt p z y ws rest none.1)
  where
    by_test : (b : Bool) → cond b (w ∷ filter p ws) (filter p ws) ≡ y ∷ rest → (filter p ws ≡ y ∷ rest → lt y z ≡ false) → lt y z ≡ false
    by_test true f more = ap (λ (v : A). lt v z) (sym (heads w y (filter p ws) rest f).0) ∙ none.0
    by_test false f more = more f

first_kept : {A : Type 0} (p : A → Bool) (x : A) (xs : List A) → p x ≡ true → filter p (x ∷ xs) ≡ x ∷ filter p xs
first_kept p x xs h = rw h refl

first_left_out : {A : Type 0} (p : A → Bool) (x : A) (xs : List A) → p x ≡ false → filter p (x ∷ xs) ≡ filter p xs
first_left_out p x xs h = rw h refl

behind_same : {A : Type 0} (p : A → Bool) (x : A) (xs ys : List A) → filter p (x ∷ xs) ≡ filter p (x ∷ ys) → filter p xs ≡ filter p ys
behind_same p x xs ys e = by_test (p x) e
  where
    by_test : (b : Bool) → cond b (x ∷ filter p xs) (filter p xs) ≡ cond b (x ∷ filter p ys) (filter p ys) → filter p xs ≡ filter p ys
    by_test true f = (heads x x (filter p xs) (filter p ys) f).1
    by_test false f = f

-- the first two are alike
first_ties : {A : Type 0} (lt : A → A → Bool) → IsStrictWeakOrder lt → (y z : A) (ys zs : List A) → NoneBefore lt y ys → NoneBefore lt z zs
    → ((x : A) → filter (ties lt x) (y ∷ ys) ≡ filter (ties lt x) (z ∷ zs)) → (b : Bool) → ties lt y z ≡ b → b ≡ true
first_ties lt o y z ys zs none none2 h true e = refl
first_ties lt o y z ys zs none none2 h false e =
    let other : ties lt z y ≡ false = turned (lt y z) (lt z y) ∙ e in
    let a : lt y z ≡ false = alike_not_before lt (ties lt y) z y zs (filter (ties lt y) ys) none2
    (sym (first_left_out (ties lt y) z zs e) ∙ sym (h y) ∙ first_kept (ties lt y) y ys (same_as_itself lt o y)) in
    let b : lt z y ≡ false = alike_not_before lt (ties lt z) y z ys (filter (ties lt z) zs) none
    (sym (first_left_out (ties lt z) y ys other) ∙ h z ∙ first_kept (ties lt z) z zs (same_as_itself lt o z)) in
    sym e ∙ rw (a, b) refl
  where
    turned : (a b : Bool) → (not b && not a) ≡ (not a && not b)
    turned true true = refl
    turned true false = refl
    turned false true = refl
    turned false false = refl

only_one : {A : Type 0} (lt : A → A → Bool) → IsStrictWeakOrder lt → (ys zs : List A) → Rises lt ys → Rises lt zs → ((x : A) → filter (ties lt x) ys ≡ filter (ties lt x) zs) → ys ≡ zs
unfolding Rises
only_one lt o [] [] up up2 h = refl
only_one lt o [] (z ∷ zs) up up2 h = let e = h z ∙ first_kept (ties lt z) z zs (same_as_itself lt o z) in absurd cc
only_one lt o (y ∷ ys) [] up up2 h = let e = sym (h y) ∙ first_kept (ties lt y) y ys (same_as_itself lt o y) in absurd cc
only_one {A = A} lt o (y ∷ ys) (z ∷ zs) up up2 h =
    let t : ties lt y z ≡ true = let b = first_ties lt o y z ys zs up.0 up2.0 h (ties lt y z) refl in b in
    let e : y ≡ z = (heads y z _ _ (sym (first_kept (ties lt y) y ys (same_as_itself lt o y)) ∙ h y ∙ first_kept (ties lt y) z zs t)).0 in
    let more : ys ≡ zs = only_one lt o ys zs up.1 up2.1 (λ x. behind_same (ties lt x) y ys zs (h x ∙ ap (λ (v : A). filter (ties lt x) (v ∷ zs)) (sym e))) in
    cc

pub is_sorted : {A : Type 0} (lt : A → A → Bool) → IsStrictWeakOrder lt → (xs ys : List A) → IsSortedBy lt ys → IsStableBy lt xs ys → ys ≡ sorted_list lt xs
is_sorted lt o xs ys up stable =
    only_one lt o ys (sorted_list lt xs) (rises_from lt ys (sorted_far lt o ys up)) (rises_sorted lt o xs) (λ x. stable x ∙ sym (kept_sorted lt o x xs))

-- ---- the three orders

abbrev pair_before : ℕ → ℕ → ℕ → ℕ → Bool
pair_before r n s m = ltb r s || eqb r s && ltb n m

pair_one_way : (r n s m : ℕ) → pair_before r n s m ≡ true → pair_before s m r n ≡ false
pair_one_way r n s m h = grind (arith, nat_tests)

pair_chain : (r n s m t k : ℕ) → pair_before r n s m ≡ false → pair_before s m t k ≡ false → pair_before r n t k ≡ false
pair_chain r n s m t k h g = grind (arith, nat_tests)

pub blocks_ordered : IsStrictWeakOrder is_block_before
blocks_ordered = record {
  one_way = λ a b h. pair_one_way (kind_number a.id.kind) a.id.number (kind_number b.id.kind) b.id.number h;
  chain = λ a b c h g. pair_chain (kind_number a.id.kind) a.id.number (kind_number b.id.kind) b.id.number (kind_number c.id.kind) c.id.number h g;
}

pub data_ordered : IsStrictWeakOrder is_data_before
data_ordered = IsStrictWeakOrder-by_number (λ d. d.number)

same_test : (a b : NameEntry) → is_lt (slice_cmp nat_cmp a.name b.name) ≡ is_entry_before a b
same_test a b = before_is_less a.name b.name (slice_cmp nat_cmp a.name b.name) refl

pub names_ordered : IsStrictWeakOrder is_entry_before
names_ordered =
    let o = ranks_by nat_list_cmp_total (λ (e : NameEntry). e.name) in
    record {
      one_way = λ a b h. sym (same_test b a) ∙ o.one_way a b (same_test a b ∙ h);
      chain = λ a b c h g. sym (same_test a c) ∙ o.chain a b c (same_test a b ∙ h) (same_test b c ∙ g);
    }

-- ---- blocks of statements and of ops have one order

compiled_inserted : (x : StatedBlock) (ys : List StatedBlock) → map compiled_block (sorted_insertion is_code_before x ys) ≡ sorted_insertion is_block_before (compiled_block x) (map compiled_block ys)
compiled_inserted x [] = refl
compiled_inserted x (y ∷ ys) = by_test (is_code_before y x) (compiled_inserted x ys)
  where
    by_test : (b : Bool) → map compiled_block (sorted_insertion is_code_before x ys) ≡ sorted_insertion is_block_before (compiled_block x) (map compiled_block ys)
        → map compiled_block (cond b (y ∷ sorted_insertion is_code_before x ys) (x ∷ y ∷ ys)) ≡ cond b (compiled_block y ∷ sorted_insertion is_block_before (compiled_block x) (map compiled_block ys)) (compiled_block x ∷ compiled_block y ∷ map compiled_block ys)
    by_test true more = ap (λ (z : List CodeBlock). compiled_block y ∷ z) more
    by_test false more = refl

pub compiled_sorted : (xs : List StatedBlock) → map compiled_block (sorted_list is_code_before xs) ≡ sorted_list is_block_before (map compiled_block xs)
unfolding sorted_list
compiled_sorted [] = refl
compiled_sorted (x ∷ xs) = compiled_inserted x (sorted_list is_code_before xs) ∙ ap (sorted_insertion is_block_before (compiled_block x)) (compiled_sorted xs)
