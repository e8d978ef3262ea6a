-- The numbers of a pass, and the entries under them.
use Rattle.std.proofs.Common.{◌≡◌, ℕ, zero, suc, ◌+◌, ◌<◌, ◌≤◌, ◌≢◌, ◌&&◌, eqb, ltb, cond, Bool, List, [], ◌∷◌, ◌++◌, length, take, drop, sym, refl, ap, ◌∙◌, inl, inr, ⊎_elim, arith, eq-eqb, ne_eqb, lt-ltb, le-ltb, append-nil, length-append}
use Rattle.std.proofs.lemmas.List.Elements.{filter-append}
use mathlib.Core.Logic.{dite}
use mathlib.Core.List.{IsPrefix}
use native.Mathlib.Decide.{ℕ_discrete, dec_le}
use Rattle.tracked_lock.specs.declared.views.Made.{Made}
use Rattle.tracked_lock.specs.Views.{HoldsForEach, entries_by, AreEntriesByMaker, IsKnownOf, times, fresh_to, numbers_with_more_made, own_number, one_if_number_of_pass}
use Rattle.tracked_lock.proofs.Prefixes.{prefix_whole, prefix_length}

abbrev pub flag : Bool → ℕ
flag b = cond b 1 0

pub hit : (a b : ℕ) → a ≡ b → flag (eqb a b) ≡ 1
hit a b e = ap flag (eq-eqb a b e)

pub miss : (a b : ℕ) → a ≢ b → flag (eqb a b) ≡ 0
miss a b n = ap flag (ne_eqb a b n)

module _ {E : Type 0} (maker : E → ℕ) where
  pub by_prefix : (k : ℕ) (xs ys : List E) → IsPrefix xs ys → IsPrefix (entries_by maker k xs) (entries_by maker k ys)
  by_prefix k xs ys p = (entries_by maker k p.0, sym (filter-append (λ e. eqb (maker e) k) xs p.0) ∙ ap (entries_by maker k) p.1)

  pub by_between : (k : ℕ) (xs ys zs es : List E) → IsPrefix xs ys → IsPrefix ys zs → entries_by maker k xs ≡ es → entries_by maker k zs ≡ es → entries_by maker k ys ≡ es
  by_between k xs ys zs es p q e d = let a = by_prefix k xs ys p in let b = by_prefix k ys zs q in
      prefix_whole (entries_by maker k ys) (entries_by maker k zs) b (omega (arith, prefix_length (entries_by maker k xs) (entries_by maker k ys) a, ap length e, ap length d)) ∙ d

  pub made_between : (xs ys log : List E) (made : List (Made E)) (zs : List E) → AreEntriesByMaker maker log made → IsKnownOf maker xs ys made
      → IsPrefix xs zs → IsPrefix ys zs → IsPrefix zs log → AreEntriesByMaker maker zs made
  made_between xs ys log [] zs m k p q r = tt
  made_between xs ys log (x ∷ ms) zs m k p q r =
      (⊎_elim (λ e. by_between x.number xs zs log x.entries p r e m.0) (λ e. by_between x.number ys zs log x.entries q r e m.0) k.0, made_between xs ys log ms zs m.1 k.1 p q r)

  pub known_first : (xs ys : List E) (made : List (Made E)) → AreEntriesByMaker maker xs made → IsKnownOf maker xs ys made
  known_first xs ys [] m = tt
  known_first xs ys (x ∷ ms) m = (inl m.0, known_first xs ys ms m.1)

  pub known_second : (xs ys : List E) (made : List (Made E)) → AreEntriesByMaker maker ys made → IsKnownOf maker xs ys made
  known_second xs ys [] m = tt
  known_second xs ys (x ∷ ms) m = (inr m.0, known_second xs ys ms m.1)

  pub known-append : (xs ys : List E) (a b : List (Made E)) → IsKnownOf maker xs ys a → IsKnownOf maker xs ys b → IsKnownOf maker xs ys (a ++ b)
  known-append xs ys [] b h k = k
  known-append xs ys (x ∷ a) b h k = (h.0, known-append xs ys a b h.1 k)

  pub made-append : (log : List E) (a b : List (Made E)) → AreEntriesByMaker maker log a → AreEntriesByMaker maker log b → AreEntriesByMaker maker log (a ++ b)
  made-append log [] b h k = k
  made-append log (x ∷ a) b h k = (h.0, made-append log a b h.1 k)

  pub made-take : (log : List E) (n : ℕ) (a : List (Made E)) → AreEntriesByMaker maker log a → AreEntriesByMaker maker log (take n a)
  made-take log zero a h = tt
  made-take log (suc n) [] h = tt
  made-take log (suc n) (x ∷ a) h = (h.0, made-take log n a h.1)

  pub made-drop : (log : List E) (n : ℕ) (a : List (Made E)) → AreEntriesByMaker maker log a → AreEntriesByMaker maker log (drop n a)
  made-drop log zero a h = h
  made-drop log (suc n) [] h = tt
  made-drop log (suc n) (x ∷ a) h = made-drop log n a h.1

  pub known-take : (xs ys : List E) (n : ℕ) (a : List (Made E)) → IsKnownOf maker xs ys a → IsKnownOf maker xs ys (take n a)
  known-take xs ys zero a h = tt
  known-take xs ys (suc n) [] h = tt
  known-take xs ys (suc n) (x ∷ a) h = (h.0, known-take xs ys n a h.1)

  pub known-drop : (xs ys : List E) (n : ℕ) (a : List (Made E)) → IsKnownOf maker xs ys a → IsKnownOf maker xs ys (drop n a)
  known-drop xs ys zero a h = h
  known-drop xs ys (suc n) [] h = tt
  known-drop xs ys (suc n) (x ∷ a) h = known-drop xs ys n a h.1

  -- entries of one maker: all of them under its number, none under another
  pub by_own : (k : ℕ) (es : List E) → HoldsForEach (λ e. maker e ≡ k) es → entries_by maker k es ≡ es
  by_own k [] h = refl
  by_own k (e ∷ es) h = ap (λ b. cond b (e ∷ entries_by maker k es) (entries_by maker k es)) (eq-eqb (maker e) k h.0) ∙ ap (λ r. e ∷ r) (by_own k es h.1)

  pub by_other : (k j : ℕ) (es : List E) → HoldsForEach (λ e. maker e ≡ k) es → k ≢ j → entries_by maker j es ≡ []
  by_other k j [] h n = refl
  by_other k j (e ∷ es) h n = ap (λ b. cond b (e ∷ entries_by maker j es) (entries_by maker j es)) (ne_eqb (maker e) j (λ d. n (sym h.0 ∙ d))) ∙ by_other k j es h.1 n

  pub made_unchanged : (k : ℕ) (log added : List E) (made : List (Made E)) → HoldsForEach (λ e. maker e ≡ k) added → times k made ≡ 0 → AreEntriesByMaker maker log made → AreEntriesByMaker maker (log ++ added) made
  made_unchanged k log added [] own none m = tt
  made_unchanged k log added (x ∷ ms) own none m =
      let ne : k ≢ x.number = λ e. absurd (omega (arith, hit x.number k (sym e))) in (
        filter-append (λ e. eqb (maker e) x.number) log added ∙ (ap (λ r. entries_by maker x.number log ++ r) (by_other k x.number added own ne) ∙ (append-nil (entries_by maker x.number log) ∙ m.0)),
        made_unchanged k log added ms own (omega arith) m.1,
      )

  pub made_grown : (log added : List E) (made : List (Made E)) → HoldsForEach (λ e. maker e ≡ own_number made) added → times (own_number made) made ≤ 1 → AreEntriesByMaker maker log made
      → AreEntriesByMaker maker (log ++ added) (numbers_with_more_made made added)
  made_grown log added [] own once m = tt
  made_grown log added (x ∷ ms) own once m = (
    filter-append (λ e. eqb (maker e) x.number) log added ∙ (ap (λ r. entries_by maker x.number log ++ r) (by_own x.number added own) ∙ ap (λ r. r ++ added) m.0),
    made_unchanged x.number log added ms own (omega (arith, hit x.number x.number refl)) m.1,
  )

module _ {E : Type 0} where
  pub times-append : (k : ℕ) (a b : List (Made E)) → times k (a ++ b) ≡ times k a + times k b
  times-append k [] b = omega arith
  times-append k (x ∷ a) b = omega (arith, times-append k a b)

  pub times_le : (k : ℕ) (a : List (Made E)) → times k a ≤ length a
  times_le k [] = omega arith
  times_le k (x ∷ a) = dite (ℕ_discrete x.number k) (λ e. omega (arith, times_le k a, hit x.number k e)) (λ n. omega (arith, times_le k a, miss x.number k n))

  pub times_more : (k : ℕ) (a : List (Made E)) (added : List E) → times k (numbers_with_more_made a added) ≡ times k a
  times_more k [] added = refl
  times_more k (x ∷ a) added = refl

  pub length_more : (a : List (Made E)) (added : List E) → length (numbers_with_more_made a added) ≡ length a
  length_more [] added = refl
  length_more (x ∷ a) added = refl

  pub own_there : (a : List (Made E)) → 0 < length a → 1 ≤ times (own_number a) a
  own_there [] h = absurd (omega arith)
  own_there (x ∷ a) h = omega (arith, hit x.number x.number refl)

  pub take_drop : (n : ℕ) (a : List (Made E)) → take n a ++ drop n a ≡ a
  take_drop zero a = refl
  take_drop (suc n) [] = refl
  take_drop (suc n) (x ∷ a) = ap (λ r. x ∷ r) (take_drop n a)

  pub times_cut : (k n : ℕ) (a : List (Made E)) → times k (take n a) + times k (drop n a) ≡ times k a
  times_cut k n a = sym (times-append k (take n a) (drop n a)) ∙ ap (times k) (take_drop n a)

  pub length_cut : (n : ℕ) (a : List (Made E)) → length (take n a) + length (drop n a) ≡ length a
  length_cut n a = sym (length-append (take n a) (drop n a)) ∙ ap length (take_drop n a)

  pub made_fresh : (maker : E → ℕ) (n : ℕ) → AreEntriesByMaker maker [] (fresh_to n)
  made_fresh maker zero = tt
  made_fresh maker (suc n) = made-append maker [] (fresh_to n) (record { number = suc n; entries = [] } ∷ []) (made_fresh maker n) (refl, tt)

pub stands_in : (n k : ℕ) → 0 < k → k ≤ n → one_if_number_of_pass n k ≡ 1
stands_in n k a b = ap {B = ℕ} (λ c. cond (c && ltb k (suc n)) 1 0) (lt-ltb 0 k a) ∙ ap {B = ℕ} (λ c. cond c 1 0) (lt-ltb k (suc n) (omega arith))

pub stands_out : (n k : ℕ) → n < k → one_if_number_of_pass n k ≡ 0
stands_out n k b = ap {B = ℕ} (λ c. cond (c && ltb k (suc n)) 1 0) (lt-ltb 0 k (omega arith)) ∙ ap {B = ℕ} (λ c. cond c 1 0) (le-ltb k (suc n) (omega arith))

pub stands_range : (n k : ℕ) → 0 < one_if_number_of_pass n k → (0 < k) × (k ≤ n)
stands_range n zero h = absurd (omega arith)
stands_range n (suc k) h = dite (dec_le (suc k) n) (λ le. (omega arith, le)) (λ no. absurd (omega (arith, stands_out n (suc k) (omega arith))))

pub stands_one : (n k : ℕ) → one_if_number_of_pass n k ≤ 1
stands_one n zero = omega arith
stands_one n (suc k) = dite (dec_le (suc k) n) (λ le. omega (arith, stands_in n (suc k) (omega arith) le)) (λ no. omega (arith, stands_out n (suc k) (omega arith)))

pub length_fresh : (E : Type 0) (n : ℕ) → length (fresh_to {E = E} n) ≡ n
length_fresh E zero = refl
length_fresh E (suc n) = omega (arith, length-append (fresh_to {E = E} n) (record { number = suc n; entries = [] } ∷ []), length_fresh E n)

pub times_fresh : (E : Type 0) (n k : ℕ) → times k (fresh_to {E = E} n) ≡ one_if_number_of_pass n k
times_fresh E zero zero = refl
times_fresh E zero (suc k) = sym (stands_out zero (suc k) (omega arith))
times_fresh E (suc n) k = dite (ℕ_discrete (suc n) k)
    (λ e. omega (arith, times-append k (fresh_to {E = E} n) (record { number = suc n; entries = [] } ∷ []), times_fresh E n k, hit (suc n) k e, stands_out n k (omega arith), stands_in (suc n) k (omega arith) (omega arith)))
    (λ ne. dite (dec_le k n)
    (λ le. dite (ℕ_discrete k 0)
    (λ z. omega (arith, times-append k (fresh_to {E = E} n) (record { number = suc n; entries = [] } ∷ []), times_fresh E n k, miss (suc n) k ne, ap (one_if_number_of_pass n) z, ap (one_if_number_of_pass (suc n)) z))
    (λ nz. omega (arith, times-append k (fresh_to {E = E} n) (record { number = suc n; entries = [] } ∷ []), times_fresh E n k, miss (suc n) k ne, stands_in n k (omega arith) le, stands_in (suc n) k (omega arith) (omega arith))))
    (λ gt. omega (arith, times-append k (fresh_to {E = E} n) (record { number = suc n; entries = [] } ∷ []), times_fresh E n k, miss (suc n) k ne, stands_out n k (omega arith), stands_out (suc n) k (omega arith))))
