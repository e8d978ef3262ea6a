-- Delays and periods, one after another.
use Rattle.std.proofs.Common.{◌≡◌, ℕ, suc, zero, ◌+◌, ◌<◌, ◌≤◌, Bool, true, false, if◌then◌else◌, List, [], ◌∷◌, ◌++◌, length, take, drop, get_or, set, map, refl, sym, ◌∙◌, ap, subst, arith, append_assoc, length-append, below_more}
use Rattle.std.specs.Prelude.{Option, Some, None, nat_le}
use Rattle.std.specs.List.{list_all}
use Rattle.std.proofs.lemmas.Bool.{and_from}
use Rattle.ob_sched.specs.OrganizationBlock.{is_delay, is_cyclic}
use Rattle.std.proofs.lemmas.Bool.Decides.{nat_tests}
use Rattle.std.proofs.lemmas.List.{append-nil, drop_all, take_all}
use Rattle.std.proofs.Math.Seq.{drop-cons}
use Rattle.std.proofs.lemmas.List.{get_or_default}
use Rattle.std.proofs.lemmas.List.Edits.{map_over_more}
use Rattle.ob_sched.specs.Millisecond.{is_ending, ending_from, due_from, period_counted, periods_counted_from}
use Rattle.ob_sched.specs.Quiet.{DelayLasts}

-- the one at a place, and then those behind it
pub ending-at : (ob : ℕ) (xs : List (Option ℕ)) (i : ℕ) → i < length xs
    → ending_from (ob + i) (drop i xs)
    ≡ (if is_ending (get_or xs i None) then (ob + i) ∷ ending_from (ob + (i + 1)) (drop (i + 1) xs) else ending_from (ob + (i + 1)) (drop (i + 1) xs))
ending-at ob xs i lt =
    ap (ending_from (ob + i)) (drop-cons xs i None lt)
    ∙ ap (λ (next : ℕ). if is_ending (get_or xs i None) then (ob + i) ∷ ending_from next (drop (suc i) xs) else ending_from next (drop (suc i) xs)) (plus ob i)
    ∙ ap (λ (n : ℕ). if is_ending (get_or xs i None) then (ob + i) ∷ ending_from (ob + (i + 1)) (drop n xs) else ending_from (ob + (i + 1)) (drop n xs)) (one i)
  where
    plus : (a b : ℕ) → a + b + 1 ≡ a + (b + 1)
    plus a b = omega arith

    one : (n : ℕ) → suc n ≡ n + 1
    one n = omega arith

pub due-at : (ob : ℕ) (xs : List ℕ) (i : ℕ) → i < length xs
    → due_from (ob + i) (drop i xs)
    ≡ (if nat_le (get_or xs i 0) 1 then (ob + i) ∷ due_from (ob + (i + 1)) (drop (i + 1) xs) else due_from (ob + (i + 1)) (drop (i + 1) xs))
due-at ob xs i lt =
    ap (due_from (ob + i)) (drop-cons xs i 0 lt)
    ∙ ap (λ (next : ℕ). if nat_le (get_or xs i 0) 1 then (ob + i) ∷ due_from next (drop (suc i) xs) else due_from next (drop (suc i) xs)) (plus ob i)
    ∙ ap (λ (n : ℕ). if nat_le (get_or xs i 0) 1 then (ob + i) ∷ due_from (ob + (i + 1)) (drop n xs) else due_from (ob + (i + 1)) (drop n xs)) (one i)
  where
    plus : (a b : ℕ) → a + b + 1 ≡ a + (b + 1)
    plus a b = omega arith

    one : (n : ℕ) → suc n ≡ n + 1
    one n = omega arith

-- what is left of a list that each one's image takes the place of
pub mapped_all : {A : Type 0} (f : A → A) (xs ys : List A) (i : ℕ) → length xs ≤ i → ys ≡ map f (take i xs) ++ drop i xs → ys ≡ map f xs
mapped_all f xs ys i past e = e ∙ simp (take_all i xs past, drop_all i xs past, append-nil)

-- the first periods after a millisecond, and the others as they are
abbrev pub counted_first : ℕ → ℕ → List ℕ → List ℕ
counted_first zero ob xs = xs
counted_first (suc n) ob [] = []
counted_first (suc n) ob (x ∷ xs) = period_counted ob x ∷ counted_first n (ob + 1) xs

pub counted_first-more : (n ob : ℕ) (xs : List ℕ) (d : ℕ) → n < length xs
    → set (counted_first n ob xs) n (period_counted (ob + n) (get_or (counted_first n ob xs) n d)) ≡ counted_first (n + 1) ob xs
counted_first-more n ob [] d lt = absurd (omega arith)
counted_first-more zero ob (x ∷ xs) d lt = ap (λ (o : ℕ). period_counted o x ∷ xs) (plain ob) ∙ ap (λ (n : ℕ). counted_first n ob (x ∷ xs)) (one zero)
  where
    plain : (a : ℕ) → a + 0 ≡ a
    plain a = omega arith

    one : (n : ℕ) → suc n ≡ n + 1
    one n = omega arith
counted_first-more (suc n) ob (x ∷ xs) d lt =
    let rest = counted_first n (ob + 1) xs in
    ap (λ (o : ℕ). period_counted ob x ∷ set rest n (period_counted o (get_or rest n d))) (plain ob n)
    ∙ ap (λ (ys : List ℕ). period_counted ob x ∷ ys) (counted_first-more n (ob + 1) xs d (omega arith))
    ∙ ap (λ (m : ℕ). counted_first m ob (x ∷ xs)) (one n)
  where
    plain : (a b : ℕ) → a + suc b ≡ a + 1 + b
    plain a b = omega arith

    one : (n : ℕ) → suc (n + 1) ≡ suc n + 1
    one n = omega arith

pub counted_first-all : (n ob : ℕ) (xs : List ℕ) → length xs ≤ n → counted_first n ob xs ≡ periods_counted_from ob xs
counted_first-all zero ob [] past = refl
counted_first-all zero ob (x ∷ xs) past = absurd (omega arith)
counted_first-all (suc n) ob [] past = refl
counted_first-all (suc n) ob (x ∷ xs) past = ap (λ (ys : List ℕ). period_counted ob x ∷ ys) (counted_first-all n (ob + 1) xs (omega arith))

-- one more of those that end is found, or none
pub ending_found : (found all : List ℕ) (ob : ℕ) (xs : List (Option ℕ)) (i : ℕ) → i < length xs
    → found ++ ending_from (ob + i) (drop i xs) ≡ all → is_ending (get_or xs i None) ≡ true
    → (found ++ (ob + i) ∷ []) ++ ending_from (ob + (i + 1)) (drop (i + 1) xs) ≡ all
ending_found found all ob xs i lt e ends =
    let rest = ending_from (ob + (i + 1)) (drop (i + 1) xs) in
    let here = ending-at ob xs i lt ∙ ap (λ (b : Bool). if b then (ob + i) ∷ rest else rest) ends in
    append_assoc found ((ob + i) ∷ []) rest ∙ ap (λ (ys : List ℕ). found ++ ys) (sym here) ∙ e

pub ending_passed : (found all : List ℕ) (ob : ℕ) (xs : List (Option ℕ)) (i : ℕ) → i < length xs
    → found ++ ending_from (ob + i) (drop i xs) ≡ all → is_ending (get_or xs i None) ≡ false
    → found ++ ending_from (ob + (i + 1)) (drop (i + 1) xs) ≡ all
ending_passed found all ob xs i lt e lasts =
    let rest = ending_from (ob + (i + 1)) (drop (i + 1) xs) in
    let here = ending-at ob xs i lt ∙ ap (λ (b : Bool). if b then (ob + i) ∷ rest else rest) lasts in
    ap (λ (ys : List ℕ). found ++ ys) (sym here) ∙ e

pub ending_all : (found all : List ℕ) (ob : ℕ) (xs : List (Option ℕ)) (i : ℕ) → length xs ≤ i
    → found ++ ending_from (ob + i) (drop i xs) ≡ all → found ≡ all
ending_all found all ob xs i past e = sym (ap (λ (ys : List (Option ℕ)). found ++ ending_from (ob + i) ys) (drop_all i xs past) ∙ append-nil found) ∙ e

pub due_found : (found all : List ℕ) (ob : ℕ) (xs : List ℕ) (i : ℕ) → i < length xs
    → found ++ due_from (ob + i) (drop i xs) ≡ all → get_or xs i 0 ≤ 1
    → (found ++ (ob + i) ∷ []) ++ due_from (ob + (i + 1)) (drop (i + 1) xs) ≡ all
due_found found all ob xs i lt e ends =
    let rest = due_from (ob + (i + 1)) (drop (i + 1) xs) in
    let here = due-at ob xs i lt ∙ ap (λ (b : Bool). if b then (ob + i) ∷ rest else rest) (test (get_or xs i 0) ends) in
    append_assoc found ((ob + i) ∷ []) rest ∙ ap (λ (ys : List ℕ). found ++ ys) (sym here) ∙ e
  where
    test : (a : ℕ) → a ≤ 1 → nat_le a 1 ≡ true
    test a h = grind (arith, nat_tests)

pub due_passed : (found all : List ℕ) (ob : ℕ) (xs : List ℕ) (i : ℕ) → i < length xs
    → found ++ due_from (ob + i) (drop i xs) ≡ all → 1 < get_or xs i 0
    → found ++ due_from (ob + (i + 1)) (drop (i + 1) xs) ≡ all
due_passed found all ob xs i lt e lasts =
    let rest = due_from (ob + (i + 1)) (drop (i + 1) xs) in
    let here = due-at ob xs i lt ∙ ap (λ (b : Bool). if b then (ob + i) ∷ rest else rest) (test (get_or xs i 0) lasts) in
    ap (λ (ys : List ℕ). found ++ ys) (sym here) ∙ e
  where
    test : (a : ℕ) → 1 < a → nat_le a 1 ≡ false
    test a h = grind (arith, nat_tests)

pub due_all : (found all : List ℕ) (ob : ℕ) (xs : List ℕ) (i : ℕ) → length xs ≤ i
    → found ++ due_from (ob + i) (drop i xs) ≡ all → found ≡ all
due_all found all ob xs i past e = sym (ap (λ (ys : List ℕ). found ++ due_from (ob + i) ys) (drop_all i xs past) ∙ append-nil found) ∙ e

pub length_found : (found : List ℕ) (ob i : ℕ) → length found ≤ i → length (found ++ ob ∷ []) ≤ i + 1
length_found found ob i h = omega (arith, length-append found (ob ∷ []))

-- the least so far lasts with one more
pub DelayLasts-lower : (low high : ℕ) (delay : Option ℕ) → low ≤ high → DelayLasts high delay → DelayLasts low delay
DelayLasts-lower low high None le h = tt
DelayLasts-lower low high (Some left) le h = omega arith

-- one more place that meets a fact
pub all_more : {A : Type 0} (P : A → Type 0) (xs : List A) (i : ℕ) (e : A) → i < length xs
    → ((k : ℕ) (d : A) → k < i → P (get_or xs k d)) → P (get_or xs i e) → (k : ℕ) (d : A) → k < i + 1 → P (get_or xs k d)
all_more {A} P xs i e lt low here k d h =
    below_more (λ (j : ℕ). (d : A) → P (get_or xs j d)) i (λ j g d. low j d g) (λ d. subst P (get_or_default xs i e d lt) here) k h d

-- one more image
pub mapped_more : {A : Type 0} (f : A → A) (xs ys : List A) (i : ℕ) (d : A) → i < length xs → length ys ≡ length xs
    → ys ≡ map f (take i xs) ++ drop i xs → set ys i (f (get_or ys i d)) ≡ map f (take (i + 1) xs) ++ drop (i + 1) xs
mapped_more f xs ys i d lt same e =
    let within : i < length ys = omega (arith, same) in
    map_over_more f xs ys i (get_or ys i d) lt e (get_or_default ys i d (get_or ys i d) within)

-- the OBs that are found are from the first number on, as many as there are
pub ending_known : (p : ℕ → Bool) (ob : ℕ) (xs : List (Option ℕ)) → ((k : ℕ) → k < length xs → p (ob + k) ≡ true) → list_all p (ending_from ob xs) ≡ true
ending_known p ob [] all = refl
ending_known p ob (x ∷ xs) all =
    by (is_ending x)
    (ending_known p (ob + 1) xs (λ k h. subst (λ n. p n ≡ true) (next ob k) (all (suc k) (omega arith))))
    (subst (λ n. p n ≡ true) (here ob) (all 0 (omega arith)))
  where
    next : (a b : ℕ) → a + suc b ≡ a + 1 + b
    next a b = omega arith

    here : (a : ℕ) → a + 0 ≡ a
    here a = omega arith

    by : (b : Bool) → list_all p (ending_from (ob + 1) xs) ≡ true → p ob ≡ true
        → list_all p (if b then ob ∷ ending_from (ob + 1) xs else ending_from (ob + 1) xs) ≡ true
    by true rest one = and_from (p ob) (list_all p (ending_from (ob + 1) xs)) one rest
    by false rest one = rest

pub due_known : (p : ℕ → Bool) (ob : ℕ) (xs : List ℕ) → ((k : ℕ) → k < length xs → p (ob + k) ≡ true) → list_all p (due_from ob xs) ≡ true
due_known p ob [] all = refl
due_known p ob (x ∷ xs) all =
    by (nat_le x 1)
    (due_known p (ob + 1) xs (λ k h. subst (λ n. p n ≡ true) (next ob k) (all (suc k) (omega arith))))
    (subst (λ n. p n ≡ true) (here ob) (all 0 (omega arith)))
  where
    next : (a b : ℕ) → a + suc b ≡ a + 1 + b
    next a b = omega arith

    here : (a : ℕ) → a + 0 ≡ a
    here a = omega arith

    by : (b : Bool) → list_all p (due_from (ob + 1) xs) ≡ true → p ob ≡ true
        → list_all p (if b then ob ∷ due_from (ob + 1) xs else due_from (ob + 1) xs) ≡ true
    by true rest one = and_from (p ob) (list_all p (due_from (ob + 1) xs)) one rest
    by false rest one = rest

pub delay_number : (k : ℕ) → k < 4 → is_delay (20 + k) ≡ true
delay_number k h = grind (arith, nat_tests)

pub cyclic_number : (k : ℕ) → k < 9 → is_cyclic (30 + k) ≡ true
cyclic_number k h = grind (arith, nat_tests)
