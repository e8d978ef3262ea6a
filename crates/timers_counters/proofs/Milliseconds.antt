-- What n single milliseconds do to a timer.
use Rattle.std.proofs.Common.{◌≡◌, ℕ, zero, suc, ◌-◌, ◌<◌, ◌≤◌, nat_le, Bool, true, false, refl, sym, ◌∙◌, ap, arith, if◌then◌else◌, List, map, take, drop, length, ◌++◌}
use Rattle.std.proofs.lemmas.Grind.{common_steps}
use Rattle.std.proofs.lemmas.List.{map-id, take_all, drop_all, append-nil}
use Rattle.std.proofs.lemmas.Simd.{map-map}
use Rattle.std.specs.Fn.{iterate}
use Rattle.timers_counters.specs.Timer.{Timer, timer_after_ms, end_timer}

-- a timer that doesn't run stays as it is
one_ms-standing : (timer : Timer) → timer.running ≡ false → timer_after_ms timer ≡ timer
unfolding timer_after_ms
one_ms-standing timer stands =
    let moved : Timer =
    if nat_le timer.left 1 then end_timer timer else record timer { left = timer.left - 1 } in
    ap (λ (b : Bool). if b then moved else timer) stands

pub iterate-standing : (n : ℕ) (timer : Timer) → timer.running ≡ false → iterate timer_after_ms n timer ≡ timer
iterate-standing zero timer stands = refl
iterate-standing (suc n) timer stands =
    ap (iterate timer_after_ms n) (one_ms-standing timer stands) ∙ iterate-standing n timer stands

one_ms-running : (timer : Timer) → timer.running ≡ true → 1 < timer.left
    → timer_after_ms timer ≡ record timer { left = timer.left - 1 }
unfolding timer_after_ms
one_ms-running timer runs more =
    let e : nat_le timer.left 1 ≡ false = grind arith in
    let less : Timer = record timer { left = timer.left - 1 } in
    let moved : Timer = if nat_le timer.left 1 then end_timer timer else less in
    ap (λ (b : Bool). if b then moved else timer) runs
    ∙ ap (λ (b : Bool). if b then end_timer timer else less) e

one_ms-last : (timer : Timer) → timer.running ≡ true → timer.left ≤ 1 → timer_after_ms timer ≡ end_timer timer
unfolding timer_after_ms
one_ms-last timer runs last =
    let e : nat_le timer.left 1 ≡ true = grind arith in
    let less : Timer = record timer { left = timer.left - 1 } in
    let moved : Timer = if nat_le timer.left 1 then end_timer timer else less in
    ap (λ (b : Bool). if b then moved else timer) runs
    ∙ ap (λ (b : Bool). if b then end_timer timer else less) e

-- a timer that has more time left than passes runs on
pub iterate-running : (n : ℕ) (timer : Timer) → timer.running ≡ true → n < timer.left
    → iterate timer_after_ms n timer ≡ record timer { left = timer.left - n }
iterate-running zero timer runs less =
    let e : timer.left ≡ timer.left - 0 = omega arith in
    ap (λ (ms : ℕ). record timer { left = ms }) e
iterate-running (suc n) timer runs less =
    let next : Timer = record timer { left = timer.left - 1 } in
    let e : timer.left - 1 - n ≡ timer.left - suc n = omega arith in
    ap (iterate timer_after_ms n) (one_ms-running timer runs (omega arith))
    ∙ iterate-running n next runs (omega arith)
    ∙ ap (λ (ms : ℕ). record timer { left = ms }) e

-- any other that runs ends
pub iterate-ending : (n : ℕ) (timer : Timer) → timer.running ≡ true → 0 < timer.left → timer.left ≤ n
    → iterate timer_after_ms n timer ≡ end_timer timer
iterate-ending zero timer runs some all = absurd (omega arith)
iterate-ending (suc n) timer runs some all = by (nat_le timer.left 1) refl (iterate-ending n (record timer { left = timer.left - 1 }) runs)
  where
    by : (last : Bool) → nat_le timer.left 1 ≡ last
        → (0 < timer.left - 1 → timer.left - 1 ≤ n → iterate timer_after_ms n (record timer { left = timer.left - 1 }) ≡ end_timer timer)
        → iterate timer_after_ms n (timer_after_ms timer) ≡ end_timer timer
    by true last later =
        ap (iterate timer_after_ms n) (one_ms-last timer runs (grind (arith, last))) ∙ iterate-standing n (end_timer timer) refl
    by false more later =
        ap (iterate timer_after_ms n) (one_ms-running timer runs (grind (arith, more))) ∙ later (grind (arith, more)) (omega arith)

-- to move all timers n times is to move each one n times
pub iterate-map : {A : Type 0} (f : A → A) (n : ℕ) (xs : List A) → iterate (map f) n xs ≡ map (iterate f n) xs
iterate-map f zero xs = sym (map-id xs)
iterate-map f (suc n) xs = iterate-map f n (map f xs) ∙ map-map (iterate f n) f xs

pub map_over_end : {A : Type 0} (f : A → A) (xs ys : List A) (i : ℕ)
    → ys ≡ map f (take i xs) ++ drop i xs → length ys ≡ length xs
map_over_end f xs ys i e = grind (arith, common_steps, e)

pub map_over_all : {A : Type 0} (f : A → A) (xs ys : List A) (i : ℕ)
    → length xs ≤ i → ys ≡ map f (take i xs) ++ drop i xs → ys ≡ map f xs
map_over_all f xs ys i past e = e ∙ simp (take_all i xs past, drop_all i xs past, append-nil)
