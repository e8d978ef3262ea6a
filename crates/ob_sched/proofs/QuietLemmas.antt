-- Milliseconds in which nothing ends and nothing is due, and what single milliseconds come to.
use Rattle.std.proofs.Common.{◌≡◌, ℕ, suc, zero, ◌+◌, ◌-◌, ◌%◌, ◌^◌, ◌<◌, ◌≤◌, Bool, true, false, if◌then◌else◌, List, [], ◌∷◌, length, drop, get_or, map, option_map, refl, sym, ◌∙◌, ap, subst, arith}
use Rattle.std.specs.Prelude.{Option, Some, None, is_some, nat_le, nat_lt}
use Rattle.std.specs.List.{All}
use Rattle.std.specs.Fn.{iterate}
use Rattle.std.proofs.lemmas.Bool.Decides.{nat_tests}
use Rattle.std.proofs.lemmas.List.{drop_all}
use Rattle.std.proofs.Math.Seq.{drop-cons}
use Rattle.plc_base.specs.declared.Mode.{Mode}
use Rattle.plc_base.specs.declared.Mode.TheVariants.{Run, Startup, Stop}
use Rattle.ob_sched.specs.TickState.{TickState, tick_stopped_by, time_error}
use Rattle.ob_sched.specs.OrganizationBlock.{period_of}
use Rattle.ob_sched.specs.declared.start_infos.StartEvent.TheVariants.{CycleTime}
use Rattle.ob_sched.specs.Millisecond.{delay_counted, is_ending, ending_from, periods_counted_from, due_from, delays_passed, periods_passed, cycle_counted, with_cycle, run_passed, time_counted, after_ms, unless_stopped, delay_ended, period_ended, each_ob, clock_counted}
use Rattle.ob_sched.specs.Quiet.{DelayLasts, RunLastsIn, NothingDueFor, delays_shortened, periods_shortened, run_shortened_in, after_quiet_ms}
use Rattle.ob_sched.specs.Scheduler.{Scheduler, Countdowns}

abbrev shorter : ℕ → Option ℕ → Option ℕ
shorter ms = option_map (λ left. left - ms)

abbrev less : ℕ → ℕ → ℕ
less ms = λ left. left - ms

rest_of : {A : Type 0} (P : A → Type 0) (x : A) (xs : List A) → All P (x ∷ xs) → All P xs
rest_of P x xs all k d h = all (suc k) d (omega arith)

first_of : {A : Type 0} (P : A → Type 0) (x : A) (xs : List A) → All P (x ∷ xs) → P x
first_of P x xs all = all 0 x (omega arith)

-- a delay that lasts another millisecond doesn't end with this one
isnt_ending : (delay : Option ℕ) → DelayLasts 2 delay → is_ending delay ≡ false
isnt_ending None h = refl
isnt_ending (Some left) h = grind (arith, nat_tests)

counted_lasting : (delay : Option ℕ) → DelayLasts 2 delay → delay_counted delay ≡ shorter 1 delay
counted_lasting None h = refl
counted_lasting (Some left) h =
    let e : nat_le left 1 ≡ false = grind (arith, nat_tests) in
    ap (λ (b : Bool). if b then None else Some (left - 1)) e

ending_from-none : (ob : ℕ) (xs : List (Option ℕ)) → All (DelayLasts 2) xs → ending_from ob xs ≡ []
ending_from-none ob [] all = refl
ending_from-none ob (x ∷ xs) all =
    let rest = ending_from (ob + 1) xs in
    ap (λ (b : Bool). if b then ob ∷ rest else rest) (isnt_ending x (first_of (DelayLasts 2) x xs all))
    ∙ ending_from-none (ob + 1) xs (rest_of (DelayLasts 2) x xs all)

map-delay_counted : (xs : List (Option ℕ)) → All (DelayLasts 2) xs → map delay_counted xs ≡ map (shorter 1) xs
map-delay_counted [] all = refl
map-delay_counted (x ∷ xs) all =
    ap (λ (y : Option ℕ). y ∷ map delay_counted xs) (counted_lasting x (first_of (DelayLasts 2) x xs all))
    ∙ ap (λ (ys : List (Option ℕ)). shorter 1 x ∷ ys) (map-delay_counted xs (rest_of (DelayLasts 2) x xs all))

abbrev PeriodLasts : ℕ → ℕ → Type 0
PeriodLasts ms left = ms ≤ left

later : (left : ℕ) → 2 ≤ left → nat_le left 1 ≡ false
later left h = grind (arith, nat_tests)

due_from-none : (ob : ℕ) (xs : List ℕ) → All (PeriodLasts 2) xs → due_from ob xs ≡ []
due_from-none ob [] all = refl
due_from-none ob (x ∷ xs) all =
    let rest = due_from (ob + 1) xs in
    ap (λ (b : Bool). if b then ob ∷ rest else rest) (later x (first_of (PeriodLasts 2) x xs all))
    ∙ due_from-none (ob + 1) xs (rest_of (PeriodLasts 2) x xs all)

periods_counted-less : (ob : ℕ) (xs : List ℕ) → All (PeriodLasts 2) xs → periods_counted_from ob xs ≡ map (less 1) xs
periods_counted-less ob [] all = refl
periods_counted-less ob (x ∷ xs) all =
    ap (λ (b : Bool). (if b then period_of ob else x - 1) ∷ periods_counted_from (ob + 1) xs) (later x (first_of (PeriodLasts 2) x xs all))
    ∙ ap (λ (ys : List ℕ). (x - 1) ∷ ys) (periods_counted-less (ob + 1) xs (rest_of (PeriodLasts 2) x xs all))

-- the stages of a quiet millisecond
delays_quiet : (mode : Mode) (c : TickState) → All (DelayLasts 2) c.sched.countdowns.delays
    → delays_passed mode c ≡ record c { sched = record c.sched { countdowns = delays_shortened 1 c.sched.countdowns } }
delays_quiet mode c all =
    let moved : List (Option ℕ) → TickState = λ delays.
    record c { sched = record c.sched { countdowns = record c.sched.countdowns { delays = delays } } } in
    ap (λ (obs : List ℕ). each_ob (delay_ended mode) obs (moved (map delay_counted c.sched.countdowns.delays)))
    (ending_from-none 20 c.sched.countdowns.delays all)
    ∙ ap moved (map-delay_counted c.sched.countdowns.delays all)

periods_quiet : (mode : Mode) (active : List ℕ) (c : TickState) → All (PeriodLasts 2) c.sched.countdowns.periods
    → periods_passed mode active c ≡ record c { sched = record c.sched { countdowns = periods_shortened 1 c.sched.countdowns } }
periods_quiet mode active c all =
    let moved : List ℕ → TickState = λ periods.
    record c { sched = record c.sched { countdowns = record c.sched.countdowns { periods = periods } } } in
    ap (λ (obs : List ℕ). each_ob (period_ended mode active) obs (moved (periods_counted_from 30 c.sched.countdowns.periods)))
    (due_from-none 30 c.sched.countdowns.periods all)
    ∙ ap moved (periods_counted-less 30 c.sched.countdowns.periods all)

cycle_quiet : (mode : Mode) (c : TickState) → c.sched.cycle.counter + 2 ≤ 151
    → cycle_counted mode c ≡ with_cycle (c.sched.cycle.counter + 1) c.sched.cycle.exceeded c
unfolding cycle_counted
cycle_quiet mode c h =
    let counter = c.sched.cycle.counter in
    let later : TickState = if c.sched.cycle.exceeded then tick_stopped_by 10 (with_cycle 0 true c) else time_error mode CycleTime 1 (with_cycle 0 true c) in
    ap (λ (b : Bool). if b then with_cycle (counter + 1) c.sched.cycle.exceeded c else later) (within counter h)
  where
    within : (a : ℕ) → a + 2 ≤ 151 → nat_lt (a + 1) 151 ≡ true
    within a h = grind (arith, nat_tests)

unless_stopped-goes_on : (next : TickState → TickState) (c : TickState) → c.passed.stop ≡ None → unless_stopped next c ≡ next c
unless_stopped-goes_on next c e = ap (λ (stop : Option ℕ). if is_some stop then c else next c) e

run_quiet : (mode : Mode) (active : List ℕ) (c : TickState) → RunLastsIn mode 2 c.sched → c.passed.stop ≡ None
    → run_passed mode active c ≡ record c { sched = run_shortened_in mode 1 c.sched }
run_quiet Run active c lasts e =
    let periods = periods_quiet Run active c lasts.periods in
    let moved : TickState = record c { sched = record c.sched { countdowns = periods_shortened 1 c.sched.countdowns } } in
    ap (unless_stopped (cycle_counted Run)) (unless_stopped-goes_on (periods_passed Run active) c e ∙ periods)
    ∙ unless_stopped-goes_on (cycle_counted Run) moved e
    ∙ cycle_quiet Run moved lasts.cycle
run_quiet Startup active c lasts e = refl
run_quiet (Stop cause at) active c lasts e = refl

RunLastsIn-after : (mode : Mode) (ms : ℕ) (s : Scheduler) (countdowns : Countdowns) (clock : ℕ) → countdowns.periods ≡ s.countdowns.periods → RunLastsIn mode ms s
    → RunLastsIn mode ms (record s { countdowns = countdowns; clock = clock })
RunLastsIn-after Run ms s countdowns clock e lasts = record {
  periods = subst (λ (xs : List ℕ). All (PeriodLasts ms) xs) (sym e) lasts.periods;
  cycle = lasts.cycle;
}
RunLastsIn-after Startup ms s countdowns clock e lasts = tt
RunLastsIn-after (Stop cause at) ms s countdowns clock e lasts = tt

one_ms-quiet : (mode : Mode) (active : List ℕ) (c : TickState) → NothingDueFor mode 2 c.sched → c.passed.stop ≡ None
    → after_ms mode active c ≡ after_quiet_ms mode 1 c
unfolding after_ms
one_ms-quiet mode active c lasts e =
    let timed : TickState = time_counted c in
    let moved : TickState = record timed { sched = record timed.sched { countdowns = delays_shortened 1 c.sched.countdowns } } in
    unless_stopped-goes_on (λ (d : TickState). run_passed mode active (delays_passed mode (time_counted d))) c e
    ∙ ap (run_passed mode active) (delays_quiet mode timed lasts.delays)
    ∙ run_quiet mode active moved (RunLastsIn-after mode 2 c.sched (delays_shortened 1 c.sched.countdowns) (clock_counted c.sched.clock) refl lasts.run) e

-- fewer milliseconds are quiet too
DelayLasts-lower : (low high : ℕ) (delay : Option ℕ) → low ≤ high → DelayLasts high delay → DelayLasts low delay
DelayLasts-lower low high None le h = tt
DelayLasts-lower low high (Some left) le h = omega arith

RunLastsIn-lower : (mode : Mode) (low high : ℕ) (s : Scheduler) → low ≤ high → RunLastsIn mode high s → RunLastsIn mode low s
RunLastsIn-lower Run low high s le h = record {
  periods = λ k d lt. omega (arith, h.periods k d lt);
  cycle = omega (arith, h.cycle);
}
RunLastsIn-lower Startup low high s le h = tt
RunLastsIn-lower (Stop cause at) low high s le h = tt

pub Lasts-lower : (mode : Mode) (low high : ℕ) (s : Scheduler) → low ≤ high → NothingDueFor mode high s → NothingDueFor mode low s
Lasts-lower mode low high s le h = record {
  delays = λ k d lt. DelayLasts-lower low high (get_or s.countdowns.delays k d) le (h.delays k d lt);
  run = RunLastsIn-lower mode low high s le h.run;
}

-- after one quiet millisecond it is quiet for one less
DelayLasts-shorter : (ms : ℕ) (delay : Option ℕ) → DelayLasts (suc ms) delay → DelayLasts ms (shorter 1 delay)
DelayLasts-shorter ms None h = tt
DelayLasts-shorter ms (Some left) h = omega arith

delays_last : (ms : ℕ) (xs : List (Option ℕ)) → All (DelayLasts (suc ms)) xs → All (DelayLasts ms) (map (shorter 1) xs)
delays_last ms [] all k d h = absurd (omega arith)
delays_last ms (x ∷ xs) all zero d h = DelayLasts-shorter ms x (first_of (DelayLasts (suc ms)) x xs all)
delays_last ms (x ∷ xs) all (suc k) d h = delays_last ms xs (rest_of (DelayLasts (suc ms)) x xs all) k d (omega arith)

periods_last : (ms : ℕ) (xs : List ℕ) → All (PeriodLasts (suc ms)) xs → All (PeriodLasts ms) (map (less 1) xs)
periods_last ms [] all k d h = absurd (omega arith)
periods_last ms (x ∷ xs) all zero d h = let one = first_of (PeriodLasts (suc ms)) x xs all in omega (arith, one)
periods_last ms (x ∷ xs) all (suc k) d h = periods_last ms xs (rest_of (PeriodLasts (suc ms)) x xs all) k d (omega arith)

Lasts-waited : (mode : Mode) (ms : ℕ) (c : TickState) → NothingDueFor mode (suc ms) c.sched → NothingDueFor mode ms (after_quiet_ms mode 1 c).sched
Lasts-waited Run ms c lasts = record {
  delays = delays_last ms c.sched.countdowns.delays lasts.delays;
  run = record {
    periods = periods_last ms c.sched.countdowns.periods lasts.run.periods;
    cycle = omega (arith, lasts.run.cycle);
  };
}
Lasts-waited Startup ms c lasts = record { delays = delays_last ms c.sched.countdowns.delays lasts.delays; run = tt }
Lasts-waited (Stop cause at) ms c lasts = record { delays = delays_last ms c.sched.countdowns.delays lasts.delays; run = tt }

-- one quiet millisecond and then more
shorter-shorter : (ms : ℕ) (xs : List (Option ℕ)) → map (shorter ms) (map (shorter 1) xs) ≡ map (shorter (suc ms)) xs
shorter-shorter ms [] = refl
shorter-shorter ms (None ∷ xs) = ap (λ (ys : List (Option ℕ)). None ∷ ys) (shorter-shorter ms xs)
shorter-shorter ms (Some left ∷ xs) =
    ap (λ (n : ℕ). Some n ∷ map (shorter ms) (map (shorter 1) xs)) (plain left ms)
    ∙ ap (λ (ys : List (Option ℕ)). Some (left - suc ms) ∷ ys) (shorter-shorter ms xs)
  where
    plain : (a b : ℕ) → a - 1 - b ≡ a - suc b
    plain a b = omega arith

less-less : (ms : ℕ) (xs : List ℕ) → map (less ms) (map (less 1) xs) ≡ map (less (suc ms)) xs
less-less ms [] = refl
less-less ms (x ∷ xs) =
    ap (λ (n : ℕ). n ∷ map (less ms) (map (less 1) xs)) (plain x ms)
    ∙ ap (λ (ys : List ℕ). (x - suc ms) ∷ ys) (less-less ms xs)
  where
    plain : (a b : ℕ) → a - 1 - b ≡ a - suc b
    plain a b = omega arith

clock_plus : (clock ms : ℕ) → ((clock + 1) % 2 ^ 31 + ms) % 2 ^ 31 ≡ (clock + suc ms) % 2 ^ 31
clock_plus clock ms = omega arith

one_more : (a ms : ℕ) → a + 1 + ms ≡ a + suc ms
one_more a ms = omega arith

waited-waited : (mode : Mode) (ms : ℕ) (c : TickState) → after_quiet_ms mode ms (after_quiet_ms mode 1 c) ≡ after_quiet_ms mode (suc ms) c
waited-waited Run ms c = λ i. record {
  sched = record c.sched {
    countdowns = record { delays = shorter-shorter ms c.sched.countdowns.delays i; periods = less-less ms c.sched.countdowns.periods i };
    clock = clock_plus c.sched.clock ms i;
    cycle = record c.sched.cycle { counter = one_more c.sched.cycle.counter ms i };
  };
  passed = record c.passed { ms = one_more c.passed.ms ms i };
}
waited-waited Startup ms c = λ i. record {
  sched = record c.sched {
    countdowns = record c.sched.countdowns { delays = shorter-shorter ms c.sched.countdowns.delays i };
    clock = clock_plus c.sched.clock ms i;
  };
  passed = record c.passed { ms = one_more c.passed.ms ms i };
}
waited-waited (Stop cause at) ms c = λ i. record {
  sched = record c.sched {
    countdowns = record c.sched.countdowns { delays = shorter-shorter ms c.sched.countdowns.delays i };
    clock = clock_plus c.sched.clock ms i;
  };
  passed = record c.passed { ms = one_more c.passed.ms ms i };
}

-- that many quiet milliseconds
pub iterate-quiet : (mode : Mode) (active : List ℕ) (ms : ℕ) (c : TickState) → NothingDueFor mode (suc (suc ms)) c.sched → c.passed.stop ≡ None
    → iterate (after_ms mode active) (suc ms) c ≡ after_quiet_ms mode (suc ms) c
iterate-quiet mode active zero c lasts e = one_ms-quiet mode active c lasts e
iterate-quiet mode active (suc ms) c lasts e =
    let first = one_ms-quiet mode active c (Lasts-lower mode 2 (suc (suc (suc ms))) c.sched (omega arith) lasts) e in
    ap (iterate (after_ms mode active) (suc ms)) first
    ∙ iterate-quiet mode active ms (after_quiet_ms mode 1 c) (Lasts-waited mode (suc (suc ms)) c lasts) e
    ∙ waited-waited mode (suc ms) c

-- with a stop cause nothing passes any more
one_ms-stopped : (mode : Mode) (active : List ℕ) (c : TickState) → is_some c.passed.stop ≡ true → after_ms mode active c ≡ c
unfolding after_ms
one_ms-stopped mode active c e =
    let next : TickState = run_passed mode active (delays_passed mode (time_counted c)) in
    ap (λ (b : Bool). if b then c else next) e

pub iterate-stopped : (mode : Mode) (active : List ℕ) (n : ℕ) (c : TickState) → is_some c.passed.stop ≡ true → iterate (after_ms mode active) n c ≡ c
iterate-stopped mode active zero c e = refl
iterate-stopped mode active (suc n) c e =
    ap (iterate (after_ms mode active) n) (one_ms-stopped mode active c e) ∙ iterate-stopped mode active n c e

-- quiet milliseconds, one more, and the rest
pub iterate-split : {A : Type 0} (f : A → A) (q m : ℕ) (x : A) → iterate f (q + suc m) x ≡ iterate f m (f (iterate f q x))
iterate-split f zero m x = ap (λ (n : ℕ). iterate f n x) (plain m)
  where
    plain : (m : ℕ) → 0 + suc m ≡ suc m
    plain m = omega arith
iterate-split f (suc q) m x = ap (λ (n : ℕ). iterate f n x) (plain q m) ∙ iterate-split f q m (f x)
  where
    plain : (q m : ℕ) → suc q + suc m ≡ suc (q + suc m)
    plain q m = omega arith

pub iterate-waited : (mode : Mode) (active : List ℕ) (ms : ℕ) (c : TickState) → (ms ≡ 0 → ⊥) → NothingDueFor mode (ms + 1) c.sched → c.passed.stop ≡ None
    → iterate (after_ms mode active) ms c ≡ after_quiet_ms mode ms c
iterate-waited mode active zero c some lasts e = absurd (some refl)
iterate-waited mode active (suc ms) c some lasts e =
    iterate-quiet mode active ms c (Lasts-lower mode (suc (suc ms)) (suc ms + 1) c.sched (omega arith) lasts) e

-- OBs one after another
pub each_of-at : (next : ℕ → TickState → TickState) (obs : List ℕ) (i : ℕ) (c : TickState) → i < length obs → c.passed.stop ≡ None
    → each_ob next (drop i obs) c ≡ each_ob next (drop (i + 1) obs) (next (get_or obs i 0) c)
each_of-at next obs i c lt e =
    ap (λ (xs : List ℕ). each_ob next xs c) (drop-cons obs i 0 lt)
    ∙ ap (each_ob next (drop (suc i) obs)) (unless_stopped-goes_on (next (get_or obs i 0)) c e)
    ∙ ap (λ (n : ℕ). each_ob next (drop n obs) (next (get_or obs i 0) c)) (plain i)
  where
    plain : (n : ℕ) → suc n ≡ n + 1
    plain n = omega arith

pub each_of-stopped : (next : ℕ → TickState → TickState) (obs : List ℕ) (c : TickState) → is_some c.passed.stop ≡ true → each_ob next obs c ≡ c
each_of-stopped next [] c e = refl
each_of-stopped next (ob ∷ rest) c e =
    ap (λ (b : Bool). each_ob next rest (if b then c else next ob c)) e ∙ each_of-stopped next rest c e

pub each_of-end : (next : ℕ → TickState → TickState) (obs : List ℕ) (i : ℕ) (c : TickState) → length obs ≤ i → each_ob next (drop i obs) c ≡ c
each_of-end next obs i c past = ap (λ (xs : List ℕ). each_ob next xs c) (drop_all i obs past)

pub not_some : {A : Type 0} (o : Option A) → is_some o ≡ false → o ≡ None
not_some None e = refl
not_some (Some x) e = absurd (cc)

pub iterate-step : {A : Type 0} (f : A → A) (q left : ℕ) (old wait new : A) → q < left → wait ≡ iterate f q old → new ≡ f wait
    → iterate f (left - (q + 1)) new ≡ iterate f left old
iterate-step f q left old wait new lt e g =
    let m = left - (q + 1) in
    let whole : q + suc m ≡ left = omega arith in
    ap (iterate f m) (g ∙ ap f e) ∙ sym (iterate-split f q m old) ∙ ap (λ (n : ℕ). iterate f n old) whole
