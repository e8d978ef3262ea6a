-- A live history of regular stimuli and scripts is regular, and has no more steps than were wanted.
use Rattle.std.proofs.Common.{◌≡◌, ◌⊎◌, ℕ, zero, suc, ◌+◌, ◌<◌, ◌≤◌, eqb, eq-eqb, nat_eq, cond, Bool, true, false, true≢false, List, [], ◌∷◌, ◌++◌, length, replicate, sym, refl, ap, ◌∙◌, subst, inl, inr, ⊎_elim, arith}
use Rattle.std.specs.List.{All, AllByRecursion}
use Rattle.std.proofs.lemmas.Bool.Decides.{nat_tests}
use Rattle.std.proofs.lemmas.List.{length-replicate}
use Rattle.std.proofs.lemmas.List.Elements.{All-from_recursion, recursion_from_All}
use Rattle.std.proofs.lemmas.List.Sums.{sum_by-append}
use Rattle.image_file.specs.LoadedProgram.{LoadedProgram}
use Rattle.var_access.specs.Runs.{is_step}
use Rattle.var_access.specs.declared.entries.Entry.{Entry}
use Rattle.var_access.specs.declared.entries.What.{What}
use Rattle.var_access.specs.declared.entries.What.TheVariants.{Step, Input, Arrive, Tick, Ask}
use Rattle.event_text.specs.Regular.{IsRegular, IsRegularOf}
use Rattle.event_text.specs.Texts.{steps_in}
use Rattle.event_text.specs.Workers.{one_step}
use Rattle.s7_cli.specs.Living.{AreRegularBy, IsLive, StandInHistory, total_length}
use Rattle.s7_cli.specs.Working.{entries_of_worker}

both_hold : {A : Type 0} (P Q R : A → Type 0) (es : List A) → ((e : A) → P e → Q e → R e) → AllByRecursion P es → AllByRecursion Q es → AllByRecursion R es
both_hold P Q R [] f p q = tt
both_hold P Q R (e ∷ es) f p q = (f e p.0 q.0, both_hold P Q R es f p.1 q.1)

each_holds : {A : Type 0} (P : A → Type 0) (es : List A) → ((e : A) → P e) → AllByRecursion P es
each_holds P [] f = tt
each_holds P (e ∷ es) f = (f e, each_holds P es f)

pub each_copy : {A : Type 0} (P : A → Type 0) (n : ℕ) (e : A) → P e → AllByRecursion P (replicate n e)
each_copy P zero e p = tt
each_copy P (suc n) e p = (p, each_copy P n e p)

-- what holds of a worker's entries
of_worker : (who : ℕ) (P : Entry → Type 0) (h : List Entry) → AllByRecursion P (entries_of_worker who h) → AllByRecursion (λ e. e.who ≡ who → P e) h
of_worker who P [] all = tt
of_worker who P (e ∷ h) all = by (eqb e.who who) refl all (of_worker who P h) where
  by : (v : Bool) → eqb e.who who ≡ v → AllByRecursion P (cond v (e ∷ entries_of_worker who h) (entries_of_worker who h))
      → (AllByRecursion P (entries_of_worker who h) → AllByRecursion (λ e. e.who ≡ who → P e) h) → (e.who ≡ who → P e) × AllByRecursion (λ e. e.who ≡ who → P e) h
  by true is all rest = (λ own. all.0, rest all.1)
  by false is all rest = (λ own. absurd (true≢false (sym (eq-eqb e.who who own) ∙ is)), rest all)

first_or : (who n : ℕ) (v : Bool) → nat_eq n who ≡ v → who ≤ n → (n ≡ who) ⊎ (suc who ≤ n)
first_or who n true e le = inl (grind (arith, nat_tests))
first_or who n false e le = inr (grind (arith, nat_tests))

of_lists : (who : ℕ) (lists : List (List Entry)) (h : List Entry) → StandInHistory who lists h → AreRegularBy who lists
    → AllByRecursion (λ e. (who ≤ e.who) × (e.who < who + length lists) → IsRegular e) h
of_lists who [] h stands regular = each_holds (λ (e : Entry). (who ≤ e.who) × (e.who < who + 0) → IsRegular e) h (λ e at. absurd (omega (arith, at.0, at.1)))
of_lists who (x ∷ xs) h stands regular =
    both_hold (λ (e : Entry). e.who ≡ who → IsRegular e) (λ (e : Entry). (suc who ≤ e.who) × (e.who < suc who + length xs) → IsRegular e)
    (λ (e : Entry). (who ≤ e.who) × (e.who < who + suc (length xs)) → IsRegular e) h
    (λ e first others at. ⊎_elim (λ own. first own) (λ more. others (more, omega (arith, at.1))) (first_or who e.who (nat_eq e.who who) refl at.0))
    (of_worker who IsRegular h (subst (AllByRecursion IsRegular) (sym stands.0) (recursion_from_All IsRegular x (λ k d within. (regular.0 k d within).1))))
    (of_lists (suc who) xs h stands.1 regular.1)

one_step_regular : IsRegular one_step
one_step_regular = record { worker = refl; range = tt; fields = tt }

pub live_is_regular : (loaded : LoadedProgram) (steps : ℕ) (stimuli : List Entry) (scripts : List (List Entry)) (history : List Entry)
    → IsLive loaded steps stimuli scripts history → AreRegularBy 2 (stimuli ∷ scripts) → All IsRegular history
live_is_regular loaded steps stimuli scripts history live regular =
    let Others : Entry → Type 0 = λ e. (2 ≤ e.who) × (e.who < 2 + suc (length scripts)) → IsRegular e in
    let Stepper : Entry → Type 0 = λ e. e.who ≡ 1 → IsRegular e in
    let Worker : Entry → Type 0 = λ e. (1 ≤ e.who) × (e.who ≤ 2 + length scripts) in
    All-from_recursion IsRegular history (both_hold Worker (λ e. Stepper e × Others e) IsRegular history
    (λ e at of. ⊎_elim (λ own. of.0 own) (λ more. of.1 (more, omega (arith, at.1))) (first_or 1 e.who (nat_eq e.who 1) refl at.0))
    (recursion_from_All Worker history live.workers)
    (both_hold Stepper Others (λ e. Stepper e × Others e) history (λ e p q. (p, q))
    (of_worker 1 IsRegular history (subst (AllByRecursion IsRegular) (sym live.stepper) (each_copy IsRegular live.count one_step one_step_regular)))
    (of_lists 2 (stimuli ∷ scripts) history live.others regular)))

abbrev step_flag : Entry → ℕ
step_flag e = cond (is_step e) 1 0

steps_first : (e : Entry) (es : List Entry) → steps_in (e ∷ es) ≡ step_flag e + steps_in es
steps_first e es = omega (arith, sum_by-append step_flag (e ∷ []) es)

-- a step of a regular history is the stepper's
step_is_counted : (e : Entry) (es : List Entry) → IsRegular e → step_flag e + length (entries_of_worker 1 es) ≤ length (entries_of_worker 1 (e ∷ es))
step_is_counted e es h = by e.who e.what h where
  others : (v : Bool) (x : Entry) → 0 + length (entries_of_worker 1 es) ≤ length (cond v (x ∷ entries_of_worker 1 es) (entries_of_worker 1 es))
  others true x = omega arith
  others false x = omega arith

  own : (who : ℕ) → who ≡ 1 → 1 + length (entries_of_worker 1 es) ≤ length (cond (eqb who 1) (record { who = who; what = Step } ∷ entries_of_worker 1 es) (entries_of_worker 1 es))
  own who is =
      let e : Entry = record { who = who; what = Step } in
      omega (arith, ap (λ v. length (cond v (e ∷ entries_of_worker 1 es) (entries_of_worker 1 es))) (eq-eqb who 1 is))

  by : (who : ℕ) (what : What) → IsRegular (record { who = who; what = what })
      → step_flag (record { who = who; what = what }) + length (entries_of_worker 1 es) ≤ length (cond (eqb who 1) (record { who = who; what = what } ∷ entries_of_worker 1 es) (entries_of_worker 1 es))
  by who Step h = own who h.worker
  by who (Input byte value) h = others (eqb who 1) _
  by who (Arrive ob value) h = others (eqb who 1) _
  by who (Tick ms) h = others (eqb who 1) _
  by who (Ask request) h = others (eqb who 1) _

steps_few : (es : List Entry) → AllByRecursion IsRegular es → steps_in es ≤ length (entries_of_worker 1 es)
steps_few [] h = omega arith
steps_few (e ∷ es) h = omega (arith, steps_first e es, step_is_counted e es h.0, steps_few es h.1)

pub live_has_steps : (loaded : LoadedProgram) (steps : ℕ) (stimuli : List Entry) (scripts : List (List Entry)) (history : List Entry)
    → IsLive loaded steps stimuli scripts history → AreRegularBy 2 (stimuli ∷ scripts) → steps_in history ≤ steps
live_has_steps loaded steps stimuli scripts history live regular =
    let all : AllByRecursion IsRegular history = recursion_from_All IsRegular history (live_is_regular loaded steps stimuli scripts history live regular) in
    omega (arith, steps_few history all, ap length live.stepper, length-replicate live.count one_step, live.few)

-- one list more, that of the worker behind those of the others
pub regular_more : (who : ℕ) (lists : List (List Entry)) (list : List Entry) → AreRegularBy who lists → All (IsRegularOf (who + length lists)) list → AreRegularBy who (lists ++ list ∷ [])
regular_more who [] list are is = let n : who + 0 ≡ who = omega arith in (subst (λ k. All (IsRegularOf k) list) n is, tt)
regular_more who (first ∷ lists) list are is =
    let n : who + suc (length lists) ≡ suc who + length lists = omega arith in
    (are.0, regular_more (suc who) lists list are.1 (subst (λ k. All (IsRegularOf k) list) n is))

pub total_more : (lists : List (List Entry)) (list : List Entry) → total_length (lists ++ list ∷ []) ≡ total_length lists + length list
total_more [] list = omega arith
total_more (first ∷ lists) list = omega (arith, total_more lists list)
