-- What all workers have made, from what each has made.
use Rattle.std.proofs.Common.{◌≡◌, ℕ, Bool, true, List, [], ◌∷◌, ◌++◌, length, replicate, Result, Ok, Err, OnOk, IsOk, sym, ap, ◌∙◌, subst, inl, inr, ⊎_elim, true≢false, arith, length-append}
use Rattle.std.specs.Result.{result_and}
use mathlib.Core.List.{IsPrefix}
use Rattle.var_access.specs.declared.Entry.{Entry}
use Rattle.tracked_lock.specs.Passes.{PassView, LockView}
use Rattle.tracked_lock.specs.Views.{AreEntriesByMaker}
use Rattle.tracked_lock.specs.declared.views.Made.{Made}
use Rattle.station.specs.Openings.{the_opening}
use Rattle.station.specs.declared.shared.Opening.{Opening}
use Rattle.station.specs.declared.shared.StationFault.{StationFault}
use Rattle.station.specs.declared.shared.StationFault.TheVariants.{NoMemory, Full}
use Rattle.s7_cli.specs.Working.{EndsInStop, HasStepped, HasWorked, HaveBegun, IsFaultAt, KnowsFault, RunsBefore, entries_of_worker, passes_made_whole, step_entry_by}
use Rattle.s7_cli.proofs.StepperLemmas.{ends_on, none_came, runs_on}

pub at_ok : {A B : Type 0} {X : Type 0} (r : Result A B) → IsOk r → OnOk r X → X
at_ok (Ok a) h x = x
at_ok (Err b) h x = absurd (true≢false (sym h))

pub workers_worked : (s : LockView Opening) (all rest : List (PassView Opening Entry)) (p a b r : PassView Opening Entry) (steps : ℕ) (stimuli : List Entry) (scripts : List (List Entry)) (first whole : Bool)
    → all ≡ p ∷ rest → HasStepped s p.number steps a first → HaveBegun rest (stimuli ∷ scripts) b.made → r.made ≡ a.made ++ b.made
    → IsPrefix a.seen r.seen → AreEntriesByMaker (λ e. e.who) r.seen r.made
    → (whole ≡ true → (first ≡ true) × (b.made ≡ passes_made_whole rest (stimuli ∷ scripts)))
    → HasWorked s all steps stimuli scripts r whole
workers_worked s all rest p a b r steps stimuli scripts first whole is h begun both begins agrees done =
    let who : ℕ = p.number in
    let z : List Entry = begins.0 in
    let o : Opening = the_opening s.origin in
    let made : ◌≡◌ {A = List (Made Entry)} r.made (record { number = who; entries = replicate h.count (step_entry_by who) } ∷ b.made) = both ∙ ap (λ (l : List (Made Entry)). l ++ b.made) h.made in
    let now : entries_of_worker who r.seen ≡ replicate h.count (step_entry_by who) = (subst (AreEntriesByMaker (λ (e : Entry). e.who) r.seen) made agrees).0 in
    let was : entries_of_worker who a.seen ≡ replicate h.count (step_entry_by who) = (subst (AreEntriesByMaker (λ (e : Entry). e.who) a.seen) h.made h.agrees).0 in
    let none : entries_of_worker who z ≡ [] = none_came who a.seen z r.seen begins.1 (omega (arith, ap length now, ap length was)) in
    subst (λ l. HasWorked s l steps stimuli scripts r whole) (sym is) record {
      count = h.count;
      few = h.few;
      others = b.made;
      made = made;
      begun = begun;
      runs = subst (RunsBefore 1 o who) begins.1 (runs_on 1 o who a.seen z none h.runs);
      all = λ w. (done w).1;
      ends = λ w. ⊎_elim (λ t. inl t) (λ t. inr (subst (EndsInStop o who) begins.1 (ends_on o who a.seen z none t))) (h.ends (done w).0);
    }

-- a longer story is as full
fault_on : (s : LockView Opening) (xs ys : List Entry) (f : StationFault) → IsPrefix xs ys → IsFaultAt s xs f → IsFaultAt s ys f
fault_on s xs ys NoMemory p h = tt
fault_on s xs ys Full p h = omega (arith, h, ap length p.1, length-append xs p.0)

pub fault_of_both : (s : LockView Opening) (xs ys story : List Entry) (a b : Result Unit StationFault) → IsPrefix xs story → IsPrefix ys story
    → KnowsFault s xs a → KnowsFault s ys b → KnowsFault s story (result_and a b)
fault_of_both s xs ys story (Ok x) (Ok y) i j h k = tt
fault_of_both s xs ys story (Ok x) (Err f) i j h k = fault_on s ys story f j k
fault_of_both s xs ys story (Err f) b i j h k = fault_on s xs story f i h
