-- An instruction on one of a list of timers or counters, which are numbered from 0.
use Rattle.std.specs.Prelude.{◌≡◌, ℕ, List, slice_get, slice_set, Option, Some, None, Result, Ok, Err, option_map, ok_or}
use Rattle.timers_counters.specs.declared.faults.TimerFault.{TimerFault}
use Rattle.timers_counters.specs.declared.faults.TimerFault.TheVariants.{NoNumber, BadBcd}

-- a list of timers or counters with another one at the number; the fault BadBcd where there is None
-- to put there
abbrev pub put_at_number : {A : Type 0} → List A → ℕ → Option A → Result (List A) TimerFault
put_at_number all number None = Err BadBcd
put_at_number all number (Some next) = Ok (slice_set all number next)

-- a list in which what was found at the number is changed by an effect: the fault NoNumber where
-- None was found, and BadBcd where the effect has no result
abbrev pub change_found :
    {A : Type 0} → (A → Option A) → List A → ℕ → Option A → Result (List A) TimerFault
change_found effect all number None = Err NoNumber
change_found effect all number (Some found) = put_at_number all number (effect found)

-- a list in which the timer or counter with the number is changed by an effect: the fault NoNumber
-- where there is none with the number, and BadBcd where the effect has no result
abbrev pub change_at_number :
    {A : Type 0} → (A → Option A) → List A → ℕ → Result (List A) TimerFault
change_at_number effect all number = change_found effect all number (slice_get all number)

-- a list in which the timer or counter with the number is changed by an effect that always has a
-- result: the fault NoNumber where there is none with the number
abbrev pub change_always : {A : Type 0} → (A → A) → List A → ℕ → Result (List A) TimerFault
change_always effect all number = change_at_number (λ found. Some (effect found)) all number

-- what is read of the timer or counter with the number; the fault NoNumber where there is none with
-- the number
abbrev pub read_at_number : {A B : Type 0} → (A → B) → List A → ℕ → Result B TimerFault
read_at_number read all number = ok_or (option_map read (slice_get all number)) NoNumber

-- what a call answers and leaves is the outcome of an instruction: the new list where the outcome
-- is one, else the fault, with the list as before
abbrev pub LeavesTable :
    {A : Type 0} → List A → List A → Result Unit TimerFault → Result (List A) TimerFault → Type 0
LeavesTable old new (Ok answer) (Ok next) = new ≡ next
LeavesTable old new (Err fault) (Err why) = (fault ≡ why) × (new ≡ old)
LeavesTable old new (Ok answer) (Err why) = ⊥
LeavesTable old new (Err fault) (Ok next) = ⊥
