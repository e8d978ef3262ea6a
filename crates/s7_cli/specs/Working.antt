-- What the workers of a station may make, and what they have made.
use Rattle.std.specs.Prelude.{◌≡◌, ◌⊎◌, ℕ, ◌+◌, ◌≤◌, Bool, true, false, List, [], ◌∷◌, ◌++◌, length, replicate, Result, Ok, Err}
use Rattle.std.specs.List.{All}
use mathlib.Core.List.{IsPrefix}
use Rattle.var_access.specs.Entry.{IsInRange}
use Rattle.var_access.specs.declared.Entry.{Entry}
use Rattle.var_access.specs.declared.What.TheVariants.{Step}
use Rattle.controller.specs.State.{is_stop}
use Rattle.tracked_lock.specs.Passes.{PassView, LockView}
use Rattle.tracked_lock.specs.Views.{entries_by, AreEntriesByMaker}
use Rattle.tracked_lock.specs.declared.views.Made.{Made}
use Rattle.station.specs.Openings.{mode_at, the_opening}
use Rattle.station.specs.declared.shared.Opening.{Opening}
use Rattle.station.specs.declared.shared.StationFault.{StationFault}
use Rattle.station.specs.declared.shared.StationFault.TheVariants.{NoMemory, Full}
use Rattle.station.specs.declared.shared.TheConstants.{FULL}

-- an entry of this worker, with its numbers in their ranges
abbrev pub IsEntryOf : (who : ℕ) → Entry → Type 0
IsEntryOf who e = (e.who ≡ who) × IsInRange e.what

-- a step of this worker
abbrev pub step_entry_by : (who : ℕ) → Entry
step_entry_by who = record { who = who; what = Step }

-- the worker's entries of a story
abbrev pub entries_of_worker : (who : ℕ) → List Entry → List Entry
entries_of_worker who story = entries_by (λ (e : Entry). e.who) who story

-- a pass of this station that has made and joined nothing, and with which no value is out
pub record IsFresh (s : LockView Opening) (p : PassView Opening Entry) : Type 0 where
  -- the pass is one of this station
  pub lock : p.lock ≡ s
  -- no value is out with it
  pub out : p.out ≡ false
  -- under its number it has made nothing, and it has no other number
  pub made : p.made ≡ record { number = p.number; entries = [] } ∷ []
  -- it has seen no entry of its number
  pub agrees : AreEntriesByMaker (λ e. e.who) p.seen p.made

-- of these entries the pass has made the first ones, and nothing else
pub record HasBegun
    (s : LockView Opening) (number : ℕ) (entries : List Entry) (p : PassView Opening Entry)
    : Type 0 where
  -- the pass is one of this station
  pub lock : p.lock ≡ s
  -- no value is out with it
  pub out : p.out ≡ false
  -- the entries that it made
  pub done : List Entry
  -- they are the first ones of the list, in its order
  pub begins : IsPrefix done entries
  -- under its number it made these, and it has no other number
  pub made : p.made ≡ record { number = number; entries = done } ∷ []

-- a fresh pass for each list, whose entries are of the pass's number
abbrev pub AreReady : LockView Opening → List (PassView Opening Entry) → List (List Entry) → Type 0
AreReady s [] [] = Unit {0}
AreReady s (p ∷ ps) (x ∷ xs) = IsFresh s p × All (IsEntryOf p.number) x × AreReady s ps xs
AreReady s ps xs = ⊥

-- a fresh pass for the stepper, one for the feeder with its stimuli, and one for each script
abbrev pub CanWork :
    LockView Opening → List (PassView Opening Entry) → (stimuli : List Entry)
    → (scripts : List (List Entry)) → Type 0
CanWork s [] stimuli scripts = ⊥
CanWork s (p ∷ ps) stimuli scripts = IsFresh s p × AreReady s ps (stimuli ∷ scripts)

-- each list as it was made whole, under its pass's number
abbrev pub passes_made_whole : List (PassView Opening Entry) → List (List Entry) → List (Made Entry)
passes_made_whole (p ∷ ps) (x ∷ xs) =
    record { number = p.number; entries = x } ∷ passes_made_whole ps xs
passes_made_whole ps xs = []

-- of each list the first entries were made, under its pass's number, and nothing else
abbrev pub HaveBegun :
    List (PassView Opening Entry) → List (List Entry) → List (Made Entry) → Type 0
HaveBegun [] [] [] = Unit {0}
HaveBegun (p ∷ ps) (x ∷ xs) (m ∷ ms) =
    (m.number ≡ p.number) × IsPrefix m.entries x × HaveBegun ps xs ms
HaveBegun ps xs ms = ⊥

-- a fault of a station with this story: it is full only where its history has at least FULL
-- entries
abbrev pub IsFaultAt : LockView Opening → (story : List Entry) → StationFault → Type 0
IsFaultAt s story NoMemory = Unit {0}
IsFaultAt s story Full = FULL ≤ length (the_opening s.origin).first + length story

-- a worker that knows this story wasn't refused, or by a fault that the station can have there:
-- it is full only where its history has at least FULL entries
abbrev pub KnowsFault : LockView Opening → (story : List Entry) → Result Unit StationFault → Type 0
KnowsFault s story (Ok done) = Unit {0}
KnowsFault s story (Err fault) = IsFaultAt s story fault

-- the worker's entries that stand before `last` or more others of its own leave another mode than
-- STOP, each at its place in the story
abbrev pub RunsBefore : (last : ℕ) → Opening → (who : ℕ) → (story : List Entry) → Type 0
RunsBefore last o who story =
    (before after : List Entry) (e : Entry)
    → story ≡ before ++ e ∷ after → e.who ≡ who → last ≤ length (entries_of_worker who after)
    → is_stop (mode_at o before e) ≡ false

-- the worker's last entry leaves STOP at its place in the story
pub record EndsInStop (o : Opening) (who : ℕ) (story : List Entry) : Type 0 where
  -- the story before the entry
  pub before : List Entry
  -- the worker's last entry
  pub last : Entry
  -- the story behind it
  pub after : List Entry
  -- the story is made of these three
  pub is : story ≡ before ++ last ∷ after
  -- the entry is the worker's
  pub own : last.who ≡ who
  -- the worker has no later entry
  pub none : entries_of_worker who after ≡ []
  -- the mode behind the entry is STOP
  pub stops : is_stop (mode_at o before last) ≡ true

-- what a stepper leaves of its pass: it made steps alone, at most `steps`, each but the last of
-- which leaves another mode than STOP; `whole` says that it wasn't refused, and then it made fewer
-- only where the last one leaves STOP
pub record HasStepped
    (s : LockView Opening) (number steps : ℕ) (p : PassView Opening Entry) (whole : Bool)
    : Type 0 where
  -- the pass is one of this station
  pub lock : p.lock ≡ s
  -- no value is out with it
  pub out : p.out ≡ false
  -- the entries of its number in the story that it has seen are those that it made
  pub agrees : AreEntriesByMaker (λ e. e.who) p.seen p.made
  -- how many steps it made
  pub count : ℕ
  -- they are at most as many as it was to make
  pub few : count ≤ steps
  -- it made these steps, and nothing else
  pub made : p.made
      ≡ record { number = number; entries = replicate count (step_entry_by number) } ∷ []
  -- each of its steps but the last leaves another mode than STOP
  pub runs : RunsBefore 1 (the_opening s.origin) number p.seen
  -- where it wasn't refused, it made all steps, or its last one leaves STOP
  pub ends : whole ≡ true → (count ≡ steps) ⊎ EndsInStop (the_opening s.origin) number p.seen

-- what the workers made together: the stepper, whose pass was `p`, made steps alone, at most
-- `steps`, each but the last of which leaves another mode than STOP, and those of the passes `ps`
-- the first entries of their `lists`; `r` is the pass that joined all of theirs, and `whole` says
-- that no worker was refused: then the lists were made whole, and there are fewer steps only where
-- the last one leaves STOP
pub record HaveWorkedTogether
    (s : LockView Opening) (p : PassView Opening Entry) (ps : List (PassView Opening Entry))
    (steps : ℕ) (lists : List (List Entry)) (r : PassView Opening Entry) (whole : Bool)
    : Type 0 where
  -- how many steps the stepper made
  pub count : ℕ
  -- they are at most as many as it was to make
  pub few : count ≤ steps
  -- what each of the other workers made, under its number
  pub others : List (Made Entry)
  -- the pass `r` has made the steps, under the stepper's number, and what the others made
  pub made : r.made
      ≡ record { number = p.number; entries = replicate count (step_entry_by p.number) } ∷ others
  -- each of the others made the first entries of its list
  pub begun : HaveBegun ps lists others
  -- each of the stepper's steps but the last leaves another mode than STOP
  pub runs : RunsBefore 1 (the_opening s.origin) p.number r.seen
  -- where no worker was refused, the other lists were made whole
  pub all : whole ≡ true → others ≡ passes_made_whole ps lists
  -- where no worker was refused, all steps were made, or the last one leaves STOP
  pub ends : whole ≡ true → (count ≡ steps) ⊎ EndsInStop (the_opening s.origin) p.number r.seen

-- what the workers of these passes made together, the stepper's pass first: it made at most
-- `steps` steps alone, the others the first entries of the stimuli and of the scripts; `whole`
-- says that no worker was refused
abbrev pub HasWorked :
    LockView Opening → List (PassView Opening Entry) → (steps : ℕ) → (stimuli : List Entry)
    → (scripts : List (List Entry)) → PassView Opening Entry → Bool → Type 0
HasWorked s [] steps stimuli scripts r whole = ⊥
HasWorked s (p ∷ ps) steps stimuli scripts r whole =
    HaveWorkedTogether s p ps steps (stimuli ∷ scripts) r whole
