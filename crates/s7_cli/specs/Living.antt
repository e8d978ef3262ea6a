-- Which histories are live histories.
use Rattle.std.specs.Prelude.{◌≡◌, ◌⊎◌, ℕ, suc, ◌+◌, ◌≤◌, List, [], ◌∷◌, length, replicate, Result, Err}
use Rattle.std.specs.List.{All}
use Rattle.image_file.specs.LoadedProgram.{LoadedProgram}
use Rattle.var_access.specs.declared.Entry.{Entry}
use Rattle.event_text.specs.Regular.{IsRegularOf}
use Rattle.event_text.specs.Workers.{one_step}
use Rattle.station.specs.declared.shared.Opening.{Opening}
use Rattle.station.specs.declared.shared.StationFault.{StationFault}
use Rattle.station.specs.declared.shared.StationFault.TheVariants.{Full}
use Rattle.s7_cli.specs.Working.{EndsInStop, RunsBefore, entries_of_worker}

-- lists of entries are of the workers from `who` on, one each: regular entries of their workers
abbrev pub AreRegularBy : (who : ℕ) → List (List Entry) → Type 0
AreRegularBy who [] = Unit {0}
AreRegularBy who (x ∷ xs) = All (IsRegularOf who) x × AreRegularBy (suc who) xs

-- how many entries these lists have together
abbrev pub total_length : List (List Entry) → ℕ
total_length [] = 0
total_length (x ∷ xs) = length x + total_length xs

-- each list stands whole and in its order in the history, as the entries of its worker
abbrev pub StandInHistory : (who : ℕ) → List (List Entry) → (history : List Entry) → Type 0
StandInHistory who [] history = Unit {0}
StandInHistory who (x ∷ xs) history =
    (entries_of_worker who history ≡ x) × StandInHistory (suc who) xs history

-- the opening of a station that begins with a program, at its profile, and no entry
abbrev pub opening_on : LoadedProgram → Opening
opening_on loaded = record { program = loaded.program; profile = loaded.profile; first = [] }

-- a live history of stimuli, scripts and a number of steps on a program. Worker 1 made steps alone,
-- at most so many, each but the last of which leaves another mode than STOP at its place, and fewer
-- only where the last one leaves STOP. The entries of worker 2 are the stimuli, those of worker
-- k + 2 script k, each list whole and in its order. There are no other workers
pub record IsLive
    (loaded : LoadedProgram) (steps : ℕ) (stimuli : List Entry) (scripts : List (List Entry))
    (history : List Entry)
    : Type 0 where
  -- how many steps worker 1 made
  pub count : ℕ
  -- they are at most as many as it was to make
  pub few : count ≤ steps
  -- worker 1 made these steps, and nothing else
  pub stepper : entries_of_worker 1 history ≡ replicate count one_step
  -- each step but the last leaves another mode than STOP
  pub runs : RunsBefore 1 (opening_on loaded) 1 history
  -- all steps were made, or the last one leaves STOP
  pub ends : (count ≡ steps) ⊎ EndsInStop (opening_on loaded) 1 history
  -- the entries of the others are the stimuli and the scripts, each list whole
  pub others : StandInHistory 2 (stimuli ∷ scripts) history
  -- there are no workers but the stepper, the feeder and one for each script
  pub workers : All (λ e. (1 ≤ e.who) × (e.who ≤ 2 + length scripts)) history

-- the outcome of a worker isn't that the station was full
abbrev pub IsFullNever : Result Unit StationFault → Type 0
IsFullNever (Err Full) = ⊥
IsFullNever outcome = Unit {0}
