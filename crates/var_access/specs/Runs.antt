-- Histories as runs.
use Rattle.std.specs.Prelude.{◌≡◌, ℕ, ◌+◌, ◌-◌, ◌≤◌, ◌==◌, nat_le, nat_lt, Bool, true, false, ◌&&◌, if◌then◌else◌, List, [], ◌∷◌, ◌++◌, replicate, Option, Some, None}
use Rattle.std.specs.List.{AllByRecursion}
use Rattle.var_access.specs.declared.entries.Entry.{Entry}
use Rattle.var_access.specs.declared.entries.What.{What}
use Rattle.var_access.specs.declared.entries.What.TheVariants.{Step}
use Rattle.var_access.specs.declared.runs.Run.{Run}

-- the entries that runs stand for, one run behind the other
abbrev pub entries_of_runs : List Run → List Entry
entries_of_runs [] = []
entries_of_runs (r ∷ rest) = replicate r.count r.entry ++ entries_of_runs rest

-- each run begins with the number behind the run before it
abbrev pub FollowFrom : (first : ℕ) → List Run → Type 0
FollowFrom first [] = Unit {0}
FollowFrom first (r ∷ rest) = (r.first ≡ first) × FollowFrom (first + r.count) rest

-- what an entry does is a step
abbrev pub is_step_what : What → Bool
is_step_what Step = true
is_step_what _ = false

-- the entry is a step, whoever makes it
abbrev pub is_step : Entry → Bool
is_step e = is_step_what e.what

-- two entries are steps of the same worker
abbrev pub are_steps_of_one_worker : (one next : Entry) → Bool
are_steps_of_one_worker one next = is_step one && is_step next && one.who == next.who

-- a run has one entry at least; only steps come in runs of more than one
pub record IsHistoryRun (r : Run) : Type 0 where
  -- the run has one entry at least
  pub some : 1 ≤ r.count
  -- a run of an entry that is no step has exactly one entry
  pub one : is_step r.entry ≡ false → r.count ≡ 1

-- a run of steps isn't followed by a run of steps of the same worker
abbrev pub StandsApart : Run → List Run → Type 0
StandsApart r [] = Unit {0}
StandsApart r (next ∷ rest) = are_steps_of_one_worker r.entry next.entry ≡ false

-- no two runs of a list that stand side by side are steps of one worker
abbrev pub StandApart : List Run → Type 0
StandApart [] = Unit {0}
StandApart (r ∷ rest) = StandsApart r rest × StandApart rest

-- the runs of a history, whose numbers are counted from 0
pub record AreRuns (runs : List Run) : Type 0 where
  -- each run has one entry at least, and only steps come in runs of more than one
  pub each : AllByRecursion IsHistoryRun runs
  -- the first run begins with entry 0, and each other one with the entry behind the run before it
  pub follow : FollowFrom 0 runs
  -- no two runs side by side are steps of one worker
  pub apart : StandApart runs

-- the last of some further runs that begins at a number or before it; `best` where none of them does
abbrev pub run_behind : (best : Option Run) → List Run → (i : ℕ) → Option Run
run_behind best [] i = best
run_behind best (r ∷ rest) i = if nat_le r.first i then run_behind (Some r) rest i else best

-- the last run that begins at a number or before it
abbrev pub run_at : List Run → (i : ℕ) → Option Run
run_at runs i = run_behind None runs i

-- the entry of a number, by the run that begins at it or before it
abbrev pub entry_by : Option Run → (i : ℕ) → Option Entry
entry_by None i = None
entry_by (Some r) i = if nat_lt (i - r.first) r.count then Some r.entry else None
