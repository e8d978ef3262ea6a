-- What contracts see of a history.
use Rattle.std.specs.Prelude.{◌≡◌, ℕ, ◌+◌, ◌^◌, ◌<◌, ◌≤◌, List, vec_len, vec_capacity, length}
use Rattle.var_access.specs.declared.entries.Entry.{Entry}
use Rattle.var_access.specs.declared.runs.Entries.TheInside.{Inside}
use Rattle.var_access.specs.Runs.{AreRuns, entries_of_runs}

-- a history: the entries, and for how many further ones there is room
pub record History : Type 0 where
  -- the entries in their order, the first one first
  pub entries : List Entry
  -- for how many further entries there is room, whatever they are
  pub spare : ℕ

-- the history that the fields of the code stand for
abbrev pub history_of : Inside → History
history_of h = record { entries = entries_of_runs h.runs.items; spare = h.spare }

-- the fields of the code stand for a history; each further entry makes one run more at most
pub record IsHistory (h : Inside) : Type 0 where
  -- the runs are those of a history, whose entries are counted from 0
  pub runs_are : AreRuns h.runs.items
  -- the field `len` counts the entries of the history, not its runs
  pub len_is : h.len ≡ length (entries_of_runs h.runs.items)
  -- the vector of runs has room for one more run for each further entry
  pub room : vec_len h.runs + h.spare ≤ vec_capacity h.runs
  -- the entries and the further ones together are fewer than 2^64, so each can be counted in a u64
  pub bounded : length (entries_of_runs h.runs.items) + h.spare < 2 ^ 64
