-- What a turn of a station does.
use Rattle.std.specs.Prelude.{◌≡◌, ℕ, ◌+◌, ◌<◌, ◌≤◌, Bool, true, false, List, [], ◌∷◌, ◌++◌, length}
use mathlib.Core.List.{IsPrefix}
use Rattle.var_access.specs.declared.Entry.{Entry}
use Rattle.var_access.specs.declared.What.{What}
use Rattle.var_access.specs.declared.What.TheVariants.{Input, Arrive, Tick}
use Rattle.controller.specs.Recording.{Recording}
use Rattle.tracked_lock.specs.Passes.{PassView}
use Rattle.tracked_lock.specs.Views.{numbers_with_more_made}
use Rattle.station.specs.declared.shared.Opening.{Opening}
use Rattle.station.specs.declared.shared.StationFault.{StationFault}
use Rattle.station.specs.declared.shared.StationFault.TheVariants.{NoMemory, Full}
use Rattle.station.specs.declared.shared.TheConstants.{FULL}
use Rattle.station.specs.Openings.{the_opening}

-- a stimulus: an input, an arrival or a tick
abbrev pub is_stimulus : What → Bool
is_stimulus (Input byte value) = true
is_stimulus (Arrive ob value) = true
is_stimulus (Tick ms) = true
is_stimulus _ = false

-- whether a fault may come at a history of this length
abbrev pub MayFail : StationFault → (len : ℕ) → Type 0
MayFail NoMemory len = len < FULL
MayFail Full len = FULL ≤ len

-- a controller got exactly this entry
pub record AddsEntry (old new : Recording) (e : Entry) : Type 0 where
  -- the controller keeps its program
  pub program : new.program ≡ old.program
  -- the controller keeps its profile
  pub profile : new.profile ≡ old.profile
  -- the history has exactly one entry more, at its end
  pub history : new.history ≡ old.history ++ e ∷ []
  -- the history had fewer than 4,194,304 entries before
  pub room : length old.history < FULL

-- the pass made this entry: the list that it knows ends with the entry, behind `before`, which
-- begins with all that the pass had seen; of the entries under its own number it is the only new
-- one, and those under its other numbers are as before
pub record HasMade
    (old new : PassView Opening Entry) (before : List Entry) (e : Entry)
    : Type 0 where
  -- the list that the pass knows ends with the entry, behind `before`
  pub ends : new.seen ≡ before ++ e ∷ []
  -- `before` begins with all that the pass had seen
  pub begins : IsPrefix old.seen before
  -- the entry is the only new one under the own number of the pass; the entries under its other
  -- numbers are as before
  pub made : new.made ≡ numbers_with_more_made old.made (e ∷ [])
  -- the entries of the opening and those since then are at most 4,194,304 together
  pub room : length (the_opening old.lock.origin).first + length new.seen ≤ FULL

-- the pass made no entry, and may have seen more
pub record HasMadeNone (old new : PassView Opening Entry) (fault : StationFault) : Type 0 where
  -- the list that the pass knows begins with all that it had seen
  pub begins : IsPrefix old.seen new.seen
  -- the entries under the numbers of the pass are as before
  pub made : new.made ≡ old.made
  -- the history is full, with 4,194,304 entries or more, where the fault says so; by want of memory
  -- it has fewer
  pub why : MayFail fault (length (the_opening old.lock.origin).first + length new.seen)
