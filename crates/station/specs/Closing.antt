-- What a station gives back.
use Rattle.std.specs.Prelude.{◌≡◌, ◌<◌, List, ◌++◌}
use mathlib.Core.List.{IsPrefix}
use Rattle.var_access.specs.declared.Entry.{Entry}
use Rattle.controller.specs.Recording.{Recording}
use Rattle.tracked_lock.specs.Passes.{PassView}
use Rattle.tracked_lock.specs.Views.{AreEntriesByMaker, HoldsForEach, times}
use Rattle.station.specs.declared.shared.Opening.{Opening}

-- the controller that a station gives back: it has the program, the profile and the entries of the
-- opening, and behind these a list that begins with all that the pass had seen, and that is what
-- was made under the pass's numbers
pub record IsGivenBack (o : Opening) (c : Recording) (p : PassView Opening Entry) : Type 0 where
  -- the controller has the program of the opening
  pub program : c.program ≡ o.program
  -- the controller has the profile of the opening
  pub profile : c.profile ≡ o.profile
  -- the entries made since the opening, in order
  pub story : List Entry
  -- the history is the entries of the opening, and behind them those made since then
  pub history : c.history ≡ o.first ++ story
  -- the entries since the opening begin with all that the pass had seen
  pub begins : IsPrefix p.seen story
  -- under each number of the pass stand the entries since the opening of that worker, in order
  pub made : AreEntriesByMaker (λ e. e.who) story p.made
  -- the worker of each entry since the opening is a number of the pass
  pub all : HoldsForEach (λ e. 0 < times e.who p.made) story
