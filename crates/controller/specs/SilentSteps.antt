-- Entries one after another that show nothing.
use Rattle.std.specs.Prelude.{◌≡◌, ◌&&◌, ℕ, Bool, false, not, is_some, List, [], ◌∷◌}
use Rattle.frames.specs.declared.Activation.{Activation}
use Rattle.flat_code.specs.Programs.{Program}
use Rattle.machine.specs.Code.{Code}
use Rattle.machine.specs.Silent.{RunsSilently, StaysReady, goes_on_by_kind, is_silent}
use Rattle.machine.specs.Statement.{GlobalStore}
use Rattle.ob_sched.specs.StartRequest.{best_of}
use Rattle.var_access.specs.declared.What.{What}
use Rattle.controller.specs.Replay.{entry_result}
use Rattle.controller.specs.ShownEntry.{nothing_shown}
use Rattle.controller.specs.State.{State, is_stop}

-- none of these entries shows anything, from a state on
abbrev pub ShowNothing : Code → State → List What → Type 0
ShowNothing code s [] = Unit {0}
ShowNothing code s (what ∷ rest) =
    ((entry_result code s what).seen ≡ nothing_shown)
    × ShowNothing code (entry_result code s what).state rest

-- the running activation, if one runs, stays ready through silent statements
abbrev pub GoesOnReady : Program → List Activation → GlobalStore → Type 0
GoesOnReady p [] w = Unit {0}
GoesOnReady p (a ∷ below) w = StaysReady p a w

-- the running activation has executed so many silent statements, above the others; where none runs
-- nothing was done
abbrev pub GoesOnSilently :
    Code → (count : ℕ) → (old new : List Activation) (w w' : GlobalStore) → Type 0
GoesOnSilently code count [] new w w' = (count ≡ 0) × (new ≡ []) × (w' ≡ w)
GoesOnSilently code count (a ∷ below) new w w' =
    (b : Activation) × (new ≡ b ∷ below) × RunsSilently code count a b w w'

-- ---- before which steps a silent run stops

-- the running activation goes on with a statement of the silent kind
abbrev pub goes_on_silently : Code → List Activation → GlobalStore → Bool
goes_on_silently code [] w = false
goes_on_silently code (a ∷ below) w = goes_on_by_kind is_silent code a w

-- the next step is a silent statement of the running activation, outside STOP, where no block is
-- monitored and no request waits
abbrev pub steps_silently : Code → State → Bool
steps_silently code s =
    not (is_some s.monitored) && not (is_stop s.mode)
    && not (is_some (best_of s.mode s.sched.pending))
    && goes_on_silently code s.activations s.store
