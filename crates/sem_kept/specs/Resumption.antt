-- The law of resumption: a suspended activation goes on as it was left.
use Rattle.std.specs.Prelude.{ℕ, ◌≡◌, ◌<◌, ◌≤◌, ◌+◌, List, [], ◌∷◌, length, take, false, Option, Some, None, nat_eq, if◌then◌else◌}
use Rattle.plc_base.specs.declared.Profile.{Profile}
use Rattle.var_access.specs.declared.What.{What}
use Rattle.controller.specs.Replay.{replay}
use Rattle.controller.specs.State.{State, is_stop}
use Rattle.frames.specs.declared.Activation.{Activation}
use Rattle.image_file.specs.LoadedProgram.{LoadedProgram}
use Rattle.machine.specs.Code.{Code}
use Rattle.machine.specs.Flat.{code_of}
use Rattle.stl_symbols.specs.declared.languages.Language.{Language}
use Rattle.sem_kept.specs.Meaning.{MeansCodeIn}

-- the state of the machine after the first k entries of a history
abbrev pub state_after_first : Profile → Code → List What → ℕ → State
state_after_first profile code history k = replay profile code (take k history)

-- the activation at a place of the list, counted from 0 at the bottom
abbrev pub activation_at_place : List Activation → ℕ → Option Activation
activation_at_place [] place = None
activation_at_place (a ∷ below) place =
    if nat_eq place (length below) then Some a else activation_at_place below place

-- from `first` entries on, up to `last` entries, the mode isn't STOP and an activation stands at
-- this place. After `last` entries it is the running one; before that it is suspended
pub record IsSuspended
    (profile : Profile) (code : Code) (history : List What) (place first last : ℕ)
    : Type 0 where
  -- the first moment is before the last
  pub earlier : first < last
  -- the history has `last` entries at least
  pub within : last ≤ length history
  -- the mode isn't STOP
  pub goes_on : (k : ℕ) → first ≤ k → k ≤ last
      → is_stop (state_after_first profile code history k).mode ≡ false
  -- before `last` entries an activation stands at the place, with another one above it
  pub suspended : (k : ℕ) → first ≤ k → k < last
      → place + 1 < length (state_after_first profile code history k).activations
  -- after `last` entries the activation at the place is the topmost, which runs
  pub runs : length (state_after_first profile code history last).activations ≡ place + 1

-- from `first` entries of a history on, up to `last`, the activation at a place is the same: its
-- class, registers, delay count, frames and all that they hold
abbrev pub Resumes : Profile → Code → List What → (place first last : ℕ) → Type 0
Resumes profile code history place first last =
    (k : ℕ) → first ≤ k → k ≤ last
    → activation_at_place (state_after_first profile code history k).activations place
    ≡ activation_at_place (state_after_first profile code history first).activations place

-- the law of resumption over the statements of a source, at each profile, with symbols of each
-- language: a suspended activation goes on as it was left
abbrev pub SourcesResume : Type 0
SourcesResume =
    (language : Language) (source symbols : List ℕ) (profile : Profile) (code : Code)
    (history : List What) (place first last : ℕ)
    → MeansCodeIn language source symbols code → IsSuspended profile code history place first last
    → Resumes profile code history place first last

-- the law of resumption over a program that is loaded, at each profile: a suspended activation
-- goes on as it was left
abbrev pub ImagesResume : Type 0
ImagesResume =
    (profile : Profile) (l : LoadedProgram) (history : List What) (place first last : ℕ)
    → IsSuspended profile (code_of l.program) history place first last
    → Resumes profile (code_of l.program) history place first last
