-- Which activations can stand at once, and why they are at most 48. In RUN an activation has one of
-- the 24 classes 1 to 23 and 26, in STARTUP 27 or 28. Classes rise strictly from each to the one that
-- interrupted it, but that OB 121 or 122 has the class of the one below it, which is none of these
-- two itself. So at most two stand in each class.
use Rattle.std.specs.Prelude.{◌≡◌, ℕ, ◌<◌, ◌≤◌, Bool, true, false, ◌==◌, IsTrue, List, [], ◌∷◌, length}
use Rattle.plc_base.specs.declared.Mode.{Mode}
use Rattle.plc_base.specs.declared.Mode.TheVariants.{Run, Startup, Stop}
use Rattle.frames.specs.declared.Activation.{Activation}
use Rattle.ob_sched.specs.OrganizationBlock.{can_wait, priority_class_in, is_asynchronous_error}
use Rattle.controller.specs.Errors.{is_synchronous}

-- an organization block may be started above these activations: in RUN each that can wait, in
-- STARTUP OB 100 above none and OB 80 and OB 85 above others, in STOP none
abbrev pub may_ob_be_started : Mode → (ob : ℕ) → (below : List Activation) → Bool
may_ob_be_started Run ob below = can_wait ob
may_ob_be_started Startup ob [] = ob == 100
may_ob_be_started Startup ob (b ∷ below) = is_asynchronous_error ob
may_ob_be_started (Stop cause at) ob below = false

-- a priority class is above that of the first of these activations, if there is one
abbrev pub IsAbove : (class : ℕ) → (below : List Activation) → Type 0
IsAbove class [] = Unit {0}
IsAbove class (b ∷ below) = b.class < class

-- an activation of this priority class and OB was started above these activations, as the
-- operating mode allows it
pub record IsStarted (mode : Mode) (class ob : ℕ) (below : List Activation) : Type 0 where
  -- the OB may be started above these activations in this mode
  pub stands : IsTrue (may_ob_be_started mode ob below)
  -- the priority class is that of the OB in this mode
  pub class_is : class ≡ priority_class_in mode ob
  -- the priority class is above that of the activation that was interrupted
  pub above : IsAbove class below

-- an activation of OB 121 or 122 has the class of the activation in which the error came, which
-- isn't one of OB 121 or 122 itself
abbrev pub IsErrorIn : Activation → (below : List Activation) → Type 0
IsErrorIn a [] = ⊥
IsErrorIn a (b ∷ below) = (a.class ≡ b.class) × (is_synchronous b.ob ≡ false)

-- an activation is rightly above those that it interrupted: one of OB 121 or 122 by an error, any
-- other as one that was started
abbrev pub StandsOn : (is_error : Bool) → Mode → Activation → (below : List Activation) → Type 0
StandsOn true mode a below = IsErrorIn a below
StandsOn false mode a below = IsStarted mode a.class a.ob below

-- each of some activations, the running one first, is rightly above those that it interrupted
abbrev pub IsStack : Mode → List Activation → Type 0
IsStack mode [] = Unit {0}
IsStack mode (a ∷ below) =
    StandsOn (is_synchronous a.ob) mode a below × IsStack mode below

-- in STARTUP at least one activation runs; in RUN and STOP there may be none
abbrev pub RunsInStartup : Mode → List Activation → Type 0
RunsInStartup Startup [] = ⊥
RunsInStartup mode activations = Unit {0}

-- the activations, the running one first, are those that the operating mode allows at once
pub record IsActivationStack (mode : Mode) (activations : List Activation) : Type 0 where
  -- each activation is rightly above those that it interrupted
  pub stack : IsStack mode activations
  -- in STARTUP at least one activation runs
  pub startup : RunsInStartup mode activations

-- an OB other than 121 and 122 may begin in this priority class above these activations
abbrev pub MayBegin : Mode → (class ob : ℕ) → List Activation → Type 0
MayBegin mode class ob below = (is_synchronous ob ≡ false) × IsStarted mode class ob below

-- law: at most 48 activations run or are interrupted at once
abbrev pub AtMost48 : Type 0
AtMost48 = (mode : Mode) (activations : List Activation)
    → IsStack mode activations → length activations ≤ 48
