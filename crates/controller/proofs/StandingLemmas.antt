-- What may begin above those that stand, and that there is room for it.
use Rattle.std.proofs.Common.{◌≡◌, ℕ, ◌<◌, Bool, true, false, ◌||◌, IsTrue, List, [], ◌∷◌, length, Option, Some, None, refl, sym, ap, ◌∙◌, subst, rules, arith, if◌then◌else◌}
use Rattle.std.specs.Prelude.{◌==◌}
use Rattle.std.specs.Option.{option_map}
use Rattle.std.proofs.lemmas.Bool.Decides.{nat_tests}
use Rattle.plc_base.specs.declared.Profile.{Profile}
use Rattle.plc_base.specs.declared.Profile.TheVariants.{Small}
use Rattle.plc_base.specs.declared.Mode.{Mode}
use Rattle.plc_base.specs.declared.Mode.TheVariants.{Run, Startup, Stop}
use Rattle.frames.specs.Activations.{activation_begun}
use Rattle.frames.specs.declared.Activation.{Activation}
use Rattle.machine.specs.Code.{Code, BlockHead}
use Rattle.ob_sched.specs.OrganizationBlock.{can_wait, priority_class_in, is_asynchronous_error}
use Rattle.ob_sched.specs.StartRequest.{StartRequest, best_of}
use Rattle.ob_sched.specs.StartInformation.{ob_of_error}
use Rattle.ob_sched.specs.declared.requests.Pending.{Pending}
use Rattle.ob_sched.specs.declared.start_infos.StartInfo.{StartInfo}
use Rattle.machine.specs.Lasting.{ob_block}
use Rattle.controller.specs.Beginning.{ob_begun, ob_frame, ob_activation}
use Rattle.controller.specs.Errors.{is_synchronous}
use Rattle.controller.specs.Settling.{may_start}
use Rattle.controller.specs.Stack.{IsAbove, IsStarted, StandsOn, IsStack, RunsInStartup, IsActivationStack, MayBegin}
use Rattle.controller.specs.Start.{state_in_startup, startup_info, startup_ob}
use Rattle.controller.specs.State.{State, is_stop}
use Rattle.controller.proofs.SameLemmas.{with_start_bytes_class, with_start_bytes_ob}
use Rattle.controller.proofs.StackLemmas.{at_most_48, no_stack, startup_class}

-- some activation of a class
some_head : BlockHead
some_head = record { local_len = 0; instance_len = 0; params = [] }

abbrev some_of : (class ob : ℕ) → Activation
some_of class ob = activation_begun Small class ob (ob_frame ob some_head)

pub not_empty : (mode : Mode) (a : Activation) (below : List Activation)
    → RunsInStartup mode (a ∷ below)
not_empty Run a below = tt
not_empty Startup a below = tt
not_empty (Stop cause at) a below = tt

pub stack_more : (mode : Mode) (class ob : ℕ) (a : Activation) (below : List Activation)
    → a.class ≡ class → a.ob ≡ ob → IsStack mode below → MayBegin mode class ob below
    → IsStack mode (a ∷ below)
stack_more mode class ob a below class_is ob_is stack may = (
  subst (λ test. StandsOn test mode a below) (sym (ap is_synchronous ob_is ∙ may.0))
      (subst (λ c. IsStarted mode c a.ob below) (sym class_is)
      (subst (λ o. IsStarted mode class o below) (sym ob_is) may.1)),
  stack,
)

pub room_to_begin : (mode : Mode) (class ob : ℕ) (below : List Activation)
    → IsActivationStack mode below → MayBegin mode class ob below → length below < 48
room_to_begin mode class ob below standing may =
    omega (
      arith,
      at_most_48 mode (some_of class ob ∷ below)
          (stack_more mode class ob (some_of class ob) below refl refl standing.stack may),
    )

pub begun_stands : (mode : Mode) (class ob : ℕ) (a : Activation) (below : List Activation)
    → a.class ≡ class → a.ob ≡ ob → IsActivationStack mode below → MayBegin mode class ob below
    → IsActivationStack mode (a ∷ below)
begun_stands mode class ob a below class_is ob_is standing may = record {
  stack = stack_more mode class ob a below class_is ob_is standing.stack may;
  startup = not_empty mode a below;
}

-- the best request
pub best_class : (mode : Mode) (pending : List StartRequest) (best : Pending)
    → best_of mode pending ≡ Some best → best.class ≡ priority_class_in mode best.ob
best_class mode [] best h = absurd cc
best_class mode (first ∷ rest) best h =
    let same : record { ob = first.0; class = priority_class_in mode first.0; info = first.1 } ≡ best =
    search (rules, h) in
    subst (λ (b : Pending). b.class ≡ priority_class_in mode b.ob) same refl

no_synchronous : (ob : ℕ) → IsTrue (can_wait ob) → is_synchronous ob ≡ false
no_synchronous ob h = grind (arith, nat_tests)

above_27 : (ob class : ℕ) → IsTrue (can_wait ob) → class ≡ priority_class_in Startup ob → 27 < class
    → IsTrue (is_asynchronous_error ob)
above_27 ob class waits is above = grind (arith, nat_tests)

started_above : (mode : Mode) (class ob : ℕ) (below : List Activation) → is_stop mode ≡ false
    → IsTrue (can_wait ob) → class ≡ priority_class_in mode ob → IsAbove class below
    → IsActivationStack mode below → IsStarted mode class ob below
started_above Run class ob below running waits is above standing =
    record { stands = waits; class_is = is; above = above }
started_above Startup class ob [] running waits is above standing = absurd standing.startup
started_above Startup class ob (b ∷ below) running waits is above standing = record {
  stands =
      above_27 ob class waits is
      (omega (arith, startup_class b below standing.stack, above));
  class_is = is;
  above = above;
}
started_above (Stop cause at) class ob below running waits is above standing = absurd cc

above_running : (class : ℕ) (activations : List Activation) → may_start class activations ≡ true
    → IsAbove class activations
above_running class [] may = tt
above_running class (a ∷ below) may = grind (arith, nat_tests)

pub best_may_begin : (mode : Mode) (class ob : ℕ) (activations : List Activation)
    → is_stop mode ≡ false → IsTrue (can_wait ob) → class ≡ priority_class_in mode ob
    → may_start class activations ≡ true → IsActivationStack mode activations
    → MayBegin mode class ob activations
best_may_begin mode class ob activations running waits is may standing = (
  no_synchronous ob waits,
  started_above mode class ob activations running waits is
      (above_running class activations may) standing,
)

pub cycle_may_begin : (mode : Mode) (activations : List Activation) → activations ≡ []
    → is_stop mode ≡ false → IsActivationStack mode activations
    → MayBegin mode (priority_class_in mode 1) 1 activations
cycle_may_begin mode activations idle running standing = (
  refl,
  started_above mode (priority_class_in mode 1) 1 activations running refl refl
      (subst (λ acts. IsAbove (priority_class_in mode 1) acts) (sym idle) tt) standing,
)

-- an OB 121 or 122
error_synchronous : (error : ℕ) → is_synchronous (ob_of_error error) ≡ true
error_synchronous error = by (error == 0x42 || error == 0x43)
  where
    by : (test : Bool) → is_synchronous (if test then 122 else 121) ≡ true
    by true = refl
    by false = refl

error_stack : (mode : Mode) (error : ℕ) (fresh a : Activation) (below : List Activation)
    → fresh.class ≡ a.class → fresh.ob ≡ ob_of_error error → is_synchronous a.ob ≡ false
    → IsStack mode (a ∷ below) → IsStack mode (fresh ∷ a ∷ below)
error_stack mode error fresh a below class_is ob_is single stack = (
  subst (λ test. StandsOn test mode fresh (a ∷ below))
      (sym (ap is_synchronous ob_is ∙ error_synchronous error)) (class_is, single),
  stack,
)

pub room_for_error : (mode : Mode) (a : Activation) (below : List Activation)
    → is_synchronous a.ob ≡ false → IsActivationStack mode (a ∷ below) → length (a ∷ below) < 48
room_for_error mode a below single standing =
    omega (
      arith,
      at_most_48 mode (some_of a.class 121 ∷ a ∷ below)
          (error_stack mode 0x21 (some_of a.class 121) a below refl refl single standing.stack),
    )

pub error_stands : (mode : Mode) (error : ℕ) (fresh a : Activation) (below : List Activation)
    → fresh.class ≡ a.class → fresh.ob ≡ ob_of_error error → is_synchronous a.ob ≡ false
    → IsActivationStack mode (a ∷ below) → IsActivationStack mode (fresh ∷ a ∷ below)
error_stands mode error fresh a below class_is ob_is single standing = record {
  stack = error_stack mode error fresh a below class_is ob_is single standing.stack;
  startup = not_empty mode fresh (a ∷ below);
}

-- an organization block as it begins, by its class and its number
unfoldable pub IsObActivation : (class ob : ℕ) → Option Activation → Type 0
IsObActivation class ob None = Unit {0}
IsObActivation class ob (Some a) = (a.class ≡ class) × (a.ob ≡ ob)

ob_is_by : (profile : Profile) (class ob : ℕ) (info : StartInfo) (found : Option BlockHead)
    → IsObActivation class ob (option_map (ob_begun profile class ob info) found)
unfolding IsObActivation ob_begun
ob_is_by profile class ob info None = tt
ob_is_by profile class ob info (Some h) = (
  with_start_bytes_class info.bytes 0 (activation_begun profile class ob (ob_frame ob h)),
  with_start_bytes_ob info.bytes 0 (activation_begun profile class ob (ob_frame ob h)),
)

pub ob_is : (profile : Profile) (code : Code) (class ob : ℕ) (info : StartInfo)
    → IsObActivation class ob (ob_activation profile code class ob info)
ob_is profile code class ob info = ob_is_by profile class ob info (code.head (ob_block ob))

-- in STOP none stands
pub stop_idle : (mode : Mode) (activations : List Activation) → is_stop mode ≡ true
    → IsStack mode activations → activations ≡ []
stop_idle mode [] is stack = refl
stop_idle Run (a ∷ below) is stack = absurd cc
stop_idle Startup (a ∷ below) is stack = absurd cc
stop_idle (Stop cause at) (a ∷ below) is stack = absurd (no_stack cause at a below stack)

-- in STARTUP OB 100 is the first one
pub first_stands : (a : Activation) → a.class ≡ 27 → a.ob ≡ 100 → IsActivationStack Startup (a ∷ [])
first_stands a class_is ob_is = record {
  stack =
      stack_more Startup 27 100 a [] class_is ob_is tt
      (refl, record { stands = refl; class_is = refl; above = tt });
  startup = tt;
}

-- so after a start of which none stood before OB 100 stands, or none
started_stands : (one : Option Activation) (s : State) → IsObActivation 27 100 one → s.activations ≡ []
    → IsActivationStack (state_in_startup one s).mode (state_in_startup one s).activations
unfolding IsObActivation
started_stands None s is idle =
    subst (λ (acts : List Activation). IsActivationStack Run acts) (sym idle)
    (record { stack = tt; startup = tt })
started_stands (Some a) s is idle =
    subst (λ (acts : List Activation). IsActivationStack Startup (a ∷ acts)) (sym idle)
    (first_stands a is.0 is.1)

pub start_stands : (profile : Profile) (code : Code) (s t : State) → s.activations ≡ []
    → t ≡ state_in_startup (startup_ob profile code) s → IsActivationStack t.mode t.activations
start_stands profile code s t idle is =
    subst (λ (u : State). IsActivationStack u.mode u.activations) (sym is)
    (started_stands (startup_ob profile code) s (ob_is profile code 27 100 startup_info) idle)
