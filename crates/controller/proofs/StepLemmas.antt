-- From what a statement leaves to the step.
use Rattle.std.proofs.Common.{◌≡◌, ℕ, Bool, true, false, List, [], ◌∷◌, Option, Some, None, IsTrue, refl, sym, ap, ◌∙◌, subst, arith, if◌then◌else◌}
use Rattle.std.specs.Prelude.{◌==◌}
use Rattle.std.proofs.lemmas.Bool.Decides.{nat_tests}
use Rattle.plc_base.specs.StopCauses as causes
use Rattle.plc_base.specs.declared.Mode.{Mode}
use Rattle.plc_base.specs.declared.Mode.TheVariants.{Run, Startup, Stop}
use Rattle.plc_base.specs.declared.Spot.{Spot}
use Rattle.status_word.specs.declared.Regs.{Regs}
use Rattle.frames.specs.declared.Activation.{Activation}
use Rattle.frames.specs.declared.bindings.Binding.{Binding}
use Rattle.machine.specs.Code.{Code}
use Rattle.machine.specs.Statement.{GlobalStore, StatementStep, Went, Ended, SyncError, SysCall, Stop as Stops, statement_step}
use Rattle.machine.specs.declared.outcomes.Outcome.{Outcome}
use Rattle.machine.specs.declared.outcomes.Outcome.TheVariants as outcome
use Rattle.ob_sched.specs.OrganizationBlock.{can_wait, is_asynchronous_error}
use Rattle.controller.specs.CyclePoint.{cycle_point}
use Rattle.controller.specs.Errors.{error_raised, error_ob_started, error_in, is_synchronous}
use Rattle.controller.specs.Leaves.{LeavesStatementStep, LeavesStepOf, position_of_running_statement, mode_after, statement_finished}
use Rattle.controller.specs.Monitoring.{regs_before_service}
use Rattle.controller.specs.Ready.{HasStatement, IsReady}
use Rattle.controller.specs.Serving.{ServiceResult, Returns, Passes, Stops as Halts, after_service, system_function_served}
use Rattle.controller.specs.Stack.{IsStarted, IsErrorIn, StandsOn, RunsInStartup, IsActivationStack}
use Rattle.controller.specs.State.{State, diagnosis_recorded}
use Rattle.controller.specs.Stepping.{after_step, step_of_first, after_statement}
use Rattle.controller.specs.Stopping.{stop_entered_at, statement_spot}
use Rattle.controller.specs.declared.activations.At.{At}
use Rattle.controller.proofs.ReadyLemmas.{statement_there}
use Rattle.controller.proofs.SameLemmas.{Same, SameStep, statement_same}

-- ---- where nothing runs

pub idle : (code : Code) (old new : List Activation) (w w' : GlobalStore)
    → LeavesStatementStep code old new w w' None → new ≡ []
idle code [] new w w' steps = steps.0
idle code (a ∷ below) new w w' steps = absurd steps

idle_on : (code : Code) (s : State) (old new : List Activation) (w' : GlobalStore)
    → s.activations ≡ old → LeavesStatementStep code old new s.store w' None
    → step_of_first code old s ≡ cycle_point code (record s { store = w'; activations = new })
idle_on code s [] new w' were steps =
    ap (λ (acts : List Activation). cycle_point code (record s { activations = acts })) were
    ∙ rw (steps.0, steps.1) refl
idle_on code s (a ∷ below) new w' were steps = absurd steps

pub idle_step_finished : (code : Code) (s : State) (new : List Activation) (w' : GlobalStore)
    → LeavesStatementStep code s.activations new s.store w' None
    → after_step code s ≡ cycle_point code (record s { store = w'; activations = new })
unfolding after_step
idle_step_finished code s new w' steps = idle_on code s s.activations new w' refl steps

-- ---- where one runs

-- an error looks at no activation but the given ones
answered_from : (fresh : Option Activation) (error : ℕ) (at : Option Spot) (a : Activation)
    (below acts : List Activation) (s : State)
    → error_ob_started fresh error at a below s
    ≡ error_ob_started fresh error at a below (record s { activations = acts })
answered_from None error at a below acts s = refl
answered_from (Some fresh) error at a below acts s = refl

failed_by : (test : Bool) (code : Code) (error : ℕ) (at : Option Spot) (a : Activation)
    (below acts : List Activation) (s : State)
    → (if test then stop_entered_at at causes.in_error_ob (diagnosis_recorded 4 error s)
    else error_ob_started (error_in code error at a) error at a below (diagnosis_recorded 4 error s))
    ≡ (if test then stop_entered_at at causes.in_error_ob (diagnosis_recorded 4 error (record s { activations = acts }))
    else error_ob_started (error_in code error at a) error at a below
    (diagnosis_recorded 4 error (record s { activations = acts })))
failed_by true code error at a below acts s = refl
failed_by false code error at a below acts s =
    answered_from (error_in code error at a) error at a below acts (diagnosis_recorded 4 error s)

failed_from : (code : Code) (error : ℕ) (at : Option Spot) (a : Activation)
    (below acts : List Activation) (s : State)
    → error_raised code error at a below s ≡ error_raised code error at a below (record s { activations = acts })
unfolding error_raised
failed_from code error at a below acts s =
    failed_by (is_synchronous a.ob) code error at a below acts s

abbrev after : Code → StatementStep → Activation → List Activation → State → State
after code step a below s =
    after_statement code step a.ob (statement_spot code a.running.frame.block a.running.frame.at) below s

service_from : (at : Option Spot) (sv : ServiceResult) (to : Option Binding) (below acts : List Activation)
    (s : State)
    → after_service at sv to below s ≡ after_service at sv to below (record s { activations = acts })
service_from at (Returns r) to below acts s = refl
service_from at (Passes sched a) to below acts s = refl
service_from at (Halts cause a) to below acts s = refl

step_done : (code : Code) (s : State) (step : StatementStep) (a : Activation) (regs : Regs)
    (below new : List Activation) (w' : GlobalStore) (done : Outcome) → s.activations ≡ a ∷ below
    → LeavesStepOf step a below new s.store w' done
    → after code step a below s
    ≡ statement_finished code (position_of_running_statement a regs) done (record s { store = w'; activations = new })
unfolding statement_finished
step_done code s (Went a' w) a regs below new w' outcome.Went were steps = rw (steps.0, steps.1) refl
step_done code s (Ended r w) a regs below new w' outcome.Ended were steps = rw (steps.0, steps.1) refl
step_done code s (SyncError error a') a regs below new w' (outcome.SyncError e) were steps =
    rw (steps.0, steps.1, steps.2)
    (failed_from code error (statement_spot code a.running.frame.block a.running.frame.at) a' below
    (a' ∷ below) s)
step_done code s (SysCall number given a') a regs below new w' (outcome.SysCall n inputs to) were steps =
    rw (steps.0, steps.1, steps.2, steps.3, steps.4)
    (service_from (statement_spot code a.running.frame.block a.running.frame.at)
    (system_function_served number given.inputs s.sched a') given.result below (a' ∷ below) s)
step_done code s (Stops cause) a regs below new w' (outcome.Stop why) were steps =
    rw (steps.0, steps.2) refl
step_done code s step a regs below new w' done were steps = absurd steps

running_on : (code : Code) (s : State) (old new : List Activation) (w' : GlobalStore)
    (done : At × Outcome) → s.activations ≡ old → LeavesStatementStep code old new s.store w' (Some done)
    → step_of_first code old s ≡ statement_finished code done.0 done.1 (record s { store = w'; activations = new })
running_on code s [] new w' done were steps = absurd steps
running_on code s (a ∷ below) new w' done were steps =
    step_done code s (statement_step code a s.store) a (regs_before_service (statement_step code a s.store) a) below new
    w' done.1 were steps.1
    ∙ ap (λ (position : At). statement_finished code position done.1 (record s { store = w'; activations = new }))
    (sym steps.0)

pub running_step_finished : (code : Code) (s : State) (new : List Activation) (w' : GlobalStore)
    (done : At × Outcome) → LeavesStatementStep code s.activations new s.store w' (Some done)
    → after_step code s ≡ statement_finished code done.0 done.1 (record s { store = w'; activations = new })
unfolding after_step
running_step_finished code s new w' done steps =
    running_on code s s.activations new w' done refl steps

pub step_there : (code : Code) (old new : List Activation) (w w' : GlobalStore)
    (done : At × Outcome) → IsReady code old → LeavesStatementStep code old new w w' (Some done)
    → HasStatement code done.0.block done.0.at
step_there code [] new w w' done ready steps = absurd steps
step_there code (a ∷ below) new w w' done ready steps =
    subst (λ (position : At). HasStatement code position.block position.at) (sym steps.0)
    (statement_there code a w (ready.there w))

-- ---- those that stand afterwards

pub same_stack : (mode : Mode) (a b : Activation) (below : List Activation) → Same a b
    → IsActivationStack mode (a ∷ below) → IsActivationStack mode (b ∷ below)
same_stack mode a b below same standing = record {
  stack = (stands (is_synchronous a.ob) refl standing.stack.0, standing.stack.1);
  startup = some mode standing.startup;
}
  where
    some : (mode : Mode) → RunsInStartup mode (a ∷ below) → RunsInStartup mode (b ∷ below)
    some Run h = tt
    some Startup h = tt
    some (Stop cause at) h = tt

    in_class : (below : List Activation) → IsErrorIn a below → IsErrorIn b below
    in_class [] h = absurd h
    in_class (c ∷ more) h = (same.0 ∙ h.0, h.1)

    by : (test : Bool) → StandsOn test mode a below → StandsOn test mode b below
    by true h = in_class below h
    by false h =
        subst (λ c. IsStarted mode c b.ob below) (sym same.0)
        (subst (λ o. IsStarted mode a.class o below) (sym same.1) h)

    stands : (test : Bool) → is_synchronous a.ob ≡ test → StandsOn (is_synchronous a.ob) mode a below
        → StandsOn (is_synchronous b.ob) mode b below
    stands test is h =
        subst (λ t. StandsOn t mode b below) (sym (ap is_synchronous same.1))
        (by (is_synchronous a.ob) h)

is_startup : (ob : ℕ) → (ob == 100) ≡ true → is_synchronous ob ≡ false
is_startup ob h = grind (arith, nat_tests)

no_startup_waits : (ob : ℕ) → (ob == 100) ≡ true → can_wait ob ≡ true → ⊥
no_startup_waits ob h waits = grind (arith, nat_tests)

no_startup_error : (ob : ℕ) → (ob == 100) ≡ true → is_asynchronous_error ob ≡ true → ⊥
no_startup_error ob h waits = grind (arith, nat_tests)

-- OB 100 is the lowest one
startup_alone : (mode : Mode) (a : Activation) (below : List Activation) → (a.ob == 100) ≡ true
    → IsStarted mode a.class a.ob below → below ≡ []
startup_alone mode a [] is started = refl
startup_alone Run a (b ∷ more) is started = absurd (no_startup_waits a.ob is started.stands)
startup_alone Startup a (b ∷ more) is started = absurd (no_startup_error a.ob is started.stands)
startup_alone (Stop cause at) a (b ∷ more) is started = absurd (no started.stands)
  where
    no : IsTrue false → ⊥
    no h = absurd cc

-- in STARTUP one is left, unless OB 100 has ended
left_in_startup : (test : Bool) (mode : Mode) (a : Activation) (below : List Activation)
    → (a.ob == 100) ≡ false → StandsOn test mode a below → RunsInStartup mode below
left_in_startup test Run a below not stands = tt
left_in_startup test (Stop cause at) a below not stands = tt
left_in_startup test Startup a (b ∷ more) not stands = tt
left_in_startup true Startup a [] not stands = stands
left_in_startup false Startup a [] not stands = absurd (no (sym not ∙ stands.stands))
  where
    no : false ≡ true → ⊥
    no h = absurd cc

pub ended_by : (test : Bool) (mode : Mode) (a : Activation) (below : List Activation)
    → (a.ob == 100) ≡ test → IsActivationStack mode (a ∷ below)
    → IsActivationStack (if test then Run else mode) below
ended_by true mode a below is standing =
    subst (λ acts. IsActivationStack Run acts)
    (sym (startup_alone mode a below is
    (subst (λ t. StandsOn t mode a below) (is_startup a.ob is) standing.stack.0)))
    (record { stack = tt; startup = tt })
ended_by false mode a below is standing = record {
  stack = standing.stack.1;
  startup = left_in_startup (is_synchronous a.ob) mode a below is standing.stack.0;
}

step_left : (mode : Mode) (code : Code) (step : StatementStep) (a : Activation)
    (below new : List Activation) (w w' : GlobalStore) (done : Outcome) → SameStep a step
    → LeavesStepOf step a below new w w' done → IsActivationStack mode (a ∷ below)
    → IsActivationStack (mode_after mode a.ob done) new
step_left mode code (Went a' after) a below new w w' outcome.Went same steps standing =
    subst (λ acts. IsActivationStack mode acts) (sym steps.0) (same_stack mode a a' below same standing)
step_left mode code (Ended regs after) a below new w w' outcome.Ended same steps standing =
    subst (λ acts. IsActivationStack (if a.ob == 100 then Run else mode) acts) (sym steps.0)
    (ended_by (a.ob == 100) mode a below refl standing)
step_left mode code (SyncError e a') a below new w w' (outcome.SyncError error) same steps standing =
    subst (λ acts. IsActivationStack mode acts) (sym steps.1) (same_stack mode a a' below same standing)
step_left mode code (SysCall n given a') a below new w w' (outcome.SysCall number inputs to) same steps standing =
    subst (λ acts. IsActivationStack mode acts) (sym steps.3) (same_stack mode a a' below same standing)
step_left mode code (Stops cause) a below new w w' (outcome.Stop why) same steps standing =
    subst (λ acts. IsActivationStack mode acts) (sym steps.1) standing
step_left mode code step a below new w w' done same steps standing = absurd steps

pub step_stands : (mode : Mode) (code : Code) (old new : List Activation) (w w' : GlobalStore)
    (done : At × Outcome) → LeavesStatementStep code old new w w' (Some done) → IsActivationStack mode old
    → IsActivationStack (mode_after mode done.0.ob done.1) new
step_stands mode code [] new w w' done steps standing = absurd steps
step_stands mode code (a ∷ below) new w w' done steps standing =
    subst (λ (position : At). IsActivationStack (mode_after mode position.ob done.1) new) (sym steps.0)
    (step_left mode code (statement_step code a w) a below new w w' done.1 (statement_same code a w)
    steps.1 standing)
