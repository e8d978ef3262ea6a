-- Silent statements one after another, as entries.
use Rattle.std.proofs.Common.{◌≡◌, ℕ, zero, suc, ◌+◌, ◌&&◌, Bool, true, false, List, [], ◌∷◌, Option, Some, None, refl, sym, ap, ◌∙◌, subst, arith}
use Rattle.std.specs.Prelude.{is_some, replicate}
use Rattle.plc_base.specs.declared.Mode.{Mode}
use Rattle.plc_base.specs.declared.Mode.TheVariants.{Run, Startup, Stop}
use Rattle.plc_mem.specs.Areas.{Areas, PeripheralBytes}
use Rattle.frames.specs.declared.Activation.{Activation}
use Rattle.flat_code.specs.Loading.{Verifies}
use Rattle.flat_code.specs.Programs.{Program}
use Rattle.machine.specs.Code.{Code}
use Rattle.machine.specs.Flat.{code_of}
use Rattle.machine.specs.Lasting.{FitsProgram, IsStatementReady, StepFitsAgain}
use Rattle.machine.specs.Silent.{GoesSilently, RunsSilently, StaysReady}
use Rattle.machine.specs.Statement.{GlobalStore, StatementStep, Went, statement_step}
use Rattle.ob_sched.specs.StartRequest.{best_of}
use Rattle.var_access.specs.declared.What.TheVariants as what
use Rattle.controller.specs.Event.{state_after}
use Rattle.controller.specs.Fitting.{AllFit, IsFit}
use Rattle.controller.specs.Monitoring.{monitoring_record}
use Rattle.controller.specs.SilentSteps.{GoesOnSilently, GoesOnReady, ShowNothing}
use Rattle.controller.specs.Replay.{entry_result, state_after_entries}
use Rattle.controller.specs.Settling.{after_settling}
use Rattle.controller.specs.ShownEntry.{changed_mode, changed_outputs, is_same_mode, nothing_shown, entry_shown}
use Rattle.controller.specs.State.{State, is_stop}
use Rattle.controller.specs.Stepping.{after_step}
use Rattle.controller.proofs.ObservingLemmas.{none_changed}

-- ---- what fits stays ready

abbrev pub GoesLaw : Type 0
GoesLaw = (p : Program) (m : Areas) (a : Activation) → Verifies p → FitsProgram p m a → IsStatementReady (code_of p) a

abbrev pub LastsLaw : Type 0
LastsLaw = (p : Program) (a : Activation) (w : GlobalStore)
    → Verifies p → FitsProgram p w.memory a → StepFitsAgain p w (statement_step (code_of p) a w)

went_fits : (p : Program) (w then : GlobalStore) (step : StatementStep) (next : Activation) → step ≡ Went next then
    → StepFitsAgain p w step → FitsProgram p then.memory next
went_fits p w then step next goes lasts =
    let on : StepFitsAgain p w (Went next then) = subst (λ (s : StatementStep). StepFitsAgain p w s) goes lasts in
    on.fits

still_fits : LastsLaw → (p : Program) → Verifies p → (count : ℕ) (a b : Activation) (w after : GlobalStore)
    → FitsProgram p w.memory a → RunsSilently (code_of p) count a b w after
    → FitsProgram p after.memory b
still_fits lasts p verifies zero a b w after fit runs =
    subst (λ (v : GlobalStore). FitsProgram p v.memory b) (sym runs.1)
    (subst (λ (c : Activation). FitsProgram p w.memory c) (sym runs.0) fit)
still_fits lasts p verifies (suc count) a b w after fit (next, then, silent, rest) =
    still_fits lasts p verifies count next b then after
    (went_fits p w then (statement_step (code_of p) a w) next silent.goes (lasts p a w verifies fit)) rest

stays_ready : GoesLaw → LastsLaw → (p : Program) → Verifies p → (a : Activation) (w : GlobalStore)
    → FitsProgram p w.memory a → StaysReady p a w
stays_ready goes lasts p verifies a w fit = λ count b after runs.
    goes p after.memory b verifies (still_fits lasts p verifies count a b w after fit runs)

all_ready : GoesLaw → LastsLaw → (p : Program) → Verifies p → (activations : List Activation) (w : GlobalStore)
    → AllFit p w.memory activations → GoesOnReady p activations w
all_ready goes lasts p verifies [] w fit = tt
all_ready goes lasts p verifies (a ∷ below) w fit = stays_ready goes lasts p verifies a w fit.0

pub fit_goes_on : GoesLaw → LastsLaw → (p : Program) (s : State) → Verifies p → IsFit p s
    → GoesOnReady p s.activations s.store
fit_goes_on goes lasts p s verifies fit =
    all_ready goes lasts p verifies s.activations s.store fit.activations

-- ---- one silent statement

same_mode : (m : Mode) → is_same_mode m m ≡ true
same_mode Run = refl
same_mode Startup = refl
same_mode (Stop cause at) = refl

mode_kept : (m : Mode) → changed_mode m m ≡ None
mode_kept m = rw (same_mode m) refl

outputs_kept : (p : PeripheralBytes) → changed_outputs p p ≡ []
outputs_kept p = none_changed p p (λ n h. refl)

-- a state with another global store and another running activation, so many entries later
abbrev state_gone_on : State → GlobalStore → List Activation → (count : ℕ) → State
state_gone_on s w activations count =
    record s { store = w; activations = activations; entries = s.entries + count }

-- outside STOP, where no block is monitored and no request waits
pub record IsSilent (s : State) : Type 0 where
  pub running : is_stop s.mode ≡ false
  pub unwatched : s.monitored ≡ None
  pub none : best_of s.mode s.sched.pending ≡ None

pub none_there : {X : Type 0} (found : Option X) → is_some found ≡ false → found ≡ None
none_there None h = refl
none_there (Some x) h = absurd cc

step_after : (code : Code) (s : State) (a next : Activation) (below : List Activation) (then : GlobalStore)
    → IsSilent s → s.activations ≡ a ∷ below → statement_step code a s.store ≡ Went next then
    → state_after code what.Step s ≡ state_gone_on s then (next ∷ below) 1
unfolding state_after after_step after_settling
step_after code s a next below then silent were goes =
    rw (silent.running, were, goes, silent.running, silent.none) refl

-- where no block is monitored a step has no record
no_record : (code : Code) (s : State) (a : Activation) (below : List Activation) → IsSilent s
    → s.activations ≡ a ∷ below → monitoring_record code s what.Step ≡ None
unfolding monitoring_record
no_record code s a below silent were = rw (silent.running, were, silent.unwatched) refl

shown_nothing : (code : Code) (s after : State)
    → monitoring_record code s what.Step ≡ None
    → after.store.memory.peripheral_outputs ≡ s.store.memory.peripheral_outputs
    → after.mode ≡ s.mode → entry_shown code s what.Step after ≡ nothing_shown
unfolding entry_shown
shown_nothing code s after unwatched outputs mode =
    rw (unwatched, outputs, mode, outputs_kept s.store.memory.peripheral_outputs, mode_kept s.mode) refl

-- the entry of a step
step_state : (code : Code) (s : State) (a next : Activation) (below : List Activation) (then : GlobalStore)
    → IsSilent s → s.activations ≡ a ∷ below → GoesSilently (statement_step code a s.store) s.store next then
    → (entry_result code s what.Step).state ≡ state_gone_on s then (next ∷ below) 1
unfolding entry_result
step_state code s a next below then silent were goes =
    step_after code s a next below then silent were goes.goes

step_seen : (code : Code) (s : State) (a next : Activation) (below : List Activation) (then : GlobalStore)
    → IsSilent s → s.activations ≡ a ∷ below → GoesSilently (statement_step code a s.store) s.store next then
    → (entry_result code s what.Step).seen ≡ nothing_shown
unfolding entry_result
step_seen code s a next below then silent were goes =
    ap (entry_shown code s what.Step) (step_after code s a next below then silent were goes.goes)
    ∙ shown_nothing code s (state_gone_on s then (next ∷ below) 1) (no_record code s a below silent were)
    goes.outputs refl

-- ---- silent statements one after another

-- what so many steps come to
pub record StepSilently (code : Code) (s : State) (w : GlobalStore) (activations : List Activation)
    (count : ℕ) : Type 0 where
  pub nothing : ShowNothing code s (replicate count what.Step)
  pub state : state_after_entries code s (replicate count what.Step)
      ≡ record s { store = w; activations = activations; entries = s.entries + count }
  pub outputs : w.memory.peripheral_outputs ≡ s.store.memory.peripheral_outputs

nothing_done : (code : Code) (s : State) (w : GlobalStore) (activations : List Activation)
    → activations ≡ s.activations → w ≡ s.store → StepSilently code s w activations zero
nothing_done code s w activations are is =
    let same : s.entries ≡ s.entries + 0 = omega arith in
    record {
      nothing = tt;
      state =
          ap (λ (n : ℕ). let t : State = record s { entries = n } in t) same
          ∙ ap (λ (v : GlobalStore). state_gone_on s v s.activations 0) (sym is)
          ∙ ap (λ (acts : List Activation). state_gone_on s w acts 0) (sym are);
      outputs = ap (λ (v : GlobalStore). v.memory.peripheral_outputs) is;
    }

one_more_step : (code : Code) (s : State) (a next : Activation) (below activations : List Activation)
    (then w : GlobalStore) (count : ℕ) → IsSilent s → s.activations ≡ a ∷ below
    → GoesSilently (statement_step code a s.store) s.store next then
    → StepSilently code (state_gone_on s then (next ∷ below) 1) w activations count
    → StepSilently code s w activations (suc count)
one_more_step code s a next below activations then w count silent were goes rest =
    let on : (entry_result code s what.Step).state ≡ state_gone_on s then (next ∷ below) 1 =
    step_state code s a next below then silent were goes in
    let all : s.entries + 1 + count ≡ s.entries + suc count = omega arith in
    record {
      nothing = (
        step_seen code s a next below then silent were goes,
        subst (λ (t : State). ShowNothing code t (replicate count what.Step)) (sym on) rest.nothing,
      );
      state =
          ap (λ (t : State). state_after_entries code t (replicate count what.Step)) on ∙ rest.state
          ∙ ap
          (λ (n : ℕ). let t : State = record s { store = w; activations = activations; entries = n } in t)
          all;
      outputs = rest.outputs ∙ goes.outputs;
    }

runs_on : (code : Code) (count : ℕ) (s : State) (a b : Activation) (below activations : List Activation)
    (w : GlobalStore) → IsSilent s → s.activations ≡ a ∷ below → activations ≡ b ∷ below
    → RunsSilently code count a b s.store w → StepSilently code s w activations count
runs_on code zero s a b below activations w silent were are runs =
    nothing_done code s w activations
    (are ∙ ap (λ (c : Activation). c ∷ below) runs.0 ∙ sym were) runs.1
runs_on code (suc count) s a b below activations w silent were are (next, then, goes, rest) =
    one_more_step code s a next below activations then w count silent were goes
    (runs_on code count (state_gone_on s then (next ∷ below) 1) next b below activations w
    (record { running = silent.running; unwatched = silent.unwatched; none = silent.none }) refl are rest)

goes_on : (code : Code) (count : ℕ) (s : State) (old new : List Activation) (w : GlobalStore) → IsSilent s
    → s.activations ≡ old → GoesOnSilently code count old new s.store w
    → StepSilently code s w new count
goes_on code count s [] new w silent were runs =
    subst (λ (n : ℕ). StepSilently code s w new n) (sym runs.0)
    (nothing_done code s w new (runs.1 ∙ sym were) runs.2)
goes_on code count s (a ∷ below) new w silent were (b, are, runs) =
    runs_on code count s a b below new w silent were are runs

pub steps_silently : (code : Code) (count : ℕ) (s : State) (new : List Activation) (w : GlobalStore)
    → IsSilent s → GoesOnSilently code count s.activations new s.store w
    → StepSilently code s w new count
steps_silently code count s new w silent runs =
    goes_on code count s s.activations new w silent refl runs

-- ---- where it stops

pub no_silent_step : (unwatched running none silent : Bool) → silent ≡ false
    → (unwatched && running && none && silent) ≡ false
no_silent_step true true true silent h = h
no_silent_step true true false silent h = refl
no_silent_step true false none silent h = refl
no_silent_step false running none silent h = refl
