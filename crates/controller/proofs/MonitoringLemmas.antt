-- From what a statement leaves to its record.
use Rattle.std.proofs.Common.{◌≡◌, List, [], ◌∷◌, Some, None, refl, ap, ◌∙◌}
use Rattle.status_word.specs.declared.Regs.{Regs}
use Rattle.frames.specs.declared.Activation.{Activation}
use Rattle.machine.specs.Code.{Code}
use Rattle.machine.specs.Statement.{GlobalStore, StatementStep, Went, Ended, SyncError, SysCall, Stop, statement_step}
use Rattle.machine.specs.declared.outcomes.Outcome.{Outcome}
use Rattle.machine.specs.declared.outcomes.Outcome.TheVariants as outcome
use Rattle.ob_sched.specs.Scheduler.{Scheduler}
use Rattle.controller.specs.Leaves.{LeavesStatementStep, LeavesStepOf, regs_finished, position_of_running_statement, record_of_statement}
use Rattle.controller.specs.Monitoring.{regs_after, regs_before_service, step_record}
use Rattle.controller.specs.State.{State}
use Rattle.controller.specs.declared.activations.At.{At}

-- the registers after a statement, from those before a system function did its work
regs_done : (s : Scheduler) (step : StatementStep) (a : Activation) (below new : List Activation) (w w' : GlobalStore)
    (done : Outcome) → LeavesStepOf step a below new w w' done
    → regs_finished done s new (regs_before_service step a) ≡ regs_after s step a
regs_done s (Went b then) a below new w w' outcome.Went steps = refl
regs_done s (Ended regs then) a below new w w' outcome.Ended steps = refl
regs_done s (SyncError code b) a below new w w' (outcome.SyncError error) steps = refl
regs_done s (SysCall number given b) a below new w w' (outcome.SysCall n inputs to) steps =
    rw (steps.0, steps.1, steps.3) refl
regs_done s (Stop cause) a below new w w' (outcome.Stop why) steps = refl
regs_done s step a below new w w' done steps = absurd steps

running_recorded : (code : Code) (s : State) (old new : List Activation) (w' : GlobalStore)
    (done : At × Outcome) → LeavesStatementStep code old new s.store w' (Some done)
    → record_of_statement code s.monitored done.0 (regs_finished done.1 s.sched new done.0.regs)
    ≡ step_record code s old
running_recorded code s [] new w' done steps = absurd steps
running_recorded code s (a ∷ below) new w' done steps =
    ap
    (λ (position : At). record_of_statement code s.monitored position (regs_finished done.1 s.sched new position.regs))
    steps.0
    ∙ ap
    (λ (r : Regs). record_of_statement code s.monitored
    (position_of_running_statement a (regs_before_service (statement_step code a s.store) a)) r)
    (regs_done s.sched (statement_step code a s.store) a below new s.store w' done.1 steps.1)

pub step_recorded : (code : Code) (s : State) (new : List Activation) (w' : GlobalStore)
    (done : At × Outcome) → LeavesStatementStep code s.activations new s.store w' (Some done)
    → record_of_statement code s.monitored done.0 (regs_finished done.1 s.sched new done.0.regs)
    ≡ step_record code s s.activations
step_recorded code s new w' done steps = running_recorded code s s.activations new w' done steps

-- a cycle point has none
idle_on : (code : Code) (s : State) (old new : List Activation) (w' : GlobalStore)
    → LeavesStatementStep code old new s.store w' None → step_record code s old ≡ None
idle_on code s [] new w' steps = refl
idle_on code s (a ∷ below) new w' steps = absurd steps

pub idle_recorded : (code : Code) (s : State) (new : List Activation) (w' : GlobalStore)
    → LeavesStatementStep code s.activations new s.store w' None → step_record code s s.activations ≡ None
idle_recorded code s new w' steps = idle_on code s s.activations new w' steps
