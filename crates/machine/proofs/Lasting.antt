-- After a call of a statement the activation fits again, and is ready before it.
use Rattle.std.proofs.Common.{◌≡◌}
use Rattle.plc_mem.specs.Areas.{Areas}
use Rattle.frames.specs.Activations.{frames_of}
use Rattle.frames.specs.declared.Activation.{Activation}
use Rattle.flat_code.specs.Loading.{Verifies}
use Rattle.flat_code.specs.Programs.{Program}
use Rattle.machine.specs.declared.outcomes.Outcome.{Outcome}
use Rattle.machine.specs.declared.outcomes.Outcome.TheVariants as outcome
use Rattle.machine.specs.Flat.{code_of}
use Rattle.machine.specs.ImageLaws.{ImageLaws}
use Rattle.machine.specs.Lasting.{FitsProgram, IsStatementReady, StepFitsAgain, LeavesActivation, LeavesFit}
use Rattle.machine.specs.OpenBrackets.{open_codes}
use Rattle.machine.specs.Statement.{GlobalStore, StatementStep, Went, Ended, SyncError, SysCall, Stop, Stuck, statement_step, IsOutcomeOf}
use Rattle.machine.proofs.FrameBytes.{depth_is}
use Rattle.machine.proofs.Instructions.{statement_lasts}
use Rattle.machine.proofs.Ready.{fits_goes}
use Rattle.machine.proofs.Sizes.{same_sizes, memory_stays}

pub ready_is : (l : ImageLaws) (p : Program) (m : Areas) (a : Activation) → Verifies p → FitsProgram p m a → IsStatementReady (code_of p) a
ready_is l p m a verifies h = record {
  stands = h.fits.stands;
  depth = depth_is (frames_of a) a.running.locals h.fits.locals;
  there = λ w. fits_goes p (open_codes p) m a w verifies l.placed l.table l.calls l.called h.fits;
}

-- what a statement leaves that changes no memory
unchanged_memory_fits : (p : Program) (old new : GlobalStore) (a : Activation) (answer : Outcome) → new ≡ old → LeavesActivation p old.memory a answer → LeavesFit p old.memory new.memory a answer
unchanged_memory_fits p old new a answer same leaves = rw same (record { sizes = same_sizes old.memory; leaves = leaves })

step_leaves :
    (p : Program) (step : StatementStep) (old new : Activation) (w after : GlobalStore) (answer : Outcome) → FitsProgram p w.memory old
    → StepFitsAgain p w step → IsOutcomeOf step old new w after answer → LeavesFit p w.memory after.memory new answer
step_leaves p (Went a store) old new w after outcome.Went h lasts comes =
    rw (comes.0, comes.1) (record { sizes = lasts.sizes; leaves = lasts.fits })
step_leaves p (Ended regs store) old new w after outcome.Ended h lasts comes =
    rw comes.1 (record { sizes = lasts; leaves = memory_stays (code_of p) w.memory store.memory h.memory lasts })
step_leaves p (SyncError code a) old new w after (outcome.SyncError answer) h lasts comes =
    rw (comes.0, comes.1, comes.2) (record { sizes = same_sizes w.memory; leaves = lasts })
step_leaves p (SysCall number given a) old new w after (outcome.SysCall function inputs result) h lasts comes =
    rw (comes.0, comes.1, comes.2, comes.3, comes.4) (record { sizes = same_sizes w.memory; leaves = lasts })
step_leaves p (Stop cause) old new w after (outcome.Stop answer) h lasts comes =
    rw (comes.0, comes.1, comes.2) (record { sizes = same_sizes w.memory; leaves = (lasts, h) })
step_leaves p Stuck old new w after answer h lasts comes = absurd lasts
step_leaves p step old new w after answer h lasts comes = absurd comes

pub call_leaves :
    (l : ImageLaws) (p : Program) (old new : Activation) (w after : GlobalStore) (answer : Outcome) → Verifies p
    → FitsProgram p w.memory old → IsOutcomeOf (statement_step (code_of p) old w) old new w after answer
    → LeavesFit p w.memory after.memory new answer
call_leaves l p old new w after answer verifies h comes =
    step_leaves p (statement_step (code_of p) old w) old new w after answer h (statement_lasts l p old w verifies h) comes
