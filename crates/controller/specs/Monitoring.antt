-- Monitoring: what is recorded of a statement of the monitored block.
use Rattle.std.specs.Prelude.{ℕ, Bool, false, List, [], ◌∷◌, Option, Some, None, if◌then◌else◌}
use Rattle.std.specs.Option.{option_map}
use Rattle.plc_base.specs.Kinds.{is_same_block}
use Rattle.plc_base.specs.declared.BlockId.{BlockId}
use Rattle.plc_base.specs.declared.Spot.{Spot}
use Rattle.status_word.specs.StatusNumber.{status_number}
use Rattle.status_word.specs.declared.Regs.{Regs}
use Rattle.frames.specs.declared.Activation.{Activation}
use Rattle.machine.specs.Code.{Code}
use Rattle.machine.specs.Statement.{StatementStep, Went, Ended, SyncError, SysCall, Stop, Stuck, statement_step}
use Rattle.monitor.specs.declared.MonRecord.{MonRecord}
use Rattle.ob_sched.specs.Scheduler.{Scheduler}
use Rattle.var_access.specs.declared.What.{What}
use Rattle.var_access.specs.declared.What.TheVariants as what
use Rattle.controller.specs.Serving.{ServiceResult, Returns, Passes, Stops, system_function_served}
use Rattle.controller.specs.State.{State, is_stop}
use Rattle.controller.specs.Stopping.{statement_spot}

-- the registers of the activation as a system function leaves them; RET_VAL isn't one of them
abbrev pub regs_served : ServiceResult → Regs
regs_served (Returns r) = r.activation.running.regs
regs_served (Passes sched a) = a.running.regs
regs_served (Stops cause a) = a.running.regs

-- the registers of activation `a` after its statement, and before a system function that it calls
-- does its work. A statement that fails, or stops by block depth or local data, changes none
abbrev pub regs_before_service : StatementStep → (a : Activation) → Regs
regs_before_service (Went b w) a = b.running.regs
regs_before_service (Ended regs w) a = regs
regs_before_service (SyncError code b) a = b.running.regs
regs_before_service (SysCall number given b) a = b.running.regs
regs_before_service (Stop cause) a = a.running.regs
regs_before_service Stuck a = a.running.regs

-- the registers of activation `a` after its whole statement, the work of the system function included
abbrev pub regs_after : Scheduler → StatementStep → (a : Activation) → Regs
regs_after s (SysCall number given b) a =
    regs_served (system_function_served number given.inputs s b)
regs_after s step a = regs_before_service step a

-- a block is the monitored one
abbrev pub is_monitored : (monitored : Option BlockId) → BlockId → Bool
is_monitored None block = false
is_monitored (Some monitored) block = is_same_block monitored block

-- the record of a statement at a spot, with all nine bits of the status word and the accumulators
abbrev pub mon_record_at : Regs → Spot → MonRecord
mon_record_at regs at = record {
  block = at.block;
  line = at.line;
  stw = status_number regs.status;
  a1 = regs.a1;
  a2 = regs.a2;
}

-- the record of the statement at a position of a block, with the registers after it; None where the
-- block isn't the monitored one
abbrev pub statement_record :
    Code → (monitored : Option BlockId) → BlockId → (at : ℕ) → Regs → Option MonRecord
statement_record code monitored block at regs =
    if is_monitored monitored block then
    option_map (mon_record_at regs) (statement_spot code block at)
    else None

-- the record of the next statement of the first of some activations; a cycle point, where there is
-- none, has no record
abbrev pub step_record : Code → State → List Activation → Option MonRecord
step_record code s [] = None
step_record code s (a ∷ below) =
    statement_record code s.monitored a.running.frame.block a.running.frame.at
    (regs_after s.sched (statement_step code a s.store) a)

-- what is recorded of an entry, by the state before it: a step outside STOP shows its statement, with
-- the registers before settling, whatever comes of it
unfoldable pub monitoring_record : Code → State → What → Option MonRecord
monitoring_record code s what.Step =
    if is_stop s.mode then None else step_record code s s.activations
monitoring_record code s _ = None
