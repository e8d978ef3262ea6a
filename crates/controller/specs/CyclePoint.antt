-- The cycle point: a step where nothing runs.
use Rattle.std.specs.Prelude.{false}
use Rattle.plc_mem.specs.Refresh.{memory_refreshed}
use Rattle.machine.specs.Code.{Code}
use Rattle.machine.specs.Statement.{GlobalStore}
use Rattle.ob_sched.specs.OrganizationBlock.{priority_class_in}
use Rattle.ob_sched.specs.Scheduler.{cycle_begun}
use Rattle.ob_sched.specs.StartInformation.{start_info}
use Rattle.ob_sched.specs.declared.start_infos.StartInfo.{StartInfo}
use Rattle.ob_sched.specs.declared.start_infos.StartEvent.TheVariants.{Cycle}
use Rattle.controller.specs.Beginning.{ob_activation, with_ob_begun}
use Rattle.controller.specs.State.{State}

-- the global store with updated process images: the process image of the outputs is written to the
-- peripheral outputs, and the peripheral inputs are read to the process image of the inputs
abbrev pub images_updated : GlobalStore → GlobalStore
images_updated w = record w { memory = memory_refreshed w.memory }

-- the state at the end of a cycle: the process images are updated, the cycle counter and the mark
-- of an exceeded cycle time are cleared, and the next cycle isn't the first one any more
abbrev pub cycle_finished : State → State
cycle_finished s =
    record s {
      store = images_updated s.store;
      sched = cycle_begun s.sched;
      first_cycle = false;
    }

-- the start information of OB 1: start code 16#01 in the first cycle after a start, else 16#03
abbrev pub cycle_info : State → StartInfo
cycle_info s = start_info (Cycle s.first_cycle) (priority_class_in s.mode 1)

-- the state after a cycle point: the cycle is finished, then OB 1 begins, if it is loaded
unfoldable pub cycle_point : Code → State → State
cycle_point code s =
    with_ob_begun (ob_activation s.profile code (priority_class_in s.mode 1) 1 (cycle_info s))
    (cycle_finished s)
