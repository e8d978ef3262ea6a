-- What an instruction does that touches no position, by its operation and its operand.
use Rattle.std.specs.Prelude.{ℕ, true, false, List, Option, Some, None, if◌then◌else◌, Result, Ok, Err}
use Rattle.plc_base.specs.ErrorCodes as errors
use Rattle.status_word.specs.declared.Regs.{Regs}
use Rattle.status_word.specs.BareOr.{or_bare}
use Rattle.status_word.specs.SetClear.{rlo_set_to_1, clr, rlo_negated, rlo_saved_in_br}
use Rattle.alu.specs.Comparison.{accumulators_compared}
use Rattle.timers_counters.specs.Timer.{Timer}
use Rattle.timers_counters.specs.Counter.{Counter}
use Rattle.flat_code.specs.Kinds.{db_register_number}
use Rattle.flat_code.specs.declared.operands.Operand.{Operand}
use Rattle.flat_code.specs.declared.operands.Operand.TheVariants as operand
use Rattle.flat_code.specs.declared.operations.Operation.{Operation}
use Rattle.flat_code.specs.declared.operations.Operation.TheVariants as operation
use Rattle.machine.specs.ExecState.{Local, LocalMemory, ExecState}
use Rattle.machine.specs.Places.{no_operand}
use Rattle.machine.specs.Values.{is_timer_kind}
use Rattle.machine.specs.BitLogic.{regs_after_bit_check, bit_assigned, bit_set, local_memory_after_edge}
use Rattle.machine.specs.Nesting.{nesting_opened, nesting_closed}
use Rattle.machine.specs.Relay.{relay_effect}
use Rattle.machine.specs.Loads.{regs_after_load, regs_after_bcd_load, local_memory_after_transfer, status_loaded, status_transferred}
use Rattle.machine.specs.Numbers.{number_effect, with_constant, word_logic_effect, shift_effect}
use Rattle.machine.specs.Timing.{logic_string_ended, timer_start, timer_reset, timer_freed, counting_up, counting_down, counter_set, counter_reset, counter_freed}
use Rattle.machine.specs.Pointers.{pointer_effect}
use Rattle.machine.specs.DataBlocks.{is_block_loaded, block_opened, block_opened_by, registers_exchanged, loading_open_block}

-- all that an instruction works on after an effect on the registers alone
abbrev pub effect_on_regs : ExecState → Result Regs ℕ → Result ExecState ℕ
effect_on_regs p (Ok r) = Ok (record p { local = record p.local { regs = r } })
effect_on_regs p (Err e) = Err e

-- all that an instruction works on after an effect on registers, local bytes and what the innermost
-- frame holds; memory, timers and counters stay
abbrev pub on_local : ExecState → Result Local ℕ → Result ExecState ℕ
on_local p (Ok s) = Ok (record p { local = s })
on_local p (Err e) = Err e

-- all that an instruction works on after an effect on registers, local bytes, what the innermost
-- frame holds, and memory; timers and counters stay
abbrev pub on_local_memory : ExecState → Result LocalMemory ℕ → Result ExecState ℕ
on_local_memory p (Ok c) = Ok (record p { local = c.local; memory = c.memory })
on_local_memory p (Err e) = Err e

-- all that an instruction works on after an effect on timers: the logic string ends (OR 0 and /FC
-- 0), but not after an error
abbrev pub on_timers : ExecState → Result (List Timer) ℕ → Result ExecState ℕ
on_timers p (Ok all) =
    Ok (record p {
      local = record p.local { regs = logic_string_ended p.local.regs };
      timers = all;
    })
on_timers p (Err e) = Err e

-- all that an instruction works on after an effect on counters: the logic string ends (OR 0 and /FC
-- 0), but not after an error
abbrev pub on_counters : ExecState → Result (List Counter) ℕ → Result ExecState ℕ
on_counters p (Ok all) =
    Ok (record p {
      local = record p.local { regs = logic_string_ended p.local.regs };
      counters = all;
    })
on_counters p (Err e) = Err e

-- the kind of an operand that is a timer (1) or counter (2); None for another operand
abbrev pub kind_of_numbered_operand : Operand → Option ℕ
kind_of_numbered_operand (operand.Numbered kind number) = Some kind
kind_of_numbered_operand (operand.NumberedBy kind from byte) = Some kind
kind_of_numbered_operand _ = None

-- S of a bit or a counter, by the kind of the operand
abbrev pub set_effect : Option ℕ → Operand → ExecState → Result ExecState ℕ
set_effect None o p = on_local_memory p (bit_set true o p.local p.memory)
set_effect (Some kind) o p = on_counters p (counter_set o p.local p.memory p.counters)

-- R of a bit, a timer or a counter, by the kind of the operand
abbrev pub reset_effect : Option ℕ → Operand → ExecState → Result ExecState ℕ
reset_effect None o p = on_local_memory p (bit_set false o p.local p.memory)
reset_effect (Some kind) o p =
    if is_timer_kind kind then on_timers p (timer_reset o p.local p.memory p.timers)
    else on_counters p (counter_reset o p.local p.memory p.counters)

-- FR of a timer or a counter, by the kind of the operand
abbrev pub enable_effect : Option ℕ → Operand → ExecState → Result ExecState ℕ
enable_effect None o p = Err no_operand
enable_effect (Some kind) o p =
    if is_timer_kind kind then on_timers p (timer_freed o p.local p.memory p.timers)
    else on_counters p (counter_freed o p.local p.memory p.counters)

-- what an operation with its operand leaves of all that it works on, or its synchronous error
unfoldable pub operation_effect : Operation → Operand → ExecState → Result ExecState ℕ
operation_effect operation.Nop o p = Ok p
operation_effect operation.Bld o p = Ok p
operation_effect (operation.Check with) o p =
    effect_on_regs p (regs_after_bit_check with o p.local p.memory p.timers p.counters)
operation_effect operation.OrBare o p = effect_on_regs p (Ok (or_bare p.local.regs))
operation_effect (operation.Nest with) o p = on_local p (nesting_opened with p.local)
operation_effect operation.Unnest o p = on_local p (nesting_closed p.local)
operation_effect (operation.Relay which) o p = on_local p (relay_effect which p.local)
operation_effect operation.Load o p =
    effect_on_regs p (regs_after_load o p.local p.memory p.timers p.counters)
operation_effect operation.Transfer o p =
    on_local_memory p (local_memory_after_transfer o p.local p.memory)
operation_effect operation.Assign o p = on_local_memory p (bit_assigned o p.local p.memory)
operation_effect operation.Set o p = set_effect (kind_of_numbered_operand o) o p
operation_effect operation.Reset o p = reset_effect (kind_of_numbered_operand o) o p
operation_effect (operation.Edge rising) o p =
    on_local_memory p (local_memory_after_edge rising o p.local p.memory)
operation_effect operation.SetRlo o p = effect_on_regs p (Ok (rlo_set_to_1 p.local.regs))
operation_effect operation.ClearRlo o p = effect_on_regs p (Ok (clr p.local.regs))
operation_effect operation.NegateRlo o p = effect_on_regs p (Ok (rlo_negated p.local.regs))
operation_effect operation.SaveRlo o p = effect_on_regs p (Ok (rlo_saved_in_br p.local.regs))
operation_effect operation.LoadBcd o p =
    effect_on_regs p (regs_after_bcd_load o p.local p.memory p.timers p.counters)
operation_effect operation.LoadStatus o p = effect_on_regs p (Ok (status_loaded p.local.regs))
operation_effect operation.TransferStatus o p =
    effect_on_regs p (Ok (status_transferred p.local.regs))
operation_effect operation.LoadOpenBlock o p =
    effect_on_regs p (loading_open_block o p.local p.memory)
operation_effect (operation.Pointer what) o p =
    on_local_memory p (pointer_effect what o p.local p.memory)
operation_effect (operation.Number what) o p = effect_on_regs p (number_effect what p.local.regs)
operation_effect (operation.Add what) o p =
    effect_on_regs p (Ok (with_constant what o p.local.regs))
operation_effect (operation.CompareInt how) o p =
    effect_on_regs p (Ok (accumulators_compared 16 how p.local.regs))
operation_effect (operation.CompareDint how) o p =
    effect_on_regs p (Ok (accumulators_compared 32 how p.local.regs))
operation_effect (operation.Logic what) o p =
    effect_on_regs p (Ok (word_logic_effect what o p.local.regs))
operation_effect (operation.Shift what) o p =
    effect_on_regs p (Ok (shift_effect what o p.local.regs))
operation_effect (operation.Start how) o p =
    on_timers p (timer_start how o p.local p.memory p.timers)
operation_effect operation.Free o p = enable_effect (kind_of_numbered_operand o) o p
operation_effect operation.CountUp o p = on_counters p (counting_up o p.local p.memory p.counters)
operation_effect operation.CountDown o p =
    on_counters p (counting_down o p.local p.memory p.counters)
operation_effect operation.OpenBlock o p = on_local p (block_opened_by o p.local p.memory)
operation_effect operation.Exchange o p = on_local p (Ok (registers_exchanged p.local))
-- jumps, calls and ends go by the statement; the others stand before the last op of one
operation_effect operation.Jump o p = Err no_operand
operation_effect (operation.Call how) o p = Err no_operand
operation_effect (operation.End how) o p = Err no_operand
operation_effect operation.UseDb o p = Err no_operand
operation_effect operation.Pass o p = Err no_operand
operation_effect operation.NoOperation o p = Err no_operand

-- all that an instruction works on after a data block was opened in the DB register
abbrev pub with_db_opened : ℕ → ExecState → ExecState
with_db_opened number p = record p { local = block_opened db_register_number number p.local }

-- USEDB: 3A comes before every error of the operand; without USEDB the instruction alone
unfoldable pub statement_effect : Option ℕ → Operation → Operand → ExecState → Result ExecState ℕ
statement_effect None w o p = operation_effect w o p
statement_effect (Some number) w o p =
    if is_block_loaded number p.memory
    then operation_effect w o (with_db_opened number p)
    else Err errors.no_data_block
