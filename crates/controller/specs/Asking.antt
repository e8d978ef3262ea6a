-- Requests of operators: what each does, and what it is answered.
use Rattle.std.specs.Prelude.{ℕ, ◌+◌, Bool, true, false, List, [], ◌∷◌, is_some, unwrap_or, Option, Some, None, Result, Ok, Err, if◌then◌else◌}
use Rattle.plc_base.specs.StopCauses as causes
use Rattle.plc_mem.specs.Areas.{Areas}
use Rattle.plc_mem.specs.Number.{number_at_place}
use Rattle.plc_mem.specs.Writing.{number_written}
use Rattle.machine.specs.Code.{Code}
use Rattle.machine.specs.Statement.{GlobalStore}
use Rattle.var_access.specs.declared.Reply.{Reply}
use Rattle.var_access.specs.declared.Reply.TheVariants as reply
use Rattle.var_access.specs.declared.Request.{Request}
use Rattle.var_access.specs.declared.Request.TheVariants.{ReadVars, WriteVar, Stop, Restart, MonitorOn, MonitorOff, Diag}
use Rattle.var_access.specs.declared.Var.{Var}
use Rattle.controller.specs.Start.{state_after_warm_restart}
use Rattle.controller.specs.State.{State, is_stop}
use Rattle.controller.specs.Stopping.{stop_entered}

-- the number that a variable has in memory; none where the variable doesn't exist there
abbrev pub var_value : Areas → Var → Option ℕ
var_value m var = number_at_place m var.place var.width

-- the global store in which a variable has a new value; it stays where the variable doesn't exist
abbrev pub var_written : Var → (value : ℕ) → GlobalStore → GlobalStore
var_written var value w =
    record w { memory = unwrap_or (number_written w.memory var.place var.width value) w.memory }

-- the state after what an operator's request does. A stop is at the next statement, and in STOP it
-- changes nothing; a restart is a warm restart in STOP alone; one block at a time is monitored,
-- which must be loaded. All else is done in every mode
unfoldable pub request_effect : Code → Request → State → State
request_effect code (WriteVar var value) s = record s { store = var_written var value s.store }
request_effect code Stop s = if is_stop s.mode then s else stop_entered code causes.by_operator s
request_effect code Restart s = if is_stop s.mode then state_after_warm_restart code s else s
request_effect code (MonitorOn block) s =
    if is_some (code.head block) then record s { monitored = Some block } else s
request_effect code MonitorOff s = record s { monitored = None }
request_effect code (ReadVars vars) s = s
request_effect code Diag s = s

-- the values of some variables with that of one more before them; where it has none (None), its
-- index
abbrev pub value_before : Option ℕ → (index : ℕ) → Result (List ℕ) ℕ → Result (List ℕ) ℕ
value_before None index rest = Err index
value_before (Some value) index (Ok values) = Ok (value ∷ values)
value_before (Some value) index (Err absent) = Err absent

-- the values of variables in their order, where the first of the variables has this index; or the
-- index of the first one that doesn't exist
abbrev pub values_from : Areas → (index : ℕ) → List Var → Result (List ℕ) ℕ
values_from m index [] = Ok []
values_from m index (var ∷ rest) =
    value_before (var_value m var) index (values_from m (index + 1) rest)

-- the answer to a request that reads variables: their values, or the index of the first one that
-- doesn't exist
abbrev pub read_reply : Result (List ℕ) ℕ → Reply
read_reply (Ok values) = reply.Values values
read_reply (Err absent) = reply.NoSuch absent

-- the answer to a request that names one variable or block: done where it exists, else that what
-- has the index 1 doesn't
abbrev pub done_or_no_such : (is_there : Bool) → Reply
done_or_no_such true = reply.Done
done_or_no_such false = reply.NoSuch 1

-- the answer to an operator's request in the state in which it is asked. Indexes of variables
-- count from 1
unfoldable pub request_reply : Code → Request → State → Reply
request_reply code (ReadVars vars) s = read_reply (values_from s.store.memory 1 vars)
request_reply code (WriteVar var value) s = done_or_no_such (is_some (var_value s.store.memory var))
request_reply code (MonitorOn block) s = done_or_no_such (is_some (code.head block))
request_reply code Restart s = if is_stop s.mode then reply.Done else reply.NotStopped
request_reply code Diag s = reply.Diag s.diagnostics
request_reply code Stop s = reply.Done
request_reply code MonitorOff s = reply.Done
