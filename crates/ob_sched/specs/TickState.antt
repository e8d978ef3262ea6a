-- What requests lead to: records of diagnostics, error OBs and a stop cause.
use Rattle.std.specs.Prelude.{ℕ, List, [], ◌∷◌, ◌++◌, Some, length, drop, nat_lt, if◌then◌else◌}
use Rattle.plc_base.specs.StopCauses as causes
use Rattle.plc_base.specs.declared.Mode.{Mode}
use Rattle.ob_sched.specs.OrganizationBlock.{priority_class_in, is_hardware}
use Rattle.ob_sched.specs.Scheduler.{Scheduler, arrival, request_arrived}
use Rattle.ob_sched.specs.StartInformation.{start_info}
use Rattle.ob_sched.specs.declared.tick_results.TickResult.{TickResult}
use Rattle.ob_sched.specs.declared.requests.Arrived.{Arrived}
use Rattle.ob_sched.specs.declared.requests.Arrived.TheVariants.{Queued, Dropped, NotLoaded, Full}
use Rattle.ob_sched.specs.declared.start_infos.StartInfo.{StartInfo}
use Rattle.ob_sched.specs.declared.start_infos.StartEvent.{StartEvent}
use Rattle.ob_sched.specs.declared.start_infos.StartEvent.TheVariants.{Missed, QueueFull, NotLoaded as OfNotLoaded}

-- a tick, which passes milliseconds: the scheduler, and what passed so far
pub record TickState : Type 0 where
  -- the scheduler after the milliseconds so far
  pub sched : Scheduler
  -- the milliseconds passed so far, the stop cause, if there is one, and the last 100 records of
  -- diagnostics
  pub passed : TickResult

-- the last 100 records of diagnostics with one more, a code and its detail; the oldest goes where
-- there are 100 already
abbrev pub latest_records : List (ℕ × ℕ) → ℕ × ℕ → List (ℕ × ℕ)
latest_records records one =
    (if nat_lt (length records) 100 then records else drop 1 records) ++ one ∷ []

-- what passed in a tick with one record of diagnostics more, a code and its detail
abbrev pub with_record : ℕ → ℕ → TickResult → TickResult
with_record code info passed =
    record passed { records = record { items = latest_records passed.records.items (code, info) } }

-- a tick with one record of diagnostics more, a code and its detail; its scheduler stays
abbrev pub record_made : ℕ → ℕ → TickState → TickState
record_made code info c = record c { passed = with_record code info c.passed }

-- what passed in a tick with a stop cause; milliseconds and records stay
abbrev pub with_stop : ℕ → TickResult → TickResult
with_stop cause passed = record passed { stop = Some cause }

-- a tick that ends in STOP by a cause; its scheduler, milliseconds and records stay
abbrev pub tick_stopped_by : ℕ → TickState → TickState
tick_stopped_by cause c = record c { passed = with_stop cause c.passed }

-- a tick after a request of an error OB, by what became of the request: where the OB isn't loaded
-- the controller stops with the cause; where one request of the OB is pending already the new one
-- is lost and recorded by code 2
abbrev pub after_error : ℕ → ℕ → Arrived → TickState → TickState
after_error ob cause Queued c = c
after_error ob cause Dropped c = c
after_error ob cause NotLoaded c = tick_stopped_by cause c
after_error ob cause Full c = record_made 2 ob c

-- a tick after a request of OB 80 or OB 85, whose start information has the OB's priority class in
-- the operating mode; `cause` is the stop cause where the OB isn't loaded
abbrev pub error_requested : Mode → ℕ → ℕ → StartEvent → TickState → TickState
error_requested mode ob cause event c =
    after_error ob cause (arrival c.sched ob)
    (record c { sched = request_arrived ob (start_info event (priority_class_in mode ob)) c.sched })

-- a tick after a time error: the record of code 1 names the OB that it concerns, and OB 80 is
-- requested; where OB 80 isn't loaded the controller stops
unfoldable pub time_error : Mode → StartEvent → ℕ → TickState → TickState
time_error mode event ob c = error_requested mode 80 causes.no_ob_80 event (record_made 1 ob c)

-- a tick after a request of an OB that isn't loaded: the record of code 3 names the OB, and OB 85
-- is requested; where OB 85 isn't loaded the controller stops
unfoldable pub ob_not_loaded : Mode → ℕ → TickState → TickState
ob_not_loaded mode ob c =
    error_requested mode 85 causes.no_ob_85 (OfNotLoaded ob) (record_made 3 ob c)

-- the start event of OB 80 for a request of an OB whose queue was full: a hardware interrupt has a
-- start code of its own
abbrev pub lost_event : ℕ → StartEvent
lost_event ob = if is_hardware ob then QueueFull ob else Missed ob

-- a tick after a request of an OB other than OB 80 and 85, by what became of the request: where it
-- is pending or dropped nothing more follows, where the OB isn't loaded OB 85 is requested, and
-- where the queue is full this is a time error
abbrev pub after_request : Mode → ℕ → Arrived → TickState → TickState
after_request mode ob Queued c = c
after_request mode ob Dropped c = c
after_request mode ob NotLoaded c = ob_not_loaded mode ob c
after_request mode ob Full c = time_error mode (lost_event ob) ob c

-- a tick in which an OB other than OB 80 and 85 is requested, with all that follows where the
-- request isn't queued
unfoldable pub ob_requested : Mode → ℕ → StartInfo → TickState → TickState
ob_requested mode ob info c =
    after_request mode ob (arrival c.sched ob)
    (record c { sched = request_arrived ob info c.sched })
