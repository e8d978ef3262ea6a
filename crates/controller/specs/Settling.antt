-- Settling: after each entry outside STOP the best pending request is started, if it may start.
use Rattle.std.specs.Prelude.{ℕ, ◌==◌, ◌&&◌, nat_lt, Bool, true, List, [], ◌∷◌, Option, Some, None, if◌then◌else◌}
use Rattle.frames.specs.declared.Activation.{Activation}
use Rattle.machine.specs.Code.{Code}
use Rattle.ob_sched.specs.StartRequest.{best_of}
use Rattle.ob_sched.specs.Scheduler.{best_removed}
use Rattle.ob_sched.specs.declared.requests.Pending.{Pending}
use Rattle.controller.specs.Beginning.{ob_activation, with_ob_begun}
use Rattle.controller.specs.State.{State, is_stop}

-- an organization block of a class may start: nothing runs, or its class is above the running one's
-- and interrupts aren't delayed there
abbrev pub may_start : (class : ℕ) → List Activation → Bool
may_start class [] = true
may_start class (a ∷ below) = nat_lt a.class class && a.delay == 0

-- the state in which the first pending request isn't pending any more
abbrev pub request_taken : State → State
request_taken s = record s { sched = best_removed s.sched }

-- the best request is taken, and its organization block begins above the activations that stand, in
-- its class and with its start information; if it isn't loaded, none begins
abbrev pub request_started : Code → Pending → State → State
request_started code best s =
    with_ob_begun (ob_activation s.profile code best.class best.ob best.info) (request_taken s)

-- the state in which the first pending request, if there is one, is started where it may; else it
-- stays pending
abbrev pub best_started : Code → Option Pending → State → State
best_started code None s = s
best_started code (Some best) s =
    if may_start best.class s.activations then request_started code best s else s

-- the state after settling: the first pending request, with its class in the operating mode, is
-- started where it may; none is in STOP
unfoldable pub after_settling : Code → State → State
after_settling code s =
    if is_stop s.mode then s else best_started code (best_of s.mode s.sched.pending) s
