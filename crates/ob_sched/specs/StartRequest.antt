-- The pending requests of organization blocks, and which of them is started next.
use Rattle.std.specs.Prelude.{◌≡◌, ℕ, Bool, List, [], ◌∷◌, Option, Some, None, nat_lt, nat_le, ◌==◌, if◌then◌else◌, count_by, slice_get}
use Rattle.plc_base.specs.declared.Mode.{Mode}
use Rattle.ob_sched.specs.OrganizationBlock.{priority_class, priority_class_in, queue_length}
use Rattle.ob_sched.specs.declared.start_infos.StartInfo.{StartInfo}
use Rattle.ob_sched.specs.declared.requests.Pending.{Pending}

-- a request to start an organization block: the OB number, and the start information that the
-- block gets
abbrev pub StartRequest : Type 0
StartRequest = ℕ × StartInfo

-- the pending requests with one more, listed by rank: a request of a higher priority class
-- outranks one of a lower class, and of one class the earlier arrival outranks the later one. The
-- order of the classes is the same in every operating mode, so the new request comes behind all
-- those whose class isn't lower
abbrev pub request_queued : StartRequest → List StartRequest → List StartRequest
request_queued request [] = request ∷ []
request_queued request (first ∷ rest) =
    if nat_lt (priority_class first.0) (priority_class request.0)
    then request ∷ first ∷ rest
    else first ∷ request_queued request rest

-- how many of the pending requests are requests of this OB
abbrev pub waiting_count : ℕ → List StartRequest → ℕ
waiting_count ob pending = count_by (λ request. request.0 == ob) pending

-- as many requests of this OB are pending as its queue takes
abbrev pub is_queue_full : ℕ → List StartRequest → Bool
is_queue_full ob pending = nat_le (queue_length ob) (waiting_count ob pending)

-- the pending request that is started next, which is the first by rank, with its priority class in
-- the operating mode; none where nothing is pending
abbrev pub best_of : Mode → List StartRequest → Option Pending
best_of mode [] = None
best_of mode (first ∷ rest) =
    Some (record { ob = first.0; class = priority_class_in mode first.0; info = first.1 })

-- a request is the first by rank of the pending requests, the one that is started next
abbrev pub IsBest : Pending → List StartRequest → Type 0
IsBest best pending = slice_get pending 0 ≡ Some (best.ob, best.info)
