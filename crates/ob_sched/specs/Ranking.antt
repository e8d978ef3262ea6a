-- The pending requests as a set of requests with arrival numbers, of which one outranks another.
use Rattle.std.specs.Prelude.{◌≡◌, ℕ, ◌<◌, ◌⊎◌, true, List, [], ◌∷◌, Some, map, drop}
use Rattle.std.specs.List.{list_all}
use Rattle.std.specs.List.Sorted.{IsPermutation}
use Rattle.plc_base.specs.declared.Mode.{Mode}
use Rattle.ob_sched.specs.OrganizationBlock.{can_wait, priority_class_in}
use Rattle.ob_sched.specs.StartRequest.{StartRequest, request_queued, best_of}
use Rattle.ob_sched.specs.declared.requests.Pending.{Pending}

-- a request of an OB that knows when it arrived
pub record NumberedRequest : Type 0 where
  -- the arrival number: a request that arrives later has a greater one
  pub arrival : ℕ
  -- the OB number and the start information
  pub request : StartRequest

-- the priority class of a numbered request in an operating mode
abbrev pub rank_in : Mode → NumberedRequest → ℕ
rank_in mode one = priority_class_in mode one.request.0

-- one request outranks another by the higher class, and of one class by the smaller arrival number
abbrev pub Outranks : Mode → NumberedRequest → NumberedRequest → Type 0
Outranks mode one other =
    (rank_in mode other < rank_in mode one)
    ⊎ ((rank_in mode one ≡ rank_in mode other) × (one.arrival < other.arrival))

-- one request outranks each of some others
abbrev pub OutranksAll : Mode → NumberedRequest → List NumberedRequest → Type 0
OutranksAll mode one [] = Unit {0}
OutranksAll mode one (other ∷ rest) = Outranks mode one other × OutranksAll mode one rest

-- a list of requests is sorted by rank: each member outranks all those behind it
abbrev pub IsRanked : Mode → List NumberedRequest → Type 0
IsRanked mode [] = Unit {0}
IsRanked mode (first ∷ rest) = OutranksAll mode first rest × IsRanked mode rest

-- each of some requests has an arrival number below the given one
abbrev pub ArrivedBefore : ℕ → List NumberedRequest → Type 0
ArrivedBefore number [] = Unit {0}
ArrivedBefore number (first ∷ rest) = (first.arrival < number) × ArrivedBefore number rest

-- the pending requests are the members of a set of numbered requests, listed by rank
pub record StandsFor
    (mode : Mode) (set : List NumberedRequest) (pending : List StartRequest)
    : Type 0 where
  -- the set is listed by rank, the member that outranks all others first
  pub ranked : IsRanked mode set
  -- the pending requests are the members without their arrival numbers, in the order of the set
  pub requests : map (λ (one : NumberedRequest). one.request) set ≡ pending
  -- each pending request is of an OB that can wait
  pub known : list_all (λ (request : StartRequest). can_wait request.0) pending ≡ true

-- law: a request that arrives after all members of the set joins it, and all others stay, in every
-- operating mode
abbrev pub QueuedJoins : Type 0
QueuedJoins =
    (mode : Mode) (set : List NumberedRequest) (pending : List StartRequest) (number : ℕ)
    (request : StartRequest)
    → StandsFor mode set pending → ArrivedBefore number set → can_wait request.0 ≡ true
    → (next : List NumberedRequest)
    × IsPermutation (record { arrival = number; request = request } ∷ set) next
    × StandsFor mode next (request_queued request pending)

-- law: the request that is started next is the member of the set that outranks all others
abbrev pub BestOutranksAll : Type 0
BestOutranksAll =
    (mode : Mode) (set : List NumberedRequest) (pending : List StartRequest) (best : Pending)
    → StandsFor mode set pending → best_of mode pending ≡ Some best
    → (first : NumberedRequest) × (rest : List NumberedRequest) × (set ≡ first ∷ rest)
    × (first.request ≡ (best.ob, best.info)) × (best.class ≡ rank_in mode first)
    × OutranksAll mode first rest

-- law: when the first pending request is started, its member leaves the set, and all others stay
abbrev pub StartedLeaves : Type 0
StartedLeaves =
    (mode : Mode) (first : NumberedRequest) (rest : List NumberedRequest)
    (pending : List StartRequest)
    → StandsFor mode (first ∷ rest) pending → StandsFor mode rest (drop 1 pending)
