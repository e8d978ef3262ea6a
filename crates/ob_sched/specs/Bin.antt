-- The bins of the pending requests, one for each priority class, and their bitmap.
use Rattle.std.specs.Prelude.{◌≡◌, ℕ, suc, ◌+◌, ◌*◌, ◌<◌, ◌↔◌, filter, Bool, true, ◌&&◌, ◌==◌, List, [], ◌∷◌, ◌++◌, length, drop, slice_index_or}
use Rattle.std.specs.Int.{bit_at}
use Rattle.std.specs.List.{list_all}
use Rattle.ob_sched.specs.OrganizationBlock.{priority_class, can_wait}
use Rattle.ob_sched.specs.StartRequest.{StartRequest}
use Rattle.ob_sched.specs.declared.bin.Bin.{Bin}

-- all requests that wait in the bins, by rank: the bins are listed from the lowest priority class
-- to the highest
abbrev pub requests_by_rank : List Bin → List StartRequest
requests_by_rank [] = []
requests_by_rank (bin ∷ rest) = requests_by_rank rest ++ bin.waiting.items

-- a bin's bit of the bitmap: 1 where a request waits in the bin, else 0
abbrev pub waiting_bit : List StartRequest → ℕ
waiting_bit [] = 0
waiting_bit (first ∷ rest) = 1

-- the bitmap of some bins: the number whose bit n is 1 exactly where a request waits in bin n
abbrev pub bitmap_of : List Bin → ℕ
bitmap_of [] = 0
bitmap_of (bin ∷ rest) = waiting_bit bin.waiting.items + 2 * bitmap_of rest

-- each of some requests is of an OB that can wait and has this priority class in RUN
abbrev pub are_of_class : ℕ → List StartRequest → Bool
are_of_class class waiting =
    list_all (λ request. can_wait request.0 && priority_class request.0 == class) waiting

-- the bins hold the requests by priority class: the first bin those of the given class, each
-- further bin those of the next higher class
abbrev pub are_placed_from : ℕ → List Bin → Bool
are_placed_from class [] = true
are_placed_from class (bin ∷ rest) =
    are_of_class class bin.waiting.items && are_placed_from (class + 1) rest

-- a bin in which no request waits
abbrev pub empty_bin : Bin
empty_bin = record { waiting = record { items = [] } }

-- the requests that wait in bin n; none where there is no bin n
abbrev pub requests_waiting_in : List Bin → ℕ → List StartRequest
requests_waiting_in bins n = (slice_index_or bins n empty_bin).waiting.items

-- bin n, from 0 to 31, lists in the order of arrival the pending requests whose priority class in
-- RUN is n
abbrev pub IsListedByClass : List Bin → List StartRequest → Type 0
IsListedByClass bins pending =
    (n : ℕ) → n < 32 → requests_waiting_in bins n ≡ filter (λ request. priority_class request.0 == n) pending

-- bit n of the bitmap, from 0 to 31, is 1 exactly where a request waits in bin n
abbrev pub IsBitmapOf : ℕ → List Bin → Type 0
IsBitmapOf map bins = (n : ℕ) → n < 32 → (bit_at map n ≡ 1) ↔ (0 < length (requests_waiting_in bins n))

-- bin n is the highest bin in which a request waits
pub record IsHighest (bins : List Bin) (n : ℕ) : Type 0 where
  -- n is the number of one of the 32 bins
  pub within : n < 32
  -- a request waits in bin n
  pub some : 0 < length (requests_waiting_in bins n)
  -- no request waits in a bin above n
  pub none_above : requests_by_rank (drop (suc n) bins) ≡ []
