-- Calls of one kind that are counted, some of which are to fail.
use Rattle.std.specs.Prelude.{◌≡◌, ℕ, ◌+◌, ◌-◌, min, Bool, true, false, ◌==◌, List, [], length, if◌then◌else◌, Option, None, Some, Ok, Err, Result}
use Rattle.std.specs.List.{list_any}
use Rattle.plc_io.specs.declared.calls.Calls.{Calls}
use Rattle.plc_io.specs.declared.faults.IoFault.{IoFault}
use Rattle.plc_io.specs.declared.faults.IoFault.TheVariants.{Failed}
use Rattle.plc_io.specs.Counts.{last_count}

-- no call was made, and none is to fail
pub record NoCalls (calls : Calls) : Type 0 where
  -- no call was made so far
  pub made : calls.made ≡ 0
  -- none of the calls made so far failed
  pub failed : calls.failed ≡ 0
  -- no call has a number at which it is to fail
  pub failing : calls.failing.items ≡ []

-- a count of calls after one more; it stands still at its last value
abbrev pub next_count : ℕ → ℕ
next_count n = min (n + 1) last_count

-- whether the next call is one of those that are to fail
abbrev pub is_next_to_fail : Calls → Bool
is_next_to_fail calls = list_any (λ n. n == next_count calls.made) calls.failing.items

-- the calls after one more, which failed or didn't
abbrev pub after_call : Calls → Bool → Calls
after_call calls failed = record calls {
  made = next_count calls.made;
  failed = (if failed then next_count calls.failed else calls.failed);
}

-- what a read of a file in memory from place `at` on into `room` bytes answers, where the call is
-- to fail or not
abbrev pub read_answer : Bool → Option (List ℕ) → ℕ → ℕ → Result ℕ IoFault
read_answer true file at room = Err Failed
read_answer false None at room = Err Failed
read_answer false (Some all) at room = Ok (min room (length all - at))
