-- A counter of STEP 7.
use Rattle.std.specs.Prelude.{ℕ, ◌+◌, ◌-◌, ◌≤◌, min, nat_lt, Bool, false, not, ◌&&◌, if◌then◌else◌, Option, Some, option_map}
use Rattle.plc_base.specs.Bcd.{unsigned_of_bcd, bcd_digits}

-- a counter of STEP 7: its value, and for CU, CD, S and FR each the edge bit, by which the
-- instruction finds a rising RLO
pub record Counter : Type 0 where
  -- the count, 0 to 999
  pub value : ℕ
  -- the edge bit of count up (CU): the RLO at the last CU, or 0 after FR cleared it
  pub up_edge : Bool
  -- the edge bit of count down (CD): the RLO at the last CD, or 0 after FR cleared it
  pub down_edge : Bool
  -- the edge bit of set (S): the RLO at the last S, or 0 after FR cleared it
  pub set_edge : Bool
  -- the edge bit of enable (FR): the RLO at the last FR
  pub free_edge : Bool

-- a counter on which no instruction has acted: value 0 and all edge bits 0
abbrev pub counter_at_rest : Counter
counter_at_rest = record {
  value = 0;
  up_edge = false;
  down_edge = false;
  set_edge = false;
  free_edge = false;
}

-- count up (CU): where the RLO is 1 and the edge bit of CU 0, the value becomes one more, up to
-- 999; the edge bit becomes the RLO
unfoldable pub count_up : Bool → Counter → Counter
count_up rlo counter =
    record counter {
      value = if rlo && not counter.up_edge then min (counter.value + 1) 999 else counter.value;
      up_edge = rlo;
    }

-- count down (CD): where the RLO is 1 and the edge bit of CD 0, the value becomes one less, down to
-- 0; the edge bit becomes the RLO
unfoldable pub count_down : Bool → Counter → Counter
count_down rlo counter =
    record counter {
      value = if rlo && not counter.down_edge then counter.value - 1 else counter.value;
      down_edge = rlo;
    }

-- the counter as set (S) loads its value, with the edge bits as before: where the RLO is 1 and the
-- edge bit of S 0, the value is the number of the three BCD digits in the low bits of a word; None
-- where one of the digits is above 9
abbrev pub load_count : Bool → ℕ → Counter → Option Counter
load_count rlo word counter =
    if rlo && not counter.set_edge
    then option_map (λ number. record counter { value = number }) (unsigned_of_bcd 3 word)
    else Some counter

-- set (S): where the RLO is 1 and the edge bit of S 0, the value becomes the number of the three
-- BCD digits in the low bits of a word, None where one of them is above 9; the edge bit becomes the
-- RLO
unfoldable pub set_counter : Bool → ℕ → Counter → Option Counter
set_counter rlo word counter =
    option_map (λ (next : Counter). record next { set_edge = rlo }) (load_count rlo word counter)

-- reset (R): where the RLO is 1, the value becomes 0
unfoldable pub reset_counter : Bool → Counter → Counter
reset_counter rlo counter = if rlo then record counter { value = 0 } else counter

-- enable (FR): where the RLO is 1 and the edge bit of FR 0, the edge bits of CU, CD and S become 0;
-- the edge bit of FR becomes the RLO
unfoldable pub free_counter : Bool → Counter → Counter
free_counter rlo counter =
    if rlo && not counter.free_edge
    then record counter { up_edge = false; down_edge = false; set_edge = false; free_edge = rlo }
    else record counter { free_edge = rlo }

-- whether the value of a counter is above 0, which A, O and X check
abbrev pub is_counting : Counter → Bool
is_counting counter = nat_lt 0 counter.value

-- what LC loads of a counter: its value as three BCD digits
abbrev pub count_bcd : Counter → ℕ
count_bcd counter = bcd_digits 3 counter.value

-- the value of a counter is in its range, 0 to 999
abbrev pub IsCounter : Counter → Type 0
IsCounter counter = counter.value ≤ 999
