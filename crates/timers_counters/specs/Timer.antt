-- A timer of STEP 7: what the instructions and a passing millisecond do to it.
use Rattle.std.specs.Prelude.{◌≡◌, ℕ, ◌-◌, ◌*◌, ◌<◌, ◌≤◌, nat_le, Bool, true, false, not, ◌&&◌, ◌==◌, if◌then◌else◌, Option, Some, option_map}
use Rattle.std.specs.Int.{div_ceil}
use Rattle.plc_base.specs.S5Time.{unit_of, base_of_s5time, s5time_of_units, ms_of_s5time}
use Rattle.plc_base.specs.declared.s5times.TimeBase.{TimeBase}
use Rattle.plc_base.specs.declared.s5times.TimeBase.TheVariants.{TenMs}
use Rattle.plc_base.specs.declared.instructions.TimerKind.{TimerKind}
use Rattle.plc_base.specs.declared.instructions.TimerKind.TheVariants.{Sp, Se, Sd, Ss, Sf}

-- a timer of STEP 7: how it was started, the time left, its output, and the edge bits of the start
-- instructions and of FR, by which these find a rising RLO
pub record Timer : Type 0 where
  -- the start instruction that started the timer: SP, SE, SD, SS or SF
  pub kind : TimerKind
  -- the time base of the timer's S5TIME: 10 ms, 100 ms, 1 s or 10 s
  pub base : TimeBase
  -- the time left, in milliseconds
  pub left : ℕ
  -- whether the timer's time runs down
  pub running : Bool
  -- the output bit of the timer, which A, O and X check
  pub output : Bool
  -- the edge bit of the start instructions (SP, SE, SD, SS and SF): the RLO at the last of them, or
  -- 0 after FR cleared it
  pub start_edge : Bool
  -- the edge bit of enable (FR): the RLO at the last FR
  pub free_edge : Bool

-- a timer on which no instruction has acted: it stands still with output 0, no time left and edge
-- bits 0
abbrev pub timer_at_rest : Timer
timer_at_rest = record {
  kind = Sp;
  base = TenMs;
  left = 0;
  running = false;
  output = false;
  start_edge = false;
  free_edge = false;
}

-- whether the RLO rises at a start instruction: it is 1, and the edge bit of the start instructions
-- is 0
abbrev pub is_rising : Bool → Timer → Bool
is_rising rlo timer = rlo && not timer.start_edge

-- whether the RLO falls at a start instruction: it is 0, and the edge bit of the start instructions
-- is 1
abbrev pub is_falling : Bool → Timer → Bool
is_falling rlo timer = not rlo && timer.start_edge

-- the output bit of a timer when its time has ended, by the kind of its start instruction
abbrev pub output_at_end : TimerKind → Bool
output_at_end Sp = false
output_at_end Se = false
output_at_end Sd = true
output_at_end Ss = true
output_at_end Sf = false

-- a timer at the end of its time: no time left, standing still, with the output of its kind
abbrev pub end_timer : Timer → Timer
end_timer timer =
    record timer { left = 0; running = false; output = output_at_end timer.kind }

-- a timer after one millisecond: if it runs, it has one millisecond less left, and ends with the
-- last one
unfoldable pub timer_after_ms : Timer → Timer
timer_after_ms timer =
    if timer.running
    then if nat_le timer.left 1 then end_timer timer else record timer { left = timer.left - 1 }
    else timer

-- a timer that starts to run for so many milliseconds with an output bit, in the time base of the
-- S5TIME; with 0 milliseconds it ends at once
abbrev pub timer_running_for : TimerKind → ℕ → ℕ → Bool → Timer → Timer
timer_running_for kind value ms output timer =
    let started : Timer = record timer {
      kind = kind;
      base = base_of_s5time value;
      left = ms;
      running = true;
      output = output;
    } in
    if ms == 0 then end_timer started else started

-- a timer started with an S5TIME and an output bit; None where a BCD digit of the S5TIME is above 9
abbrev pub run_timer : TimerKind → ℕ → Bool → Timer → Option Timer
run_timer kind value output timer =
    option_map (λ ms. timer_running_for kind value ms output timer) (ms_of_s5time value)

-- a timer stopped with an output bit; the time left stays
abbrev pub stop_timer : Bool → Timer → Timer
stop_timer output timer = record timer { running = false; output = output }

-- what a start instruction does to a timer, with the edge bit as before; None where it starts the
-- timer and a BCD digit of the S5TIME is above 9
abbrev pub start_effect : TimerKind → Bool → ℕ → Timer → Option Timer
-- pulse: a rising RLO starts it with output 1, RLO 0 stops it and clears the output
start_effect Sp rlo value timer =
    if is_rising rlo timer then run_timer Sp value true timer
    else if rlo then Some timer
    else Some (stop_timer false timer)
-- extended pulse: a rising RLO starts it with output 1
start_effect Se rlo value timer =
    if is_rising rlo timer then run_timer Se value true timer else Some timer
-- on-delay: a rising RLO starts it with output 0, RLO 0 stops it and clears the output
start_effect Sd rlo value timer =
    if is_rising rlo timer then run_timer Sd value false timer
    else if rlo then Some timer
    else Some (stop_timer false timer)
-- retentive on-delay: a rising RLO starts it, and the output stays
start_effect Ss rlo value timer =
    if is_rising rlo timer then run_timer Ss value timer.output timer else Some timer
-- off-delay: a rising RLO stops it and sets the output, a falling RLO starts it, and the output
-- stays
start_effect Sf rlo value timer =
    if is_rising rlo timer then Some (stop_timer true timer)
    else if is_falling rlo timer then run_timer Sf value timer.output timer
    else Some timer

-- a start instruction (SP, SE, SD, SS or SF) with an S5TIME; None where it starts the timer and a
-- BCD digit of the S5TIME is above 9. The edge bit of the start instructions becomes the RLO
unfoldable pub start_timer : TimerKind → Bool → ℕ → Timer → Option Timer
start_timer kind rlo value timer =
    option_map (λ (next : Timer). record next { start_edge = rlo })
    (start_effect kind rlo value timer)

-- reset (R): where the RLO is 1, the timer stands still with output 0, no time left and time base
-- 10 ms; its kind and its edge bits stay
unfoldable pub reset_timer : Bool → Timer → Timer
reset_timer rlo timer =
    if rlo
    then record timer { base = TenMs; left = 0; running = false; output = false }
    else timer

-- enable (FR): where the RLO is 1 and the edge bit of FR 0, the edge bit of the start instructions
-- becomes 0; the edge bit of FR becomes the RLO
unfoldable pub free_timer : Bool → Timer → Timer
free_timer rlo timer =
    record timer {
      start_edge = if rlo && not timer.free_edge then false else timer.start_edge;
      free_edge = rlo;
    }

-- what L loads of a timer: the time left in units of its time base, rounded up
abbrev pub units_left : Timer → ℕ
units_left timer = div_ceil timer.left (unit_of timer.base)

-- what LC loads of a timer: the time left as an S5TIME, its time base with three BCD digits
abbrev pub time_left : Timer → ℕ
time_left timer = s5time_of_units timer.base (units_left timer)

-- a timer can be: if it runs, it has time left, and the time left is an S5TIME of its time base
pub record IsTimer (timer : Timer) : Type 0 where
  -- a timer that runs has at least one millisecond left
  pub runs : timer.running ≡ true → 0 < timer.left
  -- the time left is at most 999 units of the time base
  pub fits : timer.left ≤ 999 * unit_of timer.base
