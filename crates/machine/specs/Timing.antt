-- Timers and counters: SP SE SD SS SF, CU, CD, S of a counter, R and FR of both.
-- Siemens, Statement List (STL): Timer Instructions, Counter Instructions.
use Rattle.std.specs.Prelude.{◌≡◌, ℕ, ◌%◌, ◌^◌, false, List, Result, Ok, Err}
use Rattle.plc_base.specs.ErrorCodes as errors
use Rattle.plc_base.specs.declared.TimerKind.{TimerKind}
use Rattle.plc_mem.specs.Areas.{Areas}
use Rattle.status_word.specs.declared.Regs.{Regs}
use Rattle.timers_counters.specs.ByNumber.{change_at_number, change_always}
use Rattle.timers_counters.specs.Timer.{Timer, start_timer, reset_timer, free_timer}
use Rattle.timers_counters.specs.Counter.{Counter, count_up, count_down, set_counter, reset_counter, free_counter}
use Rattle.frames.specs.declared.running.Running.{Running}
use Rattle.flat_code.specs.declared.operands.Operand.{Operand}
use Rattle.machine.specs.ExecState.{Local, then_ok}
use Rattle.machine.specs.Outcomes.{ErrorAnswer, IsDone}
use Rattle.machine.specs.Values.{with_timer_error, number_named}

-- registers after an instruction on a timer or counter, which ends the logic string: OR 0, /FC 0
abbrev pub logic_string_ended : Regs → Regs
logic_string_ended r = record r { status = record r.status { or = false; fc = false } }

-- the word that a start instruction and S take: the low word of accumulator 1
abbrev pub start_word : Local → ℕ
start_word s = s.regs.a1 % 2 ^ 16

-- SP, SE, SD, SS or SF: the timers afterwards; error 26 where there is none of the number, 21 for a
-- bad digit
unfoldable pub timer_start :
    TimerKind → Operand → Local → Areas → List Timer → Result (List Timer) ℕ
timer_start how o s m t =
    then_ok (number_named o s m) (λ number.
    with_timer_error errors.no_timer
    (change_at_number (start_timer how s.regs.status.rlo (start_word s)) t number))

-- R of a timer: the timers afterwards; error 26 where there is none of the number
unfoldable pub timer_reset : Operand → Local → Areas → List Timer → Result (List Timer) ℕ
timer_reset o s m t =
    then_ok (number_named o s m) (λ number.
    with_timer_error errors.no_timer (change_always (reset_timer s.regs.status.rlo) t number))

-- FR of a timer: the timers afterwards; error 26 where there is none of the number
unfoldable pub timer_freed : Operand → Local → Areas → List Timer → Result (List Timer) ℕ
timer_freed o s m t =
    then_ok (number_named o s m) (λ number.
    with_timer_error errors.no_timer (change_always (free_timer s.regs.status.rlo) t number))

-- CU: the counters afterwards; error 27 where there is none of the number
unfoldable pub counting_up : Operand → Local → Areas → List Counter → Result (List Counter) ℕ
counting_up o s m n =
    then_ok (number_named o s m) (λ number.
    with_timer_error errors.no_counter (change_always (count_up s.regs.status.rlo) n number))

-- CD: the counters afterwards; error 27 where there is none of the number
unfoldable pub counting_down : Operand → Local → Areas → List Counter → Result (List Counter) ℕ
counting_down o s m n =
    then_ok (number_named o s m) (λ number.
    with_timer_error errors.no_counter (change_always (count_down s.regs.status.rlo) n number))

-- S of a counter: the counters afterwards; error 27 where there is none of the number, 21 for a bad
-- digit
unfoldable pub counter_set : Operand → Local → Areas → List Counter → Result (List Counter) ℕ
counter_set o s m n =
    then_ok (number_named o s m) (λ number.
    with_timer_error errors.no_counter
    (change_at_number (set_counter s.regs.status.rlo (start_word s)) n number))

-- R of a counter: the counters afterwards; error 27 where there is none of the number
unfoldable pub counter_reset : Operand → Local → Areas → List Counter → Result (List Counter) ℕ
counter_reset o s m n =
    then_ok (number_named o s m) (λ number.
    with_timer_error errors.no_counter (change_always (reset_counter s.regs.status.rlo) n number))

-- FR of a counter: the counters afterwards; error 27 where there is none of the number
unfoldable pub counter_freed : Operand → Local → Areas → List Counter → Result (List Counter) ℕ
counter_freed o s m n =
    then_ok (number_named o s m) (λ number.
    with_timer_error errors.no_counter (change_always (free_counter s.regs.status.rlo) n number))

-- what a call leaves by an effect on timers or counters: the logic string has ended; or, with an
-- error, all as it was
abbrev pub HasTimerOrCounterEffect :
    {A : Type 0} → Result (List A) ℕ → (old new : Running) (all all' : List A) → ErrorAnswer
    → Type 0
HasTimerOrCounterEffect effect old new all all' answer =
    IsDone effect
    (λ next. (new ≡ record old { regs = logic_string_ended old.regs }) × (all' ≡ next))
    ((new ≡ old) × (all' ≡ all)) answer
