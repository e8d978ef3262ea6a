-- The lists of timers and counters keep their lengths.
use Rattle.std.proofs.Common.{◌≡◌, ℕ, zero, suc, ◌∙◌, refl, ap, arith, List, Option, Some, None, Result, Ok, Err, map, length, slice_get}
use Rattle.std.proofs.lemmas.List.{length-map, length-set}
use Rattle.std.proofs.lemmas.Grind.{common_steps}
use Rattle.std.specs.Fn.{iterate}
use Rattle.timers_counters.specs.ByNumber.{LeavesTable, change_found, put_at_number}
use Rattle.timers_counters.specs.Sizes.{InstructionsKeepSize, TimeKeepsSize, RestartKeepsSize}
use Rattle.timers_counters.specs.Timer.{timer_after_ms}
use Rattle.timers_counters.specs.declared.faults.TimerFault.{TimerFault}

put_keeps : {A : Type 0} (old new : List A) (number : ℕ) (next : Option A) (result : Result Unit TimerFault)
    → LeavesTable old new result (put_at_number old number next) → length new ≡ length old
put_keeps old new number None (Ok answer) wrong = absurd wrong
put_keeps old new number None (Err fault) left = ap length left.1
put_keeps old new number (Some next) (Ok answer) left = ap length left ∙ length-set old number next
put_keeps old new number (Some next) (Err fault) wrong = absurd wrong

found_keeps : {A : Type 0} (effect : A → Option A) (old new : List A) (number : ℕ) (found : Option A) (result : Result Unit TimerFault)
    → LeavesTable old new result (change_found effect old number found) → length new ≡ length old
found_keeps effect old new number None (Ok answer) wrong = absurd wrong
found_keeps effect old new number None (Err fault) left = ap length left.1
found_keeps effect old new number (Some found) result left =
    put_keeps old new number (effect found) result left

pub instructions_keep : {A : Type 0} → InstructionsKeepSize A
instructions_keep effect old new number result left =
    found_keeps effect old new number (slice_get old number) result left

map_keeps : {A : Type 0} (f : A → A) (n : ℕ) (xs : List A) → length (iterate (map f) n xs) ≡ length xs
map_keeps f zero xs = refl
map_keeps f (suc n) xs = map_keeps f n (map f xs) ∙ length-map xs f

pub time_keeps : TimeKeepsSize
time_keeps n timers = map_keeps timer_after_ms n timers

pub restart_keeps : RestartKeepsSize
restart_keeps counters = grind (arith, common_steps)
