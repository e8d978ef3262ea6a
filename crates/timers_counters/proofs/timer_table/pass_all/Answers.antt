use Rattle.std.proofs.Common.{◌≡◌, ◌∙◌, ap, sym, length, ◌<◌, ◌≤◌, set, arith}
use Rattle.std.specs.Fn.{iterate}
use Rattle.std.proofs.lemmas.List.Edits.{map_over_more}
use Rattle.timers_counters.specs.Timer.{Timer, timer_after_ms}
use Rattle.timers_counters.proofs.Milliseconds.{iterate-map, map_over_end, map_over_all}
use Rattle.timers_counters.proofs.timer_table.pass_all.Goals as goal

pub loop-timer-preserved : goal.loop-timer-preserved
loop-timer-preserved c =
    let f : Timer → Timer = iterate timer_after_ms c.args.n in
    let same : length c.loop-timer.timers ≡ length c.args.timers.now = map_over_end f c.args.timers.now c.loop-timer.timers c.loop-timer.timer-index c.loop-timer.invariant in
    let within : c.loop-timer.timer-index < length c.args.timers.now = omega (arith, same, c.loop-timer-test.true) in
    let more = map_over_more f c.args.timers.now c.loop-timer.timers c.loop-timer.timer-index c.timer-item.result
    within c.loop-timer.invariant c.timer-item.is in
    ap (set c.loop-timer.timers c.loop-timer.timer-index) (c.pass_ms.ensures ∙ ap f (sym c.timer-item.is)) ∙ more

pub returns : goal.returns
returns c =
    let f : Timer → Timer = iterate timer_after_ms c.args.n in
    let same : length c.loop-timer.timers ≡ length c.args.timers.now = map_over_end f c.args.timers.now c.loop-timer.timers c.loop-timer.timer-index c.loop-timer.invariant in
    let past : length c.args.timers.now ≤ c.loop-timer.timer-index = omega (arith, same) in
    map_over_all f c.args.timers.now c.loop-timer.timers c.loop-timer.timer-index past c.loop-timer.invariant
    ∙ sym (iterate-map timer_after_ms c.args.n c.args.timers.now)
