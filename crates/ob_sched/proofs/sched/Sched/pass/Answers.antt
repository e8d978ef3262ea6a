use Rattle.std.proofs.Common.{◌+◌, ◌-◌, ◌<◌, ◌∙◌, ap, sym, arith}
use Rattle.ob_sched.specs.TickState.{TickState}
use Rattle.ob_sched.specs.Millisecond.{after_ms}
use Rattle.ob_sched.specs.Views.{tick_state_of}
use Rattle.ob_sched.proofs.CountLemmas.{one_ms-counts, iterate-counts}
use Rattle.ob_sched.proofs.QuietLemmas.{iterate-step, iterate-stopped, not_some}
use Rattle.ob_sched.proofs.sched.Sched.pass.Goals as goal

pub pass_one_ms-requires : goal.pass_one_ms-requires
pass_one_ms-requires c =
    let f : TickState → TickState = after_ms c.args.mode c.args.active.now in
    let old = tick_state_of c.loop-left.self c.loop-left.passed in
    let quiet = c.saturating_sub-quiet.result in
    let counted = iterate-counts c.args.mode c.args.active.now quiet old in
    let same = ap (λ (d : TickState). d.passed.ms) (c.wait.ensures c.args.active.now) in
    omega (arith, counted, same, c.loop-left.invariant.within, c.saturating_sub-quiet.ensures, c.min.ensures, c.loop-left-test.true)

pub returns-then-is_some : goal.returns-then-is_some
returns-then-is_some c =
    let f : TickState → TickState = after_ms c.args.mode c.args.active.now in
    let quiet = c.saturating_sub-quiet.result in
    let old = tick_state_of c.loop-left.self c.loop-left.passed in
    let new = tick_state_of c.pass_one_ms.new.self c.pass_one_ms.new.passed in
    let less : quiet < c.loop-left.left = omega (arith, c.saturating_sub-quiet.ensures, c.min.ensures, c.loop-left-test.true) in
    let step = iterate-step f quiet c.loop-left.left old (tick_state_of c.wait.new.self c.wait.new.passed) new less (c.wait.ensures c.args.active.now) c.pass_one_ms.ensures in
    sym (iterate-stopped c.args.mode c.args.active.now (c.loop-left.left - (quiet + 1)) new (sym c.is_some.ensures ∙ c.if-is_some.true))
    ∙ step ∙ c.loop-left.invariant.rest

pub loop-left-preserved : goal.loop-left-preserved
loop-left-preserved c =
    let f : TickState → TickState = after_ms c.args.mode c.args.active.now in
    let quiet = c.saturating_sub-quiet.result in
    let old = tick_state_of c.loop-left.self c.loop-left.passed in
    let wait = tick_state_of c.wait.new.self c.wait.new.passed in
    let new = tick_state_of c.pass_one_ms.new.self c.pass_one_ms.new.passed in
    let less : quiet < c.loop-left.left = omega (arith, c.saturating_sub-quiet.ensures, c.min.ensures, c.loop-left-test.true) in
    let step = iterate-step f quiet c.loop-left.left old wait new less (c.wait.ensures c.args.active.now) c.pass_one_ms.ensures in
    let waiting = iterate-counts c.args.mode c.args.active.now quiet old in
    let waited = ap (λ (d : TickState). d.passed.ms) (c.wait.ensures c.args.active.now) in
    let counting = one_ms-counts c.args.mode c.args.active.now wait in
    let counted = ap (λ (d : TickState). d.passed.ms) c.pass_one_ms.ensures in
    record {
      rest = step ∙ c.loop-left.invariant.rest;
      running = not_some c.pass_one_ms.new.passed.stop (sym c.is_some.ensures ∙ c.if-is_some.false);
      within = omega (arith, waiting, waited, counting, counted, less, c.loop-left.invariant.within);
    }
