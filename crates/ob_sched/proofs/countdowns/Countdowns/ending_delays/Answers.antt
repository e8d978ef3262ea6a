use Rattle.std.proofs.Common.{rules, ◌≡◌, ◌∙◌, ◌<◌, ◌+◌, sym, ap, length, arith}
use Rattle.ob_sched.specs.Millisecond.{ending_from}
use Rattle.ob_sched.proofs.CountdownLemmas.{ending_found, ending_passed, ending_all, ending_known, delay_number, length_found}
use Rattle.std.specs.List.{list_all}
use Rattle.std.proofs.lemmas.List.Sums.{AllPass-from_list_all}
use Rattle.ob_sched.specs.OrganizationBlock.{is_delay}
use Rattle.ob_sched.proofs.countdowns.Countdowns.ending_delays.Goals as goal
use Rattle.ob_sched.proofs.countdowns.Countdowns.ending_delays.Goals.{then-is_ending, else-is_ending}

pub push-requires : goal.push-requires
push-requires c = (omega arith, omega (arith, c.loop-i.invariant.0, c.loop-i-test.true))

pub loop-i-preserved : goal.loop-i-preserved
loop-i-preserved c =
    let long : length c.delays-delays.result ≡ 4 = search rules in
    let within : c.loop-i.i < length c.delays-delays.result = omega (arith, c.loop-i-test.true, long) in
    elim c.if-is_ending.branch [
      | then-is_ending w ↦
          rw (w.obs-is, w.push.ensures.items) (
            length_found c.loop-i.obs.items (20 + c.loop-i.i) c.loop-i.i c.loop-i.invariant.0,
            ending_found c.loop-i.obs.items _ 20 c.delays-delays.result c.loop-i.i within c.loop-i.invariant.1 (sym c.is_ending.ensures ∙ w.if-is_ending.true),
          )
      | else-is_ending w ↦
          rw w.obs-is (
            omega (arith, c.loop-i.invariant.0),
            ending_passed c.loop-i.obs.items _ 20 c.delays-delays.result c.loop-i.i within c.loop-i.invariant.1 (sym c.is_ending.ensures ∙ w.if-is_ending.false),
          )
    ]

pub returns : goal.returns
returns c =
    let long : length c.delays-delays.result ≡ 4 = search rules in
    let all =
    ending_all c.loop-i.obs.items _ 20 c.delays-delays.result c.loop-i.i (omega (arith, c.loop-i-test.false, long)) c.loop-i.invariant.1 in
    let each = ending_known is_delay 20 c.delays-delays.result (λ k h. delay_number k (omega (arith, h, long))) in
    record {
      ending = all ∙ ap (ending_from 20) c.delays-delays.ensures;
      known = AllPass-from_list_all is_delay c.loop-i.obs.items (ap (list_all is_delay) all ∙ each);
    }
