use Rattle.std.proofs.Common.{rules, ◌≡◌, ◌∙◌, ◌<◌, ◌+◌, ap, length, arith}
use Rattle.ob_sched.specs.Millisecond.{due_from}
use Rattle.ob_sched.proofs.CountdownLemmas.{due_found, due_passed, due_all, due_known, cyclic_number, length_found}
use Rattle.std.specs.List.{list_all}
use Rattle.std.proofs.lemmas.List.Sums.{AllPass-from_list_all}
use Rattle.ob_sched.specs.OrganizationBlock.{is_cyclic}
use Rattle.ob_sched.proofs.countdowns.Countdowns.due.Goals as goal
use Rattle.ob_sched.proofs.countdowns.Countdowns.due.Goals.{then-left-le1, else-left-le1}

pub push-requires : goal.push-requires
push-requires c = (omega arith, omega (arith, c.loop-i.invariant.0, c.loop-i-test.true))

pub loop-i-preserved : goal.loop-i-preserved
loop-i-preserved c =
    let long : length c.periods-periods.result ≡ 9 = search rules in
    let within : c.loop-i.i < length c.periods-periods.result = omega (arith, c.loop-i-test.true, long) in
    elim c.if-left-le1.branch [
      | then-left-le1 w ↦
          rw (w.obs-is, w.push.ensures.items) (
            length_found c.loop-i.obs.items (30 + c.loop-i.i) c.loop-i.i c.loop-i.invariant.0,
            due_found c.loop-i.obs.items _ 30 c.periods-periods.result c.loop-i.i within c.loop-i.invariant.1 w.if-left-le1.true,
          )
      | else-left-le1 w ↦
          rw w.obs-is (
            omega (arith, c.loop-i.invariant.0),
            due_passed c.loop-i.obs.items _ 30 c.periods-periods.result c.loop-i.i within c.loop-i.invariant.1 w.if-left-le1.false,
          )
    ]

pub returns : goal.returns
returns c =
    let long : length c.periods-periods.result ≡ 9 = search rules in
    let all =
    due_all c.loop-i.obs.items _ 30 c.periods-periods.result c.loop-i.i (omega (arith, c.loop-i-test.false, long)) c.loop-i.invariant.1 in
    let each = due_known is_cyclic 30 c.periods-periods.result (λ k h. cyclic_number k (omega (arith, h, long))) in
    record {
      due = all ∙ ap (due_from 30) c.periods-periods.ensures;
      known = AllPass-from_list_all is_cyclic c.loop-i.obs.items (ap (list_all is_cyclic) all ∙ each);
    }
