use Rattle.std.proofs.Common.{rules, ◌≡◌, length}
use Rattle.ob_sched.proofs.DueLemmas.{list_of-countdowns, countdowns_in-list}
use Rattle.ob_sched.proofs.countdowns.Countdowns.of.Goals as goal

pub invariant_of-result : goal.invariant_of-result
invariant_of-result c =
    let four : length c.args.delays ≡ 4 = search rules in
    let nine : length c.args.periods ≡ 9 = search rules in
    list_of-countdowns c.args.delays c.args.periods c.remaining_list.result.items four nine c.remaining_list.ensures

pub returns : goal.returns
returns c =
    let four : length c.args.delays ≡ 4 = search rules in
    let nine : length c.args.periods ≡ 9 = search rules in
    countdowns_in-list c.args.delays c.args.periods c.remaining_list.result.items four nine c.remaining_list.ensures
