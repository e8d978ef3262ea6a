use Rattle.std.proofs.Common.{Bool, ◌∙◌, ap, List, ℕ}
use Rattle.plc_base.specs.Least.{broken_if, least}
use Rattle.plc_base.proofs.LeastLemmas.{lesser_first}
use Rattle.stl_types.specs.Lists.{lists_from}
use Rattle.stl_types.proofs.WalkLemmas.{lists_end, lists_turn}
use Rattle.stl_types.proofs.lists.wrong_lists.Goals as goal

pub loop-place-init : goal.loop-place-init
loop-place-init c = lesser_first _ ∙ ap (λ (l : List (List ℕ)). least (lists_from l c.args.body.now)) c.new-before.ensures

pub loop-place-preserved : goal.loop-place-preserved
loop-place-preserved c =
    let one = c.broken_if.ensures ∙ ap (λ (v : Bool). least (broken_if v c.index-body-place.result.line 32)) (let a = c.behind.ensures in let k = c.is_wrong_list-wrong.ensures in cc) in
    lists_turn c.loop-place.before c.add_label.new.labels c.args.body.now c.loop-place.place c.index-body-place.result _ _ _ _ c.loop-place-test.true c.index-body-place.is
    c.in_ok-add_label.ensures one c.lesser-found.ensures c.loop-place.invariant

pub returns : goal.returns
returns c = lists_end c.loop-place.before c.args.body.now _ _ _ c.loop-place-test.false c.loop-place.invariant
