use Rattle.std.proofs.Common.{◌+◌, ◌-◌, ◌++◌, ◌∙◌, List, ℕ, [], ◌∷◌, ap, sym, append_assoc}
use Rattle.std.specs.List.{range_with_len}
use Rattle.stl_list.proofs.RangeLemmas.{range_next}
use Rattle.stl_list.proofs.chains.first_labels.Goals as goal

pub loop-number-preserved : goal.loop-number-preserved
loop-number-preserved c =
    let i = c.loop-number.number in
    let behind = range_with_len (i + 1) (c.args.count - (i + 1)) in
    ap (λ (z : List ℕ). z ++ behind) c.in_ok-push.ensures.items
    ∙ append_assoc c.loop-number.labels.items (i ∷ []) behind
    ∙ ap (λ (z : List ℕ). c.loop-number.labels.items ++ z) (sym (range_next i c.args.count c.loop-number-test.true))
    ∙ c.loop-number.invariant
