use Rattle.std.proofs.Common.{ℕ, ◌≡◌, ◌^◌, ◌-◌, List, [], ◌∷◌, ◌++◌, ◌∙◌, ap, lit≤}
use Rattle.block_layout.proofs.StartLemmas.{steps_more}
use Rattle.block_layout.proofs.starts.add_steps.Goals as goal

pub loop-k-preserved : goal.loop-k-preserved
loop-k-preserved c =
    c.in_ok-push.ensures.items ∙ ap (λ (n : ℕ). c.loop-k.places.items ++ n ∷ []) c.capped_size.ensures
    ∙ steps_more c.args.step c.args.start c.loop-k.k c.saturating_mul.result c.capped_size-gone.result c.saturating_add.result (2 ^ 64 - 1) c.loop-k.places.items c.args.places.now.items (lit≤ tt)
    c.saturating_mul.ensures c.capped_size-gone.ensures c.saturating_add.ensures c.loop-k.invariant
