use Rattle.std.proofs.Common.{rules, Some, ap, sym, ◌∙◌, ◌∷◌}
use Rattle.atomic_table.specs.Table.{rest}
use Rattle.tracked_lock.proofs.steps.take_out.Goals as goal

pub exchange-requires : goal.exchange-requires
exchange-requires g c = let t = c.wait_for_turn.ensures.took in
    (search rules, (Some t.0, ap (λ m. m.1) t.1 ∙ ap (λ l. (0, Some t.0) ∷ rest l) (sym (ap (λ m. m.1) t.1))))
