use Rattle.std.proofs.Common.{arith, ◌∙◌, ap, drop, ◌+◌, ℕ, ◌-◌, sym}
use Rattle.std.proofs.lemmas.Bool.{ne_eqb}
use Rattle.plc_base.proofs.ListLemmas.{drop_next}
use Rattle.flat_code.specs.Blocks.{leads_to_target}
use Rattle.image_file.proofs.CheckLemmas.{leads_step, left_next, here_fits}
use Rattle.image_file.proofs.operands.leads.Goals as goal

pub overflow_add-at : goal.overflow_add-at
overflow_add-at c = omega (arith, c.size-at.ensures.size, c.requires, here_fits c.loop-op.at c.loop-op.op-index _ c.args.rest.now c.op-item.result c.loop-op-test.true c.op-item.is c.loop-op.invariant.1)

pub loop-op-preserved : goal.loop-op-preserved
loop-op-preserved c =
    let op = c.op-item.result in
    let rest = drop (c.loop-op.op-index + 1) c.args.rest.now in
    let step = leads_step c.loop-op.most c.args.target c.loop-op.at op rest (ne_eqb c.loop-op.at c.args.target c.if-at-target.false) (sym c.is_ju.ensures ∙ c.if-not-is_ju.false) c.if-most-eq0.false in (
      ap (λ (n : ℕ). leads_to_target (c.loop-op.most - 1) c.args.target n rest) (ap (λ (k : ℕ). c.loop-op.at + k) c.size-at.ensures.size) ∙ step
          ∙ sym (ap (leads_to_target c.loop-op.most c.args.target c.loop-op.at) (drop_next c.args.rest.now c.loop-op.op-index op c.loop-op-test.true c.op-item.is)) ∙ c.loop-op.invariant.0,
      left_next c.loop-op.at c.loop-op.op-index _ _ c.args.rest.now op c.loop-op-test.true c.op-item.is (ap (λ (k : ℕ). c.loop-op.at + k) c.size-at.ensures.size) c.loop-op.invariant.1,
    )
