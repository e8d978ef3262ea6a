use Rattle.std.proofs.Common.{◌≤◌, ℕ, List, sym, subst, arith}
use Rattle.stack_bound.specs.declared.measures.Measure.TheVariants.{Depth, Bytes}
use Rattle.stack_bound.proofs.PlaceLemmas.{low_at}
use Rattle.stack_bound.proofs.layers.bound_by.Goals as goal

pub overflow_add-result : goal.overflow_add-result
overflow_add-result c =
    let deep : c.most_at-most.result.depth ≤ c.args.highest =
    subst (λ (n : ℕ). n ≤ c.args.highest) (sym c.most_at-most.ensures.depth)
    (low_at Depth c.args.highest c.args.layer.now c.as_slice.result.now c.requires.low) in
    omega (arith, c.requires.room, deep)

pub overflow_add-result-2 : goal.overflow_add-result-2
overflow_add-result-2 c =
    let low : c.most_at-most.result.bytes ≤ c.args.highest =
    subst (λ (n : ℕ). n ≤ c.args.highest) (sym c.most_at-most.ensures.bytes)
    (low_at Bytes c.args.highest c.args.layer.now c.as_slice.result.now c.requires.low) in
    omega (arith, c.requires.room, low, c.from.ensures)

pub returns-clause-low : goal.returns-clause-low
returns-clause-low c =
    let deep : c.most_at-most.result.depth ≤ c.args.highest =
    subst (λ (n : ℕ). n ≤ c.args.highest) (sym c.most_at-most.ensures.depth)
    (low_at Depth c.args.highest c.args.layer.now c.as_slice.result.now c.requires.low) in
    let low : c.most_at-most.result.bytes ≤ c.args.highest =
    subst (λ (n : ℕ). n ≤ c.args.highest) (sym c.most_at-most.ensures.bytes)
    (low_at Bytes c.args.highest c.args.layer.now c.as_slice.result.now c.requires.low) in
    (omega (arith, deep), omega (arith, low, c.from.ensures))
