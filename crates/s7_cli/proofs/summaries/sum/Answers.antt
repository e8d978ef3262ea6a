use Rattle.std.proofs.Common.{◌≡◌, ◌+◌, ℕ, List, ap, refl, ◌∙◌, arith, drop, take, drop-cons, slice_index_or}
use Rattle.std.proofs.Common.{sum as sum_of}
use Rattle.std.proofs.lemmas.List.{take_all}
use Rattle.s7_cli.proofs.SummaryLemmas.{sum-on}
use Rattle.s7_cli.proofs.summaries.sum.Goals as goal

pub loop-number-init : goal.loop-number-init
loop-number-init c = (refl, omega arith)

pub overflow_add-sum : goal.overflow_add-sum
overflow_add-sum c =
    let small = c.type_inv.numbers c.loop-number.number-index in
    omega (arith, c.loop-number.invariant.1, c.loop-number-test.true, c.requires, c.from-sum.ensures, small)

pub loop-number-preserved : goal.loop-number-preserved
loop-number-preserved c =
    let numbers : List ℕ = c.args.numbers.now in
    let place : ℕ = c.loop-number.number-index in
    let small = c.type_inv.numbers place in
    let one : sum_of (take 1 (drop place numbers)) ≡ 0 + slice_index_or numbers place 0 =
    ap (λ (xs : List ℕ). sum_of (take 1 xs)) (drop-cons numbers place 0 c.loop-number-test.true) in (
      omega (arith, c.loop-number.invariant.0, sum-on numbers place 1, one, c.from-sum.ensures),
      omega (arith, c.loop-number.invariant.1, c.from-sum.ensures, small),
    )

pub returns-clause-value : goal.returns-clause-value
returns-clause-value c =
    c.loop-number.invariant.0
    ∙ ap (λ (xs : List ℕ). sum_of xs) (take_all c.loop-number.number-index c.args.numbers.now (omega (arith, c.loop-number-test.false)))

pub returns-clause-small : goal.returns-clause-small
returns-clause-small c =
    omega (arith, c.loop-number.invariant.1, c.loop-number.auto.number-index-end, c.requires)
