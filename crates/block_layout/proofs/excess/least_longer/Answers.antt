use Rattle.std.proofs.Common.{◌≡◌, ℕ, List, nat_lt, sym, ◌∙◌, ap}
use Rattle.plc_base.specs.declared.refusals.Refusal.{Refusal}
use Rattle.plc_base.specs.Least.{broken_if, least}
use Rattle.plc_base.proofs.LeastLemmas.{least_done, least_next, lesser_first}
use Rattle.block_layout.proofs.HeadLemmas.{by_itself, mapped_at}
use Rattle.block_layout.proofs.excess.least_longer.Goals as goal

pub loop-place-init : goal.loop-place-init
loop-place-init c = λ f are. lesser_first _

pub loop-place-preserved : goal.loop-place-preserved
loop-place-preserved c = λ f are.
    let block = c.index-blocks-place.result in
    let len : c.number_at.result ≡ f block = c.number_at.ensures ∙ mapped_at f c.args.blocks.now c.args.lens.now _ block are c.loop-place-test.true c.index-blocks-place.is in
    let one = c.broken_if.ensures ∙ ap (λ (n : ℕ). least (broken_if (nat_lt c.args.most n) block.line c.args.rule)) len in
    least_next (λ b. broken_if (nat_lt c.args.most (f b)) b.line c.args.rule) c.args.blocks.now _ block _ _ _ c.loop-place-test.true c.index-blocks-place.is one c.lesser-found.ensures (c.loop-place.invariant f are)

pub returns : goal.returns
returns c = λ f are.
    least_done (λ b. broken_if (nat_lt c.args.most (f b)) b.line c.args.rule) c.args.blocks.now _ _ c.loop-place-test.false (c.loop-place.invariant f are)
    ∙ ap (λ (rs : List Refusal). least rs) (sym (by_itself (λ b. nat_lt c.args.most (f b)) c.args.rule c.args.blocks.now))
