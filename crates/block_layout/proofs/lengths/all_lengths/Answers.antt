use Rattle.std.proofs.Common.{rules, ◌≡◌, ◌++◌, [], ◌∷◌, ℕ, ◌∙◌, ap}
use Rattle.block_layout.specs.Lengths.{length_of_block}
use Rattle.block_layout.proofs.CycleLemmas.{map_next}
use Rattle.block_layout.proofs.LengthLemmas.{block_there}
use Rattle.block_layout.proofs.lengths.all_lengths.Goals as goal

pub loop-i-preserved : goal.loop-i-preserved
loop-i-preserved c =
    map_next (length_of_block c.args.types.now c.args.blocks.now) c.args.blocks.now c.loop-i.i c.index-blocks-i.result c.loop-i.lens.items c.push.new.self.items _ c.loop-i-test.true c.index-blocks-i.is
    (let is = c.length_of.ensures.value c.args.types.now c.args.blocks.now c.requires (block_there c.args.blocks.now c.loop-i.i c.index-blocks-i.result c.loop-i-test.true c.index-blocks-i.is) c.shape_of-shape.ensures in
    let q : c.push.new.self.items ≡ c.loop-i.lens.items ++ c.length_of.result ∷ [] = search rules in
    q ∙ ap (λ (n : ℕ). c.loop-i.lens.items ++ n ∷ []) is)
    c.loop-i.invariant
