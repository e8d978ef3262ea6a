use Rattle.std.proofs.Common.{rules, arith, ◌≡◌, ◌++◌, [], ◌∷◌, ℕ, sym, ◌∙◌, ap}
use Rattle.block_layout.specs.declared.outlines.Outline.{Outline}
use Rattle.block_layout.specs.Lengths.{local_len}
use Rattle.block_layout.proofs.CycleLemmas.{map_next}
use Rattle.block_layout.proofs.LengthLemmas.{length-outlines, outline_there}
use Rattle.block_layout.proofs.lengths.local_lens.Goals as goal

pub bounds-outlines-i : goal.bounds-outlines-i
bounds-outlines-i c =
    let within = c.loop-i-test.true in let same = length-outlines c.args.types.now c.args.blocks.now c.args.outlines.now c.requires in omega arith

pub loop-i-preserved : goal.loop-i-preserved
loop-i-preserved c =
    map_next (local_len c.args.types.now) c.args.blocks.now c.loop-i.i c.index-blocks-i.result c.loop-i.lens.items c.push.new.self.items _ c.loop-i-test.true c.index-blocks-i.is
    (let is = c.local_len.ensures.value c.args.types.now
    (ap (λ (o : Outline). o.temps) (sym c.index-outlines-i.is ∙ outline_there c.args.types.now c.args.blocks.now c.args.outlines.now c.loop-i.i c.index-blocks-i.result c.index-outlines-i.result c.requires c.loop-i-test.true c.index-blocks-i.is c.index-outlines-i.is)) in
    let q : c.push.new.self.items ≡ c.loop-i.lens.items ++ c.local_len.result ∷ [] = search rules in
    q ∙ ap (λ (n : ℕ). c.loop-i.lens.items ++ n ∷ []) is)
    c.loop-i.invariant
