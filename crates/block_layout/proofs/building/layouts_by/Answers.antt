use Rattle.std.proofs.Common.{◌≡◌, ◌<◌, ◌+◌, ℕ, Bool, List, [], ◌∷◌, false, get_or, length, length-append, sym, ◌∙◌, ap, subst, arith}
use Rattle.std.proofs.lemmas.Iterator.Adapters.{YieldsList-from_vec}
use Rattle.std.proofs.lemmas.Iterator.Consumers.{YieldsList-end, YieldsList-turn}
use Rattle.stl_ast.specs.declared.blocks.Block.{Block}
use Rattle.block_layout.specs.declared.blocks.BlockLayout.{BlockLayout}
use Rattle.block_layout.specs.Facts.{outline_of}
use Rattle.block_layout.specs.Layouts.{layouts_by}
use Rattle.block_layout.specs.Lengths.{length_of_block, local_len}
use Rattle.block_layout.specs.Rule43.{contains_itself}
use Rattle.block_layout.proofs.HeadLemmas.{mapped_at}
use Rattle.block_layout.proofs.LayoutLemmas.{AreLaid, itself_at, laid_end, laid_first, laid_next}
use Rattle.block_layout.proofs.LengthLemmas.{length-outlines, outline_there}
use Rattle.block_layout.proofs.building.layouts_by.Goals as goal

pub bounds-blocks-place : goal.bounds-blocks-place
bounds-blocks-place c =
    let b = c.into_iter-outline-iterator.ensures.into_iter_gives in
    let t = YieldsList-turn (YieldsList-from_vec {s = c.into_iter-outline-iterator.result} c.args.outlines.items b.0 (b.1 ∙ c.args.outlines.ok.0)) c.loop-outline.yielded c.loop-outline.outline-iterator
    c.loop-outline.yielded_by c.next.result c.next.new.self c.in-Some.outline c.in-Some.is c.next.ensures.steps in
    let same = length-outlines c.args.types.now c.args.blocks.now c.args.outlines.items c.requires.outlines in
    let turns = c.loop-outline.invariant.turns in
    let long = c.loop-outline.layouts.ok.0 in
    let place = c.len-place.ensures in
    omega (arith, t.0)

pub loop-outline-init : goal.loop-outline-init
loop-outline-init c =
    let y = c.args.types.now in
    let blocks = c.args.blocks.now in
    let none = c.in_ok-layouts.ensures.items in record {
      turns = ap length none;
      laid = subst (λ (l : List BlockLayout). AreLaid y blocks l c.nothing_before-before.result) (sym none) (laid_first y blocks c.nothing_before-before.result (c.nothing_before-before.ensures y blocks));
    }

pub loop-outline-preserved : goal.loop-outline-preserved
loop-outline-preserved c =
    let b = c.into_iter-outline-iterator.ensures.into_iter_gives in
    let t = YieldsList-turn (YieldsList-from_vec {s = c.into_iter-outline-iterator.result} c.args.outlines.items b.0 (b.1 ∙ c.args.outlines.ok.0)) c.loop-outline.yielded c.loop-outline.outline-iterator
    c.loop-outline.yielded_by c.next.result c.next.new.self c.in-Some.outline c.in-Some.is c.next.ensures.steps in
    let y = c.args.types.now in
    let blocks = c.args.blocks.now in
    let facts = c.requires.facts in
    let turns = c.loop-outline.invariant.turns in
    let at = c.loop-outline.invariant.laid in
    let done = c.loop-outline.layouts.items in
    let block = c.index-blocks-place.result in
    let place = c.len-place.result in
    let same = length-outlines y blocks c.args.outlines.items c.requires.outlines in
    let long = c.loop-outline.layouts.ok.0 in
    let is_place : place ≡ length done = (let e = c.len-place.ensures in omega arith) in
    let near : length c.loop-outline.yielded < length blocks = omega (arith, t.0) in
    let within : place < length blocks = omega arith in
    let inside : length done < length blocks = omega arith in
    let there : block ≡ get_or blocks (length done) block = c.index-blocks-place.is ∙ ap (λ (n : ℕ). get_or blocks n block) is_place in
    let is_outline : c.in-Some.outline ≡ outline_of y block =
    outline_there y blocks c.args.outlines.items (length c.loop-outline.yielded) block c.in-Some.outline c.requires.outlines near (there ∙ ap (λ (n : ℕ). get_or blocks n block) turns) t.1 in
    let itself : c.flag_at-in_itself.result ≡ contains_itself y blocks at.some block =
    c.flag_at-in_itself.ensures ∙ ap (λ (l : List Bool). get_or l place false) (c.deref.ensures.value ∙ facts.in_itself) ∙ itself_at y blocks blocks [] at.some place block within (omega (arith, at.count))
    ∙ ap (λ (x : Block). contains_itself y blocks at.some x) (sym c.index-blocks-place.is) in
    let local : c.number_at-local.result ≡ local_len y block =
    c.number_at-local.ensures ∙ ap (λ (l : List ℕ). get_or l place 0) c.deref-in-loop-outline.ensures.value ∙ mapped_at (local_len y) blocks _ place block facts.local_lens within c.index-blocks-place.is in
    let len : c.number_at-len.result ≡ length_of_block y blocks block =
    c.number_at-len.ensures ∙ ap (λ (l : List ℕ). get_or l place 0) c.deref-in-loop-outline-2.ensures.value ∙ mapped_at (length_of_block y blocks) blocks _ place block facts.lengths within c.index-blocks-place.is in
    let one = c.block_layout-layout.ensures blocks at.some is_outline (record { itself = itself; locals = local; bytes = len }) at.known in
    let pushed = c.in_ok-push.ensures.items in record {
      turns = ap length pushed ∙ length-append done (c.block_layout-layout.result ∷ []) ∙ ap (λ (n : ℕ). n + 1) turns ∙ sym (length-append c.loop-outline.yielded (c.in-Some.outline ∷ []));
      laid =
          laid_next y blocks done c.push.new.self.items c.block_layout-layout.result block c.loop-outline.before c.with_block-before.result at inside there one pushed
          (c.with_block-before.ensures y blocks at.some len at.known);
    }

pub returns : goal.returns
unfolding layouts_by
returns c =
    let b = c.into_iter-outline-iterator.ensures.into_iter_gives in
    let t = YieldsList-end (YieldsList-from_vec {s = c.into_iter-outline-iterator.result} c.args.outlines.items b.0 (b.1 ∙ c.args.outlines.ok.0)) c.loop-outline.yielded c.loop-outline.outline-iterator
    c.loop-outline.yielded_by c.next.result c.next.new.self c.in-None.is c.next.ensures.steps in
    let y = c.args.types.now in
    let blocks = c.args.blocks.now in
    let same = length-outlines y blocks c.args.outlines.items c.requires.outlines in
    let turns = c.loop-outline.invariant.turns in
    laid_end y blocks c.loop-outline.layouts.items c.loop-outline.before c.loop-outline.invariant.laid (omega (arith, t.1))
