use Rattle.std.proofs.Common.{◌≡◌, List, [], ◌∷◌, ◌++◌, map, refl, sym, ap, ◌∙◌}
use Rattle.std.proofs.lemmas.Iterator.Adapters.{YieldsList-from_vec}
use Rattle.std.proofs.lemmas.Iterator.Consumers.{YieldsList-end, YieldsList-turn}
use Rattle.flat_code.specs.Programs.{CodeBlock}
use Rattle.image_file.proofs.MarkLemmas.{small_at}
use Rattle.image_file.proofs.loaded.loaded_blocks.Goals as goal

same_list : (xs : List CodeBlock) → map (λ y. y) xs ≡ xs
same_list [] = refl
same_list (x ∷ xs) = ap (λ (z : List CodeBlock). x ∷ z) (same_list xs)

pub loop-block-init : goal.loop-block-init
loop-block-init c = c.in_ok-loaded.ensures.items

pub new-requires : goal.new-requires
new-requires c =
    let b = c.into_iter-block-iterator.ensures.into_iter_gives in
    let t = YieldsList-turn (YieldsList-from_vec {s = c.into_iter-block-iterator.result} c.args.blocks.items b.0 (b.1 ∙ c.args.blocks.ok.0)) c.loop-block.yielded c.loop-block.block-iterator
    c.loop-block.yielded_by c.next.result c.next.new.self c.in-Some.block c.in-Some.is c.next.ensures.steps in
    small_at c.args.blocks.items _ c.in-Some.block c.requires t.0 t.1

pub loop-block-preserved : goal.loop-block-preserved
loop-block-preserved c =
    c.in_ok-push.ensures.items
    ∙ ap (λ (z : List CodeBlock). z ++ c.in_ok-new.field-0 ∷ []) c.loop-block.invariant
    ∙ ap (λ (b : CodeBlock). c.loop-block.yielded ++ b ∷ []) c.in_ok-new.ensures

pub returns : goal.returns
returns c =
    let b = c.into_iter-block-iterator.ensures.into_iter_gives in
    let t = YieldsList-end (YieldsList-from_vec {s = c.into_iter-block-iterator.result} c.args.blocks.items b.0 (b.1 ∙ c.args.blocks.ok.0)) c.loop-block.yielded c.loop-block.block-iterator
    c.loop-block.yielded_by c.next.result c.next.new.self c.in-None.is c.next.ensures.steps in
    c.loop-block.invariant ∙ sym (same_list c.loop-block.yielded) ∙ t.0
