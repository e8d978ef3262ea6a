use Rattle.std.proofs.Common.{◌≡◌, ◌≤◌, List, [], ◌∷◌, ◌++◌, map, length, refl, sym, ap, subst, ◌∙◌}
use Rattle.std.proofs.lemmas.Iterator.Adapters.{YieldsList-from_vec}
use Rattle.std.proofs.lemmas.Iterator.Consumers.{YieldsList-end}
use Rattle.flat_code.specs.Programs.{CodeBlock}
use Rattle.flat_code.specs.Image.{block_of_record}
use Rattle.flat_code.specs.Loading.{blocks_of}
use Rattle.image_file.specs.declared.records.LocatedBlock.{LocatedBlock}
use Rattle.image_file.specs.Running.{located_block}
use Rattle.image_file.specs.Typing.{HaveFewParameters}
use Rattle.image_file.proofs.typing.code_blocks.Goals as goal

abbrev Few : List LocatedBlock → Type 0
Few xs = HaveFewParameters (blocks_of (map located_block xs))

abbrev typed_of : List LocatedBlock → List CodeBlock
typed_of xs = map block_of_record (blocks_of (map located_block xs))

few_front : (xs : List LocatedBlock) (s : LocatedBlock) → Few (xs ++ s ∷ []) → Few xs × (length s.block.params ≤ 60)
few_front [] s h = (tt, h.0)
few_front (x ∷ xs) s h = let f = few_front xs s h.1 in ((h.0, f.0), f.1)

typed_more : (xs : List LocatedBlock) (s : LocatedBlock) → typed_of xs ++ block_of_record s.block ∷ [] ≡ typed_of (xs ++ s ∷ [])
typed_more [] s = refl
typed_more (x ∷ xs) s = ap (λ (z : List CodeBlock). block_of_record x.block ∷ z) (typed_more xs s)

same_list : (xs : List LocatedBlock) → map (λ y. y) xs ≡ xs
same_list [] = refl
same_list (x ∷ xs) = ap (λ (z : List LocatedBlock). x ∷ z) (same_list xs)

pub loop-started-preserved : goal.loop-started-preserved
loop-started-preserved c = λ few.
    let f = few_front c.loop-started.yielded c.in-Some.started few in
    c.in_ok-push.ensures.items
    ∙ ap (λ (z : List CodeBlock). z ++ c.block_of.result ∷ []) (c.loop-started.invariant f.0)
    ∙ ap (λ (b : CodeBlock). typed_of c.loop-started.yielded ++ b ∷ []) (c.block_of.ensures f.1)
    ∙ typed_more c.loop-started.yielded c.in-Some.started

pub returns : goal.returns
returns c = λ few.
    let b = c.into_iter-started-iterator.ensures.into_iter_gives in
    let t = YieldsList-end (YieldsList-from_vec {s = c.into_iter-started-iterator.result} c.args.blocks.items b.0 (b.1 ∙ c.args.blocks.ok.0)) c.loop-started.yielded c.loop-started.started-iterator c.loop-started.yielded_by c.next.result c.next.new.self c.in-None.is c.next.ensures.steps in
    let all : c.loop-started.yielded ≡ c.args.blocks.items = sym (same_list c.loop-started.yielded) ∙ t.0 in
    c.loop-started.invariant (subst Few (sym all) few) ∙ ap typed_of all
