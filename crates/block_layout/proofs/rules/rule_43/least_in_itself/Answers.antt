use Rattle.std.proofs.Common.{◌≡◌, Bool, List, [], ◌∷◌, false, get_or, refl, sym, ◌∙◌, ap, arith}
use Rattle.stl_ast.specs.declared.blocks.Block.{Block}
use Rattle.plc_base.specs.Least.{broken_if, least}
use Rattle.plc_base.proofs.LeastLemmas.{lesser_first}
use Rattle.block_layout.specs.Rule43.{contains_itself, rule_43}
use Rattle.block_layout.proofs.HeadLemmas.{heads_end, heads_turn}
use Rattle.block_layout.proofs.LayoutLemmas.{itself_at}
use Rattle.block_layout.proofs.rules.rule_43.least_in_itself.Goals as goal

pub loop-place-init : goal.loop-place-init
loop-place-init c = λ y are. ([], refl, lesser_first _)

pub loop-place-preserved : goal.loop-place-preserved
loop-place-preserved c = λ y are.
    let held = c.loop-place.invariant y are in
    let block = c.index-blocks-place.result in
    let blocks = c.args.blocks.now in
    let place = c.loop-place.place in
    let flag : c.flag_at-contains.result ≡ contains_itself y blocks held.0 block =
    c.flag_at-contains.ensures ∙ ap (λ (l : List Bool). get_or l place false) are ∙ itself_at y blocks blocks [] held.0 place block c.loop-place-test.true (omega (arith, held.1))
    ∙ ap (λ (b : Block). contains_itself y blocks held.0 b) (sym c.index-blocks-place.is) in
    let one = c.broken_if.ensures ∙ ap (λ (v : Bool). least (broken_if v block.line 43)) flag in (
      block ∷ held.0,
      omega (arith, held.1),
      heads_turn (contains_itself y blocks) 43 blocks _ block _ _ _ _ held.0 c.loop-place-test.true c.index-blocks-place.is one c.lesser-found.ensures held.2,
    )

pub returns : goal.returns
unfolding rule_43
returns c = λ y are.
    let held = c.loop-place.invariant y are in
    heads_end (contains_itself y c.args.blocks.now) 43 c.args.blocks.now _ _ _ held.0 c.loop-place-test.false held.2
