use Rattle.std.proofs.Common.{rules, ◌≡◌, ◌++◌, [], ◌∷◌, List, ℕ, refl, sym, ◌∙◌, ap, suc, add-one, map}
use Rattle.std.proofs.Math.ListN.{drop_of_length-le}
use Rattle.std.proofs.lemmas.List.{append-nil}
use Rattle.stl_ast.specs.declared.blocks.Block.{Block}
use Rattle.block_layout.specs.Heads.{breach_flags}
use Rattle.block_layout.specs.Rule43.{contains_itself}
use Rattle.block_layout.specs.Cycles.{uses_of_all}
use Rattle.block_layout.proofs.CycleLemmas.{flags_next}
use Rattle.block_layout.proofs.cycles.cycles.Goals as goal

pub loop-i-init : goal.loop-i-init
loop-i-init c = ([], (refl, search rules))

pub loop-i-preserved : goal.loop-i-preserved
loop-i-preserved c =
    let before = c.loop-i.invariant.0 in
    let are : map (λ u. u.items) c.as_slice.result.now ≡ uses_of_all c.args.types.now c.args.blocks.now = ap (λ l. map (λ u. u.items) l) c.as_slice.ensures.value ∙ c.in_ok-uses.ensures in (
      c.index-blocks-i.result ∷ before,
      (
        ap (λ (n : ℕ). suc n) c.loop-i.invariant.1.0 ∙ sym (add-one c.loop-i.i),
        flags_next (contains_itself c.args.types.now c.args.blocks.now) c.args.blocks.now c.loop-i.i c.index-blocks-i.result before c.loop-i.flags.items c.push.new.self.items _ c.in_ok-flag.flag
            c.loop-i-test.true c.index-blocks-i.is (search rules) (search rules) c.loop-i.invariant.1.1,
      ),
    )

pub returns : goal.returns
returns c =
    sym (append-nil c.loop-i.flags.items)
    ∙ ap (λ (l : List Block). c.loop-i.flags.items ++ breach_flags (contains_itself c.args.types.now c.args.blocks.now) c.loop-i.invariant.0 l)
    (sym (drop_of_length-le c.args.blocks.now c.loop-i-test.false)) ∙ c.loop-i.invariant.1.1
