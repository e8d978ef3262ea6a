use Rattle.std.proofs.Common.{Bool, false, refl, ◌∙◌, ap, List}
use Rattle.stl_ast.specs.declared.statements.Statement.{Statement}
use Rattle.plc_base.specs.RefusalsAlong.{refusals_along}
use Rattle.plc_base.specs.Least.{broken_if, least}
use Rattle.plc_base.proofs.GatheredLemmas.{gathered_done, gathered_next}
use Rattle.plc_base.proofs.LeastLemmas.{lesser_first}
use Rattle.stl_types.specs.Landings.{SourceNesting, crosses_nesting, nesting_behind}
use Rattle.stl_types.proofs.landings.crossing_jumps.Goals as goal

pub loop-statement-init : goal.loop-statement-init
loop-statement-init c =
    let at = c.args.targets.now in
    lesser_first _ ∙ ap (λ (n : SourceNesting). least (refusals_along (λ s. false) (λ n (s : Statement). broken_if (crosses_nesting at.labels at.landings.items n s.operand) s.line 33) nesting_behind n c.args.body.now)) c.new-nesting.ensures

pub loop-statement-preserved : goal.loop-statement-preserved
loop-statement-preserved c =
    let at = c.args.targets.now in
    let one = c.broken_if.ensures ∙ ap (λ (v : Bool). least (broken_if v c.statement-item.result.line 33)) c.in_ok-wrong.ensures in
    gathered_next (λ s. false) (λ n (s : Statement). broken_if (crosses_nesting at.labels at.landings.items n s.operand) s.line 33) nesting_behind
    c.loop-statement.nesting c.pass.new.self c.args.body.now c.loop-statement.statement-index c.statement-item.result _ _ _ _ c.loop-statement-test.true c.statement-item.is refl
    one c.lesser-found.ensures c.in_ok-pass.ensures c.loop-statement.invariant

pub returns : goal.returns
returns c =
    let at = c.args.targets.now in
    gathered_done (λ s. false) (λ n (s : Statement). broken_if (crosses_nesting at.labels at.landings.items n s.operand) s.line 33) nesting_behind
    c.loop-statement.nesting c.args.body.now _ _ _ c.loop-statement-test.false c.loop-statement.invariant
