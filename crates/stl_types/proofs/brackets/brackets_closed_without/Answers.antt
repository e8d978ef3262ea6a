use Rattle.std.proofs.Common.{Bool, false, refl, ◌∙◌, ap, List}
use Rattle.stl_ast.specs.declared.statements.Statement.{Statement}
use Rattle.plc_base.specs.Least.{broken_if, least}
use Rattle.plc_base.proofs.GatheredLemmas.{gathered_done, gathered_next}
use Rattle.plc_base.proofs.LeastLemmas.{lesser_first}
use Rattle.stl_types.specs.Brackets.{brackets_behind, closes_no_bracket, with_brackets}
use Rattle.stl_types.specs.declared.brackets.SourceBracket.{SourceBracket}
use Rattle.stl_types.proofs.brackets.brackets_closed_without.Goals as goal

pub loop-statement-init : goal.loop-statement-init
loop-statement-init c =
    lesser_first _ ∙ ap (λ (l : List SourceBracket). least (with_brackets (λ brackets s. broken_if (closes_no_bracket brackets s) s.line 29) l c.args.body.now)) c.new-brackets.ensures.items

pub loop-statement-preserved : goal.loop-statement-preserved
loop-statement-preserved c =
    let one = c.broken_if.ensures ∙ ap (λ (v : Bool). least (broken_if v c.statement-item.result.line 29)) (let a = c.as_slice.ensures.value in let k = c.closes_none-wrong.ensures in cc) in
    gathered_next (λ s. false) (λ brackets (s : Statement). broken_if (closes_no_bracket brackets s) s.line 29) brackets_behind
    c.loop-statement.brackets.items c.pass.new.brackets.items c.args.body.now c.loop-statement.statement-index c.statement-item.result _ _ _ _ c.loop-statement-test.true c.statement-item.is refl
    one c.lesser-found.ensures c.in_ok-pass.ensures c.loop-statement.invariant

pub returns : goal.returns
returns c =
    gathered_done (λ s. false) (λ brackets (s : Statement). broken_if (closes_no_bracket brackets s) s.line 29) brackets_behind
    c.loop-statement.brackets.items c.args.body.now _ _ _ c.loop-statement-test.false c.loop-statement.invariant
