use Rattle.std.proofs.Common.{ℕ, Bool, false, refl, ◌∙◌, ap, List}
use Rattle.stl_ast.specs.declared.statements.Statement.{Statement}
use Rattle.plc_base.specs.Least.{broken_if, least}
use Rattle.plc_base.proofs.GatheredLemmas.{gathered_done, gathered_next}
use Rattle.plc_base.proofs.LeastLemmas.{lesser_first}
use Rattle.stl_types.specs.Zones.{ends_no_zone, with_zones, zones_behind}
use Rattle.stl_types.proofs.zones.zones_ended_without.Goals as goal

pub loop-statement-init : goal.loop-statement-init
loop-statement-init c =
    lesser_first _ ∙ ap (λ (l : List ℕ). least (with_zones (λ zones s. broken_if (ends_no_zone zones s) s.line 47) l c.args.body.now)) c.new-zones.ensures.items

pub loop-statement-preserved : goal.loop-statement-preserved
loop-statement-preserved c =
    let one = c.broken_if.ensures ∙ ap (λ (v : Bool). least (broken_if v c.statement-item.result.line 47)) (let a = c.as_slice.ensures.value in let k = c.ends_none-wrong.ensures in cc) in
    gathered_next (λ s. false) (λ zones (s : Statement). broken_if (ends_no_zone zones s) s.line 47) zones_behind
    c.loop-statement.zones.items c.pass_zones.new.zones.items c.args.body.now c.loop-statement.statement-index c.statement-item.result _ _ _ _ c.loop-statement-test.true c.statement-item.is refl
    one c.lesser-found.ensures c.in_ok-pass_zones.ensures c.loop-statement.invariant

pub returns : goal.returns
returns c =
    gathered_done (λ s. false) (λ zones (s : Statement). broken_if (ends_no_zone zones s) s.line 47) zones_behind
    c.loop-statement.zones.items c.args.body.now _ _ _ c.loop-statement-test.false c.loop-statement.invariant
