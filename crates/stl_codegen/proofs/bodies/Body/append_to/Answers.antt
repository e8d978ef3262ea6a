use Rattle.std.proofs.Common.{◌≡◌, ◌<◌, length, get_or, ap, arith}
use Rattle.stl_codegen.specs.Bodies.{ops_here}
use Rattle.stl_codegen.proofs.AppendLemmas.{appended_none, appended_some, between_stop, between_turn, flat_turn, item_is}
use Rattle.stl_codegen.proofs.bodies.Body.append_to.Goals as goal

pub returns-in_default : goal.returns-in_default
returns-in_default c =
    let s = c.statement-item.result in
    let here = ops_here c.args.context.now c.args.self.now s in
    let same = ap length c.self.view_is in
    let within : c.loop-statement.statement-index < length c.args.self.now = omega (arith, same) in
    let is : s ≡ get_or c.args.self.now c.loop-statement.statement-index s = item_is _ _ _ _ c.self.view_is c.statement-item.is in
    between_stop c.args.ops.now.items c.loop-statement.ops.items _ here _ _ c.loop-statement.invariant
    (flat_turn (λ s. ops_here c.args.context.now c.args.self.now s) c.args.self.now c.loop-statement.statement-index s within is)
    (appended_none c.loop-statement.ops.items c.append_statement.new.ops.items here c.in_ok-append_statement.field-0 c.in_default.is c.in_ok-append_statement.ensures)

pub loop-statement-preserved : goal.loop-statement-preserved
loop-statement-preserved c =
    let s = c.statement-item.result in
    let here = ops_here c.args.context.now c.args.self.now s in
    let same = ap length c.self.view_is in
    let within : c.loop-statement.statement-index < length c.args.self.now = omega (arith, same) in
    let is : s ≡ get_or c.args.self.now c.loop-statement.statement-index s = item_is _ _ _ _ c.self.view_is c.statement-item.is in
    between_turn c.args.ops.now.items c.loop-statement.ops.items c.append_statement.new.ops.items _ here _ _ c.loop-statement.invariant
    (flat_turn (λ s. ops_here c.args.context.now c.args.self.now s) c.args.self.now c.loop-statement.statement-index s within is)
    (appended_some c.loop-statement.ops.items c.append_statement.new.ops.items here c.in_ok-append_statement.field-0 c.in-Some.field-0 c.in-Some.is c.in_ok-append_statement.ensures)
