use Rattle.std.proofs.Common.{ap, List}
use Rattle.stl_types.specs.Brackets.{brackets_behind_all}
use Rattle.stl_types.specs.declared.brackets.SourceBracket.{SourceBracket}
use Rattle.stl_types.proofs.WalkLemmas.{behind_end, behind_turn}
use Rattle.stl_types.proofs.brackets.open_at_end.Goals as goal

pub loop-statement-init : goal.loop-statement-init
loop-statement-init c = ap (λ (l : List SourceBracket). brackets_behind_all l c.args.body.now) c.new-brackets.ensures.items

pub loop-statement-preserved : goal.loop-statement-preserved
loop-statement-preserved c =
    behind_turn c.loop-statement.brackets.items c.pass.new.brackets.items _ c.args.body.now c.loop-statement.statement-index c.statement-item.result
    c.loop-statement-test.true c.statement-item.is c.in_ok-pass.ensures c.loop-statement.invariant

pub returns : goal.returns
returns c = behind_end c.loop-statement.brackets.items _ c.args.body.now _ c.loop-statement-test.false c.loop-statement.invariant
