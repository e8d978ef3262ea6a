use Rattle.std.proofs.Common.{arith, ◌∙◌}
use Rattle.image_file.proofs.CheckLemmas.{up_to_at, open_faults_next, open_faults_done}
use Rattle.image_file.proofs.verifying.check_open.Goals as goal

pub overflow_add-start : goal.overflow_add-start
overflow_add-start c = omega (arith, c.requires.room, up_to_at c.args.limit c.loop-bracket.bracket-index (record { at = 0; code = 0 }) c.args.brackets.now c.loop-bracket-test.true c.requires.within)

pub loop-bracket-preserved : goal.loop-bracket-preserved
loop-bracket-preserved c = open_faults_next c.args.start c.loop-bracket.bracket-index (record { at = 0; code = 0 }) c.args.brackets.now c.loop-bracket.least c.lesser_fault-least.result c.loop-bracket-test.true c.lesser_fault-least.ensures ∙ c.loop-bracket.invariant

pub returns : goal.returns
returns c = open_faults_done c.args.start c.loop-bracket.bracket-index c.args.brackets.now c.loop-bracket.least c.loop-bracket-test.false ∙ c.loop-bracket.invariant
