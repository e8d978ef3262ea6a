use Rattle.std.proofs.Common.{◌∙◌, ap, Option, ℕ}
use Rattle.std.proofs.lemmas.List.{drop_more}
use Rattle.flat_code.specs.Blocks.{at_offset}
use Rattle.image_file.specs.Least.{with_faults}
use Rattle.image_file.proofs.ProgramFaultLemmas.{lines_next, lines_done}
use Rattle.image_file.proofs.program_faults.check_lines.Goals as goal

pub loop-line-preserved : goal.loop-line-preserved
loop-line-preserved c = lines_next c.loop-line.least c.lesser_if-least.result c.loop-line.before c.loop-line.line-index c.args.lines.now _ (drop_more c.args.lines.now c.loop-line.line-index 0 c.loop-line-test.true) (c.lesser_if-least.ensures ∙ ap (λ (z : Option ℕ). with_faults c.loop-line.least (at_offset 0 z)) c.fault.ensures) ∙ c.loop-line.invariant

pub returns : goal.returns
returns c = lines_done c.loop-line.least c.loop-line.before c.loop-line.line-index c.args.lines.now c.loop-line-test.false ∙ c.loop-line.invariant
