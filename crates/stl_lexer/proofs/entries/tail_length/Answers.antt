use Rattle.std.proofs.Common.{sym, ◌∙◌}
use Rattle.stl_lexer.proofs.TailLemmas.{tail_nothing, tail_apart, no_apart, tail_run, tail_signed, tail_line, no_line}
use Rattle.stl_lexer.proofs.entries.tail_length.Goals as goal

pub returns-in-Nothing : goal.returns-in-Nothing
returns-in-Nothing c = rw c.in-Nothing.is (tail_nothing c.args.text.now)

pub returns-then-goes_on : goal.returns-then-goes_on
returns-then-goes_on c = rw c.in-Apart.is (no_apart c.args.text.now (sym c.goes_on.ensures ∙ c.if-goes_on.true))

pub returns-else-goes_on : goal.returns-else-goes_on
returns-else-goes_on c = rw c.in-Apart.is (tail_apart c.args.text.now (sym c.goes_on.ensures ∙ c.if-goes_on.false))

pub returns-in-Run : goal.returns-in-Run
returns-in-Run c = rw (c.in-Run.is, c.word_run.ensures.value) (tail_run c.args.text.now)

pub returns-in-SignedRun : goal.returns-in-SignedRun
returns-in-SignedRun c = rw (c.in-SignedRun.is, c.word_run-in-SignedRun.ensures.value, c.behind.ensures) (tail_signed c.args.text.now c.sign_length-sign.result c.sign_length-sign.ensures.rest c.sign_length-sign.ensures.within)

pub returns-then-goes_on-2 : goal.returns-then-goes_on-2
returns-then-goes_on-2 c = rw c.in-Line.is (no_line c.args.text.now (sym c.goes_on-in-Line.ensures ∙ c.if-goes_on-2.true))

pub returns-else-goes_on-2 : goal.returns-else-goes_on-2
returns-else-goes_on-2 c = rw (c.in-Line.is, c.line_run.ensures.value) (tail_line c.args.text.now (sym c.goes_on-in-Line.ensures ∙ c.if-goes_on-2.false))
