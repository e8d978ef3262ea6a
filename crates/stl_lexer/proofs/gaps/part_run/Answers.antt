use Rattle.stl_lexer.proofs.GapLemmas.{blank_gap, comment_gap, blank_line, comment_line}
use Rattle.stl_lexer.proofs.gaps.part_run.Goals as goal

pub returns-in-Blanks-clause-rest : goal.returns-in-Blanks-clause-rest
returns-in-Blanks-clause-rest c = rw (c.in-Blanks.is, c.blank_run.ensures.value) (blank_gap c.args.text.now)

pub returns-in-Blanks-clause-line : goal.returns-in-Blanks-clause-line
returns-in-Blanks-clause-line c = rw c.blank_run.ensures.value (blank_line c.args.text.now)

pub returns-in-Comment-clause-rest : goal.returns-in-Comment-clause-rest
returns-in-Comment-clause-rest c = rw (c.in-Comment.is, c.comment_run.ensures.value) (comment_gap c.args.text.now)

pub returns-in-Comment-clause-line : goal.returns-in-Comment-clause-line
returns-in-Comment-clause-line c = rw c.comment_run.ensures.value (comment_line c.args.text.now)
