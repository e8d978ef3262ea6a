use Rattle.stl_lexer.proofs.TimeLemmas.{reads_times}
use Rattle.stl_lexer.proofs.lexer.law_of_time_literals.Goals as goal

pub returns : goal.returns
returns c = reads_times
