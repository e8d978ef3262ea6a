use Rattle.std.proofs.Common.{sym, ◌∙◌}
use Rattle.stl_lexer.specs.Bytes.{is_word_start, is_word_byte}
use Rattle.stl_lexer.proofs.RunLemmas.{run_of_rest, run_none}
use Rattle.stl_lexer.proofs.words.longest_word.Goals as goal

pub returns-in-len1-up-clause-longest : goal.returns-in-len1-up-clause-longest
returns-in-len1-up-clause-longest c = run_of_rest is_word_start is_word_byte c.args.text.now c.word_run.result c.in-len1-up.len_at_least (sym c.is_word_start.ensures ∙ c.if-is_word_start.true) c.word_run.ensures.value

pub returns-in_default-2-clause-longest : goal.returns-in_default-2-clause-longest
returns-in_default-2-clause-longest c = run_none is_word_start is_word_byte c.args.text.now (λ _. sym c.is_word_start.ensures ∙ c.if-is_word_start.false)
