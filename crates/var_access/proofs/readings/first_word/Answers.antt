use Rattle.std.proofs.Common.{rules}
use Rattle.var_access.proofs.WordLemmas.{no_words, words_behind}
use Rattle.var_access.proofs.readings.first_word.Goals as goal

pub returns-then-is_empty-clause-words : goal.returns-then-is_empty-clause-words
returns-then-is_empty-clause-words c = no_words _ _ c.behind_blanks-text.ensures (search rules)

pub returns-clause-words : goal.returns-clause-words
returns-clause-words c = words_behind _ _ _ _ _ c.behind_blanks-text.ensures (search rules) c.word_len.ensures.value c.split_at.ensures.front c.split_at.ensures.back
