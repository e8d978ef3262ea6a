use Rattle.s7_cli.proofs.LimitLemmas.{commands_keep_limits}
use Rattle.s7_cli.proofs.PlainLemmas.{reads_german_anywhere, reads_plain_words, reads_steps_anywhere, reads_symbols_anywhere, reads_words_behind_dashes, refuses_no_value}
use Rattle.s7_cli.proofs.words.law_of_words.Goals as goal

pub returns-clause-plain : goal.returns-clause-plain
returns-clause-plain c = reads_plain_words

pub returns-clause-behind_dashes : goal.returns-clause-behind_dashes
returns-clause-behind_dashes c = reads_words_behind_dashes

pub returns-clause-symbols : goal.returns-clause-symbols
returns-clause-symbols c = reads_symbols_anywhere

pub returns-clause-steps : goal.returns-clause-steps
returns-clause-steps c = reads_steps_anywhere

pub returns-clause-german : goal.returns-clause-german
returns-clause-german c = reads_german_anywhere

pub returns-clause-no_value : goal.returns-clause-no_value
returns-clause-no_value c = refuses_no_value

pub returns-clause-limits : goal.returns-clause-limits
returns-clause-limits c = commands_keep_limits
