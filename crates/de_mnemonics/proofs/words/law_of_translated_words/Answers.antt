use Rattle.de_mnemonics.proofs.WordLemmas.{instructions_come_back, operands_come_back}
use Rattle.de_mnemonics.proofs.words.law_of_translated_words.Goals as goal

pub returns : goal.returns
returns c = record { instructions = instructions_come_back; operands = operands_come_back }
