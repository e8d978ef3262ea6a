use Rattle.stl_lexer.proofs.StandLemmas.{number_stands, word_stands}
use Rattle.stl_lexer.proofs.laws.law_of_standing.Goals as goal

pub returns-clause-words : goal.returns-clause-words
returns-clause-words c = word_stands

pub returns-clause-numbers : goal.returns-clause-numbers
returns-clause-numbers c = number_stands
