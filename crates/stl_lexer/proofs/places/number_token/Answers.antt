use Rattle.stl_lexer.proofs.FrontLemmas.{number_alone}
use Rattle.stl_lexer.proofs.places.number_token.Goals as goal

pub returns : goal.returns
returns c = rw c.better.ensures (number_alone c.args.text.now c.args.size c.longest_based_literal.result c.requires c.longest_based_literal.ensures)
