use Rattle.std.proofs.Common.{◌∙◌, ap}
use Rattle.stl_lexer.specs.Forms.{first_letter}
use Rattle.stl_lexer.proofs.FrontLemmas.{word_alone}
use Rattle.stl_lexer.proofs.places.word_token.Goals as goal

pub returns : goal.returns
returns c = rw c.better.ensures (word_alone c.args.text.now c.args.size c.longest_title.result c.requires.word (λ e. c.if-first_letter-eq35.false (c.first_letter.ensures ∙ ap first_letter c.behind.ensures ∙ e)) c.longest_title.ensures)
