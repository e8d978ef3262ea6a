use Rattle.stl_lexer.proofs.FrontLemmas.{quoted_alone, local_alone, characters_alone, attribute_alone, mark_best}
use Rattle.stl_lexer.proofs.places.sign_token.Goals as goal

pub returns-then-first-eq34 : goal.returns-then-first-eq34
returns-then-first-eq34 c = rw c.better.ensures (quoted_alone c.args.text.now c.longest_quoted_name.result c.requires.word c.requires.number c.if-first-eq34.true c.longest_quoted_name.ensures)

pub returns-then-first-eq35 : goal.returns-then-first-eq35
returns-then-first-eq35 c = rw c.better-then-first-eq35.ensures (local_alone c.args.text.now c.longest_local.result c.requires.word c.requires.number c.if-first-eq35.true c.longest_local.ensures)

pub returns-then-first-eq39 : goal.returns-then-first-eq39
returns-then-first-eq39 c = rw c.better-then-first-eq39.ensures (characters_alone c.args.text.now c.longest_characters.result c.requires.word c.requires.number c.if-first-eq39.true c.longest_characters.ensures)

pub returns-then-first-eq123 : goal.returns-then-first-eq123
returns-then-first-eq123 c = rw c.better-then-first-eq123.ensures (attribute_alone c.args.text.now c.longest_attribute.result c.requires.word c.requires.number c.if-first-eq123.true c.longest_attribute.ensures)

pub returns : goal.returns
returns c = rw (c.better-2.ensures, c.better-mark.ensures) (mark_best c.args.text.now c.longest_mark.result c.longest_sign_word.result c.requires.word c.requires.number c.if-first-eq34.false c.if-first-eq35.false c.if-first-eq39.false c.if-first-eq123.false c.longest_mark.ensures c.longest_sign_word.ensures)
