use Rattle.stl_lexer.proofs.FrontLemmas.{best_found}
use Rattle.stl_lexer.proofs.places.longest_of_all.Goals as goal

pub returns : goal.returns
returns c = rw (c.better.ensures, c.better-attribute.ensures, c.better-sign_word.ensures, c.better-mark.ensures, c.better-time.ensures, c.better-literal.ensures, c.better-based.ensures, c.better-characters.ensures, c.better-local.ensures, c.better-quoted.ensures, c.better-number.ensures, c.better-word.ensures)
    (best_found c.args.text.now c.longest_word.result c.longest_number.result c.longest_quoted_name.result c.longest_local.result c.longest_characters.result c.longest_based_literal.result c.longest_number_literal.result c.longest_time_literal.result c.longest_mark.result c.longest_sign_word.result c.longest_attribute.result c.longest_title.result
    c.longest_word.ensures.longest c.longest_number.ensures c.longest_quoted_name.ensures c.longest_local.ensures c.longest_characters.ensures c.longest_based_literal.ensures c.longest_number_literal.ensures c.longest_time_literal.ensures c.longest_mark.ensures c.longest_sign_word.ensures c.longest_attribute.ensures c.longest_title.ensures)
