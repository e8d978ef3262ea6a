use Rattle.std.proofs.Common.{sym, ◌∙◌}
use Rattle.std.specs.Char.{is_ascii_digit}
use Rattle.stl_lexer.proofs.RunLemmas.{run_of_rest, run_none}
use Rattle.stl_lexer.proofs.words.longest_number.Goals as goal

pub returns-in-len1-up : goal.returns-in-len1-up
returns-in-len1-up c = run_of_rest is_ascii_digit is_ascii_digit c.args.text.now c.digit_run.result c.in-len1-up.len_at_least (sym c.is_ascii_digit.ensures.value ∙ c.if-is_ascii_digit.true) c.digit_run.ensures.value

pub returns-in_default-2 : goal.returns-in_default-2
returns-in_default-2 c = run_none is_ascii_digit is_ascii_digit c.args.text.now (λ _. sym c.is_ascii_digit.ensures.value ∙ c.if-is_ascii_digit.false)
