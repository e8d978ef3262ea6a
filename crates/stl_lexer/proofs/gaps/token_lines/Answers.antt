use Rattle.std.proofs.Common.{sym}
use Rattle.stl_lexer.proofs.PlainLemmas.{no_lines}
use Rattle.stl_lexer.proofs.gaps.token_lines.Goals as goal

pub returns-then-is_plain : goal.returns-then-is_plain
returns-then-is_plain c = sym (no_lines c.args.token.now ((rw c.if-is_plain.true at c.is_plain.ensures) c.args.token.now c.requires.form.0 c.requires.form.1))
