use Rattle.std.proofs.Common.{sym}
use Rattle.stl_lexer.proofs.PlainLemmas.{none_foreign}
use Rattle.stl_lexer.proofs.rules.foreign_byte.Goals as goal

pub returns-then-is_plain-clause-value : goal.returns-then-is_plain-clause-value
returns-then-is_plain-clause-value c = sym (none_foreign c.args.token.now ((rw c.if-is_plain.true at c.is_plain.ensures) c.args.token.now c.requires.0 c.requires.1))
