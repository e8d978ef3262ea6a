use Rattle.std.proofs.Common.{sym, ◌∙◌}
use Rattle.std.specs.Cmp.Lexicographic.{same_text}
use Rattle.block_layout.proofs.measures.are_same.Goals as goal

pub returns : goal.returns
returns c = λ yes. same_text c.args.given.now c.args.before.now (sym yes ∙ c.eq.ensures)
