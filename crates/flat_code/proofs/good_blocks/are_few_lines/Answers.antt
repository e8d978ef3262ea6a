use Rattle.std.proofs.Common.{arith}
use Rattle.flat_code.proofs.CheckLemmas.{lines_fit}
use Rattle.flat_code.proofs.good_blocks.are_few_lines.Goals as goal

pub returns-clause-lines : goal.returns-clause-lines
returns-clause-lines c = lines_fit c.args.lines.now 0 (λ i. omega (arith, c.type_inv.lines i))
