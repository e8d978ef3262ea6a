use Rattle.std.proofs.Common.{arith}
use Rattle.s7_cli.proofs.CompileLemmas.{all_bytes}
use Rattle.s7_cli.proofs.compiling.law_of_bytes.Goals as goal

pub returns : goal.returns
returns c = all_bytes c.args.bytes.now (λ i. omega (arith, c.type_inv.bytes i))
