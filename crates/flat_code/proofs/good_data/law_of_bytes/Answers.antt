use Rattle.std.proofs.Common.{arith}
use Rattle.flat_code.proofs.CheckLemmas.{all_bytes}
use Rattle.flat_code.proofs.good_data.law_of_bytes.Goals as goal

pub returns : goal.returns
returns c = all_bytes c.args.bytes.now (λ i. omega (arith, c.type_inv.bytes i))
