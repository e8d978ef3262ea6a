use Rattle.std.proofs.Common.{arith, sym}
use Rattle.flat_code.proofs.UncheckedLemmas.{is_first, operand_there, too_short}
use Rattle.flat_code.proofs.unchecked_decoding.first_part.Goals as goal

pub unreachable-requires : goal.unreachable-requires
unreachable-requires c = too_short c.args.bytes.now c.in_default.len_below c.requires

pub known_operand_of_part-operand-requires : goal.known_operand_of_part-operand-requires
known_operand_of_part-operand-requires c = operand_there c.args.bytes.now c.requires

pub invariant_of-op : goal.invariant_of-op
invariant_of-op c = (is_first c.args.bytes.now _ _ (λ i. omega (arith, c.type_inv.bytes i)) c.requires c.known_operand_of_part-operand.ensures.read c.known_operand_of_part-operand.ensures.size).op

pub returns : goal.returns
returns c = sym (is_first c.args.bytes.now _ _ (λ i. omega (arith, c.type_inv.bytes i)) c.requires c.known_operand_of_part-operand.ensures.read c.known_operand_of_part-operand.ensures.size).is
