use Rattle.std.proofs.Common.{arith, sym, ap, ◌∙◌}
use Rattle.flat_code.specs.Ops.{op_at}
use Rattle.flat_code.proofs.UncheckedLemmas.{begins_within, ends_within, op_and_size}
use Rattle.flat_code.proofs.unchecked_decoding.decode_op_unchecked.Goals as goal

pub behind-requires : goal.behind-requires
behind-requires c = begins_within c.args.bytes.now c.args.at c.requires.known

pub overflow_add-result : goal.overflow_add-result
overflow_add-result c =
    let within = begins_within c.args.bytes.now c.args.at c.requires.known in
    let end = ends_within c.args.bytes.now c.args.at c.first_op-op.result.0 c.first_op-op.result.1 (λ i. omega (arith, c.type_inv.bytes i)) within
    (ap (λ z. op_and_size (op_at z)) (sym c.behind.ensures) ∙ sym c.first_op-op.ensures) in
    omega (arith, end, c.requires.short)
