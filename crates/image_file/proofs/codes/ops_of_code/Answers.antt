use Rattle.std.proofs.Common.{arith, sym}
use Rattle.std.proofs.lemmas.Bool.{ne_eqb, eq-eqb}
use Rattle.image_file.proofs.CodeLemmas.{read_goes, read_65th, read_bad}
use Rattle.image_file.proofs.codes.ops_of_code.Goals as goal

pub loop-found-preserved : goal.loop-found-preserved
loop-found-preserved c =
    let e = c.in-Ok.ensures in
    record {
      read = rw c.in_ok-push.ensures.items (read_goes c.args.code.now c.loop-found.ops.items c.loop-found.at c.in-Ok.found.1 c.loop-found.last c.loop-found.count c.count_behind_op-count.result c.loop-found.ended c.is_block_end-ended.result c.in-Ok.found.0 (λ i. omega (arith, c.type_inv.code i)) e.0 e.1 e.2 (ne_eqb _ _ c.if-count-eq64.false) c.count_behind_op-count.ensures c.is_block_end-ended.ensures c.loop-found.invariant.read);
      before = omega (arith, e.1);
      few = grind (arith, c.count_behind_op-count.ensures, c.loop-found.invariant.few, c.if-count-eq64.false);
    }

pub returns-then-count-eq64-clause-fault : goal.returns-then-count-eq64-clause-fault
returns-then-count-eq64-clause-fault c =
    let e = c.in-Ok.ensures in
    sym (read_65th c.args.code.now c.loop-found.ops.items c.loop-found.at c.in-Ok.found.1 c.loop-found.last c.loop-found.count c.loop-found.ended c.in-Ok.found.0 (λ i. omega (arith, c.type_inv.code i)) e.0 e.1 e.2 (eq-eqb _ _ c.if-count-eq64.true) c.loop-found.invariant.read)

pub returns-then-at-code-clause-fault : goal.returns-then-at-code-clause-fault
returns-then-at-code-clause-fault c = read_bad c.args.code.now c.loop-found.ops.items c.loop-found.at c.loop-found.last c.loop-found.count c.loop-found.ended c.in_default.ensures c.if-at-code.true c.loop-found.invariant.read
