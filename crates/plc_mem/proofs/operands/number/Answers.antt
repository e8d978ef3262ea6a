use Rattle.std.proofs.Common.{sym, ap, ◌∙◌, Some, arith, slice_get}
use Rattle.plc_mem.proofs.Numbers.{run_number, run_none}
use Rattle.plc_mem.proofs.KeptMemory.{over_fits}
use Rattle.plc_mem.proofs.operands.number.Goals as goal

pub returns-then-not-is_within-clause-value : goal.returns-then-not-is_within-clause-value
returns-then-not-is_within-clause-value c =
    sym (run_none c.args.bytes.now c.args.at c.args.bit c.args.width (sym c.is_within.ensures ∙ c.if-not-is_within.true))

pub returns-clause-value : goal.returns-clause-value
returns-clause-value c =
    ap Some c.load.ensures
    ∙ sym (run_number c.args.bytes.now c.args.at c.args.bit c.args.width (λ i. omega (arith, c.type_inv.bytes i)) (sym c.is_within.ensures ∙ c.if-not-is_within.false))

pub returns-clause-fits : goal.returns-clause-fits
returns-clause-fits c = over_fits (slice_get c.args.bytes.now) c.args.at c.args.bit c.args.width _ (returns-clause-value c)
