use Rattle.std.proofs.Common.{◌≡◌, ℕ, ◌+◌, ◌<◌, true, false, ◌&&◌, List, length, drop, drop-cons, add-one, refl, sym, ap, ◌∙◌}
use Rattle.flat_code.specs.declared.image_fields.ParameterRecord.{ParameterRecord}
use Rattle.flat_code.specs.Ops.{OpData}
use Rattle.flat_code.specs.Blocks.{is_passed, are_all_passed}
use Rattle.image_file.proofs.calls.are_passed.Goals as goal

none : ParameterRecord
none = record { section = 0; width = 0; byte = 0; bit = 0 }

passed_next : (ps : List ParameterRecord) (ops : List OpData) (i : ℕ) → i < length ps → are_all_passed i (drop i ps) ops ≡ (is_passed i ops && are_all_passed (i + 1) (drop (i + 1) ps) ops)
passed_next ps ops i lt = rw add-one (ap (λ (z : List ParameterRecord). are_all_passed i z ops) (drop-cons ps i none lt))

pub returns-then-not-is_passed : goal.returns-then-not-is_passed
returns-then-not-is_passed c =
    let no : is_passed c.loop-i.i c.args.before.now ≡ false = sym c.is_passed.ensures ∙ c.if-not-is_passed.true in
    sym (sym c.loop-i.invariant ∙ passed_next c.args.params.now c.args.before.now c.loop-i.i c.loop-i-test.true ∙ rw no refl)

pub loop-i-preserved : goal.loop-i-preserved
loop-i-preserved c =
    let there : is_passed c.loop-i.i c.args.before.now ≡ true = sym c.is_passed.ensures ∙ c.if-not-is_passed.false in
    sym (passed_next c.args.params.now c.args.before.now c.loop-i.i c.loop-i-test.true ∙ rw there refl) ∙ c.loop-i.invariant
