-- What an instruction takes.
use Rattle.std.proofs.Common.{◌≡◌, ℕ, Bool, true, false, Option, Some, None, if◌then◌else◌, refl, ap, ◌∙◌}
use Rattle.std.specs.Prelude.{not, ◌&&◌}
use Rattle.stl_ast.specs.declared.mnemonics.Mnemonic.{Mnemonic}
use Rattle.stl_ast.specs.declared.mnemonics.Mnemonic.TheVariants as code
use Rattle.stl_ast.specs.declared.operands.Operand.{Operand}
use Rattle.stl_types.specs.Context.{Context}
use Rattle.stl_types.specs.OperandRules.{operand_rule_of}
use Rattle.stl_types.specs.Kinds.{is_composite, width_in}
use Rattle.stl_types.specs.Operands.{composite_rule, has_width, is_input, is_on_wrong_side, rule_of_operand, rule_of_resolved_operand, rule_of_resolution, takes_operand, rule_writes_operand}
use Rattle.stl_types.specs.Resolution.{resolution_of}
use Rattle.stl_types.specs.declared.operand_rules.OperandRule.{OperandRule}
use Rattle.stl_types.specs.declared.resolved_operands.Resolution.TheVariants.{Resolved}
use Rattle.stl_types.specs.declared.resolved_operands.ResolvedOperand.{ResolvedOperand}
use Rattle.stl_types.specs.declared.resolved_operands.ResolvedOperand.TheVariants as resolved
use Rattle.stl_codegen.specs.Operands.{flat_operand_of}
use Rattle.stl_codegen.specs.Operations.{operation_for}
use Rattle.listing_laws.specs.Operands.{IsActedAgain}

abbrev rule_by : (composite : Bool) → ℕ → (taken fits wrong written : Bool) → Option ℕ
rule_by composite n taken fits wrong written =
    if composite then Some n
    else if not taken then Some 25
    else if not fits then Some 24
    else if wrong then Some 25
    else if written then Some 39
    else None

pub record IsTakenBy (composite taken fits wrong written : Bool) : Type 0 where
  pub elementary : composite ≡ false
  pub accepted : taken ≡ true
  pub wide : fits ≡ true
  pub side : wrong ≡ false
  pub free : written ≡ false

taken_by : (composite taken fits wrong written : Bool) (n : ℕ) → rule_by composite n taken fits wrong written ≡ None → IsTakenBy composite taken fits wrong written
taken_by true b c d e n h = absurd cc
taken_by false false c d e n h = absurd cc
taken_by false true false d e n h = absurd cc
taken_by false true true true e n h = absurd cc
taken_by false true true false true n h = absurd cc
taken_by false true true false false n h = record { elementary = refl; accepted = refl; wide = refl; side = refl; free = refl }

-- no rule is broken
abbrev pub IsTaken : OperandRule → ResolvedOperand → Type 0
IsTaken f v = IsTakenBy (is_composite v) (takes_operand f v) (has_width f (width_in v)) (is_on_wrong_side f v) (rule_writes_operand f && is_input v)

pub is_taken : (f : OperandRule) (v : ResolvedOperand) → rule_of_resolved_operand f v ≡ None → IsTaken f v
unfolding rule_of_resolved_operand
is_taken f v h = taken_by (is_composite v) (takes_operand f v) (has_width f (width_in v)) (is_on_wrong_side f v) (rule_writes_operand f && is_input v) (composite_rule f v) h

by_parts : (composite taken fits wrong written : Bool) (n : ℕ) → composite ≡ false → taken ≡ true → fits ≡ true → wrong ≡ false → written ≡ false → rule_by composite n taken fits wrong written ≡ None
by_parts composite taken fits wrong written n e f g h k = rw (e, f, g, h, k) refl

pub none_broken : (f : OperandRule) (v : ResolvedOperand) → is_composite v ≡ false → takes_operand f v ≡ true → has_width f (width_in v) ≡ true → is_on_wrong_side f v ≡ false → (rule_writes_operand f && is_input v) ≡ false → rule_of_resolved_operand f v ≡ None
unfolding rule_of_resolved_operand
none_broken f v e g h k l = by_parts (is_composite v) (takes_operand f v) (has_width f (width_in v)) (is_on_wrong_side f v) (rule_writes_operand f && is_input v) (composite_rule f v) e g h k l

pub taken_view : (f : OperandRule) (v : ResolvedOperand) → rule_of_resolved_operand f v ≡ None → takes_operand f v ≡ true
taken_view f v h = (is_taken f v h).accepted

-- ---- `+` takes constants alone, so no other operation goes by the operand of the source

pub no_adding : (v : ResolvedOperand) → rule_of_resolved_operand (operand_rule_of code.Add) v ≡ None → ⊥
unfolding operand_rule_of takes_operand
no_adding v h = never (taken_view (operand_rule_of code.Add) v h)
  where
    never : false ≡ true → ⊥
    never e = absurd cc

pub same_operation : (m : Mnemonic) (o again : Operand) (v : ResolvedOperand) → rule_of_resolved_operand (operand_rule_of m) v ≡ None → operation_for m again v ≡ operation_for m o v
unfolding operation_for
same_operation code.Add o again v h = absurd (no_adding v h)
same_operation _ o again v h = refl

-- what isn't a constant
abbrev pub IsOther : ResolvedOperand → Type 0
IsOther resolved.Constant = ⊥
IsOther _ = Unit {0}

same_operand : (o again : Operand) (v : ResolvedOperand) → IsOther v → flat_operand_of again v ≡ flat_operand_of o v
unfolding flat_operand_of
same_operand o again resolved.Constant h = absurd h
same_operand o again _ h = refl

-- where a listing's operand names the very same
pub operand_unchanged : (c : Context) (m : Mnemonic) (o again : Operand) (v : ResolvedOperand) → IsOther v → rule_of_resolved_operand (operand_rule_of m) v ≡ None
    → rule_of_operand c (operand_rule_of m) again ≡ rule_of_resolution (operand_rule_of m) (resolution_of c again) → resolution_of c again ≡ Resolved v → IsActedAgain c m o again v
operand_unchanged c m o again v other h e sees = record {
  found = v;
  resolves = sees;
  right = e ∙ ap (rule_of_resolution (operand_rule_of m)) sees ∙ h;
  opened = refl;
  operation = same_operation m o again v h;
  operand = same_operand o again v other;
}
