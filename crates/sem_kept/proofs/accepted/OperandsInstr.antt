-- The instruction of a statement fits what surrounds its block; of a call this is a premise here.
use Rattle.std.proofs.Common.{ℕ, ◌≡◌, false, List, Option, Some, None, refl, sym, ◌∙◌, ap, subst, if◌then◌else◌}
use Rattle.std.specs.Option.{is_none}
use Rattle.plc_base.specs.declared.blocks.BlockId.{BlockId}
use Rattle.flat_code.specs.Blocks.{Environment}
use Rattle.flat_code.specs.Instr.{Calls}
use Rattle.flat_code.specs.declared.kinds.JumpOperation.{JumpOperation}
use Rattle.flat_code.specs.declared.kinds.JumpOperation.TheVariants as jump
use Rattle.flat_code.specs.declared.operations.CallOperation.{CallOperation}
use Rattle.flat_code.specs.declared.operations.EndOperation.{EndOperation}
use Rattle.stl_ast.specs.Statements.{is_call}
use Rattle.stl_ast.specs.declared.literals.Literal.{Literal}
use Rattle.stl_ast.specs.declared.mnemonics.Mnemonic.{Mnemonic}
use Rattle.stl_ast.specs.declared.mnemonics.Mnemonic.TheVariants as code
use Rattle.stl_ast.specs.declared.operands.Operand.{Operand}
use Rattle.stl_ast.specs.declared.operands.Operand.TheVariants as operand
use Rattle.stl_ast.specs.declared.statements.Statement.{Statement}
use Rattle.stl_types.specs.Context.{Context}
use Rattle.stl_types.specs.OperandRules.{operand_rule_of}
use Rattle.stl_types.specs.Operands.{rule_of_operand, rule_of_resolved_operand, rule_of_resolution, statement_rule}
use Rattle.stl_types.specs.Parameters.{callee_of}
use Rattle.stl_types.specs.ResolvedStatement.{resolved_operand, operand_if_resolved}
use Rattle.stl_types.specs.Resolution.{resolution_of}
use Rattle.stl_types.specs.declared.operand_rules.OperandRule.{OperandRule}
use Rattle.stl_types.specs.declared.resolved_operands.Resolution.{Resolution}
use Rattle.stl_types.specs.declared.resolved_operands.Resolution.TheVariants.{Resolved}
use Rattle.stl_types.specs.declared.resolved_operands.ResolvedOperand.{ResolvedOperand}
use Rattle.stl_types.specs.declared.resolved_operands.ResolvedOperand.TheVariants as resolved
use Rattle.stl_codegen.specs.EmittedOps.{op_with_end_mark}
use Rattle.stl_codegen.specs.Instruction.{call_instr, end_instr, filler_instruction, instr_by, instruction, jump_instr, passings_to, resolved_instr, target_of}
use Rattle.stl_codegen.specs.Operands.{flat_operand_of}
use Rattle.stl_codegen.specs.Operations.{call_operation_of, end_operation_of, jump_operation_of, operation_for}
use Rattle.sem_kept.specs.Operands.{InstrFits, IsOperandRightFor}
use Rattle.sem_kept.proofs.accepted.OperandsViews.{ResolvesRight}
use Rattle.sem_kept.proofs.accepted.OperandsOperations.{IsRightOperand, taken_by_rule, opened_fits, operand_fits, operation_is}

jump_fits : (a : Environment) (lens : List (ℕ × ℕ)) (how : JumpOperation) (n target : ℕ)
    → InstrFits a lens (jump_instr how n target)
jump_fits a lens jump.Jl n target = tt
jump_fits a lens _ n target = tt

filler_fits : (a : Environment) (lens : List (ℕ × ℕ)) → InstrFits a lens filler_instruction
filler_fits a lens = (refl, tt, tt)

-- what isn't called by a word isn't a call
pub no_call : (m : Mnemonic) → call_operation_of m ≡ None → is_call m ≡ false
no_call code.Call e = absurd cc
no_call code.Uc e = absurd cc
no_call code.Cc e = absurd cc
no_call _ e = refl

seen_rule : (c : Context) (f : OperandRule) (o : Operand) (v : ResolvedOperand) → resolution_of c o ≡ Resolved v
    → rule_of_resolution f (resolution_of c o) ≡ None → rule_of_resolved_operand f v ≡ None
seen_rule c f o v e h = ap (λ (s : Resolution). rule_of_resolution f s) (sym e) ∙ h

constant_seen : (c : Context) (value : Literal) → resolution_of c (operand.Constant value) ≡ Resolved resolved.Constant
unfolding resolution_of
constant_seen c value = refl

sees_same : (v w : ResolvedOperand) → Resolved v ≡ Resolved w → v ≡ w
sees_same v w e = cc

constant_right : (a : Environment) (m : Mnemonic) (value : Literal)
    → IsOperandRightFor a
    (op_with_end_mark (operation_for m (operand.Constant value) resolved.Constant) (flat_operand_of (operand.Constant value) resolved.Constant))
    (flat_operand_of (operand.Constant value) resolved.Constant)
unfolding flat_operand_of
constant_right a m value = tt

-- the operand that a statement does its instruction on
right_for : (a : Environment) (c : Context) (m : Mnemonic) (o : Operand) (v : ResolvedOperand)
    → resolution_of c o ≡ Resolved v → rule_of_operand c (operand_rule_of m) o ≡ None → IsRightOperand a v
    → IsOperandRightFor a (op_with_end_mark (operation_for m o v) (flat_operand_of o v)) (flat_operand_of o v)
right_for a c m (operand.Constant value) v e h fits =
    subst (λ (w : ResolvedOperand). IsOperandRightFor a (op_with_end_mark (operation_for m (operand.Constant value) w) (flat_operand_of (operand.Constant value) w)) (flat_operand_of (operand.Constant value) w))
    (sees_same resolved.Constant v (sym (constant_seen c value) ∙ e)) (constant_right a m value)
right_for a c m o v e h fits = operand_fits a m o v (taken_by_rule (operand_rule_of m) v (seen_rule c (operand_rule_of m) o v e h)) fits

does_fits : (a : Environment) (lens : List (ℕ × ℕ)) (c : Context) (s : Statement) (v : ResolvedOperand)
    → resolution_of c s.operand ≡ Resolved v → statement_rule c s ≡ None → IsRightOperand a v
    → (how : Option EndOperation) → InstrFits a lens (end_instr s v how)
does_fits a lens c s v e h fits None = (
  (operation_is s.code s.operand v).prepares,
  right_for a c s.code s.operand v e h fits,
  opened_fits s.operand v,
)
does_fits a lens c s v e h fits (Some how) = tt

pub resolved_is : (c : Context) (s : Statement) → statement_rule c s ≡ None
    → resolved_operand c s ≡ operand_if_resolved (resolution_of c s.operand)
unfolding resolved_operand
resolved_is c s h =
    ap (λ (o : Option ℕ). if is_none o then operand_if_resolved (resolution_of c s.operand) else None) h

-- what is owed of a call
abbrev pub CallFits : Environment → List (ℕ × ℕ) → Context → Statement → Type 0
CallFits a lens c s =
    (how : CallOperation) (id : BlockId) (instance : Option ℕ) → call_operation_of s.code ≡ Some how
    → resolution_of c s.operand ≡ Resolved (resolved.Called id instance)
    → InstrFits a lens (Calls how id instance (passings_to c s (callee_of c s.operand)))

call_view_fits : (a : Environment) (lens : List (ℕ × ℕ)) (c : Context) (s : Statement) (how : CallOperation)
    → CallFits a lens c s → call_operation_of s.code ≡ Some how
    → (v : ResolvedOperand) → resolution_of c s.operand ≡ Resolved v → InstrFits a lens (call_instr c s how v)
call_view_fits a lens c s how calls is (resolved.Called id instance) e = calls how id instance is e
call_view_fits a lens c s how calls is _ e = filler_fits a lens

pub instr_fits : (a : Environment) (lens : List (ℕ × ℕ)) (c : Context) (body : List Statement) (n : ℕ)
    (s : Statement) → statement_rule c s ≡ None
    → (is_call s.code ≡ false → ResolvesRight a (resolution_of c s.operand)) → CallFits a lens c s
    → InstrFits a lens (instruction c body n s)
unfolding instruction
instr_fits a lens c body n s taken_by_rule seen_fits calls = by (jump_operation_of s.code)
  where
    called : (how : CallOperation) → call_operation_of s.code ≡ Some how → (x : Resolution) → resolution_of c s.operand ≡ x
        → InstrFits a lens (resolved_instr c s (operand_if_resolved x))
    called how is (Resolved v) e = rw is (call_view_fits a lens c s how calls is v e)
    called how is _ e = filler_fits a lens

    whether : (o : Option CallOperation) → call_operation_of s.code ≡ o
        → InstrFits a lens (resolved_instr c s (operand_if_resolved (resolution_of c s.operand)))
    whether None is =
        let found : ResolvesRight a (resolution_of c s.operand) = seen_fits (no_call s.code is) in
        rw (found.is, is) (does_fits a lens c s found.operand found.is taken_by_rule found.fits (end_operation_of s.code))
    whether (Some how) is = called how is (resolution_of c s.operand) refl

    by : (o : Option JumpOperation) → InstrFits a lens (instr_by c body n s o)
    by (Some how) = jump_fits a lens how n (target_of body s.operand)
    by None = rw (resolved_is c s taken_by_rule) (whether (call_operation_of s.code) refl)
