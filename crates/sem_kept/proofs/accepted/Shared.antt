-- What several parts need: counts of statements, the forms of instructions, and what the rules leave of
-- an operand.
use Rattle.std.proofs.Common.{◌≡◌, ℕ, suc, ◌+◌, Bool, true, false, cond, not, List, [], ◌∷◌, length, Option, Some, None, refl, sym, ap, ◌∙◌, arith}
use Rattle.std.specs.Prelude.{if◌then◌else◌}
use Rattle.std.specs.List.{count_by}
use Rattle.std.proofs.lemmas.List.Sums.{sum_by-cons}
use Rattle.plc_base.specs.Kinds.{is_callable, is_function_block}
use Rattle.plc_base.specs.declared.blocks.BlockId.{BlockId}
use Rattle.plc_base.specs.declared.blocks.BlockKind.{BlockKind}
use Rattle.plc_base.specs.declared.blocks.BlockKind.TheVariants as kinds
use Rattle.flat_code.specs.declared.kinds.JumpOperation.{JumpOperation}
use Rattle.flat_code.specs.declared.operations.CallOperation.{CallOperation}
use Rattle.stl_ast.specs.Statements.{is_empty_statement}
use Rattle.stl_ast.specs.declared.literals.Literal.{Literal}
use Rattle.stl_ast.specs.declared.mnemonics.Mnemonic.{Mnemonic}
use Rattle.stl_ast.specs.declared.mnemonics.Mnemonic.TheVariants as code
use Rattle.stl_ast.specs.declared.operands.Operand.{Operand}
use Rattle.stl_ast.specs.declared.operands.Operand.TheVariants as operand
use Rattle.stl_ast.specs.declared.statements.Statement.{Statement}
use Rattle.stl_types.specs.Constants.{takes_constant}
use Rattle.stl_types.specs.Context.{Context}
use Rattle.stl_types.specs.OperandRules.{operand_rule_of}
use Rattle.stl_types.specs.Kinds.{is_operand_of_call}
use Rattle.stl_types.specs.Operands.{rule_of_operand, rule_of_resolved_operand, rule_of_resolution, takes_operand}
use Rattle.stl_types.specs.Resolution.{resolution_of}
use Rattle.stl_types.specs.declared.operand_rules.OperandRule.{OperandRule}
use Rattle.stl_types.specs.declared.operand_rules.OperandRule.TheVariants as operand_rules
use Rattle.stl_types.specs.declared.resolved_operands.Resolution.{Resolution}
use Rattle.stl_types.specs.declared.resolved_operands.Resolution.TheVariants.{Resolved}
use Rattle.stl_types.specs.declared.resolved_operands.ResolvedOperand.{ResolvedOperand}
use Rattle.stl_types.specs.declared.resolved_operands.ResolvedOperand.TheVariants as resolved
use Rattle.stl_codegen.specs.GeneratedProgram.{instructions_from}
use Rattle.stl_codegen.specs.Instruction.{instruction}
use Rattle.stl_codegen.specs.Operations.{call_operation_of, jump_operation_of}
use Rattle.sem_kept.proofs.accepted.OperandsOperations.{taken_by_rule}

-- ---- statements

-- as many as aren't empty
pub stated_count : (c : Context) (body : List Statement) (n : ℕ) (ss : List Statement)
    → length (instructions_from c body n ss) ≡ count_by (λ s. not (is_empty_statement s.code)) ss
stated_count c body n [] = refl
stated_count c body n (s ∷ ss) =
    by (is_empty_statement s.code) (stated_count c body n ss) (stated_count c body (suc n) ss)
    ∙ sym (sum_by-cons (λ (s : Statement). cond (not (is_empty_statement s.code)) 1 0) s ss)
  where
    by : (empty : Bool)
        → length (instructions_from c body n ss) ≡ count_by (λ s. not (is_empty_statement s.code)) ss
        → length (instructions_from c body (suc n) ss) ≡ count_by (λ s. not (is_empty_statement s.code)) ss
        → length (if empty then instructions_from c body n ss
        else record { instr = instruction c body n s; line = s.line } ∷ instructions_from c body (suc n) ss)
        ≡ cond (not empty) 1 0 + count_by (λ s. not (is_empty_statement s.code)) ss
    by true same next = omega (arith, same)
    by false same next = omega (arith, next)

-- ---- the forms of instructions

pub jump_form : (m : Mnemonic) (how : JumpOperation) → jump_operation_of m ≡ Some how → operand_rule_of m ≡ operand_rules.Jumps
unfolding operand_rule_of
jump_form code.Ju how h = refl
jump_form code.Jl how h = refl
jump_form code.Jc how h = refl
jump_form code.Jcn how h = refl
jump_form code.Jcb how h = refl
jump_form code.Jnb how h = refl
jump_form code.Jbi how h = refl
jump_form code.Jnbi how h = refl
jump_form code.Jo how h = refl
jump_form code.Jos how h = refl
jump_form code.Jz how h = refl
jump_form code.Jn how h = refl
jump_form code.Jp how h = refl
jump_form code.Jm how h = refl
jump_form code.Jpz how h = refl
jump_form code.Jmz how h = refl
jump_form code.Juo how h = refl
jump_form code.Loop how h = refl
jump_form _ how h = absurd cc

pub call_form : (m : Mnemonic) (how : CallOperation) → call_operation_of m ≡ Some how → operand_rule_of m ≡ operand_rules.Calls
unfolding operand_rule_of
call_form code.Call how h = refl
call_form code.Uc how h = refl
call_form code.Cc how h = refl
call_form _ how h = absurd cc

-- ---- what the rules of operands leave

abbrev allowed_if : Bool → Option ℕ
allowed_if b = if b then None else Some 25

pub rule_there : (c : Context) (f : OperandRule) (o : Operand) (v : ResolvedOperand)
    → ((value : Literal) → takes_constant f value ≡ false) → rule_of_operand c f o ≡ None
    → resolution_of c o ≡ Resolved v → rule_of_resolved_operand f v ≡ None
rule_there c f (operand.Constant value) v never h e = by (takes_constant f value) (never value) h
  where
    by : (b : Bool) → b ≡ false → allowed_if b ≡ None → rule_of_resolved_operand f v ≡ None
    by true e h = absurd cc
    by false e h = absurd cc
rule_there c f _ v never h e = sym (ap (λ (s : Resolution). rule_of_resolution f s) e) ∙ h

pub no_jump_constant : (value : Literal) → takes_constant operand_rules.Jumps value ≡ false
unfolding takes_constant
no_jump_constant value = refl

pub no_call_constant : (value : Literal) → takes_constant operand_rules.Calls value ≡ false
unfolding takes_constant
no_call_constant value = refl

-- what is called can be
pub calls_called : (v : ResolvedOperand) → rule_of_resolved_operand operand_rules.Calls v ≡ None → is_operand_of_call v ≡ true
unfolding takes_operand
calls_called v e = (taken_by_rule operand_rules.Calls v e).taken

pub callable_by : (id : BlockId) (instance : Option ℕ) → is_operand_of_call (resolved.Called id instance) ≡ true
    → is_callable id.kind ≡ true
callable_by id None e = e
callable_by id (Some n) e = by id.kind e
  where
    by : (k : BlockKind) → is_function_block k ≡ true → is_callable k ≡ true
    by kinds.Fb e = refl
    by kinds.Ob e = absurd cc
    by kinds.Fc e = absurd cc
    by kinds.Db e = absurd cc
    by kinds.Sfc e = absurd cc
    by kinds.Udt e = absurd cc

pub rule_callable : (id : BlockId) (instance : Option ℕ)
    → rule_of_resolved_operand operand_rules.Calls (resolved.Called id instance) ≡ None → is_callable id.kind ≡ true
rule_callable id instance e = callable_by id instance (calls_called (resolved.Called id instance) e)
