-- An instruction that a rule lets have an operand takes it in the code.
use Rattle.std.proofs.Common.{◌≡◌, ℕ, ◌≤◌, true, false, ltb, Option, None, arith}
use Rattle.std.proofs.lemmas.Bool.{ltb-true}
use Rattle.std.proofs.lemmas.Bool.Decides.{nat_tests}
use Rattle.plc_base.specs.declared.places.Area.{Area}
use Rattle.flat_code.proofs.OpLemmas.{instruction_is_op}
use Rattle.flat_code.specs.OpCodes.{op_code_of}
use Rattle.flat_code.specs.Ops.{is_op, is_instruction}
use Rattle.flat_code.specs.Table.{admits, forms_of_operation}
use Rattle.flat_code.specs.declared.operands.Operand.{Operand as FlatOperand}
use Rattle.flat_code.specs.declared.operations.Operation.{Operation}
use Rattle.stl_ast.specs.Statements.{is_empty_statement}
use Rattle.stl_ast.specs.declared.mnemonics.Mnemonic.{Mnemonic}
use Rattle.stl_ast.specs.declared.mnemonics.Mnemonic.TheVariants as code
use Rattle.stl_ast.specs.declared.operands.Operand.{Operand}
use Rattle.stl_types.specs.OperandRules.{operand_rule_of}
use Rattle.stl_types.specs.Operands.{takes_operand as form_takes}
use Rattle.stl_types.specs.declared.resolved_operands.ResolvedOperand.{ResolvedOperand}
use Rattle.stl_types.specs.declared.resolved_operands.ResolvedOperand.TheVariants as resolved
use Rattle.stl_codegen.specs.Operands.{flat_operand_of, pointer_bits}
use Rattle.stl_codegen.specs.Operations.{jump_operation_of, call_operation_of, end_operation_of, operation_for}

-- ---- operations and operands are ops

code_below : (w : Operation) → ltb (op_code_of w) 128 ≡ true
code_below w = grind arith

pub operation_is_op : (w : Operation) (o : FlatOperand) → is_instruction w o ≡ true → is_op (op_code_of w) o ≡ true
operation_is_op w o h = instruction_is_op w o (ltb-true (op_code_of w) 128 (code_below w)) h

-- a pointer constant takes 32 bits
pub pointer_near : (a : Option Area) (byte bit : ℕ) → byte ≤ 65535 → bit ≤ 7 → pointer_bits a byte bit ≤ 4294967295
pointer_near a byte bit k j = grind arith

-- its numbers
abbrev pub PointerFits : ResolvedOperand → Type 0
PointerFits (resolved.Pointer a byte bit) = (byte ≤ 65535) × (bit ≤ 7)
PointerFits _ = Unit {0}

-- ---- by instruction

-- an instruction that goes on takes what its form does
pub operation_is_taken : (m : Mnemonic) (o : Operand) (v : ResolvedOperand) → jump_operation_of m ≡ None → call_operation_of m ≡ None
    → end_operation_of m ≡ None → is_empty_statement m ≡ false → PointerFits v → form_takes (operand_rule_of m) v ≡ true
    → admits (forms_of_operation (operation_for m o v)) (flat_operand_of o v) ≡ true
unfolding operand_rule_of operation_for form_takes admits flat_operand_of
operation_is_taken code.Empty o v j c e n f h = absurd cc
operation_is_taken _ o v j c e n f h = grind (arith, pointer_near, nat_tests)
