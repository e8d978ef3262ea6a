-- Which operations and operands are no op.
use Rattle.std.proofs.Common.{◌≡◌, ℕ, ◌<◌, ◌≤◌, Bool, true, false, ltb, ◌&&◌, cond, [], ◌∷◌, Some, None, refl, ap, ◌∙◌, arith}
use Rattle.std.proofs.lemmas.Bool.Decides.{nat_tests}
use Rattle.plc_base.specs.declared.places.Width.{Width}
use Rattle.flat_code.proofs.CodeLemmas.{operation_again}
use Rattle.flat_code.specs.Forms.{payload_fits, passed_coding}
use Rattle.flat_code.specs.Kinds.{jump_number}
use Rattle.flat_code.specs.OpCodes.{op_code_of}
use Rattle.flat_code.specs.Ops.{is_instruction, is_op, op_of}
use Rattle.flat_code.specs.Table.{admits, forms_of}
use Rattle.flat_code.specs.declared.kinds.JumpOperation.{JumpOperation}
use Rattle.flat_code.specs.declared.kinds.JumpOperation.TheVariants as jump
use Rattle.flat_code.specs.declared.operands.Operand.{Operand}
use Rattle.flat_code.specs.declared.operands.Operand.TheVariants as operand
use Rattle.flat_code.specs.declared.operands.Passed.{Passed}
use Rattle.flat_code.specs.declared.operands.Passed.TheVariants as passed
use Rattle.flat_code.specs.declared.operations.Operation.{Operation}
use Rattle.flat_code.specs.declared.operations.Operation.TheVariants as operation
use Rattle.stl_codegen.specs.CompiledBlock.{operand_with_target}
use Rattle.stl_codegen.specs.EmittedOps.{jump_op, ops_of}
use Rattle.stl_codegen.specs.Fitting.{HasNoOp, IsNoOperand, IsStill}
use Rattle.stl_codegen.specs.Instruction.{jump_instr}

and_false : (a : Bool) → (a && false) ≡ false
and_false true = refl
and_false false = refl

and_front : (a b c : Bool) → (b && c) ≡ false → ((a && b) && c) ≡ false
and_front true b c h = h
and_front false b c h = refl

aimed_still : (f : ℕ → ℕ) (o : Operand) → IsStill o → operand_with_target f o ≡ o
aimed_still f (operand.Jump kind target) h = absurd h
aimed_still f operand.Nothing h = refl
aimed_still f (operand.Literal value) h = refl
aimed_still f (operand.Direct area width byte bit) h = refl
aimed_still f (operand.ByMemory area width from byte) h = refl
aimed_still f (operand.ByRegister area width register bits) h = refl
aimed_still f (operand.Parameter index width) h = refl
aimed_still f (operand.Numbered kind number) h = refl
aimed_still f (operand.NumberedBy kind from byte) h = refl
aimed_still f (operand.OfStatus condition) h = refl
aimed_still f (operand.UseDb number) h = refl
aimed_still f (operand.Pass index what) h = refl
aimed_still f (operand.Called kind number instance) h = refl
aimed_still f (operand.OpenBlock register number) h = refl
aimed_still f (operand.OpenBy register from byte) h = refl

-- an op alone that is none
alone : (code : ℕ) (last : Bool) (o : Operand) → IsStill o → is_op code o ≡ false → HasNoOp (op_of code last o ∷ [])
alone code last o still h = record {
  never = λ f. ap (λ (t : Bool). t && true) (ap (λ (x : Operand). is_op code x) (aimed_still f o still) ∙ h);
}

instruction_fails : (w : Operation) (o : Operand) → is_instruction w o ≡ false → is_op (op_code_of w) o ≡ false
unfolding is_op is_instruction forms_of
instruction_fails w o h = rw (operation_again w) (and_front (ltb (op_code_of w) 128) _ _ h)

operand_fails : (code : ℕ) (o : Operand) → payload_fits o ≡ false → is_op code o ≡ false
unfolding is_op
operand_fails code o h = ap (λ (t : Bool). ltb code 128 && admits (forms_of code) o && t) h ∙ and_false _

-- an operation that doesn't take the operand
pub not_taken : (w : Operation) (last : Bool) (o : Operand) → IsStill o → None ≡ cond (is_instruction w o) (Some (op_of (op_code_of w) last o)) None
    → HasNoOp (op_of (op_code_of w) last o ∷ [])
not_taken w last o still h = alone (op_code_of w) last o still (instruction_fails w o (fails (is_instruction w o) h))
  where
    fails : (b : Bool) → None ≡ cond b (Some (op_of (op_code_of w) last o)) None → b ≡ false
    fails true e = absurd cc
    fails false e = refl

pub no_operand : (w : Operation) (last : Bool) (o : Operand) → IsNoOperand o → HasNoOp (op_of (op_code_of w) last o ∷ [])
no_operand w last o h = alone (op_code_of w) last o h.still (operand_fails (op_code_of w) o h.never)

far : (n : ℕ) → 256 ≤ n → ltb n 256 ≡ false
far n h = grind (arith, nat_tests)

-- an index that an op has no byte for
pub far_parameter : (index : ℕ) (w : Width) → 256 ≤ index → IsNoOperand (operand.Parameter index w)
far_parameter index w h = record { still = tt; never = ap (λ (t : Bool). t && true) (far index h) }

pub far_passing : (index : ℕ) (a : Passed) → 256 ≤ index → IsNoOperand (operand.Pass index a)
far_passing index a h = record { still = tt; never = ap (λ (t : Bool). t && passed_coding.fits a) (far index h) }

pub far_passed : (index own : ℕ) (w : Width) → 256 ≤ own → IsNoOperand (operand.Pass index (passed.Parameter own w))
unfolding passed_coding
far_passed index own w h = record {
  still = tt;
  never = ap (λ (t : Bool). ltb index 256 && (t && true)) (far own h) ∙ and_false (ltb index 256);
}

-- a jump is an op, wherever it leads
kind_small : (how : JumpOperation) → jump_number how < 18
kind_small jump.Ju = omega arith
kind_small jump.Jl = omega arith
kind_small jump.Jc = omega arith
kind_small jump.Jcn = omega arith
kind_small jump.Jcb = omega arith
kind_small jump.Jnb = omega arith
kind_small jump.Jbi = omega arith
kind_small jump.Jnbi = omega arith
kind_small jump.Jo = omega arith
kind_small jump.Jos = omega arith
kind_small jump.Jz = omega arith
kind_small jump.Jn = omega arith
kind_small jump.Jp = omega arith
kind_small jump.Jm = omega arith
kind_small jump.Jpz = omega arith
kind_small jump.Jmz = omega arith
kind_small jump.Juo = omega arith
kind_small jump.Loop = omega arith

jump_taken : (kind target : ℕ) → kind < 18 → target < 4294967296 → is_instruction operation.Jump (operand.Jump kind target) ≡ true
unfolding is_instruction admits
jump_taken kind target k t = grind (arith, nat_tests)

pub jumps : (how : JumpOperation) (target : ℕ) → target < 4294967296 → is_instruction operation.Jump (operand.Jump (jump_number how) target) ≡ true
jumps how target t = jump_taken (jump_number how) target (kind_small how) t

pub jump_ops : (how : JumpOperation) (n target : ℕ) → ops_of (jump_instr how n target) ≡ jump_op how target ∷ []
unfolding ops_of
jump_ops jump.Ju n target = refl
jump_ops jump.Jl n target = refl
jump_ops jump.Jc n target = refl
jump_ops jump.Jcn n target = refl
jump_ops jump.Jcb n target = refl
jump_ops jump.Jnb n target = refl
jump_ops jump.Jbi n target = refl
jump_ops jump.Jnbi n target = refl
jump_ops jump.Jo n target = refl
jump_ops jump.Jos n target = refl
jump_ops jump.Jz n target = refl
jump_ops jump.Jn n target = refl
jump_ops jump.Jp n target = refl
jump_ops jump.Jm n target = refl
jump_ops jump.Jpz n target = refl
jump_ops jump.Jmz n target = refl
jump_ops jump.Juo n target = refl
jump_ops jump.Loop n target = refl
