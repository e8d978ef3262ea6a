-- Jumps and the ends of a block do what their mnemonics say.
use Rattle.std.proofs.Common.{ℕ, zero, suc, ◌≡◌, ◌+◌, ◌-◌, ◌%◌, ◌^◌, nat_lt, Bool, true, false, List, [], ◌∷◌, slice_get, Option, Some, None, unwrap_or, if◌then◌else◌, refl, sym, ◌∙◌, ap, ap₂, arith}
use Rattle.std.proofs.lemmas.Bool.{false≢true}
use Rattle.std.proofs.lemmas.Bool.Decides.{nat_tests}
use Rattle.flat_code.specs.Instr.{Jumps}
use Rattle.flat_code.specs.declared.kinds.JumpOperation.{JumpOperation}
use Rattle.flat_code.specs.declared.kinds.JumpOperation.TheVariants as jump
use Rattle.flat_code.specs.declared.operations.EndOperation.{EndOperation}
use Rattle.flat_code.specs.declared.operations.EndOperation.TheVariants as ends
use Rattle.status_word.specs.declared.registers.Regs.{Regs}
use Rattle.stl_ast.specs.declared.mnemonics.Mnemonic.{Mnemonic}
use Rattle.stl_ast.specs.declared.mnemonics.Mnemonic.TheVariants as code
use Rattle.stl_ast.specs.declared.operands.Operand.{Operand}
use Rattle.stl_ast.specs.declared.operands.Operand.TheVariants as operand
use Rattle.stl_ast.specs.declared.statements.Statement.{Statement}
use Rattle.stl_types.specs.Lists.{has_label}
use Rattle.stl_codegen.specs.Instruction.{count_of_statement, end_instr, instr_by, instruction, jump_instr, numbers_from, resolved_instr, target_in, target_of, operand_instr}
use Rattle.stl_codegen.specs.Operations.{call_operation_of, end_operation_of, jump_operation_of}
use Rattle.machine.specs.Jumps as machine
use Rattle.machine.specs.Statement.{Went, is_return_made, instruction_step, return_made}
use Rattle.statement_laws.specs.Jumps as own
use Rattle.statement_laws.specs.Laws.{EndsAct, JumpListsAct, PlainJumpsAct, is_block_end, is_plain_jump}

-- ---- labels

spelled_same : (name : List ℕ) (label : Option (List ℕ)) → has_label name label ≡ own.is_label_spelled name label
spelled_same name None = refl
spelled_same name (Some label) = refl

label_same : (name : List ℕ) (body : List Statement) → target_in name body ≡ own.number_of_label name body
unfolding target_in
label_same name [] = refl
label_same name (s ∷ ss) =
    ap (λ b. if b then 0 else count_of_statement s + target_in name ss) (spelled_same name s.label)
    ∙ by (own.is_label_spelled name s.label) (label_same name ss)
  where
    by : (b : Bool) → target_in name ss ≡ own.number_of_label name ss
        → (if b then 0 else count_of_statement s + target_in name ss)
        ≡ own.numbered_statement_count (if b then [] else s ∷ own.before_label name ss)
    by true e = refl
    by false e = ap (λ k. count_of_statement s + k) e

target_same : (body : List Statement) (o : Operand) (name : List ℕ) → o ≡ operand.Label name
    → target_of body o ≡ own.number_of_label name body
target_same body o name e = ap (target_of body) e ∙ label_same name body

-- ---- jumps

-- a jump of the code that does what a mnemonic says
record IsSameJump (m : Mnemonic) (how : JumpOperation) : Type 0 where
  is : jump_operation_of m ≡ Some how
  goes : (n target : ℕ) → jump_instr how n target ≡ Jumps how target
  taken : (r : Regs) → machine.is_jump_taken how r ≡ own.takes_jump m r
  after : (r : Regs) → machine.regs_after_jump how r ≡ own.after_jump m r

jump_same : (m : Mnemonic) → is_plain_jump m ≡ true → (how : JumpOperation) × IsSameJump m how
unfolding machine.is_jump_taken machine.regs_after_jump own.takes_jump own.after_jump
jump_same code.Ju e =
    (jump.Ju, record { is = refl; goes = λ n target. refl; taken = λ r. refl; after = λ r. refl })
jump_same code.Jc e =
    (jump.Jc, record { is = refl; goes = λ n target. refl; taken = λ r. refl; after = λ r. refl })
jump_same code.Jcn e =
    (jump.Jcn, record { is = refl; goes = λ n target. refl; taken = λ r. refl; after = λ r. refl })
jump_same code.Jcb e =
    (jump.Jcb, record { is = refl; goes = λ n target. refl; taken = λ r. refl; after = λ r. refl })
jump_same code.Jnb e =
    (jump.Jnb, record { is = refl; goes = λ n target. refl; taken = λ r. refl; after = λ r. refl })
jump_same code.Jbi e =
    (jump.Jbi, record { is = refl; goes = λ n target. refl; taken = λ r. refl; after = λ r. refl })
jump_same code.Jnbi e =
    (jump.Jnbi, record { is = refl; goes = λ n target. refl; taken = λ r. refl; after = λ r. refl })
jump_same code.Jo e =
    (jump.Jo, record { is = refl; goes = λ n target. refl; taken = λ r. refl; after = λ r. refl })
jump_same code.Jos e =
    (jump.Jos, record { is = refl; goes = λ n target. refl; taken = λ r. refl; after = λ r. refl })
jump_same code.Jz e =
    (jump.Jz, record { is = refl; goes = λ n target. refl; taken = λ r. refl; after = λ r. refl })
jump_same code.Jn e =
    (jump.Jn, record { is = refl; goes = λ n target. refl; taken = λ r. refl; after = λ r. refl })
jump_same code.Jp e =
    (jump.Jp, record { is = refl; goes = λ n target. refl; taken = λ r. refl; after = λ r. refl })
jump_same code.Jm e =
    (jump.Jm, record { is = refl; goes = λ n target. refl; taken = λ r. refl; after = λ r. refl })
jump_same code.Jpz e =
    (jump.Jpz, record { is = refl; goes = λ n target. refl; taken = λ r. refl; after = λ r. refl })
jump_same code.Jmz e =
    (jump.Jmz, record { is = refl; goes = λ n target. refl; taken = λ r. refl; after = λ r. refl })
jump_same code.Juo e =
    (jump.Juo, record { is = refl; goes = λ n target. refl; taken = λ r. refl; after = λ r. refl })
jump_same code.Loop e =
    (jump.Loop, record { is = refl; goes = λ n target. refl; taken = λ r. refl; after = λ r. refl })
jump_same _ e = absurd (false≢true e)

pub plain_jumps_act : PlainJumpsAct
unfolding instruction
plain_jumps_act c body n s name is o program next a w =
    ap (λ i. instruction_step program i next a w)
    (ap (instr_by c body n s) same.is
    ∙ same.goes n (target_of body s.operand)
    ∙ ap (Jumps how) (target_same body s.operand name o))
    ∙ ap₂ (λ (taken : Bool) (r : Regs).
    Went (own.activation_standing_at (if taken then target else next) r a) w)
    (same.taken a.running.regs) (same.after a.running.regs)
  where
    target : ℕ
    target = own.number_of_label name body

    how : JumpOperation
    how = (jump_same s.code is).0

    same : IsSameJump s.code how
    same = (jump_same s.code is).1

-- ---- JL

one_more : (k count : ℕ) → nat_lt (suc k) (suc count) ≡ nat_lt k count
one_more k count = by (nat_lt k count) refl
  where
    by : (b : Bool) → nat_lt k count ≡ b → nat_lt (suc k) (suc count) ≡ b
    by true e = grind (arith, nat_tests)
    by false e = grind (arith, nat_tests)

numbers_same : (m count k otherwise : ℕ)
    → unwrap_or (slice_get (numbers_from m count) k) otherwise
    ≡ (if nat_lt k count then m + k else otherwise)
numbers_same m zero k otherwise =
    let none : nat_lt k zero ≡ false = grind (arith, nat_tests) in rw none refl
numbers_same m (suc count) zero otherwise =
    let first : nat_lt zero (suc count) ≡ true = grind (arith, nat_tests) in
    let same : m ≡ m + zero = omega arith in
    rw first same
numbers_same m (suc count) (suc k) otherwise =
    numbers_same (suc m) count k otherwise
    ∙ (let sum : suc m + k ≡ m + suc k = omega arith in
    ap₂ (λ (b : Bool) (z : ℕ). if b then z else otherwise) (sym (one_more k count)) sum)

pub jump_lists_act : JumpListsAct
unfolding instruction machine.list_goal
jump_lists_act c body n s name is o program next a w =
    ap (λ i. instruction_step program i next a w)
    (ap (λ m. instr_by c body n s (jump_operation_of m)) is
    ∙ ap (jump_instr jump.Jl n) (target_same body s.operand name o))
    ∙ ap (λ at. Went (own.activation_standing_at at a.running.regs a) w)
    (numbers_same (suc n) (target - suc n) (a.running.regs.a1 % 2 ^ 8) target)
  where
    target : ℕ
    target = own.number_of_label name body

-- ---- ends of a block

record SameEnd (m : Mnemonic) (how : EndOperation) : Type 0 where
  no_jump : jump_operation_of m ≡ None
  no_call : call_operation_of m ≡ None
  is : end_operation_of m ≡ Some how
  ended : (rlo : Bool) → is_return_made how rlo ≡ own.is_return_taken m rlo

end_same : (m : Mnemonic) → is_block_end m ≡ true → (how : EndOperation) × SameEnd m how
end_same code.Be e =
    (ends.Be, record { no_jump = refl; no_call = refl; is = refl; ended = λ rlo. refl })
end_same code.Bec e =
    (ends.Bec, record { no_jump = refl; no_call = refl; is = refl; ended = λ rlo. refl })
end_same code.Beu e =
    (ends.Beu, record { no_jump = refl; no_call = refl; is = refl; ended = λ rlo. refl })
end_same _ e = absurd (false≢true e)

pub ends_act : EndsAct
unfolding instruction
ends_act c body n s v is e program next a w =
    ap (λ i. instruction_step program i next a w)
    (ap (instr_by c body n s) same.no_jump ∙ ap (resolved_instr c s) e
    ∙ ap (operand_instr c s v) same.no_call ∙ ap (end_instr s v) same.is)
    ∙ ap (λ (b : Bool). if b then return_made (program.head a.running.frame.block) a w
    else Went (own.activation_standing_at next (own.with_rlo_1 a.running.regs) a) w)
    (same.ended a.running.regs.status.rlo)
  where
    how : EndOperation
    how = (end_same s.code is).0

    same : SameEnd s.code how
    same = (end_same s.code is).1
