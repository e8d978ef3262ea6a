-- The jumps of a block of a source lead to its statements.
use Rattle.std.proofs.Common.{◌≡◌, ℕ, suc, ◌+◌, ◌<◌, ◌≤◌, Bool, true, false, List, [], ◌∷◌, ◌++◌, length, length-append, Option, Some, None, if◌then◌else◌, refl, arith}
use Rattle.std.specs.Prelude.{◌==◌}
use Rattle.std.specs.List.{AllByRecursion}
use Rattle.std.proofs.lemmas.Bool.Decides.{nat_tests}
use Rattle.plc_base.proofs.ListLemmas.{all_append}
use Rattle.plc_base.specs.declared.places.Area.{Area}
use Rattle.flat_code.specs.Instr.{Instr}
use Rattle.flat_code.specs.declared.kinds.JumpOperation.{JumpOperation}
use Rattle.flat_code.specs.declared.kinds.JumpOperation.TheVariants as jump
use Rattle.flat_code.specs.declared.operations.CallOperation.{CallOperation}
use Rattle.flat_code.specs.declared.operations.EndOperation.{EndOperation}
use Rattle.stl_ast.specs.Statements.{is_empty_statement}
use Rattle.stl_ast.specs.declared.operands.Numbered.{Numbered}
use Rattle.stl_ast.specs.declared.operands.Numbered.TheVariants as numbered
use Rattle.stl_ast.specs.declared.operands.Operand.{Operand}
use Rattle.stl_ast.specs.declared.operands.Operand.TheVariants as operand
use Rattle.stl_ast.specs.declared.statements.Statement.{Statement}
use Rattle.stl_types.specs.Context.{Context}
use Rattle.stl_types.specs.Lists.{has_label}
use Rattle.stl_types.specs.ResolvedStatement.{resolved_operand}
use Rattle.stl_types.specs.declared.resolved_operands.Register.{Register}
use Rattle.stl_types.specs.declared.resolved_operands.Register.TheVariants as register
use Rattle.stl_types.specs.declared.resolved_operands.ResolvedOperand.{ResolvedOperand}
use Rattle.stl_types.specs.declared.resolved_operands.ResolvedOperand.TheVariants as resolved
use Rattle.stl_codegen.specs.Bodies.{count_of_statements}
use Rattle.stl_codegen.specs.GeneratedProgram.{return_statement, instructions_from, statements_of}
use Rattle.stl_codegen.specs.Instruction.{call_instr, count_of_statement, end_instr, instr_by, instruction, jump_instr, resolved_instr, target_in, target_of, operand_instr}
use Rattle.stl_codegen.specs.Operands.{numbered_operand, flat_operand_of, register_operand}
use Rattle.stl_codegen.specs.Operations.{call_operation_of, end_operation_of, jump_operation_of}
use Rattle.listing_laws.specs.LabelRules.{AreJumpsWithin, LeadsWithin}
use Rattle.listing_laws.specs.Statements.{is_jump_to, jumps_to}

-- ---- how many statements there are

pub target_low : (name : List ℕ) (body : List Statement) → target_in name body ≤ count_of_statements body
unfolding target_in
target_low name [] = omega arith
target_low name (s ∷ ss) = by (has_label name s.label) (count_of_statement s) (target_in name ss) (count_of_statements ss) (target_low name ss)
  where
    by : (b : Bool) (x y z : ℕ) → y ≤ z → (if b then 0 else x + y) ≤ x + z
    by true x y z h = omega arith
    by false x y z h = omega (arith, h)

aim_low : (body : List Statement) (o : Operand) → target_of body o ≤ count_of_statements body
aim_low body (operand.Label name) = target_low name body
aim_low body operand.Nothing = omega arith
aim_low body _ = omega arith

pub stated_count : (c : Context) (body : List Statement) (n : ℕ) (ss : List Statement) → length (instructions_from c body n ss) ≡ count_of_statements ss
stated_count c body n [] = refl
stated_count c body n (s ∷ ss) = by (is_empty_statement s.code) (stated_count c body n ss) (stated_count c body (suc n) ss)
  where
    next : (m : ℕ) → m + 1 ≡ 1 + m
    next m = omega arith

    by : (b : Bool) → length (instructions_from c body n ss) ≡ count_of_statements ss → length (instructions_from c body (suc n) ss) ≡ count_of_statements ss
        → length (if b then instructions_from c body n ss else record { instr = instruction c body n s; line = s.line } ∷ instructions_from c body (suc n) ss) ≡ (if b then 0 else 1) + count_of_statements ss
    by true here more = omega (arith, here)
    by false here more = omega (arith, more)

-- ---- where an instruction leads

register_stays : (which : Register) (n : ℕ) → is_jump_to n (register_operand which) ≡ false
register_stays register.Dblg n = refl
register_stays register.Dbno n = refl
register_stays register.Dilg n = refl
register_stays register.Dino n = refl
register_stays _ n = refl

number_stays : (what : Numbered) (from : Area) (byte n : ℕ) → is_jump_to n (numbered_operand what from byte) ≡ false
number_stays numbered.Timer from byte n = refl
number_stays numbered.Counter from byte n = refl
number_stays numbered.Db from byte n = refl
number_stays numbered.Di from byte n = refl

operand_stays : (o : Operand) (v : ResolvedOperand) (n : ℕ) → is_jump_to n (flat_operand_of o v) ≡ false
unfolding flat_operand_of
operand_stays o (resolved.Register which) n = register_stays which n
operand_stays o (resolved.NumberBy what from byte) n = number_stays what from byte n
operand_stays o _ n = refl

abbrev pub Stays : Instr → Type 0
Stays i = (n : ℕ) → jumps_to n i ≡ false

end_stays : (s : Statement) (v : ResolvedOperand) (how : Option EndOperation) → Stays (end_instr s v how)
end_stays s v None n = operand_stays s.operand v n
end_stays s v (Some how) n = refl

call_stays : (c : Context) (s : Statement) (how : CallOperation) (v : ResolvedOperand) → Stays (call_instr c s how v)
call_stays c s how (resolved.Called id instance) n = refl
call_stays c s how _ n = refl

view_stays : (c : Context) (s : Statement) (v : ResolvedOperand) (how : Option CallOperation) → Stays (operand_instr c s v how)
view_stays c s v None n = end_stays s v (end_operation_of s.code) n
view_stays c s v (Some how) n = call_stays c s how v n

pub resolved_stays : (c : Context) (s : Statement) (v : Option ResolvedOperand) → Stays (resolved_instr c s v)
resolved_stays c s None n = refl
resolved_stays c s (Some v) n = view_stays c s v (call_operation_of s.code) n

within : (count : ℕ) (i : Instr) → Stays i → LeadsWithin count i
within count i h n e = let no = h n in absurd cc

aimed_at : (n m : ℕ) → (m == n) ≡ true → m ≡ n
aimed_at n m e = grind (arith, nat_tests)

jump_within : (count : ℕ) (how : JumpOperation) (n target : ℕ) → target < count → LeadsWithin count (jump_instr how n target)
jump_within count jump.Jl n target h k e = let same = aimed_at k target e in omega (arith, same, h)
jump_within count jump.Ju n target h k e = let same = aimed_at k target e in omega (arith, same, h)
jump_within count _ n target h k e = let same = aimed_at k target e in omega (arith, same, h)

instr_within : (c : Context) (body : List Statement) (count n : ℕ) (s : Statement) (how : Option JumpOperation) → count_of_statements body < count → LeadsWithin count (instr_by c body n s how)
instr_within c body count n s None h = within count (resolved_instr c s (resolved_operand c s)) (resolved_stays c s (resolved_operand c s))
instr_within c body count n s (Some how) h = let low = aim_low body s.operand in jump_within count how n (target_of body s.operand) (omega (arith, low, h))

instruction_within : (c : Context) (body : List Statement) (count n : ℕ) (s : Statement) → count_of_statements body < count → LeadsWithin count (instruction c body n s)
unfolding instruction
instruction_within c body count n s h = instr_within c body count n s (jump_operation_of s.code) h

stated_within : (c : Context) (body : List Statement) (count n : ℕ) (ss : List Statement) → count_of_statements body < count → AllByRecursion (λ s. LeadsWithin count s.instr) (instructions_from c body n ss)
stated_within c body count n [] h = tt
stated_within c body count n (s ∷ ss) h = by (is_empty_statement s.code) (stated_within c body count n ss h) (stated_within c body count (suc n) ss h)
  where
    by : (b : Bool) → AllByRecursion (λ x. LeadsWithin count x.instr) (instructions_from c body n ss) → AllByRecursion (λ x. LeadsWithin count x.instr) (instructions_from c body (suc n) ss)
        → AllByRecursion (λ x. LeadsWithin count x.instr) (if b then instructions_from c body n ss else record { instr = instruction c body n s; line = s.line } ∷ instructions_from c body (suc n) ss)
    by true here more = here
    by false here more = (instruction_within c body count n s h, more)

pub jumps_within : AreJumpsWithin
unfolding statements_of
jumps_within c b =
    let size = stated_count c b.body 0 b.body in
    let all = length-append (instructions_from c b.body 0 b.body) (return_statement b ∷ []) in
    let count : ℕ = length (instructions_from c b.body 0 b.body ++ return_statement b ∷ []) in
    let more : count_of_statements b.body < count = omega (arith, size, all) in
    all_append (λ s. LeadsWithin count s.instr) (instructions_from c b.body 0 b.body) (return_statement b ∷ []) (stated_within c b.body count 0 b.body more) (within count (return_statement b).instr (λ n. refl), tt)
