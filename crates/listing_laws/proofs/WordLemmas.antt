-- The instruction words of a listing.
use Rattle.std.proofs.Common.{◌≡◌, ℕ, suc, Bool, true, false, if◌then◌else◌, List, [], ◌∷◌, Option, Some, None, refl, sym, ap, ◌∙◌}
use Rattle.std.specs.List.{AllByRecursion}
use Rattle.plc_base.proofs.ListLemmas.{all_append}
use Rattle.flat_code.specs.Instr.{Does}
use Rattle.flat_code.specs.Kinds.{jump_number}
use Rattle.flat_code.specs.OpCodes.{op_code_of}
use Rattle.flat_code.specs.declared.kinds.JumpOperation.{JumpOperation}
use Rattle.flat_code.specs.declared.kinds.JumpOperation.TheVariants as jump
use Rattle.flat_code.specs.declared.operands.Operand.{Operand as FlatOperand}
use Rattle.flat_code.specs.declared.operations.CallOperation.{CallOperation}
use Rattle.flat_code.specs.declared.operations.CallOperation.TheVariants as calls
use Rattle.flat_code.specs.declared.operations.EndOperation.{EndOperation}
use Rattle.flat_code.specs.declared.operations.EndOperation.TheVariants as ends
use Rattle.flat_code.specs.declared.operations.Operation.{Operation}
use Rattle.flat_code.specs.declared.operations.Operation.TheVariants as operation
use Rattle.stl_ast.specs.Statements.{is_empty_statement}
use Rattle.stl_ast.specs.declared.literals.Literal.TheVariants as literal
use Rattle.stl_ast.specs.declared.mnemonics.Mnemonic.TheVariants as code
use Rattle.stl_ast.specs.declared.operands.Numbered.{Numbered}
use Rattle.stl_ast.specs.declared.operands.Numbered.TheVariants as numbered
use Rattle.stl_ast.specs.declared.operands.Operand.{Operand}
use Rattle.stl_ast.specs.declared.operands.Operand.TheVariants as operand
use Rattle.stl_ast.specs.declared.statements.Statement.{Statement}
use Rattle.plc_base.specs.declared.places.Area.{Area}
use Rattle.stl_types.specs.Context.{Context}
use Rattle.stl_types.specs.ResolvedStatement.{resolved_operand}
use Rattle.stl_types.specs.declared.resolved_operands.Register.{Register}
use Rattle.stl_types.specs.declared.resolved_operands.Register.TheVariants as register
use Rattle.stl_types.specs.declared.resolved_operands.ResolvedOperand.{ResolvedOperand}
use Rattle.stl_types.specs.declared.resolved_operands.ResolvedOperand.TheVariants as resolved
use Rattle.stl_codegen.specs.CompiledBlock.{SourceInstruction}
use Rattle.stl_codegen.specs.GeneratedProgram.{return_statement, instructions_from, statements_of}
use Rattle.stl_codegen.specs.Instruction.{call_instr, end_instr, filler_instruction, instr_by, instruction, jump_instr, resolved_instr, target_of, operand_instr}
use Rattle.stl_codegen.specs.Operands.{numbered_operand, block_opened_by_operand, flat_operand_of, register_operand}
use Rattle.stl_codegen.specs.Operations.{add_operation, call_operation_of, end_operation_of, jump_operation_of, load_operation, load_pointer_operation, operation_for, or_operation, store_pointer_operation, transfer_operation}
use Rattle.stl_list.specs.Mnemonics.{mnemonic_of_jump, mnemonic_by, mnemonic_of_code}
use Rattle.listing_laws.specs.Labels.{AreCallWordsFound, AreEndWordsFound, AreJumpWordsFound, AreWordsFound, HasWord, HaveWords}
use Rattle.listing_laws.proofs.RunLemmas.{same_target}

-- ---- where the operand has a say

or_word : (v : ResolvedOperand) → mnemonic_of_code (op_code_of (or_operation v)) ≡ code.O
unfolding mnemonic_of_code
or_word resolved.Nothing = refl
or_word _ = refl

load_register : (which : Register) → mnemonic_of_code (op_code_of (load_operation (resolved.Register which))) ≡ code.L
unfolding mnemonic_of_code
load_register register.Stw = refl
load_register _ = refl

load_word : (v : ResolvedOperand) → mnemonic_of_code (op_code_of (load_operation v)) ≡ code.L
unfolding mnemonic_of_code
load_word (resolved.Register which) = load_register which
load_word _ = refl

transfer_word : (v : ResolvedOperand) → mnemonic_of_code (op_code_of (transfer_operation v)) ≡ code.T
unfolding mnemonic_of_code
transfer_word (resolved.Register which) = refl
transfer_word _ = refl

load_pointer_word : (v : ResolvedOperand) → mnemonic_of_code (op_code_of (load_pointer_operation v)) ≡ code.Lar1
unfolding mnemonic_of_code
load_pointer_word (resolved.Register which) = refl
load_pointer_word _ = refl

store_pointer_word : (v : ResolvedOperand) → mnemonic_of_code (op_code_of (store_pointer_operation v)) ≡ code.Tar1
unfolding mnemonic_of_code
store_pointer_word (resolved.Register which) = refl
store_pointer_word _ = refl

add_word : (o : Operand) → mnemonic_of_code (op_code_of (add_operation o)) ≡ code.Add
unfolding mnemonic_of_code
add_word (operand.Constant (literal.Long value)) = refl
add_word (operand.Constant _) = refl
add_word _ = refl

-- ---- each word

pub words_found : AreWordsFound
unfolding operation_for mnemonic_of_code
words_found code.Nop o v g = refl
words_found code.Bld o v g = refl
words_found code.A o v g = refl
words_found code.An o v g = refl
words_found code.O o v g = or_word v
words_found code.On o v g = refl
words_found code.X o v g = refl
words_found code.Xn o v g = refl
words_found code.AOpen o v g = refl
words_found code.AnOpen o v g = refl
words_found code.OOpen o v g = refl
words_found code.OnOpen o v g = refl
words_found code.XOpen o v g = refl
words_found code.XnOpen o v g = refl
words_found code.Close o v g = refl
words_found code.Mcra o v g = refl
words_found code.Mcrd o v g = refl
words_found code.McrOpen o v g = refl
words_found code.McrClose o v g = refl
words_found code.L o v g = load_word v
words_found code.T o v g = transfer_word v
words_found code.Assign o v g = refl
words_found code.S o v g = refl
words_found code.R o v g = refl
words_found code.Fp o v g = refl
words_found code.Fn o v g = refl
words_found code.Set o v g = refl
words_found code.Clr o v g = refl
words_found code.Not o v g = refl
words_found code.Save o v g = refl
words_found code.Lc o v g = refl
words_found code.Lar1 o v g = load_pointer_word v
words_found code.Lar2 o v g = refl
words_found code.Tar1 o v g = store_pointer_word v
words_found code.Tar2 o v g = refl
words_found code.Car o v g = refl
words_found code.AddAr1 o v g = refl
words_found code.AddAr2 o v g = refl
words_found code.Tak o v g = refl
words_found code.Push o v g = refl
words_found code.Pop o v g = refl
words_found code.Caw o v g = refl
words_found code.Cad o v g = refl
words_found code.Inc o v g = refl
words_found code.Dec o v g = refl
words_found code.Add o v g = add_word o
words_found code.AddI o v g = refl
words_found code.SubI o v g = refl
words_found code.MulI o v g = refl
words_found code.DivI o v g = refl
words_found code.AddD o v g = refl
words_found code.SubD o v g = refl
words_found code.MulD o v g = refl
words_found code.DivD o v g = refl
words_found code.Mod o v g = refl
words_found code.EqI o v g = refl
words_found code.NeI o v g = refl
words_found code.GtI o v g = refl
words_found code.LtI o v g = refl
words_found code.GeI o v g = refl
words_found code.LeI o v g = refl
words_found code.EqD o v g = refl
words_found code.NeD o v g = refl
words_found code.GtD o v g = refl
words_found code.LtD o v g = refl
words_found code.GeD o v g = refl
words_found code.LeD o v g = refl
words_found code.Bti o v g = refl
words_found code.Itb o v g = refl
words_found code.Btd o v g = refl
words_found code.Dtb o v g = refl
words_found code.Itd o v g = refl
words_found code.Invi o v g = refl
words_found code.Invd o v g = refl
words_found code.Negi o v g = refl
words_found code.Negd o v g = refl
words_found code.Aw o v g = refl
words_found code.Ow o v g = refl
words_found code.Xow o v g = refl
words_found code.Ad o v g = refl
words_found code.Od o v g = refl
words_found code.Xod o v g = refl
words_found code.Ssi o v g = refl
words_found code.Ssd o v g = refl
words_found code.Slw o v g = refl
words_found code.Srw o v g = refl
words_found code.Sld o v g = refl
words_found code.Srd o v g = refl
words_found code.Rld o v g = refl
words_found code.Rrd o v g = refl
words_found code.Rlda o v g = refl
words_found code.Rrda o v g = refl
words_found code.Sp o v g = refl
words_found code.Se o v g = refl
words_found code.Sd o v g = refl
words_found code.Ss o v g = refl
words_found code.Sf o v g = refl
words_found code.Fr o v g = refl
words_found code.Cu o v g = refl
words_found code.Cd o v g = refl
words_found code.Opn o v g = refl
words_found code.Cdb o v g = refl
words_found code.Ju o v g = let h = g.jumps in absurd cc
words_found code.Jl o v g = let h = g.jumps in absurd cc
words_found code.Jc o v g = let h = g.jumps in absurd cc
words_found code.Jcn o v g = let h = g.jumps in absurd cc
words_found code.Jcb o v g = let h = g.jumps in absurd cc
words_found code.Jnb o v g = let h = g.jumps in absurd cc
words_found code.Jbi o v g = let h = g.jumps in absurd cc
words_found code.Jnbi o v g = let h = g.jumps in absurd cc
words_found code.Jo o v g = let h = g.jumps in absurd cc
words_found code.Jos o v g = let h = g.jumps in absurd cc
words_found code.Jz o v g = let h = g.jumps in absurd cc
words_found code.Jn o v g = let h = g.jumps in absurd cc
words_found code.Jp o v g = let h = g.jumps in absurd cc
words_found code.Jm o v g = let h = g.jumps in absurd cc
words_found code.Jpz o v g = let h = g.jumps in absurd cc
words_found code.Jmz o v g = let h = g.jumps in absurd cc
words_found code.Juo o v g = let h = g.jumps in absurd cc
words_found code.Loop o v g = let h = g.jumps in absurd cc
words_found code.Call o v g = let h = g.calls in absurd cc
words_found code.Uc o v g = let h = g.calls in absurd cc
words_found code.Cc o v g = let h = g.calls in absurd cc
words_found code.Be o v g = let h = g.ends in absurd cc
words_found code.Bec o v g = let h = g.ends in absurd cc
words_found code.Beu o v g = let h = g.ends in absurd cc
words_found code.Empty o v g = let h = g.some in absurd cc

-- what an instruction's kind is, where it is of that kind
is_found : {A : Type 0} (x y : A) → Some x ≡ Some y → x ≡ y
is_found x y h = cc

pub jump_words_found : AreJumpWordsFound
unfolding mnemonic_of_jump
jump_words_found code.Ju how h = ap (λ (k : JumpOperation). mnemonic_of_jump (jump_number k)) (sym (is_found _ how h))
jump_words_found code.Jl how h = ap (λ (k : JumpOperation). mnemonic_of_jump (jump_number k)) (sym (is_found _ how h))
jump_words_found code.Jc how h = ap (λ (k : JumpOperation). mnemonic_of_jump (jump_number k)) (sym (is_found _ how h))
jump_words_found code.Jcn how h = ap (λ (k : JumpOperation). mnemonic_of_jump (jump_number k)) (sym (is_found _ how h))
jump_words_found code.Jcb how h = ap (λ (k : JumpOperation). mnemonic_of_jump (jump_number k)) (sym (is_found _ how h))
jump_words_found code.Jnb how h = ap (λ (k : JumpOperation). mnemonic_of_jump (jump_number k)) (sym (is_found _ how h))
jump_words_found code.Jbi how h = ap (λ (k : JumpOperation). mnemonic_of_jump (jump_number k)) (sym (is_found _ how h))
jump_words_found code.Jnbi how h = ap (λ (k : JumpOperation). mnemonic_of_jump (jump_number k)) (sym (is_found _ how h))
jump_words_found code.Jo how h = ap (λ (k : JumpOperation). mnemonic_of_jump (jump_number k)) (sym (is_found _ how h))
jump_words_found code.Jos how h = ap (λ (k : JumpOperation). mnemonic_of_jump (jump_number k)) (sym (is_found _ how h))
jump_words_found code.Jz how h = ap (λ (k : JumpOperation). mnemonic_of_jump (jump_number k)) (sym (is_found _ how h))
jump_words_found code.Jn how h = ap (λ (k : JumpOperation). mnemonic_of_jump (jump_number k)) (sym (is_found _ how h))
jump_words_found code.Jp how h = ap (λ (k : JumpOperation). mnemonic_of_jump (jump_number k)) (sym (is_found _ how h))
jump_words_found code.Jm how h = ap (λ (k : JumpOperation). mnemonic_of_jump (jump_number k)) (sym (is_found _ how h))
jump_words_found code.Jpz how h = ap (λ (k : JumpOperation). mnemonic_of_jump (jump_number k)) (sym (is_found _ how h))
jump_words_found code.Jmz how h = ap (λ (k : JumpOperation). mnemonic_of_jump (jump_number k)) (sym (is_found _ how h))
jump_words_found code.Juo how h = ap (λ (k : JumpOperation). mnemonic_of_jump (jump_number k)) (sym (is_found _ how h))
jump_words_found code.Loop how h = ap (λ (k : JumpOperation). mnemonic_of_jump (jump_number k)) (sym (is_found _ how h))
jump_words_found _ how h = absurd cc

pub call_words_found : AreCallWordsFound
unfolding mnemonic_of_code
call_words_found code.Call how h = ap (λ (k : CallOperation). mnemonic_of_code (op_code_of (operation.Call k))) (sym (is_found _ how h))
call_words_found code.Uc how h = ap (λ (k : CallOperation). mnemonic_of_code (op_code_of (operation.Call k))) (sym (is_found _ how h))
call_words_found code.Cc how h = ap (λ (k : CallOperation). mnemonic_of_code (op_code_of (operation.Call k))) (sym (is_found _ how h))
call_words_found _ how h = absurd cc

pub end_words_found : AreEndWordsFound
unfolding mnemonic_of_code
end_words_found code.Be how h = ap (λ (k : EndOperation). mnemonic_of_code (op_code_of (operation.End k))) (sym (is_found _ how h))
end_words_found code.Bec how h = ap (λ (k : EndOperation). mnemonic_of_code (op_code_of (operation.End k))) (sym (is_found _ how h))
end_words_found code.Beu how h = ap (λ (k : EndOperation). mnemonic_of_code (op_code_of (operation.End k))) (sym (is_found _ how h))
end_words_found _ how h = absurd cc

-- ---- the instructions of a source have words

jump_has : (how : JumpOperation) → is_empty_statement (mnemonic_of_jump (jump_number how)) ≡ false
unfolding mnemonic_of_jump
jump_has jump.Ju = refl
jump_has jump.Jl = refl
jump_has jump.Jc = refl
jump_has jump.Jcn = refl
jump_has jump.Jcb = refl
jump_has jump.Jnb = refl
jump_has jump.Jbi = refl
jump_has jump.Jnbi = refl
jump_has jump.Jo = refl
jump_has jump.Jos = refl
jump_has jump.Jz = refl
jump_has jump.Jn = refl
jump_has jump.Jp = refl
jump_has jump.Jm = refl
jump_has jump.Jpz = refl
jump_has jump.Jmz = refl
jump_has jump.Juo = refl
jump_has jump.Loop = refl

call_has : (how : CallOperation) → is_empty_statement (mnemonic_of_code (op_code_of (operation.Call how))) ≡ false
unfolding mnemonic_of_code
call_has calls.Call = refl
call_has calls.Uc = refl
call_has calls.Cc = refl

end_has : (how : EndOperation) → is_empty_statement (mnemonic_of_code (op_code_of (operation.End how))) ≡ false
unfolding mnemonic_of_code
end_has ends.Be = refl
end_has ends.Bec = refl
end_has ends.Beu = refl

-- no operand of an instruction that goes on is a jump's
abbrev pub IsPlain : FlatOperand → Type 0
IsPlain o = (op_code : ℕ) → mnemonic_by op_code o ≡ mnemonic_of_code op_code

register_plain : (which : Register) → IsPlain (register_operand which)
register_plain register.Dblg n = refl
register_plain register.Dbno n = refl
register_plain register.Dilg n = refl
register_plain register.Dino n = refl
register_plain _ n = refl

numbered_plain : (what : Numbered) (from : Area) (byte : ℕ) → IsPlain (numbered_operand what from byte)
numbered_plain numbered.Timer from byte n = refl
numbered_plain numbered.Counter from byte n = refl
numbered_plain numbered.Db from byte n = refl
numbered_plain numbered.Di from byte n = refl

pub operand_plain : (o : Operand) (v : ResolvedOperand) → IsPlain (flat_operand_of o v)
unfolding flat_operand_of
operand_plain o (resolved.Register which) n = register_plain which n
operand_plain o (resolved.NumberBy what from byte) n = numbered_plain what from byte n
operand_plain o (resolved.Direct place width side declared) n = refl
operand_plain o (resolved.Parameter index section declared) n = refl
operand_plain o (resolved.ByMemory a width from byte) n = refl
operand_plain o (resolved.ByRegister a width r bits) n = refl
operand_plain o (resolved.Timer number) n = refl
operand_plain o (resolved.Counter number) n = refl
operand_plain o resolved.Constant n = refl
operand_plain o (resolved.Pointer a byte bit) n = refl
operand_plain o (resolved.OfStatus which) n = refl
operand_plain o (resolved.OpenBlock di number) n = refl
operand_plain o _ n = refl

filler_has : HasWord filler_instruction
unfolding mnemonic_of_code
filler_has = refl

does_has : (u : Option ℕ) (w : Operation) (o : FlatOperand) → IsPlain o → is_empty_statement (mnemonic_of_code (op_code_of w)) ≡ false → HasWord (Does u w o)
does_has u w o plain h = ap (λ (z : FlatOperand). is_empty_statement (mnemonic_by (op_code_of w) z)) (same_target o) ∙ ap is_empty_statement (plain (op_code_of w)) ∙ h

ended_has : (s : Statement) (v : ResolvedOperand) (found : Option EndOperation) → is_empty_statement s.code ≡ false → jump_operation_of s.code ≡ None → call_operation_of s.code ≡ None → end_operation_of s.code ≡ found
    → HasWord (end_instr s v found)
ended_has s v None some jumps calls e =
    does_has (block_opened_by_operand v) (operation_for s.code s.operand v) (flat_operand_of s.operand v) (operand_plain s.operand v)
    (ap is_empty_statement (words_found s.code s.operand v (record { some = some; jumps = jumps; calls = calls; ends = e })) ∙ some)
ended_has s v (Some how) some jumps calls e = end_has how

call_has_word : (c : Context) (s : Statement) (how : CallOperation) (v : ResolvedOperand) → HasWord (call_instr c s how v)
call_has_word c s how (resolved.Called id instance) = call_has how
call_has_word c s how _ = filler_has

called_has : (c : Context) (s : Statement) (v : ResolvedOperand) (found : Option CallOperation) → is_empty_statement s.code ≡ false → jump_operation_of s.code ≡ None → call_operation_of s.code ≡ found
    → HasWord (operand_instr c s v found)
called_has c s v None some jumps e = ended_has s v (end_operation_of s.code) some jumps e refl
called_has c s v (Some how) some jumps e = call_has_word c s how v

resolved_has : (c : Context) (s : Statement) (found : Option ResolvedOperand) → is_empty_statement s.code ≡ false → jump_operation_of s.code ≡ None → HasWord (resolved_instr c s found)
resolved_has c s None some jumps = filler_has
resolved_has c s (Some v) some jumps = called_has c s v (call_operation_of s.code) some jumps refl

jump_has_word : (how : JumpOperation) (n target : ℕ) → HasWord (jump_instr how n target)
jump_has_word jump.Jl n target = jump_has jump.Jl
jump_has_word jump.Ju n target = jump_has jump.Ju
jump_has_word jump.Jc n target = jump_has jump.Jc
jump_has_word jump.Jcn n target = jump_has jump.Jcn
jump_has_word jump.Jcb n target = jump_has jump.Jcb
jump_has_word jump.Jnb n target = jump_has jump.Jnb
jump_has_word jump.Jbi n target = jump_has jump.Jbi
jump_has_word jump.Jnbi n target = jump_has jump.Jnbi
jump_has_word jump.Jo n target = jump_has jump.Jo
jump_has_word jump.Jos n target = jump_has jump.Jos
jump_has_word jump.Jz n target = jump_has jump.Jz
jump_has_word jump.Jn n target = jump_has jump.Jn
jump_has_word jump.Jp n target = jump_has jump.Jp
jump_has_word jump.Jm n target = jump_has jump.Jm
jump_has_word jump.Jpz n target = jump_has jump.Jpz
jump_has_word jump.Jmz n target = jump_has jump.Jmz
jump_has_word jump.Juo n target = jump_has jump.Juo
jump_has_word jump.Loop n target = jump_has jump.Loop

jumped_has : (c : Context) (body : List Statement) (n : ℕ) (s : Statement) (found : Option JumpOperation) → is_empty_statement s.code ≡ false → jump_operation_of s.code ≡ found → HasWord (instr_by c body n s found)
jumped_has c body n s None some e = resolved_has c s (resolved_operand c s) some e
jumped_has c body n s (Some how) some e = jump_has_word how n (target_of body s.operand)

instruction_has : (c : Context) (body : List Statement) (n : ℕ) (s : Statement) → is_empty_statement s.code ≡ false → HasWord (instruction c body n s)
unfolding instruction
instruction_has c body n s some = jumped_has c body n s (jump_operation_of s.code) some refl

abbrev AllHave : List SourceInstruction → Type 0
AllHave ss = AllByRecursion (λ s. HasWord s.instr) ss

stated_have : (c : Context) (body : List Statement) (n : ℕ) (ss : List Statement) → AllHave (instructions_from c body n ss)
stated_have c body n [] = tt
stated_have c body n (s ∷ ss) = by (is_empty_statement s.code) refl (stated_have c body n ss) (stated_have c body (suc n) ss)
  where
    by : (b : Bool) → is_empty_statement s.code ≡ b → AllHave (instructions_from c body n ss) → AllHave (instructions_from c body (suc n) ss)
        → AllHave (if b then instructions_from c body n ss else record { instr = instruction c body n s; line = s.line } ∷ instructions_from c body (suc n) ss)
    by true e more next = more
    by false e more next = (instruction_has c body n s e, next)

pub have_words : HaveWords
unfolding statements_of
have_words c b = all_append (λ s. HasWord s.instr) (instructions_from c b.body 0 b.body) (return_statement b ∷ []) (stated_have c b.body 0 b.body) (end_has ends.Be, tt)
