-- No jump of a source leads to the END clause of its block.
use Rattle.std.proofs.Common.{◌≡◌, ℕ, suc, ◌+◌, ◌<◌, ◌≤◌, Bool, true, false, List, [], ◌∷◌, ◌++◌, length, length-append, map, Option, Some, None, refl, sym, ap, ◌∙◌, arith}
use Rattle.std.specs.Prelude.{is_none, option_map, ◌==◌, flat_map, if◌then◌else◌}
use Rattle.std.specs.List.{AllByRecursion, list_any}
use Rattle.std.specs.Str.{bytes_eq}
use Rattle.std.proofs.lemmas.Bool.{cond_both, false≢true}
use Rattle.std.proofs.lemmas.Bool.Decides.{nat_tests}
use Rattle.std.proofs.lemmas.List.{length-map}
use Rattle.plc_base.proofs.ListLemmas.{all_append, nil_parts}
use Rattle.plc_base.specs.Kinds.{is_code}
use Rattle.plc_base.specs.Least.{broken_if}
use Rattle.plc_base.specs.declared.blocks.BlockId.{BlockId}
use Rattle.flat_code.specs.declared.kinds.JumpOperation.TheVariants as jump
use Rattle.flat_code.specs.declared.kinds.JumpOperation.{JumpOperation}
use Rattle.flat_code.specs.declared.operations.CallOperation.{CallOperation}
use Rattle.flat_code.specs.declared.operations.EndOperation.{EndOperation}
use Rattle.stl_ast.specs.Statements.{IsStatement, is_empty_statement}
use Rattle.stl_ast.specs.WellFormed.{IsBlock}
use Rattle.stl_ast.specs.declared.blocks.Block.{Block}
use Rattle.stl_ast.specs.declared.operands.Numbered.TheVariants as numbered
use Rattle.stl_ast.specs.declared.operands.Operand.TheVariants as operand
use Rattle.stl_ast.specs.declared.operands.Operand.{Operand}
use Rattle.stl_ast.specs.declared.statements.Statement.{Statement}
use Rattle.stl_symbols.specs.Names.{name_place}
use Rattle.block_layout.specs.declared.blocks.BlockLayout.{BlockLayout}
use Rattle.block_layout.proofs.CommonLemmas.{not_broken}
use Rattle.stl_types.specs.Bodies.{first_context}
use Rattle.stl_types.specs.Context.{Context}
use Rattle.stl_types.specs.Labels.{is_unknown_label, label_of, labels_of, rule_26, unknown_labels}
use Rattle.stl_types.specs.Lists.{has_label}
use Rattle.stl_types.specs.ResolvedStatement.{resolved_operand}
use Rattle.stl_types.specs.declared.resolved_operands.Register.TheVariants as register
use Rattle.stl_types.specs.declared.resolved_operands.ResolvedOperand.TheVariants as resolved
use Rattle.stl_types.specs.declared.resolved_operands.ResolvedOperand.{ResolvedOperand}
use Rattle.stl_codegen.specs.CompiledBlock.{SourceInstruction, StatedBlock, compiled_block}
use Rattle.stl_codegen.specs.GeneratedProgram.{code_block, code_block_of, code_blocks_of, each_block, return_statement, instructions_from, statements_of}
use Rattle.stl_codegen.specs.Instruction.{call_instr, count_of_statement, end_instr, instr_by, instruction, jump_instr, resolved_instr, target_in, target_of, operand_instr}
use Rattle.stl_codegen.specs.Operands.{flat_operand_of}
use Rattle.stl_codegen.specs.Operations.{call_operation_of, end_operation_of, jump_operation_of}
use Rattle.stl_codegen.specs.Order.{is_code_before}
use Rattle.listing_laws.proofs.BlockLemmas.{all_sorted}
use Rattle.listing_laws.proofs.NameLemmas.{either_way}
use Rattle.listing_laws.proofs.RunLemmas.{targets_found}
use Rattle.listing_laws.specs.Bodies.{IsEndFree}
use Rattle.listing_laws.specs.Ends.{AreEndsFree}
use Rattle.listing_laws.specs.Statements.{is_jump_to, jumps_to}

-- ---- labels

-- how many statements have a number
abbrev count_of : List Statement → ℕ
count_of [] = 0
count_of (s ∷ ss) = count_of_statement s + count_of ss

abbrev AreUnlabelled : List Statement → Type 0
AreUnlabelled ss = AllByRecursion (λ s. is_empty_statement s.code ≡ true → s.label ≡ None) ss

are_unlabelled : (ss : List Statement) → AllByRecursion IsStatement ss → AreUnlabelled ss
are_unlabelled [] h = tt
are_unlabelled (s ∷ ss) (one, more) = (one.unlabelled, are_unlabelled ss more)

some_behind : (o : Option ℕ) → is_none (option_map (λ k. suc k) o) ≡ false → is_none o ≡ false
some_behind None h = h
some_behind (Some k) h = refl

-- behind a statement with such a label
step : (name : List ℕ) (label : Option (List ℕ)) (none : Bool) (ss : List Statement) → (none ≡ true → label ≡ None) → is_none (name_place name (label_of label ++ labels_of ss)) ≡ false
    → (is_none (name_place name (labels_of ss)) ≡ false → target_in name ss < count_of ss)
    → (if has_label name label then 0 else (if none then 0 else 1) + target_in name ss) < (if none then 0 else 1) + count_of ss
step name None true ss bare known more = let less = more known in omega (arith, less)
step name None false ss bare known more = let less = more known in omega (arith, less)
step name (Some label) true ss bare known more = absurd (none_some label (sym (bare refl)))
  where
    none_some : (label : List ℕ) → None ≡ Some label → ⊥
    none_some label e = absurd cc
step name (Some label) false ss bare known more = by (bytes_eq name label) known
  where
    by : (b : Bool) → is_none (if b then Some 0 else option_map (λ k. suc k) (name_place name (labels_of ss))) ≡ false → (if b then 0 else 1 + target_in name ss) < 1 + count_of ss
    by true known = omega arith
    by false known = let less = more (some_behind (name_place name (labels_of ss)) known) in omega (arith, less)

target_below : (name : List ℕ) (ss : List Statement) → AreUnlabelled ss → is_none (name_place name (labels_of ss)) ≡ false → target_in name ss < count_of ss
unfolding target_in
target_below name [] bare known = absurd (false≢true (sym known))
target_below name (s ∷ ss) (one, rest) known = step name s.label (is_empty_statement s.code) ss one known (λ k. target_below name ss rest k)

target_less : (body : List Statement) (o : Operand) → 0 < count_of body → AreUnlabelled body → is_unknown_label (labels_of body) o ≡ false → target_of body o < count_of body
target_less body (operand.Label name) some bare known = target_below name body bare known
target_less body _ some bare known = some

-- ---- instructions

apart_below : (target n : ℕ) → target < n → (target == n) ≡ false
apart_below target n h = grind (arith, nat_tests)

operand_free : (n : ℕ) (o : Operand) (v : ResolvedOperand) → is_jump_to n (flat_operand_of o v) ≡ false
unfolding flat_operand_of
operand_free n o (resolved.NumberBy numbered.Timer from byte) = refl
operand_free n o (resolved.NumberBy numbered.Counter from byte) = refl
operand_free n o (resolved.NumberBy numbered.Db from byte) = refl
operand_free n o (resolved.NumberBy numbered.Di from byte) = refl
operand_free n o (resolved.Register register.Dblg) = refl
operand_free n o (resolved.Register register.Dbno) = refl
operand_free n o (resolved.Register register.Dilg) = refl
operand_free n o (resolved.Register register.Dino) = refl
operand_free n o (resolved.Register _) = refl
operand_free n o _ = refl

end_free : (n : ℕ) (s : Statement) (v : ResolvedOperand) (how : Option EndOperation) → jumps_to n (end_instr s v how) ≡ false
end_free n s v None = operand_free n s.operand v
end_free n s v (Some how) = refl

call_free : (n : ℕ) (c : Context) (s : Statement) (how : CallOperation) (v : ResolvedOperand) → jumps_to n (call_instr c s how v) ≡ false
call_free n c s how (resolved.Called id instance) = refl
call_free n c s how _ = refl

view_free : (n : ℕ) (c : Context) (s : Statement) (v : ResolvedOperand) (how : Option CallOperation) → jumps_to n (operand_instr c s v how) ≡ false
view_free n c s v None = end_free n s v (end_operation_of s.code)
view_free n c s v (Some how) = call_free n c s how v

resolved_free : (n : ℕ) (c : Context) (s : Statement) (o : Option ResolvedOperand) → jumps_to n (resolved_instr c s o) ≡ false
resolved_free n c s None = refl
resolved_free n c s (Some v) = view_free n c s v (call_operation_of s.code)

jump_free : (n k target : ℕ) (how : JumpOperation) → target < n → jumps_to n (jump_instr how k target) ≡ false
jump_free n k target jump.Jl h = apart_below target n h
jump_free n k target _ h = apart_below target n h

instr_free : (c : Context) (body : List Statement) (n : ℕ) (s : Statement) → 0 < count_of body → AreUnlabelled body → is_unknown_label (labels_of body) s.operand ≡ false
    → jumps_to (count_of body) (instruction c body n s) ≡ false
unfolding instruction
instr_free c body n s some bare known = by (jump_operation_of s.code) where
  by : (how : Option JumpOperation) → jumps_to (count_of body) (instr_by c body n s how) ≡ false
  by None = resolved_free (count_of body) c s (resolved_operand c s)
  by (Some how) = jump_free (count_of body) n (target_of body s.operand) how (target_less body s.operand some bare known)

-- ---- blocks

abbrev AreKnown : List Statement → List Statement → Type 0
AreKnown body ss = AllByRecursion (λ s. is_unknown_label (labels_of body) s.operand ≡ false) ss

labels_known : (body ss : List Statement) → unknown_labels (labels_of body) ss ≡ [] → AreKnown body ss
labels_known body [] e = tt
labels_known body (s ∷ ss) e =
    let parts = nil_parts (broken_if (is_unknown_label (labels_of body) s.operand) s.line 26) (unknown_labels (labels_of body) ss) e in
    (not_broken (is_unknown_label (labels_of body) s.operand) s.line 26 parts.0, labels_known body ss parts.1)

abbrev StaysOff : ℕ → SourceInstruction → Type 0
StaysOff n x = jumps_to n x.instr ≡ false

stated_free : (c : Context) (body : List Statement) (n : ℕ) (ss : List Statement) → count_of ss ≤ count_of body → AreUnlabelled body → AreKnown body ss → AllByRecursion (StaysOff (count_of body)) (instructions_from c body n ss)
stated_free c body n [] le bare known = tt
stated_free c body n (s ∷ ss) le bare (one, more) =
    cond_both (is_empty_statement s.code) (instructions_from c body n ss) (record { instr = instruction c body n s; line = s.line } ∷ instructions_from c body (suc n) ss) (λ l. AllByRecursion (StaysOff (count_of body)) l)
    (λ e. stated_free c body n ss (omega (arith, le)) bare more)
    (λ e. let here : count_of_statement s ≡ 1 = ap (λ (b : Bool). if b then 0 else 1) e in (instr_free c body n s (omega (arith, le, here)) bare one, stated_free c body (suc n) ss (omega (arith, le)) bare more))

stated_count : (c : Context) (body : List Statement) (n : ℕ) (ss : List Statement) → length (instructions_from c body n ss) ≡ count_of ss
stated_count c body n [] = refl
stated_count c body n (s ∷ ss) =
    by (is_empty_statement s.code) (stated_count c body n ss) (stated_count c body (suc n) ss)
  where
    by : (b : Bool) → length (instructions_from c body n ss) ≡ count_of ss → length (instructions_from c body (suc n) ss) ≡ count_of ss
        → length (if b then instructions_from c body n ss else record { instr = instruction c body n s; line = s.line } ∷ instructions_from c body (suc n) ss) ≡ (if b then 0 else 1) + count_of ss
    by true h k = omega (arith, h)
    by false h k = omega (arith, k)

none_any : (n : ℕ) (xs : List SourceInstruction) → AllByRecursion (StaysOff n) xs → list_any (λ s. jumps_to n s.instr) xs ≡ false
none_any n [] h = refl
none_any n (x ∷ xs) (one, more) = rw one (none_any n xs more)

-- a block whose last statement no jump leads to
abbrev IsFree : StatedBlock → Type 0
IsFree b = (n : ℕ) → suc n ≡ length b.statements → list_any (λ s. jumps_to n s.instr) b.statements ≡ false

-- a block of the source whose jumps have their labels
abbrev pub IsRight : Block → Type 0
IsRight b = AllByRecursion IsStatement b.body × (unknown_labels (labels_of b.body) b.body ≡ [])

pub statements_free : (c : Context) (b : Block) → IsRight b → (n : ℕ) → suc n ≡ length (statements_of c b) → list_any (λ s. jumps_to n s.instr) (statements_of c b) ≡ false
unfolding statements_of
statements_free c b is n e =
    let front = instructions_from c b.body 0 b.body in
    let same : count_of b.body ≡ n = omega (arith, e, length-append front (return_statement b ∷ []), stated_count c b.body 0 b.body) in
    ap (λ (k : ℕ). list_any (λ s. jumps_to k s.instr) (front ++ return_statement b ∷ [])) (sym same)
    ∙ none_any (count_of b.body) (front ++ return_statement b ∷ []) (all_append (StaysOff (count_of b.body)) front (return_statement b ∷ []) (stated_free c b.body 0 b.body (omega arith) (are_unlabelled b.body is.0) (labels_known b.body b.body is.1)) (refl, tt))

block_free : (c : Context) (b : Block) (l : BlockLayout) (id : Option BlockId) → IsRight b → AllByRecursion IsFree (code_block_of c b l id)
block_free c b l None is = tt
block_free c b l (Some id) is = either_way (λ l. AllByRecursion IsFree l) (is_code id.kind) (code_block c b l id ∷ []) [] (statements_free c b is, tt) tt

blocks_free : (c : Context) (bs : List Block) (ls : List BlockLayout) → AllByRecursion IsRight bs → AllByRecursion IsFree (each_block (λ c b l. code_block_of c b l l.id) c bs ls)
blocks_free c [] ls h = tt
blocks_free c (b ∷ bs) [] h = tt
blocks_free c (b ∷ bs) (l ∷ ls) (one, more) = all_append IsFree (code_block_of c b l l.id) _ (block_free c b l l.id one) (blocks_free (record c { block = suc c.block }) bs ls more)

compiled_free : (bs : List StatedBlock) → AllByRecursion IsFree bs → AllByRecursion (λ b. IsEndFree (length b.lines) b) (map compiled_block bs)
compiled_free [] h = tt
compiled_free (b ∷ bs) (one, more) =
    (λ n e. let last : suc n ≡ length b.statements = e ∙ length-map b.statements _ in targets_found b.statements n (omega (arith, last)) ∙ one n last, compiled_free bs more)

all_right : (bs : List Block) → AllByRecursion IsBlock bs → flat_map (λ b. unknown_labels (labels_of b.body) b.body) bs ≡ [] → AllByRecursion IsRight bs
all_right [] h e = tt
all_right (b ∷ bs) (one, more) e =
    let parts = nil_parts (unknown_labels (labels_of b.body) b.body) (flat_map (λ b. unknown_labels (labels_of b.body) b.body) bs) e in
    ((one.runs.0, parts.0), all_right bs more parts.1)

pub ends_free : AreEndsFree
unfolding code_blocks_of rule_26
ends_free t symbols layouts h e =
    compiled_free (code_blocks_of t symbols layouts)
    (all_sorted IsFree is_code_before (each_block (λ c b l. code_block_of c b l l.id) (first_context symbols layouts t.blocks) t.blocks layouts)
    (blocks_free (first_context symbols layouts t.blocks) t.blocks layouts (all_right t.blocks h e)))
