-- The ops of a statement are ops of the table, wherever its targets lead, and at most 64.
use Rattle.std.proofs.Common.{◌≡◌, ℕ, suc, ◌+◌, ◌<◌, ◌≤◌, Bool, true, false, List, [], ◌∷◌, ◌++◌, length, length-append, take, drop, Option, Some, None, refl, sym, ap, subst, ◌∙◌, arith}
use Rattle.std.specs.Prelude.{IfSome}
use Rattle.std.specs.List.{AllByRecursion}
use Rattle.std.specs.Str.{bytes_eq}
use Rattle.std.proofs.lemmas.Bool.Decides.{nat_tests}
use Rattle.std.proofs.lemmas.Bool.{and_from}
use Rattle.plc_base.specs.declared.blocks.BlockId.{BlockId}
use Rattle.flat_code.specs.Forms.{passed_coding, actual_fits, payload_fits}
use Rattle.flat_code.specs.Instr.{Passing, Does, Returns}
use Rattle.flat_code.specs.Kinds.{jump_number}
use Rattle.flat_code.specs.OpCodes.{op_code_of}
use Rattle.flat_code.specs.Ops.{OpData, is_instruction, is_op}
use Rattle.flat_code.specs.Table.{admits, forms_of_operation}
use Rattle.flat_code.specs.declared.kinds.JumpOperation.{JumpOperation}
use Rattle.flat_code.specs.declared.operands.Operand.{Operand as FlatOperand}
use Rattle.flat_code.specs.declared.operands.Operand.TheVariants as flat
use Rattle.flat_code.specs.declared.operands.Passed.{Passed}
use Rattle.flat_code.specs.declared.operations.CallOperation.{CallOperation}
use Rattle.flat_code.specs.declared.operations.EndOperation.{EndOperation}
use Rattle.flat_code.specs.declared.operations.Operation.{Operation}
use Rattle.flat_code.specs.declared.operations.Operation.TheVariants as operation
use Rattle.stl_ast.specs.Literals.{IsLiteral}
use Rattle.stl_ast.specs.Operands.{IsOperand}
use Rattle.stl_ast.specs.Statements.{AreActuals, IsStatement, is_empty_statement}
use Rattle.stl_ast.specs.declared.blocks.Block.{Block}
use Rattle.stl_ast.specs.declared.literals.Literal.{Literal}
use Rattle.stl_ast.specs.declared.mnemonics.Mnemonic.{Mnemonic}
use Rattle.stl_ast.specs.declared.operands.Operand.{Operand}
use Rattle.stl_ast.specs.declared.operands.Operand.TheVariants as operand
use Rattle.stl_ast.specs.declared.statements.Actual.{Actual}
use Rattle.stl_ast.specs.declared.statements.Statement.{Statement}
use Rattle.plc_base.specs.Folding.{upper_case_name}
use Rattle.plc_base.specs.Kinds.{is_callable as is_callable_kind, kind_number}
use Rattle.stl_types.specs.Constants.{takes_constant}
use Rattle.stl_types.specs.Context.{Context}
use Rattle.stl_types.specs.OperandRules.{operand_rule_of}
use Rattle.stl_types.specs.Operands.{rule_of_operand, rule_of_resolved_operand, rule_of_resolution, statement_rule}
use Rattle.stl_types.specs.Parameters.{Callee, callee_of}
use Rattle.stl_types.specs.ResolvedStatement.{resolved_operand}
use Rattle.stl_types.specs.Resolution.{resolution_of}
use Rattle.stl_types.specs.declared.operand_rules.OperandRule.{OperandRule}
use Rattle.stl_types.specs.declared.operand_rules.OperandRule.TheVariants as operand_rules
use Rattle.stl_types.specs.declared.parameters.Formal.{Formal}
use Rattle.stl_types.specs.declared.resolved_operands.Resolution.{Resolution}
use Rattle.stl_types.specs.declared.resolved_operands.Resolution.TheVariants.{Resolved}
use Rattle.stl_types.specs.declared.resolved_operands.ResolvedOperand.{ResolvedOperand}
use Rattle.stl_types.specs.declared.resolved_operands.ResolvedOperand.TheVariants as resolved
use Rattle.stl_codegen.proofs.OpLemmas.{jumps, jump_ops}
use Rattle.stl_codegen.specs.CompiledBlock.{operand_with_target}
use Rattle.block_layout.specs.Fits.{number_or_zero}
use Rattle.stl_codegen.specs.EmittedOps.{call_op, end_op, op_with_end_mark, jump_op, use_db_ops, ops_of, pass_ops, preparing_op}
use Rattle.stl_codegen.specs.Instruction.{source_block_at, call_instr, end_instr, filler_instruction, in_parameter_order, instr_by, instruction, jump_instr, passings_to, resolved_instr, target_of, operand_instr}
use Rattle.stl_codegen.specs.Operands.{block_opened_by_operand, flat_operand_of}
use Rattle.stl_codegen.specs.PassedParameters.{passed_actual, passed_resolution, passed_by_operand, passings_from, actual_of_formal, with_index}
use Rattle.stl_codegen.specs.Operations.{call_operation_of, end_operation_of, jump_operation_of, operation_for}
use Rattle.sem_kept.proofs.accepted.CodedBits.{bits_small, constant_taken}
use Rattle.sem_kept.proofs.accepted.CodedTables.{operation_is_taken, operation_is_op}
use Rattle.sem_kept.proofs.accepted.CodedViews.{ContextFits, IsWord, ResolvedNumbersFit, NumbersFit, direct_fits, found_holds, payload_right, pointer_fits, seen_fits, word_fits}
use Rattle.sem_kept.specs.CodedBlocks.{HasBytes, OperandHasBytes, StatementHasBytes}
use Rattle.sem_kept.proofs.accepted.OperandsOperations.{taken_by_rule}
use Rattle.sem_kept.proofs.accepted.Shared.{call_form, no_call_constant, rule_callable, rule_there}

-- ---- ops that stay ops wherever they lead

abbrev pub IsOpAtAnyTarget : OpData → Type 0
IsOpAtAnyTarget op = (f : ℕ → ℕ) → ((n : ℕ) → f n < 4294967296) → is_op op.code (operand_with_target f op.operand) ≡ true

-- an op that prepares its statement
pub record IsGoodPart (op : OpData) : Type 0 where
  pub good : IsOpAtAnyTarget op
  pub inner : op.last ≡ false

-- the ops of a statement: those that prepare, at most 63, and the last one
pub record IsGoodStatement (ops : List OpData) : Type 0 where
  pub front : List OpData
  pub final : OpData
  pub whole : ops ≡ front ++ final ∷ []
  pub parts : AllByRecursion IsGoodPart front
  pub few : length front ≤ 63
  pub good : IsOpAtAnyTarget final
  pub last : final.last ≡ true

-- an operand that isn't a jump's
still_good : (w : Operation) (last : Bool) (o : FlatOperand) → ((f : ℕ → ℕ) → operand_with_target f o ≡ o)
    → is_instruction w o ≡ true → IsOpAtAnyTarget (record { code = op_code_of w; last = last; operand = o })
still_good w last o still h f small =
    ap (λ (x : FlatOperand). is_op (op_code_of w) x) (still f) ∙ operation_is_op w o h

-- one op alone
alone : (op : OpData) → IsOpAtAnyTarget op → op.last ≡ true → IsGoodStatement (op ∷ [])
alone op good last = record {
  front = [];
  final = op;
  whole = refl;
  parts = tt;
  few = omega arith;
  good = good;
  last = last;
}

-- ---- instructions that go on

-- what the rules say of an operand and what it names
abbrev RuleAllows : OperandRule → Operand → ResolvedOperand → Type 0
RuleAllows f (operand.Constant value) v = (takes_constant f value ≡ true) × (v ≡ resolved.Constant)
RuleAllows f _ v = rule_of_resolved_operand f v ≡ None

still_view : (o : Operand) (v : ResolvedOperand) (f : ℕ → ℕ) → operand_with_target f (flat_operand_of o v) ≡ flat_operand_of o v
unfolding flat_operand_of
still_view o v f = grind arith

by_rule : (m : Mnemonic) (o : Operand) (v : ResolvedOperand) → jump_operation_of m ≡ None → call_operation_of m ≡ None
    → end_operation_of m ≡ None → is_empty_statement m ≡ false → NumbersFit o v → rule_of_resolved_operand (operand_rule_of m) v ≡ None
    → is_instruction (operation_for m o v) (flat_operand_of o v) ≡ true
unfolding is_instruction
by_rule m o v j c e n fits rule =
    let all = taken_by_rule (operand_rule_of m) v rule in
    and_from (admits (forms_of_operation (operation_for m o v)) (flat_operand_of o v))
    (payload_fits (flat_operand_of o v))
    (operation_is_taken m o v j c e n (pointer_fits o v fits) all.taken)
    (payload_right (operand_rule_of m) o v all.side fits)

by_constant : (m : Mnemonic) (value : Literal) → IsLiteral value → HasBytes value
    → takes_constant (operand_rule_of m) value ≡ true
    → is_instruction (operation_for m (operand.Constant value) resolved.Constant)
    (flat_operand_of (operand.Constant value) resolved.Constant) ≡ true
unfolding is_instruction flat_operand_of
by_constant m value is has h = grind (arith, nat_tests, constant_taken m value is has h, bits_small value is has)

is_taken : (m : Mnemonic) (o : Operand) (v : ResolvedOperand) → jump_operation_of m ≡ None → call_operation_of m ≡ None
    → end_operation_of m ≡ None → is_empty_statement m ≡ false → IsOperand o → OperandHasBytes o → NumbersFit o v
    → RuleAllows (operand_rule_of m) o v → is_instruction (operation_for m o v) (flat_operand_of o v) ≡ true
is_taken m (operand.Constant value) v j c e n is has fits taken_by_rule =
    subst
    (λ (x : ResolvedOperand).
    is_instruction (operation_for m (operand.Constant value) x) (flat_operand_of (operand.Constant value) x)
    ≡ true)
    (sym taken_by_rule.1) (by_constant m value is has taken_by_rule.0)
is_taken m o v j c e n is has fits taken_by_rule = by_rule m o v j c e n fits taken_by_rule

allowed_by : (c : Context) (f : OperandRule) (o : Operand) (v : ResolvedOperand) → rule_of_operand c f o ≡ None
    → resolution_of c o ≡ Resolved v → RuleAllows f o v
unfolding resolution_of
allowed_by c f (operand.Constant value) v h e = grind arith
allowed_by c f o v h e = sym (ap (rule_of_resolution f) e) ∙ h

-- ---- one that opens a data block first

opened_fits : (o : Operand) (v : ResolvedOperand) → NumbersFit o v → IfSome (block_opened_by_operand v) IsWord
opened_fits o v fits = grind arith

opening_good : (n : ℕ) → IsWord n → IsGoodPart (preparing_op operation.UseDb (flat.UseDb n))
unfolding is_instruction admits
opening_good n h = record {
  good = still_good operation.UseDb false (flat.UseDb n) (λ f. refl) (word_fits n h);
  inner = refl;
}

opened_good : (use_db : Option ℕ) (w : Operation) (o : FlatOperand) → IfSome use_db IsWord
    → IsOpAtAnyTarget (op_with_end_mark w o) → IsGoodStatement (ops_of (Does use_db w o))
unfolding ops_of
opened_good None w o h good = alone (op_with_end_mark w o) good refl
opened_good (Some n) w o h good = record {
  front = use_db_ops (Some n);
  final = op_with_end_mark w o;
  whole = refl;
  parts = (opening_good n h, tt);
  few = omega arith;
  good = good;
  last = refl;
}

-- ---- calls

call_takes : (how : CallOperation) (id : BlockId) (instance : Option ℕ) → is_callable_kind id.kind ≡ true
    → IsWord id.number → IfSome instance IsWord
    → is_instruction (operation.Call how) (flat.Called (kind_number id.kind) id.number (number_or_zero instance)) ≡ true
unfolding is_instruction admits
call_takes how id instance c h k = grind (arith, nat_tests)

-- what is passed
view_passed : (o : Operand) (v : ResolvedOperand) → NumbersFit o v
    → IfSome (passed_by_operand o v) (λ p. actual_fits p ≡ true)
view_passed o v fits = grind (arith, nat_tests, direct_fits)

seen_passed : (o : Operand) (s : Resolution) → ResolvedNumbersFit o s
    → IfSome (passed_resolution o s) (λ p. actual_fits p ≡ true)
seen_passed o s fits = grind (arith, view_passed)

-- what a call passes for the parameters from an index on
record IsGoodPassing (most : ℕ) (ps : List Passing) : Type 0 where
  parts : AllByRecursion IsGoodPart (pass_ops ps)
  few : length (pass_ops ps) ≤ most

pass_takes : (index : ℕ) (a : Passed) → index < 256 → actual_fits a ≡ true
    → is_instruction operation.Pass (flat.Pass index a) ≡ true
unfolding is_instruction admits passed_coding
pass_takes index a lt fits = grind (arith, nat_tests)

pass_good : (index : ℕ) (a : Passed) → index < 256 → actual_fits a ≡ true
    → IsGoodPart (preparing_op operation.Pass (flat.Pass index a))
pass_good index a lt fits = record {
  good = still_good operation.Pass false (flat.Pass index a) (λ f. refl) (pass_takes index a lt fits);
  inner = refl;
}

abbrev IsActualOf : Context → Actual → Type 0
IsActualOf c a = ResolvedNumbersFit a.value (resolution_of c a.value)

passed_one : (c : Context) (index : ℕ) (a : Option Actual) (ps : List Passing) (n : ℕ)
    → index < 256 → IfSome a (IsActualOf c) → IsGoodPassing n ps
    → IsGoodPassing (suc n) (passed_actual c index a ++ ps)
passed_one c index None ps n lt h more = record { parts = more.parts; few = omega (arith, more.few) }
passed_one c index (Some a) ps n lt h more =
    by (passed_resolution a.value (resolution_of c a.value)) (seen_passed a.value (resolution_of c a.value) h)
  where
    by : (p : Option Passed) → IfSome p (λ p. actual_fits p ≡ true) → IsGoodPassing (suc n) (with_index index p ++ ps)
    by None k = record { parts = more.parts; few = omega (arith, more.few) }
    by (Some p) k = record { parts = (pass_good index p lt k, more.parts); few = omega (arith, more.few) }

passed_good : (c : Context) (actuals : List Actual) (index : ℕ) (formals : List Formal)
    → AllByRecursion (IsActualOf c) actuals → index + length formals ≤ 256
    → IsGoodPassing (length formals) (passings_from c actuals index formals)
passed_good c actuals index [] all few = record { parts = tt; few = omega arith }
passed_good c actuals index (f ∷ fs) all few =
    passed_one c index (actual_of_formal actuals f) (passings_from c actuals (suc index) fs) (length fs)
    (omega (arith, few))
    (found_holds (IsActualOf c) (λ a. bytes_eq (upper_case_name a.name) f.name) actuals all)
    (passed_good c actuals (suc index) fs all (omega (arith, few)))

in_order_length : (b : Option Block) (formals : List Formal)
    → length (in_parameter_order b formals) ≡ length formals
in_order_length b formals = grind (arith, turned_length)
  where
    turned_length : (xs : List Formal) → length (drop 1 xs ++ take 1 xs) ≡ length xs
    turned_length [] = refl
    turned_length (x ∷ xs) = rw length-append (omega arith)

abbrev pub HasFewFormals : Context → Statement → Type 0
HasFewFormals c s = IfSome (callee_of c s.operand) (λ callee. length callee.formals ≤ 60)

passings_good : (c : Context) (s : Statement) (callee : Option Callee)
    → AllByRecursion (IsActualOf c) s.actuals → IfSome callee (λ callee. length callee.formals ≤ 60)
    → IsGoodPassing 60 (passings_to c s callee)
passings_good c s None all few = record { parts = tt; few = omega arith }
passings_good c s (Some callee) all few =
    let ordered = in_parameter_order (source_block_at c.blocks callee.place) callee.formals in
    let same = in_order_length (source_block_at c.blocks callee.place) callee.formals in
    let good = passed_good c s.actuals 0 ordered all (omega (arith, same, few)) in
    record { parts = good.parts; few = omega (arith, good.few, same, few) }

-- ---- statements

filler_good : IsGoodStatement (ops_of filler_instruction)
unfolding ops_of is_instruction admits
filler_good =
    alone (op_with_end_mark operation.Nop (flat.Literal 0))
    (still_good operation.Nop true (flat.Literal 0) (λ f. refl) refl) refl

jump_good : (how : JumpOperation) (n target : ℕ) → IsGoodStatement (ops_of (jump_instr how n target))
jump_good how n target =
    subst IsGoodStatement (sym (jump_ops how n target))
    (alone (jump_op how target)
    (λ f small. operation_is_op operation.Jump (flat.Jump (jump_number how) (f target)) (jumps how (f target) (small target)))
    refl)

end_takes : (how : EndOperation) → is_instruction (operation.End how) flat.Nothing ≡ true
unfolding is_instruction admits
end_takes how = grind arith

pub end_good : (how : EndOperation) → IsGoodStatement (ops_of (Returns how))
unfolding ops_of
end_good how =
    alone (end_op how)
    (still_good (operation.End how) true flat.Nothing (λ f. refl) (end_takes how)) refl

-- what a statement needs of its source
pub record IsGoodSource (c : Context) (s : Statement) : Type 0 where
  pub formed : IsStatement s
  pub has : StatementHasBytes s
  pub callee : HasFewFormals c s

actual_seen : (c : Context) (actuals : List Actual) → ContextFits c → AreActuals actuals
    → AllByRecursion (λ a. OperandHasBytes a.value) actuals → AllByRecursion (IsActualOf c) actuals
actual_seen c [] fit are has = tt
actual_seen c (a ∷ actuals) fit are has =
    (seen_fits c a.value fit are.0.value has.0, actual_seen c actuals fit are.1 has.1)

call_view_good : (c : Context) (s : Statement) (how : CallOperation) (v : ResolvedOperand) → ContextFits c
    → IsGoodSource c s → NumbersFit s.operand v → rule_of_resolved_operand operand_rules.Calls v ≡ None
    → IsGoodStatement (ops_of (call_instr c s how v))
unfolding ops_of
call_view_good c s how (resolved.Called id instance) fit good fits rule =
    let passed = passings_good c s (callee_of c s.operand)
    (actual_seen c s.actuals fit good.formed.actuals good.has.actuals) good.callee in
    record {
      front = pass_ops (passings_to c s (callee_of c s.operand));
      final = call_op how id instance;
      whole = refl;
      parts = passed.parts;
      few = omega (arith, passed.few);
      good = still_good (operation.Call how) true
          (flat.Called (kind_number id.kind) id.number (number_or_zero instance)) (λ f. refl)
          (call_takes how id instance (rule_callable id instance rule) fits.0 fits.1);
      last = refl;
    }
call_view_good c s how _ fit good fits rule = filler_good

view_good : (c : Context) (s : Statement) (v : ResolvedOperand) → ContextFits c → IsGoodSource c s
    → is_empty_statement s.code ≡ false → jump_operation_of s.code ≡ None → statement_rule c s ≡ None
    → resolution_of c s.operand ≡ Resolved v → IsGoodStatement (ops_of (operand_instr c s v (call_operation_of s.code)))
view_good c s v fit good some no_jump rule e = by (call_operation_of s.code) refl
  where
    fits : NumbersFit s.operand v
    fits =
        subst (ResolvedNumbersFit s.operand) e (seen_fits c s.operand fit good.formed.value good.has.operand)

    ended : (end : Option EndOperation) → call_operation_of s.code ≡ None → end_operation_of s.code ≡ end
        → IsGoodStatement (ops_of (end_instr s v end))
    ended (Some how) no_call is = end_good how
    ended None no_call is =
        opened_good (block_opened_by_operand v) (operation_for s.code s.operand v) (flat_operand_of s.operand v)
        (opened_fits s.operand v fits)
        (still_good (operation_for s.code s.operand v) true (flat_operand_of s.operand v)
        (still_view s.operand v)
        (is_taken s.code s.operand v no_jump no_call is some good.formed.value good.has.operand fits
        (allowed_by c (operand_rule_of s.code) s.operand v rule e)))

    by : (how : Option CallOperation) → call_operation_of s.code ≡ how
        → IsGoodStatement (ops_of (operand_instr c s v how))
    by (Some how) is =
        call_view_good c s how v fit good fits
        (rule_there c operand_rules.Calls s.operand v no_call_constant
        (ap (λ (f : OperandRule). rule_of_operand c f s.operand) (sym (call_form s.code how is)) ∙ rule) e)
    by None is = ended (end_operation_of s.code) is refl

record IsResolved (c : Context) (s : Statement) (v : ResolvedOperand) : Type 0 where
  rule : statement_rule c s ≡ None
  resolves : resolution_of c s.operand ≡ Resolved v

resolved_parts : (c : Context) (s : Statement) (v : ResolvedOperand) → resolved_operand c s ≡ Some v
    → IsResolved c s v
unfolding resolved_operand
resolved_parts c s v e = grind arith

-- the ops of a statement are good
pub statement_good : (c : Context) (body : List Statement) (n : ℕ) (s : Statement) → ContextFits c
    → IsGoodSource c s → is_empty_statement s.code ≡ false
    → IsGoodStatement (ops_of (instruction c body n s))
unfolding instruction
statement_good c body n s fit good some = by (jump_operation_of s.code) refl
  where
    resolves : (v : Option ResolvedOperand) → jump_operation_of s.code ≡ None → resolved_operand c s ≡ v
        → IsGoodStatement (ops_of (resolved_instr c s v))
    resolves None no_jump e = filler_good
    resolves (Some v) no_jump e =
        let r = resolved_parts c s v e in view_good c s v fit good some no_jump r.rule r.resolves

    by : (how : Option JumpOperation) → jump_operation_of s.code ≡ how
        → IsGoodStatement (ops_of (instr_by c body n s how))
    by (Some how) is = jump_good how n (target_of body s.operand)
    by None is = resolves (resolved_operand c s) is refl
