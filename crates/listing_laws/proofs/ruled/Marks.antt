-- The listed body of a block has the words of the block's own body, on its lines.
use Rattle.std.proofs.Common.{◌≡◌, ℕ, suc, ◌+◌, ◌<◌, Bool, true, false, List, [], ◌∷◌, ◌++◌, append-nil, length, length-append, map, Option, Some, None, if◌then◌else◌, refl, sym, ap, ◌∙◌, arith}
use Rattle.std.specs.List.{AllByRecursion}
use Rattle.std.proofs.lemmas.Bool.{eq-eqb, ne_eqb}
use Rattle.flat_code.specs.Instr.{Instr}
use Rattle.flat_code.specs.declared.kinds.JumpOperation.{JumpOperation}
use Rattle.flat_code.specs.declared.operations.CallOperation.{CallOperation}
use Rattle.flat_code.specs.declared.operations.EndOperation.{EndOperation}
use Rattle.stl_ast.specs.Statements.{IsStatement, is_call, is_empty_statement}
use Rattle.stl_ast.specs.declared.mnemonics.Mnemonic.{Mnemonic}
use Rattle.stl_ast.specs.declared.mnemonics.Mnemonic.TheVariants as code
use Rattle.stl_ast.specs.declared.operands.Operand.TheVariants as operand
use Rattle.stl_ast.specs.declared.statements.Statement.{Statement}
use Rattle.stl_types.specs.Context.{Context}
use Rattle.stl_types.specs.OperandRules.{operand_rule_of}
use Rattle.stl_types.specs.Kinds.{is_operand_of_call as is_called_view}
use Rattle.stl_types.specs.ResolvedStatement.{resolved_operand}
use Rattle.stl_types.specs.declared.resolved_operands.ResolvedOperand.{ResolvedOperand}
use Rattle.stl_types.specs.declared.resolved_operands.ResolvedOperand.TheVariants as resolved
use Rattle.stl_codegen.specs.CompiledBlock.{SourceInstruction, StatedBlock, compiled_block, lines_in}
use Rattle.stl_codegen.specs.GeneratedProgram.{return_statement, instructions_from, statements_of}
use Rattle.stl_codegen.specs.Instruction.{call_instr, instr_by, instruction, resolved_instr, target_of, operand_instr}
use Rattle.stl_codegen.specs.Operations.{call_operation_of, end_operation_of, jump_operation_of}
use Rattle.stl_list.specs.Lines.{line_of_statement}
use Rattle.stl_list.specs.Mnemonics.{mnemonic_of}
use Rattle.stl_list.specs.Runs.{StatementOps}
use Rattle.stl_list.specs.Signatures.{Signature}
use Rattle.stl_list.specs.Statements.{ListingContext, body_of, label_at, label_of_end, listed_statement, statement_at, statements_from, listing_context}
use Rattle.listing_laws.specs.Nesting.{AreListedNestingsKept, AreMarksKept, IsReadable, NestingMark, nesting_mark_of, nesting_marks}
use Rattle.listing_laws.specs.Statements.{statement_offset, run_of}
use Rattle.listing_laws.proofs.RunLemmas.{runs_found}
use Rattle.listing_laws.proofs.WordLemmas.{call_words_found, end_words_found}
use Rattle.listing_laws.proofs.ruled.Calling.{no_jump, rule_called, same_kind}
use Rattle.listing_laws.proofs.ruled.Instructions.{acting_word, comes_to, jump_instruction, leap_word, rule_broken, what_seen}
use Rattle.listing_laws.proofs.ruled.Nesting.{nestings_kept}
use Rattle.listing_laws.proofs.ruled.Rules.{taken_view}

-- ---- words

abbrev pub IsWorded : (ℕ → ℕ) → Mnemonic → Instr → Type 0
IsWorded f m i = mnemonic_of (run_of f i).op ≡ m

pub calls_block : (m : Mnemonic) (how : CallOperation) → call_operation_of m ≡ Some how → is_call m ≡ true
calls_block code.Call how h = refl
calls_block code.Uc how h = refl
calls_block code.Cc how h = refl
calls_block _ how h = absurd cc

called_word : (c : Context) (f : ℕ → ℕ) (s : Statement) (how : CallOperation) (v : ResolvedOperand) → call_operation_of s.code ≡ Some how → is_called_view v ≡ true → IsWorded f s.code (call_instr c s how v)
called_word c f s how (resolved.Called id instance) h e = call_words_found s.code how h
called_word c f s how _ h e = absurd cc

pub call_comes : (c : Context) (body : List Statement) (n : ℕ) (s : Statement) (v : ResolvedOperand) (how : CallOperation) → call_operation_of s.code ≡ Some how → resolved_operand c s ≡ Some v → instruction c body n s ≡ call_instr c s how v
unfolding instruction
call_comes c body n s v how h e = ap (instr_by c body n s) (no_jump s.code how h) ∙ ap (resolved_instr c s) e ∙ ap (operand_instr c s v) h

word_by_view : (c : Context) (body : List Statement) (n : ℕ) (f : ℕ → ℕ) (s : Statement) (v : ResolvedOperand) → IsStatement s → is_empty_statement s.code ≡ false → jump_operation_of s.code ≡ None → resolved_operand c s ≡ Some v
    → IsWorded f s.code (instruction c body n s)
word_by_view c body n f s v is some jumps e = by_call (call_operation_of s.code) refl
  where
    by_end : (ending : Option EndOperation) → call_operation_of s.code ≡ None → end_operation_of s.code ≡ ending → IsWorded f s.code (instruction c body n s)
    by_end None calls ends = rw (comes_to c body n s v None jumps calls ends e) (acting_word f s.code s.operand v some jumps calls ends)
    by_end (Some how) calls ends = rw (comes_to c body n s v (Some how) jumps calls ends e) (end_words_found s.code how ends)

    by_call : (how : Option CallOperation) → call_operation_of s.code ≡ how → IsWorded f s.code (instruction c body n s)
    by_call None calls = by_end (end_operation_of s.code) calls refl
    by_call (Some how) calls =
        let rule = rule_called c (operand_rule_of s.code) s.operand v (is.called ∙ calls_block s.code how calls) (rule_broken c s v e) (what_seen c s v e) in
        rw (call_comes c body n s v how calls e) (called_word c f s how v calls (same_kind s.code how v calls (taken_view (operand_rule_of s.code) v rule)))

pub word_is : (c : Context) (body : List Statement) (n : ℕ) (f : ℕ → ℕ) (s : Statement) → IsReadable c s → is_empty_statement s.code ≡ false → IsWorded f s.code (instruction c body n s)
word_is c body n f s is some = by_jump (jump_operation_of s.code) refl
  where
    by_view : (found : Option ResolvedOperand) → jump_operation_of s.code ≡ None → resolved_operand c s ≡ found → IsWorded f s.code (instruction c body n s)
    by_view None jumps e = absurd (is.resolves some e)
    by_view (Some v) jumps e = word_by_view c body n f s v is.statement some jumps e

    by_jump : (how : Option JumpOperation) → jump_operation_of s.code ≡ how → IsWorded f s.code (instruction c body n s)
    by_jump None e = by_view (resolved_operand c s) e refl
    by_jump (Some how) e = rw (jump_instruction c body n s how e) (leap_word f s.code how n (target_of body s.operand) e)

-- ---- the marks of statements

abbrev stated_mark : (ℕ → ℕ) → SourceInstruction → List NestingMark
stated_mark f s = nesting_mark_of (record { line = s.line; code = mnemonic_of (run_of f s.instr).op; label = None; operand = operand.Nothing; actuals = [] })

abbrev stated_marks : (ℕ → ℕ) → List SourceInstruction → List NestingMark
stated_marks f [] = []
stated_marks f (s ∷ ss) = stated_mark f s ++ stated_marks f ss

mark_kept : (f : ℕ → ℕ) (m : Mnemonic) (line : ℕ) (i : Instr) → is_empty_statement m ≡ false → IsWorded f m i → stated_mark f (record { instr = i; line = line }) ≡ record { code = m; line = line } ∷ []
mark_kept f m line i some e =
    ap (λ (x : Mnemonic). nesting_mark_of (record { line = line; code = x; label = None; operand = operand.Nothing; actuals = [] })) e
    ∙ ap (λ (b : Bool). if b then [] else record { code = m; line = line } ∷ []) some

source_marks : (c : Context) (body : List Statement) (n : ℕ) (f : ℕ → ℕ) (ss : List Statement) → AllByRecursion (IsReadable c) ss → stated_marks f (instructions_from c body n ss) ≡ nesting_marks ss
source_marks c body n f [] h = refl
source_marks c body n f (s ∷ ss) h = by (is_empty_statement s.code) refl (source_marks c body n f ss h.1) (source_marks c body (suc n) f ss h.1)
  where
    by : (b : Bool) → is_empty_statement s.code ≡ b → stated_marks f (instructions_from c body n ss) ≡ nesting_marks ss → stated_marks f (instructions_from c body (suc n) ss) ≡ nesting_marks ss
        → stated_marks f (if b then instructions_from c body n ss else record { instr = instruction c body n s; line = s.line } ∷ instructions_from c body (suc n) ss)
        ≡ (if b then [] else record { code = s.code; line = s.line } ∷ []) ++ nesting_marks ss
    by true e here next = here
    by false e here next =
        ap (λ (ms : List NestingMark). ms ++ stated_marks f (instructions_from c body (suc n) ss)) (mark_kept f s.code s.line (instruction c body n s) e (word_is c body n f s h.0 e))
        ∙ ap (λ (ms : List NestingMark). record { code = s.code; line = s.line } ∷ ms) next

-- ---- the listed statements

-- the lines from a number on
abbrev pub AreLinesAt : List ℕ → (k : ℕ) → List SourceInstruction → Type 0
AreLinesAt lines k ss = (j : ℕ) → line_of_statement lines (k + j) ≡ line_of_statement (lines_in ss) j

last_marks : (line : ℕ) (label : Option (List ℕ)) → nesting_marks (label_of_end line label) ≡ []
last_marks line None = refl
last_marks line (Some label) = refl

last_statement : (sur : ListingContext) (k : ℕ) (r : StatementOps) → length sur.lines ≡ suc k → nesting_marks (statement_at sur k r ++ []) ≡ []
unfolding statement_at
last_statement sur k r size =
    ap (λ (b : Bool). nesting_marks ((if b then label_of_end (line_of_statement sur.lines k) (label_at sur.targets k) else listed_statement sur k r ∷ []) ++ [])) (eq-eqb (suc k) (length sur.lines) (sym size))
    ∙ ap nesting_marks (append-nil (label_of_end (line_of_statement sur.lines k) (label_at sur.targets k)))
    ∙ last_marks (line_of_statement sur.lines k) (label_at sur.targets k)

next_statement : (sur : ListingContext) (k : ℕ) (r : StatementOps) (rest : List Statement) → suc k < length sur.lines
    → nesting_marks (statement_at sur k r ++ rest) ≡ nesting_mark_of (record { line = line_of_statement sur.lines k; code = mnemonic_of r.op; label = None; operand = operand.Nothing; actuals = [] }) ++ nesting_marks rest
unfolding statement_at
next_statement sur k r rest more =
    ap (λ (b : Bool). nesting_marks ((if b then label_of_end (line_of_statement sur.lines k) (label_at sur.targets k) else listed_statement sur k r ∷ []) ++ rest)) (ne_eqb (suc k) (length sur.lines) (λ e. omega (arith, e, more)))

abbrev pub run_all : (ℕ → ℕ) → List SourceInstruction → List StatementOps
run_all f ss = map (λ s. run_of f s.instr) ss

listed_marks : (sur : ListingContext) (f : ℕ → ℕ) (k : ℕ) (ss : List SourceInstruction) (last : SourceInstruction) → length sur.lines ≡ k + length ss + 1 → AreLinesAt sur.lines k (ss ++ last ∷ [])
    → nesting_marks (statements_from sur k (run_all f (ss ++ last ∷ []))) ≡ stated_marks f ss
listed_marks sur f k [] last size lines = last_statement sur k (run_of f last.instr) (omega (arith, size))
listed_marks sur f k (s ∷ ss) last size lines =
    next_statement sur k (run_of f s.instr) (statements_from sur (suc k) (run_all f (ss ++ last ∷ []))) (omega (arith, size))
    ∙ ap (λ (line : ℕ). nesting_mark_of (record { line = line; code = mnemonic_of (run_of f s.instr).op; label = None; operand = operand.Nothing; actuals = [] }) ++ nesting_marks (statements_from sur (suc k) (run_all f (ss ++ last ∷ [])))) (ap (line_of_statement sur.lines) (none_more k) ∙ lines 0)
    ∙ ap (λ (ms : List NestingMark). stated_mark f s ++ ms) (listed_marks sur f (suc k) ss last (omega (arith, size)) (λ j. ap (line_of_statement sur.lines) (one_more k j) ∙ lines (suc j)))
  where
    none_more : (k : ℕ) → k ≡ k + 0
    none_more k = omega arith

    one_more : (k j : ℕ) → suc k + j ≡ k + suc j
    one_more k j = omega arith

pub lines_length : (ss : List SourceInstruction) → length (lines_in ss) ≡ length ss
lines_length [] = refl
lines_length (s ∷ ss) = ap suc (lines_length ss)

pub from_start : (k : ℕ) → 0 + k ≡ k
from_start k = omega arith

pub behind_start : (n : ℕ) → n + 1 ≡ 0 + n + 1
behind_start n = omega arith

body_marks : (signatures : List Signature) (b : StatedBlock) (ss : List SourceInstruction) (last : SourceInstruction) → b.statements ≡ ss ++ last ∷ []
    → nesting_marks (body_of signatures (lines_in b.statements) (compiled_block b)) ≡ stated_marks (statement_offset b.statements) ss
unfolding body_of
body_marks signatures b ss last e =
    let sur = listing_context signatures (lines_in b.statements) (compiled_block b) in
    let f = statement_offset b.statements in
    let size : length sur.lines ≡ 0 + length ss + 1 = lines_length b.statements ∙ ap length e ∙ length-append ss (last ∷ []) ∙ behind_start (length ss) in
    ap (λ (rs : List StatementOps). nesting_marks (statements_from sur 0 rs)) (runs_found b.statements)
    ∙ ap (λ (xs : List SourceInstruction). nesting_marks (statements_from sur 0 (run_all f xs))) e
    ∙ listed_marks sur f 0 ss last size (λ j. ap (line_of_statement (lines_in b.statements)) (from_start j) ∙ ap (λ (xs : List SourceInstruction). line_of_statement (lines_in xs) j) e)

pub marks_kept : AreMarksKept
unfolding statements_of
marks_kept c b stated signatures h e =
    body_marks signatures stated (instructions_from c b.body 0 b.body) (return_statement b) e
    ∙ source_marks c b.body 0 (statement_offset stated.statements) b.body h

pub listed_nestings_kept : AreListedNestingsKept
listed_nestings_kept c b stated signatures h e =
    nestings_kept (body_of signatures (lines_in stated.statements) (compiled_block stated)) b.body (marks_kept c b stated signatures h e)
