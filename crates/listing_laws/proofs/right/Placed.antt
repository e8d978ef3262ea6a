-- The statements of a listed body stand in the places of those of the source.
use Rattle.std.proofs.Common.{◌≡◌, ℕ, suc, ◌+◌, ◌<◌, ◌≤◌, Bool, true, false, List, [], ◌∷◌, ◌++◌, append-nil, length, length-append, Option, Some, None, if◌then◌else◌, refl, sym, ap, subst, ◌∙◌, arith}
use Rattle.std.specs.Prelude.{min, not, slice_get, unwrap_or, ◌||◌}
use Rattle.std.specs.List.{AllByRecursion, count_by, list_any}
use Rattle.std.specs.Option.{is_none}
use Rattle.std.proofs.lemmas.Bool.{eq-eqb, ltb-false, ne_eqb}
use Rattle.flat_code.specs.Instr.{Instr}
use Rattle.flat_code.specs.declared.kinds.JumpOperation.{JumpOperation}
use Rattle.flat_code.specs.declared.kinds.JumpOperation.TheVariants as jump
use Rattle.flat_code.specs.declared.operations.CallOperation.{CallOperation}
use Rattle.stl_ast.specs.Literals.{AreBytes}
use Rattle.stl_ast.specs.Statements.{IsStatement, is_empty_statement}
use Rattle.stl_ast.specs.declared.blocks.Block.{Block}
use Rattle.stl_ast.specs.declared.blocks.Tree.{Tree}
use Rattle.stl_ast.specs.declared.operands.Operand.{Operand}
use Rattle.stl_ast.specs.declared.operands.Operand.TheVariants as operand
use Rattle.stl_ast.specs.declared.statements.Statement.{Statement}
use Rattle.stl_symbols.specs.Symbol.{Symbol}
use Rattle.block_layout.specs.Measures.{types_of_source}
use Rattle.block_layout.specs.Rule55.{has_too_many_statements}
use Rattle.block_layout.specs.Types.{Types}
use Rattle.block_layout.specs.declared.blocks.BlockLayout.{BlockLayout}
use Rattle.plc_base.specs.declared.blocks.BlockId.{BlockId}
use Rattle.stl_types.specs.Context.{Context}
use Rattle.stl_types.specs.Resolution.{resolution_of}
use Rattle.stl_types.specs.ResolvedStatement.{resolved_operand, operand_if_resolved}
use Rattle.stl_types.specs.declared.resolved_operands.Resolution.TheVariants.{Resolved}
use Rattle.stl_types.specs.declared.resolved_operands.ResolvedOperand.{ResolvedOperand}
use Rattle.stl_types.specs.declared.resolved_operands.ResolvedOperand.TheVariants as resolved
use Rattle.stl_codegen.specs.Bodies.{count_of_statements}
use Rattle.stl_codegen.specs.CompiledBlock.{SourceInstruction, StatedBlock, compiled_block, lines_in}
use Rattle.stl_codegen.specs.GeneratedProgram.{code_block, return_statement, instructions_from, statements_of}
use Rattle.stl_codegen.specs.Instruction.{instr_by, instruction, jump_instr, resolved_instr, target_in, target_of}
use Rattle.stl_codegen.specs.Operations.{call_operation_of, jump_operation_of}
use Rattle.stl_list.specs.CodeBlocks.{listed_block}
use Rattle.stl_list.specs.Labels.{label_of_number}
use Rattle.stl_list.specs.Lines.{line_of_statement}
use Rattle.stl_list.specs.Runs.{StatementOps}
use Rattle.stl_list.specs.Signatures.{Signature}
use Rattle.stl_list.specs.Statements.{ListingContext, body_of, label_at, label_of_end, listed_statement, statement_at, statements_from, listing_context}
use Rattle.sem_kept.specs.AcceptedSource.{IsAccepted, program_in}
use Rattle.sem_kept.specs.SettledStatements.{HasInstruction, HasLabel, HasOperand, IsResolvedStatement}
use Rattle.sem_kept.proofs.accepted.Accepted.{IsSoundBlock, IsSoundStatement, right_tree, sound_at}
use Rattle.sem_kept.proofs.accepted.OperandsInstr.{resolved_is}
use Rattle.sem_kept.proofs.accepted.Settled.{statements_settle}
use Rattle.sem_kept.proofs.accepted.Shared.{stated_count as source_count}
use Rattle.listing_laws.specs.ListedSource.{IsMadeOf, source_context_at}
use Rattle.listing_laws.specs.ListedDeclarations.{signatures_in}
use Rattle.listing_laws.specs.Nesting.{IsReadable}
use Rattle.listing_laws.specs.Statements.{jumps_to, statement_offset, run_of}
use Rattle.listing_laws.proofs.EndLemmas.{statements_free}
use Rattle.listing_laws.proofs.RunLemmas.{numbers_found, runs_found, targets_found}
use Rattle.listing_laws.proofs.right.Numbered.{ArePlaced, IsAgain, IsJumpAgain, IsNoLabel, IsPlaced, numbered_from}
use Rattle.listing_laws.proofs.ruled.Instructions.{jump_instruction, leap_operand}
use Rattle.listing_laws.proofs.ruled.Marks.{AreLinesAt, from_start, lines_length, run_all, word_is}
use Rattle.listing_laws.proofs.ruled.Reached.{no_unknown, one}
use Rattle.listing_laws.proofs.ruled.Within.{Stays, resolved_stays, stated_count, target_low}

-- ---- a statement that is settled

pub labels_seen : (c : Context) (name : List ℕ) → resolution_of c (operand.Label name) ≡ Resolved resolved.Label
unfolding resolution_of
labels_seen c name = refl

some_view : (c : Context) (body : List Statement) (s : Statement) → IsResolvedStatement c body s → resolved_operand c s ≡ operand_if_resolved (resolution_of c s.operand) → (v : ResolvedOperand) × (resolved_operand c s ≡ Some v)
some_view c body s h e = by (jump_operation_of s.code) h.instruction
  where
    by_call : (how : Option CallOperation) → HasOperand c s how → (v : ResolvedOperand) × (resolved_operand c s ≡ Some v)
    by_call None o = o
    by_call (Some how) o = (resolved.Called o.id o.instance, o.called)

    by : (how : Option JumpOperation) → HasInstruction c body s how → (v : ResolvedOperand) × (resolved_operand c s ≡ Some v)
    by None o = by_call (call_operation_of s.code) o
    by (Some how) o = (resolved.Label, e ∙ ap (λ (x : Operand). operand_if_resolved (resolution_of c x)) o.is ∙ ap operand_if_resolved (labels_seen c o.name))

not_none : {A : Type 0} (x : A) → None ≡ Some x → ⊥
not_none x e = absurd cc

pub readable : (y : Types) (c : Context) (body : List Statement) (s : Statement) → IsResolvedStatement c body s → IsSoundStatement y c s → IsReadable c s
readable y c body s h sound =
    let found = some_view c body s h (resolved_is c s sound.allowed) in
    record { statement = sound.well_formed; resolves = λ some e. not_none found.0 (sym e ∙ found.1) }

pub all_readable : (y : Types) (c : Context) (body ss : List Statement) → AllByRecursion (IsResolvedStatement c body) ss → AllByRecursion (IsSoundStatement y c) ss → AllByRecursion (IsReadable c) ss
all_readable y c body [] h k = tt
all_readable y c body (s ∷ ss) h k = (readable y c body s h.0 k.0, all_readable y c body ss h.1 k.1)

-- ---- the statement of a listing in its place

abbrev pub listed_as : ListingContext → (ℕ → ℕ) → Context → (body : List Statement) → (k : ℕ) → Statement → Statement
listed_as sur f c body k s = listed_statement sur k (run_of f (instruction c body k s))

jumps_there : (how : JumpOperation) (k n : ℕ) → jumps_to n (jump_instr how k n) ≡ true
jumps_there jump.Jl k n = eq-eqb n n refl
jumps_there _ k n = eq-eqb n n refl

abbrev pub any_to : (t : ℕ) → List SourceInstruction → Bool
any_to t ss = list_any (λ s. jumps_to t s.instr) ss

or_left : (a b : Bool) → a ≡ true → (a || b) ≡ true
or_left true b e = refl
or_left false b e = absurd cc

or_right : (a b : Bool) → b ≡ true → (a || b) ≡ true
or_right true b e = refl
or_right false b e = e

least_is : (t n : ℕ) → t < n → min t n ≡ t
least_is t n h = omega (arith, h)

never : false ≡ true → ⊥
never e = absurd cc

-- what is known of the statements of a block: how many there are
record IsCounted (body : List Statement) (statements : List SourceInstruction) : Type 0 where
  size : length statements ≡ suc (count_of_statements body)
  few : length statements ≤ 93312

jump_again : (signatures : List Signature) (b : StatedBlock) (c : Context) (body : List Statement) (k : ℕ) (s : Statement) (how : JumpOperation)
    → IsCounted body b.statements → jump_operation_of s.code ≡ Some how → HasLabel body s
    → ((t : ℕ) → jumps_to t (instruction c body k s) ≡ true → any_to t b.statements ≡ true)
    → IsJumpAgain body (listing_context signatures (lines_in b.statements) (compiled_block b)).targets s
    (listed_as (listing_context signatures (lines_in b.statements) (compiled_block b)) (statement_offset b.statements) c body k s)
jump_again signatures b c body k s how counted h label into = record {
  name = label.name;
  is = label.is;
  known = ap is_none label.there;
  leads =
      ap (λ (i : Instr). (listed_statement sur k (run_of f i)).operand) is
      ∙ leap_operand sur k f how k n
      ∙ ap (λ (x : ℕ). operand.Label (label_of_number x)) (numbers_found b.statements n ∙ least_is n (length b.statements) low);
  marked = targets_found b.statements n low ∙ into n (ap (jumps_to n) is ∙ jumps_there how k n);
  few = let few = counted.few in omega (arith, low, few);
}
  where
    sur : ListingContext
    sur = listing_context signatures (lines_in b.statements) (compiled_block b)

    f : ℕ → ℕ
    f = statement_offset b.statements

    n : ℕ
    n = target_in label.name body

    low : target_in label.name body < length b.statements
    low = let low = target_low label.name body in let size = counted.size in omega (arith, low, size)

    is : instruction c body k s ≡ jump_instr how k n
    is = jump_instruction c body k s how h ∙ ap (λ (o : Operand). jump_instr how k (target_of body o)) label.is

other_instr : (c : Context) (body : List Statement) (k : ℕ) (s : Statement) → jump_operation_of s.code ≡ None → instruction c body k s ≡ resolved_instr c s (resolved_operand c s)
unfolding instruction
other_instr c body k s h = ap (instr_by c body k s) h

other_stays : (c : Context) (body : List Statement) (k : ℕ) (s : Statement) → jump_operation_of s.code ≡ None → Stays (instruction c body k s)
other_stays c body k s h n = ap (jumps_to n) (other_instr c body k s h) ∙ resolved_stays c s (resolved_operand c s) n

other_again : (sur : ListingContext) (f : ℕ → ℕ) (c : Context) (body : List Statement) (k : ℕ) (s : Statement) → jump_operation_of s.code ≡ None → IsNoLabel (listed_as sur f c body k s).operand
other_again sur f c body k s h =
    no_unknown [] sur.formals sur.starts _ _ (run_of f (instruction c body k s)).op.operand
    (one [] sur.starts f (instruction c body k s) (λ t e. absurd (never (sym (other_stays c body k s h t) ∙ e))))

settled_label : (c : Context) (body : List Statement) (s : Statement) (how : JumpOperation) → IsResolvedStatement c body s → jump_operation_of s.code ≡ Some how → HasLabel body s
settled_label c body s how h e = subst (HasInstruction c body s) e h.instruction

again_here : (signatures : List Signature) (b : StatedBlock) (y : Types) (c : Context) (body : List Statement) (k : ℕ) (s : Statement)
    → IsCounted body b.statements → IsResolvedStatement c body s → IsSoundStatement y c s → is_empty_statement s.code ≡ false → line_of_statement (lines_in b.statements) k ≡ s.line
    → ((t : ℕ) → jumps_to t (instruction c body k s) ≡ true → any_to t b.statements ≡ true)
    → IsAgain body (listing_context signatures (lines_in b.statements) (compiled_block b)).targets k s
    (listed_as (listing_context signatures (lines_in b.statements) (compiled_block b)) (statement_offset b.statements) c body k s)
again_here signatures b y c body k s counted h sound some line into = record {
  word = word_is c body k (statement_offset b.statements) s (readable y c body s h sound) some;
  line = line;
  label = refl;
  jump = λ how e. jump_again signatures b c body k s how counted e (settled_label c body s how h e) into;
  plain = other_again (listing_context signatures (lines_in b.statements) (compiled_block b)) (statement_offset b.statements) c body k s;
}

-- ---- all of them

none_more : (k : ℕ) → k ≡ k + 0
none_more k = omega arith

one_more : (k j : ℕ) → suc k + j ≡ k + suc j
one_more k j = omega arith

placed_from : (signatures : List Signature) (b : StatedBlock) (y : Types) (c : Context) (body : List Statement) (k : ℕ) (ss : List Statement) (last : SourceInstruction)
    → IsCounted body b.statements → AllByRecursion (IsResolvedStatement c body) ss → AllByRecursion (IsSoundStatement y c) ss
    → AreLinesAt (lines_in b.statements) k (instructions_from c body k ss ++ last ∷ [])
    → ((t : ℕ) → any_to t (instructions_from c body k ss) ≡ true → any_to t b.statements ≡ true)
    → ArePlaced body (listing_context signatures (lines_in b.statements) (compiled_block b)).targets
    (listed_as (listing_context signatures (lines_in b.statements) (compiled_block b)) (statement_offset b.statements) c body) k ss
placed_from signatures b y c body k [] last counted h sound lines into = tt
placed_from signatures b y c body k (s ∷ ss) last counted h sound lines into =
    by (is_empty_statement s.code) refl lines into (λ j l m. placed_from signatures b y c body j ss last counted h.1 sound.1 l m)
  where
    marks : List Bool
    marks = (listing_context signatures (lines_in b.statements) (compiled_block b)).targets

    again : ℕ → Statement → Statement
    again = listed_as (listing_context signatures (lines_in b.statements) (compiled_block b)) (statement_offset b.statements) c body

    here : SourceInstruction
    here = record { instr = instruction c body k s; line = s.line }

    by : (none : Bool) → is_empty_statement s.code ≡ none
        → AreLinesAt (lines_in b.statements) k ((if none then instructions_from c body k ss else here ∷ instructions_from c body (suc k) ss) ++ last ∷ [])
        → ((t : ℕ) → any_to t (if none then instructions_from c body k ss else here ∷ instructions_from c body (suc k) ss) ≡ true → any_to t b.statements ≡ true)
        → ((j : ℕ) → AreLinesAt (lines_in b.statements) j (instructions_from c body j ss ++ last ∷ []) → ((t : ℕ) → any_to t (instructions_from c body j ss) ≡ true → any_to t b.statements ≡ true) → ArePlaced body marks again j ss)
        → IsPlaced body marks again k s × ArePlaced body marks again (if none then k else suc k) ss
    by true w l m more = (record { some = λ e. absurd (never (sym e ∙ w)); bare = sound.0.well_formed.unlabelled }, more k l m)
    by false w l m more = (
      record {
        some = λ e.
            again_here signatures b y c body k s counted h.0 sound.0 w (ap (line_of_statement (lines_in b.statements)) (none_more k) ∙ l 0)
            (λ t e. m t (or_left (jumps_to t here.instr) (any_to t (instructions_from c body (suc k) ss)) e));
        bare = sound.0.well_formed.unlabelled;
      },
      more (suc k) (λ j. ap (line_of_statement (lines_in b.statements)) (one_more k j) ∙ l (suc j))
          (λ t e. m t (or_right (jumps_to t here.instr) (any_to t (instructions_from c body (suc k) ss)) e)),
    )

-- ---- the body is these statements

end_none : (sur : ListingContext) (n k : ℕ) (r : StatementOps) → length sur.lines ≡ suc n → k ≡ n → label_at sur.targets n ≡ None → statement_at sur k r ++ [] ≡ []
unfolding statement_at
end_none sur n k r size e free =
    ap (λ (b : Bool). (if b then label_of_end (line_of_statement sur.lines k) (label_at sur.targets k) else listed_statement sur k r ∷ []) ++ []) (eq-eqb (suc k) (length sur.lines) (ap suc e ∙ sym size))
    ∙ append-nil (label_of_end (line_of_statement sur.lines k) (label_at sur.targets k))
    ∙ ap (label_of_end (line_of_statement sur.lines k)) (ap (label_at sur.targets) e ∙ free)

next_one : (sur : ListingContext) (k : ℕ) (r : StatementOps) (rest : List Statement) → suc k < length sur.lines → statement_at sur k r ++ rest ≡ listed_statement sur k r ∷ rest
unfolding statement_at
next_one sur k r rest more =
    ap (λ (b : Bool). (if b then label_of_end (line_of_statement sur.lines k) (label_at sur.targets k) else listed_statement sur k r ∷ []) ++ rest) (ne_eqb (suc k) (length sur.lines) (λ e. omega (arith, e, more)))

numbered_all : (sur : ListingContext) (f : ℕ → ℕ) (c : Context) (body : List Statement) (n k : ℕ) (ss : List Statement) (last : SourceInstruction)
    → length sur.lines ≡ suc n → n ≡ k + count_of_statements ss → label_at sur.targets n ≡ None
    → statements_from sur k (run_all f (instructions_from c body k ss ++ last ∷ [])) ≡ numbered_from (listed_as sur f c body) k ss
numbered_all sur f c body n k [] last size count free = end_none sur n k (run_of f last.instr) size (omega (arith, count)) free
numbered_all sur f c body n k (s ∷ ss) last size count free =
    by (is_empty_statement s.code) count (λ j at. numbered_all sur f c body n j ss last size at free)
  where
    by : (none : Bool) → n ≡ k + ((if none then 0 else 1) + count_of_statements ss)
        → ((j : ℕ) → n ≡ j + count_of_statements ss → statements_from sur j (run_all f (instructions_from c body j ss ++ last ∷ [])) ≡ numbered_from (listed_as sur f c body) j ss)
        → statements_from sur k (run_all f ((if none then instructions_from c body k ss else record { instr = instruction c body k s; line = s.line } ∷ instructions_from c body (suc k) ss) ++ last ∷ []))
        ≡ (if none then numbered_from (listed_as sur f c body) k ss else listed_as sur f c body k s ∷ numbered_from (listed_as sur f c body) (suc k) ss)
    by true at more = more k (omega (arith, at))
    by false at more =
        next_one sur k (run_of f (instruction c body k s)) (statements_from sur (suc k) (run_all f (instructions_from c body (suc k) ss ++ last ∷ []))) (omega (arith, at, size))
        ∙ ap (λ (rest : List Statement). listed_as sur f c body k s ∷ rest) (more (suc k) (omega (arith, at)))

unmarked_label : (marks : List Bool) (n : ℕ) → unwrap_or (slice_get marks n) false ≡ false → label_at marks n ≡ None
unmarked_label marks n e = ap (λ (b : Bool). if b then Some (label_of_number n) else None) e

-- ---- of a block of an accepted source

few_statements : (b : Block) → has_too_many_statements b ≡ false → count_by (λ s. not (is_empty_statement s.code)) b.body ≤ 65534
few_statements b h = ltb-false 65534 (count_by (λ s. not (is_empty_statement s.code)) b.body) h

-- the body of a listed block: its own statements, each in the place of one of the source
pub record IsBodyOf (c : Context) (b : Block) (signatures : List Signature) (stated : StatedBlock) (again : List Statement) : Type 0 where
  pub is : again ≡ numbered_from (listed_as (listing_context signatures (lines_in stated.statements) (compiled_block stated)) (statement_offset stated.statements) c b.body) 0 b.body
  pub placed : ArePlaced b.body (listing_context signatures (lines_in stated.statements) (compiled_block stated)).targets
      (listed_as (listing_context signatures (lines_in stated.statements) (compiled_block stated)) (statement_offset stated.statements) c b.body) 0 b.body

any_front : (t : ℕ) (xs : List SourceInstruction) (last : SourceInstruction) → any_to t xs ≡ true → any_to t (xs ++ last ∷ []) ≡ true
any_front t [] last h = absurd cc
any_front t (x ∷ xs) last h = by (jumps_to t x.instr) h (any_front t xs last)
  where
    by : (b : Bool) → (b || any_to t xs) ≡ true → (any_to t xs ≡ true → any_to t (xs ++ last ∷ []) ≡ true) → (b || any_to t (xs ++ last ∷ [])) ≡ true
    by true h more = refl
    by false h more = more h

body_by : (signatures : List Signature) (stated : StatedBlock) (y : Types) (c : Context) (b : Block)
    → stated.statements ≡ instructions_from c b.body 0 b.body ++ return_statement b ∷ []
    → AllByRecursion (IsResolvedStatement c b.body) b.body → AllByRecursion (IsSoundStatement y c) b.body
    → ((n : ℕ) → suc n ≡ length stated.statements → any_to n stated.statements ≡ false) → has_too_many_statements b ≡ false
    → IsBodyOf c b signatures stated (body_of signatures (lines_in stated.statements) (compiled_block stated))
unfolding body_of
body_by signatures stated y c b e settled sound free few = record {
  is =
      ap (λ (rs : List StatementOps). statements_from sur 0 rs) (runs_found stated.statements)
      ∙ ap (λ (xs : List SourceInstruction). statements_from sur 0 (run_all f xs)) e
      ∙ numbered_all sur f c b.body (count_of_statements b.body) 0 b.body (return_statement b) (lines_length stated.statements ∙ size) (omega arith)
      (unmarked_label sur.targets (count_of_statements b.body) (targets_found stated.statements (count_of_statements b.body) (omega (arith, size)) ∙ free (count_of_statements b.body) (sym size)));
  placed =
      placed_from signatures stated y c b.body 0 b.body (return_statement b) (record { size = size; few = omega (arith, size, same, other, low) }) settled sound
      (λ j. ap (line_of_statement (lines_in stated.statements)) (from_start j) ∙ ap (λ (xs : List SourceInstruction). line_of_statement (lines_in xs) j) e)
      (λ t m. ap (any_to t) e ∙ any_front t (instructions_from c b.body 0 b.body) (return_statement b) m);
}
  where
    sur : ListingContext
    sur = listing_context signatures (lines_in stated.statements) (compiled_block stated)

    f : ℕ → ℕ
    f = statement_offset stated.statements

    same : length (instructions_from c b.body 0 b.body) ≡ count_of_statements b.body
    same = stated_count c b.body 0 b.body

    other : length (instructions_from c b.body 0 b.body) ≡ count_by (λ s. not (is_empty_statement s.code)) b.body
    other = source_count c b.body 0 b.body

    low : count_by (λ s. not (is_empty_statement s.code)) b.body ≤ 65534
    low = few_statements b few

    size : length stated.statements ≡ suc (count_of_statements b.body)
    size = let all = ap length e ∙ length-append (instructions_from c b.body 0 b.body) (return_statement b ∷ []) in omega (arith, all, same)

well_formed : (y : Types) (c : Context) (ss : List Statement) → AllByRecursion (IsSoundStatement y c) ss → AllByRecursion IsStatement ss
well_formed y c [] h = tt
well_formed y c (s ∷ ss) h = (h.0.well_formed, well_formed y c ss h.1)

statements_are : (c : Context) (b : Block) → statements_of c b ≡ instructions_from c b.body 0 b.body ++ return_statement b ∷ []
unfolding statements_of
statements_are c b = refl

pub few_stated : (c : Context) (b : Block) → has_too_many_statements b ≡ false → length (statements_of c b) ≤ 93312
few_stated c b few =
    let low = few_statements b few in
    let other = source_count c b.body 0 b.body in
    let all = ap length (statements_are c b) ∙ length-append (instructions_from c b.body 0 b.body) (return_statement b ∷ []) in
    omega (arith, low, other, all)

-- the block of the source that a listed one was made of
pub source_block : (source file : List ℕ) (symbols : List Symbol) (t : Tree) → IsAccepted source file symbols t → (again place : ℕ) (b : Block) (l : BlockLayout) (id : BlockId) → IsMadeOf symbols t again place b l id
    → IsSoundBlock symbols t place b l
source_block source file symbols t accepted again place b l id made = sound_at symbols t (right_tree source file symbols t accepted) place b l made.source.block made.source.layout

pub source_settled : (source file : List ℕ) (symbols : List Symbol) (t : Tree) → IsAccepted source file symbols t → AreBytes source → (again place : ℕ) (b : Block) (l : BlockLayout) (id : BlockId) → IsMadeOf symbols t again place b l id
    → AllByRecursion (IsResolvedStatement (source_context_at symbols t place) b.body) b.body
source_settled source file symbols t accepted bytes again place b l id made = statements_settle source file symbols t accepted bytes place b made.source.block

-- the body of the listed block
abbrev pub body_in_listing : (symbols : List Symbol) (t : Tree) (again place : ℕ) (b : Block) (l : BlockLayout) (id : BlockId) → IsMadeOf symbols t again place b l id → List Statement
body_in_listing symbols t again place b l id made = (listed_block (signatures_in (program_in symbols t)) made.reached (compiled_block (code_block (source_context_at symbols t place) b l id))).body

pub body_is : (source file : List ℕ) (symbols : List Symbol) (t : Tree) → IsAccepted source file symbols t → AreBytes source → (again place : ℕ) (b : Block) (l : BlockLayout) (id : BlockId)
    → (made : IsMadeOf symbols t again place b l id)
    → IsBodyOf (source_context_at symbols t place) b (signatures_in (program_in symbols t)) (code_block (source_context_at symbols t place) b l id) (body_in_listing symbols t again place b l id made)
body_is source file symbols t accepted bytes again place b l id made =
    let c = source_context_at symbols t place in
    let stated = code_block c b l id in
    let signatures = signatures_in (program_in symbols t) in
    let sound = source_block source file symbols t accepted again place b l id made in
    subst (λ (ls : List ℕ). IsBodyOf c b signatures stated (body_of signatures ls (compiled_block stated))) (sym made.stands.lines)
    (body_by signatures stated (types_of_source symbols t.blocks) c b (statements_are c b)
    (source_settled source file symbols t accepted bytes again place b l id made) sound.statements
    (statements_free c b (well_formed (types_of_source symbols t.blocks) c b.body sound.statements, sound.body.by_26)) sound.head.by_55)
