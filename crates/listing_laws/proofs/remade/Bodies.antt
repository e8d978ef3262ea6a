-- The statements of an accepted source, in the listing of its program.
use Rattle.std.proofs.Common.{◌≡◌, ℕ, suc, ◌<◌, ◌≤◌, Bool, true, false, ◌||◌, List, [], ◌∷◌, ◌++◌, append_assoc, length, Option, Some, None, option_map, refl, sym, ap, subst, ◌∙◌, arith, if◌then◌else◌, eq-eqb}
use Rattle.std.specs.Prelude.{min}
use Rattle.std.specs.List.{AllByRecursion, list_any}
use Rattle.std.proofs.lemmas.Bool.{ltb-false}
use Rattle.plc_base.specs.Kinds.{is_callable, is_data_type}
use Rattle.plc_base.specs.declared.blocks.BlockId.{BlockId}
use Rattle.flat_code.specs.Instr.{Calls, Instr, Passing}
use Rattle.flat_code.specs.declared.kinds.JumpOperation.{JumpOperation}
use Rattle.flat_code.specs.declared.kinds.JumpOperation.TheVariants as jump
use Rattle.flat_code.specs.declared.operations.CallOperation.{CallOperation}
use Rattle.stl_ast.specs.Literals.{AreBytes}
use Rattle.stl_ast.specs.Statements.{is_call, names_called_block as is_called_operand, is_empty_statement}
use Rattle.stl_ast.specs.declared.blocks.Block.{Block}
use Rattle.stl_ast.specs.declared.blocks.Tree.{Tree}
use Rattle.stl_ast.specs.declared.mnemonics.Mnemonic.{Mnemonic}
use Rattle.stl_ast.specs.declared.mnemonics.Mnemonic.TheVariants as code
use Rattle.stl_ast.specs.declared.names.BlockName.{BlockName}
use Rattle.stl_ast.specs.declared.names.BlockName.TheVariants as block
use Rattle.stl_ast.specs.declared.operands.Operand.TheVariants as operand
use Rattle.stl_ast.specs.declared.statements.Statement.{Statement}
use Rattle.stl_symbols.specs.Symbol.{Symbol}
use Rattle.block_layout.specs.Measures.{types_of_source}
use Rattle.block_layout.specs.declared.blocks.BlockLayout.{BlockLayout}
use Rattle.stl_types.specs.Context.{Context, data_number}
use Rattle.stl_types.specs.OperandRules.{operand_rule_of}
use Rattle.stl_types.specs.Operands.{rule_of_operand, rule_of_resolved_operand, rule_of_resolution, statement_rule}
use Rattle.stl_types.specs.Parameters.{callee_of}
use Rattle.stl_types.specs.Resolution.{resolution_of, whole_called_block}
use Rattle.stl_types.specs.declared.parameters.Formal.{Formal}
use Rattle.stl_types.specs.declared.resolved_operands.Resolution.TheVariants.{Resolved}
use Rattle.stl_types.specs.declared.resolved_operands.ResolvedOperand.TheVariants as resolved
use Rattle.stl_codegen.specs.CompiledBlock.{SourceInstruction, StatedBlock, lines_in}
use Rattle.stl_codegen.specs.EmittedOps.{pass_ops}
use Rattle.stl_codegen.specs.GeneratedProgram.{instructions_from, statements_of}
use Rattle.stl_codegen.specs.Instruction.{instruction, jump_instr, passings_to, target_in, target_of}
use Rattle.stl_codegen.specs.Operations.{call_operation_of, jump_operation_of}
use Rattle.stl_list.specs.Actuals.{actuals_before}
use Rattle.stl_list.specs.Labels.{label_of_number}
use Rattle.stl_list.specs.Lines.{line_of_statement}
use Rattle.stl_parser.specs.Operands.{data_block_name}
use Rattle.stl_list.specs.Runs.{statement_number_at}
use Rattle.stl_list.specs.Signatures.{Signature, called_formals, formals_of_block}
use Rattle.stl_list.specs.Statements.{ListingContext, listed_statement}
use Rattle.sem_kept.specs.AcceptedSource.{IsAccepted, program_in}
use Rattle.sem_kept.specs.SettledStatements.{HasCalled, HasInstruction, HasOperand, IsResolvedStatement}
use Rattle.sem_kept.proofs.accepted.Accepted.{IsSoundBlock, IsSoundStatement, IsSoundTree, right_tree}
use Rattle.block_layout.proofs.CommonLemmas.{all_there}
use Rattle.sem_kept.proofs.accepted.Settled.{statements_settle}
use Rattle.sem_kept.proofs.accepted.SizesOps.{whole_count}
use Rattle.listing_laws.specs.ListedSource.{IsMadeOf, IsWholeAgain, again_at, source_context_at}
use Rattle.listing_laws.specs.AgainBodies.{AreBodiesKeptAgain, listing_context_again, body_again, made_block}
use Rattle.listing_laws.specs.CallsAgain.{AreStatementsAgain, IsFoundAgain, IsRightStatement}
use Rattle.listing_laws.specs.Calls.{IsInstanceNumbered}
use Rattle.listing_laws.specs.ListedDeclarations.{signatures_in}
use Rattle.listing_laws.specs.Instructions.{HasAgain, IsInstructionKept}
use Rattle.listing_laws.specs.LabelRules.{LeadsWithin}
use Rattle.listing_laws.specs.ListedBodies.{AreKeptFrom}
use Rattle.listing_laws.specs.Operands.{IsOpenedAgain}
use Rattle.listing_laws.specs.Statements.{jumps_to, statement_offset, run_of}
use Rattle.listing_laws.proofs.LabelLemmas.{labels_reached}
use Rattle.listing_laws.proofs.RunLemmas.{numbers_found}
use Rattle.listing_laws.proofs.WordLemmas.{have_words}
use Rattle.listing_laws.proofs.called.Calls.{calls_kept, calls_listed, instance_is, statements_listed}
use Rattle.listing_laws.proofs.remade.Calls.{call_again, callable_here, called_instr, calls, has}
use Rattle.listing_laws.proofs.remade.Parameters.{source_sound}
use Rattle.listing_laws.proofs.remade.Right.{operands_right}
use Rattle.listing_laws.proofs.remade.Splits.{IsStated, all_split, split_holds, statement_stated}
use Rattle.listing_laws.proofs.ruled.Calling.{StandsCalled, called_again, called_plain, no_zero, rule_called, same_kind, sees_called}
use Rattle.listing_laws.proofs.ruled.Instructions.{instructions_kept, jump_instruction, jumps_kept, resolves, rule_broken, what_seen}
use Rattle.listing_laws.proofs.ruled.Marks.{lines_length}
use Rattle.listing_laws.proofs.ruled.Rules.{taken_view}
use Rattle.listing_laws.proofs.ruled.Within.{jumps_within}

-- ---- jumps

leaps_to : (how : JumpOperation) (n target : ℕ) → jumps_to target (jump_instr how n target) ≡ true
leaps_to jump.Jl n target = eq-eqb target target refl
leaps_to jump.Ju n target = eq-eqb target target refl
leaps_to jump.Jc n target = eq-eqb target target refl
leaps_to jump.Jcn n target = eq-eqb target target refl
leaps_to jump.Jcb n target = eq-eqb target target refl
leaps_to jump.Jnb n target = eq-eqb target target refl
leaps_to jump.Jbi n target = eq-eqb target target refl
leaps_to jump.Jnbi n target = eq-eqb target target refl
leaps_to jump.Jo n target = eq-eqb target target refl
leaps_to jump.Jos n target = eq-eqb target target refl
leaps_to jump.Jz n target = eq-eqb target target refl
leaps_to jump.Jn n target = eq-eqb target target refl
leaps_to jump.Jp n target = eq-eqb target target refl
leaps_to jump.Jm n target = eq-eqb target target refl
leaps_to jump.Jpz n target = eq-eqb target target refl
leaps_to jump.Jmz n target = eq-eqb target target refl
leaps_to jump.Juo n target = eq-eqb target target refl
leaps_to jump.Loop n target = eq-eqb target target refl

any_at : (P : SourceInstruction → Bool) (before : List SourceInstruction) (s : SourceInstruction) (after : List SourceInstruction) → P s ≡ true → list_any P (before ++ s ∷ after) ≡ true
any_at P [] s after e = ap (λ (t : Bool). t || list_any P after) e
any_at P (x ∷ before) s after e = by (P x) (any_at P before s after e)
  where
    by : (t : Bool) → list_any P (before ++ s ∷ after) ≡ true → (t || list_any P (before ++ s ∷ after)) ≡ true
    by true h = refl
    by false h = h

smaller : (n count : ℕ) → n < count → min n count ≡ n
smaller n count h = omega (arith, h)

-- ---- calls

instance_numbered : (listed : Context) (instance : Option ℕ) → IsOpenedAgain listed instance → IsInstanceNumbered instance
instance_numbered listed None h e = absurd cc
instance_numbered listed (Some n) h e = no_zero listed (subst (λ m. data_number listed (data_block_name m) ≡ Some m) (same n e) h)
  where
    same : (m : ℕ) → Some m ≡ Some 0 → m ≡ 0
    same m e = cc

same_id : (i j : BlockId) (m n : Option ℕ) → resolved.Called i m ≡ resolved.Called j n → i ≡ j
same_id i j m n e = cc

same_instance : (i j : BlockId) (m n : Option ℕ) → resolved.Called i m ≡ resolved.Called j n → m ≡ n
same_instance i j m n e = cc

module _ (source file : List ℕ) (symbols : List Symbol) (t : Tree) (accepted : IsAccepted source file symbols t) (bytes : AreBytes source) (file_bytes : AreBytes file)
    (others : List Symbol) (clean : IsWholeAgain symbols t others) (again place : ℕ) (b : Block) (l : BlockLayout) (id : BlockId) (made : IsMadeOf symbols t again place b l id) where
  abbrev c : Context
  c = source_context_at symbols t place

  abbrev listed : Context
  listed = again_at symbols t others again

  abbrev ss : List Signature
  ss = signatures_in (program_in symbols t)

  abbrev own : List Formal
  own = formals_of_block ss id

  abbrev sb : StatedBlock
  sb = made_block symbols t place b l id

  abbrev body : List Statement
  body = body_again symbols t sb

  abbrev sur : ListingContext
  sur = listing_context_again symbols t sb

  abbrev f : ℕ → ℕ
  f = statement_offset sb.statements

  tree : IsSoundTree symbols t
  tree = right_tree source file symbols t accepted

  sound : IsSoundBlock symbols t place b l
  sound = source_sound symbols t tree again place b l id made

  stands_again : HasAgain c listed own
  stands_again = has source file symbols t accepted bytes file_bytes others clean again place b l id made

  -- ---- a statement

  module _ (s : Statement) (front rest : List Statement) (split : b.body ≡ front ++ s ∷ rest) (some : is_empty_statement s.code ≡ false) where
    abbrev IsKeptHere : ℕ → ℕ → Instr → Type 0
    IsKeptHere n k i = IsInstructionKept listed body n s.code i (listed_statement sur k (run_of f i))

    settled : IsResolvedStatement c b.body s
    settled = split_holds (IsResolvedStatement c b.body) b.body front s rest (statements_settle source file symbols t accepted bytes place b made.source.block) split

    right : IsRightStatement symbols s
    right = split_holds (IsRightStatement symbols) b.body front s rest
        (all_there (λ (z : Block). AllByRecursion (IsRightStatement symbols) z.body) t.blocks place b (operands_right source file symbols t accepted bytes) made.source.block) split

    sound_here : IsSoundStatement (types_of_source symbols t.blocks) c s
    sound_here = split_holds (IsSoundStatement (types_of_source symbols t.blocks) c) b.body front s rest sound.statements split

    here : IsStated c b.body (statements_of c b) s
    here = statement_stated c b front s rest split some

    -- a jump
    jump_kept : (how : JumpOperation) → jump_operation_of s.code ≡ Some how → (n k : ℕ) → IsKeptHere n k (instruction c b.body n s)
    jump_kept how is n k = jumps_kept c listed sur f b.body body n k s (λ none. never (sym none ∙ is)) at reached
      where
        never : None ≡ Some how → ⊥
        never e = absurd cc

        target : ℕ
        target = target_of b.body s.operand

        leaps : jumps_to target (instruction c b.body here.number s) ≡ true
        leaps = ap (jumps_to target) (jump_instruction c b.body here.number s how is) ∙ leaps_to how here.number target

        within : target < length sb.statements
        within =
            split_holds (λ (z : SourceInstruction). LeadsWithin (length (statements_of c b)) z.instr) (statements_of c b) here.before
            (record { instr = instruction c b.body here.number s; line = s.line }) here.after (jumps_within c b) here.is target leaps

        at : statement_number_at sur.starts (f target) ≡ target
        at = numbers_found sb.statements target ∙ smaller target (length sb.statements) within

        long : length (lines_in sb.statements) ≡ length sb.statements
        long = lines_length sb.statements

        few : length sb.statements ≤ 93312
        few = let count = whole_count c b in let most = ltb-false 65534 _ sound.head.by_55 in omega (arith, long, count, most)

        reached : target_in (label_of_number target) body ≡ target
        reached =
            labels_reached ss (lines_in sb.statements) sb target (have_words c b) long few within
            (ap (list_any (λ (z : SourceInstruction). jumps_to target z.instr)) here.is
            ∙ any_at (λ (z : SourceInstruction). jumps_to target z.instr) here.before (record { instr = instruction c b.body here.number s; line = s.line }) here.after leaps)

    -- a call
    call_kept : (how : CallOperation) → call_operation_of s.code ≡ Some how → HasCalled c s → (n k : ℕ) → IsKeptHere n k (instruction c b.body n s)
    call_kept how is h n k =
        subst (IsKeptHere n k) (sym (called_instr c b.body n s how h.id h.instance h.callee is h.called h.found)) kept
      where
        ps : List Passing
        ps = passings_to c s (Some h.callee)

        listing : Statement
        listing = listed_statement sur k (run_of f (Calls how h.id h.instance ps))

        sees : resolution_of c s.operand ≡ Resolved (resolved.Called h.id h.instance)
        sees = what_seen c s (resolved.Called h.id h.instance) h.called

        is_called : is_called_operand s.operand ≡ true
        is_called = sound_here.well_formed.called ∙ word_calls s.code how is
          where
            word_calls : (m : Mnemonic) (how : CallOperation) → call_operation_of m ≡ Some how → is_call m ≡ true
            word_calls code.Call how e = refl
            word_calls code.Uc how e = refl
            word_calls code.Cc how e = refl
            word_calls _ how e = absurd cc

        st : StandsCalled listed (resolved.Called h.id h.instance)
        st = sees_called c listed own s.operand (resolved.Called h.id h.instance) stands_again
            (calls source file symbols t accepted bytes file_bytes others clean again place b l id made) is_called sees

        rule : rule_of_resolved_operand (operand_rule_of s.code) (resolved.Called h.id h.instance) ≡ None
        rule = rule_called c (operand_rule_of s.code) s.operand (resolved.Called h.id h.instance) is_called (rule_broken c s (resolved.Called h.id h.instance) h.called) sees

        plain : is_data_type h.id.kind ≡ false
        plain = called_plain h.id h.instance (same_kind s.code how (resolved.Called h.id h.instance) is (taken_view (operand_rule_of s.code) (resolved.Called h.id h.instance) rule))

        whole : whole_called_block listed (Some h.id) ≡ Some h.id
        whole =
            subst (λ (i : BlockId). is_data_type i.kind ≡ false → whole_called_block listed (Some i) ≡ Some i) (sym (same_id h.id st.id h.instance st.instance st.is)) st.whole plain

        instance_there : IsOpenedAgain listed h.instance
        instance_there = subst (IsOpenedAgain listed) (sym (same_instance h.id st.id h.instance st.instance st.is)) st.again

        found : IsFoundAgain c listed own (called_formals ss h.id) s h.id h.instance h.callee
        found = call_again source file symbols t accepted bytes file_bytes others clean again place b l id made s front rest split h.id h.instance h.callee h.called h.found

        callable : is_callable h.id.kind ≡ true
        callable = callable_here source file symbols t accepted bytes file_bytes others clean again place b l id made s front rest split h.id h.instance h.callee h.called h.found

        made_words : (listing.code ≡ s.code) × (listing.actuals ≡ actuals_before (line_of_statement sur.lines k) sur.formals (called_formals sur.signatures h.id) (pass_ops ps))
        made_words = statements_listed sur k f s.code how h.id h.instance ps callable is

        operand_is : listing.operand ≡ operand.Called (block.Number h.id) (option_map data_block_name h.instance)
        operand_is = calls_listed sur.formals sur.starts f how h.id h.instance ps callable (instance_numbered listed h.instance instance_there)

        listing_sees : resolution_of listed listing.operand ≡ Resolved (resolved.Called h.id h.instance)
        listing_sees =
            ap (resolution_of listed) operand_is
            ∙ ap (λ (x : Option BlockName). resolution_of listed (operand.Called (block.Number h.id) x)) (sym (instance_is h.instance (instance_numbered listed h.instance instance_there)))
            ∙ called_again listed h.id h.instance whole instance_there

        right_again : statement_rule listed listing ≡ None
        right_again =
            ap (λ (x : Mnemonic). rule_of_operand listed (operand_rule_of x) listing.operand) made_words.0
            ∙ ap (rule_of_operand listed (operand_rule_of s.code)) operand_is
            ∙ ap (rule_of_resolution (operand_rule_of s.code)) (ap (resolution_of listed) (sym operand_is) ∙ listing_sees) ∙ rule

        kept : IsKeptHere n k (Calls how h.id h.instance ps)
        kept = record {
          word = made_words.0;
          right = right_again;
          instr = calls_kept listed body n listing how h.id h.instance own (called_formals ss h.id) found.found ps (ap call_operation_of made_words.0 ∙ is)
              (resolves listed listing (resolved.Called h.id h.instance) right_again listing_sees) (ap (callee_of listed) operand_is ∙ found.is)
              (record { actuals = made_words.1; order = found.order; named = found.named; passable = found.passable; rising = found.rising });
        }

    pub statement_kept : (n k : ℕ) → IsKeptHere n k (instruction c b.body n s)
    statement_kept n k = by (jump_operation_of s.code) refl (call_operation_of s.code) refl settled.instruction
      where
        by : (j : Option JumpOperation) → jump_operation_of s.code ≡ j → (o : Option CallOperation) → call_operation_of s.code ≡ o → HasInstruction c b.body s (jump_operation_of s.code)
            → IsKeptHere n k (instruction c b.body n s)
        by (Some how) is o e h = jump_kept how is n k
        by None is (Some how) e h = call_kept how e (subst (HasOperand c s) e (subst (HasInstruction c b.body s) is h)) n k
        by None is None e h =
            let v = subst (HasOperand c s) e (subst (HasInstruction c b.body s) is h) in
            instructions_kept c listed sur f b.body body n k s v.0 stands_again right.operand some is e v.1

  -- ---- all of them

  pub kept_from : (front rest : List Statement) → b.body ≡ front ++ rest → (n : ℕ) → AreKeptFrom listed body sur f n (instructions_from c b.body n rest)
  kept_from front [] e n = tt
  kept_from front (s ∷ rest) e n =
      by (is_empty_statement s.code) refl (kept_from (front ++ s ∷ []) rest (e ∙ sym (append_assoc front (s ∷ []) rest)) n)
      (kept_from (front ++ s ∷ []) rest (e ∙ sym (append_assoc front (s ∷ []) rest)) (suc n))
    where
      by : (t' : Bool) → is_empty_statement s.code ≡ t' → AreKeptFrom listed body sur f n (instructions_from c b.body n rest) → AreKeptFrom listed body sur f (suc n) (instructions_from c b.body (suc n) rest)
          → AreKeptFrom listed body sur f n
          (if t' then instructions_from c b.body n rest else record { instr = instruction c b.body n s; line = s.line } ∷ instructions_from c b.body (suc n) rest)
      by true is same next = same
      by false is same next =
          let kept = statement_kept s front rest e is n n in
          (ap is_empty_statement kept.word ∙ is, kept.instr, next)

pub statements_again : AreStatementsAgain
statements_again source file symbols t accepted bytes file_bytes others clean again place b l id made =
    all_split
    (λ s. is_empty_statement s.code ≡ false → (n k : ℕ)
    → IsInstructionKept (again_at symbols t others again) (body_again symbols t (made_block symbols t place b l id)) n s.code (instruction (source_context_at symbols t place) b.body n s)
    (listed_statement (listing_context_again symbols t (made_block symbols t place b l id)) k
    (run_of (statement_offset (made_block symbols t place b l id).statements) (instruction (source_context_at symbols t place) b.body n s))))
    b.body
    (λ front s rest e some n k. statement_kept source file symbols t accepted bytes file_bytes others clean again place b l id made s front rest e some n k)

pub bodies_again : AreBodiesKeptAgain
bodies_again source file symbols t accepted bytes file_bytes others clean again place b l id made =
    kept_from source file symbols t accepted bytes file_bytes others clean again place b l id made [] b.body refl 0
