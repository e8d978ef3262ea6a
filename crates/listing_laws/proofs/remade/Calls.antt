-- The calls of an accepted source, in the listing of its program.
use Rattle.std.proofs.Common.{◌≡◌, ℕ, suc, ◌≤◌, Bool, true, false, ◌&&◌, ◌||◌, not, nat_eq, List, [], ◌∷◌, ◌++◌, length, map, Option, Some, None, option_map, slice_get, refl, sym, ap, subst, ◌∙◌, if◌then◌else◌}
use Rattle.std.specs.Prelude.{◌==◌}
use Rattle.std.specs.List.{AllByRecursion}
use Rattle.std.specs.Option.{is_none}
use Rattle.std.proofs.lemmas.Bool.{eqb-true, or_parts}
use Rattle.std.proofs.lemmas.List.{length-map}
use Rattle.std.proofs.lemmas.Option.{same_Some}
use Rattle.plc_base.specs.Folding.{upper_case_name}
use Rattle.plc_base.specs.Kinds.{is_callable, is_code, is_data_type, is_function, is_function_block, is_system_function, kind_number}
use Rattle.plc_base.specs.Widths.{width_number}
use Rattle.plc_base.specs.declared.blocks.BlockId.{BlockId}
use Rattle.plc_base.specs.declared.blocks.BlockKind.{BlockKind}
use Rattle.plc_base.specs.declared.blocks.BlockKind.TheVariants as kinds
use Rattle.plc_base.specs.declared.places.Width.{Width}
use Rattle.flat_code.specs.Records.{section_in}
use Rattle.flat_code.specs.Blocks.{Environment, CalleeSignature as FlatCallee, are_all_passed, is_bad_actual, is_bad_call, is_in_parameter, lacks_own_parameter, misfits_index, misfits_parameter, parameter_meant, signature_of}
use Rattle.flat_code.specs.Forms.{actual_fits}
use Rattle.flat_code.specs.Image.{record_of_block, record_of_param}
use Rattle.flat_code.specs.Instr.{Calls, Instr, Passing}
use Rattle.flat_code.specs.Loading.{lens_of}
use Rattle.flat_code.specs.declared.image_fields.ParameterRecord.{ParameterRecord}
use Rattle.flat_code.specs.declared.operands.Passed.{Passed}
use Rattle.flat_code.specs.declared.operands.Passed.TheVariants as passed
use Rattle.flat_code.specs.declared.operations.CallOperation.{CallOperation}
use Rattle.stl_ast.specs.Literals.{AreBytes}
use Rattle.stl_ast.specs.Statements.{has_actuals, is_call, names_called_block as is_called_operand, is_empty_statement}
use Rattle.stl_ast.specs.declared.blocks.Block.{Block}
use Rattle.stl_ast.specs.declared.blocks.Tree.{Tree}
use Rattle.stl_ast.specs.declared.declarations.Simple.{Simple}
use Rattle.stl_ast.specs.declared.mnemonics.Mnemonic.{Mnemonic}
use Rattle.stl_ast.specs.declared.mnemonics.Mnemonic.TheVariants as code
use Rattle.stl_ast.specs.declared.names.BlockName.{BlockName}
use Rattle.stl_ast.specs.declared.names.BlockName.TheVariants as block
use Rattle.stl_ast.specs.declared.operands.Operand.TheVariants as operand
use Rattle.stl_ast.specs.declared.statements.Statement.{Statement}
use Rattle.stl_symbols.specs.Symbol.{Symbol}
use Rattle.block_layout.specs.Layouts.{block_layout, layouts_of}
use Rattle.block_layout.specs.Lengths.{farthest_operand_end, local_len}
use Rattle.block_layout.specs.Measures.{types_of_source}
use Rattle.block_layout.specs.Offsets.{width_of}
use Rattle.block_layout.specs.declared.blocks.BlockLayout.{BlockLayout}
use Rattle.stl_types.specs.Calls.{calls_unknown, is_unknown_function}
use Rattle.stl_types.specs.Context.{Context, data_number}
use Rattle.stl_types.specs.OperandRules.{operand_rule_of}
use Rattle.stl_types.specs.Parameters.{Callee, callee_by, callee_of, system_formals}
use Rattle.stl_types.specs.Resolution.{resolution_of, whole_called_block}
use Rattle.stl_types.specs.ResolvedStatement.{resolved_operand}
use Rattle.stl_types.specs.Variables.{own_variable}
use Rattle.stl_types.specs.declared.parameters.Formal.{Formal}
use Rattle.stl_types.specs.declared.resolved_operands.Resolution.TheVariants.{Resolved}
use Rattle.stl_types.specs.declared.resolved_operands.ResolvedOperand.TheVariants as resolved
use Rattle.stl_codegen.specs.CompiledBlock.{StatedBlock, compiled_block}
use Rattle.block_layout.specs.Fits.{number_or_zero}
use Rattle.stl_codegen.specs.EmittedOps.{ops_of, pass_ops}
use Rattle.stl_codegen.specs.GeneratedProgram.{code_block, code_blocks_of, data_blocks_of, params_of}
use Rattle.stl_codegen.specs.Instruction.{source_block_at, in_parameter_order, instr_by, instruction, passings_to, resolved_instr, return_last, operand_instr}
use Rattle.stl_codegen.specs.Operations.{call_operation_of}
use Rattle.stl_list.specs.JoinedParameters.{system_parameters}
use Rattle.stl_parser.specs.Operands.{data_block_name}
use Rattle.stl_list.specs.Operands.{name_at, own_parameter as own_named}
use Rattle.stl_list.specs.Signatures.{Signature, called_formals, formals_of_block}
use Rattle.sem_kept.specs.AcceptedSource.{IsAccepted, program_in}
use Rattle.sem_kept.specs.CodedBlocks.{StatementHasBytes}
use Rattle.sem_kept.specs.Operands.{ArePassed, InstrFits}
use Rattle.sem_kept.specs.SettledStatements.{HasCalled, HasOperand, HasInstruction, IsResolvedStatement}
use Rattle.sem_kept.proofs.accepted.Accepted.{IsSoundBlock, IsSoundStatement, IsSoundTree, right_tree}
use Rattle.sem_kept.proofs.accepted.CodedBytes.{tree_has}
use Rattle.sem_kept.proofs.accepted.CodedOps.{IsGoodStatement, statement_good}
use Rattle.sem_kept.proofs.accepted.CodedSources.{context_fit, formals_few}
use Rattle.sem_kept.proofs.accepted.CodedSymbols.{symbols_fit as symbols_coded}
use Rattle.sem_kept.proofs.accepted.OperandsCalls.{call_fits}
use Rattle.block_layout.proofs.CommonLemmas.{all_there}
use Rattle.sem_kept.proofs.accepted.OperandsOperations.{taken_by_rule}
use Rattle.sem_kept.proofs.accepted.OperandsSymbols.{symbols_fit}
use Rattle.sem_kept.proofs.accepted.OperandsViews.{EndsBy, Surrounds, ends_by, holds_locals}
use Rattle.sem_kept.proofs.accepted.Settled.{statements_settle}
use Rattle.listing_laws.specs.AcceptedTypes.{declared_kinds}
use Rattle.listing_laws.specs.ListedSource.{IsMadeOf, IsWholeAgain, again_at, source_context_at}
use Rattle.listing_laws.specs.Calling.{AreCalledAgain}
use Rattle.listing_laws.specs.CallsAgain.{AreCallsAgain, IsCalledAgain, IsFoundAgain, IsRightStatement}
use Rattle.listing_laws.specs.ListedDeclarations.{signatures_in}
use Rattle.listing_laws.specs.Fitting.{IsBacked, IsListedAs}
use Rattle.listing_laws.specs.HandedTypes.{CallOwesTypes, formals_by_index}
use Rattle.listing_laws.specs.Instructions.{HasAgain}
use Rattle.listing_laws.specs.Passings.{IsPassable, in_upper_case}
use Rattle.listing_laws.specs.Steps.{PassesParameterOn}
use Rattle.listing_laws.proofs.called.AcceptedTypes.{form_calls, operand_called, owed, resolved_seen, rule_called, seen_named, taken_calls}
use Rattle.listing_laws.proofs.called.Fitting.{fitting_listed, width_is}
use Rattle.listing_laws.proofs.made.Found.{called_found, data_found}
use Rattle.listing_laws.proofs.remade.Blocks.{IsListedCode, listed_code}
use Rattle.listing_laws.proofs.remade.Callees.{IsCalleeAgain, block_again, block_formals, system_again}
use Rattle.listing_laws.proofs.remade.Parameters.{formal_again, name_there, parameters_again, source_kind, source_sound}
use Rattle.listing_laws.proofs.remade.Passed.{AreStored, IsFitting, IsStored, all_passed, from_stored, passed_all, passings_fit, passings_rise}
use Rattle.listing_laws.proofs.remade.Right.{operands_right}
use Rattle.listing_laws.proofs.remade.Splits.{IsAmong, all_split, among, split_holds, statement_stated}
use Rattle.listing_laws.proofs.remade.Types.{asked, given}
use Rattle.listing_laws.proofs.ruled.Calling.{no_jump, no_zero, sees_called}

-- ---- words

pub call_word : (m : Mnemonic) → is_call m ≡ true → (how : CallOperation) × (call_operation_of m ≡ Some how)
call_word code.Call e = (_, refl)
call_word code.Uc e = (_, refl)
call_word code.Cc e = (_, refl)
call_word _ e = absurd cc

call_some : (m : Mnemonic) → is_call m ≡ true → is_empty_statement m ≡ false
call_some code.Call e = refl
call_some code.Uc e = refl
call_some code.Cc e = refl
call_some _ e = absurd cc

function_kind : (k : BlockKind) → (kind_number k == kind_number kinds.Fc) ≡ true → k ≡ kinds.Fc
function_kind kinds.Fc e = refl
function_kind kinds.Ob e = absurd cc
function_kind kinds.Fb e = absurd cc
function_kind kinds.Db e = absurd cc
function_kind kinds.Udt e = absurd cc
function_kind kinds.Sfc e = absurd cc

other_number : (k : BlockKind) → is_callable k ≡ true → is_function_block k ≡ false → (kind_number k == kind_number kinds.Fb) ≡ false
other_number kinds.Fc e f = refl
other_number kinds.Sfc e f = refl
other_number kinds.Fb e f = absurd cc
other_number kinds.Ob e f = absurd cc
other_number kinds.Db e f = absurd cc
other_number kinds.Udt e f = absurd cc

-- ---- what a call passes

pub called_instr : (c : Context) (body : List Statement) (n : ℕ) (s : Statement) (how : CallOperation) (id : BlockId) (instance : Option ℕ) (callee : Callee) → call_operation_of s.code ≡ Some how
    → resolved_operand c s ≡ Some (resolved.Called id instance) → callee_of c s.operand ≡ Some callee → instruction c body n s ≡ Calls how id instance (passings_to c s (Some callee))
unfolding instruction
called_instr c body n s how id instance callee word e found =
    ap (instr_by c body n s) (no_jump s.code how word) ∙ ap (resolved_instr c s) e ∙ ap (operand_instr c s (resolved.Called id instance)) word
    ∙ ap (λ (o : Option Callee). Calls how id instance (passings_to c s o)) found

not_true : (t : Bool) → not t ≡ false → t ≡ true
not_true true e = refl
not_true false e = absurd cc

complete_call : (fb all bad : Bool) → (not fb && not all || bad) ≡ false → fb ≡ false → all ≡ true
complete_call true all bad e f = absurd cc
complete_call false true bad e f = refl
complete_call false false bad e f = absurd cc

second_true : (a b : Bool) → (a && not b) ≡ true → b ≡ false
second_true true false e = refl
second_true true true e = absurd cc
second_true false b e = absurd cc

order_long : (o : Option Block) (fs : List Formal) → length (in_parameter_order o fs) ≡ length fs
order_long None fs = refl
order_long (Some b) fs = by b.result fs
  where
    longer : (xs : List Formal) (x : Formal) → length (xs ++ x ∷ []) ≡ suc (length xs)
    longer [] x = refl
    longer (y ∷ xs) x = ap suc (longer xs x)

    by : (r : Option Simple) (fs : List Formal) → length (return_last r fs) ≡ length fs
    by None fs = refl
    by (Some r) [] = refl
    by (Some r) (f ∷ fs) = longer fs f

-- the width of a place that is passed is that of both parameters
same_kinds_wide : (f g : Formal) (q r : ParameterRecord) (w : Width) → IsListedAs f q → IsListedAs g r → not (q.width == width_number w) ≡ false → lacks_own_parameter (Some r) w ≡ false → width_of g.kind ≡ width_of f.kind
same_kinds_wide f g q r w h k e own = sym (width_is g r w k own) ∙ width_is f q w h e

no_own : (o : Option ParameterRecord) (w : Width) → lacks_own_parameter o w ≡ false → (r : ParameterRecord) × (o ≡ Some r)
no_own None w e = absurd cc
no_own (Some r) w e = (r, refl)

some_index : (a : Environment) (o : Option ParameterRecord) (p : Passed) → misfits_index a o p ≡ false → (r : ParameterRecord) × (o ≡ Some r) × (misfits_parameter a r p ≡ false)
some_index a None p e = absurd cc
some_index a (Some r) p e = (r, refl, e)

known_function : (id : BlockId) → is_unknown_function (Some id) ≡ false → is_system_function id.kind ≡ true → (fs : List Formal) × (system_formals id.number ≡ Some fs)
known_function id e sys = by (system_formals id.number) refl (sym (ap (λ (t : Bool). t && is_none (system_formals id.number)) sys) ∙ e)
  where
    by : (o : Option (List Formal)) → system_formals id.number ≡ o → (true && is_none o) ≡ false → (fs : List Formal) × (system_formals id.number ≡ Some fs)
    by None is k = absurd cc
    by (Some fs) is k = (fs, is)

own_seen : (c : Context) (own : List Formal) (index : ℕ) → resolution_of c (own_named own index) ≡ own_variable c (upper_case_name (name_at own index)) []
unfolding resolution_of
own_seen c own index = refl

local_is : (symbols : List Symbol) (t : Tree) (k : ℕ) (b : Block) (l : BlockLayout) → IsSoundBlock symbols t k b l → l.local_len ≡ local_len (types_of_source symbols t.blocks) b
unfolding block_layout
local_is symbols t k b l h = ap (λ (z : BlockLayout). z.local_len) h.layout

-- a block by its number
callee_numbered : (c : Context) (id : BlockId) (instance : Option BlockName) (callee : Callee) → callee_by c id id.kind ≡ Some callee → callee_of c (operand.Called (block.Number id) instance) ≡ Some callee
unfolding callee_of
callee_numbered c id instance callee e = e

module _ (source file : List ℕ) (symbols : List Symbol) (t : Tree) (accepted : IsAccepted source file symbols t) (bytes : AreBytes source) (file_bytes : AreBytes file)
    (others : List Symbol) (clean : IsWholeAgain symbols t others) (again place : ℕ) (b : Block) (l : BlockLayout) (id : BlockId) (made : IsMadeOf symbols t again place b l id) where
  abbrev c : Context
  c = source_context_at symbols t place

  abbrev listed : Context
  listed = again_at symbols t others again

  abbrev ss : List Signature
  ss = signatures_in (program_in symbols t)

  abbrev own : List Formal
  own = formals_of_block ss id

  abbrev sb : StatedBlock
  sb = code_block c b l id

  tree : IsSoundTree symbols t
  tree = right_tree source file symbols t accepted

  sound : IsSoundBlock symbols t place b l
  sound = source_sound symbols t tree again place b l id made

  is_kind : b.kind ≡ id.kind
  is_kind = source_kind symbols t tree again place b l id made

  is_code_here : is_code b.kind ≡ true
  is_code_here = ap is_code is_kind ∙ made.source.code

  pub has : HasAgain c listed own
  has = record {
    data_blocks = data_found symbols t others place again clean;
    parameter = parameters_again source file symbols t accepted bytes file_bytes others clean again place b l id made;
  }

  pub calls : AreCalledAgain c listed
  calls = called_found symbols t others place again clean

  here_listed : IsListedCode symbols t others again (compiled_block sb)
  here_listed = listed_code source file symbols t accepted bytes file_bytes others clean again place b l id made

  -- the block among all code blocks
  abbrev here : Environment
  here = record {
    kind = kind_number b.kind;
    local_len = l.local_len;
    params = map record_of_param (params_of b l);
    blocks = map signature_of (map record_of_block (map compiled_block (code_blocks_of t symbols (layouts_of t symbols))));
    data_lens = None;
  }

  surrounded : Surrounds symbols t b l here
  surrounded = record { kind = refl; local = refl; params = refl }

  ends : AllByRecursion (EndsBy l.local_len) b.body
  ends = ends_by l.local_len b.body
      (subst (λ (n : ℕ). farthest_operand_end b.body ≤ n) (sym (local_is symbols t place b l sound)) (holds_locals (types_of_source symbols t.blocks) b is_code_here sound.head.by_50).operands)

  has_bytes : AllByRecursion StatementHasBytes b.body
  has_bytes = all_there (λ (z : Block). AllByRecursion StatementHasBytes z.body) t.blocks place b (tree_has source accepted.tokens t bytes accepted.parsed) made.source.block

  rights : AllByRecursion (IsRightStatement symbols) b.body
  rights = all_there (λ (z : Block). AllByRecursion (IsRightStatement symbols) z.body) t.blocks place b (operands_right source file symbols t accepted bytes) made.source.block

  settled : AllByRecursion (IsResolvedStatement c b.body) b.body
  settled = statements_settle source file symbols t accepted bytes place b made.source.block

  -- ---- a parameter of the block itself

  record IsOwn (index : ℕ) (r : ParameterRecord) : Type 0 where
    formal : Formal
    there : slice_get own index ≡ Some formal
    as_listed : IsListedAs formal r
    sees : resolution_of listed (own_named own index) ≡ Resolved (resolved.Parameter index formal.section formal.kind)

  own_there : (index : ℕ) (r : ParameterRecord) → parameter_meant here index ≡ Some r → IsOwn index r
  own_there index r e = by (kind_number b.kind == kind_number kinds.Fc) refl e
    where
      by : (t' : Bool) → (kind_number b.kind == kind_number kinds.Fc) ≡ t' → (if t' then slice_get here.params index else None) ≡ Some r → IsOwn index r
      by false is k = absurd cc
      by true is k =
          let found = (block_formals source file symbols t accepted bytes file_bytes others clean again place b l id here_listed).formals index r k in
          let function : is_function id.kind ≡ true = ap is_function (sym is_kind ∙ function_kind b.kind is) in
          record {
            formal = found.0;
            there = found.1;
            as_listed = found.2;
            sees = own_seen listed own index ∙ ap (λ n. own_variable listed (upper_case_name n) []) (name_there own index found.0 found.1)
                ∙ formal_again symbols t others again (compiled_block sb) here_listed function index found.0 found.1;
          }

  -- ---- a statement that calls

  module _ (s : Statement) (front rest : List Statement) (split : b.body ≡ front ++ s ∷ rest) (cid : BlockId) (instance : Option ℕ) (callee : Callee)
      (res : resolved_operand c s ≡ Some (resolved.Called cid instance)) (found : callee_of c s.operand ≡ Some callee) where
    abbrev called : List Formal
    called = called_formals ss cid

    abbrev ps : List Passing
    ps = passings_to c s (Some callee)

    sound_here : IsSoundStatement (types_of_source symbols t.blocks) c s
    sound_here = split_holds (IsSoundStatement (types_of_source symbols t.blocks) c) b.body front s rest sound.statements split

    sees : resolution_of c s.operand ≡ Resolved (resolved.Called cid instance)
    sees = resolved_seen c s (resolved.Called cid instance) res

    is_word : is_call s.code ≡ true
    is_word = form_calls s.code
        (taken_calls (operand_rule_of s.code) cid instance (taken_by_rule (operand_rule_of s.code) (resolved.Called cid instance) (rule_called c (operand_rule_of s.code) s.operand cid instance sees sound_here.allowed)).taken)

    how : (how : CallOperation) × (call_operation_of s.code ≡ Some how)
    how = call_word s.code is_word

    is_called : is_called_operand s.operand ≡ true
    is_called = sound_here.well_formed.called ∙ is_word

    owes : CallOwesTypes (declared_kinds t symbols) (map compiled_block (code_blocks_of t symbols (layouts_of t symbols))) c s cid
    owes = owed symbols t tree place b l sound s sound_here cid instance res

    pub callable_here : is_callable cid.kind ≡ true
    callable_here = owes.0.0

    has_called : HasCalled c s
    has_called =
        subst (HasOperand c s) how.1
        (subst (HasInstruction c b.body s) (no_jump s.code how.0 how.1) (split_holds (IsResolvedStatement c b.body) b.body front s rest settled split).instruction)

    same_callee : callee.id ≡ cid
    same_callee =
        ap (λ (z : Callee). z.id) (same_Some callee has_called.callee (sym found ∙ has_called.found)) ∙ has_called.same
        ∙ sym (same cid has_called.id instance has_called.instance (sym res ∙ has_called.called))
      where
        same : (i j : BlockId) (m n : Option ℕ) → Some (resolved.Called i m) ≡ Some (resolved.Called j n) → i ≡ j
        same i j m n e = cc

    -- the block in the listing
    whole_again : is_data_type cid.kind ≡ false → whole_called_block listed (Some cid) ≡ Some cid
    whole_again plain =
        let st = sees_called c listed own s.operand (resolved.Called cid instance) has calls is_called sees in
        let one : cid ≡ st.id = same cid st.id instance st.instance st.is in
        subst (λ (i : BlockId). is_data_type i.kind ≡ false → whole_called_block listed (Some i) ≡ Some i) (sym one) st.whole plain
      where
        same : (i j : BlockId) (m n : Option ℕ) → resolved.Called i m ≡ resolved.Called j n → i ≡ j
        same i j m n e = cc

    plain_kind : (k : BlockKind) → is_callable k ≡ true → is_data_type k ≡ false
    plain_kind kinds.Fc e = refl
    plain_kind kinds.Fb e = refl
    plain_kind kinds.Sfc e = refl
    plain_kind kinds.Ob e = refl
    plain_kind kinds.Db e = refl
    plain_kind kinds.Udt e = absurd cc

    one_of_nine : is_system_function cid.kind ≡ true → (fs : List Formal) × (system_formals cid.number ≡ Some fs)
    one_of_nine sys =
        let o = operand_called s.operand is_called in
        let n = seen_named c o.0 o.1 cid instance (ap (resolution_of c) (sym o.2) ∙ sees) in
        known_function cid (ap is_unknown_function (sym n.0) ∙ ap (calls_unknown c) (sym o.2) ∙ sound_here.one_of_nine) sys

    again_called : IsCalleeAgain symbols t others again cid
    again_called = by (is_system_function cid.kind) refl
      where
        by : (t' : Bool) → is_system_function cid.kind ≡ t' → IsCalleeAgain symbols t others again cid
        by true sys = let fs = one_of_nine sys in system_again symbols t others again cid fs.0 sys fs.1
        by false other =
            block_again source file symbols t accepted bytes file_bytes others clean again cid callable_here other (whole_again (plain_kind cid.kind callable_here))

    -- ---- what it passes

    fits : InstrFits here (lens_of (data_blocks_of t symbols (layouts_of t symbols))) (Calls how.0 cid instance ps)
    fits =
        subst (λ (o : Option Callee). InstrFits here (lens_of (data_blocks_of t symbols (layouts_of t symbols))) (Calls how.0 cid instance (passings_to c s o))) found
        (call_fits symbols t tree (symbols_fit accepted.language file symbols accepted.named) place b l sound is_code_here here surrounded refl s sound_here
        (split_holds (EndsBy l.local_len) b.body front s rest ends split) (split_holds StatementHasBytes b.body front s rest has_bytes split) how.0 cid instance how.1 sees)

    abbrev flat : FlatCallee
    flat = record { kind = again_called.kind; instance_len = again_called.bytes; params = again_called.params }

    passed_here : ArePassed here (Some flat) None ps
    passed_here = subst (λ o. ArePassed here o None ps) again_called.flat fits.1

    no_fault : AllByRecursion (IsFitting here (Some flat)) ps
    no_fault = passed_all here (Some flat) None ps passed_here

    good : AllByRecursion (λ (p : Passing). actual_fits p.actual ≡ true) ps
    good =
        passings_fit how.0 cid instance ps
        (subst (λ (i : Instr). IsGoodStatement (ops_of i)) (called_instr c b.body 0 s how.0 cid instance callee how.1 res found)
        (statement_good c b.body 0 s
        (context_fit symbols t place b l (symbols_coded accepted.language file symbols accepted.named) tree sound)
        (record {
          formed = sound_here.well_formed;
          has = split_holds StatementHasBytes b.body front s rest has_bytes split;
          callee = formals_few symbols t place s (symbols_coded accepted.language file symbols accepted.named) tree;
        })
        (call_some s.code is_word)))

    stored : AreStored listed ps
    stored =
        from_stored c listed own has s.actuals (split_holds (IsRightStatement symbols) b.body front s rest rights split).actuals 0
        (in_parameter_order (source_block_at c.blocks callee.place) callee.formals)

    -- a parameter that is passed on
    passes_on : (lower : List Passing) (index number : ℕ) (w : Width) (higher : List Passing)
        → ps ≡ lower ++ record { index = index; actual = passed.Parameter number w } ∷ higher → PassesParameterOn sb cid index number
    passes_on lower index number w higher e =
        let at = statement_stated c b front s rest split (call_some s.code is_word) in
        record {
          how = how.0;
          instance = instance;
          line = s.line;
          width = w;
          before = at.before;
          after = at.after;
          lower = lower;
          higher = higher;
          callable = callable_here;
          statements = at.is
              ∙ ap (λ (i : Instr). at.before ++ record { instr = i; line = s.line } ∷ at.after)
              (called_instr c b.body at.number s how.0 cid instance callee how.1 res found ∙ ap (λ (z : List Passing). Calls how.0 cid instance z) e);
        }

    in_program : IsAmong symbols t sb
    in_program = among symbols t place b l id sound made.source.known made.source.code

    type_kept : (index number : ℕ) (g f : Formal) → PassesParameterOn sb cid index number → slice_get own number ≡ Some g → slice_get called index ≡ Some f → (q : ParameterRecord) → IsListedAs f q → width_of g.kind ≡ width_of f.kind
        → g.kind ≡ f.kind
    type_kept index number g f on there asks q as_listed wide = by (is_system_function cid.kind) refl
      where
        by : (t' : Bool) → is_system_function cid.kind ≡ t' → g.kind ≡ f.kind
        by true sys =
            given source file symbols t accepted bytes file_bytes sb in_program.front in_program.back in_program.is cid number index g f on sys there
            (ap (λ (t' : Bool). slice_get (if t' then system_parameters cid.number else formals_of_block ss cid) index) (sym sys) ∙ asks) wide as_listed.kind
        by false other =
            asked source file symbols t accepted bytes file_bytes sb in_program.front in_program.back in_program.is cid number index g f on other there
            (ap (λ (t' : Bool). slice_get (if t' then system_parameters cid.number else formals_of_block ss cid) index) (sym other) ∙ asks) wide

    -- one that is passed
    passable : (lower : List Passing) (p : Passing) (higher : List Passing) → ps ≡ lower ++ p ∷ higher → IsPassable listed own called p
    passable lower p higher e = record {
      formal = asks.0;
      there = asks.1;
      fits = fitting_listed here listed own asks.0 q.0 p.actual asks.2 (split_holds (λ (z : Passing). actual_fits z.actual ≡ true) ps lower p higher good e) fault.right q.2
          (backed p.actual refl fault.right q.2 (split_holds (λ (z : Passing). IsStored listed z.actual) ps lower p higher stored e));
    }
      where
        fault : IsFitting here (Some flat) p
        fault = split_holds (IsFitting here (Some flat)) ps lower p higher no_fault e

        q : (r : ParameterRecord) × (slice_get again_called.params p.index ≡ Some r) × (misfits_parameter here r p.actual ≡ false)
        q = some_index here (slice_get again_called.params p.index) p.actual fault.fits

        asks : (f : Formal) × (slice_get called p.index ≡ Some f) × IsListedAs f q.0
        asks = again_called.formals.formals p.index q.0 q.1

        backed : (x : Passed) → p.actual ≡ x → is_bad_actual here x ≡ false → misfits_parameter here q.0 x ≡ false → IsStored listed x → IsBacked here listed own asks.0 x
        backed (passed.Literal value) is right k store = tt
        backed (passed.Direct a w byte bit) is right k store = tt
        backed (passed.InBlock number a w byte bit) is right k store = (some_number (nat_eq number 0) refl, store)
          where
            some_number : (t' : Bool) → nat_eq number 0 ≡ t' → t' ≡ false
            some_number false z = refl
            some_number true z =
                let zero_is : number ≡ 0 = eqb-true number 0 z in
                absurd (no_zero listed (subst (λ n. data_number listed (data_block_name n) ≡ Some n) zero_is store))
        backed (passed.Parameter number w) is right k store =
            let record_there = no_own (parameter_meant here number) w right in
            let mine = own_there number record_there.0 record_there.1 in
            let parts = or_parts (not (q.0.width == width_number w)) (not (q.0.section == section_in) && is_in_parameter (parameter_meant here number)) k in
            let wide : width_of mine.formal.kind ≡ width_of asks.0.kind
            = same_kinds_wide asks.0 mine.formal q.0 record_there.0 w asks.2 mine.as_listed parts.0 (ap (λ o. lacks_own_parameter o w) (sym record_there.1) ∙ right) in
            let on = passes_on lower p.index number w higher (e ∙ ap (λ (x : Passed). lower ++ record { index = p.index; actual = x } ∷ higher) is) in
            (mine.formal, record_there.0, record_there.1, mine.as_listed, type_kept p.index number mine.formal asks.0 on mine.there asks.1 q.0 asks.2 wide, mine.sees)

    -- ---- all of it

    pub call_again : IsFoundAgain c listed own called s cid instance callee
    call_again = record {
      found = again_called.callee;
      is = callee_numbered listed cid (option_map data_block_name instance) again_called.callee again_called.found;
      same = again_called.same ∙ sym same_callee;
      size = sym (order_long (source_block_at listed.blocks again_called.callee.place) again_called.callee.formals) ∙ ap length again_called.order ∙ length-map called in_upper_case
          ∙ sym again_called.kinds
          ∙ ap length ((owes.1 callee found).2) ∙ length-map (formals_by_index c callee) (λ (f : Formal). f.kind) ∙ order_long (source_block_at c.blocks callee.place) callee.formals;
      order = again_called.order;
      named = again_called.named;
      passable = all_split (IsPassable listed own called) ps passable;
      rising = passings_rise here (Some flat) None 0 ps refl passed_here;
      complete = λ e. all_passed called again_called.params ps again_called.count
          (complete_call (again_called.kind == kind_number kinds.Fb) (are_all_passed 0 again_called.params (pass_ops ps)) _
          (ap (λ o. is_bad_call (lens_of (data_blocks_of t symbols (layouts_of t symbols))) o (number_or_zero instance) (pass_ops ps)) (sym again_called.flat) ∙ fits.2)
          (ap (λ n. n == kind_number kinds.Fb) again_called.is_kind
          ∙ other_number cid.kind callable_here (ap (λ (i : BlockId). is_function_block i.kind) (sym same_callee) ∙ second_true (has_actuals s.code) (is_function_block callee.id.kind) e)));
    }

  -- each statement
  pub each_again : (front : List Statement) (s : Statement) (rest : List Statement) → b.body ≡ front ++ s ∷ rest → IsCalledAgain c listed ss own s
  each_again front s rest e cid instance callee res found = call_again s front rest e cid instance callee res found

pub calls_again : AreCallsAgain
calls_again source file symbols t accepted bytes file_bytes others clean again place b l id made =
    all_split (IsCalledAgain (source_context_at symbols t place) (again_at symbols t others again) (signatures_in (program_in symbols t)) (formals_of_block (signatures_in (program_in symbols t)) id)) b.body
    (each_again source file symbols t accepted bytes file_bytes others clean again place b l id made)
