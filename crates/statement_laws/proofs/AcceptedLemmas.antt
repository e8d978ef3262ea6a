-- In a source that breaks no rule each statement names what it acts on, and does as it is written.
use Rattle.std.proofs.Common.{ℕ, ◌≡◌, nat_eq, Bool, true, false, not, ◌&&◌, ◌||◌, is_some, List, [], ◌∷◌, length, slice_get, Option, Some, None, if◌then◌else◌, refl, sym, ◌∙◌, ap, ap₂, subst}
use Rattle.std.specs.List.{AllByRecursion}
use Rattle.std.specs.Option.{option_map, option_and_then}
use Rattle.std.proofs.lemmas.Bool.{false≢true}
use Rattle.plc_base.specs.Kinds.{is_data_block, is_system_function}
use Rattle.plc_base.specs.declared.blocks.BlockId.{BlockId}
use Rattle.stl_ast.specs.Literals.{AreBytes}
use Rattle.stl_ast.specs.Statements.{is_empty_statement}
use Rattle.stl_ast.specs.declared.blocks.Block.{Block}
use Rattle.stl_ast.specs.declared.blocks.PathStep.{PathStep}
use Rattle.stl_ast.specs.declared.blocks.Tree.{Tree}
use Rattle.stl_ast.specs.declared.declarations.Bounds.{Bounds}
use Rattle.stl_ast.specs.declared.mnemonics.Mnemonic.{Mnemonic}
use Rattle.stl_ast.specs.declared.mnemonics.Mnemonic.TheVariants as code
use Rattle.stl_ast.specs.declared.names.BlockName.{BlockName}
use Rattle.stl_ast.specs.declared.operands.Operand.{Operand}
use Rattle.stl_ast.specs.declared.operands.Operand.TheVariants as operand
use Rattle.stl_ast.specs.declared.operands.PathHead.TheVariants as head
use Rattle.stl_ast.specs.declared.statements.Actual.{Actual}
use Rattle.stl_ast.specs.declared.statements.Statement.{Statement}
use Rattle.stl_symbols.specs.Symbol.{Symbol}
use Rattle.block_layout.specs.Blocks.{found_block, named_block}
use Rattle.block_layout.specs.Layouts.{layouts_of}
use Rattle.block_layout.specs.Measures.{types_of_source}
use Rattle.block_layout.specs.Paths.{folded_path, leaves_structure, plain_kind, structure_of}
use Rattle.block_layout.specs.Rule42.{leaves_found, operand_is_outside}
use Rattle.block_layout.specs.Cells.{components_of}
use Rattle.block_layout.specs.declared.blocks.BlockLayout.{BlockLayout}
use Rattle.block_layout.specs.declared.cells.Cell.{Cell}
use Rattle.block_layout.specs.declared.cells.Element.{Element}
use Rattle.stl_types.specs.Context.{Context, data_number, data_place, whole_place}
use Rattle.stl_types.specs.Parameters.{callee_of}
use Rattle.stl_types.specs.Resolution.{resolution_of_call, id_at, instance_number, resolution_of, whole_called_block}
use Rattle.stl_types.specs.ResolvedStatement.{resolved_operand}
use Rattle.stl_types.specs.declared.resolved_operands.Resolution.{Resolution}
use Rattle.stl_types.specs.declared.resolved_operands.Resolution.TheVariants.{Resolved, Unknown, Unjudged}
use Rattle.stl_types.specs.declared.resolved_operands.ResolvedOperand.{ResolvedOperand}
use Rattle.stl_types.specs.declared.resolved_operands.ResolvedOperand.TheVariants as resolved
use Rattle.stl_codegen.specs.Instruction.{instruction}
use Rattle.stl_codegen.specs.Operations.{call_operation_of, jump_operation_of}
use Rattle.stl_codegen.specs.PassedParameters.{passed_resolution, passed_by_operand}
use Rattle.flat_code.specs.declared.kinds.JumpOperation.{JumpOperation}
use Rattle.flat_code.specs.declared.kinds.JumpOperation.TheVariants as jump
use Rattle.flat_code.specs.declared.operands.Passed.{Passed}
use Rattle.flat_code.specs.declared.operations.CallOperation.{CallOperation}
use Rattle.flat_code.specs.declared.operations.CallOperation.TheVariants as how_called
use Rattle.sem_kept.specs.AcceptedSource.{IsAccepted}
use Rattle.sem_kept.specs.SettledStatements.{HasCalled, HasInstruction, HasLabel, HasOperand, NamesWhatIsPassed, IsResolvedStatement, context_at}
use Rattle.sem_kept.proofs.accepted.Accepted.{IsSoundBlock, IsSoundActual, IsSoundStatement, all_mapped, right_tree}
use Rattle.block_layout.proofs.CommonLemmas.{all_there}
use Rattle.sem_kept.proofs.accepted.OperandsCells.{cells_are, layout_of_block}
use Rattle.block_layout.proofs.LayoutLemmas.{measured_symbols}
use Rattle.sem_kept.proofs.accepted.OperandsPlaces.{IsParameterCell, function_components}
use Rattle.sem_kept.proofs.accepted.OperandsViews.{function_kind, ids_same}
use Rattle.sem_kept.proofs.accepted.Settled.{statements_settle}
use Rattle.statement_laws.specs.AcceptedStatements.{AcceptedOperandsAreNamed, AcceptedStatementsAct, ActsOnItsOperand, CallsNamed, DoesAsWritten, IsNamed, IsNamedStatement, GoesByJumpList, JumpsToLabel, NamesCalled, is_no_branch}
use Rattle.statement_laws.specs.Effects.{effect_of_statement}
use Rattle.statement_laws.specs.Laws.{Acts, HasElementaryParameters, IsNamedActual, has_fixed_name, is_bit_logic, is_comparison, is_data_block_instruction, is_elementary_component, is_block_end, is_idle, is_load_or_transfer, is_number_instruction, is_plain_jump, is_relay, is_shift, is_timing, is_variable, stays_inside, is_call_instruction, is_jump_by_list}
use Rattle.statement_laws.specs.NamedOperands.{NamedItem}
use Rattle.statement_laws.specs.NamedOperands as named
use Rattle.statement_laws.specs.Operands.{item_named_by, with_instance, is_fc_block}
use Rattle.statement_laws.proofs.CallLemmas.{calls_act}
use Rattle.statement_laws.proofs.CoverLemmas.{has_no_name, named_there, operands_are_named}
use Rattle.statement_laws.proofs.FamilyLemmas as families
use Rattle.statement_laws.proofs.JumpLemmas.{ends_act, jump_lists_act, plain_jumps_act}
use Rattle.statement_laws.proofs.NumberLemmas.{families_are_all}
use Rattle.statement_laws.proofs.ResolutionLemmas.{block_same, number_known, resolved_parts, resolved_same}
use Rattle.statement_laws.proofs.VariableCover.{path_there, variables_are_named}
use Rattle.statement_laws.proofs.WordLemmas.{HasKnownWord, StatementHasKnownWord, words_known}

-- ---- variables

-- the parameters of a function are of elementary type

plain_cell : (cell : Cell) → IsParameterCell cell → is_elementary_component cell ≡ true
plain_cell cell h =
    ap₂ (λ (bounds : List Bounds) (of : Element). nat_eq 0 (length bounds) && is_some (plain_kind of)) h.single h.plain

plain_parameters : (symbols : List Symbol) (t : Tree) (k : ℕ) (b : Block) (l : BlockLayout)
    → IsSoundBlock symbols t k b l → HasElementaryParameters (context_at symbols t k)
plain_parameters symbols t k b l block fc =
    subst (AllByRecursion (λ (cell : Cell). is_elementary_component cell ≡ true))
    (sym (cells_are symbols t k b l block false))
    (all_mapped IsParameterCell (λ (cell : Cell). is_elementary_component cell ≡ true) plain_cell
    (components_of (types_of_source symbols t.blocks) b)
    (function_components (types_of_source symbols t.blocks) b block.well_formed
    (function_kind b.kind (sym (ap is_fc_block block.block_there) ∙ fc))))

-- no index of a path lies outside its array

found_same : (symbols : List Symbol) (t : Tree) (k : ℕ) (name : BlockName)
    → data_place (context_at symbols t k) name
    ≡ found_block (types_of_source symbols t.blocks).symbols (types_of_source symbols t.blocks).ids is_data_block name
found_same symbols t k name =
    ap (λ (is : List (Option BlockId)). found_block symbols is is_data_block name) (ids_same symbols t)
    ∙ ap (λ (s : List Symbol). found_block s (types_of_source symbols t.blocks).ids is_data_block name)
    (sym (measured_symbols symbols t.blocks))

leaves_same : (l : List BlockLayout) (o : Option ℕ) (steps : List PathStep)
    → leaves_found l o steps ≡ leaves_structure l (option_and_then (structure_of l) o) steps
leaves_same l None steps = refl
leaves_same l (Some place) steps = refl

stays : (symbols : List Symbol) (t : Tree) (k : ℕ) (o : Operand)
    → operand_is_outside (types_of_source symbols t.blocks) (layouts_of t symbols) k o ≡ false
    → stays_inside (context_at symbols t k) o ≡ true
stays symbols t k (operand.Named (head.Local name) steps) e = ap not e
stays symbols t k (operand.Named (head.InBlock name) steps) e =
    ap not (ap (λ (o : Option ℕ). leaves_structure (layouts_of t symbols)
    (option_and_then (structure_of (layouts_of t symbols)) o) (folded_path steps)) (found_same symbols t k name)
    ∙ sym (leaves_same (layouts_of t symbols)
    (found_block (types_of_source symbols t.blocks).symbols (types_of_source symbols t.blocks).ids is_data_block name)
    (folded_path steps))
    ∙ e)
stays symbols t k (operand.Named (head.Symbol name) steps) e = refl
stays symbols t k _ e = refl

-- ---- called blocks

-- the called block that an operand of a call names
record NamesBlock (c : Context) (name : BlockName) (db : Option BlockName) (v : ResolvedOperand) : Type 0 where
  id : BlockId
  instance : Option ℕ
  resolves : v ≡ resolved.Called id instance
  names : item_named_by c (operand.Called name db) ≡ Some (named.Called id instance)

placed_same : (id other : BlockId) (place : Option ℕ) → id_at id place ≡ Some other → Some id ≡ Some other
placed_same id other None e = absurd cc
placed_same id other (Some p) e = e

whole_same : (c : Context) (o : Option BlockId) (id : BlockId) → whole_called_block c o ≡ Some id → o ≡ Some id
whole_same c None id e = absurd cc
whole_same c (Some other) id e = by (is_system_function other.kind) e
  where
    by : (b : Bool) → (if b then Some other else id_at other (whole_place c other)) ≡ Some id → Some other ≡ Some id
    by true h = h
    by false h = placed_same other id (whole_place c other) h

block_named : (c : Context) (name : BlockName) (db : Option BlockName) (v : ResolvedOperand)
    → resolution_of_call (whole_called_block c (named_block c.symbols name)) db (instance_number c db) ≡ Resolved v
    → NamesBlock c name db v
unfolding item_named_by
block_named c name None v e = bare (whole_called_block c (named_block c.symbols name)) refl e
  where
    bare : (o : Option BlockId) → whole_called_block c (named_block c.symbols name) ≡ o
        → resolution_of_call o None None ≡ Resolved v → NamesBlock c name None v
    bare None is h = absurd cc
    bare (Some id) is h = record {
      id = id;
      instance = None;
      resolves = sym (resolved_same (resolved.Called id None) v h);
      names = ap (option_map (λ (id : BlockId). named.Called id None))
          (sym (block_same c name) ∙ whole_same c (named_block c.symbols name) id is);
    }
block_named c name (Some db) v e =
    both (whole_called_block c (named_block c.symbols name)) (data_number c db) refl refl e
  where
    both : (o : Option BlockId) (number : Option ℕ) → whole_called_block c (named_block c.symbols name) ≡ o
        → data_number c db ≡ number → resolution_of_call o (Some db) number ≡ Resolved v → NamesBlock c name (Some db) v
    both None number is d h = absurd cc
    both (Some id) None is d h = absurd cc
    both (Some id) (Some number) is d h = record {
      id = id;
      instance = Some number;
      resolves = sym (resolved_same (resolved.Called id (Some number)) v h);
      names = ap₂ with_instance
          (sym (block_same c name) ∙ whole_same c (named_block c.symbols name) id is)
          (number_known c db number d);
    }

call_named : (c : Context) (name : BlockName) (db : Option BlockName) (v : ResolvedOperand)
    → resolution_of c (operand.Called name db) ≡ Resolved v → NamesBlock c name db v
unfolding resolution_of
call_named c name db v e = block_named c name db v e

-- ---- operands of statements

operand_named : (c : Context) (s : Statement) (v : ResolvedOperand) → HasElementaryParameters c
    → stays_inside c s.operand ≡ true → StatementHasKnownWord s → resolved_operand c s ≡ Some v → IsNamed c s.operand
operand_named c s v plain inside word r = by s.operand refl word
  where
    resolves : resolution_of c s.operand ≡ Resolved v
    resolves = (resolved_parts c s v r).1

    by : (o : Operand) → s.operand ≡ o → HasKnownWord o → IsNamed c s.operand
    by (operand.Called name db) e h =
        let called = call_named c name db v (sym (ap (resolution_of c) e) ∙ resolves) in
        (named.Called called.id called.instance, ap (item_named_by c) e ∙ called.names)
    by (operand.Named (head.Local name) steps) e h =
        variables_are_named c s v plain (ap is_variable e) inside r
    by (operand.Named (head.InBlock name) steps) e h =
        variables_are_named c s v plain (ap is_variable e) inside r
    by (operand.Named (head.Symbol name) steps) e h = operands_are_named c s v (ap has_fixed_name e) r
    by (operand.Other name) e h = operands_are_named c s v (ap has_fixed_name e ∙ h) r
    by _ e h = operands_are_named c s v (ap has_fixed_name e) r

label_named : (c : Context) (body : List Statement) (s : Statement) → HasLabel body s → IsNamed c s.operand
unfolding item_named_by
label_named c body s h = (named.Label, ap (item_named_by c) h.is)

-- ---- actual parameters

-- what is passed is named
passed_named : (o : Operand) (v : ResolvedOperand) (p : Passed) → passed_by_operand o v ≡ Some p → has_no_name v ≡ false
passed_named o (resolved.Direct place width side declared) p e = refl
passed_named o (resolved.Parameter index section declared) p e = refl
passed_named o resolved.Constant p e = refl
passed_named o _ p e = absurd cc

-- it is no register
passed_word : (c : Context) (name : List ℕ) (v : ResolvedOperand) (p : Passed)
    → resolution_of c (operand.Other name) ≡ Resolved v → passed_by_operand (operand.Other name) v ≡ Some p → ⊥
unfolding resolution_of
passed_word c name v p e h = none (ap (passed_by_operand (operand.Other name)) (resolved_same _ v e) ∙ h)
  where
    none : None ≡ Some p → ⊥
    none k = cc

value_named : (c : Context) (o : Operand) (v : ResolvedOperand) (p : Passed) → HasElementaryParameters c
    → stays_inside c o ≡ true → resolution_of c o ≡ Resolved v → passed_by_operand o v ≡ Some p → IsNamed c o
value_named c (operand.Called name db) v p plain inside e h =
    let called = call_named c name db v e in (named.Called called.id called.instance, called.names)
value_named c (operand.Named (head.Local name) steps) v p plain inside e h =
    path_there c (operand.Named (head.Local name) steps) v plain refl inside
    (passed_named (operand.Named (head.Local name) steps) v p h) e
value_named c (operand.Named (head.InBlock name) steps) v p plain inside e h =
    path_there c (operand.Named (head.InBlock name) steps) v plain refl inside
    (passed_named (operand.Named (head.InBlock name) steps) v p h) e
value_named c (operand.Named (head.Symbol name) steps) v p plain inside e h =
    named_there c (operand.Named (head.Symbol name) steps) v refl
    (passed_named (operand.Named (head.Symbol name) steps) v p h) e
value_named c (operand.Other name) v p plain inside e h = absurd (passed_word c name v p e h)
value_named c o v p plain inside e h = named_there c o v refl (passed_named o v p h) e

actual_named : (c : Context) (a : Actual) → HasElementaryParameters c → stays_inside c a.value ≡ true
    → NamesWhatIsPassed c a → IsNamedActual c a
actual_named c a plain inside passed = by (resolution_of c a.value) refl passed.1
  where
    by : (r : Resolution) → resolution_of c a.value ≡ r → passed_resolution a.value r ≡ Some passed.0 → IsNamedActual c a
    by (Resolved v) e h =
        let there = value_named c a.value v passed.0 plain inside e h in
        record { resolved_value = v; resolves = e; item = there.0; names = there.1 }
    by Unknown e h = absurd cc
    by Unjudged e h = absurd cc

-- ---- statements

-- what is known of a statement of an accepted source
record IsKnown (c : Context) (body : List Statement) (s : Statement) : Type 0 where
  inside : stays_inside c s.operand ≡ true
  word : StatementHasKnownWord s
  settled : IsResolvedStatement c body s
  passed : AllByRecursion (λ (a : Actual). stays_inside c a.value ≡ true) s.actuals

actuals_named : (c : Context) (actuals : List Actual) → HasElementaryParameters c
    → AllByRecursion (λ (a : Actual). stays_inside c a.value ≡ true) actuals
    → AllByRecursion (NamesWhatIsPassed c) actuals → AllByRecursion (IsNamedActual c) actuals
actuals_named c [] plain inside passed = tt
actuals_named c (a ∷ actuals) plain inside passed = (
  actual_named c a plain inside.0 passed.0,
  actuals_named c actuals plain inside.1 passed.1,
)

-- the operand of a statement that is no jump resolves
found_operand : (c : Context) (s : Statement) (o : Option CallOperation) → HasOperand c s o
    → (v : ResolvedOperand) × (resolved_operand c s ≡ Some v)
found_operand c s None h = h
found_operand c s (Some how) h = (resolved.Called h.id h.instance, h.called)

statement_operand : (c : Context) (body : List Statement) (s : Statement) → HasElementaryParameters c
    → IsKnown c body s → (o : Option JumpOperation) → HasInstruction c body s o → IsNamed c s.operand
statement_operand c body s plain h None has =
    let found = found_operand c s (call_operation_of s.code) has in
    operand_named c s found.0 plain h.inside h.word found.1
statement_operand c body s plain h (Some how) has = label_named c body s has

-- calls

record IsCall (m : Mnemonic) : Type 0 where
  how : CallOperation
  no_jump : jump_operation_of m ≡ None
  is : call_operation_of m ≡ Some how

call_is : (m : Mnemonic) → is_call_instruction m ≡ true → IsCall m
call_is code.Call e = record { how = how_called.Call; no_jump = refl; is = refl }
call_is code.Uc e = record { how = how_called.Uc; no_jump = refl; is = refl }
call_is code.Cc e = record { how = how_called.Cc; no_jump = refl; is = refl }
call_is _ e = absurd (false≢true e)

call_settled : (c : Context) (body : List Statement) (s : Statement) → is_call_instruction s.code ≡ true
    → IsResolvedStatement c body s → HasCalled c s
call_settled c body s is settled =
    let call = call_is s.code is in
    subst (HasOperand c s) call.is (subst (HasInstruction c body s) call.no_jump settled.instruction)

same_id : (a b : BlockId) (m n : Option ℕ) → resolved.Called a m ≡ resolved.Called b n → a ≡ b
same_id a b m n e = cc

called_named : (c : Context) (s : Statement) → HasCalled c s → NamesCalled c s
unfolding callee_of
called_named c s h = by s.operand refl (h.found)
  where
    by : (o : Operand) → s.operand ≡ o → callee_of c o ≡ Some h.callee → NamesCalled c s
    by (operand.Called name db) e f =
        let block = call_named c name db (resolved.Called h.id h.instance)
        (sym (ap (resolution_of c) e) ∙ (resolved_parts c s (resolved.Called h.id h.instance) h.called).1) in
        record {
          name = name;
          db = db;
          is = e;
          id = block.id;
          instance = block.instance;
          names = block.names;
          callee = h.callee;
          found = f;
          same = h.same ∙ same_id h.id block.id h.instance block.instance block.resolves;
        }
    by _ e f = absurd cc

statement_named : (c : Context) (body : List Statement) → HasElementaryParameters c → (s : Statement)
    → IsKnown c body s → IsNamedStatement c s
statement_named c body plain s h = record {
  operand = statement_operand c body s plain h (jump_operation_of s.code) h.settled.instruction;
  called = λ is. called_named c s (call_settled c body s is h.settled);
  actuals = actuals_named c s.actuals plain h.passed h.settled.actuals;
}

-- ---- what is done

-- in one case or the other
in_either : {X : Type 0} (a b : Bool) → (a || b) ≡ true → (a ≡ true → X) → (b ≡ true → X) → X
in_either true b e f g = f refl
in_either false b e f g = g e

no_jump : (m : Mnemonic) → is_no_branch m ≡ true → jump_operation_of m ≡ None
no_jump code.Ju e = absurd (false≢true e)
no_jump code.Jc e = absurd (false≢true e)
no_jump code.Jcn e = absurd (false≢true e)
no_jump code.Jcb e = absurd (false≢true e)
no_jump code.Jnb e = absurd (false≢true e)
no_jump code.Jbi e = absurd (false≢true e)
no_jump code.Jnbi e = absurd (false≢true e)
no_jump code.Jo e = absurd (false≢true e)
no_jump code.Jos e = absurd (false≢true e)
no_jump code.Jz e = absurd (false≢true e)
no_jump code.Jn e = absurd (false≢true e)
no_jump code.Jp e = absurd (false≢true e)
no_jump code.Jm e = absurd (false≢true e)
no_jump code.Jpz e = absurd (false≢true e)
no_jump code.Jmz e = absurd (false≢true e)
no_jump code.Juo e = absurd (false≢true e)
no_jump code.Loop e = absurd (false≢true e)
no_jump code.Jl e = absurd (false≢true e)
no_jump _ e = refl

end_no_jump : (m : Mnemonic) → is_block_end m ≡ true → jump_operation_of m ≡ None
end_no_jump code.Be e = refl
end_no_jump code.Bec e = refl
end_no_jump code.Beu e = refl
end_no_jump _ e = absurd (false≢true e)

jump_is : (m : Mnemonic) → is_plain_jump m ≡ true → (how : JumpOperation) × (jump_operation_of m ≡ Some how)
jump_is code.Ju e = (jump.Ju, refl)
jump_is code.Jc e = (jump.Jc, refl)
jump_is code.Jcn e = (jump.Jcn, refl)
jump_is code.Jcb e = (jump.Jcb, refl)
jump_is code.Jnb e = (jump.Jnb, refl)
jump_is code.Jbi e = (jump.Jbi, refl)
jump_is code.Jnbi e = (jump.Jnbi, refl)
jump_is code.Jo e = (jump.Jo, refl)
jump_is code.Jos e = (jump.Jos, refl)
jump_is code.Jz e = (jump.Jz, refl)
jump_is code.Jn e = (jump.Jn, refl)
jump_is code.Jp e = (jump.Jp, refl)
jump_is code.Jm e = (jump.Jm, refl)
jump_is code.Jpz e = (jump.Jpz, refl)
jump_is code.Jmz e = (jump.Jmz, refl)
jump_is code.Juo e = (jump.Juo, refl)
jump_is code.Loop e = (jump.Loop, refl)
jump_is _ e = absurd (false≢true e)

jump_list_is : (m : Mnemonic) → is_jump_by_list m ≡ true → m ≡ code.Jl
jump_list_is code.Jl e = refl
jump_list_is _ e = absurd (false≢true e)

family_acts : (c : Context) (body : List Statement) (n : ℕ) (s : Statement) (v : ResolvedOperand) (x : NamedItem)
    → resolved_operand c s ≡ Some v → item_named_by c s.operand ≡ Some x → is_no_branch s.code ≡ true
    → Acts (instruction c body n s) (effect_of_statement s.code x)
family_acts c body n s v x e names is =
    in_either _ (is_idle s.code) is
    (λ is. in_either _ (is_data_block_instruction s.code) is
    (λ is. in_either _ (is_relay s.code) is
    (λ is. in_either _ (is_timing s.code) is
    (λ is. in_either _ (is_shift s.code) is
    (λ is. in_either _ (is_comparison s.code) is
    (λ is. in_either _ (is_number_instruction s.code) is
    (λ is. in_either (is_bit_logic s.code) (is_load_or_transfer s.code) is
    (λ f. families.bit_logic_acts c body n s v x f e names)
    (λ f. families.load_or_transfer_acts c body n s v x f e names))
    (λ f. families.number_instruction_acts c body n s v x f e names))
    (λ f. families.comparison_acts c body n s v x f e names))
    (λ f. families.shift_acts c body n s v x f e names))
    (λ f. families.timing_acts c body n s v x f e names))
    (λ f. families.relay_acts c body n s v x f e names))
    (λ f. families.data_block_acts c body n s v x f e names))
    (λ f. families.idle_acts c body n s v x f e names)

-- the operand of a statement whose word is no jump resolves
resolves : (c : Context) (body : List Statement) (s : Statement) → IsKnown c body s
    → jump_operation_of s.code ≡ None → (v : ResolvedOperand) × (resolved_operand c s ≡ Some v)
resolves c body s h none =
    found_operand c s (call_operation_of s.code)
    (subst (HasInstruction c body s) none h.settled.instruction)

going_on : (c : Context) (body : List Statement) (n : ℕ) (s : Statement) → HasElementaryParameters c
    → IsKnown c body s → is_no_branch s.code ≡ true → ActsOnItsOperand c body n s
going_on c body n s plain h is =
    let found = resolves c body s h (no_jump s.code is) in
    let there = operand_named c s found.0 plain h.inside h.word found.1 in
    record {
      item = there.0;
      names = there.1;
      acts = family_acts c body n s found.0 there.0 found.1 there.1 is;
    }

jumps_on : (c : Context) (body : List Statement) (n : ℕ) (s : Statement) → IsKnown c body s
    → is_plain_jump s.code ≡ true → JumpsToLabel c body n s
jumps_on c body n s h is =
    let how = jump_is s.code is in
    let label = subst (HasInstruction c body s) how.1 h.settled.instruction in
    record { label = label; acts = plain_jumps_act c body n s label.name is label.is }

listed_on : (c : Context) (body : List Statement) (n : ℕ) (s : Statement) → IsKnown c body s
    → is_jump_by_list s.code ≡ true → GoesByJumpList c body n s
listed_on c body n s h is =
    let word = jump_list_is s.code is in
    let label = subst (HasInstruction c body s) (ap jump_operation_of word) h.settled.instruction in
    record { label = label; acts = jump_lists_act c body n s label.name word label.is }

called_on : (c : Context) (body : List Statement) (n : ℕ) (s : Statement) → HasElementaryParameters c
    → IsKnown c body s → is_call_instruction s.code ≡ true → CallsNamed c body n s
called_on c body n s plain h is =
    let has = call_settled c body s is h.settled in
    let called = called_named c s has in
    let actuals = actuals_named c s.actuals plain h.passed h.settled.actuals in
    record {
      called = called;
      actuals = actuals;
      acts = calls_act c body n s (resolved.Called has.id has.instance) called.name called.db called.id called.instance
          called.callee is called.is has.called called.names called.found actuals;
    }

does_as_written : (c : Context) (body : List Statement) → HasElementaryParameters c → (s : Statement)
    → IsKnown c body s → is_empty_statement s.code ≡ false → (n : ℕ) → DoesAsWritten c body n s
does_as_written c body plain s h some n = record {
  family = families_are_all s.code ∙ ap not some;
  goes_on = going_on c body n s plain h;
  jumps = jumps_on c body n s h;
  jumps_by_list = listed_on c body n s h;
  ends = λ is.
      let found = resolves c body s h (end_no_jump s.code is) in
      ends_act c body n s found.0 is found.1;
  calls = called_on c body n s plain h;
}

-- ---- accepted sources

module _ (symbols : List Symbol) (t : Tree) (k : ℕ) where
  actuals_inside : (actuals : List Actual)
      → AllByRecursion (IsSoundActual (types_of_source symbols t.blocks) (context_at symbols t k)) actuals
      → AllByRecursion (λ (a : Actual). stays_inside (context_at symbols t k) a.value ≡ true) actuals
  actuals_inside [] h = tt
  actuals_inside (a ∷ actuals) h = (stays symbols t k a.value h.0.inside, actuals_inside actuals h.1)

  all_known : (body ss : List Statement)
      → AllByRecursion (IsSoundStatement (types_of_source symbols t.blocks) (context_at symbols t k)) ss
      → AllByRecursion StatementHasKnownWord ss → AllByRecursion (IsResolvedStatement (context_at symbols t k) body) ss
      → AllByRecursion (IsKnown (context_at symbols t k) body) ss
  all_known body [] sound words settled = tt
  all_known body (s ∷ ss) sound words settled = (
    record {
      inside = stays symbols t k s.operand sound.0.inside;
      word = words.0;
      settled = settled.0;
      passed = actuals_inside s.actuals sound.0.actuals;
    },
    all_known body ss sound.1 words.1 settled.1,
  )

-- what is known of a block of an accepted source
record IsKnownBlock (c : Context) (b : Block) : Type 0 where
  plain : HasElementaryParameters c
  statements : AllByRecursion (IsKnown c b.body) b.body

block_known : (source file : List ℕ) (symbols : List Symbol) (t : Tree) → IsAccepted source file symbols t
    → AreBytes source → (k : ℕ) (b : Block) → slice_get t.blocks k ≡ Some b
    → IsKnownBlock (context_at symbols t k) b
block_known source file symbols t accepted bytes k b there =
    let laid = layout_of_block symbols t (right_tree source file symbols t accepted) k b there in
    record {
      plain = plain_parameters symbols t k b laid.0 laid.2;
      statements = all_known symbols t k b.body b.body laid.2.statements
          (all_there (λ (b : Block). AllByRecursion StatementHasKnownWord b.body) t.blocks k b
          (words_known source accepted.tokens t accepted.parsed) there)
          (statements_settle source file symbols t accepted bytes k b there);
    }

pub accepted_operands_are_named : AcceptedOperandsAreNamed
accepted_operands_are_named source file symbols t accepted bytes k b there =
    let known = block_known source file symbols t accepted bytes k b there in
    all_mapped (IsKnown (context_at symbols t k) b.body) (IsNamedStatement (context_at symbols t k))
    (statement_named (context_at symbols t k) b.body known.plain) b.body known.statements

pub accepted_statements_act : AcceptedStatementsAct
accepted_statements_act source file symbols t accepted bytes k b there =
    let known = block_known source file symbols t accepted bytes k b there in
    all_mapped (IsKnown (context_at symbols t k) b.body)
    (λ (s : Statement). is_empty_statement s.code ≡ false → (n : ℕ) → DoesAsWritten (context_at symbols t k) b.body n s)
    (does_as_written (context_at symbols t k) b.body known.plain) b.body known.statements
