-- A call fits what surrounds its block: what it calls is there, its instance is long enough, and all
-- that it owes is passed.
use Rattle.std.proofs.Common.{ℕ, suc, ◌≡◌, ◌≤◌, ◌/◌, ◌⊎◌, inl, inr, ⊎_elim, List, [], ◌∷◌, ◌++◌, append_assoc, Option, Some, None, is_some, Bool, true, false, ◌&&◌, ◌||◌, not, nat_lt, nat_le, refl, sym, ◌∙◌, ap, subst, arith, map, find, bytes_eq, if◌then◌else◌, eqb-true, le-ltb, leb-true, eq-eqb, ne_eqb}
use Rattle.std.specs.Prelude.{◌==◌}
use Rattle.std.specs.List.{AllByRecursion, list_all, list_any, slice_get}
use Rattle.std.specs.Option.{is_none, option_and_then, option_map}
use Rattle.std.proofs.lemmas.Bool.{not-false}
use Rattle.std.proofs.lemmas.Option.{same_Some}
use Rattle.plc_base.proofs.TruthLemmas.{and_first, and_second}
use Rattle.plc_base.specs.Kinds.{kind_number, is_code, is_data_block, is_function, is_function_block, is_system_function, is_callable}
use Rattle.plc_base.specs.declared.blocks.BlockId.{BlockId}
use Rattle.plc_base.specs.declared.blocks.BlockKind.{BlockKind}
use Rattle.plc_base.specs.declared.blocks.BlockKind.TheVariants as kinds
use Rattle.flat_code.specs.Blocks.{Environment, CalleeSignature as FlatCallee, BlockSignature, are_all_passed, block_with, callee_among as flat_callee, length_of_data, is_bad_call, is_bad_instance, is_index, is_passed, is_short_instance, pass_index, signature_of, callee_of_system, system_params}
use Rattle.flat_code.specs.Image.{record_of_block, record_of_param}
use Rattle.flat_code.specs.Instr.{Passing, Calls}
use Rattle.flat_code.specs.Loading.{lens_of}
use Rattle.flat_code.specs.Ops.{OpData}
use Rattle.flat_code.specs.PlacedOps.{is_empty_list as is_nothing_in}
use Rattle.flat_code.specs.declared.image_fields.ParameterRecord.{ParameterRecord}
use Rattle.flat_code.specs.declared.operands.Operand.TheVariants as flat
use Rattle.flat_code.specs.declared.operands.Passed.{Passed}
use Rattle.flat_code.specs.declared.operands.Passed.TheVariants as passed
use Rattle.flat_code.specs.declared.operations.CallOperation.{CallOperation}
use Rattle.flat_code.specs.declared.operations.CallOperation.TheVariants as calls
use Rattle.flat_code.specs.declared.operations.Operation.TheVariants as operation
use Rattle.stl_ast.specs.Blocks.{is_parameter}
use Rattle.stl_ast.specs.Statements.{IsActual, has_actuals, is_call, names_called_block}
use Rattle.stl_ast.specs.WellFormed.{IsBlock}
use Rattle.stl_ast.specs.declared.blocks.Block.{Block}
use Rattle.stl_ast.specs.declared.blocks.Tree.{Tree}
use Rattle.stl_ast.specs.declared.declarations.Simple.{Simple}
use Rattle.stl_ast.specs.declared.literals.Literal.{Literal}
use Rattle.stl_ast.specs.declared.mnemonics.Mnemonic.{Mnemonic}
use Rattle.stl_ast.specs.declared.mnemonics.Mnemonic.TheVariants as code
use Rattle.stl_ast.specs.declared.names.BlockName.{BlockName}
use Rattle.stl_ast.specs.declared.operands.Operand.{Operand}
use Rattle.stl_ast.specs.declared.operands.Operand.TheVariants as operand
use Rattle.stl_ast.specs.declared.statements.Actual.{Actual}
use Rattle.stl_ast.specs.declared.statements.Statement.{Statement}
use Rattle.plc_base.specs.Folding.{upper_case_name}
use Rattle.stl_symbols.specs.Names.{name_place}
use Rattle.stl_symbols.specs.Symbol.{Symbol}
use Rattle.block_layout.specs.Blocks.{id_of, is_any, is_block_number, known_block, named_block}
use Rattle.block_layout.specs.Cells.{components_of}
use Rattle.block_layout.specs.Fits.{bits_of, number_or_zero}
use Rattle.block_layout.specs.Layouts.{layouts_of}
use Rattle.block_layout.specs.Lengths.{block_bits, length_of_block, local_end, shape_bits}
use Rattle.block_layout.specs.Measures.{types_of_source}
use Rattle.block_layout.specs.Offsets.{width_of}
use Rattle.block_layout.specs.Paths.{cells_at, if_whole, whole_at}
use Rattle.block_layout.specs.Rule23.{is_unknown_called, is_unknown_id, is_unknown_instance, names_unknown}
use Rattle.block_layout.specs.Rule44.{is_number_beyond_limits}
use Rattle.block_layout.specs.Types.{Types}
use Rattle.block_layout.specs.declared.blocks.BlockLayout.{BlockLayout}
use Rattle.block_layout.specs.declared.blocks.Shape.{Shape}
use Rattle.block_layout.specs.declared.blocks.Shape.TheVariants as shape
use Rattle.block_layout.specs.declared.cells.Cell.{Cell}
use Rattle.stl_types.specs.Actuals.{fits_operand, fits_resolution, fits_resolved_operand, formal_named}
use Rattle.stl_types.specs.Calls.{calls_unknown, has_formals, has_no_instance, has_wrong_instance, is_instance, is_no_instance, is_of_block, is_supplied, is_unknown_function, misfits_formal, names_no_formal, supplied_names}
use Rattle.stl_types.specs.Context.{Context, data_number, source_block_ids, whole_data_place, whole_place}
use Rattle.stl_types.specs.OperandRules.{operand_rule_of}
use Rattle.stl_types.specs.Kinds.{is_operand_of_call as is_called_view}
use Rattle.stl_types.specs.Operands.{rule_of_operand, rule_of_resolved_operand, rule_of_resolution}
use Rattle.stl_types.specs.Parameters.{Callee, callee_at, callee_by, callee_of, formals_of, is_sound_formal, source_callee, system_callee, system_formals}
use Rattle.stl_types.specs.Resolution.{resolution_of_call, id_at, instance_number as instance_of_name, resolution_of, whole_called_block}
use Rattle.stl_types.specs.declared.operand_rules.OperandRule.{OperandRule}
use Rattle.stl_types.specs.declared.operand_rules.OperandRule.TheVariants as operand_rules
use Rattle.stl_types.specs.declared.parameters.Formal.{Formal}
use Rattle.stl_types.specs.declared.resolved_operands.Resolution.{Resolution}
use Rattle.stl_types.specs.declared.resolved_operands.Resolution.TheVariants.{Resolved}
use Rattle.stl_types.specs.declared.resolved_operands.ResolvedOperand.{ResolvedOperand}
use Rattle.stl_types.specs.declared.resolved_operands.ResolvedOperand.TheVariants as resolved
use Rattle.stl_codegen.specs.CompiledBlock.{compiled_block}
use Rattle.stl_codegen.specs.EmittedOps.{pass_ops, preparing_op}
use Rattle.stl_codegen.specs.GeneratedProgram.{code_blocks_of, data_blocks_of, instance_len, params_of}
use Rattle.stl_codegen.specs.Instruction.{source_block_at, in_parameter_order, passings_to, return_last}
use Rattle.stl_codegen.specs.PassedParameters.{passed_actual, passed_place, passed_resolution, passed_by_operand, passings_from, actual_of_formal, with_index}
use Rattle.stl_codegen.specs.Operations.{call_operation_of}
use Rattle.sem_kept.specs.CodedBlocks.{OperandHasBytes, StatementHasBytes}
use Rattle.sem_kept.specs.Operands.{ArePassed, InstrFits, PassesAlone}
use Rattle.sem_kept.specs.SettledStatements.{NamesWhatIsPassed, context_at}
use Rattle.sem_kept.proofs.accepted.Accepted.{IsSoundBlock, IsSoundActual, IsSoundCall, IsSoundStatement, IsSoundTree}
use Rattle.sem_kept.proofs.accepted.OperandsCells.{are_right, cells_are, layout_of_block}
use Rattle.block_layout.proofs.SoundnessLemmas.{block_unbroken}
use Rattle.block_layout.proofs.BlockLemmas.{known_there}
use Rattle.block_layout.proofs.LayoutLemmas.{measured_symbols}
use Rattle.sem_kept.proofs.accepted.OperandsFormals.{Distinct, IsFoundIn, IsSystem, Matched, block_formals, bytes_itself, found_each, fresh_distinct, return_all, same_bytes, source_matched, system_matched}
use Rattle.sem_kept.proofs.accepted.OperandsInstr.{CallFits}
use Rattle.sem_kept.proofs.accepted.OperandsMembers.{called_block, instance_found}
use Rattle.sem_kept.proofs.accepted.OperandsPassed.{IsGoodActual, Passes, passed_from, supplied_passes}
use Rattle.sem_kept.proofs.accepted.OperandsSymbols.{IsRightSymbol}
use Rattle.sem_kept.proofs.accepted.OperandsViews.{EndsBy, IsChecked, IsKnownDataBlock, IsThere, Surrounds, block_own, data_block_kind, data_length, data_there, function_block_kind, id_there, id_there_is, ids_same, instance_length, layout_components, layout_id, layout_length, layout_shape, not_none, operand_seen, whole_is}
use Rattle.sem_kept.proofs.accepted.Shared.{call_form, callable_by, calls_called}
use Rattle.block_layout.proofs.CommonLemmas.{or_first, or_second}

-- ---- what is passed stands among the ops

passed_here : (index : ℕ) (done : List OpData) (actual : Passed) (behind : List OpData)
    → is_passed index (done ++ preparing_op operation.Pass (flat.Pass index actual) ∷ behind) ≡ true
passed_here index [] actual behind =
    ap (λ (t : Bool). t || is_passed index behind) (eq-eqb index index refl)
passed_here index (op ∷ done) actual behind =
    either (is_index index (pass_index op.operand)) (passed_here index done actual behind)
  where
    either : (t : Bool) → is_passed index (done ++ preparing_op operation.Pass (flat.Pass index actual) ∷ behind) ≡ true
        → (t || is_passed index (done ++ preparing_op operation.Pass (flat.Pass index actual) ∷ behind)) ≡ true
    either true h = refl
    either false h = h

-- each parameter is supplied
abbrev AreSupplied : List Actual → List Formal → Type 0
AreSupplied actuals fs = AllByRecursion (λ (f : Formal). (x : Actual) × (actual_of_formal actuals f ≡ Some x)) fs

module _ (a : Environment) (c : Context) (formals : List Formal) (actuals : List Actual)
    (good : AllByRecursion (IsGoodActual a c formals) actuals) where
  all_passed : (i : ℕ) (fs : List Formal) (rs : List ParameterRecord) (done : List OpData)
      → Matched fs rs → AllByRecursion (IsFoundIn formals) fs → AreSupplied actuals fs
      → are_all_passed i rs (done ++ pass_ops (passings_from c actuals i fs)) ≡ true
  all_passed i [] [] done matched found given = refl
  all_passed i [] (r ∷ rs) done matched found given = absurd matched
  all_passed i (f ∷ fs) [] done matched found given = absurd matched
  all_passed i (f ∷ fs) (r ∷ rs) done matched found given =
      subst (λ (ops : List OpData). are_all_passed i (r ∷ rs) ops ≡ true) (sym ops_are)
      (ap (λ (t : Bool). t && are_all_passed (suc i) rs (done ++ op ∷ pass_ops (passings_from c actuals (suc i) fs)))
      (passed_here i done p.actual (pass_ops (passings_from c actuals (suc i) fs)))
      ∙ subst (λ (ops : List OpData). are_all_passed (suc i) rs ops ≡ true)
      (append_assoc done (op ∷ []) (pass_ops (passings_from c actuals (suc i) fs)))
      (all_passed (suc i) fs rs (done ++ op ∷ []) matched.1 found.1 given.1))
    where
      x : Actual
      x = given.0.0

      p : Passes a c r given.0.0.value
      p = supplied_passes a c formals actuals f r given.0.0 good found.0 matched.0 given.0.1

      op : OpData
      op = preparing_op operation.Pass (flat.Pass i p.actual)

      ops_are : done ++ pass_ops (passings_from c actuals i (f ∷ fs))
          ≡ done ++ preparing_op operation.Pass (flat.Pass i p.actual) ∷ pass_ops (passings_from c actuals (suc i) fs)
      ops_are =
          ap (λ (o : Option Actual). done ++ pass_ops (passed_actual c i o ++ passings_from c actuals (suc i) fs)) given.0.1
          ∙ ap (λ (o : Option Passed). done ++ pass_ops (with_index i o ++ passings_from c actuals (suc i) fs)) p.is

-- ---- what is supplied

bytes_eq_back : (xs ys : List ℕ) → bytes_eq xs ys ≡ true → bytes_eq ys xs ≡ true
bytes_eq_back xs ys e = ap (λ (zs : List ℕ). bytes_eq zs xs) (sym (same_bytes xs ys e)) ∙ bytes_itself xs

supplied_there : (actuals : List Actual) (f : Formal)
    → is_some (name_place f.name (map (λ (x : Actual). upper_case_name x.name) actuals)) ≡ true
    → (x : Actual) × (actual_of_formal actuals f ≡ Some x)
supplied_there [] f e = absurd cc
supplied_there (z ∷ zs) f e =
    by (bytes_eq (upper_case_name z.name) f.name) (bytes_eq f.name (upper_case_name z.name)) refl refl e (supplied_there zs f)
  where
    some_suc : (o : Option ℕ) → is_some (option_map (λ k. suc k) o) ≡ true → is_some o ≡ true
    some_suc None h = absurd cc
    some_suc (Some m) h = refl

    by : (s t : Bool) → bytes_eq (upper_case_name z.name) f.name ≡ s → bytes_eq f.name (upper_case_name z.name) ≡ t
        → is_some (if t then Some 0 else option_map (λ k. suc k) (name_place f.name (map (λ (x : Actual). upper_case_name x.name) zs))) ≡ true
        → (is_some (name_place f.name (map (λ (x : Actual). upper_case_name x.name) zs)) ≡ true → (x : Actual) × (actual_of_formal zs f ≡ Some x))
        → (x : Actual) × ((if s then Some z else find (λ x. bytes_eq (upper_case_name x.name) f.name) zs) ≡ Some x)
    by true t g h e more = (z, refl)
    by false true g h e more =
        let other : bytes_eq (upper_case_name z.name) f.name ≡ true = bytes_eq_back f.name (upper_case_name z.name) h in
        absurd cc
    by false false g h e more =
        more (some_suc (name_place f.name (map (λ (x : Actual). upper_case_name x.name) zs)) e)

all_supplied : (actuals : List Actual) (fs : List Formal)
    → list_all (is_supplied (supplied_names actuals)) fs ≡ true → AreSupplied actuals fs
all_supplied actuals [] e = tt
all_supplied actuals (f ∷ fs) e = (
  supplied_there actuals f (and_first (is_supplied (supplied_names actuals) f) (list_all (is_supplied (supplied_names actuals)) fs) e),
  all_supplied actuals fs (and_second (is_supplied (supplied_names actuals) f) (list_all (is_supplied (supplied_names actuals)) fs) e),
)

-- nothing is passed where nothing is supplied
pub none_passed : (c : Context) (i : ℕ) (fs : List Formal) → passings_from c [] i fs ≡ []
none_passed c i [] = refl
none_passed c i (f ∷ fs) = none_passed c (suc i) fs

-- ---- what a call names

abbrev IsNumberOfInstance : Context → Option BlockName → Option ℕ → Type 0
IsNumberOfInstance c None None = Unit {0}
IsNumberOfInstance c (Some name) (Some n) = data_number c name ≡ Some n
IsNumberOfInstance c None (Some n) = ⊥
IsNumberOfInstance c (Some name) None = ⊥

record IsCall (c : Context) (name : BlockName) (inst : Option BlockName) (id : BlockId)
    (instance : Option ℕ) : Type 0 where
  named : named_block c.symbols name ≡ Some id
  whole : is_system_function id.kind ≡ false → (p : ℕ) × (whole_place c id ≡ Some p)
  with_instance : IsNumberOfInstance c inst instance
  resolves : resolution_of c (operand.Called name inst) ≡ Resolved (resolved.Called id instance)

-- ---- what is called

-- the signatures of the blocks of a program
abbrev signatures_of_source : List Symbol → Tree → List BlockSignature
signatures_of_source symbols t =
    map signature_of (map record_of_block (map compiled_block (code_blocks_of t symbols (layouts_of t symbols))))

-- the formal parameters of what is called, in the order of its code
abbrev ordered_formals : Tree → Callee → List Formal
ordered_formals t callee = in_parameter_order (source_block_at t.blocks callee.place) callee.formals

-- a block that is called, as the source and as the code have it
record IsCallee (symbols : List Symbol) (t : Tree) (k : ℕ) (blocks : List BlockSignature) (o : Operand)
    (id : BlockId) : Type 0 where
  of_source : Callee
  is : callee_of (context_at symbols t k) o ≡ Some of_source
  same : of_source.id ≡ id
  il : ℕ
  params : List ParameterRecord
  flat : flat_callee blocks (kind_number id.kind) id.number ≡ Some (record { kind = kind_number id.kind; instance_len = il; params = params })
  matched : Matched (ordered_formals t of_source) params
  found : AllByRecursion (IsFoundIn of_source.formals) (ordered_formals t of_source)
  result : Option Simple
  order : ordered_formals t of_source ≡ return_last result of_source.formals
  long : is_function_block id.kind ≡ true → (p : ℕ) × (b : Block) × (of_source.place ≡ Some p)
      × (slice_get t.blocks p ≡ Some b) × (b.kind ≡ kinds.Fb)
      × (il ≡ length_of_block (types_of_source symbols t.blocks) t.blocks b)

known_function : (n : ℕ) (k : BlockKind) → k ≡ kinds.Sfc
    → (is_system_function k && is_none (system_formals n)) ≡ false
    → (fs : List Formal) × (system_formals n ≡ Some fs)
known_function n k is e = by (system_formals n) (ap (λ (j : BlockKind). is_system_function j && is_none (system_formals n)) (sym is) ∙ e)
  where
    by : (o : Option (List Formal)) → is_none o ≡ false → (fs : List Formal) × (o ≡ Some fs)
    by None h = absurd cc
    by (Some fs) h = (fs, refl)

system_flat : (blocks : List BlockSignature) (id : BlockId) (params : List ParameterRecord)
    → id.kind ≡ kinds.Sfc → system_params id.number ≡ Some params
    → flat_callee blocks (kind_number id.kind) id.number ≡ Some (record { kind = kind_number id.kind; instance_len = 0; params = params })
unfolding flat_callee
system_flat blocks id params is e =
    subst (λ (j : BlockKind). flat_callee blocks (kind_number j) id.number ≡ Some (record { kind = kind_number j; instance_len = 0; params = params })) (sym is)
    (ap (λ (o : Option (List ParameterRecord)). option_map callee_of_system o) e)

system_called : (symbols : List Symbol) (t : Tree) (k : ℕ) (blocks : List BlockSignature)
    (name : BlockName) (inst : Option BlockName) (id : BlockId)
    → named_block symbols name ≡ Some id → id.kind ≡ kinds.Sfc
    → is_unknown_function (named_block symbols name) ≡ false
    → IsCallee symbols t k blocks (operand.Called name inst) id
unfolding callee_of
system_called symbols t k blocks name inst id named kind known = record {
  of_source = record { id = id; place = None; formals = formals.0 };
  is =
      ap (λ (o : Option BlockId). option_and_then (λ id. callee_by (context_at symbols t k) id id.kind) o) named
      ∙ ap (λ (t' : Bool). if t' then system_callee id
      else if is_function id.kind then source_callee (context_at symbols t k) id
      else if is_function_block id.kind then source_callee (context_at symbols t k) id
      else None) (ap is_system_function kind)
      ∙ ap (λ (o : Option (List Formal)). option_map (λ formals. record { id = id; place = None; formals = formals }) o) formals.1;
  same = refl;
  il = 0;
  params = system.params;
  flat = system_flat blocks id system.params kind system.is;
  matched = system.matched;
  found = found_each formals.0 (fresh_distinct [] formals.0 system.fresh);
  result = None;
  order = refl;
  long = λ e.
      let other : is_function_block id.kind ≡ false = ap is_function_block kind in
      absurd cc;
}
  where
    formals : (fs : List Formal) × (system_formals id.number ≡ Some fs)
    formals = known_function id.number id.kind kind (ap is_unknown_function (sym named) ∙ known)

    system : IsSystem id.number formals.0
    system = system_matched id.number formals.0 formals.1

no_system : (k : BlockKind) → (k ≡ kinds.Fc) ⊎ (k ≡ kinds.Fb) → is_system_function k ≡ false
no_system k h = ⊎_elim (λ e. ap is_system_function e) (λ e. ap is_system_function e) h

source_code : (k : BlockKind) → (k ≡ kinds.Fc) ⊎ (k ≡ kinds.Fb) → is_code k ≡ true
source_code k h = ⊎_elim (λ e. ap is_code e) (λ e. ap is_code e) h

no_sfc_number : (k : BlockKind) → (k ≡ kinds.Fc) ⊎ (k ≡ kinds.Fb) → (kind_number k == kind_number kinds.Sfc) ≡ false
no_sfc_number k h =
    ⊎_elim (λ e. ap (λ (j : BlockKind). kind_number j == kind_number kinds.Sfc) e) (λ e. ap (λ (j : BlockKind). kind_number j == kind_number kinds.Sfc) e) h

source_flat : (blocks : List BlockSignature) (k : BlockKind) (number : ℕ) → (k ≡ kinds.Fc) ⊎ (k ≡ kinds.Fb)
    → flat_callee blocks (kind_number k) number ≡ block_with (kind_number k) number blocks
unfolding flat_callee
source_flat blocks k number h =
    ap (λ (t' : Bool). if t' then option_map callee_of_system (system_params number) else block_with (kind_number k) number blocks)
    (no_sfc_number k h)

sound_all : (cells : List Cell)
    → ((place : ℕ) (c : Cell) → slice_get cells place ≡ Some c → c.sound ≡ true)
    → list_all is_sound_formal cells ≡ true
sound_all [] h = refl
sound_all (c ∷ cs) h =
    ap (λ (t' : Bool). t' && list_all is_sound_formal cs) (one (is_parameter c.section))
    ∙ sound_all cs (λ place x e. h (suc place) x e)
  where
    one : (t' : Bool) → (if t' then c.sound else true) ≡ true
    one true = h 0 c refl
    one false = refl

callee_source : (symbols : List Symbol) (t : Tree) (k : ℕ) (name : BlockName)
    (inst : Option BlockName) (id : BlockId) (p : ℕ)
    → named_block symbols name ≡ Some id → (id.kind ≡ kinds.Fc) ⊎ (id.kind ≡ kinds.Fb)
    → whole_place (context_at symbols t k) id ≡ Some p
    → list_all is_sound_formal (cells_at (layouts_of t symbols) p false) ≡ true
    → callee_of (context_at symbols t k) (operand.Called name inst)
    ≡ Some (record { id = id; place = Some p; formals = formals_of (cells_at (layouts_of t symbols) p false) })
unfolding callee_of
callee_source symbols t k name inst id p named kind whole sound =
    ap (λ (o : Option BlockId). option_and_then (λ id. callee_by (context_at symbols t k) id id.kind) o) named
    ∙ ⊎_elim
    (λ e. ap (callee_by (context_at symbols t k) id) e)
    (λ e. ap (callee_by (context_at symbols t k) id) e) kind
    ∙ ap (λ (o : Option ℕ). option_and_then (callee_at (context_at symbols t k) id) o) whole
    ∙ ap (λ (t' : Bool). option_map (λ formals. record { id = id; place = Some p; formals = formals })
    (if t' then Some (formals_of (cells_at (layouts_of t symbols) p false)) else None)) sound

whole_known : (l : List BlockLayout) (o : Option ℕ) (p : ℕ) → option_and_then (if_whole l) o ≡ Some p
    → o ≡ Some p
whole_known l None p e = absurd cc
whole_known l (Some q) p e = by (is_some (whole_at l q)) e
  where
    by : (t' : Bool) → (if t' then Some q else None) ≡ Some p → Some q ≡ Some p
    by true h = h
    by false h = absurd cc

source_called : (symbols : List Symbol) (t : Tree) → IsSoundTree symbols t → (k : ℕ)
    (name : BlockName) (inst : Option BlockName) (id : BlockId) (p : ℕ)
    → named_block symbols name ≡ Some id → (id.kind ≡ kinds.Fc) ⊎ (id.kind ≡ kinds.Fb)
    → whole_place (context_at symbols t k) id ≡ Some p
    → IsCallee symbols t k (signatures_of_source symbols t) (operand.Called name inst) id
source_called symbols t tree k name inst id p named kind whole = record {
  of_source = record { id = id; place = Some p; formals = formals };
  is = callee_source symbols t k name inst id p named kind whole
      (sound_all cells (λ place c e. (are_right symbols t tree p place false c e).sound));
  same = refl;
  il = instance_len there.block there.layout;
  params = map record_of_param (params_of there.block there.layout);
  flat = source_flat (signatures_of_source symbols t) id.kind id.number kind
      ∙ called_block symbols t tree p there.block there.layout id there.sound is_there (source_code id.kind kind);
  matched = subst (λ (o : Option Block). Matched (in_parameter_order o formals) (map record_of_param (params_of there.block there.layout)))
      (sym there.sound.block_there)
      (source_matched there.block there.layout cells (layout_components symbols t p there.block there.layout there.sound ∙ sym cells_here));
  found = subst (λ (o : Option Block). AllByRecursion (IsFoundIn formals) (in_parameter_order o formals))
      (sym there.sound.block_there)
      (return_all (IsFoundIn formals) there.block.result formals (found_each formals distinct));
  result = there.block.result;
  order = ap (λ (o : Option Block). in_parameter_order o formals) there.sound.block_there;
  long = λ e. (
    p,
    there.block,
    refl,
    there.sound.block_there,
    own_kind ∙ function_block_kind id.kind e,
    ap (λ (t' : Bool). if t' then there.layout.length else 0) (ap is_function_block own_kind ∙ e)
        ∙ layout_length symbols t p there.block there.layout there.sound,
  );
}
  where
    y : Types
    y = types_of_source symbols t.blocks

    cells : List Cell
    cells = cells_at (layouts_of t symbols) p false

    formals : List Formal
    formals = formals_of cells

    listed : slice_get y.ids p ≡ Some (Some id)
    listed =
        ap (λ (is : List (Option BlockId)). slice_get is p) (sym (ids_same symbols t))
        ∙ known_there id (source_block_ids (context_at symbols t k)) p
        (whole_known (layouts_of t symbols) (known_block id (source_block_ids (context_at symbols t k))) p whole)

    there : IsThere symbols t is_code p
    there = id_there symbols t tree is_code p id listed (source_code id.kind kind)

    one : there.id ≡ id
    one = id_there_is symbols t tree is_code p id listed (source_code id.kind kind)

    is_there : there.layout.id ≡ Some id
    is_there = there.is ∙ ap (λ (z : BlockId). Some z) one

    own_kind : there.block.kind ≡ id.kind
    own_kind = there.same ∙ ap (λ (z : BlockId). z.kind) one

    cells_here : cells ≡ components_of y there.block
    cells_here = cells_are symbols t p there.block there.layout there.sound false

    distinct : Distinct formals
    distinct = subst (λ (cs : List Cell). Distinct (formals_of cs)) (sym cells_here)
        (fresh_distinct [] (formals_of (components_of y there.block))
        (block_formals y there.block there.sound.well_formed (block_unbroken y there.block there.sound.declarations)))

-- ---- a call

-- the block of a call is one of the three kinds
call_kind : (k : BlockKind) → is_callable k ≡ true → (k ≡ kinds.Sfc) ⊎ ((k ≡ kinds.Fc) ⊎ (k ≡ kinds.Fb))
call_kind kinds.Sfc e = inl refl
call_kind kinds.Fc e = inr (inl refl)
call_kind kinds.Fb e = inr (inr refl)
call_kind _ e = absurd cc

callee_there : (symbols : List Symbol) (t : Tree) → IsSoundTree symbols t → (k : ℕ)
    (name : BlockName) (inst : Option BlockName) (id : BlockId) (instance : Option ℕ)
    → IsCall (context_at symbols t k) name inst id instance → is_callable id.kind ≡ true
    → is_unknown_function (named_block symbols name) ≡ false
    → IsCallee symbols t k (signatures_of_source symbols t) (operand.Called name inst) id
callee_there symbols t tree k name inst id instance call callable known =
    ⊎_elim (λ is. system_called symbols t k (signatures_of_source symbols t) name inst id call.named is known)
    (λ kind. source_called symbols t tree k name inst id (call.whole (no_system id.kind kind)).0 call.named kind
    (call.whole (no_system id.kind kind)).1) (call_kind id.kind callable)

calls_alone : (m : Mnemonic) (how : CallOperation) (ps : List Passing) → call_operation_of m ≡ Some how
    → (has_actuals m ≡ false → ps ≡ []) → PassesAlone how ps
calls_alone code.Call how ps e none =
    subst (λ (h : CallOperation). PassesAlone h ps) (let same : calls.Call ≡ how = cc in same) tt
calls_alone code.Uc how ps e none =
    subst (λ (h : CallOperation). PassesAlone h ps) (let same : calls.Uc ≡ how = cc in same) (none refl)
calls_alone code.Cc how ps e none =
    subst (λ (h : CallOperation). PassesAlone h ps) (let same : calls.Cc ≡ how = cc in same) (none refl)
calls_alone _ how ps e none = absurd cc

calls_are : (m : Mnemonic) (how : CallOperation) → call_operation_of m ≡ Some how → is_call m ≡ true
calls_are code.Call how e = refl
calls_are code.Uc how e = refl
calls_are code.Cc how e = refl
calls_are _ how e = absurd cc

-- a rule of calls, by whether the word is CALL
none_owed : (call no_form : Bool) → call ≡ false → (not call && no_form) ≡ false → no_form ≡ false
none_owed true n e h = absurd cc
none_owed false n e h = h

no_formals : (fs : List Formal) → has_formals fs ≡ false → fs ≡ []
no_formals [] e = refl
no_formals (f ∷ fs) e = absurd cc

no_params : (fs : List Formal) (rs : List ParameterRecord) → fs ≡ [] → Matched fs rs → rs ≡ []
no_params fs [] e h = refl
no_params [] (r ∷ rs) e h = absurd h
no_params (f ∷ fs) (r ∷ rs) e h = absurd cc

no_order : (result : Option Simple) (fs : List Formal) → fs ≡ [] → return_last result fs ≡ []
no_order None fs e = e
no_order (Some kind) [] e = refl
no_order (Some kind) (f ∷ fs) e = absurd cc

lacking : (call fb all : Bool) → (call && not fb && not all) ≡ false → call ≡ true → fb ≡ false
    → all ≡ true
lacking true false true e f g = refl
lacking true false false e f g = absurd cc
lacking true true all e f g = absurd cc
lacking false fb all e f g = absurd cc

-- how a call's instance is checked
no_instance_right : (lens : List (ℕ × ℕ)) (kind il : ℕ) (params : List ParameterRecord)
    → (kind == kind_number kinds.Fb) ≡ false → is_bad_instance lens (record { kind = kind; instance_len = il; params = params }) 0 ≡ false
no_instance_right lens kind il params e =
    ap (λ (t' : Bool). if t' then (if true then not (is_nothing_in params) else is_short_instance il (length_of_data 0 lens)) else not true) e

bare_right : (lens : List (ℕ × ℕ)) (il : ℕ) (params : List ParameterRecord) → params ≡ []
    → is_bad_instance lens (record { kind = kind_number kinds.Fb; instance_len = il; params = params }) 0 ≡ false
bare_right lens il params e = ap (λ (ps : List ParameterRecord). not (is_nothing_in ps)) e

given_right : (lens : List (ℕ × ℕ)) (il n len : ℕ) (params : List ParameterRecord)
    → (n == 0) ≡ false → length_of_data n lens ≡ Some len → nat_lt len il ≡ false
    → is_bad_instance lens (record { kind = kind_number kinds.Fb; instance_len = il; params = params }) n ≡ false
given_right lens il n len params e f g =
    ap (λ (t' : Bool). if t' then not (is_nothing_in params) else is_short_instance il (length_of_data n lens)) e
    ∙ ap (λ (o : Option ℕ). is_short_instance il o) f ∙ g

-- a call of another block than a function block passes all, and has no instance
call_right : (lens : List (ℕ × ℕ)) (kind il : ℕ) (params : List ParameterRecord) (ops : List OpData)
    → (kind == kind_number kinds.Fb) ≡ false → are_all_passed 0 params ops ≡ true
    → is_bad_call lens (Some (record { kind = kind; instance_len = il; params = params })) 0 ops ≡ false
call_right lens kind il params ops e f =
    ap (λ (t' : Bool). (not (kind == kind_number kinds.Fb) && not t') || is_bad_instance lens (record { kind = kind; instance_len = il; params = params }) 0) f
    ∙ ap (λ (t' : Bool). (not t' && false) || is_bad_instance lens (record { kind = kind; instance_len = il; params = params }) 0) e
    ∙ no_instance_right lens kind il params e

-- ---- an instance

instance_number_right : (symbols : List Symbol) (t : Tree) (q : ℕ) (d : IsThere symbols t is_data_block q)
    → (d.id.number == 0) ≡ false
instance_number_right symbols t q d =
    ne_eqb d.id.number 0 (λ e. let least = some in omega (arith, e, least))
  where
    named : id_of (types_of_source symbols t.blocks).symbols d.block ≡ Some d.id
    named =
        ap (λ (ss : List Symbol). id_of ss d.block) (measured_symbols symbols t.blocks)
        ∙ sym (layout_id symbols t q d.block d.layout d.sound) ∙ d.is

    number : is_block_number d.id.kind d.id.number ≡ true
    number = not-false (is_block_number d.id.kind d.id.number)
        (ap is_number_beyond_limits (sym named) ∙ d.sound.head.by_44)

    some : 1 ≤ d.id.number
    some = leb-true 1 d.id.number
        (and_first (nat_le 1 d.id.number) (nat_le d.id.number 2047)
        (ap (λ (j : BlockKind). is_block_number j d.id.number) (sym (data_block_kind d.id.kind d.kind)) ∙ number))

shape_is_of : (p : ℕ) (s : Shape) → is_of_block (Some p) s ≡ true → s ≡ shape.Of p
shape_is_of p (shape.Of other) e =
    ap (λ (n : ℕ). shape.Of n) (sym (eqb-true p other e))
shape_is_of p shape.Own e = absurd cc
shape_is_of p shape.Unknown e = absurd cc

-- the data block of an instance is as long as the function block's structure
instance_long : (symbols : List Symbol) (t : Tree) → (q p : ℕ) (d : IsThere symbols t is_data_block q)
    (b : Block) → slice_get t.blocks p ≡ Some b → b.kind ≡ kinds.Fb → IsBlock b
    → is_of_block (Some p) d.layout.shape ≡ true
    → d.layout.length ≡ length_of_block (types_of_source symbols t.blocks) t.blocks b
instance_long symbols t q p d b there is well of_block =
    layout_length symbols t q d.block d.layout d.sound
    ∙ data_length (types_of_source symbols t.blocks) t.blocks d.block (d.same ∙ data_block_kind d.id.kind d.kind)
    ∙ ap (λ (s : Shape). shape_bits (types_of_source symbols t.blocks) t.blocks d.block s / 8)
    (sym (layout_shape symbols t q d.block d.layout d.sound) ∙ shape_is_of p d.layout.shape of_block)
    ∙ ap (λ (o : Option Block). block_bits (types_of_source symbols t.blocks) o / 8) there
    ∙ sym (instance_length (types_of_source symbols t.blocks) t.blocks b is
    (block_own (types_of_source symbols t.blocks) b well is))

-- ---- the call of a statement

operand_called : (o : Operand) → names_called_block o ≡ true
    → (name : BlockName) × (inst : Option BlockName) × (o ≡ operand.Called name inst)
operand_called (operand.Called name inst) e = (name, inst, refl)
operand_called _ e = absurd cc

-- an instance by its name
instance_none : (c : Context) (inst : Option BlockName) → IsNumberOfInstance c inst None → inst ≡ None
instance_none c None h = refl
instance_none c (Some name) h = absurd h

instance_some : (c : Context) (inst : Option BlockName) (n : ℕ) → IsNumberOfInstance c inst (Some n)
    → (name : BlockName) × (inst ≡ Some name) × (data_number c name ≡ Some n)
instance_some c None n h = absurd h
instance_some c (Some name) n h = (name, refl, h)

three_true : (a b c : Bool) → (a && b && c) ≡ false → a ≡ true → b ≡ true → c ≡ true → ⊥
three_true true true true e f g h = let never = e in absurd cc
three_true true true false e f g h = absurd cc
three_true true false c e f g h = absurd cc
three_true false b c e f g h = absurd cc

second_false : (a b : Bool) → (a && b) ≡ false → a ≡ true → b ≡ false
second_false true b e f = e
second_false false b e f = absurd cc

no_fb_number : (k : BlockKind) → is_callable k ≡ true → is_function_block k ≡ false
    → (kind_number k == kind_number kinds.Fb) ≡ false
no_fb_number kinds.Fc e f = refl
no_fb_number kinds.Sfc e f = refl
no_fb_number _ e f = absurd cc

fb_number : (k : BlockKind) → is_function_block k ≡ true → kind_number k ≡ kind_number kinds.Fb
fb_number kinds.Fb e = refl
fb_number _ e = absurd cc

-- ---- a call names what it calls

seen_called : (c : Context) (name : BlockName) (inst : Option BlockName)
    → resolution_of c (operand.Called name inst)
    ≡ resolution_of_call (whole_called_block c (named_block c.symbols name)) inst (instance_of_name c inst)
unfolding resolution_of
seen_called c name inst = refl

-- a block that is known is whole
record IsWholeBlock (c : Context) (o : Option BlockId) : Type 0 where
  id : BlockId
  is : o ≡ Some id
  whole : is_system_function id.kind ≡ false → (p : ℕ) × (whole_place c id ≡ Some p)
  found : whole_called_block c o ≡ Some id

block_whole : (symbols : List Symbol) (t : Tree) → IsSoundTree symbols t → (k : ℕ)
    (o : Option BlockId) → is_unknown_id (types_of_source symbols t.blocks) o ≡ false
    → IsWholeBlock (context_at symbols t k) o
block_whole symbols t tree k None e = absurd cc
block_whole symbols t tree k (Some id) e =
    let r = by (is_system_function id.kind) refl e in record { id = id; is = refl; whole = r.0; found = r.1 }
  where
    by : (sys : Bool) → is_system_function id.kind ≡ sys
        → (if sys then false else is_none (known_block id (types_of_source symbols t.blocks).ids)) ≡ false
        → (is_system_function id.kind ≡ false → (p : ℕ) × (whole_place (context_at symbols t k) id ≡ Some p))
        × ((if sys then Some id else id_at id (whole_place (context_at symbols t k) id)) ≡ Some id)
    by true is h = (λ other. absurd cc, refl)
    by false is h = (λ other. (found.0, place), ap (id_at id) place)
      where
        found : (p : ℕ) × (known_block id (types_of_source symbols t.blocks).ids ≡ Some p)
        found = not_none (known_block id (types_of_source symbols t.blocks).ids) h

        there : IsThere symbols t is_any found.0
        there = id_there symbols t tree is_any found.0 id
            (known_there id (types_of_source symbols t.blocks).ids found.0 found.1) refl

        place : whole_place (context_at symbols t k) id ≡ Some found.0
        place =
            ap (λ (is : List (Option BlockId)). option_and_then (if_whole (layouts_of t symbols)) (known_block id is))
            (ids_same symbols t)
            ∙ ap (λ (o : Option ℕ). option_and_then (if_whole (layouts_of t symbols)) o) found.1
            ∙ ap (λ (t' : Bool). if t' then Some found.0 else None)
            (ap is_some (whole_is (layouts_of t symbols) found.0 there.layout there.laid there.sound.whole))

-- and so is the instance that is named
instance_known : (symbols : List Symbol) (t : Tree) → IsSoundTree symbols t → (k : ℕ) (id : BlockId)
    (inst : Option BlockName) → is_unknown_instance (types_of_source symbols t.blocks) inst ≡ false
    → (n : Option ℕ) × IsNumberOfInstance (context_at symbols t k) inst n
    × (resolution_of_call (Some id) inst (instance_of_name (context_at symbols t k) inst) ≡ Resolved (resolved.Called id n))
instance_known symbols t tree k id None e = (None, tt, refl)
instance_known symbols t tree k id (Some name) e =
    let d = data_there symbols t tree k name e in
    (Some d.block.id.number, d.number, ap (λ (o : Option ℕ). resolution_of_call (Some id) (Some name) o) d.number)

call_there : (symbols : List Symbol) (t : Tree) → IsSoundTree symbols t → (k : ℕ) (name : BlockName)
    (inst : Option BlockName) → names_unknown (types_of_source symbols t.blocks) (operand.Called name inst) ≡ false
    → (id : BlockId) × (instance : Option ℕ) × IsCall (context_at symbols t k) name inst id instance
call_there symbols t tree k name inst there = (
  block.id,
  given.0,
  record {
    named = block.is;
    whole = block.whole;
    with_instance = given.1;
    resolves = seen_called (context_at symbols t k) name inst
        ∙ ap (λ (z : Option BlockId). resolution_of_call z inst (instance_of_name (context_at symbols t k) inst)) block.found
        ∙ given.2;
  },
)
  where
    y : Types
    y = types_of_source symbols t.blocks

    block : IsWholeBlock (context_at symbols t k) (named_block symbols name)
    block = block_whole symbols t tree k (named_block symbols name)
        (ap (λ (ss : List Symbol). is_unknown_id y (named_block ss name)) (sym (measured_symbols symbols t.blocks))
        ∙ or_first (is_unknown_called y name) (is_unknown_instance y inst) there)

    given : (n : Option ℕ) × IsNumberOfInstance (context_at symbols t k) inst n
        × (resolution_of_call (Some block.id) inst (instance_of_name (context_at symbols t k) inst) ≡ Resolved (resolved.Called block.id n))
    given = instance_known symbols t tree k block.id inst (or_second (is_unknown_called y name) (is_unknown_instance y inst) there)

-- a call is one of what it is resolved to
call_of : (c : Context) (name : BlockName) (inst : Option BlockName) (id j : BlockId) (instance i : Option ℕ)
    → IsCall c name inst j i → resolution_of c (operand.Called name inst) ≡ Resolved (resolved.Called id instance)
    → IsCall c name inst id instance
call_of c name inst id j instance i call e =
    subst (λ (z : BlockId). IsCall c name inst z instance) one.0
    (subst (λ (n : Option ℕ). IsCall c name inst j n) one.1 call)
  where
    same : Resolved (resolved.Called j i) ≡ Resolved (resolved.Called id instance) → (j ≡ id) × (i ≡ instance)
    same e = (cc, cc)

    one : (j ≡ id) × (i ≡ instance)
    one = same (sym call.resolves ∙ e)

-- ---- an actual parameter names what is passed

formal_there : (formals : List Formal) (name : List ℕ)
    → list_any (λ (f : Formal). bytes_eq name f.name) formals ≡ true
    → (f : Formal) × (find (λ (f : Formal). bytes_eq name f.name) formals ≡ Some f)
formal_there [] name e = absurd cc
formal_there (f ∷ fs) name e = by (bytes_eq name f.name) e (formal_there fs name)
  where
    by : (t : Bool) → (t || list_any (λ (f : Formal). bytes_eq name f.name) fs) ≡ true
        → (list_any (λ (f : Formal). bytes_eq name f.name) fs ≡ true
        → (g : Formal) × (find (λ (f : Formal). bytes_eq name f.name) fs ≡ Some g))
        → (g : Formal) × ((if t then Some f else find (λ (f : Formal). bytes_eq name f.name) fs) ≡ Some g)
    by true h more = (f, refl)
    by false h more = more h

view_passed : (f : Formal) (o : Operand) (v : ResolvedOperand) → fits_resolved_operand f v ≡ true
    → (p : Passed) × (passed_by_operand o v ≡ Some p)
unfolding fits_resolved_operand
view_passed f o (resolved.Direct place w side declared) e = (passed_place place w, refl)
view_passed f o (resolved.Parameter index own declared) e = (passed.Parameter index (width_of declared), refl)
view_passed f o _ e = absurd cc

constant_passed : (c : Context) (value : Literal)
    → (p : Passed) × (passed_resolution (operand.Constant value) (resolution_of c (operand.Constant value)) ≡ Some p)
unfolding resolution_of
constant_passed c value = (passed.Literal (bits_of value), refl)

other_passed : (c : Context) (f : Formal) (o : Operand) (v : ResolvedOperand) → resolution_of c o ≡ Resolved v
    → fits_resolution f (resolution_of c o) ≡ true → (p : Passed) × (passed_resolution o (resolution_of c o) ≡ Some p)
other_passed c f o v is e =
    let one = view_passed f o v (ap (fits_resolution f) (sym is) ∙ e) in
    (one.0, ap (passed_resolution o) is ∙ one.1)

operand_passed : (c : Context) (f : Formal) (o : Operand) (v : ResolvedOperand) → resolution_of c o ≡ Resolved v
    → fits_operand c f o ≡ true → (p : Passed) × (passed_resolution o (resolution_of c o) ≡ Some p)
unfolding fits_operand
operand_passed c f (operand.Constant value) v is e = constant_passed c value
operand_passed c f o v is e = other_passed c f o v is e

good_passed : (a : Environment) (c : Context) (formals : List Formal) (x : Actual)
    → IsGoodActual a c formals x → names_no_formal formals x ≡ false → NamesWhatIsPassed c x
good_passed a c formals x good named =
    let f = formal_there formals (upper_case_name x.name)
    (not-false (list_any (λ (f : Formal). bytes_eq (upper_case_name x.name) f.name) formals) named) in
    operand_passed c f.0 x.value good.resolves.operand good.resolves.is
    (not-false (fits_operand c f.0 x.value) (ap (misfits_formal c x) (sym f.1) ∙ good.fits))

all_passed_on : (a : Environment) (c : Context) (formals : List Formal) (xs : List Actual)
    → AllByRecursion (IsGoodActual a c formals) xs
    → AllByRecursion (λ (x : Actual). names_no_formal formals x ≡ false) xs
    → AllByRecursion (NamesWhatIsPassed c) xs
all_passed_on a c formals [] good named = tt
all_passed_on a c formals (x ∷ xs) good named =
    (good_passed a c formals x good.0 named.0, all_passed_on a c formals xs good.1 named.1)

module _ (symbols : List Symbol) (t : Tree) (tree : IsSoundTree symbols t)
    (fit : AllByRecursion IsRightSymbol symbols) (k : ℕ) (b : Block) (l : BlockLayout)
    (block : IsSoundBlock symbols t k b l) (code : is_code b.kind ≡ true)
    (a : Environment) (around : Surrounds symbols t b l a)
    (blocks : a.blocks ≡ signatures_of_source symbols t)
    (s : Statement) (sound : IsSoundStatement (types_of_source symbols t.blocks) (context_at symbols t k) s)
    (ends : EndsBy a.local_len s) (bytes : StatementHasBytes s) where
  -- what the call passes to it
  abbrev passed_by : Callee → List Passing
  passed_by callee = passings_from (context_at symbols t k) s.actuals 0 (ordered_formals t callee)

  -- the data blocks of the program
  abbrev lens : List (ℕ × ℕ)
  lens = lens_of (data_blocks_of t symbols (layouts_of t symbols))

  good_actuals : (formals : List Formal) (xs : List Actual) → AllByRecursion IsActual xs
      → AllByRecursion (IsSoundActual (types_of_source symbols t.blocks) (context_at symbols t k)) xs
      → AllByRecursion (λ (x : Actual). local_end x.value ≤ a.local_len) xs
      → AllByRecursion (λ (x : Actual). OperandHasBytes x.value) xs
      → AllByRecursion (λ (x : Actual). misfits_formal (context_at symbols t k) x (formal_named formals x.name) ≡ false) xs
      → AllByRecursion (IsGoodActual a (context_at symbols t k) formals) xs
  good_actuals formals [] well sound ends bytes fits = tt
  good_actuals formals (x ∷ xs) well sound ends bytes fits =
      let h : IsChecked symbols t k x.value = record {
        well_formed = well.0.value;
        known = sound.0.known;
        there = sound.0.there;
        inside = sound.0.inside;
      } in (
        record {
          resolves = operand_seen symbols t tree fit k b l block code a around x.value h well.0.no_block ends.0;
          well = well.0.value;
          bytes = bytes.0;
          fits = fits.0;
        },
        good_actuals formals xs well.1 sound.1 ends.1 bytes.1 fits.1,
      )

  -- what is known of the call
  record IsMadeCall (how : CallOperation) (id : BlockId) (instance : Option ℕ) : Type 0 where
    name : BlockName
    inst : Option BlockName
    operand_is : s.operand ≡ operand.Called name inst
    call : IsCall (context_at symbols t k) name inst id instance
    by_view : is_called_view (resolved.Called id instance) ≡ true
    cal : IsCallee symbols t k (signatures_of_source symbols t) (operand.Called name inst) id
    rules : IsSoundCall (context_at symbols t k) cal.of_source s

  call_found : (name : BlockName) (inst : Option BlockName) → s.operand ≡ operand.Called name inst
      → (id : BlockId) × (instance : Option ℕ) × IsCall (context_at symbols t k) name inst id instance
  call_found name inst e =
      call_there symbols t tree k name inst (ap (names_unknown (types_of_source symbols t.blocks)) (sym e) ∙ sound.there)

  made : (how : CallOperation) (id : BlockId) (instance : Option ℕ) → call_operation_of s.code ≡ Some how
      → resolution_of (context_at symbols t k) s.operand ≡ Resolved (resolved.Called id instance)
      → IsMadeCall how id instance
  made how id instance word e = record {
    name = o.0;
    inst = o.1;
    operand_is = o.2;
    call = call;
    by_view = by_view;
    cal = cal;
    rules = sound.calls cal.of_source (ap (callee_of (context_at symbols t k)) o.2 ∙ cal.is);
  }
    where
      o : (name : BlockName) × (inst : Option BlockName) × (s.operand ≡ operand.Called name inst)
      o = operand_called s.operand (sound.well_formed.called ∙ calls_are s.code how word)

      seen_is : resolution_of (context_at symbols t k) (operand.Called o.0 o.1) ≡ Resolved (resolved.Called id instance)
      seen_is = ap (resolution_of (context_at symbols t k)) (sym o.2) ∙ e

      found : (id : BlockId) × (instance : Option ℕ) × IsCall (context_at symbols t k) o.0 o.1 id instance
      found = call_found o.0 o.1 o.2

      call : IsCall (context_at symbols t k) o.0 o.1 id instance
      call = call_of (context_at symbols t k) o.0 o.1 id found.0 instance found.1 found.2 seen_is

      rule : rule_of_resolved_operand operand_rules.Calls (resolved.Called id instance) ≡ None
      rule =
          ap (λ (f : OperandRule). rule_of_resolved_operand f (resolved.Called id instance)) (sym (call_form s.code how word))
          ∙ ap (λ (x : Resolution). rule_of_resolution (operand_rule_of s.code) x) (sym seen_is)
          ∙ ap (λ (x : Operand). rule_of_operand (context_at symbols t k) (operand_rule_of s.code) x) (sym o.2)
          ∙ sound.allowed

      by_view : is_called_view (resolved.Called id instance) ≡ true
      by_view = calls_called (resolved.Called id instance) rule

      cal : IsCallee symbols t k (signatures_of_source symbols t) (operand.Called o.0 o.1) id
      cal = callee_there symbols t tree k o.0 o.1 id instance call (callable_by id instance by_view)
          (ap (calls_unknown (context_at symbols t k)) (sym o.2) ∙ sound.one_of_nine)

  -- what it passes
  passings_are : (how : CallOperation) (id : BlockId) (instance : Option ℕ) (m : IsMadeCall how id instance)
      → passings_to (context_at symbols t k) s (callee_of (context_at symbols t k) s.operand)
      ≡ passed_by m.cal.of_source
  passings_are how id instance m =
      ap (passings_to (context_at symbols t k) s) (ap (callee_of (context_at symbols t k)) m.operand_is ∙ m.cal.is)

  goods : (how : CallOperation) (id : BlockId) (instance : Option ℕ) (m : IsMadeCall how id instance)
      → AllByRecursion (IsGoodActual a (context_at symbols t k) m.cal.of_source.formals) s.actuals
  goods how id instance m =
      good_actuals m.cal.of_source.formals s.actuals
      sound.well_formed.actuals sound.actuals ends.1 bytes.actuals m.rules.fits

  passes_right : (how : CallOperation) (id : BlockId) (instance : Option ℕ) (m : IsMadeCall how id instance)
      → ArePassed a (Some (record { kind = kind_number id.kind; instance_len = m.cal.il; params = m.cal.params })) None
      (passed_by m.cal.of_source)
  passes_right how id instance m =
      passed_from a (context_at symbols t k) m.cal.of_source.formals s.actuals (goods how id instance m)
      (record { kind = kind_number id.kind; instance_len = m.cal.il; params = m.cal.params }) None 0
      (ordered_formals t m.cal.of_source) [] m.cal.params
      (λ n e. refl) m.cal.matched m.cal.found refl refl

  -- UC and CC call blocks without parameters
  nothing_owed : (how : CallOperation) (id : BlockId) (instance : Option ℕ) (m : IsMadeCall how id instance)
      → has_actuals s.code ≡ false → m.cal.params ≡ []
  nothing_owed how id instance m e =
      no_params (ordered_formals t m.cal.of_source) m.cal.params
      (m.cal.order ∙ no_order m.cal.result m.cal.of_source.formals
      (no_formals m.cal.of_source.formals
      (none_owed (has_actuals s.code) (has_formals m.cal.of_source.formals) e
      (or_second (has_actuals s.code && is_function_block m.cal.of_source.id.kind && has_no_instance s.operand)
      (not (has_actuals s.code) && has_formals m.cal.of_source.formals) m.rules.bare))))
      m.cal.matched

  all_owed : (how : CallOperation) (id : BlockId) (instance : Option ℕ) (m : IsMadeCall how id instance)
      → is_function_block id.kind ≡ false
      → are_all_passed 0 m.cal.params (pass_ops (passed_by m.cal.of_source)) ≡ true
  all_owed how id instance m other = by (has_actuals s.code) refl
    where
      by : (call : Bool) → has_actuals s.code ≡ call
          → are_all_passed 0 m.cal.params (pass_ops (passed_by m.cal.of_source)) ≡ true
      by false e =
          ap (λ (ps : List ParameterRecord). are_all_passed 0 ps (pass_ops (passed_by m.cal.of_source)))
          (nothing_owed how id instance m e)
      by true e =
          all_passed a (context_at symbols t k) m.cal.of_source.formals s.actuals (goods how id instance m) 0
          (ordered_formals t m.cal.of_source) m.cal.params []
          m.cal.matched m.cal.found
          (subst (AreSupplied s.actuals) (sym m.cal.order)
          (return_all (λ (f : Formal). (x : Actual) × (actual_of_formal s.actuals f ≡ Some x)) m.cal.result m.cal.of_source.formals
          (all_supplied s.actuals m.cal.of_source.formals
          (lacking (has_actuals s.code) (is_function_block m.cal.of_source.id.kind)
          (list_all (is_supplied (supplied_names s.actuals)) m.cal.of_source.formals) m.rules.complete e
          (ap (λ (z : BlockId). is_function_block z.kind) m.cal.same ∙ other)))))

  -- the instance of a function block
  instance_right : (how : CallOperation) (id : BlockId) (n : ℕ) (m : IsMadeCall how id (Some n))
      → is_function_block id.kind ≡ true
      → is_bad_instance lens (record { kind = 3; instance_len = m.cal.il; params = m.cal.params }) n ≡ false
  instance_right how id n m fb =
      given_right lens m.cal.il n d.block.layout.length m.cal.params
      (ap (λ (i : ℕ). i == 0) number ∙ instance_number_right symbols t d.place d.block)
      (ap (λ (i : ℕ). length_of_data i lens) number
      ∙ instance_found symbols t tree d.place d.block.block d.block.layout d.block.id d.block.sound d.block.is d.block.kind)
      (le-ltb d.block.layout.length m.cal.il (let one = fb_at.5 in omega (arith, one, long)))
    where
      y : Types
      y = types_of_source symbols t.blocks

      at : (nm : BlockName) × (m.inst ≡ Some nm) × (data_number (context_at symbols t k) nm ≡ Some n)
      at = instance_some (context_at symbols t k) m.inst n m.call.with_instance

      operand_is : s.operand ≡ operand.Called m.name (Some at.0)
      operand_is = m.operand_is ∙ ap (λ (i : Option BlockName). operand.Called m.name i) at.1

      d : IsKnownDataBlock symbols t k at.0
      d = data_there symbols t tree k at.0
          (or_second (is_unknown_called y m.name) (is_unknown_instance y (Some at.0))
          (ap (names_unknown y) (sym operand_is) ∙ sound.there))

      number : n ≡ d.block.id.number
      number = same_Some n d.block.id.number (sym at.2 ∙ d.number)

      fb_at : (p : ℕ) × (c : Block) × (m.cal.of_source.place ≡ Some p) × (slice_get t.blocks p ≡ Some c)
          × (c.kind ≡ kinds.Fb) × (m.cal.il ≡ length_of_block y t.blocks c)
      fb_at = m.cal.long fb

      place : whole_data_place (context_at symbols t k) at.0 ≡ Some d.place
      place =
          ap (λ (o : Option ℕ). option_and_then (if_whole (layouts_of t symbols)) o) d.found
          ∙ ap (λ (t' : Bool). if t' then Some d.place else None)
          (ap is_some (whole_is (layouts_of t symbols) d.place d.block.layout d.block.laid d.block.sound.whole))

      wrong : is_no_instance (context_at symbols t k) m.cal.of_source.place (whole_data_place (context_at symbols t k) at.0) ≡ false
      wrong =
          second_false (is_function_block m.cal.of_source.id.kind) _
          (ap (has_wrong_instance (context_at symbols t k) m.cal.of_source) (sym operand_is) ∙ m.rules.instance)
          (ap (λ (z : BlockId). is_function_block z.kind) m.cal.same ∙ fb)

      of_block : is_of_block (Some fb_at.0) d.block.layout.shape ≡ true
      of_block =
          not-false (is_of_block (Some fb_at.0) d.block.layout.shape)
          (ap (λ (o : Option BlockLayout). not (is_instance (Some fb_at.0) o)) (sym d.block.laid)
          ∙ ap (λ (o : Option ℕ). not (is_instance o (slice_get (layouts_of t symbols) d.place))) (sym fb_at.2)
          ∙ ap (λ (o : Option ℕ). is_no_instance (context_at symbols t k) m.cal.of_source.place o) (sym place)
          ∙ wrong)

      long : d.block.layout.length ≡ length_of_block y t.blocks fb_at.1
      long = instance_long symbols t d.place fb_at.0 d.block fb_at.1 fb_at.3 fb_at.4
          (layout_of_block symbols t tree fb_at.0 fb_at.1 fb_at.3).2.well_formed of_block

  -- CALL names one
  bare_owed : (how : CallOperation) (id : BlockId) (m : IsMadeCall how id None) → is_function_block id.kind ≡ true
      → m.cal.params ≡ []
  bare_owed how id m fb = by (has_actuals s.code) refl
    where
      by : (call : Bool) → has_actuals s.code ≡ call → m.cal.params ≡ []
      by false e = nothing_owed how id None m e
      by true e =
          absurd (three_true (has_actuals s.code) (is_function_block m.cal.of_source.id.kind) (has_no_instance s.operand)
          (or_first (has_actuals s.code && is_function_block m.cal.of_source.id.kind && has_no_instance s.operand)
          (not (has_actuals s.code) && has_formals m.cal.of_source.formals) m.rules.bare) e
          (ap (λ (z : BlockId). is_function_block z.kind) m.cal.same ∙ fb)
          (ap has_no_instance (m.operand_is ∙ ap (λ (i : Option BlockName). operand.Called m.name i)
          (instance_none (context_at symbols t k) m.inst m.call.with_instance))))

  call_bad : (how : CallOperation) (id : BlockId) (instance : Option ℕ) (m : IsMadeCall how id instance)
      → is_bad_call lens (Some (record { kind = kind_number id.kind; instance_len = m.cal.il; params = m.cal.params })) (number_or_zero instance) (pass_ops (passed_by m.cal.of_source)) ≡ false
  call_bad how id instance m = by instance m (is_function_block id.kind) refl
    where
      by : (instance : Option ℕ) (m : IsMadeCall how id instance) (fb : Bool) → is_function_block id.kind ≡ fb
          → is_bad_call lens (Some (record { kind = kind_number id.kind; instance_len = m.cal.il; params = m.cal.params })) (number_or_zero instance)
          (pass_ops (passed_by m.cal.of_source)) ≡ false
      by None m false e =
          call_right lens (kind_number id.kind) m.cal.il m.cal.params (pass_ops (passed_by m.cal.of_source))
          (no_fb_number id.kind (callable_by id None m.by_view) e) (all_owed how id None m e)
      by (Some n) m false e = let given = m.by_view in absurd cc
      by None m true e =
          rw (fb_number id.kind e) (bare_right lens m.cal.il m.cal.params (bare_owed how id m e))
      by (Some n) m true e = rw (fb_number id.kind e) (instance_right how id n m e)

  pub call_fits : CallFits a (lens_of (data_blocks_of t symbols (layouts_of t symbols))) (context_at symbols t k) s
  call_fits how id instance word e =
      subst (λ (ps : List Passing). InstrFits a lens (Calls how id instance ps))
      (sym (passings_are how id instance m)) (
        alone,
        subst (λ (o : Option FlatCallee). ArePassed a o None ps) (sym flat_is) (passes_right how id instance m),
        subst (λ (o : Option FlatCallee). is_bad_call lens o (number_or_zero instance) (pass_ops ps) ≡ false)
            (sym flat_is) (call_bad how id instance m),
      )
    where
      m : IsMadeCall how id instance
      m = made how id instance word e

      ps : List Passing
      ps = passed_by m.cal.of_source

      alone : PassesAlone how ps
      alone = calls_alone s.code how ps word
          (λ none. ap (λ (xs : List Actual). passings_from (context_at symbols t k) xs 0 (ordered_formals t m.cal.of_source))
          (sound.well_formed.no_actuals none)
          ∙ none_passed (context_at symbols t k) 0 (ordered_formals t m.cal.of_source))

      flat_is : flat_callee a.blocks (kind_number id.kind) id.number ≡ Some (record { kind = kind_number id.kind; instance_len = m.cal.il; params = m.cal.params })
      flat_is = ap (λ (sg : List BlockSignature). flat_callee sg (kind_number id.kind) id.number) blocks ∙ m.cal.flat

  -- it names what it calls
  pub called_is : (how : CallOperation) → call_operation_of s.code ≡ Some how
      → (id : BlockId) × (instance : Option ℕ)
      × (resolution_of (context_at symbols t k) s.operand ≡ Resolved (resolved.Called id instance))
  called_is how word =
      let o = operand_called s.operand (sound.well_formed.called ∙ calls_are s.code how word) in
      let found = call_found o.0 o.1 o.2 in
      (found.0, found.1, ap (resolution_of (context_at symbols t k)) o.2 ∙ found.2.resolves)

  called_made : (how : CallOperation) (word : call_operation_of s.code ≡ Some how)
      → IsMadeCall how (called_is how word).0 (called_is how word).1
  called_made how word =
      made how (called_is how word).0 (called_is how word).1 word (called_is how word).2

  -- that block is found
  pub callee_found : (how : CallOperation) (word : call_operation_of s.code ≡ Some how)
      → (callee : Callee) × (callee_of (context_at symbols t k) s.operand ≡ Some callee)
      × (callee.id ≡ (called_is how word).0) × IsSoundCall (context_at symbols t k) callee s
  callee_found how word =
      let m = called_made how word in (
        m.cal.of_source,
        ap (callee_of (context_at symbols t k)) m.operand_is ∙ m.cal.is,
        m.cal.same,
        m.rules,
      )

  -- and each of its actual parameters what is passed
  pub actuals_pass : (how : CallOperation) → call_operation_of s.code ≡ Some how
      → AllByRecursion (NamesWhatIsPassed (context_at symbols t k)) s.actuals
  actuals_pass how word =
      let m = called_made how word in
      all_passed_on a (context_at symbols t k) m.cal.of_source.formals s.actuals
      (goods how (called_is how word).0 (called_is how word).1 m) m.rules.named
