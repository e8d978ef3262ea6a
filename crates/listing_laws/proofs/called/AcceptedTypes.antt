-- An accepted source owes nothing for the types of its parameters.
use Rattle.std.proofs.Common.{◌≡◌, ℕ, zero, suc, Bool, true, false, ◌||◌, not, is_some, List, [], ◌∷◌, length, map, Option, Some, None, slice_get, refl, sym, ap, subst, ◌∙◌, if◌then◌else◌}
use Rattle.std.specs.Prelude.{unwrap_or}
use Rattle.std.specs.List.{AllByRecursion, list_all, list_any}
use Rattle.std.specs.Option.{is_none, option_and_then, option_map}
use Rattle.std.proofs.lemmas.Option.{same_Some}
use Rattle.plc_base.specs.Kinds.{is_callable, is_code, is_function, is_same_block, is_system_function}
use Rattle.plc_base.specs.declared.blocks.BlockId.{BlockId}
use Rattle.plc_base.specs.declared.blocks.BlockKind.{BlockKind}
use Rattle.plc_base.specs.declared.blocks.BlockKind.TheVariants as kinds
use Rattle.flat_code.specs.Image.{record_of_param}
use Rattle.flat_code.specs.Programs.{CodeBlock}
use Rattle.flat_code.specs.declared.programs.Param.{Param}
use Rattle.stl_ast.specs.Statements.{is_call, names_called_block as is_called_operand}
use Rattle.stl_ast.specs.declared.blocks.Block.{Block}
use Rattle.stl_ast.specs.declared.blocks.Tree.{Tree}
use Rattle.stl_ast.specs.declared.declarations.Simple.{Simple}
use Rattle.stl_ast.specs.declared.mnemonics.Mnemonic.{Mnemonic}
use Rattle.stl_ast.specs.declared.mnemonics.Mnemonic.TheVariants as code
use Rattle.stl_ast.specs.declared.names.BlockName.{BlockName}
use Rattle.stl_ast.specs.declared.operands.Operand.{Operand}
use Rattle.stl_ast.specs.declared.operands.Operand.TheVariants as operand
use Rattle.stl_ast.specs.declared.statements.Statement.{Statement}
use Rattle.stl_symbols.specs.Symbol.{Symbol}
use Rattle.block_layout.specs.Blocks.{place_of_block, id_of, is_block_number, is_id, known_block, named_block}
use Rattle.block_layout.specs.Cells.{components_of}
use Rattle.block_layout.specs.Layouts.{block_layout, layouts_of}
use Rattle.block_layout.specs.Measures.{types_of_source}
use Rattle.block_layout.specs.Paths.{cells_at, if_whole, whole_at}
use Rattle.block_layout.specs.Rule44.{is_number_beyond_limits}
use Rattle.block_layout.specs.declared.blocks.BlockLayout.{BlockLayout}
use Rattle.block_layout.specs.declared.cells.Cell.{Cell}
use Rattle.stl_types.specs.Context.{Context, source_block_ids, in_function, is_of_function, whole_place}
use Rattle.stl_types.specs.OperandRules.{operand_rule_of}
use Rattle.stl_types.specs.Kinds.{is_operand_of_call}
use Rattle.stl_types.specs.Operands.{rule_of_operand, rule_of_resolved_operand, rule_of_resolution, statement_rule, takes_operand}
use Rattle.stl_types.specs.Parameters.{Callee, callee_at, callee_by, callee_of, formals_of, is_sound_formal, source_callee, system_callee, system_formals}
use Rattle.stl_types.specs.Resolution.{resolution_of_call, id_at, instance_number, resolution_of, whole_called_block}
use Rattle.stl_types.specs.ResolvedStatement.{resolved_operand, operand_if_resolved}
use Rattle.stl_types.specs.declared.operand_rules.OperandRule.{OperandRule}
use Rattle.stl_types.specs.declared.operand_rules.OperandRule.TheVariants as operand_rules
use Rattle.stl_types.specs.declared.parameters.Formal.{Formal}
use Rattle.stl_types.specs.declared.resolved_operands.Resolution.{Resolution}
use Rattle.stl_types.specs.declared.resolved_operands.Resolution.TheVariants.{Resolved, Unknown, Unjudged}
use Rattle.stl_types.specs.declared.resolved_operands.ResolvedOperand.{ResolvedOperand}
use Rattle.stl_types.specs.declared.resolved_operands.ResolvedOperand.TheVariants as resolved
use Rattle.stl_codegen.specs.CompiledBlock.{StatedBlock, compiled_block}
use Rattle.stl_codegen.specs.GeneratedProgram.{code_blocks_of, params_of}
use Rattle.stl_codegen.specs.Instruction.{in_parameter_order}
use Rattle.stl_list.specs.JoinedParameters.{system_parameters}
use Rattle.sem_kept.specs.SettledStatements.{context_at}
use Rattle.sem_kept.proofs.accepted.Accepted.{AllLaid, IsSoundBlock, IsSoundStatement, IsSoundTree, right_tree}
use Rattle.block_layout.proofs.SoundnessLemmas.{block_unbroken}
use Rattle.sem_kept.proofs.accepted.OperandsCells.{cells_are}
use Rattle.block_layout.proofs.BlockLemmas.{known_there, place_there}
use Rattle.block_layout.proofs.LayoutLemmas.{measured_symbols}
use Rattle.sem_kept.proofs.accepted.OperandsFormals.{Distinct, IsFoundIn, Matched, block_formals, found_each, fresh_distinct, return_all, source_matched, system_matched}
use Rattle.sem_kept.proofs.accepted.OperandsMembers.{code_block_there, one_block}
use Rattle.sem_kept.proofs.accepted.OperandsOperations.{taken_by_rule}
use Rattle.sem_kept.proofs.accepted.OperandsPlaces.{AreParameters, function_components}
use Rattle.sem_kept.proofs.accepted.OperandsViews.{IsThere, id_there, id_there_is, ids_same, layout_id}
use Rattle.sem_kept.proofs.accepted.Shared.{callable_by}
use Rattle.listing_laws.specs.AcceptedTypes.{AreAcceptedTypesKept, AreAcceptedTypesOwed, declared_kinds, kinds_at}
use Rattle.listing_laws.specs.HandedTypes.{IsFoundAmong, SeesOwn, called_kinds, formals_by_index}
use Rattle.listing_laws.specs.OwnParameterTypes.{IsParameterCell, own_kinds}
use Rattle.listing_laws.specs.SourceTypes.{BodiesOweTypes, BodyOwesTypes, StatementOwesTypes}
use Rattle.listing_laws.proofs.IdLemmas.{id_itself}
use Rattle.listing_laws.proofs.called.Owned.{own_seen}
use Rattle.listing_laws.proofs.called.Sources.{source_types_kept}

-- ---- what a statement calls

-- an operand that names a block
record IsNamed (c : Context) (o : Operand) (id : BlockId) : Type 0 where
  name : BlockName
  inst : Option BlockName
  is : o ≡ operand.Called name inst
  named : named_block c.symbols name ≡ Some id
  whole : is_system_function id.kind ≡ false → (p : ℕ) × (whole_place c id ≡ Some p)

pub taken_calls : (f : OperandRule) (id : BlockId) (instance : Option ℕ) → takes_operand f (resolved.Called id instance) ≡ true
    → f ≡ operand_rules.Calls
unfolding takes_operand
taken_calls operand_rules.Calls id instance e = refl
taken_calls _ id instance e = absurd cc

pub calls_take : (id : BlockId) (instance : Option ℕ) → takes_operand operand_rules.Calls (resolved.Called id instance) ≡ true
    → is_operand_of_call (resolved.Called id instance) ≡ true
unfolding takes_operand
calls_take id instance e = e

pub form_calls : (m : Mnemonic) → operand_rule_of m ≡ operand_rules.Calls → is_call m ≡ true
unfolding operand_rule_of
form_calls code.Call e = refl
form_calls code.Uc e = refl
form_calls code.Cc e = refl
form_calls _ e = absurd cc

pub operand_called : (o : Operand) → is_called_operand o ≡ true
    → (name : BlockName) × (inst : Option BlockName) × (o ≡ operand.Called name inst)
operand_called (operand.Called name inst) e = (name, inst, refl)
operand_called _ e = absurd cc

called_same : (a b : BlockId) (m n : Option ℕ) → Resolved (resolved.Called a m) ≡ Resolved (resolved.Called b n) → a ≡ b
called_same a b m n e = cc

seen_id : (x id : BlockId) (inst : Option BlockName) (n instance : Option ℕ)
    → resolution_of_call (Some x) inst n ≡ Resolved (resolved.Called id instance) → x ≡ id
seen_id x id None n instance e = called_same x id None instance e
seen_id x id (Some name) None instance e = absurd cc
seen_id x id (Some name) (Some n) instance e = called_same x id (Some n) instance e

-- this block, which is a system function or has a place
abbrev pub IsWhole : Context → BlockId → Option BlockId → Type 0
IsWhole c id o = (o ≡ Some id) × (is_system_function id.kind ≡ false → (p : ℕ) × (whole_place c id ≡ Some p))

pub seen_named : (c : Context) (name : BlockName) (inst : Option BlockName) (id : BlockId) (instance : Option ℕ)
    → resolution_of c (operand.Called name inst) ≡ Resolved (resolved.Called id instance)
    → IsWhole c id (named_block c.symbols name)
unfolding resolution_of
seen_named c name inst id instance e = by (named_block c.symbols name) e
  where
    made : (x : BlockId) → x ≡ id → (is_system_function x.kind ≡ false → (p : ℕ) × (whole_place c x ≡ Some p)) → IsWhole c id (Some x)
    made x same whole = (ap (λ (z : BlockId). Some z) same, subst (λ (z : BlockId). is_system_function z.kind ≡ false → (p : ℕ) × (whole_place c z ≡ Some p)) same whole)

    placed : (x : BlockId) (o : Option ℕ) → whole_place c x ≡ o
        → resolution_of_call (id_at x o) inst (instance_number c inst) ≡ Resolved (resolved.Called id instance) → IsWhole c id (Some x)
    placed x None w h = absurd cc
    placed x (Some p) w h = made x (seen_id x id inst (instance_number c inst) instance h) (λ k. (p, w))

    whether : (x : BlockId) (t : Bool) → is_system_function x.kind ≡ t
        → resolution_of_call (if t then Some x else id_at x (whole_place c x)) inst (instance_number c inst) ≡ Resolved (resolved.Called id instance) → IsWhole c id (Some x)
    whether x true sys h = made x (seen_id x id inst (instance_number c inst) instance h) (λ k. absurd cc)
    whether x false sys h = placed x (whole_place c x) refl h

    by : (o : Option BlockId) → resolution_of_call (whole_called_block c o) inst (instance_number c inst) ≡ Resolved (resolved.Called id instance) → IsWhole c id o
    by None h = absurd cc
    by (Some x) h = whether x (is_system_function x.kind) refl h

view_seen : (r : Resolution) (v : ResolvedOperand) → operand_if_resolved r ≡ Some v → r ≡ Resolved v
view_seen (Resolved w) v e = ap (λ (z : ResolvedOperand). Resolved z) (same_Some w v e)
view_seen Unknown v e = absurd cc
view_seen Unjudged v e = absurd cc

pub resolved_seen : (c : Context) (s : Statement) (v : ResolvedOperand) → resolved_operand c s ≡ Some v → resolution_of c s.operand ≡ Resolved v
unfolding resolved_operand
resolved_seen c s v e = by (is_none (statement_rule c s)) e
  where
    by : (t : Bool) → (if t then operand_if_resolved (resolution_of c s.operand) else None) ≡ Some v → resolution_of c s.operand ≡ Resolved v
    by true h = view_seen (resolution_of c s.operand) v h
    by false h = absurd cc

pub rule_called : (c : Context) (f : OperandRule) (o : Operand) (id : BlockId) (instance : Option ℕ)
    → resolution_of c o ≡ Resolved (resolved.Called id instance) → rule_of_operand c f o ≡ None → rule_of_resolved_operand f (resolved.Called id instance) ≡ None
unfolding resolution_of
rule_called c f (operand.Constant value) id instance e h = absurd cc
rule_called c f _ id instance e h = sym (ap (λ (r : Resolution). rule_of_resolution f r) e) ∙ h

-- ---- the block at a place

kind_function : (k : BlockKind) → is_function k ≡ true → k ≡ kinds.Fc
kind_function kinds.Fc e = refl
kind_function _ e = absurd cc

matched_long : (fs : List Formal) (ps : List Param) → Matched fs (map record_of_param ps)
    → length (map (λ (f : Formal). f.kind) fs) ≡ length ps
matched_long [] [] h = refl
matched_long [] (p ∷ ps) h = absurd h
matched_long (f ∷ fs) [] h = absurd h
matched_long (f ∷ fs) (p ∷ ps) h = ap suc (matched_long fs ps h.1)

cells_parameters : (cs : List Cell) → AreParameters cs → AllByRecursion IsParameterCell cs
cells_parameters [] h = tt
cells_parameters (c ∷ cs) h = ((h.0.kind, h.0.section, h.0.plain), cells_parameters cs h.1)

got_mapped : (ls : List BlockLayout) (k : ℕ) (l : BlockLayout) → slice_get ls k ≡ Some l
    → slice_get (map (λ (b : BlockLayout). b.id) ls) k ≡ Some l.id
got_mapped [] k l e = absurd cc
got_mapped (x ∷ ls) zero l e = ap (λ (z : BlockLayout). Some z.id) (same_Some x l e)
got_mapped (x ∷ ls) (suc k) l e = got_mapped ls k l e

place_known : (id : BlockId) (is : List (Option BlockId)) (k : ℕ) → slice_get is k ≡ Some (Some id)
    → (m : ℕ) × (place_of_block id is ≡ Some m)
place_known id [] k e = absurd cc
place_known id (i ∷ is) zero e = (
  0,
  ap (λ (t : Bool). if t then Some 0 else option_map (λ k. suc k) (place_of_block id is))
      (ap (is_id id) (same_Some i (Some id) e) ∙ id_itself id),
)
place_known id (i ∷ is) (suc k) e = by (is_id id i) (place_known id is k e)
  where
    by : (t : Bool) → (m : ℕ) × (place_of_block id is ≡ Some m)
        → (m : ℕ) × ((if t then Some 0 else option_map (λ k. suc k) (place_of_block id is)) ≡ Some m)
    by true h = (0, refl)
    by false h = (suc h.0, ap (λ (o : Option ℕ). option_map (λ k. suc k) o) h.1)

pub whole_known : (l : List BlockLayout) (o : Option ℕ) (p : ℕ) → option_and_then (if_whole l) o ≡ Some p → o ≡ Some p
whole_known l None p e = absurd cc
whole_known l (Some q) p e = by (is_some (whole_at l q)) e
  where
    by : (t : Bool) → (if t then Some q else None) ≡ Some p → Some q ≡ Some p
    by true h = h
    by false h = absurd cc

not_any : (P : CodeBlock → Bool) (bs : List StatedBlock) → list_any P (map compiled_block bs) ≡ false
    → AllByRecursion (λ (b : StatedBlock). P (compiled_block b) ≡ false) bs
not_any P [] e = tt
not_any P (b ∷ bs) e = by (P (compiled_block b)) refl e (not_any P bs)
  where
    by : (t : Bool) → P (compiled_block b) ≡ t → (t || list_any P (map compiled_block bs)) ≡ false
        → (list_any P (map compiled_block bs) ≡ false → AllByRecursion (λ (b : StatedBlock). P (compiled_block b) ≡ false) bs)
        → (P (compiled_block b) ≡ false) × AllByRecursion (λ (b : StatedBlock). P (compiled_block b) ≡ false) bs
    by true is h more = absurd cc
    by false is h more = (is, more h)

pub components_same : (symbols : List Symbol) (t : Tree) (k : ℕ) (b : Block) (l : BlockLayout)
    → IsSoundBlock symbols t k b l → l.components ≡ components_of (types_of_source symbols t.blocks) b
unfolding block_layout
components_same symbols t k b l h = ap (λ (z : BlockLayout). z.components) h.layout

beyond_number : (o : Option BlockId) (id : BlockId) → o ≡ Some id → is_number_beyond_limits o ≡ false → is_block_number id.kind id.number ≡ true
beyond_number None id e h = absurd cc
beyond_number (Some x) id e h = subst (λ (z : BlockId). is_block_number z.kind z.number ≡ true) (same_Some x id e) (by (is_block_number x.kind x.number) h)
  where
    by : (t : Bool) → not t ≡ false → t ≡ true
    by true h = refl
    by false h = absurd cc

module _ (symbols : List Symbol) (t : Tree) (tree : IsSoundTree symbols t) where
  -- a block of the source by its kind and number
  found_at : (id : BlockId) (p : ℕ) → slice_get (map (λ (b : BlockLayout). b.id) (layouts_of t symbols)) p ≡ Some (Some id)
      → is_code id.kind ≡ true
      → (b : Block) × (l : BlockLayout) × (l.id ≡ Some id) × IsSoundBlock symbols t p b l
  found_at id p e code = (there.block, there.layout, there.is ∙ ap (λ (z : BlockId). Some z) one, there.sound)
    where
      listed : slice_get (types_of_source symbols t.blocks).ids p ≡ Some (Some id)
      listed = ap (λ (is : List (Option BlockId)). slice_get is p) (sym (ids_same symbols t)) ∙ e

      there : IsThere symbols t is_code p
      there = id_there symbols t tree is_code p id listed code

      one : there.id ≡ id
      one = id_there_is symbols t tree is_code p id listed code

  known_at : (k : ℕ) (b : Block) (l : BlockLayout) (id : BlockId) → IsSoundBlock symbols t k b l → l.id ≡ Some id
      → is_code id.kind ≡ true → known_block id (source_block_ids (context_at symbols t k)) ≡ Some k
  known_at k b l id sound e code =
      ap (λ (t' : Bool). if t' then place_of_block id (source_block_ids (context_at symbols t k)) else None) number
      ∙ at.1 ∙ ap (λ (n : ℕ). Some n) same
    where
      number : is_block_number id.kind id.number ≡ true
      number = beyond_number (id_of (types_of_source symbols t.blocks).symbols b) id
          (ap (λ (s : List Symbol). id_of s b) (measured_symbols symbols t.blocks) ∙ sym (layout_id symbols t k b l sound) ∙ e)
          sound.head.by_44

      at : (m : ℕ) × (place_of_block id (source_block_ids (context_at symbols t k)) ≡ Some m)
      at = place_known id (source_block_ids (context_at symbols t k)) k
          (got_mapped (layouts_of t symbols) k l sound.layout_there ∙ ap (λ (o : Option BlockId). Some o) e)

      same : at.0 ≡ k
      same =
          let f = found_at id at.0 (place_there id (source_block_ids (context_at symbols t k)) at.0 at.1) code in
          one_block symbols t id at.0 k f.0 b f.1 l f.3 sound f.2 e

  -- its parameters are found by their names
  all_found : (p : ℕ) (b : Block) (l : BlockLayout) → IsSoundBlock symbols t p b l
      → AllByRecursion (IsFoundAmong (formals_of (cells_at (layouts_of t symbols) p false)))
      (in_parameter_order (slice_get t.blocks p) (formals_of (cells_at (layouts_of t symbols) p false)))
  all_found p b l sound =
      subst (λ (o : Option Block). AllByRecursion (IsFoundIn fs) (in_parameter_order o fs)) (sym sound.block_there)
      (return_all (IsFoundIn fs) b.result fs (found_each fs distinct))
    where
      fs : List Formal
      fs = formals_of (cells_at (layouts_of t symbols) p false)

      distinct : Distinct fs
      distinct = subst (λ (cs : List Cell). Distinct (formals_of cs)) (sym (cells_are symbols t p b l sound false))
          (fresh_distinct [] (formals_of (components_of (types_of_source symbols t.blocks) b))
          (block_formals (types_of_source symbols t.blocks) b sound.well_formed
          (block_unbroken (types_of_source symbols t.blocks) b sound.declarations)))

  -- ---- a block and its types

  module _ (k : ℕ) (b : Block) (l : BlockLayout) (sound : IsSoundBlock symbols t k b l) where
    abbrev c : Context
    c = context_at symbols t k

    own_long : length (own_kinds c) ≡ length (params_of b l)
    own_long =
        ap (λ (o : Option Block). length (map (λ (f : Formal). f.kind) (in_parameter_order o (formals_of (cells_at (layouts_of t symbols) k false))))) sound.block_there
        ∙ matched_long (in_parameter_order (Some b) (formals_of (cells_at (layouts_of t symbols) k false))) (params_of b l)
        (source_matched b l (cells_at (layouts_of t symbols) k false)
        (components_same symbols t k b l sound ∙ sym (cells_are symbols t k b l sound false)))

    pub own_parameters : in_function c ≡ true → AllByRecursion IsParameterCell (cells_at (layouts_of t symbols) k false)
    own_parameters e =
        cells_parameters (cells_at (layouts_of t symbols) k false)
        (subst AreParameters (sym (cells_are symbols t k b l sound false))
        (function_components (types_of_source symbols t.blocks) b sound.well_formed
        (kind_function b.kind (ap is_of_function (sym sound.block_there) ∙ e))))

    own_sees : SeesOwn c (own_kinds c)
    own_sees = own_seen c own_parameters

    -- ---- a statement

    abbrev all : List CodeBlock
    all = map compiled_block (code_blocks_of t symbols (layouts_of t symbols))

    abbrev types : BlockId → List Simple
    types = declared_kinds t symbols

    source_code : (j : BlockKind) → is_callable j ≡ true → is_system_function j ≡ false → is_code j ≡ true
    source_code kinds.Fc e f = refl
    source_code kinds.Fb e f = refl
    source_code kinds.Sfc e f = absurd cc
    source_code kinds.Ob e f = absurd cc
    source_code kinds.Db e f = absurd cc
    source_code kinds.Udt e f = absurd cc

    in_program : (id : BlockId) (p : ℕ) → whole_place c id ≡ Some p → is_code id.kind ≡ true
        → list_any (λ (x : CodeBlock). is_same_block x.id id) all ≡ true
    in_program id p whole code = by (list_any (λ (x : CodeBlock). is_same_block x.id id) all) refl
      where
        f : (b : Block) × (l : BlockLayout) × (l.id ≡ Some id) × IsSoundBlock symbols t p b l
        f = found_at id p (known_there id (source_block_ids c) p (whole_known (layouts_of t symbols) (known_block id (source_block_ids c)) p whole)) code

        by : (t' : Bool) → list_any (λ (x : CodeBlock). is_same_block x.id id) all ≡ t' → t' ≡ true
        by true e = refl
        by false e =
            let no : is_same_block id id ≡ false
            = code_block_there symbols t (λ (x : StatedBlock). is_same_block x.id id ≡ false)
            (not_any (λ (x : CodeBlock). is_same_block x.id id) (code_blocks_of t symbols (layouts_of t symbols)) e)
            p f.0 f.1 id f.3 f.2 code in
            let yes = id_itself id in
            absurd cc

    -- what is owed for a block that is called, as the rules find it
    abbrev IsRight : BlockId → Callee → Type 0
    IsRight id callee =
        AllByRecursion (IsFoundAmong callee.formals) (formals_by_index c callee)
        × (called_kinds types id ≡ map (λ (f : Formal). f.kind) (formals_by_index c callee))

    system_right : (id : BlockId) (callee : Callee) → is_system_function id.kind ≡ true → system_callee id ≡ Some callee
        → IsRight id callee
    system_right id callee sys e = by (system_formals id.number) refl e
      where
        by : (o : Option (List Formal)) → system_formals id.number ≡ o
            → option_map (λ formals. record { id = id; place = None; formals = formals }) o ≡ Some callee → IsRight id callee
        by None is h = absurd cc
        by (Some fs) is h =
            subst (IsRight id) (same_Some (record { id = id; place = None; formals = fs }) callee h) (
              found_each fs (fresh_distinct [] fs (system_matched id.number fs is).fresh),
              ap (λ (t' : Bool). if t' then map (λ (f : Formal). f.kind) (system_parameters id.number) else types id) sys
                  ∙ ap (λ (o : Option (List Formal)). map (λ (f : Formal). f.kind) (unwrap_or o [])) is,
            )

    source_right : (id : BlockId) (callee : Callee) → is_system_function id.kind ≡ false → is_code id.kind ≡ true
        → source_callee c id ≡ Some callee → IsRight id callee
    source_right id callee other code e = by (whole_place c id) refl e
      where
        at : (p : ℕ) → whole_place c id ≡ Some p → (t' : Bool)
            → option_map (λ formals. record { id = id; place = Some p; formals = formals })
            (if t' then Some (formals_of (cells_at (layouts_of t symbols) p false)) else None) ≡ Some callee → IsRight id callee
        at p whole false h = absurd cc
        at p whole true h =
            let known = whole_known (layouts_of t symbols) (known_block id (source_block_ids c)) p whole in
            let f = found_at id p (known_there id (source_block_ids c) p known) code in
            subst (IsRight id) (same_Some (record { id = id; place = Some p; formals = formals_of (cells_at (layouts_of t symbols) p false) }) callee h) (
              all_found p f.0 f.1 f.3,
              ap (λ (t' : Bool). if t' then map (λ (f : Formal). f.kind) (system_parameters id.number) else types id) other
                  ∙ ap (λ (o : Option ℕ). kinds_at (context_at symbols t 0) o) known,
            )

        by : (o : Option ℕ) → whole_place c id ≡ o → option_and_then (callee_at c id) o ≡ Some callee → IsRight id callee
        by None is h = absurd cc
        by (Some p) is h = at p is (list_all is_sound_formal (cells_at (layouts_of t symbols) p false)) h

    callee_right : (id : BlockId) (callee : Callee) → callee_by c id id.kind ≡ Some callee → IsRight id callee
    callee_right id callee e = by id.kind refl e
      where
        by : (j : BlockKind) → id.kind ≡ j → callee_by c id j ≡ Some callee → IsRight id callee
        by kinds.Sfc is h = system_right id callee (ap is_system_function is) h
        by kinds.Fc is h = source_right id callee (ap is_system_function is) (ap is_code is) h
        by kinds.Fb is h = source_right id callee (ap is_system_function is) (ap is_code is) h
        by kinds.Ob is h = absurd cc
        by kinds.Db is h = absurd cc
        by kinds.Udt is h = absurd cc

    found_callee : (o : Operand) (id : BlockId) (callee : Callee) → IsNamed c o id → callee_of c o ≡ Some callee
        → callee_by c id id.kind ≡ Some callee
    unfolding callee_of
    found_callee o id callee n e =
        sym (ap (λ (z : Option BlockId). option_and_then (λ id. callee_by c id id.kind) z) n.named)
        ∙ sym (ap (callee_of c) n.is) ∙ e

    pub owed : (s : Statement) → IsSoundStatement (types_of_source symbols t.blocks) c s → StatementOwesTypes types all c s
    owed s h id instance e = (
      (callable, either (is_system_function id.kind) refl),
      λ callee is.
          let right = callee_right id callee (found_callee s.operand id callee named is) in
          (right.0, (h.calls callee is).fits, right.1),
    )
      where
        at : resolution_of c s.operand ≡ Resolved (resolved.Called id instance)
        at = resolved_seen c s (resolved.Called id instance) e

        taken : takes_operand (operand_rule_of s.code) (resolved.Called id instance) ≡ true
        taken = (taken_by_rule (operand_rule_of s.code) (resolved.Called id instance) (rule_called c (operand_rule_of s.code) s.operand id instance at h.allowed)).taken

        calls : operand_rule_of s.code ≡ operand_rules.Calls
        calls = taken_calls (operand_rule_of s.code) id instance taken

        callable : is_callable id.kind ≡ true
        callable = callable_by id instance (calls_take id instance (ap (λ (f : OperandRule). takes_operand f (resolved.Called id instance)) (sym calls) ∙ taken))

        o : (name : BlockName) × (inst : Option BlockName) × (s.operand ≡ operand.Called name inst)
        o = operand_called s.operand (h.well_formed.called ∙ form_calls s.code calls)

        named : IsNamed c s.operand id
        named =
            let n = seen_named c o.0 o.1 id instance (ap (resolution_of c) (sym o.2) ∙ at) in
            record { name = o.0; inst = o.1; is = o.2; named = n.0; whole = n.1 }

        either : (t' : Bool) → is_system_function id.kind ≡ t' → (t' || list_any (λ (x : CodeBlock). is_same_block x.id id) all) ≡ true
        either true sys = refl
        either false other = let p = named.whole other in in_program id p.0 p.1 (source_code id.kind callable other)

    all_owed : (ss : List Statement) → AllByRecursion (IsSoundStatement (types_of_source symbols t.blocks) c) ss
        → AllByRecursion (StatementOwesTypes types all c) ss
    all_owed [] h = tt
    all_owed (s ∷ ss) h = (owed s h.0, all_owed ss h.1)

    pub body_owed : (id : BlockId) → l.id ≡ Some id → is_code id.kind ≡ true → BodyOwesTypes types all c b l id
    body_owed id e code =
        let own : own_kinds c ≡ types id
        = sym (ap (λ (o : Option ℕ). kinds_at (context_at symbols t 0) o) (known_at k b l id sound e code)) in
        record {
          size = ap (λ (z : List Simple). length z) (sym own) ∙ own_long;
          sees = subst (SeesOwn c) own own_sees;
          statements = all_owed b.body sound.statements;
        }

  bodies_owed : (k : ℕ) (bs : List Block) (ls : List BlockLayout) → AllLaid (IsSoundBlock symbols t) k bs ls
      → BodiesOweTypes (declared_kinds t symbols) (map compiled_block (code_blocks_of t symbols (layouts_of t symbols))) (context_at symbols t k) bs ls
  bodies_owed k [] ls h = tt
  bodies_owed k (b ∷ bs) [] h = tt
  bodies_owed k (b ∷ bs) (l ∷ ls) h = (body_owed k b l h.0, bodies_owed (suc k) bs ls h.1)

pub accepted_types_owed : AreAcceptedTypesOwed
accepted_types_owed source file symbols t accepted =
    let tree = right_tree source file symbols t accepted in
    bodies_owed symbols t tree 0 t.blocks (layouts_of t symbols) tree.blocks

pub accepted_types_kept : AreAcceptedTypesKept
accepted_types_kept source file symbols t accepted =
    source_types_kept (declared_kinds t symbols) t symbols (layouts_of t symbols) (accepted_types_owed source file symbols t accepted)
