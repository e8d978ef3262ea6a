-- The block that a listed statement calls, as the rules find it in the listing.
use Rattle.std.proofs.Common.{◌≡◌, ◌⊎◌, inl, inr, ℕ, zero, suc, Bool, true, false, List, [], ◌∷◌, ◌++◌, length, map, Option, Some, None, slice_get, unwrap_or, nat_eq, refl, sym, ap, subst, ◌∙◌, arith, if◌then◌else◌}
use Rattle.std.specs.List.{AllByRecursion, list_all}
use Rattle.std.specs.Option.{option_and_then, option_map}
use Rattle.std.proofs.lemmas.Option.{same_Some, slice_get_within}
use Rattle.std.proofs.lemmas.List.{length-map}
use Rattle.plc_base.specs.Kinds.{is_callable, is_code, is_data_type, is_function, is_function_block, is_system_function, kind_number}
use Rattle.plc_base.specs.Widths.{width_number}
use Rattle.plc_base.specs.declared.blocks.BlockId.{BlockId}
use Rattle.plc_base.specs.declared.blocks.BlockKind.{BlockKind}
use Rattle.plc_base.specs.declared.blocks.BlockKind.TheVariants as kinds
use Rattle.flat_code.specs.Blocks.{BlockSignature as FlatSignature, block_with, callee_among as flat_callee, signature_of, callee_of_system, system_params}
use Rattle.flat_code.specs.Image.{record_of_block, record_of_param}
use Rattle.flat_code.specs.Programs.{CodeBlock, DataBlock, Program}
use Rattle.flat_code.specs.declared.image_fields.ParameterRecord.{ParameterRecord}
use Rattle.stl_ast.specs.Blocks.{is_parameter}
use Rattle.stl_ast.specs.Literals.{AreBytes}
use Rattle.stl_ast.specs.declared.blocks.Block.{Block}
use Rattle.stl_ast.specs.declared.blocks.PartKind.{PartKind}
use Rattle.stl_ast.specs.declared.blocks.PartKind.TheVariants as part
use Rattle.stl_ast.specs.declared.blocks.Tree.{Tree}
use Rattle.stl_ast.specs.declared.declarations.Simple.TheVariants as simple
use Rattle.stl_symbols.specs.Symbol.{Symbol}
use Rattle.block_layout.specs.Blocks.{known_block}
use Rattle.block_layout.specs.Layouts.{layouts_of}
use Rattle.block_layout.specs.Paths.{cells_in}
use Rattle.block_layout.specs.declared.blocks.BlockLayout.{BlockLayout}
use Rattle.block_layout.specs.declared.cells.Cell.{Cell}
use Rattle.stl_types.specs.Context.{Context, source_block_ids, whole_place}
use Rattle.stl_types.specs.Parameters.{Callee, callee_at, callee_by, dtime_formal, formals_of as formals_in, is_sound_formal, mode_formal, ob_nr_formal, return_value_formal, sign_formal, sound_formals, source_callee, system_callee, system_formals}
use Rattle.stl_types.specs.Resolution.{id_at, whole_called_block}
use Rattle.stl_types.specs.declared.parameters.Formal.{Formal}
use Rattle.stl_codegen.specs.CompiledBlock.{compiled_block}
use Rattle.stl_codegen.specs.GeneratedProgram.{code_block, params_of, section_number}
use Rattle.stl_codegen.specs.Instruction.{source_block_at, in_parameter_order}
use Rattle.stl_list.specs.CodeBlocks.{in_lines}
use Rattle.stl_list.specs.JoinedParameters.{PassingChains, chains_of, system_parameters}
use Rattle.stl_list.specs.Parameters.{section_of}
use Rattle.stl_list.specs.Signatures.{Signature, called_formals, formals_of_block}
use Rattle.sem_kept.specs.AcceptedSource.{IsAccepted, program_in}
use Rattle.sem_kept.proofs.accepted.Accepted.{IsSoundTree, right_tree}
use Rattle.block_layout.proofs.BlockLemmas.{known_there}
use Rattle.sem_kept.proofs.accepted.OperandsFormals.{IsRecordOf, Matched, system_matched}
use Rattle.sem_kept.proofs.accepted.OperandsMembers.{called_block}
use Rattle.listing_laws.specs.AcceptedTypes.{declared_kinds}
use Rattle.listing_laws.specs.ListedSource.{IsMadeOf, IsWholeAgain, again_at, listed_tree_again, source_context_at}
use Rattle.listing_laws.specs.Chains.{is_listed_type}
use Rattle.listing_laws.specs.ListedDeclarations.{signatures_in}
use Rattle.listing_laws.specs.Fitting.{IsListedAs}
use Rattle.listing_laws.specs.HandedTypes.{called_kinds}
use Rattle.listing_laws.specs.Ids.{data_id_of_number, program_ids}
use Rattle.listing_laws.specs.Passings.{AreNamedApart, in_upper_case}
use Rattle.listing_laws.proofs.IdLemmas.{ids_listed}
use Rattle.listing_laws.proofs.called.AcceptedTypes.{body_owed, whole_known}
use Rattle.listing_laws.proofs.called.Listed.{kind_listed, parameters_listed}
use Rattle.listing_laws.proofs.called.Names.{system_names_apart}
use Rattle.listing_laws.proofs.declared.Groups.{formals_length}
use Rattle.listing_laws.proofs.made.Found.{ids_in}
use Rattle.listing_laws.proofs.made.Origins.{lines_count, made_of_source}
use Rattle.listing_laws.proofs.remade.Blocks.{IsListedCode, listed_code}
use Rattle.listing_laws.proofs.remade.Cells.{all_sound}
use Rattle.listing_laws.proofs.remade.Own.{mapped_from}
use Rattle.listing_laws.proofs.remade.Parameters.{IsFormalAt, formal_at, source_sound}

-- ---- what is found

-- the parameters that the code has of a called block, with those of the listing
pub record HasFormals (called : List Formal) (params : List ParameterRecord) : Type 0 where
  pub formals : (index : ℕ) (r : ParameterRecord) → slice_get params index ≡ Some r → (f : Formal) × (slice_get called index ≡ Some f) × IsListedAs f r

-- a block that a listed statement calls
pub record IsCalleeAgain (symbols : List Symbol) (t : Tree) (others : List Symbol) (again : ℕ) (id : BlockId) : Type 0 where
  pub callee : Callee
  pub found : callee_by (again_at symbols t others again) id id.kind ≡ Some callee
  pub same : callee.id ≡ id
  pub order : in_parameter_order (source_block_at (listed_tree_again symbols t).blocks callee.place) callee.formals ≡ map in_upper_case (called_formals (signatures_in (program_in symbols t)) id)
  pub named : AreNamedApart (called_formals (signatures_in (program_in symbols t)) id)
  pub kind : ℕ
  pub bytes : ℕ
  pub params : List ParameterRecord
  pub flat : flat_callee (map signature_of (map record_of_block (program_in symbols t).code_blocks)) (kind_number id.kind) id.number ≡ Some (record { kind = kind; instance_len = bytes; params = params })
  pub is_kind : kind ≡ kind_number id.kind
  pub formals : HasFormals (called_formals (signatures_in (program_in symbols t)) id) params
  pub count : length (called_formals (signatures_in (program_in symbols t)) id) ≡ length params
  pub kinds : length (called_kinds (declared_kinds t symbols) id) ≡ length (called_formals (signatures_in (program_in symbols t)) id)

-- ---- system functions

-- their parameters are named in upper case, and have types that a listing has
abbrev AreUpper : List Formal → Type 0
AreUpper fs = AllByRecursion (λ f. (in_upper_case f ≡ f) × (is_listed_type f.kind ≡ true)) fs

abbrev formals_by : (a b c d e f g h i : Bool) → Option (List Formal)
formals_by a b c d e f g h i =
    if a then Some (ob_nr_formal ∷ dtime_formal ∷ sign_formal ∷ return_value_formal simple.Int ∷ [])
    else if b then Some (ob_nr_formal ∷ return_value_formal simple.Int ∷ [])
    else if (if c then true else if d then true else false) then Some (mode_formal ∷ ob_nr_formal ∷ return_value_formal simple.Int ∷ [])
    else if (if e then true else if f then true else false) then Some (return_value_formal simple.Int ∷ [])
    else if (if g then true else if h then true else false) then Some []
    else if i then Some (return_value_formal simple.Time ∷ [])
    else None

upper_as : (fs gs : List Formal) → AreUpper fs → Some fs ≡ Some gs → AreUpper gs
upper_as fs gs h e = subst AreUpper (same_Some fs gs e) h

upper_by : (a b c d e f g h i : Bool) (fs : List Formal) → formals_by a b c d e f g h i ≡ Some fs → AreUpper fs
upper_by true b c d e f g h i fs s = upper_as (ob_nr_formal ∷ dtime_formal ∷ sign_formal ∷ return_value_formal simple.Int ∷ []) fs ((refl, refl), ((refl, refl), ((refl, refl), ((refl, refl), tt)))) s
upper_by false true c d e f g h i fs s = upper_as (ob_nr_formal ∷ return_value_formal simple.Int ∷ []) fs ((refl, refl), ((refl, refl), tt)) s
upper_by false false true d e f g h i fs s = upper_as (mode_formal ∷ ob_nr_formal ∷ return_value_formal simple.Int ∷ []) fs ((refl, refl), ((refl, refl), ((refl, refl), tt))) s
upper_by false false false true e f g h i fs s = upper_as (mode_formal ∷ ob_nr_formal ∷ return_value_formal simple.Int ∷ []) fs ((refl, refl), ((refl, refl), ((refl, refl), tt))) s
upper_by false false false false true f g h i fs s = upper_as (return_value_formal simple.Int ∷ []) fs ((refl, refl), tt) s
upper_by false false false false false true g h i fs s = upper_as (return_value_formal simple.Int ∷ []) fs ((refl, refl), tt) s
upper_by false false false false false false true h i fs s = upper_as [] fs tt s
upper_by false false false false false false false true i fs s = upper_as [] fs tt s
upper_by false false false false false false false false true fs s = upper_as (return_value_formal simple.Time ∷ []) fs ((refl, refl), tt) s
upper_by false false false false false false false false false fs s = absurd cc

system_upper : (n : ℕ) (fs : List Formal) → system_formals n ≡ Some fs → AreUpper fs
unfolding system_formals
system_upper n fs e = upper_by (nat_eq n 32) (nat_eq n 33) (nat_eq n 39) (nat_eq n 40) (nat_eq n 41) (nat_eq n 42) (nat_eq n 43) (nat_eq n 46) (nat_eq n 64) fs e

upper_all : (fs : List Formal) → AreUpper fs → fs ≡ map in_upper_case fs
upper_all [] h = refl
upper_all (f ∷ fs) (one, more) =
    let here = sym one.0 in
    let rest = upper_all fs more in
    λ i. here i ∷ rest i

section_again : (k : PartKind) → is_parameter k ≡ true → section_of (section_number k) ≡ k
section_again part.Input e = refl
section_again part.Output e = refl
section_again part.InOut e = refl
section_again part.Static e = absurd cc
section_again part.Temp e = absurd cc

matched_formals : (fs : List Formal) (rs : List ParameterRecord) → Matched fs rs → AreUpper fs → HasFormals fs rs
matched_formals fs rs h k = record { formals = at fs rs h k }
  where
    one : (f : Formal) (r : ParameterRecord) → IsRecordOf f r → is_listed_type f.kind ≡ true → IsListedAs f r
    one f r is listed = record { section = sym (ap section_of is.0 ∙ section_again f.section is.2); width = is.1; kind = listed }

    at : (fs : List Formal) (rs : List ParameterRecord) → Matched fs rs → AreUpper fs → (index : ℕ) (r : ParameterRecord) → slice_get rs index ≡ Some r
        → (f : Formal) × (slice_get fs index ≡ Some f) × IsListedAs f r
    at [] [] h k index r e = absurd cc
    at [] (q ∷ rs) h k index r e = absurd h
    at (f ∷ fs) [] h k index r e = absurd h
    at (f ∷ fs) (q ∷ rs) h k zero r e = (f, refl, subst (IsListedAs f) (same_Some q r e) (one f q h.0 k.0.1))
    at (f ∷ fs) (q ∷ rs) h k (suc index) r e = at fs rs h.1 k.1 index r e

matched_count : (fs : List Formal) (rs : List ParameterRecord) → Matched fs rs → length fs ≡ length rs
matched_count [] [] h = refl
matched_count [] (r ∷ rs) h = absurd h
matched_count (f ∷ fs) [] h = absurd h
matched_count (f ∷ fs) (r ∷ rs) h = ap suc (matched_count fs rs h.1)

system_kind : (k : BlockKind) → is_system_function k ≡ true → k ≡ kinds.Sfc
system_kind kinds.Sfc e = refl
system_kind kinds.Ob e = absurd cc
system_kind kinds.Fc e = absurd cc
system_kind kinds.Fb e = absurd cc
system_kind kinds.Db e = absurd cc
system_kind kinds.Udt e = absurd cc

system_flat : (blocks : List FlatSignature) (k : BlockKind) (n : ℕ) (params : List ParameterRecord) → k ≡ kinds.Sfc → system_params n ≡ Some params
    → flat_callee blocks (kind_number k) n ≡ Some (callee_of_system params)
unfolding flat_callee
system_flat blocks k n params is e = ap (λ j. flat_callee blocks (kind_number j) n) is ∙ ap (option_map callee_of_system) e

pub system_again : (symbols : List Symbol) (t : Tree) (others : List Symbol) (again : ℕ) (id : BlockId) (fs : List Formal) → is_system_function id.kind ≡ true → system_formals id.number ≡ Some fs
    → IsCalleeAgain symbols t others again id
system_again symbols t others again id fs sys e =
    let made : Callee = record { id = id; place = None; formals = fs } in
    let system = system_matched id.number fs e in
    let uppers = system_upper id.number fs e in
    let listed : called_formals (signatures_in (program_in symbols t)) id ≡ fs =
    ap (λ (b : Bool). if b then system_parameters id.number else formals_of_block (signatures_in (program_in symbols t)) id) sys ∙ ap (λ (o : Option (List Formal)). unwrap_or o []) e in
    record {
      callee = made;
      found = ap (λ (b : Bool). if b then system_callee id else if is_function id.kind then source_callee (again_at symbols t others again) id
          else if is_function_block id.kind then source_callee (again_at symbols t others again) id else None) sys
          ∙ ap (option_map (λ formals. record { id = id; place = None; formals = formals })) e;
      same = refl;
      order = upper_all fs uppers ∙ ap (map in_upper_case) (sym listed);
      named = subst AreNamedApart (sym listed) (system_names_apart id.number fs e);
      kind = kind_number kinds.Sfc;
      bytes = 0;
      params = system.params;
      flat = system_flat (map signature_of (map record_of_block (program_in symbols t).code_blocks)) id.kind id.number system.params (system_kind id.kind sys) system.is;
      is_kind = ap kind_number (sym (system_kind id.kind sys));
      formals = subst (λ z. HasFormals z system.params) (sym listed) (matched_formals fs system.params system.matched uppers);
      count = ap length listed ∙ matched_count fs system.params system.matched;
      kinds = ap (λ (b : Bool). length (if b then map (λ (f : Formal). f.kind) (system_parameters id.number) else declared_kinds t symbols id)) sys
          ∙ length-map (system_parameters id.number) (λ (f : Formal). f.kind)
          ∙ ap (λ (b : Bool). length (if b then system_parameters id.number else formals_of_block (signatures_in (program_in symbols t)) id)) (sym sys);
    }

-- ---- blocks of the source

-- a place in the front of a list, or behind it
front_or_back : {A : Type 0} (xs ys : List A) (k : ℕ) (x : A) → slice_get (xs ++ ys) k ≡ Some x → (slice_get xs k ≡ Some x) ⊎ ((j : ℕ) × (slice_get ys j ≡ Some x))
front_or_back [] ys k x e = inr (k, e)
front_or_back (z ∷ xs) ys zero x e = inl e
front_or_back (z ∷ xs) ys (suc k) x e = front_or_back xs ys k x e

no_data_code : (number : ℕ) (id : BlockId) → data_id_of_number number ≡ id → is_code id.kind ≡ true → ⊥
no_data_code number id e h = let no : false ≡ true = ap (λ (i : BlockId). is_code i.kind) e ∙ h in absurd cc

-- the code block of a kind and number, in the order of a listing
code_place : (p : Program) (k : ℕ) (id : BlockId) → slice_get (program_ids p) k ≡ Some id → is_code id.kind ≡ true
    → (b : CodeBlock) × (slice_get (in_lines p.code_blocks) k ≡ Some b) × (b.id ≡ id)
code_place p k id e code = by (front_or_back (map (λ b. b.id) (in_lines p.code_blocks)) (map (λ d. data_id_of_number d.number) p.data_blocks) k id e)
  where
    by : (slice_get (map (λ (b : CodeBlock). b.id) (in_lines p.code_blocks)) k ≡ Some id) ⊎ ((j : ℕ) × (slice_get (map (λ (d : DataBlock). data_id_of_number d.number) p.data_blocks) j ≡ Some id))
        → (b : CodeBlock) × (slice_get (in_lines p.code_blocks) k ≡ Some b) × (b.id ≡ id)
    by (inl h) = mapped_from (λ (b : CodeBlock). b.id) (in_lines p.code_blocks) k id h
    by (inr h) =
        let d = mapped_from (λ (d : DataBlock). data_id_of_number d.number) p.data_blocks h.0 id h.1 in
        absurd (no_data_code d.0.number id d.2 code)

code_kind : (k : BlockKind) → is_callable k ≡ true → is_system_function k ≡ false → is_code k ≡ true
code_kind kinds.Fc e f = refl
code_kind kinds.Fb e f = refl
code_kind kinds.Sfc e f = absurd cc
code_kind kinds.Ob e f = absurd cc
code_kind kinds.Db e f = absurd cc
code_kind kinds.Udt e f = absurd cc

no_type_kind : (k : BlockKind) → is_callable k ≡ true → is_data_type k ≡ false
no_type_kind kinds.Fc e = refl
no_type_kind kinds.Fb e = refl
no_type_kind kinds.Sfc e = refl
no_type_kind kinds.Ob e = refl
no_type_kind kinds.Db e = refl
no_type_kind kinds.Udt e = absurd cc

-- a block that isn't a system function is one of the source
callee_source : (c : Context) (id : BlockId) (callee : Callee) → is_callable id.kind ≡ true → is_system_function id.kind ≡ false → source_callee c id ≡ Some callee → callee_by c id id.kind ≡ Some callee
callee_source c id callee callable other e = by id.kind callable other
  where
    by : (k : BlockKind) → is_callable k ≡ true → is_system_function k ≡ false → callee_by c id k ≡ Some callee
    by kinds.Fc h k = e
    by kinds.Fb h k = e
    by kinds.Sfc h k = absurd cc
    by kinds.Ob h k = absurd cc
    by kinds.Db h k = absurd cc
    by kinds.Udt h k = absurd cc

source_flat : (blocks : List FlatSignature) (k : BlockKind) (n : ℕ) → is_callable k ≡ true → is_system_function k ≡ false → flat_callee blocks (kind_number k) n ≡ block_with (kind_number k) n blocks
unfolding flat_callee
source_flat blocks kinds.Fc n h k = refl
source_flat blocks kinds.Fb n h k = refl
source_flat blocks kinds.Sfc n h k = absurd cc
source_flat blocks kinds.Ob n h k = absurd cc
source_flat blocks kinds.Db n h k = absurd cc
source_flat blocks kinds.Udt n h k = absurd cc

-- the place of a block that is whole
place_whole : (c : Context) (id : BlockId) → is_system_function id.kind ≡ false → whole_called_block c (Some id) ≡ Some id → (p : ℕ) × (whole_place c id ≡ Some p)
place_whole c id other e = by (whole_place c id) refl (sym (ap (λ (b : Bool). if b then Some id else id_at id (whole_place c id)) other) ∙ e)
  where
    by : (o : Option ℕ) → whole_place c id ≡ o → id_at id o ≡ Some id → (p : ℕ) × (whole_place c id ≡ Some p)
    by None w h = absurd cc
    by (Some p) w h = (p, w)

module _ (source file : List ℕ) (symbols : List Symbol) (t : Tree) (accepted : IsAccepted source file symbols t) (bytes : AreBytes source) (file_bytes : AreBytes file)
    (others : List Symbol) (clean : IsWholeAgain symbols t others) where
  abbrev ss : List Signature
  ss = signatures_in (program_in symbols t)

  -- the block of the listing that a code block became
  record IsAt (k : ℕ) (id : BlockId) : Type 0 where
    place : ℕ
    block : Block
    layout : BlockLayout
    made : IsMadeOf symbols t k place block layout id

  made_at : (k : ℕ) (id : BlockId) → slice_get (program_ids (program_in symbols t)) k ≡ Some id → is_code id.kind ≡ true → IsAt k id
  made_at k id e code =
      let at = code_place (program_in symbols t) k id e code in
      let within = slice_get_within (in_lines (program_in symbols t).code_blocks) k at.0 at.1 in
      let count = lines_count (program_in symbols t).code_blocks in
      let made = made_of_source source file symbols t accepted bytes file_bytes k (omega (arith, within, count)) in
      let same : made.3 ≡ id = ap (λ (b : CodeBlock). b.id) (same_Some (compiled_block (code_block (source_context_at symbols t made.0) made.1 made.2 made.3)) at.0 (sym made.4.ordered ∙ at.1)) ∙ at.2 in
      record { place = made.0; block = made.1; layout = made.2; made = subst (λ (i : BlockId). IsMadeOf symbols t k made.0 made.1 made.2 i) same made.4 }

  -- its formals are the parameters of the code
  pub block_formals : (k place : ℕ) (b : Block) (l : BlockLayout) (id : BlockId) → IsListedCode symbols t others k (compiled_block (code_block (source_context_at symbols t place) b l id))
      → HasFormals (formals_of_block ss id) (map record_of_param (params_of b l))
  block_formals k place b l id h = record { formals = at }
    where
      chains : PassingChains
      chains = chains_of (program_in symbols t).code_blocks

      at : (index : ℕ) (r : ParameterRecord) → slice_get (map record_of_param (params_of b l)) index ≡ Some r → (f : Formal) × (slice_get (formals_of_block ss id) index ≡ Some f) × IsListedAs f r
      at index r e =
          let own = mapped_from record_of_param (params_of b l) index r e in
          let found : IsFormalAt (formals_of_block ss id) index own.0 =
          subst (λ fs. IsFormalAt fs index own.0) (sym h.known.are)
          (formal_at chains (is_function id.kind) false 0 h.known.first (params_of b l) h.known.wide index own.0 own.1) in
          let listed = parameters_listed chains (program_in symbols t).code_blocks id index found.formal found.there in (
            found.formal,
            found.there,
            record {
              section = found.section ∙ ap (λ (z : ParameterRecord). section_of z.section) own.2;
              width = ap (λ (z : ParameterRecord). z.width) (sym own.2) ∙ ap width_number (sym found.width);
              kind = ap is_listed_type listed.kind ∙ kind_listed chains _ listed.param.width;
            },
          )

  -- a block that is whole in the listing
  pub block_again : (again : ℕ) (id : BlockId) → is_callable id.kind ≡ true → is_system_function id.kind ≡ false → whole_called_block (again_at symbols t others again) (Some id) ≡ Some id
      → IsCalleeAgain symbols t others again id
  block_again again id callable other e = record {
    callee = record { id = id; place = Some k; formals = formals_in h.layout.components };
    found = callee_source c id _ callable other
        (ap (option_and_then (callee_at c id)) whole.1
        ∙ ap (λ (cs : List Cell). option_map (λ formals. record { id = id; place = Some k; formals = formals }) (sound_formals cs)) (ap (cells_in false) h.there)
        ∙ ap (λ (b : Bool). option_map (λ formals. record { id = id; place = Some k; formals = formals }) (if b then Some (formals_in h.layout.components) else None))
        (ap (list_all is_sound_formal) h.components ∙ all_sound _ ss h.reached cb h.groups));
    same = refl;
    order = ap (λ (o : Option Block). in_parameter_order o (formals_in h.layout.components)) h.block ∙ h.order ∙ ap (map in_upper_case) (sym listed);
    named = subst AreNamedApart (sym listed) h.named;
    kind = kind_number id.kind;
    bytes = _;
    params = map record_of_param (params_of at.block at.layout);
    flat = source_flat _ id.kind id.number callable other
        ∙ called_block symbols t tree at.place at.block at.layout id (source_sound symbols t tree k at.place at.block at.layout id at.made) at.made.source.known code;
    is_kind = refl;
    formals = subst (λ z. HasFormals z (map record_of_param (params_of at.block at.layout))) (sym listed) (block_formals k at.place at.block at.layout id h);
    count = ap length listed ∙ long ∙ sym (length-map (params_of at.block at.layout) record_of_param);
    kinds = ap (λ (b : Bool). length (if b then map (λ (f : Formal). f.kind) (system_parameters id.number) else declared_kinds t symbols id)) other
        ∙ (body_owed symbols t tree at.place at.block at.layout (source_sound symbols t tree k at.place at.block at.layout id at.made) id at.made.source.known code).size
        ∙ sym (ap length listed ∙ long);
  }
    where
      c : Context
      c = again_at symbols t others again

      tree : IsSoundTree symbols t
      tree = right_tree source file symbols t accepted

      code : is_code id.kind ≡ true
      code = code_kind id.kind callable other

      whole : (k : ℕ) × (whole_place c id ≡ Some k)
      whole = place_whole c id other e

      k : ℕ
      k = whole.0

      listed_there : slice_get (map (λ i. Some i) (program_ids (program_in symbols t))) k ≡ Some (Some id)
      listed_there =
          ap (λ is. slice_get is k) (sym (ids_in others (listed_tree_again symbols t) ∙ ids_listed others (program_in symbols t)))
          ∙ known_there id (source_block_ids c) k (whole_known (layouts_of (listed_tree_again symbols t) others) (known_block id (source_block_ids c)) k whole.1)

      there : slice_get (program_ids (program_in symbols t)) k ≡ Some id
      there =
          let from = mapped_from (λ i. Some i) (program_ids (program_in symbols t)) k (Some id) listed_there in
          from.1 ∙ from.2

      at : IsAt k id
      at = made_at k id there code

      cb : CodeBlock
      cb = compiled_block (code_block (source_context_at symbols t at.place) at.block at.layout id)

      h : IsListedCode symbols t others k cb
      h = listed_code source file symbols t accepted bytes file_bytes others clean k at.place at.block at.layout id at.made

      listed : called_formals ss id ≡ formals_of_block ss id
      listed = ap (λ (b : Bool). if b then system_parameters id.number else formals_of_block ss id) other

      long : length (formals_of_block ss id) ≡ length (params_of at.block at.layout)
      long =
          ap length h.known.are
          ∙ formals_length (chains_of (program_in symbols t).code_blocks) (is_function id.kind) false 0 h.known.first (params_of at.block at.layout)
