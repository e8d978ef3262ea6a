-- No initial value is cut: from the cells of a structure to each write.
use Rattle.std.proofs.Common.{ℕ, zero, suc, ◌≡◌, ◌<◌, ◌≤◌, ◌+◌, ◌*◌, ◌/◌, ◌%◌, ◌^◌, ◌⊎◌, inl, inr, List, [], ◌∷◌, ◌++◌, Option, Some, None, is_some, Bool, true, false, ◌&&◌, not, nat_eq, nat_lt, eqb-true, leb-true, refl, sym, ◌∙◌, ap, subst, arith, length, length-append, append-nil, map, replicate, fold, if◌then◌else◌}
use Rattle.std.specs.Prelude.{slice_get}
use Rattle.std.specs.List.{AllByRecursion, flat_map, list_all, range_with_len}
use Rattle.std.specs.Option.{option_and_then}
use Rattle.std.proofs.lemmas.List.{length-replicate}
use Rattle.std.proofs.lemmas.List.FromFn.{length-map-range_with_len}
use Rattle.plc_base.specs.Kinds.{is_data_block}
use Rattle.plc_base.specs.declared.blocks.BlockId.{BlockId}
use Rattle.plc_base.specs.declared.blocks.BlockKind.{BlockKind}
use Rattle.plc_base.specs.declared.blocks.BlockKind.TheVariants as kinds
use Rattle.plc_base.proofs.ListLemmas.{all_append}
use Rattle.plc_base.proofs.TruthLemmas.{and_first, and_second}
use Rattle.stl_ast.specs.Declarations.{IsDeclaration, IsInit}
use Rattle.stl_ast.specs.Literals.{AreBytes, IsLiteral}
use Rattle.stl_ast.specs.WellFormed.{IsBlock, IsComponent, IsDataType, IsDeclaredIn, IsSection, IsSetting, IsShapeOf}
use Rattle.stl_ast.specs.declared.blocks.Block.{Block}
use Rattle.stl_ast.specs.declared.blocks.Part.{Part}
use Rattle.stl_ast.specs.declared.blocks.PartKind.{PartKind}
use Rattle.stl_ast.specs.declared.blocks.PartKind.TheVariants as part
use Rattle.stl_ast.specs.declared.blocks.PathStep.{PathStep}
use Rattle.stl_ast.specs.declared.blocks.Setting.{Setting}
use Rattle.stl_ast.specs.declared.blocks.Tree.{Tree}
use Rattle.stl_ast.specs.declared.declarations.Bounds.{Bounds}
use Rattle.stl_ast.specs.declared.declarations.Declaration.{Declaration}
use Rattle.stl_ast.specs.declared.declarations.ElementType.{ElementType}
use Rattle.stl_ast.specs.declared.declarations.ElementType.TheVariants as element
use Rattle.stl_ast.specs.declared.declarations.Init.{Init}
use Rattle.stl_ast.specs.declared.declarations.Simple.{Simple}
use Rattle.stl_ast.specs.declared.declarations.Simple.TheVariants as simple
use Rattle.stl_ast.specs.declared.declarations.TypeTree.{TypeTree}
use Rattle.stl_ast.specs.declared.names.BlockName.{BlockName}
use Rattle.stl_symbols.specs.Symbol.{Symbol}
use Rattle.block_layout.specs.Around.{Outside, of_sections, of_structure, declarations_before_next}
use Rattle.block_layout.specs.Cells.{breaks_rule, cell_of, cells_of, components_of, is_temp, layout_element, with_first_cell_opening, preset_of, returned_cells, section_cells, udt_element}
use Rattle.block_layout.specs.Declarations.{are_within, element_count, fit_or_none, fit_type, has_upside_down, init_fits, settable_count, elements_set_by, repetition_factor}
use Rattle.block_layout.specs.Fits.{bits_of, fits_elementary_type}
use Rattle.block_layout.specs.InitialBytes.{Write, component_starts, cell_writes, component_writes, element_starts, filled_starts, in_steps, initial_bytes, length_at, preset_values, bytes_with_write, setting_write, setting_writes, settings_at, structure_writes, type_writes, write_of, writes_at, writes_from}
use Rattle.block_layout.specs.Layouts.{layouts_of}
use Rattle.block_layout.specs.Measures.{measuring_rounds, types_of_source}
use Rattle.block_layout.specs.Paths.{cells_at, cells_in, elementary_at, folded_path, leaves_structure, setting_structure, shape_block, structure_of, path_end_in_data_block, path_end_or_unjudged, path_end_of_setting}
use Rattle.block_layout.specs.Rule41.{fits_kind, misfits_component, setting_misfits}
use Rattle.block_layout.specs.Rule42.{setting_is_outside}
use Rattle.block_layout.specs.Rule56.{is_too_deep}
use Rattle.block_layout.specs.Sizes.{alignment, array_bits, capped_size, cell_bits, element_bits, element_of, components_end, largest_size, plain_bits, end_behind_cell, structure_bits, next_multiple}
use Rattle.block_layout.specs.Types.{Types, data_type_place}
use Rattle.block_layout.specs.declared.blocks.BlockLayout.{BlockLayout}
use Rattle.block_layout.specs.declared.cells.Cell.{Cell}
use Rattle.block_layout.specs.declared.cells.Element.{Element}
use Rattle.block_layout.specs.declared.cells.Element.TheVariants.{Plain, Structure, DateAndTime, Udt, Unknown}
use Rattle.block_layout.specs.declared.cells.Preset.{Preset}
use Rattle.block_layout.specs.declared.path_ends.ComponentAt.{ComponentAt}
use Rattle.block_layout.specs.declared.path_ends.PathEnd.{PathEnd}
use Rattle.block_layout.specs.declared.path_ends.PathEnd.TheVariants as path_end
use Rattle.stl_types.specs.Unknown.{leads_nowhere, sets_unknown}
use Rattle.sem_kept.specs.AcceptedSource.{IsAccepted}
use Rattle.sem_kept.specs.CodedBlocks.{BlockHasBytes, DeclarationHasBytes, HasBytes, InitHasBytes, PartHasBytes, SettingHasBytes}
use Rattle.sem_kept.specs.Initial.{HasElements, HasRoom, InitialValuesAreWhole, IsSettingWritten, IsWhole, IsMadeByWrites, writes_of}
use Rattle.sem_kept.proofs.accepted.Accepted.{IsSoundBlock, IsSoundTree, all_both, each_passes, right_tree}
use Rattle.sem_kept.proofs.accepted.CodedBits.{value_fits}
use Rattle.sem_kept.proofs.accepted.CodedBytes.{block_has_bytes}
use Rattle.block_layout.proofs.SoundnessLemmas.{IsUnbroken, Unbroken, block_unbroken, unbroken_back, unbroken_front}
use Rattle.sem_kept.proofs.accepted.OperandsCells.{are_right, block_of_layout, cells_are}
use Rattle.block_layout.proofs.ContainmentLemmas.{data_goes, element_parts, element_plain, element_structure, element_udt, structure_fits, udt_fits}
use Rattle.sem_kept.proofs.accepted.OperandsPlaces.{reached_place}
use Rattle.sem_kept.proofs.accepted.OperandsViews.{IsStructured, IsThere, layout_id, structure_known, whole_is}
use Rattle.block_layout.proofs.AlignmentLemmas.{AreRight, Goes, IsRightCell, IsSettled, Lies, Meets, MeetsKind, UdtEven, element_within, here_within, index_meets, settled_even, start_meets, structure_ends, structure_even}
use Rattle.block_layout.proofs.OffsetLemmas.{end_step, step_grows}
use Rattle.block_layout.proofs.BlockLemmas.{kind_there}
use Rattle.block_layout.proofs.CommonLemmas.{or_first, or_second}

-- ---- lists

all_flat : {A B : Type 0} (P : A → Type 0) (Q : B → Type 0) (f : A → List B)
    → ((x : A) → P x → AllByRecursion Q (f x)) → (xs : List A) → AllByRecursion P xs
    → AllByRecursion Q (flat_map f xs)
all_flat P Q f each [] h = tt
all_flat P Q f each (x ∷ xs) h = all_append Q (f x) (flat_map f xs) (each x h.0) (all_flat P Q f each xs h.1)

all_images : {A B : Type 0} (P : A → Type 0) (Q : B → Type 0) (f : A → B)
    → ((x : A) → P x → Q (f x)) → (xs : List A) → AllByRecursion P xs → AllByRecursion Q (map f xs)
all_images P Q f each [] h = tt
all_images P Q f each (x ∷ xs) h = (each x h.0, all_images P Q f each xs h.1)

all_held : {A : Type 0} (P Q : A → Type 0) → ((x : A) → P x → Q x) → (xs : List A)
    → AllByRecursion P xs → AllByRecursion Q xs
all_held P Q each [] h = tt
all_held P Q each (x ∷ xs) h = (each x h.0, all_held P Q each xs h.1)

all_same : {A : Type 0} (P : A → Type 0) (n : ℕ) (x : A) → P x → AllByRecursion P (replicate n x)
all_same P zero x h = tt
all_same P (suc n) x h = (h, all_same P n x h)

all_counted : {A : Type 0} (P : A → Type 0) (f : ℕ → A) (from n most : ℕ)
    → from + n ≤ most → ((k : ℕ) → k < most → P (f k)) → AllByRecursion P (map f (range_with_len from n))
all_counted P f from zero most few each = tt
all_counted P f from (suc n) most few each =
    (each from (omega (arith, few)), all_counted P f (from + 1) n most (omega (arith, few)) each)

all_got : {A : Type 0} (P : A → Type 0) (xs : List A)
    → ((k : ℕ) (x : A) → slice_get xs k ≡ Some x → P x) → AllByRecursion P xs
all_got P [] each = tt
all_got P (x ∷ xs) each = (each zero x refl, all_got P xs (λ k z e. each (suc k) z e))

-- ---- the initial values of cells fit

abbrev PresetsFit : Element → List Preset → Type 0
PresetsFit (Plain kind) presets = AllByRecursion (λ p. p.value < 2 ^ plain_bits kind) presets
PresetsFit _ presets = Unit {0}

abbrev CellFits : Cell → Type 0
CellFits c = PresetsFit c.of c.presets × HasElements c.bounds c.presets c.of

-- a constant of a source
abbrev IsValue : Init → Type 0
IsValue i = IsLiteral i.value × HasBytes i.value

abbrev AreValues : Declaration → Type 0
AreValues d = AllByRecursion IsValue d.init

presets_fit : (kind : Simple) (init : List Init) → AllByRecursion IsValue init
    → list_all (λ i. fits_elementary_type i.value kind) init ≡ true
    → AllByRecursion (λ p. p.value < 2 ^ plain_bits kind) (map preset_of init)
presets_fit kind [] h e = tt
presets_fit kind (i ∷ is) h e = (
  value_fits i.value kind h.0.0 h.0.1
      (and_first (fits_elementary_type i.value kind) (list_all (λ i. fits_elementary_type i.value kind) is) e),
  presets_fit kind is h.1 (and_second (fits_elementary_type i.value kind) (list_all (λ i. fits_elementary_type i.value kind) is) e),
)

plain_fits : (kind : Simple) (arrays : List Bounds) (init : List Init) → AllByRecursion IsValue init
    → fit_or_none init (fit_type arrays (element.Plain kind) init) ≡ true
    → AllByRecursion (λ p. p.value < 2 ^ plain_bits kind) (map preset_of init)
plain_fits kind arrays [] h e = tt
plain_fits kind arrays (i ∷ is) h e =
    presets_fit kind (i ∷ is) h
    (and_first (list_all (λ i. fits_elementary_type i.value kind) (i ∷ is)) (are_within (elements_set_by (i ∷ is)) (settable_count arrays)) e)

udt_fit : (bits : List ℕ) (o : Option ℕ) (presets : List Preset) → PresetsFit (udt_element bits o) presets
udt_fit bits None presets = tt
udt_fit bits (Some u) presets = tt

-- as many values as the initial values set elements
values_count : (i : Init) (is : List Init)
    → length (preset_values (map preset_of (i ∷ is)))
    ≡ repetition_factor i.count + length (preset_values (map preset_of is))
values_count i is =
    length-append (replicate (repetition_factor i.count) (bits_of i.value)) (preset_values (map preset_of is))
    ∙ ap (λ (n : ℕ). n + length (preset_values (map preset_of is)))
    (length-replicate (repetition_factor i.count) (bits_of i.value))

values_from : (n : ℕ) (init : List Init)
    → n + length (preset_values (map preset_of init))
    ≡ fold (λ (a : ℕ) (i : Init). a + repetition_factor i.count) n init
values_from n [] = none n
  where
    none : (n : ℕ) → n + 0 ≡ n
    none n = omega arith
values_from n (i ∷ is) =
    ap (λ (k : ℕ). n + k) (values_count i is)
    ∙ grouped n (repetition_factor i.count) (length (preset_values (map preset_of is)))
    ∙ values_from (n + repetition_factor i.count) is
  where
    grouped : (a b c : ℕ) → a + (b + c) ≡ a + b + c
    grouped a b c = omega arith

values_set : (init : List Init) → length (preset_values (map preset_of init)) ≡ elements_set_by init
values_set init = first (length (preset_values (map preset_of init))) ∙ values_from 0 init
  where
    first : (n : ℕ) → n ≡ 0 + n
    first n = omega arith

-- and as many elements as there is room for
starts_room : (arrays : List Bounds) (n element start : ℕ) → are_within n (settable_count arrays) ≡ true
    → n ≤ length (element_starts arrays element (start ∷ []))
starts_room [] n element start e = leb-true n 1 e
starts_room (b ∷ []) n element start e =
    subst (λ (k : ℕ). n ≤ k)
    (sym (ap length (append-nil (in_steps (array_bits [] element) (element_count b) start))
    ∙ length-map-range_with_len (λ k. capped_size (start + capped_size (k * array_bits [] element))) 0 (element_count b)))
    (leb-true n (element_count b) e)
starts_room (b ∷ c ∷ bs) n element start e = absurd cc

least : (n : ℕ) → 0 ≤ n
least n = omega arith

plain_elements : (kind : Simple) (arrays : List Bounds) (init : List Init)
    → fit_or_none init (fit_type arrays (element.Plain kind) init) ≡ true
    → HasElements arrays (map preset_of init) (Plain kind)
plain_elements kind arrays [] e element start = least (length (element_starts arrays element (start ∷ [])))
plain_elements kind arrays (i ∷ is) e element start =
    subst (λ (n : ℕ). n ≤ length (element_starts arrays element (start ∷ []))) (sym (values_set (i ∷ is)))
    (starts_room arrays (elements_set_by (i ∷ is)) element start
    (and_second (list_all (λ i. fits_elementary_type i.value kind) (i ∷ is)) (are_within (elements_set_by (i ∷ is)) (settable_count arrays)) e))

no_presets : (init : List Init) → fit_or_none init (nat_eq (length init) 0) ≡ true
    → map preset_of init ≡ []
no_presets [] e = refl
no_presets (i ∷ is) e =
    let none : suc (length is) ≡ 0 = eqb-true (suc (length is)) 0 e in absurd cc

udt_elements : (bits : List ℕ) (o : Option ℕ) (arrays : List Bounds) (presets : List Preset)
    → presets ≡ [] → HasElements arrays presets (udt_element bits o)
udt_elements bits None arrays presets e = e
udt_elements bits (Some u) arrays presets e = e

laid_elements : (y : Types) (arrays : List Bounds) (of : ElementType) (init : List Init)
    → fit_or_none init (fit_type arrays of init) ≡ true
    → HasElements arrays (map preset_of init) (layout_element y of)
laid_elements y arrays (element.Plain kind) init e = plain_elements kind arrays init e
laid_elements y arrays element.Structure init e = no_presets init e
laid_elements y arrays element.DateAndTime init e = no_presets init e
laid_elements y arrays (element.Udt name) init e =
    udt_elements y.bits (data_type_place y name) arrays (map preset_of init) (no_presets init e)

laid_fit : (y : Types) (arrays : List Bounds) (of : ElementType) (init : List Init)
    → AllByRecursion IsValue init → fit_or_none init (fit_type arrays of init) ≡ true
    → PresetsFit (layout_element y of) (map preset_of init)
laid_fit y arrays (element.Plain kind) init h e = plain_fits kind arrays init h e
laid_fit y arrays element.Structure init h e = tt
laid_fit y arrays element.DateAndTime init h e = tt
laid_fit y arrays (element.Udt name) init h e = udt_fit y.bits (data_type_place y name) (map preset_of init)

not_not : (b : Bool) → not b ≡ false → b ≡ true
not_not true e = refl
not_not false e = absurd cc

init_kept : (y : Types) (o : Outside) (before : List Declaration) (d : Declaration)
    → breaks_rule y o before d ≡ false → init_fits d ≡ true
init_kept y o before d e =
    let four = or_first _ (is_too_deep y o before d) e in
    let three = or_first _ (has_upside_down d) four in
    not_not (init_fits d) (or_second _ (not (init_fits d)) three)

cells_fit : (y : Types) (o : Outside) (section : PartKind) (before ds : List Declaration)
    → Unbroken y o before ds → AllByRecursion AreValues ds
    → AllByRecursion CellFits (cells_of y o section before ds)
unfolding cell_of
cells_fit y o section before [] h v = tt
cells_fit y o section before (d ∷ ds) h v = (
  (
    laid_fit y d.of.arrays d.of.of d.init v.0 (init_kept y o before d h.0),
    laid_elements y d.of.arrays d.of.of d.init (init_kept y o before d h.0),
  ),
  cells_fit y o section (d ∷ before) ds h.1 v.1,
)

opened_fit : (cs : List Cell) → AllByRecursion CellFits cs → AllByRecursion CellFits (with_first_cell_opening cs)
opened_fit [] h = tt
opened_fit (c ∷ cs) h = by (opened_fit cs h.1) c.sound
  where
    by : AllByRecursion CellFits (with_first_cell_opening cs) → (t : Bool)
        → AllByRecursion CellFits (if t then record c { opens = true } ∷ cs else c ∷ with_first_cell_opening cs)
    by more true = h
    by more false = (h.0, more)

sections_fit : (y : Types) (o : Outside) (wanted : PartKind → Bool) (before : List Declaration)
    (ps : List Part) → Unbroken y o before (flat_map (λ p. p.items) ps)
    → AllByRecursion (λ p. AllByRecursion AreValues p.items) ps
    → AllByRecursion CellFits (section_cells y o wanted before ps)
sections_fit y o wanted before [] h v = tt
sections_fit y o wanted before (q ∷ ps) h v =
    all_append CellFits
    (if wanted q.kind then with_first_cell_opening (cells_of y o q.kind before q.items) else [])
    (section_cells y o wanted (declarations_before_next before q.items) ps)
    (by (wanted q.kind))
    (sections_fit y o wanted (declarations_before_next before q.items) ps
    (unbroken_back y o before q.items (flat_map (λ p. p.items) ps) h) v.1)
  where
    by : (t : Bool) → AllByRecursion CellFits
        (if t then with_first_cell_opening (cells_of y o q.kind before q.items) else [])
    by true = opened_fit (cells_of y o q.kind before q.items)
        (cells_fit y o q.kind before q.items
        (unbroken_front y o before q.items (flat_map (λ p. p.items) ps) h) v.0)
    by false = tt

returned_fit : (result : Option Simple) → AllByRecursion CellFits (returned_cells result)
returned_fit None = tt
returned_fit (Some kind) = ((tt, λ element start. least 1), tt)

-- the values that a block declares
record Declares (b : Block) : Type 0 where
  sections : AllByRecursion (λ p. AllByRecursion AreValues p.items) b.parts
  structure : AllByRecursion AreValues b.components

components_fit : (y : Types) (b : Block) → IsUnbroken y b → Declares b
    → AllByRecursion CellFits (components_of y b)
components_fit y b h v =
    all_append CellFits
    (returned_cells b.result ++ section_cells y (of_sections b) (λ k. not (is_temp k)) [] b.parts)
    (cells_of y of_structure part.Static [] b.components)
    (all_append CellFits (returned_cells b.result)
    (section_cells y (of_sections b) (λ k. not (is_temp k)) [] b.parts)
    (returned_fit b.result)
    (sections_fit y (of_sections b) (λ k. not (is_temp k)) [] b.parts h.sections v.sections))
    (cells_fit y of_structure part.Static [] b.components h.structure v.structure)

-- ---- where the elements of arrays begin

-- of a component with these bounds left
record Begins (limit element : ℕ) (of : Element) (bounds : List Bounds) (start : ℕ) : Type 0 where
  even : Meets start bounds of
  within : start + array_bits bounds element ≤ limit

module _ (limit element components : ℕ) (of : Element) (near : limit < largest_size)
    (even : components % 16 ≡ 0) (parts : element ≡ element_bits of components) (whole : UdtEven of) where
  steps_begin : (b : Bounds) (bs : List Bounds) (start : ℕ) → Begins limit element of (b ∷ bs) start
      → AllByRecursion (Begins limit element of bs) (in_steps (array_bits bs element) (element_count b) start)
  steps_begin b bs start h =
      all_counted (Begins limit element of bs) (λ k. capped_size (start + capped_size (k * array_bits bs element)))
      0 (element_count b) (element_count b) (omega arith) each
    where
      each : (k : ℕ) → k < element_count b
          → Begins limit element of bs (capped_size (start + capped_size (k * array_bits bs element)))
      each k less =
          let sizes = element_within start limit k b bs element less near h.within in
          record {
            even = subst (λ (n : ℕ). Meets n bs of) (sym sizes.0)
                (subst (λ (e : ℕ). Meets (start + k * array_bits bs e) bs of) (sym parts)
                (index_meets start k bs of components h.even even whole));
            within = subst (λ (n : ℕ). n + array_bits bs element ≤ limit) (sym sizes.0) sizes.1;
          }

  elements_begin : (bounds : List Bounds) (starts : List ℕ)
      → AllByRecursion (Begins limit element of bounds) starts
      → AllByRecursion (Begins limit element of []) (element_starts bounds element starts)
  elements_begin [] starts h = h
  elements_begin (b ∷ bs) starts h =
      elements_begin bs (flat_map (in_steps (array_bits bs element) (element_count b)) starts)
      (all_flat (Begins limit element of (b ∷ bs)) (Begins limit element of bs)
      (in_steps (array_bits bs element) (element_count b)) (steps_begin b bs) starts h)

  filled_begin : (bounds : List Bounds) (starts : List ℕ)
      → AllByRecursion (Begins limit element of bounds) starts
      → AllByRecursion (Begins limit element of []) (filled_starts bounds element starts)
  filled_begin bounds starts h = by (nat_eq element 0)
    where
      by : (t : Bool) → AllByRecursion (Begins limit element of [])
          (if t then [] else element_starts bounds element starts)
      by true = tt
      by false = elements_begin bounds starts h

-- ---- the writes of a component

-- a write within so many bits
record IsKept (limit : ℕ) (w : Write) : Type 0 where
  within : w.offset + w.width ≤ limit
  begins : (w.width ≡ 1) ⊎ ((w.offset % 8 ≡ 0) × (w.width % 8 ≡ 0))
  fits : w.value < 2 ^ w.width

kind_begins : (n : ℕ) (kind : Simple) → MeetsKind n kind
    → (plain_bits kind ≡ 1) ⊎ ((n % 8 ≡ 0) × (plain_bits kind % 8 ≡ 0))
kind_begins n simple.Bool e = inl refl
kind_begins n simple.Byte e = inr (e, refl)
kind_begins n simple.Char e = inr (e, refl)
kind_begins n simple.Word e = inr (omega (arith, e), refl)
kind_begins n simple.Int e = inr (omega (arith, e), refl)
kind_begins n simple.S5time e = inr (omega (arith, e), refl)
kind_begins n simple.Dword e = inr (omega (arith, e), refl)
kind_begins n simple.Dint e = inr (omega (arith, e), refl)
kind_begins n simple.Time e = inr (omega (arith, e), refl)

zip_is_kept : (limit : ℕ) (kind : Simple) (offsets values : List ℕ)
    → AllByRecursion (Begins limit (plain_bits kind) (Plain kind) []) offsets
    → AllByRecursion (λ v. v < 2 ^ plain_bits kind) values
    → AllByRecursion (IsKept limit) (writes_at (plain_bits kind) offsets values)
zip_is_kept limit kind [] values h v = tt
zip_is_kept limit kind (o ∷ os) [] h v = tt
zip_is_kept limit kind (o ∷ os) (x ∷ xs) h v = (
  record { within = h.0.within; begins = kind_begins o kind h.0.even; fits = v.0 },
  zip_is_kept limit kind os xs h.1 v.1,
)

values_fit : (most : ℕ) (presets : List Preset) → AllByRecursion (λ p. p.value < most) presets
    → AllByRecursion (λ v. v < most) (preset_values presets)
values_fit most presets h =
    all_flat (λ p. p.value < most) (λ v. v < most) (λ p. replicate p.count p.value)
    (λ p less. all_same (λ v. v < most) p.count p.value less) presets h

-- where a structure begins whose components from a cell on end within the limit
record Holds (limit end start : ℕ) : Type 0 where
  even : start % 16 ≡ 0
  within : start + end ≤ limit

module _ (l : List BlockLayout) (limit : ℕ) (near : limit < largest_size)
    (right : (u : ℕ) → AllByRecursion (IsRightCell l) (cells_at l u false))
    (fit : (u : ℕ) → AllByRecursion CellFits (cells_at l u false)) where
  abbrev AreKept : List Write → Type 0
  AreKept ws = AllByRecursion (IsKept limit) ws

  -- where a component begins in structures that begin at these places
  begun_begins : (level at : ℕ) (c : Cell) (cs : List Cell) → at ≤ largest_size
      → nat_lt c.level level ≡ false → nat_eq c.level level ≡ true → c.sound ≡ true
      → (starts : List ℕ) → AllByRecursion (Holds limit (components_end level at (c ∷ cs))) starts
      → AllByRecursion (Begins limit (element_of c cs) c.of c.bounds) (component_starts at c starts)
  begun_begins level at c cs low stays here sound starts h =
      all_images (Holds limit (components_end level at (c ∷ cs))) (Begins limit (element_of c cs) c.of c.bounds)
      (λ s. capped_size (s + next_multiple at (alignment c))) each starts h
    where
      each : (s : ℕ) → Holds limit (components_end level at (c ∷ cs)) s
          → Begins limit (element_of c cs) c.of c.bounds (capped_size (s + next_multiple at (alignment c)))
      each s k =
          let short : components_end level at (c ∷ cs) < largest_size = let w = k.within in omega (arith, w, near) in
          let inside = here_within level at c cs low stays here sound short in
          let within = k.within in
          let same : capped_size (s + next_multiple at (alignment c)) ≡ s + next_multiple at (alignment c)
          = fit_sum s (next_multiple at (alignment c)) (cell_bits c cs) (components_end level at (c ∷ cs)) inside within in
          record {
            even = subst (λ (n : ℕ). Meets n c.bounds c.of) (sym same) (start_meets s at c k.even);
            within = subst (λ (n : ℕ). n + cell_bits c cs ≤ limit) (sym same)
                (whole_sum s (next_multiple at (alignment c)) (cell_bits c cs) (components_end level at (c ∷ cs)) inside within);
          }
        where
          fit_sum : (s first bits end : ℕ) → first + bits ≤ end → s + end ≤ limit → capped_size (s + first) ≡ s + first
          fit_sum s first bits end a b = omega (arith, near, a, b)

          whole_sum : (s first bits end : ℕ) → first + bits ≤ end → s + end ≤ limit → s + first + bits ≤ limit
          whole_sum s first bits end a b = omega (arith, a, b)

  -- what is written inside a structure, and inside a data type
  abbrev Inner : (List ℕ → List Write) → (end : ℕ) → Type 0
  Inner inside end = (starts : List ℕ) → AllByRecursion (Holds limit end) starts → AreKept (inside starts)

  abbrev Types_ : (ℕ → List ℕ → List Write) → Type 0
  Types_ of_type = (u : ℕ) → Inner (of_type u) (structure_bits (cells_at l u false))

  component_kept : (inside : List ℕ → List Write) (of_type : ℕ → List ℕ → List Write) (c : Cell)
      (cs : List Cell) → Inner inside (components_end (c.level + 1) 0 cs) → Types_ of_type → IsRightCell l c
      → CellFits c → (starts : List ℕ)
      → AllByRecursion (Begins limit (element_of c cs) c.of c.bounds) starts
      → AreKept (component_writes inside of_type c (element_of c cs) starts c.of)
  component_kept inside of_type c cs inner types ok v starts h = by c.of refl
    where
      parts : (components : ℕ) × (components % 16 ≡ 0) × (element_of c cs ≡ element_bits c.of components)
      parts = element_parts c cs

      filled : AllByRecursion (Begins limit (element_of c cs) c.of [])
          (filled_starts c.bounds (element_of c cs) starts)
      filled =
          filled_begin limit (element_of c cs) parts.0 c.of near parts.1 parts.2
          (settled_even l c.of ok.settled) c.bounds starts h

      one : (kind : Simple) → c.of ≡ Plain kind → (s : ℕ)
          → Begins limit (element_of c cs) c.of c.bounds s
          → AreKept (writes_at (plain_bits kind) (element_starts c.bounds (element_of c cs) (s ∷ []))
          (preset_values c.presets))
      one kind e s k =
          zip_is_kept limit kind (element_starts c.bounds (element_of c cs) (s ∷ [])) (preset_values c.presets)
          (subst (λ (n : ℕ). AllByRecursion (Begins limit n (Plain kind) [])
          (element_starts c.bounds (element_of c cs) (s ∷ []))) (element_plain c cs kind e)
          (subst (λ (of : Element). AllByRecursion (Begins limit (element_of c cs) of [])
          (element_starts c.bounds (element_of c cs) (s ∷ []))) e
          (elements_begin limit (element_of c cs) parts.0 c.of near parts.1 parts.2
          (settled_even l c.of ok.settled) c.bounds (s ∷ []) (k, tt))))
          (values_fit (2 ^ plain_bits kind) c.presets
          (subst (λ (of : Element). PresetsFit of c.presets) e v.0))

      structure : c.of ≡ Structure → (s : ℕ) → Begins limit (element_of c cs) c.of [] s
          → Holds limit (components_end (c.level + 1) 0 cs) s
      structure e s k = record {
        even = subst (λ (of : Element). Meets s [] of) e k.even;
        within = structure_fits s (element_of c cs) (components_end (c.level + 1) 0 cs) limit k.within
            (element_structure c cs e ok.sound) near;
      }

      type : (u bits : ℕ) → c.of ≡ Udt u bits → (s : ℕ) → Begins limit (element_of c cs) c.of [] s
          → Holds limit (structure_bits (cells_at l u false)) s
      type u bits e s k = record {
        even = subst (λ (of : Element). Meets s [] of) e k.even;
        within = udt_fits s (element_of c cs) bits (structure_bits (cells_at l u false)) limit k.within
            (element_udt c cs u bits e) (subst (IsSettled l) e ok.settled) near;
      }

      by : (of : Element) → c.of ≡ of
          → AreKept (component_writes inside of_type c (element_of c cs) starts of)
      by (Plain kind) e =
          all_flat (Begins limit (element_of c cs) c.of c.bounds) (IsKept limit)
          (λ s. writes_at (plain_bits kind) (element_starts c.bounds (element_of c cs) (s ∷ []))
          (preset_values c.presets))
          (one kind e) starts h
      by Structure e =
          inner (filled_starts c.bounds (element_of c cs) starts)
          (all_held (Begins limit (element_of c cs) c.of []) (Holds limit (components_end (c.level + 1) 0 cs))
          (structure e) (filled_starts c.bounds (element_of c cs) starts) filled)
      by (Udt u bits) e =
          types u (filled_starts c.bounds (element_of c cs) starts)
          (all_held (Begins limit (element_of c cs) c.of []) (Holds limit (structure_bits (cells_at l u false)))
          (type u bits e) (filled_starts c.bounds (element_of c cs) starts) filled)
      by DateAndTime e = tt
      by Unknown e = tt

  cells_kept : (of_type : ℕ → List ℕ → List Write) → Types_ of_type → (level at : ℕ)
      (starts : List ℕ) (cells : List Cell) → at ≤ largest_size → AllByRecursion (IsRightCell l) cells
      → AllByRecursion CellFits cells → AllByRecursion (Holds limit (components_end level at cells)) starts
      → AreKept (writes_from of_type level starts at cells)
  cells_kept of_type types level at starts [] low ok v h = tt
  cells_kept of_type types level at starts (c ∷ cs) low ok v h =
      by (nat_lt c.level level) refl
      (λ inner held. cells_kept of_type types (c.level + 1) 0 inner cs (omega arith) ok.1 v.1 held)
      (λ held. cells_kept of_type types level (end_behind_cell level at c (cell_bits c cs)) starts cs
      (step_grows level at c (cell_bits c cs) low).near ok.1 v.1 held)
    where
      here : Inner (λ inner. writes_from of_type (c.level + 1) inner 0 cs) (components_end (c.level + 1) 0 cs)
          → nat_lt c.level level ≡ false → (sound same : Bool) → c.sound ≡ sound
          → nat_eq c.level level ≡ same
          → AreKept (if sound && same
          then component_writes (λ inner. writes_from of_type (c.level + 1) inner 0 cs) of_type c
          (element_of c cs) (component_starts at c starts) c.of else [])
      here inner stays true true e f =
          component_kept (λ inner. writes_from of_type (c.level + 1) inner 0 cs) of_type c cs inner types
          ok.0 v.0 (component_starts at c starts) (begun_begins level at c cs low stays f e starts h)
      here inner stays true false e f = tt
      here inner stays false same e f = tt

      by : (t : Bool) → nat_lt c.level level ≡ t
          → Inner (λ inner. writes_from of_type (c.level + 1) inner 0 cs) (components_end (c.level + 1) 0 cs)
          → (AllByRecursion (Holds limit (components_end level (end_behind_cell level at c (cell_bits c cs)) cs)) starts
          → AreKept (writes_from of_type level starts (end_behind_cell level at c (cell_bits c cs)) cs))
          → AreKept (if t then []
          else cell_writes (λ inner. writes_from of_type (c.level + 1) inner 0 cs) of_type level at starts c
          (element_of c cs) ++ writes_from of_type level starts (end_behind_cell level at c (cell_bits c cs)) cs)
      by true stops inner behind = tt
      by false stays inner behind =
          all_append (IsKept limit)
          (cell_writes (λ inner. writes_from of_type (c.level + 1) inner 0 cs) of_type level at starts c
          (element_of c cs))
          (writes_from of_type level starts (end_behind_cell level at c (cell_bits c cs)) cs)
          (here inner stays c.sound (nat_eq c.level level) refl refl)
          (behind (subst (λ (n : ℕ). AllByRecursion (Holds limit n) starts) (end_step level at c cs stays) h))

  end_within : (cells : List Cell) → structure_bits cells < largest_size → components_end 0 0 cells ≤ structure_bits cells
  unfolding structure_bits
  end_within cells short = structure_ends (components_end 0 0 cells) (capped_size (next_multiple (components_end 0 0 cells) 16)) refl short

  types_kept : (depth : ℕ) → Types_ (type_writes l depth)
  unfolding type_writes
  types_kept zero u starts h = tt
  types_kept (suc depth) u starts h =
      cells_kept (type_writes l depth) (types_kept depth) 0 0 starts (cells_at l u false) (omega arith)
      (right u) (fit u)
      (all_held (Holds limit (structure_bits (cells_at l u false))) (Holds limit (components_end 0 0 (cells_at l u false)))
      ends starts h)
    where
      ends : (s : ℕ) → Holds limit (structure_bits (cells_at l u false)) s
          → Holds limit (components_end 0 0 (cells_at l u false)) s
      ends s k =
          let w = k.within in
          let short : structure_bits (cells_at l u false) < largest_size = omega (arith, w, near) in
          let end = end_within (cells_at l u false) short in
          record { even = k.even; within = omega (arith, w, end) }

-- ---- settings

module _ (l : List BlockLayout) (limit k inside : ℕ) (right : AreRight l) (near : limit < largest_size)
    (is : structure_of l k ≡ Some inside) (same : setting_structure l k ≡ structure_of l k)
    (small : structure_bits (cells_at l inside false) ≤ limit) where
  walks_as : (path : List PathStep) → path_end_of_setting l k path ≡ path_end_in_data_block l k path
  unfolding path_end_of_setting path_end_in_data_block
  walks_as path = ap (λ (o : Option ℕ). path_end_or_unjudged l o path) same

  one_kept : (s : Setting) → IsLiteral s.value → HasBytes s.value → setting_misfits l k s ≡ false
      → setting_is_outside l k s ≡ false
      → AllByRecursion (IsKept limit) (setting_write l s.value (path_end_in_data_block l k (folded_path s.path)))
  one_kept s literal has fit stays =
      by (path_end_in_data_block l k (folded_path s.path))
      (data_goes l limit right near k inside (folded_path s.path) is small
      (ap (λ (o : Option ℕ). leaves_structure l o (folded_path s.path)) (sym same) ∙ stays))
      (ap (misfits_component l s.value) (sym (walks_as (folded_path s.path))) ∙ fit)
    where
      written : (component : ComponentAt) → Lies l limit component → (o : Option Simple) → elementary_at l component ≡ o
          → not (fits_kind s.value o) ≡ false
          → AllByRecursion (IsKept limit) (write_of component.offset (bits_of s.value) o)
      written component lies None e f = tt
      written component lies (Some kind) e f =
          let place = reached_place l limit component kind lies e in (
            record {
              within = place.within;
              begins = kind_begins component.offset kind place.even;
              fits = value_fits s.value kind literal has (not_not (fits_elementary_type s.value kind) f);
            },
            tt,
          )

      by : (w : PathEnd) → Goes l limit w → misfits_component l s.value w ≡ false
          → AllByRecursion (IsKept limit) (setting_write l s.value w)
      by (path_end.Reaches component) lies f = written component lies (elementary_at l component) refl f
      by path_end.Unknown lies f = tt
      by path_end.Unjudged lies f = tt

  settings_kept : (ss : List Setting) → AllByRecursion (λ s. IsLiteral s.value) ss
      → AllByRecursion SettingHasBytes ss → AllByRecursion (λ s. setting_misfits l k s ≡ false) ss
      → AllByRecursion (λ s. setting_is_outside l k s ≡ false) ss
      → AllByRecursion (IsKept limit) (setting_writes l k ss)
  settings_kept [] a b c d = tt
  settings_kept (s ∷ ss) a b c d =
      all_append (IsKept limit) (setting_write l s.value (path_end_in_data_block l k (folded_path s.path)))
      (setting_writes l k ss) (one_kept s a.0 b.0 c.0 d.0) (settings_kept ss a.1 b.1 c.1 d.1)

  one_set : (s : Setting) → setting_misfits l k s ≡ false → setting_is_outside l k s ≡ false
      → sets_unknown l k s ≡ false → IsSettingWritten l k s
  one_set s fit stays known =
      let found =
      by (path_end_in_data_block l k (folded_path s.path))
      (data_goes l limit right near k inside (folded_path s.path) is small
      (ap (λ (o : Option ℕ). leaves_structure l o (folded_path s.path)) (sym same) ∙ stays))
      (ap (misfits_component l s.value) (sym (walks_as (folded_path s.path))) ∙ fit)
      known in
      record { write = found.0; alone = found.1 }
    where
      written : (offset : ℕ) (o : Option Simple) → not (fits_kind s.value o) ≡ false
          → (w : Write) × (write_of offset (bits_of s.value) o ≡ w ∷ [])
      written offset None f = absurd cc
      written offset (Some kind) f =
          (record { offset = offset; width = plain_bits kind; value = bits_of s.value }, refl)

      by : (w : PathEnd) → Goes l limit w → misfits_component l s.value w ≡ false → leads_nowhere w ≡ false
          → (x : Write) × (setting_write l s.value w ≡ x ∷ [])
      by (path_end.Reaches component) lies f e = written component.offset (elementary_at l component) f
      by path_end.Unknown lies f e = absurd cc
      by path_end.Unjudged lies f e = absurd lies

  settings_set : (ss : List Setting) → AllByRecursion (λ s. setting_misfits l k s ≡ false) ss
      → AllByRecursion (λ s. setting_is_outside l k s ≡ false) ss
      → AllByRecursion (λ s. sets_unknown l k s ≡ false) ss → AllByRecursion (IsSettingWritten l k) ss
  settings_set [] a b c = tt
  settings_set (s ∷ ss) a b c = (one_set s a.0 b.0 c.0, settings_set ss a.1 b.1 c.1)

-- ---- a data block of an accepted source

-- literals and their characters, declaration by declaration
both_values : (init : List Init) → AllByRecursion (λ i. IsLiteral i.value) init → AllByRecursion InitHasBytes init
    → AllByRecursion IsValue init
both_values [] a b = tt
both_values (i ∷ is) a b = ((a.0, b.0), both_values is a.1 b.1)

declared_values : (d : Declaration) → IsDeclaration d → DeclarationHasBytes d → AreValues d
declared_values d is has =
    both_values d.init
    (all_held (λ (i : Init). IsInit i) (λ (i : Init). IsLiteral i.value) (λ i k. k.1) d.init is.init) has

listed_values : (ds : List Declaration) → AllByRecursion IsDeclaration ds
    → AllByRecursion DeclarationHasBytes ds → AllByRecursion AreValues ds
listed_values [] a b = tt
listed_values (d ∷ ds) a b = (declared_values d a.0 b.0, listed_values ds a.1 b.1)

parts_values : (k : BlockKind) (ps : List Part) → AllByRecursion (IsSection k) ps
    → AllByRecursion PartHasBytes ps
    → AllByRecursion (λ p. AllByRecursion AreValues p.items) ps
parts_values k [] a b = tt
parts_values k (p ∷ ps) a b = (
  listed_values p.items
      (all_held (IsDeclaredIn k p.kind) IsDeclaration (λ d i. i.0) p.items a.0.2) b.0,
  parts_values k ps a.1 b.1,
)

all_declared : (ds : List Declaration) → AllByRecursion IsComponent ds
    → AllByRecursion IsDeclaration ds
all_declared ds h = all_held IsComponent IsDeclaration (λ d i. i.0) ds h

none_declared : (ds : List Declaration) → ds ≡ [] → AllByRecursion IsDeclaration ds
none_declared [] e = tt
none_declared (d ∷ ds) e = absurd cc

data_declared : (of : ElementType) (components : List Declaration) → IsDataType of components
    → AllByRecursion IsDeclaration components
data_declared element.Structure components is = all_declared components is.1
data_declared (element.Udt name) components is = none_declared components is.1
data_declared (element.Plain kind) components is = absurd is
data_declared element.DateAndTime components is = absurd is

shape_declared : (k : BlockKind) (shape : Option TypeTree) (instance : Option BlockName)
    (components : List Declaration) → IsShapeOf k shape instance components
    → AllByRecursion IsDeclaration components
shape_declared kinds.Db (Some t) None components is = data_declared t.of components is.1
shape_declared kinds.Db None (Some name) components is = none_declared components is.1
shape_declared kinds.Db None None components is = absurd is
shape_declared kinds.Db (Some t) (Some name) components is = absurd is
shape_declared kinds.Udt (Some t) None components is = all_declared components is.2.1
shape_declared kinds.Udt None instance components is = absurd is
shape_declared kinds.Udt (Some t) (Some name) components is = absurd is
shape_declared kinds.Ob shape instance components is = none_declared components is.2
shape_declared kinds.Fc shape instance components is = none_declared components is.2
shape_declared kinds.Fb shape instance components is = none_declared components is.2
shape_declared kinds.Sfc shape instance components is = none_declared components is.2

declares : (b : Block) → IsBlock b → BlockHasBytes b → Declares b
declares b well has = record {
  sections = parts_values b.kind b.parts well.sections.1 has.parts;
  structure = listed_values b.components
      (shape_declared b.kind b.shape b.instance_of b.components well.shaped) has.components;
}

module _ (source file : List ℕ) (symbols : List Symbol) (t : Tree)
    (accepted : IsAccepted source file symbols t) (bytes : AreBytes source) where
  abbrev ls : List BlockLayout
  ls = layouts_of t symbols

  tree : IsSoundTree symbols t
  tree = right_tree source file symbols t accepted

  has : (k : ℕ) (b : Block) (l : BlockLayout) → IsSoundBlock symbols t k b l → BlockHasBytes b
  has k b l h =
      block_has_bytes source accepted.tokens t bytes accepted.parsed k b h.block_there

  all_right : (u : ℕ) → AllByRecursion (IsRightCell ls) (cells_at ls u false)
  all_right u = all_got (IsRightCell ls) (cells_at ls u false) (λ k c e. are_right symbols t tree u k false c e)

  all_fit : (u : ℕ) → AllByRecursion CellFits (cells_at ls u false)
  all_fit u = by (slice_get ls u) refl
    where
      by : (o : Option BlockLayout) → slice_get ls u ≡ o → AllByRecursion CellFits (cells_at ls u false)
      by None is =
          subst (λ (o : Option BlockLayout). AllByRecursion CellFits (cells_in false o)) (sym is) tt
      by (Some l) is =
          let laid = block_of_layout symbols t tree u l is in
          subst (λ (cs : List Cell). AllByRecursion CellFits cs)
          (sym (cells_are symbols t u laid.block l laid.sound false))
          (components_fit (types_of_source symbols t.blocks) laid.block
          (block_unbroken (types_of_source symbols t.blocks) laid.block laid.sound.declarations)
          (declares laid.block laid.sound.well_formed (has u laid.block l laid.sound)))

  -- a data block with its layout
  abbrev IsDataBlockAt : ℕ → Type 0
  IsDataBlockAt k = IsThere symbols t is_data_block k

  data_of : (k : ℕ) (l : BlockLayout) (id : BlockId) → slice_get ls k ≡ Some l → l.id ≡ Some id
      → is_data_block id.kind ≡ true → IsDataBlockAt k
  data_of k l id there is kind =
      let laid = block_of_layout symbols t tree k l there in
      record {
        id = id;
        block = laid.block;
        layout = l;
        laid = there;
        is = is;
        kind = kind;
        same = kind_there symbols laid.block id (sym (layout_id symbols t k laid.block l laid.sound) ∙ is);
        sound = laid.sound;
      }

  setting_same : (k : ℕ) (d : IsDataBlockAt k) → setting_structure ls k ≡ structure_of ls k
  setting_same k d =
      ap (λ (o : Option BlockLayout). option_and_then (λ b. shape_block ls k b.shape) o)
      (d.laid ∙ sym (whole_is ls k d.layout d.laid d.sound.whole))

  eight : (len bits : ℕ) → len ≡ bits / 8 → bits % 16 ≡ 0 → bits ≡ 8 * len
  eight len bits e f = omega (arith, e, f)

  kept_is_whole : (len limit : ℕ) → limit ≡ 8 * len → (w : Write) → IsKept limit w → IsWhole len w
  kept_is_whole len limit e w h = record {
    within = subst (λ (n : ℕ). w.offset + w.width ≤ n) e h.within;
    begins = h.begins;
    fits = h.fits;
  }

  writes_within : (k : ℕ) (d : IsDataBlockAt k) (s : IsStructured symbols t k) (limit : ℕ)
      → structure_bits (cells_at ls s.inside false) ≤ limit → limit < largest_size
      → AllByRecursion (IsKept limit) (writes_of ls t.blocks k)
  writes_within k d s limit inside near =
      all_append (IsKept limit) (structure_writes ls (structure_of ls k))
      (setting_writes ls k (settings_at (slice_get t.blocks k))) structure settings
    where
      structure : AllByRecursion (IsKept limit) (structure_writes ls (structure_of ls k))
      structure =
          subst (λ (o : Option ℕ). AllByRecursion (IsKept limit) (structure_writes ls o)) (sym s.is)
          (types_kept ls limit near all_right all_fit measuring_rounds s.inside (0 ∷ [])
          (record { even = refl; within = omega (arith, inside) }, tt))

      well : IsBlock d.block
      well = d.sound.well_formed

      settings : AllByRecursion (IsKept limit) (setting_writes ls k (settings_at (slice_get t.blocks k)))
      settings =
          subst (λ (o : Option Block). AllByRecursion (IsKept limit) (setting_writes ls k (settings_at o)))
          (sym d.sound.block_there)
          (settings_kept ls limit k s.inside (are_right symbols t tree) near s.is (setting_same k d)
          inside d.block.settings
          (all_held IsSetting (λ (x : Setting). IsLiteral x.value) (λ x i. i.2) d.block.settings well.set.0)
          (has k d.block d.layout d.sound).settings
          (each_passes (setting_misfits ls k) (λ (x : Setting). x.line) 41 d.block.settings d.sound.settings.by_41)
          (each_passes (setting_is_outside ls k) (λ (x : Setting). x.line) 42 d.block.settings d.sound.settings.by_42))

  writes_kept : (k : ℕ) (d : IsDataBlockAt k) (s : IsStructured symbols t k)
      → AllByRecursion (IsKept (structure_bits (cells_at ls s.inside false))) (writes_of ls t.blocks k)
  writes_kept k d s =
      let small = s.small in
      writes_within k d s (structure_bits (cells_at ls s.inside false)) (omega arith) (omega (arith, small))

  all_room : (u : ℕ) → AllByRecursion HasRoom (cells_at ls u false)
  all_room u =
      all_held (λ (c : Cell). IsRightCell ls c × CellFits c) HasRoom
      (λ c h. record { sound = h.0.sound; elements = h.1.1 }) (cells_at ls u false)
      (all_both (IsRightCell ls) CellFits (cells_at ls u false) (all_right u) (all_fit u))

  all_set : (k : ℕ) (d : IsDataBlockAt k) (s : IsStructured symbols t k)
      → AllByRecursion (IsSettingWritten ls k) (settings_at (slice_get t.blocks k))
  all_set k d s =
      let small = s.small in
      subst (λ (o : Option Block). AllByRecursion (IsSettingWritten ls k) (settings_at o)) (sym d.sound.block_there)
      (settings_set ls (structure_bits (cells_at ls s.inside false)) k s.inside (are_right symbols t tree)
      (omega (arith, small)) s.is (setting_same k d) (omega arith) d.block.settings
      (each_passes (setting_misfits ls k) (λ (x : Setting). x.line) 41 d.block.settings d.sound.settings.by_41)
      (each_passes (setting_is_outside ls k) (λ (x : Setting). x.line) 42 d.block.settings d.sound.settings.by_42)
      (each_passes (sets_unknown ls k) (λ (x : Setting). x.line) 20 d.block.settings d.sound.settings.by_20))

  written : (k : ℕ) (l : BlockLayout) (id : BlockId) → slice_get ls k ≡ Some l → l.id ≡ Some id
      → is_data_block id.kind ≡ true → IsMadeByWrites ls t.blocks k l.length
  unfolding initial_bytes
  written k l id there is kind =
      let d = data_of k l id there is kind in
      let s = structure_known symbols t tree k d in
      let long : l.length ≡ structure_bits (cells_at ls s.inside false) / 8
      = sym (ap (λ (o : Option BlockLayout). length_at o) there) ∙ s.long in
      record {
        made = ap (λ (o : Option BlockLayout). fold bytes_with_write (replicate (length_at o) 0) (writes_of ls t.blocks k)) there;
        whole = all_held (IsKept (structure_bits (cells_at ls s.inside false))) (IsWhole l.length)
            (kept_is_whole l.length (structure_bits (cells_at ls s.inside false))
            (eight l.length (structure_bits (cells_at ls s.inside false)) long
            (structure_even (cells_at ls s.inside false))))
            (writes_of ls t.blocks k) (writes_kept k d s);
        known = ap is_some s.is;
        room = all_room;
        set = all_set k d s;
      }

pub initial_values_are_whole : InitialValuesAreWhole
initial_values_are_whole source file symbols t accepted bytes k l id there is kind =
    written source file symbols t accepted bytes k l id there is kind
