-- The parameters of a block: at most 60, none of an organization block, and those of a function block lie
-- within its instance.
use Rattle.std.proofs.Common.{◌≡◌, ℕ, suc, ◌+◌, ◌-◌, ◌*◌, ◌/◌, ◌%◌, ◌≤◌, ◌<◌, min, Bool, true, false, cond, not, eqb, leb, ◌&&◌, ◌||◌, List, [], ◌∷◌, ◌++◌, length, length-append, flat_map, sum_by, count_by, append-nil, Option, Some, None, is_some, refl, sym, ap, subst, ◌∙◌, arith}
use Rattle.std.specs.Prelude.{if◌then◌else◌, nat_eq, nat_lt}
use Rattle.std.specs.List.{AllByRecursion}
use Rattle.std.specs.Option.{option_map}
use Rattle.std.specs.Str.{bytes_eq}
use Rattle.std.proofs.lemmas.Bool.{and_from, eq-eqb, eqb-true, le-leb, lt-ltb, ltb-false}
use Rattle.std.proofs.lemmas.Bool.Decides.{nat_tests}
use Rattle.std.proofs.lemmas.List.Sums.{sum_by-cons, sum_by-append}
use Rattle.plc_base.specs.Kinds.{kind_number, is_code, is_function_block}
use Rattle.plc_base.specs.declared.blocks.BlockKind.{BlockKind}
use Rattle.plc_base.specs.declared.blocks.BlockKind.TheVariants as kinds
use Rattle.plc_base.specs.Widths.{byte_count, width_number}
use Rattle.plc_base.specs.declared.places.Width.{Width}
use Rattle.plc_base.specs.declared.places.Width.TheVariants as width
use Rattle.plc_base.specs.declared.refusals.Refusal.{Refusal}
use Rattle.stl_ast.specs.Blocks.{is_parameter, may_have_section}
use Rattle.stl_ast.specs.Declarations.{is_elementary_type, is_elementary}
use Rattle.stl_ast.specs.Outline.{IsOutline, level_behind}
use Rattle.stl_ast.specs.WellFormed.{IsBlock, AreDeclaredIn, IsSection, MayReturn, IsShapeOf}
use Rattle.stl_ast.specs.declared.blocks.Block.{Block}
use Rattle.stl_ast.specs.declared.blocks.Part.{Part}
use Rattle.stl_ast.specs.declared.blocks.PartKind.{PartKind}
use Rattle.stl_ast.specs.declared.blocks.Tree.{Tree}
use Rattle.stl_ast.specs.declared.blocks.PartKind.TheVariants as part
use Rattle.stl_ast.specs.declared.declarations.Bounds.{Bounds}
use Rattle.stl_ast.specs.declared.declarations.Declaration.{Declaration}
use Rattle.stl_ast.specs.declared.declarations.ElementType.{ElementType}
use Rattle.stl_ast.specs.declared.declarations.ElementType.TheVariants as type
use Rattle.stl_ast.specs.declared.declarations.Simple.{Simple}
use Rattle.stl_ast.specs.declared.declarations.Simple.TheVariants as simple
use Rattle.plc_base.specs.Folding.{upper_case_name}
use Rattle.plc_base.specs.RefusalsAlong.{refusals_along}
use Rattle.plc_base.specs.Least.{broken_if}
use Rattle.plc_base.proofs.ListLemmas.{all_front, all_back, all_append}
use Rattle.stl_symbols.specs.Names.{name_place}
use Rattle.stl_symbols.specs.Symbol.{Symbol}
use Rattle.block_layout.specs.Around.{Outside, structures_around, declarations_before_next, of_sections, of_structure, returned_names, section_declarations, refusals_in_block, refusals_in_list}
use Rattle.block_layout.specs.Cells.{cell_of, cells_of, components_of, is_sound, is_temp, with_first_cell_opening, returned_cells, section_cells}
use Rattle.block_layout.specs.Declarations.{init_fits}
use Rattle.block_layout.specs.Layouts.{block_layout}
use Rattle.block_layout.specs.Lengths.{length_of_block}
use Rattle.block_layout.specs.Measures.{types_of_source}
use Rattle.block_layout.specs.Members.{component_of_name}
use Rattle.block_layout.specs.Offsets.{width_of}
use Rattle.block_layout.specs.Rule21.{refusals_21, is_twice, declaration_name_here, names_before}
use Rattle.block_layout.specs.Rule41.{refusals_41}
use Rattle.block_layout.specs.Rule52.{parameters_in_section, has_too_many_parameters, parameter_count, return_value_count}
use Rattle.block_layout.specs.Sizes.{alignment, capped_size, cell_bits, element_alignment, element_of, components_end, plain_bits, end_behind_cell, structure_bits, next_multiple}
use Rattle.block_layout.specs.Types.{Types}
use Rattle.block_layout.specs.declared.blocks.BlockLayout.{BlockLayout}
use Rattle.block_layout.specs.declared.cells.Cell.{Cell}
use Rattle.block_layout.specs.declared.cells.Element.{Element}
use Rattle.block_layout.specs.declared.cells.Element.TheVariants as element
use Rattle.block_layout.specs.Sizes.{largest_size}
use Rattle.block_layout.specs.declared.members.Member.{Member}
use Rattle.flat_code.specs.Records.{section_in, section_in_out}
use Rattle.flat_code.specs.Checking.{good_params}
use Rattle.flat_code.specs.Faults.{field_fault}
use Rattle.flat_code.specs.Image.{parameter_layout, parameter_bit, parameter_byte, parameter_rows, record_of_param, section_field}
use Rattle.flat_code.specs.declared.programs.Param.{Param}
use Rattle.flat_code.proofs.CheckLemmas.{zero_byte_good}
use Rattle.block_layout.specs.ListedParameters.{offset_of_member}
use Rattle.stl_codegen.specs.GeneratedProgram.{instance_len, param_here, param_of, params_of, section_number}
use Rattle.stl_codegen.specs.Instruction.{return_last}
use Rattle.sem_kept.proofs.accepted.Accepted.{IsSoundBlock}
use Rattle.block_layout.proofs.CommonLemmas.{none_left, none_right, not_broken}
use Rattle.sem_kept.proofs.accepted.RecordNames.{width_good}

-- ---- what holds of each declaration of a list, with those before it

abbrev pub AllBefore : (List Declaration → Declaration → Type 0) → (before : List Declaration) → List Declaration → Type 0
AllBefore P before [] = Unit {0}
AllBefore P before (d ∷ ds) = P before d × AllBefore P (d ∷ before) ds

before_none : (breaks : List Declaration → Declaration → Bool) (rule : ℕ) (before ds : List Declaration)
    → refusals_along (λ d. false) (λ before d. broken_if (breaks before d) d.line rule) (λ before d. d ∷ before) before ds ≡ []
    → AllBefore (λ before d. breaks before d ≡ false) before ds
before_none breaks rule before [] e = tt
before_none breaks rule before (d ∷ ds) e =
    let more : List Refusal = refusals_along (λ d. false) (λ before d. broken_if (breaks before d) d.line rule) (λ before d. d ∷ before) (d ∷ before) ds in (
      not_broken (breaks before d) d.line rule (none_left (broken_if (breaks before d) d.line rule) more e),
      before_none breaks rule (d ∷ before) ds (none_right (broken_if (breaks before d) d.line rule) more e),
    )

before_both : (P Q : List Declaration → Declaration → Type 0) (before ds : List Declaration) → AllBefore P before ds
    → AllBefore Q before ds → AllBefore (λ before d. P before d × Q before d) before ds
before_both P Q before [] h k = tt
before_both P Q before (d ∷ ds) h k = ((h.0, k.0), before_both P Q (d ∷ before) ds h.1 k.1)

pub before_front : (P : List Declaration → Declaration → Type 0) (before ds es : List Declaration) → AllBefore P before (ds ++ es)
    → AllBefore P before ds
before_front P before [] es h = tt
before_front P before (d ∷ ds) es h = (h.0, before_front P (d ∷ before) ds es h.1)

pub before_rest : (P : List Declaration → Declaration → Type 0) (before ds es : List Declaration) → AllBefore P before (ds ++ es)
    → AllBefore P (declarations_before_next before ds) es
before_rest P before [] es h = h
before_rest P before (d ∷ ds) es h = before_rest P (d ∷ before) ds es h.1

-- its name is new, and its initial values fit
abbrev pub IsNew : Outside → List Declaration → Declaration → Type 0
IsNew o before d = (is_twice o before d ≡ false) × (not (init_fits d) ≡ false)

pub declarations_new : (b : Block) → refusals_in_block refusals_21 b ≡ [] → refusals_in_block refusals_41 b ≡ []
    → AllBefore (IsNew (of_sections b)) [] (section_declarations b)
declarations_new b h k =
    let o : Outside = of_sections b in
    before_both (λ before d. is_twice o before d ≡ false) (λ before d. not (init_fits d) ≡ false) [] (section_declarations b)
    (before_none (is_twice o) 21 [] (section_declarations b)
    (none_left (refusals_in_list (refusals_21 o) (section_declarations b)) (refusals_in_list (refusals_21 of_structure) b.components) h))
    (before_none (λ before d. not (init_fits d)) 41 [] (section_declarations b)
    (none_left (refusals_in_list (refusals_41 o) (section_declarations b)) (refusals_in_list (refusals_41 of_structure) b.components) k))

-- ---- names of cells

abbrev pub NotIn : List ℕ → List (List ℕ) → Type 0
NotIn n names = AllByRecursion (λ m. bytes_eq n m ≡ false) names

not_in : (n : List ℕ) (names : List (List ℕ)) → is_some (name_place n names) ≡ false → NotIn n names
not_in n [] e = tt
not_in n (m ∷ names) e = by (bytes_eq n m) (name_place n names) refl e (not_in n names)
  where
    by : (t : Bool) (o : Option ℕ) → bytes_eq n m ≡ t → is_some {T = ℕ} (cond t (Some 0) (option_map (λ k. suc k) o)) ≡ false
        → (is_some o ≡ false → NotIn n names) → NotIn n (m ∷ names)
    by true o is e more = absurd cc
    by false None is e more = (is, more refl)
    by false (Some k) is e more = absurd cc

-- the names of the outermost cells so far
abbrev pub seen_by : List (List ℕ) → Cell → List (List ℕ)
seen_by seen c = if nat_eq c.level 0 then c.name ∷ seen else seen

abbrev seen_after : List (List ℕ) → List Cell → List (List ℕ)
seen_after seen [] = seen
seen_after seen (c ∷ cs) = seen_after (seen_by seen c) cs

-- no outermost cell has the name of one before it
abbrev pub AreCellsOnce : List (List ℕ) → List Cell → Type 0
AreCellsOnce seen [] = Unit {0}
AreCellsOnce seen (c ∷ cs) = (nat_eq c.level 0 ≡ true → NotIn c.name seen) × AreCellsOnce (seen_by seen c) cs

once_append : (seen : List (List ℕ)) (xs ys : List Cell) → AreCellsOnce seen xs → AreCellsOnce (seen_after seen xs) ys → AreCellsOnce seen (xs ++ ys)
once_append seen [] ys h k = k
once_append seen (x ∷ xs) ys h k = (h.0, once_append (seen_by seen x) xs ys h.1 k)

once_opened : (seen : List (List ℕ)) (cs : List Cell) → AreCellsOnce seen cs → AreCellsOnce seen (with_first_cell_opening cs)
once_opened seen [] h = tt
once_opened seen (c ∷ cs) h = by c.sound (once_opened (seen_by seen c) cs h.1)
  where
    by : (t : Bool) → AreCellsOnce (seen_by seen c) (with_first_cell_opening cs) → AreCellsOnce seen (if t then record c { opens = true } ∷ cs else c ∷ with_first_cell_opening cs)
    by true more = h
    by false more = (h.0, more)

seen_opened : (seen : List (List ℕ)) (cs : List Cell) → seen_after seen (with_first_cell_opening cs) ≡ seen_after seen cs
seen_opened seen [] = refl
seen_opened seen (c ∷ cs) = by c.sound (seen_opened (seen_by seen c) cs)
  where
    by : (t : Bool) → seen_after (seen_by seen c) (with_first_cell_opening cs) ≡ seen_after (seen_by seen c) cs
        → seen_after seen (if t then record c { opens = true } ∷ cs else c ∷ with_first_cell_opening cs) ≡ seen_after (seen_by seen c) cs
    by true more = refl
    by false more = more

pub never_less : (n : ℕ) → nat_lt n 0 ≡ false
never_less n = grind (arith, nat_tests)

names_step : (outer : List (List ℕ)) (d : Declaration) (ds : List Declaration) → names_before outer 0 (d ∷ ds) ≡ names_before outer 0 ds ++ declaration_name_here 0 d
names_step outer d ds = let never = never_less d.level in rw never refl

-- the names before a declaration hold all that were seen
abbrev pub Covers : List (List ℕ) → List Declaration → List (List ℕ) → Type 0
Covers outer before seen = (n : List ℕ) → NotIn n (names_before outer 0 before) → NotIn n seen

covers_more : (outer : List (List ℕ)) (before : List Declaration) (seen : List (List ℕ)) (d : Declaration) (c : Cell)
    → c.name ≡ upper_case_name d.name → c.level ≡ d.level → Covers outer before seen → Covers outer (d ∷ before) (seen_by seen c)
covers_more outer before seen d c name level h n all =
    rw level (by (nat_eq d.level 0) (all_back (λ m. bytes_eq n m ≡ false) (names_before outer 0 before) (declaration_name_here 0 d) out))
  where
    out : NotIn n (names_before outer 0 before ++ declaration_name_here 0 d)
    out = subst (NotIn n) (names_step outer d before) all

    by : (t : Bool) → NotIn n (if t then upper_case_name d.name ∷ [] else []) → NotIn n (if t then c.name ∷ seen else seen)
    by true k = (ap (bytes_eq n) name ∙ k.0, h n (all_front (λ m. bytes_eq n m ≡ false) (names_before outer 0 before) (declaration_name_here 0 d) out))
    by false k = h n (all_front (λ m. bytes_eq n m ≡ false) (names_before outer 0 before) (declaration_name_here 0 d) out)

name_new : (o : Outside) (before : List Declaration) (d : Declaration) → is_twice o before d ≡ false → nat_eq d.level 0 ≡ true
    → NotIn (upper_case_name d.name) (names_before o.names 0 before)
name_new o before d h zero_level =
    let outer : d.level ≡ 0 = eqb-true d.level 0 zero_level in
    subst (λ (n : ℕ). NotIn (upper_case_name d.name) (names_before o.names n before)) outer (not_in (upper_case_name d.name) (names_before o.names d.level before) h)

cells_once : (y : Types) (o : Outside) (section : PartKind) (before ds : List Declaration) (seen : List (List ℕ)) → Covers o.names before seen
    → AllBefore (IsNew o) before ds → AreCellsOnce seen (cells_of y o section before ds)
unfolding cell_of
cells_once y o section before [] seen covers h = tt
cells_once y o section before (d ∷ ds) seen covers h =
    let c : Cell = cell_of y o section before d in (
      λ outer. covers (upper_case_name d.name) (name_new o before d h.0.0 outer),
      cells_once y o section (d ∷ before) ds (seen_by seen c) (covers_more o.names before seen d c refl refl covers) h.1,
    )

cells_covered : (y : Types) (o : Outside) (section : PartKind) (before ds : List Declaration) (seen : List (List ℕ)) → Covers o.names before seen
    → Covers o.names (declarations_before_next before ds) (seen_after seen (cells_of y o section before ds))
unfolding cell_of
cells_covered y o section before [] seen covers = covers
cells_covered y o section before (d ∷ ds) seen covers =
    let c : Cell = cell_of y o section before d in
    cells_covered y o section (d ∷ before) ds (seen_by seen c) (covers_more o.names before seen d c refl refl covers)

-- names that stand before cover also where a section is left out
names_more : (outer : List (List ℕ)) (before ds : List Declaration) (n : List ℕ) → NotIn n (names_before outer 0 (declarations_before_next before ds)) → NotIn n (names_before outer 0 before)
names_more outer before [] n h = h
names_more outer before (d ∷ ds) n h =
    all_front (λ m. bytes_eq n m ≡ false) (names_before outer 0 before) (declaration_name_here 0 d)
    (subst (NotIn n) (names_step outer d before) (names_more outer (d ∷ before) ds n h))

pub sections_once : (y : Types) (o : Outside) (wanted : PartKind → Bool) (before : List Declaration) (ps : List Part) (seen : List (List ℕ))
    → Covers o.names before seen → AllBefore (IsNew o) before (flat_map (λ p. p.items) ps) → AreCellsOnce seen (section_cells y o wanted before ps)
sections_once y o wanted before [] seen covers h = tt
sections_once y o wanted before (p ∷ ps) seen covers h =
    by (wanted p.kind)
    (sections_once y o wanted (declarations_before_next before p.items) ps (seen_after seen cells) (cells_covered y o p.kind before p.items seen covers) rest)
    (sections_once y o wanted (declarations_before_next before p.items) ps seen (λ n out. covers n (names_more o.names before p.items n out)) rest)
  where
    cells : List Cell
    cells = cells_of y o p.kind before p.items

    more : List Cell
    more = section_cells y o wanted (declarations_before_next before p.items) ps

    rest : AllBefore (IsNew o) (declarations_before_next before p.items) (flat_map (λ p. p.items) ps)
    rest = before_rest (IsNew o) before p.items (flat_map (λ p. p.items) ps) h

    by : (t : Bool) → AreCellsOnce (seen_after seen cells) more → AreCellsOnce seen more → AreCellsOnce seen ((if t then with_first_cell_opening cells else []) ++ more)
    by true there skipped =
        once_append seen (with_first_cell_opening cells) more
        (once_opened seen cells (cells_once y o p.kind before p.items seen covers (before_front (IsNew o) before p.items (flat_map (λ p. p.items) ps) h)))
        (subst (λ (z : List (List ℕ)). AreCellsOnce z more) (sym (seen_opened seen cells)) there)
    by false there skipped = skipped

-- ---- cells of parameters

-- a cell of a parameter stands outermost, is sound and no array
abbrev pub IsParameter : Cell → Type 0
IsParameter c = is_parameter c.section ≡ true → (c.level ≡ 0) × (c.sound ≡ true) × (c.bounds ≡ [])

pub none_around : (before : List Declaration) → structures_around 0 before ≡ []
none_around [] = refl
none_around (d ∷ ds) = let never = never_less d.level in rw never (none_around ds)

-- an elementary declaration
pub record IsElementaryDeclaration (d : Declaration) : Type 0 where
  pub arrays : d.of.arrays ≡ []
  pub kind : Simple
  pub of : d.of.of ≡ type.Plain kind

pub elementary : (d : Declaration) → is_elementary d ≡ true → IsElementaryDeclaration d
elementary d h = by d.of.arrays d.of.of refl refl h
  where
    by : (arrays : List Bounds) (of : ElementType) → d.of.arrays ≡ arrays → d.of.of ≡ of → is_elementary_type arrays of ≡ true → IsElementaryDeclaration d
    by [] (type.Plain k) e f h = record { arrays = e; kind = k; of = f }
    by [] type.Structure e f h = absurd cc
    by [] type.DateAndTime e f h = absurd cc
    by [] (type.Udt name) e f h = absurd cc
    by (b ∷ bs) of e f h = absurd cc

pub outer_levels : (k : BlockKind) (p : PartKind) (ds : List Declaration) → is_parameter p ≡ true → IsOutline 0 ds → AreDeclaredIn k p ds
    → AllByRecursion (λ d. (d.level ≡ 0) × IsElementaryDeclaration d) ds
outer_levels k p [] h outline all = tt
outer_levels k p (d ∷ ds) h outline all =
    let e = elementary d (all.0.2 h) in
    let level : d.level ≡ 0 = omega (arith, outline.0) in
    let next : level_behind d.level d.of.of ≡ 0 = ap (level_behind d.level) e.of ∙ level in
    ((level, e), outer_levels k p ds h (subst (λ (n : ℕ). IsOutline n ds) next outline.1) all.1)

pub parameter_sound : (y : Types) (o : Outside) (before : List Declaration) (d : Declaration) → o.depth ≡ 0 → d.level ≡ 0 → IsElementaryDeclaration d → IsNew o before d
    → is_sound y o before d ≡ true
parameter_sound y o before d shallow level e new =
    let arrays = e.arrays in
    let of = e.of in
    let none = none_around before in
    let twice = new.0 in
    let fits = new.1 in
    rw twice (rw fits (rw level (rw arrays (rw of (rw none (rw shallow refl))))))

parameter_cells : (y : Types) (o : Outside) (section : PartKind) (before ds : List Declaration) → o.depth ≡ 0
    → (is_parameter section ≡ true → AllByRecursion (λ d. (d.level ≡ 0) × IsElementaryDeclaration d) ds) → AllBefore (IsNew o) before ds
    → AllByRecursion IsParameter (cells_of y o section before ds)
unfolding cell_of
parameter_cells y o section before [] shallow h new = tt
parameter_cells y o section before (d ∷ ds) shallow h new = (
  λ is. ((h is).0.0, parameter_sound y o before d shallow (h is).0.0 (h is).0.1 new.0, (h is).0.1.arrays),
  parameter_cells y o section (d ∷ before) ds shallow (λ is. (h is).1) new.1,
)

parameters_opened : (cs : List Cell) → AllByRecursion IsParameter cs → AllByRecursion IsParameter (with_first_cell_opening cs)
parameters_opened [] h = tt
parameters_opened (c ∷ cs) h = by c.sound (parameters_opened cs h.1)
  where
    by : (t : Bool) → AllByRecursion IsParameter (with_first_cell_opening cs) → AllByRecursion IsParameter (if t then record c { opens = true } ∷ cs else c ∷ with_first_cell_opening cs)
    by true more = h
    by false more = (h.0, more)

parameter_sections : (y : Types) (k : BlockKind) (o : Outside) (wanted : PartKind → Bool) (before : List Declaration) (ps : List Part) → o.depth ≡ 0
    → AllByRecursion (IsSection k) ps → AllBefore (IsNew o) before (flat_map (λ p. p.items) ps)
    → AllByRecursion IsParameter (section_cells y o wanted before ps)
parameter_sections y k o wanted before [] shallow h new = tt
parameter_sections y k o wanted before (p ∷ ps) shallow h new =
    by (wanted p.kind) (parameter_sections y k o wanted (declarations_before_next before p.items) ps shallow h.1 (before_rest (IsNew o) before p.items (flat_map (λ p. p.items) ps) new))
  where
    cells : List Cell
    cells = cells_of y o p.kind before p.items

    more : List Cell
    more = section_cells y o wanted (declarations_before_next before p.items) ps

    by : (t : Bool) → AllByRecursion IsParameter more → AllByRecursion IsParameter ((if t then with_first_cell_opening cells else []) ++ more)
    by true there =
        all_append IsParameter (with_first_cell_opening cells) more
        (parameters_opened cells (parameter_cells y o p.kind before p.items shallow (λ is. outer_levels k p.kind p.items is h.0.1 h.0.2)
        (before_front (IsNew o) before p.items (flat_map (λ p. p.items) ps) new)))
        there
    by false there = there

-- ---- where they lie

up_behind : (c : Cell) (at : ℕ) → at ≤ next_multiple at (alignment c)
unfolding next_multiple
up_behind c at = by c.opens (nat_eq (length c.bounds) 0) (least c.of)
  where
    least : (e : Element) → at ≤ (at + (element_alignment e - 1)) / element_alignment e * element_alignment e
    least (element.Plain simple.Bool) = omega arith
    least (element.Plain simple.Byte) = omega arith
    least (element.Plain simple.Char) = omega arith
    least (element.Plain simple.Word) = omega arith
    least (element.Plain simple.Int) = omega arith
    least (element.Plain simple.S5time) = omega arith
    least (element.Plain simple.Dword) = omega arith
    least (element.Plain simple.Dint) = omega arith
    least (element.Plain simple.Time) = omega arith
    least element.Structure = omega arith
    least element.DateAndTime = omega arith
    least (element.Udt block bits) = omega arith
    least element.Unknown = omega arith

    by : (opens single : Bool) → at ≤ (at + (element_alignment c.of - 1)) / element_alignment c.of * element_alignment c.of
        → at ≤ (at + ((if opens then 16 else if single then element_alignment c.of else 16) - 1)) / (if opens then 16 else if single then element_alignment c.of else 16)
        * (if opens then 16 else if single then element_alignment c.of else 16)
    by true single h = omega arith
    by false true h = h
    by false false h = omega arith

pub past_behind : (at : ℕ) (c : Cell) (bits : ℕ) → at ≤ largest_size → (at ≤ end_behind_cell 0 at c bits) × (end_behind_cell 0 at c bits ≤ largest_size)
past_behind at c bits near = by (nat_eq c.level 0) c.sound
  where
    by : (outer sound : Bool) → (at ≤ (if outer then (if sound then capped_size (next_multiple at (alignment c) + bits) else at) else at))
        × ((if outer then (if sound then capped_size (next_multiple at (alignment c) + bits) else at) else at) ≤ largest_size)
    by true true = let behind = up_behind c at in (omega (arith, near, behind), omega arith)
    by true false = (omega arith, near)
    by false sound = (omega arith, near)

pub end_step : (at : ℕ) (c : Cell) (cs : List Cell) → components_end 0 at (c ∷ cs) ≡ components_end 0 (end_behind_cell 0 at c (cell_bits c cs)) cs
unfolding components_end element_of
end_step at c cs = let never = never_less c.level in rw never refl

pub end_behind : (at : ℕ) (cs : List Cell) → at ≤ largest_size → at ≤ components_end 0 at cs
unfolding components_end
end_behind at [] near = omega arith
end_behind at (c ∷ cs) near =
    let step = past_behind at c (cell_bits c cs) near in
    let more = end_behind (end_behind_cell 0 at c (cell_bits c cs)) cs step.1 in
    let same = end_step at c cs in
    omega (arith, step.0, more, same)

-- a parameter of this kind lies before the end, by its bytes
placed_fits : (k : Simple) (opens : Bool) (at end len : ℕ) → end ≤ 8 * len
    → next_multiple at (if opens then 16 else min (plain_bits k) 16) + plain_bits k ≤ end
    → next_multiple at (if opens then 16 else min (plain_bits k) 16) / 8 + byte_count (width_of k) ≤ len
unfolding next_multiple
placed_fits simple.Bool true at end len fits h = omega (arith, fits, h)
placed_fits simple.Bool false at end len fits h = omega (arith, fits, h)
placed_fits simple.Byte true at end len fits h = omega (arith, fits, h)
placed_fits simple.Byte false at end len fits h = omega (arith, fits, h)
placed_fits simple.Char true at end len fits h = omega (arith, fits, h)
placed_fits simple.Char false at end len fits h = omega (arith, fits, h)
placed_fits simple.Word true at end len fits h = omega (arith, fits, h)
placed_fits simple.Word false at end len fits h = omega (arith, fits, h)
placed_fits simple.Int true at end len fits h = omega (arith, fits, h)
placed_fits simple.Int false at end len fits h = omega (arith, fits, h)
placed_fits simple.S5time true at end len fits h = omega (arith, fits, h)
placed_fits simple.S5time false at end len fits h = omega (arith, fits, h)
placed_fits simple.Dword true at end len fits h = omega (arith, fits, h)
placed_fits simple.Dword false at end len fits h = omega (arith, fits, h)
placed_fits simple.Dint true at end len fits h = omega (arith, fits, h)
placed_fits simple.Dint false at end len fits h = omega (arith, fits, h)
placed_fits simple.Time true at end len fits h = omega (arith, fits, h)
placed_fits simple.Time false at end len fits h = omega (arith, fits, h)

-- what a name finds among the outermost cells of a structure that ends here
abbrev IsPlacedIn : (look : List ℕ → Option Member) → (len : ℕ) → Cell → Type 0
IsPlacedIn look len c =
    is_parameter c.section ≡ true → (k : Simple) → c.of ≡ element.Plain k
    → offset_of_member (look c.name) / 8 + byte_count (width_of k) ≤ len

pub same_bytes : (n : List ℕ) → bytes_eq n n ≡ true
same_bytes [] = refl
same_bytes (x ∷ n) = and_from _ _ (eq-eqb x x refl) (same_bytes n)

pub passed_by : (at place : ℕ) (n : List ℕ) (c : Cell) (cs : List Cell) → (nat_eq c.level 0 && bytes_eq n c.name) ≡ false
    → component_of_name 0 at place n (c ∷ cs) ≡ component_of_name 0 (end_behind_cell 0 at c (cell_bits c cs)) (place + 1) n cs
unfolding component_of_name
passed_by at place n c cs other = let never = never_less c.level in rw never (rw other refl)

pub found_here : (at place : ℕ) (c : Cell) (cs : List Cell) → c.level ≡ 0
    → component_of_name 0 at place c.name (c ∷ cs) ≡ Some (record { place = place; offset = next_multiple at (alignment c) })
unfolding component_of_name
found_here at place c cs outer = rw outer (rw (same_bytes c.name) refl)

pub not_both : (a b : Bool) → (a ≡ true → b ≡ false) → (a && b) ≡ false
not_both true b h = h refl
not_both false b h = refl

plain_sized : (c : Cell) (cs : List Cell) (k : Simple) → c.bounds ≡ [] → c.of ≡ element.Plain k → cell_bits c cs ≡ plain_bits k
unfolding element_of
plain_sized c cs k bounds of = rw bounds (rw of refl)

pub parameters_placed : (look : List ℕ → Option Member) (len at place : ℕ) (seen : List (List ℕ)) (cs : List Cell)
    → at ≤ largest_size → components_end 0 at cs < largest_size → components_end 0 at cs ≤ 8 * len
    → ((n : List ℕ) → NotIn n seen → look n ≡ component_of_name 0 at place n cs) → AreCellsOnce seen cs → AllByRecursion IsParameter cs
    → AllByRecursion (IsPlacedIn look len) cs
parameters_placed look len at place seen [] near below fits finds once are = tt
parameters_placed look len at place seen (c ∷ cs) near below fits finds once are = (
  here,
  parameters_placed look len next (place + 1) (seen_by seen c) cs step.1 (subst (λ (n : ℕ). n < largest_size) same below)
      (subst (λ (n : ℕ). n ≤ 8 * len) same fits) later once.1 are.1,
)
  where
    next : ℕ
    next = end_behind_cell 0 at c (cell_bits c cs)

    step : (at ≤ next) × (next ≤ largest_size)
    step = past_behind at c (cell_bits c cs) near

    same : components_end 0 at (c ∷ cs) ≡ components_end 0 next cs
    same = end_step at c cs

    later : (n : List ℕ) → NotIn n (seen_by seen c) → look n ≡ component_of_name 0 next (place + 1) n cs
    later n out = by (nat_eq c.level 0) refl out
      where
        by : (t : Bool) → nat_eq c.level 0 ≡ t → NotIn n (if t then c.name ∷ seen else seen) → look n ≡ component_of_name 0 next (place + 1) n cs
        by true e out = finds n out.1 ∙ passed_by at place n c cs (not_both (nat_eq c.level 0) (bytes_eq n c.name) (λ is. out.0))
        by false e out = finds n out ∙ passed_by at place n c cs (not_both (nat_eq c.level 0) (bytes_eq n c.name) (λ is. absurd cc))

    here : IsPlacedIn look len c
    here is k of =
        let is_parameter_cell = are.0 is in
        let level = is_parameter_cell.0 in
        let found : look c.name ≡ Some (record { place = place; offset = next_multiple at (alignment c) }) =
        finds c.name (once.0 (eq-eqb c.level 0 level)) ∙ found_here at place c cs level in
        let offset : offset_of_member (look c.name) ≡ next_multiple at (alignment c) = ap offset_of_member found in
        let align : alignment c ≡ (if c.opens then 16 else min (plain_bits k) 16) = aligned is_parameter_cell.2 of in
        let bits : cell_bits c cs ≡ plain_bits k = sized is_parameter_cell.2 of in
        let past_it : next ≡ capped_size (next_multiple at (alignment c) + cell_bits c cs) = stepped_past level is_parameter_cell.1 in
        let ends = end_behind next cs step.1 in
        let within : next_multiple at (alignment c) + plain_bits k ≤ components_end 0 at (c ∷ cs) = omega (arith, past_it, bits, ends, same, below) in
        subst (λ (o : ℕ). o / 8 + byte_count (width_of k) ≤ len) (sym (offset ∙ ap (next_multiple at) align))
        (placed_fits k c.opens at (components_end 0 at (c ∷ cs)) len fits (subst (λ (a : ℕ). next_multiple at a + plain_bits k ≤ components_end 0 at (c ∷ cs)) align within))
      where
        aligned : c.bounds ≡ [] → c.of ≡ element.Plain k → alignment c ≡ (if c.opens then 16 else min (plain_bits k) 16)
        aligned bounds of = rw bounds (rw of refl)

        sized : c.bounds ≡ [] → c.of ≡ element.Plain k → cell_bits c cs ≡ plain_bits k
        sized bounds of = plain_sized c cs k bounds of

        stepped_past : c.level ≡ 0 → c.sound ≡ true → next ≡ capped_size (next_multiple at (alignment c) + cell_bits c cs)
        stepped_past level sound = rw level (rw sound refl)

-- ---- how many there are

abbrev one_if : Bool → ℕ
one_if t = if t then 1 else 0

abbrev parameter_cells_of : List Cell → ℕ
parameter_cells_of cs = count_by (λ c. is_parameter c.section) cs

one_here : (in_instance : Bool) (all : List Cell) (c : Cell) → length (param_here in_instance all c) ≤ (if is_parameter c.section then 1 else 0)
one_here in_instance all c = by (is_parameter c.section) (one c.of)
  where
    one : (e : Element) → length (param_of in_instance all c e) ≤ 1
    one (element.Plain k) = omega arith
    one element.Structure = omega arith
    one element.DateAndTime = omega arith
    one (element.Udt block bits) = omega arith
    one element.Unknown = omega arith

    by : (t : Bool) → length (param_of in_instance all c c.of) ≤ 1 → length (if t then param_of in_instance all c c.of else []) ≤ (if t then 1 else 0)
    by true h = h
    by false h = omega arith

params_few : (in_instance : Bool) (all cs : List Cell) → length (flat_map (λ c. param_here in_instance all c) cs) ≤ parameter_cells_of cs
params_few in_instance all [] = omega arith
params_few in_instance all (c ∷ cs) =
    let here = one_here in_instance all c in
    let more = params_few in_instance all cs in
    let both = length-append (param_here in_instance all c) (flat_map (λ c. param_here in_instance all c) cs) in
    let count : parameter_cells_of (c ∷ cs) ≡ (if is_parameter c.section then 1 else 0) + parameter_cells_of cs = sum_by-cons (λ (x : Cell). if is_parameter x.section then 1 else 0) c cs in
    omega (arith, here, more, both, count)

count_append : (xs ys : List Cell) → parameter_cells_of (xs ++ ys) ≡ parameter_cells_of xs + parameter_cells_of ys
count_append xs ys = sum_by-append (λ (x : Cell). if is_parameter x.section then 1 else 0) xs ys

count_opened : (cs : List Cell) → parameter_cells_of (with_first_cell_opening cs) ≡ parameter_cells_of cs
count_opened [] = refl
count_opened (c ∷ cs) = by c.sound (count_opened cs)
  where
    count : (d : Cell) (ds : List Cell) → parameter_cells_of (d ∷ ds) ≡ (if is_parameter d.section then 1 else 0) + parameter_cells_of ds
    count d ds = sum_by-cons (λ (x : Cell). if is_parameter x.section then 1 else 0) d ds

    by : (t : Bool) → parameter_cells_of (with_first_cell_opening cs) ≡ parameter_cells_of cs
        → parameter_cells_of (if t then record c { opens = true } ∷ cs else c ∷ with_first_cell_opening cs) ≡ parameter_cells_of (c ∷ cs)
    by true more = count (record c { opens = true }) cs ∙ sym (count c cs)
    by false more = count c (with_first_cell_opening cs) ∙ ap (λ (n : ℕ). (if is_parameter c.section then 1 else 0) + n) more ∙ sym (count c cs)

no_parameters : (y : Types) (o : Outside) (section : PartKind) (before ds : List Declaration) → is_parameter section ≡ false
    → parameter_cells_of (cells_of y o section before ds) ≡ 0
unfolding cell_of
no_parameters y o section before [] h = refl
no_parameters y o section before (d ∷ ds) h =
    let more = no_parameters y o section (d ∷ before) ds h in
    let none : one_if (is_parameter section) ≡ 0 = ap one_if h in
    let count = sum_by-cons (λ (x : Cell). if is_parameter x.section then 1 else 0) (cell_of y o section before d) (cells_of y o section (d ∷ before) ds) in
    omega (arith, more, none, count)

some_parameters : (y : Types) (o : Outside) (section : PartKind) (before ds : List Declaration)
    → AllByRecursion (λ d. (d.level ≡ 0) × IsElementaryDeclaration d) ds
    → parameter_cells_of (cells_of y o section before ds) ≤ count_by (λ d. nat_eq d.level 0) ds
unfolding cell_of
some_parameters y o section before [] h = omega arith
some_parameters y o section before (d ∷ ds) h =
    let more = some_parameters y o section (d ∷ before) ds h.1 in
    let few = at_most_one (is_parameter section) in
    let one : one_if (nat_eq d.level 0) ≡ 1 = ap one_if (eq-eqb d.level 0 h.0.0) in
    let count = sum_by-cons (λ (x : Cell). if is_parameter x.section then 1 else 0) (cell_of y o section before d) (cells_of y o section (d ∷ before) ds) in
    let outer = sum_by-cons (λ (x : Declaration). if nat_eq x.level 0 then 1 else 0) d ds in
    omega (arith, more, few, one, count, outer)
  where
    at_most_one : (t : Bool) → (if t then 1 else 0) ≤ 1
    at_most_one true = omega arith
    at_most_one false = omega arith

sections_count : (y : Types) (k : BlockKind) (o : Outside) (wanted : PartKind → Bool) (before : List Declaration) (ps : List Part)
    → AllByRecursion (IsSection k) ps → parameter_cells_of (section_cells y o wanted before ps) ≤ sum_by parameters_in_section ps
sections_count y k o wanted before [] h = omega arith
sections_count y k o wanted before (p ∷ ps) h = by (wanted p.kind) (sections_count y k o wanted (declarations_before_next before p.items) ps h.1)
  where
    cells : List Cell
    cells = cells_of y o p.kind before p.items

    more : List Cell
    more = section_cells y o wanted (declarations_before_next before p.items) ps

    here : (t : Bool) → is_parameter p.kind ≡ t → parameter_cells_of cells ≤ (if t then count_by (λ d. nat_eq d.level 0) p.items else 0)
    here true is = some_parameters y o p.kind before p.items (outer_levels k p.kind p.items is h.0.1 h.0.2)
    here false is = let none = no_parameters y o p.kind before p.items is in omega (arith, none)

    by : (t : Bool) → parameter_cells_of more ≤ sum_by parameters_in_section ps → parameter_cells_of ((if t then with_first_cell_opening cells else []) ++ more) ≤ sum_by parameters_in_section (p ∷ ps)
    by true less =
        let both = count_append (with_first_cell_opening cells) more in
        let same = count_opened cells in
        let one = here (is_parameter p.kind) refl in
        let all = sum_by-cons parameters_in_section p ps in
        omega (arith, less, both, same, one, all)
    by false less = let all = sum_by-cons parameters_in_section p ps in omega (arith, less, all)

all_count : (y : Types) (b : Block) → AllByRecursion (IsSection b.kind) b.parts → parameter_cells_of (components_of y b) ≤ parameter_count b
all_count y b h =
    let o : Outside = of_sections b in
    let first = returned_cells b.result in
    let sections = section_cells y o (λ k. not (is_temp k)) [] b.parts in
    let inner = cells_of y of_structure part.Static [] b.components in
    let outer = count_append (first ++ sections) inner in
    let front = count_append first sections in
    let none = no_parameters y of_structure part.Static [] b.components refl in
    let some = sections_count y b.kind o (λ k. not (is_temp k)) [] b.parts h in
    let one = returned_count b.result in
    omega (arith, outer, front, none, some, one)
  where
    returned_count : (r : Option Simple) → parameter_cells_of (returned_cells r) ≤ return_value_count r
    returned_count None = omega arith
    returned_count (Some k) = omega arith

-- ---- the fields of a record

record IsGoodParam (kind instance : ℕ) (p : Param) : Type 0 where
  low : section_in ≤ p.section
  high : p.section ≤ section_in_out
  near : p.byte < 65536
  byte : (if eqb kind (kind_number kinds.Fb) then leb (p.byte + byte_count p.width) instance else eqb p.byte 0) ≡ true
  bit : p.bit ≤ 7
  whole : (eqb kind (kind_number kinds.Fb) || eqb p.bit 0) ≡ true

section_good : (n : ℕ) → section_in ≤ n → n ≤ section_in_out → section_field.good n ≡ true
unfolding section_field field_fault
section_good n low high = grind (arith, nat_tests)

byte_good : (kind instance : ℕ) (w : Width) (byte : ℕ) → byte < 65536
    → (if eqb kind (kind_number kinds.Fb) then leb (byte + byte_count w) instance else eqb byte 0) ≡ true
    → (parameter_byte kind instance (width_number w)).good byte ≡ true
unfolding parameter_byte field_fault
byte_good kind instance width.Bit byte near h = and_from _ _ (lt-ltb byte 65536 near) (rw h refl)
byte_good kind instance width.Byte byte near h = and_from _ _ (lt-ltb byte 65536 near) (rw h refl)
byte_good kind instance width.Word byte near h = and_from _ _ (lt-ltb byte 65536 near) (rw h refl)
byte_good kind instance width.Dword byte near h = and_from _ _ (lt-ltb byte 65536 near) (rw h refl)

bit_good : (kind bit : ℕ) → bit ≤ 7 → (eqb kind (kind_number kinds.Fb) || eqb bit 0) ≡ true → (parameter_bit kind).good bit ≡ true
unfolding parameter_bit field_fault
bit_good kind bit few whole = grind (arith, nat_tests)

param_good : (kind instance : ℕ) (p : Param) → IsGoodParam kind instance p → (parameter_layout kind instance).good (record_of_param p) ≡ true
unfolding parameter_layout parameter_rows
param_good kind instance p h =
    and_from _ _ (section_good p.section h.low h.high)
    (and_from _ _ (width_good p.width)
    (and_from _ _ (byte_good kind instance p.width p.byte h.near h.byte)
    (and_from _ _ (bit_good kind p.bit h.bit h.whole) zero_byte_good)))

all_good_params : (kind instance : ℕ) (ps : List Param) → AllByRecursion (IsGoodParam kind instance) ps → good_params kind instance ps ≡ true
all_good_params kind instance [] h = refl
all_good_params kind instance (p ∷ ps) h = and_from _ _ (param_good kind instance p h.0) (all_good_params kind instance ps h.1)

-- ---- from cells to parameters

section_low : (p : PartKind) → (section_in ≤ section_number p) × (section_number p ≤ section_in_out)
section_low part.Input = (omega arith, omega arith)
section_low part.Output = (omega arith, omega arith)
section_low part.InOut = (omega arith, omega arith)
section_low part.Static = (omega arith, omega arith)
section_low part.Temp = (omega arith, omega arith)

bit_low : (n : ℕ) → n % 8 ≤ 7
bit_low n = omega arith

-- of no function block
plain_param : (kind instance : ℕ) (all : List Cell) (c : Cell) → eqb kind (kind_number kinds.Fb) ≡ false → AllByRecursion (IsGoodParam kind instance) (param_here false all c)
plain_param kind instance all c other = by (is_parameter c.section) (one c.of)
  where
    one : (e : Element) → AllByRecursion (IsGoodParam kind instance) (param_of false all c e)
    one (element.Plain k) = (
      record {
        low = (section_low c.section).0;
        high = (section_low c.section).1;
        near = omega arith;
        byte = rw other refl;
        bit = omega arith;
        whole = rw other refl;
      },
      tt,
    )
    one element.Structure = tt
    one element.DateAndTime = tt
    one (element.Udt block bits) = tt
    one element.Unknown = tt

    by : (t : Bool) → AllByRecursion (IsGoodParam kind instance) (param_of false all c c.of)
        → AllByRecursion (IsGoodParam kind instance) (if t then param_of false all c c.of else [])
    by true h = h
    by false h = tt

plain_params : (kind instance : ℕ) (all cs : List Cell) → eqb kind (kind_number kinds.Fb) ≡ false → AllByRecursion (IsGoodParam kind instance) (flat_map (λ c. param_here false all c) cs)
plain_params kind instance all [] other = tt
plain_params kind instance all (c ∷ cs) other =
    all_append (IsGoodParam kind instance) (param_here false all c) (flat_map (λ c. param_here false all c) cs)
    (plain_param kind instance all c other) (plain_params kind instance all cs other)

-- of a function block
abbrev look_in : List Cell → List ℕ → Option Member
look_in all name = component_of_name 0 0 0 name all

placed_param : (instance : ℕ) (all : List Cell) (c : Cell) → instance ≤ 16384 → IsPlacedIn (look_in all) instance c
    → AllByRecursion (IsGoodParam (kind_number kinds.Fb) instance) (param_here true all c)
placed_param instance all c short placed = by (is_parameter c.section) refl
  where
    one : (e : Element) → c.of ≡ e → is_parameter c.section ≡ true → AllByRecursion (IsGoodParam (kind_number kinds.Fb) instance) (param_of true all c e)
    one (element.Plain k) of is =
        let within = placed is k of in (
          record {
            low = (section_low c.section).0;
            high = (section_low c.section).1;
            near = omega (arith, within, short);
            byte = le-leb _ instance within;
            bit = bit_low (offset_of_member (look_in all c.name));
            whole = refl;
          },
          tt,
        )
    one element.Structure of is = tt
    one element.DateAndTime of is = tt
    one (element.Udt block bits) of is = tt
    one element.Unknown of is = tt

    by : (t : Bool) → is_parameter c.section ≡ t → AllByRecursion (IsGoodParam (kind_number kinds.Fb) instance) (if t then param_of true all c c.of else [])
    by true is = one c.of refl is
    by false is = tt

placed_params : (instance : ℕ) (all cs : List Cell) → instance ≤ 16384 → AllByRecursion (IsPlacedIn (look_in all) instance) cs
    → AllByRecursion (IsGoodParam (kind_number kinds.Fb) instance) (flat_map (λ c. param_here true all c) cs)
placed_params instance all [] short placed = tt
placed_params instance all (c ∷ cs) short placed =
    all_append (IsGoodParam (kind_number kinds.Fb) instance) (param_here true all c) (flat_map (λ c. param_here true all c) cs)
    (placed_param instance all c short placed.0) (placed_params instance all cs short placed.1)

-- ---- the order in an image

all_in_return_order : {A : Type 0} (P : A → Type 0) (r : Option Simple) (xs : List A) → AllByRecursion P xs → AllByRecursion P (return_last r xs)
all_in_return_order P None xs h = h
all_in_return_order P (Some k) [] h = tt
all_in_return_order P (Some k) (x ∷ xs) h = all_append P xs (x ∷ []) h.1 (h.0, tt)

reordered_length : {A : Type 0} (r : Option Simple) (xs : List A) → length (return_last r xs) ≡ length xs
reordered_length None xs = refl
reordered_length (Some k) [] = refl
reordered_length (Some k) (x ∷ xs) = length-append xs (x ∷ []) ∙ omega arith

-- ---- the parameters of a block

-- all that the record of a block says of them
pub record HasParams (kind instance : ℕ) (ps : List Param) : Type 0 where
  pub few : length ps ≤ 60
  pub good : good_params kind instance ps ≡ true
  pub none : kind ≡ kind_number kinds.Ob → ps ≡ []

pub structure_end : (cells : List Cell) → structure_bits cells / 8 ≤ 16384
    → (components_end 0 0 cells < largest_size) × (components_end 0 0 cells ≤ 8 * (structure_bits cells / 8))
unfolding structure_bits next_multiple
structure_end cells short = (omega (arith, short), omega (arith, short))

few_params : (y : Types) (b : Block) (l : BlockLayout) → l.components ≡ components_of y b → AllByRecursion (IsSection b.kind) b.parts
    → has_too_many_parameters b ≡ false → length (params_of b l) ≤ 60
unfolding params_of
few_params y b l are sections h =
    let all = flat_map (λ c. param_here (is_function_block b.kind) l.components c) l.components in
    let few = params_few (is_function_block b.kind) l.components l.components in
    let same = reordered_length b.result all in
    let cells = ap parameter_cells_of are in
    let count = all_count y b sections in
    let most : parameter_count b ≤ 60 = ltb-false 60 (parameter_count b) h in
    omega (arith, few, same, cells, count, most)

-- those of an organization block
no_sections : (y : Types) (o : Outside) (before : List Declaration) (ps : List Part) → AllByRecursion (IsSection kinds.Ob) ps
    → section_cells y o (λ k. not (is_temp k)) before ps ≡ []
unfolding may_have_section
no_sections y o before [] h = refl
no_sections y o before (p ∷ ps) h = by p.kind h.0.0 (no_sections y o (declarations_before_next before p.items) ps h.1)
  where
    more : List Cell
    more = section_cells y o (λ k. not (is_temp k)) (declarations_before_next before p.items) ps

    by : (k : PartKind) → may_have_section kinds.Ob k ≡ true → more ≡ [] → (if not (is_temp k) then with_first_cell_opening (cells_of y o k before p.items) else []) ++ more ≡ []
    by part.Input is none = absurd cc
    by part.Output is none = absurd cc
    by part.InOut is none = absurd cc
    by part.Static is none = absurd cc
    by part.Temp is none = none

pub bare_components : (y : Types) (b : Block) → b.result ≡ None → b.components ≡ []
    → components_of y b ≡ section_cells y (of_sections b) (λ k. not (is_temp k)) [] b.parts
bare_components y b result none =
    ap (λ (r : Option Simple). returned_cells r ++ sections ++ cells_of y of_structure part.Static [] b.components) result
    ∙ ap (λ (ds : List Declaration). sections ++ cells_of y of_structure part.Static [] ds) none
    ∙ append-nil sections
  where
    sections : List Cell
    sections = section_cells y (of_sections b) (λ k. not (is_temp k)) [] b.parts

no_params : (y : Types) (b : Block) (l : BlockLayout) → l.components ≡ components_of y b → b.kind ≡ kinds.Ob → IsBlock b → params_of b l ≡ []
unfolding params_of
no_params y b l are kind formed =
    let result : b.result ≡ None = subst (λ (k : BlockKind). MayReturn k b.result) kind formed.returns in
    let shaped = subst (λ (k : BlockKind). IsShapeOf k b.shape b.instance_of b.components) kind formed.shaped in
    let sections = subst (λ (k : BlockKind). AllByRecursion (IsSection k) b.parts) kind formed.sections.1 in
    let none : l.components ≡ [] = are ∙ bare_components y b result shaped.2 ∙ no_sections y (of_sections b) [] b.parts sections in
    ap (λ (cs : List Cell). return_last b.result (flat_map (λ c. param_here (is_function_block b.kind) cs c) cs)) none
    ∙ ap (λ (r : Option Simple). return_last r []) result

-- and those of a function block
instance_params : (symbols : List Symbol) (t : Tree) (k : ℕ) (b : Block) (l : BlockLayout) → IsSoundBlock symbols t k b l → b.kind ≡ kinds.Fb
    → AllByRecursion (IsGoodParam (kind_number kinds.Fb) l.length) (params_of b l)
unfolding params_of block_layout length_of_block
instance_params symbols t k b l h kind =
    let y : Types = types_of_source symbols t.blocks in
    let result : b.result ≡ None = subst (λ (k : BlockKind). MayReturn k b.result) kind h.well_formed.returns in
    let shaped = subst (λ (k : BlockKind). IsShapeOf k b.shape b.instance_of b.components) kind h.well_formed.shaped in
    let sections = subst (λ (k : BlockKind). AllByRecursion (IsSection k) b.parts) kind h.well_formed.sections.1 in
    let cells : List Cell = section_cells y (of_sections b) (λ k. not (is_temp k)) [] b.parts in
    let own : components_of y b ≡ cells = bare_components y b result shaped.2 in
    let are : l.components ≡ cells = ap (λ (x : BlockLayout). x.components) h.layout ∙ own in
    let len : l.length ≡ structure_bits cells / 8 =
    ap (λ (x : BlockLayout). x.length) h.layout ∙ structure_len y t.blocks b kind shaped.0 shaped.1 ∙ ap (λ (cs : List Cell). structure_bits cs / 8) own in
    let short : l.length ≤ 16384 = subst (λ (n : ℕ). n ≤ 16384) (ap (λ (x : BlockLayout). x.length) (sym h.layout)) (ltb-false 16384 (length_of_block y t.blocks b) h.head.by_51) in
    let new = declarations_new b h.declarations.by_21 h.declarations.by_41 in
    let covers : Covers (returned_names b.result) [] [] = λ n out. tt in
    let once = sections_once y (of_sections b) (λ k. not (is_temp k)) [] b.parts [] covers new in
    let all = parameter_sections y kinds.Fb (of_sections b) (λ k. not (is_temp k)) [] b.parts refl sections new in
    let end = structure_end cells (subst (λ (n : ℕ). n ≤ 16384) len short) in
    let placed = parameters_placed (look_in cells) (structure_bits cells / 8) 0 0 [] cells (omega arith) end.0 end.1 (λ n out. refl) once all in
    let instance = is_instance kind in
    subst (λ (t : Bool). AllByRecursion (IsGoodParam (kind_number kinds.Fb) l.length) (return_last b.result (flat_map (λ c. param_here t l.components c) l.components))) (sym instance)
    (all_in_return_order (IsGoodParam (kind_number kinds.Fb) l.length) b.result (flat_map (λ c. param_here true l.components c) l.components)
    (subst (λ (cs : List Cell). AllByRecursion (IsGoodParam (kind_number kinds.Fb) l.length) (flat_map (λ c. param_here true cs c) cs)) (sym are)
    (subst (λ (n : ℕ). AllByRecursion (IsGoodParam (kind_number kinds.Fb) n) (flat_map (λ c. param_here true cells c) cells)) (sym len)
    (placed_params (structure_bits cells / 8) cells cells (subst (λ (n : ℕ). n ≤ 16384) len short) placed))))
  where
    is_instance : b.kind ≡ kinds.Fb → is_function_block b.kind ≡ true
    is_instance e = ap is_function_block e

    structure_len : (y : Types) (blocks : List Block) (b : Block) → b.kind ≡ kinds.Fb → b.shape ≡ None → b.instance_of ≡ None
        → length_of_block y blocks b ≡ structure_bits (components_of y b) / 8
    structure_len y blocks b kind shape instance = rw kind (rw shape (rw instance refl))

-- ---- whatever block it is

other_params : (kind instance : ℕ) (b : Block) (l : BlockLayout) → eqb kind (kind_number kinds.Fb) ≡ false → is_function_block b.kind ≡ false
    → AllByRecursion (IsGoodParam kind instance) (params_of b l)
unfolding params_of
other_params kind instance b l other h =
    subst (λ (t : Bool). AllByRecursion (IsGoodParam kind instance) (return_last b.result (flat_map (λ c. param_here t l.components c) l.components))) (sym h)
    (all_in_return_order (IsGoodParam kind instance) b.result (flat_map (λ c. param_here false l.components c) l.components)
    (plain_params kind instance l.components l.components other))

pub params_right : (symbols : List Symbol) (t : Tree) (k : ℕ) (b : Block) (l : BlockLayout) (kind : BlockKind) → IsSoundBlock symbols t k b l
    → b.kind ≡ kind → is_code kind ≡ true → HasParams (kind_number kind) (instance_len b l) (params_of b l)
unfolding block_layout
params_right symbols t k b l kind h same code = by kind same code
  where
    are : l.components ≡ components_of (types_of_source symbols t.blocks) b
    are = ap (λ (x : BlockLayout). x.components) h.layout

    few : length (params_of b l) ≤ 60
    few = few_params (types_of_source symbols t.blocks) b l are h.well_formed.sections.1 h.head.by_52

    by : (kind : BlockKind) → b.kind ≡ kind → is_code kind ≡ true → HasParams (kind_number kind) (instance_len b l) (params_of b l)
    by kinds.Ob same code =
        let none = no_params (types_of_source symbols t.blocks) b l are same h.well_formed in
        record { few = few; good = ap (good_params 1 (instance_len b l)) none; none = λ e. none }
    by kinds.Fc same code = record {
      few = few;
      good = all_good_params 2 (instance_len b l) (params_of b l) (other_params 2 (instance_len b l) b l refl (ap is_function_block same));
      none = λ e. absurd (omega (arith, e));
    }
    by kinds.Fb same code =
        let len : instance_len b l ≡ l.length = ap (λ (s : Bool). if s then l.length else 0) (ap is_function_block same) in
        record {
          few = few;
          good = ap (λ (n : ℕ). good_params 3 n (params_of b l)) len ∙ all_good_params 3 l.length (params_of b l) (instance_params symbols t k b l h same);
          none = λ e. absurd (omega (arith, e));
        }
    by kinds.Db same code = absurd cc
    by kinds.Udt same code = absurd cc
    by kinds.Sfc same code = absurd cc
