-- The parameters of a block of a source, by their sections.
use Rattle.std.proofs.Common.{◌≡◌, ℕ, ◌+◌, ◌≤◌, Bool, true, false, not, List, [], ◌∷◌, ◌++◌, append-nil, append_assoc, flat_map, refl, sym, ap, subst, ◌∙◌, arith}
use Rattle.std.specs.Prelude.{if◌then◌else◌, nat_eq}
use Rattle.std.specs.List.{AllByRecursion}
use Rattle.std.specs.Str.{bytes_eq}
use Rattle.std.proofs.lemmas.Bool.{eq-eqb}
use Rattle.std.proofs.lemmas.Bool.Decides.{nat_tests}
use Rattle.std.proofs.lemmas.Grind.{flat_map-append}
use Rattle.plc_base.proofs.ListLemmas.{all_append}
use Rattle.plc_base.specs.declared.blocks.BlockKind.{BlockKind}
use Rattle.plc_base.specs.declared.places.Width.{Width}
use Rattle.plc_base.specs.declared.places.Width.TheVariants as width
use Rattle.flat_code.specs.Records.{section_in, section_in_out, section_out}
use Rattle.flat_code.specs.declared.programs.Param.{Param}
use Rattle.stl_ast.specs.Blocks.{is_parameter, part_rank}
use Rattle.stl_ast.specs.Outline.{IsOutline}
use Rattle.stl_ast.specs.WellFormed.{AreSectionsInOrder, IsSection}
use Rattle.stl_ast.specs.declared.blocks.Part.{Part}
use Rattle.stl_ast.specs.declared.blocks.PartKind.{PartKind}
use Rattle.stl_ast.specs.declared.blocks.PartKind.TheVariants as part
use Rattle.stl_ast.specs.declared.declarations.Declaration.{Declaration}
use Rattle.stl_ast.specs.declared.declarations.Simple.{Simple}
use Rattle.block_layout.specs.Around.{Outside, declarations_before_next}
use Rattle.block_layout.specs.Cells.{cell_of, cells_of, is_temp, layout_element, with_first_cell_opening, section_cells}
use Rattle.block_layout.specs.ListedParameters.{CellNamesDiffer, IsElementary}
use Rattle.block_layout.specs.Offsets.{width_of}
use Rattle.block_layout.specs.Types.{Types}
use Rattle.block_layout.specs.declared.cells.Cell.{Cell}
use Rattle.block_layout.specs.declared.cells.Element.{Element}
use Rattle.block_layout.specs.declared.cells.Element.TheVariants.{Plain}
use Rattle.stl_codegen.specs.GeneratedProgram.{param_at_bits, param_bits, param_here, param_of, section_number}
use Rattle.sem_kept.proofs.accepted.RecordParams.{AllBefore, AreCellsOnce, IsElementaryDeclaration, IsNew, NotIn, before_front, before_rest, outer_levels, parameter_sound, seen_by}

-- ---- cells of parameters

-- the cell of a parameter in a section, the first of it or not
pub record IsSectionCell (kind : PartKind) (opens : Bool) (c : Cell) : Type 0 where
  pub simple : Simple
  pub elementary : IsElementary c simple
  pub section : c.section ≡ kind
  pub begins : c.opens ≡ opens

-- the cells of the parameters of a section, of which the first is its first one or not
abbrev pub AreParameters : PartKind → (opens : Bool) → List Cell → Type 0
AreParameters kind opens [] = Unit {0}
AreParameters kind opens (c ∷ cs) = IsSectionCell kind opens c × AreParameters kind false cs

parameter_section : (y : Types) (o : Outside) (kind : PartKind) (before ds : List Declaration) → o.depth ≡ 0
    → AllByRecursion (λ d. (d.level ≡ 0) × IsElementaryDeclaration d) ds → AllBefore (IsNew o) before ds
    → AreParameters kind false (cells_of y o kind before ds)
unfolding cell_of
parameter_section y o kind before [] shallow h new = tt
parameter_section y o kind before (d ∷ ds) shallow ((level, e), more) (one, others) = (
  record {
    simple = e.kind;
    elementary = record {
      level = level;
      sound = parameter_sound y o before d shallow level e one;
      bounds = e.arrays;
      of = ap (layout_element y) e.of;
    };
    section = refl;
    begins = refl;
  },
  parameter_section y o kind (d ∷ before) ds shallow more others,
)

opened_parameters : (kind : PartKind) (cs : List Cell) → AreParameters kind false cs → AreParameters kind true (with_first_cell_opening cs)
opened_parameters kind [] h = tt
opened_parameters kind (c ∷ cs) (one, more) = by c.sound one.elementary.sound
  where
    by : (t : Bool) → t ≡ true → AreParameters kind true (if t then record c { opens = true } ∷ cs else c ∷ with_first_cell_opening cs)
    by true e = (
      record {
        simple = one.simple;
        elementary = record {
          level = one.elementary.level;
          sound = one.elementary.sound;
          bounds = one.elementary.bounds;
          of = one.elementary.of;
        };
        section = one.section;
        begins = refl;
      },
      more,
    )
    by false e = absurd cc

-- ---- by their sections

abbrev wants : PartKind → Bool
wants k = not (is_temp k)

-- a section in front of the others
record Split (k : BlockKind) (y : Types) (o : Outside) (kind : PartKind) (before : List Declaration) (parts : List Part) : Type 0 where
  cells : List Cell
  behind : List Declaration
  others : List Part
  are : section_cells y o wants before parts ≡ cells ++ section_cells y o wants behind others
  parameters : AreParameters kind true cells
  ordered : AreSectionsInOrder (part_rank kind + 1) others
  sections : AllByRecursion (IsSection k) others
  new : AllBefore (IsNew o) behind (flat_map (λ p. p.items) others)

rank_kind : (j k : PartKind) → nat_eq (part_rank j) (part_rank k) ≡ true → j ≡ k
rank_kind part.Input part.Input e = refl
rank_kind part.Output part.Output e = refl
rank_kind part.InOut part.InOut e = refl
rank_kind part.Static part.Static e = refl
rank_kind part.Temp part.Temp e = refl
rank_kind j k e = absurd cc

wanted_parameter : (k : PartKind) → is_parameter k ≡ true → wants k ≡ true
wanted_parameter part.Input e = refl
wanted_parameter part.Output e = refl
wanted_parameter part.InOut e = refl
wanted_parameter part.Static e = refl
wanted_parameter part.Temp e = absurd cc

above : (m n : ℕ) → m ≤ n → nat_eq n m ≡ false → m + 1 ≤ n
above m n h e = grind (arith, nat_tests)

split : (k : BlockKind) (y : Types) (o : Outside) (kind : PartKind) (before : List Declaration) (parts : List Part) → o.depth ≡ 0 → is_parameter kind ≡ true
    → AreSectionsInOrder (part_rank kind) parts → AllByRecursion (IsSection k) parts → AllBefore (IsNew o) before (flat_map (λ p. p.items) parts)
    → Split k y o kind before parts
split k y o kind before [] shallow is ordered sections new =
    record { cells = []; behind = before; others = []; are = refl; parameters = tt; ordered = tt; sections = tt; new = tt }
split k y o kind before (p ∷ ps) shallow is ordered sections new = by (nat_eq (part_rank p.kind) (part_rank kind)) refl
  where
    by : (t : Bool) → nat_eq (part_rank p.kind) (part_rank kind) ≡ t → Split k y o kind before (p ∷ ps)
    by true e =
        let same : p.kind ≡ kind = rank_kind p.kind kind e in
        let wanted : wants p.kind ≡ true = ap wants same ∙ wanted_parameter kind is in
        record {
          cells = with_first_cell_opening (cells_of y o p.kind before p.items);
          behind = declarations_before_next before p.items;
          others = ps;
          are = ap (λ (t : Bool). (if t then with_first_cell_opening (cells_of y o p.kind before p.items) else []) ++ section_cells y o wants (declarations_before_next before p.items) ps) wanted;
          parameters = subst (λ j. AreParameters j true (with_first_cell_opening (cells_of y o p.kind before p.items))) same
              (opened_parameters p.kind (cells_of y o p.kind before p.items)
              (parameter_section y o p.kind before p.items shallow (outer_levels k p.kind p.items (ap is_parameter same ∙ is) sections.0.1 sections.0.2)
              (before_front (IsNew o) before p.items (flat_map (λ q. q.items) ps) new)));
          ordered = subst (λ j. AreSectionsInOrder (part_rank j + 1) ps) same ordered.1;
          sections = sections.1;
          new = before_rest (IsNew o) before p.items (flat_map (λ q. q.items) ps) new;
        }
    by false e = record {
      cells = [];
      behind = before;
      others = p ∷ ps;
      are = refl;
      parameters = tt;
      ordered = (above (part_rank kind) (part_rank p.kind) ordered.0 e, ordered.1);
      sections = sections;
      new = new;
    }

-- cells of other sections
abbrev pub IsOther : Cell → Type 0
IsOther c = is_parameter c.section ≡ false

others_of : (y : Types) (o : Outside) (kind : PartKind) (before ds : List Declaration) → is_parameter kind ≡ false → AllByRecursion IsOther (cells_of y o kind before ds)
unfolding cell_of
others_of y o kind before [] h = tt
others_of y o kind before (d ∷ ds) h = (h, others_of y o kind (d ∷ before) ds h)

others_opened : (cs : List Cell) → AllByRecursion IsOther cs → AllByRecursion IsOther (with_first_cell_opening cs)
others_opened [] h = tt
others_opened (c ∷ cs) h = by c.sound (others_opened cs h.1)
  where
    by : (t : Bool) → AllByRecursion IsOther (with_first_cell_opening cs) → AllByRecursion IsOther (if t then record c { opens = true } ∷ cs else c ∷ with_first_cell_opening cs)
    by true more = h
    by false more = (h.0, more)

high_rank : (k : PartKind) → 3 ≤ part_rank k → is_parameter k ≡ false
high_rank part.Input h = absurd (omega (arith, h))
high_rank part.Output h = absurd (omega (arith, h))
high_rank part.InOut h = absurd (omega (arith, h))
high_rank part.Static h = refl
high_rank part.Temp h = refl

others_behind : (y : Types) (o : Outside) (least : ℕ) (before : List Declaration) (parts : List Part) → 3 ≤ least → AreSectionsInOrder least parts → AllByRecursion IsOther (section_cells y o wants before parts)
others_behind y o least before [] h ordered = tt
others_behind y o least before (p ∷ ps) h ordered =
    by (wants p.kind) (others_behind y o (part_rank p.kind + 1) (declarations_before_next before p.items) ps (omega (arith, h, ordered.0)) ordered.1)
  where
    more : List Cell
    more = section_cells y o wants (declarations_before_next before p.items) ps

    by : (t : Bool) → AllByRecursion IsOther more → AllByRecursion IsOther ((if t then with_first_cell_opening (cells_of y o p.kind before p.items) else []) ++ more)
    by true k =
        all_append IsOther (with_first_cell_opening (cells_of y o p.kind before p.items)) more
        (others_opened (cells_of y o p.kind before p.items) (others_of y o p.kind before p.items (high_rank p.kind (omega (arith, h, ordered.0))))) k
    by false k = k

-- ---- where the other sections begin

-- the first of some cells is no component of another, and begins at an even byte if it breaks no rule
abbrev pub Begins : List Cell → Type 0
Begins [] = Unit {0}
Begins (c ∷ cs) = (c.level ≡ 0) × (c.sound ≡ true → c.opens ≡ true)

abbrev BeginsOuter : List Cell → Type 0
BeginsOuter [] = Unit {0}
BeginsOuter (c ∷ cs) = c.level ≡ 0

begins_opened : (cs more : List Cell) → BeginsOuter cs → Begins more → Begins (with_first_cell_opening cs ++ more)
begins_opened [] more h k = k
begins_opened (c ∷ cs) more h k = by c.sound refl
  where
    by : (t : Bool) → c.sound ≡ t → Begins ((if t then record c { opens = true } ∷ cs else c ∷ with_first_cell_opening cs) ++ more)
    by true e = (h, λ f. refl)
    by false e = (h, λ f. absurd cc)

begins_outer : (y : Types) (o : Outside) (kind : PartKind) (before ds : List Declaration) → IsOutline 0 ds → BeginsOuter (cells_of y o kind before ds)
unfolding cell_of
begins_outer y o kind before [] h = tt
begins_outer y o kind before (d ∷ ds) h = let least = h.0 in omega (arith, least)

begins_sections : (k : BlockKind) (y : Types) (o : Outside) (wanted : PartKind → Bool) (before : List Declaration) (parts : List Part) → AllByRecursion (IsSection k) parts
    → Begins (section_cells y o wanted before parts)
begins_sections k y o wanted before [] h = tt
begins_sections k y o wanted before (p ∷ ps) (one, more) = by (wanted p.kind) (begins_sections k y o wanted (declarations_before_next before p.items) ps more)
  where
    by : (t : Bool) → Begins (section_cells y o wanted (declarations_before_next before p.items) ps)
        → Begins ((if t then with_first_cell_opening (cells_of y o p.kind before p.items) else []) ++ section_cells y o wanted (declarations_before_next before p.items) ps)
    by true rest = begins_opened (cells_of y o p.kind before p.items) _ (begins_outer y o p.kind before p.items one.1) rest
    by false rest = rest

-- the cells of a block, by their sections
pub record HasSections (cells : List Cell) : Type 0 where
  pub ins : List Cell
  pub outs : List Cell
  pub both : List Cell
  pub rest : List Cell
  pub are : cells ≡ ins ++ (outs ++ (both ++ rest))
  pub input : AreParameters part.Input true ins
  pub output : AreParameters part.Output true outs
  pub in_out : AreParameters part.InOut true both
  pub others : AllByRecursion IsOther rest
  pub begins : Begins rest

pub has_sections : (k : BlockKind) (y : Types) (o : Outside) (parts : List Part) → o.depth ≡ 0 → AreSectionsInOrder 0 parts → AllByRecursion (IsSection k) parts
    → AllBefore (IsNew o) [] (flat_map (λ p. p.items) parts) → HasSections (section_cells y o (λ k. not (is_temp k)) [] parts)
has_sections k y o parts shallow ordered sections new =
    let a = split k y o part.Input [] parts shallow refl ordered sections new in
    let b = split k y o part.Output a.behind a.others shallow refl (next 0 1 a.others refl a.ordered) a.sections a.new in
    let c = split k y o part.InOut b.behind b.others shallow refl (next 1 2 b.others refl b.ordered) b.sections b.new in
    record {
      ins = a.cells;
      outs = b.cells;
      both = c.cells;
      rest = section_cells y o wants c.behind c.others;
      are = a.are ∙ ap (λ z. a.cells ++ z) (b.are ∙ ap (λ z. b.cells ++ z) c.are);
      input = a.parameters;
      output = b.parameters;
      in_out = c.parameters;
      others = others_behind y o (part_rank part.InOut + 1) c.behind c.others (omega arith) c.ordered;
      begins = begins_sections k y o wants c.behind c.others c.sections;
    }
  where
    next : (m n : ℕ) (ps : List Part) → m + 1 ≡ n → AreSectionsInOrder (m + 1) ps → AreSectionsInOrder n ps
    next m n ps e h = subst (λ z. AreSectionsInOrder z ps) e h

-- ---- the parameters that they make

abbrev pub cell_width : Element → Width
cell_width (Plain kind) = width_of kind
cell_width _ = width.Bit

-- the parameters of a section, from the cells of a structure
abbrev pub section_params : (in_instance : Bool) → (all : List Cell) → (section : ℕ) → List Cell → List Param
section_params in_instance all section [] = []
section_params in_instance all section (c ∷ cs) = param_at_bits section (cell_width c.of) (param_bits in_instance all c) ∷ section_params in_instance all section cs

made_here : (in_instance : Bool) (all : List Cell) (kind : PartKind) (opens : Bool) (c : Cell) → is_parameter kind ≡ true → IsSectionCell kind opens c
    → param_here in_instance all c ≡ param_at_bits (section_number kind) (cell_width c.of) (param_bits in_instance all c) ∷ []
made_here in_instance all kind opens c is h =
    let back = sym h.elementary.of in
    ap (λ (t : Bool). if t then param_of in_instance all c c.of else []) (ap is_parameter h.section ∙ is)
    ∙ ap (param_of in_instance all c) h.elementary.of
    ∙ (λ i. param_at_bits (section_number (h.section i)) (cell_width (back i)) (param_bits in_instance all c) ∷ [])

pub made_from : (in_instance : Bool) (all : List Cell) (kind : PartKind) (opens : Bool) (cs : List Cell) → is_parameter kind ≡ true → AreParameters kind opens cs
    → flat_map (λ c. param_here in_instance all c) cs ≡ section_params in_instance all (section_number kind) cs
made_from in_instance all kind opens [] is h = refl
made_from in_instance all kind opens (c ∷ cs) is (one, more) =
    let here = made_here in_instance all kind opens c is one in
    let rest = made_from in_instance all kind false cs is more in
    λ i. here i ++ rest i

pub made_others : (in_instance : Bool) (all : List Cell) (cs : List Cell) → AllByRecursion IsOther cs → flat_map (λ c. param_here in_instance all c) cs ≡ []
made_others in_instance all [] h = refl
made_others in_instance all (c ∷ cs) (one, more) = rw one (made_others in_instance all cs more)

pub made_sections : (in_instance : Bool) (all cells : List Cell) (h : HasSections cells)
    → flat_map (λ c. param_here in_instance all c) cells ≡ section_params in_instance all section_in h.ins ++ (section_params in_instance all section_out h.outs ++ section_params in_instance all section_in_out h.both)
made_sections in_instance all cells h =
    let f = λ (c : Cell). param_here in_instance all c in
    ap (flat_map f) h.are
    ∙ flat_map-append f h.ins (h.outs ++ (h.both ++ h.rest))
    ∙ ap (λ z. flat_map f h.ins ++ z) (flat_map-append f h.outs (h.both ++ h.rest) ∙ ap (λ z. flat_map f h.outs ++ z) (flat_map-append f h.both h.rest))
    ∙ (λ i. made_from in_instance all part.Input true h.ins refl h.input i ++ (made_from in_instance all part.Output true h.outs refl h.output i
    ++ (made_from in_instance all part.InOut true h.both refl h.in_out i ++ made_others in_instance all h.rest h.others i)))
    ∙ ap (λ z. section_params in_instance all section_in h.ins ++ (section_params in_instance all section_out h.outs ++ z)) (append-nil (section_params in_instance all section_in_out h.both))

-- ---- their names are apart

once_front : (seen : List (List ℕ)) (xs ys : List Cell) → AreCellsOnce seen (xs ++ ys) → AreCellsOnce seen xs
once_front seen [] ys h = tt
once_front seen (x ∷ xs) ys h = (h.0, once_front (seen_by seen x) xs ys h.1)

apart_from : (seen : List (List ℕ)) (cs : List Cell) → AllByRecursion (λ c. c.level ≡ 0) cs → AreCellsOnce seen cs → CellNamesDiffer cs × AllByRecursion (λ c. NotIn c.name seen) cs
apart_from seen [] h once = (tt, tt)
apart_from seen (c ∷ cs) (level, levels) (one, more) =
    let outer : nat_eq c.level 0 ≡ true = eq-eqb c.level 0 level in
    let seen_it : seen_by seen c ≡ c.name ∷ seen = ap (λ (t : Bool). if t then c.name ∷ seen else seen) outer in
    let rest = apart_from (c.name ∷ seen) cs levels (subst (λ z. AreCellsOnce z cs) seen_it more) in
    ((firsts cs rest.1, rest.0), (one outer, seconds cs rest.1))
  where
    firsts : (ds : List Cell) → AllByRecursion (λ d. NotIn d.name (c.name ∷ seen)) ds → AllByRecursion (λ d. bytes_eq d.name c.name ≡ false) ds
    firsts [] h = tt
    firsts (d ∷ ds) (h, hs) = (h.0, firsts ds hs)

    seconds : (ds : List Cell) → AllByRecursion (λ d. NotIn d.name (c.name ∷ seen)) ds → AllByRecursion (λ d. NotIn d.name seen) ds
    seconds [] h = tt
    seconds (d ∷ ds) (h, hs) = (h.1, seconds ds hs)

levels_of : (kind : PartKind) (opens : Bool) (cs : List Cell) → AreParameters kind opens cs → AllByRecursion (λ c. c.level ≡ 0) cs
levels_of kind opens [] h = tt
levels_of kind opens (c ∷ cs) (one, more) = (one.elementary.level, levels_of kind false cs more)

pub sections_apart : (cells : List Cell) (h : HasSections cells) → AreCellsOnce [] cells → CellNamesDiffer (h.ins ++ (h.outs ++ h.both))
sections_apart cells h once =
    (apart_from [] (h.ins ++ (h.outs ++ h.both))
    (all_append (λ c. c.level ≡ 0) h.ins (h.outs ++ h.both) (levels_of part.Input true h.ins h.input)
    (all_append (λ c. c.level ≡ 0) h.outs h.both (levels_of part.Output true h.outs h.output) (levels_of part.InOut true h.both h.in_out)))
    (once_front [] (h.ins ++ (h.outs ++ h.both)) h.rest (subst (AreCellsOnce []) (h.are ∙ grouped) once))).0
  where
    grouped : h.ins ++ (h.outs ++ (h.both ++ h.rest)) ≡ (h.ins ++ (h.outs ++ h.both)) ++ h.rest
    grouped = sym (append_assoc h.ins (h.outs ++ h.both) h.rest ∙ ap (λ z. h.ins ++ z) (append_assoc h.outs h.both h.rest))
