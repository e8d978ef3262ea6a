-- Where the paths of an instance's settings lead in the listing.
use Rattle.std.proofs.Common.{◌≡◌, ℕ, suc, ◌+◌, ◌-◌, ◌*◌, ◌<◌, ◌≤◌, Bool, true, false, ◌&&◌, List, [], ◌∷◌, ◌++◌, length, pos, Option, Some, refl, sym, ap, subst, ◌∙◌, arith}
use Rattle.std.specs.Prelude.{◌-ℤ◌, ◌||◌, if◌then◌else◌, int_lt, nat_eq, slice_get, unsigned_abs}
use Rattle.std.specs.List.{AllByRecursion}
use Rattle.std.specs.Str.{bytes_eq}
use Rattle.std.proofs.lemmas.Bool.{eq-eqb}
use Rattle.std.proofs.lemmas.Bool.Decides.{nat_tests}
use Rattle.plc_base.specs.Folding.{upper_case_name}
use Rattle.flat_code.specs.declared.programs.Param.{Param}
use Rattle.stl_ast.specs.declared.blocks.PartKind.TheVariants as part
use Rattle.stl_ast.specs.declared.blocks.PathStep.{PathStep}
use Rattle.stl_ast.specs.declared.blocks.PathStep.TheVariants as step
use Rattle.stl_ast.specs.declared.declarations.Simple.{Simple}
use Rattle.stl_ast.specs.declared.declarations.Simple.TheVariants as simple
use Rattle.block_layout.specs.ListedParameters.{CellNamesDiffer, IsElementary}
use Rattle.block_layout.specs.Members.{component_of_name}
use Rattle.block_layout.specs.Paths.{cells_at, elementary_at, path_end_at_member, holds_where_reached, path_end_and_then, path_end_by_index, path_end_behind_index, is_beyond, is_beyond_in, is_checkable, kind_of, leaves_array, leaves_structure, outermost_path_end, setting_structure, path_end_by_step, structure_of, path_end_behind, path_end_in_data_block, path_end_in_block, path_end_or_unjudged, path_end_of_setting}
use Rattle.block_layout.specs.Sizes.{alignment, capped_size, cell_bits, element_alignment, element_of, components_end, largest_size, next_multiple}
use Rattle.block_layout.specs.declared.blocks.BlockLayout.{BlockLayout}
use Rattle.block_layout.specs.declared.cells.Cell.{Cell}
use Rattle.block_layout.specs.declared.members.Member.{Member}
use Rattle.block_layout.specs.declared.path_ends.ComponentAt.{ComponentAt}
use Rattle.block_layout.specs.declared.path_ends.PathEnd.TheVariants as path_end
use Rattle.stl_types.specs.declared.parameters.Formal.{Formal}
use Rattle.stl_list.specs.Sections.{static_name}
use Rattle.block_layout.proofs.AlignmentLemmas.{here_within}
use Rattle.sem_kept.proofs.accepted.RecordParams.{found_here, never_less, not_both, passed_by}
use Rattle.listing_laws.proofs.declared.Cells.{byte_cell}
use Rattle.listing_laws.proofs.declared.Kept.{AreCellsOf}
use Rattle.listing_laws.proofs.declared.Placed.{AreNamed}
use Rattle.listing_laws.proofs.filled.Params.{ArePlaced, end_past, past_any, past_cell, past_near}
use Rattle.listing_laws.proofs.filled.Components.{entered_sound, kind_there, outer_component}

-- a path of the data block at a place leads to an elementary component so many bits from the start, and leaves no array on the way
pub record LeadsTo (l : List BlockLayout) (k : ℕ) (path : List PathStep) (offset : ℕ) (kind : Simple) : Type 0 where
  pub component : ComponentAt
  pub leads : path_end_in_data_block l k path ≡ path_end.Reaches component
  pub sets : path_end_of_setting l k path ≡ path_end.Reaches component
  pub at : component.offset ≡ offset
  pub of_kind : elementary_at l component ≡ Some kind
  pub inside : leaves_structure l (setting_structure l k) path ≡ false

-- so do the names of parameters
abbrev pub AllLead : (l : List BlockLayout) → (k : ℕ) → List Formal → List Param → Type 0
AllLead l k [] [] = Unit {0}
AllLead l k (f ∷ fs) (p ∷ ps) = LeadsTo l k (step.Named (upper_case_name f.name) ∷ []) (8 * p.byte + p.bit) f.kind × AllLead l k fs ps
AllLead l k _ _ = ⊥

-- what the outermost names find, from a place among the cells on
abbrev pub Looks : (look : List ℕ → Option Member) → (at place : ℕ) → (all cs : List Cell) → Type 0
Looks look at place all cs = AllByRecursion (λ c. look c.name ≡ component_of_name 0 at place c.name all) cs

looks_later : (look : List ℕ → Option Member) (at place : ℕ) (c : Cell) (kind : Simple) (rest cs : List Cell) → IsElementary c kind → AllByRecursion (λ d. bytes_eq d.name c.name ≡ false) cs
    → Looks look at place (c ∷ rest) cs → Looks look (past_cell at c) (place + 1) rest cs
looks_later look at place c kind rest [] is apart h = tt
looks_later look at place c kind rest (d ∷ ds) is (other, others) (one, more) =
    let passed = passed_by at place d.name c rest (not_both (nat_eq c.level 0) (bytes_eq d.name c.name) (λ e. other)) in
    (one ∙ passed ∙ ap (λ n. component_of_name 0 n (place + 1) d.name rest) (past_any at c rest kind is), looks_later look at place c kind rest ds is others more)

pub all_look : (all cs : List Cell) → Looks (λ name. component_of_name 0 0 0 name all) 0 0 all cs
all_look all [] = tt
all_look all (c ∷ cs) = (refl, all_look all cs)

-- VAR stands behind the parameters
pub static_found : (at place i : ℕ) (ds : List Cell) (ps : List Param) (c : Cell) → AreNamed i ds → ArePlaced at ds ps → c.name ≡ upper_case_name static_name → c.level ≡ 0 → c.opens ≡ true
    → component_of_name 0 at place (upper_case_name static_name) (ds ++ c ∷ []) ≡ Some (record { place = place + length ds; offset = next_multiple (components_end 0 at ds) 16 })
unfolding components_end
static_found at place i [] [] c named h name outer opens =
    ap (λ n. component_of_name 0 at place n (c ∷ [])) (sym name) ∙ found_here at place c [] outer
    ∙ (λ j. Some (record { place = plus_none place j; offset = next_multiple at (if opens j then 16 else if nat_eq (length c.bounds) 0 then element_alignment c.of else 16) }))
  where
    plus_none : (n : ℕ) → n ≡ n + 0
    plus_none n = omega arith
static_found at place i [] (p ∷ ps) c named h name outer opens = absurd h
static_found at place i (d ∷ ds) [] c named h name outer opens = absurd h
static_found at place i (d ∷ ds) (p ∷ ps) c (one, more) (here, others) name outer opens =
    let other : bytes_eq (upper_case_name static_name) d.name ≡ false = ap (λ n. bytes_eq (upper_case_name static_name) n) one in
    passed_by at place (upper_case_name static_name) d (ds ++ c ∷ []) (not_both (nat_eq d.level 0) (bytes_eq (upper_case_name static_name) d.name) (λ e. other))
    ∙ ap (λ n. component_of_name 0 n (place + 1) (upper_case_name static_name) (ds ++ c ∷ [])) (past_any at d (ds ++ c ∷ []) here.kind here.cell)
    ∙ static_found (past_cell at d) (place + 1) (suc i) ds ps c more others name outer opens
    ∙ (λ j. Some (record { place = further place (length ds) j; offset = next_multiple (sym (end_past at d ds here.kind here.cell) j) 16 }))
  where
    further : (m n : ℕ) → m + 1 + n ≡ m + suc n
    further m n = omega arith

no_less : (n : ℕ) → int_lt (pos n) (pos 0) ≡ false
no_less n = grind arith

not_above : (n i : ℕ) → i < n → int_lt (pos (n - 1)) (pos i) ≡ false
not_above n i h = grind (arith, nat_tests)

same_index : (i : ℕ) → unsigned_abs (pos i -ℤ pos 0) ≡ i
same_index i = grind arith

index_offset : (offset i : ℕ) → offset + i * 8 ≤ largest_size → capped_size (offset + capped_size (i * 8)) ≡ offset + 8 * i
index_offset offset i h = omega (arith, h)

module _ (l : List BlockLayout) (k q : ℕ) (structure : structure_of l k ≡ Some q) (setting : setting_structure l k ≡ Some q) where
  -- a path is one among the components of the structure
  data_walk : (path : List PathStep) → path_end_in_data_block l k path ≡ path_end_in_block l q false path
  unfolding path_end_in_data_block
  data_walk path = ap (λ o. path_end_or_unjudged l o path) structure

  setting_walk : (path : List PathStep) → path_end_of_setting l k path ≡ path_end_in_block l q false path
  unfolding path_end_of_setting
  setting_walk path = ap (λ o. path_end_or_unjudged l o path) setting

  name_found : (cells : List Cell) (name : List ℕ) (place offset : ℕ) (c : Cell) → cells_at l q false ≡ cells → component_of_name 0 0 0 name cells ≡ Some (record { place = place; offset = offset })
      → slice_get cells place ≡ Some c → c.sound ≡ true → offset ≤ largest_size → outermost_path_end l q false 0 name ≡ path_end.Reaches (outer_component q place offset)
  unfolding outermost_path_end
  name_found cells name place offset c are found there sound few =
      (λ i. path_end_at_member (are i) q false 0 0 (component_of_name 0 0 0 name (are i))) ∙ ap (path_end_at_member cells q false 0 0) found
      ∙ entered_sound cells q place (record { place = place; offset = offset }) c refl there sound few

  name_leads : (cells : List Cell) (name : List ℕ) (place offset : ℕ) (c : Cell) (kind : Simple) → cells_at l q false ≡ cells
      → component_of_name 0 0 0 name cells ≡ Some (record { place = place; offset = offset }) → slice_get cells place ≡ Some c → IsElementary c kind → offset ≤ largest_size
      → LeadsTo l k (step.Named name ∷ []) offset kind
  name_leads cells name place offset c kind are found there is few =
      let out = name_found cells name place offset c are found there is.sound few in
      let path = step.Named name ∷ [] in
      let walk_is : path_end_in_block l q false path ≡ path_end.Reaches (outer_component q place offset) = ap (λ e. path_end_and_then e (λ component. path_end_behind l component [])) out in
      record {
        component = outer_component q place offset;
        leads = data_walk path ∙ walk_is;
        sets = setting_walk path ∙ walk_is;
        at = refl;
        of_kind = kind_there l (outer_component q place offset) c kind (ap (λ z. slice_get z place) are ∙ there) is refl;
        inside = ap (λ o. leaves_structure l o path) setting ∙ (λ i. is_checkable (walk_is i) && holds_where_reached (out i) (λ component. leaves_array l component []));
      }

  -- ---- parameters

  pub all_lead : (whole : List Cell) (at place : ℕ) (ds vs : List Cell) (fs : List Formal) (ps : List Param) → cells_at l q false ≡ whole → at ≤ largest_size → components_end 0 at ds < largest_size → ArePlaced at ds ps
      → AreCellsOf ds fs → CellNamesDiffer ds → Looks (λ name. component_of_name 0 0 0 name whole) at place (ds ++ vs) ds → ((j : ℕ) → slice_get whole (place + j) ≡ slice_get (ds ++ vs) j)
      → AllLead l k fs ps
  all_lead whole at place [] vs [] [] are near short h of apart looks there = tt
  all_lead whole at place [] vs [] (p ∷ ps) are near short h of apart looks there = absurd h
  all_lead whole at place [] vs (f ∷ fs) ps are near short h of apart looks there = absurd of
  all_lead whole at place (d ∷ ds) vs [] ps are near short h of apart looks there = absurd of
  all_lead whole at place (d ∷ ds) vs (f ∷ fs) [] are near short h of apart looks there = absurd h
  all_lead whole at place (d ∷ ds) vs (f ∷ fs) (p ∷ ps) are near short (one, more) (name, of, others) (apart, aparts) (look, looks) there =
      let end = end_past at d ds one.kind one.cell in
      let found : component_of_name 0 0 0 (upper_case_name f.name) whole ≡ Some (record { place = place; offset = 8 * p.byte + p.bit }) =
      ap (λ n. component_of_name 0 0 0 n whole) (sym name) ∙ look ∙ found_here at place d (ds ++ vs) one.cell.level ∙ ap (λ n. Some (record { place = place; offset = n })) one.offset in
      let is : IsElementary d f.kind = record { level = one.cell.level; sound = one.cell.sound; bounds = one.cell.bounds; of = of } in
      let inside = here_within 0 at d ds near (never_less d.level) (eq-eqb d.level 0 one.cell.level) one.cell.sound short in
      let none : place ≡ place + 0 = omega arith in (
        name_leads whole (upper_case_name f.name) place (8 * p.byte + p.bit) d f.kind are found (ap (slice_get whole) none ∙ there 0) is
            (begins (next_multiple at (alignment d)) (cell_bits d ds) (components_end 0 at ds_here) (8 * p.byte + p.bit) one.offset inside short),
        all_lead whole (past_cell at d) (place + 1) ds vs fs ps are (past_near at d near) (subst (λ n. n < largest_size) end short) more others aparts
            (looks_later (λ n. component_of_name 0 0 0 n whole) at place d one.kind (ds ++ vs) ds one.cell apart looks) later,
      )
    where
      ds_here : List Cell
      ds_here = d ∷ ds

      begins : (n bits end offset : ℕ) → n ≡ offset → n + bits ≤ end → end < largest_size → offset ≤ largest_size
      begins n bits end offset e g k = omega (arith, e, g, k)

      later : (j : ℕ) → slice_get whole (place + 1 + j) ≡ slice_get (ds ++ vs) j
      later j = let e : place + 1 + j ≡ place + suc j = omega arith in ap (slice_get whole) e ∙ there (suc j)

  -- ---- VAR

  -- an index of VAR leads to a byte
  pub index_leads : (count offset place : ℕ) (cells : List Cell) (i : ℕ) → cells_at l q false ≡ cells
      → component_of_name 0 0 0 (upper_case_name static_name) cells ≡ Some (record { place = place; offset = offset }) → slice_get cells place ≡ Some (byte_cell part.Static static_name count)
      → i < count → offset + i * 8 ≤ largest_size → LeadsTo l k (step.Named (upper_case_name static_name) ∷ step.Index (pos i) ∷ []) (offset + 8 * i) simple.Byte
  unfolding path_end_by_step path_end_by_index element_of
  index_leads count offset place cells i are found there less few =
      let name = upper_case_name static_name in
      let c = byte_cell part.Static static_name count in
      let path = step.Named name ∷ step.Index (pos i) ∷ [] in
      let component = outer_component q place offset in
      let own = cells_at l q false in
      let here : slice_get own place ≡ Some c = ap (λ z. slice_get z place) are ∙ there in
      let out = name_found cells name place offset c are found there refl (omega (arith, few)) in
      let bounded : is_beyond (record { low = pos 0; high = pos (count - 1) }) (pos i) ≡ false = let low = no_less i in let high = not_above count i less in rw low high in
      let next : path_end_by_step l component (step.Index (pos i)) ≡ path_end.Reaches (record { block = q; temporary = false; place = place; depth = 1; offset = offset + 8 * i }) =
      ap (path_end_behind_index component own (pos i)) here
      ∙ ap (λ (t : Bool). if t then path_end.Reaches (record component { depth = component.depth + 1 })
      else path_end.Reaches (record component { depth = component.depth + 1; offset = capped_size (offset + capped_size (unsigned_abs (pos i -ℤ pos 0) * 8)) })) bounded
      ∙ ap (λ n. path_end.Reaches (record { block = q; temporary = false; place = place; depth = 1; offset = capped_size (offset + capped_size (n * 8)) })) (same_index i)
      ∙ ap (λ n. path_end.Reaches (record { block = q; temporary = false; place = place; depth = 1; offset = n })) (index_offset offset i few) in
      let last : ComponentAt = record { block = q; temporary = false; place = place; depth = 1; offset = offset + 8 * i } in
      let walk_is : path_end_in_block l q false path ≡ path_end.Reaches last = ap (λ e. path_end_and_then e (λ z. path_end_behind l z (step.Index (pos i) ∷ []))) out ∙ ap (λ e. path_end_and_then e (λ z. path_end_behind l z [])) next in
      let stays : leaves_array l component (step.Index (pos i) ∷ []) ≡ false =
      (λ j. (is_beyond_in 0 (here j) (pos i)) || holds_where_reached (next j) (λ z. leaves_array l z [])) ∙ ap (λ (t : Bool). t || false) bounded in
      record {
        component = last;
        leads = data_walk path ∙ walk_is;
        sets = setting_walk path ∙ walk_is;
        at = refl;
        of_kind = ap (kind_of last) here;
        inside = ap (λ o. leaves_structure l o path) setting ∙ (λ j. is_checkable (walk_is j) && holds_where_reached (out j) (λ z. leaves_array l z (step.Index (pos i) ∷ []))) ∙ stays;
      }
