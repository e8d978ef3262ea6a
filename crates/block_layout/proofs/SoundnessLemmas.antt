-- Declarations of which none breaks a rule: their cells are sound, and settled where the types that
-- they name are.
use Rattle.std.proofs.Common.{◌≡◌, ℕ, ◌+◌, Bool, true, false, not, List, [], ◌∷◌, length, Option, Some, None, refl, ap, ◌∙◌, arith, ◌++◌, ◌≤◌, ◌&&◌, ◌||◌, nat_lt, nat_le, if◌then◌else◌, ltb-false, le-leb}
use Rattle.std.specs.List.{AllByRecursion, flat_map, list_all}
use Rattle.plc_base.proofs.ListLemmas.{all_append}
use Rattle.stl_ast.specs.declared.blocks.Block.{Block}
use Rattle.stl_ast.specs.declared.blocks.Part.{Part}
use Rattle.stl_ast.specs.declared.blocks.PartKind.{PartKind}
use Rattle.stl_ast.specs.declared.declarations.Declaration.{Declaration}
use Rattle.stl_ast.specs.declared.declarations.ElementType.{ElementType}
use Rattle.stl_ast.specs.declared.declarations.Simple.{Simple}
use Rattle.stl_ast.specs.declared.blocks.PartKind.TheVariants as part
use Rattle.block_layout.specs.Around.{refusals_in_block, Outside, structures_around, refusals_in_list, refusals_in_rest, of_sections, of_structure, declarations_before_next, section_declarations}
use Rattle.block_layout.specs.Rule21.{refusals_21, is_twice}
use Rattle.block_layout.specs.Rule23.{refusals_23}
use Rattle.block_layout.specs.Rule41.{refusals_41}
use Rattle.block_layout.specs.Rule42.{refusals_42}
use Rattle.block_layout.specs.Rule56.{refusals_56, depth_around, element_depth, is_too_deep, depth_of_holders, own_depth}
use Rattle.block_layout.specs.Types.{Types}
use Rattle.block_layout.specs.declared.blocks.BlockLayout.{BlockLayout}
use Rattle.block_layout.specs.Cells.{breaks_rule, cell_of, cells_of, components_of, is_temp, layout_element, with_first_cell_opening, returned_cells, section_cells, temps_of, uses_oversized}
use Rattle.block_layout.specs.Declarations.{has_upside_down, init_fits, is_unknown_type}
use Rattle.block_layout.specs.declared.cells.Cell.{Cell}
use Rattle.block_layout.proofs.CommonLemmas.{none_left, none_right, not_broken, or_second}
use Rattle.block_layout.proofs.AlignmentLemmas.{IsRightCell, IsSettled}

-- ---- declarations of which none breaks a rule

abbrev pub Unbroken : Types → Outside → (before ds : List Declaration) → Type 0
Unbroken y o before [] = Unit {0}
Unbroken y o before (d ∷ ds) = (breaks_rule y o before d ≡ false) × Unbroken y o (d ∷ before) ds

-- none of the declarations before a place breaks a rule
abbrev pub Past : Types → Outside → List Declaration → Type 0
Past y o [] = Unit {0}
Past y o (d ∷ ds) = (breaks_rule y o ds d ≡ false) × Past y o ds

five_false : (a b c d e : Bool) → a ≡ false → b ≡ false → c ≡ false → d ≡ false → e ≡ false
    → (a || b || c || d || e) ≡ false
five_false a b c d e f g h i j = rw f (rw g (rw h (rw i j)))

unbroken_of : (y : Types) (o : Outside) (before ds : List Declaration)
    → refusals_in_rest (refusals_21 o) before ds ≡ [] → refusals_in_rest (refusals_23 y o) before ds ≡ []
    → refusals_in_rest (refusals_41 o) before ds ≡ [] → refusals_in_rest (refusals_42 o) before ds ≡ []
    → refusals_in_rest (refusals_56 y o) before ds ≡ [] → Unbroken y o before ds
unbroken_of y o before [] f g h i j = tt
unbroken_of y o before (d ∷ ds) f g h i j = (
  five_false (is_twice o before d) (is_unknown_type y d.of.of) (not (init_fits d))
      (has_upside_down d) (is_too_deep y o before d)
      (not_broken (is_twice o before d) d.line 21 (none_left (refusals_21 o before d) (refusals_in_rest (refusals_21 o) (d ∷ before) ds) f))
      (not_broken (is_unknown_type y d.of.of) d.line 23 (none_left (refusals_23 y o before d) (refusals_in_rest (refusals_23 y o) (d ∷ before) ds) g))
      (not_broken (not (init_fits d)) d.line 41 (none_left (refusals_41 o before d) (refusals_in_rest (refusals_41 o) (d ∷ before) ds) h))
      (not_broken (has_upside_down d) d.line 42 (none_left (refusals_42 o before d) (refusals_in_rest (refusals_42 o) (d ∷ before) ds) i))
      (not_broken (is_too_deep y o before d) d.line 56 (none_left (refusals_56 y o before d) (refusals_in_rest (refusals_56 y o) (d ∷ before) ds) j)),
  unbroken_of y o (d ∷ before) ds
      (none_right (refusals_21 o before d) (refusals_in_rest (refusals_21 o) (d ∷ before) ds) f)
      (none_right (refusals_23 y o before d) (refusals_in_rest (refusals_23 y o) (d ∷ before) ds) g)
      (none_right (refusals_41 o before d) (refusals_in_rest (refusals_41 o) (d ∷ before) ds) h)
      (none_right (refusals_42 o before d) (refusals_in_rest (refusals_42 o) (d ∷ before) ds) i)
      (none_right (refusals_56 y o before d) (refusals_in_rest (refusals_56 y o) (d ∷ before) ds) j),
)

pub unbroken_front : (y : Types) (o : Outside) (before xs ys : List Declaration)
    → Unbroken y o before (xs ++ ys) → Unbroken y o before xs
unbroken_front y o before [] ys h = tt
unbroken_front y o before (x ∷ xs) ys h = (h.0, unbroken_front y o (x ∷ before) xs ys h.1)

pub unbroken_back : (y : Types) (o : Outside) (before xs ys : List Declaration)
    → Unbroken y o before (xs ++ ys) → Unbroken y o (declarations_before_next before xs) ys
unbroken_back y o before [] ys h = h
unbroken_back y o before (x ∷ xs) ys h = unbroken_back y o (x ∷ before) xs ys h.1

past_onto : (y : Types) (o : Outside) (before xs : List Declaration) → Past y o before
    → Unbroken y o before xs → Past y o (declarations_before_next before xs)
past_onto y o before [] p h = p
past_onto y o before (x ∷ xs) p h = past_onto y o (x ∷ before) xs (h.0, p) h.1

-- ---- depths

not_deep : (y : Types) (o : Outside) (before : List Declaration) (d : Declaration)
    → breaks_rule y o before d ≡ false → is_too_deep y o before d ≡ false
not_deep y o before d e = or_second _ (is_too_deep y o before d) e

deep_fits : (a own : ℕ) → (nat_le a 8 && nat_lt 8 (a + own)) ≡ false → a ≤ 8 → a + own ≤ 8
deep_fits a own e h =
    ltb-false 8 (a + own) (by (nat_le a 8) (le-leb a 8 h) e)
  where
    by : (t : Bool) → t ≡ true → (t && nat_lt 8 (a + own)) ≡ false → nat_lt 8 (a + own) ≡ false
    by true k f = f
    by false k f = absurd cc

around_shallow : (y : Types) (o : Outside) (level : ℕ) (before : List Declaration) → o.depth ≤ 8
    → Past y o before → depth_around y o level before ≤ 8
around_shallow y o level [] few p = omega (arith, few)
around_shallow y o level (d ∷ ds) few p =
    by (around_shallow y o level ds few p.1) (around_shallow y o d.level ds few p.1) (nat_lt d.level level)
  where
    moved : (a b c : ℕ) → a + c + b ≤ 8 → a + (b + c) ≤ 8
    moved a b c h = omega (arith, h)

    by : depth_around y o level ds ≤ 8 → depth_around y o d.level ds ≤ 8 → (t : Bool)
        → o.depth + depth_of_holders y (if t then record { declaration = d; before = ds } ∷ structures_around d.level ds
        else structures_around level ds) ≤ 8
    by outer inner false = outer
    by outer inner true =
        let fits : o.depth + depth_of_holders y (structures_around d.level ds) + own_depth y d ≤ 8
        = deep_fits (o.depth + depth_of_holders y (structures_around d.level ds)) (own_depth y d)
        (not_deep y o ds d p.0) inner in
        moved o.depth (own_depth y d) (depth_of_holders y (structures_around d.level ds)) fits

element_shallow : (y : Types) (o : Outside) (before : List Declaration) (d : Declaration)
    → o.depth ≤ 8 → Past y o before → breaks_rule y o before d ≡ false
    → element_depth y d.of.of ≤ 8
element_shallow y o before d few p e =
    smaller (depth_around y o d.level before) (length d.of.arrays) (element_depth y d.of.of)
    (deep_fits (depth_around y o d.level before) (own_depth y d) (not_deep y o before d e)
    (around_shallow y o d.level before few p))
  where
    smaller : (a b c : ℕ) → a + (b + c) ≤ 8 → c ≤ 8
    smaller a b c h = omega (arith, h)

-- ---- cells

-- a type that isn't too deep isn't too large either, and takes the bits of its cells
abbrev pub Settles : List BlockLayout → Types → Type 0
Settles l y = (e : ElementType) → element_depth y e ≤ 8
    → (uses_oversized y e ≡ false) × IsSettled l (layout_element y e)

holders_pass : (y : Types) (o : Outside) (level : ℕ) (before : List Declaration) → Past y o before
    → list_all (λ h. not (breaks_rule y o h.before h.declaration)) (structures_around level before) ≡ true
holders_pass y o level [] p = refl
holders_pass y o level (d ∷ ds) p =
    by (holders_pass y o level ds p.1) (holders_pass y o d.level ds p.1) (nat_lt d.level level)
  where
    by : list_all (λ h. not (breaks_rule y o h.before h.declaration)) (structures_around level ds) ≡ true
        → list_all (λ h. not (breaks_rule y o h.before h.declaration)) (structures_around d.level ds) ≡ true
        → (t : Bool)
        → list_all (λ h. not (breaks_rule y o h.before h.declaration))
        (if t then record { declaration = d; before = ds } ∷ structures_around d.level ds else structures_around level ds) ≡ true
    by outer inner false = outer
    by outer inner true =
        ap (λ (t : Bool). not t && list_all (λ h. not (breaks_rule y o h.before h.declaration)) (structures_around d.level ds)) p.0
        ∙ inner

three_true : (a b c : Bool) → a ≡ false → b ≡ false → c ≡ true → (not a && not b && c) ≡ true
three_true a b c f g h = rw f (rw g h)

cells_right : (l : List BlockLayout) (y : Types) (o : Outside) (section : PartKind)
    (before ds : List Declaration) → o.depth ≤ 8 → Settles l y → Past y o before
    → Unbroken y o before ds → AllByRecursion (IsRightCell l) (cells_of y o section before ds)
unfolding cell_of
cells_right l y o section before [] few s p h = tt
cells_right l y o section before (d ∷ ds) few s p h = (
  record {
    sound = three_true (breaks_rule y o before d) (uses_oversized y d.of.of)
        (list_all (λ h. not (breaks_rule y o h.before h.declaration)) (structures_around d.level before))
        h.0 (s d.of.of (element_shallow y o before d few p h.0)).0
        (holders_pass y o d.level before p);
    settled = (s d.of.of (element_shallow y o before d few p h.0)).1;
  },
  cells_right l y o section (d ∷ before) ds few s (h.0, p) h.1,
)

opened_right : (l : List BlockLayout) (cs : List Cell) → AllByRecursion (IsRightCell l) cs
    → AllByRecursion (IsRightCell l) (with_first_cell_opening cs)
opened_right l [] h = tt
opened_right l (c ∷ cs) h = by (opened_right l cs h.1) c.sound
  where
    by : AllByRecursion (IsRightCell l) (with_first_cell_opening cs) → (t : Bool)
        → AllByRecursion (IsRightCell l) (if t then record c { opens = true } ∷ cs else c ∷ with_first_cell_opening cs)
    by more true = (record { sound = h.0.sound; settled = h.0.settled }, h.1)
    by more false = (h.0, more)

sections_right : (l : List BlockLayout) (y : Types) (o : Outside) (wanted : PartKind → Bool)
    (before : List Declaration) (ps : List Part) → o.depth ≤ 8 → Settles l y → Past y o before
    → Unbroken y o before (flat_map (λ p. p.items) ps)
    → AllByRecursion (IsRightCell l) (section_cells y o wanted before ps)
sections_right l y o wanted before [] few s p h = tt
sections_right l y o wanted before (q ∷ ps) few s p h =
    all_append (IsRightCell l)
    (if wanted q.kind then with_first_cell_opening (cells_of y o q.kind before q.items) else [])
    (section_cells y o wanted (declarations_before_next before q.items) ps)
    (by (wanted q.kind))
    (sections_right l y o wanted (declarations_before_next before q.items) ps few s (past_onto y o before q.items p own)
    (unbroken_back y o before q.items (flat_map (λ p. p.items) ps) h))
  where
    own : Unbroken y o before q.items
    own = unbroken_front y o before q.items (flat_map (λ p. p.items) ps) h

    by : (t : Bool) → AllByRecursion (IsRightCell l)
        (if t then with_first_cell_opening (cells_of y o q.kind before q.items) else [])
    by true = opened_right l (cells_of y o q.kind before q.items)
        (cells_right l y o q.kind before q.items few s p own)
    by false = tt

returned_right : (l : List BlockLayout) (result : Option Simple)
    → AllByRecursion (IsRightCell l) (returned_cells result)
returned_right l None = tt
returned_right l (Some kind) = (record { sound = refl; settled = tt }, tt)

-- ---- blocks

-- the declarations of a block break none of their rules
pub record AreSoundDeclarations (y : Types) (b : Block) : Type 0 where
  pub by_21 : refusals_in_block refusals_21 b ≡ []
  pub by_23 : refusals_in_block (refusals_23 y) b ≡ []
  pub by_41 : refusals_in_block refusals_41 b ≡ []
  pub by_42 : refusals_in_block refusals_42 b ≡ []
  pub by_56 : refusals_in_block (refusals_56 y) b ≡ []

-- the declarations of a block, in its sections and in its structure
pub record IsUnbroken (y : Types) (b : Block) : Type 0 where
  pub sections : Unbroken y (of_sections b) [] (section_declarations b)
  pub structure : Unbroken y of_structure [] b.components

pub block_unbroken : (y : Types) (b : Block) → AreSoundDeclarations y b → IsUnbroken y b
block_unbroken y b h = record {
  sections = unbroken_of y (of_sections b) [] (section_declarations b)
      (none_left (refusals_in_list (refusals_21 (of_sections b)) (section_declarations b)) (refusals_in_list (refusals_21 of_structure) b.components) h.by_21)
      (none_left (refusals_in_list (refusals_23 y (of_sections b)) (section_declarations b)) (refusals_in_list (refusals_23 y of_structure) b.components) h.by_23)
      (none_left (refusals_in_list (refusals_41 (of_sections b)) (section_declarations b)) (refusals_in_list (refusals_41 of_structure) b.components) h.by_41)
      (none_left (refusals_in_list (refusals_42 (of_sections b)) (section_declarations b)) (refusals_in_list (refusals_42 of_structure) b.components) h.by_42)
      (none_left (refusals_in_list (refusals_56 y (of_sections b)) (section_declarations b)) (refusals_in_list (refusals_56 y of_structure) b.components) h.by_56);
  structure = unbroken_of y of_structure [] b.components
      (none_right (refusals_in_list (refusals_21 (of_sections b)) (section_declarations b)) (refusals_in_list (refusals_21 of_structure) b.components) h.by_21)
      (none_right (refusals_in_list (refusals_23 y (of_sections b)) (section_declarations b)) (refusals_in_list (refusals_23 y of_structure) b.components) h.by_23)
      (none_right (refusals_in_list (refusals_41 (of_sections b)) (section_declarations b)) (refusals_in_list (refusals_41 of_structure) b.components) h.by_41)
      (none_right (refusals_in_list (refusals_42 (of_sections b)) (section_declarations b)) (refusals_in_list (refusals_42 of_structure) b.components) h.by_42)
      (none_right (refusals_in_list (refusals_56 y (of_sections b)) (section_declarations b)) (refusals_in_list (refusals_56 y of_structure) b.components) h.by_56);
}

pub components_right : (l : List BlockLayout) (y : Types) (b : Block) → Settles l y → IsUnbroken y b
    → AllByRecursion (IsRightCell l) (components_of y b)
components_right l y b s h =
    all_append (IsRightCell l)
    (returned_cells b.result ++ section_cells y (of_sections b) (λ k. not (is_temp k)) [] b.parts)
    (cells_of y of_structure part.Static [] b.components)
    (all_append (IsRightCell l) (returned_cells b.result)
    (section_cells y (of_sections b) (λ k. not (is_temp k)) [] b.parts)
    (returned_right l b.result)
    (sections_right l y (of_sections b) (λ k. not (is_temp k)) [] b.parts (omega arith) s tt h.sections))
    (cells_right l y of_structure part.Static [] b.components (omega arith) s tt h.structure)

pub temps_right : (l : List BlockLayout) (y : Types) (b : Block) → Settles l y → IsUnbroken y b
    → AllByRecursion (IsRightCell l) (temps_of y b)
temps_right l y b s h =
    sections_right l y (of_sections b) is_temp [] b.parts (omega arith) s tt h.sections
