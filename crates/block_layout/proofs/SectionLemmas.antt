-- What the sections of a block come to, one section after the other.
use Rattle.std.proofs.Common.{ℕ, zero, suc, ◌≡◌, ◌<◌, ◌≤◌, ◌+◌, List, [], ◌∷◌, ◌++◌, append_assoc, Option, None, Bool, true, false, not, if◌then◌else◌, refl, sym, ◌∙◌, ap, subst, arith, length, drop, get_or}
use Rattle.std.specs.List.{flat_map}
use Rattle.std.proofs.Math.ListN.{drop_of_length-le}
use Rattle.std.proofs.lemmas.List.{drop_more, append-nil}
use Rattle.plc_base.specs.declared.refusals.Refusal.{Refusal}
use Rattle.stl_ast.specs.declared.blocks.Block.{Block}
use Rattle.stl_ast.specs.declared.blocks.Part.{Part}
use Rattle.stl_ast.specs.declared.declarations.Declaration.{Declaration}
use Rattle.plc_base.specs.Least.{least, lesser}
use Rattle.plc_base.proofs.LeastLemmas.{least-append, lesser_assoc, lesser_first, lesser_nothing}
use Rattle.block_layout.specs.declared.cells.Cell.{Cell}
use Rattle.block_layout.specs.declared.sections.BlockCells.{BlockCells}
use Rattle.block_layout.specs.declared.declaration_facts.OpenList.{OpenList}
use Rattle.block_layout.specs.Around.{Outside, refusals_in_list, refusals_in_rest, declarations_before_next, of_sections, of_structure, returned_names, section_declarations}
use Rattle.block_layout.specs.Cells.{cells_of, is_temp, with_first_cell_opening, section_cells, returned_cells, temps_of}
use Rattle.block_layout.specs.Rule21.{refusals_21}
use Rattle.block_layout.specs.Rule56.{refusals_56}
use Rattle.block_layout.specs.Types.{Types}
use Rattle.block_layout.specs.DeclarationFacts.{IsDeclaredByBlock, AreOpen, IsDeclaredBySections, SectionAdded, refusals_by_facts, cells_by, deep_by, open_list_of, twice_by, facts_of_declarations}
use Rattle.block_layout.specs.Measures.{capped_depth}
use Rattle.block_layout.specs.declared.declaration_facts.DeclarationFacts.{DeclarationFacts}
use Rattle.stl_ast.specs.declared.blocks.PartKind.TheVariants as part
use Rattle.block_layout.proofs.CellLemmas.{cells_begun, twice_refusals_same, deep_refusals_same}

rest_append : (broken : List Declaration → Declaration → List Refusal) (before xs ys : List Declaration) → refusals_in_rest broken before (xs ++ ys) ≡ refusals_in_rest broken before xs ++ refusals_in_rest broken (declarations_before_next before xs) ys
rest_append broken before [] ys = refl
rest_append broken before (x ∷ xs) ys =
    ap (λ (l : List Refusal). broken before x ++ l) (rest_append broken (x ∷ before) xs ys)
    ∙ sym (append_assoc (broken before x) (refusals_in_rest broken (x ∷ before) xs) (refusals_in_rest broken (declarations_before_next (x ∷ before) xs) ys))

-- the sections `ps` of a block are left, behind those that have come to `made`
pub record AreSectionsLeft (y : Types) (b : Block) (ps : List Part) (made : BlockCells) (open_ : List OpenList) : Type 0 where
  pub now : List Declaration
  pub lists : AreOpen y (of_sections b) now open_
  pub components : made.components.items ++ section_cells y (of_sections b) (λ k. not (is_temp k)) now ps
      ≡ returned_cells b.result ++ section_cells y (of_sections b) (λ k. not (is_temp k)) [] b.parts
  pub temps : made.temps.items ++ section_cells y (of_sections b) is_temp now ps ≡ temps_of y b
  pub twice : lesser made.twice (least (refusals_in_rest (refusals_21 (of_sections b)) now (flat_map (λ p. p.items) ps))) ≡ least (refusals_in_list (refusals_21 (of_sections b)) (section_declarations b))
  pub deep : lesser made.deep (least (refusals_in_rest (refusals_56 y (of_sections b)) now (flat_map (λ p. p.items) ps))) ≡ least (refusals_in_list (refusals_56 y (of_sections b)) (section_declarations b))

rest_next : (broken : List Declaration → Declaration → List Refusal) (now items more : List Declaration) (found next whole : Option Refusal) →
    next ≡ lesser found (least (refusals_in_rest broken now items)) → lesser found (least (refusals_in_rest broken now (items ++ more))) ≡ whole →
    lesser next (least (refusals_in_rest broken (declarations_before_next now items) more)) ≡ whole
rest_next broken now items more found next whole is_next so_far =
    ap (λ (o : Option Refusal). lesser o (least (refusals_in_rest broken (declarations_before_next now items) more))) is_next
    ∙ lesser_assoc found (least (refusals_in_rest broken now items)) (least (refusals_in_rest broken (declarations_before_next now items) more))
    ∙ ap (λ (o : Option Refusal). lesser found o) (sym (least-append (refusals_in_rest broken now items) (refusals_in_rest broken (declarations_before_next now items) more)) ∙ ap (λ (l : List Refusal). least l) (sym (rest_append broken now items more)))
    ∙ so_far

pub sections_left_next : (y : Types) (b : Block) (p : Part) (ps : List Part) (made new : BlockCells) (open_ now_open : List OpenList) → AreSectionsLeft y b (p ∷ ps) made open_ →
    ((o : Outside) (before : List Declaration) → AreOpen y o before open_ → SectionAdded y o before p made new now_open) → AreSectionsLeft y b ps new now_open
sections_left_next y b p ps made new open_ now_open left added =
    let one = added (of_sections b) left.now left.lists in
    record {
      now = declarations_before_next left.now p.items;
      lists = one.lists;
      components = ap (λ (l : List Cell). l ++ section_cells y (of_sections b) (λ k. not (is_temp k)) (declarations_before_next left.now p.items) ps) one.components
          ∙ append_assoc made.components.items (if is_temp p.kind then [] else with_first_cell_opening (cells_of y (of_sections b) p.kind left.now p.items)) (section_cells y (of_sections b) (λ k. not (is_temp k)) (declarations_before_next left.now p.items) ps)
          ∙ ap (λ (l : List Cell). made.components.items ++ (l ++ section_cells y (of_sections b) (λ k. not (is_temp k)) (declarations_before_next left.now p.items) ps)) (turned (is_temp p.kind) (with_first_cell_opening (cells_of y (of_sections b) p.kind left.now p.items)))
          ∙ left.components;
      temps = ap (λ (l : List Cell). l ++ section_cells y (of_sections b) is_temp (declarations_before_next left.now p.items) ps) one.temps
          ∙ append_assoc made.temps.items (if is_temp p.kind then with_first_cell_opening (cells_of y (of_sections b) p.kind left.now p.items) else []) (section_cells y (of_sections b) is_temp (declarations_before_next left.now p.items) ps)
          ∙ left.temps;
      twice = rest_next (refusals_21 (of_sections b)) left.now p.items (flat_map (λ p. p.items) ps) made.twice new.twice _ one.twice left.twice;
      deep = rest_next (refusals_56 y (of_sections b)) left.now p.items (flat_map (λ p. p.items) ps) made.deep new.deep _ one.deep left.deep;
    }
  where
    turned : (t : Bool) (l : List Cell) → (if t then [] else l) ≡ (if not t then l else [])
    turned true l = refl
    turned false l = refl

pub sections_left_done : (y : Types) (b : Block) (made : BlockCells) (open_ : List OpenList) → AreSectionsLeft y b [] made open_ → IsDeclaredBySections y b made
sections_left_done y b made open_ left = record {
  components = sym (append-nil made.components.items) ∙ left.components;
  temps = sym (append-nil made.temps.items) ∙ left.temps;
  twice = sym (lesser_nothing made.twice) ∙ left.twice;
  deep = sym (lesser_nothing made.deep) ∙ left.deep;
}

pub parts_split : (ps : List Part) (i : ℕ) (p : Part) → i < length ps → p ≡ get_or ps i p → drop i ps ≡ p ∷ drop (i + 1) ps
parts_split ps i p within is_p = drop_more ps i p within ∙ ap (λ (x : Part). x ∷ drop (i + 1) ps) (sym is_p)

pub parts_none : (ps : List Part) (i : ℕ) → length ps ≤ i → drop i ps ≡ []
parts_none ps i over = drop_of_length-le ps over

pub first_open : (y : Types) (o : Outside) (f : OpenList) → f.names ≡ o.names → f.depth ≡ capped_depth o.depth → f.sound ≡ true → AreOpen y o [] (f ∷ [])
first_open y o f names depth sound = record { lists = λ level g below. at level g below }
  where
    plus_0 : (n : ℕ) → capped_depth n ≡ capped_depth (n + 0)
    plus_0 n = omega arith

    at : (level : ℕ) (g : OpenList) → level < length (f ∷ []) → get_or (f ∷ []) level g ≡ open_list_of y o [] level
    at zero g below = same f names depth sound
      where
        same : (h : OpenList) → h.names ≡ o.names → h.depth ≡ capped_depth o.depth → h.sound ≡ true → h ≡ open_list_of y o [] 0
        same h ns d s = ap (λ (l : List (List ℕ)). record h { names = l }) ns ∙ ap (λ (n : ℕ). record { names = o.names; depth = n; sound = h.sound }) (d ∙ plus_0 o.depth)
            ∙ ap (λ (b : Bool). record { names = o.names; depth = capped_depth (o.depth + 0); sound = b }) s
    at (suc level) g below = absurd (let never : ⊥ = omega arith in never)

pub sections_left_first : (y : Types) (b : Block) (made : BlockCells) (f : OpenList) (open_ : List OpenList) → open_ ≡ f ∷ [] → f.names ≡ returned_names b.result → f.depth ≡ 0 → f.sound ≡ true →
    made.components.items ≡ returned_cells b.result → made.temps.items ≡ [] → made.twice ≡ None → made.deep ≡ None → AreSectionsLeft y b b.parts made open_
sections_left_first y b made f open_ is_open names depth sound components temps twice deep_ = record {
  now = [];
  lists = subst (λ (l : List OpenList). AreOpen y (of_sections b) [] l) (sym is_open) (first_open y (of_sections b) f names depth sound);
  components = ap (λ (l : List Cell). l ++ section_cells y (of_sections b) (λ k. not (is_temp k)) [] b.parts) components;
  temps = ap (λ (l : List Cell). l ++ section_cells y (of_sections b) is_temp [] b.parts) temps;
  twice = ap (λ (o : Option Refusal). lesser o (least (refusals_in_list (refusals_21 (of_sections b)) (section_declarations b)))) twice ∙ lesser_first _;
  deep = ap (λ (o : Option Refusal). lesser o (least (refusals_in_list (refusals_56 y (of_sections b)) (section_declarations b)))) deep_ ∙ lesser_first _;
}

pub declared_all : (y : Types) (b : Block) (made new : BlockCells) (vs : List DeclarationFacts) → IsDeclaredBySections y b made → vs ≡ facts_of_declarations y of_structure [] b.components →
    new.components.items ≡ made.components.items ++ cells_by y part.Static true vs b.components → new.temps ≡ made.temps →
    new.twice ≡ lesser made.twice (least (refusals_by_facts twice_by vs b.components)) → new.deep ≡ lesser made.deep (least (refusals_by_facts deep_by vs b.components)) → IsDeclaredByBlock y b new
declared_all y b made new vs sections are components temps twice deep_ = record {
  components = components ∙ ap (λ (l : List Cell). l ++ cells_by y part.Static true vs b.components) sections.components
      ∙ ap (λ (l : List Cell). (returned_cells b.result ++ section_cells y (of_sections b) (λ k. not (is_temp k)) [] b.parts) ++ l)
      (ap (λ (l : List DeclarationFacts). cells_by y part.Static true l b.components) are ∙ cells_begun y of_structure part.Static [] b.components);
  temps = ap (λ v. v.items) temps ∙ sections.temps;
  twice = twice ∙ ap (λ (o : Option Refusal). lesser o (least (refusals_by_facts twice_by vs b.components))) sections.twice
      ∙ ap (λ (l : List Refusal). lesser (least (refusals_in_list (refusals_21 (of_sections b)) (section_declarations b))) (least l))
      (ap (λ (l : List DeclarationFacts). refusals_by_facts twice_by l b.components) are ∙ twice_refusals_same y of_structure [] b.components)
      ∙ sym (least-append (refusals_in_list (refusals_21 (of_sections b)) (section_declarations b)) (refusals_in_list (refusals_21 of_structure) b.components));
  deep = deep_ ∙ ap (λ (o : Option Refusal). lesser o (least (refusals_by_facts deep_by vs b.components))) sections.deep
      ∙ ap (λ (l : List Refusal). lesser (least (refusals_in_list (refusals_56 y (of_sections b)) (section_declarations b))) (least l))
      (ap (λ (l : List DeclarationFacts). refusals_by_facts deep_by l b.components) are ∙ deep_refusals_same y of_structure [] b.components)
      ∙ sym (least-append (refusals_in_list (refusals_56 y (of_sections b)) (section_declarations b)) (refusals_in_list (refusals_56 y of_structure) b.components));
}

pub sections_left_at : (y : Types) (b : Block) (made : BlockCells) (open_ : List OpenList) (ps qs : List Part) → ps ≡ qs → AreSectionsLeft y b ps made open_ → AreSectionsLeft y b qs made open_
sections_left_at y b made open_ ps qs same left = subst (λ (l : List Part). AreSectionsLeft y b l made open_) same left
