-- Cells and refusals by the facts of declarations are those of the declarations themselves.
use Rattle.std.proofs.Common.{ℕ, suc, ◌≡◌, ◌<◌, ◌≤◌, ◌+◌, List, [], ◌∷◌, ◌++◌, append_assoc, Option, Bool, true, false, ◌&&◌, ◌||◌, not, if◌then◌else◌, refl, sym, ◌∙◌, ap, subst, arith, length, drop, get_or}
use Rattle.std.proofs.Math.ListN.{drop_of_length-le}
use Rattle.std.proofs.lemmas.List.{drop_more, append-nil}
use Rattle.plc_base.specs.declared.refusals.Refusal.{Refusal}
use Rattle.stl_ast.specs.declared.blocks.PartKind.{PartKind}
use Rattle.stl_ast.specs.declared.declarations.Declaration.{Declaration}
use Rattle.plc_base.specs.Least.{least, lesser}
use Rattle.plc_base.proofs.LeastLemmas.{least-append, lesser_assoc, lesser_nothing}
use Rattle.block_layout.specs.declared.cells.Cell.{Cell}
use Rattle.block_layout.specs.declared.declaration_facts.DeclarationFacts.{DeclarationFacts}
use Rattle.block_layout.specs.Around.{Outside, refusals_in_rest, declarations_before_next}
use Rattle.block_layout.specs.Cells.{cell_of, cells_of, is_sound, is_temp, with_first_cell_opening}
use Rattle.block_layout.specs.Rule21.{refusals_21}
use Rattle.block_layout.specs.Rule56.{refusals_56}
use Rattle.block_layout.specs.Types.{Types}
use Rattle.stl_ast.specs.declared.blocks.Part.{Part}
use Rattle.block_layout.specs.declared.sections.BlockCells.{BlockCells}
use Rattle.block_layout.specs.declared.declaration_facts.OpenList.{OpenList}
use Rattle.block_layout.specs.DeclarationFacts.{AreOpen, AreFactsOnto, SectionAdded, refusals_by_facts, twice_by, deep_by, cell_with, cells_by, facts_of_declarations}

pub refusals_by_facts_next : (broken : DeclarationFacts → Declaration → List Refusal) (vs : List DeclarationFacts) (ds : List Declaration) (i : ℕ) (v : DeclarationFacts) (d : Declaration) (found one next : Option Refusal) (whole : Option Refusal) →
    i < length ds → length vs ≡ length ds → (e : DeclarationFacts) → v ≡ get_or vs i e → d ≡ get_or ds i d → one ≡ least (broken v (get_or ds i d)) → next ≡ lesser found one →
    lesser found (least (refusals_by_facts broken (drop i vs) (drop i ds))) ≡ whole → lesser next (least (refusals_by_facts broken (drop (i + 1) vs) (drop (i + 1) ds))) ≡ whole
refusals_by_facts_next broken vs ds i v d found one next whole within same e is_v is_d is_got is_next so_far =
    let is_one : one ≡ least (broken v d) = is_got ∙ ap (λ (x : Declaration). least (broken v x)) (sym is_d) in
    let left : drop i vs ≡ v ∷ drop (i + 1) vs = drop_more vs i e (let s = same in omega arith) ∙ ap (λ (x : DeclarationFacts). x ∷ drop (i + 1) vs) (sym is_v) in
    let right : drop i ds ≡ d ∷ drop (i + 1) ds = drop_more ds i d within ∙ ap (λ (x : Declaration). x ∷ drop (i + 1) ds) (sym is_d) in
    let step : refusals_by_facts broken (drop i vs) (drop i ds) ≡ broken v d ++ refusals_by_facts broken (drop (i + 1) vs) (drop (i + 1) ds) = rw left (rw right refl) in
    ap (λ (o : Option Refusal). lesser o (least (refusals_by_facts broken (drop (i + 1) vs) (drop (i + 1) ds)))) (is_next ∙ ap (λ (o : Option Refusal). lesser found o) is_one)
    ∙ lesser_assoc found (least (broken v d)) (least (refusals_by_facts broken (drop (i + 1) vs) (drop (i + 1) ds)))
    ∙ ap (λ (o : Option Refusal). lesser found o) (sym (least-append (broken v d) (refusals_by_facts broken (drop (i + 1) vs) (drop (i + 1) ds))) ∙ ap (λ (l : List Refusal). least l) (sym step))
    ∙ so_far

by_none : (broken : DeclarationFacts → Declaration → List Refusal) (vs : List DeclarationFacts) → refusals_by_facts broken vs [] ≡ []
by_none broken [] = refl
by_none broken (v ∷ vs) = refl

pub refusals_by_facts_done : (broken : DeclarationFacts → Declaration → List Refusal) (vs : List DeclarationFacts) (ds : List Declaration) (i : ℕ) (found whole : Option Refusal) → length ds ≤ i →
    lesser found (least (refusals_by_facts broken (drop i vs) (drop i ds))) ≡ whole → found ≡ whole
refusals_by_facts_done broken vs ds i found whole over so_far =
    sym (lesser_nothing found)
    ∙ ap (λ (l : List Refusal). lesser found (least l)) (sym (ap (λ (l : List Declaration). refusals_by_facts broken (drop i vs) l) (drop_of_length-le ds over) ∙ by_none broken (drop i vs)))
    ∙ so_far

pub cells_next : (y : Types) (section : PartKind) (begun now : Bool) (vs : List DeclarationFacts) (ds : List Declaration) (i : ℕ) (v : DeclarationFacts) (d : Declaration) (one : Cell) (cells more whole : List Cell) →
    i < length ds → length vs ≡ length ds → v ≡ get_or vs i v → d ≡ get_or ds i d → one ≡ cell_with y section v.sound (not begun && v.sound) d → now ≡ (begun || v.sound) → more ≡ cells ++ one ∷ [] →
    cells ++ cells_by y section begun (drop i vs) (drop i ds) ≡ whole → more ++ cells_by y section now (drop (i + 1) vs) (drop (i + 1) ds) ≡ whole
cells_next y section begun now vs ds i v d one cells more whole within same is_v is_d is_one is_now is_more so_far =
    let left : drop i vs ≡ v ∷ drop (i + 1) vs = drop_more vs i v (let s = same in omega arith) ∙ ap (λ (x : DeclarationFacts). x ∷ drop (i + 1) vs) (sym is_v) in
    let right : drop i ds ≡ d ∷ drop (i + 1) ds = drop_more ds i d within ∙ ap (λ (x : Declaration). x ∷ drop (i + 1) ds) (sym is_d) in
    let step : cells_by y section begun (drop i vs) (drop i ds) ≡ one ∷ cells_by y section now (drop (i + 1) vs) (drop (i + 1) ds) = rw left (rw right (rw is_one (rw is_now refl))) in
    ap (λ (l : List Cell). l ++ cells_by y section now (drop (i + 1) vs) (drop (i + 1) ds)) is_more
    ∙ append_assoc cells (one ∷ []) (cells_by y section now (drop (i + 1) vs) (drop (i + 1) ds))
    ∙ ap (λ (l : List Cell). cells ++ l) (sym step) ∙ so_far

cells_by_none : (y : Types) (section : PartKind) (begun : Bool) (vs : List DeclarationFacts) → cells_by y section begun vs [] ≡ []
cells_by_none y section begun [] = refl
cells_by_none y section begun (v ∷ vs) = refl

pub cells_done : (y : Types) (section : PartKind) (begun : Bool) (vs : List DeclarationFacts) (ds : List Declaration) (i : ℕ) (cells whole : List Cell) → length ds ≤ i →
    cells ++ cells_by y section begun (drop i vs) (drop i ds) ≡ whole → cells ≡ whole
cells_done y section begun vs ds i cells whole over so_far =
    sym (append-nil cells)
    ∙ ap (λ (l : List Cell). cells ++ l) (sym (ap (λ (l : List Declaration). cells_by y section begun (drop i vs) l) (drop_of_length-le ds over) ∙ cells_by_none y section begun (drop i vs)))
    ∙ so_far

pub length-facts : (y : Types) (o : Outside) (before ds : List Declaration) → length (facts_of_declarations y o before ds) ≡ length ds
length-facts y o before [] = refl
length-facts y o before (d ∷ ds) = ap (λ (n : ℕ). suc n) (length-facts y o (d ∷ before) ds)

-- cells by the facts of declarations are those of the declarations
pub cells_begun : (y : Types) (o : Outside) (section : PartKind) (before ds : List Declaration) → cells_by y section true (facts_of_declarations y o before ds) ds ≡ cells_of y o section before ds
unfolding cell_with cell_of
cells_begun y o section before [] = refl
cells_begun y o section before (d ∷ ds) = ap (λ (l : List Cell). cell_of y o section before d ∷ l) (cells_begun y o section (d ∷ before) ds)

opened_step : (y : Types) (section : PartKind) (d : Declaration) (sound : Bool) (vs : List DeclarationFacts) (ds : List Declaration) (rest : List Cell) →
    cells_by y section true vs ds ≡ rest → cells_by y section false vs ds ≡ with_first_cell_opening rest →
    cell_with y section sound (not false && sound) d ∷ cells_by y section (false || sound) vs ds ≡ with_first_cell_opening (cell_with y section sound false d ∷ rest)
unfolding cell_with
opened_step y section d true vs ds rest begun closed = ap (λ (l : List Cell). cell_with y section true true d ∷ l) begun
opened_step y section d false vs ds rest begun closed = ap (λ (l : List Cell). cell_with y section false false d ∷ l) closed

pub cells_opened : (y : Types) (o : Outside) (section : PartKind) (before ds : List Declaration) → cells_by y section false (facts_of_declarations y o before ds) ds ≡ with_first_cell_opening (cells_of y o section before ds)
unfolding cell_with cell_of
cells_opened y o section before [] = refl
cells_opened y o section before (d ∷ ds) =
    opened_step y section d (is_sound y o before d) (facts_of_declarations y o (d ∷ before) ds) ds (cells_of y o section (d ∷ before) ds)
    (cells_begun y o section (d ∷ before) ds) (cells_opened y o section (d ∷ before) ds)

pub twice_refusals_same : (y : Types) (o : Outside) (before ds : List Declaration) → refusals_by_facts twice_by (facts_of_declarations y o before ds) ds ≡ refusals_in_rest (refusals_21 o) before ds
twice_refusals_same y o before [] = refl
twice_refusals_same y o before (d ∷ ds) = ap (λ (l : List Refusal). refusals_21 o before d ++ l) (twice_refusals_same y o (d ∷ before) ds)

pub deep_refusals_same : (y : Types) (o : Outside) (before ds : List Declaration) → refusals_by_facts deep_by (facts_of_declarations y o before ds) ds ≡ refusals_in_rest (refusals_56 y o) before ds
deep_refusals_same y o before [] = refl
deep_refusals_same y o before (d ∷ ds) = ap (λ (l : List Refusal). refusals_56 y o before d ++ l) (deep_refusals_same y o (d ∷ before) ds)

pub section_added : (y : Types) (o : Outside) (before : List Declaration) (p : Part) (old new : BlockCells) (open_ : List OpenList) (vs us : List DeclarationFacts) (ds : List Declaration) →
    ds ≡ p.items → us ≡ vs → AreFactsOnto y o before ds vs open_ →
    new.components.items ≡ old.components.items ++ (if is_temp p.kind then [] else cells_by y p.kind false us p.items) →
    new.temps.items ≡ old.temps.items ++ (if is_temp p.kind then cells_by y p.kind false us p.items else []) →
    new.twice ≡ lesser old.twice (least (refusals_by_facts twice_by us ds)) → new.deep ≡ lesser old.deep (least (refusals_by_facts deep_by us ds)) →
    SectionAdded y o before p old new open_
section_added y o before p old new open_ vs us ds are same checked are_components are_temps is_twice is_deep =
    let by : us ≡ facts_of_declarations y o before p.items = same ∙ checked.facts ∙ ap (λ (l : List Declaration). facts_of_declarations y o before l) are in
    let cells : cells_by y p.kind false us p.items ≡ with_first_cell_opening (cells_of y o p.kind before p.items) =
    ap (λ (l : List DeclarationFacts). cells_by y p.kind false l p.items) by ∙ cells_opened y o p.kind before p.items in
    record {
      lists = subst (λ (l : List Declaration). AreOpen y o (declarations_before_next before l) open_) are checked.lists;
      components = are_components ∙ ap (λ (l : List Cell). old.components.items ++ (if is_temp p.kind then [] else l)) cells;
      temps = are_temps ∙ ap (λ (l : List Cell). old.temps.items ++ (if is_temp p.kind then l else [])) cells;
      twice = is_twice ∙ ap (λ (l : List Refusal). lesser old.twice (least l)) (ap (λ (l : List Declaration). refusals_by_facts twice_by us l) are ∙ ap (λ (l : List DeclarationFacts). refusals_by_facts twice_by l p.items) by ∙ twice_refusals_same y o before p.items);
      deep = is_deep ∙ ap (λ (l : List Refusal). lesser old.deep (least l)) (ap (λ (l : List Declaration). refusals_by_facts deep_by us l) are ∙ ap (λ (l : List DeclarationFacts). refusals_by_facts deep_by l p.items) by ∙ deep_refusals_same y o before p.items);
    }
