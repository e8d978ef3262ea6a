-- The rounds in which data types are measured settle: types that are nested at most eight deep have
-- in the ninth round the bits that their cells take.
use Rattle.std.proofs.Common.{ℕ, zero, suc, ◌≡◌, ◌<◌, ◌≤◌, ◌+◌, max, List, [], ◌∷◌, Option, Some, None, Bool, true, false, ◌&&◌, ◌||◌, not, nat_lt, nat_le, refl, sym, ◌∙◌, ap, ap₂, subst, arith, length, map, get_or, if◌then◌else◌}
use Rattle.std.specs.List.{AllByRecursion, list_all, slice_get}
use Rattle.plc_base.specs.Kinds.{is_data_type}
use Rattle.stl_ast.specs.declared.blocks.Block.{Block}
use Rattle.stl_ast.specs.declared.blocks.PartKind.{PartKind}
use Rattle.stl_ast.specs.declared.blocks.PartKind.TheVariants as part
use Rattle.stl_ast.specs.declared.declarations.Declaration.{Declaration}
use Rattle.stl_ast.specs.declared.declarations.ElementType.{ElementType}
use Rattle.stl_ast.specs.declared.declarations.ElementType.TheVariants as element
use Rattle.plc_base.specs.Folding.{upper_case_name}
use Rattle.block_layout.specs.Around.{Holder, Outside, structures_around, of_structure}
use Rattle.block_layout.specs.Cells.{breaks_rule, cell_of, cells_of, is_oversized, is_sound, layout_element, preset_of, udt_element, uses_oversized}
use Rattle.block_layout.specs.Declarations.{has_upside_down, init_fits, is_unknown_type}
use Rattle.block_layout.specs.Measures.{bits_after, capped_depth, deepest_nesting, depths_after, type_bits, type_depth, with_bits, with_depths}
use Rattle.block_layout.specs.Rule21.{is_twice}
use Rattle.block_layout.specs.Rule56.{element_depth, is_too_deep, depth_of_holders, own_depth, udt_depth}
use Rattle.block_layout.specs.Sizes.{structure_bits}
use Rattle.block_layout.specs.Types.{Types, data_type_place}
use Rattle.block_layout.specs.declared.cells.Cell.{Cell}
use Rattle.block_layout.specs.declared.cells.Element.{Element}
use Rattle.block_layout.specs.declared.cells.Element.TheVariants.{Udt}

-- ---- the bits of types have no part in their depths

element_depth_same : (y : Types) (a b : List ℕ) (e : ElementType)
    → element_depth (with_bits y a) e ≡ element_depth (with_bits y b) e
element_depth_same y a b element.Structure = refl
element_depth_same y a b (element.Udt name) = refl
element_depth_same y a b (element.Plain kind) = refl
element_depth_same y a b element.DateAndTime = refl

own_depth_same : (y : Types) (a b : List ℕ) (d : Declaration)
    → own_depth (with_bits y a) d ≡ own_depth (with_bits y b) d
own_depth_same y a b d =
    ap (λ (n : ℕ). length d.of.arrays + n) (element_depth_same y a b d.of.of)

opened_same : (y : Types) (a b : List ℕ) (hs : List Holder)
    → depth_of_holders (with_bits y a) hs ≡ depth_of_holders (with_bits y b) hs
opened_same y a b [] = refl
opened_same y a b (h ∷ hs) =
    ap₂ (λ (m n : ℕ). m + n) (own_depth_same y a b h.declaration) (opened_same y a b hs)

unknown_same : (y : Types) (a b : List ℕ) (e : ElementType)
    → is_unknown_type (with_bits y a) e ≡ is_unknown_type (with_bits y b) e
unknown_same y a b element.Structure = refl
unknown_same y a b (element.Udt name) = refl
unknown_same y a b (element.Plain kind) = refl
unknown_same y a b element.DateAndTime = refl

deep_same : (y : Types) (a b : List ℕ) (o : Outside) (before : List Declaration) (d : Declaration)
    → is_too_deep (with_bits y a) o before d ≡ is_too_deep (with_bits y b) o before d
deep_same y a b o before d =
    ap₂ (λ (m n : ℕ). nat_le m 8 && nat_lt 8 (m + n))
    (ap (λ (n : ℕ). o.depth + n) (opened_same y a b (structures_around d.level before)))
    (own_depth_same y a b d)

breaks_same : (y : Types) (a b : List ℕ) (o : Outside) (before : List Declaration) (d : Declaration)
    → breaks_rule (with_bits y a) o before d ≡ breaks_rule (with_bits y b) o before d
breaks_same y a b o before d =
    ap₂ (λ (s t : Bool). is_twice o before d || s || not (init_fits d) || has_upside_down d || t)
    (unknown_same y a b d.of.of) (deep_same y a b o before d)

holders_same : (y : Types) (a b : List ℕ) (o : Outside) (hs : List Holder)
    → list_all (λ h. not (breaks_rule (with_bits y a) o h.before h.declaration)) hs
    ≡ list_all (λ h. not (breaks_rule (with_bits y b) o h.before h.declaration)) hs
holders_same y a b o [] = refl
holders_same y a b o (h ∷ hs) =
    ap₂ (λ (s t : Bool). not s && t) (breaks_same y a b o h.before h.declaration)
    (holders_same y a b o hs)

-- ---- cells by types of which the used ones have the same bits

abbrev Agree : Types → (a b : List ℕ) → ElementType → Type 0
Agree y a b (element.Udt name) = (v : ℕ) → data_type_place y name ≡ Some v → get_or a v 0 ≡ get_or b v 0
Agree y a b _ = Unit {0}

oversized_by : (a b : List ℕ) (o : Option ℕ) → ((v : ℕ) → o ≡ Some v → get_or a v 0 ≡ get_or b v 0)
    → is_oversized a o ≡ is_oversized b o
oversized_by a b None h = refl
oversized_by a b (Some v) h = ap (λ (n : ℕ). nat_lt 131072 n) (h v refl)

oversized_same : (y : Types) (a b : List ℕ) (e : ElementType) → Agree y a b e
    → uses_oversized (with_bits y a) e ≡ uses_oversized (with_bits y b) e
oversized_same y a b (element.Udt name) h = oversized_by a b (data_type_place y name) h
oversized_same y a b element.Structure h = refl
oversized_same y a b (element.Plain kind) h = refl
oversized_same y a b element.DateAndTime h = refl

laid_by : (a b : List ℕ) (o : Option ℕ) → ((v : ℕ) → o ≡ Some v → get_or a v 0 ≡ get_or b v 0)
    → udt_element a o ≡ udt_element b o
laid_by a b None h = refl
laid_by a b (Some v) h = ap (λ (n : ℕ). Udt v n) (h v refl)

laid_same : (y : Types) (a b : List ℕ) (e : ElementType) → Agree y a b e
    → layout_element (with_bits y a) e ≡ layout_element (with_bits y b) e
laid_same y a b (element.Udt name) h = laid_by a b (data_type_place y name) h
laid_same y a b element.Structure h = refl
laid_same y a b (element.Plain kind) h = refl
laid_same y a b element.DateAndTime h = refl

-- the cell of a declaration by whether it is sound and what it is of
abbrev cell_with : PartKind → Declaration → Bool → Element → Cell
cell_with section d sound of = record {
  name = upper_case_name d.name;
  section = section;
  level = d.level;
  opens = false;
  sound = sound;
  bounds = d.of.arrays;
  of = of;
  presets = map preset_of d.init;
}

cell_is : (y : Types) (o : Outside) (section : PartKind) (before : List Declaration) (d : Declaration)
    → cell_of y o section before d ≡ cell_with section d (is_sound y o before d) (layout_element y d.of.of)
unfolding cell_of
cell_is y o section before d = refl

sound_same : (y : Types) (a b : List ℕ) (o : Outside) (before : List Declaration) (d : Declaration)
    → Agree y a b d.of.of
    → is_sound (with_bits y a) o before d ≡ is_sound (with_bits y b) o before d
sound_same y a b o before d h =
    ap₂ (λ (s t : Bool). not s && not t
    && list_all (λ h. not (breaks_rule (with_bits y a) o h.before h.declaration)) (structures_around d.level before))
    (breaks_same y a b o before d) (oversized_same y a b d.of.of h)
    ∙ ap (λ (t : Bool). not (breaks_rule (with_bits y b) o before d)
    && not (uses_oversized (with_bits y b) d.of.of) && t)
    (holders_same y a b o (structures_around d.level before))

cells_same : (y : Types) (a b : List ℕ) (o : Outside) (section : PartKind) (before ds : List Declaration)
    → AllByRecursion (λ d. Agree y a b d.of.of) ds
    → cells_of (with_bits y a) o section before ds ≡ cells_of (with_bits y b) o section before ds
cells_same y a b o section before [] h = refl
cells_same y a b o section before (d ∷ ds) h =
    ap₂ (λ (c : Cell) (cs : List Cell). c ∷ cs)
    (cell_is (with_bits y a) o section before d
    ∙ ap₂ (λ (s : Bool) (of : Element). cell_with section d s of)
    (sound_same y a b o before d h.0) (laid_same y a b d.of.of h.0)
    ∙ sym (cell_is (with_bits y b) o section before d))
    (cells_same y a b o section (d ∷ before) ds h.1)

-- ---- the rounds settle

got_mapped : {A : Type 0} (f : A → ℕ) (xs : List A) (i : ℕ) (x : A) → slice_get xs i ≡ Some x
    → get_or (map f xs) i 0 ≡ f x
got_mapped f [] i x e = absurd cc
got_mapped f (y ∷ ys) zero x e = ap f (let same : y ≡ x = cc in same)
got_mapped f (y ∷ ys) (suc i) x e = got_mapped f ys i x e

got_none : {A : Type 0} (f : A → ℕ) (xs : List A) (i : ℕ) → slice_get xs i ≡ None
    → get_or (map f xs) i 0 ≡ 0
got_none f [] i e = refl
got_none f (y ∷ ys) zero e = absurd cc
got_none f (y ∷ ys) (suc i) e = got_none f ys i e

-- what a structure uses is less deep than the structure
used_less : (y : Types) (before ds : List Declaration) (n : ℕ)
    → deepest_nesting y of_structure before ds ≤ n
    → AllByRecursion (λ d. suc (element_depth y d.of.of) ≤ n) ds
used_less y before [] n h = tt
used_less y before (d ∷ ds) n h = (
  first (depth_of_holders y (structures_around d.level before)) (length d.of.arrays) (element_depth y d.of.of)
      (deepest_nesting y of_structure (d ∷ before) ds) h,
  used_less y (d ∷ before) ds n
      (rest (1 + depth_of_holders y (structures_around d.level before)) (length d.of.arrays + element_depth y d.of.of)
      (deepest_nesting y of_structure (d ∷ before) ds) h),
)
  where
    first : (opened arrays depth more : ℕ) → max (1 + opened + (arrays + depth)) more ≤ n → suc depth ≤ n
    first opened arrays depth more h = omega (arith, h)

    rest : (around own more : ℕ) → max (around + own) more ≤ n → more ≤ n
    rest around own more h = omega (arith, h)

-- a list of types at a round, for what a declaration uses
agree_one : (y : Types) (depths a b : List ℕ) (n : ℕ) (e : ElementType)
    → suc (element_depth (with_depths y depths) e) ≤ n
    → ((v : ℕ) → get_or depths v 0 < n → get_or a v 0 ≡ get_or b v 0) → Agree y a b e
agree_one y depths a b n (element.Udt name) h same =
    λ v is. same v (subst (λ (o : Option ℕ). suc (udt_depth depths o) ≤ n) is h)
agree_one y depths a b n element.Structure h same = tt
agree_one y depths a b n (element.Plain kind) h same = tt
agree_one y depths a b n element.DateAndTime h same = tt

agree_all : (y : Types) (depths a b : List ℕ) (n : ℕ) (ds : List Declaration)
    → AllByRecursion (λ d. suc (element_depth (with_depths y depths) d.of.of) ≤ n) ds
    → ((v : ℕ) → get_or depths v 0 < n → get_or a v 0 ≡ get_or b v 0)
    → AllByRecursion (λ d. Agree y a b d.of.of) ds
agree_all y depths a b n [] h same = tt
agree_all y depths a b n (d ∷ ds) h same =
    (agree_one y depths a b n d.of.of h.0 same, agree_all y depths a b n ds h.1 same)

-- a type whose components agree has the same bits in both rounds
type_same : (y : Types) (depths a b : List ℕ) (n : ℕ) (block : Block)
    → type_depth (with_depths y depths) block < suc n → n ≤ 8
    → ((v : ℕ) → get_or depths v 0 < n → get_or a v 0 ≡ get_or b v 0)
    → (all : List ℕ)
    → type_bits (with_bits (with_depths y all) a) block ≡ type_bits (with_bits (with_depths y all) b) block
unfolding type_depth type_bits
type_same y depths a b n block less few same all = by (is_data_type block.kind) less
  where
    by : (t : Bool)
        → (if t then capped_depth (deepest_nesting (with_depths y depths) of_structure [] block.components) else 0) < suc n
        → (if t then structure_bits (cells_of (with_bits (with_depths y all) a) of_structure part.Static [] block.components) else 0)
        ≡ (if t then structure_bits (cells_of (with_bits (with_depths y all) b) of_structure part.Static [] block.components) else 0)
    by false h = refl
    by true h =
        ap (λ (cs : List Cell). structure_bits cs)
        (cells_same (with_depths y all) a b of_structure part.Static [] block.components
        (agree_all y depths a b n block.components
        (used_less (with_depths y depths) [] block.components n (omega (arith, h, few))) same))

settles : (y : Types) (all : List ℕ) (blocks : List Block) (n : ℕ) → n ≤ 9 → (u : ℕ)
    → get_or (depths_after n y blocks) u 0 < n
    → get_or (bits_after n (with_depths y all) blocks) u 0
    ≡ get_or (bits_after (suc n) (with_depths y all) blocks) u 0
settles y all blocks zero few u less = absurd (omega (arith, less))
settles y all blocks (suc n) few u less =
    by (slice_get blocks u) refl (settles y all blocks n (omega (arith, few)))
  where
    by : (o : Option Block) → slice_get blocks u ≡ o
        → ((v : ℕ) → get_or (depths_after n y blocks) v 0 < n
        → get_or (bits_after n (with_depths y all) blocks) v 0
        ≡ get_or (bits_after (suc n) (with_depths y all) blocks) v 0)
        → get_or (bits_after (suc n) (with_depths y all) blocks) u 0
        ≡ get_or (bits_after (suc (suc n)) (with_depths y all) blocks) u 0
    by None e same =
        got_none (type_bits (with_bits (with_depths y all) (bits_after n (with_depths y all) blocks))) blocks u e
        ∙ sym (got_none (type_bits (with_bits (with_depths y all) (bits_after (suc n) (with_depths y all) blocks))) blocks u e)
    by (Some b) e same =
        got_mapped (type_bits (with_bits (with_depths y all) (bits_after n (with_depths y all) blocks))) blocks u b e
        ∙ type_same y (depths_after n y blocks) (bits_after n (with_depths y all) blocks)
        (bits_after (suc n) (with_depths y all) blocks) n b
        (subst (λ (k : ℕ). k < suc n)
        (got_mapped (type_depth (with_depths y (depths_after n y blocks))) blocks u b e) less)
        (omega (arith, few)) same all
        ∙ sym (got_mapped (type_bits (with_bits (with_depths y all) (bits_after (suc n) (with_depths y all) blocks))) blocks u b e)

-- in the last round a type that isn't deeper than all takes the bits of its cells
pub type_settled : (y : Types) (blocks : List Block) (n : ℕ) → n ≤ 9 → (u : ℕ) (b : Block)
    → slice_get blocks u ≡ Some b → get_or (depths_after n y blocks) u 0 < n
    → get_or (bits_after n (with_depths y (depths_after n y blocks)) blocks) u 0
    ≡ type_bits (with_bits (with_depths y (depths_after n y blocks))
    (bits_after n (with_depths y (depths_after n y blocks)) blocks)) b
type_settled y blocks n few u b there less =
    settles y (depths_after n y blocks) blocks n few u less
    ∙ got_mapped (type_bits (with_bits (with_depths y (depths_after n y blocks))
    (bits_after n (with_depths y (depths_after n y blocks)) blocks))) blocks u b there
