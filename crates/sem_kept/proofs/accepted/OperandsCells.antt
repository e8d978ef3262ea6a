-- The cells of a source that breaks no rule are sound, and its data types take the bits of theirs.
use Rattle.std.proofs.Common.{ℕ, ◌≡◌, ◌≤◌, List, [], Option, Some, None, Bool, true, false, nat_lt, refl, sym, ◌∙◌, ap, subst, arith, get_or, if◌then◌else◌, le-ltb}
use Rattle.std.specs.List.{slice_get}
use Rattle.plc_base.specs.Kinds.{is_data_type}
use Rattle.plc_base.specs.declared.blocks.BlockId.{BlockId}
use Rattle.plc_base.specs.declared.blocks.BlockKind.TheVariants as kinds
use Rattle.stl_ast.specs.declared.blocks.Block.{Block}
use Rattle.stl_ast.specs.declared.blocks.Tree.{Tree}
use Rattle.stl_ast.specs.declared.declarations.ElementType.TheVariants as element
use Rattle.stl_symbols.specs.Symbol.{Symbol}
use Rattle.block_layout.specs.Blocks.{id_of}
use Rattle.block_layout.specs.Cells.{components_of, is_oversized, temps_of, udt_element}
use Rattle.block_layout.specs.Layouts.{block_layout, layouts_of}
use Rattle.block_layout.specs.Measures.{types_of_source}
use Rattle.block_layout.specs.Paths.{cells_at, cells_in}
use Rattle.block_layout.specs.Rule56.{udt_depth}
use Rattle.block_layout.specs.Sizes.{structure_bits}
use Rattle.block_layout.specs.Types.{data_type_place}
use Rattle.block_layout.specs.declared.blocks.BlockLayout.{BlockLayout}
use Rattle.block_layout.specs.declared.cells.Cell.{Cell}
use Rattle.block_layout.proofs.CommonLemmas.{all_there, IsOrigin, origin}
use Rattle.sem_kept.proofs.accepted.Accepted.{IsSoundBlock, IsSoundTree, sound_at}
use Rattle.block_layout.proofs.AlignmentLemmas.{AreRight, IsRightCell, IsSettled}
use Rattle.block_layout.proofs.BlockLemmas.{IsFoundBlock, found_there, kind_there}
use Rattle.block_layout.proofs.SoundnessLemmas.{Settles, IsUnbroken, block_unbroken, components_right, temps_right}
use Rattle.block_layout.proofs.LayoutLemmas.{laid_origin, layouts_are, layout_at, measured_ids}
use Rattle.block_layout.proofs.DataTypeLemmas.{IsType, type_of_block, data_type, small_type, type_bits_are, types_measured}

-- ---- the layouts of the blocks

-- a layout with the block that it is of
pub record IsLaid (symbols : List Symbol) (t : Tree) (k : ℕ) (l : BlockLayout) : Type 0 where
  pub block : Block
  pub sound : IsSoundBlock symbols t k block l

pub block_of_layout : (symbols : List Symbol) (t : Tree) → IsSoundTree symbols t → (k : ℕ)
    (l : BlockLayout) → slice_get (layouts_of t symbols) k ≡ Some l → IsLaid symbols t k l
block_of_layout symbols t h k l e =
    let found = laid_origin (types_of_source symbols t.blocks) t.blocks [] t.blocks k l
    (ap (λ (ls : List BlockLayout). slice_get ls k) (sym (layouts_are symbols t)) ∙ e) in
    record { block = found.0; sound = sound_at symbols t h k found.0 l found.1 e }

pub layout_of_block : (symbols : List Symbol) (t : Tree) → IsSoundTree symbols t → (k : ℕ)
    (b : Block) → slice_get t.blocks k ≡ Some b
    → (l : BlockLayout) × (slice_get (layouts_of t symbols) k ≡ Some l) × IsSoundBlock symbols t k b l
layout_of_block symbols t h k b e =
    let found = layout_at symbols t k b e in
    (found.0, found.1, sound_at symbols t h k b found.0 e found.1)

-- ---- cells, and the data types that they name

pub cells_are : (symbols : List Symbol) (t : Tree) (k : ℕ) (b : Block) (l : BlockLayout)
    → IsSoundBlock symbols t k b l → (temporary : Bool)
    → cells_at (layouts_of t symbols) k temporary
    ≡ (if temporary then temps_of (types_of_source symbols t.blocks) b else components_of (types_of_source symbols t.blocks) b)
unfolding block_layout
cells_are symbols t k b l h temporary =
    ap (λ (o : Option BlockLayout). cells_in temporary o)
    (h.layout_there ∙ ap (λ (z : BlockLayout). Some z) h.layout)

settles : (symbols : List Symbol) (t : Tree) → IsSoundTree symbols t
    → Settles (layouts_of t symbols) (types_of_source symbols t.blocks)
settles symbols t h element.Structure few = (refl, tt)
settles symbols t h (element.Plain kind) few = (refl, tt)
settles symbols t h element.DateAndTime few = (refl, tt)
settles symbols t h (element.Udt name) few = by (data_type_place (types_of_source symbols t.blocks) name) refl few
  where
    at : (v : ℕ) → data_type_place (types_of_source symbols t.blocks) name ≡ Some v
        → get_or (types_of_source symbols t.blocks).depths v 0 ≤ 8
        → (nat_lt 131072 (get_or (types_of_source symbols t.blocks).bits v 0) ≡ false)
        × (get_or (types_of_source symbols t.blocks).bits v 0
        ≡ structure_bits (cells_at (layouts_of t symbols) v false))
    at v e few = (le-ltb 131072 (get_or (types_of_source symbols t.blocks).bits v 0) (small few same), same)
      where
        found : IsFoundBlock (types_of_source symbols t.blocks).ids is_data_type v
        found = found_there (types_of_source symbols t.blocks).symbols (types_of_source symbols t.blocks).ids is_data_type name v e

        from : IsOrigin (λ b. id_of symbols b) t.blocks v (Some found.id)
        from = origin (λ b. id_of symbols b) t.blocks v (Some found.id)
            (ap (λ (ids : List (Option BlockId)). slice_get ids v) (sym (measured_ids symbols t.blocks)) ∙ found.there)

        kind : from.of.kind ≡ kinds.Udt
        kind = kind_there symbols from.of found.id from.image ∙ data_type found.id.kind found.kind

        laid : (l : BlockLayout) × (slice_get (layouts_of t symbols) v ≡ Some l) × IsSoundBlock symbols t v from.of l
        laid = layout_of_block symbols t h v from.of from.there

        type : IsType (types_of_source symbols t.blocks) from.of
        type = type_of_block (types_of_source symbols t.blocks) from.of laid.2.well_formed kind

        same : get_or (types_of_source symbols t.blocks).bits v 0
            ≡ structure_bits (cells_at (layouts_of t symbols) v false)
        same =
            types_measured symbols t.blocks v from.of from.there (omega (arith, few))
            ∙ type_bits_are (types_of_source symbols t.blocks) from.of kind
            ∙ ap (λ (cs : List Cell). structure_bits cs)
            (sym (cells_are symbols t v from.of laid.0 laid.2 false ∙ type.components))

        small : get_or (types_of_source symbols t.blocks).depths v 0 ≤ 8
            → get_or (types_of_source symbols t.blocks).bits v 0
            ≡ structure_bits (cells_at (layouts_of t symbols) v false)
            → get_or (types_of_source symbols t.blocks).bits v 0 ≤ 131072
        small few same =
            let most = small_type (types_of_source symbols t.blocks) t.blocks from.of kind type laid.2.head.by_51 in
            let is : structure_bits (cells_at (layouts_of t symbols) v false)
            ≡ structure_bits (components_of (types_of_source symbols t.blocks) from.of)
            = ap (λ (cs : List Cell). structure_bits cs) (cells_are symbols t v from.of laid.0 laid.2 false) in
            omega (arith, same, most, is)

    by : (o : Option ℕ) → data_type_place (types_of_source symbols t.blocks) name ≡ o
        → udt_depth (types_of_source symbols t.blocks).depths (data_type_place (types_of_source symbols t.blocks) name) ≤ 8
        → (is_oversized (types_of_source symbols t.blocks).bits (data_type_place (types_of_source symbols t.blocks) name) ≡ false)
        × IsSettled (layouts_of t symbols) (udt_element (types_of_source symbols t.blocks).bits (data_type_place (types_of_source symbols t.blocks) name))
    by None e few =
        subst (λ (o : Option ℕ). (is_oversized (types_of_source symbols t.blocks).bits o ≡ false)
        × IsSettled (layouts_of t symbols) (udt_element (types_of_source symbols t.blocks).bits o)) (sym e) (refl, tt)
    by (Some v) e few =
        subst (λ (o : Option ℕ). (is_oversized (types_of_source symbols t.blocks).bits o ≡ false)
        × IsSettled (layouts_of t symbols) (udt_element (types_of_source symbols t.blocks).bits o)) (sym e)
        (at v e (subst (λ (o : Option ℕ). udt_depth (types_of_source symbols t.blocks).depths o ≤ 8) e few))

-- each cell of the source
pub are_right : (symbols : List Symbol) (t : Tree) → IsSoundTree symbols t
    → AreRight (layouts_of t symbols)
are_right symbols t h block place temporary c e =
    by (slice_get (layouts_of t symbols) block) refl
  where
    by : (o : Option BlockLayout) → slice_get (layouts_of t symbols) block ≡ o
        → IsRightCell (layouts_of t symbols) c
    by None is =
        let none : slice_get (cells_in temporary None) place ≡ Some c
        = ap (λ (o : Option BlockLayout). slice_get (cells_in temporary o) place) (sym is) ∙ e in
        absurd cc
    by (Some l) is = each temporary (ap (λ (cs : List Cell). slice_get cs place) (sym (cells_are symbols t block laid.block l laid.sound temporary)) ∙ e)
      where
        laid : IsLaid symbols t block l
        laid = block_of_layout symbols t h block l is

        unbroken : IsUnbroken (types_of_source symbols t.blocks) laid.block
        unbroken = block_unbroken (types_of_source symbols t.blocks) laid.block laid.sound.declarations

        each : (temporary : Bool)
            → slice_get (if temporary then temps_of (types_of_source symbols t.blocks) laid.block
            else components_of (types_of_source symbols t.blocks) laid.block) place ≡ Some c
            → IsRightCell (layouts_of t symbols) c
        each true f = all_there (IsRightCell (layouts_of t symbols)) (temps_of (types_of_source symbols t.blocks) laid.block) place c
            (temps_right (layouts_of t symbols) (types_of_source symbols t.blocks) laid.block (settles symbols t h) unbroken) f
        each false f = all_there (IsRightCell (layouts_of t symbols)) (components_of (types_of_source symbols t.blocks) laid.block) place c
            (components_right (layouts_of t symbols) (types_of_source symbols t.blocks) laid.block (settles symbols t h) unbroken) f
