-- Depths and sizes of data types by rounds, which may end once a round changes nothing.
use Rattle.std.proofs.Common.{ℕ, zero, suc, ◌≡◌, ◌≤◌, ◌+◌, ◌-◌, sym, List, [], ◌∷◌, refl, ◌∙◌, ap, arith, max, map, add-one}
use Rattle.stl_ast.specs.declared.declarations.Declaration.{Declaration}
use Rattle.block_layout.specs.Around.{of_structure}
use Rattle.stl_ast.specs.declared.blocks.Block.{Block}
use Rattle.block_layout.specs.Measures.{capped_depth, deepest_nesting, measuring_rounds, with_depths, with_bits, depths_after, bits_after, type_depth, type_bits, with_all_depths, with_all_bits}
use Rattle.block_layout.specs.Rule56.{own_depth, depth_around}
use Rattle.block_layout.specs.Types.{Types}
use Rattle.block_layout.specs.declared.declaration_facts.DeclarationFacts.{DeclarationFacts}
use Rattle.block_layout.specs.DeclarationFacts.{greatest_reach, facts_of_declarations}

deep_max : (a b : ℕ) → max (capped_depth a) (capped_depth b) ≡ capped_depth (max a b)
deep_max a b = omega arith

reach_from : (y : Types) (before ds : List Declaration) → greatest_reach (facts_of_declarations y of_structure before ds) ≡ capped_depth (deepest_nesting y of_structure before ds)
reach_from y before [] = refl
reach_from y before (d ∷ ds) =
    ap (λ (n : ℕ). max (capped_depth (depth_around y of_structure d.level before + own_depth y d)) n) (reach_from y (d ∷ before) ds)
    ∙ deep_max (depth_around y of_structure d.level before + own_depth y d) (deepest_nesting y of_structure (d ∷ before) ds)

pub deepest_reach : (y : Types) (ds : List Declaration) → greatest_reach (facts_of_declarations y of_structure [] ds) ≡ capped_depth (deepest_nesting y of_structure [] ds)
deepest_reach y ds = reach_from y [] ds

pub reaches_floor : (vs : List DeclarationFacts) → max 1 (greatest_reach vs) ≡ greatest_reach vs
reaches_floor [] = refl
reaches_floor (v ∷ vs) = let later = reaches_floor vs in omega arith

pub depths_step : (y types : Types) (blocks : List Block) (k : ℕ) (next : List ℕ) (new : Types) → types ≡ with_depths y (depths_after k y blocks) → next ≡ map (type_depth types) blocks →
    new ≡ with_depths types next → new ≡ with_depths y (depths_after (k + 1) y blocks)
depths_step y types blocks k next new is_types is_next is_new =
    rw add-one (is_new ∙ ap (λ (t : Types). with_depths t next) is_types ∙ ap (λ (n : List ℕ). with_depths y n) (is_next ∙ ap (λ (t : Types). map (type_depth t) blocks) is_types))

pub depths_done : (y types : Types) (blocks : List Block) (k : ℕ) → types ≡ with_depths y (depths_after k y blocks) → k ≡ measuring_rounds → types ≡ with_all_depths y blocks
unfolding with_all_depths
depths_done y types blocks k is_types all = is_types ∙ ap (λ (j : ℕ). with_depths y (depths_after j y blocks)) all

pub bits_step : (y types : Types) (blocks : List Block) (k : ℕ) (next : List ℕ) (new : Types) → types ≡ with_bits y (bits_after k y blocks) → next ≡ map (type_bits types) blocks →
    new ≡ with_bits types next → new ≡ with_bits y (bits_after (k + 1) y blocks)
bits_step y types blocks k next new is_types is_next is_new =
    rw add-one (is_new ∙ ap (λ (t : Types). with_bits t next) is_types ∙ ap (λ (n : List ℕ). with_bits y n) (is_next ∙ ap (λ (t : Types). map (type_bits t) blocks) is_types))

pub bits_done : (y types : Types) (blocks : List Block) (k : ℕ) → types ≡ with_bits y (bits_after k y blocks) → k ≡ measuring_rounds → types ≡ with_all_bits y blocks
unfolding with_all_bits
bits_done y types blocks k is_types all = is_types ∙ ap (λ (j : ℕ). with_bits y (bits_after j y blocks)) all

depths_stay : (y : Types) (blocks : List Block) (k j n : ℕ) → n ≡ j + k → depths_after (suc k) y blocks ≡ depths_after k y blocks → depths_after n y blocks ≡ depths_after k y blocks
depths_stay y blocks k zero n is same = let at : n ≡ k = omega arith in ap (λ (i : ℕ). depths_after i y blocks) at
depths_stay y blocks k (suc j) n is same =
    let next : n ≡ suc (j + k) = omega arith in
    ap (λ (i : ℕ). depths_after i y blocks) next ∙ ap (λ (m : List ℕ). map (type_depth (with_depths y m)) blocks) (depths_stay y blocks k j (j + k) refl same) ∙ same

pub depths_settled : (y types : Types) (blocks : List Block) (k : ℕ) (next : List ℕ) → types ≡ with_depths y (depths_after k y blocks) → next ≡ map (type_depth types) blocks → next ≡ types.depths → k ≤ measuring_rounds →
    types ≡ with_all_depths y blocks
depths_settled y types blocks k next is_types is_next is_same most =
    let same : depths_after (suc k) y blocks ≡ depths_after k y blocks =
    ap (λ (t : Types). map (type_depth t) blocks) (sym is_types) ∙ sym is_next ∙ is_same ∙ ap (λ (t : Types). t.depths) is_types in
    let whole : measuring_rounds ≡ (measuring_rounds - k) + k = omega arith in
    depths_done y types blocks measuring_rounds (is_types ∙ ap (λ (m : List ℕ). with_depths y m) (sym (depths_stay y blocks k (measuring_rounds - k) measuring_rounds whole same))) refl

bits_stay : (y : Types) (blocks : List Block) (k j n : ℕ) → n ≡ j + k → bits_after (suc k) y blocks ≡ bits_after k y blocks → bits_after n y blocks ≡ bits_after k y blocks
bits_stay y blocks k zero n is same = let at : n ≡ k = omega arith in ap (λ (i : ℕ). bits_after i y blocks) at
bits_stay y blocks k (suc j) n is same =
    let next : n ≡ suc (j + k) = omega arith in
    ap (λ (i : ℕ). bits_after i y blocks) next ∙ ap (λ (m : List ℕ). map (type_bits (with_bits y m)) blocks) (bits_stay y blocks k j (j + k) refl same) ∙ same

pub bits_settled : (y types : Types) (blocks : List Block) (k : ℕ) (next : List ℕ) → types ≡ with_bits y (bits_after k y blocks) → next ≡ map (type_bits types) blocks → next ≡ types.bits → k ≤ measuring_rounds →
    types ≡ with_all_bits y blocks
bits_settled y types blocks k next is_types is_next is_same most =
    let same : bits_after (suc k) y blocks ≡ bits_after k y blocks =
    ap (λ (t : Types). map (type_bits t) blocks) (sym is_types) ∙ sym is_next ∙ is_same ∙ ap (λ (t : Types). t.bits) is_types in
    let whole : measuring_rounds ≡ (measuring_rounds - k) + k = omega arith in
    bits_done y types blocks measuring_rounds (is_types ∙ ap (λ (m : List ℕ). with_bits y m) (sym (bits_stay y blocks k (measuring_rounds - k) measuring_rounds whole same))) refl
