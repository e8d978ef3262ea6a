-- Rules that a declaration breaks by itself.
use Rattle.std.proofs.Common.{◌≡◌, List, [], ◌∷◌, ◌++◌, refl, sym, ◌∙◌, ap}
use Rattle.std.specs.List.{flat_map}
use Rattle.std.proofs.lemmas.Grind.{flat_map-append}
use Rattle.plc_base.specs.declared.refusals.Refusal.{Refusal}
use Rattle.stl_ast.specs.declared.blocks.Block.{Block}
use Rattle.stl_ast.specs.declared.blocks.Part.{Part}
use Rattle.stl_ast.specs.declared.declarations.Declaration.{Declaration}
use Rattle.plc_base.specs.Least.{least, lesser}
use Rattle.plc_base.proofs.LeastLemmas.{least-append}
use Rattle.block_layout.specs.Around.{refusals_in_block, refusals_in_rest, section_declarations}

rest_alone : (broken : Declaration → List Refusal) (before ds : List Declaration) → refusals_in_rest (λ before d. broken d) before ds ≡ flat_map broken ds
rest_alone broken before [] = refl
rest_alone broken before (d ∷ ds) = ap (λ (rs : List Refusal). broken d ++ rs) (rest_alone broken (d ∷ before) ds)

part_by_part : (broken : Declaration → List Refusal) (parts : List Part) → flat_map broken (flat_map (λ p. p.items) parts) ≡ flat_map (λ p. flat_map broken p.items) parts
part_by_part broken [] = refl
part_by_part broken (p ∷ ps) =
    flat_map-append broken p.items (flat_map (λ q. q.items) ps) ∙ ap (λ (rs : List Refusal). flat_map broken p.items ++ rs) (part_by_part broken ps)

block_alone : (broken : Declaration → List Refusal) (b : Block) →
    refusals_in_block (λ o before d. broken d) b ≡ flat_map (λ p. flat_map broken p.items) b.parts ++ flat_map broken b.components
block_alone broken b =
    ap (λ (rs : List Refusal). rs ++ refusals_in_rest (λ before d. broken d) [] b.components) (rest_alone broken [] (section_declarations b) ∙ part_by_part broken b.parts)
    ∙ ap (λ (rs : List Refusal). flat_map (λ p. flat_map broken p.items) b.parts ++ rs) (rest_alone broken [] b.components)

-- the sections, and then the structure
pub least_of_block : (broken : Declaration → List Refusal) (b : Block) →
    lesser (least (flat_map (λ p. flat_map broken p.items) b.parts)) (least (flat_map broken b.components)) ≡ least (refusals_in_block (λ o before d. broken d) b)
least_of_block broken b =
    sym (least-append (flat_map (λ p. flat_map broken p.items) b.parts) (flat_map broken b.components)) ∙ ap (λ (rs : List Refusal). least rs) (sym (block_alone broken b))
