use Rattle.std.proofs.Common.{◌≡◌, List, Option, ◌∙◌, ap}
use Rattle.std.specs.List.{flat_map}
use Rattle.plc_base.specs.declared.refusals.Refusal.{Refusal}
use Rattle.stl_ast.specs.declared.blocks.Part.{Part}
use Rattle.stl_ast.specs.declared.declarations.Declaration.{Declaration}
use Rattle.plc_base.specs.Least.{least, lesser}
use Rattle.block_layout.specs.Alone.{refusals_by}
use Rattle.block_layout.proofs.AloneLemmas.{least_of_block}
use Rattle.block_layout.proofs.alone.least_in_block.Goals as goal

pub returns : goal.returns
returns c =
    let broken : Declaration → List Refusal = refusals_by c.args.types.now c.args.which in
    let parts : c.least_in_parts.result ≡ least (flat_map (λ p. flat_map broken p.items) c.args.block.now.parts) =
    c.least_in_parts.ensures ∙ ap (λ (ps : List Part). least (flat_map (λ p. flat_map broken p.items) ps)) c.as_slice.ensures in
    let list : c.least_in_list.result ≡ least (flat_map broken c.args.block.now.components) =
    c.least_in_list.ensures ∙ ap (λ (ds : List Declaration). least (flat_map broken ds)) c.as_slice-2.ensures.items in
    c.lesser.ensures ∙ ap (λ (o : Option Refusal). lesser o c.least_in_list.result) parts
    ∙ ap (λ (o : Option Refusal). lesser (least (flat_map (λ p. flat_map broken p.items) c.args.block.now.parts)) o) list ∙ least_of_block broken c.args.block.now
