use Rattle.std.proofs.Common.{List, sym, ◌∙◌, ap, map}
use Rattle.block_layout.specs.Layouts.{layouts_by}
use Rattle.block_layout.specs.Types.{Types}
use Rattle.block_layout.specs.declared.blocks.BlockLayout.{BlockLayout}
use Rattle.block_layout.proofs.LayoutLemmas.{ids_listed}
use Rattle.block_layout.proofs.laying.lay.Goals as goal

pub new-requires : goal.new-requires
new-requires c =
    let blocks = c.as_slice-blocks.result.now in
    let made = c.in_ok-layouts.ensures.layouts ∙ ap (λ (y : Types). layouts_by y blocks) c.in_ok-types.ensures in
    ap (λ (y : Types). y.ids) (c.types.view_is ∙ c.in_ok-types.ensures) ∙ ids_listed c.args.symbols.now blocks ∙ sym (ap (λ (l : List BlockLayout). map (λ b. b.id) l) made)
