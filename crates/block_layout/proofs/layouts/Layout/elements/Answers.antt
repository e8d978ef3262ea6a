use Rattle.std.proofs.Common.{◌∙◌, ap, List}
use Rattle.block_layout.specs.declared.cells.Cell.{Cell}
use Rattle.block_layout.specs.Sizes.{elements_of}
use Rattle.block_layout.proofs.layouts.Layout.elements.Goals as goal

pub returns : goal.returns
returns c = c.as_slice.ensures.value ∙ c.self.invariant.sized ∙ ap (λ (l : List Cell). elements_of l) c.self.view_is
