use Rattle.std.proofs.Common.{rules, sym}
use Rattle.block_layout.proofs.SizeLemmas.{elements_value, elements_near, elements_within}
use Rattle.block_layout.proofs.layouts.Layout.element_at.Goals as goal

pub index-requires : goal.index-requires
index-requires c = let w = elements_within c.self.inside.cells.items c.args.self.now c.self.inside.elements.items c.args.place c.self.invariant.sized (sym c.self.view_is) c.requires in search rules

pub returns-clause-value : goal.returns-clause-value
returns-clause-value c = elements_value c.self.inside.cells.items c.args.self.now c.self.inside.elements.items c.args.place _ c.index.result.now c.self.invariant.sized (sym c.self.view_is) c.requires c.index.ensures

pub returns-clause-near : goal.returns-clause-near
returns-clause-near c = elements_near c.self.inside.cells.items c.args.self.now c.self.inside.elements.items c.args.place _ c.index.result.now c.self.invariant.sized (sym c.self.view_is) c.requires c.index.ensures
