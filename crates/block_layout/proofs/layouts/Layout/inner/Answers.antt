use Rattle.std.proofs.Common.{◌≡◌, arith, sym, ◌∙◌, ap, subst, true, length, get_or, ◌<◌, ◌+◌, List, drop}
use Rattle.block_layout.specs.declared.cells.Cell.{Cell}
use Rattle.block_layout.proofs.PathLemmas.{members_from}
use Rattle.block_layout.proofs.layouts.Layout.inner.Goals as goal

pub find-requires-clause-members : goal.find-requires-clause-members
find-requires-clause-members c =
    let v : c.args.self.now ≡ c.self.inside.cells.items = sym c.self.view_is in
    let long : length c.args.self.now ≡ length c.self.inside.cells.items = ap length v in
    let within : c.args.place < length c.self.inside.cells.items = let w = c.requires.within in omega arith in
    let sound : (get_or c.self.inside.cells.items c.args.place c.index-2.result.now).sound ≡ true =
    subst (λ (l : List Cell). (get_or l c.args.place c.index-2.result.now).sound ≡ true) v (c.requires.sound c.index-2.result.now) in
    members_from c.index-2.result.now _ _ _ c.index.result.now _ (c.self.invariant.inner c.args.place c.index-2.result.now c.index.result.now within sound)
    c.index.ensures c.index-2.ensures (c.behind-behind.ensures ∙ ap (λ (l : List Cell). drop (c.args.place + 1) l) c.as_slice.ensures.value)
