use Rattle.std.proofs.Common.{sym, ◌∙◌, ap, subst}
use Rattle.watch_board.specs.BoardList.{KnownBoard, MayFollow}
use Rattle.watch_board.proofs.AppendLemmas.{appends_moves}
use Rattle.watch_board.proofs.prefixes.Prefix.with.Goals as goal

-- the word is the board's, nothing is written by a pen, the offer hasn't run, and the step keeps the rule
pub compare_exchange-found-requires : goal.compare_exchange-found-requires
compare_exchange-found-requires c =
    let count = c.count.invariant in
    let offer = c.plain-offer.ensures in
    let pen = c.no_pen-pen.ensures in
    let again = c.again-seen.ensures in
    let book = ap (λ s. s.book) again ∙ ap (λ k. k.board) c.self.view_is ∙ sym c.requires.board ∙ sym c.count.view_is in
    let item = c.args.item.now in
    let list = c.self.inside.seen.log in
    let may : MayFollow list item = subst (λ (k : KnownBoard). MayFollow k.list item) (sym c.self.view_is) c.requires.rises in (
      ap (λ w. w.tracked) count,
      book,
      pen.0 ∙ book,
      offer.0,
      rw (ap (λ w. w.key) count, pen.1, offer.1, offer.3, ap (λ s. s.log) again) (appends_moves list item c.self.inside.items (sym c.self.invariant.0) may),
    )
