use Rattle.watch_board.proofs.ViewLemmas.{next_shows}
use Rattle.watch_board.proofs.copies.show.Goals as goal

pub publish_as-copies-requires : goal.publish_as-copies-requires
publish_as-copies-requires g c next is = next_shows _ _ c.args.copies.desk.shown.value next _ c.requires is
