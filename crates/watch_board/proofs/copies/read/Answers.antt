use Rattle.watch_board.proofs.ViewLemmas.{reads}
use Rattle.watch_board.proofs.copies.read.Goals as goal

pub enter_as-requires : goal.enter_as-requires
enter_as-requires c x = reads _ _ x
