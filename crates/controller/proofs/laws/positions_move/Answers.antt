use Rattle.controller.proofs.MovedLemmas.{entries_move, histories_move}
use Rattle.controller.proofs.laws.positions_move.Goals as goal

-- src/laws.rt:28:1
pub returns-clause-entries : goal.returns-clause-entries
returns-clause-entries c = entries_move c.statements_move.ensures

pub returns-clause-histories : goal.returns-clause-histories
returns-clause-histories c = histories_move c.statements_move.ensures
