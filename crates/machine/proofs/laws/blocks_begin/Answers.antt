use Rattle.machine.proofs.Beginning.{ob_begins, local_room, start_written}
use Rattle.machine.proofs.laws.blocks_begin.Goals as goal

pub returns-clause-fits : goal.returns-clause-fits
returns-clause-fits c = ob_begins c.what_verifying_gives.ensures

pub returns-clause-room : goal.returns-clause-room
returns-clause-room c = local_room c.what_verifying_gives.ensures

pub returns-clause-start : goal.returns-clause-start
returns-clause-start c = start_written c.what_verifying_gives.ensures
