use Rattle.stl_list.proofs.RunLemmas.{found_at, found_nowhere}
use Rattle.stl_list.proofs.runs.statement_number_at.Goals as goal

pub returns-in-Ok : goal.returns-in-Ok
returns-in-Ok c = found_at c.args.starts.now c.args.offset c.in-Ok.number c.requires c.in-Ok.ensures.position

pub returns-in-Err : goal.returns-in-Err
returns-in-Err c = found_nowhere c.args.starts.now c.args.offset _ c.requires c.in-Err.ensures.position
