use Rattle.statement_laws.proofs.JumpLemmas.{jump_lists_act}
use Rattle.statement_laws.proofs.laws.jump_lists_act.Goals as goal

pub returns : goal.returns
returns c = jump_lists_act
