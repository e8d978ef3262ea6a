use Rattle.flat_code.proofs.ProgramLemmas.{names_of_program}
use Rattle.flat_code.proofs.laws.names_in_order.Goals as goal

pub returns : goal.returns
returns c = names_of_program
