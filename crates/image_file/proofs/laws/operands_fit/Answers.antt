use Rattle.image_file.proofs.OperandLemmas.{operand_fits}
use Rattle.image_file.proofs.laws.operands_fit.Goals as goal

pub returns : goal.returns
returns c = λ p b q h. operand_fits p b q h
