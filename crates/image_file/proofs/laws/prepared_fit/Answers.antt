use Rattle.image_file.proofs.OperandLemmas.{prepared_fits}
use Rattle.image_file.proofs.laws.prepared_fit.Goals as goal

pub returns : goal.returns
returns c = λ p b q h. prepared_fits p b q h
