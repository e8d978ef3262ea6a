use Rattle.image_file.proofs.VerifiedLemmas.{brackets_right}
use Rattle.image_file.proofs.laws.brackets_fit.Goals as goal

pub returns : goal.returns
returns c = λ p b q h. brackets_right p b q h
