use Rattle.image_file.proofs.VerifiedLemmas.{zones_right}
use Rattle.image_file.proofs.laws.zones_fit.Goals as goal

pub returns : goal.returns
returns c = λ p b q h. zones_right p b q h
