use Rattle.image_file.proofs.OperandLemmas.{call_fits, passed_fits, called_there}
use Rattle.image_file.proofs.laws.calls_fit.Goals as goal

pub returns : goal.returns
returns c = record {
  calls = λ p b q kind number instance h is. call_fits p b q kind number instance h is;
  passed = λ p b q index actual kind number instance called h is last there. passed_fits p b q index actual kind number instance called h is last there;
  blocks = λ p kind number called is e. called_there p kind number called is e;
}
