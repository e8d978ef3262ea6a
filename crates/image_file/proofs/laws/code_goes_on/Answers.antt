use Rattle.std.proofs.Common.{refl}
use Rattle.image_file.proofs.ProgramLemmas.{program_right, right_at}
use Rattle.image_file.proofs.VerifiedLemmas.{next_of_op}
use Rattle.image_file.proofs.laws.code_goes_on.Goals as goal

pub returns : goal.returns
returns c = λ p b q h. next_of_op p b q (right_at p.code_blocks b h.id (program_right p h.verifies.right) h.block).ended h q.rest refl
