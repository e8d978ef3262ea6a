use Rattle.image_file.proofs.ProgramLemmas.{program_right, right_at}
use Rattle.image_file.proofs.VerifiedLemmas.{statement_right}
use Rattle.image_file.proofs.laws.statements_are_right.Goals as goal

pub returns : goal.returns
returns c = λ p b q h. statement_right p b q (right_at p.code_blocks b h.id (program_right p h.verifies.right) h.block).few h
