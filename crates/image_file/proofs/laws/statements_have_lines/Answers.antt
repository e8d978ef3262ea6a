use Rattle.image_file.proofs.ProgramLemmas.{program_right, right_at}
use Rattle.image_file.proofs.VerifiedLemmas.{has_line}
use Rattle.image_file.proofs.laws.statements_have_lines.Goals as goal

pub returns : goal.returns
returns c = λ p b q h first. let r = right_at p.code_blocks b h.id (program_right p h.verifies.right) h.block in has_line p b q r.ended r.marks h first
