use Rattle.std.proofs.Common.{[]}
use Rattle.image_file.proofs.ProgramLemmas.{program_right, right_at, op_right}
use Rattle.image_file.proofs.laws.ops_are_of_the_table.Goals as goal

pub returns : goal.returns
returns c = λ p b q h. op_right 0 [] [] [] b.code q.at q (right_at p.code_blocks b h.id (program_right p h.verifies.right) h.block).ops h.place
