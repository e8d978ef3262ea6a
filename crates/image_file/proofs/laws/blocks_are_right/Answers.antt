use Rattle.image_file.proofs.ProgramLemmas.{program_right, right_at, block_right}
use Rattle.image_file.proofs.laws.blocks_are_right.Goals as goal

pub returns : goal.returns
returns c = λ p b id verifies block. block_right b (right_at p.code_blocks b id (program_right p verifies.right) block)
