use Rattle.std.proofs.Common.{◌≡◌, map, drop}
use Rattle.flat_code.specs.Loading.{blocks_of, op_faults_of_blocks}
use Rattle.image_file.specs.Least.{with_faults}
use Rattle.image_file.specs.Running.{located_block}
use Rattle.image_file.proofs.loading.check_blocks.Given as goal

abbrev pub invariant-loop-started : goal.invariant-loop-started
invariant-loop-started l = with_faults l.least (op_faults_of_blocks l.lens (blocks_of (map located_block l.blocks)) (map located_block (drop l.started-index l.blocks))) ≡ with_faults l.fn.least (op_faults_of_blocks l.lens (blocks_of (map located_block l.blocks)) (map located_block l.blocks))
