use Rattle.std.proofs.Common.{◌∙◌, map}
use Rattle.flat_code.specs.Loading.{blocks_of}
use Rattle.image_file.specs.Running.{located_block}
use Rattle.image_file.proofs.LoadLemmas.{checked_next, checked_done}
use Rattle.image_file.proofs.loading.check_blocks.Goals as goal

pub loop-started-preserved : goal.loop-started-preserved
loop-started-preserved c = checked_next _ c.args.signatures.now (blocks_of (map located_block c.args.blocks.now)) c.args.blocks.now c.loop-started.started-index c.started-item.result c.loop-started.least _ c.loop-started-test.true c.started-item.is c.requires c.in_ok-least.ensures ∙ c.loop-started.invariant

pub returns : goal.returns
returns c = checked_done _ (blocks_of (map located_block c.args.blocks.now)) c.args.blocks.now c.loop-started.started-index c.loop-started.least c.loop-started-test.false ∙ c.loop-started.invariant
