use Rattle.listing_laws.proofs.filled.DataBlocks.{data_blocks_again}
use Rattle.listing_laws.proofs.instances.law_of_listed_data_blocks.Goals as goal

pub returns : goal.returns
returns c = data_blocks_again
