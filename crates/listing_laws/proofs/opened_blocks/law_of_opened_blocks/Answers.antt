use Rattle.listing_laws.proofs.OpenedLemmas.{opened_right}
use Rattle.listing_laws.proofs.opened_blocks.law_of_opened_blocks.Goals as goal

pub returns : goal.returns
returns c = opened_right
