use Rattle.listing_laws.proofs.HeadLemmas.{blocks_once, numbers_right}
use Rattle.listing_laws.proofs.heads.law_of_listed_heads.Goals as goal

pub returns : goal.returns
returns c = record { once = blocks_once; right = numbers_right }
