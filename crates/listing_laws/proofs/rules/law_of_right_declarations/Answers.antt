use Rattle.listing_laws.proofs.declared.Blocks.{listed_heads, listed_right, listed_short}
use Rattle.listing_laws.proofs.rules.law_of_right_declarations.Goals as goal

pub returns : goal.returns
returns c = record { declarations = listed_right; heads = listed_heads; instances = listed_short }
