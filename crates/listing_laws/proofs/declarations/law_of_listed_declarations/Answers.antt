use Rattle.listing_laws.proofs.declared.Blocks.{are_declared_again, kinds_wide}
use Rattle.listing_laws.proofs.declarations.law_of_listed_declarations.Goals as goal

pub returns : goal.returns
returns c = record { kinds = kinds_wide; declared = are_declared_again }
