use Rattle.listing_laws.proofs.LineLemmas.{lines_kept}
use Rattle.listing_laws.proofs.lines.law_of_listed_lines.Goals as goal

pub returns : goal.returns
returns c = record { kept = lines_kept }
