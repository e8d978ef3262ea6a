use Rattle.print_laws.proofs.parsing.Kept.{trees_read}
use Rattle.print_laws.proofs.reading.law_of_printed_tree.Goals as goal

pub returns : goal.returns
returns c = trees_read
