use Rattle.print_laws.proofs.lexing.Trees.{printed_tokens}
use Rattle.stl_list.specs.Listing.{listed_tree}
use Rattle.listing_laws.proofs.BlockLemmas.{listed_printable}
use Rattle.listing_laws.proofs.CompiledLemmas.{written_compiled}
use Rattle.listing_laws.proofs.laws.law_of_listed_trees.Goals as goal

pub returns : goal.returns
returns c = record {
  printable = listed_printable;
  tokens = λ p is written. printed_tokens (listed_tree p) (listed_printable p is written);
  compiled = written_compiled;
}
