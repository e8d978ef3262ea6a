use Rattle.stl_codegen.specs.GeneratedProgram.{program_of}
use Rattle.stl_list.specs.Listing.{listed_tree}
use Rattle.listing_laws.proofs.CompiledLemmas.{written_compiled}
use Rattle.listing_laws.proofs.SourceLemmas.{source_blocks, source_printable}
use Rattle.listing_laws.proofs.sources.law_of_listed_source.Goals as goal

pub returns : goal.returns
returns c = record {
  read = λ p is written blocks. c.law_of_printed_source.ensures (listed_tree p) (source_printable p is written blocks);
  compiled = λ t symbols layouts whole labels is named. c.law_of_printed_source.ensures (listed_tree (program_of t symbols layouts))
      (source_printable (program_of t symbols layouts) is (written_compiled t symbols layouts whole) (source_blocks t symbols layouts whole labels is named));
}
