use Rattle.s7_cli.proofs.compiling.law_of_files.Goals as goal

pub returns : goal.returns
returns c = record {
  source_short = c.requires.source;
  source_bytes = c.law_of_bytes.ensures;
  symbols_short = c.requires.symbols;
  symbols_bytes = c.law_of_bytes-2.ensures;
}
