use Rattle.stl_symbols.proofs.FileLemmas.{symbols_right}
use Rattle.stl_symbols.proofs.laws.law_of_symbols.Goals as goal

pub returns : goal.returns
returns c = symbols_right
