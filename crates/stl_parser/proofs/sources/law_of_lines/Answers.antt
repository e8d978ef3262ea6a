use Rattle.stl_parser.proofs.RiseLemmas.{lines_rise, lines_rise_across}
use Rattle.stl_parser.proofs.sources.law_of_lines.Goals as goal

pub returns-clause-within : goal.returns-clause-within
returns-clause-within c = lines_rise

pub returns-clause-across : goal.returns-clause-across
returns-clause-across c = lines_rise_across
