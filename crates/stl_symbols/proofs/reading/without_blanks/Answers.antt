use Rattle.std.proofs.Common.{rules}
use Rattle.std.proofs.lemmas.Fn.{filter_same}
use Rattle.stl_symbols.specs.Symbols.{without_blanks}
use Rattle.stl_symbols.proofs.reading.without_blanks.Goals as goal

pub returns : goal.returns
unfolding without_blanks
returns c = filter_same _ _ _ (λ x b f' k. search rules) _ _ c.retain.ensures.filtered
