use Rattle.std.proofs.Common.{subst}
use Rattle.std.specs.List.{All}
use Rattle.event_text.specs.Regular.{FitsPlace}
use Rattle.event_text.proofs.WatchedVarsLemmas.{watched-regular}
use Rattle.event_text.proofs.watched_vars.only_vars.Goals as goal

pub returns-in-Some-clause-regular : goal.returns-in-Some-clause-regular
returns-in-Some-clause-regular c = watched-regular _ _ c.in-Some.is c.requires (subst (All FitsPlace) c.as_slice.ensures c.law_of_vars.ensures)
