use Rattle.std.proofs.lemmas.List.Elements.{All-append}
use Rattle.var_access.specs.Entry.{IsValid}
use Rattle.event_text.specs.declared.kinds.TextKind.TheVariants.{History}
use Rattle.event_text.proofs.LineLemmas.{valid_line}
use Rattle.event_text.proofs.texts.HistoryReader.take.Goals as goal

pub returns-in_ok-add-in-Ok-clause-valid : goal.returns-in_ok-add-in-Ok-clause-valid
returns-in_ok-add-in-Ok-clause-valid c =
    λ valid. rw c.in_ok-add-in-Ok.ensures.added (All-append IsValid _ _ valid (valid_line History _ _ tt c.in-Ok.ensures.line))
