use Rattle.std.proofs.lemmas.List.Elements.{All-append}
use Rattle.var_access.specs.Entry.{IsValid}
use Rattle.event_text.proofs.LineLemmas.{valid_line}
use Rattle.event_text.proofs.texts.take_entry_line.Goals as goal

pub returns-in_ok-add_entry-in-Ok-clause-valid : goal.returns-in_ok-add_entry-in-Ok-clause-valid
returns-in_ok-add_entry-in-Ok-clause-valid c =
    λ valid worker. rw c.in_ok-add_entry-in-Ok.ensures (All-append IsValid _ _ (valid worker) (valid_line c.args.kind _ _ worker c.in-Ok.ensures.line))
