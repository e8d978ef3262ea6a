use Rattle.std.proofs.Common.{sym, ◌∙◌}
use Rattle.stl_lexer.proofs.EntryLemmas.{entry_found, no_entry, no_tail}
use Rattle.stl_lexer.proofs.entries.entry_length.Goals as goal

pub returns-then-not-begins_with : goal.returns-then-not-begins_with
returns-then-not-begins_with c = no_entry c.args.tail c.args.entry.now c.args.text.now (sym c.begins_with.ensures.value ∙ c.if-not-begins_with.true)

pub returns-in-Some : goal.returns-in-Some
returns-in-Some c = entry_found c.args.tail c.args.entry.now c.args.text.now c.in-Some.length c.requires (sym c.begins_with.ensures.value ∙ c.if-not-begins_with.false) (rw c.behind.ensures at c.in-Some.ensures)

pub returns-in-None : goal.returns-in-None
returns-in-None c = no_tail c.args.tail c.args.entry.now c.args.text.now (rw c.behind.ensures at c.in-None.ensures)
