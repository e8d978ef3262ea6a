use Rattle.std.proofs.Common.{map, sym, ◌∙◌}
use Rattle.stl_lexer.proofs.EntryLemmas.{not_opened}
use Rattle.stl_lexer.proofs.entries.longest_opened_entry.Goals as goal

pub returns-else-opened : goal.returns-else-opened
returns-else-opened c = not_opened c.args.tail (map (λ entry. entry.now) c.args.table.now) c.args.text.now c.requires.some (sym c.requires.opened ∙ c.if-opened.false)
