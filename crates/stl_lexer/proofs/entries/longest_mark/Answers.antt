use Rattle.std.proofs.Common.{map, sym, ◌∙◌, ap}
use Rattle.stl_lexer.specs.declared.tables.Tail.TheVariants.{Nothing}
use Rattle.stl_lexer.specs.Forms.{entries_from}
use Rattle.stl_lexer.specs.Marks.{marks}
use Rattle.stl_lexer.proofs.EntryLemmas.{found_from, marks_some}
use Rattle.stl_lexer.proofs.MarkLemmas.{lone_mark, one_dot, two_dots}
use Rattle.stl_lexer.proofs.entries.longest_mark.Goals as goal

pub returns-then-is_lone_mark : goal.returns-then-is_lone_mark
returns-then-is_lone_mark c = lone_mark c.args.text.now c.first_letter-letter.result c.first_letter-letter.ensures (rw c.if-is_lone_mark.true at c.is_lone_mark.ensures)

pub returns : goal.returns
returns c = found_from Nothing marks (map (λ entry. entry.now) c.marks_from.result.now) c.args.text.now c.longest_entry.result marks_some (c.marks_from.ensures.value ∙ ap (λ letter. entries_from letter marks) c.first_letter-letter.ensures) c.longest_entry.ensures

pub returns-then-second_byte-eq46 : goal.returns-then-second_byte-eq46
returns-then-second_byte-eq46 c = two_dots c.args.text.now (sym c.first_letter-letter.ensures ∙ c.if-letter-eq46.true) (sym c.second_byte.ensures ∙ c.if-second_byte-eq46.true)

pub returns-then-letter-eq46 : goal.returns-then-letter-eq46
returns-then-letter-eq46 c = one_dot c.args.text.now (sym c.first_letter-letter.ensures ∙ c.if-letter-eq46.true) (λ e. c.if-second_byte-eq46.false (c.second_byte.ensures ∙ e))
