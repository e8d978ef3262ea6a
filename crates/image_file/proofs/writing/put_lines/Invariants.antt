use Rattle.std.proofs.Common.{◌++◌, drop, false}
use Rattle.flat_code.specs.Image.{line_field, line_after}
use Rattle.flat_code.specs.Layout.{spell_many}
use Rattle.image_file.proofs.WritingLemmas.{Left}
use Rattle.image_file.proofs.writing.put_lines.Given as goal

abbrev pub invariant-loop-line : goal.invariant-loop-line
invariant-loop-line l = Left (line_field false) line_after l.out.items (drop l.line-index l.lines) (l.fn.out.items ++ spell_many (line_field false) line_after 0 l.lines)
