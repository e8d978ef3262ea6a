use Rattle.std.proofs.Common.{◌++◌, map, drop, []}
use Rattle.flat_code.specs.Image.{name_record, after_name, name_of_entry}
use Rattle.flat_code.specs.Layout.{spell_many}
use Rattle.image_file.proofs.WritingLemmas.{Left}
use Rattle.image_file.proofs.writing.put_names.Given as goal

abbrev pub invariant-loop-entry : goal.invariant-loop-entry
invariant-loop-entry l = Left name_record after_name l.out.items (map name_of_entry (drop l.entry-index l.entries)) (l.fn.out.items ++ spell_many name_record after_name [] (map name_of_entry l.entries))
