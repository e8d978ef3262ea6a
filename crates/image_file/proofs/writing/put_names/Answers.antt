use Rattle.std.proofs.Common.{ap, map}
use Rattle.plc_base.proofs.ListLemmas.{drop_next}
use Rattle.flat_code.specs.Image.{name_record, after_name, name_of_entry}
use Rattle.image_file.proofs.WritingLemmas.{one_left, name_spells}
use Rattle.image_file.proofs.writing.put_names.Goals as goal

pub loop-entry-preserved : goal.loop-entry-preserved
loop-entry-preserved c =
    one_left name_record after_name _ c.loop-entry.out.items c.put_name.new.out.items _ _ _ _ name_spells (ap (map name_of_entry) (drop_next c.args.entries.now c.loop-entry.entry-index c.entry-item.result c.loop-entry-test.true c.entry-item.is))
    c.in_ok-put_name.ensures c.loop-entry.invariant
