use Rattle.std.proofs.Common.{refl, sym, ap, subst, ◌∙◌, take, drop, suc, nat_eq}
use Rattle.std.specs.FinMap as map
use Rattle.std.specs.List.{IsDistinct}
use Rattle.plc_mem.specs.Blocks.{data_block_map, bytes_by_number, block_numbers}
use Rattle.plc_mem.specs.Places.{AreByteValues}
use Rattle.plc_mem.proofs.KeptMemory.{no_blocks, block_more}
use Rattle.plc_mem.proofs.BlockLemmas.{inserted_bytes, one_more, split_at_item, take_item}
use Rattle.plc_mem.proofs.data_blocks.DataBlocks.new.Goals as goal

pub loop-number-init : goal.loop-number-init
unfolding data_block_map
loop-number-init c = rw c.new-by_number.ensures.empty (record { entries = refl; bytes = no_blocks })

pub loop-number-preserved : goal.loop-number-preserved
loop-number-preserved c =
    let xs = c.args.blocks.now in
    let i = c.loop-number.number-index in
    let x = c.loop-number-item.result in
    let differ = subst (λ es. IsDistinct nat_eq (block_numbers es)) (sym (split_at_item xs i x c.loop-number-test.true c.loop-number-item.is)) c.requires in
    let items = c.in_ok-copy_of_bytes.ensures.items ∙ c.deref.ensures.value in
    let small = subst AreByteValues (sym c.in_ok-copy_of_bytes.ensures.items) c.in_ok-copy_of_bytes.ensures.bytes in
    let more = one_more c.loop-number.by_number c.insert.new.self x.0 x.1 c.in_ok-copy_of_bytes.field-0 (take i xs) (drop (suc i) xs) differ c.loop-number.invariant.entries c.in_ok-insert.ensures.updates items in
    record {
      entries = more ∙ ap (λ es. map.from_entries (bytes_by_number es)) (take_item xs i x c.loop-number-test.true c.loop-number-item.is);
      bytes =
          rw (inserted_bytes c.loop-number.by_number c.insert.new.self x.0 c.in_ok-copy_of_bytes.field-0 c.in_ok-insert.ensures.updates)
          (block_more (data_block_map c.loop-number.by_number.entries) x.0 c.in_ok-copy_of_bytes.field-0.items c.loop-number.invariant.bytes small);
    }

pub returns-clause-bytes : goal.returns-clause-bytes
returns-clause-bytes c = c.loop-number.invariant.bytes
