use Rattle.std.proofs.Common.{◌≡◌, ℕ, ap, sym, ◌∙◌, arith, if◌then◌else◌}
use Rattle.plc_base.specs.Kinds.{is_data_block}
use Rattle.block_layout.specs.Rule54.{data_length}
use Rattle.block_layout.proofs.HeadLemmas.{one_block_more, total_more}
use Rattle.block_layout.proofs.breaches.with_block.Goals as goal

pub returns : goal.returns
returns c = λ y blocks some len before.
    let block = c.args.block.now in
    let added : c.data_len.result ≡ data_length y blocks block = c.data_len.ensures ∙ ap (λ (n : ℕ). if is_data_block block.kind then n else 0) len in
    record {
      count = omega (arith, before.count);
      data_count = sym (one_block_more block some _ _ (sym before.data_count) c.counted_data.ensures);
      bytes = total_more y blocks block some _ _ _ _ before.bytes added c.saturating_add.ensures;
    }
