use Rattle.std.proofs.Common.{◌≡◌, ◌+◌, ◌&&◌, ℕ, nat_lt, ap, sym, ◌∙◌, if◌then◌else◌}
use Rattle.plc_base.specs.Kinds.{is_data_block}
use Rattle.block_layout.specs.Rule44.{has_wrong_number}
use Rattle.block_layout.specs.Rule54.{data_length, exceeds_total, total_data_length}
use Rattle.block_layout.specs.Types.{Types}
use Rattle.block_layout.proofs.HeadLemmas.{all_ten}
use Rattle.block_layout.proofs.breaches.is_broken.Goals as goal

pub returns : goal.returns
returns c = λ blocks some facts before.
    let y = c.args.types.now in
    let block = c.args.block.now in
    let added : c.data_len.result ≡ data_length y blocks block = c.data_len.ensures ∙ ap (λ (n : ℕ). if is_data_block block.kind then n else 0) facts.bytes in
    let together : c.exceeds-together.result ≡ exceeds_total y blocks some block =
    c.exceeds-together.ensures (total_data_length y blocks some) before.bytes ∙ ap (λ (n : ℕ). is_data_block block.kind && nat_lt 2097152 (total_data_length y blocks some + n)) added in
    let number : c.has_wrong_number-wrong_number.result ≡ has_wrong_number y.symbols block =
    c.has_wrong_number-wrong_number.ensures ∙ ap (λ (t : Types). has_wrong_number t.symbols block) c.types.view_is in
    all_ten _ _ _ _ _ _ _ _ _ _ _ _ _ _ _ _ _ _ _ _ _ _ c.any_of_five-first.ensures c.any_of_six.ensures (c.is_block_twice-twice.ensures some (sym before.count)) c.has_unknown_head-unknown.ensures facts.itself
    number (ap (λ (n : ℕ). nat_lt 1024 n) facts.locals) (ap (λ (n : ℕ). nat_lt 16384 n) facts.bytes) c.has_too_many_parameters-parameters.ensures
    (c.is_one_too_many-data_blocks.ensures some (sym before.data_count)) together c.has_too_many_statements-statements.ensures
