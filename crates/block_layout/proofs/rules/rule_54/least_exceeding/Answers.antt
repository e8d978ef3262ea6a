use Rattle.std.proofs.Common.{◌≡◌, ◌+◌, ◌&&◌, ℕ, Bool, [], ◌∷◌, nat_lt, refl, ◌∙◌, ap, if◌then◌else◌}
use Rattle.plc_base.specs.Kinds.{is_data_block}
use Rattle.plc_base.specs.Least.{broken_if, least}
use Rattle.plc_base.proofs.LeastLemmas.{lesser_first}
use Rattle.block_layout.specs.Lengths.{length_of_block}
use Rattle.block_layout.specs.Rule54.{data_length, exceeds_total, rule_54, total_data_length}
use Rattle.block_layout.proofs.HeadLemmas.{heads_end, heads_turn, mapped_at, total_more}
use Rattle.block_layout.proofs.rules.rule_54.least_exceeding.Goals as goal

pub loop-place-init : goal.loop-place-init
loop-place-init c = λ y are. ([], refl, lesser_first _)

pub loop-place-preserved : goal.loop-place-preserved
loop-place-preserved c = λ y are.
    let held = c.loop-place.invariant y are in
    let block = c.index-blocks-place.result in
    let blocks = c.args.blocks.now in
    let len : c.number_at.result ≡ length_of_block y blocks block =
    c.number_at.ensures ∙ mapped_at (length_of_block y blocks) blocks c.args.lens.now _ block are c.loop-place-test.true c.index-blocks-place.is in
    let added : c.data_len-len.result ≡ data_length y blocks block =
    c.data_len-len.ensures ∙ ap (λ (n : ℕ). if is_data_block block.kind then n else 0) len in
    let exceeds : c.exceeds-is_exceeding.result ≡ exceeds_total y blocks held.0 block =
    c.exceeds-is_exceeding.ensures (total_data_length y blocks held.0) held.1
    ∙ ap (λ (n : ℕ). is_data_block block.kind && nat_lt 2097152 (total_data_length y blocks held.0 + n)) added in
    let one = c.broken_if.ensures ∙ ap (λ (v : Bool). least (broken_if v block.line 54)) exceeds in (
      block ∷ held.0,
      total_more y blocks block held.0 _ _ _ _ held.1 added c.saturating_add-before.ensures,
      heads_turn (exceeds_total y blocks) 54 blocks _ block _ _ _ _ held.0 c.loop-place-test.true c.index-blocks-place.is one c.lesser-found.ensures held.2,
    )

pub returns : goal.returns
unfolding rule_54
returns c = λ y are.
    let held = c.loop-place.invariant y are in
    heads_end (exceeds_total y c.args.blocks.now) 54 c.args.blocks.now _ _ _ held.0 c.loop-place-test.false held.2
