use Rattle.std.proofs.Common.{◌∙◌, sym}
use Rattle.plc_base.specs.Kinds.{kind_number}
use Rattle.plc_base.proofs.TruthLemmas.{and_unmet}
use Rattle.flat_code.specs.Checking.{good_params}
use Rattle.flat_code.specs.Image.{head_layout, head_of_block, record_of_block}
use Rattle.flat_code.proofs.CheckLemmas.{block_by_parts, true_before}
use Rattle.flat_code.proofs.good_blocks.is_good_block.Goals as goal

pub returns-then-head : goal.returns-then-head
returns-then-head c =
    let b = c.args.block.now in
    let e = c.is_good_head-head.ensures in
    let parts = block_by_parts (c.args.kind_before, c.args.before) b (λ t. e.ops (e.head ∙ t)) e.lines in
    let m = true_before ((head_layout (c.args.kind_before, c.args.before)).good (head_of_block (record_of_block b))) (good_params (kind_number b.id.kind) b.instance_len b.params) (sym e.head ∙ c.if-head.true) in
    c.has_good_parameters-params.ensures ∙ sym m ∙ parts

pub returns-else-head : goal.returns-else-head
returns-else-head c =
    let b = c.args.block.now in
    let e = c.is_good_head-head.ensures in
    let parts = block_by_parts (c.args.kind_before, c.args.before) b (λ t. e.ops (e.head ∙ t)) e.lines in
    c.if-head.false ∙ sym (and_unmet ((head_layout (c.args.kind_before, c.args.before)).good (head_of_block (record_of_block b))) (good_params (kind_number b.id.kind) b.instance_len b.params) (sym e.head ∙ c.if-head.false)) ∙ parts
