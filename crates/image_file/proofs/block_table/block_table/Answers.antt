use Rattle.std.proofs.Common.{◌≡◌, ◌+◌, ◌-◌, arith, sym, ap, subst, ◌∙◌, length, get_or}
use Rattle.std.proofs.lemmas.List.{get_or-replicate}
use Rattle.image_file.specs.Tables.{slot_of, slots}
use Rattle.image_file.proofs.BlockTableLemmas.{FindsFrom, finds_none, finds_more, finds_skip, finds_all, slot_small}
use Rattle.image_file.proofs.block_table.block_table.Goals as goal

pub loop-i-init : goal.loop-i-init
loop-i-init c =
    let all = c.in_ok-table.ensures.items_if_clones_equal (λ y e. e) in
    finds_none c.args.blocks.now (length c.args.blocks.now) c.in_ok-table.table.items (omega arith) c.requires (sym c.in_ok-table.table.ok.0 ∙ c.in_ok-table.ensures.len) (λ slot lt. ap (λ z. get_or z slot 0) all ∙ get_or-replicate slots slot 0xFFFF 0 lt)

pub index_mut-requires : goal.index_mut-requires
index_mut-requires c =
    let small = slot_small c.id_of.result c.in-Some.slot (sym c.slot_of.ensures.slot ∙ c.in-Some.is) in
    omega (arith, small, c.loop-i.invariant.size, c.loop-i.table.ok.0)

pub loop-i-preserved-in-Some : goal.loop-i-preserved-in-Some
loop-i-preserved-in-Some c =
    let has = ap slot_of (sym c.id_of.ensures) ∙ sym c.slot_of.ensures.slot ∙ c.in-Some.is in
    let step : c.loop-i.i - 1 + 1 ≡ c.loop-i.i = omega (arith, c.loop-i-test.true) in
    finds_more c.args.blocks.now c.loop-i.table.items (c.loop-i.i - 1) c.in-Some.slot c.index-blocks-i.result (omega (arith, c.loop-i-test.true, c.loop-i.auto.i)) c.index-blocks-i.is has (subst (λ k. FindsFrom c.args.blocks.now k c.loop-i.table.items) (sym step) c.loop-i.invariant)

pub loop-i-preserved : goal.loop-i-preserved
loop-i-preserved c =
    let none = ap slot_of (sym c.id_of.ensures) ∙ sym c.slot_of.ensures.slot ∙ c.in_default.is in
    let step : c.loop-i.i - 1 + 1 ≡ c.loop-i.i = omega (arith, c.loop-i-test.true) in
    finds_skip c.args.blocks.now c.loop-i.table.items (c.loop-i.i - 1) c.index-blocks-i.result (omega (arith, c.loop-i-test.true, c.loop-i.auto.i)) c.index-blocks-i.is none (subst (λ k. FindsFrom c.args.blocks.now k c.loop-i.table.items) (sym step) c.loop-i.invariant)

pub returns : goal.returns
returns c = finds_all c.args.blocks.now c.loop-i.table.items (subst (λ k. FindsFrom c.args.blocks.now k c.loop-i.table.items) (omega (arith, c.loop-i-test.false)) c.loop-i.invariant)
