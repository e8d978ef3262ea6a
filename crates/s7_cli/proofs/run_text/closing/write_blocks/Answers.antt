use Rattle.std.proofs.Common.{◌≡◌, ◌+◌, ◌∙◌, ap, refl, sym, subst, ℕ, drop, Err, arith}
use Rattle.std.specs.List.{flat_map}
use Rattle.std.proofs.lemmas.Result.{err_from_is_err_and}
use Rattle.controller.specs.ReplayResult.{final_data_blocks}
use Rattle.s7_cli.specs.run_text.RunText.{data_block_text}
use Rattle.s7_cli.proofs.run.ListLemmas.{found-last, found-more, found-next}
use Rattle.s7_cli.proofs.run.WritingLemmas.{GoesOn, goes-cut, goes-end, goes-next, goes-wanting}
use Rattle.s7_cli.proofs.run_text.closing.write_blocks.Goals as goal

pub returns-in_err-write_block : goal.returns-in_err-write_block
returns-in_err-write_block g c =
    let handed = err_from_is_err_and c.from_residual.result c.from_residual.ensures.1 in
    goes-cut _ _ _ _ _ _ _ _ _ _ c.loop-number.invariant
    (found-next data_block_text (final_data_blocks c.args.controller.now) c.loop-number.place _ c.in-Some.ensures)
    refl
    c.in_err-write_block.ensures
    (handed.1 ∙ ap Err handed.2)

-- the next place has no number
pub returns-in_default-checked_add : goal.returns-in_default-checked_add
returns-in_default-checked_add g c =
    goes-wanting _ _ _ _ _ refl
    (goes-next _ _ _ _ _ _ _ _ _ c.loop-number.invariant
    (found-next data_block_text (final_data_blocks c.args.controller.now) c.loop-number.place _ c.in-Some.ensures)
    refl
    c.in_ok-write_block.ensures)

pub loop-number-smaller : goal.loop-number-smaller
loop-number-smaller g c =
    omega (arith, found-more (final_data_blocks c.args.controller.now) c.loop-number.place _ c.in-Some.ensures, c.in-Some-checked_add.ensures)

pub loop-number-preserved : goal.loop-number-preserved
loop-number-preserved g c =
    let next : c.in-Some-checked_add.next ≡ c.loop-number.place + 1 = omega (arith, c.in-Some-checked_add.ensures) in
    subst
    (λ (place : ℕ). GoesOn (flat_map data_block_text (final_data_blocks c.args.controller.now)) (flat_map data_block_text (drop place (final_data_blocks c.args.controller.now)))
    (g.K.Sink.shown c.args.out.now) (g.K.Sink.shown c.write_block.new.out))
    (sym next)
    (goes-next _ _ _ _ _ _ _ _ _ c.loop-number.invariant
    (found-next data_block_text (final_data_blocks c.args.controller.now) c.loop-number.place _ c.in-Some.ensures)
    refl
    c.in_ok-write_block.ensures)

pub returns : goal.returns
returns g c = goes-end _ _ _ _ _ c.loop-number.invariant (found-last data_block_text (final_data_blocks c.args.controller.now) c.loop-number.place c.in_default.ensures)
