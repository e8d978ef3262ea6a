use Rattle.std.proofs.Common.{◌<◌, ◌≤◌, ◌++◌, [], length, min, ap, ◌∙◌, arith}
use Rattle.stl_types.specs.Context.{Context}
use Rattle.stl_codegen.specs.GeneratedProgram.{data_block_of}
use Rattle.stl_codegen.proofs.AppendLemmas.{between_end, between_turn}
use Rattle.stl_codegen.proofs.BlockLemmas.{each_end, each_layout_turn}
use Rattle.stl_codegen.proofs.data_blocks.data_blocks.Goals as goal

pub loop-place-preserved : goal.loop-place-preserved
loop-place-preserved c =
    let l = c.index-layouts-place.result in
    let here : Context = record c.args.context.now { block = c.loop-place.place } in
    let in_blocks : c.loop-place.place < length c.args.blocks.now = omega (arith, c.min-place-end.ensures) in
    let in_layouts : c.loop-place.place < length c.args.layouts.now = omega (arith, c.min-place-end.ensures) in
    between_turn [] c.loop-place.made.items _ _ (data_block_of here l l.id) _ _ c.loop-place.invariant
    (each_layout_turn (λ k l. data_block_of k l l.id) c.args.context.now c.args.blocks.now c.args.layouts.now c.loop-place.place l in_blocks in_layouts c.index-layouts-place.is)
    (c.in_ok-add_data_block.ensures ∙ ap (λ (k : Context). c.loop-place.made.items ++ data_block_of k l l.id) c.at-here.ensures)

pub returns : goal.returns
returns c =
    let over : min (length c.args.blocks.now) (length c.args.layouts.now) ≤ c.loop-place.place = omega (arith, c.min-place-end.ensures) in
    between_end [] c.loop-place.made.items _ _ c.loop-place.invariant
    (each_end (λ k b l. data_block_of k l l.id) (record c.args.context.now { block = c.loop-place.place }) c.args.blocks.now c.args.layouts.now c.loop-place.place over)
