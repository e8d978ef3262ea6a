use Rattle.std.proofs.Common.{◌<◌, ◌≤◌, List, [], length, min, map, ap, subst, arith}
use Rattle.stl_types.specs.Context.{Context}
use Rattle.stl_codegen.specs.CompiledBlock.{StatedBlock, compiled_block}
use Rattle.stl_codegen.specs.Fitting.{AreItemsAppended, BlockFits}
use Rattle.stl_codegen.specs.GeneratedProgram.{code_block_of}
use Rattle.stl_codegen.proofs.AppendLemmas.{added_none, added_some, between_end, between_misfit, between_turn}
use Rattle.stl_codegen.proofs.BlockLemmas.{each_compiled_turn, each_end}
use Rattle.stl_codegen.proofs.code_blocks.code_blocks.Goals as goal

pub returns-in_default-clause-none : goal.returns-in_default-clause-none
returns-in_default-clause-none c =
    let b = c.index-blocks-place.result in
    let l = c.index-layouts-place.result in
    let context : Context = record c.args.context.now { block = c.loop-place.place } in
    let here = map compiled_block (code_block_of context b l l.id) in
    let in_blocks : c.loop-place.place < length c.args.blocks.now = omega (arith, c.min-place-end.ensures) in
    let in_layouts : c.loop-place.place < length c.args.layouts.now = omega (arith, c.min-place-end.ensures) in
    let made : AreItemsAppended BlockFits c.loop-place.made.items c.add_code_block.new.made.items here c.in_ok-added.added =
    subst (λ (k : Context). AreItemsAppended BlockFits c.loop-place.made.items c.add_code_block.new.made.items (map compiled_block (code_block_of k b l l.id)) c.in_ok-added.added) c.at-here.ensures c.in_ok-added.ensures in
    between_misfit BlockFits [] c.loop-place.made.items _ here _ _ c.loop-place.invariant
    (each_compiled_turn (λ k b l. code_block_of k b l l.id) c.args.context.now c.args.blocks.now c.args.layouts.now c.loop-place.place b l in_blocks in_layouts c.index-blocks-place.is c.index-layouts-place.is)
    (added_none BlockFits c.loop-place.made.items c.add_code_block.new.made.items here c.in_ok-added.added c.in_default.is made)

pub loop-place-preserved : goal.loop-place-preserved
loop-place-preserved c =
    let b = c.index-blocks-place.result in
    let l = c.index-layouts-place.result in
    let context : Context = record c.args.context.now { block = c.loop-place.place } in
    let here = map compiled_block (code_block_of context b l l.id) in
    let in_blocks : c.loop-place.place < length c.args.blocks.now = omega (arith, c.min-place-end.ensures) in
    let in_layouts : c.loop-place.place < length c.args.layouts.now = omega (arith, c.min-place-end.ensures) in
    let made : AreItemsAppended BlockFits c.loop-place.made.items c.add_code_block.new.made.items here c.in_ok-added.added =
    subst (λ (k : Context). AreItemsAppended BlockFits c.loop-place.made.items c.add_code_block.new.made.items (map compiled_block (code_block_of k b l l.id)) c.in_ok-added.added) c.at-here.ensures c.in_ok-added.ensures in
    between_turn [] c.loop-place.made.items c.add_code_block.new.made.items _ here _ _ c.loop-place.invariant
    (each_compiled_turn (λ k b l. code_block_of k b l l.id) c.args.context.now c.args.blocks.now c.args.layouts.now c.loop-place.place b l in_blocks in_layouts c.index-blocks-place.is c.index-layouts-place.is)
    (added_some BlockFits c.loop-place.made.items c.add_code_block.new.made.items here c.in_ok-added.added c.in-Some.field-0 c.in-Some.is made)

pub returns-clause-value : goal.returns-clause-value
returns-clause-value c =
    let over : min (length c.args.blocks.now) (length c.args.layouts.now) ≤ c.loop-place.place = omega (arith, c.min-place-end.ensures) in
    between_end [] c.loop-place.made.items _ _ c.loop-place.invariant
    (ap (λ (z : List StatedBlock). map compiled_block z)
    (each_end (λ k b l. code_block_of k b l l.id) (record c.args.context.now { block = c.loop-place.place }) c.args.blocks.now c.args.layouts.now c.loop-place.place over))
