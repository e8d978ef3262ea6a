use Rattle.std.proofs.Common.{[], drop}
use Rattle.stl_codegen.specs.GeneratedProgram.{data_block_of, each_block}
use Rattle.stl_codegen.proofs.AppendLemmas.{Between}
use Rattle.stl_codegen.proofs.data_blocks.data_blocks.Given as goal

abbrev pub invariant-loop-place : goal.invariant-loop-place
invariant-loop-place l =
    Between [] l.made.items
    (each_block (λ c b l. data_block_of c l l.id) (record l.context { block = l.place }) (drop l.place l.blocks) (drop l.place l.layouts))
    (each_block (λ c b l. data_block_of c l l.id) (record l.context { block = 0 }) l.blocks l.layouts)
