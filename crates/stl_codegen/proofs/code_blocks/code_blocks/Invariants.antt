use Rattle.std.proofs.Common.{[], drop, map}
use Rattle.stl_codegen.specs.CompiledBlock.{compiled_block}
use Rattle.stl_codegen.specs.GeneratedProgram.{code_block_of, each_block}
use Rattle.stl_codegen.proofs.AppendLemmas.{Between}
use Rattle.stl_codegen.proofs.code_blocks.code_blocks.Given as goal

abbrev pub invariant-loop-place : goal.invariant-loop-place
invariant-loop-place l =
    Between [] l.made.items
    (map compiled_block (each_block (λ c b l. code_block_of c b l l.id) (record l.context { block = l.place }) (drop l.place l.blocks) (drop l.place l.layouts)))
    (map compiled_block (each_block (λ c b l. code_block_of c b l l.id) (record l.context { block = 0 }) l.blocks l.layouts))
