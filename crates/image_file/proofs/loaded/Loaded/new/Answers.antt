use Rattle.std.proofs.Common.{◌∙◌, ◌++◌, length, map, List, arith, ap, sym, subst}
use Rattle.flat_code.specs.Image.{IsProgram}
use Rattle.flat_code.specs.Loading.{Verifies}
use Rattle.flat_code.specs.Programs.{CodeBlock, DataBlock, Program}
use Rattle.image_file.specs.Readers.{data_block_id}
use Rattle.image_file.specs.Tables.{HaveSlots, FindsBlocks}
use Rattle.image_file.proofs.ProgramLemmas.{program_room, program_count}
use Rattle.image_file.proofs.loaded.Loaded.new.Goals as goal

pub loaded_blocks-requires : goal.loaded_blocks-requires
loaded_blocks-requires c = (program_room _ c.program.invariant).small

pub block_table-requires : goal.block_table-requires
block_table-requires c = omega (arith, program_count _ c.program.invariant, ap length (c.as_slice-3.ensures.value ∙ c.in_ok-blocks.ensures))

pub invariant_of-result : goal.invariant_of-result
invariant_of-result c =
    let same = ap (λ (z : List CodeBlock). let p : Program = record { code_blocks = z; data_blocks = c.program.inside.data_blocks.items; names = c.program.inside.names } in p) c.in_ok-blocks.ensures in record {
      is_program = subst IsProgram (sym same) c.program.invariant;
      verifies = subst Verifies (sym (same ∙ c.program.view_is)) c.requires;
      blocks = c.in_ok-ids.ensures
          ∙ ap (λ (z : List CodeBlock). map (λ b. b.id) z ++ map data_block_id c.as_slice-2.result.now) c.as_slice.ensures.value
          ∙ ap (λ (z : List DataBlock). map (λ b. b.id) c.in_ok-blocks.blocks.items ++ map data_block_id z) c.as_slice-2.ensures.value;
      slots = subst HaveSlots (sym c.in_ok-blocks.ensures) (program_room _ c.program.invariant).slots;
      finds = subst (λ (z : List CodeBlock). FindsBlocks z c.in_ok-table.table.items) c.as_slice-3.ensures.value c.in_ok-table.ensures;
    }
