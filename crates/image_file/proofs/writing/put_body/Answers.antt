use Rattle.std.proofs.Common.{◌∙◌, ◌++◌, ap, sym, subst, All, List, ℕ, map, false, []}
use Rattle.flat_code.specs.Image.{code_block_layout, after_block, record_of_block, data_block_layout, after_data, name_record, after_name, name_of_entry}
use Rattle.flat_code.specs.Layout.{spell_many}
use Rattle.flat_code.specs.Programs.{CodeBlock, DataBlock, NameEntry, Program}
use Rattle.flat_code.specs.Image.{IsProgram}
use Rattle.image_file.specs.Writing.{BlockFitsFields, DataFitsFields, NameFitsField, ProgramFitsFields}
use Rattle.image_file.proofs.FitLemmas.{program_fits}
use Rattle.image_file.proofs.WritingLemmas.{four_put, body_spelled}
use Rattle.image_file.proofs.writing.put_body.Goals as goal

pub returns-clause-spelled : goal.returns-clause-spelled
returns-clause-spelled c =
    let counts = c.put_counts.new.out.items in
    let codes = c.put_code_blocks.new.out.items in
    let datas = c.put_data_blocks.new.out.items in
    four_put c.args.out.now.items counts codes datas c.put_names.new.out.items _ _ _ _
    c.in_ok-put_counts.ensures
    (c.in_ok-put_code_blocks.ensures ∙ ap (λ (z : List CodeBlock). counts ++ spell_many (code_block_layout false) after_block (0, 0) (map record_of_block z)) (c.as_slice-code_blocks.ensures.value ∙ ap (λ (p : Program). p.code_blocks) c.program.view_is))
    (c.in_ok-put_data_blocks.ensures ∙ ap (λ (z : List DataBlock). codes ++ spell_many data_block_layout after_data (0, 0) z) (c.as_slice.ensures.value ∙ ap (λ (p : Program). p.data_blocks) c.program.view_is))
    (c.in_ok-put_names.ensures ∙ ap (λ (z : List NameEntry). datas ++ spell_many name_record after_name [] (map name_of_entry z)) (c.as_slice-2.ensures ∙ ap (λ (p : Program). p.names) c.program.view_is))
    ∙ ap (λ (z : List ℕ). c.args.out.now.items ++ z) (body_spelled c.args.program.now)

pub put_counts-requires : goal.put_counts-requires
put_counts-requires c = subst ProgramFitsFields c.program.view_is (program_fits _ c.program.invariant)

pub put_code_blocks-requires : goal.put_code_blocks-requires
put_code_blocks-requires c = subst (All BlockFitsFields) (sym c.as_slice-code_blocks.ensures.value) (program_fits _ c.program.invariant).code_blocks

pub put_data_blocks-requires : goal.put_data_blocks-requires
put_data_blocks-requires c = subst (All DataFitsFields) (sym c.as_slice.ensures.value) (program_fits _ c.program.invariant).data_blocks

pub put_names-requires : goal.put_names-requires
put_names-requires c = subst (All NameFitsField) (sym c.as_slice-2.ensures) (program_fits _ c.program.invariant).names

pub returns-clause-short : goal.returns-clause-short
returns-clause-short c = (subst IsProgram c.program.view_is c.program.invariant).short
