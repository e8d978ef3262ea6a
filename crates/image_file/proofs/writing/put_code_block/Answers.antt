use Rattle.std.proofs.Common.{◌∙◌, ◌++◌, ap, List, ℕ, map, false}
use Rattle.flat_code.specs.Codes.{code_bytes}
use Rattle.flat_code.specs.Image.{Head, head_layout, line_field, line_after, parameter_layout, same_state, record_of_block, record_of_param}
use Rattle.flat_code.specs.Layout.{spell_many}
use Rattle.flat_code.specs.Ops.{OpData}
use Rattle.flat_code.specs.Programs.{CodeBlock}
use Rattle.flat_code.specs.declared.programs.Param.{Param}
use Rattle.image_file.proofs.WritingLemmas.{four_put, block_spelled}
use Rattle.image_file.proofs.writing.put_code_block.Goals as goal

pub returns : goal.returns
returns c =
    let head = c.put_head.new.out.items in
    let params = c.put_parameters.new.out.items in
    let code = c.put_code.new.out.items in
    four_put c.args.out.now.items head params code c.put_lines.new.out.items _ _ _ _
    (c.in_ok-put_head.ensures ∙ ap (λ (z : Head). c.args.out.now.items ++ (head_layout (0, 0)).spell z) c.head_of.ensures)
    (c.in_ok-put_parameters.ensures ∙ ap (λ (z : List Param). head ++ spell_many (λ s. parameter_layout 0 0) same_state 0 (map record_of_param z)) (c.as_slice.ensures.value ∙ ap (λ (b : CodeBlock). b.params) c.block.view_is))
    (c.in_ok-put_code.ensures ∙ ap (λ (z : List OpData). params ++ code_bytes z) (c.as_slice-2.ensures.value ∙ ap (λ (b : CodeBlock). b.code) c.block.view_is))
    (c.in_ok-put_lines.ensures ∙ ap (λ (z : List ℕ). code ++ spell_many (line_field false) line_after 0 z) (c.as_slice-3.ensures.value ∙ ap (λ (b : CodeBlock). b.lines) c.block.view_is))
    ∙ ap (λ (z : List ℕ). c.args.out.now.items ++ z) (block_spelled (record_of_block c.args.block.now))
