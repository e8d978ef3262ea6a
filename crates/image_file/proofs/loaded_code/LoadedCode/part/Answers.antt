use Rattle.std.proofs.Common.{ap, sym, ◌∙◌}
use Rattle.flat_code.specs.PlacedOps.{op_placed}
use Rattle.flat_code.specs.Programs.{CodeBlock}
use Rattle.image_file.proofs.MarkLemmas.{op_known, op_missing, op_nowhere, op_there}
use Rattle.image_file.proofs.loaded_code.LoadedCode.part.Goals as goal

pub returns-in_err-mark : goal.returns-in_err-mark
returns-in_err-mark c =
    let code = c.self.inside in
    c.from_residual.ensures ∙ sym (op_missing code.block.now code.bytes.now code.marks.now code.lines.now c.args.at c.self.invariant (sym c.mark_at_offset.ensures ∙ c.in_err-mark.was))
    ∙ ap (λ (b : CodeBlock). op_placed 0 b.code c.args.at) c.self.view_is

pub returns-then-mark : goal.returns-then-mark
returns-then-mark c =
    let code = c.self.inside in
    sym (op_nowhere code.block.now code.bytes.now code.marks.now code.lines.now c.args.at c.in_ok-mark.mark c.self.invariant (sym c.mark_at_offset.ensures ∙ c.in_ok-mark.was) c.if-mark.true)
    ∙ ap (λ (b : CodeBlock). op_placed 0 b.code c.args.at) c.self.view_is

pub decode_part_unchecked-requires-clause-known : goal.decode_part_unchecked-requires-clause-known
decode_part_unchecked-requires-clause-known c =
    let code = c.self.inside in
    op_known code.block.now code.bytes.now code.marks.now code.lines.now c.args.at c.in_ok-mark.mark c.self.invariant (sym c.mark_at_offset.ensures ∙ c.in_ok-mark.was) c.if-mark.false

pub returns : goal.returns
returns c =
    let code = c.self.inside in
    c.decode_part_unchecked.ensures
    ∙ sym (op_there code.block.now code.bytes.now code.marks.now code.lines.now c.args.at c.in_ok-mark.mark c.self.invariant (sym c.mark_at_offset.ensures ∙ c.in_ok-mark.was) c.if-mark.false)
    ∙ ap (λ (b : CodeBlock). op_placed 0 b.code c.args.at) c.self.view_is
