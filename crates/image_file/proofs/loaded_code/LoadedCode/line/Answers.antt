use Rattle.std.proofs.Common.{ℕ, option_and_then, slice_get, true, ap, sym, ◌∙◌}
use Rattle.flat_code.specs.PlacedOps.{line_placed}
use Rattle.flat_code.specs.Programs.{CodeBlock}
use Rattle.image_file.proofs.MarkLemmas.{line_by_mark}
use Rattle.image_file.proofs.loaded_code.LoadedCode.line.Goals as goal

pub returns-in_err-mark : goal.returns-in_err-mark
returns-in_err-mark c =
    let code = c.self.inside in
    c.from_residual.ensures
    ∙ ap (option_and_then (λ (m : ℕ). slice_get code.lines.now m)) (sym c.in_err-mark.was ∙ c.mark_at_offset.ensures)
    ∙ line_by_mark code.block.now code.bytes.now code.marks.now code.lines.now c.args.at c.self.invariant
    ∙ ap (λ (b : CodeBlock). line_placed 0 true b.code b.lines c.args.at) c.self.view_is

pub returns : goal.returns
returns c =
    let code = c.self.inside in
    c.line_of_mark.ensures
    ∙ ap (option_and_then (λ (m : ℕ). slice_get code.lines.now m)) (sym c.in_ok-mark.was ∙ c.mark_at_offset.ensures)
    ∙ line_by_mark code.block.now code.bytes.now code.marks.now code.lines.now c.args.at c.self.invariant
    ∙ ap (λ (b : CodeBlock). line_placed 0 true b.code b.lines c.args.at) c.self.view_is
