use Rattle.std.proofs.Common.{ap, ◌∙◌, ◌++◌, List, ℕ, false}
use Rattle.std.proofs.lemmas.List.{drop_more}
use Rattle.flat_code.specs.Image.{line_field, line_after}
use Rattle.image_file.proofs.WritingLemmas.{one_left, line_spells}
use Rattle.image_file.proofs.writing.put_lines.Goals as goal

pub loop-line-preserved : goal.loop-line-preserved
loop-line-preserved c =
    one_left (line_field false) line_after _ c.loop-line.out.items c.extend_from_slice.new.self.items _ _ _ _ line_spells (drop_more c.args.lines.now c.loop-line.line-index 0 c.loop-line-test.true)
    (c.in_ok-extend_from_slice.ensures.items ∙ ap (λ (z : List ℕ). c.loop-line.out.items ++ z) c.to_be_bytes.ensures) c.loop-line.invariant
