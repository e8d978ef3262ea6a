use Rattle.std.proofs.Common.{◌≡◌, ◌∙◌, ◌+◌, drop, sym, ap, ◌<◌, length, arith}
use Rattle.std.proofs.lemmas.List.{drop-drop, length-drop}
use Rattle.stl_lexer.specs.Gap.{after_gap, line_at}
use Rattle.stl_lexer.proofs.LineLemmas.{line_at_add, line_at_more, drop_more}
use Rattle.stl_lexer.proofs.gaps.skip_gap.Goals as goal

-- one byte more belongs to the gap, and the run behind it
pub loop-next-preserved : goal.loop-next-preserved
loop-next-preserved c =
    let s = c.args.source.now in
    let i = c.loop-next.at in
    let n = c.part_run.result in
    let gap = rw c.behind.ensures at c.in-Some.ensures in
    let run = rw c.behind-in-Some.ensures at c.part_run.ensures.rest in
    let lines = rw c.behind-in-Some.ensures at c.part_run.ensures.line in
    let more : i < length s = omega (arith, length-drop i s, gap.0) in
    let there : i + 1 + n ≡ i + (1 + n) = omega arith in
    record {
      forward = omega arith;
      within = omega (arith, c.part_run.ensures.within, ap length c.behind-in-Some.ensures, length-drop (i + 1) s);
      rest = ap (after_gap c.in-Some.next) (sym (drop-drop n (i + 1) s ∙ ap (λ k. drop k s) there)) ∙ sym run ∙ ap (after_gap c.in-Some.next) (sym (drop_more s i)) ∙ sym gap.1 ∙ c.loop-next.invariant.rest;
      line = omega (arith, line_at_more s i more, c.newline-line.ensures, line_at_add s (i + 1) n, lines, ap (line_at s) there);
    }
