use Rattle.std.proofs.Common.{length, ◌-◌, ◌≡◌, ◌≤◌, drop}
use Rattle.stl_lexer.specs.declared.gaps.GapPart.TheVariants.{Blanks}
use Rattle.stl_lexer.specs.Gap.{after_gap, line_at}
use Rattle.stl_lexer.proofs.gaps.skip_gap.Given as goal

abbrev pub invariant-loop-next : goal.invariant-loop-next
invariant-loop-next l = record {
  forward : l.fn.from.offset ≤ l.at;
  within : l.at ≤ length l.source;
  rest : after_gap l.part (drop l.at l.source) ≡ after_gap Blanks (drop l.fn.from.offset l.source);
  line : l.line ≡ line_at l.source l.at;
}

abbrev pub decreases-loop-next : goal.decreases-loop-next
decreases-loop-next l = length l.source - l.at
