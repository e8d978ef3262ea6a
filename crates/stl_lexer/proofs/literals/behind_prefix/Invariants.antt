use Rattle.std.proofs.Common.{◌≡◌, ◌≤◌, ◌+◌, not, eqb, length, take}
use Rattle.std.specs.List.{suffix_len}
use Rattle.stl_lexer.specs.Bytes.{hash}
use Rattle.stl_lexer.proofs.literals.behind_prefix.Given as goal

abbrev pub invariant-loop-start : goal.invariant-loop-start
invariant-loop-start l = record {
  within : l.start ≤ length l.token;
  behind : l.start + suffix_len (λ b. not (eqb b hash)) l.token ≡ length l.token + suffix_len (λ b. not (eqb b hash)) (take l.start l.token);
}

abbrev pub decreases-loop-start : goal.decreases-loop-start
decreases-loop-start l = l.start
