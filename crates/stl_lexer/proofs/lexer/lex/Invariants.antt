use Rattle.std.proofs.Common.{◌≡◌, ◌≤◌, ◌-◌, false, length}
use Rattle.stl_lexer.specs.Gap.{line_at}
use Rattle.stl_lexer.proofs.TokenLemmas.{Leads}
use Rattle.stl_lexer.proofs.lexer.lex.Given as goal

abbrev pub invariant-loop-token : goal.invariant-loop-token
invariant-loop-token l = record {
  source : l.source.items ≡ l.bytes;
  tokens : Leads l.bytes l.from.offset l.minus 0 false l.list.items;
  within : l.from.offset ≤ length l.bytes;
  line : l.from.line ≡ line_at l.bytes l.from.offset;
}

abbrev pub decreases-loop-token : goal.decreases-loop-token
decreases-loop-token l = length l.bytes - l.from.offset
