use Rattle.std.proofs.Common.{◌≡◌, ◌++◌, replicate}
use Rattle.stl_lexer.specs.Bytes.{newline}
use Rattle.stl_print.proofs.gaps.append_line_ends.Given as goal

abbrev pub invariant-loop : goal.invariant-loop
invariant-loop l = l.out.items ≡ l.fn.out.items ++ replicate l.counter newline
