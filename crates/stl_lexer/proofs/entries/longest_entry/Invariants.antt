use Rattle.std.proofs.Common.{map, take}
use Rattle.stl_lexer.specs.Forms.{is_listed}
use Rattle.stl_lexer.specs.Longest.{FindsLongest}
use Rattle.stl_lexer.proofs.entries.longest_entry.Given as goal

abbrev pub invariant-loop-entry : goal.invariant-loop-entry
invariant-loop-entry l = FindsLongest (is_listed l.tail (take l.entry-index (map (λ entry. entry.now) l.table))) l.text l.longest
