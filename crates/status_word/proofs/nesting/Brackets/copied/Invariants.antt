use Rattle.std.proofs.Common.{◌≡◌, take}
use Rattle.status_word.proofs.nesting.Brackets.copied.Given as goal

-- the entries so far
abbrev pub invariant-loop-bracket : goal.invariant-loop-bracket
invariant-loop-bracket l = l.entries.items ≡ take l.bracket-index l.bracket-items
