use Rattle.std.proofs.Common.{◌≡◌, ◌≤◌, ◌+◌, length}
use Rattle.std.specs.Str.Lines.{lines}
use Rattle.stl_symbols.specs.Symbols.{symbols_in, symbols_limit, with_lines}
use Rattle.stl_symbols.proofs.reading.symbols_in.Given as goal

-- the symbols so far with those of the lines that are left are those of the file
abbrev pub invariant-loop-left : goal.invariant-loop-left
invariant-loop-left l =
    (with_lines l.language l.number l.symbols (lines l.left) ≡ symbols_in l.language l.bytes) × (l.number + length l.left ≤ symbols_limit + 1)

abbrev pub decreases-loop-left : goal.decreases-loop-left
decreases-loop-left l = length l.left
