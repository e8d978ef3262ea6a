use Rattle.std.proofs.Common.{◌≡◌, ◌-◌, length, []}
use Rattle.stl_parser.specs.Types.{arrays_end, array_at}
use Rattle.stl_parser.specs.Parts.{parts_from}
use Rattle.stl_parser.proofs.types.arrays.Given as goal

abbrev pub invariant-loop-done : goal.invariant-loop-done
invariant-loop-done l =
    parts_from (arrays_end l.source) (array_at l.source) [] (length l.tokens) l.tokens
    ≡ parts_from (arrays_end l.source) (array_at l.source) l.read.items (length l.tokens - l._done) l.rest
