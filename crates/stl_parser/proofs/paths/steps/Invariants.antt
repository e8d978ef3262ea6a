use Rattle.std.proofs.Common.{◌≡◌, ◌-◌, length}
use Rattle.stl_parser.specs.Operands.{path_end, step_at}
use Rattle.stl_parser.specs.Parts.{parts_from}
use Rattle.stl_parser.proofs.paths.steps.Given as goal

abbrev pub invariant-loop-done : goal.invariant-loop-done
invariant-loop-done l =
    parts_from (path_end l.source) (step_at l.source) l.fn.first.items (length l.tokens) l.tokens
    ≡ parts_from (path_end l.source) (step_at l.source) l.read.items (length l.tokens - l._done) l.rest
