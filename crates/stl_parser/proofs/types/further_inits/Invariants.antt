use Rattle.std.proofs.Common.{◌≡◌, ◌-◌, length}
use Rattle.stl_parser.specs.Types.{end_of_tokens, next_init}
use Rattle.stl_parser.specs.Parts.{parts_from}
use Rattle.stl_parser.proofs.types.further_inits.Given as goal

abbrev pub invariant-loop-done : goal.invariant-loop-done
invariant-loop-done l =
    parts_from end_of_tokens (next_init l.source) l.fn.first.items (length l.tokens) l.tokens
    ≡ parts_from end_of_tokens (next_init l.source) l.read.items (length l.tokens - l._done) l.rest
