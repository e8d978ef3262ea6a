use Rattle.std.proofs.Common.{length}
use Rattle.std.specs.Int.{div_ceil}
use Rattle.std.specs.List.{flat_map}
use Rattle.s7_cli.specs.run_text.RunText.{row_of}
use Rattle.s7_cli.proofs.run.ListLemmas.{from_to}
use Rattle.s7_cli.proofs.run.WritingLemmas.{GoesOn}
use Rattle.s7_cli.proofs.run_text.closing.write_block.Given as goal

-- the rows so far were written
abbrev pub invariant-loop-row : goal.invariant-loop-row
invariant-loop-row g l =
    GoesOn
    (flat_map (row_of l.number l.bytes) (from_to 0 (div_ceil (length l.bytes) 32)))
    (flat_map (row_of l.number l.bytes) (from_to l.row (div_ceil (length l.bytes) 32)))
    (g.K.Sink.shown l.fn.out)
    (g.K.Sink.shown l.out)
