use Rattle.std.proofs.Common.{◌-◌, drop, length}
use Rattle.std.specs.List.{flat_map}
use Rattle.controller.specs.ReplayResult.{final_data_blocks}
use Rattle.s7_cli.specs.run_text.RunText.{data_block_text}
use Rattle.s7_cli.proofs.run.WritingLemmas.{GoesOn}
use Rattle.s7_cli.proofs.run_text.closing.write_blocks.Given as goal

-- the blocks so far were written
abbrev pub invariant-loop-number : goal.invariant-loop-number
invariant-loop-number g l =
    GoesOn
    (flat_map data_block_text (final_data_blocks l.controller))
    (flat_map data_block_text (drop l.place (final_data_blocks l.controller)))
    (g.K.Sink.shown l.fn.out)
    (g.K.Sink.shown l.out)

abbrev pub decreases-loop-number : goal.decreases-loop-number
decreases-loop-number g l = length (final_data_blocks l.controller) - l.place
