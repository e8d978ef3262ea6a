use Rattle.std.proofs.Common.{length}
use Rattle.stl_parser.proofs.BlockLemmas.{SettingsRead}
use Rattle.stl_parser.proofs.blocks.settings.Given as goal

abbrev pub invariant-loop-settings : goal.invariant-loop-settings
invariant-loop-settings l = SettingsRead l.source l.fn.kind l.tokens l.settings.items l.at l.rest

abbrev pub decreases-loop-settings : goal.decreases-loop-settings
decreases-loop-settings l = length l.rest
