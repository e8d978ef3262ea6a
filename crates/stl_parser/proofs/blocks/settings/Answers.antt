use Rattle.stl_parser.proofs.BlockLemmas.{fewer, never_ends, settings_more, settings_end}
use Rattle.stl_parser.proofs.blocks.settings.Goals as goal

pub returns-in-Ends-clause-read : goal.returns-in-Ends-clause-read
returns-in-Ends-clause-read c =
    rw c.from_vec.ensures (settings_end _ _ _ _ _ _ c.in-Ends.line c.in-Ends.kind _ _ c.loop-settings.invariant
    (rw c.in-Ends.is at c.in_ok-clause.ensures.right))

pub loop-settings-smaller : goal.loop-settings-smaller
loop-settings-smaller c = fewer _ _ _ _ _ _ c.in_ok-clause.ensures.right

pub loop-settings-preserved : goal.loop-settings-preserved
loop-settings-preserved c =
    settings_more _ _ _ _ _ _ _ _ _ _ c.loop-settings.invariant c.in_ok-clause.ensures.right
    (never_ends _ c.in_default.not-Ends) c.in_ok-keep_setting-in_default.ensures
