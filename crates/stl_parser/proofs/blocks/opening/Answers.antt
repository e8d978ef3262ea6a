use Rattle.stl_parser.proofs.BlockLemmas.{fewer, opening_read, note_more, no_note_opens}
use Rattle.stl_parser.proofs.blocks.opening.Goals as goal

pub loop-clause-smaller : goal.loop-clause-smaller
loop-clause-smaller c = fewer _ _ _ _ _ _ c.in_ok-clause.ensures.right

pub loop-clause-preserved : goal.loop-clause-preserved
loop-clause-preserved c =
    note_more _ _ _ _ _ (opening_read _ _ _ _ _ _ _ c.loop-clause.invariant c.in_ok-clause.ensures.right) c.in-Note.is

pub returns-in_default : goal.returns-in_default
returns-in_default c = record {
  read = opening_read _ _ _ _ _ _ _ c.loop-clause.invariant c.in_ok-clause.ensures.right;
  opens = no_note_opens _ _ _ _ _ _ c.in_ok-clause.ensures.right c.in_default.not-Note c.in_default.not-Title;
  broken = tt;
}
