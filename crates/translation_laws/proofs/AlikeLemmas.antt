-- A right source and what it comes back as have the same tree.
use Rattle.translation_laws.specs.Alike.{TreesAlike}
use Rattle.translation_laws.proofs.CalmLemmas.{calm_clause}
use Rattle.translation_laws.proofs.FrameAlikeLemmas.{begins_rest, body_free, body_step, calm_place, first_place, no_statement, quiet_role, stands_after, stands_quiet}
use Rattle.translation_laws.proofs.RestAlikeLemmas.{body_rest}
use Rattle.translation_laws.proofs.TreeAlikeLemmas.{Frame, alike_by}

frame : Frame
frame = record {
  calm = calm_clause;
  stands_quiet = stands_quiet;
  stands_after = stands_after;
  no_statement = no_statement;
  first_place = first_place;
  begins_rest = begins_rest;
  calm_place = calm_place;
  quiet_role = quiet_role;
  body_step = body_step;
  body_free = body_free;
  body_rest = body_rest;
}

pub trees_alike : TreesAlike
trees_alike = alike_by frame
