use Rattle.std.proofs.Common.{arith, refl, ◌∙◌, sym}
use Rattle.var_access.specs.Entry.{IsRequest}
use Rattle.event_text.proofs.LineLemmas.{both_second}
use Rattle.event_text.proofs.lines.read_operator_line.Goals as goal

pub returns-clause-other : goal.returns-clause-other
returns-clause-other c = record {
  other = refl;
  valid = (omega arith, both_second IsRequest _ _ _ _ (sym c.both.ensures ∙ c.in_ok-operator.was) c.read_request.ensures.valid);
}
