use Rattle.translation_laws.proofs.StatementLemmas.{bodies_have_roles, others_stay, statements_have_roles}
use Rattle.translation_laws.proofs.laws.law_of_roles.Goals as goal

pub returns : goal.returns
returns c = record { statements = statements_have_roles; bodies = bodies_have_roles; others = others_stay }
