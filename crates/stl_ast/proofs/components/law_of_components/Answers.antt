use Rattle.stl_ast.proofs.NestedLemmas.{spelled_by_nested, levels}
use Rattle.stl_ast.proofs.components.law_of_components.Goals as goal

pub returns-clause-spelled : goal.returns-clause-spelled
returns-clause-spelled c = spelled_by_nested

pub returns-clause-levels : goal.returns-clause-levels
returns-clause-levels c = levels
