use Rattle.stl_parser.proofs.LawLemmas.{one_list, list_or_violation, one_violation}
use Rattle.stl_parser.proofs.FrameLemmas.{tree_there}
use Rattle.stl_parser.proofs.TotalLemmas.{total}
use Rattle.stl_parser.proofs.SpellingLemmas.{one_tree, tree_or_violation}
use Rattle.stl_parser.proofs.sources.law_of_clauses.Goals as goal

pub returns-clause-one_list : goal.returns-clause-one_list
returns-clause-one_list c = one_list

pub returns-clause-list_or_violation : goal.returns-clause-list_or_violation
returns-clause-list_or_violation c = list_or_violation

pub returns-clause-one_violation : goal.returns-clause-one_violation
returns-clause-one_violation c = one_violation

pub returns-clause-one_tree : goal.returns-clause-one_tree
returns-clause-one_tree c = one_tree

pub returns-clause-tree_or_violation : goal.returns-clause-tree_or_violation
returns-clause-tree_or_violation c = tree_or_violation

pub returns-clause-tree_there : goal.returns-clause-tree_there
returns-clause-tree_there c = tree_there

pub returns-clause-total : goal.returns-clause-total
returns-clause-total c = total
