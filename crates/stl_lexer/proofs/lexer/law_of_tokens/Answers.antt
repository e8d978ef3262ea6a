use Rattle.stl_lexer.proofs.TokenLemmas.{one_list, list_or_violation, one_violation}
use Rattle.stl_lexer.proofs.TotalLemmas.{total}
use Rattle.stl_lexer.proofs.lexer.law_of_tokens.Goals as goal

pub returns-clause-one_list : goal.returns-clause-one_list
returns-clause-one_list c = one_list

pub returns-clause-list_or_violation : goal.returns-clause-list_or_violation
returns-clause-list_or_violation c = list_or_violation

pub returns-clause-one_violation : goal.returns-clause-one_violation
returns-clause-one_violation c = one_violation

pub returns-clause-total : goal.returns-clause-total
returns-clause-total c = total
