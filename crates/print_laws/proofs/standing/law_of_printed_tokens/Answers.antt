use Rattle.print_laws.proofs.lexing.Trees.{printed_tokens, tokens_stand}
use Rattle.print_laws.proofs.standing.law_of_printed_tokens.Goals as goal

pub returns : goal.returns
returns c = record { stand = tokens_stand; tokens = printed_tokens }
