use Rattle.std.proofs.Common.{rules}
use Rattle.std.proofs.Math.Logic.{∥∥₁_elim}
use Rattle.std.proofs.Props.{props}
use Rattle.stl_lexer.proofs.TokenLemmas.{token_within}
use Rattle.stl_lexer.proofs.lists.Tokens.token.Goals as goal

pub returns-clause-forward : goal.returns-clause-forward
returns-clause-forward c = ∥∥₁_elim c.args.self.now.cut (hlevel props) (λ are. (token_within c.args.self.now.source.items c.args.self.now.list.items are c.args.at c.index.result.now (search rules) c.index.ensures).0)

pub returns-clause-within : goal.returns-clause-within
returns-clause-within c = ∥∥₁_elim c.args.self.now.cut (hlevel props) (λ are. (token_within c.args.self.now.source.items c.args.self.now.list.items are c.args.at c.index.result.now (search rules) c.index.ensures).1)
