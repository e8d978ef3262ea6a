use Rattle.std.proofs.Common.{◌∙◌, arith}
use Rattle.stl_lexer.proofs.RuleLemmas.{rest_begins, none_before, hash_before}
use Rattle.stl_lexer.proofs.literals.behind_prefix.Goals as goal
use Rattle.stl_lexer.proofs.literals.behind_prefix.Goals.{then-loop-start-test+else-token-start-ne35, else-loop-start-test}

pub returns : goal.returns
returns c =
    let s = c.args.token.now in
    c.behind.ensures ∙ rest_begins s c.loop-start.start c.loop-start.invariant.within c.loop-start.invariant.behind
    (elim c.loop-start-test.branch [
      | then-loop-start-test+else-token-start-ne35 w ↦ hash_before s c.loop-start.start w.loop-start-test.true c.loop-start.invariant.within w.if-token-start-ne35.false
      | else-loop-start-test w ↦ none_before s c.loop-start.start (omega arith)
    ])
