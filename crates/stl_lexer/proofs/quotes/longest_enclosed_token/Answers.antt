use Rattle.std.proofs.Common.{arith}
use Rattle.std.proofs.lemmas.List.{take_rest}
use Rattle.stl_lexer.proofs.QuoteLemmas.{enclosed_found, not_closed}
use Rattle.stl_lexer.proofs.quotes.longest_enclosed_token.Goals as goal
use Rattle.stl_lexer.proofs.quotes.longest_enclosed_token.Goals.{else-inner-rest-via-then-inner-rest+else-rest-inner, else-inner-rest-via-else-inner-rest}

pub returns-then-rest-inner : goal.returns-then-rest-inner
returns-then-rest-inner c = enclosed_found c.args.opening c.args.close c.args.one_line c.args.text.now _ c.inner_run-inner.result c.in-len1-up.len_at_least c.if-first-opening.false (take_rest c.args.text.now 1) c.inner_run-inner.ensures.value c.if-inner-rest.true c.if-rest-inner.true

pub returns-else-inner-rest : goal.returns-else-inner-rest
returns-else-inner-rest c = not_closed c.args.opening c.args.close c.args.one_line c.args.text.now _ c.inner_run-inner.result (take_rest c.args.text.now 1) c.inner_run-inner.ensures.value
    (λ within there. elim c.else-inner-rest.branch [
      | else-inner-rest-via-then-inner-rest+else-rest-inner w ↦ w.if-rest-inner.false there
      | else-inner-rest-via-else-inner-rest w ↦ absurd (omega arith)
    ])
