use Rattle.std.proofs.Common.{◌-◌, drop, false, is_ok, refl, sym, ap, subst, arith, rules}
use Rattle.std.proofs.ResultArms.{chosen}
use Rattle.stl_lexer.specs.Gap.{line_at}
use Rattle.stl_lexer.specs.Tokens.{AreTokens, IsViolation, IsNextToken, IsEndOfTokens, BreaksTokenRule}
use Rattle.stl_lexer.proofs.LineLemmas.{line_at_end, line_at_limit}
use Rattle.stl_lexer.proofs.TokenLemmas.{Leads, leads_more, leads_then}
use Rattle.stl_lexer.proofs.lexer.lex.Goals as goal

pub loop-token-init : goal.loop-token-init
unfolding line_at
loop-token-init c = record {
  source = search rules;
  tokens = subst (Leads c.args.bytes.now 0 false 0 false) (sym c.new-list.ensures.items) (refl, refl);
  within = omega arith;
  line = refl;
}

pub overflow_add-from : goal.overflow_add-from
overflow_add-from c =
    let s = c.args.bytes.now in
    let t = c.in-Ok-Some.token in
    let next : IsNextToken s c.loop-token.from.offset c.loop-token.minus t = rw c.in-Ok-Some.field-0-is at c.in-Ok-Some.ensures in
    omega (arith, line_at_end s t.start t.end (omega (arith, next.forward)), next.line, c.token_lines.ensures, line_at_limit s t.end, c.requires)

pub loop-token-preserved : goal.loop-token-preserved
loop-token-preserved c =
    let s = c.args.bytes.now in
    let t = c.in-Ok-Some.token in
    let next : IsNextToken s c.loop-token.from.offset c.loop-token.minus t = rw c.in-Ok-Some.field-0-is at c.in-Ok-Some.ensures in
    let pushed = chosen _ _ _ _ c.push.ensures.items (ap is_ok c.in_ok-push-in-Ok-Some.was) in
    record {
      source = c.loop-token.invariant.source;
      tokens = rw (pushed, c.is_minus-minus.ensures) (leads_more s c.loop-token.from.offset c.loop-token.minus 0 false c.loop-token.list.items t c.loop-token.invariant.tokens next);
      within = next.within;
      line = omega (arith, line_at_end s t.start t.end (omega (arith, next.forward)), next.line, c.token_lines.ensures);
    }

pub invariant_of-result-clause-cut : goal.invariant_of-result-clause-cut
unfolding AreTokens
invariant_of-result-clause-cut c =
    let s = c.args.bytes.now in
    let end : IsEndOfTokens s c.loop-token.from.offset = rw c.in-Ok-None.field-0-is at c.in-Ok-None.ensures in
    ∣ subst (λ source. AreTokens source c.loop-token.list.items) (sym c.loop-token.invariant.source)
    (leads_then s c.loop-token.from.offset c.loop-token.minus (λ at m. IsEndOfTokens s at) 0 false c.loop-token.list.items c.loop-token.invariant.tokens end) ∣₁

pub returns-in-Ok-None-clause-tokens : goal.returns-in-Ok-None-clause-tokens
unfolding AreTokens
returns-in-Ok-None-clause-tokens c =
    let s = c.args.bytes.now in
    let end : IsEndOfTokens s c.loop-token.from.offset = rw c.in-Ok-None.field-0-is at c.in-Ok-None.ensures in
    leads_then s c.loop-token.from.offset c.loop-token.minus (λ at m. IsEndOfTokens s at) 0 false c.loop-token.list.items c.loop-token.invariant.tokens end

pub returns-in-Err-clause-refused : goal.returns-in-Err-clause-refused
unfolding IsViolation
returns-in-Err-clause-refused c =
    let s = c.args.bytes.now in
    (c.loop-token.list.items, leads_then s c.loop-token.from.offset c.loop-token.minus (λ at m. BreaksTokenRule s at m c.in-Err.refusal.line c.in-Err.refusal.rule) 0 false c.loop-token.list.items c.loop-token.invariant.tokens c.in-Err.ensures)

pub token_lines-requires-clause-form : goal.token_lines-requires-clause-form
token_lines-requires-clause-form c =
    let s = c.args.bytes.now in
    let t = c.in-Ok-Some.token in
    let next : IsNextToken s c.loop-token.from.offset c.loop-token.minus t = rw c.in-Ok-Some.field-0-is at c.in-Ok-Some.ensures in
    (drop (t.end - t.start) (drop t.start s), next.longest.fits.fits)
