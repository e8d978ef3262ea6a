use Rattle.std.proofs.Common.{◌∙◌, sym, ap, arith, Err, rules}
use Rattle.std.proofs.lemmas.Result.{err_from_is_err_and}
use Rattle.event_text.proofs.WatchedVarsLemmas.{vars-cut, vars-end, vars-next, vars-start}
use Rattle.event_text.proofs.watched_vars.read_watched_vars.Goals as goal

pub loop-rest-init : goal.loop-rest-init
loop-rest-init c = record {
  read = vars-start _ _;
  valid = tt;
  lines = omega arith;
}

pub loop-rest-preserved : goal.loop-rest-preserved
loop-rest-preserved c = record {
  read = vars-next _ _ _ _ _ _ _ _ c.loop-rest.invariant.read c.first_line.ensures.first c.in_ok-found.ensures.value;
  valid = c.in_ok-found.ensures.valid;
  lines = omega (arith, c.loop-rest.invariant.lines, c.first_line.ensures.shorter);
}

pub returns-in_err-found-clause-value : goal.returns-in_err-found-clause-value
returns-in_err-found-clause-value c =
    let fault = err_from_is_err_and c.from_residual.result c.from_residual.ensures.1 in
    fault.1 ∙ ap Err fault.2 ∙ sym (vars-cut _ _ _ _ _ _ _ c.first_line.result.1.now c.loop-rest.invariant.read c.first_line.ensures.first c.in_err-found.ensures.value)

pub returns-clause-value : goal.returns-clause-value
returns-clause-value c = c.only_vars.ensures.value ∙ sym (vars-end _ _ _ _ _ c.loop-rest.invariant.read (search rules))
