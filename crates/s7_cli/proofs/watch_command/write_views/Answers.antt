use Rattle.std.proofs.Common.{◌∙◌, ap, refl, ◌++◌, Err, codes}
use Rattle.std.proofs.lemmas.Result.{err_from_is_err_and}
use Rattle.s7_cli.specs.WatchSays.{seen_text}
use Rattle.s7_cli.proofs.run.WritingLemmas.{goes-cut, goes-first, goes-last, goes-next, goes-wanting}
use Rattle.s7_cli.proofs.watch_command.write_views.Goals as goal

pub returns-in_err-push_all : goal.returns-in_err-push_all
returns-in_err-push_all g c =
    let handed = err_from_is_err_and c.from_residual.result c.from_residual.ensures.1 in
    let seen = seen_text c.args.vars.now c.args.views.now in
    goes-cut _ _ (codes "---\n") seen _ _ _ _ _ _ (goes-first (codes "---\n" ++ seen) _) refl refl
    c.in_err-push_all.ensures (handed.1 ∙ ap Err handed.2)

pub returns-in_err-lines : goal.returns-in_err-lines
returns-in_err-lines g c =
    let handed = err_from_is_err_and c.from_residual-in_err-lines.result c.from_residual-in_err-lines.ensures.1 in
    let seen = seen_text c.args.vars.now c.args.views.now in
    goes-wanting _ seen _ _ _ (handed.1 ∙ ap Err handed.2)
    (goes-next _ _ (codes "---\n") seen _ _ _ _ _ (goes-first (codes "---\n" ++ seen) _) refl refl c.in_ok-push_all.ensures)

pub returns : goal.returns
returns g c =
    let seen = seen_text c.args.vars.now c.args.views.now in
    goes-last _ seen _ _ _ _ _
    (goes-next _ _ (codes "---\n") seen _ _ _ _ _ (goes-first (codes "---\n" ++ seen) _) refl refl c.in_ok-push_all.ensures)
    (c.deref.ensures.value ∙ c.in_ok-lines.ensures) c.push_all-2.ensures
