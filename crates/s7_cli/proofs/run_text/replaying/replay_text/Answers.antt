use Rattle.std.proofs.Common.{◌∙◌, ap, refl, Err}
use Rattle.std.proofs.lemmas.Result.{err_from_is_err_and}
use Rattle.machine.specs.Flat.{code_of}
use Rattle.s7_cli.specs.run_text.RunText.{run_text}
use Rattle.s7_cli.proofs.run.EntryLemmas.{begins, cut-run, run-splits}
use Rattle.s7_cli.proofs.run.WritingLemmas.{goes-cut, goes-first, goes-last, goes-next, wrote-none}
use Rattle.s7_cli.proofs.run_text.replaying.replay_text.Goals as goal

pub returns-in_err-controller : goal.returns-in_err-controller
returns-in_err-controller g c =
    let handed = err_from_is_err_and c.from_residual.result c.from_residual.ensures.1 in
    wrote-none _ _ _ (handed.1 ∙ ap Err (handed.2 ∙ c.in_err-controller.ensures.err))

pub returns-in_err-write_entries : goal.returns-in_err-write_entries
returns-in_err-write_entries g c =
    let handed = err_from_is_err_and c.from_residual-in_err-write_entries.result c.from_residual-in_err-write_entries.ensures.1 in
    goes-cut _ _ _ _ _ _ _ _ _ _ (goes-first (run_text c.args.program.profile (code_of c.args.program.program) c.args.entries.now.entries) _)
    (cut-run c.args.program c.in_ok-controller.controller c.args.entries.now.entries
    (begins c.args.program _ c.args.entries.now.entries _ c.in_ok-controller.ensures.ok c.len.ensures.len))
    refl
    c.in_err-write_entries.ensures.text
    (handed.1 ∙ ap Err handed.2)

pub returns : goal.returns
returns g c =
    goes-last _ _ _ _ _ _ _
    (goes-next _ _ _ _ _ _ _ _ _ (goes-first (run_text c.args.program.profile (code_of c.args.program.program) c.args.entries.now.entries) _)
    (run-splits c.args.program c.in_ok-controller.controller c.write_entries.new.controller c.args.entries.now.entries
    (begins c.args.program _ c.args.entries.now.entries _ c.in_ok-controller.ensures.ok c.len.ensures.len)
    c.in_ok-write_entries.ensures.applied)
    refl
    c.in_ok-write_entries.ensures.text)
    refl
    c.write_closing.ensures
