use Rattle.std.proofs.Common.{◌≡◌, List, [], ap, sym, ◌∙◌}
use Rattle.plc_base.specs.declared.Profile.{Profile}
use Rattle.flat_code.specs.Programs.{Program}
use Rattle.machine.specs.Code.{Code}
use Rattle.machine.specs.Flat.{code_of}
use Rattle.var_access.specs.History.{History}
use Rattle.var_access.specs.declared.Entry.{Entry}
use Rattle.controller.specs.Replay.{last_observed, replay}
use Rattle.controller.specs.ShownEntry.{nothing_shown, watched_state}
use Rattle.controller.specs.Start.{initial_state}
use Rattle.controller.specs.State.{State}
use Rattle.controller.specs.Views.{cpu_state}
use Rattle.controller.specs.declared.observing.Observed.{Observed}
use Rattle.controller.specs.ReplayResult.{entry_events}
use Rattle.controller.proofs.history.ReplayLemmas.{none_seen, start_fits, starts}
use Rattle.controller.proofs.controllers.Controller.new.Goals as goal

pub invariant_of-result : goal.invariant_of-result
invariant_of-result c =
    let p : Program = c.args.program.program in
    let code : Code = code_of p in
    let s : State = cpu_state c.in_ok-cpu.cpu in
    let profile : Profile = c.args.program.profile in
    let started : s ≡ initial_state profile code =
    c.in_ok-cpu.ensures ∙ ap (λ (f : Profile). initial_state f code) c.profile.ensures in
    let entries : c.new.result.entries ≡ [] = ap (λ (kept : History). kept.entries) c.new.ensures in
    let seen : nothing_shown ≡ last_observed profile code (entry_events c.new.result.entries) =
    none_seen profile code ∙ ap (λ (es : List Entry). last_observed profile code (entry_events es)) (sym entries) in
    record {
      verifies = c.law_of_verifying.ensures;
      state = started ∙ starts profile code ∙ ap (λ (es : List Entry). replay profile code (entry_events es)) (sym entries);
      fit = start_fits profile p s c.what_runs_goes_on.ensures.start c.law_of_verifying.ensures started;
      observer = c.new-observer.ensures ∙ ap (λ (o : Observed). watched_state s o) seen;
      numbers = c.in_ok-numbers.ensures;
    }
