use Rattle.std.proofs.Common.{◌≡◌, ◌++◌, ◌∷◌, [], List, ap, sym, ◌∙◌}
use Rattle.plc_base.specs.declared.Profile.{Profile}
use Rattle.flat_code.specs.Programs.{Program}
use Rattle.machine.specs.Code.{Code}
use Rattle.machine.specs.Flat.{code_of}
use Rattle.var_access.specs.History.{History}
use Rattle.var_access.specs.declared.Entry.{Entry}
use Rattle.controller.specs.Replay.{entry_result, last_observed, replay}
use Rattle.controller.specs.ShownEntry.{watched_state}
use Rattle.controller.specs.State.{State}
use Rattle.controller.specs.Views.{cpu_state}
use Rattle.controller.specs.declared.observing.Observed.{Observed}
use Rattle.controller.specs.ReplayResult.{entry_events}
use Rattle.controller.proofs.history.ReplayLemmas.{fits_next, observer_next, seen_next, state_next}
use Rattle.controller.proofs.controllers.Controller.enter.Goals as goal

pub enter-mon-requires-clause-ready : goal.enter-mon-requires-clause-ready
enter-mon-requires-clause-ready c =
    c.what_runs_goes_on.ensures.ready c.self.inside.program.program (cpu_state c.self.inside.cpu)
    c.self.invariant.verifies c.self.invariant.fit

pub invariant_of-self : goal.invariant_of-self
invariant_of-self c =
    let p : Program = c.self.inside.program.program in
    let profile : Profile = c.self.inside.program.profile in
    let code : Code = code_of p in
    let history : List Entry = c.self.inside.history.entries in
    let s : State = cpu_state c.self.inside.cpu in
    let t : State = cpu_state c.enter-mon.new.self in
    let entries : c.push.new.self.entries ≡ history ++ c.args.e.now ∷ [] = ap (λ (kept : History). kept.entries) c.push.ensures in
    let seen : (entry_result code s c.args.e.now.what).seen ≡ last_observed profile code (entry_events c.push.new.self.entries) =
    seen_next profile code history c.args.e.now s c.continues_replay.ensures.seen c.self.invariant.state
    ∙ ap (λ (es : List Entry). last_observed profile code (entry_events es)) (sym entries) in
    record {
      verifies = c.self.invariant.verifies;
      state =
          state_next profile code history c.args.e.now s t c.continues_replay.ensures.state c.self.invariant.state c.enter-mon.ensures.state
          ∙ ap (λ (es : List Entry). replay profile code (entry_events es)) (sym entries);
      fit =
          fits_next p s t c.args.e.now.what c.what_runs_goes_on.ensures.entry c.self.invariant.verifies c.requires.valid.1
          c.self.invariant.fit c.enter-mon.ensures.state;
      observer =
          observer_next code s t c.args.e.now.what c.enter-mon.result c.self.inside.observer c.look.new.self _
          c.self.invariant.observer c.look.ensures c.enter-mon.ensures.record c.enter-mon.ensures.state
          ∙ ap (λ (o : Observed). watched_state t o) seen;
      numbers = c.self.invariant.numbers;
    }
