use Rattle.std.proofs.Common.{false, ◌≡◌, ◌≤◌, ℕ, List, ◌++◌, ap, sym, ◌∙◌, arith, replicate, subst}
use Rattle.plc_base.specs.declared.Profile.{Profile}
use Rattle.flat_code.specs.Programs.{Program}
use Rattle.machine.specs.Code.{Code}
use Rattle.machine.specs.Flat.{code_of}
use Rattle.var_access.specs.History.{History}
use Rattle.var_access.specs.declared.Entry.{Entry}
use Rattle.var_access.specs.declared.What.TheVariants.{Step}
use Rattle.controller.specs.SilentSteps.{ShowNothing, steps_silently}
use Rattle.controller.specs.Replay.{last_observed, replay, state_after_entries}
use Rattle.controller.specs.ShownEntry.{watched_state}
use Rattle.controller.specs.State.{State}
use Rattle.controller.specs.Views.{cpu_state}
use Rattle.controller.specs.declared.observing.Observed.{Observed}
use Rattle.controller.specs.Recording.{Recording}
use Rattle.controller.specs.ReplayResult.{entry_events, final_state}
use Rattle.controller.proofs.history.SilentLemmas.{fits-behind, observer-behind, silent-behind, replay-more, seen-behind, state-behind, steps-are}
use Rattle.controller.proofs.controllers.Controller.step_silently.Goals as goal

pub invariant_of-self-2 : goal.invariant_of-self-2
invariant_of-self-2 c =
    let p : Program = c.self.inside.program.program in
    let profile : Profile = c.self.inside.program.profile in
    let code : Code = code_of p in
    let history : List Entry = c.self.inside.history.entries in
    let made : ℕ = c.step_silently-made.result in
    let more : List Entry = replicate made c.args.step.now in
    let s : State = cpu_state c.self.inside.cpu in
    let t : State = cpu_state c.step_silently-made.new.self in
    let steps : entry_events more ≡ replicate made Step = steps-are c.args.step.now made c.requires.step in
    let entries : c.push.new.self.entries ≡ history ++ more = ap (λ (kept : History). kept.entries) c.push.ensures in
    let some : 1 ≤ made = omega arith in
    record {
      verifies = c.self.invariant.verifies;
      state =
          state-behind c.continues_replay.ensures.more profile code history more s t made c.self.invariant.state steps c.step_silently-made.ensures.state
          ∙ ap (λ (es : List Entry). replay profile code (entry_events es)) (sym entries);
      fit =
          fits-behind p s t made c.what_runs_goes_on.ensures.entry c.self.invariant.verifies c.self.invariant.fit
          c.step_silently-made.ensures.state;
      observer =
          observer-behind s t c.self.inside.observer c.pass.new.self _ c.self.invariant.observer c.pass.ensures
          c.step_silently-made.ensures.outputs c.step_silently-made.ensures.mode
          ∙ ap (λ (o : Observed). watched_state t o)
          (seen-behind c.continues_replay.ensures.more_seen profile code history more s made c.self.invariant.state steps c.step_silently-made.ensures.nothing some
          ∙ ap (λ (es : List Entry). last_observed profile code (entry_events es)) (sym entries));
      numbers = c.self.invariant.numbers;
    }

pub returns-clause-nothing : goal.returns-clause-nothing
returns-clause-nothing c =
    subst (λ (r : Recording). ShowNothing (code_of r.program) (final_state r) (replicate c.step_silently-made.result Step))
    c.self.view_is
    (silent-behind c.self.inside.program.profile (code_of c.self.inside.program.program) c.self.inside.history.entries
    (cpu_state c.self.inside.cpu) c.step_silently-made.result c.self.invariant.state c.step_silently-made.ensures.nothing)

pub returns-clause-state : goal.returns-clause-state
returns-clause-state c =
    let profile : Profile = c.self.inside.program.profile in
    let code : Code = code_of c.self.inside.program.program in
    let history : List Entry = c.self.inside.history.entries in
    let made : ℕ = c.step_silently-made.result in
    let more : List Entry = replicate made c.args.step.now in
    ap (λ (kept : History). replay profile code (entry_events kept.entries)) c.push.ensures
    ∙ replay-more c.continues_replay.ensures.more profile code history more
    ∙ ap (state_after_entries code (replay profile code (entry_events history))) (steps-are c.args.step.now made c.requires.step)
    ∙ ap (λ (r : Recording). state_after_entries (code_of r.program) (final_state r) (replicate made Step)) c.self.view_is

pub returns-clause-stops : goal.returns-clause-stops
returns-clause-stops c = λ less.
    let profile : Profile = c.self.inside.program.profile in
    let code : Code = code_of c.self.inside.program.program in
    let history : List Entry = c.self.inside.history.entries in
    let made : ℕ = c.step_silently-made.result in
    let more : List Entry = replicate made c.args.step.now in
    let is : cpu_state c.step_silently-made.new.self ≡ replay profile code (entry_events c.push.new.self.entries) =
    state-behind c.continues_replay.ensures.more profile code history more (cpu_state c.self.inside.cpu) (cpu_state c.step_silently-made.new.self) made c.self.invariant.state
    (steps-are c.args.step.now made c.requires.step) c.step_silently-made.ensures.state
    ∙ ap (λ (kept : History). replay profile code (entry_events kept.entries)) (sym c.push.ensures) in
    subst (λ (r : Recording). steps_silently (code_of r.program) (replay profile code (entry_events c.push.new.self.entries)) ≡ false)
    c.self.view_is
    (subst (λ (s : State). steps_silently code s ≡ false) is (c.step_silently-made.ensures.stops less))
