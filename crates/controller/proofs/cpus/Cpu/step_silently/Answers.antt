use Rattle.std.proofs.Common.{refl, sym, ◌∙◌, is_some, not}
use Rattle.machine.specs.Flat.{code_of}
use Rattle.machine.specs.Statement.{global_store}
use Rattle.ob_sched.specs.StartRequest.{best_of}
use Rattle.controller.specs.State.{is_stop}
use Rattle.controller.specs.Views.{cpu_state}
use Rattle.controller.proofs.SilentLemmas.{fit_goes_on, no_silent_step, none_there, steps_silently, IsSilent}
use Rattle.controller.proofs.cpus.Cpu.step_silently.Goals as goal

pub run_silently-done-requires : goal.run_silently-done-requires
run_silently-done-requires c =
    fit_goes_on c.what_fits_goes.ensures c.what_fits_lasts.ensures.step
    c.args.program.now.program (cpu_state c.args.self.now) c.law_of_verifying.ensures c.requires.fit

pub returns : goal.returns
returns c =
    let silent : IsSilent (cpu_state c.args.self.now) = record {
      unwatched = none_there c.args.self.now.monitored (sym c.is_some.ensures ∙ c.if-is_some.false);
      running = sym c.is_stop.ensures ∙ c.if-is_stop.false;
      none =
          sym c.best.ensures.value
          ∙ none_there c.best.result (sym c.is_some-else-is_stop.ensures ∙ c.if-is_some-2.false);
    } in
    let steps = steps_silently (code_of c.args.program.now.program) c.run_silently-done.result
    (cpu_state c.args.self.now) c.run_silently-done.new.self
    (global_store c.run_silently-done.new.m c.run_silently-done.new.t c.run_silently-done.new.n) silent
    c.run_silently-done.ensures.runs in
    record {
      few = c.run_silently-done.ensures.few;
      nothing = steps.nothing;
      state = sym steps.state;
      outputs = steps.outputs;
      mode = refl;
      stops = λ less. no_silent_step (not (is_some c.args.self.now.monitored)) (not (is_stop c.args.self.now.mode))
          (not (is_some (best_of c.args.self.now.mode (cpu_state c.args.self.now).sched.pending))) _
          (c.run_silently-done.ensures.stops less);
    }
