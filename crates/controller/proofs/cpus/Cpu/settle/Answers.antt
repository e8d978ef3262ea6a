use Rattle.std.proofs.Common.{sym, ◌∙◌}
use Rattle.ob_sched.specs.Views.{scheduler_of}
use Rattle.controller.proofs.StandingLemmas.{best_class, best_may_begin}
use Rattle.controller.proofs.cpus.Cpu.settle.Goals as goal

pub start_request-requires-clause-above : goal.start_request-requires-clause-above
start_request-requires-clause-above c =
    best_may_begin c.args.self.now.mode c.in-Some.best.class c.in-Some.best.ob
    c.args.self.now.activations (sym c.is_stop.ensures ∙ c.if-is_stop.false) c.in-Some.ensures.known
    (best_class c.args.self.now.mode (scheduler_of c.args.self.now.sched).pending c.in-Some.best
    (sym c.in-Some.ensures.value))
    (sym c.may_start.ensures ∙ c.if-may_start.true) c.requires
