use Rattle.std.proofs.Common.{◌∙◌, ap, sym}
use Rattle.machine.specs.Flat.{code_of}
use Rattle.machine.specs.Silent.{shows_nothing}
use Rattle.machine.specs.Statement.{global_store}
use Rattle.machine.proofs.SilentLemmas.{instruction_goes_or_stays}
use Rattle.machine.proofs.running.pass.Goals as goal

pub returns-in-Across-clause-goes : goal.returns-in-Across-clause-goes
returns-in-Across-clause-goes c =
    instruction_goes_or_stays (code_of c.args.c.now.program) c.args.f.now c.args.a.now c.perform_apart.new.a
    (global_store c.args.m.now c.args.t.now c.args.n.now) (global_store c.perform_apart.new.m c.perform_apart.new.t c.perform_apart.new.n)
    c.perform_apart.result (shows_nothing c.across.result) c.perform_apart.new.other
    (sym c.silent_kind_of.ensures.silent ∙ ap shows_nothing c.in-Across.is) c.requires.there c.perform_apart.ensures
    c.across.ensures.silent

pub returns-in-Inside-clause-goes : goal.returns-in-Inside-clause-goes
returns-in-Inside-clause-goes c =
    instruction_goes_or_stays (code_of c.args.c.now.program) c.args.f.now c.args.a.now c.perform.new.a
    (global_store c.args.m.now c.args.t.now c.args.n.now) (global_store c.perform.new.m c.perform.new.t c.perform.new.n)
    c.perform.result (shows_nothing c.inside.result) c.perform.new.other
    (sym c.silent_kind_of.ensures.silent ∙ ap shows_nothing c.in-Inside.is) c.requires.there c.perform.ensures
    c.inside.ensures
