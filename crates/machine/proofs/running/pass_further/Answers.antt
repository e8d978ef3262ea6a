use Rattle.std.proofs.Common.{◌∙◌, sym}
use Rattle.machine.specs.Silent.{shows_nothing}
use Rattle.machine.specs.Statement.{global_store}
use Rattle.machine.proofs.FetchLemmas.{found_nowhere}
use Rattle.machine.proofs.SilentLemmas.{found_passes, performs_there, statement_passed, there_of}
use Rattle.machine.proofs.running.pass_further.Goals as goal

pub pass-requires-clause-there : goal.pass-requires-clause-there
pass-requires-clause-there c =
    performs_there c.args.c.now.program c.args.code.now _ c.args.a.now (global_store c.args.m.now c.args.t.now c.args.n.now)
    c.requires.block
    (found_passes c.args.c.now.program c.args.code.now c.args.a.now (global_store c.args.m.now c.args.t.now c.args.n.now)
    c.in-Some.walk _ c.walk.view_is (c.in-Some.ensures ∙ sym c.requires.walk) c.requires.block c.requires.ready)
    c.requires.ready

pub unreachable-requires : goal.unreachable-requires
unreachable-requires c =
    absurd
    (found_nowhere c.args.code.now c.args.a.now.running.frame.at (c.in-None.ensures ∙ sym c.requires.walk)
    (there_of c.args.c.now.program c.args.code.now c.args.a.now (global_store c.args.m.now c.args.t.now c.args.n.now)
    c.requires.block c.requires.ready))

pub returns-clause-goes : goal.returns-clause-goes
returns-clause-goes c =
    statement_passed c.args.c.now.program c.args.code.now _ c.args.a.now c.pass.new.a
    (global_store c.args.m.now c.args.t.now c.args.n.now) (global_store c.pass.new.m c.pass.new.t c.pass.new.n)
    (shows_nothing c.pass.result) c.requires.block
    (found_passes c.args.c.now.program c.args.code.now c.args.a.now (global_store c.args.m.now c.args.t.now c.args.n.now)
    c.in-Some.walk _ c.walk.view_is (c.in-Some.ensures ∙ sym c.requires.walk) c.requires.block c.requires.ready)
    c.pass.ensures.goes
