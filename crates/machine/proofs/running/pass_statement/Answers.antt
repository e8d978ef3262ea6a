use Rattle.std.proofs.Common.{◌∙◌, None, ap, refl, sym}
use Rattle.flat_code.specs.Ops.{OpData}
use Rattle.machine.specs.Silent.{shows_nothing}
use Rattle.machine.specs.Statement.{global_store}
use Rattle.machine.specs.Walking.{opens_after}
use Rattle.machine.proofs.FetchLemmas.{found_nowhere}
use Rattle.machine.proofs.SilentLemmas.{found_passes, performs_there, statement_passed, there_of}
use Rattle.machine.proofs.Walks.{first_ends, first_leads_on, walk_nowhere}
use Rattle.machine.proofs.running.pass_statement.Goals as goal

pub pass-requires-clause-there : goal.pass-requires-clause-there
pass-requires-clause-there c =
    performs_there c.args.c.now.program c.args.code.now _ c.args.a.now (global_store c.args.m.now c.args.t.now c.args.n.now)
    c.requires.block
    (found_passes c.args.c.now.program c.args.code.now c.args.a.now (global_store c.args.m.now c.args.t.now c.args.n.now) _ _ refl
    (first_ends c.args.code.now.code c.args.a.now.running.frame.at _ _ c.in-Some.ensures
    (sym (ap (λ (o : OpData). o.last) c.op-in-Some.view_is) ∙ c.if-op.true)) c.requires.block c.requires.ready)
    c.requires.ready

pub pass_further-requires-clause-walk : goal.pass_further-requires-clause-walk
pass_further-requires-clause-walk c =
    first_leads_on _ c.args.code.now.code c.args.a.now.running.frame.at _ c.in-Some.ensures
    (sym (ap (λ (o : OpData). o.last) c.op-in-Some.view_is) ∙ c.if-op.false)
    (c.opens_after-opens.ensures ∙ ap (λ (o : OpData). opens_after None o.operand) c.op-in-Some.view_is)

pub unreachable-requires : goal.unreachable-requires
unreachable-requires c =
    absurd
    (found_nowhere c.args.code.now c.args.a.now.running.frame.at
    (walk_nowhere 64 c.args.code.now.code c.args.a.now.running.frame.at None c.in-None.ensures)
    (there_of c.args.c.now.program c.args.code.now c.args.a.now (global_store c.args.m.now c.args.t.now c.args.n.now)
    c.requires.block c.requires.ready))

pub returns-then-op-clause-goes : goal.returns-then-op-clause-goes
returns-then-op-clause-goes c =
    statement_passed c.args.c.now.program c.args.code.now _ c.args.a.now c.pass.new.a
    (global_store c.args.m.now c.args.t.now c.args.n.now) (global_store c.pass.new.m c.pass.new.t c.pass.new.n)
    (shows_nothing c.pass.result) c.requires.block
    (found_passes c.args.c.now.program c.args.code.now c.args.a.now (global_store c.args.m.now c.args.t.now c.args.n.now) _ _ refl
    (first_ends c.args.code.now.code c.args.a.now.running.frame.at _ _ c.in-Some.ensures
    (sym (ap (λ (o : OpData). o.last) c.op-in-Some.view_is) ∙ c.if-op.true)) c.requires.block c.requires.ready)
    c.pass.ensures.goes
