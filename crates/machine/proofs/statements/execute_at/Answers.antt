use Rattle.std.proofs.Common.{subst}
use Rattle.machine.specs.Flat.{code_of, statement_fetched}
use Rattle.machine.specs.Statement.{IsNotStuck, global_store}
use Rattle.machine.proofs.FetchLemmas.{found_is, found_nowhere, goes_there}
use Rattle.machine.proofs.statements.execute_at.Goals as goal

pub execute-requires-clause-there : goal.execute-requires-clause-there
execute-requires-clause-there c =
    subst IsNotStuck
    (found_is c.args.code.now c.args.a.now.running.frame.at c.in-Some.walk _ (code_of c.args.c.now.program) c.args.a.now
    (global_store c.args.m.now c.args.t.now c.args.n.now) c.walk.view_is c.in-Some.ensures c.requires.there)
    c.requires.there

pub unreachable-requires : goal.unreachable-requires
unreachable-requires c =
    absurd
    (found_nowhere c.args.code.now c.args.a.now.running.frame.at c.in-None.ensures
    (goes_there (code_of c.args.c.now.program) (statement_fetched c.args.code.now c.args.a.now.running.frame.at) c.args.a.now
    (global_store c.args.m.now c.args.t.now c.args.n.now) c.requires.there))

pub returns : goal.returns
returns c =
    rw (found_is c.args.code.now c.args.a.now.running.frame.at c.in-Some.walk _ (code_of c.args.c.now.program) c.args.a.now
    (global_store c.args.m.now c.args.t.now c.args.n.now) c.walk.view_is c.in-Some.ensures c.requires.there)
    c.execute.ensures
