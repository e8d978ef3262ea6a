use Rattle.s7_cli.proofs.PassLemmas.{begun_till}
use Rattle.s7_cli.proofs.working.make_entries.Goals as goal

pub returns-in-Err-clause-begun : goal.returns-in-Err-clause-begun
returns-in-Err-clause-begun g c =
    let i = c.loop-turn.invariant in
    let refused = c.in-Err.ensures in
    begun_till c.args.s.now c.args.p.number c.loop-turn.turn c.args.entries.now c.loop-turn.p c.make_entry.new.p i.1 i.2 i.4 refused.pass refused.err.made
