use Rattle.std.proofs.Common.{ap, subst, arith, length}
use Rattle.s7_cli.specs.Words.{KeepsLimits, command_value}
use Rattle.s7_cli.proofs.PassLemmas.{length_items}
use Rattle.s7_cli.proofs.program.with_workers.Goals as goal

pub cmd_live-requires-clause-ops : goal.cmd_live-requires-clause-ops
cmd_live-requires-clause-ops g c κs within =
    let keeps = subst (λ a. KeepsLimits (command_value a)) c.in-Live.is c.requires.limits in
    let many = length_items (λ s. s.now) c.in-Live.scripts.items in
    let same = ap length c.as_slice.ensures.value in
    (omega (arith, many, same, keeps.0), omega (arith, many, same, keeps.1))

pub cmd_live-requires-clause-steps : goal.cmd_live-requires-clause-steps
cmd_live-requires-clause-steps g c κs within =
    let keeps = subst (λ a. KeepsLimits (command_value a)) c.in-Live.is c.requires.limits in
    (keeps.2, keeps.3)

pub cmd_watch-requires-clause-ops : goal.cmd_watch-requires-clause-ops
cmd_watch-requires-clause-ops g c κs within =
    let keeps = subst (λ a. KeepsLimits (command_value a)) c.in-Watch.is c.requires.limits in
    let many = length_items (λ s. s.now) c.in-Watch.scripts.items in
    let same = ap length c.as_slice-in-Watch.ensures.value in
    (omega (arith, many, same, keeps.0), omega (arith, many, same, keeps.1))

pub cmd_watch-requires-clause-steps : goal.cmd_watch-requires-clause-steps
cmd_watch-requires-clause-steps g c κs within =
    let keeps = subst (λ a. KeepsLimits (command_value a)) c.in-Watch.is c.requires.limits in
    (keeps.2, keeps.3)
