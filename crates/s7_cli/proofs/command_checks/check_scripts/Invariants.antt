use Rattle.std.proofs.Common.{◌+◌, drop, map}
use Rattle.s7_cli.proofs.LiveLemmas.{AreChecked}
use Rattle.s7_cli.proofs.command_checks.check_scripts.Given as goal

-- the scripts so far are right
abbrev pub invariant-loop-place : goal.invariant-loop-place
invariant-loop-place l =
    AreChecked l.names (map (λ t. t.items) l.texts) (l.place + 1) (map (λ t. t.items) (drop l.place l.texts)) (map (λ x. x.items) l.scripts.items)
