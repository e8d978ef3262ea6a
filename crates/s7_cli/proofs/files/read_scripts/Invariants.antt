use Rattle.std.proofs.Common.{◌+◌, drop, map}
use Rattle.s7_cli.specs.Command.{script_inputs}
use Rattle.s7_cli.proofs.LiveLemmas.{IsReading}
use Rattle.s7_cli.proofs.files.read_scripts.Given as goal

-- the scripts so far were read
abbrev pub invariant-loop-place : goal.invariant-loop-place
invariant-loop-place g l =
    IsReading (g.F.Files.shown l.fn.files) (g.F.Files.shown l.files) (script_inputs 1 (map (λ s. s.now) l.names))
    (script_inputs (l.place + 1) (map (λ s. s.now) (drop l.place l.names))) (map (λ w. w.items) l.scripts.items)
