use Rattle.std.proofs.Common.{◌≡◌, ◌-◌}
use Rattle.machine.specs.ExecState.{local_of}
use Rattle.machine.specs.Bindings.{no_bindings}
use Rattle.machine.specs.Walking.{bindings_by_ops}
use Rattle.machine.proofs.walking.bind_all.Given as goal

abbrev pub invariant-loop : goal.invariant-loop
invariant-loop l =
    bindings_by_ops 64 l.code.code l.initial.at l.params (no_bindings l.params) (local_of l.s) l.m
    ≡ bindings_by_ops (64 - l.counter) l.code.code l.at l.params l.bindings (local_of l.s) l.m
