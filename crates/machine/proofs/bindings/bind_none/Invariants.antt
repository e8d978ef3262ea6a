use Rattle.std.proofs.Common.{◌≡◌, replicate}
use Rattle.frames.specs.declared.bindings.Binding.TheVariants.{Unsupplied}
use Rattle.machine.proofs.bindings.bind_none.Given as goal

abbrev pub invariant-loop : goal.invariant-loop
invariant-loop l = l.bindings ≡ replicate l.counter Unsupplied
