use Rattle.std.proofs.Common.{◌≡◌, drop, ◌++◌}
use Rattle.std.specs.List.{flat_map}
use Rattle.block_layout.specs.Rule43.{types_used_by}
use Rattle.block_layout.proofs.cycles.uses_of.Given as goal

abbrev pub invariant-loop-declaration : goal.invariant-loop-declaration
invariant-loop-declaration l =
    l.uses.items ++ flat_map (λ d. types_used_by l.types d.of.of) (drop l.declaration-index l.declarations)
    ≡ flat_map (λ d. types_used_by l.types d.of.of) l.declarations
