use Rattle.std.proofs.Common.{[], drop}
use Rattle.std.specs.List.{flat_map}
use Rattle.stl_codegen.specs.GeneratedProgram.{name_entry}
use Rattle.stl_codegen.proofs.AppendLemmas.{Between}
use Rattle.stl_codegen.proofs.names.names_of.Given as goal

abbrev pub invariant-loop-symbol : goal.invariant-loop-symbol
invariant-loop-symbol l =
    Between [] l.names.items (flat_map (λ s. name_entry s.name s.target) (drop l.symbol-index l.symbols))
    (flat_map (λ s. name_entry s.name s.target) l.symbols)
