use Rattle.std.proofs.Common.{[], drop}
use Rattle.stl_codegen.proofs.AppendLemmas.{Between}
use Rattle.std.specs.List.{flat_map}
use Rattle.stl_list.specs.Symbols.{name_text}
use Rattle.stl_list.proofs.symbols.listed_names.Given as goal

abbrev pub invariant-loop-entry : goal.invariant-loop-entry
invariant-loop-entry l =
    Between [] l.text.items (flat_map name_text (drop l.entry-index l.names)) (flat_map name_text l.names)
