use Rattle.std.proofs.Common.{◌-◌, ◌+◌}
use Rattle.std.specs.List.{flat_map, range_with_len}
use Rattle.stl_codegen.proofs.AppendLemmas.{Between}
use Rattle.stl_list.specs.Initial.{byte_at, byte_here, byte_settings}
use Rattle.stl_list.proofs.initial.add_bytes.Given as goal

abbrev pub invariant-loop-index : goal.invariant-loop-index
invariant-loop-index l =
    Between l.fn.settings.items l.settings.items
    (flat_map (λ i. byte_here l.line i (byte_at l.bytes (l.start + i))) (range_with_len l.index (l.count - l.index)))
    (byte_settings l.line l.bytes l.start l.count)
