use Rattle.std.proofs.Common.{◌≡◌, ◌++◌, map, take, drop}
use Rattle.stl_list.specs.JoinedParameters.{replaced_label}
use Rattle.stl_list.proofs.chains.relabel.Given as goal

-- those below the index are done
abbrev pub invariant-loop-label : goal.invariant-loop-label
invariant-loop-label l =
    l.labels ≡ map (replaced_label l.from l.to) (take l.label-index l.initial.labels) ++ drop l.label-index l.initial.labels
