use Rattle.std.proofs.Common.{◌≡◌, drop}
use Rattle.std.specs.List.{fold, range_with_len}
use Rattle.stl_list.specs.JoinedParameters.{labels_after_link}
use Rattle.stl_list.proofs.chains.chain_labels.Given as goal

abbrev pub invariant-loop-link : goal.invariant-loop-link
invariant-loop-link l =
    fold labels_after_link l.labels.items (drop l.link-index l.links) ≡ fold labels_after_link (range_with_len 0 l.count) l.links
