use Rattle.std.proofs.Common.{◌≡◌, drop, false, length, replicate}
use Rattle.std.specs.List.{fold}
use Rattle.stl_list.specs.JoinedParameters.{is_time_kind, marks_after_link}
use Rattle.stl_list.proofs.chains.time_marks.Given as goal

abbrev pub invariant-loop-link : goal.invariant-loop-link
invariant-loop-link l =
    fold (marks_after_link is_time_kind l.labels) l.marks.items (drop l.link-index l.links)
    ≡ fold (marks_after_link is_time_kind l.labels) (replicate (length l.labels) false) l.links
