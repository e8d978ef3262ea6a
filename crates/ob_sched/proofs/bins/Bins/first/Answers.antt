use Rattle.std.proofs.Common.{◌≡◌, ◌<◌, ◌∙◌, ap, sym, subst, length, List}
use Rattle.std.specs.Prelude.{slice_get, true}
use Rattle.ob_sched.specs.Bin.{are_of_class}
use Rattle.ob_sched.specs.StartRequest.{StartRequest}
use Rattle.ob_sched.proofs.ChangeLemmas.{KeepsBins, ranked-first, found_some, first_known, found_of_class, first_of_some}
use Rattle.ob_sched.proofs.bins.Bins.first.Goals as goal

pub returns-in-Some : goal.returns-in-Some
returns-in-Some c =
    let bins = c.args.self.now.bins.items in
    let bin = c.index-bin.result.now in
    let keeps : KeepsBins bins = record { count = c.args.self.now.count; placed = c.args.self.now.placed; within = c.args.self.now.within } in
    let some = found_some c.in-Some.n bins bin keeps c.in-Some.ensures c.index-bin.ensures in
    let here : List StartRequest = c.as_slice.result.now in
    let same : here ≡ bin.waiting.items = c.as_slice.ensures.value in
    let first = first_of_some here _ (subst (λ (xs : List StartRequest). 0 < length xs) (sym same) some) in
    record {
      value = first ∙ ap (λ (xs : List StartRequest). slice_get xs 0) same ∙ sym (ranked-first c.in-Some.n bins bin keeps c.in-Some.ensures c.index-bin.ensures);
      known =
          first_known c.in-Some.n here _
          (subst (λ (xs : List StartRequest). are_of_class c.in-Some.n xs ≡ true) (sym same) (found_of_class c.in-Some.n bins bin keeps c.in-Some.ensures.within c.index-bin.ensures))
          (sym first);
    }
