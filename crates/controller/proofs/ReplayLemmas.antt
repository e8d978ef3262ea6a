-- Further entries at the end of a history.
use Rattle.std.proofs.Common.{◌≡◌, List, [], ◌∷◌, ◌++◌, refl}
use Rattle.machine.specs.Code.{Code}
use Rattle.var_access.specs.declared.What.{What}
use Rattle.controller.specs.Replay.{entry_result, state_after_entries, replay, last_observed_from, last_observed, ContinuesByMore, ContinuesReplay, ContinuesLastObserved, LastObservedByMore}
use Rattle.controller.specs.Start.{initial_state}
use Rattle.controller.specs.State.{State}
use Rattle.controller.specs.ShownEntry.{nothing_shown}
use Rattle.controller.specs.declared.observing.Observed.{Observed}

run_more : (code : Code) (s : State) (front back : List What)
    → state_after_entries code s (front ++ back) ≡ state_after_entries code (state_after_entries code s front) back
run_more code s [] back = refl
run_more code s (first ∷ rest) back = run_more code (entry_result code s first).state rest back

pub by_more : ContinuesByMore
unfolding replay
by_more profile code history more = run_more code (initial_state profile code) history more

pub continues : ContinuesReplay
continues profile code history what = by_more profile code history (what ∷ [])

last_observed_of_more : (code : Code) (s : State) (seen : Observed) (front back : List What)
    → last_observed_from code s seen (front ++ back)
    ≡ last_observed_from code (state_after_entries code s front) (last_observed_from code s seen front) back
last_observed_of_more code s seen [] back = refl
last_observed_of_more code s seen (first ∷ rest) back =
    last_observed_of_more code (entry_result code s first).state (entry_result code s first).seen rest back

pub last_observed_by_more : LastObservedByMore
unfolding replay last_observed
last_observed_by_more profile code history more = last_observed_of_more code (initial_state profile code) nothing_shown history more

pub last_observed_continues : ContinuesLastObserved
last_observed_continues profile code history what = last_observed_by_more profile code history (what ∷ [])
