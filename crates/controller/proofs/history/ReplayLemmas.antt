-- One more entry at the end of a history.
use Rattle.std.proofs.Common.{◌≡◌, List, [], ◌∷◌, ◌++◌, Option, refl, sym, ap, subst, ◌∙◌}
use Rattle.plc_base.specs.declared.Profile.{Profile}
use Rattle.flat_code.specs.Loading.{Verifies}
use Rattle.flat_code.specs.Programs.{Program}
use Rattle.machine.specs.Code.{Code}
use Rattle.machine.specs.Flat.{code_of}
use Rattle.monitor.specs.declared.MonRecord.{MonRecord}
use Rattle.var_access.specs.declared.Entry.{Entry}
use Rattle.var_access.specs.declared.What.{What}
use Rattle.var_access.specs.Entry.{IsInRange}
use Rattle.controller.specs.Fitting.{EntriesKeepFit, IsFit, StartIsFit}
use Rattle.controller.specs.Replay.{ContinuesReplay, ContinuesLastObserved, entry_result, last_observed, replay}
use Rattle.controller.specs.ShownEntry.{WatchedState, observed_changes, nothing_shown, entry_shown, watched_state, next_watched_state}
use Rattle.controller.specs.Start.{initial_state}
use Rattle.controller.specs.State.{State}
use Rattle.controller.specs.declared.observing.Observed.{Observed}
use Rattle.controller.specs.ReplayResult.{entry_events}

-- ---- at the start

pub starts : (profile : Profile) (code : Code) → initial_state profile code ≡ replay profile code []
unfolding replay
starts profile code = refl

pub none_seen : (profile : Profile) (code : Code) → nothing_shown ≡ last_observed profile code []
unfolding last_observed
none_seen profile code = refl

pub start_fits : (profile : Profile) (p : Program) (s : State) → StartIsFit → Verifies p → s ≡ initial_state profile (code_of p) → IsFit p s
start_fits profile p s fits h is = subst (IsFit p) (sym is) (fits profile p h)

-- ---- an entry more

events_next : (history : List Entry) (e : Entry) → entry_events (history ++ e ∷ []) ≡ entry_events history ++ e.what ∷ []
events_next [] e = refl
events_next (first ∷ rest) e = ap (λ (more : List What). first.what ∷ more) (events_next rest e)

pub state_next : (profile : Profile) (code : Code) (history : List Entry) (e : Entry) (s t : State) → ContinuesReplay
    → s ≡ replay profile code (entry_events history) → t ≡ (entry_result code s e.what).state
    → t ≡ replay profile code (entry_events (history ++ e ∷ []))
state_next profile code history e s t continues before after =
    after
    ∙ ap (λ (u : State). (entry_result code u e.what).state) before
    ∙ sym (continues profile code (entry_events history) e.what)
    ∙ ap (λ (es : List What). replay profile code es) (sym (events_next history e))

pub seen_next : (profile : Profile) (code : Code) (history : List Entry) (e : Entry) (s : State) → ContinuesLastObserved
    → s ≡ replay profile code (entry_events history)
    → (entry_result code s e.what).seen ≡ last_observed profile code (entry_events (history ++ e ∷ []))
seen_next profile code history e s continues before =
    ap (λ (u : State). (entry_result code u e.what).seen) before
    ∙ sym (continues profile code (entry_events history) e.what)
    ∙ ap (λ (es : List What). last_observed profile code es) (sym (events_next history e))

-- what it shows is what the outputs and the mode were compared for
seen_is : (code : Code) (s : State) (what : What)
    → observed_changes (entry_result code s what).seen.mon s.store.memory.peripheral_outputs s.mode (entry_result code s what).state ≡ (entry_result code s what).seen
unfolding entry_result entry_shown
seen_is code s what = refl

pub observer_next : (code : Code) (s t : State) (what : What) (mon : Option MonRecord) (w w' : WatchedState)
    (seen : Observed) → w ≡ watched_state s seen → w' ≡ next_watched_state w mon t
    → mon ≡ (entry_result code s what).seen.mon → t ≡ (entry_result code s what).state
    → w' ≡ watched_state t (entry_result code s what).seen
observer_next code s t what mon w w' seen before looked recorded after =
    looked
    ∙ ap (λ (v : WatchedState). next_watched_state v mon t) before
    ∙ ap (λ (o : Observed). watched_state t o)
    (ap (λ (r : Option MonRecord). observed_changes r s.store.memory.peripheral_outputs s.mode t) recorded
    ∙ ap
    (λ (u : State). observed_changes (entry_result code s what).seen.mon s.store.memory.peripheral_outputs s.mode u)
    after
    ∙ seen_is code s what)

pub fits_next : (p : Program) (s t : State) (what : What) → EntriesKeepFit → Verifies p → IsInRange what → IsFit p s
    → t ≡ (entry_result (code_of p) s what).state → IsFit p t
fits_next p s t what keeps h range fit after = subst (IsFit p) (sym after) (keeps p s what h range fit)
