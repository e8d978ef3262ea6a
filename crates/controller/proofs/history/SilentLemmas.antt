-- Entries one after another that show nothing.
use Rattle.std.proofs.Common.{◌≡◌, ◌≤◌, ℕ, zero, suc, List, [], ◌∷◌, ◌++◌, replicate, refl, sym, ap, subst, ◌∙◌, arith}
use Rattle.std.proofs.lemmas.List.{map-append}
use Rattle.plc_base.specs.declared.Profile.{Profile}
use Rattle.flat_code.specs.Loading.{Verifies}
use Rattle.flat_code.specs.Programs.{Program}
use Rattle.machine.specs.Code.{Code}
use Rattle.machine.specs.Flat.{code_of}
use Rattle.var_access.specs.declared.Entry.{Entry}
use Rattle.var_access.specs.declared.What.{What}
use Rattle.var_access.specs.declared.What.TheVariants.{Step}
use Rattle.controller.specs.Fitting.{EntriesKeepFit, IsFit}
use Rattle.controller.specs.SilentSteps.{ShowNothing}
use Rattle.controller.specs.Replay.{ContinuesByMore, LastObservedByMore, entry_result, last_observed, replay, state_after_entries, last_observed_from}
use Rattle.controller.specs.ShownEntry.{WatchedState, nothing_shown, watched_state}
use Rattle.controller.specs.State.{State}
use Rattle.controller.specs.declared.observing.Observed.{Observed}
use Rattle.controller.specs.ReplayResult.{entry_events}

-- ---- entries behind others

pub replay-more : ContinuesByMore → (profile : Profile) (code : Code) (history more : List Entry)
    → replay profile code (entry_events (history ++ more)) ≡ state_after_entries code (replay profile code (entry_events history)) (entry_events more)
replay-more continues profile code history more =
    ap (λ (es : List What). replay profile code es) (map-append (λ (e : Entry). e.what) history more)
    ∙ continues profile code (entry_events history) (entry_events more)

-- ---- what is seen after them

-- nothing, if nothing was seen before
none-still : (code : Code) (s : State) (whats : List What) → ShowNothing code s whats
    → last_observed_from code s nothing_shown whats ≡ nothing_shown
none-still code s [] silent = refl
none-still code s (what ∷ rest) silent =
    ap (λ (o : Observed). last_observed_from code (entry_result code s what).state o rest) silent.0
    ∙ none-still code (entry_result code s what).state rest silent.1

-- nothing, if they are some
none-now : (code : Code) (s : State) (seen : Observed) (n : ℕ) → ShowNothing code s (replicate n Step) → 1 ≤ n
    → last_observed_from code s seen (replicate n Step) ≡ nothing_shown
none-now code s seen zero silent some = absurd (omega arith)
none-now code s seen (suc n) silent some =
    ap (λ (o : Observed). last_observed_from code (entry_result code s Step).state o (replicate n Step)) silent.0
    ∙ none-still code (entry_result code s Step).state (replicate n Step) silent.1

-- ---- steps

-- what an entry does, so often
same-entries : (e : Entry) (n : ℕ) → entry_events (replicate n e) ≡ replicate n e.what
same-entries e zero = refl
same-entries e (suc n) = ap (λ (whats : List What). e.what ∷ whats) (same-entries e n)

pub steps-are : (e : Entry) (n : ℕ) → e.what ≡ Step → entry_events (replicate n e) ≡ replicate n Step
steps-are e n step = same-entries e n ∙ ap (λ (what : What). replicate n what) step

fits-steps : (p : Program) (s : State) (n : ℕ) → EntriesKeepFit → Verifies p → IsFit p s
    → IsFit p (state_after_entries (code_of p) s (replicate n Step))
fits-steps p s zero keeps h fit = fit
fits-steps p s (suc n) keeps h fit =
    fits-steps p (entry_result (code_of p) s Step).state n keeps h (keeps p s Step h tt fit)

pub fits-behind : (p : Program) (s t : State) (n : ℕ) → EntriesKeepFit → Verifies p → IsFit p s
    → t ≡ state_after_entries (code_of p) s (replicate n Step) → IsFit p t
fits-behind p s t n keeps h fit after = subst (IsFit p) (sym after) (fits-steps p s n keeps h fit)

pub silent-behind : (profile : Profile) (code : Code) (history : List Entry) (s : State) (n : ℕ) → s ≡ replay profile code (entry_events history)
    → ShowNothing code s (replicate n Step)
    → ShowNothing code (replay profile code (entry_events history)) (replicate n Step)
silent-behind profile code history s n before silent =
    subst (λ (u : State). ShowNothing code u (replicate n Step)) before silent

pub state-behind : ContinuesByMore → (profile : Profile) (code : Code) (history more : List Entry) (s t : State) (n : ℕ) → s ≡ replay profile code (entry_events history)
    → entry_events more ≡ replicate n Step → t ≡ state_after_entries code s (replicate n Step)
    → t ≡ replay profile code (entry_events (history ++ more))
state-behind continues profile code history more s t n before steps after =
    after
    ∙ ap (λ (u : State). state_after_entries code u (replicate n Step)) before
    ∙ ap (λ (whats : List What). state_after_entries code (replay profile code (entry_events history)) whats) (sym steps)
    ∙ sym (replay-more continues profile code history more)

pub seen-behind : LastObservedByMore → (profile : Profile) (code : Code) (history more : List Entry) (s : State) (n : ℕ) → s ≡ replay profile code (entry_events history)
    → entry_events more ≡ replicate n Step → ShowNothing code s (replicate n Step) → 1 ≤ n
    → nothing_shown ≡ last_observed profile code (entry_events (history ++ more))
seen-behind continues profile code history more s n before steps silent some = sym (
    ap (λ (es : List What). last_observed profile code es) (map-append (λ (e : Entry). e.what) history more)
    ∙ continues profile code (entry_events history) (entry_events more)
    ∙ ap (λ (u : State). last_observed_from code u (last_observed profile code (entry_events history)) (entry_events more)) (sym before)
    ∙ ap (λ (whats : List What). last_observed_from code s (last_observed profile code (entry_events history)) whats) steps
    ∙ none-now code s (last_observed profile code (entry_events history)) n silent some)

-- outputs and mode are as before
pub observer-behind : (s t : State) (w w' : WatchedState) (seen : Observed) → w ≡ watched_state s seen
    → w' ≡ record w { seen = nothing_shown }
    → t.store.memory.peripheral_outputs ≡ s.store.memory.peripheral_outputs → t.mode ≡ s.mode
    → w' ≡ watched_state t nothing_shown
observer-behind s t w w' seen before passed outputs mode =
    passed
    ∙ ap (λ (v : WatchedState). record v { seen = nothing_shown }) before
    ∙ cc
