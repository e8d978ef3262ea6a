-- What an entry does, answers and shows, and what a history of entries comes to, over any program.
use Rattle.std.specs.Prelude.{◌≡◌, ◌+◌, List, [], ◌∷◌, ◌++◌, length}
use Rattle.plc_base.specs.declared.Profile.{Profile}
use Rattle.machine.specs.Code.{Code}
use Rattle.var_access.specs.declared.Reply.{Reply}
use Rattle.var_access.specs.declared.Reply.TheVariants.{Done}
use Rattle.var_access.specs.declared.What.{What}
use Rattle.var_access.specs.declared.What.TheVariants.{Ask}
use Rattle.controller.specs.Asking.{request_reply}
use Rattle.controller.specs.Event.{state_after}
use Rattle.controller.specs.ShownEntry.{nothing_shown, entry_shown}
use Rattle.controller.specs.Start.{initial_state}
use Rattle.controller.specs.State.{State}
use Rattle.controller.specs.declared.observing.Observed.{Observed}

-- what an entry does: the state after it, its answer, and what it showed
pub record EntryResult : Type 0 where
  -- the state after the entry
  pub state : State
  -- what the entry was answered
  pub reply : Reply
  -- what the entry showed
  pub seen : Observed

-- the answer to an entry, by the state before it: to a request its own, to each other entry that
-- it is done
abbrev pub reply_to : Code → (before : State) → What → Reply
reply_to code before (Ask request) = request_reply code request before
reply_to code before what = Done

-- the result of an entry, by the states before and after it
abbrev pub entry_result_between : Code → (before : State) → What → (after : State) → EntryResult
entry_result_between code before what after = record {
  state = after;
  reply = reply_to code before what;
  seen = entry_shown code before what after;
}

-- the result of an entry in a state
unfoldable pub entry_result : Code → State → What → EntryResult
entry_result code s what = entry_result_between code s what (state_after code what s)

-- the state after entries one after another, from a state on
abbrev pub state_after_entries : Code → State → List What → State
state_after_entries code s [] = s
state_after_entries code s (what ∷ rest) =
    state_after_entries code (entry_result code s what).state rest

-- the state after a whole history, from the first start on
unfoldable pub replay : Profile → Code → List What → State
replay profile code history = state_after_entries code (initial_state profile code) history

-- what the last of these entries showed, from a state on; what was seen before where there is none
abbrev pub last_observed_from : Code → State → (seen : Observed) → List What → Observed
last_observed_from code s seen [] = seen
last_observed_from code s seen (what ∷ rest) =
    last_observed_from code (entry_result code s what).state (entry_result code s what).seen rest

-- what the last entry of a history showed; before the first entry nothing is shown
unfoldable pub last_observed : Profile → Code → List What → Observed
last_observed profile code history =
    last_observed_from code (initial_state profile code) nothing_shown history

-- law: the replay of a history with one entry more is the state after that entry in the replay of
-- the others
abbrev pub ContinuesReplay : Type 0
ContinuesReplay =
    (profile : Profile) (code : Code) (history : List What) (what : What)
    → replay profile code (history ++ what ∷ [])
    ≡ (entry_result code (replay profile code history) what).state

-- law: what was seen last of a history with one entry more is what that entry shows in the replay
-- of the others
abbrev pub ContinuesLastObserved : Type 0
ContinuesLastObserved =
    (profile : Profile) (code : Code) (history : List What) (what : What)
    → last_observed profile code (history ++ what ∷ [])
    ≡ (entry_result code (replay profile code history) what).seen

-- law: the replay of a history with further entries is the state after these, from the replay of
-- the others on
abbrev pub ContinuesByMore : Type 0
ContinuesByMore =
    (profile : Profile) (code : Code) (history more : List What)
    → replay profile code (history ++ more)
    ≡ state_after_entries code (replay profile code history) more

-- law: what was seen last of a history with further entries is what the last of these shows;
-- without further ones it is what was seen before
abbrev pub LastObservedByMore : Type 0
LastObservedByMore =
    (profile : Profile) (code : Code) (history more : List What)
    → last_observed profile code (history ++ more)
    ≡ last_observed_from code (replay profile code history)
    (last_observed profile code history) more

-- law: each entry adds 1 to the count of entries of the state
abbrev pub CountsEntries : Type 0
CountsEntries =
    (code : Code) (s : State) (what : What)
    → (entry_result code s what).state.entries ≡ s.entries + 1

-- law: the count of entries of the state after a history is the length of the history
abbrev pub CountsHistory : Type 0
CountsHistory =
    (profile : Profile) (code : Code) (history : List What)
    → (replay profile code history).entries ≡ length history

-- law: no entry changes the profile
abbrev pub EntriesKeepProfile : Type 0
EntriesKeepProfile =
    (code : Code) (s : State) (what : What) → (entry_result code s what).state.profile ≡ s.profile

-- law: the profile after each history is that of the start
abbrev pub HistoriesKeepProfile : Type 0
HistoriesKeepProfile =
    (profile : Profile) (code : Code) (history : List What)
    → (replay profile code history).profile ≡ profile
