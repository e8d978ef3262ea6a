-- What a station began with, the entries since then, and what they come to.
use Rattle.std.specs.Prelude.{List, [], ◌∷◌, ◌++◌, take, drop}
use Rattle.plc_base.specs.declared.Mode.{Mode}
use Rattle.plc_base.specs.declared.Profile.TheVariants.{Small}
use Rattle.machine.specs.Flat.{code_of}
use Rattle.var_access.specs.declared.Entry.{Entry}
use Rattle.var_access.specs.declared.Reply.{Reply}
use Rattle.controller.specs.Replay.{entry_result, replay}
use Rattle.controller.specs.ReplayResult.{entry_events}
use Rattle.station.specs.declared.shared.Opening.{Opening}
use Rattle.station.specs.declared.shared.Shared.{Shared}

-- what a controller under the lock began with
abbrev pub station_opening : Shared → Opening
station_opening s = record {
  program = s.controller.value.program;
  profile = s.controller.value.profile;
  first = take s.opening_len s.controller.value.history;
}

-- the entries of a controller under the lock since it began
abbrev pub entries_since : Shared → List Entry
entries_since s = drop s.opening_len s.controller.value.history

-- what a station began with, from the list of one that its lock shows
abbrev pub the_opening : List Opening → Opening
the_opening [] = record {
  program = record { code_blocks = []; data_blocks = []; names = [] };
  profile = Small;
  first = [];
}
the_opening (o ∷ os) = o

-- the mode after an entry that stands behind the entries `before` of a station, replayed from the
-- first start on
abbrev pub mode_at : Opening → (before : List Entry) → Entry → Mode
mode_at o before e =
    (replay o.profile (code_of o.program) (entry_events (o.first ++ before ++ e ∷ []))).mode

-- the reply to an entry that stands behind the entries `before` of a station
abbrev pub reply_at : Opening → (before : List Entry) → Entry → Reply
reply_at o before e =
    (entry_result (code_of o.program)
    (replay o.profile (code_of o.program) (entry_events (o.first ++ before))) e.what).reply
