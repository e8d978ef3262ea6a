-- Who makes the entries of a history.
use Rattle.std.specs.Prelude.{ℕ, ◌+◌, ◌-◌, nat_le, ◌&&◌, if◌then◌else◌}
use Rattle.var_access.specs.declared.entries.Entry.{Entry}
use Rattle.var_access.specs.declared.entries.What.{What}
use Rattle.var_access.specs.declared.entries.What.TheVariants.{Step, Ask}
use Rattle.var_access.specs.declared.requests.Request.{Request}

-- the entry of one step, which worker 1 makes
abbrev pub one_step : Entry
one_step = record { who = 1; what = Step }

-- the entry of an input, an arrival or a tick, which worker 2 makes
abbrev pub feeder_entry : What → Entry
feeder_entry what = record { who = 2; what = what }

-- the entry of a request, which the worker makes who asks
abbrev pub request_entry : (who : ℕ) → Request → Entry
request_entry who request = record { who = who; what = Ask request }

-- the worker of operator 1, 2, 3 or 4
abbrev pub worker_of : (operator : ℕ) → ℕ
worker_of operator = operator + 2

-- the operator of worker 3, 4, 5 or 6; a request of another worker is written as one of operator 1
abbrev pub operator_of : (who : ℕ) → ℕ
operator_of who = if nat_le 3 who && nat_le who 6 then who - 2 else 1
