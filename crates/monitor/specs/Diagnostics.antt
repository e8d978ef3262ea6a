-- The last records of diagnostics.
use Rattle.std.specs.Prelude.{List, [], ◌∷◌, ◌++◌}
use Rattle.circular_buffer.specs.Buffer.{keep_last}
use Rattle.monitor.specs.declared.records.DiagRecord.{DiagRecord}

-- the records of diagnostics after one more, which is the newest (manual: the diagnostic buffer is a
-- ring buffer); of more than 100 the last 100 stay
abbrev pub last_records : List DiagRecord → DiagRecord → List DiagRecord
last_records records newest = keep_last 100 (records ++ newest ∷ [])
