use Rattle.std.proofs.Common.{ℕ, ◌<◌, ◌≤◌, length}
use Rattle.std.specs.Prelude.{slice_index_or}
use Rattle.event_text.specs.Regular.{WhatFits}
use Rattle.var_access.specs.declared.entries.Entry.{Entry}
use Rattle.event_text.proofs.fields.law_of_fields.Given as goal

abbrev pub invariant-loop-entry : goal.invariant-loop-entry
invariant-loop-entry l = (l.entry-index ≤ length l.entries) × ((k : ℕ) (d : Entry) → k < l.entry-index → WhatFits (slice_index_or l.entries k d).what)
