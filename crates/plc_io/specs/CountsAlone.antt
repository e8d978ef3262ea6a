-- What an outside shows that tells nothing but its counts.
use Rattle.std.specs.Prelude.{ℕ, None, false}
use Rattle.plc_io.specs.Counts.{for_every_name}
use Rattle.plc_io.specs.Moments.{FilesAt, SinkAt}

-- what files show that don't tell their contents, with one count of failed reads and one of failed
-- writes for all names
abbrev pub untold_files : (failed_reads failed_writes : ℕ) → FilesAt
untold_files failed_reads failed_writes = record {
  contents = record { told = false; at = λ name. None };
  failed_reads = for_every_name failed_reads;
  failed_writes = for_every_name failed_writes;
}

-- what a sink shows that doesn't tell its bytes, with this count of faults
abbrev pub untold_sink : ℕ → SinkAt
untold_sink faults = record { taken = None; faults = faults }
