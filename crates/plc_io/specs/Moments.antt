-- What files and sinks show at one moment.
use Rattle.std.specs.Prelude.{ℕ, List, Option}
use Rattle.plc_io.specs.Contents.{Contents}

-- files: what they hold, where this is told, and for each name how many reads and writes of it have
-- failed, up to a count's last value
pub record FilesAt : Type 0 where
  -- what the files hold, where this is told
  pub contents : Contents
  -- how many reads of the file of each name have failed, 0 to 2 ^ 64 - 1
  pub failed_reads : List ℕ → ℕ
  -- how many writes of the file of each name have failed, 0 to 2 ^ 64 - 1
  pub failed_writes : List ℕ → ℕ

-- a sink: all bytes that it took, in order, where this is told, and how many pushes have failed, up
-- to a count's last value
pub record SinkAt : Type 0 where
  -- all bytes that the sink took, the first one first; `None` where this isn't told
  pub taken : Option (List ℕ)
  -- how many pushes to the sink have failed, 0 to 2 ^ 64 - 1
  pub faults : ℕ
