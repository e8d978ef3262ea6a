use Rattle.std.proofs.Common.{◌+◌, ℕ, ◌-◌, ◌≤◌, List, length, vec_len}
use Rattle.plc_io.specs.FileCalls.{AreFilesUnchanged}
use Rattle.plc_io.specs.Moments.{FilesAt}
use Rattle.plc_io.proofs.OutsideLemmas.{HasRead}
use Rattle.plc_io.proofs.loops.read_by_pieces.Given as goal

-- the front of the file was read, and no read failed
pub record IsReading (before now : FilesAt) (name bytes : List ℕ) (limit : ℕ) : Type 0 where
  pub within : length bytes ≤ limit + 1
  pub front : HasRead before.contents name bytes
  pub same : AreFilesUnchanged before now

abbrev pub invariant-loop-bytes : goal.invariant-loop-bytes
invariant-loop-bytes g l = IsReading (g.F.Files.shown l.fn.files) (g.F.Files.shown l.files) l.name l.bytes.items l.limit

abbrev pub decreases-loop-bytes : goal.decreases-loop-bytes
decreases-loop-bytes g l = l.limit + 1 - vec_len l.bytes
