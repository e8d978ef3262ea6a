use Rattle.std.proofs.Common.{◌≡◌, drop}
use Rattle.flat_code.specs.Blocks.{open_faults}
use Rattle.image_file.specs.Least.{with_faults}
use Rattle.image_file.proofs.verifying.check_open.Given as goal

abbrev pub invariant-loop-bracket : goal.invariant-loop-bracket
invariant-loop-bracket l = with_faults l.least (open_faults l.start (drop l.bracket-index l.brackets)) ≡ with_faults l.fn.least (open_faults l.start l.brackets)
