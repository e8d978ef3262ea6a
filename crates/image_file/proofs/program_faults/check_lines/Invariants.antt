use Rattle.std.proofs.Common.{◌≡◌, drop}
use Rattle.image_file.specs.Least.{with_faults}
use Rattle.image_file.specs.Verifying.{line_faults}
use Rattle.image_file.proofs.program_faults.check_lines.Given as goal

abbrev pub invariant-loop-line : goal.invariant-loop-line
invariant-loop-line l = with_faults l.least (line_faults l.before (drop l.line-index l.lines)) ≡ with_faults l.fn.least (line_faults 0 l.lines)
