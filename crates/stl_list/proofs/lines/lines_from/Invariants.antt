use Rattle.std.proofs.Common.{[], drop}
use Rattle.stl_codegen.proofs.AppendLemmas.{Between}
use Rattle.stl_list.specs.Lines.{lines_from}
use Rattle.stl_list.proofs.lines.lines_from.Given as goal

abbrev pub invariant-loop-line : goal.invariant-loop-line
invariant-loop-line l =
    Between [] l.printed.items (lines_from l.reached (drop l.line-index l.lines))
    (lines_from l.fn.reached l.lines)
