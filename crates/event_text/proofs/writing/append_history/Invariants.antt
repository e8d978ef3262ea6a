use Rattle.std.proofs.Common.{◌≡◌, ◌≤◌, ◌+◌, ◌++◌, length, drop}
use Rattle.var_access.specs.Runs.{entries_of_runs}
use Rattle.event_text.specs.HistoryText.{history_text, history_text_behind}
use Rattle.event_text.proofs.writing.append_history.Given as goal

-- what was written, the steps that weren't yet, and the runs that are left make up the whole
abbrev pub invariant-loop-run : goal.invariant-loop-run
invariant-loop-run l = record {
  bounded : l.steps + length (entries_of_runs (drop l.run-index l.runs)) ≤ length (entries_of_runs l.runs);
  text : l.out.items ++ history_text_behind l.steps (entries_of_runs (drop l.run-index l.runs)) ≡ l.fn.out.items ++ history_text (entries_of_runs l.runs);
}
