use Rattle.std.proofs.Common.{◌≡◌, ◌++◌, take}
use Rattle.std.specs.List.{flat_map}
use Rattle.monitor.specs.LineText.{output_text}
use Rattle.s7_cli.proofs.run_text.entries.add_outputs.Given as goal

-- the lines so far stand behind the text
abbrev pub invariant-loop-output : goal.invariant-loop-output
invariant-loop-output l =
    l.text.items ≡ l.fn.text.items ++ flat_map (output_text l.n) (take l.output-index l.outputs)
