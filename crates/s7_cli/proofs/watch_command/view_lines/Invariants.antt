use Rattle.std.proofs.Common.{◌≡◌, take}
use Rattle.std.specs.List.{flat_map}
use Rattle.s7_cli.specs.WatchSays.{seen_line}
use Rattle.s7_cli.proofs.watch_command.view_lines.Given as goal

-- the lines of the views so far
abbrev pub invariant-loop-view : goal.invariant-loop-view
invariant-loop-view l = l.text.items ≡ flat_map (seen_line l.vars) (take l.view-index l.views)
