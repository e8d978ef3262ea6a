use Rattle.std.proofs.Common.{◌≡◌, ◌≤◌, ◌+◌, drop}
use Rattle.flat_code.specs.Image.{end_marks}
use Rattle.image_file.proofs.blocks.end_mark_count.Given as goal

abbrev pub invariant-loop-op : goal.invariant-loop-op
invariant-loop-op l = (l.count ≤ l.op-index) × (l.count + end_marks (drop l.op-index l.ops) ≡ end_marks l.ops)
