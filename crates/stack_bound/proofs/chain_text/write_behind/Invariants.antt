use Rattle.std.proofs.Common.{◌≡◌, ◌++◌, length}
use Rattle.std.specs.List.{flat_map}
use Rattle.stack_bound.specs.ChainText.{behind_text}
use Rattle.stack_bound.proofs.chain_text.write_behind.Given as goal

-- the text so far, and that of what is left
abbrev pub invariant-loop-left : goal.invariant-loop-left
invariant-loop-left l =
    l.initial.out.items ++ flat_map behind_text l.blocks ≡ l.out.items ++ flat_map behind_text l.left

abbrev pub decreases-loop-left : goal.decreases-loop-left
decreases-loop-left l = length l.left
