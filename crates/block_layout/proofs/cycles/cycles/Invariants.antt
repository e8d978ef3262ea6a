use Rattle.std.proofs.Common.{◌≡◌, drop, ◌++◌, [], List, length}
use Rattle.stl_ast.specs.declared.blocks.Block.{Block}
use Rattle.block_layout.specs.Heads.{breach_flags}
use Rattle.block_layout.specs.Rule43.{contains_itself}
use Rattle.block_layout.proofs.cycles.cycles.Given as goal

abbrev pub invariant-loop-i : goal.invariant-loop-i
invariant-loop-i l = (before : List Block) × ((length before ≡ l.i)
    × (l.flags.items ++ breach_flags (contains_itself l.types l.blocks) before (drop l.i l.blocks) ≡ breach_flags (contains_itself l.types l.blocks) [] l.blocks))
