use Rattle.std.proofs.Common.{◌≡◌, List, ◌∷◌, drop, length, false}
use Rattle.stl_ast.specs.declared.blocks.Block.{Block}
use Rattle.plc_base.specs.RefusalsAlong.{refusals_along}
use Rattle.plc_base.specs.Least.{broken_if, least, lesser}
use Rattle.block_layout.specs.Heads.{on_heads}
use Rattle.block_layout.specs.Rule22.{is_block_twice}
use Rattle.block_layout.proofs.rules.rule_22.least_block_twice.Given as goal

-- what was found so far, and by the blocks that follow
abbrev pub invariant-loop-place : goal.invariant-loop-place
invariant-loop-place l = (before : List Block) × (length before ≡ l.place)
    × (lesser l.found (least (refusals_along (λ b. false) (λ before b. broken_if (is_block_twice l.types before b) b.line 22) (λ before b. b ∷ before) before (drop l.place l.blocks)))
    ≡ least (on_heads (is_block_twice l.types) 22 l.blocks))
