use Rattle.std.proofs.Common.{◌≡◌, ◌≤◌, List, ◌∷◌, drop, false}
use Rattle.stl_ast.specs.declared.blocks.Block.{Block}
use Rattle.plc_base.specs.RefusalsAlong.{refusals_along}
use Rattle.plc_base.specs.Least.{broken_if, least, lesser}
use Rattle.block_layout.specs.Heads.{on_heads}
use Rattle.block_layout.specs.Rule53.{data_blocks, is_one_too_many}
use Rattle.block_layout.proofs.rules.rule_53.least_data_block_too_many.Given as goal

-- what was found so far, and by the blocks that follow
abbrev pub invariant-loop-block : goal.invariant-loop-block
invariant-loop-block l = (before : List Block) × (data_blocks before ≡ l.data_blocks) × (l.data_blocks ≤ l.block-index)
    × (lesser l.found (least (refusals_along (λ b. false) (λ before b. broken_if (is_one_too_many before b) b.line 53) (λ before b. b ∷ before) before (drop l.block-index l.blocks)))
    ≡ least (on_heads is_one_too_many 53 l.blocks))
