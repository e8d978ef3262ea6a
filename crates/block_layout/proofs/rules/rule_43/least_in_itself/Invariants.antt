use Rattle.std.proofs.Common.{◌≡◌, List, [], ◌∷◌, drop, length, false}
use Rattle.stl_ast.specs.declared.blocks.Block.{Block}
use Rattle.plc_base.specs.RefusalsAlong.{refusals_along}
use Rattle.plc_base.specs.Least.{broken_if, least, lesser}
use Rattle.block_layout.specs.Heads.{breach_flags, on_heads}
use Rattle.block_layout.specs.Rule43.{contains_itself}
use Rattle.block_layout.specs.Types.{Types}
use Rattle.block_layout.proofs.rules.rule_43.least_in_itself.Given as goal

-- what was found so far, and by the blocks that follow
abbrev pub invariant-loop-place : goal.invariant-loop-place
invariant-loop-place l = (y : Types) → l.in_itself ≡ breach_flags (contains_itself y l.blocks) [] l.blocks →
    (before : List Block) × (length before ≡ l.place)
    × (lesser l.found (least (refusals_along (λ b. false) (λ before b. broken_if (contains_itself y l.blocks before b) b.line 43) (λ before b. b ∷ before) before (drop l.place l.blocks)))
    ≡ least (on_heads (contains_itself y l.blocks) 43 l.blocks))
