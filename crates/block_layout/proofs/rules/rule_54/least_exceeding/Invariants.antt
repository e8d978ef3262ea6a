use Rattle.std.proofs.Common.{◌≡◌, ◌-◌, ◌^◌, List, ◌∷◌, drop, false, map, min}
use Rattle.stl_ast.specs.declared.blocks.Block.{Block}
use Rattle.plc_base.specs.RefusalsAlong.{refusals_along}
use Rattle.plc_base.specs.Least.{broken_if, least, lesser}
use Rattle.block_layout.specs.Heads.{on_heads}
use Rattle.block_layout.specs.Lengths.{length_of_block}
use Rattle.block_layout.specs.Rule54.{exceeds_total, total_data_length}
use Rattle.block_layout.specs.Types.{Types}
use Rattle.block_layout.proofs.rules.rule_54.least_exceeding.Given as goal

abbrev pub invariant-loop-place : goal.invariant-loop-place
invariant-loop-place l = (y : Types) → l.lens ≡ map (length_of_block y l.blocks) l.blocks →
    (before : List Block) × (l.before ≡ min (total_data_length y l.blocks before) (2 ^ 64 - 1))
    × (lesser l.found (least (refusals_along (λ b. false) (λ before b. broken_if (exceeds_total y l.blocks before b) b.line 54) (λ before b. b ∷ before) before (drop l.place l.blocks)))
    ≡ least (on_heads (exceeds_total y l.blocks) 54 l.blocks))
