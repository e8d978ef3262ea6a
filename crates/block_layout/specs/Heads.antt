-- Rules that a block breaks as a whole: the line is that of its head. The blocks before it are
-- listed with the nearest first.
use Rattle.std.specs.Prelude.{ℕ, Bool, false, List, [], ◌∷◌}
use Rattle.plc_base.specs.declared.refusals.Refusal.{Refusal}
use Rattle.stl_ast.specs.declared.blocks.Block.{Block}
use Rattle.plc_base.specs.RefusalsAlong.{refusals_along}
use Rattle.plc_base.specs.Least.{broken_if}

-- a refusal at the head of each block that breaks the rule, by the blocks before it
abbrev pub on_heads : (breaks : List Block → Block → Bool) → (rule : ℕ) → List Block → List Refusal
on_heads breaks rule blocks =
    refusals_along (λ b. false) (λ before b. broken_if (breaks before b) b.line rule)
    (λ before b. b ∷ before) [] blocks

-- of each block whether it breaks a rule of heads; those in `before` stand before the first
abbrev pub breach_flags : (breaks : List Block → Block → Bool) → (before : List Block) → List Block
    → List Bool
breach_flags breaks before [] = []
breach_flags breaks before (b ∷ bs) = breaks before b ∷ breach_flags breaks (b ∷ before) bs
