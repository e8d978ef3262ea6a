-- The refusals of blocks with their places in the source.
use Rattle.std.specs.Prelude.{ℕ, ◌+◌, false, List}
use Rattle.plc_base.specs.declared.refusals.Refusal.{Refusal}
use Rattle.stl_ast.specs.declared.blocks.Block.{Block}
use Rattle.plc_base.specs.RefusalsAlong.{refusals_along}

-- the refusals of blocks, the first of which stands at the place `block` in the source
abbrev pub by_place : (broken : ℕ → Block → List Refusal) → (block : ℕ) → List Block → List Refusal
by_place broken block blocks = refusals_along (λ b. false) broken (λ k b. k + 1) block blocks
