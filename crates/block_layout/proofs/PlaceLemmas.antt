-- A walk over the blocks with their places.
use Rattle.std.proofs.Common.{ℕ, ◌≡◌, ◌<◌, ◌≤◌, ◌+◌, List, Option, false, refl, length, drop, get_or}
use Rattle.plc_base.specs.declared.refusals.Refusal.{Refusal}
use Rattle.stl_ast.specs.declared.blocks.Block.{Block}
use Rattle.plc_base.specs.Least.{least, lesser}
use Rattle.plc_base.proofs.GatheredLemmas.{gathered_done, gathered_next}
use Rattle.block_layout.specs.ByPlace.{by_place}

pub place_turn : (broken : ℕ → Block → List Refusal) (blocks : List Block) (i : ℕ) (b : Block) (found one next whole : Option Refusal) →
    i < length blocks → b ≡ get_or blocks i b → one ≡ least (broken i b) → next ≡ lesser found one →
    lesser found (least (by_place broken i (drop i blocks))) ≡ whole → lesser next (least (by_place broken (i + 1) (drop (i + 1) blocks))) ≡ whole
place_turn broken blocks i b found one next whole within is_b is_one is_next so_far =
    gathered_next (λ b. false) broken (λ k b. k + 1) i (i + 1) blocks i b found one next whole within is_b refl is_one is_next refl so_far

pub place_end : (broken : ℕ → Block → List Refusal) (blocks : List Block) (i : ℕ) (found whole : Option Refusal) → length blocks ≤ i →
    lesser found (least (by_place broken i (drop i blocks))) ≡ whole → found ≡ whole
place_end broken blocks i found whole over so_far = gathered_done (λ b. false) broken (λ k b. k + 1) i blocks i found whole over so_far
