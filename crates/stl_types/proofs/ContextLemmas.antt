-- A walk over the bodies of all blocks, each with its place.
use Rattle.std.proofs.Common.{ℕ, ◌≡◌, ◌<◌, ◌≤◌, ◌+◌, List, ◌∷◌, Option, length, drop, get_or, sym, ◌∙◌, ap}
use Rattle.std.proofs.Math.ListN.{drop_of_length-le}
use Rattle.std.proofs.lemmas.List.{drop_more}
use Rattle.plc_base.specs.declared.refusals.Refusal.{Refusal}
use Rattle.stl_ast.specs.declared.blocks.Block.{Block}
use Rattle.stl_ast.specs.declared.statements.Statement.{Statement}
use Rattle.plc_base.specs.Least.{least, lesser}
use Rattle.plc_base.proofs.LeastLemmas.{least-append, lesser_assoc, lesser_nothing}
use Rattle.stl_types.specs.Bodies.{in_contexts}
use Rattle.stl_types.specs.Context.{Context}

-- one block more
pub contexts_turn : (broken : Context → List Statement → List Refusal) (c : Context) (blocks : List Block) (i : ℕ) (b : Block) (found one next whole : Option Refusal) →
    i < length blocks → b ≡ get_or blocks i b → one ≡ least (broken (record c { block = i }) b.body) → next ≡ lesser found one →
    lesser found (least (in_contexts broken (record c { block = i }) (drop i blocks))) ≡ whole →
    lesser next (least (in_contexts broken (record c { block = i + 1 }) (drop (i + 1) blocks))) ≡ whole
contexts_turn broken c blocks i b found one next whole within is_b is_one is_next so_far =
    let rest : List Block = drop (i + 1) blocks in
    let here : List Refusal = broken (record c { block = i }) b.body in
    let behind : List Refusal = in_contexts broken (record c { block = i + 1 }) rest in
    let split : drop i blocks ≡ b ∷ rest = drop_more blocks i b within ∙ ap (λ (y : Block). y ∷ rest) (sym is_b) in
    ap (λ (o : Option Refusal). lesser o (least behind)) (is_next ∙ ap (λ (o : Option Refusal). lesser found o) is_one)
    ∙ lesser_assoc found (least here) (least behind)
    ∙ ap (λ (o : Option Refusal). lesser found o) (sym (least-append here behind) ∙ ap (λ (l : List Block). least (in_contexts broken (record c { block = i }) l)) (sym split))
    ∙ so_far

-- the last one
pub contexts_end : (broken : Context → List Statement → List Refusal) (c : Context) (blocks : List Block) (i : ℕ) (found whole : Option Refusal) → length blocks ≤ i →
    lesser found (least (in_contexts broken (record c { block = i }) (drop i blocks))) ≡ whole → found ≡ whole
contexts_end broken c blocks i found whole over so_far =
    sym (lesser_nothing found) ∙ ap (λ (l : List Block). lesser found (least (in_contexts broken (record c { block = i }) l))) (sym (drop_of_length-le blocks over)) ∙ so_far
