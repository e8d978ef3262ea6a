use Rattle.std.proofs.Common.{◌≡◌, List, map}
use Rattle.stl_ast.specs.declared.blocks.Block.{Block}
use Rattle.block_layout.specs.Cycles.{uses_of_all}
use Rattle.block_layout.specs.Types.{Types}
use Rattle.block_layout.proofs.CycleLemmas.{IsRound}
use Rattle.block_layout.proofs.cycles.leads_back.Given as goal

abbrev pub invariant-loop-step : goal.invariant-loop-step
invariant-loop-step l =
    (y : Types) (blocks : List Block) → map (λ u. u.items) l.uses ≡ uses_of_all y blocks → IsRound y blocks l.to l.step l.reached.items l.found.items
