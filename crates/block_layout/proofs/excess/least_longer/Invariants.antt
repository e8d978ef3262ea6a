use Rattle.std.proofs.Common.{◌≡◌, ℕ, drop, map, nat_lt}
use Rattle.std.specs.List.{flat_map}
use Rattle.stl_ast.specs.declared.blocks.Block.{Block}
use Rattle.plc_base.specs.Least.{broken_if, least, lesser}
use Rattle.block_layout.proofs.excess.least_longer.Given as goal

abbrev pub invariant-loop-place : goal.invariant-loop-place
invariant-loop-place l = (f : Block → ℕ) → l.lens ≡ map f l.blocks →
    lesser l.found (least (flat_map (λ b. broken_if (nat_lt l.most (f b)) b.line l.rule) (drop l.place l.blocks)))
    ≡ least (flat_map (λ b. broken_if (nat_lt l.most (f b)) b.line l.rule) l.blocks)
