use Rattle.std.proofs.Common.{◌≡◌, drop}
use Rattle.plc_base.specs.Least.{least, lesser}
use Rattle.block_layout.specs.Operands.{in_body}
use Rattle.stl_types.specs.Bodies.{in_contexts}
use Rattle.stl_types.specs.Unknown.{operand_20}
use Rattle.stl_types.proofs.unknown.unknown_in_blocks.Given as goal

abbrev pub invariant-loop-block : goal.invariant-loop-block
invariant-loop-block l =
    lesser l.found (least (in_contexts (λ c body. in_body (operand_20 c) body) (record l.context { block = l.block }) (drop l.block l.blocks)))
    ≡ least (in_contexts (λ c body. in_body (operand_20 c) body) (record l.context { block = 0 }) l.blocks)
