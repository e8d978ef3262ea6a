use Rattle.std.proofs.Common.{◌≡◌, drop}
use Rattle.plc_base.specs.Least.{least, lesser}
use Rattle.stl_types.specs.Bodies.{in_contexts}
use Rattle.stl_types.specs.Operands.{operands_24}
use Rattle.stl_types.proofs.resolving.wrong_in_blocks.Given as goal

abbrev pub invariant-loop-block : goal.invariant-loop-block
invariant-loop-block l =
    lesser l.found (least (in_contexts operands_24 (record l.context { block = l.block }) (drop l.block l.blocks)))
    ≡ least (in_contexts operands_24 (record l.context { block = 0 }) l.blocks)
