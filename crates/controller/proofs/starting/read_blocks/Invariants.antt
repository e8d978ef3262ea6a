use Rattle.std.proofs.Common.{◌≡◌, map, take}
use Rattle.plc_mem.specs.Blocks.{bytes_by_number}
use Rattle.controller.specs.Starting.{read_block}
use Rattle.controller.proofs.starting.read_blocks.Given as goal

abbrev pub invariant-loop-number : goal.invariant-loop-number
invariant-loop-number l =
    bytes_by_number l.blocks.items ≡ map (read_block l.program.program.data_blocks) (take l.number-index l.numbers)
