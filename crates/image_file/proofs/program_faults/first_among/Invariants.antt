use Rattle.std.proofs.Common.{drop, map}
use Rattle.std.specs.Option.{option_map}
use Rattle.flat_code.specs.Image.{record_of_block}
use Rattle.image_file.proofs.ProgramFaultLemmas.{RestDecides}
use Rattle.image_file.proofs.program_faults.first_among.Given as goal

abbrev pub invariant-loop-block : goal.invariant-loop-block
invariant-loop-block l = RestDecides (option_map (λ d. d.now) l.lens) (map record_of_block l.blocks) l.blocks (drop l.block-index l.blocks)
