use Rattle.std.proofs.Common.{All, sym, subst}
use Rattle.image_file.specs.Writing.{BlockFitsFields}
use Rattle.image_file.proofs.FitLemmas.{program_fits}
use Rattle.image_file.proofs.program_faults.program_fault.Goals as goal

pub are_whole-requires : goal.are_whole-requires
are_whole-requires c = subst (All BlockFitsFields) (sym c.as_slice-blocks.ensures.value) (program_fits _ c.program.invariant).code_blocks

pub first_among-requires-clause-fit : goal.first_among-requires-clause-fit
first_among-requires-clause-fit c = subst (All BlockFitsFields) (sym c.as_slice-blocks.ensures.value) (program_fits _ c.program.invariant).code_blocks

pub first_among-requires-in-Some-clause-fit : goal.first_among-requires-in-Some-clause-fit
first_among-requires-in-Some-clause-fit c = subst (All BlockFitsFields) (sym c.as_slice-blocks.ensures.value) (program_fits _ c.program.invariant).code_blocks
