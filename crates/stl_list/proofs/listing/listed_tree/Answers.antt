use Rattle.std.proofs.Common.{sym, subst, All, List}
use Rattle.flat_code.specs.Programs.{DataBlock}
use Rattle.image_file.specs.Writing.{DataFitsFields}
use Rattle.image_file.proofs.FitLemmas.{program_fits}
use Rattle.stl_list.proofs.listing.listed_tree.Goals as goal

pub tree_by-requires-clause-few : goal.tree_by-requires-clause-few
tree_by-requires-clause-few c = (program_fits _ c.program.invariant).code_count

pub tree_by-requires-clause-code : goal.tree_by-requires-clause-code
tree_by-requires-clause-code c = (program_fits _ c.program.invariant).code_blocks

pub tree_by-requires-clause-data : goal.tree_by-requires-clause-data
tree_by-requires-clause-data c =
    subst (λ (z : List DataBlock). All DataFitsFields z) (sym c.as_slice.ensures.value) (program_fits _ c.program.invariant).data_blocks
