use Rattle.std.proofs.Common.{sym, subst, All, List}
use Rattle.std.proofs.lemmas.List.Sorted.{All-permutation}
use Rattle.flat_code.specs.Programs.{CodeBlock}
use Rattle.image_file.specs.Writing.{BlockFitsFields}
use Rattle.stl_list.proofs.listing.tree_by.Goals as goal

pub blocks_by-requires-clause-code : goal.blocks_by-requires-clause-code
blocks_by-requires-clause-code c =
    let all = All-permutation BlockFitsFields c.args.code_blocks.items c.in_ok-code_blocks.code_blocks.items c.in_ok-code_blocks.ensures.same c.requires.code in
    subst (λ (z : List CodeBlock). All BlockFitsFields z) (sym c.as_slice-3.ensures.value) all
