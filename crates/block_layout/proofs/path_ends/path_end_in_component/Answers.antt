use Rattle.block_layout.proofs.PathLemmas.{named_structure}
use Rattle.block_layout.proofs.path_ends.path_end_in_component.Goals as goal

pub returns-in-Structure-clause-value : goal.returns-in-Structure-clause-value
returns-in-Structure-clause-value c =
    named_structure c.args.layouts.now c.args.component c.args.name.now c.args.cell.now c.args.layout.now c.inner-found.result c.path_end_at_member.result
    c.requires.layout c.requires.cell c.inner-found.ensures.value c.path_end_at_member.ensures.value c.in-Structure.is
