use Rattle.std.proofs.Common.{◌≡◌, true, List, [], map, sym, subst}
use Rattle.flat_code.specs.Names.{names_rise}
use Rattle.flat_code.specs.Programs.{NameEntry}
use Rattle.flat_code.proofs.ProgramLemmas.{names_of_program}
use Rattle.image_file.specs.Running.{located_block}
use Rattle.image_file.specs.Typing.{program_from}
use Rattle.image_file.proofs.typing.program.Goals as goal

pub new-names-requires : goal.new-names-requires
new-names-requires c = subst (λ (z : List NameEntry). names_rise [] z ≡ true) (sym c.in_ok-entries.ensures) (names_of_program (program_from (map located_block c.args.blocks.items) c.args.data_blocks.items c.args.names.items) c.requires.program)
