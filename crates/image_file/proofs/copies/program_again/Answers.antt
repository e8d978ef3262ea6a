use Rattle.std.proofs.Common.{◌≡◌, true, List, [], sym, subst, ◌∙◌}
use Rattle.flat_code.specs.Names.{names_rise}
use Rattle.flat_code.specs.Programs.{NameEntry}
use Rattle.flat_code.proofs.ProgramLemmas.{names_of_program}
use Rattle.image_file.proofs.copies.program_again.Goals as goal

pub new-requires : goal.new-requires
new-requires c =
    subst (λ (z : List NameEntry). names_rise [] z ≡ true) (sym (c.in_ok-entries.ensures ∙ c.as_slice.ensures))
    (names_of_program (record { code_blocks = c.args.code_blocks.now; data_blocks = c.args.data_blocks.now; names = c.args.names.now }) c.requires)
