-- A program that is small enough has an image if its records are right.
use Rattle.std.proofs.Common.{refl}
use Rattle.std.proofs.lemmas.Bool.{and_from, le-leb}
use Rattle.flat_code.specs.Checking.{image_size, makes_program}
use Rattle.flat_code.proofs.CheckLemmas.{is_program_by_test}
use Rattle.sem_kept.specs.Sizes.{SmallIsProgram}

pub small_is_program : SmallIsProgram
small_is_program p small blocks datas names =
    let right = and_from _ _ small.counts (and_from _ _ blocks (and_from _ _ datas names)) in
    let short = small.short in
    is_program_by_test p.code_blocks p.code_blocks p.data_blocks p.data_blocks p.names p.names (makes_program p)
    refl refl refl refl (and_from _ _ right (le-leb (image_size p) 8388608 short))
