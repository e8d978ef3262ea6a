use Rattle.std.proofs.Common.{subst}
use Rattle.flat_code.specs.Image.{IsProgram}
use Rattle.image_file.proofs.loading.law_of_program.Goals as goal

pub returns : goal.returns
returns c = subst IsProgram c.program.view_is c.program.invariant
