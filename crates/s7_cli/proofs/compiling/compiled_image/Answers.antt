use Rattle.std.proofs.Common.{refl}
use Rattle.flat_code.specs.declared.stamps.Stamp.TheVariants.{Two}
use Rattle.plc_base.specs.declared.Profile.TheVariants.{Large}
use Rattle.s7_cli.proofs.compiling.compiled_image.Goals as goal

pub returns-clause-ok : goal.returns-clause-ok
returns-clause-ok c = (
  record {
    stamp = Two Large;
    program = c.in_ok-program.program;
    spelled = c.in_ok-write_image2.ensures;
    keeps = c.in_ok-program.ensures.ok;
  },
  refl,
  c.in_ok-program.ensures.compiles,
  c.law_of_files.ensures,
)
