use Rattle.std.proofs.Common.{refl}
use Rattle.flat_code.specs.declared.stamps.Stamp.TheVariants.{Two}
use Rattle.plc_base.specs.declared.Profile.TheVariants.{Large}
use Rattle.s7_cli.proofs.translating.image_german.Goals as goal

pub returns-clause-keeps : goal.returns-clause-keeps
returns-clause-keeps c =
    let kept = c.in_ok-program.ensures.made in (
      kept.0,
      kept.1,
      (
        record {
          stamp = Two Large;
          program = c.in_ok-program.program;
          spelled = c.in_ok-write_image2.ensures;
          keeps = kept.2;
        },
        refl,
        kept.3,
        kept.4,
      ),
    )
