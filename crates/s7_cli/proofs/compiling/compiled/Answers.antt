use Rattle.std.proofs.Common.{refl, sym, ap, subst}
use Rattle.plc_base.specs.declared.Profile.{Profile}
use Rattle.plc_base.specs.declared.Profile.TheVariants.{Large}
use Rattle.flat_code.specs.declared.stamps.Stamp.TheVariants.{Two}
use Rattle.sem_kept.specs.Agreement.{KeepsSource}
use Rattle.sem_kept.specs.Compiles.{CompilesTo}
use Rattle.stl_symbols.specs.declared.languages.Language.TheVariants.{English}
use Rattle.s7_cli.proofs.compiling.compiled.Goals as goal

pub loaded_large-requires : goal.loaded_large-requires
loaded_large-requires c = c.in_ok-program.ensures.ok.runnable

pub returns-clause-ok : goal.returns-clause-ok
returns-clause-ok c = subst (KeepsSource Large c.args.source.now c.args.symbols.now) (sym c.in_ok-loaded_large.ensures.program) c.in_ok-program.ensures.ok

pub returns-clause-program : goal.returns-clause-program
returns-clause-program c =
    subst (CompilesTo English c.args.source.now c.args.symbols.now) (sym c.in_ok-loaded_large.ensures.program) c.in_ok-program.ensures.compiles

pub returns-clause-image : goal.returns-clause-image
returns-clause-image c =
    let loaded = c.in_ok-loaded_large.field-0 in (
      record {
        stamp = Two loaded.profile;
        program = loaded.program;
        spelled = refl;
        keeps = subst (λ (f : Profile). KeepsSource f c.args.source.now c.args.symbols.now loaded.program) (sym c.in_ok-loaded_large.ensures.large)
            (returns-clause-ok c);
      },
      ap Two c.in_ok-loaded_large.ensures.large,
      returns-clause-program c,
      c.law_of_files.ensures,
    )
