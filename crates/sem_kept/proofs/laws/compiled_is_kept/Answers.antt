use Rattle.std.proofs.Common.{refl}
use Rattle.flat_code.specs.Stamps.{profile_of}
use Rattle.stl_symbols.specs.declared.languages.Language.TheVariants.{English}
use Rattle.sem_kept.specs.AcceptedSource.{program_in}
use Rattle.sem_kept.proofs.laws.compiled_is_kept.Goals as goal

pub returns : goal.returns
returns c stamp source symbols list tokens tree files has_symbols has_tokens has_tree right = record {
  stamp = stamp;
  program = program_in list tree;
  spelled = refl;
  keeps = c.programs_run.ensures English (profile_of stamp) source symbols list tokens tree files has_symbols has_tokens has_tree right;
}
