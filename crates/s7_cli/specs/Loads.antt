-- What bytes load as.
use Rattle.std.specs.Prelude.{ℕ, List, Result, Ok, Err}
use Rattle.flat_code.specs.Loading.{IsLoadable, faults_of}
use Rattle.image_file.specs.Images.{IsImageOf}
use Rattle.image_file.specs.Least.{IsLeastFault}
use Rattle.image_file.specs.LoadedProgram.{LoadedProgram}
use Rattle.image_file.specs.declared.faults.LoadFault.{LoadFault}

-- bytes are the image of a program in some version, which verifies, and it has the profile that
-- this version has or names
pub record IsImageOfLoadable (bytes : List ℕ) (loaded : LoadedProgram) : Type 0 where
  -- they have no fault and give the program, with its profile
  pub image : IsImageOf bytes loaded
  -- they are its image, with this version and profile, and it verifies
  pub loadable : IsLoadable bytes image.stamp loaded.program

-- bytes load as a program with its profile, or are refused by their least fault, by offset, then
-- code
abbrev pub LoadsAs : List ℕ → Result LoadedProgram LoadFault → Type 0
LoadsAs bytes (Ok loaded) = IsImageOfLoadable bytes loaded
LoadsAs bytes (Err fault) = IsLeastFault fault (faults_of bytes)
