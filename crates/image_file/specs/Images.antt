-- Images that are loaded, and those that were just written.
use Rattle.std.specs.Prelude.{◌≡◌, ℕ, List, Result, Ok, Err}
use Rattle.flat_code.specs.declared.stamps.Stamp.{Stamp}
use Rattle.flat_code.specs.Image.{image}
use Rattle.flat_code.specs.Loading.{faults_of, GivesProgram, Verifies}
use Rattle.flat_code.specs.Programs.{Program}
use Rattle.flat_code.specs.Stamps.{profile_of}
use Rattle.image_file.specs.declared.refusing.LoadError.{LoadError}
use Rattle.image_file.specs.declared.refusing.LoadError.TheVariants as error
use Rattle.image_file.specs.Least.{IsLeastFault}
use Rattle.image_file.specs.LoadedProgram.{LoadedProgram}

-- bytes are without fault, and a loaded program is the one that they hold, with the profile of
-- their version or the one that they name
pub record IsImageOf (bytes : List ℕ) (l : LoadedProgram) : Type 0 where
  -- the version of the image, and the profile that version 2 names
  pub stamp : Stamp
  -- reading the bytes finds no fault and gives the loaded program
  pub given : GivesProgram bytes stamp l.program
  -- the loaded program has the profile of version 1 (Small), or the one that version 2 names
  pub profile : l.profile ≡ profile_of stamp

-- what loading a program's image gives: the program again, with the profile of the image; or the
-- program doesn't verify, and the fault is the least one of that image; nothing is said where
-- memory is wanting
abbrev pub GivesBack : Program → Stamp → Result LoadedProgram LoadError → Type 0
GivesBack p stamp (Ok l) = (l.program ≡ p) × (l.profile ≡ profile_of stamp)
GivesBack p stamp (Err (error.Fault f)) =
    (Verifies p → ⊥) × IsLeastFault f (faults_of (image stamp p))
GivesBack p stamp (Err error.NoMemory) = Unit {0}
