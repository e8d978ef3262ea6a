-- Laws of images: writing a program as an image and reading it give each other.
use Rattle.std.specs.Prelude.{◌≡◌, ◌<◌, ◌⊎◌, ℕ, List, [], get_or, Some, None}
use Rattle.flat_code.specs.Layout.{Cursor, faults_in}
use Rattle.flat_code.specs.Programs.{Program}
use Rattle.flat_code.specs.Loading.{GivesProgram, IsLoadable, Verifies}
use Rattle.flat_code.specs.declared.stamps.Stamp.{Stamp}
use Rattle.image_file.specs.declared.faults.LoadFault.{LoadFault}
use Rattle.image_file.specs.declared.faults.VerifyFault.{VerifyFault}
use Rattle.image_file.specs.Least.{with_faults, IsLeastFault}
use Rattle.flat_code.specs.Image.{image, IsProgram, IsRight, read_image}
use Rattle.image_file.specs.Verifying.{IsFaultOf}

-- every byte string is the image of at most one program, version and profile, whether the program
-- verifies or not
abbrev pub ImagesAreOfOne : Type 0
ImagesAreOfOne =
    (s t : Stamp) (p q : Program) → IsProgram p → IsProgram q
    → image s p ≡ image t q → (s ≡ t) × (p ≡ q)

-- a program without faults of fields is read from its image, with its version and profile
abbrev pub ImagesAreRead : Type 0
ImagesAreRead =
    (s : Stamp) (p : Program) → IsProgram p → IsRight p
    → (end : Cursor) × ((read_image (image s p)).found ≡ Some ((s, p), end))
    × (faults_in (read_image (image s p)).notes ≡ [])

-- bytes that are read with no fault are the image of what was found
abbrev pub ReadingsAreImages : Type 0
ReadingsAreImages =
    (bytes : List ℕ) (s : Stamp) (p : Program) (end : Cursor) → ((i : ℕ) → get_or bytes i 0 < 256)
    → (read_image bytes).found ≡ Some ((s, p), end) → faults_in (read_image bytes).notes ≡ []
    → (bytes ≡ image s p) × IsProgram p × IsRight p

-- bytes are without fault and give a program exactly where they are its image, of a version and
-- profile, and it verifies
abbrev pub GivesExactlyImages : Type 0
GivesExactlyImages =
    (bytes : List ℕ) (s : Stamp) (p : Program) → ((i : ℕ) → get_or bytes i 0 < 256)
    → (GivesProgram bytes s p → IsLoadable bytes s p)
    × (IsLoadable bytes s p → GivesProgram bytes s p)

-- the fault that one pass over faults keeps is the least of them by offset, then code
abbrev pub KeptIsLeast : Type 0
KeptIsLeast = (fs : List (ℕ × ℕ)) (f : LoadFault) → with_faults None fs ≡ Some f → IsLeastFault f fs

-- a program verifies or has a fault, and not both
abbrev pub VerifiesOrHasFault : Type 0
VerifiesOrHasFault =
    (p : Program) → IsProgram p → (Verifies p ⊎ ((f : VerifyFault) × IsFaultOf p f))
    × (Verifies p → (f : VerifyFault) → IsFaultOf p f → ⊥)

-- a program has at most one fault as `verify` answers it: block, offset and code
abbrev pub FaultsAreOne : Type 0
FaultsAreOne = (p : Program) (f g : VerifyFault) → IsFaultOf p f → IsFaultOf p g → f ≡ g
