-- The version of an image, and the profile that version 2 names.
use Rattle.std.specs.Prelude.{ℕ, ◌==◌, if◌then◌else◌}
use Rattle.plc_base.specs.declared.profiles.Profile.{Profile}
use Rattle.plc_base.specs.declared.profiles.Profile.TheVariants as profiles
use Rattle.flat_code.specs.declared.stamps.Stamp.{Stamp}
use Rattle.flat_code.specs.declared.stamps.Stamp.TheVariants as stamp

-- the number of a profile in images: 1 Small, 2 Large
abbrev pub profile_number : Profile → ℕ
profile_number profiles.Small = 1
profile_number profiles.Large = 2

-- the version field of an image: 1 or 2
abbrev pub version_number : Stamp → ℕ
version_number stamp.One = 1
version_number (stamp.Two profile) = 2

-- the profile field of an image, two bytes: 0 in version 1, else the number of the profile
abbrev pub profile_field_of : Stamp → ℕ
profile_field_of stamp.One = 0
profile_field_of (stamp.Two profile) = profile_number profile

-- the version and profile of an image, by the numbers of its version field and its profile field;
-- an unknown profile of version 2 stands for Small, an unknown version for 1
abbrev pub stamp_of : (version number : ℕ) → Stamp
stamp_of version number =
    if version == 2
    then (if number == profile_number profiles.Large then stamp.Two profiles.Large
    else stamp.Two profiles.Small)
    else stamp.One

-- the profile with which an image is run: an image of version 1 is one for Small
abbrev pub profile_of : Stamp → Profile
profile_of stamp.One = profiles.Small
profile_of (stamp.Two profile) = profile
