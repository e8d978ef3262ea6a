-- What contracts see of a controller.
use Rattle.std.specs.Prelude.{ℕ, List}
use Rattle.plc_base.specs.declared.Profile.{Profile}
use Rattle.flat_code.specs.Programs.{Program}
use Rattle.var_access.specs.declared.Entry.{Entry}

-- the program, its profile, the history so far, and for how many further entries there is room
pub record Recording : Type 0 where
  -- the program that is loaded
  pub program : Program
  -- the profile with which it is loaded
  pub profile : Profile
  -- the entries so far, the oldest one first
  pub history : List Entry
  -- for how many further entries there is room
  pub spare : ℕ
