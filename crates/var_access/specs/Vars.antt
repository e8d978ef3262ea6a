-- The variables of one read: at most eight, in the front of eight places.
use Rattle.std.specs.Prelude.{◌≡◌, ◌≤◌, ◌-◌, List, ◌++◌, length, drop, replicate}
use Rattle.plc_base.specs.declared.places.Area.TheVariants.{I}
use Rattle.plc_base.specs.declared.places.Width.TheVariants.{Bit}
use Rattle.var_access.specs.declared.requests.Var.{Var}
use Rattle.var_access.specs.declared.requests.Vars.TheInside.{Inside}

-- the variable that stands in a place that no variable takes
abbrev pub no_var : Var
no_var = record { place = record { number = 0; byte = 0; area = I; bit = 0 }; width = Bit }

-- eight places, of which those behind the last variable hold none
pub record IsFilled (v : Inside) : Type 0 where
  -- there are eight places
  pub places : length v.list ≡ 8
  -- the variables are counted by `count`, eight at most
  pub few : v.count ≤ length v.list
  -- each place behind the last variable holds `no_var`
  pub rest : drop v.count v.list ≡ replicate (8 - v.count) no_var

-- the places that a list of variables fills
abbrev pub places_of_variables : List Var → Inside
places_of_variables vars =
    record { list = vars ++ replicate (8 - length vars) no_var; count = length vars }
