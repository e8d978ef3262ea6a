-- The names of a program's variables, and what a name finds.
use Rattle.std.specs.Prelude.{◌≡◌, ℕ, Bool, true, ◌&&◌, if◌then◌else◌, List, [], ◌∷◌, Option, Some, None}
use Rattle.plc_base.specs.Folding.{is_same_name}
use Rattle.plc_base.specs.declared.places.Place.{Place}
use Rattle.plc_base.specs.declared.places.Width.{Width}
use Rattle.flat_code.specs.Faults.{is_earlier_name, is_upper}
use Rattle.flat_code.specs.Programs.{NameEntry}

-- whether names are in upper case and rise strictly in the order of their bytes, the first one from
-- `before`
abbrev pub names_rise : List ℕ → List NameEntry → Bool
names_rise before [] = true
names_rise before (entry ∷ entries) =
    is_earlier_name before entry.name && is_upper entry.name && names_rise entry.name entries

-- the lists of names that a program may have: none is empty or stands twice
abbrev pub IsNames : List NameEntry → Type 0
IsNames entries = names_rise [] entries ≡ true

-- the place and width of the variable that a name names, whatever the case of its letters; None
-- where no variable has that name
unfoldable pub find : List NameEntry → List ℕ → Option (Place × Width)
find [] name = None
find (entry ∷ entries) name =
    if is_same_name entry.name name then Some (entry.place, entry.width) else find entries name
