-- A line of a symbols file, read by itself as CSV.
use Rattle.std.specs.Prelude.{ℕ, List, [], ◌∷◌, Option, Some, None, is_some, if◌then◌else◌}
use Rattle.std.specs.Option.{option_and_then}
use Rattle.csv.specs.Machine.{Read, next_record}
use Rattle.csv.specs.Reading.{default_config, strip_bom}
use Rattle.csv.specs.declared.parser.State.TheVariants as state

-- the fields of a record behind which no other record stands
abbrev pub lone_record : Option Read → Option (List (List ℕ))
lone_record None = None
lone_record (Some read) =
    if is_some (next_record default_config read.1 [] [] read.2) then None else Some read.0

-- the fields of a line that is one record, and not none or two
unfoldable pub only_record : List ℕ → Option (List (List ℕ))
only_record line = lone_record (next_record default_config state.StartRecord [] [] (strip_bom line))

-- what a symbols file says of a symbol; the fourth field is a comment
pub record Columns : Type 0 where
  -- the first field: the name of the symbol
  pub name : List ℕ
  -- the second field: the address that the symbol names
  pub address : List ℕ
  -- the third field: the type of the address
  pub kind : List ℕ

-- the columns of a line, the first three of its four fields; none where it has not four
abbrev pub columns_of : List (List ℕ) → Option Columns
columns_of (name ∷ address ∷ kind ∷ comment ∷ []) =
    Some (record { name = name; address = address; kind = kind })
columns_of fields = None

-- the columns of a line that is one record of four fields
unfoldable pub columns_of_line : List ℕ → Option Columns
columns_of_line line = option_and_then columns_of (only_record line)
