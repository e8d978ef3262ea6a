-- Time literals: parts of digits and a unit, as `1D_2H_3M_4S_5MS`.
use Rattle.std.specs.Prelude.{◌≡◌, ◌↔◌, ◌⊎◌, ◌<◌, ℕ, ◌+◌, ◌*◌, Bool, true, ◌&&◌, not, ◌==◌, nat_lt, if◌then◌else◌, List, [], ◌∷◌, ◌++◌, length, drop, take, Option, None, Some, option_map, codes}
use Rattle.std.specs.List.{list_all, prefix_len}
use Rattle.std.specs.Char.{is_ascii_digit, is_ascii_alphabetic}
use Rattle.std.specs.Str.{str_eq_ignore_ascii_case}
use Rattle.stl_lexer.specs.declared.times.TimeUnit.{TimeUnit}
use Rattle.stl_lexer.specs.declared.times.TimeUnit.TheVariants.{Day, Hour, Minute, Second, Millisecond}
use Rattle.stl_lexer.specs.Bytes.{underscore}
use Rattle.plc_base.specs.Decimal.{decimal_value}

-- the units in falling order
unfoldable pub time_units : List TimeUnit
time_units = Day ∷ Hour ∷ Minute ∷ Second ∷ Millisecond ∷ []

-- the letters of a unit, in upper case
unfoldable pub letters_of_unit : TimeUnit → List ℕ
letters_of_unit Day = codes "D"
letters_of_unit Hour = codes "H"
letters_of_unit Minute = codes "M"
letters_of_unit Second = codes "S"
letters_of_unit Millisecond = codes "MS"

-- how many milliseconds a unit has
unfoldable pub milliseconds_of_unit : TimeUnit → ℕ
milliseconds_of_unit Day = 24 * 60 * 60 * 1000
milliseconds_of_unit Hour = 60 * 60 * 1000
milliseconds_of_unit Minute = 60 * 1000
milliseconds_of_unit Second = 1000
milliseconds_of_unit Millisecond = 1

-- the digits at the front of a text, those of its first part
abbrev pub part_digits : List ℕ → List ℕ
part_digits s = take (prefix_len is_ascii_digit s) s

-- the text behind the digits at its front; all of it where it begins with none
abbrev pub behind_digits : List ℕ → List ℕ
behind_digits s = drop (prefix_len is_ascii_digit s) s

-- the letters behind the digits at the front of a text, up to a byte that is no letter
abbrev pub part_letters : List ℕ → List ℕ
part_letters s = take (prefix_len is_ascii_alphabetic (behind_digits s)) (behind_digits s)

-- a text without the digits at its front and the letters behind them: what follows its first part
abbrev pub behind_part : List ℕ → List ℕ
behind_part s = drop (prefix_len is_ascii_alphabetic (behind_digits s)) (behind_digits s)

-- a text begins with a part of this unit: digits, one at least, and the unit's letters without case
unfoldable pub is_part : TimeUnit → List ℕ → Bool
is_part unit s =
    nat_lt 0 (length (part_digits s))
    && str_eq_ignore_ascii_case (letters_of_unit unit) (part_letters s)

-- a text without the `_` at its front, where one stands there, as it may between two parts
unfoldable pub behind_underscore : List ℕ → List ℕ
behind_underscore [] = []
behind_underscore (b ∷ s) = if b == underscore then s else b ∷ s

-- the milliseconds of a part with this unit and these digits
abbrev pub part_value : TimeUnit → List ℕ → ℕ
part_value unit digits = decimal_value digits * milliseconds_of_unit unit

-- the milliseconds of a text that is parts of these units, each at most once and in this order; of
-- another text None
unfoldable pub milliseconds : List TimeUnit → List ℕ → Option ℕ
milliseconds [] s = None
milliseconds (unit ∷ smaller) s =
    if not (is_part unit s) then milliseconds smaller s
    else (if length (behind_part s) == 0 then Some (part_value unit (part_digits s))
    else option_map (λ rest. part_value unit (part_digits s) + rest)
    (milliseconds smaller (behind_underscore (behind_part s))))

-- a part by itself: decimal digits, one at least, and the letters of its unit in either case
pub record TimePart : Type 0 where
  -- the decimal digits of the part
  pub digits : List ℕ
  -- the letters of the unit as they are written, in either case
  pub letters : List ℕ
  -- the unit that the digits count
  pub unit : TimeUnit

-- a right part: digits alone, one at least, and the letters of its unit, whatever their case
pub record IsTimePart (p : TimePart) : Type 0 where
  -- there is at least one digit
  pub some : 0 < length p.digits
  -- each of the digits is a decimal digit
  pub digits : list_all is_ascii_digit p.digits ≡ true
  -- the letters are those of the unit, in either case
  pub letters : str_eq_ignore_ascii_case (letters_of_unit p.unit) p.letters ≡ true

-- a text is these parts, one at least, and between two of them stands one `_` or nothing
abbrev pub SpellsTime : List TimePart → List ℕ → Type 0
SpellsTime [] text = ⊥
SpellsTime (p ∷ []) text = IsTimePart p × (text ≡ p.digits ++ p.letters)
SpellsTime (p ∷ q ∷ parts) text =
    IsTimePart p × ((rest : List ℕ)
    × ((text ≡ p.digits ++ p.letters ++ rest) ⊎ (text ≡ p.digits ++ p.letters ++ underscore ∷ rest))
    × SpellsTime (q ∷ parts) rest)

-- each unit is below a number of milliseconds, and below the units before it
abbrev pub UnitsFallBelow : ℕ → List TimePart → Type 0
UnitsFallBelow bound [] = Unit {0}
UnitsFallBelow bound (p ∷ parts) =
    (milliseconds_of_unit p.unit < bound) × UnitsFallBelow (milliseconds_of_unit p.unit) parts

-- the milliseconds of all parts together, 0 where there are none
abbrev pub total_milliseconds : List TimePart → ℕ
total_milliseconds [] = 0
total_milliseconds (p ∷ parts) = part_value p.unit p.digits + total_milliseconds parts

-- a text is parts whose units fall, and these come to n milliseconds together
pub record IsTime (text : List ℕ) (n : ℕ) : Type 0 where
  -- the parts of the time, the first one first
  pub parts : List TimePart
  -- the text is these parts, one at least, with one `_` or nothing between two of them
  pub spelled : SpellsTime parts text
  -- the unit of each part is smaller than that of the part before it
  pub falling : UnitsFallBelow (milliseconds_of_unit Day + 1) parts
  -- `n` is the milliseconds of all parts together
  pub sum : n ≡ total_milliseconds parts

-- the milliseconds of a time literal are those of its parts, and there are none where it isn't
-- parts whose units fall
abbrev pub ReadsTimes : Type 0
ReadsTimes = (text : List ℕ) (n : ℕ) → (milliseconds time_units text ≡ Some n) ↔ IsTime text n
