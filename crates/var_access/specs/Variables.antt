-- Variables as texts spell them: `M 0.3`, `MW 2`, `DB10.DBX 0.1`, `DB10.DBW 2`, or a symbol in quotes.
use Rattle.std.specs.Prelude.{ℕ, ◌==◌, ◌*◌, List, [], ◌∷◌, take, drop, nat_le, Bool, ◌&&◌, Option, Some, None, Ok, Err, bytes_eq, codes, if◌then◌else◌}
use Rattle.std.specs.List.{prefix_len, position_or_len, slice_split}
use Rattle.plc_base.specs.Widths.{byte_count}
use Rattle.plc_base.specs.declared.places.Area.{Area}
use Rattle.plc_base.specs.declared.places.Area.TheVariants.{I, Q, M, Db}
use Rattle.plc_base.specs.declared.places.Place.{Place}
use Rattle.plc_base.specs.declared.places.Width.{Width}
use Rattle.plc_base.specs.declared.places.Width.TheVariants.{Bit, Byte, Word, Dword}
use Rattle.var_access.specs.Entry.{is_var}
use Rattle.var_access.specs.Readings.{Reading, both_readings, reading_map, no_line, number_reading, address_number, hex_of, is_hex, behind_blanks}
use Rattle.var_access.specs.TextRules as rules
use Rattle.var_access.specs.declared.requests.Var.{Var}

-- names of variables: what each of them stands for
abbrev pub Names : Type 0
Names = List ℕ → Option (Place × Width)

-- a byte is a capital letter, as the letters of variables are
abbrev pub is_letter : ℕ → Bool
is_letter b = nat_le 65 b && nat_le b 90

-- the capital letters at the front of a text
abbrev pub leading_letters : List ℕ → List ℕ
leading_letters part = take (prefix_len is_letter part) part

-- a text without the capital letters at its front and the blanks behind them
abbrev pub behind_letters : List ℕ → List ℕ
behind_letters part = behind_blanks (drop (prefix_len is_letter part) part)

-- the area that letters name: I, Q or M
unfoldable pub area_of_letters : List ℕ → Option Area
area_of_letters letters =
    if bytes_eq letters (codes "I") then Some I
    else if bytes_eq letters (codes "Q") then Some Q
    else if bytes_eq letters (codes "M") then Some M else None

-- the width that letters name: B, W or D
unfoldable pub width_of_letters : List ℕ → Option Width
width_of_letters letters =
    if bytes_eq letters (codes "B") then Some Byte
    else if bytes_eq letters (codes "W") then Some Word
    else if bytes_eq letters (codes "D") then Some Dword else None

-- an area and a width together, where both are named
abbrev pub wide_in : Option Area → Option Width → Option (Area × Width)
wide_in (Some area) (Some width) = Some (area, width)
wide_in _ _ = None

-- the area and width that letters name together, as MW
abbrev pub wide_of : List ℕ → Option (Area × Width)
wide_of letters = wide_in (area_of_letters (take 1 letters)) (width_of_letters (drop 1 letters))

-- the width that letters name in a data block, as DBW
abbrev pub db_width_of : List ℕ → Option Width
db_width_of letters =
    if bytes_eq (take 2 letters) (codes "DB") then width_of_letters (drop 2 letters) else None

-- a variable by its area, its data block, byte and bit, and its width
abbrev pub var_at : (area : Area) (number byte bit : ℕ) → Width → Var
var_at area number byte bit width =
    record {
      place = record { number = number; byte = byte; area = area; bit = bit };
      width = width;
    }

-- the number of a bit in its byte: 0 to 7, else it is out of range
abbrev pub bit_number_reading : List ℕ → Reading ℕ
bit_number_reading word = number_reading 0 7 rules.out_of_range word

-- a byte, word or double word of an area, as `MW n`
abbrev pub wide_var : Option (Area × Width) → List ℕ → Reading Var
wide_var None byte = no_line
wide_var (Some w) byte = reading_map (λ n. var_at w.0 0 n 0 w.1) (address_number byte)

-- a bit of an area, as `M n.b`
abbrev pub bit_var : Area → (byte bit : List ℕ) → Reading Var
bit_var area byte bit =
    reading_map (λ n. var_at area 0 n.0 n.1 Bit)
    (both_readings (address_number byte) (bit_number_reading bit))

-- a byte, word or double word of a data block, as `DBn.DBW n`
abbrev pub block_var : Option Width → (number byte : List ℕ) → Reading Var
block_var None number byte = no_line
block_var (Some width) number byte =
    reading_map (λ n. var_at Db n.0 n.1 0 width)
    (both_readings (address_number number) (address_number byte))

-- a bit of a data block, as `DBn.DBX n.b`
abbrev pub block_bit : (number byte bit : List ℕ) → Reading Var
block_bit number byte bit =
    reading_map (λ n. var_at Db n.0 n.1.0 n.1.1 Bit)
    (both_readings (address_number number)
    (both_readings (address_number byte) (bit_number_reading bit)))

-- a variable of two parts with a point between: a bit of an area, or a wider operand of a data
-- block
abbrev pub two_parts : Option Area → (first second : List ℕ) → Reading Var
two_parts (Some area) first second = bit_var area (behind_letters first) second
two_parts None first second =
    if bytes_eq (leading_letters first) (codes "DB")
    then
    block_var (db_width_of (leading_letters second)) (behind_letters first) (behind_letters second)
    else no_line

-- a variable by what stands between its points
abbrev pub var_of_parts : List (List ℕ) → Reading Var
var_of_parts (first ∷ []) = wide_var (wide_of (leading_letters first)) (behind_letters first)
var_of_parts (first ∷ second ∷ []) =
    two_parts (area_of_letters (leading_letters first)) first second
var_of_parts (first ∷ second ∷ third ∷ []) =
    if bytes_eq (leading_letters first) (codes "DB")
    && bytes_eq (leading_letters second) (codes "DBX")
    then block_bit (behind_letters first) (behind_letters second) third else no_line
var_of_parts parts = no_line

-- a byte is a point, which separates the parts of a variable
abbrev pub is_point : ℕ → Bool
is_point b = b == 46

-- a byte is a quote, which stands before and behind a symbol
abbrev pub is_quote : ℕ → Bool
is_quote b = b == 34

-- a variable, where an operator may read and write it; else its name is unknown
abbrev pub var_or_unknown : Var → Reading Var
var_or_unknown v = if is_var v then Ok v else Err rules.unknown_name

-- the variable that a name stands for; a name that stands for none, or for one elsewhere than in I, Q,
-- M or a data block, is unknown
abbrev pub named_var : Option (Place × Width) → Reading Var
named_var None = Err rules.unknown_name
named_var (Some at) = var_or_unknown (record { place = at.0; width = at.1 })

-- a name and the quote that closes it, with nothing behind
abbrev pub closed_name : Names → (name rest : List ℕ) → Reading Var
closed_name names (b ∷ name) (quote ∷ []) = named_var (names (b ∷ name))
closed_name names name rest = no_line

-- a symbol, by what stands behind its first quote
abbrev pub symbol_var : Names → List ℕ → Reading Var
symbol_var names text =
    closed_name names (take (position_or_len is_quote text) text)
    (drop (position_or_len is_quote text) text)

-- a variable: a symbol in quotes or a place
unfoldable pub var_of : Names → List ℕ → Reading Var
var_of names [] = no_line
var_of names (b ∷ t) =
    if is_quote b then symbol_var names t else var_of_parts (slice_split is_point (b ∷ t))

-- the value of a bit: one digit, 0 or 1, else it is out of range
abbrev pub bit_value : List ℕ → Reading ℕ
bit_value word =
    if is_hex word
    then
    (if bytes_eq word (codes "0") then Ok 0
    else if bytes_eq word (codes "1") then Ok 1
    else Err rules.out_of_range)
    else no_line

-- a value at a width: two hexadecimal digits a byte, one for a bit
unfoldable pub width_value : Width → List ℕ → Reading ℕ
width_value Bit word = bit_value word
width_value width word = hex_of (2 * byte_count width) word
