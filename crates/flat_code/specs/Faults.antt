-- The faults of an image's fields, each by its code: 1 magic, 2 version, 4 a value beyond its limit
-- or out of order, 9 statement count and lines.
use Rattle.std.specs.Prelude.{ℕ, nat_le, nat_lt, ◌+◌, ◌==◌, Bool, true, false, ◌&&◌, ◌||◌, not, if◌then◌else◌, List, [], ◌∷◌, Option, Some, None}
use Rattle.plc_base.specs.Kinds.{kind_number}
use Rattle.plc_base.specs.Widths.{byte_count, width_number}
use Rattle.plc_base.specs.declared.blocks.BlockKind.TheVariants as kinds
use Rattle.plc_base.specs.declared.places.Width.TheVariants as widths
use Rattle.plc_base.specs.declared.profiles.Profile.TheVariants as profile
use Rattle.plc_base.specs.declared.places.Area.TheVariants as area
use Rattle.flat_code.specs.Forms.{area_code, width_of_number}
use Rattle.flat_code.specs.Records.{section_in, section_in_out}
use Rattle.flat_code.specs.Stamps.{profile_number}
use Rattle.flat_code.specs.declared.image_fields.Field.{Field}
use Rattle.flat_code.specs.declared.image_fields.Field.TheVariants as field

-- the fault of a code unless a test is met
abbrev pub fault_unless_met : Bool → ℕ → Option ℕ
fault_unless_met fine code = if fine then None else Some code

-- whether a number is from low to high, both included
abbrev pub is_in_range : ℕ → ℕ → ℕ → Bool
is_in_range low high n = nat_le low n && nat_le n high

-- whether a number is that of an organization block that there is
abbrev pub is_existing_ob : ℕ → Bool
is_existing_ob n =
    n == 1 || is_in_range 10 17 n || is_in_range 20 23 n || is_in_range 30 38 n
    || is_in_range 40 47 n || n == 80 || n == 85 || n == 100 || n == 121 || n == 122

-- whether a kind of code block has a number: an OB that there is, an FC or FB 0 to 2,047
abbrev pub has_number : ℕ → ℕ → Bool
has_number kind n = if kind == kind_number kinds.Ob then is_existing_ob n else nat_le n 2047

-- whether a parameter's place is right, by kind, instance bytes, number of the width and byte: in a
-- function block it lies within the instance, in another block it has none (0)
abbrev pub holds_parameter : ℕ → ℕ → ℕ → ℕ → Bool
holds_parameter kind instance width byte =
    if kind == kind_number kinds.Fb then nat_le (byte + byte_count (width_of_number width)) instance
    else byte == 0

-- the code of a field's fault, None where it has none; for the bytes of a name see `name_fault`
unfoldable pub field_fault : Field → Option ℕ
-- 1: the magic is `S7FB`
field_fault (field.Magic number) = fault_unless_met (number == 0x53374642) 1
-- 2: the version is 1 or 2
field_fault (field.Version number) = fault_unless_met (number == 1 || number == 2) 2
-- 4: the profile of version 2 is that of Small or Large; in version 1 the field is 0
field_fault (field.Profile version number) =
    fault_unless_met (if version == 2
    then is_in_range (profile_number profile.Small) (profile_number profile.Large) number
    else number == 0) 4
-- 4: a reserved field is 0
field_fault (field.Reserved number) = fault_unless_met (number == 0) 4
-- sizes, counts, kinds and numbers are within their limits, and records rise
field_fault (field.DataBlockCount count) = fault_unless_met (nat_le count 256) 4
field_fault (field.Kind before kind) =
    fault_unless_met (is_in_range (kind_number kinds.Ob) (kind_number kinds.Fb) kind
    && nat_le before kind) 4
field_fault (field.ParameterCount kind count) =
    fault_unless_met (nat_le count 60 && (not (kind == kind_number kinds.Ob) || count == 0)) 4
field_fault (field.Number kind_before before kind number) =
    fault_unless_met (has_number kind number
    && (not (kind == kind_before) || nat_lt before number)) 4
field_fault (field.LocalBytes kind bytes) =
    fault_unless_met (nat_le bytes 1024
    && (not (kind == kind_number kinds.Ob) || nat_le 20 bytes)) 4
field_fault (field.InstanceBytes kind bytes) =
    fault_unless_met (if kind == kind_number kinds.Fb then nat_le bytes 16384 else bytes == 0) 4
field_fault (field.Section section) =
    fault_unless_met (is_in_range section_in section_in_out section) 4
field_fault (field.Width width) =
    fault_unless_met (is_in_range (width_number widths.Bit) (width_number widths.Dword) width) 4
field_fault (field.ParameterByte kind instance width byte) =
    fault_unless_met (holds_parameter kind instance width byte) 4
field_fault (field.ParameterBit kind bit) =
    fault_unless_met (nat_le bit 7 && (kind == kind_number kinds.Fb || bit == 0)) 4
field_fault (field.DataNumber before number) =
    fault_unless_met (is_in_range 1 2047 number && nat_lt before number) 4
field_fault (field.InstanceOf number) = fault_unless_met (nat_le number 2048) 4
field_fault (field.DataBytes before bytes) =
    fault_unless_met (nat_le bytes 16384 && nat_le (before + bytes) 2097152) 4
field_fault (field.NameLength bytes) = fault_unless_met (is_in_range 1 24 bytes) 4
field_fault (field.NameArea number) =
    fault_unless_met (is_in_range (area_code area.I) (area_code area.M) number) 4
field_fault (field.NameBit width bit) =
    fault_unless_met (nat_le bit 7 && (width == width_number widths.Bit || bit == 0)) 4
-- 9: as many statements as end marks; a line isn't 0, and none falls
field_fault (field.StatementCount end_marks count) = fault_unless_met (end_marks == count) 9
field_fault (field.Line before line) = fault_unless_met (not (line == 0) && nat_le before line) 9

-- whether a name stands before another one: by bytes, a name before those that it begins
abbrev pub is_earlier_name : List ℕ → List ℕ → Bool
is_earlier_name _ [] = false
is_earlier_name [] (y ∷ ys) = true
is_earlier_name (x ∷ xs) (y ∷ ys) = nat_lt x y || x == y && is_earlier_name xs ys

-- whether a name has no lower-case letter of ASCII, a (97) to z (122)
abbrev pub is_upper : List ℕ → Bool
is_upper [] = true
is_upper (x ∷ xs) = not (is_in_range 97 122 x) && is_upper xs

-- whether the last byte of a name is a blank (32)
abbrev pub ends_blank : List ℕ → Bool
ends_blank [] = false
ends_blank (x ∷ []) = x == 32
ends_blank (x ∷ xs) = ends_blank xs

-- the fault 4 of a name, unless it rises from the name before it, has no lower-case letter, and no
-- blank at its end
unfoldable pub name_fault : List ℕ → List ℕ → Option ℕ
name_fault before name =
    fault_unless_met (is_earlier_name before name && is_upper name && not (ends_blank name)) 4
