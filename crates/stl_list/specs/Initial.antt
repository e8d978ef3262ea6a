-- The first bytes of data blocks as initial values.
use Rattle.std.specs.Prelude.{ℕ, suc, ◌+◌, ◌*◌, ◌/◌, ◌%◌, ◌^◌, nat_lt, ◌==◌, ◌&&◌, List, [], ◌∷◌, ◌++◌, pos, Some, None, if◌then◌else◌, slice_get}
use Rattle.std.specs.List.{list_all, flat_map, range_with_len}
use Rattle.std.specs.Option.{unwrap_or}
use Rattle.plc_base.specs.declared.places.Width.{Width}
use Rattle.plc_base.specs.declared.places.Width.TheVariants as width
use Rattle.flat_code.specs.declared.programs.Param.{Param}
use Rattle.stl_ast.specs.declared.blocks.PathStep.TheVariants as step
use Rattle.stl_ast.specs.declared.blocks.Setting.{Setting}
use Rattle.stl_ast.specs.declared.declarations.Init.{Init}
use Rattle.stl_ast.specs.declared.literals.Literal.TheVariants as literal
use Rattle.stl_types.specs.declared.parameters.Formal.{Formal}
use Rattle.stl_list.specs.Constants.{typed_constant}
use Rattle.stl_list.specs.Sections.{static_len, static_name, static_start}
use Rattle.stl_list.specs.Signatures.{Signature}

-- ---- a data block of its own

-- the initial value of so many equal bytes: `value`, or `count (value)` of several
abbrev pub initial_run : (value count : ℕ) → Init
initial_run value count = record {
  count = if count == 1 then None else Some count;
  value = literal.Byte value;
}

-- the initial values of `count` bytes that are `value` and of the bytes behind them: one for each
-- longest run of equal bytes, of at most 65,535
abbrev pub inits_from : (value count : ℕ) → List ℕ → List Init
inits_from value count [] = initial_run value count ∷ []
inits_from value count (b ∷ bs) =
    if b == value && nat_lt count 65535 then inits_from value (suc count) bs
    else initial_run value count ∷ inits_from b 1 bs

-- the initial values of bytes: one for each longest run of equal ones
abbrev pub inits_of : List ℕ → List Init
inits_of [] = []
inits_of (b ∷ bs) = inits_from b 1 bs

-- the initial values of the bytes of a data block; bytes that are all 0 need none
unfoldable pub values_of : List ℕ → List Init
values_of bytes = if list_all (λ b. b == 0) bytes then [] else inits_of bytes

-- ---- an instance

-- the byte at a place; 0 past the end
abbrev pub byte_at : List ℕ → ℕ → ℕ
byte_at bytes at = unwrap_or (slice_get bytes at) 0

-- the word at a place, the higher byte first
abbrev pub word_in_bytes : List ℕ → ℕ → ℕ
word_in_bytes bytes at = 256 * byte_at bytes at + byte_at bytes (at + 1)

-- the bits of a parameter in an instance
abbrev pub value_in : List ℕ → Width → (byte bit : ℕ) → ℕ
value_in bytes width.Bit byte bit = byte_at bytes byte / 2 ^ (bit % 8) % 2
value_in bytes width.Byte byte bit = byte_at bytes byte
value_in bytes width.Word byte bit = word_in_bytes bytes byte
value_in bytes width.Dword byte bit =
    65536 * word_in_bytes bytes byte + word_in_bytes bytes (byte + 2)

-- the setting of a parameter of an instance, `name := value;`
abbrev pub parameter_setting : (line : ℕ) → Formal → (bits : ℕ) → Setting
parameter_setting line f bits = record {
  line = line;
  path = step.Named f.name ∷ [];
  value = typed_constant f.kind bits;
}

-- the setting of a parameter of an instance with these bits; one that is 0 needs none
abbrev pub parameter_here : (line : ℕ) → Formal → (bits : ℕ) → List Setting
parameter_here line f bits = if bits == 0 then [] else parameter_setting line f bits ∷ []

-- the settings of the parameters of an instance with these bytes, one behind the other; the
-- parameters are given by name and by place
abbrev pub parameter_settings : (line : ℕ) → (bytes : List ℕ) → List Formal → List Param
    → List Setting
parameter_settings line bytes [] ps = []
parameter_settings line bytes (f ∷ fs) [] = []
parameter_settings line bytes (f ∷ fs) (p ∷ ps) =
    parameter_here line f (value_in bytes p.width p.byte p.bit)
    ++ parameter_settings line bytes fs ps

-- the setting of a byte of VAR of an instance, `s[index] := value;`
abbrev pub byte_setting : (line index value : ℕ) → Setting
byte_setting line index value = record {
  line = line;
  path = step.Named static_name ∷ step.Index (pos index) ∷ [];
  value = literal.Byte value;
}

-- the setting of a byte of VAR of an instance; one that is 0 needs none
abbrev pub byte_here : (line index value : ℕ) → List Setting
byte_here line index value = if value == 0 then [] else byte_setting line index value ∷ []

-- the settings of the bytes of VAR of an instance, of which the first stands at the place `start`
abbrev pub byte_settings : (line : ℕ) → (bytes : List ℕ) → (start count : ℕ) → List Setting
byte_settings line bytes start count =
    flat_map (λ i. byte_here line i (byte_at bytes (start + i))) (range_with_len 0 count)

-- the settings of an instance of a function block: each component that isn't 0, in order
unfoldable pub settings_of : (line : ℕ) → (bytes : List ℕ) → Signature → List Setting
settings_of line bytes s =
    parameter_settings line bytes s.formals s.params
    ++ byte_settings line bytes (static_start s.params) (static_len s.instance_len s.params)
