-- The address of a symbol: letters and a number, and where it is a bit's, a point and the number of
-- the bit behind it.
use Rattle.std.specs.Prelude.{ℕ, Bool, true, not, ◌==◌, List, [], ◌∷◌, take, drop, find, codes, bytes_eq, Option, None}
use Rattle.std.specs.Char.{is_ascii_digit}
use Rattle.std.specs.List.{list_any, prefix_len}
use Rattle.std.specs.Option.{option_and_then, option_map}
use Rattle.plc_base.specs.Decimal.{decimal_up_to}
use Rattle.plc_base.specs.declared.blocks.BlockKind.TheVariants.{Ob, Fc, Fb, Db, Sfc, Udt}
use Rattle.plc_base.specs.declared.places.Area.{Area}
use Rattle.plc_base.specs.declared.places.Area.TheVariants as area
use Rattle.plc_base.specs.declared.places.Width.{Width}
use Rattle.plc_base.specs.declared.places.Width.TheVariants.{Bit, Byte, Word, Dword}
use Rattle.stl_symbols.specs.declared.addresses.AddressLetters.{AddressLetters}
use Rattle.stl_symbols.specs.declared.addresses.AddressLetters.TheVariants as letters
use Rattle.stl_symbols.specs.declared.addresses.SymbolAddress.{SymbolAddress}
use Rattle.stl_symbols.specs.declared.addresses.SymbolAddress.TheVariants.{Names, NoSymbol}
use Rattle.stl_symbols.specs.declared.languages.Language.{Language}
use Rattle.stl_symbols.specs.declared.languages.Language.TheVariants.{English, German}
use Rattle.stl_symbols.specs.declared.targets.Target.TheVariants.{Variable, Timer, Counter, Block}

-- the letters of addresses in English and in German, with what they stand for. A variable table, a
-- system function block and a system data block give no symbol
unfoldable pub address_letters : List (List ℕ × List ℕ × AddressLetters)
address_letters =
    (codes "I", codes "E", letters.Variable area.I Bit)
    ∷ (codes "IB", codes "EB", letters.Variable area.I Byte)
    ∷ (codes "IW", codes "EW", letters.Variable area.I Word)
    ∷ (codes "ID", codes "ED", letters.Variable area.I Dword)
    ∷ (codes "Q", codes "A", letters.Variable area.Q Bit)
    ∷ (codes "QB", codes "AB", letters.Variable area.Q Byte)
    ∷ (codes "QW", codes "AW", letters.Variable area.Q Word)
    ∷ (codes "QD", codes "AD", letters.Variable area.Q Dword)
    ∷ (codes "M", codes "M", letters.Variable area.M Bit)
    ∷ (codes "MB", codes "MB", letters.Variable area.M Byte)
    ∷ (codes "MW", codes "MW", letters.Variable area.M Word)
    ∷ (codes "MD", codes "MD", letters.Variable area.M Dword)
    ∷ (codes "PIB", codes "PEB", letters.Variable area.P Byte)
    ∷ (codes "PIW", codes "PEW", letters.Variable area.P Word)
    ∷ (codes "PID", codes "PED", letters.Variable area.P Dword)
    ∷ (codes "PQB", codes "PAB", letters.Variable area.P Byte)
    ∷ (codes "PQW", codes "PAW", letters.Variable area.P Word)
    ∷ (codes "PQD", codes "PAD", letters.Variable area.P Dword)
    ∷ (codes "T", codes "T", letters.Timer)
    ∷ (codes "C", codes "Z", letters.Counter)
    ∷ (codes "OB", codes "OB", letters.Block Ob)
    ∷ (codes "FB", codes "FB", letters.Block Fb)
    ∷ (codes "FC", codes "FC", letters.Block Fc)
    ∷ (codes "SFC", codes "SFC", letters.Block Sfc)
    ∷ (codes "DB", codes "DB", letters.Block Db)
    ∷ (codes "UDT", codes "UDT", letters.Block Udt)
    ∷ (codes "VAT", codes "VAT", letters.NoSymbol)
    ∷ (codes "SFB", codes "SFB", letters.NoSymbol)
    ∷ (codes "SDB", codes "SDB", letters.NoSymbol)
    ∷ []

-- of the English and the German letters of an address those of a language
abbrev pub letters_in_language : Language → (english german : List ℕ) → List ℕ
letters_in_language English english german = english
letters_in_language German english german = german

-- what stands beside the first letters of a table that a language spells as this word
unfoldable pub letters_spelled_as : Language → List (List ℕ × List ℕ × AddressLetters) → List ℕ
    → Option AddressLetters
letters_spelled_as language table word =
    option_map (λ e. e.2) (find (λ e. bytes_eq word (letters_in_language language e.0 e.1)) table)

-- the number in an address, 0 to 65,535, where the text is one
abbrev pub number_of_address : List ℕ → Option ℕ
number_of_address text = decimal_up_to 65535 text

-- the address of a variable in an area that is no data block
abbrev pub variable_address : Area → Width → (byte bit : ℕ) → SymbolAddress
variable_address area width byte bit =
    Names (Variable (record { area = area; number = 0; byte = byte; bit = bit }) width)

-- the number of a bit, 0 to 7, behind a point
abbrev pub bit_behind : List ℕ → Option ℕ
bit_behind [] = None
bit_behind (point ∷ digits) = decimal_up_to 7 digits

-- the address of a bit, by a text with the number of its byte, a point, and its own number
unfoldable pub bit_address : Area → List ℕ → Option SymbolAddress
bit_address area text =
    let point = prefix_len (λ b. not (b == 46)) text in
    option_and_then
    (λ byte. option_map (λ bit. variable_address area Bit byte bit) (bit_behind (drop point text)))
    (number_of_address (take point text))

-- the address of letters and what stands behind them
abbrev pub numbered_address : AddressLetters → List ℕ → Option SymbolAddress
numbered_address (letters.Variable area Bit) text = bit_address area text
numbered_address (letters.Variable area width) text =
    option_map (λ n. variable_address area width n 0) (number_of_address text)
numbered_address letters.Timer text = option_map (λ n. Names (Timer n)) (number_of_address text)
numbered_address letters.Counter text = option_map (λ n. Names (Counter n)) (number_of_address text)
numbered_address (letters.Block kind) text =
    option_map (λ n. Names (Block (record { kind = kind; number = n }))) (number_of_address text)
numbered_address letters.NoSymbol text = option_map (λ n. NoSymbol) (number_of_address text)

-- the address that a text without blanks is in a language
unfoldable pub address_of : Language → List ℕ → Option SymbolAddress
address_of language text =
    let digits = prefix_len (λ b. not (is_ascii_digit b)) text in
    option_and_then (λ l. numbered_address l (drop digits text))
    (letters_spelled_as language address_letters (take digits text))

-- the names of the types that a variable of a width may have
unfoldable pub type_names_of_width : Width → List (List ℕ)
type_names_of_width Bit = codes "BOOL" ∷ []
type_names_of_width Byte = codes "BYTE" ∷ codes "CHAR" ∷ []
type_names_of_width Word = codes "WORD" ∷ codes "INT" ∷ codes "S5TIME" ∷ codes "DATE" ∷ []
type_names_of_width Dword =
    codes "DWORD" ∷ codes "DINT" ∷ codes "TIME" ∷ codes "REAL" ∷ codes "TIME_OF_DAY" ∷ []

-- whether a text names one of these types
abbrev pub names_type_among : List (List ℕ) → List ℕ → Bool
names_type_among types kind = list_any (λ t. bytes_eq kind t) types

-- whether an address may have the type of this name; that of a block, or of an address that gives
-- no symbol, is any text
unfoldable pub has_type : SymbolAddress → List ℕ → Bool
has_type (Names (Variable place width)) kind = names_type_among (type_names_of_width width) kind
has_type (Names (Timer number)) kind = names_type_among (codes "TIMER" ∷ []) kind
has_type (Names (Counter number)) kind = names_type_among (codes "COUNTER" ∷ []) kind
has_type (Names (Block id)) kind = true
has_type NoSymbol kind = true
