-- Operands.
use Rattle.std.specs.Prelude.{ℕ, ◌+◌, ◌*◌, Bool, true, false, ◌&&◌, ◌||◌, is_some, if◌then◌else◌, List, [], ◌∷◌, length, drop, Option, Some, None, ℤ}
use Rattle.std.specs.Option.{option_map, option_or, option_and_then}
use Rattle.plc_base.specs.declared.blocks.BlockKind.TheVariants as kinds
use Rattle.plc_base.specs.declared.places.Width.{Width}
use Rattle.plc_base.specs.declared.places.Width.TheVariants as width
use Rattle.stl_lexer.specs.declared.kinds.Token.{Token}
use Rattle.stl_lexer.specs.declared.kinds.TokenKind.{TokenKind}
use Rattle.stl_lexer.specs.declared.kinds.TokenKind.TheVariants as kind
use Rattle.stl_lexer.specs.Tokens.{text_of}
use Rattle.stl_ast.specs.declared.blocks.PathStep.{PathStep}
use Rattle.stl_ast.specs.declared.blocks.PathStep.TheVariants as step
use Rattle.stl_ast.specs.declared.names.BlockName.{BlockName}
use Rattle.stl_ast.specs.declared.names.BlockName.TheVariants as block
use Rattle.stl_ast.specs.declared.operands.Letters.{Letters}
use Rattle.stl_ast.specs.declared.operands.Letters.TheVariants as letters
use Rattle.stl_ast.specs.declared.operands.Numbered.{Numbered}
use Rattle.stl_ast.specs.declared.operands.Numbered.TheVariants as numbered
use Rattle.stl_ast.specs.declared.operands.Operand.{Operand}
use Rattle.stl_ast.specs.declared.operands.Operand.TheVariants as operand
use Rattle.stl_ast.specs.declared.operands.PathHead.{PathHead}
use Rattle.stl_ast.specs.declared.operands.PathHead.TheVariants as head
use Rattle.stl_ast.specs.Operands.{ar1_register, ar2_register}
use Rattle.stl_lexer.specs.declared.marks.Mark.TheVariants as mark
use Rattle.stl_parser.specs.declared.keywords.ClauseWord.TheVariants as key
use Rattle.stl_parser.specs.declared.tables.AddressKind.{AddressKind}
use Rattle.stl_parser.specs.declared.tables.AddressKind.TheVariants as address
use Rattle.stl_parser.specs.Terminals.{has_kind, is_mark, is_key}
use Rattle.stl_parser.specs.Tables.{look_up, addresses, flags, registers}
use Rattle.stl_parser.specs.Numbers.{number_of_token, int_at}
use Rattle.stl_parser.specs.Parts.{parts_from, complete_reading}
use Rattle.stl_parser.specs.Literals.{text_between_quotes, literal_of}
use Rattle.stl_parser.specs.Addresses.{is_address_word, address_at, bit_of}

-- the step with this index, where its `]` stands at the front, and what follows
unfoldable pub index_end : List ℕ → ℤ → List Token → Option (PathStep × List Token)
index_end source at [] = None
index_end source at (close ∷ rest) =
    if is_mark source close mark.CloseBracket then Some (step.Index at, rest) else None

-- the step that is a name, behind its `.`, and what follows
unfoldable pub name_step : List ℕ → List Token → Option (PathStep × List Token)
name_step source [] = None
name_step source (w ∷ rest) =
    if has_kind w kind.Word then Some (step.Named (text_of source w), rest) else None

-- a step of a path, `.` and a word or an index in brackets, and what follows
unfoldable pub step_at : List ℕ → List Token → Option (PathStep × List Token)
step_at source [] = None
step_at source (t ∷ rest) =
    if is_mark source t mark.Dot then name_step source rest
    else (if is_mark source t mark.OpenBracket
    then option_and_then (λ r. index_end source r.0 r.1) (int_at source rest) else None)

-- what stands behind the steps of a path, which ends with its clause or before `:=`
unfoldable pub path_end : List ℕ → List Token → Option (List Token)
path_end source [] = Some []
path_end source (t ∷ rest) = if is_mark source t mark.Assign then Some (t ∷ rest) else None

-- the steps of a path behind its first ones, and what stands behind its end
unfoldable pub steps_from : List ℕ → List PathStep → List Token
    → Option (List PathStep × List Token)
steps_from source first tokens =
    parts_from (path_end source) (step_at source) first (length tokens) tokens

-- a path that is all of the tokens, behind its head
unfoldable pub path_of : List ℕ → PathHead → List Token → Option Operand
path_of source h tokens =
    option_map (λ steps. operand.Named h steps) (complete_reading (steps_from source [] tokens))

-- the bit of an address of this width: `.` and its number for a bit, and nothing for a wider one
unfoldable pub place_bit : List ℕ → Width → List Token → Option ℕ
place_bit source width.Bit rest = bit_of source rest
place_bit source _ [] = Some 0
place_bit source _ (t ∷ rest) = None

-- the operand that is an address in an area, with its byte and what follows
unfoldable pub area_operand : List ℕ → Letters → Width → ℕ → List Token → Option Operand
area_operand source area w byte rest =
    option_map (λ bit. operand.Direct None area w byte bit) (place_bit source w rest)

-- width, byte and bit of an address of a data block, as `DBW 2`
unfoldable pub place_of_data_address : List ℕ → AddressKind → ℕ → List Token
    → Option (Width × ℕ × ℕ)
place_of_data_address source (address.Area letters.Db w) byte rest =
    option_map (λ bit. (w, byte, bit)) (place_bit source w rest)
place_of_data_address source _ byte rest = None

-- width, byte and bit of an address in a data block that is given, behind the block and the `.`, as
-- `DBW 2` in `DB10.DBW 2`
unfoldable pub block_place : List ℕ → List Token → Option (Width × ℕ × ℕ)
block_place source tokens =
    option_and_then (λ r. place_of_data_address source r.0 r.1 r.2) (address_at source tokens)

-- a component of a data block, behind the block and the `.`
unfoldable pub block_path : List ℕ → BlockName → List Token → Option Operand
block_path source name [] = None
block_path source name (w ∷ rest) =
    if has_kind w kind.Word
    then option_map (λ steps. operand.Named (head.InBlock name) steps)
    (complete_reading (steps_from source (step.Named (text_of source w) ∷ []) rest))
    else None

-- what stands in a data block, behind the block and the `.`: an address, else a component
unfoldable pub operand_in_block : List ℕ → BlockName → List Token → Option Operand
operand_in_block source name tokens =
    option_or
    (option_map (λ p. operand.Direct (Some name) letters.Db p.0 p.1 p.2)
    (block_place source tokens))
    (block_path source name tokens)

-- what stands in a data block, behind the block and with the `.` at the front
unfoldable pub operand_behind_block : List ℕ → BlockName → List Token → Option Operand
operand_behind_block source name [] = None
operand_behind_block source name (dot ∷ rest) =
    if is_mark source dot mark.Dot then operand_in_block source name rest else None

-- the data block with this number
abbrev pub data_block_name : ℕ → BlockName
data_block_name n = block.Number (record { kind = kinds.Db; number = n })

-- a data block by number: alone, for OPN, or with what stands in it
unfoldable pub data_block_operand : List ℕ → ℕ → List Token → Option Operand
data_block_operand source n [] = Some (operand.OpenBlock false (data_block_name n))
data_block_operand source n (t ∷ rest) = operand_behind_block source (data_block_name n) (t ∷ rest)

-- an operand that is letters and a number
unfoldable pub direct_address_operand : List ℕ → AddressKind → ℕ → List Token → Option Operand
direct_address_operand source (address.Area area w) n rest = area_operand source area w n rest
direct_address_operand source address.Timer n [] = Some (operand.Timer n)
direct_address_operand source address.Timer n (t ∷ rest) = None
direct_address_operand source address.Counter n [] = Some (operand.Counter n)
direct_address_operand source address.Counter n (t ∷ rest) = None
direct_address_operand source (address.Block false) n rest = data_block_operand source n rest
direct_address_operand source (address.Block true) n [] =
    Some (operand.OpenBlock true (data_block_name n))
direct_address_operand source (address.Block true) n (t ∷ rest) = None

-- the number of the address register that a word is, AR1 or AR2
unfoldable pub register_number : List ℕ → Token → Option ℕ
register_number source t =
    if is_key source t key.Ar1 then Some ar1_register
    else (if is_key source t key.Ar2 then Some ar2_register else None)

-- the offset `P#n.b` in bits, with n 0 to 65,535 and b 0 to 7
unfoldable pub offset_of : List ℕ → Token → Token → List Token → Option ℕ
offset_of source prefix n rest =
    if is_mark source prefix mark.Pointer
    then option_and_then (λ byte. option_map (λ bit. 8 * byte + bit) (bit_of source rest))
    (number_of_token source n)
    else None

-- `[AR1, P#n.b]` that is all of the tokens: the register, and the constant in bits
unfoldable pub register_pointer : List ℕ → List Token → Option (ℕ × ℕ)
register_pointer source (open_ ∷ r ∷ comma ∷ prefix ∷ n ∷ dot ∷ b ∷ close ∷ []) =
    if is_mark source open_ mark.OpenBracket && is_mark source comma mark.Comma
    && is_mark source close mark.CloseBracket
    then option_and_then
    (λ register. option_map (λ bits. (register, bits)) (offset_of source prefix n (dot ∷ b ∷ [])))
    (register_number source r)
    else None
register_pointer source _ = None

-- an operand by an address register; `area` is None where the register has the area
unfoldable pub operand_by_register : List ℕ → Option Letters → Width → List Token → Option Operand
operand_by_register source area w tokens =
    option_map (λ p. operand.ByRegister area w p.0 p.1) (register_pointer source tokens)

-- the areas whose words may hold a pointer or a number: M, L, DB and DI
unfoldable pub holds_pointer : Letters → Bool
holds_pointer letters.M = true
holds_pointer letters.L = true
holds_pointer letters.Db = true
holds_pointer letters.Di = true
holds_pointer _ = false

-- `]` behind an address in brackets, which may hold a pointer or a number: its area and its byte
unfoldable pub pointer_close : List ℕ → Letters → ℕ → List Token → Option (Letters × ℕ)
pointer_close source area byte (close ∷ []) =
    if holds_pointer area && is_mark source close mark.CloseBracket then Some (area, byte) else None
pointer_close source area byte _ = None

-- `]` behind an address in brackets that is a double word for a pointer, or a word for a number:
-- its area and its byte
unfoldable pub pointer_end : List ℕ → Bool → AddressKind → ℕ → List Token → Option (Letters × ℕ)
pointer_end source pointer (address.Area area width.Dword) byte rest =
    if pointer then pointer_close source area byte rest else None
pointer_end source pointer (address.Area area width.Word) byte rest =
    if pointer then None else pointer_close source area byte rest
pointer_end source pointer _ byte rest = None

-- `[MD n]` for a pointer, or `[MW n]` for a number, that is all of the tokens: the area and the
-- byte
unfoldable pub memory_pointer : List ℕ → Bool → List Token → Option (Letters × ℕ)
memory_pointer source pointer [] = None
memory_pointer source pointer (t ∷ rest) =
    if is_mark source t mark.OpenBracket
    then option_and_then (λ r. pointer_end source pointer r.0 r.1 r.2) (address_at source rest)
    else None

-- a timer, a counter or a data block whose number stands in memory
unfoldable pub operand_by_memory_number : List ℕ → Numbered → List Token → Option Operand
operand_by_memory_number source what tokens =
    option_map (λ p. operand.NumberBy what p.0 p.1) (memory_pointer source false tokens)

-- an area with a pointer, in memory or in a register
unfoldable pub operand_by_pointer : List ℕ → Letters → Width → List Token → Option Operand
operand_by_pointer source area w tokens =
    option_or
    (option_map (λ p. operand.ByMemory area w p.0 p.1) (memory_pointer source true tokens))
    (operand_by_register source (Some area) w tokens)

-- an operand that is letters and a pointer in brackets
unfoldable pub indirect_operand : List ℕ → AddressKind → List Token → Option Operand
indirect_operand source (address.Area area w) tokens = operand_by_pointer source area w tokens
indirect_operand source address.Timer tokens = operand_by_memory_number source numbered.Timer tokens
indirect_operand source address.Counter tokens =
    operand_by_memory_number source numbered.Counter tokens
indirect_operand source (address.Block false) tokens =
    operand_by_memory_number source numbered.Db tokens
indirect_operand source (address.Block true) tokens =
    operand_by_memory_number source numbered.Di tokens

-- a pointer constant with an area, behind `P#`
unfoldable pub area_pointer : List ℕ → AddressKind → ℕ → List Token → Option Operand
area_pointer source (address.Area area width.Bit) byte rest =
    option_map (λ bit. operand.Pointer (Some area) byte bit) (bit_of source rest)
area_pointer source _ byte rest = None

-- a pointer constant without an area, behind `P#`
unfoldable pub plain_pointer : List ℕ → List Token → Option Operand
plain_pointer source [] = None
plain_pointer source (n ∷ rest) =
    option_and_then (λ byte. option_map (λ bit. operand.Pointer None byte bit) (bit_of source rest))
    (number_of_token source n)

-- the pointer constant that stands behind `P#`
unfoldable pub pointer_constant_operand : List ℕ → List Token → Option Operand
pointer_constant_operand source tokens =
    option_or (plain_pointer source tokens)
    (option_and_then (λ r. area_pointer source r.0 r.1 r.2) (address_at source tokens))

-- the operand that is a condition of the status word
unfoldable pub condition_word_operand : List ℕ → Token → Option Operand
condition_word_operand source t = option_map operand.OfStatus (look_up flags (text_of source t))

-- a name of the table of registers as an operand; AR1 is there, but no instruction has it as one
abbrev pub register_name_operand_if : List ℕ → Option Bool → Option Operand
register_name_operand_if name (Some true) = Some (operand.Other name)
register_name_operand_if name (Some false) = None
register_name_operand_if name None = None

-- a register that an instruction has as an operand
unfoldable pub register_name_operand : List ℕ → Token → Option Operand
register_name_operand source t =
    register_name_operand_if (text_of source t) (look_up registers (text_of source t))

-- a word that stands alone as an operand: a condition of the status word or a register
unfoldable pub lone_word_operand : List ℕ → Token → List Token → Option Operand
lone_word_operand source t [] = option_or (condition_word_operand source t) (register_name_operand source t)
lone_word_operand source t (u ∷ rest) = None

-- a word that means something as an operand, so that no path begins with it
unfoldable pub is_operand_word : List ℕ → Token → Bool
is_operand_word source t =
    is_address_word (text_of source t) || is_some (look_up flags (text_of source t))
    || is_some (look_up registers (text_of source t))
    || is_key source t key.True || is_key source t key.False

-- a path that begins with a word
unfoldable pub plain_path : List ℕ → Token → List Token → Option Operand
plain_path source t rest =
    if is_operand_word source t then None else path_of source (head.Local (text_of source t)) rest

-- an operand by a register that has the area, with B, W or D before the pointer
unfoldable pub operand_by_sized_register : List ℕ → Token → List Token → Option Operand
operand_by_sized_register source t rest =
    if is_key source t key.B then operand_by_register source None width.Byte rest
    else (if is_key source t key.W then operand_by_register source None width.Word rest
    else (if is_key source t key.D then operand_by_register source None width.Dword rest else None))

-- an operand that begins with the letters of an address and their number
unfoldable pub operand_with_number : List ℕ → List Token → Option Operand
operand_with_number source tokens =
    option_and_then (λ r. direct_address_operand source r.0 r.1 r.2) (address_at source tokens)

-- an operand that begins with the letters of an address and a pointer in brackets
unfoldable pub operand_with_pointer : List ℕ → Token → List Token → Option Operand
operand_with_pointer source t rest =
    option_and_then (λ a. indirect_operand source a rest) (look_up addresses (text_of source t))

-- an operand that begins with a word; `tokens` are the word and the rest
unfoldable pub word_operand : List ℕ → Token → List Token → List Token → Option Operand
word_operand source t rest tokens =
    option_or (lone_word_operand source t rest)
    (option_or (operand_with_number source tokens)
    (option_or (operand_with_pointer source t rest)
    (option_or (operand_by_sized_register source t rest) (plain_path source t rest))))

-- an operand that begins with a quoted name: a symbol, or what stands in a data block
unfoldable pub quoted_operand : List ℕ → Token → List Token → Option Operand
quoted_operand source t [] =
    Some (operand.Named (head.Symbol (text_between_quotes (text_of source t))) [])
quoted_operand source t (u ∷ rest) =
    operand_behind_block source (block.Quoted (text_between_quotes (text_of source t))) (u ∷ rest)

-- an operand that begins with a mark: a pointer constant, or a bit by a register that has the area
unfoldable pub mark_operand : List ℕ → Token → List Token → List Token → Option Operand
mark_operand source t rest tokens =
    if is_mark source t mark.Pointer then pointer_constant_operand source rest
    else operand_by_register source None width.Bit tokens

-- a sign word that stands alone as an operand
unfoldable pub sign_operand : List ℕ → Token → List Token → Option Operand
sign_operand source t [] = condition_word_operand source t
sign_operand source t (u ∷ rest) = None

-- a path that begins with a local name
unfoldable pub local_path : List ℕ → Token → List Token → Option Operand
local_path source t rest = path_of source (head.Local (drop 1 (text_of source t))) rest

-- an operand that is no constant, by the kind of its first token
unfoldable pub operand_by_kind : List ℕ → Token → List Token → List Token → TokenKind
    → Option Operand
operand_by_kind source t rest tokens kind.Word = word_operand source t rest tokens
operand_by_kind source t rest tokens kind.Quoted = quoted_operand source t rest
operand_by_kind source t rest tokens kind.Local = local_path source t rest
operand_by_kind source t rest tokens kind.Mark = mark_operand source t rest tokens
operand_by_kind source t rest tokens kind.SignWord = sign_operand source t rest
operand_by_kind source t rest tokens _ = None

-- the operand that these tokens are
unfoldable pub operand_of : List ℕ → List Token → Option Operand
operand_of source [] = Some operand.Nothing
operand_of source (t ∷ rest) =
    option_or (option_map operand.Constant (literal_of source (t ∷ rest)))
    (operand_by_kind source t rest (t ∷ rest) t.kind)
