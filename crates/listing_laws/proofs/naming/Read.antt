-- No operand and no statement that is read from tokens names a bit of the peripherals.
use Rattle.std.proofs.Common.{◌≡◌, ℕ, Bool, true, false, List, [], ◌∷◌, ◌++◌, length, Option, Some, None, refl}
use Rattle.std.specs.Prelude.{◌&&◌, take, drop}
use Rattle.std.specs.List.{AllByRecursion, list_all}
use Rattle.std.specs.Option.{option_map, IfSome}
use Rattle.plc_base.specs.Decimal.{decimal_up_to}
use Rattle.plc_base.specs.declared.places.Width.{Width}
use Rattle.plc_base.specs.declared.places.Width.TheVariants as width
use Rattle.stl_ast.specs.declared.mnemonics.Mnemonic.{Mnemonic}
use Rattle.stl_ast.specs.declared.mnemonics.Mnemonic.TheVariants as mnemonic
use Rattle.stl_ast.specs.declared.names.BlockName.{BlockName}
use Rattle.stl_ast.specs.declared.names.BlockName.TheVariants as block
use Rattle.stl_ast.specs.declared.operands.Letters.{Letters}
use Rattle.stl_ast.specs.declared.operands.Numbered.{Numbered}
use Rattle.stl_ast.specs.declared.operands.Numbered.TheVariants as numbered
use Rattle.stl_ast.specs.declared.operands.Operand.{Operand}
use Rattle.stl_ast.specs.declared.operands.Operand.TheVariants as operand
use Rattle.stl_ast.specs.declared.operands.PathHead.{PathHead}
use Rattle.stl_ast.specs.declared.operands.PathHead.TheVariants as head
use Rattle.stl_ast.specs.declared.statements.Actual.{Actual}
use Rattle.stl_ast.specs.declared.statements.Statement.{Statement}
use Rattle.stl_lexer.specs.Limits.{greatest_number}
use Rattle.stl_lexer.specs.Tokens.{text_of}
use Rattle.stl_lexer.specs.declared.kinds.Token.{Token}
use Rattle.stl_lexer.specs.declared.kinds.TokenKind.{TokenKind}
use Rattle.stl_lexer.specs.declared.kinds.TokenKind.TheVariants as kind
use Rattle.stl_lexer.specs.declared.marks.Mark.TheVariants as mark
use Rattle.stl_parser.specs.Addresses.{address_at, bit_of, block_at, glued_letters_and_number, letter_count, letters_and_number_at, separate_letters_and_number}
use Rattle.stl_parser.specs.Literals.{literal_of, text_between_quotes}
use Rattle.stl_parser.specs.Numbers.{number_of_token}
use Rattle.stl_parser.specs.Operands as spec
use Rattle.stl_parser.specs.Parts.{parts_from, complete_reading}
use Rattle.stl_parser.specs.Statements as stated
use Rattle.stl_parser.specs.Tables.{addresses, flags, look_up, mnemonics, opening_mnemonics, registers}
use Rattle.stl_parser.specs.Terminals.{has_kind, is_key, is_mark}
use Rattle.stl_parser.specs.declared.keywords.ClauseWord.TheVariants as key
use Rattle.stl_parser.specs.declared.statements.BareStatement.{BareStatement}
use Rattle.stl_parser.specs.declared.tables.AddressKind.{AddressKind}
use Rattle.stl_parser.specs.declared.tables.AddressKind.TheVariants as address
use Rattle.stl_parser.specs.declared.tables.OperandSyntax.{OperandSyntax}
use Rattle.stl_parser.specs.declared.tables.OperandSyntax.TheVariants as operand_syntax
use Rattle.stl_parser.proofs.OptionLemmas.{all_push, both, chain_holds, either, entry_passes, map_holds, none_holds, parts_hold, then_holds, weaker_holds, whole_holds}
use Rattle.stl_types.specs.Addresses.{area_for_letters}
use Rattle.listing_laws.proofs.naming.Places.{mapped_holds, no_bit, no_bit_is}
use Rattle.listing_laws.specs.Bodies.{IsNoBit}

-- an address of an operand, whatever data block stands before it, and that of a pointer, which is one of a bit
abbrev pub OperandIsNoBit : Operand → Type 0
OperandIsNoBit (operand.Direct name a w byte bit) = IsNoBit (area_for_letters a) w
OperandIsNoBit (operand.Pointer (Some a) byte bit) = IsNoBit (area_for_letters a) width.Bit
OperandIsNoBit _ = Unit {0}

abbrev pub ActualIsNoBit : Actual → Type 0
ActualIsNoBit a = OperandIsNoBit a.value

-- those of a statement
abbrev pub StatementIsNoBit : Statement → Type 0
StatementIsNoBit s = OperandIsNoBit s.operand × AllByRecursion ActualIsNoBit s.actuals

-- ---- addresses

abbrev letters_no_bit : AddressKind → Bool
letters_no_bit (address.Area a w) = no_bit (area_for_letters a) w
letters_no_bit _ = true

addresses_pass : list_all (λ e. letters_no_bit e.1) addresses ≡ true
unfolding addresses
addresses_pass = refl

abbrev FirstIsNoBit : AddressKind × ℕ × List Token → Type 0
FirstIsNoBit r = letters_no_bit r.0 ≡ true

glued_plain : (text : List ℕ) (rest : List Token) → IfSome (glued_letters_and_number addresses text rest) FirstIsNoBit
unfolding glued_letters_and_number
glued_plain text rest =
    chain_holds (look_up addresses (take (letter_count text) text)) _ (λ a. letters_no_bit a ≡ true) FirstIsNoBit
    (entry_passes addresses (take (letter_count text) text) letters_no_bit addresses_pass)
    (λ a h. mapped_holds (decimal_up_to (greatest_number false) (drop (letter_count text) text)) (λ n. (a, n, rest)) FirstIsNoBit (λ n. h))

separate_plain : (source text : List ℕ) (tokens : List Token) → IfSome (separate_letters_and_number addresses source text tokens) FirstIsNoBit
unfolding separate_letters_and_number
separate_plain source text [] = tt
separate_plain source text (n ∷ rest) =
    chain_holds (look_up addresses text) _ (λ a. letters_no_bit a ≡ true) FirstIsNoBit (entry_passes addresses text letters_no_bit addresses_pass)
    (λ a h. mapped_holds (number_of_token source n) (λ number. (a, number, rest)) FirstIsNoBit (λ number. h))

address_plain : (source : List ℕ) (tokens : List Token) → IfSome (address_at source tokens) FirstIsNoBit
unfolding address_at letters_and_number_at
address_plain source [] = tt
address_plain source (w ∷ rest) =
    then_holds (has_kind w kind.Word) _ FirstIsNoBit
    (λ test. either (glued_letters_and_number addresses (text_of source w) rest) _ FirstIsNoBit (glued_plain (text_of source w) rest) (separate_plain source (text_of source w) rest))

-- ---- operands

path_plain : (source : List ℕ) (h : PathHead) (tokens : List Token) → IfSome (spec.path_of source h tokens) OperandIsNoBit
unfolding spec.path_of
path_plain source h tokens = mapped_holds (complete_reading (spec.steps_from source [] tokens)) _ OperandIsNoBit (λ steps. tt)

area_plain : (source : List ℕ) (a : Letters) (w : Width) (byte : ℕ) (rest : List Token) → IsNoBit (area_for_letters a) w → IfSome (spec.area_operand source a w byte rest) OperandIsNoBit
unfolding spec.area_operand
area_plain source a w byte rest h = mapped_holds (spec.place_bit source w rest) _ OperandIsNoBit (λ bit. h)

block_path_plain : (source : List ℕ) (name : BlockName) (tokens : List Token) → IfSome (spec.block_path source name tokens) OperandIsNoBit
unfolding spec.block_path
block_path_plain source name [] = tt
block_path_plain source name (w ∷ rest) = then_holds (has_kind w kind.Word) _ OperandIsNoBit (λ test. mapped_holds (complete_reading (spec.steps_from source _ rest)) _ OperandIsNoBit (λ steps. tt))

in_block_plain : (source : List ℕ) (name : BlockName) (tokens : List Token) → IfSome (spec.operand_in_block source name tokens) OperandIsNoBit
unfolding spec.operand_in_block
in_block_plain source name tokens =
    either (option_map _ (spec.block_place source tokens)) _ OperandIsNoBit (mapped_holds (spec.block_place source tokens) _ OperandIsNoBit (λ p. tt)) (block_path_plain source name tokens)

behind_block_plain : (source : List ℕ) (name : BlockName) (tokens : List Token) → IfSome (spec.operand_behind_block source name tokens) OperandIsNoBit
unfolding spec.operand_behind_block
behind_block_plain source name [] = tt
behind_block_plain source name (dot ∷ rest) = then_holds (is_mark source dot mark.Dot) _ OperandIsNoBit (λ test. in_block_plain source name rest)

data_block_plain : (source : List ℕ) (n : ℕ) (tokens : List Token) → IfSome (spec.data_block_operand source n tokens) OperandIsNoBit
unfolding spec.data_block_operand
data_block_plain source n [] = tt
data_block_plain source n (t ∷ rest) = behind_block_plain source (spec.data_block_name n) (t ∷ rest)

direct_plain : (source : List ℕ) (a : AddressKind) (n : ℕ) (tokens : List Token) → letters_no_bit a ≡ true → IfSome (spec.direct_address_operand source a n tokens) OperandIsNoBit
unfolding spec.direct_address_operand
direct_plain source (address.Area a w) n rest h = area_plain source a w n rest (no_bit_is (area_for_letters a) w h)
direct_plain source address.Timer n [] h = tt
direct_plain source address.Timer n (t ∷ rest) h = tt
direct_plain source address.Counter n [] h = tt
direct_plain source address.Counter n (t ∷ rest) h = tt
direct_plain source (address.Block false) n rest h = data_block_plain source n rest
direct_plain source (address.Block true) n [] h = tt
direct_plain source (address.Block true) n (t ∷ rest) h = tt

by_register_plain : (source : List ℕ) (a : Option Letters) (w : Width) (tokens : List Token) → IfSome (spec.operand_by_register source a w tokens) OperandIsNoBit
unfolding spec.operand_by_register
by_register_plain source a w tokens = mapped_holds (spec.register_pointer source tokens) _ OperandIsNoBit (λ p. tt)

number_by_plain : (source : List ℕ) (what : Numbered) (tokens : List Token) → IfSome (spec.operand_by_memory_number source what tokens) OperandIsNoBit
unfolding spec.operand_by_memory_number
number_by_plain source what tokens = mapped_holds (spec.memory_pointer source false tokens) _ OperandIsNoBit (λ p. tt)

area_by_plain : (source : List ℕ) (a : Letters) (w : Width) (tokens : List Token) → IfSome (spec.operand_by_pointer source a w tokens) OperandIsNoBit
unfolding spec.operand_by_pointer
area_by_plain source a w tokens =
    either (option_map _ (spec.memory_pointer source true tokens)) _ OperandIsNoBit (mapped_holds (spec.memory_pointer source true tokens) _ OperandIsNoBit (λ p. tt))
    (by_register_plain source (Some a) w tokens)

indirect_plain : (source : List ℕ) (a : AddressKind) (tokens : List Token) → IfSome (spec.indirect_operand source a tokens) OperandIsNoBit
unfolding spec.indirect_operand
indirect_plain source (address.Area a w) tokens = area_by_plain source a w tokens
indirect_plain source address.Timer tokens = number_by_plain source numbered.Timer tokens
indirect_plain source address.Counter tokens = number_by_plain source numbered.Counter tokens
indirect_plain source (address.Block false) tokens = number_by_plain source numbered.Db tokens
indirect_plain source (address.Block true) tokens = number_by_plain source numbered.Di tokens

area_pointer_plain : (source : List ℕ) (a : AddressKind) (byte : ℕ) (rest : List Token) → letters_no_bit a ≡ true → IfSome (spec.area_pointer source a byte rest) OperandIsNoBit
unfolding spec.area_pointer
area_pointer_plain source (address.Area a width.Bit) byte rest h = mapped_holds (bit_of source rest) _ OperandIsNoBit (λ bit. no_bit_is (area_for_letters a) width.Bit h)
area_pointer_plain source _ byte rest h = tt

plain_pointer_plain : (source : List ℕ) (tokens : List Token) → IfSome (spec.plain_pointer source tokens) OperandIsNoBit
unfolding spec.plain_pointer
plain_pointer_plain source [] = tt
plain_pointer_plain source (n ∷ rest) =
    chain_holds (number_of_token source n) _ (λ byte. Unit {0}) OperandIsNoBit (none_holds (number_of_token source n)) (λ byte h. mapped_holds (bit_of source rest) _ OperandIsNoBit (λ bit. tt))

pointer_plain : (source : List ℕ) (tokens : List Token) → IfSome (spec.pointer_constant_operand source tokens) OperandIsNoBit
unfolding spec.pointer_constant_operand
pointer_plain source tokens =
    either (spec.plain_pointer source tokens) _ OperandIsNoBit (plain_pointer_plain source tokens)
    (chain_holds (address_at source tokens) _ FirstIsNoBit OperandIsNoBit (address_plain source tokens) (λ r h. area_pointer_plain source r.0 r.1 r.2 h))

condition_plain : (source : List ℕ) (t : Token) → IfSome (spec.condition_word_operand source t) OperandIsNoBit
unfolding spec.condition_word_operand
condition_plain source t = mapped_holds (look_up flags (text_of source t)) _ OperandIsNoBit (λ f. tt)

other_if_plain : (name : List ℕ) (o : Option Bool) → IfSome (spec.register_name_operand_if name o) OperandIsNoBit
other_if_plain name None = tt
other_if_plain name (Some true) = tt
other_if_plain name (Some false) = tt

alone_plain : (source : List ℕ) (t : Token) (rest : List Token) → IfSome (spec.lone_word_operand source t rest) OperandIsNoBit
unfolding spec.lone_word_operand spec.register_name_operand
alone_plain source t [] =
    either (spec.condition_word_operand source t) _ OperandIsNoBit (condition_plain source t) (other_if_plain (text_of source t) (look_up registers (text_of source t)))
alone_plain source t (u ∷ rest) = tt

plain_path_plain : (source : List ℕ) (t : Token) (rest : List Token) → IfSome (spec.plain_path source t rest) OperandIsNoBit
unfolding spec.plain_path
plain_path_plain source t rest = both (spec.is_operand_word source t) _ _ OperandIsNoBit tt (path_plain source (head.Local (text_of source t)) rest)

sized_plain : (source : List ℕ) (t : Token) (rest : List Token) → IfSome (spec.operand_by_sized_register source t rest) OperandIsNoBit
unfolding spec.operand_by_sized_register
sized_plain source t rest =
    both (is_key source t key.B) _ _ OperandIsNoBit (by_register_plain source None width.Byte rest)
    (both (is_key source t key.W) _ _ OperandIsNoBit (by_register_plain source None width.Word rest)
    (both (is_key source t key.D) _ _ OperandIsNoBit (by_register_plain source None width.Dword rest) tt))

with_number_plain : (source : List ℕ) (tokens : List Token) → IfSome (spec.operand_with_number source tokens) OperandIsNoBit
unfolding spec.operand_with_number
with_number_plain source tokens = chain_holds (address_at source tokens) _ FirstIsNoBit OperandIsNoBit (address_plain source tokens) (λ r h. direct_plain source r.0 r.1 r.2 h)

with_pointer_plain : (source : List ℕ) (t : Token) (rest : List Token) → IfSome (spec.operand_with_pointer source t rest) OperandIsNoBit
unfolding spec.operand_with_pointer
with_pointer_plain source t rest =
    chain_holds (look_up addresses (text_of source t)) _ (λ a. Unit {0}) OperandIsNoBit (none_holds (look_up addresses (text_of source t))) (λ a h. indirect_plain source a rest)

word_operand_plain : (source : List ℕ) (t : Token) (rest tokens : List Token) → IfSome (spec.word_operand source t rest tokens) OperandIsNoBit
unfolding spec.word_operand
word_operand_plain source t rest tokens =
    either (spec.lone_word_operand source t rest) _ OperandIsNoBit (alone_plain source t rest)
    (either (spec.operand_with_number source tokens) _ OperandIsNoBit (with_number_plain source tokens)
    (either (spec.operand_with_pointer source t rest) _ OperandIsNoBit (with_pointer_plain source t rest)
    (either (spec.operand_by_sized_register source t rest) _ OperandIsNoBit (sized_plain source t rest) (plain_path_plain source t rest))))

quoted_plain : (source : List ℕ) (t : Token) (rest : List Token) → IfSome (spec.quoted_operand source t rest) OperandIsNoBit
unfolding spec.quoted_operand
quoted_plain source t [] = tt
quoted_plain source t (u ∷ rest) = behind_block_plain source (block.Quoted (text_between_quotes (text_of source t))) (u ∷ rest)

mark_plain : (source : List ℕ) (t : Token) (rest tokens : List Token) → IfSome (spec.mark_operand source t rest tokens) OperandIsNoBit
unfolding spec.mark_operand
mark_plain source t rest tokens = both (is_mark source t mark.Pointer) _ _ OperandIsNoBit (pointer_plain source rest) (by_register_plain source None width.Bit tokens)

sign_plain : (source : List ℕ) (t : Token) (rest : List Token) → IfSome (spec.sign_operand source t rest) OperandIsNoBit
unfolding spec.sign_operand
sign_plain source t [] = condition_plain source t
sign_plain source t (u ∷ rest) = tt

local_plain : (source : List ℕ) (t : Token) (rest : List Token) → IfSome (spec.local_path source t rest) OperandIsNoBit
unfolding spec.local_path
local_plain source t rest = path_plain source (head.Local (drop 1 (text_of source t))) rest

kind_plain : (source : List ℕ) (t : Token) (rest tokens : List Token) (k : TokenKind) → IfSome (spec.operand_by_kind source t rest tokens k) OperandIsNoBit
unfolding spec.operand_by_kind
kind_plain source t rest tokens kind.Word = word_operand_plain source t rest tokens
kind_plain source t rest tokens kind.Quoted = quoted_plain source t rest
kind_plain source t rest tokens kind.Local = local_plain source t rest
kind_plain source t rest tokens kind.Mark = mark_plain source t rest tokens
kind_plain source t rest tokens kind.SignWord = sign_plain source t rest
kind_plain source t rest tokens _ = tt

operand_plain : (source : List ℕ) (tokens : List Token) → IfSome (spec.operand_of source tokens) OperandIsNoBit
unfolding spec.operand_of
operand_plain source [] = tt
operand_plain source (t ∷ rest) =
    either (option_map operand.Constant (literal_of source (t ∷ rest))) _ OperandIsNoBit (mapped_holds (literal_of source (t ∷ rest)) operand.Constant OperandIsNoBit (λ l. tt))
    (kind_plain source t rest (t ∷ rest) t.kind)

-- ---- statements

abbrev BareIsNoBit : BareStatement → Type 0
BareIsNoBit i = OperandIsNoBit i.operand × AllByRecursion ActualIsNoBit i.actuals

abbrev AreNoBits : List Actual → Type 0
AreNoBits xs = AllByRecursion ActualIsNoBit xs

abbrev FirstActual : Actual × List Token → Type 0
FirstActual r = ActualIsNoBit r.0

value_plain : (source : List ℕ) (tokens : List Token) → IfSome (stated.value_of source tokens) OperandIsNoBit
unfolding stated.value_of
value_plain source [] = tt
value_plain source (t ∷ rest) = operand_plain source (t ∷ rest)

actual_plain : (source : List ℕ) (tokens : List Token) → IfSome (stated.actual_at source tokens) FirstActual
unfolding stated.actual_at
actual_plain source (w ∷ assign ∷ rest) =
    then_holds (has_kind w kind.Word && is_mark source assign mark.Assign) _ FirstActual
    (λ test. map_holds (stated.value_of source (take (stated.value_length source rest) rest)) _ OperandIsNoBit FirstActual
    (value_plain source (take (stated.value_length source rest) rest)) (λ o h. h))
actual_plain source _ = tt

next_plain : (source : List ℕ) (tokens : List Token) → IfSome (stated.next_actual source tokens) FirstActual
unfolding stated.next_actual
next_plain source [] = tt
next_plain source (t ∷ rest) = then_holds (is_mark source t mark.Comma) _ FirstActual (λ test. actual_plain source rest)

further_plain : (source : List ℕ) (first : Actual) (left : ℕ) (tokens : List Token) → ActualIsNoBit first
    → IfSome (parts_from (stated.actuals_end source) (stated.next_actual source) (first ∷ []) left tokens) (λ r. AreNoBits r.0)
further_plain source first left tokens h =
    parts_hold (stated.actuals_end source) (stated.next_actual source) (first ∷ []) left tokens (λ xs ts. AreNoBits xs) AreNoBits (h, tt)
    (λ xs ts k. weaker_holds (stated.next_actual source ts) FirstActual (λ r. AreNoBits (xs ++ r.0 ∷ [])) (next_plain source ts) (λ r one. all_push ActualIsNoBit xs r.0 k one))
    (λ xs ts k. k)

actuals_plain : (source : List ℕ) (tokens : List Token) → IfSome (stated.actuals_of source tokens) AreNoBits
unfolding stated.actuals_of stated.actuals_behind
actuals_plain source [] = tt
actuals_plain source (t ∷ rest) =
    then_holds (is_mark source t mark.OpenParen) _ AreNoBits
    (λ test. chain_holds (stated.actual_at source rest) _ FirstActual AreNoBits (actual_plain source rest)
    (λ r h. whole_holds (parts_from (stated.actuals_end source) (stated.next_actual source) (r.0 ∷ []) (length r.1) r.1) AreNoBits (further_plain source r.0 (length r.1) r.1 h)))

call_plain : (source : List ℕ) (code : Mnemonic) (tokens : List Token) → IfSome (stated.call_of source code tokens) BareIsNoBit
unfolding stated.call_of
call_plain source code tokens =
    chain_holds (block_at source tokens) _ (λ b. Unit {0}) BareIsNoBit (none_holds (block_at source tokens))
    (λ b h. chain_holds (stated.instance_at source b.0 b.1) _ (λ i. Unit {0}) BareIsNoBit (none_holds (stated.instance_at source b.0 b.1))
    (λ i k. map_holds (stated.actuals_of source i.1) _ AreNoBits BareIsNoBit (actuals_plain source i.1) (λ xs l. (tt, l))))

block_call_plain : (source : List ℕ) (code : Mnemonic) (tokens : List Token) → IfSome (stated.block_call_of source code tokens) BareIsNoBit
unfolding stated.block_call_of
block_call_plain source code tokens = mapped_holds (complete_reading (block_at source tokens)) _ BareIsNoBit (λ name. (tt, tt))

with_operand_plain : (source : List ℕ) (code : Mnemonic) (tokens : List Token) → IfSome (stated.statement_with_operand source code tokens) BareIsNoBit
unfolding stated.statement_with_operand
with_operand_plain source code tokens = map_holds (spec.operand_of source tokens) (stated.statement_without_actuals code) OperandIsNoBit BareIsNoBit (operand_plain source tokens) (λ o h. (h, tt))

jump_plain : (source : List ℕ) (code : Mnemonic) (tokens : List Token) → IfSome (stated.jump_of source code tokens) BareIsNoBit
unfolding stated.jump_of
jump_plain source code [] = with_operand_plain source code []
jump_plain source code (t ∷ []) = both (has_kind t kind.Word) _ _ BareIsNoBit (tt, tt) (with_operand_plain source code (t ∷ []))
jump_plain source code (t ∷ u ∷ rest) = with_operand_plain source code (t ∷ u ∷ rest)

open_plain : (source : List ℕ) (code : Mnemonic) (tokens : List Token) → IfSome (stated.open_of source code tokens) BareIsNoBit
unfolding stated.open_of
open_plain source code [] = with_operand_plain source code []
open_plain source code (t ∷ []) = both (has_kind t kind.Quoted) _ _ BareIsNoBit (tt, tt) (with_operand_plain source code (t ∷ []))
open_plain source code (t ∷ u ∷ rest) = with_operand_plain source code (t ∷ u ∷ rest)

behind_word_plain : (source : List ℕ) (f : OperandSyntax) (code : Mnemonic) (tokens : List Token) → IfSome (stated.behind_word source f code tokens) BareIsNoBit
unfolding stated.behind_word
behind_word_plain source operand_syntax.Operand code tokens = with_operand_plain source code tokens
behind_word_plain source operand_syntax.Jump code tokens = jump_plain source code tokens
behind_word_plain source operand_syntax.Open code tokens = open_plain source code tokens
behind_word_plain source operand_syntax.BlockCall code tokens = block_call_plain source code tokens
behind_word_plain source operand_syntax.Call code tokens = call_plain source code tokens

opening_plain : (source : List ℕ) (t : Token) (rest : List Token) → IfSome (stated.opening_instruction source t rest) BareIsNoBit
unfolding stated.opening_instruction
opening_plain source t rest =
    chain_holds (look_up opening_mnemonics (text_of source t)) _ (λ m. Unit {0}) BareIsNoBit (none_holds (look_up opening_mnemonics (text_of source t)))
    (λ m h. chain_holds (stated.after_paren source rest) _ (λ behind. Unit {0}) BareIsNoBit (none_holds (stated.after_paren source rest)) (λ behind k. with_operand_plain source m behind))

zone_end_plain : (source : List ℕ) (t : Token) (rest : List Token) → IfSome (stated.zone_end_of source t rest) BareIsNoBit
unfolding stated.zone_end_of
zone_end_plain source t [] = tt
zone_end_plain source t (w ∷ rest) =
    then_holds (is_mark source t mark.CloseParen && is_key source w key.Mcr) _ BareIsNoBit (λ test. with_operand_plain source mnemonic.McrClose rest)

closed_plain : (source : List ℕ) (t : Token) (rest : List Token) → IfSome (stated.one_token_instruction source t rest) BareIsNoBit
unfolding stated.one_token_instruction
closed_plain source t rest =
    chain_holds (look_up mnemonics (text_of source t)) _ (λ m. Unit {0}) BareIsNoBit (none_holds (look_up mnemonics (text_of source t))) (λ m h. behind_word_plain source m.1 m.0 rest)

instruction_plain : (source : List ℕ) (tokens : List Token) → IfSome (stated.instruction_of source tokens) BareIsNoBit
unfolding stated.instruction_of
instruction_plain source [] = tt
instruction_plain source (t ∷ rest) =
    either (stated.opening_instruction source t rest) _ BareIsNoBit (opening_plain source t rest)
    (either (stated.zone_end_of source t rest) _ BareIsNoBit (zone_end_plain source t rest) (closed_plain source t rest))

abbrev ReadIsNoBit : Statement × Bool → Type 0
ReadIsNoBit r = StatementIsNoBit r.0

unlabelled_plain : (source : List ℕ) (line : ℕ) (tokens : List Token) → IfSome (stated.unlabelled_statement source line tokens) ReadIsNoBit
unfolding stated.unlabelled_statement
unlabelled_plain source line tokens = map_holds (stated.instruction_of source tokens) _ BareIsNoBit ReadIsNoBit (instruction_plain source tokens) (λ i h. h)

labelled_plain : (source : List ℕ) (line : ℕ) (w : Token) (tokens : List Token) → IfSome (stated.labelled_statement source line w tokens) ReadIsNoBit
unfolding stated.labelled_statement
labelled_plain source line w tokens = map_holds (stated.instruction_of source tokens) _ BareIsNoBit ReadIsNoBit (instruction_plain source tokens) (λ i h. h)

-- a statement before its `;`
pub statement_plain : (source : List ℕ) (line : ℕ) (tokens : List Token) → IfSome (stated.statement_of source line tokens) ReadIsNoBit
unfolding stated.statement_of
statement_plain source line [] = (tt, tt)
statement_plain source line (w ∷ []) = unlabelled_plain source line (w ∷ [])
statement_plain source line (w ∷ colon ∷ rest) =
    both (has_kind w kind.Word && is_mark source colon mark.Colon) _ _ ReadIsNoBit (labelled_plain source line w rest) (unlabelled_plain source line (w ∷ colon ∷ rest))
