-- Operands that are printed are read.
use Rattle.std.proofs.Common.{◌≡◌, ◌≤◌, ◌<◌, ◌+◌, ◌*◌, ◌/◌, ◌%◌, refl, sym, ◌∙◌, ap, ℕ, suc, true, false, List, [], ◌∷◌, ◌++◌, Option, Some, None, drop, take, subst, arith, pos, negsuc, inl, inr}
use Rattle.std.specs.Option.{option_and_then}
use Rattle.std.specs.Str.{str_eq_ignore_ascii_case}
use Rattle.std.specs.Prelude.{◌⊎◌, codes, nat_le, decimal}
use Rattle.std.proofs.lemmas.Bool.Decides.{nat_tests}
use Rattle.std.proofs.lemmas.Fmt.{decimal_by_steps}
use Rattle.plc_base.specs.Decimal.{decimal_up_to}
use Rattle.plc_base.specs.declared.blocks.BlockId.{BlockId}
use Rattle.plc_base.specs.declared.blocks.BlockKind.TheVariants as kinds
use Rattle.plc_base.specs.declared.flags.Flag.{Flag}
use Rattle.plc_base.specs.declared.flags.Flag.TheVariants as flag
use Rattle.plc_base.specs.declared.places.Width.{Width}
use Rattle.plc_base.specs.declared.places.Width.TheVariants as width
use Rattle.stl_lexer.specs.Marks.{mark_text}
use Rattle.stl_lexer.specs.Pieces.{Piece, ShowPieces, tokens_of}
use Rattle.stl_ast.specs.Operands.{IsBitOf}
use Rattle.stl_lexer.specs.declared.kinds.Token.{Token}
use Rattle.plc_base.specs.declared.blocks.BlockKind.{BlockKind}
use Rattle.stl_ast.specs.declared.names.BlockName.{BlockName}
use Rattle.stl_ast.specs.declared.names.BlockName.TheVariants as block
use Rattle.stl_ast.specs.declared.literals.Literal.{Literal}
use Rattle.stl_ast.specs.declared.literals.Literal.TheVariants as literal
use Rattle.stl_ast.specs.declared.operands.Letters.{Letters}
use Rattle.stl_ast.specs.declared.operands.Letters.TheVariants as letters
use Rattle.stl_ast.specs.declared.operands.Numbered.{Numbered}
use Rattle.stl_ast.specs.declared.operands.Numbered.TheVariants as numbered_kind
use Rattle.stl_ast.specs.declared.operands.Operand.{Operand}
use Rattle.stl_ast.specs.declared.operands.Operand.TheVariants as operand
use Rattle.stl_ast.specs.declared.operands.PathHead.TheVariants as head
use Rattle.stl_parser.specs.declared.tables.AddressKind.{AddressKind}
use Rattle.stl_parser.specs.declared.tables.AddressKind.TheVariants as address
use Rattle.stl_parser.specs.Terminals.{has_kind, is_mark, is_key, key_text}
use Rattle.stl_parser.specs.Tables.{look_up, addresses, flags}
use Rattle.stl_parser.specs.Numbers.{number_of_token, number_up_to, signed_number_at}
use Rattle.stl_parser.specs.Parts.{parts_from}
use Rattle.stl_parser.specs.Literals.{literal_of, literal_at, literal_token, truth_of, long_literal}
use Rattle.stl_parser.specs.Addresses.{address_at, bit_of, letters_and_number_at, glued_letters_and_number, separate_letters_and_number, letter_count}
use Rattle.stl_parser.specs.Operands.{operand_of, operand_by_kind, word_operand, lone_word_operand, operand_with_number, direct_address_operand, area_operand, place_bit, data_block_operand, operand_behind_block, operand_in_block, block_place, place_of_data_address, operand_with_pointer, indirect_operand, operand_by_pointer, memory_pointer, pointer_end, pointer_close, holds_pointer, operand_by_register, register_pointer, register_number, offset_of, operand_by_memory_number, mark_operand, operand_by_sized_register, pointer_constant_operand, plain_pointer, area_pointer, local_path, path_of, steps_from, path_end, condition_word_operand, register_name_operand, sign_operand}
use Rattle.stl_print.specs.Literals.{literal_pieces}
use Rattle.stl_print.specs.Names.{block_name_pieces}
use Rattle.stl_print.specs.Operands.{numbered_pieces, address_pieces, bit_pieces, direct_pieces, register_operand_pieces as register_pieces, operand_pieces, path_head_pieces, pointer_pieces, pointer_byte_pieces}
use Rattle.stl_print.specs.Words.{letters_of_address, area_letters, size_letter, bit_letter, width_letter, block_letters, numbered_letters, flag_text, flag_kind, truth_word}
use Rattle.print_laws.specs.Reading.{IsAddressRegister, IsArea, IsAreaOf, IsPrintedLiteral, IsPrintedOperand, IsRegister}
use Rattle.print_laws.proofs.parsing.Constants.{byte_value, word_value, dword_value, long_constant, time_constant}
use Rattle.print_laws.proofs.parsing.Numbers.{minus, number_read}

-- a source has these pieces from a place on
abbrev pub Texts : (source : List ℕ) (from line : ℕ) → List Piece → Type 0
Texts source from line ps = ShowPieces source ps (tokens_of from line ps)

-- letters of an address, which are no constant and have no digits
pub record AreLetters (text : List ℕ) (x : AddressKind) : Type 0 where
  pub table : look_up addresses text ≡ Some x
  pub whole : drop (letter_count text) text ≡ []
  pub no_true : str_eq_ignore_ascii_case text (codes "TRUE") ≡ false
  pub no_false : str_eq_ignore_ascii_case text (codes "FALSE") ≡ false

pub letters_found : (area : Letters) (w : Width) → IsArea area w → AreLetters (letters_of_address area w) (address.Area area w)
unfolding look_up addresses area_letters size_letter bit_letter width_letter
letters_found letters.I width.Bit h = record { table = refl; whole = refl; no_true = refl; no_false = refl }
letters_found letters.I width.Byte h = record { table = refl; whole = refl; no_true = refl; no_false = refl }
letters_found letters.I width.Word h = record { table = refl; whole = refl; no_true = refl; no_false = refl }
letters_found letters.I width.Dword h = record { table = refl; whole = refl; no_true = refl; no_false = refl }
letters_found letters.Q width.Bit h = record { table = refl; whole = refl; no_true = refl; no_false = refl }
letters_found letters.Q width.Byte h = record { table = refl; whole = refl; no_true = refl; no_false = refl }
letters_found letters.Q width.Word h = record { table = refl; whole = refl; no_true = refl; no_false = refl }
letters_found letters.Q width.Dword h = record { table = refl; whole = refl; no_true = refl; no_false = refl }
letters_found letters.M width.Bit h = record { table = refl; whole = refl; no_true = refl; no_false = refl }
letters_found letters.M width.Byte h = record { table = refl; whole = refl; no_true = refl; no_false = refl }
letters_found letters.M width.Word h = record { table = refl; whole = refl; no_true = refl; no_false = refl }
letters_found letters.M width.Dword h = record { table = refl; whole = refl; no_true = refl; no_false = refl }
letters_found letters.Db width.Bit h = record { table = refl; whole = refl; no_true = refl; no_false = refl }
letters_found letters.Db width.Byte h = record { table = refl; whole = refl; no_true = refl; no_false = refl }
letters_found letters.Db width.Word h = record { table = refl; whole = refl; no_true = refl; no_false = refl }
letters_found letters.Db width.Dword h = record { table = refl; whole = refl; no_true = refl; no_false = refl }
letters_found letters.Di width.Bit h = record { table = refl; whole = refl; no_true = refl; no_false = refl }
letters_found letters.Di width.Byte h = record { table = refl; whole = refl; no_true = refl; no_false = refl }
letters_found letters.Di width.Word h = record { table = refl; whole = refl; no_true = refl; no_false = refl }
letters_found letters.Di width.Dword h = record { table = refl; whole = refl; no_true = refl; no_false = refl }
letters_found letters.L width.Bit h = record { table = refl; whole = refl; no_true = refl; no_false = refl }
letters_found letters.L width.Byte h = record { table = refl; whole = refl; no_true = refl; no_false = refl }
letters_found letters.L width.Word h = record { table = refl; whole = refl; no_true = refl; no_false = refl }
letters_found letters.L width.Dword h = record { table = refl; whole = refl; no_true = refl; no_false = refl }
letters_found letters.Pi width.Bit h = absurd h
letters_found letters.Pi width.Byte h = record { table = refl; whole = refl; no_true = refl; no_false = refl }
letters_found letters.Pi width.Word h = record { table = refl; whole = refl; no_true = refl; no_false = refl }
letters_found letters.Pi width.Dword h = record { table = refl; whole = refl; no_true = refl; no_false = refl }
letters_found letters.Pq width.Bit h = absurd h
letters_found letters.Pq width.Byte h = record { table = refl; whole = refl; no_true = refl; no_false = refl }
letters_found letters.Pq width.Word h = record { table = refl; whole = refl; no_true = refl; no_false = refl }
letters_found letters.Pq width.Dword h = record { table = refl; whole = refl; no_true = refl; no_false = refl }

no_decimal : decimal_up_to 65535 [] ≡ None
unfolding decimal_up_to
no_decimal = refl

none_chained : {A B : Type 0} (o : Option A) → option_and_then {U = B} (λ x. None) o ≡ None
none_chained None = refl
none_chained (Some x) = refl

-- letters alone are no word of letters and number
pub no_glue : {text : List ℕ} {x : AddressKind} → AreLetters text x → (rest : List Token) → glued_letters_and_number addresses text rest ≡ None
unfolding glued_letters_and_number
no_glue {text} l rest = rw (l.whole, no_decimal) (none_chained (look_up addresses (take (letter_count text) text)))

pub at_most : (m n : ℕ) → m ≤ n → nat_le m n ≡ true
at_most m n h = grind (arith, nat_tests)

pub read_number : (n : ℕ) → n ≤ 65535 → decimal_up_to 65535 (decimal n) ≡ Some n
read_number n h = number_read 65535 n h (omega arith)

-- ---- constants

pub literal_read : (source : List ℕ) (from line : ℕ) (g : _) (l : Literal) → IsPrintedLiteral l → Texts source from line (literal_pieces g l)
    → literal_of source (tokens_of from line (literal_pieces g l)) ≡ Some l
unfolding literal_pieces truth_word literal_of literal_at literal_token truth_of long_literal signed_number_at is_mark is_key has_kind key_text mark_text number_of_token number_up_to
literal_read source from line g (literal.Truth true) h (_, x1, _) = rw x1 refl
literal_read source from line g (literal.Truth false) h (_, x1, _) = rw x1 refl
literal_read source from line g (literal.Number (pos n)) h (_, x1, _) = rw (x1, read_number n h) refl
literal_read source from line g (literal.Number (negsuc n)) h (_, x1, (_, x2, _)) =
    rw (x1, x2, number_read 32768 (suc n) h (omega arith)) (ap (λ z. Some (literal.Number z)) (minus n))
literal_read source from line g (literal.Byte v) h (_, x1, _) = rw (x1, byte_value v h) refl
literal_read source from line g (literal.Word v) h (_, x1, _) = rw (x1, word_value v h) refl
literal_read source from line g (literal.Dword v) h (_, x1, _) = rw (x1, dword_value v (omega (arith, h))) refl
literal_read source from line g (literal.Long v) h (_, x1, _) = rw (x1, long_constant v h) refl
literal_read source from line g (literal.Time v) h (_, x1, _) = rw (x1, time_constant v h) refl
literal_read source from line g (literal.Binary v) h t = absurd h
literal_read source from line g (literal.Count v) h t = absurd h
literal_read source from line g (literal.S5time v) h t = absurd h
literal_read source from line g (literal.Characters v) h t = absurd h
literal_read source from line g (literal.Bytes v) h t = absurd h

pub constant_read : (source : List ℕ) (from line : ℕ) (g : _) (l : Literal) → IsPrintedLiteral l → Texts source from line (literal_pieces g l)
    → operand_of source (tokens_of from line (literal_pieces g l)) ≡ Some (operand.Constant l)
unfolding operand_of literal_pieces truth_word
constant_read source from line g (literal.Truth true) h t = rw (literal_read source from line g (literal.Truth true) h t) refl
constant_read source from line g (literal.Truth false) h t = rw (literal_read source from line g (literal.Truth false) h t) refl
constant_read source from line g (literal.Number (pos n)) h t = rw (literal_read source from line g (literal.Number (pos n)) h t) refl
constant_read source from line g (literal.Number (negsuc n)) h t = rw (literal_read source from line g (literal.Number (negsuc n)) h t) refl
constant_read source from line g (literal.Byte v) h t = rw (literal_read source from line g (literal.Byte v) h t) refl
constant_read source from line g (literal.Word v) h t = rw (literal_read source from line g (literal.Word v) h t) refl
constant_read source from line g (literal.Dword v) h t = rw (literal_read source from line g (literal.Dword v) h t) refl
constant_read source from line g (literal.Long v) h t = rw (literal_read source from line g (literal.Long v) h t) refl
constant_read source from line g (literal.Time v) h t = rw (literal_read source from line g (literal.Time v) h t) refl
constant_read source from line g (literal.Binary v) h t = absurd h
constant_read source from line g (literal.Count v) h t = absurd h
constant_read source from line g (literal.S5time v) h t = absurd h
constant_read source from line g (literal.Characters v) h t = absurd h
constant_read source from line g (literal.Bytes v) h t = absurd h

-- ---- addresses

wide_read : (source : List ℕ) (from line : ℕ) (g : _) (area : Letters) (w : Width) (byte : ℕ) → IsArea area w → byte ≤ 65535
    → place_bit source w [] ≡ Some 0 → Texts source from line (numbered_pieces g (letters_of_address area w) byte)
    → operand_of source (tokens_of from line (numbered_pieces g (letters_of_address area w) byte)) ≡ Some (operand.Direct None area w byte 0)
unfolding operand_of literal_of literal_at literal_token truth_of long_literal signed_number_at is_mark is_key has_kind key_text mark_text operand_by_kind word_operand lone_word_operand operand_with_number address_at letters_and_number_at separate_letters_and_number number_of_token number_up_to direct_address_operand area_operand
wide_read source from line g area w byte is h place (_, x1, (_, x2, _)) =
    let l : AreLetters (letters_of_address area w) (address.Area area w) = letters_found area w is in
    rw (x1, x2, l.no_true, l.no_false, no_glue l, l.table, read_number byte h, place) refl

bit_read : (source : List ℕ) (from line : ℕ) (g : _) (area : Letters) (byte bit : ℕ) → IsArea area width.Bit → byte ≤ 65535 → bit ≤ 7
    → Texts source from line (address_pieces g area width.Bit byte bit)
    → operand_of source (tokens_of from line (address_pieces g area width.Bit byte bit)) ≡ Some (operand.Direct None area width.Bit byte bit)
unfolding operand_of literal_of literal_at literal_token truth_of long_literal signed_number_at is_mark is_key has_kind key_text mark_text operand_by_kind word_operand lone_word_operand operand_with_number address_at letters_and_number_at separate_letters_and_number number_of_token number_up_to direct_address_operand area_operand place_bit bit_of bit_pieces
bit_read source from line g area byte bit is h small (_, x1, (_, x2, (_, x3, (_, x4, _)))) =
    let l : AreLetters (letters_of_address area width.Bit) (address.Area area width.Bit) = letters_found area width.Bit is in
    rw (x1, x2, l.no_true, l.no_false, no_glue l, l.table, read_number byte h, x3, x4, read_number bit (omega arith), at_most bit 7 small) refl

-- a fact on a block of a kind
pub of_kind : (P : BlockId → Type 0) (k : BlockKind) (id : BlockId) → id.kind ≡ k → P (record { kind = k; number = id.number }) → P id
of_kind P k id e p = subst (λ (j : BlockKind). P (record { kind = j; number = id.number })) (sym e) p

abbrev db : ℕ → BlockName
db n = block.Number (record { kind = kinds.Db; number = n })

in_block_read : (source : List ℕ) (from line : ℕ) (g : _) (n : ℕ) (w : Width) (byte bit : ℕ) → n ≤ 65535 → byte ≤ 65535 → IsBitOf w bit
    → Texts source from line (direct_pieces g (Some (db n)) letters.Db w byte bit)
    → operand_of source (tokens_of from line (direct_pieces g (Some (db n)) letters.Db w byte bit)) ≡ Some (operand.Direct (Some (db n)) letters.Db w byte bit)
unfolding operand_of literal_of literal_at literal_token truth_of long_literal signed_number_at is_mark is_key has_kind key_text mark_text operand_by_kind word_operand lone_word_operand operand_with_number address_at letters_and_number_at separate_letters_and_number number_of_token number_up_to glued_letters_and_number look_up addresses decimal_up_to area_letters size_letter bit_letter width_letter block_letters direct_address_operand data_block_operand operand_behind_block operand_in_block block_place place_of_data_address place_bit bit_of direct_pieces block_name_pieces bit_pieces
in_block_read source from line g n width.Bit byte bit h k small (_, x1, (_, x2, (_, x3, (_, x4, (_, x5, (_, x6, (_, x7, _))))))) =
    rw (x1, x2, read_number n h, x3, x4, x5, read_number byte k, x6, x7, read_number bit (omega arith), at_most bit 7 small) refl
in_block_read source from line g n width.Byte byte bit h k zeroed (_, x1, (_, x2, (_, x3, (_, x4, (_, x5, _))))) =
    rw (x1, x2, read_number n h, x3, x4, x5, read_number byte k, zeroed) refl
in_block_read source from line g n width.Word byte bit h k zeroed (_, x1, (_, x2, (_, x3, (_, x4, (_, x5, _))))) =
    rw (x1, x2, read_number n h, x3, x4, x5, read_number byte k, zeroed) refl
in_block_read source from line g n width.Dword byte bit h k zeroed (_, x1, (_, x2, (_, x3, (_, x4, (_, x5, _))))) =
    rw (x1, x2, read_number n h, x3, x4, x5, read_number byte k, zeroed) refl

pub direct_read : (source : List ℕ) (from line : ℕ) (g : _) (name : Option BlockName) (area : Letters) (w : Width) (byte bit : ℕ)
    → IsPrintedOperand (operand.Direct name area w byte bit) → Texts source from line (direct_pieces g name area w byte bit)
    → operand_of source (tokens_of from line (direct_pieces g name area w byte bit)) ≡ Some (operand.Direct name area w byte bit)
unfolding direct_pieces bit_pieces place_bit
direct_read source from line g None area width.Bit byte bit h t = bit_read source from line g area byte bit h.1 h.2 h.3 t
direct_read source from line g None area width.Byte byte bit h t =
    wide_read source from line g area width.Byte byte h.1 h.2 refl t ∙ ap (λ z. Some (operand.Direct None area width.Byte byte z)) (sym h.3)
direct_read source from line g None area width.Word byte bit h t =
    wide_read source from line g area width.Word byte h.1 h.2 refl t ∙ ap (λ z. Some (operand.Direct None area width.Word byte z)) (sym h.3)
direct_read source from line g None area width.Dword byte bit h t =
    wide_read source from line g area width.Dword byte h.1 h.2 refl t ∙ ap (λ z. Some (operand.Direct None area width.Dword byte z)) (sym h.3)
direct_read source from line g (Some (block.Number id)) area w byte bit h t =
    subst (λ (a : Letters). Texts source from line (direct_pieces g (Some (block.Number id)) a w byte bit)
    → operand_of source (tokens_of from line (direct_pieces g (Some (block.Number id)) a w byte bit)) ≡ Some (operand.Direct (Some (block.Number id)) a w byte bit))
    (sym h.0.1)
    (of_kind
    (λ i. Texts source from line (direct_pieces g (Some (block.Number i)) letters.Db w byte bit)
    → operand_of source (tokens_of from line (direct_pieces g (Some (block.Number i)) letters.Db w byte bit)) ≡ Some (operand.Direct (Some (block.Number i)) letters.Db w byte bit))
    kinds.Db id h.0.0.0
    (λ u. in_block_read source from line g id.number w byte bit h.0.0.1 h.2 h.3 u))
    t
direct_read source from line g (Some (block.Quoted name)) area w byte bit h t = absurd h.0.0

pub timer_read : (source : List ℕ) (from line : ℕ) (g : _) (n : ℕ) → n ≤ 65535 → Texts source from line (numbered_pieces g (codes "T") n)
    → operand_of source (tokens_of from line (numbered_pieces g (codes "T") n)) ≡ Some (operand.Timer n)
unfolding operand_of literal_of literal_at literal_token truth_of long_literal signed_number_at is_mark is_key has_kind key_text mark_text operand_by_kind word_operand lone_word_operand operand_with_number address_at letters_and_number_at separate_letters_and_number number_of_token number_up_to glued_letters_and_number look_up addresses decimal_up_to area_letters size_letter bit_letter width_letter block_letters direct_address_operand
timer_read source from line g n h (_, x1, (_, x2, _)) = rw (x1, x2, read_number n h) refl

pub counter_read : (source : List ℕ) (from line : ℕ) (g : _) (n : ℕ) → n ≤ 65535 → Texts source from line (numbered_pieces g (codes "C") n)
    → operand_of source (tokens_of from line (numbered_pieces g (codes "C") n)) ≡ Some (operand.Counter n)
unfolding operand_of literal_of literal_at literal_token truth_of long_literal signed_number_at is_mark is_key has_kind key_text mark_text operand_by_kind word_operand lone_word_operand operand_with_number address_at letters_and_number_at separate_letters_and_number number_of_token number_up_to glued_letters_and_number look_up addresses decimal_up_to area_letters size_letter bit_letter width_letter block_letters direct_address_operand
counter_read source from line g n h (_, x1, (_, x2, _)) = rw (x1, x2, read_number n h) refl

pub local_read : (source : List ℕ) (from line : ℕ) (g : _) (name : List ℕ) → Texts source from line (operand_pieces g (operand.Named (head.Local name) []))
    → operand_of source (tokens_of from line (operand_pieces g (operand.Named (head.Local name) []))) ≡ Some (operand.Named (head.Local name) [])
unfolding operand_of literal_of literal_at literal_token truth_of long_literal signed_number_at is_mark is_key has_kind key_text mark_text operand_by_kind word_operand lone_word_operand operand_with_number address_at letters_and_number_at separate_letters_and_number number_of_token number_up_to operand_pieces path_head_pieces local_path path_of steps_from parts_from path_end
local_read source from line g name (_, x1, _) = rw x1 refl

-- ---- pointers

pub wide_area : (a : Letters) → IsArea a width.Dword
wide_area letters.I = tt
wide_area letters.Q = tt
wide_area letters.M = tt
wide_area letters.Db = tt
wide_area letters.Di = tt
wide_area letters.L = tt
wide_area letters.Pi = tt
wide_area letters.Pq = tt

pub word_area : (a : Letters) → IsArea a width.Word
word_area letters.I = tt
word_area letters.Q = tt
word_area letters.M = tt
word_area letters.Db = tt
word_area letters.Di = tt
word_area letters.L = tt
word_area letters.Pi = tt
word_area letters.Pq = tt

pub memory_read : (source : List ℕ) (from line : ℕ) (g : _) (area : Letters) (w : Width) (place : Letters) (byte : ℕ)
    → IsArea area w → holds_pointer place ≡ true → byte ≤ 65535
    → Texts source from line (operand_pieces g (operand.ByMemory area w place byte))
    → operand_of source (tokens_of from line (operand_pieces g (operand.ByMemory area w place byte))) ≡ Some (operand.ByMemory area w place byte)
unfolding operand_of literal_of literal_at literal_token truth_of long_literal signed_number_at is_mark is_key has_kind key_text mark_text operand_by_kind word_operand lone_word_operand operand_with_number address_at letters_and_number_at separate_letters_and_number number_of_token number_up_to operand_pieces operand_with_pointer indirect_operand operand_by_pointer memory_pointer pointer_end pointer_close
memory_read source from line g area w place byte is holds h (_, x1, (_, x2, (_, x3, (_, x4, (_, x5, _))))) =
    let l : AreLetters (letters_of_address area w) (address.Area area w) = letters_found area w is in
    let k : AreLetters (letters_of_address place width.Dword) (address.Area place width.Dword) = letters_found place width.Dword (wide_area place) in
    rw (x1, l.no_true, l.no_false, no_glue l, l.table, x2, x3, no_glue k, k.table, x4, read_number byte h, holds, x5) refl

-- the letters before a number in memory
address_by : Numbered → AddressKind
address_by numbered_kind.Timer = address.Timer
address_by numbered_kind.Counter = address.Counter
address_by numbered_kind.Db = address.Block false
address_by numbered_kind.Di = address.Block true

counted_found : (what : Numbered) → AreLetters (numbered_letters what) (address_by what)
unfolding look_up addresses numbered_letters address_by
counted_found numbered_kind.Timer = record { table = refl; whole = refl; no_true = refl; no_false = refl }
counted_found numbered_kind.Counter = record { table = refl; whole = refl; no_true = refl; no_false = refl }
counted_found numbered_kind.Db = record { table = refl; whole = refl; no_true = refl; no_false = refl }
counted_found numbered_kind.Di = record { table = refl; whole = refl; no_true = refl; no_false = refl }

pub number_by_read : (source : List ℕ) (from line : ℕ) (g : _) (what : Numbered) (place : Letters) (byte : ℕ) → holds_pointer place ≡ true → byte ≤ 65535
    → Texts source from line (operand_pieces g (operand.NumberBy what place byte))
    → operand_of source (tokens_of from line (operand_pieces g (operand.NumberBy what place byte))) ≡ Some (operand.NumberBy what place byte)
unfolding operand_of literal_of literal_at literal_token truth_of long_literal signed_number_at is_mark is_key has_kind key_text mark_text operand_by_kind word_operand lone_word_operand operand_with_number address_at letters_and_number_at separate_letters_and_number number_of_token number_up_to address_by operand_pieces operand_with_pointer indirect_operand operand_by_pointer memory_pointer pointer_end pointer_close operand_by_memory_number operand_by_register register_pointer register_number offset_of bit_of
number_by_read source from line g numbered_kind.Timer place byte holds h (_, x1, (_, x2, (_, x3, (_, x4, (_, x5, _))))) =
    let l : AreLetters (numbered_letters numbered_kind.Timer) (address_by numbered_kind.Timer) = counted_found numbered_kind.Timer in
    let k : AreLetters (letters_of_address place width.Word) (address.Area place width.Word) = letters_found place width.Word (word_area place) in
    rw (x1, l.no_true, l.no_false, no_glue l, l.table, x2, x3, no_glue k, k.table, x4, read_number byte h, holds, x5) refl
number_by_read source from line g numbered_kind.Counter place byte holds h (_, x1, (_, x2, (_, x3, (_, x4, (_, x5, _))))) =
    let l : AreLetters (numbered_letters numbered_kind.Counter) (address_by numbered_kind.Counter) = counted_found numbered_kind.Counter in
    let k : AreLetters (letters_of_address place width.Word) (address.Area place width.Word) = letters_found place width.Word (word_area place) in
    rw (x1, l.no_true, l.no_false, no_glue l, l.table, x2, x3, no_glue k, k.table, x4, read_number byte h, holds, x5) refl
number_by_read source from line g numbered_kind.Db place byte holds h (_, x1, (_, x2, (_, x3, (_, x4, (_, x5, _))))) =
    let l : AreLetters (numbered_letters numbered_kind.Db) (address_by numbered_kind.Db) = counted_found numbered_kind.Db in
    let k : AreLetters (letters_of_address place width.Word) (address.Area place width.Word) = letters_found place width.Word (word_area place) in
    rw (x1, l.no_true, l.no_false, no_glue l, l.table, x2, x3, no_glue k, k.table, x4, read_number byte h, holds, x5) refl
number_by_read source from line g numbered_kind.Di place byte holds h (_, x1, (_, x2, (_, x3, (_, x4, (_, x5, _))))) =
    let l : AreLetters (numbered_letters numbered_kind.Di) (address_by numbered_kind.Di) = counted_found numbered_kind.Di in
    let k : AreLetters (letters_of_address place width.Word) (address.Area place width.Word) = letters_found place width.Word (word_area place) in
    rw (x1, l.no_true, l.no_false, no_glue l, l.table, x2, x3, no_glue k, k.table, x4, read_number byte h, holds, x5) refl

eighths : (bits : ℕ) → 8 * (bits / 8) + bits % 8 ≡ bits
eighths bits = omega arith

small_decimal : (n : ℕ) → n < 10 → decimal n ≡ (48 + n) ∷ []
small_decimal n h = decimal_by_steps (λ m ds. m < 10 → ds ≡ (48 + m) ∷ []) (λ m k l. refl) (λ m ds k is l. absurd (omega arith)) n (omega arith) h

first_text : codes "AR" ++ decimal 1 ≡ codes "AR1"
first_text = ap (λ (l : List ℕ). codes "AR" ++ l) (small_decimal 1 (omega arith))

second_text : codes "AR" ++ decimal 2 ≡ codes "AR2"
second_text = ap (λ (l : List ℕ). codes "AR" ++ l) (small_decimal 2 (omega arith))

-- an address register is no address
no_register : (rest : List Token) → glued_letters_and_number addresses (codes "AR1") rest ≡ None
unfolding glued_letters_and_number look_up addresses
no_register rest = refl

no_second : (rest : List Token) → glued_letters_and_number addresses (codes "AR2") rest ≡ None
unfolding glued_letters_and_number look_up addresses
no_second rest = refl

no_word : look_up addresses (codes "AR1") ≡ None
unfolding look_up addresses
no_word = refl

no_second_word : look_up addresses (codes "AR2") ≡ None
unfolding look_up addresses
no_second_word = refl

-- nor is the letter of a width alone
no_letter : (w : Width) (rest : List Token) → glued_letters_and_number addresses (width_letter w) rest ≡ None
unfolding glued_letters_and_number look_up addresses width_letter
no_letter width.Bit rest = refl
no_letter width.Byte rest = refl
no_letter width.Word rest = refl
no_letter width.Dword rest = refl

letter_unknown : (w : Width) → look_up addresses (width_letter w) ≡ None
unfolding look_up addresses width_letter
letter_unknown width.Bit = refl
letter_unknown width.Byte = refl
letter_unknown width.Word = refl
letter_unknown width.Dword = refl

first_register_read : (source : List ℕ) (from line : ℕ) (g : _) (area : Option Letters) (w : Width) (bits : ℕ)
    → IsAreaOf area w → bits < 8 * 65536 → Texts source from line (register_pieces g area w 1 bits)
    → operand_of source (tokens_of from line (register_pieces g area w 1 bits)) ≡ Some (operand.ByRegister area w 1 bits)
unfolding operand_of literal_of literal_at literal_token truth_of long_literal signed_number_at is_mark is_key has_kind key_text mark_text operand_by_kind word_operand lone_word_operand operand_with_number address_at letters_and_number_at separate_letters_and_number number_of_token number_up_to register_pieces width_letter operand_with_pointer indirect_operand operand_by_pointer memory_pointer pointer_end pointer_close operand_by_memory_number operand_by_register register_pointer register_number offset_of bit_of mark_operand operand_by_sized_register
first_register_read source from line g (Some area) w bits is h (_, x1, (_, x2, (_, x3, (_, x4, (_, x5, (_, x6, (_, x7, (_, x8, (_, x9, _))))))))) =
    let l : AreLetters (letters_of_address area w) (address.Area area w) = letters_found area w is in
    rw (x1, l.no_true, l.no_false, no_glue l, l.table, x2, x3 ∙ first_text, no_register, no_word, x4, x9, x5, x6, read_number (bits / 8) (omega (arith, h)), x7, x8, read_number (bits % 8) (omega arith), at_most (bits % 8) 7 (omega arith), eighths bits) refl
first_register_read source from line g None width.Bit bits is h (_, x1, (_, x2, (_, x3, (_, x4, (_, x5, (_, x6, (_, x7, (_, x8, _)))))))) =
    rw (x1, x3, x8, x2 ∙ first_text, x4, x5, read_number (bits / 8) (omega (arith, h)), x6, x7, read_number (bits % 8) (omega arith), at_most (bits % 8) 7 (omega arith), eighths bits) refl
first_register_read source from line g None width.Byte bits is h (_, x1, (_, x2, (_, x3, (_, x4, (_, x5, (_, x6, (_, x7, (_, x8, (_, x9, _))))))))) =
    rw (x1, no_letter width.Byte, letter_unknown width.Byte, x2, x4, x9, x3 ∙ first_text, x5, x6, read_number (bits / 8) (omega (arith, h)), x7, x8, read_number (bits % 8) (omega arith), at_most (bits % 8) 7 (omega arith), eighths bits) refl
first_register_read source from line g None width.Word bits is h (_, x1, (_, x2, (_, x3, (_, x4, (_, x5, (_, x6, (_, x7, (_, x8, (_, x9, _))))))))) =
    rw (x1, no_letter width.Word, letter_unknown width.Word, x2, x4, x9, x3 ∙ first_text, x5, x6, read_number (bits / 8) (omega (arith, h)), x7, x8, read_number (bits % 8) (omega arith), at_most (bits % 8) 7 (omega arith), eighths bits) refl
first_register_read source from line g None width.Dword bits is h (_, x1, (_, x2, (_, x3, (_, x4, (_, x5, (_, x6, (_, x7, (_, x8, (_, x9, _))))))))) =
    rw (x1, no_letter width.Dword, letter_unknown width.Dword, x2, x4, x9, x3 ∙ first_text, x5, x6, read_number (bits / 8) (omega (arith, h)), x7, x8, read_number (bits % 8) (omega arith), at_most (bits % 8) 7 (omega arith), eighths bits) refl

second_register_read : (source : List ℕ) (from line : ℕ) (g : _) (area : Option Letters) (w : Width) (bits : ℕ)
    → IsAreaOf area w → bits < 8 * 65536 → Texts source from line (register_pieces g area w 2 bits)
    → operand_of source (tokens_of from line (register_pieces g area w 2 bits)) ≡ Some (operand.ByRegister area w 2 bits)
unfolding operand_of literal_of literal_at literal_token truth_of long_literal signed_number_at is_mark is_key has_kind key_text mark_text operand_by_kind word_operand lone_word_operand operand_with_number address_at letters_and_number_at separate_letters_and_number number_of_token number_up_to register_pieces width_letter operand_with_pointer indirect_operand operand_by_pointer memory_pointer pointer_end pointer_close operand_by_memory_number operand_by_register register_pointer register_number offset_of bit_of mark_operand operand_by_sized_register
second_register_read source from line g (Some area) w bits is h (_, x1, (_, x2, (_, x3, (_, x4, (_, x5, (_, x6, (_, x7, (_, x8, (_, x9, _))))))))) =
    let l : AreLetters (letters_of_address area w) (address.Area area w) = letters_found area w is in
    rw (x1, l.no_true, l.no_false, no_glue l, l.table, x2, x3 ∙ second_text, no_second, no_second_word, x4, x9, x5, x6, read_number (bits / 8) (omega (arith, h)), x7, x8, read_number (bits % 8) (omega arith), at_most (bits % 8) 7 (omega arith), eighths bits) refl
second_register_read source from line g None width.Bit bits is h (_, x1, (_, x2, (_, x3, (_, x4, (_, x5, (_, x6, (_, x7, (_, x8, _)))))))) =
    rw (x1, x3, x8, x2 ∙ second_text, x4, x5, read_number (bits / 8) (omega (arith, h)), x6, x7, read_number (bits % 8) (omega arith), at_most (bits % 8) 7 (omega arith), eighths bits) refl
second_register_read source from line g None width.Byte bits is h (_, x1, (_, x2, (_, x3, (_, x4, (_, x5, (_, x6, (_, x7, (_, x8, (_, x9, _))))))))) =
    rw (x1, no_letter width.Byte, letter_unknown width.Byte, x2, x4, x9, x3 ∙ second_text, x5, x6, read_number (bits / 8) (omega (arith, h)), x7, x8, read_number (bits % 8) (omega arith), at_most (bits % 8) 7 (omega arith), eighths bits) refl
second_register_read source from line g None width.Word bits is h (_, x1, (_, x2, (_, x3, (_, x4, (_, x5, (_, x6, (_, x7, (_, x8, (_, x9, _))))))))) =
    rw (x1, no_letter width.Word, letter_unknown width.Word, x2, x4, x9, x3 ∙ second_text, x5, x6, read_number (bits / 8) (omega (arith, h)), x7, x8, read_number (bits % 8) (omega arith), at_most (bits % 8) 7 (omega arith), eighths bits) refl
second_register_read source from line g None width.Dword bits is h (_, x1, (_, x2, (_, x3, (_, x4, (_, x5, (_, x6, (_, x7, (_, x8, (_, x9, _))))))))) =
    rw (x1, no_letter width.Dword, letter_unknown width.Dword, x2, x4, x9, x3 ∙ second_text, x5, x6, read_number (bits / 8) (omega (arith, h)), x7, x8, read_number (bits % 8) (omega arith), at_most (bits % 8) 7 (omega arith), eighths bits) refl

pub register_read : (source : List ℕ) (from line : ℕ) (g : _) (area : Option Letters) (w : Width) (register bits : ℕ)
    → IsAreaOf area w → IsAddressRegister register → bits < 8 * 65536
    → Texts source from line (register_pieces g area w register bits)
    → operand_of source (tokens_of from line (register_pieces g area w register bits)) ≡ Some (operand.ByRegister area w register bits)
register_read source from line g area w register bits is (inl e) h t =
    subst (λ (r : ℕ). Texts source from line (register_pieces g area w r bits)
    → operand_of source (tokens_of from line (register_pieces g area w r bits)) ≡ Some (operand.ByRegister area w r bits)) (sym e)
    (λ u. first_register_read source from line g area w bits is h u) t
register_read source from line g area w register bits is (inr e) h t =
    subst (λ (r : ℕ). Texts source from line (register_pieces g area w r bits)
    → operand_of source (tokens_of from line (register_pieces g area w r bits)) ≡ Some (operand.ByRegister area w r bits)) (sym e)
    (λ u. second_register_read source from line g area w bits is h u) t

pub pointer_read : (source : List ℕ) (from line : ℕ) (g : _) (area : Option Letters) (byte bit : ℕ) → IsAreaOf area width.Bit → byte ≤ 65535 → bit ≤ 7
    → Texts source from line (pointer_pieces g area byte bit)
    → operand_of source (tokens_of from line (pointer_pieces g area byte bit)) ≡ Some (operand.Pointer area byte bit)
unfolding operand_of literal_of literal_at literal_token truth_of long_literal signed_number_at is_mark is_key has_kind key_text mark_text operand_by_kind word_operand lone_word_operand operand_with_number address_at letters_and_number_at separate_letters_and_number number_of_token number_up_to pointer_byte_pieces mark_operand pointer_constant_operand plain_pointer area_pointer bit_of
pointer_read source from line g None byte bit is h small (_, x1, (_, x2, (_, x3, (_, x4, _)))) =
    rw (x1, x2, read_number byte h, x3, x4, read_number bit (omega arith), at_most bit 7 small) refl
pointer_read source from line g (Some area) byte bit is h small (_, x1, (_, x2, (_, x3, (_, x4, (_, x5, _))))) =
    let l : AreLetters (letters_of_address area width.Bit) (address.Area area width.Bit) = letters_found area width.Bit is in
    rw (x1, x2, no_glue l, l.table, x3, read_number byte h, x4, x5, read_number bit (omega arith), at_most bit 7 small) refl

-- ---- conditions and registers

pub status_read : (source : List ℕ) (from line : ℕ) (g : _) (f : Flag) → Texts source from line (operand_pieces g (operand.OfStatus f))
    → operand_of source (tokens_of from line (operand_pieces g (operand.OfStatus f))) ≡ Some (operand.OfStatus f)
unfolding operand_of literal_of literal_at literal_token truth_of long_literal signed_number_at is_mark is_key has_kind key_text mark_text operand_by_kind word_operand lone_word_operand operand_with_number address_at letters_and_number_at separate_letters_and_number number_of_token number_up_to operand_pieces flag_kind flag_text look_up flags sign_operand condition_word_operand
status_read source from line g flag.Br (_, x1, _) = rw x1 refl
status_read source from line g flag.Ov (_, x1, _) = rw x1 refl
status_read source from line g flag.Os (_, x1, _) = rw x1 refl
status_read source from line g flag.EqZero (_, x1, _) = rw x1 refl
status_read source from line g flag.NeZero (_, x1, _) = rw x1 refl
status_read source from line g flag.GtZero (_, x1, _) = rw x1 refl
status_read source from line g flag.LtZero (_, x1, _) = rw x1 refl
status_read source from line g flag.GeZero (_, x1, _) = rw x1 refl
status_read source from line g flag.LeZero (_, x1, _) = rw x1 refl
status_read source from line g flag.Uo (_, x1, _) = rw x1 refl

pub other_read : (source : List ℕ) (from line : ℕ) (g : _) (name : List ℕ) → IsRegister name → Texts source from line (operand_pieces g (operand.Other name))
    → operand_of source (tokens_of from line (operand_pieces g (operand.Other name))) ≡ Some (operand.Other name)
unfolding operand_of literal_of literal_at literal_token truth_of long_literal signed_number_at is_mark is_key has_kind key_text mark_text operand_by_kind word_operand lone_word_operand operand_with_number address_at letters_and_number_at separate_letters_and_number number_of_token number_up_to operand_pieces condition_word_operand register_name_operand
other_read source from line g name h (_, x1, _) = rw (x1, h.no_true, h.no_false, h.no_flag, h.found) refl

-- ---- all of them

pub operand_read : (source : List ℕ) (from line : ℕ) (g : _) (o : Operand) → IsPrintedOperand o → Texts source from line (operand_pieces g o)
    → operand_of source (tokens_of from line (operand_pieces g o)) ≡ Some o
unfolding operand_pieces operand_of
operand_read source from line g operand.Nothing h t = refl
operand_read source from line g (operand.Direct name area w byte bit) h t = direct_read source from line g name area w byte bit h t
operand_read source from line g (operand.Timer n) h t = timer_read source from line g n h t
operand_read source from line g (operand.Counter n) h t = counter_read source from line g n h t
operand_read source from line g (operand.Named (head.Local name) []) h t = local_read source from line g name t
operand_read source from line g (operand.Named (head.Local name) (s ∷ steps)) h t = absurd h
operand_read source from line g (operand.Named (head.InBlock name) steps) h t = absurd h
operand_read source from line g (operand.Named (head.Symbol name) steps) h t = absurd h
operand_read source from line g (operand.ByMemory area w place byte) h t = memory_read source from line g area w place byte h.0 h.1 h.2 t
operand_read source from line g (operand.NumberBy what place byte) h t = number_by_read source from line g what place byte h.0 h.1 t
operand_read source from line g (operand.ByRegister area w register bits) h t = register_read source from line g area w register bits h.0 h.1 h.2 t
operand_read source from line g (operand.Pointer area byte bit) h t = pointer_read source from line g area byte bit h.0 h.1 h.2 t
operand_read source from line g (operand.Constant l) h t = constant_read source from line g l h t
operand_read source from line g (operand.Label name) h t = absurd h
operand_read source from line g (operand.OfStatus f) h t = status_read source from line g f t
operand_read source from line g (operand.Other name) h t = other_read source from line g name h t
operand_read source from line g (operand.OpenBlock di name) h t = absurd h
operand_read source from line g (operand.Called name instance) h t = absurd h
