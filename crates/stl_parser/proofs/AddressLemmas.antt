-- What addresses, names of blocks and pointers keep.
use Rattle.std.proofs.Common.{arith, inl, inr, ℕ, ◌*◌, ◌≡◌, ◌≤◌, ◌<◌, ◌⊎◌, Bool, true, List, [], ◌∷◌, length, refl}
use Rattle.std.specs.Prelude.{◌&&◌, nat_le, take, drop}
use Rattle.std.specs.Option.{option_map, IfSome}
use Rattle.plc_base.specs.declared.blocks.BlockKind.{BlockKind}
use Rattle.plc_base.specs.declared.places.Width.{Width}
use Rattle.plc_base.specs.declared.places.Width.TheVariants as width
use Rattle.stl_lexer.specs.declared.kinds.Token.{Token}
use Rattle.stl_lexer.specs.declared.kinds.TokenKind.TheVariants as kind
use Rattle.stl_lexer.specs.Tokens.{text_of}
use Rattle.stl_ast.specs.declared.names.BlockName.{BlockName}
use Rattle.stl_ast.specs.declared.names.BlockName.TheVariants as block
use Rattle.stl_ast.specs.declared.operands.Letters.{Letters}
use Rattle.stl_ast.specs.declared.operands.Letters.TheVariants as letters
use Rattle.stl_ast.specs.Operands.{IsNumber, IsNameOf, IsAnyName, IsBitOf, MayHoldPointer}
use Rattle.stl_parser.specs.declared.keywords.ClauseWord.TheVariants as key
use Rattle.stl_lexer.specs.declared.marks.Mark.TheVariants as mark
use Rattle.stl_parser.specs.declared.tables.AddressKind.{AddressKind}
use Rattle.stl_parser.specs.declared.tables.AddressKind.TheVariants as address
use Rattle.stl_parser.specs.Terminals.{has_kind, is_mark, is_key}
use Rattle.stl_parser.specs.Tables.{look_up, addresses}
use Rattle.plc_base.specs.Decimal.{decimal_up_to}
use Rattle.plc_base.proofs.DecimalLemmas.{decimal_range}
use Rattle.plc_base.proofs.TruthLemmas.{and_first}
use Rattle.stl_parser.specs.Numbers.{number_of_token}
use Rattle.stl_parser.specs.Addresses.{letter_count, glued_letters_and_number, separate_letters_and_number, letters_and_number_at, address_at, block_number_at, quoted_block_at, block_at, bit_of}
use Rattle.stl_parser.specs.Operands.{place_bit, register_number, offset_of, register_pointer, holds_pointer, pointer_close, pointer_end, memory_pointer}
use Rattle.stl_parser.proofs.OptionLemmas.{search_holds, map_holds, chain_holds, either, both, then_holds, also, none_holds, at_most}
use Rattle.stl_parser.proofs.RangeLemmas.{number_holds}
use Rattle.stl_parser.proofs.LengthLemmas.{numbered_rest}

glued_holds : {X : Type 0} (table : List (List ℕ × X)) (text : List ℕ) (rest : List Token) →
    IfSome (glued_letters_and_number table text rest) (λ r. IsNumber r.1)
unfolding glued_letters_and_number
glued_holds table text rest =
    chain_holds (look_up table (take (letter_count text) text)) _ (λ x. Unit {0}) (λ r. IsNumber r.1)
    (none_holds (look_up table (take (letter_count text) text)))
    (λ x h. map_holds (decimal_up_to 65535 (drop (letter_count text) text)) _ IsNumber (λ r. IsNumber r.1)
    (search_holds (decimal_up_to 65535 (drop (letter_count text) text)) IsNumber (decimal_range 65535 (drop (letter_count text) text))) (λ n k. k))

separate_holds : {X : Type 0} (table : List (List ℕ × X)) (source text : List ℕ) (tokens : List Token) →
    IfSome (separate_letters_and_number table source text tokens) (λ r. IsNumber r.1)
unfolding separate_letters_and_number
separate_holds table source text [] = tt
separate_holds table source text (n ∷ rest) =
    chain_holds (look_up table text) _ (λ x. Unit {0}) (λ r. IsNumber r.1) (none_holds (look_up table text))
    (λ x h. map_holds (number_of_token source n) _ IsNumber (λ r. IsNumber r.1) (number_holds source n) (λ n k. k))

numbered_holds : {X : Type 0} (table : List (List ℕ × X)) (source : List ℕ) (tokens : List Token) →
    IfSome (letters_and_number_at table source tokens) (λ r. IsNumber r.1)
unfolding letters_and_number_at
numbered_holds table source [] = tt
numbered_holds table source (w ∷ rest) =
    then_holds (has_kind w kind.Word) _ (λ r. IsNumber r.1)
    (λ test. either (glued_letters_and_number table (text_of source w) rest) _ (λ r. IsNumber r.1) (glued_holds table (text_of source w) rest)
    (separate_holds table source (text_of source w) rest))

-- an address: its number, and fewer tokens behind it
pub address_holds : (source : List ℕ) (tokens : List Token) →
    IfSome (address_at source tokens) (λ r. IsNumber r.1 × (length r.2 < length tokens))
unfolding address_at
address_holds source tokens =
    also (letters_and_number_at addresses source tokens) (λ r. IsNumber r.1) (λ r. length r.2 < length tokens) (numbered_holds addresses source tokens)
    (numbered_rest addresses source tokens)

block_number_holds : (source : List ℕ) (tokens : List Token) → IfSome (block_number_at source tokens) (λ r. IsNumber r.1)
unfolding block_number_at
block_number_holds source tokens = numbered_holds _ source tokens

quoted_holds : (source : List ℕ) (tokens : List Token) → IfSome (quoted_block_at source tokens) (λ r. IsAnyName r.0)
unfolding quoted_block_at
quoted_holds source [] = tt
quoted_holds source (t ∷ rest) = then_holds (has_kind t kind.Quoted) _ (λ r. IsAnyName r.0) (λ test. tt)

pub block_holds : (source : List ℕ) (tokens : List Token) → IfSome (block_at source tokens) (λ r. IsAnyName r.0)
unfolding block_at
block_holds source tokens =
    either (option_map (λ r. (block.Number (record { kind = r.0; number = r.1 }), r.2)) (block_number_at source tokens)) _ (λ r. IsAnyName r.0)
    (map_holds (block_number_at source tokens) _ (λ r. IsNumber r.1) (λ r. IsAnyName r.0) (block_number_holds source tokens) (λ r h. (tt, h)))
    (quoted_holds source tokens)

-- a name that is of a kind besides
pub named_as : (kinds : BlockKind → Type 0) (name : BlockName) → IsAnyName name →
    ((id : _) → name ≡ block.Number id → kinds id.kind) → IsNameOf kinds name
named_as kinds (block.Number id) h k = (k id refl, h.1)
named_as kinds (block.Quoted name) h k = tt

pub bit_holds : (source : List ℕ) (tokens : List Token) → IfSome (bit_of source tokens) (λ n. n ≤ 7)
unfolding bit_of
bit_holds source (dot ∷ b ∷ []) =
    then_holds (is_mark source dot mark.Dot) _ (λ n. n ≤ 7)
    (λ test. chain_holds (number_of_token source b) _ IsNumber (λ n. n ≤ 7) (number_holds source b)
    (λ n h. then_holds (nat_le n 7) _ (λ n. n ≤ 7) (λ small. at_most n 7 small)))
bit_holds source _ = tt

pub place_bit_holds : (source : List ℕ) (w : Width) (rest : List Token) → IfSome (place_bit source w rest) (IsBitOf w)
unfolding place_bit
place_bit_holds source width.Bit rest = bit_holds source rest
place_bit_holds source _ [] = refl
place_bit_holds source _ (t ∷ rest) = tt

register_holds : (source : List ℕ) (t : Token) → IfSome (register_number source t) (λ r. (r ≡ 1) ⊎ (r ≡ 2))
unfolding register_number
register_holds source t =
    both (is_key source t key.Ar1) _ _ (λ r. (r ≡ 1) ⊎ (r ≡ 2)) (inl refl)
    (both (is_key source t key.Ar2) _ _ (λ r. (r ≡ 1) ⊎ (r ≡ 2)) (inr refl) tt)

offset_holds : (source : List ℕ) (prefix n : Token) (rest : List Token) →
    IfSome (offset_of source prefix n rest) (λ bits. bits < 8 * 65536)
unfolding offset_of
offset_holds source prefix n rest =
    then_holds (is_mark source prefix mark.Pointer) _ (λ bits. bits < 8 * 65536)
    (λ test. chain_holds (number_of_token source n) _ IsNumber (λ bits. bits < 8 * 65536) (number_holds source n)
    (λ byte h. map_holds (bit_of source rest) _ (λ bit. bit ≤ 7) (λ bits. bits < 8 * 65536) (bit_holds source rest)
    (λ bit k. omega (arith, h, k))))

-- an address register and a constant, in eight tokens
pub register_pointer_holds : (source : List ℕ) (tokens : List Token) →
    IfSome (register_pointer source tokens) (λ p. ((p.0 ≡ 1) ⊎ (p.0 ≡ 2)) × (p.1 < 8 * 65536) × (8 ≤ length tokens))
unfolding register_pointer
register_pointer_holds source (open_ ∷ r ∷ comma ∷ prefix ∷ n ∷ dot ∷ b ∷ close ∷ []) =
    let P : ℕ × ℕ → Type 0 = λ p. ((p.0 ≡ 1) ⊎ (p.0 ≡ 2)) × (p.1 < 8 * 65536) × (8 ≤ 8) in
    then_holds (is_mark source open_ mark.OpenBracket && is_mark source comma mark.Comma && is_mark source close mark.CloseBracket) _ P
    (λ test. chain_holds (register_number source r) _ (λ r. (r ≡ 1) ⊎ (r ≡ 2)) P (register_holds source r)
    (λ register h. map_holds (offset_of source prefix n (dot ∷ b ∷ [])) _ (λ bits. bits < 8 * 65536) P (offset_holds source prefix n (dot ∷ b ∷ []))
    (λ bits k. (h, k, omega arith))))
register_pointer_holds source _ = tt

pointer_area : (area : Letters) → holds_pointer area ≡ true → MayHoldPointer area
unfolding holds_pointer
pointer_area letters.M test = inl refl
pointer_area letters.L test = inr (inl refl)
pointer_area letters.Db test = inr (inr (inl refl))
pointer_area letters.Di test = inr (inr (inr refl))
pointer_area _ test = cc

abbrev pub IsPointerPlace : Letters × ℕ → Type 0
IsPointerPlace p = MayHoldPointer p.0 × IsNumber p.1

pointer_close_holds : (source : List ℕ) (area : Letters) (byte : ℕ) (tokens : List Token) → IsNumber byte →
    IfSome (pointer_close source area byte tokens) IsPointerPlace
unfolding pointer_close
pointer_close_holds source area byte (close ∷ []) h =
    then_holds (holds_pointer area && is_mark source close mark.CloseBracket) _ IsPointerPlace
    (λ test. (pointer_area area (and_first (holds_pointer area) _ test), h))
pointer_close_holds source area byte _ h = tt

pointer_end_holds : (source : List ℕ) (pointer : Bool) (a : AddressKind) (byte : ℕ) (tokens : List Token) → IsNumber byte →
    IfSome (pointer_end source pointer a byte tokens) IsPointerPlace
unfolding pointer_end
pointer_end_holds source pointer (address.Area area width.Dword) byte rest h =
    then_holds pointer _ IsPointerPlace (λ test. pointer_close_holds source area byte rest h)
pointer_end_holds source pointer (address.Area area width.Word) byte rest h =
    both pointer _ _ IsPointerPlace tt (pointer_close_holds source area byte rest h)
pointer_end_holds source pointer _ byte rest h = tt

pub memory_pointer_holds : (source : List ℕ) (pointer : Bool) (tokens : List Token) →
    IfSome (memory_pointer source pointer tokens) IsPointerPlace
unfolding memory_pointer
memory_pointer_holds source pointer [] = tt
memory_pointer_holds source pointer (t ∷ rest) =
    then_holds (is_mark source t mark.OpenBracket) _ IsPointerPlace
    (λ test. chain_holds (address_at source rest) _ (λ r. IsNumber r.1 × (length r.2 < length rest)) IsPointerPlace (address_holds source rest)
    (λ r h. pointer_end_holds source pointer r.0 r.1 r.2 h.0))
