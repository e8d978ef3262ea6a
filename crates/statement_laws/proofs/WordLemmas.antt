-- In the tree of a source a word that stands alone as an operand is one of the registers.
use Rattle.std.proofs.Common.{◌≡◌, refl, ℕ, Bool, true, false, ◌&&◌, List, [], ◌∷◌, ◌++◌, drop, map, filter, cond, Option, Some, None, is_some, codes, if◌then◌else◌, arith, sym, ◌∙◌, ap, ap₂, subst}
use Rattle.std.specs.Prelude.{nat_lt, not, find}
use Rattle.std.specs.Char.{to_ascii_lowercase, to_ascii_uppercase}
use Rattle.std.specs.Str.{bytes_eq, str_eq_ignore_ascii_case, str_to_ascii_lowercase, str_to_ascii_uppercase}
use Rattle.std.specs.List.{AllByRecursion, flat_map}
use Rattle.std.specs.Option.{option_map, option_and_then, IfSome}
use Rattle.std.proofs.lemmas.Bool.{false≢true}
use Rattle.std.proofs.lemmas.Bool.Decides.{nat_tests}
use Rattle.std.proofs.lemmas.Slice.Eq.{bytes_eq-Decides}
use Rattle.plc_base.specs.Folding.{is_same_name}
use Rattle.plc_base.specs.declared.places.Width.{Width}
use Rattle.plc_base.specs.declared.places.Width.TheVariants as width
use Rattle.plc_base.proofs.ListLemmas.{all_front, all_back}
use Rattle.stl_lexer.specs.Tokens.{text_of}
use Rattle.stl_lexer.specs.declared.kinds.Token.{Token}
use Rattle.stl_lexer.specs.declared.kinds.TokenKind.{TokenKind}
use Rattle.stl_lexer.specs.declared.kinds.TokenKind.TheVariants as kind
use Rattle.stl_lexer.specs.declared.marks.Mark.TheVariants as mark
use Rattle.stl_ast.specs.Declarations.{is_elementary}
use Rattle.stl_ast.specs.declared.blocks.Block.{Block}
use Rattle.stl_ast.specs.declared.blocks.Tree.{Tree}
use Rattle.stl_ast.specs.declared.mnemonics.Mnemonic.{Mnemonic}
use Rattle.stl_ast.specs.declared.mnemonics.Mnemonic.TheVariants as mnemonic
use Rattle.stl_ast.specs.declared.names.BlockName.{BlockName}
use Rattle.stl_ast.specs.declared.names.BlockName.TheVariants as block
use Rattle.stl_ast.specs.declared.operands.Letters.{Letters}
use Rattle.stl_ast.specs.declared.operands.Numbered.{Numbered}
use Rattle.stl_ast.specs.declared.operands.Numbered.TheVariants as numbered
use Rattle.stl_ast.specs.declared.operands.Operand.{Operand}
use Rattle.stl_ast.specs.declared.operands.Operand.TheVariants as operand
use Rattle.stl_ast.specs.declared.operands.PathHead.{PathHead}
use Rattle.stl_ast.specs.declared.operands.PathHead.TheVariants as head
use Rattle.stl_ast.specs.declared.statements.Statement.{Statement}
use Rattle.stl_parser.specs.Addresses.{address_at, bit_of, block_at}
use Rattle.stl_parser.specs.Clauses as clauses
use Rattle.stl_parser.specs.Declarations.{declaration_of, structure_at}
use Rattle.stl_parser.specs.Literals.{literal_of, text_between_quotes}
use Rattle.stl_parser.specs.Numbers.{number_of_token}
use Rattle.stl_parser.specs.Operands as reads
use Rattle.stl_parser.specs.Parts.{complete_reading}
use Rattle.stl_parser.specs.Source.{IsTree, ReadsClauses}
use Rattle.stl_parser.specs.Spelling.{is_kept_by_tree, spelled_block, spelled_part, spelled_shape}
use Rattle.stl_parser.specs.Statements as states
use Rattle.stl_parser.specs.Tables.{addresses, flags, head_words, keywords, look_up, mnemonics, opening_mnemonics, registers}
use Rattle.stl_parser.specs.Terminals.{has_kind, is_key, is_mark}
use Rattle.stl_parser.specs.declared.clauses.Clause.{Clause}
use Rattle.stl_parser.specs.declared.clauses.Clause.TheVariants as clause
use Rattle.stl_parser.specs.declared.keywords.ClauseWord.TheVariants as key
use Rattle.stl_parser.specs.declared.places.ClausePlace.{ClausePlace}
use Rattle.stl_parser.specs.declared.places.ClausePlace.TheVariants as place
use Rattle.stl_parser.specs.declared.statements.BareStatement.{BareStatement}
use Rattle.stl_parser.specs.declared.tables.AddressKind.{AddressKind}
use Rattle.stl_parser.specs.declared.tables.AddressKind.TheVariants as address
use Rattle.stl_parser.specs.declared.tables.OperandSyntax.{OperandSyntax}
use Rattle.stl_parser.specs.declared.tables.OperandSyntax.TheVariants as operand_syntax
use Rattle.stl_parser.specs.declared.tables.HeadWord.{HeadWord}
use Rattle.stl_parser.specs.declared.tables.Keyword.{Keyword}
use Rattle.stl_parser.specs.declared.tables.Keyword.TheVariants as keyword
use Rattle.stl_parser.proofs.FrameLemmas.{right_clause}
use Rattle.stl_parser.proofs.OptionLemmas.{both, either, map_holds, then_holds, some_holds}
use Rattle.statement_laws.specs.NamedOperands.{NamedItem}
use Rattle.statement_laws.specs.NamedOperands as named
use Rattle.statement_laws.specs.Operands.{register_named}

-- ---- letters of either case

upper_of_lower : (c : ℕ) → to_ascii_uppercase (to_ascii_lowercase c) ≡ to_ascii_uppercase c
upper_of_lower c = grind (arith, nat_tests)

all_raised : (bytes : List ℕ) → str_to_ascii_uppercase (str_to_ascii_lowercase bytes) ≡ str_to_ascii_uppercase bytes
all_raised [] = refl
all_raised (c ∷ cs) = ap₂ (λ (d : ℕ) (ds : List ℕ). d ∷ ds) (upper_of_lower c) (all_raised cs)

-- a word that is an entry's but for case has its name
same_word : (a b : List ℕ) → str_eq_ignore_ascii_case a b ≡ true → is_same_name a b ≡ true
same_word a b e =
    ap (λ (z : List ℕ). bytes_eq (str_to_ascii_uppercase a) z) (sym upper)
    ∙ (bytes_eq-Decides (str_to_ascii_uppercase a) (str_to_ascii_uppercase a)).1 refl
  where
    upper : str_to_ascii_uppercase a ≡ str_to_ascii_uppercase b
    upper = sym (all_raised a) ∙ ap str_to_ascii_uppercase ((bytes_eq-Decides (str_to_ascii_lowercase a) (str_to_ascii_lowercase b)).0 e) ∙ all_raised b

-- what is mapped has what holds of whatever was read
mapped_holds : {A B : Type 0} (o : Option A) (f : A → B) (P : B → Type 0) → ((x : A) → P (f x))
    → IfSome (option_map f o) P
mapped_holds None f P h = tt
mapped_holds (Some x) f P h = h x

then_made : {A B : Type 0} (o : Option A) (f : A → Option B) (P : B → Type 0)
    → ((x : A) → IfSome (f x) P) → IfSome (option_and_then f o) P
then_made None f P h = tt
then_made (Some x) f P h = h x

-- ---- operands

-- a word that stands alone as an operand is one of the registers
abbrev pub HasKnownWord : Operand → Type 0
HasKnownWord (operand.Other name) = is_some (register_named name) ≡ true
HasKnownWord _ = Unit {0}

register_has : (source : List ℕ) (a : Option Letters) (w : Width) (tokens : List Token)
    → IfSome (reads.operand_by_register source a w tokens) HasKnownWord
unfolding reads.operand_by_register
register_has source a w tokens = mapped_holds (reads.register_pointer source tokens) _ HasKnownWord (λ p. tt)

path_has : (source : List ℕ) (h : PathHead) (tokens : List Token)
    → IfSome (reads.path_of source h tokens) HasKnownWord
unfolding reads.path_of
path_has source h tokens = mapped_holds (complete_reading (reads.steps_from source [] tokens)) _ HasKnownWord (λ steps. tt)

block_path_has : (source : List ℕ) (name : BlockName) (tokens : List Token)
    → IfSome (reads.block_path source name tokens) HasKnownWord
unfolding reads.block_path
block_path_has source name [] = tt
block_path_has source name (w ∷ rest) =
    then_holds (has_kind w kind.Word) _ HasKnownWord
    (λ test. mapped_holds (complete_reading (reads.steps_from source _ rest)) _ HasKnownWord (λ steps. tt))

in_block_has : (source : List ℕ) (name : BlockName) (tokens : List Token)
    → IfSome (reads.operand_in_block source name tokens) HasKnownWord
unfolding reads.operand_in_block
in_block_has source name tokens =
    either _ (reads.block_path source name tokens) HasKnownWord
    (mapped_holds (reads.block_place source tokens) _ HasKnownWord (λ p. tt)) (block_path_has source name tokens)

behind_block_has : (source : List ℕ) (name : BlockName) (tokens : List Token)
    → IfSome (reads.operand_behind_block source name tokens) HasKnownWord
unfolding reads.operand_behind_block
behind_block_has source name [] = tt
behind_block_has source name (dot ∷ rest) =
    then_holds (is_mark source dot mark.Dot) _ HasKnownWord (λ test. in_block_has source name rest)

data_block_has : (source : List ℕ) (n : ℕ) (tokens : List Token)
    → IfSome (reads.data_block_operand source n tokens) HasKnownWord
unfolding reads.data_block_operand
data_block_has source n [] = tt
data_block_has source n (t ∷ rest) =
    behind_block_has source (reads.data_block_name n) (t ∷ rest)

area_has : (source : List ℕ) (a : Letters) (w : Width) (byte : ℕ) (rest : List Token)
    → IfSome (reads.area_operand source a w byte rest) HasKnownWord
unfolding reads.area_operand
area_has source a w byte rest = mapped_holds (reads.place_bit source w rest) _ HasKnownWord (λ bit. tt)

direct_has : (source : List ℕ) (a : AddressKind) (n : ℕ) (rest : List Token)
    → IfSome (reads.direct_address_operand source a n rest) HasKnownWord
unfolding reads.direct_address_operand
direct_has source (address.Area a w) n rest = area_has source a w n rest
direct_has source address.Timer n [] = tt
direct_has source address.Timer n (t ∷ rest) = tt
direct_has source address.Counter n [] = tt
direct_has source address.Counter n (t ∷ rest) = tt
direct_has source (address.Block false) n rest = data_block_has source n rest
direct_has source (address.Block true) n [] = tt
direct_has source (address.Block true) n (t ∷ rest) = tt

number_has : (source : List ℕ) (what : Numbered) (tokens : List Token)
    → IfSome (reads.operand_by_memory_number source what tokens) HasKnownWord
unfolding reads.operand_by_memory_number
number_has source what tokens = mapped_holds (reads.memory_pointer source false tokens) _ HasKnownWord (λ p. tt)

area_by_has : (source : List ℕ) (a : Letters) (w : Width) (tokens : List Token)
    → IfSome (reads.operand_by_pointer source a w tokens) HasKnownWord
unfolding reads.operand_by_pointer
area_by_has source a w tokens =
    either _ (reads.operand_by_register source (Some a) w tokens) HasKnownWord
    (mapped_holds (reads.memory_pointer source true tokens) _ HasKnownWord (λ p. tt))
    (register_has source (Some a) w tokens)

indirect_has : (source : List ℕ) (a : AddressKind) (tokens : List Token)
    → IfSome (reads.indirect_operand source a tokens) HasKnownWord
unfolding reads.indirect_operand
indirect_has source (address.Area a w) tokens = area_by_has source a w tokens
indirect_has source address.Timer tokens = number_has source numbered.Timer tokens
indirect_has source address.Counter tokens = number_has source numbered.Counter tokens
indirect_has source (address.Block false) tokens = number_has source numbered.Db tokens
indirect_has source (address.Block true) tokens = number_has source numbered.Di tokens

area_pointer_has : (source : List ℕ) (a : AddressKind) (byte : ℕ) (rest : List Token)
    → IfSome (reads.area_pointer source a byte rest) HasKnownWord
unfolding reads.area_pointer
area_pointer_has source (address.Area a width.Bit) byte rest =
    mapped_holds (bit_of source rest) _ HasKnownWord (λ bit. tt)
area_pointer_has source (address.Area a width.Byte) byte rest = tt
area_pointer_has source (address.Area a width.Word) byte rest = tt
area_pointer_has source (address.Area a width.Dword) byte rest = tt
area_pointer_has source address.Timer byte rest = tt
area_pointer_has source address.Counter byte rest = tt
area_pointer_has source (address.Block di) byte rest = tt

plain_pointer_has : (source : List ℕ) (tokens : List Token)
    → IfSome (reads.plain_pointer source tokens) HasKnownWord
unfolding reads.plain_pointer
plain_pointer_has source [] = tt
plain_pointer_has source (n ∷ rest) =
    then_made (number_of_token source n) _ HasKnownWord (λ byte. mapped_holds (bit_of source rest) _ HasKnownWord (λ bit. tt))

pointer_has : (source : List ℕ) (tokens : List Token) → IfSome (reads.pointer_constant_operand source tokens) HasKnownWord
unfolding reads.pointer_constant_operand
pointer_has source tokens =
    either (reads.plain_pointer source tokens) _ HasKnownWord (plain_pointer_has source tokens)
    (then_made (address_at source tokens) _ HasKnownWord (λ r. area_pointer_has source r.0 r.1 r.2))

condition_has : (source : List ℕ) (t : Token) → IfSome (reads.condition_word_operand source t) HasKnownWord
unfolding reads.condition_word_operand
condition_has source t = mapped_holds (look_up flags (text_of source t)) _ HasKnownWord (λ flag. tt)

-- ---- registers

here : (n : Bool) (x : NamedItem) (o : Option NamedItem) → n ≡ true
    → is_some (if n then Some x else o) ≡ true
here true x o e = refl
here false x o e = absurd (false≢true e)

later : (n : Bool) (x : NamedItem) (o : Option NamedItem) → is_some o ≡ true
    → is_some (if n then Some x else o) ≡ true
later true x o e = refl
later false x o e = e

-- the entry in front of a table, or one behind it
entry : (name word : List ℕ) (x : NamedItem) (o : Option NamedItem) (rest : List (List ℕ × Bool))
    → (look_up rest name ≡ Some true → is_some o ≡ true)
    → look_up ((word, true) ∷ rest) name ≡ Some true
    → is_some (if is_same_name name word then Some x else o) ≡ true
unfolding look_up
entry name word x o rest more e = by (str_eq_ignore_ascii_case name word) refl e
  where
    by : (t : Bool) → str_eq_ignore_ascii_case name word ≡ t
        → option_map (λ (e : List ℕ × Bool). e.1)
        (if t then Some (word, true)
        else find (λ (e : List ℕ × Bool). str_eq_ignore_ascii_case name e.0) rest) ≡ Some true
        → is_some (if is_same_name name word then Some x else o) ≡ true
    by true is h = here (is_same_name name word) x o (same_word name word is)
    by false is h = later (is_same_name name word) x o (more h)

-- no instruction has AR1 as its operand
no_other : (name word : List ℕ) → look_up ((word, false) ∷ []) name ≡ Some true → false ≡ true
unfolding look_up
no_other name word e = by (str_eq_ignore_ascii_case name word) e
  where
    by : (t : Bool)
        → option_map (λ (e : List ℕ × Bool). e.1) (if t then Some (word, false) else None) ≡ Some true
        → false ≡ true
    by true h = cc
    by false h = absurd cc

register_known : (name : List ℕ) → look_up registers name ≡ Some true → is_some (register_named name) ≡ true
unfolding registers
register_known name e =
    entry name (codes "STW") named.StatusWord _ _
    (entry name (codes "DBLG") (named.Opened named.DbLength) _ _
    (entry name (codes "DBNO") (named.Opened named.DbNumber) _ _
    (entry name (codes "DILG") (named.Opened named.DiLength) _ _
    (entry name (codes "DINO") (named.Opened named.DiNumber) _ _
    (entry name (codes "AR2") named.SecondRegister _ _ (no_other name (codes "AR1")))))))
    e

other_has : (source : List ℕ) (t : Token) → IfSome (reads.register_name_operand source t) HasKnownWord
unfolding reads.register_name_operand
other_has source t = by (look_up registers (text_of source t)) refl
  where
    by : (found : Option Bool) → look_up registers (text_of source t) ≡ found
        → IfSome (reads.register_name_operand_if (text_of source t) found) HasKnownWord
    by (Some true) e = register_known (text_of source t) e
    by (Some false) e = tt
    by None e = tt

alone_has : (source : List ℕ) (t : Token) (rest : List Token)
    → IfSome (reads.lone_word_operand source t rest) HasKnownWord
unfolding reads.lone_word_operand
alone_has source t [] =
    either (reads.condition_word_operand source t) (reads.register_name_operand source t) HasKnownWord (condition_has source t)
    (other_has source t)
alone_has source t (u ∷ rest) = tt

plain_path_has : (source : List ℕ) (t : Token) (rest : List Token)
    → IfSome (reads.plain_path source t rest) HasKnownWord
unfolding reads.plain_path
plain_path_has source t rest =
    both (reads.is_operand_word source t) None _ HasKnownWord tt
    (path_has source (head.Local (text_of source t)) rest)

sized_has : (source : List ℕ) (t : Token) (rest : List Token)
    → IfSome (reads.operand_by_sized_register source t rest) HasKnownWord
unfolding reads.operand_by_sized_register
sized_has source t rest =
    both (is_key source t key.B) _ _ HasKnownWord (register_has source None width.Byte rest)
    (both (is_key source t key.W) _ _ HasKnownWord (register_has source None width.Word rest)
    (then_holds (is_key source t key.D) _ HasKnownWord (λ test. register_has source None width.Dword rest)))

with_number_has : (source : List ℕ) (tokens : List Token)
    → IfSome (reads.operand_with_number source tokens) HasKnownWord
unfolding reads.operand_with_number
with_number_has source tokens =
    then_made (address_at source tokens) _ HasKnownWord (λ r. direct_has source r.0 r.1 r.2)

with_pointer_has : (source : List ℕ) (t : Token) (rest : List Token)
    → IfSome (reads.operand_with_pointer source t rest) HasKnownWord
unfolding reads.operand_with_pointer
with_pointer_has source t rest =
    then_made (look_up addresses (text_of source t)) _ HasKnownWord (λ a. indirect_has source a rest)

word_has : (source : List ℕ) (t : Token) (rest tokens : List Token)
    → IfSome (reads.word_operand source t rest tokens) HasKnownWord
unfolding reads.word_operand
word_has source t rest tokens =
    either (reads.lone_word_operand source t rest) _ HasKnownWord (alone_has source t rest)
    (either (reads.operand_with_number source tokens) _ HasKnownWord (with_number_has source tokens)
    (either (reads.operand_with_pointer source t rest) _ HasKnownWord (with_pointer_has source t rest)
    (either (reads.operand_by_sized_register source t rest) _ HasKnownWord (sized_has source t rest)
    (plain_path_has source t rest))))

quoted_has : (source : List ℕ) (t : Token) (rest : List Token)
    → IfSome (reads.quoted_operand source t rest) HasKnownWord
unfolding reads.quoted_operand
quoted_has source t [] = tt
quoted_has source t (u ∷ rest) =
    behind_block_has source (block.Quoted (text_between_quotes (text_of source t))) (u ∷ rest)

mark_has : (source : List ℕ) (t : Token) (rest tokens : List Token)
    → IfSome (reads.mark_operand source t rest tokens) HasKnownWord
unfolding reads.mark_operand
mark_has source t rest tokens =
    both (is_mark source t mark.Pointer) _ _ HasKnownWord (pointer_has source rest)
    (register_has source None width.Bit tokens)

sign_has : (source : List ℕ) (t : Token) (rest : List Token)
    → IfSome (reads.sign_operand source t rest) HasKnownWord
unfolding reads.sign_operand
sign_has source t [] = condition_has source t
sign_has source t (u ∷ rest) = tt

local_has : (source : List ℕ) (t : Token) (rest : List Token)
    → IfSome (reads.local_path source t rest) HasKnownWord
unfolding reads.local_path
local_has source t rest = path_has source (head.Local (drop 1 (text_of source t))) rest

kind_has : (source : List ℕ) (t : Token) (rest tokens : List Token) (k : TokenKind)
    → IfSome (reads.operand_by_kind source t rest tokens k) HasKnownWord
unfolding reads.operand_by_kind
kind_has source t rest tokens kind.Word = word_has source t rest tokens
kind_has source t rest tokens kind.Quoted = quoted_has source t rest
kind_has source t rest tokens kind.Local = local_has source t rest
kind_has source t rest tokens kind.Mark = mark_has source t rest tokens
kind_has source t rest tokens kind.SignWord = sign_has source t rest
kind_has source t rest tokens _ = tt

operand_has : (source : List ℕ) (tokens : List Token) → IfSome (reads.operand_of source tokens) HasKnownWord
unfolding reads.operand_of
operand_has source [] = tt
operand_has source (t ∷ rest) =
    either (option_map operand.Constant (literal_of source (t ∷ rest))) _ HasKnownWord
    (mapped_holds (literal_of source (t ∷ rest)) _ HasKnownWord (λ l. tt))
    (kind_has source t rest (t ∷ rest) t.kind)

-- ---- statements

abbrev BareHasKnownWord : BareStatement → Type 0
BareHasKnownWord i = HasKnownWord i.operand

with_operand_has : (source : List ℕ) (code : Mnemonic) (tokens : List Token)
    → IfSome (states.statement_with_operand source code tokens) BareHasKnownWord
unfolding states.statement_with_operand
with_operand_has source code tokens =
    map_holds (reads.operand_of source tokens) _ HasKnownWord BareHasKnownWord (operand_has source tokens) (λ o k. k)

jump_has : (source : List ℕ) (code : Mnemonic) (tokens : List Token)
    → IfSome (states.jump_of source code tokens) BareHasKnownWord
unfolding states.jump_of
jump_has source code [] = with_operand_has source code []
jump_has source code (t ∷ []) =
    both (has_kind t kind.Word) _ _ BareHasKnownWord tt (with_operand_has source code (t ∷ []))
jump_has source code (t ∷ u ∷ rest) = with_operand_has source code (t ∷ u ∷ rest)

open_has : (source : List ℕ) (code : Mnemonic) (tokens : List Token)
    → IfSome (states.open_of source code tokens) BareHasKnownWord
unfolding states.open_of
open_has source code [] = with_operand_has source code []
open_has source code (t ∷ []) =
    both (has_kind t kind.Quoted) _ _ BareHasKnownWord tt (with_operand_has source code (t ∷ []))
open_has source code (t ∷ u ∷ rest) = with_operand_has source code (t ∷ u ∷ rest)

block_call_has : (source : List ℕ) (code : Mnemonic) (tokens : List Token)
    → IfSome (states.block_call_of source code tokens) BareHasKnownWord
unfolding states.block_call_of
block_call_has source code tokens =
    mapped_holds (complete_reading (block_at source tokens)) _ BareHasKnownWord (λ name. tt)

call_has : (source : List ℕ) (code : Mnemonic) (tokens : List Token)
    → IfSome (states.call_of source code tokens) BareHasKnownWord
unfolding states.call_of
call_has source code tokens =
    then_made (block_at source tokens) _ BareHasKnownWord
    (λ b. then_made (states.instance_at source b.0 b.1) _ BareHasKnownWord
    (λ i. mapped_holds (states.actuals_of source i.1) _ BareHasKnownWord (λ actuals. tt)))

behind_word_has : (source : List ℕ) (f : OperandSyntax) (code : Mnemonic) (tokens : List Token)
    → IfSome (states.behind_word source f code tokens) BareHasKnownWord
unfolding states.behind_word
behind_word_has source operand_syntax.Operand code tokens = with_operand_has source code tokens
behind_word_has source operand_syntax.Jump code tokens = jump_has source code tokens
behind_word_has source operand_syntax.Open code tokens = open_has source code tokens
behind_word_has source operand_syntax.BlockCall code tokens = block_call_has source code tokens
behind_word_has source operand_syntax.Call code tokens = call_has source code tokens

opening_has : (source : List ℕ) (t : Token) (rest : List Token)
    → IfSome (states.opening_instruction source t rest) BareHasKnownWord
unfolding states.opening_instruction
opening_has source t rest =
    then_made (look_up opening_mnemonics (text_of source t)) _ BareHasKnownWord
    (λ m. then_made (states.after_paren source rest) _ BareHasKnownWord
    (λ behind. with_operand_has source m behind))

zone_end_has : (source : List ℕ) (t : Token) (rest : List Token)
    → IfSome (states.zone_end_of source t rest) BareHasKnownWord
unfolding states.zone_end_of
zone_end_has source t [] = tt
zone_end_has source t (w ∷ rest) =
    then_holds (is_mark source t mark.CloseParen && is_key source w key.Mcr) _ BareHasKnownWord
    (λ test. with_operand_has source mnemonic.McrClose rest)

closed_has : (source : List ℕ) (t : Token) (rest : List Token)
    → IfSome (states.one_token_instruction source t rest) BareHasKnownWord
unfolding states.one_token_instruction
closed_has source t rest =
    then_made (look_up mnemonics (text_of source t)) _ BareHasKnownWord
    (λ m. behind_word_has source m.1 m.0 rest)

instruction_has : (source : List ℕ) (tokens : List Token)
    → IfSome (states.instruction_of source tokens) BareHasKnownWord
unfolding states.instruction_of
instruction_has source [] = tt
instruction_has source (t ∷ rest) =
    either (states.opening_instruction source t rest) _ BareHasKnownWord (opening_has source t rest)
    (either (states.zone_end_of source t rest) _ BareHasKnownWord (zone_end_has source t rest)
    (closed_has source t rest))

abbrev pub StatementHasKnownWord : Statement → Type 0
StatementHasKnownWord s = HasKnownWord s.operand

abbrev ReadHas : Statement × Bool → Type 0
ReadHas r = StatementHasKnownWord r.0

labelled_has : (source : List ℕ) (line : ℕ) (w : Token) (rest : List Token)
    → IfSome (states.labelled_statement source line w rest) ReadHas
unfolding states.labelled_statement
labelled_has source line w rest =
    map_holds (states.instruction_of source rest) _ BareHasKnownWord ReadHas (instruction_has source rest) (λ i k. k)

unlabelled_has : (source : List ℕ) (line : ℕ) (tokens : List Token)
    → IfSome (states.unlabelled_statement source line tokens) ReadHas
unfolding states.unlabelled_statement
unlabelled_has source line tokens =
    map_holds (states.instruction_of source tokens) _ BareHasKnownWord ReadHas (instruction_has source tokens) (λ i k. k)

statement_has : (source : List ℕ) (line : ℕ) (tokens : List Token)
    → IfSome (states.statement_of source line tokens) ReadHas
unfolding states.statement_of
statement_has source line [] = tt
statement_has source line (w ∷ []) = unlabelled_has source line (w ∷ [])
statement_has source line (w ∷ colon ∷ rest) =
    both (has_kind w kind.Word && is_mark source colon mark.Colon) _ _ ReadHas
    (labelled_has source line w rest) (unlabelled_has source line (w ∷ colon ∷ rest))

-- ---- clauses

abbrev ClauseHasKnownWord : Clause → Type 0
ClauseHasKnownWord (clause.Runs s) = StatementHasKnownWord s
ClauseHasKnownWord _ = Unit {0}

abbrev FirstClauseHas : Clause × List Token × Bool → Type 0
FirstClauseHas r = ClauseHasKnownWord r.0

abbrev InsideHas : Clause × Bool → Type 0
InsideHas r = ClauseHasKnownWord r.0

inside_has : (source : List ℕ) (p : ClausePlace) (line : ℕ) (inside : List Token)
    → IfSome (clauses.inside_clause source p line inside) InsideHas
unfolding clauses.inside_clause clauses.declaration_clause clauses.statement_clause clauses.setting_clause
inside_has source p line inside =
    either (clauses.declaration_clause source p inside) _ InsideHas
    (then_made (declaration_of source (clauses.level_at p) inside) _ InsideHas
    (λ d. both (clauses.takes_parameters p && not (is_elementary d)) None _ InsideHas tt tt))
    (either (clauses.statement_clause source line inside) _ InsideHas
    (map_holds (states.statement_of source line inside) _ ReadHas InsideHas
    (statement_has source line inside) (λ r k. k))
    (mapped_holds (clauses.setting_of source line inside) _ InsideHas (λ s. tt)))

plain_has : (source : List ℕ) (p : ClausePlace) (line : ℕ) (tokens : List Token)
    → IfSome (clauses.plain_clause source p line tokens) FirstClauseHas
unfolding clauses.plain_clause clauses.structure_clause clauses.semicolon_clause
plain_has source p line tokens =
    either (clauses.structure_clause source p tokens) _ FirstClauseHas
    (both (clauses.takes_parameters p) None _ FirstClauseHas tt
    (mapped_holds (structure_at source (clauses.level_at p) tokens) _ FirstClauseHas (λ r. tt)))
    (then_made (clauses.until_semicolon source tokens) _ FirstClauseHas
    (λ cut.
    map_holds (clauses.inside_clause source p line cut.0) _ InsideHas FirstClauseHas
    (inside_has source p line cut.0) (λ c k. k)))

other_clause_has : (source : List ℕ) (p : ClausePlace) (line : ℕ) (tokens : List Token)
    → IfSome (clauses.other_clause source p line tokens) FirstClauseHas
unfolding clauses.other_clause clauses.base_block_at
other_clause_has source p line tokens =
    both (clauses.in_data_head p) _ _ FirstClauseHas
    (either _ (clauses.plain_clause source p line tokens) FirstClauseHas
    (then_made (block_at source tokens) _ FirstClauseHas
    (λ r. then_holds (clauses.is_base_block r.0) _ FirstClauseHas (λ test. tt)))
    (plain_has source p line tokens))
    (plain_has source p line tokens)

keyword_has : (source : List ℕ) (p : ClausePlace) (line : ℕ) (k : Keyword) (rest : List Token)
    → IfSome (clauses.keyword_clause source p line k rest) FirstClauseHas
unfolding clauses.keyword_clause clauses.head_clause clauses.structure_end clauses.inner_end
keyword_has source p line (keyword.Opens k) rest =
    then_made (clauses.block_of_kind_at source k rest) _ FirstClauseHas
    (λ b. mapped_holds (clauses.result_at source k b.1) _ FirstClauseHas (λ r. tt))
keyword_has source p line (keyword.Ends k) rest = tt
keyword_has source p line (keyword.Section k) rest = tt
keyword_has source p line keyword.EndSection rest = tt
keyword_has source p line keyword.Begin rest = tt
keyword_has source p line keyword.Network rest = tt
keyword_has source p line keyword.Structure rest = tt
keyword_has source p line keyword.EndStructure rest =
    both (nat_lt 0 (clauses.level_at p)) _ _ FirstClauseHas (inner rest) tt
  where
    inner : (tokens : List Token) → IfSome (clauses.inner_end source tokens) FirstClauseHas
    inner [] = tt
    inner (t ∷ more) = then_holds (is_mark source t mark.Semicolon) _ FirstClauseHas (λ test. tt)

free_word_has : (source : List ℕ) (p : ClausePlace) (t : Token) (rest tokens : List Token)
    (w : Option HeadWord)
    → IfSome (clauses.free_word_clause source p t rest tokens w) FirstClauseHas
unfolding clauses.free_word_clause clauses.head_word_clause
free_word_has source p t rest tokens (Some w) =
    both (clauses.is_outer p) _ _ FirstClauseHas
    (mapped_holds (clauses.head_word_at source w rest) _ FirstClauseHas (λ behind. tt))
    (other_clause_has source p t.line tokens)
free_word_has source p t rest tokens None = other_clause_has source p t.line tokens

word_clause_has : (source : List ℕ) (p : ClausePlace) (t : Token) (rest tokens : List Token)
    (k : Option Keyword)
    → IfSome (clauses.word_clause source p t rest tokens k) FirstClauseHas
unfolding clauses.word_clause
word_clause_has source p t rest tokens (Some k) = keyword_has source p t.line k rest
word_clause_has source p t rest tokens None =
    free_word_has source p t rest tokens (look_up head_words (text_of source t))

clause_kind_has : (source : List ℕ) (p : ClausePlace) (t : Token) (rest tokens : List Token)
    (k : TokenKind)
    → IfSome (clauses.clause_by_kind source p t rest tokens k) FirstClauseHas
unfolding clauses.clause_by_kind
clause_kind_has source p t rest tokens kind.Word =
    word_clause_has source p t rest tokens (look_up keywords (text_of source t))
clause_kind_has source p t rest tokens kind.Attribute = tt
clause_kind_has source p t rest tokens kind.Title = tt
clause_kind_has source p t rest tokens _ = other_clause_has source p t.line tokens

clause_has : (source : List ℕ) (p : ClausePlace) (tokens : List Token)
    → IfSome (clauses.clause_at source p tokens) FirstClauseHas
unfolding clauses.clause_at
clause_has source p [] = tt
clause_has source p (t ∷ rest) = clause_kind_has source p t rest (t ∷ rest) t.kind

-- ---- the tree

reads_has : (source : List ℕ) (p : ClausePlace) (ts : List Token) (cs : List Clause)
    (q : ClausePlace) (rest : List Token) → ReadsClauses source p ts cs q rest
    → AllByRecursion ClauseHasKnownWord cs
reads_has source p ts [] q rest reads = tt
reads_has source p ts (c ∷ cs) q rest reads =
    let right = right_clause source p ts c reads.0 reads.1 reads.2 in (
      some_holds (clauses.clause_at source p ts) (c, reads.0, false) FirstClauseHas right.0
          (clause_has source p ts),
      reads_has source reads.1 reads.0 cs q rest reads.3,
    )

kept_has : (cs : List Clause) → AllByRecursion ClauseHasKnownWord cs
    → AllByRecursion ClauseHasKnownWord (filter is_kept_by_tree cs)
kept_has [] h = tt
kept_has (c ∷ cs) h = by (is_kept_by_tree c) (kept_has cs h.1)
  where
    by : (b : Bool) → AllByRecursion ClauseHasKnownWord (filter is_kept_by_tree cs)
        → AllByRecursion ClauseHasKnownWord (cond b (c ∷ filter is_kept_by_tree cs) (filter is_kept_by_tree cs))
    by true more = (h.0, more)
    by false more = more

body_has : (body : List Statement) → AllByRecursion ClauseHasKnownWord (map clause.Runs body)
    → AllByRecursion StatementHasKnownWord body
body_has [] h = tt
body_has (s ∷ body) h = (h.0, body_has body h.1)

block_has : (b : Block) → AllByRecursion ClauseHasKnownWord (spelled_block b)
    → AllByRecursion StatementHasKnownWord b.body
block_has b h =
    let ends = clause.Ends b.end_line b.kind ∷ [] in
    let runs = map clause.Runs b.body in
    let shaped = all_back ClauseHasKnownWord (flat_map spelled_part b.parts) _ h.1 in
    let set = all_back ClauseHasKnownWord (spelled_shape b.shape b.instance_of b.components) _ shaped in
    let body = all_back ClauseHasKnownWord (map clause.Sets b.settings) (runs ++ ends) set in
    body_has b.body (all_front ClauseHasKnownWord runs ends body)

blocks_have : (bs : List Block) → AllByRecursion ClauseHasKnownWord (flat_map spelled_block bs)
    → AllByRecursion (λ b. AllByRecursion StatementHasKnownWord b.body) bs
blocks_have [] h = tt
blocks_have (b ∷ bs) h = (
  block_has b (all_front ClauseHasKnownWord (spelled_block b) (flat_map spelled_block bs) h),
  blocks_have bs (all_back ClauseHasKnownWord (spelled_block b) (flat_map spelled_block bs) h),
)

-- in the tree of a source a word that stands alone as an operand is one of the registers
pub words_known : (source : List ℕ) (tokens : List Token) (t : Tree) → IsTree source tokens t
    → AllByRecursion (λ (b : Block). AllByRecursion StatementHasKnownWord b.body) t.blocks
words_known source tokens t is =
    blocks_have t.blocks
    (subst (AllByRecursion ClauseHasKnownWord) (sym is.those)
    (kept_has is.clauses
    (reads_has source place.Outside tokens is.clauses place.Outside [] is.reads)))
