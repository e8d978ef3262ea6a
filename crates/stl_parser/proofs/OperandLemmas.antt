-- What an operand keeps, and how many bytes its op takes at most for its tokens.
use Rattle.std.proofs.Common.{arith, ℕ, ◌+◌, ◌*◌, ◌≡◌, ◌≤◌, ◌<◌, Bool, true, false, List, [], ◌∷◌, ◌++◌, length, Option, Some, None, refl}
use Rattle.std.specs.Prelude.{drop}
use Rattle.std.specs.Option.{option_map, IfSome}
use Rattle.plc_base.specs.declared.places.Width.{Width}
use Rattle.plc_base.specs.declared.places.Width.TheVariants as width
use Rattle.stl_lexer.specs.declared.kinds.Token.{Token}
use Rattle.stl_lexer.specs.declared.kinds.TokenKind.{TokenKind}
use Rattle.stl_lexer.specs.declared.kinds.TokenKind.TheVariants as kind
use Rattle.stl_lexer.specs.Tokens.{text_of}
use Rattle.stl_ast.specs.declared.blocks.PathStep.{PathStep}
use Rattle.stl_ast.specs.declared.blocks.PathStep.TheVariants as step
use Rattle.stl_ast.specs.declared.names.BlockName.{BlockName}
use Rattle.stl_ast.specs.declared.names.BlockName.TheVariants as block
use Rattle.stl_ast.specs.declared.operands.Letters.{Letters}
use Rattle.stl_ast.specs.declared.operands.Letters.TheVariants as letters
use Rattle.stl_ast.specs.declared.operands.Numbered.{Numbered}
use Rattle.stl_ast.specs.declared.operands.Numbered.TheVariants as numbered
use Rattle.stl_ast.specs.declared.operands.Operand.{Operand}
use Rattle.stl_ast.specs.declared.operands.Operand.TheVariants as operand
use Rattle.stl_ast.specs.declared.operands.PathHead.TheVariants as head
use Rattle.stl_ast.specs.Literals.{IsDecimal, IsLiteral}
use Rattle.stl_ast.specs.Operands.{IsNumber, IsDataBlockName, IsBitOf, IsStep, AreSteps, BeginsByName, IsOperand}
use Rattle.stl_ast.specs.Sizes.{operand_ops_size}
use Rattle.stl_ast.specs.Statements.{is_nothing, is_label, names_called_block}
use Rattle.stl_parser.specs.declared.keywords.ClauseWord.TheVariants as key
use Rattle.stl_lexer.specs.declared.marks.Mark.TheVariants as mark
use Rattle.stl_parser.specs.declared.tables.AddressKind.{AddressKind}
use Rattle.stl_parser.specs.declared.tables.AddressKind.TheVariants as address
use Rattle.stl_parser.specs.Terminals.{has_kind, is_mark, is_key}
use Rattle.stl_parser.specs.Tables.{look_up, addresses, flags, registers}
use Rattle.stl_parser.specs.Numbers.{number_of_token, int_at}
use Rattle.stl_parser.specs.Parts.{complete_reading}
use Rattle.stl_parser.specs.Literals.{text_between_quotes, literal_of}
use Rattle.stl_parser.specs.Addresses.{address_at, bit_of}
use Rattle.stl_parser.specs.Operands as spec
use Rattle.stl_parser.proofs.OptionLemmas.{map_holds, chain_holds, either, both, then_holds, none_holds, weaker_holds, whole_holds, parts_hold, all_push}
use Rattle.stl_parser.proofs.RangeLemmas.{number_holds, FirstIsDecimal, int_holds}
use Rattle.stl_parser.proofs.LiteralLemmas.{literal_holds}
use Rattle.stl_parser.proofs.AddressLemmas.{address_holds, bit_holds, place_bit_holds, register_pointer_holds, IsPointerPlace, memory_pointer_holds}

-- an operand that is read from a token and `more` behind it: no block that is called, no label, and not nothing
abbrev pub IsRead : ℕ → Operand → Type 0
IsRead more o =
    IsOperand o × (operand_ops_size o ≤ 8 + 4 * more) × (names_called_block o ≡ false) × (is_label o ≡ false) × (is_nothing o ≡ false)

abbrev FirstIsStep : PathStep × List Token → Type 0
FirstIsStep r = IsStep r.0

index_holds : (source : List ℕ) (at : _) (tokens : List Token) → IsDecimal at → IfSome (spec.index_end source at tokens) FirstIsStep
unfolding spec.index_end
index_holds source at [] h = tt
index_holds source at (close ∷ rest) h = then_holds (is_mark source close mark.CloseBracket) _ FirstIsStep (λ test. h)

name_step_holds : (source : List ℕ) (tokens : List Token) → IfSome (spec.name_step source tokens) FirstIsStep
unfolding spec.name_step
name_step_holds source [] = tt
name_step_holds source (w ∷ rest) = then_holds (has_kind w kind.Word) _ FirstIsStep (λ test. tt)

step_holds : (source : List ℕ) (tokens : List Token) → IfSome (spec.step_at source tokens) FirstIsStep
unfolding spec.step_at
step_holds source [] = tt
step_holds source (t ∷ rest) =
    both (is_mark source t mark.Dot) _ _ FirstIsStep (name_step_holds source rest)
    (then_holds (is_mark source t mark.OpenBracket) _ FirstIsStep
    (λ test. chain_holds (int_at source rest) _ FirstIsDecimal FirstIsStep (int_holds source rest) (λ r h. index_holds source r.0 r.1 h)))

steps_hold : (source : List ℕ) (first : List PathStep) (tokens : List Token) → AreSteps first →
    IfSome (spec.steps_from source first tokens) (λ r. AreSteps r.0)
unfolding spec.steps_from
steps_hold source first tokens h =
    parts_hold (spec.path_end source) (spec.step_at source) first (length tokens) tokens (λ xs ts. AreSteps xs) AreSteps h
    (λ xs ts k. weaker_holds (spec.step_at source ts) FirstIsStep (λ r. AreSteps (xs ++ r.0 ∷ [])) (step_holds source ts)
    (λ r one. all_push IsStep xs r.0 k one)) (λ xs ts k. k)

begins_push : (xs : List PathStep) (x : PathStep) → BeginsByName xs → BeginsByName (xs ++ x ∷ [])
begins_push [] x h = absurd h
begins_push (step.Named name ∷ xs) x h = tt
begins_push (step.Index at ∷ xs) x h = absurd h

abbrev pub IsNamedPath : List PathStep → Type 0
IsNamedPath steps = BeginsByName steps × AreSteps steps

-- a path that begins with a name keeps to begin with it
pub named_steps_hold : (source : List ℕ) (first : List PathStep) (tokens : List Token) → IsNamedPath first →
    IfSome (spec.steps_from source first tokens) (λ r. IsNamedPath r.0)
unfolding spec.steps_from
named_steps_hold source first tokens h =
    parts_hold (spec.path_end source) (spec.step_at source) first (length tokens) tokens (λ xs ts. IsNamedPath xs) IsNamedPath h
    (λ xs ts k. weaker_holds (spec.step_at source ts) FirstIsStep (λ r. IsNamedPath (xs ++ r.0 ∷ [])) (step_holds source ts)
    (λ r one. (begins_push xs r.0 k.0, all_push IsStep xs r.0 k.1 one))) (λ xs ts k. k)

path_holds : (source name : List ℕ) (tokens : List Token) (more : ℕ) → IfSome (spec.path_of source (head.Local name) tokens) (IsRead more)
unfolding spec.path_of
path_holds source name tokens more =
    map_holds (complete_reading (spec.steps_from source [] tokens)) _ AreSteps (IsRead more)
    (whole_holds (spec.steps_from source [] tokens) AreSteps (steps_hold source [] tokens tt))
    (λ steps h. (h, omega arith, refl, refl, refl))

area_holds : (source : List ℕ) (area : Letters) (w : Width) (byte : ℕ) (rest : List Token) (more : ℕ) → IsNumber byte →
    IfSome (spec.area_operand source area w byte rest) (IsRead more)
unfolding spec.area_operand
area_holds source area w byte rest more h =
    map_holds (spec.place_bit source w rest) _ (IsBitOf w) (IsRead more) (place_bit_holds source w rest)
    (λ bit k. ((tt, h, k), omega arith, refl, refl, refl))

abbrev IsPlaceOfWidth : Width × ℕ × ℕ → Type 0
IsPlaceOfWidth p = IsNumber p.1 × IsBitOf p.0 p.2

place_holds : (source : List ℕ) (a : AddressKind) (byte : ℕ) (rest : List Token) → IsNumber byte →
    IfSome (spec.place_of_data_address source a byte rest) IsPlaceOfWidth
unfolding spec.place_of_data_address
place_holds source (address.Area letters.Db w) byte rest h =
    map_holds (spec.place_bit source w rest) _ (IsBitOf w) IsPlaceOfWidth (place_bit_holds source w rest) (λ bit k. (h, k))
place_holds source _ byte rest h = tt

block_place_holds : (source : List ℕ) (tokens : List Token) → IfSome (spec.block_place source tokens) IsPlaceOfWidth
unfolding spec.block_place
block_place_holds source tokens =
    chain_holds (address_at source tokens) _ (λ r. IsNumber r.1 × (length r.2 < length tokens)) IsPlaceOfWidth (address_holds source tokens)
    (λ r h. place_holds source r.0 r.1 r.2 h.0)

block_path_holds : (source : List ℕ) (name : BlockName) (tokens : List Token) (more : ℕ) → IsDataBlockName name → 1 ≤ more →
    IfSome (spec.block_path source name tokens) (IsRead more)
unfolding spec.block_path
block_path_holds source name [] more h some = tt
block_path_holds source name (w ∷ rest) more h some =
    then_holds (has_kind w kind.Word) _ (IsRead more)
    (λ test. map_holds (complete_reading (spec.steps_from source (step.Named (text_of source w) ∷ []) rest)) _ IsNamedPath (IsRead more)
    (whole_holds (spec.steps_from source (step.Named (text_of source w) ∷ []) rest) IsNamedPath
    (named_steps_hold source (step.Named (text_of source w) ∷ []) rest (tt, (tt, tt))))
    (λ steps k. ((h, k.0, k.1), omega (arith, some), refl, refl, refl)))

in_block_holds : (source : List ℕ) (name : BlockName) (tokens : List Token) (more : ℕ) → IsDataBlockName name → 1 ≤ more →
    IfSome (spec.operand_in_block source name tokens) (IsRead more)
unfolding spec.operand_in_block
in_block_holds source name tokens more h some =
    either (option_map (λ p. operand.Direct (Some name) letters.Db p.0 p.1 p.2) (spec.block_place source tokens)) _ (IsRead more)
    (map_holds (spec.block_place source tokens) _ IsPlaceOfWidth (IsRead more) (block_place_holds source tokens)
    (λ p k. (((h, refl), k.0, k.1), omega (arith, some), refl, refl, refl)))
    (block_path_holds source name tokens more h some)

behind_block_holds : (source : List ℕ) (name : BlockName) (tokens : List Token) (more : ℕ) → IsDataBlockName name → 1 ≤ more →
    IfSome (spec.operand_behind_block source name tokens) (IsRead more)
unfolding spec.operand_behind_block
behind_block_holds source name [] more h some = tt
behind_block_holds source name (dot ∷ rest) more h some =
    then_holds (is_mark source dot mark.Dot) _ (IsRead more) (λ test. in_block_holds source name rest more h some)

data_block_holds : (source : List ℕ) (n : ℕ) (tokens : List Token) (more : ℕ) → IsNumber n → length tokens ≤ more →
    IfSome (spec.data_block_operand source n tokens) (IsRead more)
unfolding spec.data_block_operand
data_block_holds source n [] more h fits = ((refl, h), omega arith, refl, refl, refl)
data_block_holds source n (t ∷ rest) more h fits =
    behind_block_holds source (spec.data_block_name n) (t ∷ rest) more (refl, h) (omega (arith, fits))

direct_holds : (source : List ℕ) (a : AddressKind) (n : ℕ) (tokens : List Token) (more : ℕ) → IsNumber n → length tokens ≤ more →
    IfSome (spec.direct_address_operand source a n tokens) (IsRead more)
unfolding spec.direct_address_operand
direct_holds source (address.Area area w) n rest more h fits = area_holds source area w n rest more h
direct_holds source address.Timer n [] more h fits = (h, omega arith, refl, refl, refl)
direct_holds source address.Timer n (t ∷ rest) more h fits = tt
direct_holds source address.Counter n [] more h fits = (h, omega arith, refl, refl, refl)
direct_holds source address.Counter n (t ∷ rest) more h fits = tt
direct_holds source (address.Block false) n rest more h fits = data_block_holds source n rest more h fits
direct_holds source (address.Block true) n [] more h fits = ((refl, h), omega arith, refl, refl, refl)
direct_holds source (address.Block true) n (t ∷ rest) more h fits = tt

by_register_holds : (source : List ℕ) (area : Option Letters) (w : Width) (tokens : List Token) (more : ℕ) → length tokens ≤ more + 1 →
    IfSome (spec.operand_by_register source area w tokens) (IsRead more)
unfolding spec.operand_by_register
by_register_holds source area w tokens more fits =
    map_holds (spec.register_pointer source tokens) _ _ (IsRead more) (register_pointer_holds source tokens)
    (λ p h. ((h.0, h.1), omega (arith, fits, h.2), refl, refl, refl))

number_by_holds : (source : List ℕ) (what : Numbered) (tokens : List Token) (more : ℕ) →
    IfSome (spec.operand_by_memory_number source what tokens) (IsRead more)
unfolding spec.operand_by_memory_number
number_by_holds source what tokens more =
    map_holds (spec.memory_pointer source false tokens) _ IsPointerPlace (IsRead more) (memory_pointer_holds source false tokens)
    (λ p h. (h, omega arith, refl, refl, refl))

area_by_holds : (source : List ℕ) (area : Letters) (w : Width) (tokens : List Token) (more : ℕ) → length tokens ≤ more →
    IfSome (spec.operand_by_pointer source area w tokens) (IsRead more)
unfolding spec.operand_by_pointer
area_by_holds source area w tokens more fits =
    either (option_map (λ p. operand.ByMemory area w p.0 p.1) (spec.memory_pointer source true tokens)) _ (IsRead more)
    (map_holds (spec.memory_pointer source true tokens) _ IsPointerPlace (IsRead more) (memory_pointer_holds source true tokens)
    (λ p h. (h, omega arith, refl, refl, refl)))
    (by_register_holds source (Some area) w tokens more (omega (arith, fits)))

indirect_holds : (source : List ℕ) (a : AddressKind) (tokens : List Token) (more : ℕ) → length tokens ≤ more →
    IfSome (spec.indirect_operand source a tokens) (IsRead more)
unfolding spec.indirect_operand
indirect_holds source (address.Area area w) tokens more fits = area_by_holds source area w tokens more fits
indirect_holds source address.Timer tokens more fits = number_by_holds source numbered.Timer tokens more
indirect_holds source address.Counter tokens more fits = number_by_holds source numbered.Counter tokens more
indirect_holds source (address.Block false) tokens more fits = number_by_holds source numbered.Db tokens more
indirect_holds source (address.Block true) tokens more fits = number_by_holds source numbered.Di tokens more

area_pointer_holds : (source : List ℕ) (a : AddressKind) (byte : ℕ) (rest : List Token) (more : ℕ) → IsNumber byte →
    IfSome (spec.area_pointer source a byte rest) (IsRead more)
unfolding spec.area_pointer
area_pointer_holds source (address.Area area width.Bit) byte rest more h =
    map_holds (bit_of source rest) _ (λ bit. bit ≤ 7) (IsRead more) (bit_holds source rest) (λ bit k. ((h, k), omega arith, refl, refl, refl))
area_pointer_holds source _ byte rest more h = tt

plain_pointer_holds : (source : List ℕ) (tokens : List Token) (more : ℕ) → IfSome (spec.plain_pointer source tokens) (IsRead more)
unfolding spec.plain_pointer
plain_pointer_holds source [] more = tt
plain_pointer_holds source (n ∷ rest) more =
    chain_holds (number_of_token source n) _ IsNumber (IsRead more) (number_holds source n)
    (λ byte h. map_holds (bit_of source rest) _ (λ bit. bit ≤ 7) (IsRead more) (bit_holds source rest)
    (λ bit k. ((h, k), omega arith, refl, refl, refl)))

pointer_holds : (source : List ℕ) (tokens : List Token) (more : ℕ) → IfSome (spec.pointer_constant_operand source tokens) (IsRead more)
unfolding spec.pointer_constant_operand
pointer_holds source tokens more =
    either (spec.plain_pointer source tokens) _ (IsRead more) (plain_pointer_holds source tokens more)
    (chain_holds (address_at source tokens) _ (λ r. IsNumber r.1 × (length r.2 < length tokens)) (IsRead more) (address_holds source tokens)
    (λ r h. area_pointer_holds source r.0 r.1 r.2 more h.0))

condition_holds : (source : List ℕ) (t : Token) (more : ℕ) → IfSome (spec.condition_word_operand source t) (IsRead more)
unfolding spec.condition_word_operand
condition_holds source t more =
    map_holds (look_up flags (text_of source t)) _ (λ f. Unit {0}) (IsRead more) (none_holds (look_up flags (text_of source t)))
    (λ f h. (tt, omega arith, refl, refl, refl))

other_if_holds : (name : List ℕ) (o : Option Bool) (more : ℕ) → IfSome (spec.register_name_operand_if name o) (IsRead more)
other_if_holds name None more = tt
other_if_holds name (Some true) more = (tt, omega arith, refl, refl, refl)
other_if_holds name (Some false) more = tt

other_holds : (source : List ℕ) (t : Token) (more : ℕ) → IfSome (spec.register_name_operand source t) (IsRead more)
unfolding spec.register_name_operand
other_holds source t more = other_if_holds (text_of source t) (look_up registers (text_of source t)) more

alone_holds : (source : List ℕ) (t : Token) (rest : List Token) (more : ℕ) → IfSome (spec.lone_word_operand source t rest) (IsRead more)
unfolding spec.lone_word_operand
alone_holds source t [] more =
    either (spec.condition_word_operand source t) _ (IsRead more) (condition_holds source t more) (other_holds source t more)
alone_holds source t (u ∷ rest) more = tt

plain_path_holds : (source : List ℕ) (t : Token) (rest : List Token) (more : ℕ) → IfSome (spec.plain_path source t rest) (IsRead more)
unfolding spec.plain_path
plain_path_holds source t rest more =
    both (spec.is_operand_word source t) _ _ (IsRead more) tt (path_holds source (text_of source t) rest more)

sized_holds : (source : List ℕ) (t : Token) (rest : List Token) (more : ℕ) → length rest ≤ more →
    IfSome (spec.operand_by_sized_register source t rest) (IsRead more)
unfolding spec.operand_by_sized_register
sized_holds source t rest more fits =
    both (is_key source t key.B) _ _ (IsRead more) (by_register_holds source None width.Byte rest more (omega (arith, fits)))
    (both (is_key source t key.W) _ _ (IsRead more) (by_register_holds source None width.Word rest more (omega (arith, fits)))
    (both (is_key source t key.D) _ _ (IsRead more) (by_register_holds source None width.Dword rest more (omega (arith, fits))) tt))

with_number_holds : (source : List ℕ) (tokens : List Token) (more : ℕ) → length tokens ≤ more + 1 →
    IfSome (spec.operand_with_number source tokens) (IsRead more)
unfolding spec.operand_with_number
with_number_holds source tokens more fits =
    chain_holds (address_at source tokens) _ (λ r. IsNumber r.1 × (length r.2 < length tokens)) (IsRead more) (address_holds source tokens)
    (λ r h. direct_holds source r.0 r.1 r.2 more h.0 (omega (arith, fits, h.1)))

with_pointer_holds : (source : List ℕ) (t : Token) (rest : List Token) (more : ℕ) → length rest ≤ more →
    IfSome (spec.operand_with_pointer source t rest) (IsRead more)
unfolding spec.operand_with_pointer
with_pointer_holds source t rest more fits =
    chain_holds (look_up addresses (text_of source t)) _ (λ a. Unit {0}) (IsRead more) (none_holds (look_up addresses (text_of source t)))
    (λ a h. indirect_holds source a rest more fits)

word_operand_holds : (source : List ℕ) (t : Token) (rest tokens : List Token) (more : ℕ) → length rest ≤ more → length tokens ≤ more + 1 →
    IfSome (spec.word_operand source t rest tokens) (IsRead more)
unfolding spec.word_operand
word_operand_holds source t rest tokens more fits all =
    either (spec.lone_word_operand source t rest) _ (IsRead more) (alone_holds source t rest more)
    (either (spec.operand_with_number source tokens) _ (IsRead more) (with_number_holds source tokens more all)
    (either (spec.operand_with_pointer source t rest) _ (IsRead more) (with_pointer_holds source t rest more fits)
    (either (spec.operand_by_sized_register source t rest) _ (IsRead more) (sized_holds source t rest more fits)
    (plain_path_holds source t rest more))))

quoted_operand_holds : (source : List ℕ) (t : Token) (rest : List Token) (more : ℕ) → length rest ≤ more →
    IfSome (spec.quoted_operand source t rest) (IsRead more)
unfolding spec.quoted_operand
quoted_operand_holds source t [] more fits = (refl, omega arith, refl, refl, refl)
quoted_operand_holds source t (u ∷ rest) more fits =
    behind_block_holds source (block.Quoted (text_between_quotes (text_of source t))) (u ∷ rest) more tt (omega (arith, fits))

mark_operand_holds : (source : List ℕ) (t : Token) (rest tokens : List Token) (more : ℕ) → length tokens ≤ more + 1 →
    IfSome (spec.mark_operand source t rest tokens) (IsRead more)
unfolding spec.mark_operand
mark_operand_holds source t rest tokens more all =
    both (is_mark source t mark.Pointer) _ _ (IsRead more) (pointer_holds source rest more) (by_register_holds source None width.Bit tokens more all)

sign_operand_holds : (source : List ℕ) (t : Token) (rest : List Token) (more : ℕ) → IfSome (spec.sign_operand source t rest) (IsRead more)
unfolding spec.sign_operand
sign_operand_holds source t [] more = condition_holds source t more
sign_operand_holds source t (u ∷ rest) more = tt

local_path_holds : (source : List ℕ) (t : Token) (rest : List Token) (more : ℕ) → IfSome (spec.local_path source t rest) (IsRead more)
unfolding spec.local_path
local_path_holds source t rest more = path_holds source (drop 1 (text_of source t)) rest more

kind_holds : (source : List ℕ) (t : Token) (rest tokens : List Token) (k : TokenKind) (more : ℕ) → length rest ≤ more →
    length tokens ≤ more + 1 → IfSome (spec.operand_by_kind source t rest tokens k) (IsRead more)
unfolding spec.operand_by_kind
kind_holds source t rest tokens kind.Word more fits all = word_operand_holds source t rest tokens more fits all
kind_holds source t rest tokens kind.Quoted more fits all = quoted_operand_holds source t rest more fits
kind_holds source t rest tokens kind.Local more fits all = local_path_holds source t rest more
kind_holds source t rest tokens kind.Mark more fits all = mark_operand_holds source t rest tokens more all
kind_holds source t rest tokens kind.SignWord more fits all = sign_operand_holds source t rest more
kind_holds source t rest tokens _ more fits all = tt

-- an operand that is read from one token or more
pub operand_holds : (source : List ℕ) (t : Token) (rest : List Token) → IfSome (spec.operand_of source (t ∷ rest)) (IsRead (length rest))
unfolding spec.operand_of
operand_holds source t rest =
    either (option_map operand.Constant (literal_of source (t ∷ rest))) _ (IsRead (length rest))
    (map_holds (literal_of source (t ∷ rest)) _ IsLiteral (IsRead (length rest)) (literal_holds source (t ∷ rest))
    (λ l h. (h, omega arith, refl, refl, refl)))
    (kind_holds source t rest (t ∷ rest) t.kind (length rest) (omega arith) (omega arith))

-- no operand
pub nothing_holds : (source : List ℕ) → spec.operand_of source [] ≡ Some operand.Nothing
unfolding spec.operand_of
nothing_holds source = refl
