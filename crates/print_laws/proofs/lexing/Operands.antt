-- Names, constants and operands stand before what is printed behind them.
use Rattle.std.proofs.Common.{◌≡◌, ℕ, ◌*◌, ◌<◌, ◌≤◌, ◌/◌, ◌%◌, Bool, true, false, ◌||◌, List, [], ◌∷◌, ◌++◌, append_assoc, decimal, Option, Some, None, refl, sym, subst, arith}
use Rattle.std.specs.Prelude.{codes, ℤ}
use Rattle.std.proofs.lemmas.Bool.{false≢true, or_left, or_right}
use Rattle.plc_base.specs.declared.blocks.BlockKind.{BlockKind}
use Rattle.plc_base.specs.declared.blocks.BlockKind.TheVariants as kinds
use Rattle.plc_base.specs.declared.flags.Flag.{Flag}
use Rattle.plc_base.specs.declared.flags.Flag.TheVariants as flag
use Rattle.plc_base.specs.declared.places.Width.{Width}
use Rattle.plc_base.specs.declared.places.Width.TheVariants as width
use Rattle.stl_ast.specs.Literals.{IsDecimal}
use Rattle.stl_ast.specs.declared.blocks.PathStep.{PathStep}
use Rattle.stl_ast.specs.declared.blocks.PathStep.TheVariants as step
use Rattle.stl_ast.specs.declared.literals.Literal.{Literal}
use Rattle.stl_ast.specs.declared.literals.Literal.TheVariants as literal
use Rattle.stl_ast.specs.declared.names.BlockName.{BlockName}
use Rattle.stl_ast.specs.declared.names.BlockName.TheVariants as block
use Rattle.stl_ast.specs.declared.operands.Letters.{Letters}
use Rattle.stl_ast.specs.declared.operands.Letters.TheVariants as letters
use Rattle.stl_ast.specs.declared.operands.Numbered.{Numbered}
use Rattle.stl_ast.specs.declared.operands.Numbered.TheVariants as numbers
use Rattle.stl_ast.specs.declared.operands.Operand.{Operand}
use Rattle.stl_ast.specs.declared.operands.Operand.TheVariants as operand
use Rattle.stl_ast.specs.declared.operands.PathHead.{PathHead}
use Rattle.stl_ast.specs.declared.operands.PathHead.TheVariants as head
use Rattle.stl_lexer.specs.declared.marks.Mark.{Mark}
use Rattle.stl_lexer.specs.declared.marks.Mark.TheVariants as mark_of
use Rattle.stl_lexer.specs.Bytes.{is_word_byte, is_word_start}
use Rattle.stl_lexer.specs.Forms.{sign_words}
use Rattle.stl_lexer.specs.Pieces.{Piece, text_of_pieces}
use Rattle.stl_print.specs.Literals.{literal_pieces}
use Rattle.stl_print.specs.Names.{block_name_pieces, first_step_pieces, index_pieces, path_pieces, step_pieces, steps_pieces}
use Rattle.stl_print.specs.Operands.{address_pieces, bit_pieces, register_operand_pieces, direct_pieces, memory_pointer_pieces, register_pointer_pieces, instance_pieces, numbered_pieces, opened_block_pieces, operand_pieces, path_head_pieces, pointer_pieces, pointer_byte_pieces}
use Rattle.stl_print.specs.Pieces.{mark_piece, number_piece, signed_number_pieces, word_piece}
use Rattle.stl_print.specs.Words.{letters_of_address, area_letters, bit_letter, block_letters, flag_kind, flag_text, numbered_letters, size_letter, truth_word, width_letter}
use Rattle.stl_print.specs.declared.gaps.Gap.{Gap}
use Rattle.stl_print.specs.declared.gaps.Gap.TheVariants as gap
use Rattle.print_laws.specs.Standing.{ArePrintableSteps, IsNonTitleName, IsNumberedBlock, IsNumberedOrNone, IsPrintableHead, IsPrintableLiteral, IsPrintableOperand, IsPrintableStep}
use Rattle.print_laws.proofs.lexing.Fronts.{all_allowed, allows}
use Rattle.print_laws.proofs.lexing.Numerals.{digits_words, numeral}
use Rattle.print_laws.proofs.lexing.Pieces.{Rest, byte_rest, dot_number, dot_word, dword_rest, hard, is_plain_mark, is_soft_mark, local_rest, long_rest, mark_follows, mark_rest, number_rest, opens, sign_rest, signed_rest, soft_equals, soft_words, time_rest, word_constant_rest, word_rest}

-- ---- joining

-- pieces that begin softly, where that is asked
pub soft_as : (s : Bool) (ps : List Piece) (end : List ℕ) → Rest true ps end → Rest s ps end
soft_as s ps end r = record { stands = r.stands; soft = λ e. r.soft refl }

-- where one truth value follows from another
pub as_soft : (s t : Bool) (ps : List Piece) (end : List ℕ) → (t ≡ true → s ≡ true) → Rest s ps end → Rest t ps end
as_soft s t ps end h r = record { stands = r.stands; soft = λ e. r.soft (h e) }

pub rest_joined : (s : Bool) (a b c : List Piece) (end : List ℕ) → Rest s (a ++ (b ++ c)) end → Rest s ((a ++ b) ++ c) end
rest_joined s a b c end r = subst (λ (l : List Piece). Rest s l end) (sym (append_assoc a b c)) r

-- a mark before any bytes
abbrev pub is_free : Mark → Bool
is_free mark_of.Colon = false
is_free mark_of.Dot = false
is_free mark_of.Equals = false
is_free mark_of.Plus = false
is_free mark_of.Minus = false
is_free mark_of.Bytes = false
is_free _ = true

free_follows : (m : Mark) (after : List ℕ) → is_free m ≡ true → allows (mark_follows m) after ≡ true
free_follows mark_of.Assign after e = all_allowed after
free_follows mark_of.Semicolon after e = all_allowed after
free_follows mark_of.Comma after e = all_allowed after
free_follows mark_of.DotDot after e = all_allowed after
free_follows mark_of.OpenParen after e = all_allowed after
free_follows mark_of.CloseParen after e = all_allowed after
free_follows mark_of.OpenBracket after e = all_allowed after
free_follows mark_of.CloseBracket after e = all_allowed after
free_follows mark_of.Pointer after e = all_allowed after
free_follows mark_of.Colon after e = absurd (false≢true e)
free_follows mark_of.Dot after e = absurd (false≢true e)
free_follows mark_of.Equals after e = absurd (false≢true e)
free_follows mark_of.Plus after e = absurd (false≢true e)
free_follows mark_of.Minus after e = absurd (false≢true e)
free_follows mark_of.Bytes after e = absurd (false≢true e)

free_plain : (m : Mark) → is_free m ≡ true → is_plain_mark m ≡ true
free_plain mark_of.Minus e = e
free_plain mark_of.Bytes e = e
free_plain _ e = refl

pub free_rest : (s : Bool) (g : Gap) (m : Mark) (ps : List Piece) (end : List ℕ) → is_free m ≡ true → Rest s ps end → Rest (opens g || is_soft_mark m) (mark_piece g m ∷ ps) end
free_rest s g m ps end e r = mark_rest g m ps end (free_plain m e) (free_follows m (text_of_pieces ps end) e) (hard s ps end r)

pub colon_rest : (g : Gap) (ps : List Piece) (end : List ℕ) → Rest true ps end → Rest true (mark_piece g mark_of.Colon ∷ ps) end
colon_rest g ps end r =
    as_soft (opens g || true) true (mark_piece g mark_of.Colon ∷ ps) end (λ e. or_right (opens g) true refl)
    (mark_rest g mark_of.Colon ps end refl (soft_equals (text_of_pieces ps end) (r.soft refl)) (hard true ps end r))

-- a mark that is an instruction word
pub equals_rest : (g : Gap) (ps : List Piece) (end : List ℕ) → Rest true ps end → Rest (opens g) (mark_piece g mark_of.Equals ∷ ps) end
equals_rest g ps end r =
    as_soft (opens g || false) (opens g) (mark_piece g mark_of.Equals ∷ ps) end (λ e. or_left (opens g) false e)
    (mark_rest g mark_of.Equals ps end refl (soft_equals (text_of_pieces ps end) (r.soft refl)) (hard true ps end r))

pub plus_rest : (g : Gap) (ps : List Piece) (end : List ℕ) → Rest true ps end → Rest (opens g) (mark_piece g mark_of.Plus ∷ ps) end
plus_rest g ps end r =
    as_soft (opens g || true) (opens g) (mark_piece g mark_of.Plus ∷ ps) end (λ e. or_right (opens g) true refl)
    (mark_rest g mark_of.Plus ps end refl (soft_words (text_of_pieces ps end) (r.soft refl)) (hard true ps end r))

-- a mark before any bytes, which begins softly behind any gap
pub closing_rest : (s : Bool) (g : Gap) (m : Mark) (ps : List Piece) (end : List ℕ) → is_free m ≡ true → is_soft_mark m ≡ true → Rest s ps end → Rest true (mark_piece g m ∷ ps) end
closing_rest s g m ps end e h r =
    as_soft (opens g || is_soft_mark m) true (mark_piece g m ∷ ps) end (λ t. or_right (opens g) (is_soft_mark m) h) (free_rest s g m ps end e r)

-- ---- names of blocks, and paths

block_letters_name : (k : BlockKind) → IsNonTitleName (block_letters k)
unfolding block_letters is_word_byte is_word_start
block_letters_name kinds.Ob = (refl, refl)
block_letters_name _ = (refl, refl)

pub block_rest : (g : Gap) (name : BlockName) (ps : List Piece) (end : List ℕ) → IsNumberedBlock name → Rest true ps end → Rest (opens g) (block_name_pieces g name ++ ps) end
unfolding block_name_pieces
block_rest g (block.Number id) ps end h r =
    word_rest g (block_letters id.kind) (number_piece gap.Blank id.number ∷ ps) end (block_letters_name id.kind) (number_rest gap.Blank id.number ps end h r)
block_rest g (block.Quoted name) ps end h r = absurd h

pub index_rest : (g : Gap) (at : ℤ) (ps : List Piece) (end : List ℕ) → IsDecimal at → Rest true ps end → Rest true (index_pieces g at ++ ps) end
index_rest g at ps end h r =
    closing_rest false g mark_of.OpenBracket ((signed_number_pieces gap.Nothing at ++ mark_piece gap.Nothing mark_of.CloseBracket ∷ []) ++ ps) end refl refl
    (rest_joined false (signed_number_pieces gap.Nothing at) (mark_piece gap.Nothing mark_of.CloseBracket ∷ []) ps end
    (signed_rest gap.Nothing at (mark_piece gap.Nothing mark_of.CloseBracket ∷ ps) end h (closing_rest true gap.Nothing mark_of.CloseBracket ps end refl refl r)))

step_rest : (s : PathStep) (ps : List Piece) (end : List ℕ) → Rest true ps end → IsPrintableStep s → Rest true (step_pieces s ++ ps) end
unfolding step_pieces
step_rest (step.Named name) ps end r h = dot_word name ps end h r
step_rest (step.Index at) ps end r h = index_rest gap.Nothing at ps end h r

pub steps_rest : (steps : List PathStep) (ps : List Piece) (end : List ℕ) → ArePrintableSteps steps → Rest true ps end → Rest true (steps_pieces steps ++ ps) end
steps_rest [] ps end h r = r
steps_rest (s ∷ steps) ps end (one, more) r =
    rest_joined true (step_pieces s) (steps_pieces steps) ps end (step_rest s (steps_pieces steps ++ ps) end (steps_rest steps ps end more r) one)

first_rest : (g : Gap) (s : PathStep) (ps : List Piece) (end : List ℕ) → IsPrintableStep s → Rest true ps end → Rest (opens g) (first_step_pieces g s ++ ps) end
unfolding first_step_pieces
first_rest g (step.Named name) ps end h r = word_rest g name ps end h r
first_rest g (step.Index at) ps end h r = soft_as (opens g) (index_pieces g at ++ ps) end (index_rest g at ps end h r)

pub path_rest : (g : Gap) (steps : List PathStep) (ps : List Piece) (end : List ℕ) → ArePrintableSteps steps → Rest true ps end → Rest (opens g) (path_pieces g steps ++ ps) end
path_rest g [] ps end h r = soft_as (opens g) ps end r
path_rest g (s ∷ steps) ps end (one, more) r =
    rest_joined (opens g) (first_step_pieces g s) (steps_pieces steps) ps end (first_rest g s (steps_pieces steps ++ ps) end one (steps_rest steps ps end more r))

-- ---- constants

truth_name : (value : Bool) → IsNonTitleName (truth_word value)
unfolding truth_word is_word_byte is_word_start
truth_name true = (refl, refl)
truth_name false = (refl, refl)

pub literal_rest : (g : Gap) (v : Literal) (ps : List Piece) (end : List ℕ) → IsPrintableLiteral v → Rest true ps end → Rest (opens g) (literal_pieces g v ++ ps) end
unfolding literal_pieces
literal_rest g (literal.Truth value) ps end h r = word_rest g (truth_word value) ps end (truth_name value) r
literal_rest g (literal.Number value) ps end h r = signed_rest g value ps end h r
literal_rest g (literal.Binary value) ps end h r = absurd h
literal_rest g (literal.Byte value) ps end h r = byte_rest g value ps end r
literal_rest g (literal.Word value) ps end h r = word_constant_rest g value ps end r
literal_rest g (literal.Dword value) ps end h r = dword_rest g value ps end r
literal_rest g (literal.Long value) ps end h r = long_rest g value ps end h r
literal_rest g (literal.Count value) ps end h r = absurd h
literal_rest g (literal.Time ms) ps end h r = time_rest g ms ps end h r
literal_rest g (literal.S5time ms) ps end h r = absurd h
literal_rest g (literal.Characters bytes) ps end h r = absurd h
literal_rest g (literal.Bytes bytes) ps end h r = absurd h

-- ---- operands

bit_name : (area : Letters) → IsNonTitleName (letters_of_address area width.Bit)
unfolding area_letters size_letter bit_letter width_letter is_word_byte is_word_start
bit_name letters.I = (refl, refl)
bit_name _ = (refl, refl)

byte_name : (area : Letters) → IsNonTitleName (letters_of_address area width.Byte)
unfolding area_letters size_letter bit_letter width_letter is_word_byte is_word_start
byte_name letters.I = (refl, refl)
byte_name _ = (refl, refl)

word_name : (area : Letters) → IsNonTitleName (letters_of_address area width.Word)
unfolding area_letters size_letter bit_letter width_letter is_word_byte is_word_start
word_name letters.I = (refl, refl)
word_name _ = (refl, refl)

dword_name : (area : Letters) → IsNonTitleName (letters_of_address area width.Dword)
unfolding area_letters size_letter bit_letter width_letter is_word_byte is_word_start
dword_name letters.I = (refl, refl)
dword_name _ = (refl, refl)

address_name : (area : Letters) (w : Width) → IsNonTitleName (letters_of_address area w)
address_name area width.Bit = bit_name area
address_name area width.Byte = byte_name area
address_name area width.Word = word_name area
address_name area width.Dword = dword_name area

numbered_name : (what : Numbered) → IsNonTitleName (numbered_letters what)
unfolding numbered_letters is_word_byte is_word_start
numbered_name numbers.Timer = (refl, refl)
numbered_name _ = (refl, refl)

letters_rest : (g : Gap) (name : List ℕ) (n : ℕ) (ps : List Piece) (end : List ℕ) → IsNonTitleName name → n ≤ 65535 → Rest true ps end → Rest (opens g) (numbered_pieces g name n ++ ps) end
letters_rest g name n ps end is h r = word_rest g name (number_piece gap.Blank n ∷ ps) end is (number_rest gap.Blank n ps end h r)

bits_rest : (w : Width) (bit : ℕ) (ps : List Piece) (end : List ℕ) → bit ≤ 65535 → Rest true ps end → Rest true (bit_pieces w bit ++ ps) end
unfolding bit_pieces
bits_rest width.Bit bit ps end h r = dot_number bit ps end h r
bits_rest width.Byte bit ps end h r = r
bits_rest width.Word bit ps end h r = r
bits_rest width.Dword bit ps end h r = r

address_rest : (g : Gap) (area : Letters) (w : Width) (byte bit : ℕ) (ps : List Piece) (end : List ℕ) → byte ≤ 65535 → bit ≤ 65535 → Rest true ps end → Rest (opens g) (address_pieces g area w byte bit ++ ps) end
address_rest g area w byte bit ps end h k r =
    letters_rest g (letters_of_address area w) byte (bit_pieces w bit ++ ps) end (address_name area w) h (bits_rest w bit ps end k r)

direct_rest : (g : Gap) (name : Option BlockName) (area : Letters) (w : Width) (byte bit : ℕ) (ps : List Piece) (end : List ℕ) → IsNumberedOrNone name → byte ≤ 65535 → bit ≤ 65535 → Rest true ps end
    → Rest (opens g) (direct_pieces g name area w byte bit ++ ps) end
unfolding direct_pieces
direct_rest g None area w byte bit ps end h k l r = address_rest g area w byte bit ps end k l r
direct_rest g (Some name) area w byte bit ps end h k l r =
    rest_joined (opens g) (block_name_pieces g name) (mark_piece gap.Nothing mark_of.Dot ∷ address_pieces gap.Nothing area w byte bit) ps end
    (block_rest g name (mark_piece gap.Nothing mark_of.Dot ∷ (address_pieces gap.Nothing area w byte bit ++ ps)) end h
    (dot_word (letters_of_address area w) (number_piece gap.Blank byte ∷ (bit_pieces w bit ++ ps)) end (address_name area w) (number_rest gap.Blank byte (bit_pieces w bit ++ ps) end k (bits_rest w bit ps end l r))))

head_rest : (g : Gap) (path : PathHead) (ps : List Piece) (end : List ℕ) → IsPrintableHead path → Rest true ps end → Rest (opens g) (path_head_pieces g path ++ ps) end
unfolding path_head_pieces
head_rest g (head.Local name) ps end h r = local_rest g name ps end h r
head_rest g (head.InBlock name) ps end h r = block_rest g name ps end h r
head_rest g (head.Symbol name) ps end h r = absurd h

memory_rest : (from : Letters) (w : Width) (byte : ℕ) (ps : List Piece) (end : List ℕ) → byte ≤ 65535 → Rest true ps end → Rest true (memory_pointer_pieces from w byte ++ ps) end
memory_rest from w byte ps end h r =
    closing_rest false gap.Blank mark_of.OpenBracket (numbered_pieces gap.Nothing (letters_of_address from w) byte ++ (mark_piece gap.Nothing mark_of.CloseBracket ∷ ps)) end refl refl
    (letters_rest gap.Nothing (letters_of_address from w) byte (mark_piece gap.Nothing mark_of.CloseBracket ∷ ps) end (address_name from w) h (closing_rest true gap.Nothing mark_of.CloseBracket ps end refl refl r))

register_name : (register : ℕ) → register ≤ 65535 → IsNonTitleName (codes "AR" ++ decimal register)
unfolding is_word_byte is_word_start
register_name register h = (digits_words (decimal register) (numeral register (omega (arith, h))).digits, refl)

register_rest : (g : Gap) (register bits : ℕ) (ps : List Piece) (end : List ℕ) → register ≤ 65535 → bits < 8 * 65536 → Rest true ps end → Rest true (register_pointer_pieces g register bits ++ ps) end
register_rest g register bits ps end h k r =
    let close = closing_rest true gap.Nothing mark_of.CloseBracket ps end refl refl r in
    let bit = dot_number (bits % 8) (mark_piece gap.Nothing mark_of.CloseBracket ∷ ps) end (omega arith) close in
    let byte = number_rest gap.Nothing (bits / 8) (mark_piece gap.Nothing mark_of.Dot ∷ number_piece gap.Nothing (bits % 8) ∷ mark_piece gap.Nothing mark_of.CloseBracket ∷ ps) end (omega (arith, k)) bit in
    let constant = mark_piece gap.Blank mark_of.Pointer ∷ number_piece gap.Nothing (bits / 8) ∷ mark_piece gap.Nothing mark_of.Dot ∷ number_piece gap.Nothing (bits % 8) ∷ mark_piece gap.Nothing mark_of.CloseBracket ∷ ps in
    let pointed = free_rest false gap.Blank mark_of.Pointer (number_piece gap.Nothing (bits / 8) ∷ mark_piece gap.Nothing mark_of.Dot ∷ number_piece gap.Nothing (bits % 8) ∷ mark_piece gap.Nothing mark_of.CloseBracket ∷ ps) end refl byte in
    let comma = closing_rest true gap.Nothing mark_of.Comma constant end refl refl pointed in
    closing_rest false g mark_of.OpenBracket (word_piece gap.Nothing (codes "AR" ++ decimal register) ∷ mark_piece gap.Nothing mark_of.Comma ∷ constant) end refl refl
    (word_rest gap.Nothing (codes "AR" ++ decimal register) (mark_piece gap.Nothing mark_of.Comma ∷ constant) end (register_name register h) comma)

width_rest : (g : Gap) (name : List ℕ) (register bits : ℕ) (ps : List Piece) (end : List ℕ) → IsNonTitleName name → register ≤ 65535 → bits < 8 * 65536 → Rest true ps end → Rest (opens g) (word_piece g name ∷ (register_pointer_pieces gap.Blank register bits ++ ps)) end
width_rest g name register bits ps end is h k r = word_rest g name (register_pointer_pieces gap.Blank register bits ++ ps) end is (register_rest gap.Blank register bits ps end h k r)

indirect_rest : (g : Gap) (area : Option Letters) (w : Width) (register bits : ℕ) (ps : List Piece) (end : List ℕ) → register ≤ 65535 → bits < 8 * 65536 → Rest true ps end → Rest (opens g) (register_operand_pieces g area w register bits ++ ps) end
unfolding register_operand_pieces width_letter is_word_byte is_word_start
indirect_rest g (Some area) w register bits ps end h k r = width_rest g (letters_of_address area w) register bits ps end (address_name area w) h k r
indirect_rest g None width.Bit register bits ps end h k r = soft_as (opens g) (register_pointer_pieces g register bits ++ ps) end (register_rest g register bits ps end h k r)
indirect_rest g None width.Byte register bits ps end h k r = width_rest g (codes "B") register bits ps end (refl, refl) h k r
indirect_rest g None width.Word register bits ps end h k r = width_rest g (codes "W") register bits ps end (refl, refl) h k r
indirect_rest g None width.Dword register bits ps end h k r = width_rest g (codes "D") register bits ps end (refl, refl) h k r

pointed_rest : (area : Option Letters) (byte : ℕ) (ps : List Piece) (end : List ℕ) → byte ≤ 65535 → Rest true ps end → Rest false (pointer_byte_pieces area byte ++ ps) end
unfolding pointer_byte_pieces
pointed_rest None byte ps end h r = number_rest gap.Nothing byte ps end h r
pointed_rest (Some area) byte ps end h r = letters_rest gap.Nothing (letters_of_address area width.Bit) byte ps end (address_name area width.Bit) h r

pointer_rest : (g : Gap) (area : Option Letters) (byte bit : ℕ) (ps : List Piece) (end : List ℕ) → byte ≤ 65535 → bit ≤ 65535 → Rest true ps end → Rest (opens g) (pointer_pieces g area byte bit ++ ps) end
pointer_rest g area byte bit ps end h k r =
    as_soft (opens g || false) (opens g) (pointer_pieces g area byte bit ++ ps) end (λ e. or_left (opens g) false e)
    (free_rest false g mark_of.Pointer ((pointer_byte_pieces area byte ++ (mark_piece gap.Nothing mark_of.Dot ∷ number_piece gap.Nothing bit ∷ [])) ++ ps) end refl
    (rest_joined false (pointer_byte_pieces area byte) (mark_piece gap.Nothing mark_of.Dot ∷ number_piece gap.Nothing bit ∷ []) ps end
    (pointed_rest area byte (mark_piece gap.Nothing mark_of.Dot ∷ number_piece gap.Nothing bit ∷ ps) end h (dot_number bit ps end k r))))

opened_rest : (g : Gap) (di : Bool) (name : BlockName) (ps : List Piece) (end : List ℕ) → IsNumberedBlock name → Rest true ps end → Rest (opens g) (opened_block_pieces g di name ++ ps) end
unfolding opened_block_pieces is_word_byte is_word_start
opened_rest g true (block.Number id) ps end h r = letters_rest g (codes "DI") id.number ps end (refl, refl) h r
opened_rest g true (block.Quoted name) ps end h r = absurd h
opened_rest g false name ps end h r = block_rest g name ps end h r

instance_rest : (instance : Option BlockName) (ps : List Piece) (end : List ℕ) → IsNumberedOrNone instance → Rest true ps end → Rest true (instance_pieces instance ++ ps) end
unfolding instance_pieces
instance_rest None ps end h r = r
instance_rest (Some name) ps end h r = closing_rest true gap.Nothing mark_of.Comma (block_name_pieces gap.Blank name ++ ps) end refl refl (block_rest gap.Blank name ps end h r)

flag_rest : (g : Gap) (f : Flag) (ps : List Piece) (end : List ℕ) → Rest true ps end → Rest (opens g) (operand_pieces g (operand.OfStatus f) ++ ps) end
unfolding operand_pieces flag_kind flag_text is_word_byte is_word_start sign_words
flag_rest g flag.Br ps end r = word_rest g (codes "BR") ps end (refl, refl) r
flag_rest g flag.Ov ps end r = word_rest g (codes "OV") ps end (refl, refl) r
flag_rest g flag.Os ps end r = word_rest g (codes "OS") ps end (refl, refl) r
flag_rest g flag.Uo ps end r = word_rest g (codes "UO") ps end (refl, refl) r
flag_rest g flag.EqZero ps end r = sign_rest g (codes "==0") ps end refl r
flag_rest g flag.NeZero ps end r = sign_rest g (codes "<>0") ps end refl r
flag_rest g flag.GtZero ps end r = sign_rest g (codes ">0") ps end refl r
flag_rest g flag.LtZero ps end r = sign_rest g (codes "<0") ps end refl r
flag_rest g flag.GeZero ps end r = sign_rest g (codes ">=0") ps end refl r
flag_rest g flag.LeZero ps end r = sign_rest g (codes "<=0") ps end refl r

pub operand_rest : (g : Gap) (o : Operand) (ps : List Piece) (end : List ℕ) → IsPrintableOperand o → Rest true ps end → Rest (opens g) (operand_pieces g o ++ ps) end
unfolding operand_pieces is_word_byte is_word_start
operand_rest g operand.Nothing ps end h r = soft_as (opens g) ps end r
operand_rest g (operand.Direct name area w byte bit) ps end (h, k, l) r = direct_rest g name area w byte bit ps end h k l r
operand_rest g (operand.Timer n) ps end h r = letters_rest g (codes "T") n ps end (refl, refl) h r
operand_rest g (operand.Counter n) ps end h r = letters_rest g (codes "C") n ps end (refl, refl) h r
operand_rest g (operand.Named path steps) ps end (h, k) r =
    rest_joined (opens g) (path_head_pieces g path) (steps_pieces steps) ps end (head_rest g path (steps_pieces steps ++ ps) end h (steps_rest steps ps end k r))
operand_rest g (operand.ByMemory area w from byte) ps end h r =
    word_rest g (letters_of_address area w) (memory_pointer_pieces from width.Dword byte ++ ps) end (address_name area w) (memory_rest from width.Dword byte ps end h r)
operand_rest g (operand.NumberBy what from byte) ps end h r =
    word_rest g (numbered_letters what) (memory_pointer_pieces from width.Word byte ++ ps) end (numbered_name what) (memory_rest from width.Word byte ps end h r)
operand_rest g (operand.ByRegister area w register bits) ps end (h, k) r = indirect_rest g area w register bits ps end h k r
operand_rest g (operand.Pointer area byte bit) ps end (h, k) r = pointer_rest g area byte bit ps end h k r
operand_rest g (operand.Constant value) ps end h r = literal_rest g value ps end h r
operand_rest g (operand.Label name) ps end h r = word_rest g name ps end h r
operand_rest g (operand.OfStatus f) ps end h r = flag_rest g f ps end r
operand_rest g (operand.Other name) ps end h r = word_rest g name ps end h r
operand_rest g (operand.OpenBlock di name) ps end h r = opened_rest g di name ps end h r
operand_rest g (operand.Called name instance) ps end (h, k) r =
    rest_joined (opens g) (block_name_pieces g name) (instance_pieces instance) ps end (block_rest g name (instance_pieces instance ++ ps) end h (instance_rest instance ps end k r))
