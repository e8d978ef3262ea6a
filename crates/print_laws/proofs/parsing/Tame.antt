-- Printed texts have no end of a line in them, and no semicolon.
use Rattle.std.proofs.Common.{◌≡◌, ◌≤◌, ◌<◌, ◌+◌, ◌^◌, ◌/◌, ◌%◌, refl, ◌∙◌, ℕ, zero, suc, Bool, true, false, List, [], ◌∷◌, ◌++◌, fold, Option, Some, None, ℤ, pos, negsuc, arith, decimal, inl, inr}
use Rattle.std.specs.Prelude.{◌⊎◌, ◌&&◌, ◌==◌, not, sum_by, if◌then◌else◌, codes}
use Rattle.std.specs.Char.{is_ascii_digit}
use Rattle.std.specs.Fmt.{signed_decimal}
use Rattle.std.specs.List.{AllByRecursion, list_all}
use Rattle.std.proofs.lemmas.Bool.{and_parts, and_from, false≢true}
use Rattle.std.proofs.lemmas.Bool.Decides.{nat_tests}
use Rattle.plc_base.specs.declared.blocks.BlockKind.{BlockKind}
use Rattle.plc_base.specs.declared.blocks.BlockKind.TheVariants as kinds
use Rattle.plc_base.specs.declared.flags.Flag.{Flag}
use Rattle.plc_base.specs.declared.flags.Flag.TheVariants as flag
use Rattle.plc_base.specs.declared.places.Width.{Width}
use Rattle.plc_base.specs.declared.places.Width.TheVariants as width
use Rattle.stl_lexer.specs.Bytes.{is_word_byte, is_word_start, newline}
use Rattle.stl_lexer.specs.Forms.{is_word}
use Rattle.stl_lexer.specs.Gap.{newlines_of}
use Rattle.stl_lexer.specs.Marks.{mark_text}
use Rattle.stl_lexer.specs.Pieces.{Piece}
use Rattle.stl_lexer.specs.declared.marks.Mark.TheVariants as mark
use Rattle.stl_ast.specs.Literals.{IsLong}
use Rattle.stl_ast.specs.declared.literals.Literal.{Literal}
use Rattle.stl_ast.specs.declared.literals.Literal.TheVariants as literal
use Rattle.stl_ast.specs.declared.names.BlockName.{BlockName}
use Rattle.stl_ast.specs.declared.names.BlockName.TheVariants as block
use Rattle.stl_ast.specs.declared.operands.Letters.{Letters}
use Rattle.stl_ast.specs.declared.operands.Letters.TheVariants as letters
use Rattle.stl_ast.specs.declared.operands.Numbered.{Numbered}
use Rattle.stl_ast.specs.declared.operands.Numbered.TheVariants as numbered_kind
use Rattle.stl_ast.specs.declared.operands.Operand.{Operand}
use Rattle.stl_ast.specs.declared.operands.Operand.TheVariants as operand
use Rattle.stl_ast.specs.declared.operands.PathHead.TheVariants as head
use Rattle.stl_ast.specs.declared.statements.Actual.{Actual}
use Rattle.stl_print.specs.Digits.{digit_character, digits_in_base}
use Rattle.stl_print.specs.Gaps.{gap_text}
use Rattle.stl_print.specs.Literals.{literal_pieces}
use Rattle.stl_print.specs.Names.{block_name_pieces}
use Rattle.stl_print.specs.Operands.{bit_pieces, register_operand_pieces, direct_pieces, instance_pieces, operand_pieces, opened_block_pieces, path_head_pieces, pointer_byte_pieces}
use Rattle.stl_print.specs.Statements.{actual_pieces, actuals_pieces, further_actuals}
use Rattle.stl_print.specs.Words.{letters_of_address, area_letters, bit_letter, block_letters, flag_kind, flag_text, numbered_letters, size_letter, truth_word, width_letter}
use Rattle.print_laws.specs.Reading.{IsAddressRegister, IsCallOperand, IsDataBlock, IsFunctionBlock, IsOpenOperand, IsPrintedActual, IsPrintedLiteral, IsPrintedOperand, IsJumpOperand}
use Rattle.print_laws.specs.Standing.{IsNumberedBlock}
use Rattle.print_laws.proofs.parsing.Numbers.{numeral}
use Rattle.print_laws.proofs.parsing.Actuals.{passed_printed}
use Rattle.print_laws.proofs.parsing.Shown.{lacks, line_past, mark_is}

-- no end of a line is among these bytes
abbrev pub flat : List ℕ → Bool
flat text = list_all (λ b. not (b == newline)) text

-- a piece is on one line with what is before it, and no semicolon
abbrev pub tame : Piece → Bool
tame p = flat p.gap && flat p.text && not (mark_is p.kind p.text mark.Semicolon)

abbrev pub all_tame : List Piece → Bool
all_tame ps = list_all tame ps

pub tame_joined : (ps qs : List Piece) → all_tame ps ≡ true → all_tame qs ≡ true → all_tame (ps ++ qs) ≡ true
tame_joined [] qs a b = b
tame_joined (p ∷ ps) qs a b =
    let parts : (tame p ≡ true) × (all_tame ps ≡ true) = and_parts (tame p) (all_tame ps) a in
    and_from (tame p) (all_tame (ps ++ qs)) parts.0 (tame_joined ps qs parts.1 b)

fold_flat : (a : ℕ) (text : List ℕ) → flat text ≡ true → fold (λ n b. n + newlines_of b) a text ≡ a
fold_flat a [] h = refl
fold_flat a (b ∷ text) h =
    let parts : (not (b == newline) ≡ true) × (flat text ≡ true) = and_parts (not (b == newline)) (flat text) h in
    fold_flat (a + newlines_of b) text parts.1 ∙ by (b == newline) parts.0
  where
    by : (c : Bool) → not c ≡ true → a + (if c then 1 else 0) ≡ a
    by false e = omega arith
    by true e = absurd cc

pub flat_ends : (text : List ℕ) → flat text ≡ true → sum_by newlines_of text ≡ 0
flat_ends text h = fold_flat 0 text h

pub tame_lacks : (ps : List Piece) → all_tame ps ≡ true → lacks mark.Semicolon ps ≡ true
tame_lacks [] h = refl
tame_lacks (p ∷ ps) h =
    let parts : (tame p ≡ true) × (all_tame ps ≡ true) = and_parts (tame p) (all_tame ps) h in
    and_from _ _ (and_parts (flat p.gap && flat p.text) (not (mark_is p.kind p.text mark.Semicolon)) parts.0).1 (tame_lacks ps parts.1)

pub tame_line : (line : ℕ) (ps : List Piece) → all_tame ps ≡ true → line_past line ps ≡ line
tame_line line [] h = refl
tame_line line (p ∷ ps) h =
    let parts : (tame p ≡ true) × (all_tame ps ≡ true) = and_parts (tame p) (all_tame ps) h in
    let both : (flat p.gap ≡ true) × (flat p.text ≡ true) = and_parts (flat p.gap) (flat p.text) (and_parts (flat p.gap && flat p.text) (not (mark_is p.kind p.text mark.Semicolon)) parts.0).0 in
    tame_line (line + sum_by newlines_of p.gap + sum_by newlines_of p.text) ps parts.1
    ∙ omega (arith, flat_ends p.gap both.0, flat_ends p.text both.1)

-- ---- texts

flat_joined : (s t : List ℕ) → flat s ≡ true → flat t ≡ true → flat (s ++ t) ≡ true
flat_joined [] t a b = b
flat_joined (c ∷ s) t a b =
    let parts : (not (c == newline) ≡ true) × (flat s ≡ true) = and_parts (not (c == newline)) (flat s) a in
    and_from (not (c == newline)) (flat (s ++ t)) parts.0 (flat_joined s t parts.1 b)

each_flat : (p : ℕ → Bool) → ((b : ℕ) → p b ≡ true → not (b == newline) ≡ true) → (s : List ℕ) → list_all p s ≡ true → flat s ≡ true
each_flat p h [] all = refl
each_flat p h (b ∷ s) all =
    let parts : (p b ≡ true) × (list_all p s ≡ true) = and_parts (p b) (list_all p s) all in
    and_from (not (b == newline)) (flat s) (h b parts.0) (each_flat p h s parts.1)

pub flat_decimal : (n : ℕ) → n < 2 ^ 64 → flat (decimal n) ≡ true
flat_decimal n small = each_flat is_ascii_digit (λ b h. grind (arith, nat_tests, h)) (decimal n) (numeral n small).digits

pub flat_number : (n : ℕ) → n ≤ 65535 → flat (decimal n) ≡ true
flat_number n h = flat_decimal n (omega arith)

flat_signed : (z : ℤ) → IsLong z → flat (signed_decimal z) ≡ true
flat_signed (pos n) h = flat_decimal n (omega arith)
flat_signed (negsuc n) h = flat_decimal (suc n) (omega arith)

flat_digits : (count n : ℕ) → flat (digits_in_base 16 count n) ≡ true
unfolding digits_in_base
flat_digits zero n = refl
flat_digits (suc count) n = flat_joined (digits_in_base 16 count (n / 16)) (digit_character (n % 16) ∷ []) (flat_digits count (n / 16)) one
  where
    one : flat (digit_character (n % 16) ∷ []) ≡ true
    one = grind (arith, nat_tests)

word_byte_flat : (b : ℕ) → is_word_byte b ≡ true → not (b == newline) ≡ true
unfolding is_word_byte is_word_start
word_byte_flat b h = grind (arith, nat_tests, h)

word_start_flat : (b : ℕ) → is_word_start b ≡ true → not (b == newline) ≡ true
unfolding is_word_start
word_start_flat b h = grind (arith, nat_tests, h)

pub flat_word : (name : List ℕ) → is_word name ≡ true → flat name ≡ true
flat_word [] h = absurd (false≢true h)
flat_word (b ∷ name) h =
    let parts : (is_word_start b ≡ true) × (list_all is_word_byte name ≡ true) = and_parts (is_word_start b) (list_all is_word_byte name) h in
    and_from (not (b == newline)) (flat name) (word_start_flat b parts.0) (each_flat is_word_byte word_byte_flat name parts.1)

pub flat_letters : (area : Letters) (w : Width) → flat (letters_of_address area w) ≡ true
unfolding area_letters size_letter bit_letter width_letter
flat_letters letters.I width.Bit = refl
flat_letters letters.I width.Byte = refl
flat_letters letters.I width.Word = refl
flat_letters letters.I width.Dword = refl
flat_letters letters.Q width.Bit = refl
flat_letters letters.Q width.Byte = refl
flat_letters letters.Q width.Word = refl
flat_letters letters.Q width.Dword = refl
flat_letters letters.M width.Bit = refl
flat_letters letters.M width.Byte = refl
flat_letters letters.M width.Word = refl
flat_letters letters.M width.Dword = refl
flat_letters letters.Db width.Bit = refl
flat_letters letters.Db width.Byte = refl
flat_letters letters.Db width.Word = refl
flat_letters letters.Db width.Dword = refl
flat_letters letters.Di width.Bit = refl
flat_letters letters.Di width.Byte = refl
flat_letters letters.Di width.Word = refl
flat_letters letters.Di width.Dword = refl
flat_letters letters.L width.Bit = refl
flat_letters letters.L width.Byte = refl
flat_letters letters.L width.Word = refl
flat_letters letters.L width.Dword = refl
flat_letters letters.Pi width.Bit = refl
flat_letters letters.Pi width.Byte = refl
flat_letters letters.Pi width.Word = refl
flat_letters letters.Pi width.Dword = refl
flat_letters letters.Pq width.Bit = refl
flat_letters letters.Pq width.Byte = refl
flat_letters letters.Pq width.Word = refl
flat_letters letters.Pq width.Dword = refl

pub flat_numbered : (what : Numbered) → flat (numbered_letters what) ≡ true
unfolding numbered_letters
flat_numbered numbered_kind.Timer = refl
flat_numbered numbered_kind.Counter = refl
flat_numbered numbered_kind.Db = refl
flat_numbered numbered_kind.Di = refl

pub flat_block : (k : BlockKind) → flat (block_letters k) ≡ true
unfolding block_letters
flat_block kinds.Ob = refl
flat_block kinds.Fc = refl
flat_block kinds.Fb = refl
flat_block kinds.Db = refl
flat_block kinds.Sfc = refl
flat_block kinds.Udt = refl

-- ---- constants and operands behind a gap on one line

pub literal_tame : (g : _) (l : Literal) → flat (gap_text g) ≡ true → IsPrintedLiteral l → all_tame (literal_pieces g l) ≡ true
unfolding literal_pieces truth_word mark_text
literal_tame g (literal.Truth true) h is = rw h refl
literal_tame g (literal.Truth false) h is = rw h refl
literal_tame g (literal.Number (pos n)) h is = rw (h, flat_number n is) refl
literal_tame g (literal.Number (negsuc n)) h is = rw (h, flat_number (suc n) (omega (arith, is))) refl
literal_tame g (literal.Byte v) h is = rw (h, flat_digits 2 v) refl
literal_tame g (literal.Word v) h is = rw (h, flat_digits 4 v) refl
literal_tame g (literal.Dword v) h is = rw (h, flat_digits 8 v) refl
literal_tame g (literal.Long v) h is = rw (h, flat_signed v is) refl
literal_tame g (literal.Time v) h is = rw (h, flat_joined (signed_decimal v) (codes "MS") (flat_signed v is) refl) refl
literal_tame g (literal.Binary v) h is = absurd is
literal_tame g (literal.Count v) h is = absurd is
literal_tame g (literal.S5time v) h is = absurd is
literal_tame g (literal.Characters v) h is = absurd is
literal_tame g (literal.Bytes v) h is = absurd is

direct_tame : (g : _) (name : Option BlockName) (area : Letters) (w : Width) (byte bit : ℕ) → flat (gap_text g) ≡ true
    → IsPrintedOperand (operand.Direct name area w byte bit) → all_tame (direct_pieces g name area w byte bit) ≡ true
unfolding direct_pieces bit_pieces block_name_pieces mark_text
direct_tame g None area width.Bit byte bit h is = rw (h, flat_letters area width.Bit, flat_number byte is.2, flat_number bit (omega (arith, is.3))) refl
direct_tame g (Some (block.Number id)) area width.Bit byte bit h is =
    rw (h, flat_block id.kind, flat_number id.number is.0.0.1, flat_letters area width.Bit, flat_number byte is.2, flat_number bit (omega (arith, is.3))) refl
direct_tame g None area width.Byte byte bit h is = rw (h, flat_letters area width.Byte, flat_number byte is.2) refl
direct_tame g (Some (block.Number id)) area width.Byte byte bit h is =
    rw (h, flat_block id.kind, flat_number id.number is.0.0.1, flat_letters area width.Byte, flat_number byte is.2) refl
direct_tame g None area width.Word byte bit h is = rw (h, flat_letters area width.Word, flat_number byte is.2) refl
direct_tame g (Some (block.Number id)) area width.Word byte bit h is =
    rw (h, flat_block id.kind, flat_number id.number is.0.0.1, flat_letters area width.Word, flat_number byte is.2) refl
direct_tame g None area width.Dword byte bit h is = rw (h, flat_letters area width.Dword, flat_number byte is.2) refl
direct_tame g (Some (block.Number id)) area width.Dword byte bit h is =
    rw (h, flat_block id.kind, flat_number id.number is.0.0.1, flat_letters area width.Dword, flat_number byte is.2) refl
direct_tame g (Some (block.Quoted n)) area w byte bit h is = absurd is.0.0

flat_register : (register : ℕ) → IsAddressRegister register → flat (decimal register) ≡ true
flat_register register (inl e) = flat_number register (omega (arith, e))
flat_register register (inr e) = flat_number register (omega (arith, e))

register_tame : (g : _) (area : Option Letters) (w : Width) (register bits : ℕ) → flat (gap_text g) ≡ true
    → IsPrintedOperand (operand.ByRegister area w register bits) → all_tame (register_operand_pieces g area w register bits) ≡ true
unfolding register_operand_pieces width_letter mark_text
register_tame g (Some area) w register bits h is =
    rw (h, flat_letters area w, flat_register register is.1, flat_number (bits / 8) (omega (arith, is.2)), flat_number (bits % 8) (omega arith)) refl
register_tame g None width.Bit register bits h is =
    rw (h, flat_register register is.1, flat_number (bits / 8) (omega (arith, is.2)), flat_number (bits % 8) (omega arith)) refl
register_tame g None width.Byte register bits h is =
    rw (h, flat_register register is.1, flat_number (bits / 8) (omega (arith, is.2)), flat_number (bits % 8) (omega arith)) refl
register_tame g None width.Word register bits h is =
    rw (h, flat_register register is.1, flat_number (bits / 8) (omega (arith, is.2)), flat_number (bits % 8) (omega arith)) refl
register_tame g None width.Dword register bits h is =
    rw (h, flat_register register is.1, flat_number (bits / 8) (omega (arith, is.2)), flat_number (bits % 8) (omega arith)) refl

pointer_tame : (g : _) (area : Option Letters) (byte bit : ℕ) → flat (gap_text g) ≡ true
    → IsPrintedOperand (operand.Pointer area byte bit) → all_tame (operand_pieces g (operand.Pointer area byte bit)) ≡ true
unfolding operand_pieces pointer_byte_pieces mark_text
pointer_tame g None byte bit h is = rw (h, flat_number byte is.1, flat_number bit (omega (arith, is.2))) refl
pointer_tame g (Some area) byte bit h is = rw (h, flat_letters area width.Bit, flat_number byte is.1, flat_number bit (omega (arith, is.2))) refl

status_tame : (g : _) (f : Flag) → flat (gap_text g) ≡ true → all_tame (operand_pieces g (operand.OfStatus f)) ≡ true
unfolding operand_pieces flag_kind flag_text
status_tame g flag.Br h = rw h refl
status_tame g flag.Ov h = rw h refl
status_tame g flag.Os h = rw h refl
status_tame g flag.EqZero h = rw h refl
status_tame g flag.NeZero h = rw h refl
status_tame g flag.GtZero h = rw h refl
status_tame g flag.LtZero h = rw h refl
status_tame g flag.GeZero h = rw h refl
status_tame g flag.LeZero h = rw h refl
status_tame g flag.Uo h = rw h refl

pub operand_tame : (g : _) (o : Operand) → flat (gap_text g) ≡ true → IsPrintedOperand o → all_tame (operand_pieces g o) ≡ true
unfolding operand_pieces path_head_pieces mark_text
operand_tame g operand.Nothing h is = refl
operand_tame g (operand.Direct name area w byte bit) h is = direct_tame g name area w byte bit h is
operand_tame g (operand.Timer n) h is = rw (h, flat_number n is) refl
operand_tame g (operand.Counter n) h is = rw (h, flat_number n is) refl
operand_tame g (operand.Named (head.Local name) []) h is = rw (h, flat_word name is) refl
operand_tame g (operand.Named (head.Local name) (s ∷ steps)) h is = absurd is
operand_tame g (operand.Named (head.InBlock name) steps) h is = absurd is
operand_tame g (operand.Named (head.Symbol name) steps) h is = absurd is
operand_tame g (operand.ByMemory area w place byte) h is = rw (h, flat_letters area w, flat_letters place width.Dword, flat_number byte is.2) refl
operand_tame g (operand.NumberBy what place byte) h is = rw (h, flat_numbered what, flat_letters place width.Word, flat_number byte is.1) refl
operand_tame g (operand.ByRegister area w register bits) h is = register_tame g area w register bits h is
operand_tame g (operand.Pointer area byte bit) h is = pointer_tame g area byte bit h is
operand_tame g (operand.Constant l) h is = literal_tame g l h is
operand_tame g (operand.Label name) h is = absurd is
operand_tame g (operand.OfStatus f) h is = status_tame g f h
operand_tame g (operand.Other name) h is = rw (h, flat_word name is.word) refl
operand_tame g (operand.OpenBlock di name) h is = absurd is
operand_tame g (operand.Called name instance) h is = absurd is

pub target_tame : (g : _) (o : Operand) → flat (gap_text g) ≡ true → IsJumpOperand o → all_tame (operand_pieces g o) ≡ true
unfolding operand_pieces
target_tame g (operand.Label name) h is = rw (h, flat_word name is.0) refl
target_tame g operand.Nothing h is = absurd is
target_tame g (operand.Direct name area w byte bit) h is = absurd is
target_tame g (operand.Timer n) h is = absurd is
target_tame g (operand.Counter n) h is = absurd is
target_tame g (operand.Named p steps) h is = absurd is
target_tame g (operand.ByMemory area w place byte) h is = absurd is
target_tame g (operand.NumberBy what place byte) h is = absurd is
target_tame g (operand.ByRegister area w register bits) h is = absurd is
target_tame g (operand.Pointer area byte bit) h is = absurd is
target_tame g (operand.Constant l) h is = absurd is
target_tame g (operand.OfStatus f) h is = absurd is
target_tame g (operand.Other name) h is = absurd is
target_tame g (operand.OpenBlock di name) h is = absurd is
target_tame g (operand.Called name instance) h is = absurd is

pub opened_tame : (g : _) (o : Operand) → flat (gap_text g) ≡ true → IsOpenOperand o → all_tame (operand_pieces g o) ≡ true
unfolding operand_pieces opened_block_pieces block_name_pieces
opened_tame g (operand.OpenBlock true (block.Number id)) h is = rw (h, flat_number id.number is.1) refl
opened_tame g (operand.OpenBlock true (block.Quoted name)) h is = absurd is
opened_tame g (operand.OpenBlock false (block.Number id)) h is = rw (h, flat_block id.kind, flat_number id.number is.1) refl
opened_tame g (operand.OpenBlock false (block.Quoted name)) h is = absurd is
opened_tame g (operand.NumberBy what place byte) h is = operand_tame g (operand.NumberBy what place byte) h is
opened_tame g operand.Nothing h is = absurd is
opened_tame g (operand.Direct name area w byte bit) h is = absurd is
opened_tame g (operand.Timer n) h is = absurd is
opened_tame g (operand.Counter n) h is = absurd is
opened_tame g (operand.Named p steps) h is = absurd is
opened_tame g (operand.ByMemory area w place byte) h is = absurd is
opened_tame g (operand.ByRegister area w register bits) h is = absurd is
opened_tame g (operand.Pointer area byte bit) h is = absurd is
opened_tame g (operand.Constant l) h is = absurd is
opened_tame g (operand.Label name) h is = absurd is
opened_tame g (operand.OfStatus f) h is = absurd is
opened_tame g (operand.Other name) h is = absurd is
opened_tame g (operand.Called name instance) h is = absurd is

pub numbered_tame : (g : _) (name : BlockName) → flat (gap_text g) ≡ true → IsNumberedBlock name → all_tame (block_name_pieces g name) ≡ true
unfolding block_name_pieces
numbered_tame g (block.Number id) h is = rw (h, flat_block id.kind, flat_number id.number is) refl
numbered_tame g (block.Quoted name) h is = absurd is

-- a block of a kind has a number
pub of_data : (name : BlockName) → IsDataBlock name → IsNumberedBlock name
of_data (block.Number id) h = h.1
of_data (block.Quoted name) h = absurd h

pub of_function : (name : BlockName) → IsFunctionBlock name → IsNumberedBlock name
of_function (block.Number id) h = h.1
of_function (block.Quoted name) h = absurd h

pub called_tame : (g : _) (o : Operand) → flat (gap_text g) ≡ true → IsCallOperand o → all_tame (operand_pieces g o) ≡ true
unfolding operand_pieces instance_pieces mark_text
called_tame g (operand.Called name None) h is = tame_joined (block_name_pieces g name) [] (numbered_tame g name h is) refl
called_tame g (operand.Called name (Some instance)) h is =
    tame_joined (block_name_pieces g name) _ (numbered_tame g name h (of_function name is.0)) (numbered_tame _ instance refl (of_data instance is.1))
called_tame g operand.Nothing h is = absurd is
called_tame g (operand.Direct name area w byte bit) h is = absurd is
called_tame g (operand.Timer n) h is = absurd is
called_tame g (operand.Counter n) h is = absurd is
called_tame g (operand.Named p steps) h is = absurd is
called_tame g (operand.ByMemory area w place byte) h is = absurd is
called_tame g (operand.NumberBy what place byte) h is = absurd is
called_tame g (operand.ByRegister area w register bits) h is = absurd is
called_tame g (operand.Pointer area byte bit) h is = absurd is
called_tame g (operand.Constant l) h is = absurd is
called_tame g (operand.Label name) h is = absurd is
called_tame g (operand.OfStatus f) h is = absurd is
called_tame g (operand.Other name) h is = absurd is
called_tame g (operand.OpenBlock di name) h is = absurd is

-- ---- actual parameters

pub actual_tame : (g : _) (line : ℕ) (a : Actual) → flat (gap_text g) ≡ true → IsPrintedActual line a → all_tame (actual_pieces g a) ≡ true
unfolding actual_pieces mark_text
actual_tame g line a h is = rw (h, flat_word a.name is.word, operand_tame _ a.value refl (passed_printed a.value is.value)) refl

pub further_tame : (line : ℕ) (actuals : List Actual) → AllByRecursion (IsPrintedActual line) actuals → all_tame (further_actuals actuals) ≡ true
unfolding mark_text
further_tame line [] is = refl
further_tame line (a ∷ more) is = tame_joined (actual_pieces _ a) (further_actuals more) (actual_tame _ line a refl is.0) (further_tame line more is.1)

pub actuals_tame : (line : ℕ) (actuals : List Actual) → AllByRecursion (IsPrintedActual line) actuals → all_tame (actuals_pieces actuals) ≡ true
unfolding mark_text
actuals_tame line [] is = refl
actuals_tame line (a ∷ more) is = tame_joined (actual_pieces _ a) (further_actuals more) (actual_tame _ line a refl is.0) (further_tame line more is.1)
