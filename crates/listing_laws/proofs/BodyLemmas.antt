-- The statements of a listing are read back, where their ops are those of a source.
use Rattle.std.proofs.Common.{◌≡◌, ℕ, zero, suc, ◌%◌, ◌/◌, ◌^◌, ◌<◌, ◌≤◌, ◌⊎◌, inl, inr, Bool, true, false, not, ◌&&◌, ◌||◌, List, [], ◌∷◌, length, Option, Some, None, refl, sym, ap, subst, ◌∙◌, arith}
use Rattle.std.specs.Prelude.{codes, MatchOption, option_map, nat_le, nat_lt, ◌==◌, slice_get, unwrap_or, if◌then◌else◌}
use Rattle.std.specs.List.{AllByRecursion}
use Rattle.std.proofs.lemmas.Bool.{agree_below_at, and_parts, cond_both, eqb-true, false≢true, leb-true, ltb-true}
use Rattle.plc_base.proofs.ListLemmas.{all_append}
use Rattle.plc_base.specs.Kinds.{is_same_block, is_system_function, kind_number}
use Rattle.plc_base.specs.declared.blocks.BlockKind.TheVariants as kinds
use Rattle.plc_base.specs.declared.blocks.BlockId.{BlockId}
use Rattle.plc_base.specs.declared.places.Area.TheVariants as area
use Rattle.plc_base.specs.declared.places.Area.{Area}
use Rattle.plc_base.specs.declared.places.Width.TheVariants as width
use Rattle.plc_base.specs.declared.places.Width.{Width}
use Rattle.flat_code.specs.Kinds.{timer_kind, counter_kind}
use Rattle.flat_code.specs.Forms.{passed_coding, actual_fits, is_crossing_area, direct_coding, holds_pointers, is_memory_area, payload_fits}
use Rattle.flat_code.specs.Operations.{operation_of}
use Rattle.flat_code.specs.Ops.{IsOp, OpData, is_op}
use Rattle.flat_code.specs.Table.{admits, is_call_form, is_open, is_pass, is_use_db, takes_condition, takes_direct, takes_indirect, takes_kind, takes_literal, takes_nothing, forms_of}
use Rattle.flat_code.specs.declared.table.OperandForms.{OperandForms}
use Rattle.flat_code.specs.declared.table.OperandForms.TheVariants as forms
use Rattle.flat_code.specs.declared.operations.AddConstant.TheVariants as add_constant
use Rattle.flat_code.specs.declared.operations.Logic.TheVariants as logic
use Rattle.flat_code.specs.declared.operations.PointerOperation.TheVariants as pointers
use Rattle.plc_base.specs.Bits.{has_bit}
use Rattle.flat_code.specs.declared.operands.Operand.TheVariants as flat
use Rattle.flat_code.specs.declared.operands.Operand.{Operand as FlatOperand}
use Rattle.flat_code.specs.declared.operands.Passed.TheVariants as passed
use Rattle.flat_code.specs.declared.operands.Passed.{Passed}
use Rattle.flat_code.specs.declared.operations.Operation.TheVariants as operation
use Rattle.flat_code.specs.declared.operations.Operation.{Operation}
use Rattle.stl_ast.specs.Operands.{IsNumber}
use Rattle.stl_ast.specs.Statements.{is_empty_statement, is_nothing}
use Rattle.stl_ast.specs.declared.operands.Letters.TheVariants as letters
use Rattle.stl_ast.specs.declared.operands.Operand.TheVariants as operand
use Rattle.stl_ast.specs.declared.operands.Operand.{Operand}
use Rattle.stl_ast.specs.declared.statements.Statement.{Statement}
use Rattle.stl_ast.specs.declared.names.BlockName.TheVariants as block
use Rattle.stl_lexer.specs.Bytes.{is_word_byte, is_word_start}
use Rattle.stl_lexer.specs.Forms.{is_word}
use Rattle.stl_parser.specs.Tables.{flags, look_up, registers}
use Rattle.stl_list.specs.Constants.{instruction_constant, open_block_name, pointer_area, pointer_letters}
use Rattle.stl_list.specs.Mnemonics.{mnemonic_of_jump, mnemonic_of, mnemonic_by, mnemonic_of_code}
use Rattle.stl_parser.specs.Operands.{holds_pointer, data_block_name}
use Rattle.stl_types.specs.declared.parameters.Formal.{Formal}
use Rattle.stl_list.specs.Actuals.{actual_for, actual_here, actuals_before, actuals_by, is_written, passed_operand}
use Rattle.stl_list.specs.JoinedParameters.{called_id, system_parameters}
use Rattle.stl_list.specs.Labels.{label_of_number}
use Rattle.stl_list.specs.Lines.{line_of_statement}
use Rattle.stl_list.specs.Runs.{StatementOps, statement_number_at, runs}
use Rattle.stl_list.specs.Signatures.{Signature, called_formals, formals_of_block}
use Rattle.stl_list.specs.Statements.{ListingContext, body_of, label_at, label_of_end, listed_statement, statement_at, statements_from, listing_context}
use Rattle.stl_list.specs.Operands.{direct_operand, implied_operand, instance_name, letters_for_area, name_at, operand_by, plain_operand, timer_or_counter, operation_writes_operand, block_opened_by_ops, own_parameter, read_letters, block_of_use_db}
use Rattle.print_laws.specs.Reading.{FitsSyntax, IsArea, IsAreaOf, IsBlockOf, IsCallOperand, IsPrintedLabelOf, IsOpenOperand, IsPassedOperand, IsPrintedActual, IsPrintedOperand, IsPrintedStatement, IsRegister, IsJumpOperand, PrintedSyntax, block_call, bracket, call, empty, jump, opens, plain, syntax_of}
use Rattle.print_laws.specs.Standing.{IsNonTitleName as IsCutName}
use Rattle.listing_laws.proofs.FormLemmas.{labels_printed, typed_printed}
use Rattle.listing_laws.proofs.NameLemmas.{either_way, parameter_is, signed_long, system_named}
use Rattle.listing_laws.specs.Bodies.{AreBodiesPrinted, AreWords, IsCallBy, IsNoBit, IsOpenedIn, IsPlace, IsLastOperandPrinted, IsSourceRun, PassesPlace, PreparesPlace}

-- ---- areas

-- the letters of a place are those of an address
area_is : (writes : Bool) (a : Area) (w : Width) → IsNoBit a w → IsArea (letters_for_area writes a) w
area_is writes area.I w h = tt
area_is writes area.Q w h = tt
area_is writes area.M w h = tt
area_is writes area.Db w h = tt
area_is writes area.Di w h = tt
area_is writes area.L w h = tt
area_is true area.P width.Bit h = h
area_is true area.P width.Byte h = tt
area_is true area.P width.Word h = tt
area_is true area.P width.Dword h = tt
area_is false area.P width.Bit h = h
area_is false area.P width.Byte h = tt
area_is false area.P width.Word h = tt
area_is false area.P width.Dword h = tt

memory_is : (a : Area) (w : Width) → is_memory_area a ≡ true → IsArea (read_letters a) w
memory_is area.I w h = tt
memory_is area.Q w h = tt
memory_is area.M w h = tt
memory_is area.Db w h = tt
memory_is area.Di w h = tt
memory_is area.L w h = tt
memory_is area.P w h = absurd (false≢true h)

crossing_is : (a : Option Area) (w : Width) → is_crossing_area a ≡ true → IsAreaOf (option_map read_letters a) w
crossing_is None w h = tt
crossing_is (Some a) w h = memory_is a w h

pointer_is : (a : Area) → holds_pointers a ≡ true → holds_pointer (read_letters a) ≡ true
unfolding holds_pointer
pointer_is area.I h = absurd (false≢true h)
pointer_is area.Q h = absurd (false≢true h)
pointer_is area.M h = refl
pointer_is area.Db h = refl
pointer_is area.Di h = refl
pointer_is area.L h = refl
pointer_is area.P h = absurd (false≢true h)

-- ---- numbers

number_is : (n : ℕ) → nat_lt n 65536 ≡ true → n ≤ 65535
number_is n e = omega (arith, ltb-true n 65536 e)

byte_place : (a : Area) (w : Width) (byte bit : ℕ) → direct_coding.fits (a, (w, (byte, bit))) ≡ true → byte ≤ 65535
unfolding direct_coding
byte_place a w byte bit e = number_is byte (and_parts (nat_lt byte 65536) _ e).0

-- ---- names of parameters

named_word : (formals : List Formal) (i : ℕ) → AreWords formals → MatchOption (slice_get formals i) (Unit {0}) (λ f. is_word f.name ≡ true)
named_word [] i h = tt
named_word (f ∷ formals) zero (one, more) = one
named_word (f ∷ formals) (suc i) (one, more) = named_word formals i more

pub name_word : (formals : List Formal) (index : ℕ) → index < 2 ^ 64 → AreWords formals → is_word (name_at formals index) ≡ true
name_word formals index h named = by (slice_get formals index) refl (named_word formals index named) where
  by : (o : Option Formal) → slice_get formals index ≡ o → MatchOption o (Unit {0}) (λ f. is_word f.name ≡ true) → is_word (name_at formals index) ≡ true
  by None e k = rw e (parameter_is index h).0
  by (Some f) e k = rw e k

-- ---- fixed places

-- the block that a statement opens first
opened_block : (opened : Option ℕ) (writes : Bool) (a : Area) → MatchOption opened (Unit {0}) (λ n. n ≤ 65535) → IsOpenedIn opened a → IsBlockOf (option_map data_block_name opened) (letters_for_area writes a)
opened_block None writes a h k = tt
opened_block (Some n) writes a h k = ((refl, h), ap (letters_for_area writes) k)

pub place_printed : (opened : Option ℕ) (writes : Bool) (a : Area) (w : Width) (byte bit : ℕ) → MatchOption opened (Unit {0}) (λ n. n ≤ 65535) → IsOpenedIn opened a → IsPlace a w bit → byte ≤ 65535
    → IsPrintedOperand (direct_operand opened writes a w byte bit)
place_printed opened writes a w byte bit block in_ place h = (opened_block opened writes a block in_, area_is writes a w place.0, h, place.1)

pub opened_number : (before : List OpData) → AllByRecursion IsOp before → MatchOption (block_opened_by_ops before) (Unit {0}) (λ n. n ≤ 65535)
unfolding is_op
opened_number [] h = tt
opened_number (op ∷ ops) (one, more) = used op.operand (and_parts _ (payload_fits op.operand) one).1 where
  used : (f : FlatOperand) → payload_fits f ≡ true → MatchOption (block_of_use_db f) (Unit {0}) (λ n. n ≤ 65535)
  used (flat.UseDb number) e = number_is number e
  used _ e = tt

-- ---- what a call passes

own_passed : (formals : List Formal) (index : ℕ) → index < 2 ^ 64 → AreWords formals → IsPassedOperand (own_parameter formals index)
own_passed formals index h named = name_word formals index h named

pub passed_printed : (formals : List Formal) (f : Formal) (p : Passed) → AreWords formals → actual_fits p ≡ true → PassesPlace p → IsPassedOperand (passed_operand formals f p)
passed_printed formals f (passed.Literal value) named e place = typed_printed f.kind value (ltb-true value 4294967296 e)
passed_printed formals f (passed.Direct a w byte bit) named e place = place_printed None (is_written f.section) a w byte bit tt tt place (byte_place a w byte bit e)
passed_printed formals f (passed.Parameter index w) named e place =
    let few = ltb-true index 256 (and_parts (nat_lt index 256) _ e).0 in
    own_passed formals index (omega (arith, few)) named
passed_printed formals f (passed.InBlock number a w byte bit) named e place =
    let parts = and_parts (nat_lt number 65536) (direct_coding.fits (a, (w, (byte, bit)))) e in
    place_printed (Some number) (is_written f.section) a w byte bit (number_is number parts.0) place.0 place.1 (byte_place a w byte bit parts.1)

-- ---- constants and registers

area_named : (n : ℕ) → IsAreaOf (pointer_area n) width.Bit
area_named n =
    either_way (λ o. IsAreaOf o width.Bit) (n == 1) (Some letters.I) _ tt
    (either_way (λ o. IsAreaOf o width.Bit) (n == 2) (Some letters.Q) _ tt
    (either_way (λ o. IsAreaOf o width.Bit) (n == 3) (Some letters.M) _ tt
    (either_way (λ o. IsAreaOf o width.Bit) (n == 4) (Some letters.Db) _ tt
    (either_way (λ o. IsAreaOf o width.Bit) (n == 5) (Some letters.Di) _ tt
    (either_way (λ o. IsAreaOf o width.Bit) (n == 6) (Some letters.L) None tt tt)))))

letters_named : (bits : ℕ) → IsAreaOf (pointer_letters bits) width.Bit
letters_named bits = either_way (λ o. IsAreaOf o width.Bit) (has_bit bits 31) (pointer_area (bits / 2 ^ 24 % 8)) None (area_named (bits / 2 ^ 24 % 8)) tt

status_is : IsRegister (codes "STW")
unfolding is_word_byte is_word_start registers flags look_up
status_is = record { word = refl; found = refl; no_flag = refl; no_true = refl; no_false = refl }

second_is : IsRegister (codes "AR2")
unfolding is_word_byte is_word_start registers flags look_up
second_is = record { word = refl; found = refl; no_flag = refl; no_true = refl; no_false = refl }

open_is : (which : ℕ) → IsRegister (open_block_name which)
unfolding is_word_byte is_word_start registers flags look_up
open_is which =
    either_way IsRegister (which == 0) (codes "DBLG") _ (record { word = refl; found = refl; no_flag = refl; no_true = refl; no_false = refl })
    (either_way IsRegister (which == 1) (codes "DBNO") _ (record { word = refl; found = refl; no_flag = refl; no_true = refl; no_false = refl })
    (either_way IsRegister (which == 2) (codes "DILG") (codes "DINO") (record { word = refl; found = refl; no_flag = refl; no_true = refl; no_false = refl })
    (record { word = refl; found = refl; no_flag = refl; no_true = refl; no_false = refl })))

constant_printed : (o : Operation) (bits : ℕ) → bits < 4294967296 → IsPrintedOperand (instruction_constant o bits)
constant_printed operation.Load bits h = h
constant_printed (operation.Logic logic.Ad) bits h = h
constant_printed (operation.Logic logic.Od) bits h = h
constant_printed (operation.Logic logic.Xod) bits h = h
constant_printed (operation.Logic _) bits h = omega arith
constant_printed (operation.Pointer which) bits h = (letters_named bits, omega arith, omega arith)
constant_printed (operation.Add add_constant.Dword) bits h = signed_long bits h
constant_printed operation.LoadOpenBlock bits h = open_is bits
constant_printed _ bits h = omega arith

implied_printed : (o : Operation) → IsPrintedOperand (implied_operand o)
implied_printed operation.LoadStatus = status_is
implied_printed operation.TransferStatus = status_is
implied_printed (operation.Pointer pointers.Lar1Ar2) = second_is
implied_printed (operation.Pointer pointers.Tar1Ar2) = second_is
implied_printed _ = tt

-- ---- what stands behind the word of an op code

abbrev is_plain_takes : OperandForms → Bool
is_plain_takes forms.NoCode = false
is_plain_takes forms.Nothing = false
is_plain_takes forms.UseDb = false
is_plain_takes forms.Pass = false
is_plain_takes forms.Jump = false
is_plain_takes forms.Call = false
is_plain_takes forms.Open = false
is_plain_takes _ = true

abbrev is_plain : PrintedSyntax → Bool
is_plain plain = true
is_plain _ = false

abbrev is_bracket : PrintedSyntax → Bool
is_bracket bracket = true
is_bracket _ = false

abbrev is_opens : PrintedSyntax → Bool
is_opens opens = true
is_opens _ = false

abbrev is_calling : PrintedSyntax → Bool
is_calling block_call = true
is_calling call = true
is_calling _ = false

abbrev is_jumping : PrintedSyntax → Bool
is_jumping jump = true
is_jumping _ = false

follows : (a b : Bool) → (not a || b) ≡ true → a ≡ true → b ≡ true
follows true b h e = h
follows false b h e = absurd (false≢true e)

plain_word : (c : ℕ) → c < 128 → is_plain_takes (forms_of c) ≡ true → is_plain (syntax_of (mnemonic_of_code c)) ≡ true
unfolding forms_of operation_of mnemonic_of_code
plain_word c h e = follows _ _ (agree_below_at (λ c. not (is_plain_takes (forms_of c)) || is_plain (syntax_of (mnemonic_of_code c))) (λ c. true) 128 c refl h) e

nothing_word : (c : ℕ) → c < 128 → takes_nothing (forms_of c) ≡ true → (is_plain (syntax_of (mnemonic_of_code c)) || is_bracket (syntax_of (mnemonic_of_code c)) && is_nothing (implied_operand (operation_of c))) ≡ true
unfolding forms_of operation_of mnemonic_of_code
nothing_word c h e = follows _ _ (agree_below_at (λ c. not (takes_nothing (forms_of c)) || (is_plain (syntax_of (mnemonic_of_code c)) || is_bracket (syntax_of (mnemonic_of_code c)) && is_nothing (implied_operand (operation_of c)))) (λ c. true) 128 c refl h) e

call_word : (c : ℕ) → c < 128 → is_call_form (forms_of c) ≡ true → is_calling (syntax_of (mnemonic_of_code c)) ≡ true
unfolding forms_of operation_of mnemonic_of_code
call_word c h e = follows _ _ (agree_below_at (λ c. not (is_call_form (forms_of c)) || is_calling (syntax_of (mnemonic_of_code c))) (λ c. true) 128 c refl h) e

open_word : (c : ℕ) → c < 128 → is_open (forms_of c) ≡ true → is_opens (syntax_of (mnemonic_of_code c)) ≡ true
unfolding forms_of operation_of mnemonic_of_code
open_word c h e = follows _ _ (agree_below_at (λ c. not (is_open (forms_of c)) || is_opens (syntax_of (mnemonic_of_code c))) (λ c. true) 128 c refl h) e

prepares_word : (c : ℕ) → c < 128 → (is_use_db (forms_of c) || is_pass (forms_of c)) ≡ true → is_empty_statement (mnemonic_of_code c) ≡ true
unfolding forms_of operation_of mnemonic_of_code
prepares_word c h e = follows _ _ (agree_below_at (λ c. not (is_use_db (forms_of c) || is_pass (forms_of c)) || is_empty_statement (mnemonic_of_code c)) (λ c. true) 128 c refl h) e

jumping_word : (k : ℕ) → k < 18 → is_jumping (syntax_of (mnemonic_of_jump k)) ≡ true
unfolding mnemonic_of_jump
jumping_word k h = agree_below_at (λ k. is_jumping (syntax_of (mnemonic_of_jump k))) (λ k. true) 18 k refl h

either_true : (a b : Bool) → a ≡ true → (a || b) ≡ true
either_true true b h = refl
either_true false b h = absurd (false≢true h)

second_true : (a b : Bool) → b ≡ true → (a || b) ≡ true
second_true true b h = refl
second_true false b h = h

-- ---- what an instruction takes

literal_plain : (t : OperandForms) (value : ℕ) → takes_literal t value ≡ true → is_plain_takes t ≡ true
literal_plain (forms.Number most) value h = refl
literal_plain (forms.NothingOrNumber most) value h = refl
literal_plain forms.Load value h = refl
literal_plain forms.Pointer value h = refl
literal_plain _ value h = absurd (false≢true h)

indirect_plain : (t : OperandForms) → takes_indirect t ≡ true → is_plain_takes t ≡ true
indirect_plain forms.NoCode h = absurd (false≢true h)
indirect_plain forms.Nothing h = absurd (false≢true h)
indirect_plain forms.UseDb h = absurd (false≢true h)
indirect_plain forms.Pass h = absurd (false≢true h)
indirect_plain forms.Jump h = absurd (false≢true h)
indirect_plain forms.Call h = absurd (false≢true h)
indirect_plain forms.Open h = absurd (false≢true h)
indirect_plain _ h = refl

direct_plain : (t : OperandForms) → takes_direct t ≡ true → is_plain_takes t ≡ true
direct_plain forms.NoCode h = absurd (false≢true h)
direct_plain forms.Nothing h = absurd (false≢true h)
direct_plain forms.UseDb h = absurd (false≢true h)
direct_plain forms.Pass h = absurd (false≢true h)
direct_plain forms.Jump h = absurd (false≢true h)
direct_plain forms.Call h = absurd (false≢true h)
direct_plain forms.Open h = absurd (false≢true h)
direct_plain _ h = refl

condition_plain : (t : OperandForms) → takes_condition t ≡ true → is_plain_takes t ≡ true
condition_plain forms.Check h = refl
condition_plain _ h = absurd (false≢true h)

neither : (a b : Bool) → (a && false || b && false) ≡ true → ⊥
neither true true h = false≢true h
neither true false h = false≢true h
neither false true h = false≢true h
neither false false h = false≢true h

kind_plain : (t : OperandForms) (kind : ℕ) → takes_kind t kind ≡ true → is_plain_takes t ≡ true
kind_plain forms.NoCode kind h = absurd (neither (kind == timer_kind) (kind == counter_kind) h)
kind_plain forms.Nothing kind h = absurd (neither (kind == timer_kind) (kind == counter_kind) h)
kind_plain forms.UseDb kind h = absurd (neither (kind == timer_kind) (kind == counter_kind) h)
kind_plain forms.Pass kind h = absurd (neither (kind == timer_kind) (kind == counter_kind) h)
kind_plain forms.Jump kind h = absurd (neither (kind == timer_kind) (kind == counter_kind) h)
kind_plain forms.Call kind h = absurd (neither (kind == timer_kind) (kind == counter_kind) h)
kind_plain forms.Open kind h = absurd (neither (kind == timer_kind) (kind == counter_kind) h)
kind_plain _ kind h = refl

-- ---- statements by what stands behind their word

plain_fits : (line : ℕ) (x : PrintedSyntax) (o : Operand) → is_plain x ≡ true → IsPrintedOperand o → FitsSyntax line x o []
plain_fits line plain o e h = (h, refl)
plain_fits line bracket o e h = absurd (false≢true e)
plain_fits line jump o e h = absurd (false≢true e)
plain_fits line opens o e h = absurd (false≢true e)
plain_fits line block_call o e h = absurd (false≢true e)
plain_fits line call o e h = absurd (false≢true e)
plain_fits line empty o e h = absurd (false≢true e)

is_none : (o : Operand) → is_nothing o ≡ true → o ≡ operand.Nothing
is_none operand.Nothing e = refl
is_none _ e = absurd (false≢true e)

bare_fits : (line : ℕ) (x : PrintedSyntax) (o : Operand) → (is_plain x || is_bracket x && is_nothing o) ≡ true → IsPrintedOperand o → FitsSyntax line x o []
bare_fits line plain o e h = (h, refl)
bare_fits line bracket o e h = (is_none o e, refl)
bare_fits line jump o e h = absurd (false≢true e)
bare_fits line opens o e h = absurd (false≢true e)
bare_fits line block_call o e h = absurd (false≢true e)
bare_fits line call o e h = absurd (false≢true e)
bare_fits line empty o e h = absurd (false≢true e)

opens_fits : (line : ℕ) (x : PrintedSyntax) (o : Operand) → is_opens x ≡ true → IsOpenOperand o → FitsSyntax line x o []
opens_fits line plain o e h = absurd (false≢true e)
opens_fits line bracket o e h = absurd (false≢true e)
opens_fits line jump o e h = absurd (false≢true e)
opens_fits line opens o e h = (h, refl)
opens_fits line block_call o e h = absurd (false≢true e)
opens_fits line call o e h = absurd (false≢true e)
opens_fits line empty o e h = absurd (false≢true e)

jump_fits : (line : ℕ) (x : PrintedSyntax) (o : Operand) → is_jumping x ≡ true → IsJumpOperand o → FitsSyntax line x o []
jump_fits line plain o e h = absurd (false≢true e)
jump_fits line bracket o e h = absurd (false≢true e)
jump_fits line jump o e h = (h, refl)
jump_fits line opens o e h = absurd (false≢true e)
jump_fits line block_call o e h = absurd (false≢true e)
jump_fits line call o e h = absurd (false≢true e)
jump_fits line empty o e h = absurd (false≢true e)

calls_fit : (line : ℕ) (x : PrintedSyntax) (id : BlockId) → is_calling x ≡ true → IsNumber id.number → FitsSyntax line x (operand.Called (block.Number id) None) []
calls_fit line plain id e h = absurd (false≢true e)
calls_fit line bracket id e h = absurd (false≢true e)
calls_fit line jump id e h = absurd (false≢true e)
calls_fit line opens id e h = absurd (false≢true e)
calls_fit line block_call id e h = (h, refl)
calls_fit line call id e h = (h, tt)
calls_fit line empty id e h = absurd (false≢true e)

-- ---- actual parameters

abbrev pub AreBlocksWords : List Signature → Type 0
AreBlocksWords ss = AllByRecursion (λ s. AreWords s.formals) ss

pub words_of : (formals : List Formal) → AllByRecursion (λ f. IsCutName f.name) formals → AreWords formals
words_of [] h = tt
words_of (f ∷ formals) h = (h.0.0, words_of formals h.1)

block_words : (ss : List Signature) (id : BlockId) → AreBlocksWords ss → AreWords (formals_of_block ss id)
block_words [] id h = tt
block_words (s ∷ ss) id (one, more) = either_way AreWords (is_same_block s.id id) s.formals (formals_of_block ss id) one (block_words ss id more)

called_words : (ss : List Signature) (id : BlockId) → AreBlocksWords ss → AreWords (called_formals ss id)
called_words ss id h = either_way AreWords (is_system_function id.kind) (system_parameters id.number) (formals_of_block ss id) (words_of (system_parameters id.number) (system_named id.number)) (block_words ss id h)

for_printed : (line : ℕ) (formals : List Formal) (o : Option Formal) (p : Passed) → AreWords formals → MatchOption o (Unit {0}) (λ f. is_word f.name ≡ true) → actual_fits p ≡ true → PassesPlace p
    → AllByRecursion (IsPrintedActual line) (actual_for line formals o p)
for_printed line formals None p named f e place = tt
for_printed line formals (Some f) p named name e place = (record { line_is = refl; word = name; value = passed_printed formals f p named e place }, tt)

here_printed : (line : ℕ) (formals called : List Formal) (o : FlatOperand) → AreWords formals → AreWords called → payload_fits o ≡ true → PreparesPlace o → AllByRecursion (IsPrintedActual line) (actual_here line formals called o)
unfolding passed_coding
here_printed line formals called (flat.Pass index p) named others e place = for_printed line formals (slice_get called index) p named (named_word called index others) (and_parts _ (actual_fits p) e).1 place
here_printed line formals called _ named others e place = tt

before_printed : (line : ℕ) (formals called : List Formal) (before : List OpData) → AreWords formals → AreWords called → AllByRecursion IsOp before → AllByRecursion (λ op. PreparesPlace op.operand) before
    → AllByRecursion (IsPrintedActual line) (actuals_before line formals called before)
unfolding is_op
before_printed line formals called [] named others h k = tt
before_printed line formals called (op ∷ before) named others (one, more) (place, places) =
    all_append (IsPrintedActual line) (actual_here line formals called op.operand) (actuals_before line formals called before)
    (here_printed line formals called op.operand named others (and_parts _ (payload_fits op.operand) one).1 place) (before_printed line formals called before named others more places)

-- ---- calls

instance_called : (kind number instance : ℕ) → IsNumber number → IsNumber instance → (instance ≡ 0) ⊎ (kind ≡ kind_number kinds.Fb) → IsCallOperand (operand.Called (block.Number (called_id kind number)) (instance_name instance))
instance_called kind number instance n i (inl none) = subst (λ (k : ℕ). IsCallOperand (operand.Called (block.Number (called_id kind number)) (instance_name k))) (sym none) n
instance_called kind number instance n i (inr fb) = subst (λ (k : ℕ). IsCallOperand (operand.Called (block.Number (called_id k number)) (instance_name instance))) (sym fb)
    (either_way (λ o. IsCallOperand (operand.Called (block.Number (called_id (kind_number kinds.Fb) number)) o)) (instance == 0) None (Some (data_block_name instance)) n ((refl, n), (refl, i)))

-- CALL with its actual parameters, or UC and CC
called_fits : (line code kind number instance : ℕ) (formals called : List Formal) (before : List OpData) → code < 128 → is_call_form (forms_of code) ≡ true → IsNumber number → IsNumber instance
    → IsCallBy before code kind instance → AllByRecursion (IsPrintedActual line) (actuals_before line formals called before)
    → FitsSyntax line (syntax_of (mnemonic_of_code code)) (operand.Called (block.Number (called_id kind number)) (instance_name instance)) (actuals_before line formals called before)
unfolding mnemonic_of_code
called_fits line code kind number instance formals called before h e n i (inl is) all =
    subst (λ (c : ℕ). FitsSyntax line (syntax_of (mnemonic_of_code c)) (operand.Called (block.Number (called_id kind number)) (instance_name instance)) (actuals_before line formals called before)) (sym is.0)
    (instance_called kind number instance n i is.1, all)
called_fits line code kind number instance formals called before h e n i (inr is) all =
    subst (λ (k : ℕ). FitsSyntax line (syntax_of (mnemonic_of_code code)) (operand.Called (block.Number (called_id kind number)) (instance_name k)) (actuals_before line formals called before)) (sym is.0)
    (subst (λ (b : List OpData). FitsSyntax line (syntax_of (mnemonic_of_code code)) (operand.Called (block.Number (called_id kind number)) None) (actuals_before line formals called b)) (sym is.1)
    (calls_fit line (syntax_of (mnemonic_of_code code)) (called_id kind number) (call_word code h e) n))

-- ---- statements

one_or_two : (n : ℕ) → nat_le 1 n ≡ true → nat_le n 2 ≡ true → (n ≡ 1) ⊎ (n ≡ 2)
one_or_two zero h k = absurd (false≢true h)
one_or_two (suc zero) h k = inl refl
one_or_two (suc (suc zero)) h k = inr refl
one_or_two (suc (suc (suc n))) h k = let most = leb-true (suc (suc (suc n))) 2 k in absurd (omega (arith, most))

timer_printed : (kind number : ℕ) → number ≤ 65535 → IsPrintedOperand (timer_or_counter kind number)
timer_printed kind number h = either_way IsPrintedOperand (kind == timer_kind) (operand.Timer number) (operand.Counter number) h h

-- operand and actual parameters of the last op of a statement
fits : (ss : List Signature) (line : ℕ) (formals : List Formal) (starts : List ℕ) (before : List OpData) (code : ℕ) (o : FlatOperand) → AreBlocksWords ss → AreWords formals
    → AllByRecursion IsOp before → AllByRecursion (λ op. PreparesPlace op.operand) before → code < 128 → admits (forms_of code) o ≡ true → payload_fits o ≡ true → IsLastOperandPrinted before code o
    → is_empty_statement (mnemonic_by code o) ≡ false
    → FitsSyntax line (syntax_of (mnemonic_by code o)) (operand_by formals starts (block_opened_by_ops before) (operation_of code) o) (actuals_by ss line formals before o)
unfolding operand_by plain_operand actuals_by admits
fits ss line formals starts before code flat.Nothing known named ops prepares h a e shown word =
    bare_fits line (syntax_of (mnemonic_of_code code)) (implied_operand (operation_of code)) (nothing_word code h a) (implied_printed (operation_of code))
fits ss line formals starts before code (flat.Literal value) known named ops prepares h a e shown word =
    plain_fits line (syntax_of (mnemonic_of_code code)) (instruction_constant (operation_of code) value) (plain_word code h (literal_plain (forms_of code) value a)) (constant_printed (operation_of code) value (ltb-true value 4294967296 e))
fits ss line formals starts before code (flat.Direct ar w byte bit) known named ops prepares h a e shown word =
    plain_fits line (syntax_of (mnemonic_of_code code)) _ (plain_word code h (direct_plain (forms_of code) a))
    (place_printed (block_opened_by_ops before) (operation_writes_operand (operation_of code)) ar w byte bit (opened_number before ops) shown.0 shown.1 (byte_place ar w byte bit e))
fits ss line formals starts before code (flat.ByMemory ar w from byte) known named ops prepares h a e shown word =
    let parts = and_parts (is_memory_area ar) (holds_pointers from && nat_lt byte 65536) e in
    let more = and_parts (holds_pointers from) (nat_lt byte 65536) parts.1 in
    plain_fits line (syntax_of (mnemonic_of_code code)) _ (plain_word code h (indirect_plain (forms_of code) a)) (memory_is ar w parts.0, pointer_is from more.0, number_is byte more.1)
fits ss line formals starts before code (flat.ByRegister ar w register bits) known named ops prepares h a e shown word =
    let parts = and_parts (is_crossing_area ar) ((nat_lt register 256 && (nat_le 1 register && nat_le register 2)) && nat_lt bits 4294967296) e in
    let within_ = (and_parts (nat_lt register 256) (nat_le 1 register && nat_le register 2) (and_parts (nat_lt register 256 && (nat_le 1 register && nat_le register 2)) (nat_lt bits 4294967296) parts.1).0).1 in
    let bounds = and_parts (nat_le 1 register) (nat_le register 2) within_ in
    plain_fits line (syntax_of (mnemonic_of_code code)) _ (plain_word code h (indirect_plain (forms_of code) a)) (crossing_is ar w parts.0, one_or_two register bounds.0 bounds.1, shown)
fits ss line formals starts before code (flat.Parameter index w) known named ops prepares h a e shown word =
    let few = ltb-true index 256 (and_parts (nat_lt index 256) _ e).0 in
    plain_fits line (syntax_of (mnemonic_of_code code)) _ (plain_word code h (indirect_plain (forms_of code) a)) (name_word formals index (omega (arith, few)) named)
fits ss line formals starts before code (flat.Numbered kind number) known named ops prepares h a e shown word =
    plain_fits line (syntax_of (mnemonic_of_code code)) _ (plain_word code h (kind_plain (forms_of code) kind a)) (timer_printed kind number (number_is number (and_parts _ (nat_lt number 65536) e).1))
fits ss line formals starts before code (flat.NumberedBy kind from byte) known named ops prepares h a e shown word =
    let parts = and_parts (holds_pointers from) (nat_lt byte 65536) (and_parts _ (holds_pointers from && nat_lt byte 65536) e).1 in
    plain_fits line (syntax_of (mnemonic_of_code code)) _ (plain_word code h (kind_plain (forms_of code) kind a)) (pointer_is from parts.0, number_is byte parts.1)
fits ss line formals starts before code (flat.Jump kind target) known named ops prepares h a e shown word =
    let most = leb-true kind 17 (and_parts (nat_le 0 kind) (nat_le kind 17) (and_parts (nat_lt kind 256) _ (and_parts _ (nat_lt target 4294967296) e).0).1).1 in
    let label = labels_printed (statement_number_at starts target) in
    jump_fits line (syntax_of (mnemonic_of_jump kind)) _ (jumping_word kind (omega (arith, most))) (label.is_name.word, label.short)
fits ss line formals starts before code (flat.OfStatus condition) known named ops prepares h a e shown word =
    plain_fits line (syntax_of (mnemonic_of_code code)) _ (plain_word code h (condition_plain (forms_of code) a)) tt
fits ss line formals starts before code (flat.UseDb number) known named ops prepares h a e shown word =
    absurd (false≢true (sym word ∙ prepares_word code h (either_true (is_use_db (forms_of code)) (is_pass (forms_of code)) a)))
fits ss line formals starts before code (flat.Pass index p) known named ops prepares h a e shown word =
    absurd (false≢true (sym word ∙ prepares_word code h (second_true (is_use_db (forms_of code)) (is_pass (forms_of code)) a)))
fits ss line formals starts before code (flat.Called kind number instance) known named ops prepares h a e shown word =
    let parts = and_parts (nat_lt number 65536) (nat_lt instance 65536) (and_parts _ _ e).1 in
    let called = called_formals ss (called_id kind number) in
    called_fits line code kind number instance formals called before h a (number_is number parts.0) (number_is instance parts.1) shown
    (before_printed line formals called before named (called_words ss (called_id kind number) known) ops prepares)
fits ss line formals starts before code (flat.OpenBlock register number) known named ops prepares h a e shown word =
    opens_fits line (syntax_of (mnemonic_of_code code)) _ (open_word code h a) (refl, number_is number (and_parts _ (nat_lt number 65536) e).1)
fits ss line formals starts before code (flat.OpenBy register from byte) known named ops prepares h a e shown word =
    let parts = and_parts (holds_pointers from) (nat_lt byte 65536) (and_parts _ (holds_pointers from && nat_lt byte 65536) e).1 in
    opens_fits line (syntax_of (mnemonic_of_code code)) _ (open_word code h a) (pointer_is from parts.0, number_is byte parts.1)

-- a statement whose op is of the table
run_fits : (s : ListingContext) (n : ℕ) (r : StatementOps) → AreBlocksWords s.signatures → AreWords s.formals → IsSourceRun r
    → FitsSyntax (line_of_statement s.lines n) (syntax_of (mnemonic_of r.op)) (operand_by s.formals s.starts (block_opened_by_ops r.before) (operation_of r.op.code) r.op.operand) (actuals_by s.signatures (line_of_statement s.lines n) s.formals r.before r.op.operand)
unfolding is_op
run_fits s n r known named is =
    let whole = and_parts (nat_lt r.op.code 128 && admits (forms_of r.op.code) r.op.operand) (payload_fits r.op.operand) is.op in
    let parts = and_parts (nat_lt r.op.code 128) (admits (forms_of r.op.code) r.op.operand) whole.0 in
    fits s.signatures (line_of_statement s.lines n) s.formals s.starts r.before r.op.code r.op.operand known named is.ops is.prepares (ltb-true r.op.code 128 parts.0) parts.1 whole.1 is.shown is.word

label_printed : (targets : List Bool) (n : ℕ) → IsPrintedLabelOf (label_at targets n)
label_printed targets n = either_way IsPrintedLabelOf (unwrap_or (slice_get targets n) false) (Some (label_of_number n)) None (labels_printed n) tt

statement_printed : (s : ListingContext) (n : ℕ) (r : StatementOps) → AreBlocksWords s.signatures → AreWords s.formals → IsSourceRun r → IsPrintedStatement (listed_statement s n r)
statement_printed s n r known named is = record { label = label_printed s.targets n; fits = run_fits s n r known named is }

no_label : (line : ℕ) (targets : List Bool) (n : ℕ) → unwrap_or (slice_get targets n) false ≡ false → label_of_end line (label_at targets n) ≡ []
no_label line targets n e = ap (λ (b : Bool). label_of_end line (if b then Some (label_of_number n) else None)) e

at_printed : (s : ListingContext) (n : ℕ) (r : StatementOps) → AreBlocksWords s.signatures → AreWords s.formals → IsSourceRun r → (suc n ≡ length s.lines → unwrap_or (slice_get s.targets n) false ≡ false)
    → AllByRecursion IsPrintedStatement (statement_at s n r)
unfolding statement_at
at_printed s n r known named is free =
    cond_both (suc n == length s.lines) (label_of_end (line_of_statement s.lines n) (label_at s.targets n)) (listed_statement s n r ∷ []) (λ l. AllByRecursion IsPrintedStatement l)
    (λ e. subst (λ (l : List Statement). AllByRecursion IsPrintedStatement l) (sym (no_label (line_of_statement s.lines n) s.targets n (free (eqb-true (suc n) (length s.lines) e)))) tt)
    (λ e. (statement_printed s n r known named is, tt))

from_printed : (s : ListingContext) (n : ℕ) (rs : List StatementOps) → AreBlocksWords s.signatures → AreWords s.formals → AllByRecursion IsSourceRun rs → ((k : ℕ) → suc k ≡ length s.lines → unwrap_or (slice_get s.targets k) false ≡ false)
    → AllByRecursion IsPrintedStatement (statements_from s n rs)
from_printed s n [] known named h free = tt
from_printed s n (r ∷ rs) known named (one, more) free =
    all_append IsPrintedStatement (statement_at s n r) (statements_from s (suc n) rs) (at_printed s n r known named one (free n)) (from_printed s (suc n) rs known named more free)

pub bodies_printed : AreBodiesPrinted
unfolding body_of
bodies_printed ss lines b known h free = from_printed (listing_context ss lines b) 0 (runs b.code) known (block_words ss b.id known) h free
