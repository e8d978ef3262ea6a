-- The operands of a listing are printable.
use Rattle.std.proofs.Common.{◌≡◌, ℕ, zero, suc, ◌≤◌, ◌<◌, ◌^◌, true, List, [], ◌∷◌, Option, Some, None, refl, arith}
use Rattle.std.specs.Prelude.{MatchOption, option_map, nat_lt, ◌==◌, slice_get}
use Rattle.std.specs.List.{AllByRecursion}
use Rattle.std.proofs.lemmas.Bool.{and_parts, ltb-true}
use Rattle.flat_code.specs.Kinds.{timer_kind}
use Rattle.flat_code.specs.Forms.{actual_fits, direct_coding, payload_fits}
use Rattle.flat_code.specs.Ops.{OpData}
use Rattle.flat_code.specs.declared.operands.Operand.TheVariants as flat
use Rattle.flat_code.specs.declared.operands.Operand.{Operand as FlatOperand}
use Rattle.flat_code.specs.declared.operands.Passed.TheVariants as passed
use Rattle.flat_code.specs.declared.operands.Passed.{Passed}
use Rattle.flat_code.specs.declared.operations.Operation.TheVariants as operation
use Rattle.flat_code.specs.declared.operations.Operation.{Operation}
use Rattle.flat_code.specs.declared.operations.PointerOperation.TheVariants as pointers
use Rattle.plc_base.specs.declared.places.Area.{Area}
use Rattle.plc_base.specs.declared.places.Width.{Width}
use Rattle.stl_ast.specs.declared.operands.Operand.TheVariants as operand
use Rattle.stl_lexer.specs.Bytes.{is_word_byte, is_word_start}
use Rattle.stl_types.specs.declared.parameters.Formal.{Formal}
use Rattle.stl_list.specs.Actuals.{passed_operand}
use Rattle.stl_parser.specs.Operands.{data_block_name}
use Rattle.stl_list.specs.Operands.{implied_operand, instance_name, name_at, block_opened_by_ops, operand_by, own_parameter, plain_operand, timer_or_counter, block_of_use_db}
use Rattle.stl_list.specs.Runs.{statement_number_at}
use Rattle.print_laws.specs.Standing.{IsNonTitleName, IsNumberedOrNone, IsPrintableOperand}
use Rattle.listing_laws.proofs.NameLemmas.{AreFormals, either_way, instruction_printable, label_is, parameter_is, typed_printable}
use Rattle.listing_laws.proofs.RangeLemmas.{IsListedOp}
use Rattle.listing_laws.specs.Ranges.{IsOffsetWritable}

number_is : (n : ℕ) → nat_lt n 65536 ≡ true → n ≤ 65535
number_is n e = omega (arith, ltb-true n 65536 e)

long_is : (n : ℕ) → nat_lt n 4294967296 ≡ true → n < 4294967296
long_is n e = ltb-true n 4294967296 e

byte_is : (n : ℕ) → nat_lt n 256 ≡ true → n ≤ 65535
byte_is n e = omega (arith, ltb-true n 256 e)

-- a place that fits form 02
direct_is : (a : Area) (w : Width) (byte bit : ℕ) → direct_coding.fits (a, (w, (byte, bit))) ≡ true → (byte ≤ 65535) × (bit ≤ 65535)
unfolding direct_coding
direct_is a w byte bit e =
    let parts = and_parts (nat_lt byte 65536) _ e in
    (number_is byte parts.0, byte_is bit (and_parts (nat_lt bit 256) _ parts.1).0)

-- ---- names of parameters

pub named_at : (formals : List Formal) (i : ℕ) → AreFormals formals → MatchOption (slice_get formals i) (Unit {0}) (λ f. IsNonTitleName f.name)
named_at [] i h = tt
named_at (f ∷ formals) zero (one, more) = one
named_at (f ∷ formals) (suc i) (one, more) = named_at formals i more

name_is : (formals : List Formal) (index : ℕ) → index < 2 ^ 64 → AreFormals formals → IsNonTitleName (name_at formals index)
name_is formals index h named = by (slice_get formals index) refl (named_at formals index named) where
  by : (o : Option Formal) → slice_get formals index ≡ o → MatchOption o (Unit {0}) (λ f. IsNonTitleName f.name) → IsNonTitleName (name_at formals index)
  by None e k = rw e (parameter_is index h)
  by (Some f) e k = rw e k

own_is : (formals : List Formal) (index : ℕ) → index < 2 ^ 64 → AreFormals formals → IsPrintableOperand (own_parameter formals index)
own_is formals index h named = ((name_is formals index h named).0, tt)

-- ---- operands

pub opened_is : (before : List OpData) → AllByRecursion IsListedOp before → IsNumberedOrNone (option_map data_block_name (block_opened_by_ops before))
opened_is [] h = tt
opened_is (op ∷ ops) (one, more) = used op.operand one.0 where
  used : (f : FlatOperand) → payload_fits f ≡ true → IsNumberedOrNone (option_map data_block_name (block_of_use_db f))
  used (flat.UseDb number) e = number_is number e
  used _ e = tt

instance_is : (instance : ℕ) → instance ≤ 65535 → IsNumberedOrNone (instance_name instance)
instance_is instance h = either_way IsNumberedOrNone (instance == 0) None (Some (data_block_name instance)) tt h

timer_is : (kind number : ℕ) → number ≤ 65535 → IsPrintableOperand (timer_or_counter kind number)
timer_is kind number h = either_way IsPrintableOperand (kind == timer_kind) (operand.Timer number) (operand.Counter number) h h

implied_is : (o : Operation) → IsPrintableOperand (implied_operand o)
unfolding is_word_byte is_word_start
implied_is operation.LoadStatus = (refl, refl)
implied_is operation.TransferStatus = (refl, refl)
implied_is (operation.Pointer pointers.Lar1Ar2) = (refl, refl)
implied_is (operation.Pointer pointers.Tar1Ar2) = (refl, refl)
implied_is _ = tt

pub operand_is : (formals : List Formal) (starts : List ℕ) (opened : Option ℕ) (o : Operation) (f : FlatOperand) → AreFormals formals → IsNumberedOrNone (option_map data_block_name opened) → payload_fits f ≡ true → IsOffsetWritable f
    → IsPrintableOperand (operand_by formals starts opened o f)
unfolding operand_by plain_operand
operand_is formals starts opened o flat.Nothing named block e w = implied_is o
operand_is formals starts opened o (flat.Literal value) named block e w = instruction_printable o value (long_is value e)
operand_is formals starts opened o (flat.Direct a width byte bit) named block e w = let is = direct_is a width byte bit e in (block, is.0, is.1)
operand_is formals starts opened o (flat.ByMemory a width from byte) named block e w = number_is byte (and_parts _ (nat_lt byte 65536) (and_parts _ _ e).1).1
operand_is formals starts opened o (flat.ByRegister a width register bits) named block e w =
    (byte_is register (and_parts (nat_lt register 256) _ (and_parts _ (nat_lt bits 4294967296) (and_parts _ _ e).1).0).0, w)
operand_is formals starts opened o (flat.Parameter index width) named block e w = own_is formals index (omega (arith, byte_is index (and_parts (nat_lt index 256) _ e).0)) named
operand_is formals starts opened o (flat.Numbered kind number) named block e w = timer_is kind number (number_is number (and_parts _ (nat_lt number 65536) e).1)
operand_is formals starts opened o (flat.NumberedBy kind from byte) named block e w = number_is byte (and_parts _ (nat_lt byte 65536) (and_parts _ _ e).1).1
operand_is formals starts opened o (flat.Jump kind target) named block e w = label_is (statement_number_at starts target)
operand_is formals starts opened o (flat.OfStatus condition) named block e w = tt
operand_is formals starts opened o (flat.UseDb number) named block e w = tt
operand_is formals starts opened o (flat.Pass index p) named block e w = tt
operand_is formals starts opened o (flat.Called kind number instance) named block e w =
    let parts = and_parts (nat_lt number 65536) (nat_lt instance 65536) (and_parts _ _ e).1 in
    (number_is number parts.0, instance_is instance (number_is instance parts.1))
operand_is formals starts opened o (flat.OpenBlock register number) named block e w = number_is number (and_parts _ (nat_lt number 65536) e).1
operand_is formals starts opened o (flat.OpenBy register from byte) named block e w = number_is byte (and_parts _ (nat_lt byte 65536) (and_parts _ _ e).1).1

-- ---- what a call passes

pub passed_is : (formals : List Formal) (f : Formal) (p : Passed) → AreFormals formals → actual_fits p ≡ true → IsPrintableOperand (passed_operand formals f p)
passed_is formals f (passed.Literal value) named e = typed_printable f.kind value (long_is value e)
passed_is formals f (passed.Direct a width byte bit) named e = let is = direct_is a width byte bit e in (tt, is.0, is.1)
passed_is formals f (passed.Parameter index width) named e = own_is formals index (omega (arith, byte_is index (and_parts (nat_lt index 256) _ e).0)) named
passed_is formals f (passed.InBlock number a width byte bit) named e =
    let parts = and_parts (nat_lt number 65536) (direct_coding.fits (a, (width, (byte, bit)))) e in
    let is = direct_is a width byte bit parts.1 in
    (number_is number parts.0, is.0, is.1)
