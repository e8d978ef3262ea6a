-- The constants of a listing.
use Rattle.std.proofs.Common.{◌≡◌, ℕ, suc, ◌+◌, ◌-◌, ◌*◌, ◌/◌, ◌%◌, ◌^◌, ◌<◌, ◌≤◌, true, Option, Some, None, refl, ap, ◌∙◌, arith}
use Rattle.std.specs.Prelude.{ℤ, pos, negsuc, nat_le}
use Rattle.std.specs.Int.{cast_signed, cast_unsigned, w32}
use Rattle.std.proofs.lemmas.Int.{of_z-to_z}
use Rattle.std.proofs.lemmas.Bool.Decides.{nat_tests}
use Rattle.plc_base.specs.Pointer.{area_number}
use Rattle.plc_base.specs.declared.places.Area.{Area}
use Rattle.plc_base.specs.declared.places.Area.TheVariants as area
use Rattle.flat_code.specs.declared.operands.Operand.TheVariants as flat
use Rattle.stl_ast.specs.Literals.{IsDecimal, IsLong}
use Rattle.stl_ast.specs.declared.declarations.Simple.TheVariants as simple
use Rattle.stl_ast.specs.declared.literals.Literal.{Literal}
use Rattle.stl_ast.specs.declared.literals.Literal.TheVariants as literal
use Rattle.stl_ast.specs.declared.mnemonics.Mnemonic.{Mnemonic}
use Rattle.stl_ast.specs.declared.mnemonics.Mnemonic.TheVariants as code
use Rattle.stl_ast.specs.declared.operands.Operand.{Operand}
use Rattle.stl_ast.specs.declared.operands.Operand.TheVariants as operand
use Rattle.block_layout.specs.Fits.{bits_of, fits_elementary_type, twos_complement_bits}
use Rattle.stl_types.specs.Addresses.{area_of_pointer}
use Rattle.stl_types.specs.Constants.{is_count, takes_constant}
use Rattle.stl_types.specs.Context.{Context}
use Rattle.stl_types.specs.OperandRules.{operand_rule_of}
use Rattle.stl_types.specs.Operands.{rule_of_resolved_operand, takes_operand}
use Rattle.stl_types.specs.Resolution.{resolution_of}
use Rattle.stl_types.specs.declared.resolved_operands.Resolution.TheVariants.{Resolved}
use Rattle.stl_types.specs.declared.resolved_operands.ResolvedOperand.TheVariants as resolved
use Rattle.stl_codegen.specs.Operands.{flat_operand_of, pointer_bits}
use Rattle.stl_codegen.specs.Operations.{operation_for}
use Rattle.stl_list.specs.Constants.{instruction_constant, pointer_area, pointer_constant, pointer_letters}
use Rattle.listing_laws.specs.Operands.{IsActedAgain, IsConstantCoded, IsPointer}
use Rattle.listing_laws.proofs.ruled.Rules.{operand_unchanged}

constant_acted : (c : Context) (m : Mnemonic) (value again : Literal) → takes_constant (operand_rule_of m) again ≡ true → bits_of again ≡ bits_of value
    → operation_for m (operand.Constant again) resolved.Constant ≡ operation_for m (operand.Constant value) resolved.Constant
    → IsActedAgain c m (operand.Constant value) (operand.Constant again) resolved.Constant
unfolding resolution_of flat_operand_of
constant_acted c m value again taken bits operation = record {
  found = resolved.Constant;
  resolves = refl;
  right = rw taken refl;
  opened = refl;
  operation = operation;
  operand = ap flat.Literal bits;
}

low : (n most : ℕ) → n ≤ most → most < 65536 → n % 65536 ≡ n
low n most h k = omega (arith, h, k)

abbrev decimal : Literal → Literal
decimal value = literal.Number (pos (bits_of value % 65536))

counted_again : (most : ℕ) (value : Literal) → most < 65536 → is_count most value ≡ true → (is_count most (decimal value) ≡ true) × (bits_of (decimal value) ≡ bits_of value)
unfolding bits_of
counted_again most (literal.Number (pos n)) h e =
    let small : n ≤ most = grind (arith, nat_tests) in
    let same : n % 65536 ≡ n = low n most small h in
    (ap (λ (k : ℕ). nat_le k most) same ∙ e, same)
counted_again most _ h e = absurd cc

decimal_low : (v : ℤ) → IsDecimal v → twos_complement_bits 16 v % 65536 ≡ twos_complement_bits 16 v
decimal_low (pos n) h = omega (arith, h)
decimal_low (negsuc n) h = omega (arith, h)

long_low : (v : ℤ) → IsLong v → twos_complement_bits 32 v < 2 ^ 32
long_low (pos n) h = omega (arith, h)
long_low (negsuc n) h = omega (arith, h)

plus_one : (n : ℕ) → n + 1 ≡ suc n
plus_one n = omega arith

bits_unsigned : (v : ℤ) → twos_complement_bits 32 v ≡ cast_unsigned w32 v
bits_unsigned (pos n) = refl
bits_unsigned (negsuc n) = ap (λ (k : ℕ). 4294967296 - k) (plus_one n)

long_again : (v : ℤ) → IsLong v → twos_complement_bits 32 (cast_signed w32 (twos_complement_bits 32 v)) ≡ twos_complement_bits 32 v
long_again v h = bits_unsigned (cast_signed w32 (twos_complement_bits 32 v)) ∙ of_z-to_z w32 (twos_complement_bits 32 v) (long_low v h)

adds_again : (c : Context) (value : Literal) → IsConstantCoded value → takes_constant (operand_rule_of code.Add) value ≡ true
    → IsActedAgain c code.Add (operand.Constant value) (instruction_constant (operation_for code.Add (operand.Constant value) resolved.Constant) (bits_of value)) resolved.Constant
unfolding takes_constant operand_rule_of operation_for bits_of
adds_again c (literal.Number v) h e = constant_acted c code.Add (literal.Number v) (literal.Number (pos (twos_complement_bits 16 v % 65536))) refl (decimal_low v h.literal) refl
adds_again c (literal.Long v) h e = constant_acted c code.Add (literal.Long v) (literal.Long (cast_signed w32 (twos_complement_bits 32 v))) refl (long_again v h.literal) refl
adds_again c _ h e = absurd cc

word_again : (value : Literal) → IsConstantCoded value → fits_elementary_type value simple.Word ≡ true → bits_of value % 65536 ≡ bits_of value
word_again value h e = low (bits_of value) 65535 (h.word e) (omega arith)

-- an instruction takes the constant that its listing has
pub constant_again : (c : Context) (m : Mnemonic) (value : Literal) → IsConstantCoded value → takes_constant (operand_rule_of m) value ≡ true
    → IsActedAgain c m (operand.Constant value) (instruction_constant (operation_for m (operand.Constant value) resolved.Constant) (bits_of value)) resolved.Constant
unfolding takes_constant operand_rule_of operation_for fits_elementary_type bits_of
constant_again c code.L value h e = constant_acted c code.L value (literal.Dword (bits_of value)) refl refl refl
constant_again c code.Nop value h e = let k = counted_again 1 value (omega arith) e in constant_acted c code.Nop value (decimal value) k.0 k.1 refl
constant_again c code.Bld value h e = let k = counted_again 255 value (omega arith) e in constant_acted c code.Bld value (decimal value) k.0 k.1 refl
constant_again c code.Inc value h e = let k = counted_again 255 value (omega arith) e in constant_acted c code.Inc value (decimal value) k.0 k.1 refl
constant_again c code.Dec value h e = let k = counted_again 255 value (omega arith) e in constant_acted c code.Dec value (decimal value) k.0 k.1 refl
constant_again c code.Ssi value h e = let k = counted_again 15 value (omega arith) e in constant_acted c code.Ssi value (decimal value) k.0 k.1 refl
constant_again c code.Slw value h e = let k = counted_again 15 value (omega arith) e in constant_acted c code.Slw value (decimal value) k.0 k.1 refl
constant_again c code.Srw value h e = let k = counted_again 15 value (omega arith) e in constant_acted c code.Srw value (decimal value) k.0 k.1 refl
constant_again c code.Ssd value h e = let k = counted_again 32 value (omega arith) e in constant_acted c code.Ssd value (decimal value) k.0 k.1 refl
constant_again c code.Sld value h e = let k = counted_again 32 value (omega arith) e in constant_acted c code.Sld value (decimal value) k.0 k.1 refl
constant_again c code.Srd value h e = let k = counted_again 32 value (omega arith) e in constant_acted c code.Srd value (decimal value) k.0 k.1 refl
constant_again c code.Rld value h e = let k = counted_again 32 value (omega arith) e in constant_acted c code.Rld value (decimal value) k.0 k.1 refl
constant_again c code.Rrd value h e = let k = counted_again 32 value (omega arith) e in constant_acted c code.Rrd value (decimal value) k.0 k.1 refl
constant_again c code.Add value h e = adds_again c value h e
constant_again c code.Aw value h e = constant_acted c code.Aw value (literal.Word (bits_of value % 65536)) refl (word_again value h e) refl
constant_again c code.Ow value h e = constant_acted c code.Ow value (literal.Word (bits_of value % 65536)) refl (word_again value h e) refl
constant_again c code.Xow value h e = constant_acted c code.Xow value (literal.Word (bits_of value % 65536)) refl (word_again value h e) refl
constant_again c code.Ad value h e = constant_acted c code.Ad value (literal.Dword (bits_of value)) refl refl refl
constant_again c code.Od value h e = constant_acted c code.Od value (literal.Dword (bits_of value)) refl refl refl
constant_again c code.Xod value h e = constant_acted c code.Xod value (literal.Dword (bits_of value)) refl refl refl
constant_again c _ value h e = absurd cc

-- ---- pointers

abbrev crossing_pointer : (k byte bit : ℕ) → ℕ
crossing_pointer k byte bit = 2147483648 + 16777216 * k + 8 * byte + bit

letters_at : (b k : ℕ) → b / 2 ^ 31 % 2 ≡ 1 → b / 2 ^ 24 % 8 ≡ k → pointer_letters b ≡ pointer_area k
letters_at b k e h = rw (e, h) refl

letters_none : (b : ℕ) → b / 2 ^ 31 % 2 ≡ 0 → pointer_letters b ≡ None
letters_none b e = rw e refl

crossing_area : (k byte bit : ℕ) → k < 8 → byte ≤ 65535 → bit ≤ 7 → pointer_letters (crossing_pointer k byte bit) ≡ pointer_area k
crossing_area k byte bit e f g = letters_at (crossing_pointer k byte bit) k (omega (arith, e, f, g)) (omega (arith, e, f, g))

crossing_byte : (k byte bit : ℕ) → byte ≤ 65535 → bit ≤ 7 → crossing_pointer k byte bit / 8 % 65536 ≡ byte
crossing_byte k byte bit f g = omega (arith, f, g)

crossing_bit : (k byte bit : ℕ) → bit ≤ 7 → crossing_pointer k byte bit % 8 ≡ bit
crossing_bit k byte bit g = omega (arith, g)

area_again : (a : Option Area) (byte bit : ℕ) → IsPointer a byte bit → area_of_pointer (pointer_letters (pointer_bits a byte bit)) ≡ a
area_again None byte bit h = let f = h.low_byte in let g = h.low_bit in ap area_of_pointer (letters_none (8 * byte + bit) (omega (arith, f, g)))
area_again (Some area.P) byte bit h = absurd (h.no_peripherals refl)
area_again (Some area.I) byte bit h = ap area_of_pointer (crossing_area 1 byte bit (omega arith) h.low_byte h.low_bit)
area_again (Some area.Q) byte bit h = ap area_of_pointer (crossing_area 2 byte bit (omega arith) h.low_byte h.low_bit)
area_again (Some area.M) byte bit h = ap area_of_pointer (crossing_area 3 byte bit (omega arith) h.low_byte h.low_bit)
area_again (Some area.Db) byte bit h = ap area_of_pointer (crossing_area 4 byte bit (omega arith) h.low_byte h.low_bit)
area_again (Some area.Di) byte bit h = ap area_of_pointer (crossing_area 5 byte bit (omega arith) h.low_byte h.low_bit)
area_again (Some area.L) byte bit h = ap area_of_pointer (crossing_area 6 byte bit (omega arith) h.low_byte h.low_bit)

byte_again : (a : Option Area) (byte bit : ℕ) → IsPointer a byte bit → pointer_bits a byte bit / 8 % 65536 ≡ byte
byte_again None byte bit h = let f = h.low_byte in let g = h.low_bit in omega (arith, f, g)
byte_again (Some a) byte bit h = crossing_byte (area_number a) byte bit h.low_byte h.low_bit

bit_again : (a : Option Area) (byte bit : ℕ) → IsPointer a byte bit → pointer_bits a byte bit % 8 ≡ bit
bit_again None byte bit h = let g = h.low_bit in omega (arith, g)
bit_again (Some a) byte bit h = crossing_bit (area_number a) byte bit h.low_bit

pub pointer_seen : (c : Context) (a : Option Area) (byte bit : ℕ) → IsPointer a byte bit → resolution_of c (pointer_constant (pointer_bits a byte bit)) ≡ Resolved (resolved.Pointer a byte bit)
unfolding resolution_of
pointer_seen c a byte bit h =
    ap (λ (x : Option Area). Resolved (resolved.Pointer x (pointer_bits a byte bit / 8 % 65536) (pointer_bits a byte bit % 8))) (area_again a byte bit h)
    ∙ ap (λ (x : ℕ). Resolved (resolved.Pointer a x (pointer_bits a byte bit % 8))) (byte_again a byte bit h)
    ∙ ap (λ (x : ℕ). Resolved (resolved.Pointer a byte x)) (bit_again a byte bit h)

-- a pointer that L loads is a constant there
pub pointer_loaded : (c : Context) (o : Operand) (a : Option Area) (byte bit : ℕ)
    → IsActedAgain c code.L o (operand.Constant (literal.Dword (pointer_bits a byte bit))) (resolved.Pointer a byte bit)
unfolding resolution_of flat_operand_of operation_for operand_rule_of takes_constant bits_of
pointer_loaded c o a byte bit = record {
  found = resolved.Constant;
  resolves = refl;
  right = refl;
  opened = refl;
  operation = refl;
  operand = refl;
}

pub pointer_acts : (c : Context) (m : Mnemonic) (o : Operand) (a : Option Area) (byte bit : ℕ) → IsPointer a byte bit
    → rule_of_resolved_operand (operand_rule_of m) (resolved.Pointer a byte bit) ≡ None → takes_operand (operand_rule_of m) (resolved.Pointer a byte bit) ≡ true
    → IsActedAgain c m o (instruction_constant (operation_for m o (resolved.Pointer a byte bit)) (pointer_bits a byte bit)) (resolved.Pointer a byte bit)
unfolding takes_operand operand_rule_of operation_for
pointer_acts c code.L o a byte bit h e k = pointer_loaded c o a byte bit
pointer_acts c code.Lar1 o a byte bit h e k = operand_unchanged c code.Lar1 o (pointer_constant (pointer_bits a byte bit)) (resolved.Pointer a byte bit) tt e refl (pointer_seen c a byte bit h)
pointer_acts c code.Lar2 o a byte bit h e k = operand_unchanged c code.Lar2 o (pointer_constant (pointer_bits a byte bit)) (resolved.Pointer a byte bit) tt e refl (pointer_seen c a byte bit h)
pointer_acts c code.AddAr1 o a byte bit h e k = operand_unchanged c code.AddAr1 o (pointer_constant (pointer_bits a byte bit)) (resolved.Pointer a byte bit) tt e refl (pointer_seen c a byte bit h)
pointer_acts c code.AddAr2 o a byte bit h e k = operand_unchanged c code.AddAr2 o (pointer_constant (pointer_bits a byte bit)) (resolved.Pointer a byte bit) tt e refl (pointer_seen c a byte bit h)
pointer_acts c _ o a byte bit h e k = absurd cc
