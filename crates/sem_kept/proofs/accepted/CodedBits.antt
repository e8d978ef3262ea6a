-- The bits of constants, and which instruction takes which constant.
use Rattle.std.proofs.Common.{◌≡◌, ℕ, ◌+◌, ◌*◌, ◌/◌, ◌%◌, ◌≤◌, ◌<◌, ◌^◌, true, List, [], ◌∷◌, length, ℤ, refl, arith}
use Rattle.std.proofs.lemmas.Bool.Decides.{nat_tests}
use Rattle.plc_base.specs.Bcd.{bcd_digits}
use Rattle.plc_base.specs.S5Time.{s5time_of_ms, s5time_of_units}
use Rattle.plc_base.specs.declared.s5times.TimeBase.{TimeBase}
use Rattle.flat_code.specs.Table.{admits, forms_of_operation}
use Rattle.flat_code.specs.declared.operands.Operand.TheVariants as flat
use Rattle.stl_ast.specs.Literals.{AreBytes, IsDecimal, IsLiteral, IsLong}
use Rattle.stl_ast.specs.declared.declarations.Simple.{Simple}
use Rattle.stl_ast.specs.declared.declarations.Simple.TheVariants as simple
use Rattle.stl_ast.specs.declared.literals.Literal.{Literal}
use Rattle.stl_ast.specs.declared.mnemonics.Mnemonic.{Mnemonic}
use Rattle.stl_ast.specs.declared.mnemonics.Mnemonic.TheVariants as code
use Rattle.stl_ast.specs.declared.operands.Operand.TheVariants as operand
use Rattle.block_layout.specs.Fits.{bits_of, fits_elementary_type, number_from, number_or_zero, twos_complement_bits}
use Rattle.block_layout.specs.Sizes.{plain_bits}
use Rattle.stl_types.specs.Constants.{takes_constant}
use Rattle.stl_types.specs.OperandRules.{operand_rule_of}
use Rattle.stl_types.specs.declared.resolved_operands.ResolvedOperand.TheVariants as resolved
use Rattle.stl_codegen.specs.Operations.{operation_for}
use Rattle.sem_kept.specs.CodedBlocks.{HasBytes}

-- ---- bits

digits_small : (n : ℕ) → bcd_digits 3 n ≤ 4095
digits_small n =
    let same : bcd_digits 3 n ≡ n % 10 + 16 * (n / 10 % 10 + 16 * (n / 10 / 10 % 10 + 16 * 0)) =
    refl in
    omega (arith, same)

based_small : (b : TimeBase) (n : ℕ) → s5time_of_units b n ≤ 65535
based_small b n = grind (arith, digits_small)

time_small : (ms : ℕ) → number_or_zero (s5time_of_ms ms) ≤ 65535
unfolding s5time_of_ms
time_small ms = grind (arith, based_small)

decimal_small : (v : ℤ) → IsDecimal v → twos_complement_bits 16 v ≤ 65535
decimal_small v h = grind arith

long_small : (v : ℤ) → IsLong v → twos_complement_bits 32 v ≤ 4294967295
long_small v h = grind arith

characters_small : (bytes : List ℕ) → length bytes ≤ 4 → AreBytes bytes
    → (number_from 0 bytes ≤ 4294967295) × (length bytes ≡ 1 → number_from 0 bytes ≤ 255) × (length bytes ≡ 2 → number_from 0 bytes ≤ 65535)
characters_small [] few h = omega arith
characters_small (a ∷ []) few h = omega arith
characters_small (a ∷ b ∷ []) few h = omega arith
characters_small (a ∷ b ∷ c ∷ []) few h = omega arith
characters_small (a ∷ b ∷ c ∷ d ∷ []) few h = omega arith
characters_small (a ∷ b ∷ c ∷ d ∷ e ∷ more) few h = absurd (omega arith)

-- 32 bits hold each constant
pub bits_small : (value : Literal) → IsLiteral value → HasBytes value → bits_of value ≤ 4294967295
unfolding bits_of
bits_small value is has =
    grind (arith, decimal_small, long_small, digits_small, time_small, characters_small)

-- and the bits of a type what fits it
pub value_fits : (value : Literal) (kind : Simple) → IsLiteral value → HasBytes value
    → fits_elementary_type value kind ≡ true → bits_of value < 2 ^ plain_bits kind
unfolding bits_of fits_elementary_type
value_fits value kind is has e =
    grind (arith, nat_tests, long_small, digits_small, time_small, characters_small)

-- ---- by instruction

-- an instruction takes the constants that its form does
pub constant_taken : (m : Mnemonic) (value : Literal) → IsLiteral value → HasBytes value
    → takes_constant (operand_rule_of m) value ≡ true
    → admits (forms_of_operation (operation_for m (operand.Constant value) resolved.Constant))
    (flat.Literal (bits_of value)) ≡ true
unfolding operand_rule_of takes_constant operation_for admits bits_of
constant_taken code.L value is has h = refl
constant_taken code.Aw value is has h = grind (arith, nat_tests, value_fits value simple.Word is has)
constant_taken code.Ow value is has h = grind (arith, nat_tests, value_fits value simple.Word is has)
constant_taken code.Xow value is has h = grind (arith, nat_tests, value_fits value simple.Word is has)
constant_taken _ value is has h = grind (arith, nat_tests, bits_small)
