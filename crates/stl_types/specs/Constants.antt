-- Constants as operands of instructions.
use Rattle.std.specs.Prelude.{ℕ, ℤ, pos, negsuc, nat_le, Bool, true, false, not}
use Rattle.stl_ast.specs.declared.literals.Literal.{Literal}
use Rattle.stl_ast.specs.declared.literals.Literal.TheVariants as literal
use Rattle.block_layout.specs.Fits.{fits_elementary_type}
use Rattle.stl_types.specs.declared.operand_rules.OperandRule.{OperandRule}
use Rattle.stl_types.specs.declared.operand_rules.OperandRule.TheVariants as rules

-- a number from 0 to a greatest one
abbrev pub is_up_to : (most : ℕ) → ℤ → Bool
is_up_to most (pos n) = nat_le n most
is_up_to most (negsuc n) = false

-- a decimal number from 0 to a greatest one
abbrev pub is_count : (most : ℕ) → Literal → Bool
is_count most (literal.Number value) = is_up_to most value
is_count most _ = false

-- a decimal number, or one with L#, which + takes
abbrev pub is_addend : Literal → Bool
is_addend (literal.Number value) = true
is_addend (literal.Long value) = true
is_addend _ = false

-- TRUE or FALSE
abbrev pub is_truth : Literal → Bool
is_truth (literal.Truth value) = true
is_truth _ = false

-- an instruction of an operand rule takes a constant: L each but TRUE and FALSE; NOP, BLD, INC,
-- DEC and the shifts a count; + a decimal number or L#; word logic what fits WORD or DWORD
unfoldable pub takes_constant : OperandRule → Literal → Bool
takes_constant rules.Loads value = not (is_truth value)
takes_constant (rules.Counts most) value = is_count most value
takes_constant (rules.Shifts most) value = is_count most value
takes_constant rules.Adds value = is_addend value
takes_constant (rules.Combines kind) value = fits_elementary_type value kind
takes_constant _ value = false
