-- The operand of a listed statement: what it names, and that its instruction takes it.
use Rattle.std.specs.Prelude.{◌≡◌, ℕ, ◌≤◌, true, List, [], Option, Some, None}
use Rattle.plc_base.specs.Folding.{upper_case_name}
use Rattle.plc_base.specs.declared.places.Area.{Area}
use Rattle.plc_base.specs.declared.places.Area.TheVariants as area
use Rattle.flat_code.specs.Instr.{Instr, Does}
use Rattle.stl_ast.specs.Literals.{IsLiteral}
use Rattle.stl_ast.specs.declared.blocks.PartKind.{PartKind}
use Rattle.stl_ast.specs.declared.declarations.Simple.{Simple}
use Rattle.stl_ast.specs.declared.declarations.Simple.TheVariants as simple
use Rattle.stl_ast.specs.declared.literals.Literal.{Literal}
use Rattle.stl_ast.specs.declared.mnemonics.Mnemonic.{Mnemonic}
use Rattle.stl_ast.specs.declared.operands.Operand.{Operand}
use Rattle.stl_ast.specs.declared.operands.Operand.TheVariants as operand
use Rattle.block_layout.specs.Fits.{bits_of, fits_elementary_type}
use Rattle.block_layout.specs.Offsets.{width_of}
use Rattle.stl_types.specs.Context.{Context, data_number}
use Rattle.stl_types.specs.OperandRules.{operand_rule_of}
use Rattle.stl_types.specs.Operands.{is_input, rule_of_operand}
use Rattle.stl_types.specs.Resolution.{resolution_of}
use Rattle.stl_types.specs.Variables.{own_variable}
use Rattle.stl_types.specs.declared.parameters.Formal.{Formal}
use Rattle.stl_types.specs.declared.resolved_operands.Resolution.TheVariants.{Resolved}
use Rattle.stl_types.specs.declared.resolved_operands.ResolvedOperand.{ResolvedOperand}
use Rattle.stl_types.specs.declared.resolved_operands.ResolvedOperand.TheVariants as resolved
use Rattle.stl_codegen.specs.Operands.{block_opened_by_operand, block_opened_by_place, flat_operand_of}
use Rattle.stl_codegen.specs.Operations.{operation_for}
use Rattle.stl_parser.specs.Operands.{data_block_name}
use Rattle.stl_list.specs.Operands.{name_at, operand_of_run as listed_operand}
use Rattle.listing_laws.specs.Labels.{IsStraightLine}
use Rattle.listing_laws.specs.Statements.{run_of}

-- ---- what the tree of a listing must say

-- the data block that a statement opens, if it opens one, stands in the tree of a listing by its
-- number
abbrev pub IsOpenedAgain : Context → Option ℕ → Type 0
IsOpenedAgain listed None = Unit {0}
IsOpenedAgain listed (Some number) = data_number listed (data_block_name number) ≡ Some number

-- the parameter of an index stands in the tree of a listing by its name, with its width, and is an
-- input if it was one
pub record IsParameterAgain (listed : Context) (formals : List Formal) (index : ℕ)
    (section : PartKind) (kind : Simple) : Type 0 where
  -- the section that the parameter has in the listing
  pub section_again : PartKind
  -- the type that the parameter has in the listing
  pub kind_again : Simple
  -- the name means, in the listing, the parameter of this index
  pub named : own_variable listed (upper_case_name (name_at formals index)) []
      ≡ Resolved (resolved.Parameter index section_again kind_again)
  -- the type in the listing has the width of the type in the source
  pub wide : width_of kind_again ≡ width_of kind
  -- the parameter is an input in the listing exactly where it was one
  pub input : is_input (resolved.Parameter index section_again kind_again)
      ≡ is_input (resolved.Parameter index section kind)

-- a pointer has an area that pointers have, and its numbers are in their ranges
pub record IsPointer (a : Option Area) (byte bit : ℕ) : Type 0 where
  -- the pointer doesn't lead to peripherals
  pub no_peripherals : a ≡ Some area.P → ⊥
  -- the number of the byte is at most 65,535
  pub low_byte : byte ≤ 65535
  -- the number of the bit is at most 7
  pub low_bit : bit ≤ 7

-- what an operand of a source names stands in the tree of a listing; of a pointer, its numbers are
-- in their ranges
abbrev pub StandsAgain : Context → List Formal → ResolvedOperand → Type 0
StandsAgain listed formals (resolved.Direct place width side declared) =
    IsOpenedAgain listed (block_opened_by_place place)
StandsAgain listed formals (resolved.Parameter index section declared) =
    IsParameterAgain listed formals index section declared
StandsAgain listed formals (resolved.OpenBlock di number) = IsOpenedAgain listed (Some number)
StandsAgain listed formals (resolved.Pointer a byte bit) = IsPointer a byte bit
StandsAgain listed formals _ = Unit {0}

-- a constant is in the range of its kind, and its bits are as many as it says
pub record IsConstantCoded (value : Literal) : Type 0 where
  -- the constant is in the range of its kind
  pub literal : IsLiteral value
  -- a constant that fits WORD has at most 16 bits
  pub word : fits_elementary_type value simple.Word ≡ true → bits_of value ≤ 65535

-- an operand resolves to a constant exactly where it is one, and this has its bits
abbrev pub IsConstantResolved : Operand → ResolvedOperand → Type 0
IsConstantResolved (operand.Constant value) v = (v ≡ resolved.Constant) × IsConstantCoded value
IsConstantResolved o resolved.Constant = ⊥
IsConstantResolved o _ = Unit {0}

-- ---- operands

-- an operand of a listing, with an instruction, comes to the same as one of a source that names
-- this
pub record IsActedAgain (listed : Context) (m : Mnemonic) (o again : Operand) (v : ResolvedOperand)
    : Type 0 where
  -- what the listing's operand names
  pub found : ResolvedOperand
  -- the listing's operand resolves to `found`
  pub resolves : resolution_of listed again ≡ Resolved found
  -- the instruction takes the listing's operand
  pub right : rule_of_operand listed (operand_rule_of m) again ≡ None
  -- the same data block is opened before it, if any
  pub opened : block_opened_by_operand found ≡ block_opened_by_operand v
  -- the operation is the same with both operands
  pub operation : operation_for m again found ≡ operation_for m o v
  -- the operand of the op is the same
  pub operand : flat_operand_of again found ≡ flat_operand_of o v

-- the instruction of a statement that goes on, by what its operand names
abbrev pub operand_instruction : Mnemonic → Operand → ResolvedOperand → Instr
operand_instruction m o v =
    Does (block_opened_by_operand v) (operation_for m o v) (flat_operand_of o v)

-- the operand that a listing has for an instruction that goes on comes to the same as the operand
-- of the source, where what this names stands in the tree of the listing
abbrev pub AreOperandsKept : Type 0
AreOperandsKept =
    (c listed : Context) (formals : List Formal) (starts : List ℕ) (f : ℕ → ℕ) (m : Mnemonic)
    (o : Operand) (v : ResolvedOperand)
    → IsStraightLine m → rule_of_operand c (operand_rule_of m) o ≡ None → resolution_of c o ≡ Resolved v
    → IsConstantResolved o v → StandsAgain listed formals v
    → IsActedAgain listed m o
    (listed_operand formals starts (run_of f (operand_instruction m o v))) v
