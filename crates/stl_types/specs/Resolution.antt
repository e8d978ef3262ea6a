-- What an operand names.
use Rattle.std.specs.Prelude.{ℕ, Bool, List, codes, Option, Some, None, if◌then◌else◌}
use Rattle.std.specs.Option.{option_map}
use Rattle.plc_base.specs.Kinds.{is_system_function}
use Rattle.plc_base.specs.declared.blocks.BlockId.{BlockId}
use Rattle.stl_ast.specs.declared.blocks.PathStep.{PathStep}
use Rattle.stl_ast.specs.declared.names.BlockName.{BlockName}
use Rattle.stl_ast.specs.declared.operands.Letters.{Letters}
use Rattle.stl_ast.specs.declared.operands.Operand.{Operand}
use Rattle.stl_ast.specs.declared.operands.Operand.TheVariants as operand
use Rattle.stl_ast.specs.declared.operands.PathHead.{PathHead}
use Rattle.stl_ast.specs.declared.operands.PathHead.TheVariants as head
use Rattle.plc_base.specs.Folding.{upper_case_name, is_same_name}
use Rattle.stl_symbols.specs.Symbol.{Symbol, symbol_named}
use Rattle.stl_symbols.specs.declared.targets.Target.{Target}
use Rattle.stl_symbols.specs.declared.targets.Target.TheVariants as target
use Rattle.block_layout.specs.Blocks.{named_block}
use Rattle.block_layout.specs.Paths.{folded_path}
use Rattle.plc_base.specs.declared.places.Width.{Width}
use Rattle.stl_types.specs.Addresses.{resolved_address, address_in_block, area_of_pointer, area_for_letters}
use Rattle.stl_types.specs.Context.{Context, data_number, whole_place}
use Rattle.stl_types.specs.Variables.{data_variable, own_variable}
use Rattle.stl_types.specs.declared.resolved_operands.Register.{Register}
use Rattle.stl_types.specs.declared.resolved_operands.Register.TheVariants as register
use Rattle.stl_types.specs.declared.resolved_operands.Resolution.{Resolution}
use Rattle.stl_types.specs.declared.resolved_operands.Resolution.TheVariants.{Resolved, Unknown, Unjudged}
use Rattle.stl_types.specs.declared.resolved_operands.Side.TheVariants as side
use Rattle.stl_types.specs.declared.resolved_operands.ResolvedOperand.{ResolvedOperand}
use Rattle.stl_types.specs.declared.resolved_operands.ResolvedOperand.TheVariants as resolved

-- what a symbol stands for
abbrev pub resolved_target : Target → ResolvedOperand
resolved_target (target.Variable place width) = resolved.Direct place width side.Both None
resolved_target (target.Timer number) = resolved.Timer number
resolved_target (target.Counter number) = resolved.Counter number
resolved_target (target.Block id) = resolved.Block

-- what a quoted name that is the whole operand names; unknown without a symbol
abbrev pub resolution_of_symbol : Option Symbol → Resolution
resolution_of_symbol None = Unknown
resolution_of_symbol (Some s) = Resolved (resolved_target s.target)

-- what a path names: one into the block's own variables, into a data block, or a symbol
abbrev pub resolution_of_path : Context → PathHead → List PathStep → Resolution
resolution_of_path c (head.Local name) steps =
    own_variable c (upper_case_name name) (folded_path steps)
resolution_of_path c (head.InBlock name) steps = data_variable c name (folded_path steps)
resolution_of_path c (head.Symbol name) steps = resolution_of_symbol (symbol_named name c.symbols)

-- what an address names, also one behind a data block
abbrev pub resolution_of_address : Context → Option BlockName → Letters → Width
    → (byte bit : ℕ) → Resolution
resolution_of_address c None a width byte bit = Resolved (resolved_address 0 a width byte bit)
resolution_of_address c (Some name) a width byte bit =
    address_in_block (data_number c name) a width byte bit

-- a register by its word; the grammar has these six
abbrev pub register_for_word : List ℕ → Register
register_for_word name =
    if is_same_name name (codes "STW") then register.Stw
    else if is_same_name name (codes "DBLG") then register.Dblg
    else if is_same_name name (codes "DBNO") then register.Dbno
    else if is_same_name name (codes "DILG") then register.Dilg
    else if is_same_name name (codes "DINO") then register.Dino
    else register.Ar2

-- what an operand names that opens the data block of this number; without a number it isn't checked
abbrev pub resolution_of_opened_block : (di : Bool) → Option ℕ → Resolution
resolution_of_opened_block di None = Unjudged
resolution_of_opened_block di (Some number) = Resolved (resolved.OpenBlock di number)

-- what an operand names that calls a block, with the number of its instance, if one is named
abbrev pub resolution_of_call : Option BlockId → (named : Option BlockName) → Option ℕ → Resolution
resolution_of_call None named instance = Unjudged
resolution_of_call (Some id) None instance = Resolved (resolved.Called id None)
resolution_of_call (Some id) (Some name) None = Unjudged
resolution_of_call (Some id) (Some name) (Some number) = Resolved (resolved.Called id (Some number))

-- kind and number of a block; none where no place of it is given
abbrev pub id_at : BlockId → Option ℕ → Option BlockId
id_at id place = option_map (λ p. id) place

-- a called block: a system function, or one of the source that doesn't break a rule itself
abbrev pub whole_called_block : Context → Option BlockId → Option BlockId
whole_called_block c None = None
whole_called_block c (Some id) =
    if is_system_function id.kind then Some id else id_at id (whole_place c id)

-- the number of the instance of a call, if one is named and doesn't break a rule itself
abbrev pub instance_number : Context → Option BlockName → Option ℕ
instance_number c None = None
instance_number c (Some name) = data_number c name

-- what an operand names
unfoldable pub resolution_of : Context → Operand → Resolution
resolution_of c operand.Nothing = Resolved resolved.Nothing
resolution_of c (operand.Direct name a width byte bit) =
    resolution_of_address c name a width byte bit
resolution_of c (operand.Timer number) = Resolved (resolved.Timer number)
resolution_of c (operand.Counter number) = Resolved (resolved.Counter number)
resolution_of c (operand.Named path steps) = resolution_of_path c path steps
resolution_of c (operand.ByMemory a width from byte) =
    Resolved (resolved.ByMemory (area_for_letters a) width (area_for_letters from) byte)
resolution_of c (operand.NumberBy what from byte) =
    Resolved (resolved.NumberBy what (area_for_letters from) byte)
resolution_of c (operand.ByRegister a width register bits) =
    Resolved (resolved.ByRegister (area_of_pointer a) width register bits)
resolution_of c (operand.Pointer a byte bit) = Resolved (resolved.Pointer (area_of_pointer a) byte bit)
resolution_of c (operand.Constant value) = Resolved resolved.Constant
resolution_of c (operand.Label name) = Resolved resolved.Label
resolution_of c (operand.OfStatus flag) = Resolved (resolved.OfStatus flag)
resolution_of c (operand.Other name) = Resolved (resolved.Register (register_for_word name))
resolution_of c (operand.OpenBlock di name) = resolution_of_opened_block di (data_number c name)
resolution_of c (operand.Called name instance) =
    resolution_of_call (whole_called_block c (named_block c.symbols name)) instance
    (instance_number c instance)
