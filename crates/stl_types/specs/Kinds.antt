-- Kinds of operands.
use Rattle.std.specs.Prelude.{Bool, true, false, ◌||◌, Option, Some, None}
use Rattle.plc_base.specs.Kinds.{is_callable, is_function_block}
use Rattle.plc_base.specs.declared.blocks.BlockKind.{BlockKind}
use Rattle.plc_base.specs.declared.places.Area.{Area}
use Rattle.plc_base.specs.declared.places.Area.TheVariants as area
use Rattle.plc_base.specs.declared.places.Width.{Width}
use Rattle.plc_base.specs.declared.places.Width.TheVariants as width
use Rattle.stl_ast.specs.declared.operands.Numbered.TheVariants as numbered
use Rattle.block_layout.specs.Offsets.{width_of}
use Rattle.stl_types.specs.declared.resolved_operands.Register.TheVariants as register
use Rattle.stl_types.specs.declared.resolved_operands.ResolvedOperand.{ResolvedOperand}
use Rattle.stl_types.specs.declared.resolved_operands.ResolvedOperand.TheVariants as resolved

-- whether there is no operand
abbrev pub names_nothing : ResolvedOperand → Bool
names_nothing resolved.Nothing = true
names_nothing _ = false

-- whether an operand is a place with an address of its own
abbrev pub is_direct : ResolvedOperand → Bool
is_direct (resolved.Direct place width side declared) = true
is_direct _ = false

-- whether an operand is a place in memory: direct, a parameter of a function, or by a pointer
abbrev pub is_in_memory : ResolvedOperand → Bool
is_in_memory (resolved.Direct place width side declared) = true
is_in_memory (resolved.Parameter index section declared) = true
is_in_memory (resolved.ByMemory a width from byte) = true
is_in_memory (resolved.ByRegister a width register bits) = true
is_in_memory _ = false

-- whether an operand is a timer, also one whose number stands in memory
abbrev pub is_timer : ResolvedOperand → Bool
is_timer (resolved.Timer number) = true
is_timer (resolved.NumberBy numbered.Timer from byte) = true
is_timer _ = false

-- whether an operand is a counter, also one whose number stands in memory
abbrev pub is_counter : ResolvedOperand → Bool
is_counter (resolved.Counter number) = true
is_counter (resolved.NumberBy numbered.Counter from byte) = true
is_counter _ = false

-- whether an operand is a data block that is opened, also one whose number stands in memory
abbrev pub is_opened : ResolvedOperand → Bool
is_opened (resolved.OpenBlock di number) = true
is_opened (resolved.NumberBy numbered.Db from byte) = true
is_opened (resolved.NumberBy numbered.Di from byte) = true
is_opened _ = false

-- whether an operand is a condition of the status word
abbrev pub is_condition : ResolvedOperand → Bool
is_condition (resolved.OfStatus flag) = true
is_condition _ = false

-- whether an operand is a pointer constant
abbrev pub is_pointer_constant : ResolvedOperand → Bool
is_pointer_constant (resolved.Pointer a byte bit) = true
is_pointer_constant _ = false

-- whether an operand is a label
abbrev pub is_label_operand : ResolvedOperand → Bool
is_label_operand resolved.Label = true
is_label_operand _ = false

-- whether an operand is the status word, STW
abbrev pub is_status_word : ResolvedOperand → Bool
is_status_word (resolved.Register register.Stw) = true
is_status_word _ = false

-- whether an operand is address register 2, AR2
abbrev pub is_second_register : ResolvedOperand → Bool
is_second_register (resolved.Register register.Ar2) = true
is_second_register _ = false

-- whether an operand is a register that can be loaded: the status word, or the number or length of
-- an open data block
abbrev pub is_loadable_register : ResolvedOperand → Bool
is_loadable_register (resolved.Register register.Ar2) = false
is_loadable_register (resolved.Register which) = true
is_loadable_register _ = false

-- whether an operand is a called function, function block or system function; only a function block
-- has an instance
abbrev pub is_operand_of_call : ResolvedOperand → Bool
is_operand_of_call (resolved.Called id None) = is_callable id.kind
is_operand_of_call (resolved.Called id (Some instance)) = is_function_block id.kind
is_operand_of_call _ = false

-- whether an operand is a structure, an array or a DATE_AND_TIME
abbrev pub is_composite : ResolvedOperand → Bool
is_composite resolved.Composite = true
is_composite resolved.Date = true
is_composite _ = false

-- whether an operand is a DATE_AND_TIME
abbrev pub is_date : ResolvedOperand → Bool
is_date resolved.Date = true
is_date _ = false

-- the width of an operand that is a place in memory; no other has one
abbrev pub width_in : ResolvedOperand → Option Width
width_in (resolved.Direct place width side declared) = Some width
width_in (resolved.Parameter index section declared) = Some (width_of declared)
width_in (resolved.ByMemory a width from byte) = Some width
width_in (resolved.ByRegister a width register bits) = Some width
width_in _ = None

-- whether the width is a bit
abbrev pub is_bit : Option Width → Bool
is_bit (Some width.Bit) = true
is_bit _ = false

-- whether the width is a double word
abbrev pub is_double_word : Option Width → Bool
is_double_word (Some width.Dword) = true
is_double_word _ = false

-- whether an area is the peripheral one
abbrev pub is_peripheral : Area → Bool
is_peripheral area.P = true
is_peripheral _ = false

-- whether a pointer has the peripheral area
abbrev pub is_peripheral_area : Option Area → Bool
is_peripheral_area None = false
is_peripheral_area (Some a) = is_peripheral a
