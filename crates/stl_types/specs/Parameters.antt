-- The parameters of a block that is called.
use Rattle.std.specs.Prelude.{ℕ, nat_eq, Bool, true, false, List, [], ◌∷◌, codes, Option, Some, None, if◌then◌else◌}
use Rattle.std.specs.List.{flat_map, list_all}
use Rattle.std.specs.Option.{option_map, option_and_then}
use Rattle.plc_base.specs.Kinds.{is_function, is_function_block, is_system_function}
use Rattle.plc_base.specs.declared.blocks.BlockId.{BlockId}
use Rattle.plc_base.specs.declared.blocks.BlockKind.{BlockKind}
use Rattle.stl_ast.specs.declared.blocks.PartKind.{PartKind}
use Rattle.stl_ast.specs.declared.blocks.PartKind.TheVariants as part
use Rattle.stl_ast.specs.declared.declarations.Simple.{Simple}
use Rattle.stl_ast.specs.declared.declarations.Simple.TheVariants as simple
use Rattle.stl_ast.specs.declared.operands.Operand.{Operand}
use Rattle.stl_ast.specs.declared.operands.Operand.TheVariants as operand
use Rattle.stl_ast.specs.Blocks.{is_parameter}
use Rattle.block_layout.specs.Blocks.{named_block}
use Rattle.block_layout.specs.Paths.{cells_at}
use Rattle.block_layout.specs.declared.cells.Cell.{Cell}
use Rattle.block_layout.specs.declared.cells.Element.{Element}
use Rattle.block_layout.specs.declared.cells.Element.TheVariants as element
use Rattle.stl_types.specs.Context.{Context, whole_place}
use Rattle.stl_types.specs.declared.parameters.Formal.{Formal}

-- a parameter by its name in upper case, its section and its elementary type
abbrev pub formal : List ℕ → PartKind → Simple → Formal
formal name section kind = record { name = name; section = section; kind = kind }

-- OB_NR of a system function: the number of an organization block
abbrev pub ob_nr_formal : Formal
ob_nr_formal = formal (codes "OB_NR") part.Input simple.Int

-- RET_VAL of a system function: the return value
abbrev pub return_value_formal : Simple → Formal
return_value_formal kind = formal (codes "RET_VAL") part.Output kind

-- MODE of a system function: which interrupts are meant, as a byte
abbrev pub mode_formal : Formal
mode_formal = formal (codes "MODE") part.Input simple.Byte

-- DTIME of a system function: the delay
abbrev pub dtime_formal : Formal
dtime_formal = formal (codes "DTIME") part.Input simple.Time

-- SIGN of a system function: the mark of the start
abbrev pub sign_formal : Formal
sign_formal = formal (codes "SIGN") part.Input simple.Word

-- a number is one of these
abbrev pub is_one_of : List ℕ → ℕ → Bool
is_one_of [] n = false
is_one_of (m ∷ ms) n = if nat_eq n m then true else is_one_of ms n

-- the parameters of a system function by its number, in their order; none are known but of the nine
unfoldable pub system_formals : ℕ → Option (List Formal)
system_formals n =
    if nat_eq n 32
    then Some (ob_nr_formal ∷ dtime_formal ∷ sign_formal ∷ return_value_formal simple.Int ∷ [])
    else if nat_eq n 33 then Some (ob_nr_formal ∷ return_value_formal simple.Int ∷ [])
    else if is_one_of (39 ∷ 40 ∷ []) n
    then Some (mode_formal ∷ ob_nr_formal ∷ return_value_formal simple.Int ∷ [])
    else if is_one_of (41 ∷ 42 ∷ []) n then Some (return_value_formal simple.Int ∷ [])
    else if is_one_of (43 ∷ 46 ∷ []) n then Some []
    else if nat_eq n 64 then Some (return_value_formal simple.Time ∷ [])
    else None

-- the parameter that a component of this element type is; parameters are of elementary type
abbrev pub formal_of : Cell → Element → List Formal
formal_of c (element.Plain kind) = formal c.name c.section kind ∷ []
formal_of c _ = []

-- the parameter that a component is, if it stands in VAR_INPUT, VAR_OUTPUT or VAR_IN_OUT
abbrev pub formal_here : Cell → List Formal
formal_here c = if is_parameter c.section then formal_of c c.of else []

-- the parameters among components
abbrev pub formals_of : List Cell → List Formal
formals_of cells = flat_map formal_here cells

-- a cell that is a parameter breaks no rule by its declaration
abbrev pub is_sound_formal : Cell → Bool
is_sound_formal c = if is_parameter c.section then c.sound else true

-- the parameters among these cells; none at all where one of them breaks a rule
abbrev pub sound_formals : List Cell → Option (List Formal)
sound_formals cells = if list_all is_sound_formal cells then Some (formals_of cells) else None

-- a block that is called, with its parameters; `place` is that of a block of the source
pub record Callee : Type 0 where
  -- kind and number of the called block
  pub id : BlockId
  -- the place of the called block in the source; none of a system function
  pub place : Option ℕ
  -- the parameters of the called block, in their order
  pub formals : List Formal

-- a system function as the block that is called, if it is one of the nine
abbrev pub system_callee : BlockId → Option Callee
system_callee id =
    option_map (λ formals. record { id = id; place = None; formals = formals })
    (system_formals id.number)

-- a block of the source at its place as the block that is called, if no parameter breaks a rule
abbrev pub callee_at : Context → BlockId → ℕ → Option Callee
callee_at c id place =
    option_map (λ formals. record { id = id; place = Some place; formals = formals })
    (sound_formals (cells_at c.layouts place false))

-- a block of the source that breaks no rule itself, as the block that is called
abbrev pub source_callee : Context → BlockId → Option Callee
source_callee c id = option_and_then (callee_at c id) (whole_place c id)

-- the block that is called, by its kind: a system function, a function or a function block; no
-- other can be called
abbrev pub callee_by : Context → BlockId → BlockKind → Option Callee
callee_by c id k =
    if is_system_function k then system_callee id
    else if is_function k then source_callee c id
    else if is_function_block k then source_callee c id
    else None

-- the block that a call is checked by: a system function of the nine, or a function or function
-- block of the source that breaks no rule itself or by a parameter
unfoldable pub callee_of : Context → Operand → Option Callee
callee_of c (operand.Called name instance) =
    option_and_then (λ id. callee_by c id id.kind) (named_block c.symbols name)
callee_of c _ = None
