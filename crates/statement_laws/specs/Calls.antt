-- Calls: what each parameter of the called block stands for, by what the call passes for its name
-- (docs/SEMANTICS.md, "Calls"). How a block is entered with its parameters bound is the machine's
-- word.
use Rattle.std.specs.Prelude.{ℕ, suc, nat_eq, Bool, true, false, List, [], ◌∷◌, ◌++◌, map, length, replicate, codes, slice_get, Option, Some, None, Result, Ok, Err, bytes_eq, if◌then◌else◌}
use Rattle.std.specs.List.{flat_map}
use Rattle.std.specs.Option.{option_and_then}
use Rattle.statement_laws.specs.ErrorNumbers as errors
use Rattle.plc_base.specs.Folding.{upper_case_name}
use Rattle.plc_base.specs.Kinds.{is_system_function}
use Rattle.plc_base.specs.declared.blocks.BlockId.{BlockId}
use Rattle.plc_base.specs.declared.places.Area.TheVariants as area
use Rattle.status_word.specs.declared.registers.Regs.{Regs}
use Rattle.frames.specs.ParameterBindings.{binding_set}
use Rattle.frames.specs.declared.Activation.{Activation}
use Rattle.frames.specs.declared.bindings.Binding.{Binding}
use Rattle.frames.specs.declared.bindings.Binding.TheVariants as binding
use Rattle.stl_ast.specs.declared.blocks.PartKind.{PartKind}
use Rattle.stl_ast.specs.declared.blocks.PartKind.TheVariants as part
use Rattle.stl_ast.specs.declared.mnemonics.Mnemonic.{Mnemonic}
use Rattle.stl_ast.specs.declared.mnemonics.Mnemonic.TheVariants as code
use Rattle.stl_ast.specs.declared.statements.Actual.{Actual}
use Rattle.block_layout.specs.Blocks.{known_block}
use Rattle.block_layout.specs.Paths.{cells_at}
use Rattle.block_layout.specs.declared.cells.Cell.{Cell}
use Rattle.block_layout.specs.declared.cells.Element.{Element}
use Rattle.block_layout.specs.declared.cells.Element.TheVariants as element
use Rattle.stl_types.specs.Context.{Context}
use Rattle.flat_code.specs.Records.{section_out}
use Rattle.flat_code.specs.declared.programs.Param.{Param}
use Rattle.machine.specs.Code.{Code, BlockHead}
use Rattle.machine.specs.Entering.{call_with_bindings}
use Rattle.machine.specs.ExecState.{ExecState, exec_state_of, then_ok}
use Rattle.machine.specs.Statement.{StatementStep, Stuck, Went, GlobalStore, call_step, after_system_call, called_block}
use Rattle.machine.specs.SystemCalls.{arguments_of_activation, system_function}
use Rattle.machine.specs.declared.places.Access.{Access}
use Rattle.machine.specs.declared.places.Access.TheVariants.{Reading, Writing}
use Rattle.machine.specs.declared.places.Location.{Location}
use Rattle.statement_laws.specs.Effects.{is_data_block_loaded}
use Rattle.statement_laws.specs.Jumps.{with_rlo_1, activation_standing_at}
use Rattle.statement_laws.specs.NamedOperands.{NamedItem}
use Rattle.statement_laws.specs.NamedOperands as named
use Rattle.statement_laws.specs.Operands.{has_result, item_named_by}
use Rattle.statement_laws.specs.Reading.{location_of_parts, bits_of_literal, fixed_place, missing_place_error, number_at_location}

-- ---- parameters by their names

-- a component is a parameter, of the sections IN, OUT and IN_OUT
abbrev pub is_passed_by_call : PartKind → Bool
is_passed_by_call part.Input = true
is_passed_by_call part.Output = true
is_passed_by_call part.InOut = true
is_passed_by_call part.Static = false
is_passed_by_call part.Temp = false

-- a name as a list of one for a component of elementary type; the empty list for another one
abbrev pub name_if_plain : Element → List ℕ → List (List ℕ)
name_if_plain (element.Plain kind) name = name ∷ []
name_if_plain _ name = []

-- the name of a component that is a parameter of elementary type, as a list of one; else the
-- empty list
abbrev pub name_of_parameter : Cell → List (List ℕ)
name_of_parameter cell =
    if is_passed_by_call cell.section then name_if_plain cell.of cell.name else []

-- names of parameters in the order of a call: the return value, which is declared first, is the
-- last
abbrev pub in_call_order : (result : Bool) → List (List ℕ) → List (List ℕ)
in_call_order false names = names
in_call_order true [] = []
in_call_order true (result ∷ names) = names ++ result ∷ []

-- the names of the parameters of the system function of a number, in the order of a call; none for
-- another number
abbrev pub system_names : ℕ → List (List ℕ)
system_names n =
    if nat_eq n 32
    then codes "OB_NR" ∷ codes "DTIME" ∷ codes "SIGN" ∷ codes "RET_VAL" ∷ []
    else if nat_eq n 33 then codes "OB_NR" ∷ codes "RET_VAL" ∷ []
    else if nat_eq n 39 then codes "MODE" ∷ codes "OB_NR" ∷ codes "RET_VAL" ∷ []
    else if nat_eq n 40 then codes "MODE" ∷ codes "OB_NR" ∷ codes "RET_VAL" ∷ []
    else if nat_eq n 41 then codes "RET_VAL" ∷ []
    else if nat_eq n 42 then codes "RET_VAL" ∷ []
    else if nat_eq n 43 then []
    else if nat_eq n 46 then []
    else if nat_eq n 64 then codes "RET_VAL" ∷ []
    else []

-- the names of the parameters of the block at a place of the source, in the order of a call;
-- none where there is no such block
abbrev pub source_names : Context → Option ℕ → List (List ℕ)
source_names c None = []
source_names c (Some place) =
    in_call_order (has_result (slice_get c.blocks place))
    (flat_map name_of_parameter (cells_at c.layouts place false))

-- the parameters of a block in the order of a call
abbrev pub parameter_names : Context → BlockId → List (List ℕ)
parameter_names c id =
    if is_system_function id.kind then system_names id.number
    else source_names c (known_block id (map (λ b. b.id) c.layouts))

-- ---- what is passed

-- the actual parameter of a name, whose letters may be small or large
abbrev pub actual_named : List ℕ → List Actual → Option Actual
actual_named name [] = None
actual_named name (a ∷ actuals) =
    if bytes_eq (upper_case_name a.name) name then Some a else actual_named name actuals

-- a constant, a place, a place in a data block that is named, or a parameter of the caller is
-- passed
abbrev pub if_passable : NamedItem → Option NamedItem
if_passable (named.Constant value) = Some (named.Constant value)
if_passable (named.Place (named.Fixed a w byte bit)) = Some (named.Place (named.Fixed a w byte bit))
if_passable (named.PlaceIn block w byte bit) = Some (named.PlaceIn block w byte bit)
if_passable (named.Parameter index w) = Some (named.Parameter index w)
if_passable _ = None

-- the place or value that is passed, if it may be
abbrev pub item_named_in_call : Context → Option Actual → Option NamedItem
item_named_in_call c None = None
item_named_in_call c (Some a) = option_and_then if_passable (item_named_by c a.value)

-- ---- what it stands for

-- a parameter stands for a place where there is such a place; else the error of a missing one,
-- 16#22 or 16#23, in the peripheral area 16#42 or 16#43
abbrev pub binding_if : Access → Location → Option ℕ → Result Binding ℕ
binding_if access b None = Err (missing_place_error access b.place.area)
binding_if access b (Some n) = Ok (binding.AtPlace b.place b.width b.frame)

-- what a parameter stands for that is passed a place: that place, where it exists
abbrev pub binding_at : Access → Location → ExecState → Result Binding ℕ
binding_at access b p = binding_if access b (number_at_location b.place.area b p)

-- what a parameter of the caller that is passed on stands for
abbrev pub binding_passed_on : Option Binding → Result Binding ℕ
binding_passed_on (Some b) = Ok b
binding_passed_on None = Err errors.no_operand_error

-- what a parameter stands for by what is passed: a constant by its value, a place as it is at
-- the call; a place in a data block that is named opens nothing, and is error 16#3A where the block
-- isn't loaded
unfoldable pub binding_of : Access → NamedItem → ExecState → Result Binding ℕ
binding_of access (named.Constant value) p = Ok (binding.Constant (bits_of_literal value))
binding_of access (named.Place (named.Fixed a w byte bit)) p =
    then_ok (fixed_place access a w byte bit p) (λ b. binding_at access b p)
binding_of access (named.PlaceIn block w byte bit) p =
    if is_data_block_loaded block p
    then binding_at access (location_of_parts area.Db block byte bit w 0) p
    else Err errors.absent_data_block_error
binding_of access (named.Parameter index w) p =
    binding_passed_on (slice_get p.local.inner.bindings index)
binding_of access _ p = Err errors.no_operand_error

-- how the place for a parameter is tested: as one that is written for OUT, as one that is read
-- for IN and IN_OUT
abbrev pub access_of : Param → Access
access_of param = if nat_eq param.section section_out then Writing else Reading

-- what a parameter stands for by what is passed; error 0 where there is no such parameter, as no
-- block has
abbrev pub binding_for : Option Param → NamedItem → ExecState → Result Binding ℕ
binding_for (Some param) x p = binding_of (access_of param) x p
binding_for None x p = Err errors.no_operand_error

-- the parameter of an index is bound to what is passed for it, if something is, and then goes on
-- with `next`
abbrev pub binds_parameter :
    Option NamedItem → Option Param → (index : ℕ) → List Binding → ExecState
    → (List Binding → Result (List Binding) ℕ) → Result (List Binding) ℕ
binds_parameter None param index bindings p next = next bindings
binds_parameter (Some x) param index bindings p next =
    then_ok (binding_for param x p) (λ b. next (binding_set bindings index b))

-- what the parameters of a call stand for, from an index on, in their order; the first one that
-- can't be bound is the error
abbrev pub bindings_from :
    List Param → Context → List Actual → (index : ℕ) → List (List ℕ) → List Binding → ExecState
    → Result (List Binding) ℕ
bindings_from params c actuals index [] bindings p = Ok bindings
bindings_from params c actuals index (name ∷ names) bindings p =
    binds_parameter (item_named_in_call c (actual_named name actuals)) (slice_get params index)
    index bindings p (λ more. bindings_from params c actuals (suc index) names more p)

-- what all parameters of a call stand for; one for which nothing is passed is unsupplied
abbrev pub bindings_of :
    Context → List Actual → List (List ℕ) → List Param → ExecState → Result (List Binding) ℕ
bindings_of c actuals names params p =
    bindings_from params c actuals 0 names (replicate (length params) binding.Unsupplied) p

-- ---- the call

-- whether a call is made: CC calls where the RLO is 1, CALL and UC always
abbrev pub makes_call : Mnemonic → (rlo : Bool) → Bool
makes_call code.Cc rlo = rlo
makes_call _ rlo = true

-- the registers as a call leaves them: OS 0, OR 0, STA 1, /FC 0
abbrev pub registers_at_call : Regs → Regs
registers_at_call r =
    record r { status = record r.status { os = false; or = false; sta = true; fc = false } }

-- a block of the program is called: it is entered by its head, with its parameters bound
abbrev pub enters_block :
    Option BlockHead → BlockId → Option ℕ → (List Param → ExecState → Result (List Binding) ℕ)
    → (next : ℕ) → Activation → GlobalStore → StatementStep
enters_block None id instance bind next a w = Stuck
enters_block (Some h) id instance bind next a w =
    call_step
    (call_with_bindings (bind h.params (exec_state_of a.running w.memory w.timers w.counters))
    (called_block id instance h) next a w.memory)
    next a w

-- a system function is called by its number, with its parameters bound
abbrev pub enters_system :
    Option (List Param) → (number : ℕ) → (List Param → ExecState → Result (List Binding) ℕ)
    → (next : ℕ) → Activation → GlobalStore → StatementStep
enters_system None number bind next a w = Stuck
enters_system (Some params) number bind next a w =
    after_system_call
    (then_ok (bind params (exec_state_of a.running w.memory w.timers w.counters))
    (λ bindings. Ok (arguments_of_activation params bindings a w.memory)))
    number next a

-- CALL, UC or CC: the block or system function is called, or after CC with RLO 0 the calling
-- block goes on, with OS 0, OR 0, STA 1, /FC 0 and RLO 1
abbrev pub calls_block :
    Mnemonic → BlockId → Option ℕ → (List Param → ExecState → Result (List Binding) ℕ) → Code
    → (next : ℕ) → Activation → GlobalStore → StatementStep
calls_block m id instance bind program next a w =
    if makes_call m a.running.regs.status.rlo
    then (if is_system_function id.kind
    then enters_system (system_function id.number) id.number bind next a w
    else enters_block (program.head id) id instance bind next a w)
    else Went (activation_standing_at next (with_rlo_1 (registers_at_call a.running.regs)) a) w
