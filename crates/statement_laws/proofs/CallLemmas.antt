-- A call enters its block with each parameter bound to what is passed for its name.
use Rattle.std.proofs.Common.{ℕ, suc, ◌≡◌, nat_eq, Bool, true, false, is_some, not, List, [], ◌∷◌, ◌++◌, map, length, replicate, codes, slice_get, find, flat_map, Option, Some, None, Result, Ok, Err, bytes_eq, if◌then◌else◌, refl, sym, ◌∙◌, ap, ap₂}
use Rattle.std.specs.List.{AllByRecursion, list_all}
use Rattle.std.specs.Option.{option_map, option_and_then}
use Rattle.std.proofs.lemmas.Bool.{false≢true}
use Rattle.std.proofs.lemmas.List.{map-append}
use Rattle.std.proofs.lemmas.Option.{same_Some}
use Rattle.plc_base.specs.ErrorCodes as errors
use Rattle.plc_base.specs.Folding.{upper_case_name}
use Rattle.plc_base.specs.Kinds.{is_function, is_function_block, is_system_function}
use Rattle.plc_base.specs.declared.blocks.BlockId.{BlockId}
use Rattle.plc_base.specs.declared.places.Area.{Area}
use Rattle.plc_base.specs.declared.places.Area.TheVariants as area
use Rattle.plc_base.specs.declared.places.Width.{Width}
use Rattle.frames.specs.ParameterBindings.{binding_set}
use Rattle.frames.specs.declared.Activation.{Activation}
use Rattle.frames.specs.declared.bindings.Binding.{Binding}
use Rattle.frames.specs.declared.bindings.Binding.TheVariants as binding
use Rattle.flat_code.specs.Instr.{Calls, Passing}
use Rattle.flat_code.specs.declared.operands.Passed.{Passed}
use Rattle.flat_code.specs.declared.operands.Passed.TheVariants as passed
use Rattle.flat_code.specs.declared.operations.CallOperation.{CallOperation}
use Rattle.flat_code.specs.declared.operations.CallOperation.TheVariants as how_called
use Rattle.flat_code.specs.declared.programs.Param.{Param}
use Rattle.stl_ast.specs.Blocks.{is_parameter}
use Rattle.stl_ast.specs.declared.blocks.Block.{Block}
use Rattle.stl_ast.specs.declared.blocks.PartKind.{PartKind}
use Rattle.stl_ast.specs.declared.blocks.PartKind.TheVariants as part
use Rattle.stl_ast.specs.declared.declarations.Simple.{Simple}
use Rattle.stl_ast.specs.declared.declarations.Simple.TheVariants as simple
use Rattle.stl_ast.specs.declared.literals.Literal.{Literal}
use Rattle.stl_ast.specs.declared.mnemonics.Mnemonic.{Mnemonic}
use Rattle.stl_ast.specs.declared.mnemonics.Mnemonic.TheVariants as code
use Rattle.stl_ast.specs.declared.names.BlockName.{BlockName}
use Rattle.stl_ast.specs.declared.operands.Numbered.TheVariants as numbered
use Rattle.stl_ast.specs.declared.operands.Operand.{Operand}
use Rattle.stl_ast.specs.declared.operands.Operand.TheVariants as operand
use Rattle.stl_ast.specs.declared.statements.Actual.{Actual}
use Rattle.block_layout.specs.Blocks.{known_block, named_block}
use Rattle.block_layout.specs.Paths.{cells_at, if_whole, whole_at}
use Rattle.block_layout.specs.declared.cells.Cell.{Cell}
use Rattle.block_layout.specs.declared.cells.Element.{Element}
use Rattle.block_layout.specs.declared.cells.Element.TheVariants as element
use Rattle.stl_types.specs.Context.{Context}
use Rattle.stl_types.specs.Parameters.{Callee, callee_at, callee_by, callee_of, formal_here, dtime_formal, formal_of, formals_of, is_sound_formal, mode_formal, ob_nr_formal, return_value_formal, sign_formal, source_callee, system_callee, system_formals}
use Rattle.stl_types.specs.Resolution.{resolution_of}
use Rattle.stl_types.specs.declared.parameters.Formal.{Formal}
use Rattle.stl_types.specs.declared.resolved_operands.Register.TheVariants as register
use Rattle.stl_types.specs.declared.resolved_operands.ResolvedOperand.{ResolvedOperand}
use Rattle.stl_types.specs.declared.resolved_operands.ResolvedOperand.TheVariants as resolved
use Rattle.stl_codegen.specs.Instruction.{source_block_at, call_instr, in_parameter_order, instr_by, instruction, passings_to, resolved_instr, return_last, operand_instr}
use Rattle.stl_codegen.specs.Operations.{call_operation_of, jump_operation_of}
use Rattle.stl_codegen.specs.PassedParameters.{passed_actual, passed_place, passed_resolution, passed_by_operand, passings_from, with_index}
use Rattle.machine.specs.Bindings as bindings
use Rattle.machine.specs.Code.{Code, BlockHead}
use Rattle.machine.specs.DataBlocks as data_blocks
use Rattle.machine.specs.Entering as entering
use Rattle.machine.specs.ExecState.{ExecState, local_of, exec_state_of, then_ok}
use Rattle.machine.specs.Places as places
use Rattle.machine.specs.Statement as machine
use Rattle.machine.specs.Statement.{StatementStep, Went, GlobalStore, instruction_step}
use Rattle.machine.specs.SystemCalls as system
use Rattle.machine.specs.declared.places.Access.{Access}
use Rattle.machine.specs.declared.places.Location.{Location}
use Rattle.statement_laws.specs.Calls as own
use Rattle.statement_laws.specs.Jumps.{with_rlo_1, activation_standing_at}
use Rattle.statement_laws.specs.Laws.{CallsAct, IsNamedActual, is_call_instruction}
use Rattle.statement_laws.specs.NamedOperands.{NamedItem}
use Rattle.statement_laws.specs.NamedOperands as named
use Rattle.statement_laws.specs.Operands.{block_id_of_name, number_of_block_name, named_fixed_place, has_result, item_named_by, place_by, with_instance}
use Rattle.statement_laws.specs.Reading as reading
use Rattle.statement_laws.proofs.PlaceLemmas.{absent_same, fixed_same, of_area, then_same}
use Rattle.statement_laws.proofs.ResolutionLemmas.{about, bits_same, block_same, resolved_parts, view_named}
use Rattle.statement_laws.proofs.VariableLemmas.{view_same}

-- ---- what a parameter stands for

if_bound_same : (access : Access) (b : Location) (o : Option ℕ)
    → bindings.binding_if_there access b o ≡ own.binding_if access b o
if_bound_same access b None = ap Err (absent_same access b.place.area)
if_bound_same access b (Some n) = refl

bound_at_same : (access : Access) (b : Location) (p : ExecState)
    → bindings.bound_place access b p.local p.memory ≡ own.binding_at access b p
unfolding bindings.bound_place
bound_at_same access b p =
    ap (bindings.binding_if_there access b) (of_area b.place.area b p)
    ∙ if_bound_same access b (reading.number_at_location b.place.area b p)

passed_on_same : (o : Option Binding) → bindings.binding_of_caller o ≡ own.binding_passed_on o
passed_on_same None = refl
passed_on_same (Some b) = refl

-- what is passed, in the code
abbrev flat_passed : NamedItem → Option Passed
flat_passed (named.Constant value) = Some (passed.Literal (reading.bits_of_literal value))
flat_passed (named.Place (named.Fixed a w byte bit)) = Some (passed.Direct a w byte bit)
flat_passed (named.PlaceIn n w byte bit) = Some (passed.InBlock n area.Db w byte bit)
flat_passed (named.Parameter index w) = Some (passed.Parameter index w)
flat_passed _ = None

abbrev there : Option Passed → Passed
there (Some actual) = actual
there None = passed.Literal 0

direct_same : (access : Access) (a : Area) (w : Width) (byte bit : ℕ) (p : ExecState)
    → bindings.bound_actual access (passed.Direct a w byte bit) p.local p.memory
    ≡ own.binding_of access (named.Place (named.Fixed a w byte bit)) p
unfolding bindings.bound_actual own.binding_of
direct_same access a w byte bit p =
    then_same (places.area_location access a byte bit w p.local) (reading.fixed_place access a w byte bit p)
    (λ b. bindings.bound_place access b p.local p.memory) (λ b. own.binding_at access b p)
    (fixed_same access a w byte bit p) (λ b. bound_at_same access b p)

in_block_bound : (access : Access) (n : ℕ) (w : Width) (byte bit : ℕ) (p : ExecState)
    → bindings.bound_actual access (passed.InBlock n area.Db w byte bit) p.local p.memory
    ≡ own.binding_of access (named.PlaceIn n w byte bit) p
unfolding bindings.bound_actual own.binding_of
in_block_bound access n w byte bit p =
    ap (λ r. if data_blocks.is_block_loaded n p.memory then r else Err errors.no_data_block)
    (bound_at_same access (reading.location_of_parts area.Db n byte bit w 0) p)

access_same : (param : Param) → bindings.param_access param ≡ own.access_of param
access_same param = refl

-- for a parameter by its index
for_same : (o : Option Param) (actual : Passed) (x : NamedItem) (p : ExecState)
    → ((access : Access) → bindings.bound_actual access actual p.local p.memory ≡ own.binding_of access x p)
    → bindings.binding_for_param o actual p.local p.memory ≡ own.binding_for o x p
for_same None actual x p h = refl
for_same (Some param) actual x p h = h (own.access_of param)

-- one passing, and those behind it
step_same : (params : List Param) (index : ℕ) (actual : Passed) (x : NamedItem) (rest : List Passing)
    (before : List Binding) (p : ExecState)
    → ((access : Access) → bindings.bound_actual access actual p.local p.memory ≡ own.binding_of access x p)
    → bindings.bound_params params (record { index = index; actual = actual } ∷ rest) before p.local p.memory
    ≡ own.binds_parameter (Some x) (slice_get params index) index before p
    (λ more. bindings.bound_params params rest more p.local p.memory)
step_same params index actual x rest before p h =
    ap (λ r. then_ok r (λ b. bindings.bound_params params rest (binding_set before index b) p.local p.memory))
    (for_same (slice_get params index) actual x p h)

passing_same : (params : List Param) (index : ℕ) (x : NamedItem) (rest : List Passing)
    (before : List Binding) (p : ExecState)
    → bindings.bound_params params (with_index index (flat_passed x) ++ rest) before p.local p.memory
    ≡ own.binds_parameter (own.if_passable x) (slice_get params index) index before p
    (λ more. bindings.bound_params params rest more p.local p.memory)
unfolding bindings.bound_actual own.binding_of
passing_same params index (named.Constant value) rest before p =
    step_same params index (passed.Literal (reading.bits_of_literal value)) (named.Constant value) rest before p
    (λ access. refl)
passing_same params index (named.Place (named.Fixed a w byte bit)) rest before p =
    step_same params index (passed.Direct a w byte bit) (named.Place (named.Fixed a w byte bit)) rest
    before p (λ access. direct_same access a w byte bit p)
passing_same params index (named.PlaceIn n w byte bit) rest before p =
    step_same params index (passed.InBlock n area.Db w byte bit) (named.PlaceIn n w byte bit) rest
    before p (λ access. in_block_bound access n w byte bit p)
passing_same params index (named.Parameter k w) rest before p =
    step_same params index (passed.Parameter k w) (named.Parameter k w) rest before p
    (λ access. passed_on_same (slice_get p.local.inner.bindings k))
passing_same params index _ rest before p = refl

-- ---- what is passed

db_passed : (b : Bool) (n : ℕ) (w : Width) (byte bit : ℕ)
    → (if not b then Some (passed.InBlock n area.Db w byte bit) else Some (passed.Direct area.Db w byte bit))
    ≡ flat_passed (if b then named_fixed_place area.Db w byte bit else named.PlaceIn n w byte bit)
db_passed true n w byte bit = refl
db_passed false n w byte bit = refl

if_some : (b : Bool) (x y : Passed) → Some (if b then x else y) ≡ (if b then Some x else Some y)
if_some true x y = refl
if_some false x y = refl

place_passed : (a : Area) (n : ℕ) (w : Width) (byte bit : ℕ)
    → Some (passed_place (record { area = a; number = n; byte = byte; bit = bit }) w)
    ≡ flat_passed (place_by a n w byte bit)
place_passed area.Db n w byte bit =
    if_some (not (nat_eq n 0)) (passed.InBlock n area.Db w byte bit) (passed.Direct area.Db w byte bit)
    ∙ db_passed (nat_eq n 0) n w byte bit
place_passed area.I n w byte bit = refl
place_passed area.Q n w byte bit = refl
place_passed area.M n w byte bit = refl
place_passed area.P n w byte bit = refl
place_passed area.Di n w byte bit = refl
place_passed area.L n w byte bit = refl

abbrev passed_or : Option Passed → Option NamedItem → Option Passed
passed_or other None = other
passed_or other (Some x) = flat_passed x

plain_passed : (o : Operand) (v : ResolvedOperand)
    → passed_by_operand o v ≡ passed_or (passed_by_operand o v) (view_named None v)
plain_passed o (resolved.Direct place w side declared) =
    place_passed place.area place.number w place.byte place.bit
plain_passed o (resolved.NumberBy numbered.Timer from byte) = refl
plain_passed o (resolved.NumberBy numbered.Counter from byte) = refl
plain_passed o (resolved.NumberBy numbered.Db from byte) = refl
plain_passed o (resolved.NumberBy numbered.Di from byte) = refl
plain_passed o (resolved.Register register.Stw) = refl
plain_passed o (resolved.Register register.Dblg) = refl
plain_passed o (resolved.Register register.Dbno) = refl
plain_passed o (resolved.Register register.Dilg) = refl
plain_passed o (resolved.Register register.Dino) = refl
plain_passed o (resolved.Register register.Ar2) = refl
plain_passed o _ = refl

constant_passed : (value : Literal) (v : ResolvedOperand)
    → passed_by_operand (operand.Constant value) v
    ≡ passed_or (passed_by_operand (operand.Constant value) v) (view_named (Some value) v)
constant_passed value resolved.Constant = ap (λ b. Some (passed.Literal b)) (bits_same value)
constant_passed value _ = refl

view_passed : (o : Operand) (v : ResolvedOperand)
    → passed_by_operand o v ≡ passed_or (passed_by_operand o v) (view_named (about o) v)
view_passed (operand.Constant value) v = constant_passed value v
view_passed o v = plain_passed o v

-- an actual parameter that resolves and is named
actual_passed : (c : Context) (a : Actual) → (h : IsNamedActual c a)
    → passed_resolution a.value (resolution_of c a.value) ≡ flat_passed h.item
actual_passed c a h =
    ap (passed_resolution a.value) h.resolves ∙ view_passed a.value h.resolved_value
    ∙ ap (passed_or (passed_by_operand a.value h.resolved_value)) (view_same c a.value h.resolved_value h.item h.resolves h.names)

-- ---- the parameters in their order

abbrev IsKnownActual : Context → Option Actual → Type 0
IsKnownActual c None = Unit {0}
IsKnownActual c (Some a) = IsNamedActual c a

found_same : (c : Context) (name : List ℕ) (actuals : List Actual)
    → AllByRecursion (IsNamedActual c) actuals
    → (find (λ (a : Actual). bytes_eq (upper_case_name a.name) name) actuals ≡ own.actual_named name actuals)
    × IsKnownActual c (own.actual_named name actuals)
found_same c name [] h = (refl, tt)
found_same c name (a ∷ actuals) h =
    by (bytes_eq (upper_case_name a.name) name) (found_same c name actuals h.1)
  where
    by : (b : Bool)
        → (find (λ (a : Actual). bytes_eq (upper_case_name a.name) name) actuals ≡ own.actual_named name actuals)
        × IsKnownActual c (own.actual_named name actuals)
        → ((if b then Some a else find (λ (a : Actual). bytes_eq (upper_case_name a.name) name) actuals)
        ≡ (if b then Some a else own.actual_named name actuals))
        × IsKnownActual c (if b then Some a else own.actual_named name actuals)
    by true more = (refl, h.0)
    by false more = more

one_same : (c : Context) (params : List Param) (index : ℕ) (o : Option Actual) (rest : List Passing)
    (before : List Binding) (p : ExecState) → IsKnownActual c o
    → bindings.bound_params params (passed_actual c index o ++ rest) before p.local p.memory
    ≡ own.binds_parameter (own.item_named_in_call c o) (slice_get params index) index before p
    (λ more. bindings.bound_params params rest more p.local p.memory)
one_same c params index None rest before p known = refl
one_same c params index (Some a) rest before p known =
    ap (λ z. bindings.bound_params params (with_index index z ++ rest) before p.local p.memory)
    (actual_passed c a known)
    ∙ passing_same params index known.item rest before p
    ∙ ap (λ z. own.binds_parameter (option_and_then own.if_passable z) (slice_get params index) index before p
    (λ more. bindings.bound_params params rest more p.local p.memory)) (sym known.names)

binds_same : (o : Option NamedItem) (param : Option Param) (index : ℕ) (before : List Binding) (p : ExecState)
    (f g : List Binding → Result (List Binding) ℕ) → ((more : List Binding) → f more ≡ g more)
    → own.binds_parameter o param index before p f ≡ own.binds_parameter o param index before p g
binds_same None param index before p f g h = h before
binds_same (Some x) param index before p f g h =
    then_same (own.binding_for param x p) (own.binding_for param x p)
    (λ b. f (binding_set before index b)) (λ b. g (binding_set before index b)) refl
    (λ b. h (binding_set before index b))

all_same : (c : Context) (actuals : List Actual) (params : List Param) (index : ℕ)
    (formals : List Formal) (before : List Binding) (p : ExecState)
    → AllByRecursion (IsNamedActual c) actuals
    → bindings.bound_params params (passings_from c actuals index formals) before p.local p.memory
    ≡ own.bindings_from params c actuals index (map (λ f. f.name) formals) before p
all_same c actuals params index [] before p h = refl
all_same c actuals params index (f ∷ fs) before p h =
    let found = found_same c f.name actuals h in
    ap (λ o. bindings.bound_params params
    (passed_actual c index o ++ passings_from c actuals (suc index) fs) before p.local p.memory) found.0
    ∙ one_same c params index (own.actual_named f.name actuals) (passings_from c actuals (suc index) fs)
    before p found.1
    ∙ binds_same (own.item_named_in_call c (own.actual_named f.name actuals)) (slice_get params index) index before p
    (λ more. bindings.bound_params params (passings_from c actuals (suc index) fs) more p.local p.memory)
    (λ more. own.bindings_from params c actuals (suc index) (map (λ f. f.name) fs) more p)
    (λ more. all_same c actuals params (suc index) fs more p h)

-- ---- their names

abbrev names : List Formal → List (List ℕ)
names formals = map (λ f. f.name) formals

section_same : (section : PartKind) → is_parameter section ≡ own.is_passed_by_call section
section_same part.Input = refl
section_same part.Output = refl
section_same part.InOut = refl
section_same part.Static = refl
section_same part.Temp = refl

plain_name : (cell : Cell) (of : Element) → names (formal_of cell of) ≡ own.name_if_plain of cell.name
plain_name cell (element.Plain kind) = refl
plain_name cell _ = refl

cell_name : (cell : Cell) → names (formal_here cell) ≡ own.name_of_parameter cell
cell_name cell =
    by (is_parameter cell.section)
    ∙ ap (λ b. if b then own.name_if_plain cell.of cell.name else []) (section_same cell.section)
  where
    by : (b : Bool) → names (if b then formal_of cell cell.of else [])
        ≡ (if b then own.name_if_plain cell.of cell.name else [])
    by true = plain_name cell cell.of
    by false = refl

cell_names : (cells : List Cell) → names (formals_of cells) ≡ flat_map own.name_of_parameter cells
cell_names [] = refl
cell_names (cell ∷ cells) =
    map-append (λ (f : Formal). f.name) (formal_here cell) (formals_of cells)
    ∙ ap₂ (λ xs ys. xs ++ ys) (cell_name cell) (cell_names cells)

result_last : (result : Option Simple) (formals : List Formal)
    → names (return_last result formals) ≡ own.in_call_order (is_some result) (names formals)
result_last None formals = refl
result_last (Some kind) [] = refl
result_last (Some kind) (f ∷ fs) = map-append (λ (f : Formal). f.name) fs (f ∷ [])

order_same : (b : Option Block) (formals : List Formal)
    → names (in_parameter_order b formals) ≡ own.in_call_order (has_result b) (names formals)
order_same None formals = refl
order_same (Some b) formals = result_last b.result formals

system_same : (b32 b33 b39 b40 b41 b42 b43 b46 b64 : Bool) (formals : List Formal)
    → (if b32 then Some (ob_nr_formal ∷ dtime_formal ∷ sign_formal ∷ return_value_formal simple.Int ∷ [])
    else if b33 then Some (ob_nr_formal ∷ return_value_formal simple.Int ∷ [])
    else if (if b39 then true else if b40 then true else false)
    then Some (mode_formal ∷ ob_nr_formal ∷ return_value_formal simple.Int ∷ [])
    else if (if b41 then true else if b42 then true else false) then Some (return_value_formal simple.Int ∷ [])
    else if (if b43 then true else if b46 then true else false) then Some []
    else if b64 then Some (return_value_formal simple.Time ∷ [])
    else None) ≡ Some formals
    → names formals
    ≡ (if b32 then codes "OB_NR" ∷ codes "DTIME" ∷ codes "SIGN" ∷ codes "RET_VAL" ∷ []
    else if b33 then codes "OB_NR" ∷ codes "RET_VAL" ∷ []
    else if b39 then codes "MODE" ∷ codes "OB_NR" ∷ codes "RET_VAL" ∷ []
    else if b40 then codes "MODE" ∷ codes "OB_NR" ∷ codes "RET_VAL" ∷ []
    else if b41 then codes "RET_VAL" ∷ []
    else if b42 then codes "RET_VAL" ∷ []
    else if b43 then []
    else if b46 then []
    else if b64 then codes "RET_VAL" ∷ []
    else [])
system_same true b33 b39 b40 b41 b42 b43 b46 b64 formals e = ap names (sym (same_Some _ formals e))
system_same false true b39 b40 b41 b42 b43 b46 b64 formals e = ap names (sym (same_Some _ formals e))
system_same false false true b40 b41 b42 b43 b46 b64 formals e = ap names (sym (same_Some _ formals e))
system_same false false false true b41 b42 b43 b46 b64 formals e = ap names (sym (same_Some _ formals e))
system_same false false false false true b42 b43 b46 b64 formals e = ap names (sym (same_Some _ formals e))
system_same false false false false false true b43 b46 b64 formals e = ap names (sym (same_Some _ formals e))
system_same false false false false false false true b46 b64 formals e = ap names (sym (same_Some _ formals e))
system_same false false false false false false false true b64 formals e = ap names (sym (same_Some _ formals e))
system_same false false false false false false false false true formals e = ap names (sym (same_Some _ formals e))
system_same false false false false false false false false false formals e = absurd cc

-- what is called in the order of its call
abbrev called_names : Context → Callee → List (List ℕ)
called_names c callee = names (in_parameter_order (source_block_at c.blocks callee.place) callee.formals)

system_called : (c : Context) (id : BlockId) (o : Option (List Formal)) (callee : Callee)
    → system_formals id.number ≡ o
    → option_map (λ formals. record { id = id; place = None; formals = formals }) o ≡ Some callee
    → called_names c callee ≡ own.system_names id.number
unfolding system_formals
system_called c id None callee known e = absurd cc
system_called c id (Some formals) callee known e =
    ap (called_names c) (sym (same_Some _ callee e))
    ∙ system_same (nat_eq id.number 32) (nat_eq id.number 33) (nat_eq id.number 39)
    (nat_eq id.number 40) (nat_eq id.number 41) (nat_eq id.number 42) (nat_eq id.number 43)
    (nat_eq id.number 46) (nat_eq id.number 64) formals known

source_called : (c : Context) (id : BlockId) (o : Option ℕ) (callee : Callee)
    → option_and_then (callee_at c id) (option_and_then (if_whole c.layouts) o) ≡ Some callee
    → called_names c callee ≡ own.source_names c o
source_called c id None callee e = absurd cc
source_called c id (Some place) callee e = by (is_some (whole_at c.layouts place)) e
  where
    sound : (b : Bool)
        → option_map (λ formals. record { id = id; place = Some place; formals = formals })
        (if b then Some (formals_of (cells_at c.layouts place false)) else None) ≡ Some callee
        → called_names c callee ≡ own.source_names c (Some place)
    sound false h = absurd cc
    sound true h =
        ap (called_names c) (sym (same_Some _ callee h))
        ∙ order_same (slice_get c.blocks place) (formals_of (cells_at c.layouts place false))
        ∙ ap (own.in_call_order (has_result (slice_get c.blocks place)))
        (cell_names (cells_at c.layouts place false))

    by : (b : Bool) → option_and_then (callee_at c id) (if b then Some place else None) ≡ Some callee
        → called_names c callee ≡ own.source_names c (Some place)
    by false h = absurd cc
    by true h = sound (list_all is_sound_formal (cells_at c.layouts place false)) h

names_by : (c : Context) (id : BlockId) (sfc fc fb : Bool) (callee : Callee)
    → (if sfc then system_callee id
    else if fc then source_callee c id
    else if fb then source_callee c id
    else None) ≡ Some callee
    → called_names c callee
    ≡ (if sfc then own.system_names id.number
    else own.source_names c (known_block id (map (λ b. b.id) c.layouts)))
names_by c id true fc fb callee e = system_called c id (system_formals id.number) callee refl e
names_by c id false true fb callee e =
    source_called c id (known_block id (map (λ b. b.id) c.layouts)) callee e
names_by c id false false true callee e =
    source_called c id (known_block id (map (λ b. b.id) c.layouts)) callee e
names_by c id false false false callee e = absurd cc

block_is : (c : Context) (name : BlockName) (db : Option BlockName) (id : BlockId) (instance : Option ℕ)
    → item_named_by c (operand.Called name db) ≡ Some (named.Called id instance)
    → named_block c.symbols name ≡ Some id
unfolding item_named_by
block_is c name None id instance e = block_same c name ∙ by (block_id_of_name c name) e
  where
    by : (o : Option BlockId) → option_map (λ id. named.Called id None) o ≡ Some (named.Called id instance)
        → o ≡ Some id
    by None h = absurd cc
    by (Some other) h = cc
block_is c name (Some db) id instance e =
    block_same c name ∙ by (block_id_of_name c name) (number_of_block_name c db) e
  where
    by : (o : Option BlockId) (number : Option ℕ)
        → with_instance o number ≡ Some (named.Called id instance) → o ≡ Some id
    by None number h = absurd cc
    by (Some other) None h = absurd cc
    by (Some other) (Some number) h = cc

names_same : (c : Context) (name : BlockName) (db : Option BlockName) (id : BlockId)
    (instance : Option ℕ) (callee : Callee)
    → item_named_by c (operand.Called name db) ≡ Some (named.Called id instance)
    → callee_of c (operand.Called name db) ≡ Some callee
    → called_names c callee ≡ own.parameter_names c id
unfolding callee_of
names_same c name db id instance callee names known =
    names_by c id (is_system_function id.kind) (is_function id.kind) (is_function_block id.kind) callee
    (sym (ap (λ o. option_and_then (λ (id : BlockId). callee_by c id id.kind) o)
    (block_is c name db id instance names)) ∙ known)

-- ---- the called block

abbrev is_called_name : NamedItem → Bool
is_called_name (named.Called id instance) = true
is_called_name _ = false

db_not_called : (b : Bool) (n : ℕ) (w : Width) (byte bit : ℕ)
    → is_called_name (if b then named_fixed_place area.Db w byte bit else named.PlaceIn n w byte bit) ≡ false
db_not_called true n w byte bit = refl
db_not_called false n w byte bit = refl

place_not_called : (a : Area) (n : ℕ) (w : Width) (byte bit : ℕ)
    → is_called_name (place_by a n w byte bit) ≡ false
place_not_called area.Db n w byte bit = db_not_called (nat_eq n 0) n w byte bit
place_not_called area.I n w byte bit = refl
place_not_called area.Q n w byte bit = refl
place_not_called area.M n w byte bit = refl
place_not_called area.P n w byte bit = refl
place_not_called area.Di n w byte bit = refl
place_not_called area.L n w byte bit = refl

abbrev called_or : Option NamedItem → Bool
called_or None = false
called_or (Some x) = is_called_name x

called_view : (v : ResolvedOperand) (id : BlockId) (instance : Option ℕ)
    → view_named None v ≡ Some (named.Called id instance) → v ≡ resolved.Called id instance
called_view (resolved.Called other number) id instance e = cc
called_view (resolved.Direct place w side declared) id instance e =
    absurd (false≢true (sym (place_not_called place.area place.number w place.byte place.bit)
    ∙ ap called_or e))
called_view (resolved.NumberBy numbered.Timer from byte) id instance e = absurd cc
called_view (resolved.NumberBy numbered.Counter from byte) id instance e = absurd cc
called_view (resolved.NumberBy numbered.Db from byte) id instance e = absurd cc
called_view (resolved.NumberBy numbered.Di from byte) id instance e = absurd cc
called_view (resolved.Register register.Stw) id instance e = absurd cc
called_view (resolved.Register register.Dblg) id instance e = absurd cc
called_view (resolved.Register register.Dbno) id instance e = absurd cc
called_view (resolved.Register register.Dilg) id instance e = absurd cc
called_view (resolved.Register register.Dino) id instance e = absurd cc
called_view (resolved.Register register.Ar2) id instance e = absurd cc
called_view _ id instance e = absurd cc

-- ---- the call

record SameCall (m : Mnemonic) (how : CallOperation) : Type 0 where
  no_jump : jump_operation_of m ≡ None
  is : call_operation_of m ≡ Some how
  made : (rlo : Bool) → machine.is_call_made how rlo ≡ own.makes_call m rlo

call_same : (m : Mnemonic) → is_call_instruction m ≡ true → (how : CallOperation) × SameCall m how
call_same code.Call e = (how_called.Call, record { no_jump = refl; is = refl; made = λ rlo. refl })
call_same code.Uc e = (how_called.Uc, record { no_jump = refl; is = refl; made = λ rlo. refl })
call_same code.Cc e = (how_called.Cc, record { no_jump = refl; is = refl; made = λ rlo. refl })
call_same _ e = absurd (false≢true e)

-- what passings bind is what is bound
abbrev Binds : List Passing → (List Param → ExecState → Result (List Binding) ℕ) → Activation → GlobalStore → Type 0
Binds passings bind a w =
    (params : List Param)
    → bindings.param_bindings params passings (local_of a.running) w.memory
    ≡ bind params (exec_state_of a.running w.memory w.timers w.counters)

block_entered : (h : Option BlockHead) (id : BlockId) (instance : Option ℕ) (passings : List Passing)
    (bind : List Param → ExecState → Result (List Binding) ℕ) (next : ℕ) (a : Activation) (w : GlobalStore)
    → Binds passings bind a w
    → machine.block_called h id instance passings next a w ≡ own.enters_block h id instance bind next a w
unfolding entering.block_call
block_entered None id instance passings bind next a w same = refl
block_entered (Some h) id instance passings bind next a w same =
    ap (λ r. machine.call_step
    (entering.call_with_bindings r (machine.called_block id instance h) next a w.memory) next a w)
    (same h.params)

system_entered : (o : Option (List Param)) (n : ℕ) (passings : List Passing)
    (bind : List Param → ExecState → Result (List Binding) ℕ) (next : ℕ) (a : Activation) (w : GlobalStore)
    → Binds passings bind a w
    → machine.system_call_made o n passings next a w ≡ own.enters_system o n bind next a w
unfolding system.system_call
system_entered None n passings bind next a w same = refl
system_entered (Some params) n passings bind next a w same =
    ap (λ r. machine.after_system_call
    (then_ok r (λ bound. Ok (system.arguments_of_activation params bound a w.memory))) n next a)
    (same params)

called_same : (program : Code) (id : BlockId) (instance : Option ℕ) (passings : List Passing)
    (bind : List Param → ExecState → Result (List Binding) ℕ) (next : ℕ) (a : Activation) (w : GlobalStore)
    → Binds passings bind a w
    → machine.call_made program id instance passings next a w
    ≡ (if is_system_function id.kind
    then own.enters_system (system.system_function id.number) id.number bind next a w
    else own.enters_block (program.head id) id instance bind next a w)
called_same program id instance passings bind next a w same =
    ap₂ (λ x y. if is_system_function id.kind then x else y)
    (system_entered (system.system_function id.number) id.number passings bind next a w same)
    (block_entered (program.head id) id instance passings bind next a w same)

all_bound : (c : Context) (actuals : List Actual) (formals : List Formal) (these : List (List ℕ))
    (params : List Param) (p : ExecState) → AllByRecursion (IsNamedActual c) actuals → names formals ≡ these
    → bindings.param_bindings params (passings_from c actuals 0 formals) p.local p.memory
    ≡ own.bindings_of c actuals these params p
unfolding bindings.param_bindings
all_bound c actuals formals these params p h e =
    all_same c actuals params 0 formals (replicate (length params) binding.Unsupplied) p h
    ∙ ap (λ ns. own.bindings_of c actuals ns params p) e

pub calls_act : CallsAct
unfolding instruction
calls_act c body n s v name db id instance callee is o e names known actuals program next a w =
    ap (λ i. instruction_step program i next a w)
    (ap (instr_by c body n s) same.no_jump ∙ ap (resolved_instr c s) e
    ∙ ap (operand_instr c s v) same.is ∙ ap (call_instr c s how) viewed
    ∙ ap (λ z. Calls how id instance (passings_to c s z)) (ap (callee_of c) o ∙ known))
    ∙ ap₂ (λ (made : Bool) (called : StatementStep). if made then called
    else Went (activation_standing_at next (with_rlo_1 (own.registers_at_call a.running.regs)) a) w)
    (same.made a.running.regs.status.rlo)
    (called_same program id instance (passings_to c s (Some callee))
    (own.bindings_of c s.actuals (own.parameter_names c id)) next a w
    (λ params. all_bound c s.actuals (in_parameter_order (source_block_at c.blocks callee.place) callee.formals)
    (own.parameter_names c id) params (exec_state_of a.running w.memory w.timers w.counters) actuals
    (names_same c name db id instance callee names known)))
  where
    how : CallOperation
    how = (call_same s.code is).0

    same : SameCall s.code how
    same = (call_same s.code is).1

    viewed : v ≡ resolved.Called id instance
    viewed =
        called_view v id instance
        (view_same c (operand.Called name db) v (named.Called id instance)
        (sym (ap (resolution_of c) o) ∙ (resolved_parts c s v e).1) names)
