-- What the instructions of a source act on, call and pass is named as in a source, but for bits.
use Rattle.std.proofs.Common.{◌≡◌, ◌⊎◌, inl, inr, ℕ, suc, ◌/◌, Bool, true, false, leb, List, [], ◌∷◌, length, map, Option, Some, None, refl, sym, ap, subst, ◌∙◌}
use Rattle.std.specs.Prelude.{slice_get, if◌then◌else◌}
use Rattle.std.specs.List.{AllByRecursion}
use Rattle.std.specs.Option.{is_none, IfSome}
use Rattle.std.specs.Str.{bytes_eq}
use Rattle.std.proofs.lemmas.Bool.{false≢true}
use Rattle.plc_base.proofs.ListLemmas.{all_append}
use Rattle.plc_base.specs.Folding.{upper_case_name}
use Rattle.plc_base.specs.Kinds.{is_code, is_function_block, kind_number}
use Rattle.plc_base.specs.declared.blocks.BlockId.{BlockId}
use Rattle.plc_base.specs.declared.blocks.BlockKind.{BlockKind}
use Rattle.plc_base.specs.declared.blocks.BlockKind.TheVariants as kinds
use Rattle.plc_base.specs.declared.places.Area.{Area}
use Rattle.plc_base.specs.declared.places.Area.TheVariants as area
use Rattle.plc_base.specs.declared.places.Place.{Place}
use Rattle.plc_base.specs.declared.places.Width.{Width}
use Rattle.flat_code.specs.Instr.{Calls, Does, Instr, Jumps, JumpsByList, Passing, Returns}
use Rattle.flat_code.specs.OpCodes.{op_code_of}
use Rattle.flat_code.specs.Ops.{OpData}
use Rattle.flat_code.specs.declared.kinds.JumpOperation.TheVariants as jump
use Rattle.flat_code.specs.declared.kinds.JumpOperation.{JumpOperation}
use Rattle.flat_code.specs.declared.operands.Operand.TheVariants as flat
use Rattle.flat_code.specs.declared.operands.Operand.{Operand as FlatOperand}
use Rattle.flat_code.specs.declared.operands.Passed.TheVariants as passed
use Rattle.flat_code.specs.declared.operands.Passed.{Passed}
use Rattle.flat_code.specs.declared.operations.CallOperation.TheVariants as calls
use Rattle.flat_code.specs.declared.operations.CallOperation.{CallOperation}
use Rattle.flat_code.specs.declared.operations.EndOperation.{EndOperation}
use Rattle.flat_code.specs.declared.operations.Operation.TheVariants as operation
use Rattle.stl_ast.specs.Statements.{IsStatement, has_actuals, has_instance, is_call, names_called_block, is_empty_statement}
use Rattle.stl_ast.specs.WellFormed.{IsBlock}
use Rattle.stl_ast.specs.declared.blocks.Block.{Block}
use Rattle.stl_ast.specs.declared.blocks.PathStep.{PathStep}
use Rattle.stl_ast.specs.declared.blocks.Tree.{Tree}
use Rattle.stl_ast.specs.declared.declarations.Simple.{Simple}
use Rattle.stl_ast.specs.declared.mnemonics.Mnemonic.{Mnemonic}
use Rattle.stl_ast.specs.declared.mnemonics.Mnemonic.TheVariants as mnemonic
use Rattle.stl_ast.specs.declared.names.BlockName.{BlockName}
use Rattle.stl_ast.specs.declared.operands.Letters.{Letters}
use Rattle.stl_ast.specs.declared.operands.Numbered.TheVariants as numbered
use Rattle.stl_ast.specs.declared.operands.Operand.{Operand}
use Rattle.stl_ast.specs.declared.operands.Operand.TheVariants as operand
use Rattle.stl_ast.specs.declared.operands.PathHead.{PathHead}
use Rattle.stl_ast.specs.declared.operands.PathHead.TheVariants as head
use Rattle.stl_ast.specs.declared.statements.Actual.{Actual}
use Rattle.stl_ast.specs.declared.statements.Statement.{Statement}
use Rattle.stl_symbols.specs.Symbol.{Symbol, symbol_named}
use Rattle.stl_symbols.specs.declared.targets.Target.{Target}
use Rattle.stl_symbols.specs.declared.targets.Target.TheVariants as target
use Rattle.block_layout.specs.Blocks.{named_block}
use Rattle.block_layout.specs.Offsets.{place_at, elementary_place, width_of}
use Rattle.block_layout.specs.Paths.{cells_at, elementary_at, folded_path, path_end_in_data_block, path_end_of_local}
use Rattle.block_layout.specs.declared.blocks.BlockLayout.{BlockLayout}
use Rattle.block_layout.specs.declared.cells.Cell.{Cell}
use Rattle.block_layout.specs.declared.cells.Element.{Element}
use Rattle.block_layout.specs.declared.cells.Element.TheVariants as element
use Rattle.block_layout.specs.declared.path_ends.ComponentAt.{ComponentAt}
use Rattle.block_layout.specs.declared.path_ends.PathEnd.{PathEnd}
use Rattle.block_layout.specs.declared.path_ends.PathEnd.TheVariants as path_end
use Rattle.stl_types.specs.Addresses.{address_in_block}
use Rattle.stl_types.specs.Bodies.{first_context}
use Rattle.stl_types.specs.Context.{Context, data_number, data_place, in_function}
use Rattle.stl_types.specs.Kinds.{is_operand_of_call as is_called_view}
use Rattle.stl_types.specs.Operands.{rule_of_operand, statement_rule}
use Rattle.stl_types.specs.Parameters.{Callee, callee_of}
use Rattle.stl_types.specs.Resolution.{resolution_of_call, resolution_of_address, instance_number as number_of_instance, resolution_of_opened_block, resolution_of_path, resolution_of, resolution_of_symbol, resolved_target, whole_called_block}
use Rattle.stl_types.specs.ResolvedStatement.{resolved_operand, operand_if_resolved}
use Rattle.stl_types.specs.Variables.{composite_operand, data_at, data_path, data_variable, data_at_path_end, date_or_composite, variable_in_area, is_temporary_variable, own_at, own_elementary, own_variable, own_at_path_end, parameter_resolution, parameter_at, parameter_index}
use Rattle.stl_types.specs.declared.operand_rules.OperandRule.TheVariants as operand_rules
use Rattle.stl_types.specs.declared.operand_rules.OperandRule.{OperandRule}
use Rattle.stl_types.specs.declared.parameters.Formal.{Formal}
use Rattle.stl_types.specs.declared.resolved_operands.Register.TheVariants as register
use Rattle.stl_types.specs.declared.resolved_operands.Resolution.{Resolution}
use Rattle.stl_types.specs.declared.resolved_operands.Resolution.TheVariants.{Resolved, Unjudged, Unknown}
use Rattle.stl_types.specs.declared.resolved_operands.ResolvedOperand.{ResolvedOperand}
use Rattle.stl_types.specs.declared.resolved_operands.ResolvedOperand.TheVariants as resolved
use Rattle.stl_codegen.specs.CompiledBlock.{SourceInstruction, StatedBlock, operand_with_target, compiled_block}
use Rattle.block_layout.specs.Fits.{number_or_zero}
use Rattle.stl_codegen.specs.EmittedOps.{pass_ops}
use Rattle.stl_codegen.specs.GeneratedProgram.{code_block, code_block_of, code_blocks_of, each_block, return_statement, instructions_from, statements_of}
use Rattle.stl_codegen.specs.Instruction.{source_block_at, call_instr, end_instr, in_parameter_order, instr_by, instruction, jump_instr, passings_to, resolved_instr, target_of, operand_instr}
use Rattle.stl_codegen.specs.Operands.{is_in_named_block, flat_operand_of}
use Rattle.stl_codegen.specs.Operations.{call_operation_of, end_operation_of, jump_operation_of}
use Rattle.stl_codegen.specs.Order.{is_code_before}
use Rattle.stl_codegen.specs.PassedParameters.{passed_actual, passed_place, passed_resolution, passed_by_operand, passings_from, actual_of_formal, with_index}
use Rattle.stl_list.specs.Runs.{StatementOps, runs}
use Rattle.sem_kept.proofs.accepted.OperandsCalls.{none_passed}
use Rattle.sem_kept.proofs.accepted.Shared.{call_form, calls_called, no_call_constant, rule_there}
use Rattle.listing_laws.proofs.BlockLemmas.{all_sorted}
use Rattle.listing_laws.proofs.NameLemmas.{either_way}
use Rattle.listing_laws.proofs.RunLemmas.{runs_found}
use Rattle.listing_laws.proofs.naming.Places.{found_among}
use Rattle.listing_laws.proofs.naming.Read.{ActualIsNoBit, OperandIsNoBit, StatementIsNoBit}
use Rattle.listing_laws.proofs.naming.Symbols.{AreNoBits, SymbolIsNoBit, TargetIsNoBit, named_no_bit}
use Rattle.listing_laws.proofs.naming.Trees.{BlockIsNoBit}
use Rattle.listing_laws.specs.Bodies.{IsCallBy, IsNoBit}
use Rattle.listing_laws.specs.Statements.{statement_offset, run_of}

-- ---- what operands name

abbrev ViewIsNoBit : ResolvedOperand → Type 0
ViewIsNoBit (resolved.Direct place w side declared) = IsNoBit place.area w
ViewIsNoBit _ = Unit {0}

abbrev SeenIsNoBit : Resolution → Type 0
SeenIsNoBit (Resolved v) = ViewIsNoBit v
SeenIsNoBit _ = Unit {0}

in_area_plain : (kind : Simple) (a : Area) (n bits : ℕ) → ((w : Width) → IsNoBit a w) → SeenIsNoBit (variable_in_area kind (elementary_place a n bits (Some kind)))
in_area_plain kind a n bits h = by (leb (bits / 8) 65535) where
  by : (b : Bool) → SeenIsNoBit (variable_in_area kind (if b then Some (place_at a n bits, width_of kind) else None))
  by true = h (width_of kind)
  by false = tt

composite_plain : (found : Option Cell) → ViewIsNoBit (composite_operand found)
composite_plain None = tt
composite_plain (Some c) = of_ c.of where
  of_ : (e : Element) → ViewIsNoBit (date_or_composite e)
  of_ element.DateAndTime = tt
  of_ _ = tt

parameter_plain : (c : Context) (component : ComponentAt) (kind : Simple) → SeenIsNoBit (parameter_at c component kind)
parameter_plain c component kind = by (slice_get (cells_at c.layouts c.block false) component.place) where
  by : (found : Option Cell) → SeenIsNoBit (parameter_resolution (parameter_index (length (cells_at c.layouts c.block false)) component.place (slice_get c.blocks c.block)) kind found)
  by None = tt
  by (Some cell) = tt

own_elementary_plain : (c : Context) (temporary : Bool) (component : ComponentAt) (kind : Simple) → SeenIsNoBit (own_elementary c temporary component kind)
own_elementary_plain c true component kind = in_area_plain kind area.L 0 component.offset (λ w. tt)
own_elementary_plain c false component kind =
    either_way SeenIsNoBit (in_function c) (parameter_at c component kind) (variable_in_area kind (elementary_place area.Di 0 component.offset (Some kind)))
    (parameter_plain c component kind) (in_area_plain kind area.Di 0 component.offset (λ w. tt))

own_plain : (c : Context) (name : List ℕ) (steps : List PathStep) → SeenIsNoBit (own_variable c name steps)
own_plain c name steps = by (path_end_of_local c.layouts c.block name steps) where
  by : (w : PathEnd) → SeenIsNoBit (own_at_path_end c (is_temporary_variable c name) w)
  by path_end.Unknown = tt
  by path_end.Unjudged = tt
  by (path_end.Reaches component) = at (elementary_at c.layouts component) where
    at : (kind : Option Simple) → SeenIsNoBit (own_at c (is_temporary_variable c name) component kind)
    at None = composite_plain (slice_get (cells_at c.layouts component.block component.temporary) component.place)
    at (Some kind) = own_elementary_plain c (is_temporary_variable c name) component kind

data_walk_plain : (c : Context) (n : ℕ) (w : PathEnd) → SeenIsNoBit (data_at_path_end c n w)
data_walk_plain c n path_end.Unknown = tt
data_walk_plain c n path_end.Unjudged = tt
data_walk_plain c n (path_end.Reaches component) = at (elementary_at c.layouts component) where
  at : (kind : Option Simple) → SeenIsNoBit (data_at c n component kind)
  at None = composite_plain (slice_get (cells_at c.layouts component.block component.temporary) component.place)
  at (Some kind) = in_area_plain kind area.Db n component.offset (λ w. tt)

data_plain : (c : Context) (name : BlockName) (steps : List PathStep) → SeenIsNoBit (data_variable c name steps)
data_plain c name steps = by (data_number c name) (data_place c name) where
  by : (n place : Option ℕ) → SeenIsNoBit (data_path c steps n place)
  by None place = tt
  by (Some n) None = tt
  by (Some n) (Some block) = data_walk_plain c n (path_end_in_data_block c.layouts block steps)

target_plain : (t : Target) → TargetIsNoBit t → ViewIsNoBit (resolved_target t)
target_plain (target.Variable place w) h = h
target_plain (target.Timer n) h = tt
target_plain (target.Counter n) h = tt
target_plain (target.Block id) h = tt

symbol_plain : (found : Option Symbol) → IfSome found SymbolIsNoBit → SeenIsNoBit (resolution_of_symbol found)
symbol_plain None h = tt
symbol_plain (Some s) h = target_plain s.target h

path_plain : (c : Context) (p : PathHead) (steps : List PathStep) → AreNoBits c.symbols → SeenIsNoBit (resolution_of_path c p steps)
path_plain c (head.Local name) steps h = own_plain c (upper_case_name name) (folded_path steps)
path_plain c (head.InBlock name) steps h = data_plain c name (folded_path steps)
path_plain c (head.Symbol name) steps h = symbol_plain (symbol_named name c.symbols) (named_no_bit name c.symbols h)

direct_plain : (c : Context) (name : Option BlockName) (a : Letters) (w : Width) (byte bit : ℕ) → OperandIsNoBit (operand.Direct name a w byte bit) → SeenIsNoBit (resolution_of_address c name a w byte bit)
direct_plain c None a w byte bit h = h
direct_plain c (Some name) a w byte bit h = by (data_number c name) where
  by : (n : Option ℕ) → SeenIsNoBit (address_in_block n a w byte bit)
  by None = tt
  by (Some n) = h

opened_plain : (di : Bool) (n : Option ℕ) → SeenIsNoBit (resolution_of_opened_block di n)
opened_plain di None = tt
opened_plain di (Some n) = tt

called_plain : (id : Option BlockId) (name : Option BlockName) (instance : Option ℕ) → SeenIsNoBit (resolution_of_call id name instance)
called_plain None name instance = tt
called_plain (Some id) None instance = tt
called_plain (Some id) (Some name) None = tt
called_plain (Some id) (Some name) (Some n) = tt

seen_plain : (c : Context) (o : Operand) → AreNoBits c.symbols → OperandIsNoBit o → SeenIsNoBit (resolution_of c o)
unfolding resolution_of
seen_plain c (operand.Direct name a w byte bit) h is = direct_plain c name a w byte bit is
seen_plain c (operand.Named path steps) h is = path_plain c path steps h
seen_plain c (operand.OpenBlock di name) h is = opened_plain di (data_number c name)
seen_plain c (operand.Called name instance) h is = called_plain (whole_called_block c (named_block c.symbols name)) instance (number_of_instance c instance)
seen_plain c _ h is = tt

-- ---- what is passed

abbrev pub PassedIsNoBit : Passed → Type 0
PassedIsNoBit (passed.Direct a w byte bit) = IsNoBit a w
PassedIsNoBit (passed.InBlock number a w byte bit) = IsNoBit a w
PassedIsNoBit _ = Unit {0}

abbrev ArePassed : List Passing → Type 0
ArePassed ps = AllByRecursion (λ p. PassedIsNoBit p.actual) ps

place_passed : (place : Place) (w : Width) → IsNoBit place.area w → PassedIsNoBit (passed_place place w)
place_passed place w h =
    either_way PassedIsNoBit (is_in_named_block place) (passed.InBlock place.number place.area w place.byte place.bit) (passed.Direct place.area w place.byte place.bit) h h

view_passed : (index : ℕ) (o : Operand) (v : ResolvedOperand) → ViewIsNoBit v → ArePassed (with_index index (passed_by_operand o v))
view_passed index o (resolved.Direct place w side declared) h = (place_passed place w h, tt)
view_passed index o (resolved.Parameter own section declared) h = (tt, tt)
view_passed index o resolved.Constant h = (tt, tt)
view_passed index o _ h = tt

seen_passed : (index : ℕ) (o : Operand) (r : Resolution) → SeenIsNoBit r → ArePassed (with_index index (passed_resolution o r))
seen_passed index o (Resolved v) h = view_passed index o v h
seen_passed index o _ h = tt

actual_passed : (c : Context) (index : ℕ) (a : Option Actual) → AreNoBits c.symbols → IfSome a ActualIsNoBit → ArePassed (passed_actual c index a)
actual_passed c index None h k = tt
actual_passed c index (Some a) h k = seen_passed index a.value (resolution_of c a.value) (seen_plain c a.value h k)

all_passed : (c : Context) (actuals : List Actual) (index : ℕ) (fs : List Formal) → AreNoBits c.symbols → AllByRecursion ActualIsNoBit actuals
    → ArePassed (passings_from c actuals index fs)
all_passed c actuals index [] h k = tt
all_passed c actuals index (f ∷ fs) h k =
    all_append (λ p. PassedIsNoBit p.actual) (passed_actual c index (actual_of_formal actuals f)) (passings_from c actuals (suc index) fs)
    (actual_passed c index (actual_of_formal actuals f) h (found_among ActualIsNoBit (λ a. bytes_eq (upper_case_name a.name) f.name) actuals k)) (all_passed c actuals (suc index) fs h k)

to_passed : (c : Context) (s : Statement) (o : Option Callee) → AreNoBits c.symbols → AllByRecursion ActualIsNoBit s.actuals → ArePassed (passings_to c s o)
to_passed c s None h k = tt
to_passed c s (Some callee) h k = all_passed c s.actuals 0 (in_parameter_order (source_block_at c.blocks callee.place) callee.formals) h k

-- nothing, where nothing is supplied
to_none : (c : Context) (s : Statement) (o : Option Callee) → s.actuals ≡ [] → passings_to c s o ≡ []
to_none c s None e = refl
to_none c s (Some callee) e =
    let formals = in_parameter_order (source_block_at c.blocks callee.place) callee.formals in
    ap (λ xs. passings_from c xs 0 formals) e ∙ none_passed c 0 formals

-- ---- calls

abbrev HasNoInstance : Resolution → Type 0
HasNoInstance (Resolved (resolved.Called id instance)) = instance ≡ None
HasNoInstance _ = Unit {0}

-- a call that names no instance has none
bare_seen : (c : Context) (o : Operand) → names_called_block o ≡ true → has_instance o ≡ false → HasNoInstance (resolution_of c o)
unfolding resolution_of
bare_seen c (operand.Called name None) e h = by (whole_called_block c (named_block c.symbols name))
  where
    by : (id : Option BlockId) → HasNoInstance (resolution_of_call id None None)
    by None = tt
    by (Some id) = refl
bare_seen c (operand.Called name (Some instance)) e h = absurd (false≢true (sym h))
bare_seen c _ e h = absurd (false≢true e)

fb_number : (k : BlockKind) → is_function_block k ≡ true → kind_number k ≡ kind_number kinds.Fb
fb_number kinds.Fb e = refl
fb_number kinds.Ob e = absurd (false≢true e)
fb_number kinds.Fc e = absurd (false≢true e)
fb_number kinds.Db e = absurd (false≢true e)
fb_number kinds.Sfc e = absurd (false≢true e)
fb_number kinds.Udt e = absurd (false≢true e)

instance_of : (id : BlockId) (instance : Option ℕ) → is_called_view (resolved.Called id instance) ≡ true → (number_or_zero instance ≡ 0) ⊎ (kind_number id.kind ≡ kind_number kinds.Fb)
instance_of id None e = inl refl
instance_of id (Some n) e = inr (fb_number id.kind e)

call_word : (m : Mnemonic) (how : CallOperation) → call_operation_of m ≡ Some how → is_call m ≡ true
call_word mnemonic.Call how e = refl
call_word mnemonic.Uc how e = refl
call_word mnemonic.Cc how e = refl
call_word _ how e = absurd cc

-- UC and CC
abbrev IsBare : CallOperation → Type 0
IsBare calls.Call = ⊥
IsBare calls.Uc = Unit {0}
IsBare calls.Cc = Unit {0}

bare_word : (m : Mnemonic) (how : CallOperation) → IsBare how → call_operation_of m ≡ Some how → has_actuals m ≡ false
bare_word mnemonic.Call calls.Call b e = absurd b
bare_word mnemonic.Call calls.Uc b e = absurd cc
bare_word mnemonic.Call calls.Cc b e = absurd cc
bare_word mnemonic.Uc how b e = refl
bare_word mnemonic.Cc how b e = refl
bare_word _ how b e = refl

abbrev OperandActs : FlatOperand → Type 0
OperandActs (flat.Direct a w byte bit) = IsNoBit a w
OperandActs (flat.Called kind number instance) = ⊥
OperandActs _ = Unit {0}

abbrev IsCallTo : (how : CallOperation) (id : BlockId) (instance : Option ℕ) → List Passing → Type 0
IsCallTo how id instance ps = IsCallBy (pass_ops ps) (op_code_of (operation.Call how)) (kind_number id.kind) (number_or_zero instance)

abbrev InstrIsNamed : Instr → Type 0
InstrIsNamed (Does use_db w o) = OperandActs o
InstrIsNamed (Calls how id instance passings) = IsCallTo how id instance passings × ArePassed passings
InstrIsNamed _ = Unit {0}

-- what is known of a statement that calls
record IsCaller (c : Context) (s : Statement) (how : CallOperation) (id : BlockId) (instance : Option ℕ) : Type 0 where
  is : IsStatement s
  word : call_operation_of s.code ≡ Some how
  named : resolution_of c s.operand ≡ Resolved (resolved.Called id instance)
  right : statement_rule c s ≡ None

no_instance : (r : Resolution) (id : BlockId) (instance : Option ℕ) → HasNoInstance r → r ≡ Resolved (resolved.Called id instance) → instance ≡ None
no_instance r id instance h e = subst HasNoInstance e h

bare_call : (c : Context) (s : Statement) (how : CallOperation) (id : BlockId) (instance : Option ℕ) (callee : Option Callee) → IsBare how → IsCaller c s how id instance
    → (number_or_zero instance ≡ 0) × (pass_ops (passings_to c s callee) ≡ [])
bare_call c s how id instance callee b h =
    let none = bare_word s.code how b h.word in
    let called = bare_seen c s.operand (h.is.called ∙ call_word s.code how h.word) (h.is.instance none) in (
      ap number_or_zero (no_instance (resolution_of c s.operand) id instance called h.named),
      ap pass_ops (to_none c s callee (h.is.no_actuals none)),
    )

view_called : (c : Context) (s : Statement) (how : CallOperation) (id : BlockId) (instance : Option ℕ) → IsCaller c s how id instance → is_called_view (resolved.Called id instance) ≡ true
view_called c s how id instance h =
    calls_called (resolved.Called id instance)
    (rule_there c operand_rules.Calls s.operand (resolved.Called id instance) no_call_constant (ap (λ (f : OperandRule). rule_of_operand c f s.operand) (sym (call_form s.code how h.word)) ∙ h.right) h.named)

called_by : (c : Context) (s : Statement) (how : CallOperation) (id : BlockId) (instance : Option ℕ) (callee : Option Callee) → IsCaller c s how id instance
    → IsCallTo how id instance (passings_to c s callee)
called_by c s calls.Call id instance callee h = inl (refl, instance_of id instance (view_called c s calls.Call id instance h))
called_by c s calls.Uc id instance callee h = inr (bare_call c s calls.Uc id instance callee tt h)
called_by c s calls.Cc id instance callee h = inr (bare_call c s calls.Cc id instance callee tt h)

-- ---- instructions

operand_acts : (o : Operand) (v : ResolvedOperand) → ViewIsNoBit v → OperandActs (flat_operand_of o v)
unfolding flat_operand_of
operand_acts o (resolved.Direct place w side declared) h = h
operand_acts o (resolved.NumberBy numbered.Timer from byte) h = tt
operand_acts o (resolved.NumberBy numbered.Counter from byte) h = tt
operand_acts o (resolved.NumberBy numbered.Db from byte) h = tt
operand_acts o (resolved.NumberBy numbered.Di from byte) h = tt
operand_acts o (resolved.Register register.Dblg) h = tt
operand_acts o (resolved.Register register.Dbno) h = tt
operand_acts o (resolved.Register register.Dilg) h = tt
operand_acts o (resolved.Register register.Dino) h = tt
operand_acts o (resolved.Register _) h = tt
operand_acts o _ h = tt

end_named : (s : Statement) (v : ResolvedOperand) (how : Option EndOperation) → ViewIsNoBit v → InstrIsNamed (end_instr s v how)
end_named s v None h = operand_acts s.operand v h
end_named s v (Some how) h = tt

jump_named : (how : JumpOperation) (n to : ℕ) → InstrIsNamed (jump_instr how n to)
jump_named jump.Jl n to = tt
jump_named _ n to = tt

-- what is known of a statement
record IsRight (c : Context) (s : Statement) : Type 0 where
  is : IsStatement s
  symbols : AreNoBits c.symbols
  no_bit : StatementIsNoBit s

call_named : (c : Context) (s : Statement) (how : CallOperation) (v : ResolvedOperand) → IsRight c s → call_operation_of s.code ≡ Some how → resolution_of c s.operand ≡ Resolved v → statement_rule c s ≡ None
    → InstrIsNamed (call_instr c s how v)
call_named c s how (resolved.Called id instance) h word named right = (
  called_by c s how id instance (callee_of c s.operand) (record { is = h.is; word = word; named = named; right = right }),
  to_passed c s (callee_of c s.operand) h.symbols h.no_bit.1,
)
call_named c s how _ h word named right = tt

view_named : (c : Context) (s : Statement) (v : ResolvedOperand) → IsRight c s → resolution_of c s.operand ≡ Resolved v → statement_rule c s ≡ None → ViewIsNoBit v
    → InstrIsNamed (operand_instr c s v (call_operation_of s.code))
view_named c s v h named right no_bit = by (call_operation_of s.code) refl
  where
    by : (how : Option CallOperation) → call_operation_of s.code ≡ how → InstrIsNamed (operand_instr c s v how)
    by None e = end_named s v (end_operation_of s.code) no_bit
    by (Some how) e = call_named c s how v h e named right

resolved_named : (c : Context) (s : Statement) → IsRight c s → InstrIsNamed (resolved_instr c s (resolved_operand c s))
unfolding resolved_operand
resolved_named c s h = by (statement_rule c s) refl (resolution_of c s.operand) refl (seen_plain c s.operand h.symbols h.no_bit.0)
  where
    by : (rule : Option ℕ) → statement_rule c s ≡ rule → (r : Resolution) → resolution_of c s.operand ≡ r → SeenIsNoBit r
        → InstrIsNamed (resolved_instr c s (if is_none rule then operand_if_resolved r else None))
    by (Some rule) e r f k = tt
    by None e (Resolved v) f k = view_named c s v h f e k
    by None e Unknown f k = tt
    by None e Unjudged f k = tt

instr_named : (c : Context) (body : List Statement) (n : ℕ) (s : Statement) → IsRight c s → InstrIsNamed (instruction c body n s)
unfolding instruction
instr_named c body n s h = by (jump_operation_of s.code) where
  by : (how : Option JumpOperation) → InstrIsNamed (instr_by c body n s how)
  by None = resolved_named c s h
  by (Some how) = jump_named how n (target_of body s.operand)

-- ---- blocks

abbrev AllNamed : List SourceInstruction → Type 0
AllNamed ss = AllByRecursion (λ s. InstrIsNamed s.instr) ss

stated_named : (c : Context) (body : List Statement) (n : ℕ) (ss : List Statement) → AreNoBits c.symbols → AllByRecursion IsStatement ss → AllByRecursion StatementIsNoBit ss
    → AllNamed (instructions_from c body n ss)
stated_named c body n [] symbols are no_bits = tt
stated_named c body n (s ∷ ss) symbols (one, more) (no_bit, no_bits) =
    either_way AllNamed (is_empty_statement s.code) (instructions_from c body n ss) (record { instr = instruction c body n s; line = s.line } ∷ instructions_from c body (suc n) ss)
    (stated_named c body n ss symbols more no_bits)
    (instr_named c body n s (record { is = one; symbols = symbols; no_bit = no_bit }), stated_named c body (suc n) ss symbols more no_bits)

statements_named : (c : Context) (b : Block) → AreNoBits c.symbols → IsBlock b → BlockIsNoBit b → AllNamed (statements_of c b)
unfolding statements_of
statements_named c b symbols is no_bits =
    all_append (λ s. InstrIsNamed s.instr) (instructions_from c b.body 0 b.body) (return_statement b ∷ []) (stated_named c b.body 0 b.body symbols is.runs.0 no_bits) (tt, tt)

abbrev BlockIsNamed : StatedBlock → Type 0
BlockIsNamed b = AllNamed b.statements

block_named : (c : Context) (b : Block) (l : BlockLayout) (id : Option BlockId) → AreNoBits c.symbols → IsBlock b → BlockIsNoBit b → AllByRecursion BlockIsNamed (code_block_of c b l id)
block_named c b l None symbols is no_bits = tt
block_named c b l (Some id) symbols is no_bits =
    either_way (λ l. AllByRecursion BlockIsNamed l) (is_code id.kind) (code_block c b l id ∷ []) [] (statements_named c b symbols is no_bits, tt) tt

blocks_named : (c : Context) (bs : List Block) (ls : List BlockLayout) → AreNoBits c.symbols → AllByRecursion IsBlock bs → AllByRecursion BlockIsNoBit bs
    → AllByRecursion BlockIsNamed (each_block (λ c b l. code_block_of c b l l.id) c bs ls)
blocks_named c [] ls symbols are no_bits = tt
blocks_named c (b ∷ bs) [] symbols are no_bits = tt
blocks_named c (b ∷ bs) (l ∷ ls) symbols (one, more) (no_bit, no_bits) =
    all_append BlockIsNamed (code_block_of c b l l.id) _ (block_named c b l l.id symbols one no_bit) (blocks_named (record c { block = suc c.block }) bs ls symbols more no_bits)

-- ---- runs

abbrev pub PreparesNoBit : FlatOperand → Type 0
PreparesNoBit (flat.Pass index p) = PassedIsNoBit p
PreparesNoBit _ = Unit {0}

abbrev pub ActsOnNoBit : (before : List OpData) (code : ℕ) → FlatOperand → Type 0
ActsOnNoBit before code (flat.Direct a w byte bit) = IsNoBit a w
ActsOnNoBit before code (flat.Called kind number instance) = IsCallBy before code kind instance
ActsOnNoBit before code _ = Unit {0}

-- the ops of a statement
pub record RunIsNoBit (r : StatementOps) : Type 0 where
  pub prepares : AllByRecursion (λ op. PreparesNoBit op.operand) r.before
  pub acts : ActsOnNoBit r.before r.op.code r.op.operand

aimed_acts : (f : ℕ → ℕ) (before : List OpData) (code : ℕ) (o : FlatOperand) → OperandActs o → ActsOnNoBit before code (operand_with_target f o)
aimed_acts f before code (flat.Jump kind to) h = tt
aimed_acts f before code (flat.Direct a w byte bit) h = h
aimed_acts f before code (flat.Called kind number instance) h = absurd h
aimed_acts f before code _ h = tt

passing_prepares : (ps : List Passing) → ArePassed ps → AllByRecursion (λ op. PreparesNoBit op.operand) (pass_ops ps)
passing_prepares [] h = tt
passing_prepares (p ∷ ps) (one, more) = (one, passing_prepares ps more)

run_named : (f : ℕ → ℕ) (i : Instr) → InstrIsNamed i → RunIsNoBit (run_of f i)
run_named f (Does None w o) h = record { prepares = tt; acts = aimed_acts f [] (op_code_of w) o h }
run_named f (Does (Some n) w o) h = record { prepares = (tt, tt); acts = aimed_acts f _ (op_code_of w) o h }
run_named f (Jumps how to) h = record { prepares = tt; acts = tt }
run_named f (JumpsByList targets otherwise) h = record { prepares = tt; acts = tt }
run_named f (Calls how id instance passings) h = record { prepares = passing_prepares passings h.1; acts = h.0 }
run_named f (Returns how) h = record { prepares = tt; acts = tt }

runs_named : (f : ℕ → ℕ) (ss : List SourceInstruction) → AllNamed ss → AllByRecursion RunIsNoBit (map (λ s. run_of f s.instr) ss)
runs_named f [] h = tt
runs_named f (s ∷ ss) (one, more) = (run_named f s.instr one, runs_named f ss more)

compiled_named : (bs : List StatedBlock) → AllByRecursion BlockIsNamed bs → AllByRecursion (λ b. AllByRecursion RunIsNoBit (runs b.code)) (map compiled_block bs)
compiled_named [] h = tt
compiled_named (b ∷ bs) (one, more) =
    (subst (λ (rs : List StatementOps). AllByRecursion RunIsNoBit rs) (sym (runs_found b.statements)) (runs_named (statement_offset b.statements) b.statements one), compiled_named bs more)

pub program_named : (t : Tree) (symbols : List Symbol) (layouts : List BlockLayout) → AreNoBits symbols → AllByRecursion IsBlock t.blocks → AllByRecursion BlockIsNoBit t.blocks
    → AllByRecursion (λ b. AllByRecursion RunIsNoBit (runs b.code)) (map compiled_block (code_blocks_of t symbols layouts))
unfolding code_blocks_of
program_named t symbols layouts no_bit are no_bits =
    compiled_named (code_blocks_of t symbols layouts)
    (all_sorted BlockIsNamed is_code_before (each_block (λ c b l. code_block_of c b l l.id) (first_context symbols layouts t.blocks) t.blocks layouts)
    (blocks_named (first_context symbols layouts t.blocks) t.blocks layouts no_bit are no_bits))
