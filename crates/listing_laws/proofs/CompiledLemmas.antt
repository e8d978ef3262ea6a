-- A compiled program has offsets to address registers that its source wrote.
use Rattle.std.proofs.Common.{ℕ, suc, ◌*◌, ◌/◌, ◌<◌, Bool, true, false, leb, List, [], ◌∷◌, ◌++◌, length, map, Option, Some, None}
use Rattle.std.specs.Prelude.{MatchOption, slice_get, if◌then◌else◌}
use Rattle.std.specs.List.{AllByRecursion}
use Rattle.plc_base.proofs.ListLemmas.{all_append}
use Rattle.plc_base.specs.Folding.{upper_case_name}
use Rattle.plc_base.specs.Kinds.{is_code}
use Rattle.plc_base.specs.declared.blocks.BlockId.{BlockId}
use Rattle.plc_base.specs.declared.places.Area.{Area}
use Rattle.plc_base.specs.declared.places.Area.TheVariants as area
use Rattle.plc_base.specs.declared.places.Width.{Width}
use Rattle.flat_code.specs.Instr.{Calls, Does, Instr, Jumps, JumpsByList, Passing, Returns}
use Rattle.flat_code.specs.Ops.{OpData}
use Rattle.flat_code.specs.declared.operands.Operand.TheVariants as flat
use Rattle.flat_code.specs.declared.operands.Operand.{Operand as FlatOperand}
use Rattle.flat_code.specs.declared.operations.CallOperation.{CallOperation}
use Rattle.flat_code.specs.declared.operations.EndOperation.{EndOperation}
use Rattle.flat_code.specs.declared.kinds.JumpOperation.{JumpOperation}
use Rattle.flat_code.specs.declared.kinds.JumpOperation.TheVariants as jump
use Rattle.stl_ast.specs.Operands.{IsOperand}
use Rattle.stl_ast.specs.Statements.{IsStatement, is_empty_statement}
use Rattle.stl_ast.specs.WellFormed.{IsBlock}
use Rattle.stl_ast.specs.declared.blocks.Block.{Block}
use Rattle.stl_ast.specs.declared.blocks.PathStep.{PathStep}
use Rattle.stl_ast.specs.declared.declarations.Simple.{Simple}
use Rattle.stl_ast.specs.declared.names.BlockName.{BlockName}
use Rattle.stl_ast.specs.declared.operands.Letters.{Letters}
use Rattle.stl_ast.specs.declared.operands.Numbered.TheVariants as numbered
use Rattle.stl_ast.specs.declared.operands.Operand.{Operand}
use Rattle.stl_ast.specs.declared.operands.Operand.TheVariants as operand
use Rattle.stl_ast.specs.declared.operands.PathHead.{PathHead}
use Rattle.stl_ast.specs.declared.operands.PathHead.TheVariants as head
use Rattle.stl_ast.specs.declared.statements.Statement.{Statement}
use Rattle.stl_symbols.specs.Symbol.{Symbol, symbol_named}
use Rattle.stl_symbols.specs.declared.targets.Target.{Target}
use Rattle.stl_symbols.specs.declared.targets.Target.TheVariants as target
use Rattle.block_layout.specs.Blocks.{named_block}
use Rattle.block_layout.specs.Offsets.{place_at, elementary_place, width_of}
use Rattle.block_layout.specs.Paths.{cells_at, elementary_at, folded_path, path_end_in_data_block, path_end_of_local}
use Rattle.block_layout.specs.declared.blocks.BlockLayout.{BlockLayout}
use Rattle.block_layout.specs.declared.cells.Cell.{Cell}
use Rattle.block_layout.specs.declared.cells.Element.{Element}
use Rattle.block_layout.specs.declared.cells.Element.TheVariants as element
use Rattle.block_layout.specs.declared.path_ends.ComponentAt.{ComponentAt}
use Rattle.block_layout.specs.declared.path_ends.PathEnd.{PathEnd}
use Rattle.block_layout.specs.declared.path_ends.PathEnd.TheVariants as path_end
use Rattle.stl_types.specs.Addresses.{address_in_block}
use Rattle.stl_types.specs.Bodies.{first_context}
use Rattle.stl_types.specs.Context.{Context, data_number, data_place, in_function}
use Rattle.stl_types.specs.Resolution.{resolution_of_call, resolution_of_address, instance_number, resolution_of_opened_block, resolution_of_path, resolution_of, resolution_of_symbol, resolved_target, whole_called_block}
use Rattle.stl_types.specs.ResolvedStatement.{resolved_operand, operand_if_resolved}
use Rattle.stl_types.specs.Variables.{composite_operand, data_at, data_path, data_variable, data_at_path_end, date_or_composite, variable_in_area, is_temporary_variable, own_at, own_elementary, own_variable, own_at_path_end, parameter_resolution, parameter_at, parameter_index}
use Rattle.stl_types.specs.declared.resolved_operands.Register.TheVariants as register
use Rattle.stl_types.specs.declared.resolved_operands.Resolution.{Resolution}
use Rattle.stl_types.specs.declared.resolved_operands.Resolution.TheVariants as resolution
use Rattle.stl_types.specs.declared.resolved_operands.Resolution.TheVariants.{Resolved}
use Rattle.stl_types.specs.declared.resolved_operands.ResolvedOperand.{ResolvedOperand}
use Rattle.stl_types.specs.declared.resolved_operands.ResolvedOperand.TheVariants as resolved
use Rattle.stl_codegen.specs.CompiledBlock.{SourceInstruction, StatedBlock, operand_with_target, op_with_target, compiled_block, offset_of_statement, ops_in, placed_ops}
use Rattle.stl_codegen.specs.EmittedOps.{call_op, ops_of, pass_ops}
use Rattle.stl_codegen.specs.GeneratedProgram.{code_block, code_block_of, code_blocks_of, each_block, instructions_from, statements_of}
use Rattle.stl_codegen.specs.Instruction.{call_instr, end_instr, instr_by, instruction, jump_instr, resolved_instr, target_of, operand_instr}
use Rattle.stl_codegen.specs.Operations.{call_operation_of, end_operation_of, jump_operation_of}
use Rattle.stl_codegen.specs.Operands.{flat_operand_of}
use Rattle.stl_codegen.specs.Order.{is_code_before}
use Rattle.listing_laws.proofs.BlockLemmas.{all_sorted}
use Rattle.listing_laws.proofs.NameLemmas.{either_way}
use Rattle.listing_laws.specs.Ranges.{AreCompiledWritten, IsOffsetWritable, IsWrittenBlock}

-- ---- what operands name

-- an offset that a pointer constant writes
abbrev IsShort : ResolvedOperand → Type 0
IsShort (resolved.ByRegister a w r bits) = bits < 8 * 65536
IsShort _ = Unit {0}

abbrev SeenShort : Resolution → Type 0
SeenShort (Resolved v) = IsShort v
SeenShort _ = Unit {0}

in_area_short : (kind : Simple) (a : Area) (n bits : ℕ) → SeenShort (variable_in_area kind (elementary_place a n bits (Some kind)))
in_area_short kind a n bits = by (leb (bits / 8) 65535) where
  by : (b : Bool) → SeenShort (variable_in_area kind (if b then Some (place_at a n bits, width_of kind) else None))
  by true = tt
  by false = tt

composite_short : (found : Option Cell) → IsShort (composite_operand found)
composite_short None = tt
composite_short (Some c) = of_ c.of where
  of_ : (e : Element) → IsShort (date_or_composite e)
  of_ element.DateAndTime = tt
  of_ _ = tt

parameter_short : (c : Context) (component : ComponentAt) (kind : Simple) → SeenShort (parameter_at c component kind)
parameter_short c component kind = by (slice_get (cells_at c.layouts c.block false) component.place) where
  by : (found : Option Cell) → SeenShort (parameter_resolution (parameter_index (length (cells_at c.layouts c.block false)) component.place (slice_get c.blocks c.block)) kind found)
  by None = tt
  by (Some cell) = tt

own_elementary_short : (c : Context) (temporary : Bool) (component : ComponentAt) (kind : Simple) → SeenShort (own_elementary c temporary component kind)
own_elementary_short c true component kind = in_area_short kind area.L 0 component.offset
own_elementary_short c false component kind =
    either_way SeenShort (in_function c) (parameter_at c component kind) (variable_in_area kind (elementary_place area.Di 0 component.offset (Some kind))) (parameter_short c component kind) (in_area_short kind area.Di 0 component.offset)

own_short : (c : Context) (name : List ℕ) (steps : List PathStep) → SeenShort (own_variable c name steps)
own_short c name steps = by (path_end_of_local c.layouts c.block name steps) where
  by : (w : PathEnd) → SeenShort (own_at_path_end c (is_temporary_variable c name) w)
  by path_end.Unknown = tt
  by path_end.Unjudged = tt
  by (path_end.Reaches component) = at (elementary_at c.layouts component) where
    at : (kind : Option Simple) → SeenShort (own_at c (is_temporary_variable c name) component kind)
    at None = composite_short (slice_get (cells_at c.layouts component.block component.temporary) component.place)
    at (Some kind) = own_elementary_short c (is_temporary_variable c name) component kind

data_walk_short : (c : Context) (n : ℕ) (w : PathEnd) → SeenShort (data_at_path_end c n w)
data_walk_short c n path_end.Unknown = tt
data_walk_short c n path_end.Unjudged = tt
data_walk_short c n (path_end.Reaches component) = at (elementary_at c.layouts component) where
  at : (kind : Option Simple) → SeenShort (data_at c n component kind)
  at None = composite_short (slice_get (cells_at c.layouts component.block component.temporary) component.place)
  at (Some kind) = in_area_short kind area.Db n component.offset

data_short : (c : Context) (name : BlockName) (steps : List PathStep) → SeenShort (data_variable c name steps)
data_short c name steps = by (data_number c name) (data_place c name) where
  by : (n place : Option ℕ) → SeenShort (data_path c steps n place)
  by None place = tt
  by (Some n) None = tt
  by (Some n) (Some block) = data_walk_short c n (path_end_in_data_block c.layouts block steps)

target_short : (t : Target) → IsShort (resolved_target t)
target_short (target.Variable place w) = tt
target_short (target.Timer n) = tt
target_short (target.Counter n) = tt
target_short (target.Block id) = tt

path_short : (c : Context) (p : PathHead) (steps : List PathStep) → SeenShort (resolution_of_path c p steps)
path_short c (head.Local name) steps = own_short c (upper_case_name name) (folded_path steps)
path_short c (head.InBlock name) steps = data_short c name (folded_path steps)
path_short c (head.Symbol name) steps = by (symbol_named name c.symbols) where
  by : (found : Option Symbol) → SeenShort (resolution_of_symbol found)
  by None = tt
  by (Some s) = target_short s.target

direct_short : (c : Context) (name : Option BlockName) (a : Letters) (w : Width) (byte bit : ℕ) → SeenShort (resolution_of_address c name a w byte bit)
direct_short c None a w byte bit = tt
direct_short c (Some name) a w byte bit = by (data_number c name) where
  by : (n : Option ℕ) → SeenShort (address_in_block n a w byte bit)
  by None = tt
  by (Some n) = tt

opened_short : (di : Bool) (n : Option ℕ) → SeenShort (resolution_of_opened_block di n)
opened_short di None = tt
opened_short di (Some n) = tt

called_short : (id : Option BlockId) (name : Option BlockName) (instance : Option ℕ) → SeenShort (resolution_of_call id name instance)
called_short None name instance = tt
called_short (Some id) None instance = tt
called_short (Some id) (Some name) None = tt
called_short (Some id) (Some name) (Some n) = tt

seen_short : (c : Context) (o : Operand) → IsOperand o → SeenShort (resolution_of c o)
unfolding resolution_of
seen_short c (operand.ByRegister a w r bits) is = is.1
seen_short c (operand.Direct name a w byte bit) is = direct_short c name a w byte bit
seen_short c (operand.Named path steps) is = path_short c path steps
seen_short c (operand.OpenBlock di name) is = opened_short di (data_number c name)
seen_short c (operand.Called name instance) is = called_short (whole_called_block c (named_block c.symbols name)) instance (instance_number c instance)
seen_short c _ is = tt

-- ---- instructions

abbrev AreWritten : List OpData → Type 0
AreWritten ops = AllByRecursion (λ op. IsOffsetWritable op.operand) ops

abbrev IsWrittenInstr : Instr → Type 0
IsWrittenInstr (Does use_db w o) = IsOffsetWritable o
IsWrittenInstr _ = Unit {0}

operand_written : (o : Operand) (v : ResolvedOperand) → IsShort v → IsOffsetWritable (flat_operand_of o v)
unfolding flat_operand_of
operand_written o (resolved.ByRegister a w r bits) h = h
operand_written o (resolved.NumberBy numbered.Timer from byte) h = tt
operand_written o (resolved.NumberBy numbered.Counter from byte) h = tt
operand_written o (resolved.NumberBy numbered.Db from byte) h = tt
operand_written o (resolved.NumberBy numbered.Di from byte) h = tt
operand_written o (resolved.Register register.Dblg) h = tt
operand_written o (resolved.Register register.Dbno) h = tt
operand_written o (resolved.Register register.Dilg) h = tt
operand_written o (resolved.Register register.Dino) h = tt
operand_written o (resolved.Register _) h = tt
operand_written o _ h = tt

end_written : (s : Statement) (v : ResolvedOperand) (how : Option EndOperation) → IsShort v → IsWrittenInstr (end_instr s v how)
end_written s v None h = operand_written s.operand v h
end_written s v (Some how) h = tt

call_written : (c : Context) (s : Statement) (how : CallOperation) (v : ResolvedOperand) → IsWrittenInstr (call_instr c s how v)
call_written c s how (resolved.Called id instance) = tt
call_written c s how _ = tt

view_written : (c : Context) (s : Statement) (v : ResolvedOperand) (how : Option CallOperation) → IsShort v → IsWrittenInstr (operand_instr c s v how)
view_written c s v None h = end_written s v (end_operation_of s.code) h
view_written c s v (Some how) h = call_written c s how v

jump_written : (how : JumpOperation) (n to : ℕ) → IsWrittenInstr (jump_instr how n to)
jump_written jump.Jl n to = tt
jump_written _ n to = tt

abbrev IsShortOrNone : Option ResolvedOperand → Type 0
IsShortOrNone o = MatchOption o (Unit {0}) IsShort

view_short : (r : Resolution) → SeenShort r → IsShortOrNone (operand_if_resolved r)
view_short (Resolved v) h = h
view_short resolution.Unknown h = tt
view_short _ h = tt

resolved_short : (c : Context) (s : Statement) → IsOperand s.operand → IsShortOrNone (resolved_operand c s)
unfolding resolved_operand
resolved_short c s is = either_way IsShortOrNone _ (operand_if_resolved (resolution_of c s.operand)) None (view_short (resolution_of c s.operand) (seen_short c s.operand is)) tt

resolved_written : (c : Context) (s : Statement) (o : Option ResolvedOperand) → IsShortOrNone o → IsWrittenInstr (resolved_instr c s o)
resolved_written c s None h = tt
resolved_written c s (Some v) h = view_written c s v (call_operation_of s.code) h

instr_written : (c : Context) (body : List Statement) (n : ℕ) (s : Statement) → IsOperand s.operand → IsWrittenInstr (instruction c body n s)
unfolding instruction
instr_written c body n s is = by (jump_operation_of s.code) where
  by : (how : Option JumpOperation) → IsWrittenInstr (instr_by c body n s how)
  by None = resolved_written c s (resolved_operand c s) (resolved_short c s is)
  by (Some how) = jump_written how n (target_of body s.operand)

-- ---- ops

passing_written : (ps : List Passing) (more : List OpData) → AreWritten more → AreWritten (pass_ops ps ++ more)
passing_written [] more h = h
passing_written (p ∷ ps) more h = (tt, passing_written ps more h)

ops_written : (i : Instr) → IsWrittenInstr i → AreWritten (ops_of i)
unfolding ops_of
ops_written (Does None w o) h = (h, tt)
ops_written (Does (Some n) w o) h = (tt, (h, tt))
ops_written (Jumps how to) h = (tt, tt)
ops_written (JumpsByList targets otherwise) h = (tt, tt)
ops_written (Calls how id instance passings) h = passing_written passings (call_op how id instance ∷ []) (tt, tt)
ops_written (Returns how) h = (tt, tt)

aimed_written : (f : ℕ → ℕ) (o : FlatOperand) → IsOffsetWritable o → IsOffsetWritable (operand_with_target f o)
aimed_written f (flat.Jump kind to) h = tt
aimed_written f (flat.ByRegister a w r bits) h = h
aimed_written f _ h = tt

placed_written : (f : ℕ → ℕ) (ops : List OpData) → AreWritten ops → AreWritten (map (op_with_target f) ops)
placed_written f [] h = tt
placed_written f (op ∷ ops) (one, more) = (aimed_written f op.operand one, placed_written f ops more)

-- ---- blocks

abbrev IsWrittenStated : SourceInstruction → Type 0
IsWrittenStated s = IsWrittenInstr s.instr

all_ops : (ss : List SourceInstruction) → AllByRecursion IsWrittenStated ss → AreWritten (ops_in ss)
all_ops [] h = tt
all_ops (s ∷ ss) (one, more) = all_append (λ op. IsOffsetWritable op.operand) (ops_of s.instr) (ops_in ss) (ops_written s.instr one) (all_ops ss more)

stated_written : (c : Context) (body : List Statement) (n : ℕ) (ss : List Statement) → AllByRecursion IsStatement ss → AllByRecursion IsWrittenStated (instructions_from c body n ss)
stated_written c body n [] h = tt
stated_written c body n (s ∷ ss) (one, more) =
    either_way (λ l. AllByRecursion IsWrittenStated l) (is_empty_statement s.code) (instructions_from c body n ss) (record { instr = instruction c body n s; line = s.line } ∷ instructions_from c body (suc n) ss)
    (stated_written c body n ss more) (instr_written c body n s one.value, stated_written c body (suc n) ss more)

statements_written : (c : Context) (b : Block) → IsBlock b → AllByRecursion IsWrittenStated (statements_of c b)
unfolding statements_of
statements_written c b is = all_append IsWrittenStated (instructions_from c b.body 0 b.body) _ (stated_written c b.body 0 b.body is.runs.0) (tt, tt)

abbrev IsWrittenStatedBlock : StatedBlock → Type 0
IsWrittenStatedBlock b = AllByRecursion IsWrittenStated b.statements

block_written : (c : Context) (b : Block) (l : BlockLayout) (id : Option BlockId) → IsBlock b → AllByRecursion IsWrittenStatedBlock (code_block_of c b l id)
block_written c b l None is = tt
block_written c b l (Some id) is =
    either_way (λ l. AllByRecursion IsWrittenStatedBlock l) (is_code id.kind) (code_block c b l id ∷ []) [] (statements_written c b is, tt) tt

blocks_written : (c : Context) (bs : List Block) (ls : List BlockLayout) → AllByRecursion IsBlock bs → AllByRecursion IsWrittenStatedBlock (each_block (λ c b l. code_block_of c b l l.id) c bs ls)
blocks_written c [] ls h = tt
blocks_written c (b ∷ bs) [] h = tt
blocks_written c (b ∷ bs) (l ∷ ls) (one, more) =
    all_append IsWrittenStatedBlock (code_block_of c b l l.id) _ (block_written c b l l.id one) (blocks_written (record c { block = suc c.block }) bs ls more)

compiled_written : (bs : List StatedBlock) → AllByRecursion IsWrittenStatedBlock bs → AllByRecursion IsWrittenBlock (map compiled_block bs)
unfolding placed_ops
compiled_written [] h = tt
compiled_written (b ∷ bs) (one, more) = (placed_written (offset_of_statement (ops_in b.statements)) (ops_in b.statements) (all_ops b.statements one), compiled_written bs more)

pub written_compiled : AreCompiledWritten
unfolding code_blocks_of
written_compiled t symbols layouts h =
    compiled_written (code_blocks_of t symbols layouts)
    (all_sorted IsWrittenStatedBlock is_code_before (each_block (λ c b l. code_block_of c b l l.id) (first_context symbols layouts t.blocks) t.blocks layouts)
    (blocks_written (first_context symbols layouts t.blocks) t.blocks layouts h))
