-- A statement of a source that opens a data block acts on a place in it.
use Rattle.std.proofs.Common.{◌≡◌, ℕ, suc, true, List, [], ◌∷◌, map, Option, Some, None, refl, sym, subst}
use Rattle.std.specs.Prelude.{if◌then◌else◌}
use Rattle.std.specs.List.{AllByRecursion}
use Rattle.std.proofs.lemmas.Bool.{and_parts, cond_both, false≢true}
use Rattle.plc_base.proofs.ListLemmas.{all_append}
use Rattle.plc_base.specs.Kinds.{is_code}
use Rattle.plc_base.specs.declared.blocks.BlockId.{BlockId}
use Rattle.plc_base.specs.declared.places.Area.TheVariants as area
use Rattle.plc_base.specs.declared.places.Area.{Area}
use Rattle.plc_base.specs.declared.places.Place.{Place}
use Rattle.plc_base.specs.declared.places.Width.{Width}
use Rattle.flat_code.specs.Instr.{Calls, Does, Instr, Jumps, JumpsByList, Passing, Returns}
use Rattle.flat_code.specs.declared.kinds.JumpOperation.TheVariants as jump
use Rattle.flat_code.specs.declared.kinds.JumpOperation.{JumpOperation}
use Rattle.flat_code.specs.declared.operands.Operand.TheVariants as flat
use Rattle.flat_code.specs.declared.operands.Operand.{Operand as FlatOperand}
use Rattle.flat_code.specs.declared.operands.Passed.TheVariants as passed
use Rattle.flat_code.specs.declared.operations.CallOperation.{CallOperation}
use Rattle.flat_code.specs.declared.operations.EndOperation.{EndOperation}
use Rattle.stl_ast.specs.Statements.{is_empty_statement}
use Rattle.stl_ast.specs.declared.blocks.Block.{Block}
use Rattle.stl_ast.specs.declared.operands.Operand.{Operand}
use Rattle.stl_ast.specs.declared.statements.Actual.{Actual}
use Rattle.stl_ast.specs.declared.statements.Statement.{Statement}
use Rattle.block_layout.specs.declared.blocks.BlockLayout.{BlockLayout}
use Rattle.stl_types.specs.Bodies.{first_context}
use Rattle.stl_types.specs.Context.{Context}
use Rattle.stl_types.specs.Parameters.{Callee, callee_of}
use Rattle.stl_types.specs.Resolution.{resolution_of}
use Rattle.stl_types.specs.ResolvedStatement.{resolved_operand}
use Rattle.stl_types.specs.declared.parameters.Formal.{Formal}
use Rattle.stl_types.specs.declared.resolved_operands.Resolution.TheVariants.{Resolved}
use Rattle.stl_types.specs.declared.resolved_operands.Resolution.{Resolution}
use Rattle.stl_types.specs.declared.resolved_operands.ResolvedOperand.TheVariants as resolved
use Rattle.stl_types.specs.declared.resolved_operands.ResolvedOperand.{ResolvedOperand}
use Rattle.stl_codegen.specs.CompiledBlock.{SourceInstruction, StatedBlock, operand_with_target, compiled_block}
use Rattle.stl_codegen.specs.EmittedOps.{pass_ops}
use Rattle.stl_codegen.specs.GeneratedProgram.{code_block, code_block_of, code_blocks_of, each_block, return_statement, instructions_from, statements_of}
use Rattle.stl_codegen.specs.Instruction.{source_block_at, call_instr, end_instr, in_parameter_order, instr_by, instruction, jump_instr, passings_to, resolved_instr, target_of, operand_instr}
use Rattle.stl_codegen.specs.Operands.{is_db, is_in_named_block, block_opened_by_operand, flat_operand_of}
use Rattle.stl_codegen.specs.Operations.{call_operation_of, end_operation_of, jump_operation_of}
use Rattle.stl_codegen.specs.Order.{is_code_before}
use Rattle.stl_codegen.specs.PassedParameters.{passed_actual, passed_place, passed_resolution, passed_by_operand, passings_from, actual_of_formal, with_index}
use Rattle.stl_list.specs.Runs.{runs}
use Rattle.listing_laws.proofs.BlockLemmas.{all_sorted}
use Rattle.listing_laws.proofs.NameLemmas.{either_way}
use Rattle.listing_laws.proofs.RunLemmas.{runs_found}
use Rattle.listing_laws.specs.Bodies.{IsOpenedIn}
use Rattle.listing_laws.specs.OpenedBlocks.{ActsInOpened, AreOpenedRight, OpensRight, PassesInOpened, PreparesInOpened}
use Rattle.listing_laws.specs.Statements.{statement_offset, run_of}

-- ---- places

area_is : (a : Area) → is_db a ≡ true → a ≡ area.Db
area_is area.Db h = refl
area_is _ h = absurd (false≢true h)

acts_freely : (o : FlatOperand) → ActsInOpened None o
acts_freely (flat.Direct a w byte bit) = tt
acts_freely _ = tt

place_acts : (place : Place) → IsOpenedIn (if is_in_named_block place then Some place.number else None) place.area
place_acts place = cond_both (is_in_named_block place) (Some place.number) None (λ o. IsOpenedIn o place.area) (λ e. area_is place.area (and_parts (is_db place.area) _ e).0) (λ e. tt)

view_acts : (o : Operand) (v : ResolvedOperand) → ActsInOpened (block_opened_by_operand v) (flat_operand_of o v)
unfolding flat_operand_of
view_acts o (resolved.Direct place width side declared) = place_acts place
view_acts o (resolved.NumberBy what from byte) = acts_freely _
view_acts o (resolved.Register which) = acts_freely _
view_acts o _ = tt

passed_in : (place : Place) (w : Width) → PassesInOpened (passed_place place w)
passed_in place w =
    cond_both (is_in_named_block place) (passed.InBlock place.number place.area w place.byte place.bit) (passed.Direct place.area w place.byte place.bit) PassesInOpened
    (λ e. area_is place.area (and_parts (is_db place.area) _ e).0) (λ e. tt)

-- ---- instructions

abbrev ArePassedIn : List Passing → Type 0
ArePassedIn ps = AllByRecursion (λ p. PassesInOpened p.actual) ps

abbrev OpensInstr : Instr → Type 0
OpensInstr (Does use_db w o) = ActsInOpened use_db o
OpensInstr (Calls how block instance passings) = ArePassedIn passings
OpensInstr _ = Unit {0}

indexed_in : (index : ℕ) (o : Operand) (v : ResolvedOperand) → ArePassedIn (with_index index (passed_by_operand o v))
indexed_in index o (resolved.Direct place width side declared) = (passed_in place width, tt)
indexed_in index o (resolved.Parameter own section declared) = (tt, tt)
indexed_in index o resolved.Constant = (tt, tt)
indexed_in index o _ = tt

seen_in : (index : ℕ) (o : Operand) (r : Resolution) → ArePassedIn (with_index index (passed_resolution o r))
seen_in index o (Resolved v) = indexed_in index o v
seen_in index o _ = tt

actual_in : (c : Context) (index : ℕ) (a : Option Actual) → ArePassedIn (passed_actual c index a)
actual_in c index None = tt
actual_in c index (Some a) = seen_in index a.value (resolution_of c a.value)

passings_in : (c : Context) (actuals : List Actual) (index : ℕ) (fs : List Formal) → ArePassedIn (passings_from c actuals index fs)
passings_in c actuals index [] = tt
passings_in c actuals index (f ∷ fs) =
    all_append (λ p. PassesInOpened p.actual) (passed_actual c index (actual_of_formal actuals f)) (passings_from c actuals (suc index) fs) (actual_in c index (actual_of_formal actuals f)) (passings_in c actuals (suc index) fs)

callee_in : (c : Context) (s : Statement) (o : Option Callee) → ArePassedIn (passings_to c s o)
callee_in c s None = tt
callee_in c s (Some callee) = passings_in c s.actuals 0 (in_parameter_order (source_block_at c.blocks callee.place) callee.formals)

call_opens : (c : Context) (s : Statement) (how : CallOperation) (v : ResolvedOperand) → OpensInstr (call_instr c s how v)
call_opens c s how (resolved.Called id instance) = callee_in c s (callee_of c s.operand)
call_opens c s how _ = tt

end_opens : (s : Statement) (v : ResolvedOperand) (how : Option EndOperation) → OpensInstr (end_instr s v how)
end_opens s v None = view_acts s.operand v
end_opens s v (Some how) = tt

view_opens : (c : Context) (s : Statement) (v : ResolvedOperand) (how : Option CallOperation) → OpensInstr (operand_instr c s v how)
view_opens c s v None = end_opens s v (end_operation_of s.code)
view_opens c s v (Some how) = call_opens c s how v

jump_opens : (how : JumpOperation) (n target : ℕ) → OpensInstr (jump_instr how n target)
jump_opens jump.Jl n target = tt
jump_opens _ n target = tt

resolved_opens : (c : Context) (s : Statement) (o : Option ResolvedOperand) → OpensInstr (resolved_instr c s o)
resolved_opens c s None = tt
resolved_opens c s (Some v) = view_opens c s v (call_operation_of s.code)

instr_opens : (c : Context) (body : List Statement) (n : ℕ) (s : Statement) → OpensInstr (instruction c body n s)
unfolding instruction
instr_opens c body n s = by (jump_operation_of s.code) where
  by : (how : Option JumpOperation) → OpensInstr (instr_by c body n s how)
  by None = resolved_opens c s (resolved_operand c s)
  by (Some how) = jump_opens how n (target_of body s.operand)

-- ---- blocks

abbrev AllOpen : List SourceInstruction → Type 0
AllOpen ss = AllByRecursion (λ s. OpensInstr s.instr) ss

stated_open : (c : Context) (body : List Statement) (n : ℕ) (ss : List Statement) → AllOpen (instructions_from c body n ss)
stated_open c body n [] = tt
stated_open c body n (s ∷ ss) =
    either_way AllOpen (is_empty_statement s.code) (instructions_from c body n ss) (record { instr = instruction c body n s; line = s.line } ∷ instructions_from c body (suc n) ss)
    (stated_open c body n ss) (instr_opens c body n s, stated_open c body (suc n) ss)

statements_open : (c : Context) (b : Block) → AllOpen (statements_of c b)
unfolding statements_of
statements_open c b = all_append (λ s. OpensInstr s.instr) (instructions_from c b.body 0 b.body) (return_statement b ∷ []) (stated_open c b.body 0 b.body) (tt, tt)

abbrev IsOpen : StatedBlock → Type 0
IsOpen b = AllOpen b.statements

block_open : (c : Context) (b : Block) (l : BlockLayout) (id : Option BlockId) → AllByRecursion IsOpen (code_block_of c b l id)
block_open c b l None = tt
block_open c b l (Some id) = either_way (λ l. AllByRecursion IsOpen l) (is_code id.kind) (code_block c b l id ∷ []) [] (statements_open c b, tt) tt

blocks_open : (c : Context) (bs : List Block) (ls : List BlockLayout) → AllByRecursion IsOpen (each_block (λ c b l. code_block_of c b l l.id) c bs ls)
blocks_open c [] ls = tt
blocks_open c (b ∷ bs) [] = tt
blocks_open c (b ∷ bs) (l ∷ ls) = all_append IsOpen (code_block_of c b l l.id) _ (block_open c b l l.id) (blocks_open (record c { block = suc c.block }) bs ls)

-- ---- runs

aimed_acts : (f : ℕ → ℕ) (opened : Option ℕ) (o : FlatOperand) → ActsInOpened opened o → ActsInOpened opened (operand_with_target f o)
aimed_acts f opened (flat.Jump kind target) h = tt
aimed_acts f opened _ h = h

passing_in : (ps : List Passing) → ArePassedIn ps → AllByRecursion (λ op. PreparesInOpened op.operand) (pass_ops ps)
passing_in [] h = tt
passing_in (p ∷ ps) (one, more) = (one, passing_in ps more)

run_opens : (f : ℕ → ℕ) (i : Instr) → OpensInstr i → OpensRight (run_of f i)
run_opens f (Does None w o) h = record { acts = aimed_acts f None o h; prepares = tt }
run_opens f (Does (Some n) w o) h = record { acts = aimed_acts f (Some n) o h; prepares = (tt, tt) }
run_opens f (Jumps how target) h = record { acts = tt; prepares = tt }
run_opens f (JumpsByList targets otherwise) h = record { acts = tt; prepares = tt }
run_opens f (Calls how block instance passings) h = record { acts = tt; prepares = passing_in passings h }
run_opens f (Returns how) h = record { acts = tt; prepares = tt }

runs_open : (f : ℕ → ℕ) (ss : List SourceInstruction) → AllOpen ss → AllByRecursion OpensRight (map (λ s. run_of f s.instr) ss)
runs_open f [] h = tt
runs_open f (s ∷ ss) (one, more) = (run_opens f s.instr one, runs_open f ss more)

compiled_open : (bs : List StatedBlock) → AllByRecursion IsOpen bs → AllByRecursion (λ b. AllByRecursion OpensRight (runs b.code)) (map compiled_block bs)
compiled_open [] h = tt
compiled_open (b ∷ bs) (one, more) =
    (subst (λ rs. AllByRecursion OpensRight rs) (sym (runs_found b.statements)) (runs_open (statement_offset b.statements) b.statements one), compiled_open bs more)

pub opened_right : AreOpenedRight
unfolding code_blocks_of
opened_right t symbols layouts =
    compiled_open (code_blocks_of t symbols layouts)
    (all_sorted IsOpen is_code_before (each_block (λ c b l. code_block_of c b l l.id) (first_context symbols layouts t.blocks) t.blocks layouts)
    (blocks_open (first_context symbols layouts t.blocks) t.blocks layouts))
