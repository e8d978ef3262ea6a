-- What comes of a statement of an activation that fits, by its instruction: it fits again.
use Rattle.std.proofs.Common.{◌≡◌, ◌∙◌, ◌⊎◌, inl, inr, ◌+◌, ◌%◌, ◌^◌, ℕ, zero, suc, Bool, true, false, cond, eqb, ltb, not, ◌&&◌, ◌||◌, List, [], ◌∷◌, ◌++◌, length, map, slice_get, get_or, unwrap_or, Option, Some, None, Result, Ok, Err, refl, sym, ap, subst, arith}
use Rattle.std.proofs.lemmas.Bool.{and_parts, eqb-true, ne_eqb}
use Rattle.std.proofs.lemmas.List.{length-map, length-reverse}
use Rattle.std.proofs.lemmas.Option.{same_Some}
use Rattle.std.specs.Option.{option_map}
use Rattle.plc_base.specs.Kinds.{kind_number, kind_order}
use Rattle.plc_base.specs.declared.BlockId.{BlockId}
use Rattle.plc_base.specs.declared.blocks.BlockKind.{BlockKind}
use Rattle.plc_base.specs.declared.blocks.BlockKind.TheVariants as kinds
use Rattle.plc_mem.specs.Areas.{Areas}
use Rattle.status_word.specs.Brackets.{bracket_entry, bracket_begun}
use Rattle.status_word.specs.declared.Bracket.{Bracket}
use Rattle.plc_base.specs.declared.Check.{Check}
use Rattle.frames.specs.declared.Activation.{Activation}
use Rattle.frames.specs.declared.bindings.Binding.{Binding}
use Rattle.frames.specs.declared.bindings.Binding.TheVariants as binding
use Rattle.frames.specs.declared.frame.Frame.{Frame}
use Rattle.flat_code.specs.declared.image_fields.OpenBracket.{OpenBracket}
use Rattle.flat_code.specs.declared.kinds.JumpOperation.{JumpOperation}
use Rattle.flat_code.specs.declared.kinds.JumpOperation.TheVariants as jump
use Rattle.flat_code.specs.declared.kinds.TheConstants.{JUMPS}
use Rattle.flat_code.specs.declared.operands.Operand.{Operand}
use Rattle.flat_code.specs.declared.operands.Operand.TheVariants as operand
use Rattle.flat_code.specs.declared.programs.Param.{Param}
use Rattle.flat_code.specs.declared.operations.CallOperation.{CallOperation}
use Rattle.flat_code.specs.declared.operations.EndOperation.{EndOperation}
use Rattle.flat_code.specs.declared.operations.EndOperation.TheVariants as ends
use Rattle.flat_code.specs.declared.operations.CallOperation.TheVariants as calls
use Rattle.flat_code.specs.declared.operations.RelayOperation.{RelayOperation}
use Rattle.flat_code.specs.declared.operations.RelayOperation.TheVariants as relay
use Rattle.flat_code.specs.declared.table.OperandForms.{OperandForms}
use Rattle.flat_code.specs.declared.table.OperandForms.TheVariants as forms
use Rattle.flat_code.specs.declared.operations.TheConstants.{OPERATIONS}
use Rattle.flat_code.specs.declared.operations.Operation.{Operation}
use Rattle.flat_code.specs.declared.operations.Operation.TheVariants as operation
use Rattle.flat_code.specs.Blocks.{CalleeSignature, callee_among, callee_of_system, system_params, are_all_passed, is_bad_instance, is_short_instance, length_of_data, leads_to_target, is_ju_operand, is_in_db, prepares_statement, writes_operand}
use Rattle.flat_code.specs.Codes.{size_of_op}
use Rattle.flat_code.specs.Instr.{Instr, Does, Jumps, JumpsByList, Calls, Returns}
use Rattle.flat_code.specs.Kinds.{jump_of_number}
use Rattle.flat_code.specs.Loading.{Verifies, lens_of}
use Rattle.flat_code.specs.declared.image_fields.ParameterRecord.{ParameterRecord}
use Rattle.flat_code.specs.Forms.{kind_of_code, payload_fits}
use Rattle.flat_code.specs.Image.{param_of_record, record_of_param}
use Rattle.flat_code.specs.Ops.{OpData, is_op}
use Rattle.flat_code.specs.OpCodes.{op_code_of as op_code}
use Rattle.flat_code.specs.PlacedOps.{op_placed, bracket_codes, most_zones, last_op, is_empty_list as nothing}
use Rattle.flat_code.specs.Programs.{CodeBlock, Program}
use Rattle.flat_code.specs.Records.{section_in}
use Rattle.flat_code.specs.Table.{admits, is_jump_form, forms_of, forms_of_operation}
use Rattle.flat_code.specs.Operations.{operation_of}
use Rattle.image_file.specs.Readers.{is_same_id, block_by_id}
use Rattle.image_file.specs.VerifiedProgram.{FitsCall, FitsOperand, FitsPrepared, block_signatures}
use Rattle.machine.specs.DataBlocks.{is_block_loaded}
use Rattle.machine.specs.Effect.{on_local, operation_effect, with_db_opened, statement_effect}
use Rattle.machine.specs.Entering.{activation_continued_at}
use Rattle.machine.specs.Fitting.{HasInstance, IsBound, IsMemoryOf, OpenAt, codes_of}
use Rattle.machine.specs.Flat.{call_by_number, code_of, block_head_of, instance_named, instr_of, is_jl, jump_by_operation, list_of, list_with, most_listed, passings_of, use_db_of, use_db_first}
use Rattle.machine.specs.Jumps.{regs_after_jump, jump_goal, is_jump_taken, list_goal, rlo_tested}
use Rattle.machine.specs.ImageLaws.{ImageLaws}
use Rattle.machine.specs.Lasting.{FitsProgram, StepFitsAgain}
use Rattle.machine.specs.Nesting.{with_open_brackets, nesting_opened, nesting_closed, bracket_closed}
use Rattle.machine.specs.OpenBrackets.{check_named, checks_of, open_at, open_codes}
use Rattle.machine.specs.Relay.{opening_zone, ending_zone}
use Rattle.machine.specs.ExecState.{Local, ExecState, local_of, exec_state_of, with_local}
use Rattle.machine.specs.Places.{no_operand}
use Rattle.machine.specs.SystemCalls.{system_function}
use Rattle.machine.specs.Statement.{GlobalStore, Went, statement_step, instruction_step, continue_with, jump_step, is_return_made, is_call_made, regs_after_call_not_made, call_made, return_made, with_exec_state}
use Rattle.machine.proofs.BindingLemmas.{PassingsFit, bound_of}
use Rattle.machine.proofs.CallLemmas.{Caller, own_bound, function_lasts, function_block_lasts, going_fits, head_there}
use Rattle.machine.proofs.EntryLemmas.{AreParams, of_blocks, of_functions, passings_fit, all_among, instance_long}
use Rattle.machine.proofs.Errors.{IsKnownError, IfKnownError, IsSupplied, IsPlace, ParamHas, is_writing, goes_by_statement, HasRoom, Suits, effect_known, either_known, kind_none, zone_room, zone_there}
use Rattle.machine.proofs.Keeping.{IfDone, Keeps, KeepsOpen, codes_after, open_after_operation, does_with_keeps}
use Rattle.machine.proofs.Moving.{stands_of, frame_open, activation_follows}
use Rattle.machine.proofs.Ready.{IsCallable, callable_kind, kind_callable}
use Rattle.machine.proofs.ReturnLemmas.{returned_lasts}
use Rattle.machine.proofs.Systems.{function_called_lasts}
use Rattle.machine.proofs.Sizes.{same_sizes}
use Rattle.machine.proofs.OpenBehind.{is_other, nest_opens, opening_operation, two_or_four, behind_op, open_behind_op, opening_code, ending_code}
use Rattle.machine.proofs.Standing.{IsStatementStart, Statement, AllBefore, ends_here, none_before, statement_start_there, statement_there, next_start, target_start, next_op, op_here}

-- an activation that fits a program that verifies, and the statement at which it stands
pub record At (p : Program) (a : Activation) (w : GlobalStore) : Type 0 where
  pub verifies : Verifies p
  pub fits : FitsProgram p w.memory a
  pub here : Statement p a.running.frame.block a.running.frame.at (frame_open a.running.frame)

pub at_of : (l : ImageLaws) (p : Program) (a : Activation) (w : GlobalStore) → Verifies p → FitsProgram p w.memory a → At p a w
at_of l p a w verifies h =
    let f = a.running.frame in
    let was = stands_of (code_of p) (open_codes p) w.memory a h.fits in
    record {
      verifies = verifies;
      fits = h;
      here = statement_there l p f.block f.at (frame_open f) (statement_start_there p f.block f.at (frame_open f) verifies was.frame.open_brackets);
    }

-- ---- operations that end no block

abbrev pub is_be : Operation → Bool
is_be (operation.End ends.Be) = true
is_be _ = false

code_goes_on : (code : ℕ) → is_be (operation_of code) ≡ false → code ≡ op_code (operation.End ends.Be) → ⊥
unfolding operation_of
code_goes_on code h is = let e : true ≡ false = rw is at h in cc

-- behind a statement that ends no block, and opens and closes nothing, the next one stands
next_same :
    (l : ImageLaws) (p : Program) (a : Activation) (w : GlobalStore) (at : At p a w) (v : Operation)
    → operation_of at.here.run.last.code ≡ v → is_be v ≡ false → KeepsOpen v
    → IsStatementStart p a.running.frame.block at.here.run.next (frame_open a.running.frame)
next_same l p a w at v is goes quiet =
    let f = a.running.frame in
    subst (λ (held : OpenAt). IsStatementStart p f.block at.here.run.next held)
    (ap (λ (z : Operation). open_after_operation z (frame_open f)) is ∙ quiet (frame_open f))
    (next_start l p f.block f.at (frame_open f) at.here (code_goes_on at.here.run.last.code (ap is_be is ∙ goes)))

-- ---- instructions that touch no position

went_fits :
    (l : ImageLaws) (p : Program) (a : Activation) (w : GlobalStore) (at : At p a w) (v : Operation) (q : ExecState)
    → operation_of at.here.run.last.code ≡ v → is_be v ≡ false → Keeps v (exec_state_of a.running w.memory w.timers w.counters) q
    → FitsProgram p q.memory (activation_continued_at at.here.run.next q.local.regs (with_exec_state q a))
went_fits l p a w at v q is goes kept =
    let f = a.running.frame in
    let was = stands_of (code_of p) (open_codes p) w.memory a at.fits.fits in
    activation_follows l p w.memory q.memory a
    (record (with_local a.running q.local) { frame = record (with_local a.running q.local).frame { at = at.here.run.next } })
    kept.memory at.fits
    (record {
      block = refl;
      local_len = refl;
      bindings = kept.bindings;
      instance = kept.instance;
      db = kept.db was.frame.db was.frame.di;
      di = kept.di was.frame.db was.frame.di;
      held = open_after_operation v (frame_open f);
      statement_start = subst (λ (z : Operation). IsStatementStart p f.block at.here.run.next (open_after_operation z (frame_open f))) is
          (next_start l p f.block f.at (frame_open f) at.here (code_goes_on at.here.run.last.code (ap is_be is ∙ goes)));
      same = kept.held;
    }) kept.starts kept.len

-- what an error of an instruction says: its code, and that brackets and zones are as they were
pub record Erring (v : Operation) (code : ℕ) : Type 0 where
  -- the operation opens and closes no bracket and no zone
  pub quiet : KeepsOpen v
  -- the code is one that an error may have
  pub known : IsKnownError code

abbrev pub IfErring : Operation → Result ExecState ℕ → Type 0
IfErring v (Ok q) = Unit {0}
IfErring v (Err code) = Erring v code

does_lasts :
    (l : ImageLaws) (p : Program) (a : Activation) (w : GlobalStore) (at : At p a w) (v : Operation) (r : Result ExecState ℕ)
    → operation_of at.here.run.last.code ≡ v → is_be v ≡ false
    → IfDone (Keeps v (exec_state_of a.running w.memory w.timers w.counters)) r → IfErring v r
    → StepFitsAgain p w (continue_with r at.here.run.next a)
does_lasts l p a w at v (Ok q) is goes kept effect_erring = record { sizes = kept.memory; fits = went_fits l p a w at v q is goes kept }
does_lasts l p a w at v (Err code) is goes kept effect_erring =
    (effect_erring.known, going_fits l p w.memory a at.here.run.next a.running.regs at.fits (next_same l p a w at v is goes effect_erring.quiet))

-- ---- jumps

jump_lasts :
    (l : ImageLaws) (p : Program) (a : Activation) (w : GlobalStore) (at : At p a w) (how : JumpOperation) (kind target : ℕ)
    → operation_of at.here.run.last.code ≡ operation.Jump → at.here.run.last.operand ≡ operand.Jump kind target
    → StepFitsAgain p w (jump_step how target at.here.run.next a w)
jump_lasts l p a w at how kind target is operand_is = record { sizes = same_sizes w.memory; fits = by (is_jump_taken how a.running.regs) }
  where
    by : (taken : Bool) → FitsProgram p w.memory (activation_continued_at (jump_goal taken target at.here.run.next) (regs_after_jump how a.running.regs) a)
    by true =
        going_fits l p w.memory a target (regs_after_jump how a.running.regs) at.fits
        (target_start l p a.running.frame.block a.running.frame.at (frame_open a.running.frame) at.here kind target operand_is)
    by false =
        going_fits l p w.memory a at.here.run.next (regs_after_jump how a.running.regs) at.fits
        (next_same l p a w at operation.Jump is refl (λ held. refl))

-- ---- JL

-- only kind 1 is JL
abbrev only_one : ℕ → List JumpOperation → Bool
only_one from [] = true
only_one from (j ∷ js) = (not (is_jl j) || eqb from 1) && only_one (from + 1) js

jumps_known : only_one 0 JUMPS ≡ true
jumps_known = refl

jl_at : (from : ℕ) (js : List JumpOperation) (i : ℕ) → only_one from js ≡ true → is_jl (get_or js i jump.Ju) ≡ true → from + i ≡ 1
jl_at from [] i all is = absurd cc
jl_at from (j ∷ js) zero all is =
    let h = (and_parts (not (is_jl j) || eqb from 1) (only_one (from + 1) js) all).0 in
    let one : (not true || eqb from 1) ≡ true = rw is at h in
    let e = eqb-true from 1 one in
    omega (arith, e)
jl_at from (j ∷ js) (suc i) all is =
    let e = jl_at (from + 1) js i (and_parts (not (is_jl j) || eqb from 1) (only_one (from + 1) js) all).1 is in
    omega (arith, e)

jl_kind : (kind : ℕ) → is_jl (jump_of_number kind) ≡ true → kind ≡ 1
unfolding jump_of_number
jl_kind kind is = let e = jl_at 0 JUMPS kind jumps_known is in omega (arith, e)

-- each target of a list is a statement with this open before it
abbrev AreStatementStarts : Program → BlockId → OpenAt → List ℕ → Type 0
AreStatementStarts p block held [] = Unit {0}
AreStatementStarts p block held (at ∷ rest) = IsStatementStart p block at held × AreStatementStarts p block held rest

picked_start :
    (p : Program) (block : BlockId) (held : OpenAt) (list : List ℕ) (i otherwise : ℕ) → AreStatementStarts p block held list
    → IsStatementStart p block otherwise held → IsStatementStart p block (unwrap_or (slice_get list i) otherwise) held
picked_start p block held [] i otherwise all other = other
picked_start p block held (at ∷ rest) zero otherwise all other = all.0
picked_start p block held (at ∷ rest) (suc i) otherwise all other = picked_start p block held rest i otherwise all.1 other

-- what takes a jump opens and closes nothing, and prepares nothing
jump_quiet : (v : Operation) → is_jump_form (forms_of_operation v) ≡ true → KeepsOpen v
jump_quiet (operation.Nest with) h held = absurd cc
jump_quiet operation.Unnest h held = absurd cc
jump_quiet (operation.Relay which) h held = absurd cc
jump_quiet _ h held = refl

takes_jump : (code kind target : ℕ) → is_op code (operand.Jump kind target) ≡ true → is_jump_form (forms_of_operation (operation_of code)) ≡ true
unfolding is_op admits forms_of
takes_jump code kind target right =
    let taken = and_parts (ltb code 128 && is_jump_form (forms_of_operation (operation_of code))) (payload_fits (operand.Jump kind target)) right in
    (and_parts (ltb code 128) (is_jump_form (forms_of_operation (operation_of code))) taken.0).1

jump_ends : (code : ℕ) (last : Bool) → is_jump_form (forms_of_operation (operation_of code)) ≡ true → last ≡ not (prepares_statement code) → last ≡ true
unfolding operation_of
jump_ends code last h ended = by (prepares_statement code) refl ended
  where
    none : (code ≡ 2) ⊎ (code ≡ 4) → ⊥
    none (inl e) = let f : false ≡ true = rw e at h in cc
    none (inr e) = let f : false ≡ true = rw e at h in cc

    by : (t : Bool) → prepares_statement code ≡ t → last ≡ not t → last ≡ true
    by true e is = absurd (none (two_or_four code e))
    by false e is = is

ju_is : (o : Operand) → is_ju_operand o ≡ true → (target : ℕ) × (o ≡ operand.Jump 0 target)
ju_is (operand.Jump zero target) h = (target, refl)
ju_is _ h = absurd cc

-- the ops from an offset on, of which the first begins a statement
abbrev AtRest : Program → BlockId → CodeBlock → OpenAt → (at : ℕ) → List OpData → Type 0
AtRest p block b held at [] = Unit {0}
AtRest p block b held at (op ∷ ops) =
    (s : IsStatementStart p block at held) × (s.b ≡ b) × (s.q.op ≡ op) × (s.q.rest ≡ ops)

op_listed :
    (p : Program) (block : BlockId) (b : CodeBlock) (at : ℕ) (held : OpenAt) (s : IsStatementStart p block at held) (op : OpData)
    → s.b ≡ b → s.q.op ≡ op → op_placed 0 b.code at ≡ Some (op, at + size_of_op op)
op_listed p block b at held s op is same =
    ap (λ (z : CodeBlock). op_placed 0 z.code at) (sym is)
    ∙ ap (op_placed 0 s.b.code) (sym s.offset)
    ∙ op_here 0 [] [] [] s.b.code s.q.at s.q s.op.place
    ∙ ap (λ (k : ℕ). Some (s.q.op, k + size_of_op s.q.op)) s.offset
    ∙ ap (λ (z : OpData). Some (z, at + size_of_op z)) same

-- behind a jump the next statement stands
behind_jump :
    (l : ImageLaws) (p : Program) (block : BlockId) (b : CodeBlock) (at : ℕ) (held : OpenAt) (s : IsStatementStart p block at held)
    (kind target : ℕ) (op : OpData) (rest : List OpData) → s.b ≡ b → s.q.op ≡ op → s.q.rest ≡ rest
    → op.operand ≡ operand.Jump kind target → AtRest p block b held (at + size_of_op op) rest
behind_jump l p block b at held s kind target op [] is same split jumps = tt
behind_jump l p block b at held s kind target op (n ∷ ops) is same split jumps =
    let right : is_op s.q.op.code (operand.Jump kind target) ≡ true =
    subst (λ (z : Operand). is_op s.q.op.code z ≡ true) (ap (λ (z : OpData). z.operand) same ∙ jumps) (l.table p s.b s.q s.op) in
    let taken = takes_jump s.q.op.code kind target right in
    let ended = jump_ends s.q.op.code s.q.op.last taken (l.statements p s.b s.q s.op).ended in (
      record {
        b = s.b;
        q = behind_op s.q n ops;
        found = s.found;
        op = next_op l p s.b s.q n ops s.op split;
        offset = ap (λ (k : ℕ). k + size_of_op s.q.op) s.offset ∙ ap (λ (z : OpData). at + size_of_op z) same;
        begun = rw ended refl;
        same = open_behind_op s.q n ops ∙ ap (open_after_operation (operation_of s.q.op.code)) s.same ∙ jump_quiet (operation_of s.q.op.code) taken held;
      },
      is,
      refl,
      refl,
    )

-- each target of a list is the place of a JU
list_start :
    (l : ImageLaws) (p : Program) (block : BlockId) (b : CodeBlock) (held : OpenAt) (target most at : ℕ) (rest : List OpData)
    → leads_to_target most target at rest ≡ true → AtRest p block b held at rest
    → AreStatementStarts p block held (list_of most b.code target at)
unfolding list_of
list_start l p block b held target zero at rest leading s = tt
list_start l p block b held target (suc most) at [] leading s = by (eqb at target) leading
  where
    by : (t : Bool) → t ≡ true → AreStatementStarts p block held (cond t [] (list_with (op_placed 0 b.code at) at (λ next. list_of most b.code target next)))
    by true e = tt
    by false e = absurd cc
list_start l p block b held target (suc most) at (op ∷ ops) leading s =
    by (eqb at target) leading (λ rest leads_on. list_start l p block b held target most (at + size_of_op op) ops leads_on rest)
  where
    by : (t : Bool) → (t || (is_ju_operand op.operand && leads_to_target most target (at + size_of_op op) ops)) ≡ true
        → (AtRest p block b held (at + size_of_op op) ops → leads_to_target most target (at + size_of_op op) ops ≡ true → AreStatementStarts p block held (list_of most b.code target (at + size_of_op op)))
        → AreStatementStarts p block held (cond t [] (list_with (op_placed 0 b.code at) at (λ next. list_of most b.code target next)))
    by true e more = tt
    by false e more =
        let parts = and_parts (is_ju_operand op.operand) (leads_to_target most target (at + size_of_op op) ops) e in
        let ju = ju_is op.operand parts.0 in
        rw (op_listed p block b at held s.0 op s.1 s.2)
        (s.0, more (behind_jump l p block b at held s.0 0 ju.0 op ops s.1 s.2 s.3 ju.1) parts.1)

jump_list_lasts :
    (l : ImageLaws) (p : Program) (a : Activation) (w : GlobalStore) (at : At p a w) (target : ℕ)
    → operation_of at.here.run.last.code ≡ operation.Jump → at.here.run.last.operand ≡ operand.Jump 1 target
    → StepFitsAgain p w (instruction_step (code_of p) (JumpsByList (list_of most_listed at.here.statement_start.b.code target at.here.run.next) target) at.here.run.next a w)
unfolding list_goal
jump_list_lasts l p a w at target is operand_is =
    let f = a.running.frame in
    let held = frame_open f in
    let s = at.here in
    let last_is : s.run_end.last.op.operand ≡ operand.Jump 1 target = ap (λ (z : OpData). z.operand) s.run_end.same ∙ operand_is in
    let next_is : s.run.next ≡ s.run_end.last.at + size_of_op s.run_end.last.op = s.run_end.next in
    let here : IsStatementStart p f.block s.run.next held = next_same l p a w at operation.Jump is refl (λ held. refl) in
    let list = list_start l p f.block s.statement_start.b held target most_listed s.run.next s.run_end.last.rest
    (ap (λ (k : ℕ). leads_to_target 255 target k s.run_end.last.rest) next_is ∙ l.lists p s.statement_start.b s.run_end.last target s.run_end.op last_is)
    (behind_last s.run_end.last.rest refl) in
    record {
      sizes = same_sizes w.memory;
      fits = going_fits l p w.memory a _ a.running.regs at.fits
          (picked_start p f.block held (list_of most_listed s.statement_start.b.code target s.run.next) (a.running.regs.a1 % 2 ^ 8) target list
          (target_start l p f.block f.at held s 1 target operand_is));
    }
  where
    behind_last : (rest : List OpData) → at.here.run_end.last.rest ≡ rest
        → AtRest p a.running.frame.block at.here.statement_start.b (frame_open a.running.frame) at.here.run.next rest
    behind_last [] split = tt
    behind_last (n ∷ ops) split = (next_is_op n ops split, refl, refl, refl)
      where
        next_is_op : (n : OpData) (ops : List OpData) → at.here.run_end.last.rest ≡ n ∷ ops → IsStatementStart p a.running.frame.block at.here.run.next (frame_open a.running.frame)
        next_is_op n ops split = record {
          b = at.here.statement_start.b;
          q = behind_op at.here.run_end.last n ops;
          found = at.here.statement_start.found;
          op = next_op l p at.here.statement_start.b at.here.run_end.last n ops at.here.run_end.op split;
          offset = sym at.here.run_end.next;
          begun = rw at.here.run_end.ended refl;
          same = open_behind_op at.here.run_end.last n ops
              ∙ ap (λ (z : OpData). open_after_operation (operation_of z.code) (open_at at.here.run_end.last)) at.here.run_end.same
              ∙ ap (λ (z : Operation). open_after_operation z (open_at at.here.run_end.last)) is ∙ at.here.run_end.held ∙ at.here.statement_start.same;
        }

-- ---- ends

bec_alone : (how : EndOperation) (rlo : Bool) → is_return_made how rlo ≡ false → is_be (operation.End how) ≡ false
bec_alone ends.Be rlo h = absurd cc
bec_alone ends.Bec rlo h = refl
bec_alone ends.Beu rlo h = refl

end_lasts :
    (l : ImageLaws) (p : Program) (a : Activation) (w : GlobalStore) (at : At p a w) (how : EndOperation)
    → operation_of at.here.run.last.code ≡ operation.End how
    → StepFitsAgain p w (instruction_step (code_of p) (Returns how) at.here.run.next a w)
end_lasts l p a w at how is = by (is_return_made how a.running.regs.status.rlo) refl
  where
    by : (t : Bool) → is_return_made how a.running.regs.status.rlo ≡ t
        → StepFitsAgain p w (cond t (return_made ((code_of p).head a.running.frame.block) a w) (Went (activation_continued_at at.here.run.next (rlo_tested a.running.regs) a) w))
    by true e = returned_lasts p a w at.fits
    by false e = record {
      sizes = same_sizes w.memory;
      fits = going_fits l p w.memory a at.here.run.next (rlo_tested a.running.regs) at.fits
          (next_same l p a w at (operation.End how) is (bec_alone how a.running.regs.status.rlo e) (λ held. refl));
    }

-- ---- calls

kinds_same : (x y : BlockKind) → kind_order x ≡ kind_order y → x ≡ y
kinds_same kinds.Ob kinds.Ob e = refl
kinds_same kinds.Fc kinds.Fc e = refl
kinds_same kinds.Fb kinds.Fb e = refl
kinds_same kinds.Db kinds.Db e = refl
kinds_same kinds.Sfc kinds.Sfc e = refl
kinds_same kinds.Udt kinds.Udt e = refl
kinds_same kinds.Ob kinds.Fc e = absurd (omega (arith, e))
kinds_same kinds.Ob kinds.Fb e = absurd (omega (arith, e))
kinds_same kinds.Ob kinds.Db e = absurd (omega (arith, e))
kinds_same kinds.Ob kinds.Sfc e = absurd (omega (arith, e))
kinds_same kinds.Ob kinds.Udt e = absurd (omega (arith, e))
kinds_same kinds.Fc kinds.Ob e = absurd (omega (arith, e))
kinds_same kinds.Fc kinds.Fb e = absurd (omega (arith, e))
kinds_same kinds.Fc kinds.Db e = absurd (omega (arith, e))
kinds_same kinds.Fc kinds.Sfc e = absurd (omega (arith, e))
kinds_same kinds.Fc kinds.Udt e = absurd (omega (arith, e))
kinds_same kinds.Fb kinds.Ob e = absurd (omega (arith, e))
kinds_same kinds.Fb kinds.Fc e = absurd (omega (arith, e))
kinds_same kinds.Fb kinds.Db e = absurd (omega (arith, e))
kinds_same kinds.Fb kinds.Sfc e = absurd (omega (arith, e))
kinds_same kinds.Fb kinds.Udt e = absurd (omega (arith, e))
kinds_same kinds.Db kinds.Ob e = absurd (omega (arith, e))
kinds_same kinds.Db kinds.Fc e = absurd (omega (arith, e))
kinds_same kinds.Db kinds.Fb e = absurd (omega (arith, e))
kinds_same kinds.Db kinds.Sfc e = absurd (omega (arith, e))
kinds_same kinds.Db kinds.Udt e = absurd (omega (arith, e))
kinds_same kinds.Sfc kinds.Ob e = absurd (omega (arith, e))
kinds_same kinds.Sfc kinds.Fc e = absurd (omega (arith, e))
kinds_same kinds.Sfc kinds.Fb e = absurd (omega (arith, e))
kinds_same kinds.Sfc kinds.Db e = absurd (omega (arith, e))
kinds_same kinds.Sfc kinds.Udt e = absurd (omega (arith, e))
kinds_same kinds.Udt kinds.Ob e = absurd (omega (arith, e))
kinds_same kinds.Udt kinds.Fc e = absurd (omega (arith, e))
kinds_same kinds.Udt kinds.Fb e = absurd (omega (arith, e))
kinds_same kinds.Udt kinds.Db e = absurd (omega (arith, e))
kinds_same kinds.Udt kinds.Sfc e = absurd (omega (arith, e))

pub kind_found : (bs : List CodeBlock) (id : BlockId) (b : CodeBlock) → block_by_id id bs ≡ Some b → b.id.kind ≡ id.kind
kind_found [] id b found = absurd cc
kind_found (c ∷ bs) id b found = by (is_same_id c.id id) refl found (λ e. kind_found bs id b e)
  where
    by : (t : Bool) → is_same_id c.id id ≡ t → cond t (Some c) (block_by_id id bs) ≡ Some b → (block_by_id id bs ≡ Some b → b.id.kind ≡ id.kind) → b.id.kind ≡ id.kind
    by true same e more =
        let parts = and_parts (eqb (kind_order c.id.kind) (kind_order id.kind)) (eqb c.id.number id.number) same in
        ap (λ (z : CodeBlock). z.id.kind) (sym (same_Some c b e)) ∙ kinds_same c.id.kind id.kind (eqb-true (kind_order c.id.kind) (kind_order id.kind) parts.0)
    by false same e more = more e

get_mapped : {A B : Type 0} (f : A → B) (xs : List A) (i : ℕ) (x : A) → slice_get xs i ≡ Some x → slice_get (map f xs) i ≡ Some (f x)
get_mapped f [] i x found = absurd cc
get_mapped f (y ∷ xs) zero x found = ap (λ z. Some (f z)) (same_Some y x found)
get_mapped f (y ∷ xs) (suc i) x found = get_mapped f xs i x found

mapped_got : {A B : Type 0} (f : A → B) (xs : List A) (i : ℕ) (y : B) → slice_get (map f xs) i ≡ Some y → (x : A) × (slice_get xs i ≡ Some x)
mapped_got f [] i y found = absurd cc
mapped_got f (x ∷ xs) zero y found = (x, refl)
mapped_got f (x ∷ xs) (suc i) y found = mapped_got f xs i y found

fit_of : (l : ImageLaws) (p : Program) (a : Activation) (w : GlobalStore) (at : At p a w) (kind number instance : ℕ) → at.here.run.last.operand ≡ operand.Called kind number instance → FitsCall p at.here.run_end.last kind number instance
fit_of l p a w at kind number instance is =
    l.calls p at.here.statement_start.b at.here.run_end.last kind number instance at.here.run_end.op (ap (λ (z : OpData). z.operand) at.here.run_end.same ∙ is)

-- what it passes fits
call_passes :
    (l : ImageLaws) (p : Program) (a : Activation) (w : GlobalStore) (at : At p a w) (kind number instance : ℕ) (ps : List Param)
    (is : at.here.run.last.operand ≡ operand.Called kind number instance)
    → AreParams ps (fit_of l p a w at kind number instance is).called.params
    → PassingsFit a.running.frame.block.kind at.here.statement_start.b.params ps (passings_of at.here.run.before)
call_passes l p a w at kind number instance ps is params =
    let fit = fit_of l p a w at kind number instance is in
    subst (λ (k : BlockKind). PassingsFit k at.here.statement_start.b.params ps (passings_of at.here.run.before))
    (kind_found p.code_blocks a.running.frame.block at.here.statement_start.b at.here.statement_start.found)
    (passings_fit l p at.here.statement_start.b ps kind number instance fit.called at.here.run.last at.here.run.before params fit.there is at.here.run_end.passes)

call_all :
    (l : ImageLaws) (p : Program) (a : Activation) (w : GlobalStore) (at : At p a w) (kind number instance : ℕ)
    (is : at.here.run.last.operand ≡ operand.Called kind number instance)
    → ((fit_of l p a w at kind number instance is).called.kind ≡ 3 → ⊥)
    → are_all_passed 0 (fit_of l p a w at kind number instance is).called.params at.here.run.before ≡ true
call_all l p a w at kind number instance is other =
    let fit = fit_of l p a w at kind number instance is in
    let before : at.here.run_end.last.before ≡ at.here.run.before =
    at.here.run_end.before ∙ ap (λ (z : List OpData). z ++ at.here.run.before) (none_before at.here.statement_start.q.before at.here.statement_start.begun) in
    ap (are_all_passed 0 fit.called.params) (sym before) ∙ fit.all other

behind_call :
    (l : ImageLaws) (p : Program) (a : Activation) (w : GlobalStore) (at : At p a w) (how : CallOperation)
    → operation_of at.here.run.last.code ≡ operation.Call how → Caller p w.memory a at.here.run.next
behind_call l p a w at how is = record {
  fits = at.fits;
  verifies = at.verifies;
  statement_start = next_same l p a w at (operation.Call how) is refl (λ held. refl);
}

no_instance : (lens : List (ℕ × ℕ)) (called : CalleeSignature) (instance : ℕ) → (called.kind ≡ 3 → ⊥) → is_bad_instance lens called instance ≡ false → instance_named instance ≡ None
no_instance lens called instance other h =
    let e : eqb called.kind 3 ≡ false = ne_eqb called.kind 3 other in
    by (eqb instance 0) (rw e at h)
  where
    by : (t : Bool) → not t ≡ false → cond t None (Some instance) ≡ None
    by true e = refl
    by false e = absurd cc

has_instance :
    (p : Program) (m : Areas) (b : CodeBlock) (called : CalleeSignature) (instance : ℕ) → called ≡ record { kind = 3; instance_len = b.instance_len; params = map record_of_param b.params }
    → IsMemoryOf (code_of p) m → is_bad_instance (lens_of p.data_blocks) called instance ≡ false
    → HasInstance kinds.Fb (block_head_of b) m (instance_named instance)
has_instance p m b called instance is memory h = by (eqb instance 0) (rw is at h)
  where
    no_params : (ps : List Param) → not (nothing (map record_of_param ps)) ≡ false → ps ≡ []
    no_params [] e = refl
    no_params (q ∷ ps) e = absurd cc

    by : (t : Bool) → cond t (not (nothing (map record_of_param b.params))) (is_short_instance b.instance_len (length_of_data instance (lens_of p.data_blocks))) ≡ false
        → HasInstance kinds.Fb (block_head_of b) m (cond t None (Some instance))
    by true e = no_params b.params e
    by false e = instance_long memory.profile p m instance b.instance_len memory.sizes e

call_function :
    (l : ImageLaws) (p : Program) (a : Activation) (w : GlobalStore) (at : At p a w) (how : CallOperation) (number instance : ℕ)
    → operation_of at.here.run.last.code ≡ operation.Call how → at.here.run.last.operand ≡ operand.Called 2 number instance
    → StepFitsAgain p w (call_made (code_of p) (record { kind = kinds.Fc; number = number }) (instance_named instance) (passings_of at.here.run.before) at.here.run.next a w)
call_function l p a w at how number instance operation_is is =
    let fit = fit_of l p a w at 2 number instance is in
    let one = l.called p 2 number fit.called (inl refl) fit.there in
    let b = one.block in
    let other : fit.called.kind ≡ 3 → ⊥ = λ e. let two : fit.called.kind ≡ 2 = ap (λ (z : CalleeSignature). z.kind) one.same in omega (arith, e, two) in
    let rs : fit.called.params ≡ map record_of_param b.params = ap (λ (z : CalleeSignature). z.params) one.same in
    let params : AreParams b.params fit.called.params = subst (λ (z : List ParameterRecord). AreParams b.params z) (sym rs) (of_blocks b.params) in
    let all : are_all_passed 0 (map record_of_param b.params) at.here.run.before ≡ true =
    ap (λ (z : List ParameterRecord). are_all_passed 0 z at.here.run.before) (sym rs) ∙ call_all l p a w at 2 number instance is other in
    rw (no_instance (lens_of p.data_blocks) fit.called instance other fit.instance_fits, head_there p (record { kind = kinds.Fc; number = number }) b one.there)
    (function_lasts l p a w at.here.run.next number at.here.statement_start.b b (passings_of at.here.run.before) (behind_call l p a w at how operation_is)
    at.here.statement_start.found one.there (call_passes l p a w at 2 number instance b.params is params)
    (λ i q found. all_among i (map record_of_param b.params) (record_of_param q) at.here.run.before all (get_mapped record_of_param b.params i q found)))

call_function_block :
    (l : ImageLaws) (p : Program) (a : Activation) (w : GlobalStore) (at : At p a w) (how : CallOperation) (number instance : ℕ)
    → operation_of at.here.run.last.code ≡ operation.Call how → at.here.run.last.operand ≡ operand.Called 3 number instance
    → StepFitsAgain p w (call_made (code_of p) (record { kind = kinds.Fb; number = number }) (instance_named instance) (passings_of at.here.run.before) at.here.run.next a w)
call_function_block l p a w at how number instance operation_is is =
    let fit = fit_of l p a w at 3 number instance is in
    let one = l.called p 3 number fit.called (inr refl) fit.there in
    let b = one.block in
    let rs : fit.called.params ≡ map record_of_param b.params = ap (λ (z : CalleeSignature). z.params) one.same in
    let params : AreParams b.params fit.called.params = subst (λ (z : List ParameterRecord). AreParams b.params z) (sym rs) (of_blocks b.params) in
    rw (head_there p (record { kind = kinds.Fb; number = number }) b one.there)
    (function_block_lasts l p a w at.here.run.next number at.here.statement_start.b b (instance_named instance) (passings_of at.here.run.before)
    (behind_call l p a w at how operation_is) at.here.statement_start.found one.there (call_passes l p a w at 3 number instance b.params is params)
    (has_instance p w.memory b fit.called instance one.same at.fits.memory fit.instance_fits))

-- the parameters of a system function
record IsFunction (number : ℕ) (called : CalleeSignature) : Type 0 where
  records : List ParameterRecord
  is : system_params number ≡ Some records
  same : called ≡ callee_of_system records

function_found : (o : Option (List ParameterRecord)) (called : CalleeSignature) → option_map callee_of_system o ≡ Some called → (rs : List ParameterRecord) × (o ≡ Some rs) × (called ≡ callee_of_system rs)
function_found (Some rs) called e = (rs, refl, sym (same_Some (callee_of_system rs) called e))
function_found None called e = absurd cc

is_function : (p : Program) (number : ℕ) (called : CalleeSignature) → callee_among (block_signatures p) 5 number ≡ Some called → IsFunction number called
unfolding callee_among
is_function p number called e = let r = function_found (system_params number) called e in record { records = r.0; is = r.1; same = r.2 }

function_known : (number : ℕ) (rs : List ParameterRecord) → system_params number ≡ Some rs → system_function number ≡ Some (map param_of_record rs)
function_known number rs is = rw is refl

call_system_function :
    (l : ImageLaws) (p : Program) (a : Activation) (w : GlobalStore) (at : At p a w) (how : CallOperation) (number instance : ℕ)
    → operation_of at.here.run.last.code ≡ operation.Call how → at.here.run.last.operand ≡ operand.Called 5 number instance
    → StepFitsAgain p w (call_made (code_of p) (record { kind = kinds.Sfc; number = number }) (instance_named instance) (passings_of at.here.run.before) at.here.run.next a w)
call_system_function l p a w at how number instance operation_is is =
    let fit = fit_of l p a w at 5 number instance is in
    let one = is_function p number fit.called fit.there in
    let rs : fit.called.params ≡ one.records = ap (λ (z : CalleeSignature). z.params) one.same in
    let other : fit.called.kind ≡ 3 → ⊥ = λ e. let five : fit.called.kind ≡ 5 = ap (λ (z : CalleeSignature). z.kind) one.same in omega (arith, e, five) in
    let params : AreParams (map param_of_record one.records) fit.called.params =
    subst (λ (z : List ParameterRecord). AreParams (map param_of_record one.records) z) (sym rs) (of_functions one.records) in
    let all : are_all_passed 0 one.records at.here.run.before ≡ true =
    ap (λ (z : List ParameterRecord). are_all_passed 0 z at.here.run.before) (sym rs) ∙ call_all l p a w at 5 number instance is other in
    rw one.is
    (function_called_lasts l p a w at.here.run.next number at.here.statement_start.b (map param_of_record one.records) (passings_of at.here.run.before)
    (behind_call l p a w at how operation_is) (function_known number one.records one.is) at.here.statement_start.found
    (call_passes l p a w at 5 number instance (map param_of_record one.records) is params)
    (λ i q found. let r = mapped_got param_of_record one.records i q found in all_among i one.records r.0 at.here.run.before all r.1))

-- where CC doesn't call, the caller goes on
either_called :
    (l : ImageLaws) (p : Program) (a : Activation) (w : GlobalStore) (at : At p a w) (how : CallOperation) (block : BlockId) (instance : Option ℕ)
    → operation_of at.here.run.last.code ≡ operation.Call how
    → StepFitsAgain p w (call_made (code_of p) block instance (passings_of at.here.run.before) at.here.run.next a w)
    → StepFitsAgain p w (instruction_step (code_of p) (Calls how block instance (passings_of at.here.run.before)) at.here.run.next a w)
either_called l p a w at how block instance is lasts = by (is_call_made how a.running.regs.status.rlo)
  where
    by : (t : Bool)
        → StepFitsAgain p w (cond t (call_made (code_of p) block instance (passings_of at.here.run.before) at.here.run.next a w)
        (Went (activation_continued_at at.here.run.next (regs_after_call_not_made a.running.regs) a) w))
    by true = lasts
    by false = record {
      sizes = same_sizes w.memory;
      fits = going_fits l p w.memory a at.here.run.next (regs_after_call_not_made a.running.regs) at.fits
          (next_same l p a w at (operation.Call how) is refl (λ held. refl));
    }

call_lasts :
    (l : ImageLaws) (p : Program) (a : Activation) (w : GlobalStore) (at : At p a w) (how : CallOperation) (kind number instance : ℕ) (other : Instr)
    → operation_of at.here.run.last.code ≡ operation.Call how → at.here.run.last.operand ≡ operand.Called kind number instance
    → StepFitsAgain p w (instruction_step (code_of p) (call_by_number (kind_of_code kind) how number instance (passings_of at.here.run.before) other) at.here.run.next a w)
call_lasts l p a w at how kind number instance other is operand_is =
    by (callable_kind kind (kind_callable at.here.run.last.code kind number instance right))
  where
    right : is_op at.here.run.last.code (operand.Called kind number instance) ≡ true
    right =
        subst (λ (z : OpData). is_op z.code (operand.Called kind number instance) ≡ true) at.here.run_end.same
        (subst (λ (z : Operand). is_op at.here.run_end.last.op.code z ≡ true) (ap (λ (z : OpData). z.operand) at.here.run_end.same ∙ operand_is)
        (l.table p at.here.statement_start.b at.here.run_end.last at.here.run_end.op))

    with_kind : (k : ℕ) → kind ≡ k → at.here.run.last.operand ≡ operand.Called k number instance
    with_kind k e = operand_is ∙ ap (λ (z : ℕ). operand.Called z number instance) e

    by : IsCallable kind
        → StepFitsAgain p w (instruction_step (code_of p) (call_by_number (kind_of_code kind) how number instance (passings_of at.here.run.before) other) at.here.run.next a w)
    by (inl e) =
        rw e
        (either_called l p a w at how (record { kind = kinds.Fc; number = number }) (instance_named instance) is
        (call_function l p a w at how number instance is (with_kind (kind_number kinds.Fc) e)))
    by (inr (inl e)) =
        rw e
        (either_called l p a w at how (record { kind = kinds.Fb; number = number }) (instance_named instance) is
        (call_function_block l p a w at how number instance is (with_kind (kind_number kinds.Fb) e)))
    by (inr (inr e)) =
        rw e
        (either_called l p a w at how (record { kind = kinds.Sfc; number = number }) (instance_named instance) is
        (call_system_function l p a w at how number instance is (with_kind (kind_number kinds.Sfc) e)))

-- ---- instructions that touch no position: their operands are right

last_right : (l : ImageLaws) (p : Program) (a : Activation) (w : GlobalStore) (at : At p a w) → is_op at.here.run.last.code at.here.run.last.operand ≡ true
last_right l p a w at =
    subst (λ (z : OpData). is_op z.code z.operand ≡ true) at.here.run_end.same (l.table p at.here.statement_start.b at.here.run_end.last at.here.run_end.op)

operand_admitted : (code : ℕ) (o : Operand) (v : Operation) → is_op code o ≡ true → operation_of code ≡ v → admits (forms_of_operation v) o ≡ true
unfolding is_op forms_of
operand_admitted code o v right is =
    let taken = and_parts (ltb code 128 && admits (forms_of_operation (operation_of code)) o) (payload_fits o) right in
    rw (sym is) (and_parts (ltb code 128) (admits (forms_of_operation (operation_of code)) o) taken.0).1

-- in the table the operations that write have codes that write
abbrev all_writing : ℕ → List Operation → Bool
all_writing from [] = true
all_writing from (v ∷ vs) = (not (is_writing v) || writes_operand from) && all_writing (from + 1) vs

writing_known : all_writing 0 OPERATIONS ≡ true
writing_known = refl

writing_at : (from : ℕ) (vs : List Operation) (i : ℕ) → all_writing from vs ≡ true → is_writing (get_or vs i operation.NoOperation) ≡ true → writes_operand (from + i) ≡ true
writing_at from [] i all is = absurd cc
writing_at from (v ∷ vs) zero all is =
    let e : from + 0 ≡ from = omega arith in
    let h = (and_parts (not (is_writing v) || writes_operand from) (all_writing (from + 1) vs) all).0 in
    rw e (rw is at h)
writing_at from (v ∷ vs) (suc i) all is =
    let e : from + suc i ≡ from + 1 + i = omega arith in
    rw e (writing_at (from + 1) vs i (and_parts (not (is_writing v) || writes_operand from) (all_writing (from + 1) vs) all).1 is)

writing_code : (code : ℕ) (v : Operation) → operation_of code ≡ v → is_writing v ≡ true → writes_operand code ≡ true
unfolding operation_of
writing_code code v is h =
    let e : 0 + code ≡ code = omega arith in
    rw e at (writing_at 0 OPERATIONS code writing_known (ap is_writing is ∙ h))

-- a parameter stands for something
bound_has : (q : Param) (below : List Frame) (m : Areas) (b : Binding) → IsBound kinds.Fc q below m b → IsSupplied b
bound_has q below m (binding.AtPlace at width frame) is = tt
bound_has q below m (binding.Constant value) is = tt
bound_has q below m binding.Unsupplied is = is

bound_place_is : (q : Param) (below : List Frame) (m : Areas) (b : Binding) → (q.section ≡ section_in → ⊥) → IsBound kinds.Fc q below m b → IsPlace b
bound_place_is q below m (binding.AtPlace at width frame) other is = tt
bound_place_is q below m (binding.Constant value) other is = absurd (other is.0)
bound_place_is q below m binding.Unsupplied other is = absurd is

param_has :
    (l : ImageLaws) (p : Program) (a : Activation) (w : GlobalStore) (at : At p a w) (v : Operation) (o : Operand)
    → operation_of at.here.run.last.code ≡ v → at.here.run.last.operand ≡ o
    → ParamHas (local_of a.running) (is_writing v) o
param_has l p a w at v (operand.Parameter index width) is o_is =
    let b = at.here.statement_start.b in
    let last = at.here.run_end.last in
    let fits : FitsOperand b last.op (operand.Parameter index width) =
    subst (λ (z : Operand). FitsOperand b last.op z) (ap (λ (z : OpData). z.operand) at.here.run_end.same ∙ o_is) (l.operands p b last at.here.run_end.op) in
    let q = fits.1 in
    let has = fits.2 in
    let bound = own_bound p w.memory a b at.here.statement_start.found at.fits in
    let one = bound_of a.running.frame.block.kind b.params a.below w.memory a.running.frame.bindings index q bound has.there in
    let fc : a.running.frame.block.kind ≡ kinds.Fc = sym (kind_found p.code_blocks a.running.frame.block b at.here.statement_start.found) ∙ has.kind in
    let bound_fc : IsBound kinds.Fc q a.below w.memory one.0 = subst (λ (k : BlockKind). IsBound k q a.below w.memory one.0) fc one.2 in
    let last_code : operation_of last.op.code ≡ v = ap (λ (z : OpData). operation_of z.code) at.here.run_end.same ∙ is in (
      one.0,
      one.1,
      bound_has q a.below w.memory one.0 bound_fc,
      λ written. bound_place_is q a.below w.memory one.0 (fits.3 (writing_code last.op.code v last_code written)) bound_fc,
    )
param_has l p a w at v _ is o_is = tt

-- brackets and zones
length_codes : (bs : List OpenBracket) → length (bracket_codes bs) ≡ length bs
length_codes [] = refl
length_codes (b ∷ bs) = ap suc (length_codes bs)

as_many : (l : ImageLaws) (p : Program) (a : Activation) (w : GlobalStore) (at : At p a w) → length at.here.run_end.last.brackets ≡ length a.running.frame.brackets
as_many l p a w at =
    let bs = at.here.run_end.last.brackets in
    let own = a.running.frame.brackets in
    let same : checks_of bs ≡ codes_of own = ap (λ (z : OpenAt). z.codes) (at.here.run_end.held ∙ at.here.statement_start.same) in
    sym (length_codes bs) ∙ sym (length-map (bracket_codes bs) check_named) ∙ sym (length-reverse (map check_named (bracket_codes bs)))
    ∙ ap length same ∙ length-map own (λ (b : Bracket). b.code)

nest_room :
    (l : ImageLaws) (p : Program) (a : Activation) (w : GlobalStore) (at : At p a w) (with : Check)
    → operation_of at.here.run.last.code ≡ operation.Nest with → length a.running.frame.brackets ≡ 7 → ⊥
unfolding operation_of
nest_room l p a w at with is full =
    let last = at.here.run_end.last in
    let last_is : operation_of last.op.code ≡ operation.Nest with = ap (λ (z : OpData). operation_of z.code) at.here.run_end.same ∙ is in
    let room = (l.brackets p at.here.statement_start.b last at.here.run_end.op).room
    (nest_opens last.op.code (ap is_other last_is) (λ e. other last.op.code last_is (eqb-true last.op.code (op_code operation.Unnest) e))) in
    let many = as_many l p a w at in
    omega (arith, room, many, full)
  where
    other : (code : ℕ) → operation_of code ≡ operation.Nest with → code ≡ op_code operation.Unnest → ⊥
    other code e f = let g : operation.Unnest ≡ operation.Nest with = rw f at e in cc

unnest_code : (code : ℕ) → operation_of code ≡ operation.Unnest → code ≡ op_code operation.Unnest
unnest_code code is = by (eqb code (op_code operation.Unnest)) refl
  where
    by : (t : Bool) → eqb code (op_code operation.Unnest) ≡ t → code ≡ op_code operation.Unnest
    by true e = eqb-true code (op_code operation.Unnest) e
    by false e =
        let opens = nest_opens code (ap is_other is) (λ f. let g : true ≡ false = sym f ∙ e in cc) in
        let one : codes_after operation.Unnest [] ≡ check_named code ∷ [] = ap (λ (v : Operation). codes_after v []) (sym is) ∙ opening_operation code [] opens in
        absurd cc

unnest_room :
    (l : ImageLaws) (p : Program) (a : Activation) (w : GlobalStore) (at : At p a w)
    → operation_of at.here.run.last.code ≡ operation.Unnest → a.running.frame.brackets ≡ [] → ⊥
unnest_room l p a w at is none =
    let last = at.here.run_end.last in
    let last_is : operation_of last.op.code ≡ operation.Unnest = ap (λ (z : OpData). operation_of z.code) at.here.run_end.same ∙ is in
    let there = (l.brackets p at.here.statement_start.b last at.here.run_end.op).there (unnest_code last.op.code last_is) in
    let many = as_many l p a w at in
    let zero : length a.running.frame.brackets ≡ 0 = ap length none in
    omega (arith, there, many, zero)

zones_as_many : (l : ImageLaws) (p : Program) (a : Activation) (w : GlobalStore) (at : At p a w) → length at.here.run_end.last.zones ≡ length a.running.frame.relay.zones
zones_as_many l p a w at = ap (λ (z : OpenAt). z.zones) (at.here.run_end.held ∙ at.here.statement_start.same)

zone_has_room :
    (l : ImageLaws) (p : Program) (a : Activation) (w : GlobalStore) (at : At p a w)
    → operation_of at.here.run.last.code ≡ operation.Relay relay.Open → length a.running.frame.relay.zones ≡ most_zones → ⊥
zone_has_room l p a w at is full =
    let last = at.here.run_end.last in
    let last_is : operation_of last.op.code ≡ operation.Relay relay.Open = ap (λ (z : OpData). operation_of z.code) at.here.run_end.same ∙ is in
    let room = (l.zones p at.here.statement_start.b last at.here.run_end.op).room (opening_code last.op.code last_is) in
    let many = zones_as_many l p a w at in
    omega (arith, room, many, full)

zone_is_there :
    (l : ImageLaws) (p : Program) (a : Activation) (w : GlobalStore) (at : At p a w)
    → operation_of at.here.run.last.code ≡ operation.Relay relay.Close → a.running.frame.relay.zones ≡ [] → ⊥
zone_is_there l p a w at is none =
    let last = at.here.run_end.last in
    let last_is : operation_of last.op.code ≡ operation.Relay relay.Close = ap (λ (z : OpData). operation_of z.code) at.here.run_end.same ∙ is in
    let there = (l.zones p at.here.statement_start.b last at.here.run_end.op).there (ending_code last.op.code last_is) in
    let many = zones_as_many l p a w at in
    let zero : length a.running.frame.relay.zones ≡ 0 = ap length none in
    omega (arith, there, many, zero)

-- what prepares ends no statement
last_prepared :
    (l : ImageLaws) (p : Program) (a : Activation) (w : GlobalStore) (at : At p a w) (o : Operand) → at.here.run.last.operand ≡ o
    → FitsPrepared at.here.statement_start.b at.here.run_end.last o
last_prepared l p a w at o is =
    subst (λ (z : Operand). FitsPrepared at.here.statement_start.b at.here.run_end.last z) (ap (λ (z : OpData). z.operand) at.here.run_end.same ∙ is)
    (l.prepared p at.here.statement_start.b at.here.run_end.last at.here.run_end.op)

last_is_last : (p : Program) (a : Activation) (w : GlobalStore) (at : At p a w) → last_op at.here.run_end.last ≡ at.here.run.last
last_is_last p a w at = ends_here at.here.run_end.last.op at.here.run_end.last.rest at.here.run_end.ended ∙ at.here.run_end.same

no_use_db_last :
    (l : ImageLaws) (p : Program) (a : Activation) (w : GlobalStore) (at : At p a w) (o : Operand) → at.here.run.last.operand ≡ o
    → admits forms.UseDb o ≡ true → ⊥
unfolding admits
no_use_db_last l p a w at (operand.UseDb number) is h =
    let fits = last_prepared l p a w at (operand.UseDb number) is in
    let e : is_in_db (operand.UseDb number) ≡ true =
    ap is_in_db (sym is) ∙ ap (λ (z : OpData). is_in_db z.operand) (sym (last_is_last p a w at)) ∙ fits.1 in
    cc
no_use_db_last l p a w at (operand.Numbered kind number) is h = kind_none kind forms.UseDb refl refl h
no_use_db_last l p a w at (operand.NumberedBy kind from byte) is h = kind_none kind forms.UseDb refl refl h
no_use_db_last l p a w at _ is h = cc

no_pass_last :
    (l : ImageLaws) (p : Program) (a : Activation) (w : GlobalStore) (at : At p a w) (o : Operand) → at.here.run.last.operand ≡ o
    → operation_of at.here.run.last.code ≡ operation.Pass → admits forms.Pass o ≡ true → ⊥
unfolding admits operation_of
no_pass_last l p a w at (operand.Pass index actual) is operation_is h =
    let fits = last_prepared l p a w at (operand.Pass index actual) is in
    let code : at.here.run.last.code ≡ op_code (operation.Call calls.Call) = ap (λ (z : OpData). z.code) (sym (last_is_last p a w at)) ∙ fits.0 in
    other at.here.run.last.code operation_is code
  where
    other : (code : ℕ) → operation_of code ≡ operation.Pass → code ≡ op_code (operation.Call calls.Call) → ⊥
    other code e f = let g : operation_of 0x78 ≡ operation.Pass = rw f at e in cc
no_pass_last l p a w at (operand.Numbered kind number) is operation_is h = kind_none kind forms.Pass refl refl h
no_pass_last l p a w at (operand.NumberedBy kind from byte) is operation_is h = kind_none kind forms.Pass refl refl h
no_pass_last l p a w at _ is operation_is h = cc

has_room :
    (l : ImageLaws) (p : Program) (a : Activation) (w : GlobalStore) (at : At p a w) (v : Operation) (o : Operand)
    → operation_of at.here.run.last.code ≡ v → at.here.run.last.operand ≡ o → admits (forms_of_operation v) o ≡ true
    → HasRoom v a.running.frame.brackets a.running.frame.relay
has_room l p a w at (operation.Nest with) o is o_is h = nest_room l p a w at with is
has_room l p a w at operation.Unnest o is o_is h = unnest_room l p a w at is
has_room l p a w at (operation.Relay relay.Open) o is o_is h = zone_has_room l p a w at is
has_room l p a w at (operation.Relay relay.Close) o is o_is h = zone_is_there l p a w at is
has_room l p a w at (operation.Relay relay.Activate) o is o_is h = tt
has_room l p a w at (operation.Relay relay.Deactivate) o is o_is h = tt
has_room l p a w at operation.UseDb o is o_is h = no_use_db_last l p a w at o o_is h
has_room l p a w at operation.Pass o is o_is h = no_pass_last l p a w at o o_is is h
has_room l p a w at _ o is o_is h = tt

suits_here :
    (l : ImageLaws) (p : Program) (a : Activation) (w : GlobalStore) (at : At p a w) (v : Operation) (o : Operand)
    → operation_of at.here.run.last.code ≡ v → at.here.run.last.operand ≡ o → goes_by_statement v o ≡ false
    → Suits v o (exec_state_of a.running w.memory w.timers w.counters)
suits_here l p a w at v o is o_is other =
    let right : is_op at.here.run.last.code o ≡ true = subst (λ (z : Operand). is_op at.here.run.last.code z ≡ true) o_is (last_right l p a w at) in
    let h = operand_admitted at.here.run.last.code o v right is in
    record {
      operand_admitted = h;
      has = param_has l p a w at v o is o_is;
      other = other;
      room = has_room l p a w at v o is o_is h;
    }

-- ---- what errors leave

param_moved : (s t : Local) (written : Bool) (o : Operand) → t.inner.bindings ≡ s.inner.bindings → ParamHas s written o → ParamHas t written o
param_moved s t written (operand.Parameter index width) same has = (has.0, ap (λ (z : List Binding). slice_get z index) same ∙ has.1, has.2, has.3)
param_moved s t written _ same has = tt

with_known : (u : Option ℕ) (v : Operation) (o : Operand) (q : ExecState) → Suits v o q → IfKnownError (statement_effect u v o q)
unfolding statement_effect
with_known None v o q s = effect_known v o q s
with_known (Some number) v o q s =
    either_known (is_block_loaded number q.memory) (operation_effect v o (with_db_opened number q)) (Err 0x3A)
    (effect_known v o (with_db_opened number q) (record {
      operand_admitted = s.operand_admitted;
      has = param_moved q.local (with_db_opened number q).local (is_writing v) o refl s.has;
      other = s.other;
      room = s.room;
    })) refl

quiet_erring : (v : Operation) (r : Result ExecState ℕ) → KeepsOpen v → IfKnownError r → IfErring v r
quiet_erring v (Ok q) quiet known = tt
quiet_erring v (Err code) quiet known = record { quiet = quiet; known = known }

nest_erring : (with : Check) (o : Operand) (q : ExecState) → (length q.local.inner.brackets ≡ 7 → ⊥) → IfErring (operation.Nest with) (operation_effect (operation.Nest with) o q)
unfolding operation_effect nesting_opened
nest_erring with o q room = by (eqb (length q.local.inner.brackets) 7) refl
  where
    by : (t : Bool) → eqb (length q.local.inner.brackets) 7 ≡ t
        → IfErring (operation.Nest with) (on_local q (cond t (Err no_operand) (Ok (with_open_brackets (bracket_entry with q.local.regs ∷ q.local.inner.brackets) (record q.local { regs = bracket_begun q.local.regs })))))
    by true e = absurd (room (eqb-true (length q.local.inner.brackets) 7 e))
    by false e = tt

unnest_erring : (o : Operand) (q : ExecState) → (q.local.inner.brackets ≡ [] → ⊥) → IfErring operation.Unnest (operation_effect operation.Unnest o q)
unfolding operation_effect nesting_closed
unnest_erring o q room = by q.local.inner.brackets room
  where
    by : (brackets : List Bracket) → (brackets ≡ [] → ⊥) → IfErring operation.Unnest (on_local q (bracket_closed brackets q.local))
    by [] room = absurd (room refl)
    by (b ∷ rest) room = tt

relay_erring :
    (which : RelayOperation) (o : Operand) (q : ExecState) → HasRoom (operation.Relay which) q.local.inner.brackets q.local.inner.relay
    → IfErring (operation.Relay which) (operation_effect (operation.Relay which) o q)
unfolding operation_effect opening_zone ending_zone
relay_erring relay.Activate o q room = tt
relay_erring relay.Deactivate o q room = tt
relay_erring relay.Open o q room = rw (zone_room q.local room) tt
relay_erring relay.Close o q room = rw (zone_there q.local.inner.relay.zones room) tt

-- it opens or ends a bracket or a zone
abbrev is_opening : Operation → Bool
is_opening (operation.Nest with) = true
is_opening operation.Unnest = true
is_opening (operation.Relay which) = true
is_opening _ = false

effect_erring : (u : Option ℕ) (v : Operation) (o : Operand) (q : ExecState) → Suits v o q → (is_opening v ≡ true → u ≡ None) → IfErring v (statement_effect u v o q)
unfolding statement_effect
effect_erring u (operation.Nest with) o q s none = rw (none refl) (nest_erring with o q s.room)
effect_erring u operation.Unnest o q s none = rw (none refl) (unnest_erring o q s.room)
effect_erring u (operation.Relay which) o q s none = rw (none refl) (relay_erring which o q s.room)
effect_erring u v o q s none = quiet_erring v (statement_effect u v o q) (λ held. refl) (with_known u v o q s)

nothing_in_db : (o : Operand) → admits forms.Nothing o ≡ true → is_in_db o ≡ false
unfolding admits
nothing_in_db (operand.Direct area width byte bit) h = absurd cc
nothing_in_db _ h = refl

no_use_db : (l : ImageLaws) (p : Program) (b : CodeBlock) (last : OpData) (ops : List OpData) → is_in_db last.operand ≡ false → AllBefore p b last ops → use_db_of ops ≡ None
no_use_db l p b last [] none all = refl
no_use_db l p b last (op ∷ ops) none all = by op.operand (ap (λ (z : OpData). z.operand) all.0.2) (no_use_db l p b last ops none all.1)
  where
    by : (o : Operand) → all.0.0.op.operand ≡ o → use_db_of ops ≡ None → use_db_first o (use_db_of ops) ≡ None
    by (operand.UseDb number) is more =
        let fits : FitsPrepared b all.0.0 (operand.UseDb number) = subst (λ (z : Operand). FitsPrepared b all.0.0 z) is (l.prepared p b all.0.0 all.0.1) in
        let e : true ≡ false = sym fits.1 ∙ ap (λ (z : OpData). is_in_db z.operand) all.0.3 ∙ none in
        absurd cc
    by _ is more = more

opening_takes : (v : Operation) → is_opening v ≡ true → forms_of_operation v ≡ forms.Nothing
opening_takes (operation.Nest with) h = refl
opening_takes operation.Unnest h = refl
opening_takes (operation.Relay which) h = refl
opening_takes _ h = absurd cc

plain_lasts :
    (l : ImageLaws) (p : Program) (a : Activation) (w : GlobalStore) (at : At p a w) (v : Operation) (o : Operand)
    → operation_of at.here.run.last.code ≡ v → at.here.run.last.operand ≡ o → is_be v ≡ false → goes_by_statement v o ≡ false
    → StepFitsAgain p w (instruction_step (code_of p) (Does (use_db_of at.here.run.before) v o) at.here.run.next a w)
plain_lasts l p a w at v o is o_is goes other =
    let u = use_db_of at.here.run.before in
    let parts = exec_state_of a.running w.memory w.timers w.counters in
    let s = suits_here l p a w at v o is o_is other in
    does_lasts l p a w at v (statement_effect u v o parts) is goes (does_with_keeps u v o parts)
    (effect_erring u v o parts s (λ opening.
    let none : is_in_db at.here.run.last.operand ≡ false =
    ap is_in_db o_is ∙ nothing_in_db o (ap (λ (t : OperandForms). admits t o) (sym (opening_takes v opening)) ∙ s.operand_admitted) in
    no_use_db l p at.here.statement_start.b at.here.run.last at.here.run.before none at.here.run_end.passes))

-- ---- all

jump_or_list_lasts :
    (l : ImageLaws) (p : Program) (a : Activation) (w : GlobalStore) (at : At p a w) (kind target : ℕ)
    → operation_of at.here.run.last.code ≡ operation.Jump → at.here.run.last.operand ≡ operand.Jump kind target
    → StepFitsAgain p w (instruction_step (code_of p) (jump_by_operation (jump_of_number kind) target at.here.run.next at.here.statement_start.b.code) at.here.run.next a w)
jump_or_list_lasts l p a w at kind target is o_is = by (is_jl (jump_of_number kind)) refl
  where
    by : (t : Bool) → is_jl (jump_of_number kind) ≡ t
        → StepFitsAgain p w (instruction_step (code_of p) (cond t (JumpsByList (list_of most_listed at.here.statement_start.b.code target at.here.run.next) target) (Jumps (jump_of_number kind) target)) at.here.run.next a w)
    by true e = jump_list_lasts l p a w at target is (o_is ∙ ap (λ (k : ℕ). operand.Jump k target) (jl_kind kind e))
    by false e = jump_lasts l p a w at (jump_of_number kind) kind target is o_is

instruction_lasts :
    (l : ImageLaws) (p : Program) (a : Activation) (w : GlobalStore) (at : At p a w) (v : Operation) (o : Operand)
    → operation_of at.here.run.last.code ≡ v → at.here.run.last.operand ≡ o
    → StepFitsAgain p w (instruction_step (code_of p) (instr_of v o (use_db_of at.here.run.before) (passings_of at.here.run.before) at.here.run.next at.here.statement_start.b.code) at.here.run.next a w)
instruction_lasts l p a w at operation.Jump (operand.Jump kind target) is o_is = jump_or_list_lasts l p a w at kind target is o_is
instruction_lasts l p a w at (operation.Call how) (operand.Called kind number instance) is o_is = call_lasts l p a w at how kind number instance _ is o_is
instruction_lasts l p a w at (operation.End how) o is o_is = end_lasts l p a w at how is
instruction_lasts l p a w at v o is o_is = plain_lasts l p a w at v o is o_is refl refl

pub statement_lasts :
    (l : ImageLaws) (p : Program) (a : Activation) (w : GlobalStore) → Verifies p → FitsProgram p w.memory a
    → StepFitsAgain p w (statement_step (code_of p) a w)
unfolding statement_step
statement_lasts l p a w verifies h =
    let at = at_of l p a w verifies h in
    rw at.here.fetched (instruction_lasts l p a w at (operation_of at.here.run.last.code) at.here.run.last.operand refl refl)
