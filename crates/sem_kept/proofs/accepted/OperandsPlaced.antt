-- The ops of a block have no fault by their operands, their end marks and their calls, where the
-- instruction of each statement fits what surrounds the block.
use Rattle.std.proofs.Common.{◌≡◌, ℕ, ◌+◌, Bool, true, false, ◌&&◌, ◌||◌, not, List, [], ◌∷◌, ◌++◌, map, append_assoc, Option, Some, None, refl, sym, ap, subst, ◌∙◌}
use Rattle.std.specs.Prelude.{◌==◌}
use Rattle.std.specs.List.{AllByRecursion}
use Rattle.std.proofs.lemmas.List.{append-nil, map-append}
use Rattle.std.proofs.lemmas.Bool.{or_from}
use Rattle.plc_base.specs.declared.blocks.BlockId.{BlockId}
use Rattle.plc_base.specs.Kinds.{kind_number}
use Rattle.flat_code.specs.Blocks.{CalleeSignature, Environment, callee_among, call_fault_among, is_above, is_bad_actual, is_bad_call, is_bad_place, is_in_db, is_stray_pass, lacks_width, mark_fault, misfits_call, misfits_callee, operand_fault, pass_before, pass_index, prepares_statement, seven_if}
use Rattle.flat_code.specs.Codes.{first_found, size_of_op}
use Rattle.flat_code.specs.Instr.{Instr, Passing, Does, Jumps, JumpsByList, Calls, Returns}
use Rattle.flat_code.specs.Kinds.{jump_number}
use Rattle.flat_code.specs.OpCodes.{op_code_of}
use Rattle.flat_code.specs.Ops.{OpData}
use Rattle.flat_code.specs.PlacedOps.{PlacedOp, StatementStart, before_next, ending_op, last_op, brackets_after, ops_placed, zones_behind_op}
use Rattle.flat_code.specs.declared.image_fields.OpenBracket.{OpenBracket}
use Rattle.flat_code.specs.declared.operands.Operand.{Operand}
use Rattle.flat_code.specs.declared.operands.Operand.TheVariants as operand
use Rattle.flat_code.specs.declared.operations.CallOperation.{CallOperation}
use Rattle.flat_code.specs.declared.operations.CallOperation.TheVariants as calls
use Rattle.flat_code.specs.declared.operations.EndOperation.{EndOperation}
use Rattle.flat_code.specs.declared.operations.EndOperation.TheVariants as ends
use Rattle.flat_code.specs.declared.operations.Operation.{Operation}
use Rattle.flat_code.specs.declared.operations.Operation.TheVariants as operation
use Rattle.stl_codegen.specs.CompiledBlock.{SourceInstruction, operand_with_target, op_with_target, ops_in, placed_ops}
use Rattle.block_layout.specs.Fits.{number_or_zero}
use Rattle.stl_codegen.specs.EmittedOps.{call_op, end_op, op_with_end_mark, ops_of, pass_ops, preparing_op}
use Rattle.sem_kept.specs.Operands.{ArePassed, HaveNoOperandFaults, InstrFits, HasNoOperandFault, IsOperandRightFor}

seven_none : (b : Bool) → b ≡ false → seven_if b ≡ None
seven_none b e = ap seven_if e

not_true : (b : Bool) → b ≡ true → not b ≡ false
not_true b e = ap not e

-- an op with the end mark ends its statement
ends_here : (op : OpData) (rest : List OpData) → op.last ≡ true → ending_op op rest ≡ op
ends_here op [] e = refl
ends_here op (next ∷ ops) e = rw e refl

no_mark_fault : (w : Operation) (o : Operand) → prepares_statement (op_code_of w) ≡ false → mark_fault (op_with_end_mark w o) ≡ None
no_mark_fault w o e = rw e refl

-- an operand that isn't a jump's stays as it is
aimed_still : (f : ℕ → ℕ) (a : Environment) (op : OpData) (o : Operand) → IsOperandRightFor a op o
    → operand_with_target f o ≡ o
aimed_still f a op (operand.Jump kind target) h = absurd h
aimed_still f a op _ h = refl

right_operand : (a : Environment) (ss : List StatementStart) (p : PlacedOp) (o : Operand) → IsOperandRightFor a p.op o
    → operand_fault a ss p o ≡ None
right_operand a ss p (operand.Direct area w byte bit) h =
    seven_none (lacks_width p.op w || is_bad_place a area w byte bit)
    (or_from (lacks_width p.op w) (is_bad_place a area w byte bit) h.0 h.1)
right_operand a ss p (operand.ByMemory area w from byte) h = seven_none (lacks_width p.op w) h
right_operand a ss p (operand.ByRegister area w register bits) h = seven_none (lacks_width p.op w) h
right_operand a ss p (operand.Parameter index w) h =
    let lacks = h.0 in let own = h.1 in let written = h.2 in rw lacks (rw own (rw written refl))
right_operand a ss p (operand.Jump kind target) h = absurd h
right_operand a ss p (operand.UseDb number) h = absurd h
right_operand a ss p (operand.Pass index actual) h = absurd h
right_operand a ss p (operand.Called kind number instance) h = absurd h
right_operand a ss p _ h = refl

right_call : (a : Environment) (lens : List (ℕ × ℕ)) (p : PlacedOp) (o : Operand) → IsOperandRightFor a p.op o
    → call_fault_among a lens p o ≡ None
right_call a lens p (operand.Jump kind target) h = absurd h
right_call a lens p (operand.UseDb number) h = absurd h
right_call a lens p (operand.Pass index actual) h = absurd h
right_call a lens p (operand.Called kind number instance) h = absurd h
right_call a lens p _ h = refl

-- an op where it stands
abbrev placed_op : ℕ → List OpenBracket → List ℕ → (before : List OpData) → OpData → (rest : List OpData) → PlacedOp
placed_op at brackets zones before op rest =
    record { at = at; brackets = brackets; zones = zones; before = before; op = op; rest = rest }

abbrev use_db_op : ℕ → OpData
use_db_op number = preparing_op operation.UseDb (operand.UseDb number)

abbrev pass_op : Passing → OpData
pass_op p = preparing_op operation.Pass (operand.Pass p.index p.actual)

passing_still : (f : ℕ → ℕ) (ps : List Passing) → map (op_with_target f) (pass_ops ps) ≡ pass_ops ps
passing_still f [] = refl
passing_still f (p ∷ ps) = ap (λ (z : List OpData). pass_op p ∷ z) (passing_still f ps)

pass_last : (found : Option ℕ) (ops : List OpData) (op : OpData)
    → pass_before found (ops ++ op ∷ []) ≡ first_found (pass_index op.operand) (pass_before found ops)
pass_last found [] op = refl
pass_last found (x ∷ ops) op = pass_last (first_found (pass_index x.operand) found) ops op

-- the statement of a PASS is ended by its CALL
ends_calls : (op : OpData) (ps : List Passing) (call : OpData) (rest : List OpData)
    → op.last ≡ false → call.last ≡ true → ending_op op (pass_ops ps ++ call ∷ rest) ≡ call
ends_calls op [] call rest going closed = rw going (ends_here call rest closed)
ends_calls op (p ∷ ps) call rest going closed = rw going (ends_calls (pass_op p) ps call rest refl closed)

module _ (a : Environment) (lens : List (ℕ × ℕ)) (ss : List StatementStart) where
  -- ops have no fault where they stand, behind these of their statement
  abbrev HaveNoFaultAt : ℕ → List OpenBracket → List ℕ → (before ops : List OpData) → Type 0
  HaveNoFaultAt at brackets zones before ops = HaveNoOperandFaults a lens ss (ops_placed at brackets zones before ops)

  -- the ops behind a statement have none wherever they stand
  abbrev FineBehind : List OpData → Type 0
  FineBehind rest = (at : ℕ) (brackets : List OpenBracket) (zones : List ℕ) → HaveNoFaultAt at brackets zones [] rest

  -- the block that a call means
  abbrev callee : BlockId → Option CalleeSignature
  callee block = callee_among a.blocks (kind_number block.kind) block.number

  -- an op that ends a statement, and those behind it
  last_fine : (at : ℕ) (brackets : List OpenBracket) (zones : List ℕ) (before : List OpData) (op : OpData) (rest : List OpData)
      → op.last ≡ true → HasNoOperandFault a lens ss (placed_op at brackets zones before op rest)
      → FineBehind rest → HaveNoFaultAt at brackets zones before (op ∷ rest)
  last_fine at brackets zones before op rest last fine behind = (
    fine,
    subst (λ (z : List OpData). HaveNoFaultAt (at + size_of_op op) (brackets_after at op.code brackets) (zones_behind_op at op.code zones) z rest)
        (sym next) (behind (at + size_of_op op) (brackets_after at op.code brackets) (zones_behind_op at op.code zones)),
  )
    where
      next : before_next op before ≡ []
      next = rw last refl

  does_fine : (at : ℕ) (brackets : List OpenBracket) (zones : List ℕ) (before : List OpData) (w : Operation) (o : Operand)
      (rest : List OpData) → prepares_statement (op_code_of w) ≡ false → IsOperandRightFor a (op_with_end_mark w o) o
      → FineBehind rest → HaveNoFaultAt at brackets zones before (op_with_end_mark w o ∷ rest)
  does_fine at brackets zones before w o rest own right behind =
      let p = placed_op at brackets zones before (op_with_end_mark w o) rest in
      last_fine at brackets zones before (op_with_end_mark w o) rest refl
      (record { operand = λ still. right_operand a ss p o right; call = right_call a lens p o right; mark = no_mark_fault w o own })
      behind

  use_db_fine : (at number : ℕ) (brackets : List OpenBracket) (zones : List ℕ) (w : Operation) (o : Operand)
      (rest : List OpData) → is_in_db o ≡ true
      → HasNoOperandFault a lens ss (placed_op at brackets zones [] (use_db_op number) (op_with_end_mark w o ∷ rest))
  use_db_fine at number brackets zones w o rest db = record {
    operand = λ still. seven_none _ (ap (λ (op : OpData). not (is_in_db op.operand))
        (ends_here (op_with_end_mark w o) rest refl) ∙ not_true (is_in_db o) db);
    call = refl;
    mark = refl;
  }

  -- ---- calls

  pass_fine : (at : ℕ) (brackets : List OpenBracket) (zones : List ℕ) (before : List OpData) (p : Passing)
      (ps : List Passing) (block : BlockId) (instance : Option ℕ) (rest : List OpData)
      → is_above p.index (pass_before None before) ≡ true → is_bad_actual a p.actual ≡ false
      → misfits_callee a (callee block) p.index p.actual ≡ false
      → HasNoOperandFault a lens ss
      (placed_op at brackets zones before (pass_op p) (pass_ops ps ++ call_op calls.Call block instance ∷ rest))
  pass_fine at brackets zones before p ps block instance rest above bad misfits = record {
    operand = λ still. seven_none _ (or_from (is_stray_pass here p.index) (is_bad_actual a p.actual) stray bad);
    call = seven_none _ (ap (λ (op : OpData). op.code == op_code_of (operation.Call calls.Call) && misfits_call a op.operand p.index p.actual) last ∙ misfits);
    mark = refl;
  }
    where
      here : PlacedOp
      here = placed_op at brackets zones before (pass_op p) (pass_ops ps ++ call_op calls.Call block instance ∷ rest)

      last : last_op here ≡ call_op calls.Call block instance
      last = ends_calls (pass_op p) ps (call_op calls.Call block instance) rest refl refl

      stray : is_stray_pass here p.index ≡ false
      stray =
          ap (λ (op : OpData). not (op.code == op_code_of (operation.Call calls.Call)) || not (is_above p.index (pass_before None before))) last
          ∙ not_true (is_above p.index (pass_before None before)) above

  call_fine : (at : ℕ) (brackets : List OpenBracket) (zones : List ℕ) (before : List OpData) (how : CallOperation)
      (block : BlockId) (instance : Option ℕ) (rest : List OpData)
      → is_bad_call lens (callee block) (number_or_zero instance) before ≡ false
      → FineBehind rest → HaveNoFaultAt at brackets zones before (call_op how block instance ∷ rest)
  call_fine at brackets zones before how block instance rest bad behind =
      last_fine at brackets zones before (call_op how block instance) rest refl
      (record { operand = λ still. refl; call = seven_none _ bad; mark = by how }) behind
    where
      by : (how : CallOperation) → mark_fault (call_op how block instance) ≡ None
      by calls.Call = refl
      by _ = refl

  calls_fine : (at : ℕ) (brackets : List OpenBracket) (zones : List ℕ) (done : List OpData) (block : BlockId)
      (instance : Option ℕ) (left : List Passing) (rest : List OpData)
      → ArePassed a (callee block) (pass_before None done) left
      → is_bad_call lens (callee block) (number_or_zero instance) (done ++ pass_ops left) ≡ false
      → FineBehind rest → HaveNoFaultAt at brackets zones done (pass_ops left ++ call_op calls.Call block instance ∷ rest)
  calls_fine at brackets zones done block instance [] rest passed bad behind =
      call_fine at brackets zones done calls.Call block instance rest
      (subst (λ (z : List OpData). is_bad_call lens (callee block) (number_or_zero instance) z ≡ false)
      (append-nil done) bad) behind
  calls_fine at brackets zones done block instance (p ∷ ps) rest passed bad behind =
      let op = pass_op p in (
        pass_fine at brackets zones done p ps block instance rest passed.0 passed.1 passed.2,
        calls_fine (at + size_of_op op) (brackets_after at op.code brackets) (zones_behind_op at op.code zones) (done ++ op ∷ [])
            block instance ps rest
            (subst (λ (o : Option ℕ). ArePassed a (callee block) o ps) (sym (pass_last None done op)) passed.3)
            (subst (λ (z : List OpData). is_bad_call lens (callee block) (number_or_zero instance) z ≡ false)
            (sym (append_assoc done (op ∷ []) (pass_ops ps))) bad)
            behind,
      )

  -- ---- statements

  jump_fine : (at kind target : ℕ) (brackets : List OpenBracket) (zones : List ℕ) (rest : List OpData) → FineBehind rest
      → HaveNoFaultAt at brackets zones [] (op_with_end_mark operation.Jump (operand.Jump kind target) ∷ rest)
  jump_fine at kind target brackets zones rest behind =
      last_fine at brackets zones [] (op_with_end_mark operation.Jump (operand.Jump kind target)) rest refl
      (record { operand = λ still. absurd still; call = refl; mark = refl }) behind

  end_fine : (at : ℕ) (brackets : List OpenBracket) (zones : List ℕ) (how : EndOperation) (rest : List OpData)
      → FineBehind rest → HaveNoFaultAt at brackets zones [] (end_op how ∷ rest)
  end_fine at brackets zones how rest behind =
      last_fine at brackets zones [] (end_op how) rest refl
      (record { operand = λ still. refl; call = refl; mark = by how }) behind
    where
      by : (how : EndOperation) → mark_fault (end_op how) ≡ None
      by ends.Be = refl
      by _ = refl

  instr_fine : (f : ℕ → ℕ) (at : ℕ) (brackets : List OpenBracket) (zones : List ℕ) (i : Instr) (rest : List OpData)
      → InstrFits a lens i → FineBehind rest → HaveNoFaultAt at brackets zones [] (map (op_with_target f) (ops_of i) ++ rest)
  unfolding ops_of
  instr_fine f at brackets zones (Does None w o) rest h behind =
      subst (λ (x : Operand). HaveNoFaultAt at brackets zones [] (op_with_end_mark w x ∷ rest))
      (sym (aimed_still f a (op_with_end_mark w o) o h.1))
      (does_fine at brackets zones [] w o rest h.0 h.1 behind)
  instr_fine f at brackets zones (Does (Some number) w o) rest h behind =
      subst (λ (x : Operand). HaveNoFaultAt at brackets zones [] (use_db_op number ∷ op_with_end_mark w x ∷ rest))
      (sym (aimed_still f a (op_with_end_mark w o) o h.1)) (
        use_db_fine at number brackets zones w o rest h.2,
        does_fine (at + size_of_op (use_db_op number)) brackets zones (use_db_op number ∷ []) w o rest h.0 h.1 behind,
      )
  instr_fine f at brackets zones (Jumps how target) rest h behind =
      jump_fine at (jump_number how) (f target) brackets zones rest behind
  instr_fine f at brackets zones (JumpsByList targets otherwise) rest h behind =
      jump_fine at 1 (f otherwise) brackets zones rest behind
  instr_fine f at brackets zones (Returns how) rest h behind = end_fine at brackets zones how rest behind
  instr_fine f at brackets zones (Calls calls.Call block instance ps) rest h behind =
      subst (HaveNoFaultAt at brackets zones []) (sym same) (calls_fine at brackets zones [] block instance ps rest h.1 h.2 behind)
    where
      call : OpData
      call = call_op calls.Call block instance

      same : map (op_with_target f) (pass_ops ps ++ call ∷ []) ++ rest ≡ pass_ops ps ++ call ∷ rest
      same =
          ap (λ (z : List OpData). z ++ rest) (map-append (op_with_target f) (pass_ops ps) (call ∷ [])
          ∙ ap (λ (z : List OpData). z ++ call ∷ []) (passing_still f ps))
          ∙ append_assoc (pass_ops ps) (call ∷ []) rest
  instr_fine f at brackets zones (Calls how block instance []) rest h behind =
      call_fine at brackets zones [] how block instance rest h.2 behind
  instr_fine f at brackets zones (Calls how block instance (p ∷ ps)) rest h behind = let none = h.0 in absurd cc

  -- ---- a block

  statements_fine : (f : ℕ → ℕ) (statements : List SourceInstruction)
      → AllByRecursion (λ s. InstrFits a lens s.instr) statements
      → FineBehind (map (op_with_target f) (ops_in statements))
  statements_fine f [] h at brackets zones = tt
  statements_fine f (s ∷ more) h at brackets zones =
      subst (HaveNoFaultAt at brackets zones []) (sym (map-append (op_with_target f) (ops_of s.instr) (ops_in more)))
      (instr_fine f at brackets zones s.instr (map (op_with_target f) (ops_in more)) h.0 (statements_fine f more h.1))

  pub code_fine : (statements : List SourceInstruction) → AllByRecursion (λ s. InstrFits a lens s.instr) statements
      → HaveNoFaultAt 0 [] [] [] (placed_ops (ops_in statements))
  unfolding placed_ops
  code_fine statements h = statements_fine _ statements h 0 [] []
