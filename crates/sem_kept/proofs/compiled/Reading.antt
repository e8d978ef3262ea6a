-- The statement at the offset of a statement is that statement.
use Rattle.std.proofs.Common.{◌≡◌, ℕ, zero, suc, ◌+◌, ◌<◌, ◌≤◌, Bool, true, false, if◌then◌else◌, List, [], ◌∷◌, ◌++◌, length, length-append, map, take, drop, slice_get, append_assoc, Option, Some, None, option_map, refl, sym, ap, subst, ◌∙◌, arith}
use Rattle.std.proofs.lemmas.Bool.{eq-eqb, ne_eqb}
use Rattle.std.proofs.Math.Seq.{take-length}
use Rattle.std.proofs.lemmas.List.{length-map, take-append-drop, length-take-le}
use Rattle.std.specs.List.{AllByRecursion}
use Rattle.plc_base.specs.declared.blocks.BlockKind.{BlockKind}
use Rattle.plc_base.specs.declared.blocks.BlockKind.TheVariants as kinds
use Rattle.plc_base.specs.Kinds.{is_callable, kind_number}
use Rattle.flat_code.specs.Codes.{size_of_op, most_ops}
use Rattle.flat_code.specs.Forms.{kind_of_code}
use Rattle.flat_code.specs.Instr.{Instr, Passing, Does, Jumps, JumpsByList, Calls, Returns}
use Rattle.flat_code.specs.Laws.{OperationsHaveTheirCodes, JumpsHaveTheirKinds}
use Rattle.flat_code.specs.Ops.{OpData}
use Rattle.flat_code.specs.PlacedOps.{op_placed, line_placed}
use Rattle.flat_code.specs.Programs.{CodeBlock}
use Rattle.flat_code.specs.Operations.{operation_of}
use Rattle.flat_code.specs.declared.kinds.JumpOperation.TheVariants as jump
use Rattle.flat_code.specs.declared.operands.Operand.{Operand}
use Rattle.flat_code.specs.declared.operands.Operand.TheVariants as operand
use Rattle.flat_code.specs.declared.operations.Operation.{Operation}
use Rattle.flat_code.specs.declared.operations.Operation.TheVariants as operation
use Rattle.machine.specs.Flat.{OpRun, op_run_at, with_op, use_db_of, passings_of, list_of, most_listed, instance_named, instr_of, fetched_of, statement_fetched}
use Rattle.block_layout.specs.Fits.{number_or_zero}
use Rattle.stl_codegen.specs.EmittedOps.{ops_of, op_with_end_mark, use_db_ops, pass_ops, jump_op, call_op, end_op}
use Rattle.flat_code.specs.declared.operations.EndOperation.TheVariants as ends
use Rattle.stl_codegen.specs.CompiledBlock.{SourceInstruction, ops_in, offset_from, offset_of_statement, operand_with_target, op_with_target, placed_ops, code_in, lines_in}
use Rattle.stl_codegen.specs.Instruction.{numbers_from}
use Rattle.machine.specs.MovedCode.{aimed_instr}
use Rattle.sem_kept.specs.Back.{aimed_statement, goes_to_next_statement, is_target, IsInstanceNumber, is_ju, IsJu, IsList, IsGeneratedInstruction, AreCompiled, IsReadBack}
use Rattle.sem_kept.proofs.compiled.Runs.{total, total_append, op_behind, op_at_end, size_aimed, total_aimed, InstrParts, IsPreparing, IsPartedStatement, AreStatements, flat, bytes_of, bytes_long, extent, total_flat, extent_append, flat_append, line_at, line_at_end, offset_is, offset_past}

-- ---- the ops of a statement, in parts

abbrev pub parts_of_instr : Instr → InstrParts
parts_of_instr (Does use_db w o) = record { front = use_db_ops use_db; end = op_with_end_mark w o }
parts_of_instr (Jumps how target) = record { front = []; end = jump_op how target }
parts_of_instr (JumpsByList targets otherwise) = record { front = []; end = jump_op jump.Jl otherwise }
parts_of_instr (Calls how block instance passings) = record { front = pass_ops passings; end = call_op how block instance }
parts_of_instr (Returns how) = record { front = []; end = end_op how }

ops_parted : (i : Instr) → ops_of i ≡ (parts_of_instr i).front ++ (parts_of_instr i).end ∷ []
unfolding ops_of
ops_parted (Does use_db w o) = refl
ops_parted (Jumps how target) = refl
ops_parted (JumpsByList targets otherwise) = refl
ops_parted (Calls how block instance passings) = refl
ops_parted (Returns how) = refl

passing_prepares : (ps : List Passing) → AllByRecursion IsPreparing (pass_ops ps)
passing_prepares [] = tt
passing_prepares (p ∷ ps) = (refl, passing_prepares ps)

opening_prepares : (use_db : Option ℕ) → AllByRecursion IsPreparing (use_db_ops use_db)
opening_prepares None = tt
opening_prepares (Some number) = (refl, tt)

pub is_statement : (i : Instr) → IsPartedStatement (parts_of_instr i)
is_statement (Does use_db w o) = record { front = opening_prepares use_db; end = refl }
is_statement (Jumps how target) = record { front = tt; end = refl }
is_statement (JumpsByList targets otherwise) = record { front = tt; end = refl }
is_statement (Calls how block instance passings) = record { front = passing_prepares passings; end = refl }
is_statement (Returns how) = record { front = tt; end = refl }

abbrev pub parts : List SourceInstruction → List InstrParts
parts [] = []
parts (s ∷ ss) = parts_of_instr s.instr ∷ parts ss

pub ops_in_parts : (ss : List SourceInstruction) → ops_in ss ≡ flat (parts ss)
ops_in_parts [] = refl
ops_in_parts (s ∷ ss) =
    let p = parts_of_instr s.instr in
    rw (ops_parted s.instr) (rw (ops_in_parts ss) (append_assoc p.front (p.end ∷ []) (flat (parts ss))))

pub parts_append : (xs ys : List SourceInstruction) → parts (xs ++ ys) ≡ parts xs ++ parts ys
parts_append [] ys = refl
parts_append (x ∷ xs) ys = rw (parts_append xs ys) refl

pub parts_count : (ss : List SourceInstruction) → length (parts ss) ≡ length ss
parts_count [] = refl
parts_count (s ∷ ss) = ap suc (parts_count ss)

pub parts_are : (ss : List SourceInstruction) → AreStatements (parts ss)
parts_are [] = tt
parts_are (s ∷ ss) = (is_statement s.instr, parts_are ss)

-- ---- with offsets as targets

abbrev pub aimed_part : (ℕ → ℕ) → InstrParts → InstrParts
aimed_part f p = record { front = map (op_with_target f) p.front; end = op_with_target f p.end }

-- the ops of an instruction with offsets as targets, with these ops behind them
abbrev pub ops_with : (ℕ → ℕ) → Instr → List OpData → List OpData
ops_with f i rest = (aimed_part f (parts_of_instr i)).front ++ (aimed_part f (parts_of_instr i)).end ∷ rest

-- the last statement of a block, which returns as BE does; line is that of the END clause
abbrev pub return_at : (line : ℕ) → SourceInstruction
return_at line = record { instr = Returns ends.Be; line = line }

abbrev pub aimed_parts : (ℕ → ℕ) → List InstrParts → List InstrParts
aimed_parts f [] = []
aimed_parts f (p ∷ ps) = aimed_part f p ∷ aimed_parts f ps

map_append : (f : ℕ → ℕ) (xs ys : List OpData) → map (op_with_target f) (xs ++ ys) ≡ map (op_with_target f) xs ++ map (op_with_target f) ys
map_append f [] ys = refl
map_append f (x ∷ xs) ys = ap (λ (z : List OpData). op_with_target f x ∷ z) (map_append f xs ys)

aimed_flat : (f : ℕ → ℕ) (ps : List InstrParts) → map (op_with_target f) (flat ps) ≡ flat (aimed_parts f ps)
aimed_flat f [] = refl
aimed_flat f (p ∷ ps) = map_append f p.front (p.end ∷ flat ps)
    ∙ ap (λ (z : List OpData). map (op_with_target f) p.front ++ op_with_target f p.end ∷ z) (aimed_flat f ps)

pub aimed_bytes : (f : ℕ → ℕ) (p : InstrParts) → bytes_of (aimed_part f p) ≡ bytes_of p
aimed_bytes f p = let a = total_aimed f p.front in let b = size_aimed f p.end in omega (arith, a, b)

pub aimed_extent : (f : ℕ → ℕ) (ps : List InstrParts) → extent (aimed_parts f ps) ≡ extent ps
aimed_extent f [] = refl
aimed_extent f (p ∷ ps) = let a = aimed_bytes f p in let b = aimed_extent f ps in omega (arith, a, b)

aimed_prepares : (f : ℕ → ℕ) (ops : List OpData) → AllByRecursion IsPreparing ops → AllByRecursion IsPreparing (map (op_with_target f) ops)
aimed_prepares f [] h = tt
aimed_prepares f (op ∷ ops) h = (h.0, aimed_prepares f ops h.1)

pub aimed_is : (f : ℕ → ℕ) (p : InstrParts) → IsPartedStatement p → IsPartedStatement (aimed_part f p)
aimed_is f p h = record { front = aimed_prepares f p.front h.front; end = h.end }

pub aimed_are : (f : ℕ → ℕ) (ps : List InstrParts) → AreStatements ps → AreStatements (aimed_parts f ps)
aimed_are f [] h = tt
aimed_are f (p ∷ ps) h = (aimed_is f p h.0, aimed_are f ps h.1)

pub aimed_append : (f : ℕ → ℕ) (xs ys : List InstrParts) → aimed_parts f (xs ++ ys) ≡ aimed_parts f xs ++ aimed_parts f ys
aimed_append f [] ys = refl
aimed_append f (x ∷ xs) ys = ap (λ (z : List InstrParts). aimed_part f x ∷ z) (aimed_append f xs ys)

aimed_count : (f : ℕ → ℕ) (ps : List InstrParts) → length (aimed_parts f ps) ≡ length ps
aimed_count f [] = refl
aimed_count f (p ∷ ps) = ap suc (aimed_count f ps)

-- ---- the run of a statement

op_here : (xs : List OpData) (op : OpData) (ys : List OpData) → op_placed 0 (xs ++ op ∷ ys) (total xs) ≡ Some (op, total xs + size_of_op op)
op_here xs op ys = let same : 0 + total xs ≡ total xs = omega arith in subst (λ (k : ℕ). op_placed 0 (xs ++ op ∷ ys) k ≡ Some (op, k + size_of_op op)) same (op_behind 0 xs op ys)

-- one that prepares stands in front
run_more :
    (most : ℕ) (xs front : List OpData) (x op : OpData) (ys : List OpData) → x.last ≡ false
    → op_run_at most ((xs ++ x ∷ []) ++ (front ++ op ∷ ys)) (total (xs ++ x ∷ []))
    ≡ Some (record { before = front; last = op; next = total (xs ++ x ∷ []) + (total front + size_of_op op) })
    → op_run_at (suc most) (xs ++ x ∷ (front ++ op ∷ ys)) (total xs)
    ≡ Some (record { before = x ∷ front; last = op; next = total xs + (size_of_op x + total front + size_of_op op) })
unfolding op_run_at
run_more most xs front x op ys prepares more = rw (op_here xs x (front ++ op ∷ ys)) (by x.last prepares)
  where
    cut : (xs ++ x ∷ []) ++ (front ++ op ∷ ys) ≡ xs ++ x ∷ (front ++ op ∷ ys)
    cut = append_assoc xs (x ∷ []) (front ++ op ∷ ys)

    at : total (xs ++ x ∷ []) ≡ total xs + size_of_op x
    at = total_append xs (x ∷ []) ∙ omega arith

    there : op_run_at most (xs ++ x ∷ (front ++ op ∷ ys)) (total xs + size_of_op x)
        ≡ Some (record { before = front; last = op; next = total xs + (size_of_op x + total front + size_of_op op) })
    there = ap (λ (z : List OpData). op_run_at most z (total xs + size_of_op x)) (sym cut)
        ∙ ap (λ (k : ℕ). op_run_at most ((xs ++ x ∷ []) ++ (front ++ op ∷ ys)) k) (sym at) ∙ more
        ∙ ap (λ (k : ℕ). Some (record { before = front; last = op; next = k })) (omega (arith, at))

    by : (b : Bool) → b ≡ false → (if b then Some (record { before = []; last = x; next = total xs + size_of_op x })
        else option_map (with_op x) (op_run_at most (xs ++ x ∷ (front ++ op ∷ ys)) (total xs + size_of_op x)))
        ≡ Some (record { before = x ∷ front; last = op; next = total xs + (size_of_op x + total front + size_of_op op) })
    by true h = absurd cc
    by false h = ap (option_map (with_op x)) there

run_last :
    (most : ℕ) (xs : List OpData) (op : OpData) (ys : List OpData) → op.last ≡ true
    → op_run_at (suc most) (xs ++ op ∷ ys) (total xs)
    ≡ Some (record { before = []; last = op; next = total xs + (total [] + size_of_op op) })
unfolding op_run_at
run_last most xs op ys last = rw (op_here xs op ys) (by op.last last)
  where
    by : (b : Bool) → b ≡ true → (if b then Some (record { before = []; last = op; next = total xs + size_of_op op })
        else option_map (with_op op) (op_run_at most (xs ++ op ∷ ys) (total xs + size_of_op op)))
        ≡ Some (record { before = []; last = op; next = total xs + (total [] + size_of_op op) })
    by true h = ap (λ (k : ℕ). Some (record { before = []; last = op; next = k })) (omega arith)
    by false h = absurd cc

run_of :
    (most : ℕ) (xs front : List OpData) (op : OpData) (ys : List OpData)
    → AllByRecursion IsPreparing front → op.last ≡ true → length front < most
    → op_run_at most (xs ++ (front ++ op ∷ ys)) (total xs)
    ≡ Some (record { before = front; last = op; next = total xs + (total front + size_of_op op) })
run_of zero xs front op ys fs last few = absurd (omega (arith, few))
run_of (suc most) xs [] op ys fs last few = run_last most xs op ys last
run_of (suc most) xs (x ∷ front) op ys fs last few =
    run_more most xs front x op ys fs.0 (run_of most (xs ++ x ∷ []) front op ys fs.1 last (omega (arith, few)))

pub run_is :
    (ps : List InstrParts) (p : InstrParts) (qs : List InstrParts) → IsPartedStatement p → length p.front ≤ 63
    → op_run_at most_ops (flat (ps ++ p ∷ qs)) (extent ps)
    ≡ Some (record { before = p.front; last = p.end; next = extent ps + bytes_of p })
run_is ps p qs h few =
    rw (flat_append ps (p ∷ qs)) (rw (sym (total_flat ps)) (run_of 64 (flat ps) p.front p.end (flat qs) h.front h.end (omega (arith, few))))

run_none : (ps : List InstrParts) → op_run_at most_ops (flat ps) (extent ps) ≡ None
unfolding op_run_at
run_none ps =
    let end = op_at_end 0 (flat ps) in
    let same : 0 + total (flat ps) ≡ extent ps = (let all = total_flat ps in omega (arith, all)) in
    rw (subst (λ (k : ℕ). op_placed 0 (flat ps) k ≡ None) same end) refl

-- ---- the instruction of a run

use_db_back : (f : ℕ → ℕ) (use_db : Option ℕ) → use_db_of (map (op_with_target f) (use_db_ops use_db)) ≡ use_db
use_db_back f None = refl
use_db_back f (Some number) = refl

passings_back : (f : ℕ → ℕ) (ps : List Passing) → passings_of (map (op_with_target f) (pass_ops ps)) ≡ ps
passings_back f [] = refl
passings_back f (p ∷ ps) = ap (λ (z : List Passing). p ∷ z) (passings_back f ps)

pub aimed_same : (f : ℕ → ℕ) (o : Operand) → is_target o ≡ false → operand_with_target f o ≡ o
aimed_same f (operand.Jump kind target) h = absurd cc
aimed_same f operand.Nothing h = refl
aimed_same f (operand.Literal value) h = refl
aimed_same f (operand.Direct area width byte bit) h = refl
aimed_same f (operand.ByMemory area width from byte) h = refl
aimed_same f (operand.ByRegister area width register bits) h = refl
aimed_same f (operand.Parameter index width) h = refl
aimed_same f (operand.Numbered kind number) h = refl
aimed_same f (operand.NumberedBy kind from byte) h = refl
aimed_same f (operand.OfStatus condition) h = refl
aimed_same f (operand.UseDb number) h = refl
aimed_same f (operand.Pass index actual) h = refl
aimed_same f (operand.Called kind number instance) h = refl
aimed_same f (operand.OpenBlock register number) h = refl
aimed_same f (operand.OpenBy register from byte) h = refl

does_back :
    (w : Operation) (o : Operand) (use_db : Option ℕ) (passings : List Passing) (next : ℕ) (ops : List OpData)
    → goes_to_next_statement w ≡ true → instr_of w o use_db passings next ops ≡ Does use_db w o
does_back operation.NoOperation o use_db passings next ops h = refl
does_back operation.Nop o use_db passings next ops h = refl
does_back operation.Bld o use_db passings next ops h = refl
does_back operation.UseDb o use_db passings next ops h = refl
does_back operation.Pass o use_db passings next ops h = refl
does_back (operation.Relay which) o use_db passings next ops h = refl
does_back (operation.Check joined) o use_db passings next ops h = refl
does_back operation.OrBare o use_db passings next ops h = refl
does_back (operation.Nest joined) o use_db passings next ops h = refl
does_back operation.Unnest o use_db passings next ops h = refl
does_back operation.Load o use_db passings next ops h = refl
does_back operation.Transfer o use_db passings next ops h = refl
does_back operation.Assign o use_db passings next ops h = refl
does_back operation.Set o use_db passings next ops h = refl
does_back operation.Reset o use_db passings next ops h = refl
does_back (operation.Edge rising) o use_db passings next ops h = refl
does_back operation.SetRlo o use_db passings next ops h = refl
does_back operation.ClearRlo o use_db passings next ops h = refl
does_back operation.NegateRlo o use_db passings next ops h = refl
does_back operation.SaveRlo o use_db passings next ops h = refl
does_back operation.LoadBcd o use_db passings next ops h = refl
does_back operation.LoadStatus o use_db passings next ops h = refl
does_back operation.TransferStatus o use_db passings next ops h = refl
does_back operation.LoadOpenBlock o use_db passings next ops h = refl
does_back (operation.Pointer p) o use_db passings next ops h = refl
does_back (operation.Number n) o use_db passings next ops h = refl
does_back (operation.Add a) o use_db passings next ops h = refl
does_back (operation.CompareInt c) o use_db passings next ops h = refl
does_back (operation.CompareDint c) o use_db passings next ops h = refl
does_back (operation.Logic l) o use_db passings next ops h = refl
does_back (operation.Shift s) o use_db passings next ops h = refl
does_back operation.Jump o use_db passings next ops h = absurd cc
does_back (operation.Start s) o use_db passings next ops h = refl
does_back operation.Free o use_db passings next ops h = refl
does_back operation.CountUp o use_db passings next ops h = refl
does_back operation.CountDown o use_db passings next ops h = refl
does_back (operation.Call how) o use_db passings next ops h = absurd cc
does_back (operation.End how) o use_db passings next ops h = absurd cc
does_back operation.OpenBlock o use_db passings next ops h = refl
does_back operation.Exchange o use_db passings next ops h = refl

kind_back : (kind : BlockKind) → is_callable kind ≡ true → kind_of_code (kind_number kind) ≡ Some kind
kind_back kinds.Fc h = refl
kind_back kinds.Fb h = refl
kind_back kinds.Sfc h = refl
kind_back kinds.Ob h = absurd cc
kind_back kinds.Db h = absurd cc
kind_back kinds.Udt h = absurd cc

instance_back : (instance : Option ℕ) → IsInstanceNumber instance → instance_named (number_or_zero instance) ≡ instance
instance_back None h = refl
instance_back (Some number) h = rw (ne_eqb number 0 (λ e. omega (arith, e, h))) refl

-- the instruction that a run of ops is
abbrev back : List OpData → OpData → (next : ℕ) → List OpData → Instr
back front end next ops = instr_of (operation_of end.code) end.operand (use_db_of front) (passings_of front) next ops

-- of a jump list, whose list is in the ops behind it
abbrev ListIsThere : (ℕ → ℕ) → Instr → (next : ℕ) → List OpData → Type 0
ListIsThere f (JumpsByList targets otherwise) next ops = list_of most_listed ops (f otherwise) next ≡ map f targets
ListIsThere f _ next ops = Unit {0}

instr_back :
    (f : ℕ → ℕ) (n : ℕ) (i : Instr) (behind : List SourceInstruction) (next : ℕ) (ops : List OpData)
    → OperationsHaveTheirCodes → JumpsHaveTheirKinds → IsGeneratedInstruction n i behind → ListIsThere f i next ops
    → back (aimed_part f (parts_of_instr i)).front (aimed_part f (parts_of_instr i)).end next ops ≡ aimed_instr f i
instr_back f n (Does use_db w o) behind next ops operations jumps h list =
    rw (operations w) (rw (aimed_same f o h.1) (rw (use_db_back f use_db)
    (does_back w o use_db (passings_of (map (op_with_target f) (use_db_ops use_db))) next ops h.0)))
instr_back f n (Jumps how target) behind next ops operations jumps h list =
    rw (operations operation.Jump) (rw (jumps how) (rw h refl))
instr_back f n (JumpsByList targets otherwise) behind next ops operations jumps h list =
    rw (operations operation.Jump) (rw (jumps jump.Jl) (ap (λ (z : List ℕ). JumpsByList z (f otherwise)) list))
instr_back f n (Calls how block instance passings) behind next ops operations jumps h list =
    rw (operations (operation.Call how)) (rw (kind_back block.kind h.0) (rw (instance_back instance h.1) (rw (passings_back f passings) refl)))
instr_back f n (Returns how) behind next ops operations jumps h list =
    rw (operations (operation.End how)) refl

-- ---- the list of a JL

list_next :
    (most : ℕ) (ops : List OpData) (target at next : ℕ) (op : OpData)
    → (at ≡ target → ⊥) → op_placed 0 ops at ≡ Some (op, next)
    → list_of (suc most) ops target at ≡ at ∷ list_of most ops target next
unfolding list_of
list_next most ops target at next op other h = rw (ne_eqb at target other) (rw h refl)

list_ends : (most : ℕ) (ops : List OpData) (at : ℕ) → list_of most ops at at ≡ []
unfolding list_of
list_ends zero ops at = refl
list_ends (suc most) ops at = rw (eq-eqb at at refl) refl

abbrev pub the_code : (ℕ → ℕ) → List SourceInstruction → List OpData
the_code f ss = flat (aimed_parts f (parts ss))

-- where the statements in front end
abbrev pub ends_at : List SourceInstruction → ℕ
ends_at ss = extent (parts ss)

pub ends_append : (xs ys : List SourceInstruction) → ends_at (xs ++ ys) ≡ ends_at xs + ends_at ys
ends_append xs ys = ap extent (parts_append xs ys) ∙ extent_append (parts xs) (parts ys)

-- a statement of one op, JU, at its place
ju_alone : (i : Instr) → is_ju i ≡ true → (parts_of_instr i).front ≡ []
ju_alone (Jumps how target) h = refl
ju_alone (Does use_db w o) h = absurd cc
ju_alone (JumpsByList targets otherwise) h = absurd cc
ju_alone (Calls how block instance passings) h = absurd cc
ju_alone (Returns how) h = absurd cc

ju_at :
    (f : ℕ → ℕ) (front : List SourceInstruction) (j : SourceInstruction) (rest : List SourceInstruction) → is_ju j.instr ≡ true
    → op_placed 0 (the_code f (front ++ j ∷ rest)) (ends_at front)
    ≡ Some ((aimed_part f (parts_of_instr j.instr)).end, ends_at front + bytes_of (parts_of_instr j.instr))
ju_at f front j rest h =
    let alone : (parts_of_instr j.instr).front ≡ [] = ju_alone j.instr h in
    let same : flat (aimed_parts f (parts (front ++ j ∷ rest)))
    ≡ flat (aimed_parts f (parts front)) ++ ((aimed_part f (parts_of_instr j.instr)).front ++ (aimed_part f (parts_of_instr j.instr)).end ∷ flat (aimed_parts f (parts rest)))
    = ap (λ (z : List InstrParts). flat (aimed_parts f z)) (parts_append front (j ∷ rest))
    ∙ ap flat (aimed_append f (parts front) (parts (j ∷ rest)))
    ∙ flat_append (aimed_parts f (parts front)) (aimed_parts f (parts (j ∷ rest))) in
    let here : total (flat (aimed_parts f (parts front))) ≡ ends_at front
    = total_flat (aimed_parts f (parts front)) ∙ aimed_extent f (parts front) in
    let long : size_of_op (aimed_part f (parts_of_instr j.instr)).end ≡ bytes_of (parts_of_instr j.instr)
    = size_aimed f (parts_of_instr j.instr).end ∙ (rw alone (omega arith)) in
    same_op same here long alone
  where
    same_op :
        the_code f (front ++ j ∷ rest) ≡ flat (aimed_parts f (parts front)) ++ (map (op_with_target f) (parts_of_instr j.instr).front ++ op_with_target f (parts_of_instr j.instr).end ∷ flat (aimed_parts f (parts rest)))
        → total (flat (aimed_parts f (parts front))) ≡ ends_at front
        → size_of_op (op_with_target f (parts_of_instr j.instr).end) ≡ bytes_of (parts_of_instr j.instr)
        → (parts_of_instr j.instr).front ≡ []
        → op_placed 0 (the_code f (front ++ j ∷ rest)) (ends_at front)
        ≡ Some (op_with_target f (parts_of_instr j.instr).end, ends_at front + bytes_of (parts_of_instr j.instr))
    same_op same here long alone =
        let xs = flat (aimed_parts f (parts front)) in
        let op = op_with_target f (parts_of_instr j.instr).end in
        let none : map (op_with_target f) (parts_of_instr j.instr).front ≡ [] = ap (λ (z : List OpData). map (op_with_target f) z) alone in
        let at : the_code f (front ++ j ∷ rest) ≡ xs ++ op ∷ flat (aimed_parts f (parts rest))
        = same ∙ ap (λ (z : List OpData). xs ++ (z ++ op ∷ flat (aimed_parts f (parts rest)))) none in
        ap (λ (z : List OpData). op_placed 0 z (ends_at front)) at
        ∙ ap (λ (k : ℕ). op_placed 0 (xs ++ op ∷ flat (aimed_parts f (parts rest))) k) (sym here)
        ∙ op_here xs op (flat (aimed_parts f (parts rest)))
        ∙ ap (λ (k : ℕ). Some (op, k)) (omega (arith, here, long))

-- the list goes on behind its first jump
list_step :
    (f : ℕ → ℕ) (most : ℕ) (front : List SourceInstruction) (j : SourceInstruction) (js rest : List SourceInstruction) → is_ju j.instr ≡ true
    → f (length front) ≡ ends_at front
    → list_of most (the_code f ((front ++ j ∷ []) ++ (js ++ rest))) (ends_at (front ++ j ∷ []) + ends_at js) (ends_at (front ++ j ∷ []))
    ≡ map f (numbers_from (length (front ++ j ∷ [])) (length js))
    → list_of (suc most) (the_code f (front ++ j ∷ (js ++ rest))) (ends_at front + ends_at (j ∷ js)) (ends_at front)
    ≡ map f (numbers_from (length front) (suc (length js)))
list_step f most front j js rest jump first more =
    list_next most (the_code f (front ++ j ∷ (js ++ rest))) (ends_at front + ends_at (j ∷ js)) (ends_at front)
    (ends_at front + bytes_of (parts_of_instr j.instr)) (aimed_part f (parts_of_instr j.instr)).end
    (λ e. let long = bytes_long (parts_of_instr j.instr) in omega (arith, e, long)) (ju_at f front j (js ++ rest) jump)
    ∙ ap (λ (z : List ℕ). ends_at front ∷ z) others ∙ ap (λ (k : ℕ). k ∷ map f (numbers_from (suc (length front)) (length js))) (sym first)
  where
    longer : length (front ++ j ∷ []) ≡ suc (length front)
    longer = length-append front (j ∷ []) ∙ omega arith

    ends : ends_at (front ++ j ∷ []) ≡ ends_at front + bytes_of (parts_of_instr j.instr)
    ends = ends_append front (j ∷ []) ∙ omega arith

    cut : front ++ j ∷ (js ++ rest) ≡ (front ++ j ∷ []) ++ (js ++ rest)
    cut = sym (append_assoc front (j ∷ []) (js ++ rest))

    target : ends_at front + ends_at (j ∷ js) ≡ ends_at (front ++ j ∷ []) + ends_at js
    target = omega (arith, ends)

    others : list_of most (the_code f (front ++ j ∷ (js ++ rest))) (ends_at front + ends_at (j ∷ js)) (ends_at front + bytes_of (parts_of_instr j.instr))
        ≡ map f (numbers_from (suc (length front)) (length js))
    others =
        ap (λ (z : List SourceInstruction). list_of most (the_code f z) (ends_at front + ends_at (j ∷ js)) (ends_at front + bytes_of (parts_of_instr j.instr))) cut
        ∙ ap (λ (k : ℕ). list_of most (the_code f ((front ++ j ∷ []) ++ (js ++ rest))) k (ends_at front + bytes_of (parts_of_instr j.instr))) target
        ∙ ap (λ (k : ℕ). list_of most (the_code f ((front ++ j ∷ []) ++ (js ++ rest))) (ends_at (front ++ j ∷ []) + ends_at js) k) (sym ends)
        ∙ more ∙ ap (λ (k : ℕ). map f (numbers_from k (length js))) longer

list_of_jumps :
    (f : ℕ → ℕ) (most : ℕ) (front js rest : List SourceInstruction) → AllByRecursion IsJu js → length js ≤ most
    → ((k : ℕ) → k ≤ length js → f (length front + k) ≡ ends_at front + ends_at (take k js))
    → list_of most (the_code f (front ++ (js ++ rest))) (ends_at front + ends_at js) (ends_at front)
    ≡ map f (numbers_from (length front) (length js))
list_of_jumps f most front [] rest jumps few at =
    ap (λ (k : ℕ). list_of most (the_code f (front ++ rest)) k (ends_at front)) (omega arith)
    ∙ list_ends most (the_code f (front ++ rest)) (ends_at front)
list_of_jumps f zero front (j ∷ js) rest jumps few at = absurd (omega (arith, few))
list_of_jumps f (suc most) front (j ∷ js) rest jumps few at =
    list_step f most front j js rest jumps.0 (ap f (omega arith) ∙ at 0 (omega arith) ∙ omega arith)
    (list_of_jumps f most (front ++ j ∷ []) js rest jumps.1 (omega (arith, few))
    (λ k lt. let longer = length-append front (j ∷ []) in let ends = ends_append front (j ∷ []) in
    ap f (omega (arith, longer)) ∙ at (suc k) (omega (arith, lt)) ∙ omega (arith, ends)))

-- ---- whole

abbrev pub position : List SourceInstruction → ℕ → ℕ
position ss n = offset_of_statement (ops_in ss) n

pub position_is : (front rest : List SourceInstruction) → position (front ++ rest) (length front) ≡ ends_at front
unfolding offset_of_statement
position_is front rest =
    let same : ops_in (front ++ rest) ≡ flat (parts front ++ parts rest)
    = ops_in_parts (front ++ rest) ∙ ap flat (parts_append front rest) in
    ap (λ (z : List OpData). offset_from 0 true z (length front)) same
    ∙ ap (λ (k : ℕ). offset_from 0 true (flat (parts front ++ parts rest)) k) (sym (parts_count front))
    ∙ offset_is 0 (parts front) (parts rest) (parts_are front) ∙ omega arith

position_past : (ss : List SourceInstruction) (n : ℕ) → length ss ≤ n → position ss n ≡ ends_at ss
unfolding offset_of_statement
position_past ss n past =
    let count = parts_count ss in
    ap (λ (z : List OpData). offset_from 0 true z n) (ops_in_parts ss)
    ∙ offset_past 0 n (parts ss) (parts_are ss) (omega (arith, past, count)) ∙ omega arith

pub the_code_is : (ss : List SourceInstruction) → code_in ss ≡ the_code (position ss) ss
unfolding placed_ops
the_code_is ss = ap (λ (z : List OpData). map (op_with_target (position ss)) z) (ops_in_parts ss) ∙ aimed_flat (position ss) (parts ss)

-- the positions within statements behind others
positions_in :
    (front js rest : List SourceInstruction) (k : ℕ) → k ≤ length js
    → position (front ++ (js ++ rest)) (length front + k) ≡ ends_at front + ends_at (take k js)
positions_in front js rest k few =
    let cut : front ++ (js ++ rest) ≡ (front ++ take k js) ++ (drop k js ++ rest)
    = ap (λ (z : List SourceInstruction). front ++ (z ++ rest)) (sym (take-append-drop k js))
    ∙ ap (λ (z : List SourceInstruction). front ++ z) (append_assoc (take k js) (drop k js) rest)
    ∙ sym (append_assoc front (take k js) (drop k js ++ rest)) in
    let count : length (front ++ take k js) ≡ length front + k
    = length-append front (take k js) ∙ ap (λ (m : ℕ). length front + m) (length-take-le k js few) in
    ap (λ (z : List SourceInstruction). position z (length front + k)) cut
    ∙ ap (λ (m : ℕ). position ((front ++ take k js) ++ (drop k js ++ rest)) m) (sym count)
    ∙ position_is (front ++ take k js) (drop k js ++ rest) ∙ ends_append front (take k js)

list_there :
    (front : List SourceInstruction) (s : SourceInstruction) (rest : List SourceInstruction) (targets : List ℕ) (otherwise : ℕ)
    → IsList (length front) targets otherwise rest
    → list_of most_listed (the_code (position (front ++ s ∷ rest)) (front ++ s ∷ rest)) (position (front ++ s ∷ rest) otherwise) (ends_at (front ++ s ∷ []))
    ≡ map (position (front ++ s ∷ rest)) targets
list_there front s rest targets otherwise h =
    rw whole (aim whole_f ∙ list_of_jumps f 255 before js behind h.jumps (omega (arith, h.few, count)) (λ k few. positions_in before js behind k few)
    ∙ ap (map f) (numbers ∙ sym h.numbers))
  where
    before : List SourceInstruction
    before = front ++ s ∷ []

    js : List SourceInstruction
    js = take (length targets) rest

    behind : List SourceInstruction
    behind = drop (length targets) rest

    f : ℕ → ℕ
    f = position (before ++ (js ++ behind))

    count : length js ≡ length targets
    count = length-take-le (length targets) rest h.there

    whole : front ++ s ∷ rest ≡ before ++ (js ++ behind)
    whole = ap (λ (z : List SourceInstruction). front ++ s ∷ z) (sym (take-append-drop (length targets) rest))
        ∙ sym (append_assoc front (s ∷ []) (js ++ behind))

    one_more : length before ≡ suc (length front)
    one_more = length-append front (s ∷ []) ∙ omega arith

    whole_f : f otherwise ≡ ends_at before + ends_at js
    whole_f = ap f (h.ends ∙ omega (arith, one_more, count))
        ∙ positions_in before js behind (length js) (omega arith) ∙ ap (λ (z : List SourceInstruction). ends_at before + ends_at z) (take-length js)

    aim : f otherwise ≡ ends_at before + ends_at js
        → list_of most_listed (the_code f (before ++ (js ++ behind))) (f otherwise) (ends_at before)
        ≡ list_of 255 (the_code f (before ++ (js ++ behind))) (ends_at before + ends_at js) (ends_at before)
    aim e = ap (λ (k : ℕ). list_of 255 (the_code f (before ++ (js ++ behind))) k (ends_at before)) e

    numbers : numbers_from (length before) (length js) ≡ numbers_from (suc (length front)) (length targets)
    numbers = ap (λ (k : ℕ). numbers_from k (length js)) one_more ∙ ap (λ (k : ℕ). numbers_from (suc (length front)) k) count

-- what a jump list finds in the ops behind it
list_found :
    (front : List SourceInstruction) (s : SourceInstruction) (rest : List SourceInstruction) (i : Instr) → IsGeneratedInstruction (length front) i rest
    → ListIsThere (position (front ++ s ∷ rest)) i (ends_at (front ++ s ∷ []))
    (the_code (position (front ++ s ∷ rest)) (front ++ s ∷ rest))
list_found front s rest (JumpsByList targets otherwise) h = list_there front s rest targets otherwise h
list_found front s rest (Does use_db w o) h = tt
list_found front s rest (Jumps how target) h = tt
list_found front s rest (Calls how block instance passings) h = tt
list_found front s rest (Returns how) h = tt

-- a statement has at most 63 ops before its last
few_before : (f : ℕ → ℕ) (n : ℕ) (i : Instr) (behind : List SourceInstruction) → IsGeneratedInstruction n i behind → length (aimed_part f (parts_of_instr i)).front ≤ 63
few_before f n i behind h = let same = length-map (parts_of_instr i).front (op_with_target f) in let few = fronts i h in omega (arith, same, few)
  where
    passing_count : (ps : List Passing) → length (pass_ops ps) ≡ length ps
    passing_count [] = refl
    passing_count (p ∷ ps) = ap suc (passing_count ps)

    opening_count : (use_db : Option ℕ) → length (use_db_ops use_db) ≤ 63
    opening_count None = omega arith
    opening_count (Some number) = omega arith

    fronts : (i : Instr) → IsGeneratedInstruction n i behind → length (parts_of_instr i).front ≤ 63
    fronts (Does use_db w o) h = opening_count use_db
    fronts (Jumps how target) h = omega arith
    fronts (JumpsByList targets otherwise) h = omega arith
    fronts (Calls how block instance passings) h = let same = passing_count passings in let few = h.2 in omega (arith, same, few)
    fronts (Returns how) h = omega arith

lines_behind : (front : List SourceInstruction) (s : SourceInstruction) (rest : List SourceInstruction) → slice_get (lines_in (front ++ s ∷ rest)) (length front) ≡ Some s.line
lines_behind [] s rest = refl
lines_behind (x ∷ front) s rest = lines_behind front s rest

found_in :
    (b : CodeBlock) (at line next : ℕ) (r : OpRun) → line_placed 0 true b.code b.lines at ≡ Some line → op_run_at most_ops b.code at ≡ Some r
    → statement_fetched b at ≡ Some (fetched_of b.code line r)
unfolding statement_fetched
found_in b at line next r is run = rw is (rw run refl)

none_in : (b : CodeBlock) (at : ℕ) → line_placed 0 true b.code b.lines at ≡ None → statement_fetched b at ≡ None
unfolding statement_fetched
none_in b at is = rw is refl

statement_here :
    (b : CodeBlock) (front : List SourceInstruction) (s : SourceInstruction) (rest : List SourceInstruction)
    → OperationsHaveTheirCodes → JumpsHaveTheirKinds
    → b.code ≡ code_in (front ++ s ∷ rest) → b.lines ≡ lines_in (front ++ s ∷ rest)
    → IsGeneratedInstruction (length front) s.instr rest
    → statement_fetched b (position (front ++ s ∷ rest) (length front))
    ≡ Some (aimed_statement (position (front ++ s ∷ rest)) (length front) s)
statement_here b front s rest operations jumps is lines h =
    ap (statement_fetched b) (position_is front (s ∷ rest))
    ∙ found_in b (ends_at front) s.line 0 run line_is run_there ∙ ap Some same
  where
    ss : List SourceInstruction
    ss = front ++ s ∷ rest

    f : ℕ → ℕ
    f = position ss

    ps : List InstrParts
    ps = aimed_parts f (parts front)

    p : InstrParts
    p = aimed_part f (parts_of_instr s.instr)

    qs : List InstrParts
    qs = aimed_parts f (parts rest)

    run : OpRun
    run = record { before = p.front; last = p.end; next = extent ps + bytes_of p }

    code : b.code ≡ flat (ps ++ p ∷ qs)
    code = is ∙ the_code_is ss ∙ ap (λ (z : List InstrParts). flat (aimed_parts f z)) (parts_append front (s ∷ rest))
        ∙ ap flat (aimed_append f (parts front) (parts (s ∷ rest)))

    at : extent ps ≡ ends_at front
    at = aimed_extent f (parts front)

    line_is : line_placed 0 true b.code b.lines (ends_at front) ≡ Some s.line
    line_is = ap (λ (z : List OpData). line_placed 0 true z b.lines (ends_at front)) code
        ∙ ap (λ (k : ℕ). line_placed 0 true (flat (ps ++ p ∷ qs)) b.lines k) (sym at ∙ omega arith)
        ∙ line_at 0 ps p qs b.lines (aimed_are f (parts front) (parts_are front))
        ∙ ap (slice_get b.lines) (aimed_count f (parts front) ∙ parts_count front)
        ∙ ap (λ (z : List ℕ). slice_get z (length front)) lines ∙ lines_behind front s rest

    run_there : op_run_at most_ops b.code (ends_at front) ≡ Some run
    run_there = ap (λ (z : List OpData). op_run_at most_ops z (ends_at front)) code
        ∙ ap (op_run_at most_ops (flat (ps ++ p ∷ qs))) (sym at)
        ∙ run_is ps p qs (aimed_is f (parts_of_instr s.instr) (is_statement s.instr)) (few_before f (length front) s.instr rest h)

    next_at : extent ps + bytes_of p ≡ ends_at (front ++ s ∷ [])
    next_at = let bytes = aimed_bytes f (parts_of_instr s.instr) in let ends = ends_append front (s ∷ []) in omega (arith, bytes, ends, at)

    next_is : extent ps + bytes_of p ≡ f (suc (length front))
    next_is = next_at ∙ sym (ap (λ (z : List SourceInstruction). position z (suc (length front))) (sym (append_assoc front (s ∷ []) rest))
        ∙ ap (position ((front ++ s ∷ []) ++ rest)) (omega (arith, length-append front (s ∷ []))) ∙ position_is (front ++ s ∷ []) rest)

    instr : instr_of (operation_of p.end.code) p.end.operand (use_db_of p.front) (passings_of p.front) (extent ps + bytes_of p) b.code ≡ aimed_instr f s.instr
    instr = ap (λ (k : ℕ). back p.front p.end k b.code) next_at
        ∙ ap (back p.front p.end (ends_at (front ++ s ∷ []))) (is ∙ the_code_is ss)
        ∙ instr_back f (length front) s.instr rest (ends_at (front ++ s ∷ [])) (the_code f ss) operations jumps h (list_found front s rest s.instr h)

    same : fetched_of b.code s.line run ≡ aimed_statement f (length front) s
    same = ap (λ (z : Instr). record { instr = z; next = extent ps + bytes_of p; line = s.line }) instr
        ∙ ap (λ (k : ℕ). record { instr = aimed_instr f s.instr; next = k; line = s.line }) next_is

statement_none :
    (b : CodeBlock) (ss : List SourceInstruction) (n : ℕ) → b.code ≡ code_in ss → length ss ≤ n
    → statement_fetched b (position ss n) ≡ None
statement_none b ss n is past =
    ap (statement_fetched b) (position_past ss n past) ∙ none_in b (ends_at ss)
    (ap (λ (z : List OpData). line_placed 0 true z b.lines (ends_at ss)) (is ∙ the_code_is ss)
    ∙ ap (λ (k : ℕ). line_placed 0 true (the_code (position ss) ss) b.lines k) (sym (aimed_extent (position ss) (parts ss)) ∙ omega arith)
    ∙ line_at_end 0 (aimed_parts (position ss) (parts ss)) b.lines (aimed_are (position ss) (parts ss) (parts_are ss)))

-- the statement of a number, with those in front and behind
compiled_in : (n : ℕ) (front : List SourceInstruction) (s : SourceInstruction) (rest : List SourceInstruction) → AreCompiled n (front ++ s ∷ rest) → IsGeneratedInstruction (n + length front) s.instr rest
compiled_in n [] s rest h = subst (λ (k : ℕ). IsGeneratedInstruction k s.instr rest) (omega arith) h.0
compiled_in n (x ∷ front) s rest h = subst (λ (k : ℕ). IsGeneratedInstruction k s.instr rest) (omega arith) (compiled_in (suc n) front s rest h.1)

pub is_read_back :
    (b : CodeBlock) (ss : List SourceInstruction) → OperationsHaveTheirCodes → JumpsHaveTheirKinds
    → AreCompiled 0 ss → b.code ≡ code_in ss → b.lines ≡ lines_in ss → IsReadBack b ss
is_read_back b ss operations jumps h is lines n = by [] ss n refl (omega arith)
  where
    by : (front rest : List SourceInstruction) (k : ℕ) → ss ≡ front ++ rest → n ≡ length front + k
        → statement_fetched b (position ss n) ≡ option_map (aimed_statement (position ss) n) (slice_get rest k)
    by front [] k e count = statement_none b ss n is (let same = ap length e in let cut = length-append front [] in omega (arith, same, cut, count))
    by front (s ∷ rest) (suc k) e count =
        by (front ++ s ∷ []) rest k (e ∙ sym (append_assoc front (s ∷ []) rest))
        (let longer = length-append front (s ∷ []) in omega (arith, longer, count))
    by front (s ∷ rest) zero e count =
        let here : n ≡ length front = omega (arith, count) in
        let at_code : b.code ≡ code_in (front ++ s ∷ rest) = is ∙ ap code_in e in
        let at_lines : b.lines ≡ lines_in (front ++ s ∷ rest) = lines ∙ ap lines_in e in
        let compiled : IsGeneratedInstruction (length front) s.instr rest
        = subst (λ (k : ℕ). IsGeneratedInstruction k s.instr rest) (omega arith) (compiled_in 0 front s rest (subst (AreCompiled 0) e h)) in
        rw here (rw e (statement_here b front s rest operations jumps at_code at_lines compiled))
