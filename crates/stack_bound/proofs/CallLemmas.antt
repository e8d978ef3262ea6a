-- A statement that is a call stands in the code of its block.
use Rattle.std.proofs.Common.{◌≡◌, ◌⊎◌, inl, inr, ℕ, zero, suc, ◌+◌, Bool, true, false, List, [], ◌∷◌, Option, Some, None, refl, sym, ap, ◌∙◌, subst, if◌then◌else◌}
use Rattle.std.specs.Prelude.{◌==◌}
use Rattle.std.specs.Option.{option_map, option_and_then}
use Rattle.plc_base.specs.declared.blocks.BlockId.{BlockId}
use Rattle.plc_base.specs.declared.blocks.BlockKind.{BlockKind}
use Rattle.flat_code.specs.Codes.{size_of_op, most_ops}
use Rattle.flat_code.specs.Forms.{kind_of_code}
use Rattle.flat_code.specs.Instr.{Instr, Calls, Does, Jumps, JumpsByList, Returns, Passing}
use Rattle.flat_code.specs.Ops.{OpData}
use Rattle.flat_code.specs.PlacedOps.{op_placed, line_placed}
use Rattle.flat_code.specs.Programs.{CodeBlock}
use Rattle.flat_code.specs.Kinds.{jump_of_number}
use Rattle.flat_code.specs.Operations.{operation_of}
use Rattle.flat_code.specs.declared.kinds.JumpOperation.{JumpOperation}
use Rattle.flat_code.specs.declared.operands.Operand.{Operand}
use Rattle.flat_code.specs.declared.operands.Operand.TheVariants as operand
use Rattle.flat_code.specs.declared.operations.CallOperation.{CallOperation}
use Rattle.flat_code.specs.declared.operations.Operation.{Operation}
use Rattle.flat_code.specs.declared.operations.Operation.TheVariants as operation
use Rattle.machine.specs.Code.{Fetched}
use Rattle.machine.specs.Flat.{OpRun, with_op, run_with, op_run_at, use_db_of, passings_of, jump_by_operation, list_of, most_listed, is_jl, call_by_number, instr_of, fetched_of, statement_fetched}
use Rattle.stack_bound.specs.Calls.{block_named, callee_in, CallsIn}

-- the op of an offset is one of the ops
abbrev IsOneOfOps : OpData → List OpData → Type 0
IsOneOfOps op [] = ⊥
IsOneOfOps op (one ∷ ops) = (one ≡ op) ⊎ IsOneOfOps op ops

pair_first : (x y : OpData × ℕ) → Some x ≡ Some y → x.0 ≡ y.0
pair_first x y is = ap (λ (o : Option (OpData × ℕ)). first_or x.0 o) is
  where
    first_or : OpData → Option (OpData × ℕ) → OpData
    first_or d None = d
    first_or d (Some z) = z.0

placed_in : (from : ℕ) (ops : List OpData) (at : ℕ) (r : OpData × ℕ) → op_placed from ops at ≡ Some r
    → IsOneOfOps r.0 ops
placed_in from [] at r is = absurd cc
placed_in from (op ∷ ops) at r is =
    by (λ same. placed_in (from + size_of_op op) ops at r same) (from == at) is
  where
    by : (op_placed (from + size_of_op op) ops at ≡ Some r → IsOneOfOps r.0 ops) → (test : Bool)
        → (if test then Some (op, from + size_of_op op) else op_placed (from + size_of_op op) ops at) ≡ Some r
        → (op ≡ r.0) ⊎ IsOneOfOps r.0 ops
    by next true same = inl (pair_first (op, from + size_of_op op) r same)
    by next false same = inr (next same)

last_of : OpRun → OpData
last_of r = r.last

-- the last op of a run is one of the ops
last_in_with : (ops : List OpData) (found : Option (OpData × ℕ)) (more : ℕ → Option OpRun) (run : OpRun)
    → ((r : OpData × ℕ) → found ≡ Some r → IsOneOfOps r.0 ops)
    → ((next : ℕ) (later : OpRun) → more next ≡ Some later → IsOneOfOps later.last ops)
    → run_with found more ≡ Some run → IsOneOfOps run.last ops
last_in_with ops None more run here later is = absurd cc
last_in_with ops (Some r) more run here later is = by r.0.last is
  where
    some_last : OpRun → Option OpRun → OpData
    some_last d None = d.last
    some_last d (Some x) = x.last

    mapped : (rest : Option OpRun) → more r.1 ≡ rest → option_map (with_op r.0) rest ≡ Some run
        → IsOneOfOps run.last ops
    mapped None same none = absurd cc
    mapped (Some x) same some =
        subst (λ (o : OpData). IsOneOfOps o ops) (ap (λ (o : Option OpRun). some_last run o) some)
        (later r.1 x same)

    by : (test : Bool)
        → (if test then Some (record { before = []; last = r.0; next = r.1 })
        else option_map (with_op r.0) (more r.1)) ≡ Some run → IsOneOfOps run.last ops
    by true same =
        subst (λ (o : OpData). IsOneOfOps o ops) (ap (λ (o : Option OpRun). some_last run o) same) (here r refl)
    by false same = mapped (more r.1) refl same

last_in : (most : ℕ) (ops : List OpData) (at : ℕ) (run : OpRun) → op_run_at most ops at ≡ Some run
    → IsOneOfOps run.last ops
unfolding op_run_at
last_in zero ops at run is = absurd cc
last_in (suc most) ops at run is =
    last_in_with ops (op_placed 0 ops at) (λ next. op_run_at most ops next) run
    (λ r same. placed_in 0 ops at r same) (λ next later same. last_in most ops next later same) is

-- ---- a call names its block

abbrev block_of_calls : BlockId → Instr → BlockId
block_of_calls d (Calls how block instance passings) = block
block_of_calls d _ = d

-- an instruction that calls no block
abbrev NeverCalls : Instr → Type 0
NeverCalls (Calls how block instance passings) = ⊥
NeverCalls _ = Unit {0}

never : (i j : Instr) → NeverCalls i → i ≡ j → NeverCalls j
never i j calm is = subst (λ (k : Instr). NeverCalls k) is calm

callee_named : (found : Option BlockKind) (how made : CallOperation) (number instance : ℕ)
    (passings given : List Passing) (block : BlockId) (named : Option ℕ) (other : Instr)
    → NeverCalls other → call_by_number found how number instance passings other ≡ Calls made block named given
    → option_map (block_named number) found ≡ Some block
callee_named None how made number instance passings given block named other calm is =
    absurd (never other (Calls made block named given) calm is)
callee_named (Some kind) how made number instance passings given block named other calm is =
    ap (λ (i : Instr). Some (block_of_calls block i)) is

jump_never : (w : JumpOperation) (target next : ℕ) (ops : List OpData) → NeverCalls (jump_by_operation w target next ops)
jump_never w target next ops = by (is_jl w)
  where
    by : (test : Bool) → NeverCalls (if test then JumpsByList (list_of most_listed ops target next) target
        else Jumps w target)
    by true = tt
    by false = tt

called_is : (w : Operation) (o : Operand) (use_db : Option ℕ) (passings : List Passing) (next : ℕ)
    (ops : List OpData) (call : CallOperation) (block : BlockId) (named : Option ℕ) (given : List Passing)
    → instr_of w o use_db passings next ops ≡ Calls call block named given
    → callee_in w o ≡ Some block
called_is operation.NoOperation o use_db passings next ops call block named given is =
    absurd (never (Does use_db operation.NoOperation o) (Calls call block named given) tt is)
called_is operation.Nop o use_db passings next ops call block named given is =
    absurd (never (Does use_db operation.Nop o) (Calls call block named given) tt is)
called_is operation.Bld o use_db passings next ops call block named given is =
    absurd (never (Does use_db operation.Bld o) (Calls call block named given) tt is)
called_is operation.UseDb o use_db passings next ops call block named given is =
    absurd (never (Does use_db operation.UseDb o) (Calls call block named given) tt is)
called_is operation.Pass o use_db passings next ops call block named given is =
    absurd (never (Does use_db operation.Pass o) (Calls call block named given) tt is)
called_is (operation.Check a) o use_db passings next ops call block named given is =
    absurd (never (Does use_db (operation.Check a) o) (Calls call block named given) tt is)
called_is (operation.Relay a) o use_db passings next ops call block named given is =
    absurd (never (Does use_db (operation.Relay a) o) (Calls call block named given) tt is)
called_is operation.OrBare o use_db passings next ops call block named given is =
    absurd (never (Does use_db operation.OrBare o) (Calls call block named given) tt is)
called_is (operation.Nest a) o use_db passings next ops call block named given is =
    absurd (never (Does use_db (operation.Nest a) o) (Calls call block named given) tt is)
called_is operation.Unnest o use_db passings next ops call block named given is =
    absurd (never (Does use_db operation.Unnest o) (Calls call block named given) tt is)
called_is operation.Load o use_db passings next ops call block named given is =
    absurd (never (Does use_db operation.Load o) (Calls call block named given) tt is)
called_is operation.Transfer o use_db passings next ops call block named given is =
    absurd (never (Does use_db operation.Transfer o) (Calls call block named given) tt is)
called_is operation.Assign o use_db passings next ops call block named given is =
    absurd (never (Does use_db operation.Assign o) (Calls call block named given) tt is)
called_is operation.Set o use_db passings next ops call block named given is =
    absurd (never (Does use_db operation.Set o) (Calls call block named given) tt is)
called_is operation.Reset o use_db passings next ops call block named given is =
    absurd (never (Does use_db operation.Reset o) (Calls call block named given) tt is)
called_is (operation.Edge a) o use_db passings next ops call block named given is =
    absurd (never (Does use_db (operation.Edge a) o) (Calls call block named given) tt is)
called_is operation.SetRlo o use_db passings next ops call block named given is =
    absurd (never (Does use_db operation.SetRlo o) (Calls call block named given) tt is)
called_is operation.ClearRlo o use_db passings next ops call block named given is =
    absurd (never (Does use_db operation.ClearRlo o) (Calls call block named given) tt is)
called_is operation.NegateRlo o use_db passings next ops call block named given is =
    absurd (never (Does use_db operation.NegateRlo o) (Calls call block named given) tt is)
called_is operation.SaveRlo o use_db passings next ops call block named given is =
    absurd (never (Does use_db operation.SaveRlo o) (Calls call block named given) tt is)
called_is operation.LoadBcd o use_db passings next ops call block named given is =
    absurd (never (Does use_db operation.LoadBcd o) (Calls call block named given) tt is)
called_is operation.LoadStatus o use_db passings next ops call block named given is =
    absurd (never (Does use_db operation.LoadStatus o) (Calls call block named given) tt is)
called_is operation.TransferStatus o use_db passings next ops call block named given is =
    absurd (never (Does use_db operation.TransferStatus o) (Calls call block named given) tt is)
called_is operation.LoadOpenBlock o use_db passings next ops call block named given is =
    absurd (never (Does use_db operation.LoadOpenBlock o) (Calls call block named given) tt is)
called_is (operation.Pointer a) o use_db passings next ops call block named given is =
    absurd (never (Does use_db (operation.Pointer a) o) (Calls call block named given) tt is)
called_is (operation.Number a) o use_db passings next ops call block named given is =
    absurd (never (Does use_db (operation.Number a) o) (Calls call block named given) tt is)
called_is (operation.Add a) o use_db passings next ops call block named given is =
    absurd (never (Does use_db (operation.Add a) o) (Calls call block named given) tt is)
called_is (operation.CompareInt a) o use_db passings next ops call block named given is =
    absurd (never (Does use_db (operation.CompareInt a) o) (Calls call block named given) tt is)
called_is (operation.CompareDint a) o use_db passings next ops call block named given is =
    absurd (never (Does use_db (operation.CompareDint a) o) (Calls call block named given) tt is)
called_is (operation.Logic a) o use_db passings next ops call block named given is =
    absurd (never (Does use_db (operation.Logic a) o) (Calls call block named given) tt is)
called_is (operation.Shift a) o use_db passings next ops call block named given is =
    absurd (never (Does use_db (operation.Shift a) o) (Calls call block named given) tt is)
called_is (operation.Start a) o use_db passings next ops call block named given is =
    absurd (never (Does use_db (operation.Start a) o) (Calls call block named given) tt is)
called_is operation.Free o use_db passings next ops call block named given is =
    absurd (never (Does use_db operation.Free o) (Calls call block named given) tt is)
called_is operation.CountUp o use_db passings next ops call block named given is =
    absurd (never (Does use_db operation.CountUp o) (Calls call block named given) tt is)
called_is operation.CountDown o use_db passings next ops call block named given is =
    absurd (never (Does use_db operation.CountDown o) (Calls call block named given) tt is)
called_is (operation.End a) o use_db passings next ops call block named given is =
    absurd (never (Returns a) (Calls call block named given) tt is)
called_is operation.OpenBlock o use_db passings next ops call block named given is =
    absurd (never (Does use_db operation.OpenBlock o) (Calls call block named given) tt is)
called_is operation.Exchange o use_db passings next ops call block named given is =
    absurd (never (Does use_db operation.Exchange o) (Calls call block named given) tt is)
called_is operation.Jump operand.Nothing use_db passings next ops call block named given is =
    absurd (never (Does use_db operation.Jump operand.Nothing) (Calls call block named given) tt is)
called_is (operation.Call a) operand.Nothing use_db passings next ops call block named given is =
    absurd (never (Does use_db (operation.Call a) operand.Nothing) (Calls call block named given) tt is)
called_is operation.Jump (operand.Literal x0) use_db passings next ops call block named given is =
    absurd (never (Does use_db operation.Jump (operand.Literal x0)) (Calls call block named given) tt is)
called_is (operation.Call a) (operand.Literal x0) use_db passings next ops call block named given is =
    absurd (never (Does use_db (operation.Call a) (operand.Literal x0)) (Calls call block named given) tt is)
called_is operation.Jump (operand.Direct x0 x1 x2 x3) use_db passings next ops call block named given is =
    absurd (never (Does use_db operation.Jump (operand.Direct x0 x1 x2 x3)) (Calls call block named given) tt is)
called_is (operation.Call a) (operand.Direct x0 x1 x2 x3) use_db passings next ops call block named given is =
    absurd (never (Does use_db (operation.Call a) (operand.Direct x0 x1 x2 x3)) (Calls call block named given) tt is)
called_is operation.Jump (operand.ByMemory x0 x1 x2 x3) use_db passings next ops call block named given is =
    absurd (never (Does use_db operation.Jump (operand.ByMemory x0 x1 x2 x3)) (Calls call block named given) tt is)
called_is (operation.Call a) (operand.ByMemory x0 x1 x2 x3) use_db passings next ops call block named given is =
    absurd (never (Does use_db (operation.Call a) (operand.ByMemory x0 x1 x2 x3)) (Calls call block named given) tt is)
called_is operation.Jump (operand.ByRegister x0 x1 x2 x3) use_db passings next ops call block named given is =
    absurd (never (Does use_db operation.Jump (operand.ByRegister x0 x1 x2 x3)) (Calls call block named given) tt is)
called_is (operation.Call a) (operand.ByRegister x0 x1 x2 x3) use_db passings next ops call block named given is =
    absurd (never (Does use_db (operation.Call a) (operand.ByRegister x0 x1 x2 x3)) (Calls call block named given) tt is)
called_is operation.Jump (operand.Parameter x0 x1) use_db passings next ops call block named given is =
    absurd (never (Does use_db operation.Jump (operand.Parameter x0 x1)) (Calls call block named given) tt is)
called_is (operation.Call a) (operand.Parameter x0 x1) use_db passings next ops call block named given is =
    absurd (never (Does use_db (operation.Call a) (operand.Parameter x0 x1)) (Calls call block named given) tt is)
called_is operation.Jump (operand.Numbered x0 x1) use_db passings next ops call block named given is =
    absurd (never (Does use_db operation.Jump (operand.Numbered x0 x1)) (Calls call block named given) tt is)
called_is (operation.Call a) (operand.Numbered x0 x1) use_db passings next ops call block named given is =
    absurd (never (Does use_db (operation.Call a) (operand.Numbered x0 x1)) (Calls call block named given) tt is)
called_is operation.Jump (operand.NumberedBy x0 x1 x2) use_db passings next ops call block named given is =
    absurd (never (Does use_db operation.Jump (operand.NumberedBy x0 x1 x2)) (Calls call block named given) tt is)
called_is (operation.Call a) (operand.NumberedBy x0 x1 x2) use_db passings next ops call block named given is =
    absurd (never (Does use_db (operation.Call a) (operand.NumberedBy x0 x1 x2)) (Calls call block named given) tt is)
called_is operation.Jump (operand.Jump x0 x1) use_db passings next ops call block named given is =
    absurd (never (jump_by_operation (jump_of_number x0) x1 next ops) (Calls call block named given)
    (jump_never (jump_of_number x0) x1 next ops) is)
called_is (operation.Call a) (operand.Jump x0 x1) use_db passings next ops call block named given is =
    absurd (never (Does use_db (operation.Call a) (operand.Jump x0 x1)) (Calls call block named given) tt is)
called_is operation.Jump (operand.OfStatus x0) use_db passings next ops call block named given is =
    absurd (never (Does use_db operation.Jump (operand.OfStatus x0)) (Calls call block named given) tt is)
called_is (operation.Call a) (operand.OfStatus x0) use_db passings next ops call block named given is =
    absurd (never (Does use_db (operation.Call a) (operand.OfStatus x0)) (Calls call block named given) tt is)
called_is operation.Jump (operand.UseDb x0) use_db passings next ops call block named given is =
    absurd (never (Does use_db operation.Jump (operand.UseDb x0)) (Calls call block named given) tt is)
called_is (operation.Call a) (operand.UseDb x0) use_db passings next ops call block named given is =
    absurd (never (Does use_db (operation.Call a) (operand.UseDb x0)) (Calls call block named given) tt is)
called_is operation.Jump (operand.Pass x0 x1) use_db passings next ops call block named given is =
    absurd (never (Does use_db operation.Jump (operand.Pass x0 x1)) (Calls call block named given) tt is)
called_is (operation.Call a) (operand.Pass x0 x1) use_db passings next ops call block named given is =
    absurd (never (Does use_db (operation.Call a) (operand.Pass x0 x1)) (Calls call block named given) tt is)
called_is operation.Jump (operand.Called x0 x1 x2) use_db passings next ops call block named given is =
    absurd (never (Does use_db operation.Jump (operand.Called x0 x1 x2)) (Calls call block named given) tt is)
called_is (operation.Call a) (operand.Called x0 x1 x2) use_db passings next ops call block named given is =
    callee_named (kind_of_code x0) a call x1 x2 passings given block named
    (Does use_db (operation.Call a) (operand.Called x0 x1 x2)) tt is
called_is operation.Jump (operand.OpenBlock x0 x1) use_db passings next ops call block named given is =
    absurd (never (Does use_db operation.Jump (operand.OpenBlock x0 x1)) (Calls call block named given) tt is)
called_is (operation.Call a) (operand.OpenBlock x0 x1) use_db passings next ops call block named given is =
    absurd (never (Does use_db (operation.Call a) (operand.OpenBlock x0 x1)) (Calls call block named given) tt is)
called_is operation.Jump (operand.OpenBy x0 x1 x2) use_db passings next ops call block named given is =
    absurd (never (Does use_db operation.Jump (operand.OpenBy x0 x1 x2)) (Calls call block named given) tt is)
called_is (operation.Call a) (operand.OpenBy x0 x1 x2) use_db passings next ops call block named given is =
    absurd (never (Does use_db (operation.Call a) (operand.OpenBy x0 x1 x2)) (Calls call block named given) tt is)

-- ---- in the code of a block

calls_in : (op : OpData) (ops : List OpData) (block : BlockId) → IsOneOfOps op ops
    → callee_in (operation_of op.code) op.operand ≡ Some block → CallsIn ops block
calls_in op [] block here is = absurd here
calls_in op (one ∷ ops) block (inl same) is =
    inl (subst (λ (o : OpData). callee_in (operation_of o.code) o.operand ≡ Some block) (sym same) is)
calls_in op (one ∷ ops) block (inr later) is = inr (calls_in op ops block later is)

abbrev instr_in : Fetched → Option Fetched → Instr
instr_in f None = f.instr
instr_in f (Some g) = g.instr

pub statement_calls : (b : CodeBlock) (at : ℕ) (f : Fetched) (call : CallOperation) (block : BlockId)
    (named : Option ℕ) (given : List Passing) → statement_fetched b at ≡ Some f
    → f.instr ≡ Calls call block named given → CallsIn b.code block
unfolding statement_fetched
statement_calls b at f call block named given is calls =
    lined (line_placed 0 true b.code b.lines at) is
  where
    ran : (line : ℕ) (run : Option OpRun) → op_run_at most_ops b.code at ≡ run
        → option_map (fetched_of b.code line) run ≡ Some f → CallsIn b.code block
    ran line None found none = absurd cc
    ran line (Some r) found some =
        calls_in r.last b.code block (last_in most_ops b.code at r found)
        (called_is (operation_of r.last.code) r.last.operand (use_db_of r.before) (passings_of r.before) r.next
        b.code call block named given
        (ap (λ (o : Option Fetched). instr_in f o) some ∙ calls))

    lined : (line : Option ℕ)
        → option_and_then (λ n. option_map (fetched_of b.code n) (op_run_at most_ops b.code at)) line ≡ Some f
        → CallsIn b.code block
    lined None none = absurd cc
    lined (Some n) some = ran n (op_run_at most_ops b.code at) refl some
