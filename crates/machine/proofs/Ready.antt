-- An activation that fits is ready: what its statement needs is in a program that verifies.
use Rattle.std.proofs.Common.{◌≡◌, ◌∙◌, ◌⊎◌, inl, inr, arith, ltb, ◌&&◌, subst, [], ◌∷◌, ℕ, zero, suc, Bool, true, false, is_some, if◌then◌else◌, List, map, Option, Some, None, refl, sym, ap}
use Rattle.std.proofs.lemmas.Bool.{and_parts, true≢false}
use Rattle.std.proofs.lemmas.Bool.Decides.{nat_tests}
use Rattle.std.specs.Option.{option_map, option_and_then}
use Rattle.std.proofs.lemmas.Option.{same_Some}
use Rattle.plc_base.specs.Kinds.{kind_number}
use Rattle.plc_base.specs.declared.BlockId.{BlockId}
use Rattle.plc_base.specs.declared.blocks.BlockKind.{BlockKind}
use Rattle.plc_base.specs.declared.blocks.BlockKind.TheVariants as kinds
use Rattle.plc_mem.specs.Areas.{Areas}
use Rattle.frames.specs.declared.Activation.{Activation}
use Rattle.frames.specs.declared.frame.Frame.{Frame}
use Rattle.flat_code.specs.Blocks.{CalleeSignature, callee_among, callee_of_system, system_params}
use Rattle.flat_code.specs.Image.{param_of_record, kind_of_number}
use Rattle.flat_code.specs.Instr.{Does, Passing}
use Rattle.flat_code.specs.Kinds.{jump_of_number}
use Rattle.flat_code.specs.Loading.{Verifies}
use Rattle.flat_code.specs.Ops.{OpData, is_op}
use Rattle.flat_code.specs.Table.{admits, forms_of}
use Rattle.flat_code.specs.PlacedOps.{op_placed, line_placed, code_places}
use Rattle.flat_code.specs.Programs.{CodeBlock, Program}
use Rattle.flat_code.specs.Operations.{operation_of}
use Rattle.flat_code.specs.declared.operands.Operand.{Operand}
use Rattle.flat_code.specs.declared.operands.Operand.TheVariants as operand
use Rattle.flat_code.specs.declared.operations.CallOperation.{CallOperation}
use Rattle.flat_code.specs.declared.operations.Operation.{Operation}
use Rattle.flat_code.specs.declared.operations.Operation.TheVariants as operation
use Rattle.image_file.specs.Readers.{block_by_id}
use Rattle.image_file.specs.VerifiedProgram.{placed_op_at, IsVerifiedOp, IsReaderOp, OpsArePlaced, OpsAreOfTable, FitsCall, CallsFit, IsCalledBlock, CalledAreThere, block_signatures}
use Rattle.machine.specs.Code.{Code, BlockHead}
use Rattle.machine.specs.Fitting.{OpenCodes, FrameFits, FramesFit, FitsBlock, ActivationFits}
use Rattle.flat_code.specs.Forms.{is_callable_number, kind_of_code, payload_fits}
use Rattle.flat_code.specs.Codes.{most_ops}
use Rattle.machine.specs.Flat.{OpRun, op_run_at, run_with, with_op, code_of, block_head_of, call_by_number, instr_of, fetched_of, use_db_of, passings_of, statement_fetched}
use Rattle.machine.specs.Statement.{GlobalStore, statement_step, IsNotStuck}
use Rattle.machine.specs.There.{is_block_callable, is_called_block_there, is_statement_complete}
use Rattle.machine.proofs.FetchLemmas.{none_some}
use Rattle.machine.proofs.Going.{fetched_goes, jump_is_there}

-- the last op of a statement stands at some offset
abbrev HasLast : List OpData → OpRun → Type 0
HasLast ops r = (from : ℕ) × (op_placed 0 ops from ≡ Some (r.last, r.next))

abbrev LastPlaced : (most : ℕ) → List OpData → Type 0
LastPlaced most ops = (at : ℕ) (r : OpRun) → op_run_at most ops at ≡ Some r → HasLast ops r

inner_last :
    (most : ℕ) (ops : List OpData) (p : OpData × ℕ) (inner : Option OpRun) (r : OpRun) → LastPlaced most ops
    → op_run_at most ops p.1 ≡ inner → option_map (with_op p.0) inner ≡ Some r → HasLast ops r
inner_last most ops p None r along is h = absurd (none_some r (sym h))
inner_last most ops p (Some q) r along is h =
    rw (sym (same_Some (with_op p.0 q) r h)) (along p.1 q is)

last_by :
    (most : ℕ) (ops : List OpData) (at : ℕ) (last : Bool) (p : OpData × ℕ) (r : OpRun) → LastPlaced most ops
    → op_placed 0 ops at ≡ Some p
    → (if last then Some (record { before = []; last = p.0; next = p.1 }) else option_map (with_op p.0) (op_run_at most ops p.1)) ≡ Some r
    → HasLast ops r
last_by most ops at true p r along placed h =
    rw (sym (same_Some (record { before = []; last = p.0; next = p.1 }) r h)) (at, placed)
last_by most ops at false p r along placed h =
    inner_last most ops p (op_run_at most ops p.1) r along refl h

last_with :
    (most : ℕ) (ops : List OpData) (at : ℕ) (o : Option (OpData × ℕ)) (r : OpRun) → LastPlaced most ops
    → op_placed 0 ops at ≡ o → run_with o (λ next. op_run_at most ops next) ≡ Some r → HasLast ops r
last_with most ops at None r along placed h = absurd (none_some r (sym h))
last_with most ops at (Some p) r along placed h = last_by most ops at p.0.last p r along placed h

last_placed : (most : ℕ) (ops : List OpData) → LastPlaced most ops
unfolding op_run_at
last_placed zero ops at r h = absurd (none_some r (sym h))
last_placed (suc most) ops at r h =
    last_with most ops at (op_placed 0 ops at) r (last_placed most ops) refl h

-- what is called by a kind is there
some_below :
    {A B C : Type 0} (x : Option A) (f : A → B) (g : A → C) (y : B) → option_map f x ≡ Some y
    → is_some (option_map g x) ≡ true
some_below None f g y h = absurd (none_some y (sym h))
some_below (Some x) f g y h = refl

abbrev IsNumberCallable : Program → (number : ℕ) → BlockKind → Type 0
IsNumberCallable p number kind = is_block_callable (code_of p) (record { kind = kind; number = number }) ≡ true

head_there :
    (p : Program) (number : ℕ) (found kind : BlockKind) (b : CodeBlock) → found ≡ kind
    → block_by_id (record { kind = found; number = number }) p.code_blocks ≡ Some b
    → is_some (option_map block_head_of (block_by_id (record { kind = kind; number = number }) p.code_blocks)) ≡ true
head_there p number found kind b e h = rw (sym e) (rw h refl)

fc_there :
    (p : Program) (kind number : ℕ) (called : CalleeSignature) → CalledAreThere → kind ≡ 2
    → callee_among (block_signatures p) kind number ≡ Some called → IsNumberCallable p number kinds.Fc
fc_there p kind number called law e h =
    let is : IsCalledBlock p kind number called = law p kind number called (inl e) h
    in let same : kind_of_number kind ≡ kinds.Fc = rw e refl
    in head_there p number (kind_of_number kind) kinds.Fc is.block same is.there

fb_there :
    (p : Program) (kind number : ℕ) (called : CalleeSignature) → CalledAreThere → kind ≡ 3
    → callee_among (block_signatures p) kind number ≡ Some called → IsNumberCallable p number kinds.Fb
fb_there p kind number called law e h =
    let is : IsCalledBlock p kind number called = law p kind number called (inr e) h
    in let same : kind_of_number kind ≡ kinds.Fb = rw e refl
    in head_there p number (kind_of_number kind) kinds.Fb is.block same is.there

sfc_there :
    (p : Program) (kind number : ℕ) (called : CalleeSignature) → kind ≡ 5
    → callee_among (block_signatures p) kind number ≡ Some called → IsNumberCallable p number kinds.Sfc
unfolding callee_among
sfc_there p kind number called e h =
    some_below (system_params number) callee_of_system (map param_of_record) called (rw e at h)

pub kind_callable : (code kind number instance : ℕ) → is_op code (operand.Called kind number instance) ≡ true → is_callable_number kind ≡ true
unfolding is_op
kind_callable code kind number instance right =
    let fits = (and_parts (ltb code 128 && admits (forms_of code) (operand.Called kind number instance)) (payload_fits (operand.Called kind number instance)) right).1 in
    let first = (and_parts (ltb kind 256 && is_callable_number kind) (ltb number 65536 && ltb instance 65536) fits).0 in
    (and_parts (ltb kind 256) (is_callable_number kind) first).1

-- only functions, function blocks and system functions are called
abbrev pub IsCallable : ℕ → Type 0
IsCallable kind = (kind ≡ kind_number kinds.Fc) ⊎ ((kind ≡ kind_number kinds.Fb) ⊎ (kind ≡ kind_number kinds.Sfc))

pub callable_kind : (kind : ℕ) → is_callable_number kind ≡ true → IsCallable kind
callable_kind kind h = grind (arith, nat_tests, h)

called_there :
    (p : Program) (kind number : ℕ) (called : CalleeSignature) (k : BlockKind) → IsCallable kind → CalledAreThere
    → callee_among (block_signatures p) kind number ≡ Some called → kind_of_code kind ≡ Some k → IsNumberCallable p number k
called_there p kind number called k (inl e) law h is =
    rw (sym (same_Some kinds.Fc k (sym (ap kind_of_code e) ∙ is))) (fc_there p kind number called law e h)
called_there p kind number called k (inr (inl e)) law h is =
    rw (sym (same_Some kinds.Fb k (sym (ap kind_of_code e) ∙ is))) (fb_there p kind number called law e h)
called_there p kind number called k (inr (inr e)) law h is =
    rw (sym (same_Some kinds.Sfc k (sym (ap kind_of_code e) ∙ is))) (sfc_there p kind number called e h)

abbrev CallsThere : Program → CodeBlock → Operand → Type 0
CallsThere p b o =
    (kind number instance : ℕ) (k : BlockKind) → o ≡ operand.Called kind number instance
    → kind_of_code kind ≡ Some k → IsNumberCallable p number k

last_calls :
    (p : Program) (own : BlockId) (b : CodeBlock) (from next : ℕ) (op : OpData) → Verifies p → OpsArePlaced → OpsAreOfTable → CallsFit
    → CalledAreThere → block_by_id own p.code_blocks ≡ Some b → op_placed 0 b.code from ≡ Some (op, next)
    → CallsThere p b op.operand
last_calls p own b from next op verifies placed_law table_law calls_law called_law block placed kind number instance k o is =
    let read : IsReaderOp b.code from op next = placed_law b.code from op next placed
    in let there : placed_op_at read.here.at (code_places b.code) ≡ Some read.here = ap (λ z. placed_op_at z (code_places b.code)) read.offset ∙ read.place
    in let isop : IsVerifiedOp p b read.here = record { verifies = verifies; id = own; block = block; place = there }
    in let fit : FitsCall p read.here kind number instance =
    calls_law p b read.here kind number instance isop (ap (λ (z : OpData). z.operand) read.op_is ∙ o)
    in let right : is_op read.here.op.code (operand.Called kind number instance) ≡ true =
    subst (λ (z : Operand). is_op read.here.op.code z ≡ true) (ap (λ (z : OpData). z.operand) read.op_is ∙ o) (table_law p b read.here isop)
    in called_there p kind number fit.called k (callable_kind kind (kind_callable read.here.op.code kind number instance right)) called_law fit.there is

-- what the instruction of an op needs is there
call_by :
    (p : Program) (own : BlockId) (how : CallOperation) (k : Option BlockKind) (number instance : ℕ) (passings : List Passing)
    (use_db : Option ℕ) (w : Operation) (o : Operand)
    → ((kind : BlockKind) → k ≡ Some kind → IsNumberCallable p number kind)
    → is_called_block_there (code_of p) (call_by_number k how number instance passings (Does use_db w o)) own ≡ true
call_by p own how None number instance passings use_db w o needs = refl
call_by p own how (Some kind) number instance passings use_db w o needs = needs kind refl

op_there :
    (p : Program) (b : CodeBlock) (own : BlockId) (w : Operation) (o : Operand) (use_db : Option ℕ) (passings : List Passing)
    (next : ℕ) (ops : List OpData) → CallsThere p b o → is_some ((code_of p).head own) ≡ true
    → is_called_block_there (code_of p) (instr_of w o use_db passings next ops) own ≡ true
op_there p b own operation.NoOperation o use_db passings next ops calls head = refl
op_there p b own operation.Nop o use_db passings next ops calls head = refl
op_there p b own operation.Bld o use_db passings next ops calls head = refl
op_there p b own operation.UseDb o use_db passings next ops calls head = refl
op_there p b own operation.Pass o use_db passings next ops calls head = refl
op_there p b own (operation.Check with) o use_db passings next ops calls head = refl
op_there p b own operation.OrBare o use_db passings next ops calls head = refl
op_there p b own (operation.Nest with) o use_db passings next ops calls head = refl
op_there p b own operation.Unnest o use_db passings next ops calls head = refl
op_there p b own (operation.Relay which) o use_db passings next ops calls head = refl
op_there p b own operation.Load o use_db passings next ops calls head = refl
op_there p b own operation.Transfer o use_db passings next ops calls head = refl
op_there p b own operation.Assign o use_db passings next ops calls head = refl
op_there p b own operation.Set o use_db passings next ops calls head = refl
op_there p b own operation.Reset o use_db passings next ops calls head = refl
op_there p b own (operation.Edge rising) o use_db passings next ops calls head = refl
op_there p b own operation.SetRlo o use_db passings next ops calls head = refl
op_there p b own operation.ClearRlo o use_db passings next ops calls head = refl
op_there p b own operation.NegateRlo o use_db passings next ops calls head = refl
op_there p b own operation.SaveRlo o use_db passings next ops calls head = refl
op_there p b own operation.LoadBcd o use_db passings next ops calls head = refl
op_there p b own operation.LoadStatus o use_db passings next ops calls head = refl
op_there p b own operation.TransferStatus o use_db passings next ops calls head = refl
op_there p b own operation.LoadOpenBlock o use_db passings next ops calls head = refl
op_there p b own (operation.Pointer what) o use_db passings next ops calls head = refl
op_there p b own (operation.Number what) o use_db passings next ops calls head = refl
op_there p b own (operation.Add what) o use_db passings next ops calls head = refl
op_there p b own (operation.CompareInt how) o use_db passings next ops calls head = refl
op_there p b own (operation.CompareDint how) o use_db passings next ops calls head = refl
op_there p b own (operation.Logic what) o use_db passings next ops calls head = refl
op_there p b own (operation.Shift what) o use_db passings next ops calls head = refl
op_there p b own (operation.Start how) o use_db passings next ops calls head = refl
op_there p b own operation.Free o use_db passings next ops calls head = refl
op_there p b own operation.CountUp o use_db passings next ops calls head = refl
op_there p b own operation.CountDown o use_db passings next ops calls head = refl
op_there p b own operation.OpenBlock o use_db passings next ops calls head = refl
op_there p b own operation.Exchange o use_db passings next ops calls head = refl
op_there p b own operation.Jump operand.Nothing use_db passings next ops calls head = refl
op_there p b own operation.Jump (operand.Literal value) use_db passings next ops calls head = refl
op_there p b own operation.Jump (operand.Direct area width byte bit) use_db passings next ops calls head = refl
op_there p b own operation.Jump (operand.ByMemory area width from byte) use_db passings next ops calls head = refl
op_there p b own operation.Jump (operand.ByRegister area width register bits) use_db passings next ops calls head = refl
op_there p b own operation.Jump (operand.Parameter index width) use_db passings next ops calls head = refl
op_there p b own operation.Jump (operand.Numbered kind number) use_db passings next ops calls head = refl
op_there p b own operation.Jump (operand.NumberedBy kind from byte) use_db passings next ops calls head = refl
op_there p b own operation.Jump (operand.Jump kind target) use_db passings next ops calls head =
    jump_is_there (code_of p) own (jump_of_number kind) target next ops
op_there p b own operation.Jump (operand.OfStatus condition) use_db passings next ops calls head = refl
op_there p b own operation.Jump (operand.UseDb number) use_db passings next ops calls head = refl
op_there p b own operation.Jump (operand.Pass index actual) use_db passings next ops calls head = refl
op_there p b own operation.Jump (operand.Called kind number instance) use_db passings next ops calls head = refl
op_there p b own operation.Jump (operand.OpenBlock register number) use_db passings next ops calls head = refl
op_there p b own operation.Jump (operand.OpenBy register from byte) use_db passings next ops calls head = refl
op_there p b own (operation.Call how) operand.Nothing use_db passings next ops calls head = refl
op_there p b own (operation.Call how) (operand.Literal value) use_db passings next ops calls head = refl
op_there p b own (operation.Call how) (operand.Direct area width byte bit) use_db passings next ops calls head = refl
op_there p b own (operation.Call how) (operand.ByMemory area width from byte) use_db passings next ops calls head = refl
op_there p b own (operation.Call how) (operand.ByRegister area width register bits) use_db passings next ops calls head = refl
op_there p b own (operation.Call how) (operand.Parameter index width) use_db passings next ops calls head = refl
op_there p b own (operation.Call how) (operand.Numbered kind number) use_db passings next ops calls head = refl
op_there p b own (operation.Call how) (operand.NumberedBy kind from byte) use_db passings next ops calls head = refl
op_there p b own (operation.Call how) (operand.Jump kind target) use_db passings next ops calls head = refl
op_there p b own (operation.Call how) (operand.OfStatus condition) use_db passings next ops calls head = refl
op_there p b own (operation.Call how) (operand.UseDb number) use_db passings next ops calls head = refl
op_there p b own (operation.Call how) (operand.Pass index actual) use_db passings next ops calls head = refl
op_there p b own (operation.Call how) (operand.Called kind number instance) use_db passings next ops calls head =
    call_by p own how (kind_of_code kind) number instance passings use_db (operation.Call how) (operand.Called kind number instance)
    (λ k is. calls kind number instance k refl is)
op_there p b own (operation.Call how) (operand.OpenBlock register number) use_db passings next ops calls head = refl
op_there p b own (operation.Call how) (operand.OpenBy register from byte) use_db passings next ops calls head = refl
op_there p b own (operation.End how) o use_db passings next ops calls head = head

-- a statement that begins there has what it needs
with_line :
    (p : Program) (b : CodeBlock) (own : BlockId) (line : Option ℕ) (found : Option OpRun)
    → ((r : OpRun) → found ≡ Some r → CallsThere p b r.last.operand) → is_some ((code_of p).head own) ≡ true
    → is_some (option_and_then (λ line. option_map (fetched_of b.code line) found) line) ≡ true
    → is_statement_complete (code_of p) (option_and_then (λ line. option_map (fetched_of b.code line) found) line) own ≡ true
with_line p b own None found calls head there = there
with_line p b own (Some line) None calls head there = there
with_line p b own (Some line) (Some r) calls head there =
    op_there p b own (operation_of r.last.code) r.last.operand (use_db_of r.before) (passings_of r.before) r.next b.code
    (calls r refl) head

at_block :
    (p : Program) (own : BlockId) (at : ℕ) (found : Option CodeBlock) → Verifies p → OpsArePlaced → OpsAreOfTable → CallsFit
    → CalledAreThere → block_by_id own p.code_blocks ≡ found
    → is_some (option_map block_head_of found) ≡ true
    → is_some (option_and_then (λ b. statement_fetched b at) found) ≡ true
    → is_statement_complete (code_of p) (option_and_then (λ b. statement_fetched b at) found) own ≡ true
unfolding statement_fetched
at_block p own at None verifies placed_law table_law calls_law called_law block head there = there
at_block p own at (Some b) verifies placed_law table_law calls_law called_law block head there =
    with_line p b own (line_placed 0 true b.code b.lines at) (op_run_at most_ops b.code at)
    (λ r is. let last : HasLast b.code r = last_placed most_ops b.code at r is
    in last_calls p own b last.0 r.next r.last verifies placed_law table_law calls_law called_law block last.1)
    (rw block head) there

block_there :
    (h : Option BlockHead) (f : Frame) (below : List Frame) (m : Areas) → FitsBlock h f below m → is_some h ≡ true
block_there (Some h) f below m fits = refl
block_there None f below m fits = absurd fits

frame_goes :
    (p : Program) (brackets : OpenCodes) (m : Areas) (a : Activation) (w : GlobalStore) → Verifies p
    → OpsArePlaced → OpsAreOfTable → CallsFit → CalledAreThere
    → FrameFits (code_of p) brackets m a.below a.running.frame
    → IsNotStuck (statement_step (code_of p) a w)
unfolding statement_step
frame_goes p brackets m a w verifies placed_law table_law calls_law called_law fits =
    let own : BlockId = a.running.frame.block
    in let at : ℕ = a.running.frame.at
    in fetched_goes (code_of p) ((code_of p).fetch own at) a w
    (at_block p own at (block_by_id own p.code_blocks) verifies placed_law table_law calls_law called_law refl
    (block_there ((code_of p).head own) a.running.frame a.below m fits.block) fits.statement)

innermost_fits :
    (c : Code) (brackets : OpenCodes) (m : Areas) (a : Activation) (ended : Bool) → a.ended ≡ ended → ended ≡ false
    → FramesFit c brackets m (if ended then [] else a.running.frame ∷ a.below)
    → FrameFits c brackets m a.below a.running.frame
innermost_fits c brackets m a true is e fits = absurd (true≢false e)
innermost_fits c brackets m a false is e fits = fits.0

pub fits_goes :
    (p : Program) (brackets : OpenCodes) (m : Areas) (a : Activation) (w : GlobalStore) → Verifies p
    → OpsArePlaced → OpsAreOfTable → CallsFit → CalledAreThere → ActivationFits (code_of p) brackets m a
    → IsNotStuck (statement_step (code_of p) a w)
fits_goes p brackets m a w verifies placed_law table_law calls_law called_law fits =
    frame_goes p brackets m a w verifies placed_law table_law calls_law called_law
    (innermost_fits (code_of p) brackets m a a.ended refl fits.stands fits.frames)
