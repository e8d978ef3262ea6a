-- A call of a block or system function leaves an activation that fits.
use Rattle.std.proofs.Common.{◌≡◌, inl, inr, ℕ, true, IsSome, List, ◌∷◌, slice_get, Option, Some, None, Result, Ok, Err, refl, ap}
use Rattle.std.specs.FinMap as finmap
use Rattle.plc_base.specs.declared.BlockId.{BlockId}
use Rattle.plc_base.specs.declared.blocks.BlockKind.{BlockKind}
use Rattle.plc_base.specs.declared.blocks.BlockKind.TheVariants as kinds
use Rattle.plc_mem.specs.Areas.{Areas}
use Rattle.status_word.specs.declared.Regs.{Regs}
use Rattle.frames.specs.Activations.{frames_of, block_entered, entry_fault}
use Rattle.frames.specs.FrameData.{FrameData}
use Rattle.frames.specs.declared.Activation.{Activation}
use Rattle.frames.specs.declared.FrameFault.{FrameFault}
use Rattle.frames.specs.declared.FrameFault.TheVariants.{Depth, LocalFull}
use Rattle.frames.specs.declared.bindings.Binding.{Binding}
use Rattle.frames.specs.declared.frame.Frame.{Frame}
use Rattle.flat_code.specs.declared.programs.Param.{Param}
use Rattle.flat_code.specs.Codes.{first_found}
use Rattle.flat_code.specs.Instr.{Passing}
use Rattle.flat_code.specs.Loading.{Verifies}
use Rattle.flat_code.specs.Programs.{CodeBlock, Program}
use Rattle.image_file.specs.Readers.{block_by_id}
use Rattle.machine.specs.Bindings.{param_bindings}
use Rattle.machine.specs.Code.{BlockHead}
use Rattle.machine.specs.Entering.{Stops, block_call, call_with_bindings, caller_at, entry_or_stop, called_frame as fresh_frame, activation_continued_at, instance_supplied}
use Rattle.machine.specs.Fitting.{IsOpen, HasLength, AreBound, HasInstance, FrameFits, open_in_frame}
use Rattle.machine.specs.Flat.{code_of, block_head_of}
use Rattle.machine.specs.ImageLaws.{ImageLaws}
use Rattle.machine.specs.Lasting.{FitsProgram, StepFitsAgain}
use Rattle.machine.specs.OpenBrackets.{open_codes}
use Rattle.machine.specs.ExecState.{LocalMemory, local_of, local_memory_of, with_local}
use Rattle.machine.specs.Statement.{GlobalStore, call_step, called_block, block_called}
use Rattle.machine.proofs.BindingLemmas.{Bindings, PassingsFit, is_among, all_supplied, call_binds, call_known}
use Rattle.machine.proofs.Errors.{IfKnownError}
use Rattle.machine.proofs.FrameBytes.{locals_moved, locals_opened}
use Rattle.machine.proofs.Keeping.{IfDone, KeepsLocalMemory, open_after}
use Rattle.machine.proofs.Moving.{some_there, stands_of, fits_of, frames_are, frame_open, frame_follows, activation_follows}
use Rattle.machine.proofs.ReturnLemmas.{params_in_kept}
use Rattle.machine.proofs.Sizes.{same_sizes}
use Rattle.machine.proofs.Standing.{IsStatementStart, statement_start_there, nothing_open, entry_start, opens_there, statement_there}

-- ---- the innermost frame goes on

-- at a position, with other registers
pub going_fits :
    (l : ImageLaws) (p : Program) (m : Areas) (a : Activation) (next : ℕ) (r : Regs) → FitsProgram p m a
    → IsStatementStart p a.running.frame.block next (frame_open a.running.frame) → FitsProgram p m (activation_continued_at next r a)
going_fits l p m a next r h statement_start =
    let was = stands_of (code_of p) (open_codes p) m a h.fits in
    activation_follows l p m m a (record a.running { regs = r; frame = record a.running.frame { at = next } }) (same_sizes m) h
    (record {
      block = refl;
      local_len = refl;
      bindings = refl;
      instance = refl;
      db = was.frame.db;
      di = was.frame.di;
      held = frame_open a.running.frame;
      statement_start = statement_start;
      same = refl;
    }) refl refl

-- after bytes were written
pub local_memory_fits :
    (l : ImageLaws) (p : Program) (m : Areas) (a : Activation) (c : LocalMemory) → Verifies p → FitsProgram p m a
    → KeepsLocalMemory (local_of a.running) m c → FitsProgram p c.memory (record a { running = with_local a.running c.local })
local_memory_fits l p m a c verifies h kept =
    let f = a.running.frame in
    let was = stands_of (code_of p) (open_codes p) m a h.fits in
    activation_follows l p m c.memory a (with_local a.running c.local) kept.memory h
    (record {
      block = refl;
      local_len = refl;
      bindings = ap (λ (i : FrameData). i.bindings) kept.inner;
      instance = ap (λ (i : FrameData). i.instance) kept.inner;
      db = open_after f.db c.local.inner.db m c.memory (ap (λ (i : FrameData). i.db) kept.inner) kept.memory was.frame.db;
      di = open_after f.di c.local.inner.di m c.memory (ap (λ (i : FrameData). i.di) kept.inner) kept.memory was.frame.di;
      held = frame_open f;
      statement_start = statement_start_there p f.block f.at (frame_open f) verifies was.frame.open_brackets;
      same = ap (λ (i : FrameData). open_in_frame i.brackets i.relay) kept.inner;
    }) kept.starts kept.len

-- ---- a block is entered

open_di : (o di : Option ℕ) (m : Areas) → IsOpen di m → IsOpen o m → IsOpen (first_found o di) m
open_di None di m h is = h
open_di (Some number) di m h is = is

long_loaded : (needed : ℕ) (o : Option (List ℕ)) → HasLength needed o → IsSome o
long_loaded needed (Some bytes) h = refl
long_loaded needed None h = absurd h

instance_open : (kind : BlockKind) (h : BlockHead) (m : Areas) (o : Option ℕ) → HasInstance kind h m o → IsOpen o m
instance_open kind h m None is = tt
instance_open kinds.Fb h m (Some number) is = long_loaded h.instance_len (finmap.get m.data_blocks number) is
instance_open kinds.Ob h m (Some number) is = absurd is
instance_open kinds.Fc h m (Some number) is = absurd is
instance_open kinds.Db h m (Some number) is = absurd is
instance_open kinds.Sfc h m (Some number) is = absurd is
instance_open kinds.Udt h m (Some number) is = absurd is

pub head_there :
    (p : Program) (block : BlockId) (b : CodeBlock) → block_by_id block p.code_blocks ≡ Some b
    → (code_of p).head block ≡ Some (block_head_of b)
head_there p block b found = rw found refl

-- what a call needs of the caller: where it goes on
pub record Caller (p : Program) (m : Areas) (a : Activation) (next : ℕ) : Type 0 where
  pub fits : FitsProgram p m a
  pub verifies : Verifies p
  pub statement_start : IsStatementStart p a.running.frame.block next (frame_open a.running.frame)

-- the caller's frame behind the call
abbrev pub caller : Activation → ℕ → Frame
caller a next = record a.running.frame { at = next }

entered_fits :
    (l : ImageLaws) (p : Program) (m : Areas) (a : Activation) (next : ℕ) (block : BlockId) (b : CodeBlock) (o : Option ℕ)
    (bs : List Binding) → Caller p m a next → block_by_id block p.code_blocks ≡ Some b
    → AreBound block.kind b.params (caller a next ∷ a.below) m bs → HasInstance block.kind (block_head_of b) m o
    → FitsProgram p m (block_entered (fresh_frame (called_block block o (block_head_of b)) bs a.running.frame) (caller_at next a))
entered_fits l p m a next block b o bs h found bound instance =
    let c = code_of p in
    let brackets = open_codes p in
    let f = a.running.frame in
    let was = stands_of c brackets m a h.fits.fits in
    let g : Frame = caller a next in
    let new : Frame = fresh_frame (called_block block o (block_head_of b)) bs f in
    let entry = entry_start l p block b h.verifies found in
    let behind : FrameFits c brackets m a.below g = frame_follows l p m a.below f g (record {
      block = refl;
      local_len = refl;
      bindings = refl;
      instance = refl;
      db = was.frame.db;
      di = was.frame.di;
      held = frame_open f;
      statement_start = h.statement_start;
      same = refl;
    }) was.frame in
    let top : FrameFits c brackets m (g ∷ a.below) new = record {
      statement = let s = statement_there l p block 0 nothing_open entry in some_there (c.fetch block 0) _ s.fetched;
      open_brackets = opens_there p block 0 nothing_open entry;
      block = rw (head_there p block b found) (record { local_len = refl; bindings = bound; instance = instance });
      db = was.frame.db;
      di = open_di o f.di m was.frame.di (instance_open block.kind (block_head_of b) m o instance);
    } in
    let below_is : frames_of (caller_at next a) ≡ g ∷ a.below = frames_are (caller_at next a) was.stands in
    record {
      memory = h.fits.memory;
      fits = fits_of c brackets m (block_entered new (caller_at next a)) (record {
        stands = refl;
        frame = rw below_is top;
        below = rw below_is (behind, was.below);
        locals = rw below_is (locals_opened new (g ∷ a.below) a.running.locals (locals_moved f g a.below a.running.locals refl was.locals));
      });
    }

supplied_lasts :
    (l : ImageLaws) (p : Program) (a after : Activation) (w : GlobalStore) (next : ℕ) (o : Option ℕ) (ps : List Param)
    → Verifies p → FitsProgram p w.memory after → StepFitsAgain p w (call_step (instance_supplied o ps after w.memory) next a w)
supplied_lasts l p a after w next None ps verifies h = record { sizes = same_sizes w.memory; fits = h }
supplied_lasts l p a after w next (Some number) ps verifies h =
    let kept = params_in_kept ps 0 after.running.frame.bindings number (local_memory_of after.running w.memory) in
    record { sizes = kept.memory; fits = local_memory_fits l p w.memory after _ verifies h kept }

stops_known : (p : Program) (a : Activation) (w : GlobalStore) (next : ℕ) (fault : FrameFault) → StepFitsAgain p w (call_step (Stops fault) next a w)
stops_known p a w next Depth = inl refl
stops_known p a w next LocalFull = inr refl

called_lasts :
    (l : ImageLaws) (p : Program) (a : Activation) (w : GlobalStore) (next : ℕ) (block : BlockId) (b : CodeBlock) (o : Option ℕ)
    (r : Result (List Binding) ℕ) → Caller p w.memory a next → block_by_id block p.code_blocks ≡ Some b → IfKnownError r
    → IfDone (AreBound block.kind b.params (caller a next ∷ a.below) w.memory) r → HasInstance block.kind (block_head_of b) w.memory o
    → StepFitsAgain p w (call_step (call_with_bindings r (called_block block o (block_head_of b)) next a w.memory) next a w)
called_lasts l p a w next block b o (Err code) h found known bound instance =
    (known, going_fits l p w.memory a next a.running.regs h.fits h.statement_start)
called_lasts l p a w next block b o (Ok bs) h found known bound instance = by (entry_fault b.local_len a)
  where
    by : (fault : Option FrameFault)
        → StepFitsAgain p w (call_step (entry_or_stop fault (called_block block o (block_head_of b)) bs next a w.memory) next a w)
    by (Some fault) = stops_known p a w next fault
    by None =
        supplied_lasts l p a (block_entered (fresh_frame (called_block block o (block_head_of b)) bs a.running.frame) (caller_at next a)) w next o b.params h.verifies
        (entered_fits l p w.memory a next block b o bs h found bound instance)

-- the bindings of a block that is called: all supplied for a function
pub function_bound :
    (ps : List Param) (frames : List Frame) (m : Areas) (xs : List Passing) (r : Result (List Binding) ℕ)
    → ((i : ℕ) (q : Param) → slice_get ps i ≡ Some q → is_among i xs ≡ true) → IfDone (Bindings ps frames m xs) r
    → IfDone (AreBound kinds.Fc ps frames m) r
function_bound ps frames m xs (Ok bs) each h = all_supplied ps frames m bs h.all (λ i q found. h.some i q found (each i q found))
function_bound ps frames m xs (Err e) each h = tt

block_bound :
    (ps : List Param) (frames : List Frame) (m : Areas) (xs : List Passing) (r : Result (List Binding) ℕ)
    → IfDone (Bindings ps frames m xs) r → IfDone (AreBound kinds.Fb ps frames m) r
block_bound ps frames m xs (Ok bs) h = h.all
block_bound ps frames m xs (Err e) h = tt

-- what the caller's frame has bound fits its own block
pub own_bound :
    (p : Program) (m : Areas) (a : Activation) (b : CodeBlock) → block_by_id a.running.frame.block p.code_blocks ≡ Some b
    → FitsProgram p m a → AreBound a.running.frame.block.kind b.params a.below m a.running.frame.bindings
own_bound p m a b found h =
    let was = stands_of (code_of p) (open_codes p) m a h.fits in
    (rw (head_there p a.running.frame.block b found) at was.frame.block).bindings

pub caller_binds :
    (p : Program) (m : Areas) (a : Activation) (own : CodeBlock) (ps : List Param) (next : ℕ) (xs : List Passing)
    → block_by_id a.running.frame.block p.code_blocks ≡ Some own → FitsProgram p m a
    → PassingsFit a.running.frame.block.kind own.params ps xs
    → IfDone (Bindings ps (caller a next ∷ a.below) m xs) (param_bindings ps xs (local_of a.running) m)
caller_binds p m a own ps next xs found h fits =
    let was = stands_of (code_of p) (open_codes p) m a h.fits in
    call_binds a.running.frame.block.kind own.params ps (caller a next) a.below (local_of a.running) m xs
    (locals_moved a.running.frame (caller a next) a.below a.running.locals refl was.locals)
    (own_bound p m a own found h) fits

pub caller_known :
    (p : Program) (m : Areas) (a : Activation) (own : CodeBlock) (ps : List Param) (xs : List Passing)
    → block_by_id a.running.frame.block p.code_blocks ≡ Some own → FitsProgram p m a
    → PassingsFit a.running.frame.block.kind own.params ps xs → IfKnownError (param_bindings ps xs (local_of a.running) m)
caller_known p m a own ps xs found h fits =
    call_known a.running.frame.block.kind own.params ps a.below (local_of a.running) m xs (own_bound p m a own found h) fits

pub function_lasts :
    (l : ImageLaws) (p : Program) (a : Activation) (w : GlobalStore) (next number : ℕ) (own b : CodeBlock) (xs : List Passing)
    → Caller p w.memory a next → block_by_id a.running.frame.block p.code_blocks ≡ Some own
    → block_by_id (record { kind = kinds.Fc; number = number }) p.code_blocks ≡ Some b
    → PassingsFit a.running.frame.block.kind own.params b.params xs
    → ((i : ℕ) (q : Param) → slice_get b.params i ≡ Some q → is_among i xs ≡ true)
    → StepFitsAgain p w (block_called (Some (block_head_of b)) (record { kind = kinds.Fc; number = number }) None xs next a w)
unfolding block_call
function_lasts l p a w next number own b xs h own_is found fits each =
    let bound = caller_binds p w.memory a own b.params next xs own_is h.fits fits in
    called_lasts l p a w next (record { kind = kinds.Fc; number = number }) b None
    (param_bindings b.params xs (local_of a.running) w.memory) h found (caller_known p w.memory a own b.params xs own_is h.fits fits)
    (function_bound b.params (caller a next ∷ a.below) w.memory xs (param_bindings b.params xs (local_of a.running) w.memory) each bound) tt

pub function_block_lasts :
    (l : ImageLaws) (p : Program) (a : Activation) (w : GlobalStore) (next number : ℕ) (own b : CodeBlock) (o : Option ℕ) (xs : List Passing)
    → Caller p w.memory a next → block_by_id a.running.frame.block p.code_blocks ≡ Some own
    → block_by_id (record { kind = kinds.Fb; number = number }) p.code_blocks ≡ Some b
    → PassingsFit a.running.frame.block.kind own.params b.params xs → HasInstance kinds.Fb (block_head_of b) w.memory o
    → StepFitsAgain p w (block_called (Some (block_head_of b)) (record { kind = kinds.Fb; number = number }) o xs next a w)
unfolding block_call
function_block_lasts l p a w next number own b o xs h own_is found fits instance =
    let bound = caller_binds p w.memory a own b.params next xs own_is h.fits fits in
    called_lasts l p a w next (record { kind = kinds.Fb; number = number }) b o
    (param_bindings b.params xs (local_of a.running) w.memory) h found (caller_known p w.memory a own b.params xs own_is h.fits fits)
    (block_bound b.params (caller a next ∷ a.below) w.memory xs (param_bindings b.params xs (local_of a.running) w.memory) bound) instance
