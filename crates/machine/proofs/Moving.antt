-- A frame that goes on fits, and with it the activation.
use Rattle.std.proofs.Common.{◌≡◌, ◌∙◌, ℕ, Bool, true, false, if◌then◌else◌, IsSome, List, [], ◌∷◌, length, Option, Some, None, refl, sym, ap, subst}
use Rattle.plc_base.specs.declared.BlockId.{BlockId}
use Rattle.plc_mem.specs.Areas.{Areas}
use Rattle.frames.specs.Activations.{frames_of}
use Rattle.frames.specs.declared.Activation.{Activation}
use Rattle.frames.specs.declared.bindings.Binding.{Binding}
use Rattle.frames.specs.declared.frame.Frame.{Frame}
use Rattle.frames.specs.declared.running.Running.{Running}
use Rattle.flat_code.specs.Programs.{Program}
use Rattle.machine.specs.Code.{Code, BlockHead}
use Rattle.machine.specs.Fitting.{OpenAt, OpenCodes, IsOpen, AreBound, HasInstance, FitsBlock, FrameFits, FramesFit, LocalsFit, ActivationFits, SameSizes, open_in_frame}
use Rattle.machine.specs.Flat.{code_of}
use Rattle.machine.specs.ImageLaws.{ImageLaws}
use Rattle.machine.specs.Lasting.{FitsProgram}
use Rattle.machine.specs.OpenBrackets.{open_codes}
use Rattle.machine.proofs.FrameBytes.{locals_kept, locals_moved}
use Rattle.machine.proofs.Sizes.{memory_stays}
use Rattle.machine.proofs.Standing.{IsStatementStart, statement_there, opens_there}
use Rattle.machine.proofs.Staying.{frames_still}

-- ---- an activation in which a frame stands

of_standing_frames : (ended : Bool) (P : List Frame → Type 0) (fs : List Frame) → ended ≡ false → P (if ended then [] else fs) → P fs
of_standing_frames true P fs e h = absurd cc
of_standing_frames false P fs e h = h

for_standing_frames : (ended : Bool) (P : List Frame → Type 0) (fs : List Frame) → ended ≡ false → P fs → P (if ended then [] else fs)
for_standing_frames true P fs e h = absurd cc
for_standing_frames false P fs e h = h

-- an activation in which a frame stands: its innermost frame, those below and its local data fit
pub record Stands (c : Code) (brackets : OpenCodes) (m : Areas) (a : Activation) : Type 0 where
  pub stands : a.ended ≡ false
  pub frame : FrameFits c brackets m a.below a.running.frame
  pub below : FramesFit c brackets m a.below
  pub locals : LocalsFit (a.running.frame ∷ a.below) a.running.locals

pub stands_of :
    (c : Code) (brackets : OpenCodes) (m : Areas) (a : Activation) → ActivationFits c brackets m a → Stands c brackets m a
stands_of c brackets m a fits =
    let frames = of_standing_frames a.ended (FramesFit c brackets m) (a.running.frame ∷ a.below) fits.stands fits.frames in
    record {
      stands = fits.stands;
      frame = frames.0;
      below = frames.1;
      locals = of_standing_frames a.ended (λ (fs : List Frame). LocalsFit fs a.running.locals) (a.running.frame ∷ a.below) fits.stands fits.locals;
    }

pub fits_of :
    (c : Code) (brackets : OpenCodes) (m : Areas) (a : Activation) → Stands c brackets m a → ActivationFits c brackets m a
fits_of c brackets m a s = record {
  stands = s.stands;
  frames = for_standing_frames a.ended (FramesFit c brackets m) (a.running.frame ∷ a.below) s.stands (s.frame, s.below);
  locals = for_standing_frames a.ended (λ (fs : List Frame). LocalsFit fs a.running.locals) (a.running.frame ∷ a.below) s.stands s.locals;
}

pub frames_are : (a : Activation) → a.ended ≡ false → frames_of a ≡ a.running.frame ∷ a.below
frames_are a is = rw is refl

-- what is open in a frame
abbrev pub frame_open : Frame → OpenAt
frame_open f = open_in_frame f.brackets f.relay

-- ---- a frame that goes on

pub record Follows (p : Program) (n : Areas) (f g : Frame) : Type 0 where
  pub block : g.block ≡ f.block
  pub local_len : g.local_len ≡ f.local_len
  pub bindings : g.bindings ≡ f.bindings
  pub instance : g.instance ≡ f.instance
  pub db : IsOpen g.db n
  pub di : IsOpen g.di n
  pub held : OpenAt
  pub statement_start : IsStatementStart p g.block g.at held
  pub same : frame_open g ≡ held

same_block :
    (c : Code) (f g : Frame) (below : List Frame) (n : Areas) → g.block ≡ f.block → g.local_len ≡ f.local_len
    → g.bindings ≡ f.bindings → g.instance ≡ f.instance → FitsBlock (c.head f.block) f below n
    → FitsBlock (c.head g.block) g below n
same_block c f g below n block len bindings instance fits =
    subst (λ (o : Option BlockHead). FitsBlock o g below n) (ap (λ (k : BlockId). c.head k) (sym block)) (by (c.head f.block) fits)
  where
    by : (h : Option BlockHead) → FitsBlock h f below n → FitsBlock h g below n
    by None fits = fits
    by (Some h) fits = record {
      local_len = len ∙ fits.local_len;
      bindings = subst (λ (k : BlockId). AreBound k.kind h.params below n g.bindings) (sym block)
          (subst (λ (bs : List Binding). AreBound f.block.kind h.params below n bs) (sym bindings) fits.bindings);
      instance = subst (λ (k : BlockId). HasInstance k.kind h n g.instance) (sym block)
          (subst (λ (o : Option ℕ). HasInstance f.block.kind h n o) (sym instance) fits.instance);
    }

pub some_there : {A : Type 0} (o : Option A) (x : A) → o ≡ Some x → IsSome o
some_there o x is = rw is refl

pub frame_follows :
    (l : ImageLaws) (p : Program) (n : Areas) (below : List Frame) (f g : Frame) → Follows p n f g
    → FrameFits (code_of p) (open_codes p) n below f → FrameFits (code_of p) (open_codes p) n below g
frame_follows l p n below f g h fits = record {
  statement = let s = statement_there l p g.block g.at h.held h.statement_start in some_there ((code_of p).fetch g.block g.at) _ s.fetched;
  open_brackets = opens_there p g.block g.at h.held h.statement_start ∙ ap (λ (z : OpenAt). Some z) (sym h.same);
  block = same_block (code_of p) f g below n h.block h.local_len h.bindings h.instance fits.block;
  db = h.db;
  di = h.di;
}

-- the innermost frame goes on, and the others stay
pub activation_follows :
    (l : ImageLaws) (p : Program) (m n : Areas) (a : Activation) (s : Running) → SameSizes m n → FitsProgram p m a
    → Follows p n a.running.frame s.frame → s.locals.starts ≡ a.running.locals.starts
    → length s.locals.bytes ≡ length a.running.locals.bytes → FitsProgram p n (record a { running = s })
activation_follows l p m n a s sizes h follows starts len =
    let c = code_of p in
    let brackets = open_codes p in
    let was = stands_of c brackets m a h.fits in
    let all = frames_still c brackets m n (a.running.frame ∷ a.below) sizes (was.frame, was.below) in
    record {
      memory = memory_stays c m n h.memory sizes;
      fits = fits_of c brackets n (record a { running = s }) (record {
        stands = was.stands;
        frame = frame_follows l p n a.below a.running.frame s.frame follows all.0;
        below = all.1;
        locals = locals_kept (s.frame ∷ a.below) a.running.locals s.locals starts len
            (locals_moved a.running.frame s.frame a.below a.running.locals follows.local_len was.locals);
      });
    }
