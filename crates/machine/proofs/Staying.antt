-- What fits stays so where memory keeps its sizes.
use Rattle.std.proofs.Common.{◌≡◌, ℕ, IsSome, List, [], ◌∷◌, length, Option, Some, None, refl}
use Rattle.std.specs.Option.{option_map}
use Rattle.std.specs.FinMap as finmap
use Rattle.plc_base.specs.declared.Area.{Area}
use Rattle.plc_base.specs.declared.Area.TheVariants as areas
use Rattle.plc_base.specs.declared.blocks.BlockKind.{BlockKind}
use Rattle.plc_base.specs.declared.blocks.BlockKind.TheVariants as kinds
use Rattle.plc_mem.specs.Areas.{Areas}
use Rattle.frames.specs.Activations.{frames_of}
use Rattle.frames.specs.declared.Activation.{Activation}
use Rattle.frames.specs.declared.bindings.Binding.{Binding}
use Rattle.frames.specs.declared.bindings.Binding.TheVariants as binding
use Rattle.frames.specs.declared.frame.Frame.{Frame}
use Rattle.flat_code.specs.declared.programs.Param.{Param}
use Rattle.flat_code.specs.Programs.{Program}
use Rattle.machine.specs.declared.places.Location.{Location}
use Rattle.machine.specs.Code.{Code, BlockHead}
use Rattle.machine.specs.Fitting.{OpenCodes, ExistsIn, IsBound, AreBound, IsOpen, HasLength, HasInstance, FitsBlock, FrameFits, FramesFit, ActivationFits, SameSizes}
use Rattle.machine.specs.Flat.{code_of}
use Rattle.machine.specs.Lasting.{FitsProgram}
use Rattle.machine.proofs.Sizes.{numbers_there, memory_stays}

pub exists_still :
    (area : Area) (at : Location) (below : List Frame) (m n : Areas) → SameSizes m n → ExistsIn area at below m
    → ExistsIn area at below n
exists_still areas.L at below m n same h = h
exists_still areas.I at below m n same h = numbers_there m n at.place at.width same h
exists_still areas.Q at below m n same h = numbers_there m n at.place at.width same h
exists_still areas.M at below m n same h = numbers_there m n at.place at.width same h
exists_still areas.P at below m n same h = numbers_there m n at.place at.width same h
exists_still areas.Db at below m n same h = numbers_there m n at.place at.width same h
exists_still areas.Di at below m n same h = numbers_there m n at.place at.width same h

bound_still :
    (kind : BlockKind) (p : Param) (below : List Frame) (m n : Areas) (b : Binding) → SameSizes m n
    → IsBound kind p below m b → IsBound kind p below n b
bound_still kind p below m n (binding.AtPlace at width frame) same h =
    (h.0, exists_still at.area (record { place = at; width = width; frame = frame }) below m n same h.1)
bound_still kind p below m n (binding.Constant value) same h = h
bound_still kinds.Ob p below m n binding.Unsupplied same h = h
bound_still kinds.Fc p below m n binding.Unsupplied same h = h
bound_still kinds.Fb p below m n binding.Unsupplied same h = h
bound_still kinds.Db p below m n binding.Unsupplied same h = h
bound_still kinds.Sfc p below m n binding.Unsupplied same h = h
bound_still kinds.Udt p below m n binding.Unsupplied same h = h

all_bound_still :
    (kind : BlockKind) (ps : List Param) (below : List Frame) (m n : Areas) (bs : List Binding) → SameSizes m n
    → AreBound kind ps below m bs → AreBound kind ps below n bs
all_bound_still kind [] below m n [] same h = h
all_bound_still kind (p ∷ ps) below m n (b ∷ bs) same h =
    (bound_still kind p below m n b same h.0, all_bound_still kind ps below m n bs same h.1)
all_bound_still kind [] below m n (b ∷ bs) same h = absurd h
all_bound_still kind (p ∷ ps) below m n [] same h = absurd h

loaded_still :
    (o r : Option (List ℕ)) → option_map length r ≡ option_map length o → IsSome o → IsSome r
loaded_still (Some xs) (Some ys) same there = refl
loaded_still None r same there = absurd cc
loaded_still (Some xs) None same there = absurd cc

pub open_still : (o : Option ℕ) (m n : Areas) → SameSizes m n → IsOpen o m → IsOpen o n
open_still None m n same h = h
open_still (Some number) m n same h =
    loaded_still (finmap.get m.data_blocks number) (finmap.get n.data_blocks number) (same.data_blocks number) h

pub long_still :
    (len : ℕ) (o r : Option (List ℕ)) → option_map length r ≡ option_map length o → HasLength len o → HasLength len r
long_still len (Some xs) (Some ys) same h = let e : length ys ≡ length xs = cc in rw e h
long_still len None r same h = absurd h
long_still len (Some xs) None same h = absurd cc

instance_still :
    (kind : BlockKind) (h : BlockHead) (m n : Areas) (o : Option ℕ) → SameSizes m n → HasInstance kind h m o
    → HasInstance kind h n o
instance_still kinds.Ob h m n None same is = is
instance_still kinds.Fc h m n None same is = is
instance_still kinds.Fb h m n None same is = is
instance_still kinds.Db h m n None same is = is
instance_still kinds.Sfc h m n None same is = is
instance_still kinds.Udt h m n None same is = is
instance_still kinds.Fb h m n (Some number) same is =
    long_still h.instance_len (finmap.get m.data_blocks number) (finmap.get n.data_blocks number) (same.data_blocks number) is
instance_still kinds.Ob h m n (Some number) same is = absurd is
instance_still kinds.Fc h m n (Some number) same is = absurd is
instance_still kinds.Db h m n (Some number) same is = absurd is
instance_still kinds.Sfc h m n (Some number) same is = absurd is
instance_still kinds.Udt h m n (Some number) same is = absurd is

pub block_still :
    (h : Option BlockHead) (f : Frame) (below : List Frame) (m n : Areas) → SameSizes m n → FitsBlock h f below m
    → FitsBlock h f below n
block_still None f below m n same is = absurd is
block_still (Some h) f below m n same is = record {
  local_len = is.local_len;
  bindings = all_bound_still f.block.kind h.params below m n f.bindings same is.bindings;
  instance = instance_still f.block.kind h m n f.instance same is.instance;
}

pub frame_still :
    (c : Code) (brackets : OpenCodes) (m n : Areas) (below : List Frame) (f : Frame) → SameSizes m n
    → FrameFits c brackets m below f → FrameFits c brackets n below f
frame_still c brackets m n below f same fits = record {
  statement = fits.statement;
  open_brackets = fits.open_brackets;
  block = block_still (c.head f.block) f below m n same fits.block;
  db = open_still f.db m n same fits.db;
  di = open_still f.di m n same fits.di;
}

pub frames_still :
    (c : Code) (brackets : OpenCodes) (m n : Areas) (frames : List Frame) → SameSizes m n
    → FramesFit c brackets m frames → FramesFit c brackets n frames
frames_still c brackets m n [] same fits = tt
frames_still c brackets m n (f ∷ below) same fits =
    (frame_still c brackets m n below f same fits.0, frames_still c brackets m n below same fits.1)

pub fits_still :
    (c : Code) (brackets : OpenCodes) (m n : Areas) (a : Activation) → SameSizes m n → ActivationFits c brackets m a
    → ActivationFits c brackets n a
fits_still c brackets m n a same fits = record {
  stands = fits.stands;
  frames = frames_still c brackets m n (frames_of a) same fits.frames;
  locals = fits.locals;
}

pub program_fits_still :
    (p : Program) (m n : Areas) (a : Activation) → SameSizes m n → FitsProgram p m a → FitsProgram p n a
program_fits_still p m n a same h = record {
  memory = memory_stays (code_of p) m n h.memory same;
  fits = fits_still (code_of p) _ m n a same h.fits;
}
