-- When an activation fits a program and a memory: its statement is there, and so is all that the
-- statement may need.
use Rattle.std.specs.Prelude.{◌≡◌, ℕ, ◌+◌, ◌<◌, ◌≤◌, ◌^◌, false, List, [], ◌∷◌, length, map, reverse, slice_get, IsSome, Option, Some, None}
use Rattle.std.specs.Option.{option_map}
use Rattle.std.specs.FinMap as finmap
use Rattle.plc_base.specs.declared.Area.{Area}
use Rattle.plc_base.specs.declared.Area.TheVariants as areas
use Rattle.plc_base.specs.declared.blocks.BlockKind.{BlockKind}
use Rattle.plc_base.specs.declared.blocks.BlockKind.TheVariants as kinds
use Rattle.plc_base.specs.declared.BlockId.{BlockId}
use Rattle.plc_base.specs.declared.Profile.{Profile}
use Rattle.plc_base.specs.declared.Width.{Width}
use Rattle.plc_base.specs.declared.Width.TheVariants as widths
use Rattle.plc_base.specs.Widths.{bit_count, byte_count}
use Rattle.plc_mem.specs.Areas.{Areas, PeripheralBytes}
use Rattle.plc_mem.specs.Fresh.{initial_memory}
use Rattle.plc_mem.specs.Number.{number_at_place}
use Rattle.status_word.specs.declared.Bracket.{Bracket}
use Rattle.status_word.specs.declared.Check.{Check}
use Rattle.frames.specs.Activations.{frames_of}
use Rattle.frames.specs.Locals.{LocalData}
use Rattle.frames.specs.declared.Activation.{Activation}
use Rattle.frames.specs.declared.bindings.Binding.{Binding}
use Rattle.frames.specs.declared.bindings.Binding.TheVariants as binding
use Rattle.frames.specs.declared.frame.Frame.{Frame}
use Rattle.frames.specs.declared.relay.Relay.{Relay}
use Rattle.flat_code.specs.declared.programs.Param.{Param}
use Rattle.flat_code.specs.Records.{section_in}
use Rattle.machine.specs.declared.places.Location.{Location}
use Rattle.machine.specs.Code.{Code, BlockHead}

-- what stands open in the text: the function codes of the brackets, the innermost first, and how
-- many zones of the master control relay
pub record OpenAt : Type 0 where
  -- the function codes of the open brackets, the innermost first
  pub codes : List Check
  -- how many zones of the master control relay are open
  pub zones : ℕ

-- what stands open in the text before the statement of a block at a position; None where no
-- statement of the block begins there
abbrev pub OpenCodes : Type 0
OpenCodes = BlockId → ℕ → Option OpenAt

-- how many local bytes the frame with a place has, counted from 0 at the outermost one; the list of
-- frames has the innermost one first
abbrev pub local_len_at : (below : List Frame) → (place : ℕ) → Option ℕ
local_len_at below place = option_map (λ (f : Frame). f.local_len) (slice_get (reverse below) place)

-- the bit number of a bit operand is 0 to 7; that of a wider operand says nothing
abbrev pub HasBit : Width → (bit : ℕ) → Type 0
HasBit widths.Bit bit = bit < 8
HasBit _ bit = Unit {0}

-- the operand from a byte on lies in bytes of this count; it does not where there is no count
abbrev pub LiesIn : Option ℕ → (byte bit : ℕ) → Width → Type 0
LiesIn None byte bit width = ⊥
LiesIn (Some len) byte bit width = (byte + byte_count width ≤ len) × HasBit width bit

-- a bound place exists: in the local bytes of a frame below, or in memory
abbrev pub ExistsIn : Area → Location → (below : List Frame) → Areas → Type 0
ExistsIn areas.L at below m =
    LiesIn (local_len_at below at.frame) at.place.byte at.place.bit at.width
ExistsIn _ at below m = IsSome (number_at_place m at.place at.width)

-- a binding of a parameter: a place of its width that exists, a constant that fits an IN parameter,
-- or not supplied in a function block. `below` has the frames below, the innermost one first
abbrev pub IsBound : BlockKind → Param → (below : List Frame) → Areas → Binding → Type 0
IsBound kind p below m (binding.AtPlace at width frame) =
    (width ≡ p.width)
    × ExistsIn at.area (record { place = at; width = width; frame = frame }) below m
IsBound kind p below m (binding.Constant value) =
    (p.section ≡ section_in) × (value < 2 ^ bit_count p.width)
IsBound kinds.Fb p below m binding.Unsupplied = Unit {0}
IsBound kind p below m binding.Unsupplied = ⊥

-- each parameter of a block has one binding, which fits it
abbrev pub AreBound :
    BlockKind → List Param → (below : List Frame) → Areas → List Binding → Type 0
AreBound kind [] below m [] = Unit {0}
AreBound kind (p ∷ ps) below m (b ∷ bs) = IsBound kind p below m b × AreBound kind ps below m bs
AreBound kind params below m bindings = ⊥

-- the data block in a register is loaded, or none is open there
abbrev pub IsOpen : Option ℕ → Areas → Type 0
IsOpen None m = Unit {0}
IsOpen (Some number) m = IsSome (finmap.get m.data_blocks number)

-- a list of bytes is there, and has at least this length
abbrev pub HasLength : (len : ℕ) → Option (List ℕ) → Type 0
HasLength len None = ⊥
HasLength len (Some bytes) = len ≤ length bytes

-- an instance is given to a function block alone, and always where it has parameters
abbrev pub HasInstance : BlockKind → BlockHead → Areas → Option ℕ → Type 0
HasInstance kinds.Fb h m None = h.params ≡ []
HasInstance kind h m None = Unit {0}
HasInstance kinds.Fb h m (Some number) = HasLength h.instance_len (finmap.get m.data_blocks number)
HasInstance kind h m (Some number) = ⊥

-- what a frame holds fits the head of its block: local bytes, bindings and instance
pub record FitsHead (h : BlockHead) (f : Frame) (below : List Frame) (m : Areas) : Type 0 where
  -- the frame has as many local bytes as the block declares
  pub local_len : f.local_len ≡ h.local_len
  -- each parameter has a binding that fits it
  pub bindings : AreBound f.block.kind h.params below m f.bindings
  -- the frame of a function block has an instance where it needs one, no other has one
  pub instance : HasInstance f.block.kind h m f.instance

-- a frame is that of a block that is there (its head), and what the frame holds fits this head
abbrev pub FitsBlock : Option BlockHead → Frame → (below : List Frame) → Areas → Type 0
FitsBlock None f below m = ⊥
FitsBlock (Some h) f below m = FitsHead h f below m

-- the function codes of open brackets, in their order
abbrev pub codes_of : List Bracket → List Check
codes_of brackets = map (λ (b : Bracket). b.code) brackets

-- what is open in a frame with these brackets and this relay
abbrev pub open_in_frame : List Bracket → Relay → OpenAt
open_in_frame brackets relay = record { codes = codes_of brackets; zones = length relay.zones }

-- a frame stands at a statement of a block that is there, with the brackets and zones that are open
-- before it
pub record FrameFits
    (code : Code) (brackets : OpenCodes) (m : Areas) (below : List Frame) (f : Frame)
    : Type 0 where
  -- a statement of the block begins at the position of the frame
  pub statement : IsSome (code.fetch f.block f.at)
  -- the brackets and zones open in the frame are those open in the text before this statement
  pub open_brackets : brackets f.block f.at ≡ Some (open_in_frame f.brackets f.relay)
  -- the program has the block, and what the frame holds fits its head
  pub block : FitsBlock (code.head f.block) f below m
  -- the data block in the DB register is loaded, or none is open
  pub db : IsOpen f.db m
  -- the data block in the DI register is loaded, or none is open
  pub di : IsOpen f.di m

-- each of the frames, the innermost one first, fits
abbrev pub FramesFit : Code → OpenCodes → Areas → List Frame → Type 0
FramesFit code brackets m [] = Unit {0}
FramesFit code brackets m (f ∷ below) =
    FrameFits code brackets m below f × FramesFit code brackets m below

-- where the local bytes of frames begin, the outermost one first, each behind those before it
abbrev pub local_starts_from : (at : ℕ) → List Frame → List ℕ
local_starts_from at [] = []
local_starts_from at (f ∷ rest) = at ∷ local_starts_from (at + f.local_len) rest

-- how many local bytes frames have together
abbrev pub bytes_together : List Frame → ℕ
bytes_together [] = 0
bytes_together (f ∷ rest) = f.local_len + bytes_together rest

-- local data are those of the frames: each frame's bytes behind those of the frame before it
pub record LocalsFit (frames : List Frame) (locals : LocalData) : Type 0 where
  -- the local bytes of each frame begin behind those of the frames outside it
  pub starts : locals.starts ≡ local_starts_from 0 (reverse frames)
  -- there are as many local bytes as the frames have together
  pub len : length locals.bytes ≡ bytes_together frames

-- an activation fits: a frame stands, and each frame fits
pub record ActivationFits (code : Code) (brackets : OpenCodes) (m : Areas) (a : Activation)
    : Type 0 where
  -- a frame stands
  pub stands : a.ended ≡ false
  -- each frame fits
  pub frames : FramesFit code brackets m (frames_of a)
  -- the local data are those of the frames
  pub locals : LocalsFit (frames_of a) a.running.locals

-- how many bytes a data block has, if it is loaded
abbrev pub len_in : Areas → ℕ → Option ℕ
len_in m number = option_map length (finmap.get m.data_blocks number)

-- two peripheral areas have as many bytes in each of their two parts
pub record SameParts (p q : PeripheralBytes) : Type 0 where
  -- both areas have as many bytes in the part that begins at byte 0
  pub low : length q.low ≡ length p.low
  -- both areas have as many bytes in the part that begins at byte 256
  pub high : length q.high ≡ length p.high

-- two memories have as many bytes in each area and in each data block
pub record SameSizes (m n : Areas) : Type 0 where
  -- both memories have as many bytes in the process image of the inputs
  pub inputs : length n.inputs ≡ length m.inputs
  -- both memories have as many bytes in the process image of the outputs
  pub outputs : length n.outputs ≡ length m.outputs
  -- both memories have as many bytes of bit memory
  pub bit_memory : length n.bit_memory ≡ length m.bit_memory
  -- both memories have as many bytes in each part of the peripheral inputs
  pub peripheral_inputs : SameParts m.peripheral_inputs n.peripheral_inputs
  -- both memories have as many bytes in each part of the peripheral outputs
  pub peripheral_outputs : SameParts m.peripheral_outputs n.peripheral_outputs
  -- both memories have the same data blocks, each with as many bytes
  pub data_blocks : (number : ℕ) → len_in n number ≡ len_in m number

-- a memory of a program: the areas of some profile, and the program's data blocks with their
-- lengths
pub record IsMemoryOf (code : Code) (m : Areas) : Type 0 where
  -- the profile that gives the areas their sizes
  pub profile : Profile
  -- the sizes of areas and data blocks are those with which the program's memory begins
  pub sizes : SameSizes (initial_memory profile code.blocks) m
