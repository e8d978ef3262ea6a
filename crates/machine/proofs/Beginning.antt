-- An organization block begins with an activation that fits, and calls of frames and memory keep one.
use Rattle.std.proofs.Common.{◌≡◌, ◌∙◌, ◌<◌, ◌≤◌, ℕ, IsSome, List, [], ◌∷◌, Option, Some, None, refl, sym, ap, arith}
use Rattle.std.specs.Option.{option_map}
use Rattle.plc_base.specs.declared.Profile.{Profile}
use Rattle.plc_base.specs.declared.Width.TheVariants as widths
use Rattle.plc_base.specs.declared.BlockId.{BlockId}
use Rattle.plc_base.specs.declared.blocks.BlockKind.TheVariants as kinds
use Rattle.plc_mem.specs.Areas.{Areas}
use Rattle.plc_mem.specs.BitPlace.{PeripheralInputs}
use Rattle.plc_mem.specs.Fresh.{initial_memory}
use Rattle.plc_mem.specs.Peripherals.{with_input, outputs_cleared}
use Rattle.plc_mem.specs.Refresh.{memory_refreshed}
use Rattle.plc_mem.proofs.Runs.{mapped_value}
use Rattle.status_word.specs.declared.Regs.{Regs}
use Rattle.frames.specs.Activations.{activation_begun, with_local_byte}
use Rattle.frames.specs.Locals.{LocalData, no_locals, open_locals, local_byte_set}
use Rattle.frames.specs.declared.Activation.{Activation}
use Rattle.frames.specs.declared.bindings.Binding.{Binding}
use Rattle.frames.specs.declared.bindings.Binding.TheVariants as binding
use Rattle.flat_code.specs.declared.programs.Param.{Param}
use Rattle.flat_code.specs.Loading.{Verifies}
use Rattle.flat_code.specs.Programs.{CodeBlock, Program}
use Rattle.image_file.specs.Readers.{block_by_id}
use Rattle.machine.specs.Code.{BlockHead}
use Rattle.machine.specs.Fitting.{AreBound, IsMemoryOf, SameSizes}
use Rattle.machine.specs.Flat.{code_of, block_head_of}
use Rattle.machine.specs.ImageLaws.{ImageLaws}
use Rattle.machine.specs.Lasting.{FitsProgram, GoesOnFitting, first_frame}
use Rattle.machine.specs.OpenBrackets.{open_codes}
use Rattle.machine.specs.ExecState.{LocalMemory, local_memory_of}
use Rattle.machine.specs.Results.{GivesResult, with_ret_val}
use Rattle.machine.proofs.CallLemmas.{local_memory_fits}
use Rattle.machine.proofs.FrameBytes.{mapped_there, locals_opened, locals_kept, lies_written}
use Rattle.machine.proofs.Instructions.{kind_found}
use Rattle.machine.proofs.Keeping.{KeepsLocalMemory, local_kept, same_local_memory}
use Rattle.machine.proofs.Moving.{some_there, stands_of, fits_of}
use Rattle.machine.proofs.ReturnLemmas.{put_kept}
use Rattle.machine.proofs.Sizes.{areas_of_same_sizes, same_sizes, region_sizes, same_parts}
use Rattle.machine.proofs.Standing.{nothing_open, entry_start, opens_there, statement_there}

-- ---- an organization block begins

block_found :
    (p : Program) (block : BlockId) (h : BlockHead) (o : Option CodeBlock) → block_by_id block p.code_blocks ≡ o
    → option_map block_head_of o ≡ Some h → (b : CodeBlock) × (block_by_id block p.code_blocks ≡ Some b) × (block_head_of b ≡ h)
block_found p block h (Some b) is found = (b, is, let e : block_head_of b ≡ h = cc in e)
block_found p block h None is found = absurd cc

no_params :
    (ps : List Param) (m : Areas) → ps ≡ [] → AreBound kinds.Ob ps [] m []
no_params ps m is = rw is tt

pub ob_begins :
    (l : ImageLaws) (f : Profile) (p : Program) (m : Areas) (class ob : ℕ) (h : BlockHead) → Verifies p → IsMemoryOf (code_of p) m
    → (code_of p).head (record { kind = kinds.Ob; number = ob }) ≡ Some h
    → FitsProgram p m (activation_begun f class ob (first_frame ob h.local_len))
ob_begins l profile p m class ob h verifies memory found =
    let block : BlockId = record { kind = kinds.Ob; number = ob } in
    let f = first_frame ob h.local_len in
    let one = block_found p block h (block_by_id block p.code_blocks) refl found in
    let b = one.0 in
    let entry = entry_start l p block b verifies one.1 in
    let right = (l.blocks p b block verifies one.1).organization (kind_found p.code_blocks block b one.1) in
    let params : h.params ≡ [] = ap (λ (x : BlockHead). x.params) (sym one.2) ∙ right.0 in
    record {
      memory = memory;
      fits = fits_of (code_of p) (open_codes p) m (activation_begun profile class ob f) (record {
        stands = refl;
        frame = record {
          statement = let s = statement_there l p block 0 nothing_open entry in some_there ((code_of p).fetch block 0) _ s.fetched;
          open_brackets = opens_there p block 0 nothing_open entry;
          block = rw found (record { local_len = refl; bindings = no_params h.params m params; instance = tt });
          db = tt;
          di = tt;
        };
        below = tt;
        locals = locals_opened f [] no_locals (record { starts = refl; len = refl });
      });
    }

-- its local bytes find room
pub local_room :
    (l : ImageLaws) (p : Program) (ob : ℕ) (h : BlockHead) → Verifies p
    → (code_of p).head (record { kind = kinds.Ob; number = ob }) ≡ Some h → h.local_len ≤ 1024
local_room l p ob h verifies found =
    let block : BlockId = record { kind = kinds.Ob; number = ob } in
    let one = block_found p block h (block_by_id block p.code_blocks) refl found in
    let few = (l.blocks p one.0 block verifies one.1).room in
    let same : one.0.local_len ≡ h.local_len = ap (λ (x : BlockHead). x.local_len) one.2 in
    omega (arith, few, same)

-- it has room for its start information
pub start_written :
    (l : ImageLaws) (f : Profile) (p : Program) (class ob byte value : ℕ) (h : BlockHead) → Verifies p
    → (code_of p).head (record { kind = kinds.Ob; number = ob }) ≡ Some h → byte < 20
    → IsSome (with_local_byte 0 byte value (activation_begun f class ob (first_frame ob h.local_len)))
start_written l profile p class ob byte value h verifies found less =
    let block : BlockId = record { kind = kinds.Ob; number = ob } in
    let f = first_frame ob h.local_len in
    let one = block_found p block h (block_by_id block p.code_blocks) refl found in
    let b = one.0 in
    let right = (l.blocks p b block verifies one.1).organization (kind_found p.code_blocks block b one.1) in
    let long : 20 ≤ h.local_len = let e : b.local_len ≡ h.local_len = ap (λ (x : BlockHead). x.local_len) one.2 in let r = right.1 in omega (arith, e, r) in
    mapped_there _ (local_byte_set (open_locals f.local_len no_locals) 0 byte value)
    (lies_written (f ∷ []) (open_locals f.local_len no_locals) 0 byte 0 value widths.Byte
    (locals_opened f [] no_locals (record { starts = refl; len = refl })) (omega (arith, less, long), tt))

-- ---- what else changes an activation

pub local_byte_fits :
    (p : Program) (m : Areas) (a b : Activation) (frame byte value : ℕ) → with_local_byte frame byte value a ≡ Some b
    → FitsProgram p m a → FitsProgram p m b
local_byte_fits p m a b frame byte value done h =
    let was = mapped_value (λ (l : LocalData). let r : Activation = record a { running = record a.running { locals = l } } in r)
    (local_byte_set a.running.locals frame byte value) b done in
    let kept = local_kept a.running.locals was.0 frame byte 0 widths.Byte value was.1 in
    let s = stands_of (code_of p) (open_codes p) m a h.fits in
    rw (sym was.2) (record {
      memory = h.memory;
      fits = fits_of (code_of p) (open_codes p) m (record a { running = record a.running { locals = was.0 } }) (record {
        stands = s.stands;
        frame = s.frame;
        below = s.below;
        locals = locals_kept (a.running.frame ∷ a.below) a.running.locals was.0 kept.starts kept.len s.locals;
      });
    })

pub registers_fit :
    (p : Program) (m : Areas) (a : Activation) (r : Regs) → FitsProgram p m a
    → FitsProgram p m (record a { running = record a.running { regs = r } })
registers_fit p m a r h =
    let s = stands_of (code_of p) (open_codes p) m a h.fits in
    record {
      memory = h.memory;
      fits = fits_of (code_of p) (open_codes p) m (record a { running = record a.running { regs = r } })
          (record { stands = s.stands; frame = s.frame; below = s.below; locals = s.locals });
    }

pub delay_fits :
    (p : Program) (m : Areas) (a : Activation) (n : ℕ) → FitsProgram p m a → FitsProgram p m (record a { delay = n })
delay_fits p m a n h =
    let s = stands_of (code_of p) (open_codes p) m a h.fits in
    record {
      memory = h.memory;
      fits = fits_of (code_of p) (open_codes p) m (record a { delay = n })
          (record { stands = s.stands; frame = s.frame; below = s.below; locals = s.locals });
    }

-- ---- the result of a system function

result_kept : (to : Binding) (value : ℕ) (c : LocalMemory) → KeepsLocalMemory c.local c.memory (with_ret_val to value c)
result_kept (binding.AtPlace place width frame) value c = put_kept (record { place = place; width = width; frame = frame }) value c
result_kept (binding.Constant n) value c = same_local_memory c.local c.memory
result_kept binding.Unsupplied value c = same_local_memory c.local c.memory

pub result_fits :
    (l : ImageLaws) (p : Program) (m n : Areas) (a b : Activation) (to : Binding) (value : ℕ) → Verifies p
    → FitsProgram p m a → GivesResult to value a b m n → GoesOnFitting p m n b
result_fits l p m n a b to value verifies h gives =
    let kept = result_kept to value (local_memory_of a.running m) in
    rw (gives.0, gives.1) (record { sizes = kept.memory; fits = local_memory_fits l p m a _ verifies h kept })

-- ---- memory

pub memory_begins : (f : Profile) (p : Program) → IsMemoryOf (code_of p) (initial_memory f (code_of p).blocks)
memory_begins f p = record { profile = f; sizes = same_sizes (initial_memory f (code_of p).blocks) }

pub input_sizes : (m n : Areas) (byte value : ℕ) → with_input m byte value ≡ Some n → SameSizes m n
unfolding with_input
input_sizes m n byte value done = region_sizes m n PeripheralInputs byte 0 widths.Byte value done

pub cleared_sizes : (p : Program) (m : Areas) → IsMemoryOf (code_of p) m → SameSizes m (outputs_cleared m)
unfolding outputs_cleared initial_memory
cleared_sizes p m is =
    areas_of_same_sizes m m.inputs m.outputs m.bit_memory m.peripheral_inputs _ refl refl refl (same_parts m.peripheral_inputs)
    (record { low = sym is.sizes.peripheral_outputs.low; high = sym is.sizes.peripheral_outputs.high })

pub refreshed_sizes : (p : Program) (m : Areas) → IsMemoryOf (code_of p) m → SameSizes m (memory_refreshed m)
unfolding memory_refreshed initial_memory
refreshed_sizes p m is =
    areas_of_same_sizes m m.peripheral_inputs.low m.outputs m.bit_memory m.peripheral_inputs _ (is.sizes.peripheral_inputs.low ∙ sym is.sizes.inputs) refl refl
    (same_parts m.peripheral_inputs) (record { low = is.sizes.outputs ∙ sym is.sizes.peripheral_outputs.low; high = refl })
