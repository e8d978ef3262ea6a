-- What copying parameters keeps, and that the caller fits after a return.
use Rattle.std.proofs.Common.{◌≡◌, ◌∙◌, ◌+◌, ◌%◌, ◌^◌, if◌then◌else◌, ℕ, Bool, true, false, List, [], ◌∷◌, slice_get, unwrap_or, Option, Some, None, Result, Ok, Err, refl}
use Rattle.plc_base.specs.Widths.{bit_count}
use Rattle.frames.specs.declared.Activation.{Activation}
use Rattle.frames.specs.declared.bindings.Binding.{Binding}
use Rattle.frames.specs.declared.bindings.Binding.TheVariants as binding
use Rattle.frames.specs.declared.frame.Frame.{Frame}
use Rattle.flat_code.specs.declared.programs.Param.{Param}
use Rattle.flat_code.specs.Programs.{Program}
use Rattle.machine.specs.declared.places.Location.{Location}
use Rattle.machine.specs.ExecState.{LocalMemory, local_of, local_memory_of, with_local}
use Rattle.machine.specs.Places.{location_number}
use Rattle.machine.specs.Values.{number_written_at}
use Rattle.machine.specs.Code.{BlockHead}
use Rattle.machine.specs.Copies.{is_copied_in, is_copied_out, instance_parameter_location, local_memory_or, number_stored, number_copied, actual_copied_to, copied_to_actual, param_in, param_out, params_copied_in, params_out}
use Rattle.machine.specs.Fitting.{FitsBlock}
use Rattle.machine.specs.Flat.{code_of}
use Rattle.machine.specs.Lasting.{FitsProgram, StepFitsAgain}
use Rattle.machine.specs.OpenBrackets.{open_codes}
use Rattle.machine.specs.Returning.{outputs_copied_back, return_to_caller, activation_of_caller, block_return}
use Rattle.machine.specs.Statement.{GlobalStore, after_return, return_made}
use Rattle.machine.proofs.FrameBytes.{locals_kept, locals_closed}
use Rattle.machine.proofs.Keeping.{IfDone, KeepsLocalMemory, same_local_memory, write_keeps}
use Rattle.machine.proofs.Moving.{stands_of, fits_of}
use Rattle.machine.proofs.Sizes.{sizes_then, memory_stays}
use Rattle.machine.proofs.Staying.{frames_still}

-- ---- copies

abbrev KeepsLocalMemoryOf : LocalMemory → LocalMemory → Type 0
KeepsLocalMemoryOf c d = KeepsLocalMemory c.local c.memory d

keeps_local_memory_then : (c d e : LocalMemory) → KeepsLocalMemoryOf c d → KeepsLocalMemoryOf d e → KeepsLocalMemoryOf c e
keeps_local_memory_then c d e first second = record {
  inner = second.inner ∙ first.inner;
  starts = second.starts ∙ first.starts;
  len = second.len ∙ first.len;
  memory = sizes_then c.memory d.memory e.memory first.memory second.memory;
}

local_memory_or_kept : (c : LocalMemory) (r : Result LocalMemory ℕ) → IfDone (KeepsLocalMemory c.local c.memory) r → KeepsLocalMemoryOf c (local_memory_or c r)
local_memory_or_kept c (Ok d) kept = kept
local_memory_or_kept c (Err e) kept = same_local_memory c.local c.memory

pub put_kept : (to : Location) (n : ℕ) (c : LocalMemory) → KeepsLocalMemoryOf c (number_stored to n c)
put_kept to n c = local_memory_or_kept c (number_written_at to (n % 2 ^ bit_count to.width) c.local c.memory) (write_keeps to _ c.local c.memory)

copied_kept : (from to : Location) (c : LocalMemory) → KeepsLocalMemoryOf c (number_copied from to c)
unfolding number_copied
copied_kept from to c = put_kept to (unwrap_or (location_number from c.local.locals c.memory) 0) c

passed_kept : (b : Option Binding) (to : Location) (c : LocalMemory) → KeepsLocalMemoryOf c (actual_copied_to b to c)
unfolding actual_copied_to
passed_kept (Some (binding.AtPlace place width frame)) to c = copied_kept (record { place = place; width = width; frame = frame }) to c
passed_kept (Some (binding.Constant value)) to c = put_kept to value c
passed_kept (Some binding.Unsupplied) to c = same_local_memory c.local c.memory
passed_kept None to c = same_local_memory c.local c.memory

given_kept : (from : Location) (b : Option Binding) (c : LocalMemory) → KeepsLocalMemoryOf c (copied_to_actual from b c)
unfolding copied_to_actual
given_kept from (Some (binding.AtPlace place width frame)) c = copied_kept from (record { place = place; width = width; frame = frame }) c
given_kept from (Some (binding.Constant value)) c = same_local_memory c.local c.memory
given_kept from (Some binding.Unsupplied) c = same_local_memory c.local c.memory
given_kept from None c = same_local_memory c.local c.memory

either_kept : (test : Bool) (c d : LocalMemory) → KeepsLocalMemoryOf c d → KeepsLocalMemoryOf c (if test then d else c)
either_kept true c d kept = kept
either_kept false c d kept = same_local_memory c.local c.memory

pub params_in_kept : (ps : List Param) (i : ℕ) (bs : List Binding) (instance : ℕ) (c : LocalMemory) → KeepsLocalMemoryOf c (params_copied_in ps i bs instance c)
params_in_kept [] i bs instance c = same_local_memory c.local c.memory
params_in_kept (p ∷ ps) i bs instance c =
    let d : LocalMemory = param_in p (slice_get bs i) instance c in
    keeps_local_memory_then c d (params_copied_in ps (i + 1) bs instance d)
    (either_kept (is_copied_in p) c (actual_copied_to (slice_get bs i) (instance_parameter_location p instance) c) (passed_kept (slice_get bs i) (instance_parameter_location p instance) c))
    (params_in_kept ps (i + 1) bs instance d)

pub params_out_kept : (ps : List Param) (i : ℕ) (bs : List Binding) (instance : ℕ) (c : LocalMemory) → KeepsLocalMemoryOf c (params_out ps i bs instance c)
params_out_kept [] i bs instance c = same_local_memory c.local c.memory
params_out_kept (p ∷ ps) i bs instance c =
    let d : LocalMemory = param_out p (slice_get bs i) instance c in
    keeps_local_memory_then c d (params_out ps (i + 1) bs instance d)
    (either_kept (is_copied_out p) c (copied_to_actual (instance_parameter_location p instance) (slice_get bs i) c) (given_kept (instance_parameter_location p instance) (slice_get bs i) c))
    (params_out_kept ps (i + 1) bs instance d)

-- ---- a return

stage_lasts :
    (p : Program) (a : Activation) (w : GlobalStore) (c : LocalMemory) (below : List Frame) → a.below ≡ below
    → KeepsLocalMemory (local_of a.running) w.memory c → FitsProgram p w.memory a
    → StepFitsAgain p w (after_return (return_to_caller below (record { activation = record a { running = with_local a.running c.local }; memory = c.memory })) w)
stage_lasts p a w c [] is kept h = kept.memory
stage_lasts p a w c (caller ∷ rest) is kept h =
    let code = code_of p in
    let brackets = open_codes p in
    let was = stands_of code brackets w.memory a h.fits in
    let frames = frames_still code brackets w.memory c.memory (caller ∷ rest) kept.memory (rw is at was.below) in
    let locals = locals_closed a.running.frame (caller ∷ rest) c.local.locals
    (locals_kept (a.running.frame ∷ caller ∷ rest) a.running.locals c.local.locals kept.starts kept.len (rw is at was.locals)) in
    record {
      sizes = kept.memory;
      fits = record {
        memory = memory_stays code w.memory c.memory h.memory kept.memory;
        fits = fits_of code brackets c.memory
            (activation_of_caller caller rest (record a { running = with_local a.running c.local }))
            (record { stands = was.stands; frame = frames.0; below = frames.1; locals = locals });
      };
    }

returning_lasts :
    (p : Program) (ps : List Param) (a : Activation) (w : GlobalStore) → FitsProgram p w.memory a
    → StepFitsAgain p w (after_return (block_return ps a w.memory) w)
unfolding block_return
returning_lasts p ps a w h = by a.running.frame.instance
  where
    by : (o : Option ℕ) → StepFitsAgain p w (after_return (return_to_caller a.below (outputs_copied_back o ps a w.memory)) w)
    by None = stage_lasts p a w (local_memory_of a.running w.memory) a.below refl (same_local_memory (local_of a.running) w.memory) h
    by (Some instance) =
        stage_lasts p a w (params_out ps 0 a.running.frame.bindings instance (local_memory_of a.running w.memory)) a.below refl
        (params_out_kept ps 0 a.running.frame.bindings instance (local_memory_of a.running w.memory)) h

pub returned_lasts :
    (p : Program) (a : Activation) (w : GlobalStore) → FitsProgram p w.memory a
    → StepFitsAgain p w (return_made ((code_of p).head a.running.frame.block) a w)
returned_lasts p a w h =
    by ((code_of p).head a.running.frame.block) (stands_of (code_of p) (open_codes p) w.memory a h.fits).frame.block
  where
    by : (o : Option BlockHead) → FitsBlock o a.running.frame a.below w.memory → StepFitsAgain p w (return_made o a w)
    by None fits = absurd fits
    by (Some head) fits = returning_lasts p head.params a w h
