-- What comes of a statement of an activation that fits: it fits again, whatever the statement does.
use Rattle.std.specs.Prelude.{◌≡◌, ◌⊎◌, ℕ, ◌<◌, ◌^◌, ◌==◌, nat_le, Bool, true, false, ◌&&◌, ◌||◌, if◌then◌else◌, List, [], ◌∷◌, length, Option, Some, None, IsSome}
use Rattle.plc_base.specs.ErrorCodes as errors
use Rattle.plc_base.specs.StopCauses as causes
use Rattle.plc_base.specs.declared.BlockId.{BlockId}
use Rattle.plc_base.specs.declared.blocks.BlockKind.TheVariants as kinds
use Rattle.plc_base.specs.declared.Width.{Width}
use Rattle.plc_base.specs.Widths.{bit_count}
use Rattle.plc_mem.specs.Areas.{Areas}
use Rattle.frames.specs.Activations.{frame_begun, frames_of}
use Rattle.frames.specs.declared.Activation.{Activation}
use Rattle.frames.specs.declared.bindings.Binding.{Binding}
use Rattle.frames.specs.declared.bindings.Binding.TheVariants as binding
use Rattle.frames.specs.declared.frame.Frame.{Frame}
use Rattle.flat_code.specs.declared.programs.Param.{Param}
use Rattle.flat_code.specs.Programs.{Program}
use Rattle.flat_code.specs.Records.{section_in}
use Rattle.machine.specs.ExecState.{local_of}
use Rattle.machine.specs.declared.outcomes.Outcome.{Outcome}
use Rattle.machine.specs.declared.outcomes.Outcome.TheVariants as outcome
use Rattle.machine.specs.Values.{number_stored_at}
use Rattle.machine.specs.Fitting.{IsMemoryOf, SameSizes, ActivationFits}
use Rattle.machine.specs.Code.{Code}
use Rattle.machine.specs.Flat.{code_of}
use Rattle.machine.specs.OpenBrackets.{open_codes}
use Rattle.machine.specs.SystemCalls.{system_function}
use Rattle.machine.specs.Statement.{GlobalStore, StatementStep, Went, Ended, SyncError, SysCall, Stop, Stuck, IsNotStuck, statement_step}

-- an activation fits a program and its memory
pub record FitsProgram (p : Program) (m : Areas) (a : Activation) : Type 0 where
  -- memory has the sizes of the program's
  pub memory : IsMemoryOf (code_of p) m
  -- the activation fits the code and the memory
  pub fits : ActivationFits (code_of p) (open_codes p) m a

-- an activation can execute its next statement in a code, which needn't be that of a program: a frame
-- stands, as many frames have local data as stand, and nothing that the statement needs is missing
pub record IsStatementReady (code : Code) (a : Activation) : Type 0 where
  -- a frame stands
  pub stands : a.ended ≡ false
  -- as many frames have local data as stand
  pub depth : length a.running.locals.starts ≡ length (frames_of a)
  -- nothing that the statement needs is missing, whatever memory, timers and counters are
  pub there : (w : GlobalStore) → IsNotStuck (statement_step code a w)

-- an organization block by its number
abbrev pub ob_block : ℕ → BlockId
ob_block number = record { kind = kinds.Ob; number = number }

-- the frame with which an organization block begins: at its first statement, with nothing open
abbrev pub first_frame : (ob local_len : ℕ) → Frame
first_frame ob local_len = frame_begun (ob_block ob) local_len

-- no area and no data block has become longer or shorter, and the activation fits
pub record GoesOnFitting (p : Program) (old new : Areas) (a : Activation) : Type 0 where
  -- each area and each data block has as many bytes as before
  pub sizes : SameSizes old new
  -- the activation fits the program and the new memory
  pub fits : FitsProgram p new a

-- the result of a system function can be written where it was bound; some have none
abbrev pub TakesResult : Option Binding → Activation → Areas → Type 0
TakesResult None a m = Unit {0}
TakesResult (Some (binding.AtPlace place width frame)) a m =
    (value : ℕ)
    → IsSome (number_stored_at (record { place = place; width = width; frame = frame }) value
    (local_of a.running) m)
TakesResult (Some result) a m = ⊥

-- the widths of IN parameters
abbrev pub input_widths : List Param → List Width
input_widths [] = []
input_widths (p ∷ rest) =
    if p.section == section_in then p.width ∷ input_widths rest else input_widths rest

-- one number for each width, which it fits
abbrev pub FitWidths : List Width → List ℕ → Type 0
FitWidths [] [] = Unit {0}
FitWidths (w ∷ ws) (n ∷ ns) = (n < 2 ^ bit_count w) × FitWidths ws ns
FitWidths widths numbers = ⊥

-- a system function that there is, given a number for each IN parameter
abbrev pub TakesInputs : Option (List Param) → (inputs : List ℕ) → Type 0
TakesInputs None inputs = ⊥
TakesInputs (Some params) inputs = FitWidths (input_widths params) inputs

-- the codes of synchronous errors: 21 to 3A (OB 121), 42 and 43 (OB 122)
abbrev pub is_error_code : (code : ℕ) → Bool
is_error_code code =
    nat_le errors.bad_bcd code && nat_le code errors.no_data_block
    || nat_le errors.no_peripheral code && nat_le code errors.no_peripheral_to_write

-- what comes of a statement of an activation that fits: it fits again
abbrev pub StepFitsAgain : Program → GlobalStore → StatementStep → Type 0
StepFitsAgain p w (Went a after) = GoesOnFitting p w.memory after.memory a
StepFitsAgain p w (Ended regs after) = SameSizes w.memory after.memory
StepFitsAgain p w (SyncError code a) = (is_error_code code ≡ true) × FitsProgram p w.memory a
StepFitsAgain p w (SysCall number given a) =
    TakesInputs (system_function number) given.inputs × TakesResult given.result a w.memory
    × FitsProgram p w.memory a
StepFitsAgain p w (Stop cause) = (cause ≡ causes.block_depth) ⊎ (cause ≡ causes.local_data)
StepFitsAgain p w Stuck = ⊥

-- what a statement leaves, by its answer: an activation that fits again, or, where the outermost
-- block has ended, memory alone; codes, causes and arguments are right
abbrev pub LeavesActivation : Program → Areas → Activation → Outcome → Type 0
LeavesActivation p m a outcome.Went = FitsProgram p m a
LeavesActivation p m a outcome.Ended = IsMemoryOf (code_of p) m
LeavesActivation p m a (outcome.SyncError code) = (is_error_code code ≡ true) × FitsProgram p m a
LeavesActivation p m a (outcome.SysCall number inputs result) =
    TakesInputs (system_function number) inputs × TakesResult result a m × FitsProgram p m a
LeavesActivation p m a (outcome.Stop cause) =
    ((cause ≡ causes.block_depth) ⊎ (cause ≡ causes.local_data)) × FitsProgram p m a

-- what a call of a statement leaves fits: no area and no data block becomes longer or shorter, so
-- activations that wait fit as before, and so does this one
pub record LeavesFit (p : Program) (old new : Areas) (a : Activation) (answer : Outcome)
    : Type 0 where
  -- each area and each data block has as many bytes as before
  pub sizes : SameSizes old new
  -- the activation fits again by its answer, and codes, causes and arguments are right
  pub leaves : LeavesActivation p new a answer
