-- What the machine gives the laws of histories: its laws of activations that fit, together.
use Rattle.std.specs.Prelude.{◌≡◌, ℕ, ◌≤◌, Some}
use Rattle.plc_base.specs.declared.Place.{Place}
use Rattle.plc_base.specs.declared.Profile.{Profile}
use Rattle.plc_base.specs.declared.Width.{Width}
use Rattle.plc_mem.specs.Areas.{Areas}
use Rattle.plc_mem.specs.Fresh.{initial_memory}
use Rattle.plc_mem.specs.Peripherals.{with_input, outputs_cleared}
use Rattle.plc_mem.specs.Refresh.{memory_refreshed}
use Rattle.plc_mem.specs.Writing.{number_written}
use Rattle.status_word.specs.declared.Regs.{Regs}
use Rattle.frames.specs.Activations.{activation_begun, with_local_byte}
use Rattle.frames.specs.declared.Activation.{Activation}
use Rattle.frames.specs.declared.bindings.Binding.{Binding}
use Rattle.flat_code.specs.Loading.{Verifies}
use Rattle.flat_code.specs.Programs.{Program}
use Rattle.machine.specs.Code.{BlockHead}
use Rattle.machine.specs.Fitting.{IsMemoryOf, SameSizes}
use Rattle.machine.specs.Flat.{code_of}
use Rattle.machine.specs.Lasting.{FitsProgram, GoesOnFitting, IsStatementReady, StepFitsAgain, first_frame, ob_block}
use Rattle.machine.specs.Results.{GivesResult}
use Rattle.machine.specs.Statement.{GlobalStore, statement_step}

-- the laws of the machine on activations that fit a program and its memory; some ask for a program
-- that verifies
pub record MachineLaws : Type 0 where
  -- an activation that fits is ready for its next statement
  pub goes : (p : Program) (m : Areas) (a : Activation)
      → Verifies p → FitsProgram p m a → IsStatementReady (code_of p) a
  -- an activation that fits does so after its next statement too
  pub lasts : (p : Program) (a : Activation) (w : GlobalStore)
      → Verifies p → FitsProgram p w.memory a → StepFitsAgain p w (statement_step (code_of p) a w)
  -- an activation that fits a memory fits each memory with areas and data blocks of the same sizes
  pub stays : (p : Program) (m n : Areas) (a : Activation)
      → SameSizes m n → FitsProgram p m a → FitsProgram p n a
  -- an organization block that begins fits
  pub begins : (profile : Profile) (p : Program) (m : Areas) (class ob : ℕ) (h : BlockHead)
      → Verifies p → IsMemoryOf (code_of p) m → (code_of p).head (ob_block ob) ≡ Some h
      → FitsProgram p m (activation_begun profile class ob (first_frame ob h.local_len))
  -- an organization block has at most 1,024 local bytes
  pub room : (p : Program) (ob : ℕ) (h : BlockHead)
      → Verifies p → (code_of p).head (ob_block ob) ≡ Some h → h.local_len ≤ 1024
  -- an activation that fits does so with any registers
  pub registers : (p : Program) (m : Areas) (a : Activation) (r : Regs)
      → FitsProgram p m a
      → FitsProgram p m (record a { running = record a.running { regs = r } })
  -- an activation that fits does so with any delay count
  pub delay : (p : Program) (m : Areas) (a : Activation) (n : ℕ)
      → FitsProgram p m a → FitsProgram p m (record a { delay = n })
  -- an activation that fits does so after a write of a local byte
  pub local_byte : (p : Program) (m : Areas) (a b : Activation) (frame byte value : ℕ)
      → with_local_byte frame byte value a ≡ Some b → FitsProgram p m a → FitsProgram p m b
  -- an activation that fits does so after RET_VAL of a system function is given where it is bound
  pub result : (p : Program) (m n : Areas) (a b : Activation) (to : Binding) (value : ℕ)
      → Verifies p → FitsProgram p m a → GivesResult to value a b m n → GoesOnFitting p m n b
  -- the memory of the first start is one of the program
  pub first : (profile : Profile) (p : Program)
      → IsMemoryOf (code_of p) (initial_memory profile (code_of p).blocks)
  -- a write to memory keeps the sizes of its areas and data blocks
  pub writes : (m n : Areas) (place : Place) (width : Width) (value : ℕ)
      → number_written m place width value ≡ Some n → SameSizes m n
  -- an input keeps the sizes of the areas and data blocks
  pub inputs : (m n : Areas) (byte value : ℕ)
      → with_input m byte value ≡ Some n → SameSizes m n
  -- clearing the peripheral outputs keeps the sizes of the areas and data blocks
  pub clears : (p : Program) (m : Areas)
      → IsMemoryOf (code_of p) m → SameSizes m (outputs_cleared m)
  -- updating the process images keeps the sizes of the areas and data blocks
  pub refreshes : (p : Program) (m : Areas)
      → IsMemoryOf (code_of p) m → SameSizes m (memory_refreshed m)
