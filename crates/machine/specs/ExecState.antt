-- What an instruction may see and change: never a block, nor a position in one.
use Rattle.std.specs.Prelude.{ℕ, List, Result, Ok, Err}
use Rattle.status_word.specs.declared.Regs.{Regs}
use Rattle.plc_mem.specs.Areas.{Areas}
use Rattle.timers_counters.specs.Timer.{Timer}
use Rattle.timers_counters.specs.Counter.{Counter}
use Rattle.frames.specs.FrameData.{FrameData, frame_data_of, with_frame_data}
use Rattle.frames.specs.Locals.{LocalData}
use Rattle.frames.specs.declared.running.Running.{Running}

-- what an activation has of its own: registers, the innermost frame but for its block, position and
-- count of local bytes, and the local bytes of all frames
pub record Local : Type 0 where
  -- the registers of the CPU with the status word
  pub regs : Regs
  -- the innermost frame, but for its block, position and count of local bytes
  pub inner : FrameData
  -- the local bytes (L) of all frames
  pub locals : LocalData

-- what an instruction may see and change of the running block (registers, brackets, local data),
-- and memory
pub record LocalMemory : Type 0 where
  -- what the running block has of its own
  pub local : Local
  -- the memory areas but local data
  pub memory : Areas

-- all that an instruction may see and change: what the running block has of its own, memory, timers
-- and counters
pub record ExecState : Type 0 where
  -- what the running block has of its own
  pub local : Local
  -- the memory areas but local data
  pub memory : Areas
  -- the timers, by number
  pub timers : List Timer
  -- the counters, by number
  pub counters : List Counter

-- what an instruction works on of a running block: all but which block it is, its position and how
-- many local bytes it has
abbrev pub local_of : Running → Local
local_of s = record { regs = s.regs; inner = frame_data_of s.frame; locals = s.locals }

-- a running block and the memory that its instructions read and write
abbrev pub local_memory_of : Running → Areas → LocalMemory
local_memory_of s m = record { local = local_of s; memory = m }

-- a running block, memory, timers and counters: all that an instruction may work on
abbrev pub exec_state_of : Running → Areas → List Timer → List Counter → ExecState
exec_state_of s m t n = record { local = local_of s; memory = m; timers = t; counters = n }

-- the running block with these registers, frame data and local data; its block and position stay
abbrev pub with_local : Running → Local → Running
with_local s o =
    record s { regs = o.regs; frame = with_frame_data s.frame o.inner; locals = o.locals }

-- what a function makes of a first result, or the error code of that result
abbrev pub then_ok : {A B : Type 0} → Result A ℕ → (A → Result B ℕ) → Result B ℕ
then_ok (Ok x) f = f x
then_ok (Err e) f = Err e
