-- The same program at other positions: what a function of positions does to code, frames and what
-- comes of a statement.
use Rattle.std.specs.Prelude.{◌≡◌, ℕ, map}
use Rattle.std.specs.Option.{option_map}
use Rattle.plc_base.specs.declared.blocks.BlockId.{BlockId}
use Rattle.flat_code.specs.Instr.{Instr, Does, Jumps, JumpsByList, Calls, Returns}
use Rattle.frames.specs.declared.Activation.{Activation}
use Rattle.frames.specs.declared.frame.Frame.{Frame}
use Rattle.machine.specs.Code.{Code, Fetched}
use Rattle.machine.specs.Statement.{GlobalStore, StatementStep, Went, Ended, SyncError, SysCall, Stop, Stuck, statement_step}

-- an instruction whose jump targets a function of positions has moved
abbrev pub aimed_instr : (ℕ → ℕ) → Instr → Instr
aimed_instr f (Does use_db w o) = Does use_db w o
aimed_instr f (Jumps how target) = Jumps how (f target)
aimed_instr f (JumpsByList targets otherwise) = JumpsByList (map f targets) (f otherwise)
aimed_instr f (Calls how block instance passings) = Calls how block instance passings
aimed_instr f (Returns how) = Returns how

-- a statement whose targets and position behind it are moved; its source line stays
abbrev pub moved_fetched : (ℕ → ℕ) → Fetched → Fetched
moved_fetched f s = record { instr = aimed_instr f s.instr; next = f s.next; line = s.line }

-- one code is another at other positions, given by a function in each block: at the position of
-- each position is the same statement, and everything else is the same. Blocks begin at position 0
-- in both
pub record FollowsCode (f : BlockId → ℕ → ℕ) (c d : Code) : Type 0 where
  -- position 0 of each block stays 0
  pub start : (b : BlockId) → f b 0 ≡ 0
  -- at the position of each position is the same statement, moved
  pub fetch :
      (b : BlockId) (at : ℕ) → d.fetch b (f b at) ≡ option_map (moved_fetched (f b)) (c.fetch b at)
  -- each code block has the same head
  pub head : (b : BlockId) → d.head b ≡ c.head b
  -- the data blocks are the same
  pub blocks : d.blocks ≡ c.blocks

-- a frame at the position to which its own goes; positions move block by block
abbrev pub moved_frame : (BlockId → ℕ → ℕ) → Frame → Frame
moved_frame f frame = record frame { at = f frame.block frame.at }

-- an activation with all its frames at the positions of the other code
abbrev pub moved_activation : (BlockId → ℕ → ℕ) → Activation → Activation
moved_activation f a =
    record a {
      running = record a.running { frame = moved_frame f a.running.frame };
      below = map (moved_frame f) a.below;
    }

-- what comes of a statement, with the frames of its activation moved; codes, causes and memory stay
abbrev pub moved_step : (BlockId → ℕ → ℕ) → StatementStep → StatementStep
moved_step f (Went a w) = Went (moved_activation f a) w
moved_step f (Ended regs w) = Ended regs w
moved_step f (SyncError code a) = SyncError code (moved_activation f a)
moved_step f (SysCall number given a) = SysCall number given (moved_activation f a)
moved_step f (Stop cause) = Stop cause
moved_step f Stuck = Stuck

-- law: in a code that follows another at other positions a statement does the same, at the position
-- there
abbrev pub StatementsMove : Type 0
StatementsMove =
    (f : BlockId → ℕ → ℕ) (c d : Code) (a : Activation) (w : GlobalStore) → FollowsCode f c d
    → statement_step d (moved_activation f a) w ≡ moved_step f (statement_step c a w)
