-- The meaning of statements and that of the program that is compiled of them, along every history.
use Rattle.std.specs.Prelude.{◌≡◌, List}
use Rattle.std.specs.List.{AllByRecursion}
use Rattle.plc_base.specs.declared.Profile.{Profile}
use Rattle.flat_code.specs.Programs.{DataBlock, NameEntry}
use Rattle.machine.specs.Code.{Code}
use Rattle.machine.specs.Flat.{code_of}
use Rattle.var_access.specs.declared.What.{What}
use Rattle.controller.specs.Replay.{entry_result, replay}
use Rattle.stl_codegen.specs.CompiledBlock.{StatedBlock}
use Rattle.sem_kept.specs.Statements.{stated_code, IsCompilable, program_with}

-- of two codes the second does at a profile what the first one means: after every history the mode,
-- memory with timers and counters, the scheduler and the diagnostics are the same, and every entry
-- answers and shows the same
pub record BehavesAlike (profile : Profile) (c d : Code) : Type 0 where
  -- memory with timers and counters is the same after a history
  pub store : (history : List What)
      → (replay profile d history).store ≡ (replay profile c history).store
  -- the operating mode after a history is the same
  pub mode : (history : List What)
      → (replay profile d history).mode ≡ (replay profile c history).mode
  -- the scheduler's state after a history is the same
  pub sched : (history : List What)
      → (replay profile d history).sched ≡ (replay profile c history).sched
  -- the records of the diagnostic buffer are the same after a history
  pub diagnostics : (history : List What)
      → (replay profile d history).diagnostics ≡ (replay profile c history).diagnostics
  -- an entry answers the same behind a history
  pub reply : (history : List What) (entry : What)
      → (entry_result d (replay profile d history) entry).reply
      ≡ (entry_result c (replay profile c history) entry).reply
  -- an entry shows the same behind a history
  pub seen : (history : List What) (entry : What)
      → (entry_result d (replay profile d history) entry).seen
      ≡ (entry_result c (replay profile c history) entry).seen

-- the program that is compiled of blocks that can be compiled does at each profile what their
-- statements mean, whatever its data blocks and its names are
abbrev pub ProgramsAreKept : Type 0
ProgramsAreKept =
    (profile : Profile) (blocks : List StatedBlock) (data_blocks : List DataBlock)
    (names : List NameEntry)
    → AllByRecursion IsCompilable blocks
    → BehavesAlike profile (stated_code blocks data_blocks)
    (code_of (program_with blocks data_blocks names))
