-- Jumps, brackets and zones of the code of a block that have no fault.
use Rattle.std.specs.Prelude.{◌≡◌, ℕ, List, [], Option, Some, None}
use Rattle.std.specs.List.{AllByRecursion}
use Rattle.flat_code.specs.Blocks.{Environment, block_faults, bracket_fault, jump_fault, zone_fault}
use Rattle.flat_code.specs.Ops.{OpData}
use Rattle.flat_code.specs.PlacedOps.{PlacedOp, StatementStart, open_behind, code_places, starts_of_statements, zones_left}
use Rattle.flat_code.specs.declared.operands.Operand.{Operand}
use Rattle.flat_code.specs.declared.operands.Operand.TheVariants as operand
use Rattle.stl_ast.specs.declared.blocks.Tree.{Tree}
use Rattle.stl_symbols.specs.Symbol.{Symbol}
use Rattle.block_layout.specs.Layouts.{layouts_of}
use Rattle.stl_codegen.specs.CompiledBlock.{code_in}
use Rattle.stl_codegen.specs.GeneratedProgram.{code_blocks_of}
use Rattle.sem_kept.specs.AcceptedSource.{IsAccepted}
use Rattle.sem_kept.specs.Operands.{HaveNoOperandFaults}

-- a jump, and nothing else, is checked by the statements of its block
abbrev pub jump_fault_of : List StatementStart → PlacedOp → Operand → Option ℕ
jump_fault_of statements p (operand.Jump kind target) = jump_fault statements p kind target
jump_fault_of statements p _ = None

-- an op whose jump, bracket and zone have no fault
pub record LandsRight (statements : List StatementStart) (p : PlacedOp) : Type 0 where
  -- its jump, if it is one, leads to a statement as it may
  pub jump : jump_fault_of statements p p.op.operand ≡ None
  -- it neither closes a bracket that isn't open nor opens one too many
  pub brackets : bracket_fault p.op.code p.brackets ≡ None
  -- it neither ends a zone that isn't open nor opens one too many
  pub zones : zone_fault p.op.code p.zones ≡ None

-- no op of a block has a fault by its jump, bracket or zone, and behind the last no bracket and
-- no zone is open
pub record AllLandRight (ops : List OpData) : Type 0 where
  -- no op has a fault by its jump, bracket or zone
  pub each : AllByRecursion (LandsRight (starts_of_statements ops)) (code_places ops)
  -- no bracket is open behind the last op
  pub closed : open_behind 0 [] ops ≡ []
  -- no zone is open behind the last op
  pub ended : zones_left 0 [] ops ≡ []

-- the code of each block of an accepted source has no fault by a jump, bracket or zone
abbrev pub JumpsLandRight : Type 0
JumpsLandRight =
    (source file : List ℕ) (symbols : List Symbol) (t : Tree)
    → IsAccepted source file symbols t
    → AllByRecursion (λ b. AllLandRight (code_in b.statements))
    (code_blocks_of t symbols (layouts_of t symbols))

-- ops that have no fault by their operands, calls and marks have none at all where they land right
abbrev pub NoOperandFaultIsNoFault : Type 0
NoOperandFaultIsNoFault =
    (a : Environment) (lens : List (ℕ × ℕ)) (start : ℕ) (ops : List OpData)
    → a.data_lens ≡ Some lens
    → HaveNoOperandFaults a lens (starts_of_statements ops) (code_places ops) → AllLandRight ops
    → block_faults a start ops ≡ []
