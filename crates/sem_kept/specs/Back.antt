-- The code of a block, read back: the statement at the offset of each is the statement that was
-- compiled, with offsets as targets.
use Rattle.std.specs.Prelude.{◌≡◌, ◌≤◌, ℕ, suc, ◌+◌, Bool, true, false, List, [], ◌∷◌, length, take, Option, Some, None}
use Rattle.std.specs.List.{slice_get, AllByRecursion}
use Rattle.std.specs.Option.{option_map}
use Rattle.plc_base.specs.Kinds.{is_callable}
use Rattle.flat_code.specs.Instr.{Instr, Does, Jumps, JumpsByList, Calls, Returns}
use Rattle.flat_code.specs.Programs.{CodeBlock}
use Rattle.flat_code.specs.declared.kinds.JumpOperation.TheVariants as jump
use Rattle.flat_code.specs.declared.operands.Operand.{Operand}
use Rattle.flat_code.specs.declared.operands.Operand.TheVariants as operand
use Rattle.flat_code.specs.declared.operations.Operation.{Operation}
use Rattle.flat_code.specs.declared.operations.Operation.TheVariants as operation
use Rattle.machine.specs.Code.{Fetched}
use Rattle.machine.specs.Flat.{statement_fetched, is_jl}
use Rattle.machine.specs.MovedCode.{aimed_instr}
use Rattle.stl_codegen.specs.CompiledBlock.{SourceInstruction, ops_in, offset_of_statement}
use Rattle.stl_codegen.specs.Instruction.{numbers_from}

-- what is fetched for the statement of number n: its instruction and the next position, where f
-- gives the position of each statement by its number
abbrev pub aimed_statement : (ℕ → ℕ) → (n : ℕ) → SourceInstruction → Fetched
aimed_statement f n s =
    record { instr = aimed_instr f s.instr; next = f (suc n); line = s.line }

-- an operation of an instruction that goes on to the next statement
abbrev pub goes_to_next_statement : Operation → Bool
goes_to_next_statement operation.Jump = false
goes_to_next_statement (operation.Call how) = false
goes_to_next_statement (operation.End how) = false
goes_to_next_statement _ = true

-- an operand is the target of a jump
abbrev pub is_target : Operand → Bool
is_target (operand.Jump kind target) = true
is_target _ = false

-- the number of an instance data block, where there is one, is at least 1: no data block has the
-- number 0
abbrev pub IsInstanceNumber : Option ℕ → Type 0
IsInstanceNumber None = Unit {0}
IsInstanceNumber (Some number) = 1 ≤ number

-- JU, the only instruction in the list of a JL
abbrev pub is_ju : Instr → Bool
is_ju (Jumps jump.Ju target) = true
is_ju _ = false

-- a statement whose instruction is JU
abbrev pub IsJu : SourceInstruction → Type 0
IsJu s = is_ju s.instr ≡ true

-- the list of a JL: the JU statements behind it, at most 255, up to its target
pub record IsList
    (n : ℕ) (targets : List ℕ) (otherwise : ℕ) (behind : List SourceInstruction)
    : Type 0 where
  -- there are at most 255 targets
  pub few : length targets ≤ 255
  -- the targets are the statements right behind the JL, in their order
  pub numbers : targets ≡ numbers_from (suc n) (length targets)
  -- its label is right behind the list
  pub ends : otherwise ≡ suc n + length targets
  -- as many statements stand behind the JL as there are targets
  pub there : length targets ≤ length behind
  -- each of these statements is a JU
  pub jumps : AllByRecursion IsJu (take (length targets) behind)

-- code can be generated for an instruction: that of the statement of number n, with the
-- statements behind it
abbrev pub IsGeneratedInstruction : (n : ℕ) → Instr → (behind : List SourceInstruction) → Type 0
IsGeneratedInstruction n (Does use_db w o) behind =
    (goes_to_next_statement w ≡ true) × (is_target o ≡ false)
IsGeneratedInstruction n (Jumps how target) behind = is_jl how ≡ false
IsGeneratedInstruction n (JumpsByList targets otherwise) behind = IsList n targets otherwise behind
IsGeneratedInstruction n (Calls how block instance passings) behind =
    (is_callable block.kind ≡ true) × IsInstanceNumber instance × (length passings ≤ 63)
IsGeneratedInstruction n (Returns how) behind = Unit {0}

-- code can be generated for each of these statements of a block, the first of which has the
-- number n
abbrev pub AreCompiled : (n : ℕ) → List SourceInstruction → Type 0
AreCompiled n [] = Unit {0}
AreCompiled n (s ∷ behind) = IsGeneratedInstruction n s.instr behind × AreCompiled (suc n) behind

-- the code of a block is read back as its statements, and nothing begins behind them
abbrev pub IsReadBack : CodeBlock → List SourceInstruction → Type 0
IsReadBack b statements =
    (n : ℕ) → statement_fetched b (offset_of_statement (ops_in statements) n)
    ≡ option_map (aimed_statement (offset_of_statement (ops_in statements)) n)
    (slice_get statements n)
