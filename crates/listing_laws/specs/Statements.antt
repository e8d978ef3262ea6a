-- The statements that a listing finds in the code of a block are those that the code was made of.
use Rattle.std.specs.Prelude.{◌≡◌, ◌<◌, ℕ, Bool, false, ◌==◌, List, [], length, map, min, Some, slice_get, unwrap_or}
use Rattle.std.specs.List.{list_any}
use Rattle.flat_code.specs.Instr.{Instr, Does, Jumps, JumpsByList, Calls, Returns}
use Rattle.flat_code.specs.declared.kinds.JumpOperation.TheVariants as jump
use Rattle.flat_code.specs.declared.operands.Operand.{Operand}
use Rattle.flat_code.specs.declared.operands.Operand.TheVariants as operand
use Rattle.stl_codegen.specs.CompiledBlock.{SourceInstruction, operand_with_target, code_in, offset_of_statement, ops_in}
use Rattle.stl_codegen.specs.EmittedOps.{call_op, end_op, op_with_end_mark, jump_op, use_db_ops, pass_ops}
use Rattle.stl_list.specs.Runs.{StatementOps, statement_number_at, runs, statement_starts, target_marks}

-- the ops of an instruction as a listing takes them: those that prepare, and the last one. A
-- function of positions makes byte offsets of its targets
abbrev pub run_of : (ℕ → ℕ) → Instr → StatementOps
run_of f (Does use_db w o) =
    record { before = use_db_ops use_db; op = op_with_end_mark w (operand_with_target f o) }
run_of f (Jumps how target) = record { before = []; op = jump_op how (f target) }
run_of f (JumpsByList targets otherwise) =
    record { before = []; op = jump_op jump.Jl (f otherwise) }
run_of f (Calls how block instance passings) =
    record { before = pass_ops passings; op = call_op how block instance }
run_of f (Returns how) = record { before = []; op = end_op how }

-- the byte offset of the statement of a number, in the code of these statements
abbrev pub statement_offset : List SourceInstruction → ℕ → ℕ
statement_offset statements n = offset_of_statement (ops_in statements) n

-- the statements that a listing finds in the code of a block are those that the code was made of
abbrev pub AreRunsFound : Type 0
AreRunsFound =
    (statements : List SourceInstruction)
    → runs (code_in statements) ≡ map (λ s. run_of (statement_offset statements) s.instr) statements

-- a listing finds the start of each statement of a code, at the byte offset of the statement
abbrev pub AreStartsFound : Type 0
AreStartsFound =
    (statements : List SourceInstruction) (n : ℕ) → n < length statements
    → slice_get (statement_starts (code_in statements)) n ≡ Some (statement_offset statements n)

-- the code has as many starts of statements as there are statements
abbrev pub IsCountFound : Type 0
IsCountFound =
    (statements : List SourceInstruction)
    → length (statement_starts (code_in statements)) ≡ length statements

-- where a jump goes to a statement, or to the end of the code, a listing finds the number of this
-- statement, or how many statements there are
abbrev pub AreNumbersFound : Type 0
AreNumbersFound =
    (statements : List SourceInstruction) (n : ℕ)
    → statement_number_at (statement_starts (code_in statements)) (statement_offset statements n)
    ≡ min n (length statements)

-- whether an operand is that of a jump to the statement of a number
abbrev pub is_jump_to : (n : ℕ) → Operand → Bool
is_jump_to n (operand.Jump kind target) = target == n
is_jump_to n _ = false

-- whether an instruction jumps to the statement of a number, where the JU behind a JL jump for
-- themselves
abbrev pub jumps_to : (n : ℕ) → Instr → Bool
jumps_to n (Does use_db w o) = is_jump_to n o
jumps_to n (Jumps how target) = target == n
jumps_to n (JumpsByList targets otherwise) = otherwise == n
jumps_to n (Calls how block instance passings) = false
jumps_to n (Returns how) = false

-- the statements that a listing finds jumps to are those to which an instruction jumps
abbrev pub AreTargetsFound : Type 0
AreTargetsFound =
    (statements : List SourceInstruction) (n : ℕ) → n < length statements
    → unwrap_or (slice_get
    (target_marks (statement_starts (code_in statements)) (code_in statements)) n) false
    ≡ list_any (λ s. jumps_to n s.instr) statements
