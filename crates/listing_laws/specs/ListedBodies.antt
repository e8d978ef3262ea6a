-- The statements of a listed body are those of the block.
use Rattle.std.specs.Prelude.{◌≡◌, ℕ, suc, false, List, [], ◌∷◌, ◌++◌}
use Rattle.stl_ast.specs.Statements.{is_empty_statement}
use Rattle.stl_ast.specs.declared.statements.Statement.{Statement}
use Rattle.stl_types.specs.Context.{Context}
use Rattle.stl_codegen.specs.CompiledBlock.{SourceInstruction, StatedBlock, compiled_block, lines_in}
use Rattle.stl_codegen.specs.GeneratedProgram.{instructions_from}
use Rattle.stl_codegen.specs.Instruction.{instruction}
use Rattle.stl_list.specs.Signatures.{Signature}
use Rattle.stl_list.specs.Statements.{ListingContext, body_of, listed_statement, listing_context}
use Rattle.listing_laws.specs.Statements.{statement_offset, run_of}

-- each listed statement from a number on isn't empty, and comes to its instruction
abbrev pub AreKeptFrom : Context → (body : List Statement) → ListingContext → (ℕ → ℕ) → (k : ℕ)
    → List SourceInstruction → Type 0
AreKeptFrom listed body context f k [] = Unit {0}
AreKeptFrom listed body context f k (s ∷ ss) =
    (is_empty_statement (listed_statement context k (run_of f s.instr)).code ≡ false)
    × (instruction listed body k (listed_statement context k (run_of f s.instr)) ≡ s.instr)
    × AreKeptFrom listed body context f (suc k) ss

-- where each listed statement comes to its instruction, the listed body comes to the statements of
-- the block, but the one that returns
abbrev pub AreBodiesKept : Type 0
AreBodiesKept =
    (listed : Context) (signatures : List Signature) (b : StatedBlock) (ss : List SourceInstruction)
    (last : SourceInstruction)
    → b.statements ≡ ss ++ last ∷ []
    → AreKeptFrom listed (body_of signatures (lines_in b.statements) (compiled_block b))
    (listing_context signatures (lines_in b.statements) (compiled_block b))
    (statement_offset b.statements) 0 ss
    → instructions_from listed (body_of signatures (lines_in b.statements) (compiled_block b)) 0
    (body_of signatures (lines_in b.statements) (compiled_block b))
    ≡ ss
