-- The code of a program follows the statements that it was made of.
use Rattle.std.proofs.Common.{◌≡◌, ℕ, Bool, true, false, if◌then◌else◌, List, [], ◌∷◌, map, slice_get, Option, Some, None, option_map, option_and_then, refl, ap, ◌∙◌}
use Rattle.std.specs.List.{AllByRecursion}
use Rattle.plc_base.specs.declared.blocks.BlockId.{BlockId}
use Rattle.flat_code.specs.Laws.{OperationsHaveTheirCodes, JumpsHaveTheirKinds}
use Rattle.image_file.specs.Readers.{block_by_id, is_same_id}
use Rattle.machine.specs.Flat.{statement_fetched, block_head_of}
use Rattle.machine.specs.MovedCode.{moved_fetched}
use Rattle.stl_codegen.specs.CompiledBlock.{SourceInstruction, StatedBlock, ops_in, offset_from, offset_of_statement, compiled_block}
use Rattle.flat_code.specs.Ops.{OpData}
use Rattle.sem_kept.specs.Back.{aimed_statement}
use Rattle.sem_kept.specs.Statements.{stated_block_named, fetched_statement, numbered_statement, stated_head, position_in, statement_position, IsCompilable, ProgramsFollow}
use Rattle.sem_kept.proofs.compiled.Reading.{is_read_back}

found_compiled : (id : BlockId) (bs : List StatedBlock) → block_by_id id (map compiled_block bs) ≡ option_map compiled_block (stated_block_named id bs)
found_compiled id [] = refl
found_compiled id (b ∷ bs) = by (is_same_id b.id id) (found_compiled id bs)
  where
    by : (same : Bool) → block_by_id id (map compiled_block bs) ≡ option_map compiled_block (stated_block_named id bs)
        → (if same then Some (compiled_block b) else block_by_id id (map compiled_block bs)) ≡ option_map compiled_block (if same then Some b else stated_block_named id bs)
    by true more = refl
    by false more = more

abbrev AllFound : List StatedBlock → Type 0
AllFound bs = AllByRecursion IsCompilable bs

abbrev IsCompilableFound : Option StatedBlock → Type 0
IsCompilableFound None = Unit {0}
IsCompilableFound (Some b) = IsCompilable b

compilable_at : (id : BlockId) (bs : List StatedBlock) → AllByRecursion IsCompilable bs → IsCompilableFound (stated_block_named id bs)
compilable_at id [] h = tt
compilable_at id (b ∷ bs) h = by (is_same_id b.id id) (compilable_at id bs h.1)
  where
    by : (same : Bool) → IsCompilableFound (stated_block_named id bs) → IsCompilableFound (if same then Some b else stated_block_named id bs)
    by true more = h.0
    by false more = more

statement_aimed :
    (f : ℕ → ℕ) (n : ℕ) (o : Option SourceInstruction) → option_map (aimed_statement f n) o ≡ option_map (moved_fetched f) (option_map (fetched_statement n) o)
statement_aimed f n None = refl
statement_aimed f n (Some s) = refl

statement_follows :
    (o : Option StatedBlock) (n : ℕ) → OperationsHaveTheirCodes → JumpsHaveTheirKinds → IsCompilableFound o
    → option_and_then (λ b. statement_fetched b (position_in o n)) (option_map compiled_block o)
    ≡ option_map (moved_fetched (position_in o)) (option_and_then (λ b. numbered_statement b n) o)
statement_follows None n operations jumps h = refl
statement_follows (Some b) n operations jumps h =
    is_read_back (compiled_block b) b.statements operations jumps h refl refl n
    ∙ statement_aimed (offset_of_statement (ops_in b.statements)) n (slice_get b.statements n)

head_follows : (o : Option StatedBlock) → option_map block_head_of (option_map compiled_block o) ≡ option_map stated_head o
head_follows None = refl
head_follows (Some b) = refl

first_offset : (ops : List OpData) → offset_from 0 true ops 0 ≡ 0
first_offset [] = refl
first_offset (op ∷ ops) = refl

first_position : (o : Option StatedBlock) → position_in o 0 ≡ 0
unfolding offset_of_statement
first_position None = refl
first_position (Some b) = first_offset (ops_in b.statements)

pub programs_follow : OperationsHaveTheirCodes → JumpsHaveTheirKinds → ProgramsFollow
programs_follow operations jumps blocks data_blocks names h = record {
  start = λ id. first_position (stated_block_named id blocks);
  fetch = λ id n. ap (option_and_then (λ b. statement_fetched b (statement_position blocks id n))) (found_compiled id blocks)
      ∙ statement_follows (stated_block_named id blocks) n operations jumps (compilable_at id blocks h);
  head = λ id. ap (option_map block_head_of) (found_compiled id blocks) ∙ head_follows (stated_block_named id blocks);
  blocks = refl;
}
