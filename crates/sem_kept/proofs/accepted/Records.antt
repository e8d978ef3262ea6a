-- The records of an accepted source's program: no field of them has a fault.
use Rattle.std.proofs.Common.{◌≡◌, ℕ, ◌+◌, ◌<◌, Bool, true, List, [], ◌∷◌, length, map, get_or, Ok, refl, ap, ◌∙◌, arith}
use Rattle.std.specs.Prelude.{suc}
use Rattle.std.specs.List.{AllByRecursion}
use Rattle.std.proofs.lemmas.Bool.{and_from}
use Rattle.std.proofs.lemmas.Bool.Decides.{nat_tests}
use Rattle.std.proofs.lemmas.List.{length-map}
use Rattle.plc_base.specs.Kinds.{kind_number}
use Rattle.flat_code.specs.Checking.{all_good, good_counts, good_datas, good_names}
use Rattle.flat_code.specs.Faults.{field_fault}
use Rattle.flat_code.specs.Image.{after_block, after_data, after_name, body_layout, body_rows, code_block_layout, code_blocks_layout, count_rows, counts_layout, data_block_layout, data_blocks_layout, data_count, name_of_entry, name_record, names_layout, plain_u16, record_of_block, records_layout, zero_u16}
use Rattle.flat_code.specs.Programs.{Program}
use Rattle.stl_ast.specs.declared.blocks.Tree.{Tree}
use Rattle.stl_parser.specs.Lines.{AreRisingLines, statement_lines_of, LinesRise}
use Rattle.stl_parser.proofs.RiseLemmas.{lines_rise}
use Rattle.stl_symbols.specs.Symbol.{Symbol}
use Rattle.stl_symbols.specs.Symbols.{symbols_in}
use Rattle.stl_symbols.specs.declared.languages.Language.{Language}
use Rattle.block_layout.specs.Layouts.{layouts_of}
use Rattle.stl_codegen.specs.CompiledBlock.{compiled_block}
use Rattle.stl_codegen.specs.GeneratedProgram.{code_blocks_of}
use Rattle.stl_codegen.specs.Order.{is_code_before}
use Rattle.sem_kept.specs.AcceptedSource.{program_in}
use Rattle.sem_kept.specs.Records.{HasFaultlessCode, HasCounts, IsOfBytes, RecordsAreRight}
use Rattle.sem_kept.proofs.accepted.Accepted.{IsSoundTree, all_both, right_tree, sound_code_blocks}
use Rattle.sem_kept.proofs.accepted.RecordBlocks.{HasFields, IsRightBlock, code_blocks_rise, all_counted_by, data_blocks_rise, fields_of, first_good, next_good}
use Rattle.sem_kept.proofs.accepted.RecordData.{data_blocks_right}
use Rattle.sem_kept.proofs.accepted.RecordNames.{HaveNameEntries, OfBytes, names_right, symbols_named}
use Rattle.sem_kept.proofs.accepted.RecordOrder.{good_all}

-- ---- a program of right records

counts_good : (codes datas names : ℕ) → good_counts codes datas names ≡ true → counts_layout.good (record { code_blocks = codes; data_blocks = datas; names = names; reserved = 0 }) ≡ true
unfolding counts_layout count_rows plain_u16 data_count zero_u16 field_fault
counts_good codes datas names h = grind (arith, nat_tests)

body_good : (with_code_faults : Bool) (p : Program) → HasCounts p
    → all_good (code_block_layout with_code_faults) after_block (0, 0) (map record_of_block p.code_blocks) ≡ true
    → good_datas (0, 0) p.data_blocks ≡ true → good_names [] p.names ≡ true → (body_layout with_code_faults).good p ≡ true
unfolding body_layout records_layout body_rows code_blocks_layout data_blocks_layout names_layout
body_good with_code_faults p enough blocks datas entries =
    and_from _ _
    (rw (length-map p.code_blocks record_of_block, length-map p.names name_of_entry) (counts_good (length p.code_blocks) (length p.data_blocks) (length p.names) enough))
    (and_from _ _ (all_counted_by (code_block_layout with_code_faults) after_block (0, 0) (map record_of_block p.code_blocks) ∙ blocks)
    (and_from _ _ (all_counted_by data_block_layout after_data (0, 0) p.data_blocks ∙ datas)
    (all_counted_by name_record after_name [] (map name_of_entry p.names) ∙ entries)))

-- ---- that of an accepted source

map_twice : {A B C : Type 0} (f : A → B) (g : B → C) (xs : List A) → map g (map f xs) ≡ map (λ x. g (f x)) xs
map_twice f g [] = refl
map_twice {C = C} f g (x ∷ xs) = ap (λ (z : List C). g (f x) ∷ z) (map_twice f g xs)

all_before_map : {A B : Type 0} (P : B → Type 0) (f : A → B) (xs : List A) → AllByRecursion P (map f xs) → AllByRecursion (λ x. P (f x)) xs
all_before_map P f [] h = tt
all_before_map P f (x ∷ xs) h = (h.0, all_before_map P f xs h.1)

pub code_blocks_right : (symbols : List Symbol) (t : Tree) (last : ℕ) (with_code_faults : Bool) → IsSoundTree symbols t → last < 4294967296
    → AllByRecursion (λ b. AreRisingLines last 1 (statement_lines_of b)) t.blocks
    → AllByRecursion HasFaultlessCode (map compiled_block (code_blocks_of t symbols (layouts_of t symbols)))
    → all_good (code_block_layout with_code_faults) after_block (0, 0) (map record_of_block (map compiled_block (code_blocks_of t symbols (layouts_of t symbols)))) ≡ true
code_blocks_right symbols t last with_code_faults h near rise codes =
    let blocks = code_blocks_of t symbols (layouts_of t symbols) in
    ap (λ z. all_good (code_block_layout with_code_faults) after_block (0, 0) z) (map_twice compiled_block record_of_block blocks)
    ∙ good_all (code_block_layout with_code_faults) after_block (λ x. record_of_block (compiled_block x)) (λ x. (kind_number x.id.kind, x.id.number)) is_code_before (IsRightBlock last) (0, 0)
    (λ s x. refl) (λ x is. first_good last with_code_faults x near is) (λ x y there rises is. next_good last with_code_faults x y near rises is)
    blocks (code_blocks_rise symbols t h)
    (all_both (λ x. HasFields last (compiled_block x)) (λ x. HasFaultlessCode (compiled_block x)) blocks
    (sound_code_blocks symbols t (λ x. HasFields last (compiled_block x)) h (fields_of last symbols t rise))
    (all_before_map HasFaultlessCode compiled_block blocks codes))

all_from : (bytes : List ℕ) → ((i : ℕ) → get_or bytes i 0 < 256) → OfBytes bytes
all_from [] h = tt
all_from (b ∷ bytes) h = (h 0, all_from bytes (λ i. h (suc i)))

pub file_named : (language : Language) (file : List ℕ) (symbols : List Symbol)
    → symbols_in language file ≡ Ok symbols → IsOfBytes file → HaveNameEntries symbols
file_named language file symbols are bytes = symbols_named language file symbols (all_from file bytes) are

pub right_by : LinesRise → RecordsAreRight
right_by law source file symbols t a bytes codes enough with_code_faults =
    let h = right_tree source file symbols t a in
    let short = a.short in
    body_good with_code_faults (program_in symbols t) enough
    (code_blocks_right symbols t (1 + length source) with_code_faults h (omega (arith, short)) (law source a.tokens t a.lexed a.parsed) codes)
    (data_blocks_right symbols t h (data_blocks_rise symbols t h))
    (names_right symbols (file_named a.language file symbols a.named bytes))

pub records_right : RecordsAreRight
records_right = right_by lines_rise
