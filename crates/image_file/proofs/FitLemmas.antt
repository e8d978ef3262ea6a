-- The counts and lengths of a program fit their fields.
use Rattle.std.proofs.Common.{◌≡◌, ℕ, zero, suc, ◌<◌, true, false, List, [], ◌∷◌, length, map, All, subst}
use Rattle.std.proofs.lemmas.Bool.{and_parts, ltb-true}
use Rattle.std.proofs.lemmas.List.{length-map}
use Rattle.std.proofs.lemmas.List.Elements.{All-nil, All-cons}
use Rattle.flat_code.specs.Layout.{chain_layout, good_many}
use Rattle.flat_code.specs.Image.{plain_u16, zero_u16, record_of_block, name_of_entry, head_of_block, fields_of_data, data_row, fields_of_name, name_row, code_block_layout, after_block, code_blocks_layout, data_number_layout, instance_field, data_length_layout, contents_layout, data_rows, data_block_layout, after_data, data_blocks_layout, name_len, name_bytes, name_area, width_field, name_bit, name_rows, name_record, after_name, names_layout, data_count, RecordCounts, row_of_counts, count_rows, counts_layout, counts_of, parts_of_records, records_of, body_layout, IsProgram}
use Rattle.flat_code.specs.Programs.{CodeBlock, DataBlock, NameEntry, Program}
use Rattle.flat_code.proofs.PartLemmas.{chain_parts, dword_fits, good_head, word_fits}
use Rattle.image_file.specs.Writing.{BlockFitsFields, DataFitsFields, NameFitsField, ProgramFitsFields}
use Rattle.image_file.proofs.ImageLemmas.{good_block_of, GoodRecords, good_records}

block_fits : (before : ℕ × ℕ) (b : CodeBlock) → (code_block_layout false before).good (record_of_block b) ≡ true → BlockFitsFields b
block_fits before b good =
    let h = head_of_block (record_of_block b) in
    let g = good_head before h (good_block_of false before (record_of_block b) good).head_good in
    record { lines = word_fits h.statement_count g.statements_good; code = dword_fits h.code_length g.size_good }

blocks_fit : (s : ℕ × ℕ) (n : ℕ) (bs : List CodeBlock) → good_many (code_block_layout false) after_block s n (map record_of_block bs) ≡ true → All BlockFitsFields bs
blocks_fit s n [] h = All-nil BlockFitsFields
blocks_fit s zero (b ∷ bs) h = absurd cc
blocks_fit s (suc n) (b ∷ bs) h =
    let r = record_of_block b in
    let g = and_parts ((code_block_layout false s).good r) (good_many (code_block_layout false) after_block (after_block s r) n (map record_of_block bs)) h in
    All-cons BlockFitsFields b bs (block_fits s b g.0) (blocks_fit (after_block s r) n bs g.1)

data_fits : (before : ℕ × ℕ) (d : DataBlock) → (data_block_layout before).good d ≡ true → DataFitsFields d
unfolding data_block_layout data_rows instance_field data_length_layout
data_fits before d good =
    let x = data_row (fields_of_data d) in
    let a = chain_parts (data_number_layout before.0) (λ number. chain_layout instance_field (λ instance. chain_layout (data_length_layout before.1) (λ n. chain_layout zero_u16 (λ zero. contents_layout n)))) x good in
    let b = chain_parts instance_field (λ instance. chain_layout (data_length_layout before.1) (λ n. chain_layout zero_u16 (λ zero. contents_layout n))) x.1 a.1 in
    let c = chain_parts (data_length_layout before.1) (λ n. chain_layout zero_u16 (λ zero. contents_layout n)) x.1.1 b.1 in
    record { bytes = ltb-true _ 65536 (and_parts _ _ c.0).0; instance = ltb-true _ 65536 (and_parts _ _ b.0).0 }

datas_fit : (s : ℕ × ℕ) (n : ℕ) (ds : List DataBlock) → good_many data_block_layout after_data s n ds ≡ true → All DataFitsFields ds
datas_fit s n [] h = All-nil DataFitsFields
datas_fit s zero (d ∷ ds) h = absurd cc
datas_fit s (suc n) (d ∷ ds) h =
    let g = and_parts ((data_block_layout s).good d) (good_many data_block_layout after_data (after_data s d) n ds) h in
    All-cons DataFitsFields d ds (data_fits s d g.0) (datas_fit (after_data s d) n ds g.1)

name_fits : (before : List ℕ) (e : NameEntry) → (name_record before).good (name_of_entry e) ≡ true → NameFitsField e
unfolding name_record name_rows name_len
name_fits before e good =
    let a = chain_parts name_len (λ n. chain_layout (name_bytes before n) (λ name. chain_layout name_area (λ area. chain_layout width_field (λ w. chain_layout plain_u16 (λ byte. name_bit w))))) (name_row (fields_of_name (name_of_entry e))) good in
    ltb-true _ 256 (and_parts _ _ a.0).0

names_fit : (before : List ℕ) (n : ℕ) (es : List NameEntry) → good_many name_record after_name before n (map name_of_entry es) ≡ true → All NameFitsField es
names_fit before n [] h = All-nil NameFitsField
names_fit before zero (e ∷ es) h = absurd cc
names_fit before (suc n) (e ∷ es) h =
    let r = name_of_entry e in
    let g = and_parts ((name_record before).good r) (good_many name_record after_name (after_name before r) n (map name_of_entry es)) h in
    All-cons NameFitsField e es (name_fits before e g.0) (names_fit (after_name before r) n es g.1)

counts_fit : (c : RecordCounts) → counts_layout.good c ≡ true → (c.code_blocks < 65536) × (c.data_blocks < 65536) × (c.names < 65536)
unfolding counts_layout count_rows data_count
counts_fit c good =
    let row = row_of_counts c in
    let a = chain_parts plain_u16 (λ codes. chain_layout data_count (λ datas. chain_layout plain_u16 (λ names. zero_u16))) row good in
    let b = chain_parts data_count (λ datas. chain_layout plain_u16 (λ names. zero_u16)) row.1 a.1 in
    let d = chain_parts plain_u16 (λ names. zero_u16) row.1.1 b.1 in
    (word_fits c.code_blocks a.0, ltb-true _ 65536 (and_parts _ _ b.0).0, word_fits c.names d.0)

codes_are : (n : ℕ) (bs : List CodeBlock) → (code_blocks_layout false n).good (map record_of_block bs) ≡ true → All BlockFitsFields bs
unfolding code_blocks_layout
codes_are n bs good = blocks_fit (0, 0) n bs good

datas_are : (n : ℕ) (ds : List DataBlock) → (data_blocks_layout n).good ds ≡ true → All DataFitsFields ds
unfolding data_blocks_layout
datas_are n ds good = datas_fit (0, 0) n ds good

names_are : (n : ℕ) (es : List NameEntry) → (names_layout n).good (map name_of_entry es) ≡ true → All NameFitsField es
unfolding names_layout
names_are n es good = names_fit [] n es good

fits_by : (p : Program) → GoodRecords false (parts_of_records (records_of p)) → IsProgram p → ProgramFitsFields p
fits_by p q h =
    let c = counts_fit (counts_of (records_of p)) q.counts_good in
    record {
      code_count = subst (λ (k : ℕ). k < 65536) (length-map p.code_blocks record_of_block) c.0;
      data_count = c.1;
      name_count = subst (λ (k : ℕ). k < 65536) (length-map p.names name_of_entry) c.2;
      code_blocks = codes_are (length (map record_of_block p.code_blocks)) p.code_blocks q.codes_good;
      data_blocks = datas_are (length p.data_blocks) p.data_blocks q.datas_good;
      names = names_are (length (map name_of_entry p.names)) p.names q.names_good;
      total = h.short;
    }

pub program_fits : (p : Program) → IsProgram p → ProgramFitsFields p
unfolding body_layout
program_fits p h = fits_by p (good_records false (records_of p) h.good) h
