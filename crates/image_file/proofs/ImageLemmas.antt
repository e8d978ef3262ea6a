-- The image is laid out exactly.
use Rattle.std.proofs.Common.{◌≡◌, ℕ, zero, suc, ◌+◌, ◌-◌, ◌≤◌, Bool, true, false, cond, eqb, ltb, leb, ◌&&◌, ◌||◌, List, [], ◌∷◌, ◌++◌, map, length, take, drop, Option, Some, None, refl, sym, ap, subst, ◌∙◌, length-append, arith, inl, inr}
use Rattle.std.proofs.lemmas.Bool.{cases_lt, eq-eqb, ne_eqb, and_parts, and_from, eqb-true, leb-true, ltb-false, le-ltb, lt-ltb, or_from}
use Rattle.std.proofs.lemmas.List.{append-nil, take_at, drop_at, take-append-drop, nil_from_length, get_or-drop, get_or-take, get_or_past, length-take}
use Rattle.std.proofs.lemmas.Option.{same_Some}
use Rattle.plc_base.specs.Widths.{width_number}
use Rattle.plc_base.specs.Kinds.{kind_number}
use Rattle.plc_base.specs.declared.blocks.BlockKind.{BlockKind}
use Rattle.plc_base.specs.declared.blocks.BlockKind.TheVariants as kind
use Rattle.plc_base.specs.declared.places.Area.{Area}
use Rattle.plc_base.specs.declared.places.Area.TheVariants as area
use Rattle.plc_base.specs.declared.places.Width.{Width}
use Rattle.plc_base.specs.declared.places.Width.TheVariants as width
use Rattle.flat_code.specs.declared.programs.Param.{Param}
use Rattle.flat_code.specs.declared.image_fields.ParameterRecord.{ParameterRecord}
use Rattle.flat_code.specs.declared.image_fields.Field.TheVariants.{StatementCount, Line}
use Rattle.flat_code.specs.Coding.{u8, u16, u32}
use Rattle.flat_code.specs.Forms.{area_code, width_of_number}
use Rattle.flat_code.specs.Ops.{OpData}
use Rattle.flat_code.specs.Programs.{CodeBlock, DataBlock, NameEntry, Program}
use Rattle.flat_code.specs.Records.{BlockRecord, NameRecord, ImageRecords}
use Rattle.flat_code.specs.Faults.{field_fault, name_fault, fault_unless_met, is_in_range}
use Rattle.flat_code.specs.Layout.{Faulty, AllBlocks, Cursor, ReadResult, FieldLayout, reading_ended, bind_reading, is_fine, chain_layout, spell_many, good_many, faults_in}
use Rattle.flat_code.specs.Codes.{are_ops, code_bytes, stop_at, code_layout, if_checked}
use Rattle.plc_base.specs.declared.profiles.Profile.TheVariants as profiles
use Rattle.flat_code.specs.Stamps.{version_number, profile_field_of, stamp_of}
use Rattle.flat_code.specs.declared.stamps.Stamp.{Stamp}
use Rattle.flat_code.specs.declared.stamps.Stamp.TheVariants as stamps
use Rattle.flat_code.specs.Image.{no_fault, plain_u16, plain_u32, zero_u8, zero_u16, width_field, bytes_fit, bytes_coding, section_field, parameter_byte, parameter_bit, ParameterRow, parameter_rows, parameter_fields, parameter_row, parameter_of_fields, fields_of_parameter, parameter_layout, kind_field, parameter_count_layout, block_number_layout, local_length_layout, instance_bytes_layout, Head, HeadRow, head_of_row, row_of_head, head_rows, head_layout, same_state, parameters_layout, end_marks, line_after, line_field, lines_layout, code_and_lines, BlockRow, parts_of_block_row, row_of_block_parts, block_rows, block_of_parts, head_of_block, parts_of_block, plain_block, whole_note, code_block_at, code_block_layout, after_block, data_number_layout, instance_field, data_length_layout, contents_layout, DataRow, data_rows, data_fields, data_row, instance_of_number, number_of_instance, data_of_fields, fields_of_data, data_block_layout, after_data, name_len, name_bytes, name_area, name_bit, NameRow, name_rows, name_fields, name_row, name_of_fields, fields_of_name, name_record, after_name, data_count, RecordCounts, CountRow, counts_of_row, row_of_counts, count_rows, counts_layout, counts_of, code_blocks_layout, plain_data_blocks, data_blocks_layout, names_layout, BodyParts, BodyRow, parts_of_body_row, row_of_body_parts, body_rows, records_of_parts, parts_of_records, records_layout, kind_of_number, area_of_number, number_of_area, param_of_record, record_of_param, block_of_record, record_of_block, entry_of_name, name_of_entry, program_of_records, records_of, body_layout, magic_field, version_field, profile_field, Front, FrontRow, front_of_row, row_of_front, front_rows, front_layout, front_size, front_of, stamp_in, image, IsProgram, IsRight, end_layout, read_cut_off, read_by, read_image}
use Rattle.flat_code.proofs.CodingLemmas.{IsBytes, BeginsWith, IsExact, pair_is, u8_exact, u16_exact, u32_exact}
use Rattle.flat_code.proofs.PartLemmas.{GoodBlock, behind_head, good_block, chain_parts, from_params, good_head, head_params, unless_fine}
use Rattle.image_file.specs.Typing.{HaveFewParameters}
use Rattle.image_file.proofs.LayoutLemmas.{at_place, Finds, IsLaidOut, bind_parts, bind_finds, field_laid, chain_laid, checked_laid, seen_laid, remembered_laid, many_laid, located_laid, no_faults}
use Rattle.image_file.proofs.CodeLemmas.{code_laid, cond_finds, ended_finds}

-- ---- runs of bytes

pub bytes_taken : (n : ℕ) (text : List ℕ) → IsBytes text → IsBytes (take n text)
bytes_taken n text h i =
    elim (cases_lt i n) [
      | inl lt ↦ rw (get_or-take n text i 0 lt) (h i)
      | inr le ↦ rw (get_or_past (take n text) i 0 (omega (arith, length-take n text))) (omega arith)
    ]

bytes_dropped : (n : ℕ) (text : List ℕ) → IsBytes text → IsBytes (drop n text)
bytes_dropped n text h i = rw get_or-drop (h (n + i))

fit : (bs : List ℕ) → IsBytes bs → bytes_fit bs ≡ true
fit [] are = refl
fit (b ∷ bs) are = and_from _ _ (lt-ltb b 256 (are 0)) (fit bs (λ i. are (suc i)))

run_takes : (n : ℕ) (text bs rest : List ℕ) → IsBytes text → (b : Bool) → ltb (length text) n ≡ b → cond {A = Option (List ℕ × List ℕ)} b None (Some (take n text, drop n text)) ≡ Some (bs, rest) → BeginsWith text bs rest × ((eqb (length bs) n && bytes_fit bs) ≡ true)
run_takes n text bs rest are true t e = absurd cc
run_takes n text bs rest are false t e =
    let p = pair_is (take n text) bs (drop n text) rest e in
    let size : length (take n text) ≡ n = let le = ltb-false _ _ t in omega (arith, length-take n text) in
    subst (λ (z : List ℕ). BeginsWith text z rest × ((eqb (length z) n && bytes_fit z) ≡ true)) p.0
    (subst (λ (z : List ℕ). BeginsWith text (take n text) z × ((eqb (length (take n text)) n && bytes_fit (take n text)) ≡ true)) p.1
    (record { parts = sym (take-append-drop n text); rest_fits = bytes_dropped n text are }, and_from _ _ (eq-eqb _ _ size) (fit (take n text) (bytes_taken n text are))))

run_exact : (n : ℕ) → IsExact (List ℕ) (bytes_coding n)
run_exact n = record {
  again = λ bs rest fits.
      let g = and_parts (eqb (length bs) n) (bytes_fit bs) fits in
      let size : length bs ≡ n = eqb-true _ _ g.0 in
      let long : ltb (length (bs ++ rest)) n ≡ false = le-ltb _ _ (omega (arith, size, length-append bs rest)) in
      rw (long, take_at bs rest n size, drop_at bs rest n size) refl;
  takes = λ text bs rest are e. run_takes n text bs rest are (ltb (length text) n) refl e;
}

-- ---- what no fault says

zero_u8_is : (n : ℕ) → zero_u8.good n ≡ true → n ≡ 0
unfolding zero_u8 field_fault
zero_u8_is n good = eqb-true n 0 (unless_fine (eqb n 0) 4 (and_parts (ltb n 256) (is_fine (fault_unless_met (eqb n 0) 4)) good).1)

zero_u16_is : (n : ℕ) → zero_u16.good n ≡ true → n ≡ 0
unfolding zero_u16 field_fault
zero_u16_is n good = eqb-true n 0 (unless_fine (eqb n 0) 4 (and_parts (ltb n 65536) (is_fine (fault_unless_met (eqb n 0) 4)) good).1)

bytes_len : (n : ℕ) (bs : List ℕ) → (contents_layout n).good bs ≡ true → length bs ≡ n
unfolding contents_layout
bytes_len n bs good = let c = and_parts ((bytes_coding n).fits bs) true good in eqb-true (length bs) n (and_parts (eqb (length bs) n) (bytes_fit bs) c.0).0

name_len_is : (before : List ℕ) (n : ℕ) (bs : List ℕ) → (name_bytes before n).good bs ≡ true → length bs ≡ n
unfolding name_bytes
name_len_is before n bs good = let c = and_parts ((bytes_coding n).fits bs) (is_fine (name_fault before bs)) good in eqb-true (length bs) n (and_parts (eqb (length bs) n) (bytes_fit bs) c.0).0

many_count : {S A : Type 0} (l : S → FieldLayout A) (next : S → A → S) (s : S) (n : ℕ) (xs : List A) → good_many l next s n xs ≡ true → n ≡ length xs
many_count l next s zero [] h = refl
many_count l next s zero (x ∷ xs) h = absurd cc
many_count l next s (suc n) [] h = absurd cc
many_count l next s (suc n) (x ∷ xs) h = ap suc (many_count l next (next s x) n xs (and_parts ((l s).good x) (good_many l next (next s x) n xs) h).1)

-- ---- parameters

parameter_rows_laid : (kind instance : ℕ) → IsLaidOut ParameterRow (parameter_rows kind instance)
unfolding parameter_rows section_field width_field parameter_byte parameter_bit zero_u8
parameter_rows_laid kind instance =
    chain_laid section_field _ (field_laid u8 _ u8_exact) (λ s.
    chain_laid width_field _ (field_laid u8 _ u8_exact) (λ w.
    chain_laid (parameter_byte kind instance w) _ (field_laid u16 _ u16_exact) (λ byte.
    chain_laid (parameter_bit kind) _ (field_laid u8 _ u8_exact) (λ bit. field_laid u8 _ u8_exact))))

parameter_row_is : (kind instance : ℕ) (x : ParameterRow) → (parameter_rows kind instance).good x ≡ true → parameter_row (fields_of_parameter (parameter_of_fields (parameter_fields x))) ≡ x
unfolding parameter_rows
parameter_row_is kind instance x good =
    let a = chain_parts section_field (λ s. chain_layout width_field (λ w. chain_layout (parameter_byte kind instance w) (λ byte. chain_layout (parameter_bit kind) (λ bit. zero_u8)))) x good in
    let b = chain_parts width_field (λ w. chain_layout (parameter_byte kind instance w) (λ byte. chain_layout (parameter_bit kind) (λ bit. zero_u8))) x.1 a.1 in
    let c = chain_parts (parameter_byte kind instance x.1.0) (λ byte. chain_layout (parameter_bit kind) (λ bit. zero_u8)) x.1.1 b.1 in
    let d = chain_parts (parameter_bit kind) (λ bit. zero_u8) x.1.1.1 c.1 in
    ap (λ (z : ℕ). let r : ParameterRow = (x.0, (x.1.0, (x.1.1.0, (x.1.1.1.0, z)))) in r) (sym (zero_u8_is x.1.1.1.1 d.1))

parameter_laid : (kind instance : ℕ) → IsLaidOut ParameterRecord (parameter_layout kind instance)
unfolding parameter_layout
parameter_laid kind instance = seen_laid (λ r. parameter_of_fields (parameter_fields r)) (λ p. parameter_row (fields_of_parameter p)) (parameter_rows kind instance) (parameter_row_is kind instance) (λ p good. refl) (parameter_rows_laid kind instance)

parameters_laid : (h : Head) → IsLaidOut (List ParameterRecord) (parameters_layout h)
unfolding parameters_layout
parameters_laid h = many_laid (λ s. parameter_layout h.kind h.instance_bytes) same_state (λ s. parameter_laid h.kind h.instance_bytes) 0 h.parameter_count

-- ---- code blocks

head_rows_laid : (before : ℕ × ℕ) → IsLaidOut HeadRow (head_rows before)
unfolding head_rows kind_field parameter_count_layout block_number_layout local_length_layout instance_bytes_layout zero_u16 plain_u16 plain_u32
head_rows_laid before =
    chain_laid (kind_field before.0) (from_params before) (field_laid u8 _ u8_exact) (λ kind.
    chain_laid (parameter_count_layout kind) _ (field_laid u8 _ u8_exact) (λ params.
    chain_laid (block_number_layout before.0 before.1 kind) _ (field_laid u16 _ u16_exact) (λ number.
    chain_laid (local_length_layout kind) _ (field_laid u16 _ u16_exact) (λ locals.
    chain_laid (instance_bytes_layout kind) _ (field_laid u16 _ u16_exact) (λ instance.
    chain_laid plain_u16 _ (field_laid u16 no_fault u16_exact) (λ statements.
    chain_laid zero_u16 _ (field_laid u16 _ u16_exact) (λ zero.
    field_laid u32 no_fault u32_exact)))))))

head_laid : (before : ℕ × ℕ) → IsLaidOut Head (head_layout before)
unfolding head_layout
head_laid before = seen_laid head_of_row row_of_head (head_rows before) (λ r good. refl) (λ h good. refl) (head_rows_laid before)

head_zero : (before : ℕ × ℕ) (h : Head) → (head_layout before).good h ≡ true → h.reserved ≡ 0
head_zero before h good = zero_u16_is h.reserved (good_head before h good).zero_good

pub head_kind : (before : ℕ × ℕ) (h : Head) → (head_layout before).good h ≡ true → is_in_range 1 3 h.kind ≡ true
unfolding kind_field field_fault
head_kind before h good =
    let b = and_parts (ltb h.kind 256) (is_fine (fault_unless_met (is_in_range 1 3 h.kind && leb before.0 h.kind) 4)) (good_head before h good).kind_good in
    (and_parts (is_in_range 1 3 h.kind) (leb before.0 h.kind) (unless_fine _ 4 b.1)).0

lines_laid : (with_code_faults : Bool) (start : ℕ) (h : Head) (ops : List OpData) → IsLaidOut (List ℕ) (lines_layout with_code_faults start h ops)
unfolding lines_layout line_field
lines_laid with_code_faults start h ops = checked_laid (start + 8) (if_checked with_code_faults (field_fault (StatementCount (end_marks ops) h.statement_count))) _ (many_laid (line_field with_code_faults) line_after (λ s. field_laid u32 _ u32_exact) 0 h.statement_count)

code_and_lines_laid : (with_code_faults : Bool) (start : ℕ) (h : Head) → IsLaidOut (List OpData × List ℕ) (code_and_lines with_code_faults start h)
unfolding code_and_lines
code_and_lines_laid with_code_faults start h = chain_laid (code_layout with_code_faults h.code_length) (lines_layout with_code_faults start h) (code_laid with_code_faults h.code_length) (lines_laid with_code_faults start h)

block_rows_laid : (with_code_faults : Bool) (before : ℕ × ℕ) (start : ℕ) → IsLaidOut BlockRow (block_rows with_code_faults before start)
unfolding block_rows
block_rows_laid with_code_faults before start =
    chain_laid (head_layout before) (behind_head with_code_faults start) (head_laid before) (λ h.
    chain_laid (parameters_layout h) (λ params. code_and_lines with_code_faults start h) (parameters_laid h) (λ params. code_and_lines_laid with_code_faults start h))

quad : {a b c d x y z w : ℕ} → a ≡ x → b ≡ y → c ≡ z → d ≡ w → ◌≡◌ {A = ℕ × (ℕ × (ℕ × ℕ))} (a, (b, (c, d))) (x, (y, (z, w)))
quad p q r s = rw (p, q, r, s) refl

params_count : (h : Head) (ps : List ParameterRecord) → (parameters_layout h).good ps ≡ true → h.parameter_count ≡ length ps
unfolding parameters_layout
params_count h ps good = many_count (λ s. parameter_layout h.kind h.instance_bytes) same_state 0 h.parameter_count ps good

lines_count : (with_code_faults : Bool) (start : ℕ) (h : Head) (ops : List OpData) (lines : List ℕ) → (lines_layout with_code_faults start h ops).good lines ≡ true → h.statement_count ≡ length lines
unfolding lines_layout
lines_count with_code_faults start h ops lines good =
    let c = and_parts (is_fine (if_checked with_code_faults (field_fault (StatementCount (end_marks ops) h.statement_count)))) (good_many (line_field with_code_faults) line_after 0 h.statement_count lines) good in
    many_count (line_field with_code_faults) line_after 0 h.statement_count lines c.1

code_size : (with_code_faults : Bool) (n : ℕ) (ops : List OpData) → (code_layout with_code_faults n).good ops ≡ true → length (code_bytes ops) ≡ n
unfolding code_layout
code_size with_code_faults n ops good = eqb-true (length (code_bytes ops)) n (and_parts (are_ops ops && is_fine (stop_at with_code_faults ops [])) (eqb (length (code_bytes ops)) n) good).1

-- a block without fault has the counts of its lists
block_row_is : (with_code_faults : Bool) (before : ℕ × ℕ) (start : ℕ) (x : BlockRow) → (block_rows with_code_faults before start).good x ≡ true → row_of_block_parts (parts_of_block (block_of_parts (parts_of_block_row x))) ≡ x
block_row_is with_code_faults before start x good =
    let h = x.0 in
    let g = good_block with_code_faults before start (parts_of_block_row x) good in
    ap (λ (z : CountRow).
    let head_layout : Head = record { kind = h.kind; parameter_count = z.0; number = h.number; local_bytes = h.local_bytes; instance_bytes = h.instance_bytes; statement_count = z.1.0; reserved = z.1.1.0; code_length = z.1.1.1 } in
    let r : BlockRow = (head_layout, x.1) in r)
    (quad (sym (params_count h x.1.0 g.params_good)) (sym (lines_count with_code_faults start h x.1.1.0 x.1.1.1 g.lines_good)) (sym (head_zero before h g.head_good)) (code_size with_code_faults h.code_length x.1.1.0 g.code_good))

same_spell : (with_code_faults : Bool) (before : ℕ × ℕ) (at : ℕ) (x : BlockRow) → (block_rows with_code_faults before at).spell x ≡ (block_rows with_code_faults before 0).spell x
unfolding block_rows code_and_lines lines_layout
same_spell with_code_faults before at x = refl

same_good : (with_code_faults : Bool) (before : ℕ × ℕ) (at : ℕ) (x : BlockRow) → (block_rows with_code_faults before at).good x ≡ (block_rows with_code_faults before 0).good x
unfolding block_rows code_and_lines lines_layout
same_good with_code_faults before at x = refl

code_block_laid : (with_code_faults : Bool) (before : ℕ × ℕ) → IsLaidOut BlockRecord (code_block_layout with_code_faults before)
unfolding code_block_layout plain_block
code_block_laid with_code_faults before =
    located_laid (code_block_at with_code_faults before) (λ at b. same_spell with_code_faults before at (row_of_block_parts (parts_of_block b))) (λ at b. same_good with_code_faults before at (row_of_block_parts (parts_of_block b)))
    (λ at. remembered_laid (whole_note at) (plain_block with_code_faults before at) (λ b. refl) (seen_laid (λ r. block_of_parts (parts_of_block_row r)) (λ b. row_of_block_parts (parts_of_block b)) (block_rows with_code_faults before at) (block_row_is with_code_faults before at) (λ b good. refl) (block_rows_laid with_code_faults before at)))

code_blocks_laid : (with_code_faults : Bool) (n : ℕ) → IsLaidOut (List BlockRecord) (code_blocks_layout with_code_faults n)
unfolding code_blocks_layout
code_blocks_laid with_code_faults n = many_laid (code_block_layout with_code_faults) after_block (code_block_laid with_code_faults) (0, 0) n

-- ---- data blocks

abbrev data_from_zero : ℕ → FieldLayout (ℕ × List ℕ)
data_from_zero n = chain_layout zero_u16 (λ zero. contents_layout n)

abbrev data_from_len : ℕ → FieldLayout (ℕ × (ℕ × List ℕ))
data_from_len sum = chain_layout (data_length_layout sum) data_from_zero

abbrev data_from_instance : ℕ → FieldLayout (ℕ × (ℕ × (ℕ × List ℕ)))
data_from_instance sum = chain_layout instance_field (λ instance. data_from_len sum)

data_rows_laid : (before : ℕ × ℕ) → IsLaidOut DataRow (data_rows before)
unfolding data_rows data_number_layout instance_field data_length_layout zero_u16 contents_layout
data_rows_laid before =
    chain_laid (data_number_layout before.0) (λ number. data_from_instance before.1) (field_laid u16 _ u16_exact) (λ number.
    chain_laid instance_field (λ instance. data_from_len before.1) (field_laid u16 _ u16_exact) (λ instance.
    chain_laid (data_length_layout before.1) data_from_zero (field_laid u16 _ u16_exact) (λ n.
    chain_laid zero_u16 (λ zero. contents_layout n) (field_laid u16 _ u16_exact) (λ zero. field_laid (bytes_coding n) (λ bs. None) (run_exact n)))))

instance_is : (n : ℕ) → number_of_instance (instance_of_number n) ≡ n
instance_is zero = refl
instance_is (suc n) = refl

instance_again : (o : Option ℕ) → instance_of_number (number_of_instance o) ≡ o
instance_again None = refl
instance_again (Some n) = refl

triple : {a b c x y z : ℕ} → a ≡ x → b ≡ y → c ≡ z → ◌≡◌ {A = ℕ × (ℕ × ℕ)} (a, (b, c)) (x, (y, z))
triple p q r = rw (p, q, r) refl

data_row_is : (before : ℕ × ℕ) (x : DataRow) → (data_rows before).good x ≡ true → data_row (fields_of_data (data_of_fields (data_fields x))) ≡ x
unfolding data_rows
data_row_is before x good =
    let a = chain_parts (data_number_layout before.0) (λ number. data_from_instance before.1) x good in
    let b = chain_parts instance_field (λ instance. data_from_len before.1) x.1 a.1 in
    let c = chain_parts (data_length_layout before.1) data_from_zero x.1.1 b.1 in
    let d = chain_parts zero_u16 (λ zero. contents_layout x.1.1.0) x.1.1.1 c.1 in
    ap (λ (z : ℕ × (ℕ × ℕ)). let r : DataRow = (x.0, (z.0, (z.1.0, (z.1.1, x.1.1.1.1)))) in r)
    (triple (instance_is x.1.0) (bytes_len x.1.1.0 x.1.1.1.1 d.1) (sym (zero_u16_is x.1.1.1.0 d.0)))

data_again : (d : DataBlock) → data_of_fields (data_fields (data_row (fields_of_data d))) ≡ d
data_again d = ap (λ (o : Option ℕ). let y : DataBlock = record { number = d.number; instance_of = o; bytes = d.bytes } in y) (instance_again d.instance_of)

data_block_laid : (before : ℕ × ℕ) → IsLaidOut DataBlock (data_block_layout before)
unfolding data_block_layout
data_block_laid before = seen_laid (λ r. data_of_fields (data_fields r)) (λ d. data_row (fields_of_data d)) (data_rows before) (data_row_is before) (λ d good. data_again d) (data_rows_laid before)

data_blocks_laid : (n : ℕ) → IsLaidOut (List DataBlock) (data_blocks_layout n)
unfolding data_blocks_layout
data_blocks_laid n = remembered_laid AllBlocks (plain_data_blocks n) (λ ds. refl) (many_laid data_block_layout after_data data_block_laid (0, 0) n)

-- ---- names

abbrev name_from_byte : ℕ → FieldLayout (ℕ × ℕ)
name_from_byte w = chain_layout plain_u16 (λ byte. name_bit w)

abbrev name_from_width : FieldLayout (ℕ × (ℕ × ℕ))
name_from_width = chain_layout width_field name_from_byte

abbrev name_from_area : FieldLayout (ℕ × (ℕ × (ℕ × ℕ)))
name_from_area = chain_layout name_area (λ area. name_from_width)

abbrev name_from_bytes : List ℕ → ℕ → FieldLayout (List ℕ × (ℕ × (ℕ × (ℕ × ℕ))))
name_from_bytes before n = chain_layout (name_bytes before n) (λ name. name_from_area)

name_rows_laid : (before : List ℕ) → IsLaidOut NameRow (name_rows before)
unfolding name_rows name_len name_bytes name_area width_field plain_u16 name_bit
name_rows_laid before =
    chain_laid name_len (name_from_bytes before) (field_laid u8 _ u8_exact) (λ n.
    chain_laid (name_bytes before n) (λ name. name_from_area) (field_laid (bytes_coding n) _ (run_exact n)) (λ name.
    chain_laid name_area (λ area. name_from_width) (field_laid u8 _ u8_exact) (λ area.
    chain_laid width_field name_from_byte (field_laid u8 _ u8_exact) (λ w.
    chain_laid plain_u16 (λ byte. name_bit w) (field_laid u16 no_fault u16_exact) (λ byte. field_laid u8 _ u8_exact)))))

pub record NameParts (before : List ℕ) (x : NameRow) : Type 0 where
  pub len_is : length x.1.0 ≡ x.0
  pub area_good : is_in_range (area_code area.I) (area_code area.M) x.1.1.0 ≡ true
  pub width_good : is_in_range 1 4 x.1.1.1.0 ≡ true

within_width : (w : ℕ) → width_field.good w ≡ true → is_in_range 1 4 w ≡ true
unfolding width_field field_fault
within_width w good = unless_fine (is_in_range 1 4 w) 4 (and_parts (ltb w 256) (is_fine (fault_unless_met (is_in_range 1 4 w) 4)) good).1

within_area : (a : ℕ) → name_area.good a ≡ true → is_in_range (area_code area.I) (area_code area.M) a ≡ true
unfolding name_area field_fault
within_area a good = unless_fine (is_in_range (area_code area.I) (area_code area.M) a) 4 (and_parts (ltb a 256) (is_fine (fault_unless_met (is_in_range (area_code area.I) (area_code area.M) a) 4)) good).1

name_parts : (before : List ℕ) (x : NameRow) → (name_rows before).good x ≡ true → NameParts before x
unfolding name_rows
name_parts before x good =
    let a = chain_parts name_len (name_from_bytes before) x good in
    let b = chain_parts (name_bytes before x.0) (λ name. name_from_area) x.1 a.1 in
    let c = chain_parts name_area (λ area. name_from_width) x.1.1 b.1 in
    let d = chain_parts width_field name_from_byte x.1.1.1 c.1 in
    record { len_is = name_len_is before x.0 x.1.0 b.0; area_good = within_area x.1.1.0 c.0; width_good = within_width x.1.1.1.0 d.0 }

name_row_is : (before : List ℕ) (x : NameRow) → (name_rows before).good x ≡ true → name_row (fields_of_name (name_of_fields (name_fields x))) ≡ x
name_row_is before x good = ap (λ (n : ℕ). let r : NameRow = (n, x.1) in r) (name_parts before x good).len_is

name_record_laid : (before : List ℕ) → IsLaidOut NameRecord (name_record before)
unfolding name_record
name_record_laid before = seen_laid (λ r. name_of_fields (name_fields r)) (λ n. name_row (fields_of_name n)) (name_rows before) (name_row_is before) (λ n good. refl) (name_rows_laid before)

names_laid : (n : ℕ) → IsLaidOut (List NameRecord) (names_layout n)
unfolding names_layout
names_laid n = many_laid name_record after_name name_record_laid [] n

-- ---- all records

abbrev counts_from_names : FieldLayout (ℕ × ℕ)
counts_from_names = chain_layout plain_u16 (λ names. zero_u16)

abbrev counts_from_datas : FieldLayout (ℕ × (ℕ × ℕ))
counts_from_datas = chain_layout data_count (λ datas. counts_from_names)

count_rows_laid : IsLaidOut CountRow count_rows
unfolding count_rows plain_u16 data_count zero_u16
count_rows_laid =
    chain_laid plain_u16 (λ codes. counts_from_datas) (field_laid u16 no_fault u16_exact) (λ codes.
    chain_laid data_count (λ datas. counts_from_names) (field_laid u16 _ u16_exact) (λ datas.
    chain_laid plain_u16 (λ names. zero_u16) (field_laid u16 no_fault u16_exact) (λ names. field_laid u16 _ u16_exact)))

counts_laid : IsLaidOut RecordCounts counts_layout
unfolding counts_layout
counts_laid = seen_laid counts_of_row row_of_counts count_rows (λ r good. refl) (λ c good. refl) count_rows_laid

counts_zero : (c : RecordCounts) → counts_layout.good c ≡ true → c.reserved ≡ 0
unfolding counts_layout count_rows
counts_zero c good =
    let row = row_of_counts c in
    let a = chain_parts plain_u16 (λ codes. counts_from_datas) row good in
    let b = chain_parts data_count (λ datas. counts_from_names) row.1 a.1 in
    let d = chain_parts plain_u16 (λ names. zero_u16) row.1.1 b.1 in
    zero_u16_is c.reserved d.1

abbrev blocks_and_names : Bool → RecordCounts → FieldLayout (List BlockRecord × (List DataBlock × List NameRecord))
blocks_and_names with_code_faults c = chain_layout (code_blocks_layout with_code_faults c.code_blocks) (λ blocks. chain_layout (data_blocks_layout c.data_blocks) (λ datas. names_layout c.names))

body_rows_laid : (with_code_faults : Bool) → IsLaidOut BodyRow (body_rows with_code_faults)
unfolding body_rows
body_rows_laid with_code_faults =
    chain_laid counts_layout (blocks_and_names with_code_faults) counts_laid (λ c.
    chain_laid (code_blocks_layout with_code_faults c.code_blocks) (λ blocks. chain_layout (data_blocks_layout c.data_blocks) (λ datas. names_layout c.names)) (code_blocks_laid with_code_faults c.code_blocks) (λ blocks.
    chain_laid (data_blocks_layout c.data_blocks) (λ datas. names_layout c.names) (data_blocks_laid c.data_blocks) (λ datas. names_laid c.names)))

-- the parts of records without fault
pub record GoodRecords (with_code_faults : Bool) (x : BodyParts) : Type 0 where
  pub counts_good : counts_layout.good x.counts ≡ true
  pub codes_good : (code_blocks_layout with_code_faults x.counts.code_blocks).good x.code_blocks ≡ true
  pub datas_good : (data_blocks_layout x.counts.data_blocks).good x.data_blocks ≡ true
  pub names_good : (names_layout x.counts.names).good x.names ≡ true

good_parts : (with_code_faults : Bool) (x : BodyParts) → (body_rows with_code_faults).good (row_of_body_parts x) ≡ true → GoodRecords with_code_faults x
unfolding body_rows
good_parts with_code_faults x good =
    let row = row_of_body_parts x in
    let c = x.counts in
    let a = chain_parts counts_layout (blocks_and_names with_code_faults) row good in
    let b = chain_parts (code_blocks_layout with_code_faults c.code_blocks) (λ blocks. chain_layout (data_blocks_layout c.data_blocks) (λ datas. names_layout c.names)) row.1 a.1 in
    let d = chain_parts (data_blocks_layout c.data_blocks) (λ datas. names_layout c.names) row.1.1 b.1 in
    record { counts_good = a.0; codes_good = b.0; datas_good = d.0; names_good = d.1 }

codes_count : (with_code_faults : Bool) (n : ℕ) (bs : List BlockRecord) → (code_blocks_layout with_code_faults n).good bs ≡ true → n ≡ length bs
unfolding code_blocks_layout
codes_count with_code_faults n bs good = many_count (code_block_layout with_code_faults) after_block (0, 0) n bs good

datas_count : (n : ℕ) (ds : List DataBlock) → (data_blocks_layout n).good ds ≡ true → n ≡ length ds
unfolding data_blocks_layout
datas_count n ds good = many_count data_block_layout after_data (0, 0) n ds good

names_count : (n : ℕ) (ns : List NameRecord) → (names_layout n).good ns ≡ true → n ≡ length ns
unfolding names_layout
names_count n ns good = many_count name_record after_name [] n ns good

body_row_is : (with_code_faults : Bool) (x : BodyRow) → (body_rows with_code_faults).good x ≡ true → row_of_body_parts (parts_of_records (records_of_parts (parts_of_body_row x))) ≡ x
body_row_is with_code_faults x good =
    let g = good_parts with_code_faults (parts_of_body_row x) good in
    let c = x.0 in
    ap (λ (z : CountRow). let r : BodyRow = (counts_of_row z, x.1) in r)
    (quad (sym (codes_count with_code_faults c.code_blocks x.1.0 g.codes_good)) (sym (datas_count c.data_blocks x.1.1.0 g.datas_good)) (sym (names_count c.names x.1.1.1 g.names_good)) (sym (counts_zero c g.counts_good)))

pub records_laid : (with_code_faults : Bool) → IsLaidOut ImageRecords (records_layout with_code_faults)
unfolding records_layout
records_laid with_code_faults = seen_laid (λ r. records_of_parts (parts_of_body_row r)) (λ r. row_of_body_parts (parts_of_records r)) (body_rows with_code_faults) (body_row_is with_code_faults) (λ r good. refl) (body_rows_laid with_code_faults)

-- ---- programs: kinds, widths and areas by their numbers

kind_back : (n : ℕ) → is_in_range 1 3 n ≡ true → kind_number (kind_of_number n) ≡ n
kind_back zero h = absurd cc
kind_back (suc zero) h = refl
kind_back (suc (suc zero)) h = refl
kind_back (suc (suc (suc zero))) h = refl
kind_back (suc (suc (suc (suc n)))) h = absurd (let le = leb-true (suc (suc (suc (suc n)))) 3 (and_parts (leb 1 (suc (suc (suc (suc n))))) (leb (suc (suc (suc (suc n)))) 3) h).1 in omega arith)

kind_there : (k : BlockKind) → is_in_range 1 3 (kind_number k) ≡ true → kind_of_number (kind_number k) ≡ k
kind_there kind.Ob h = refl
kind_there kind.Fc h = refl
kind_there kind.Fb h = refl
kind_there kind.Db h = absurd cc
kind_there kind.Sfc h = absurd cc
kind_there kind.Udt h = refl

width_back : (n : ℕ) → is_in_range 1 4 n ≡ true → width_number (width_of_number n) ≡ n
width_back zero h = absurd cc
width_back (suc zero) h = refl
width_back (suc (suc zero)) h = refl
width_back (suc (suc (suc zero))) h = refl
width_back (suc (suc (suc (suc zero)))) h = refl
width_back (suc (suc (suc (suc (suc n))))) h = absurd (let le = leb-true (suc (suc (suc (suc (suc n))))) 4 (and_parts (leb 1 (suc (suc (suc (suc (suc n)))))) (leb (suc (suc (suc (suc (suc n))))) 4) h).1 in omega arith)

pub width_there : (w : Width) → width_of_number (width_number w) ≡ w
width_there width.Bit = refl
width_there width.Byte = refl
width_there width.Word = refl
width_there width.Dword = refl

area_there : (number : ℕ) (a : Area) → is_in_range (area_code area.I) (area_code area.M) (number_of_area number a) ≡ true → (number ≡ 0) × (area_of_number (number_of_area number a) ≡ a)
area_there zero area.I h = (refl, refl)
area_there zero area.Q h = (refl, refl)
area_there zero area.M h = (refl, refl)
area_there zero area.P h = absurd cc
area_there zero area.Db h = absurd cc
area_there zero area.Di h = absurd cc
area_there zero area.L h = absurd cc
area_there (suc n) a h = absurd cc

area_shape : (n above : ℕ) → n ≡ 129 + above → above ≤ 2 → number_of_area 0 (area_of_number n) ≡ n
area_shape n zero is le = rw is refl
area_shape n (suc zero) is le = rw is refl
area_shape n (suc (suc zero)) is le = rw is refl
area_shape n (suc (suc (suc above))) is le = absurd (omega (arith, le))

area_back : (n : ℕ) → is_in_range (area_code area.I) (area_code area.M) n ≡ true → number_of_area 0 (area_of_number n) ≡ n
area_back n h =
    let b = and_parts (leb (area_code area.I) n) (leb n (area_code area.M)) h in
    let low : 129 ≤ n = leb-true (area_code area.I) n b.0 in
    let high : n ≤ 131 = leb-true n (area_code area.M) b.1 in
    area_shape n (n - 129) (omega (arith, low)) (omega (arith, high))

there_many : {S A B : Type 0} (l : S → FieldLayout A) (next : S → A → S) (to : A → B) (from : B → A) → ((s : S) (x : A) → (l s).good x ≡ true → from (to x) ≡ x) → (s : S) (n : ℕ) (xs : List A) → good_many l next s n xs ≡ true → map from (map to xs) ≡ xs
there_many l next to from h s zero [] good = refl
there_many l next to from h s zero (x ∷ xs) good = absurd cc
there_many l next to from h s (suc n) [] good = absurd cc
there_many l next to from h s (suc n) (x ∷ xs) good =
    let g = and_parts ((l s).good x) (good_many l next (next s x) n xs) good in
    rw (h s x g.0, there_many l next to from h (next s x) n xs g.1) refl

back_many : {S A B : Type 0} (l : S → FieldLayout A) (next : S → A → S) (to : A → B) (from : B → A) → ((s : S) (y : B) → (l s).good (from y) ≡ true → to (from y) ≡ y) → (s : S) (n : ℕ) (ys : List B) → good_many l next s n (map from ys) ≡ true → map to (map from ys) ≡ ys
back_many l next to from h s zero [] good = refl
back_many l next to from h s zero (y ∷ ys) good = absurd cc
back_many l next to from h s (suc n) [] good = absurd cc
back_many l next to from h s (suc n) (y ∷ ys) good =
    let g = and_parts ((l s).good (from y)) (good_many l next (next s (from y)) n (map from ys)) good in
    rw (h s y g.0, back_many l next to from h (next s (from y)) n ys g.1) refl

param_back : (kind instance : ℕ) (p : ParameterRecord) → (parameter_layout kind instance).good p ≡ true → record_of_param (param_of_record p) ≡ p
unfolding parameter_layout parameter_rows
param_back kind instance p good =
    let a = chain_parts section_field (λ s. chain_layout width_field (λ w. chain_layout (parameter_byte kind instance w) (λ byte. chain_layout (parameter_bit kind) (λ bit. zero_u8)))) (parameter_row (fields_of_parameter p)) good in
    let b = chain_parts width_field (λ w. chain_layout (parameter_byte kind instance w) (λ byte. chain_layout (parameter_bit kind) (λ bit. zero_u8))) (parameter_row (fields_of_parameter p)).1 a.1 in
    ap (λ (w : ℕ). let r : ParameterRecord = record { section = p.section; width = w; byte = p.byte; bit = p.bit } in r) (width_back p.width (within_width p.width b.0))

params_back : (h : Head) (ps : List ParameterRecord) → (parameters_layout h).good ps ≡ true → map record_of_param (map param_of_record ps) ≡ ps
unfolding parameters_layout
params_back h ps good = there_many (λ s. parameter_layout h.kind h.instance_bytes) same_state param_of_record record_of_param (λ s p g. param_back h.kind h.instance_bytes p g) 0 h.parameter_count ps good

params_there : (ps : List Param) → map param_of_record (map record_of_param ps) ≡ ps
params_there [] = refl
params_there (p ∷ ps) = rw (width_there p.width, params_there ps) refl

-- the parts of a block record without fault
pub good_block_of : (with_code_faults : Bool) (before : ℕ × ℕ) (b : BlockRecord) → (code_block_layout with_code_faults before).good b ≡ true → GoodBlock with_code_faults before 0 (parts_of_block b)
unfolding code_block_layout plain_block
good_block_of with_code_faults before b good = good_block with_code_faults before 0 (parts_of_block b) good

block_back : (with_code_faults : Bool) (before : ℕ × ℕ) (b : BlockRecord) → (code_block_layout with_code_faults before).good b ≡ true → record_of_block (block_of_record b) ≡ b
block_back with_code_faults before b good =
    let p = good_block_of with_code_faults before b good in
    ap (λ (k : ℕ). let r : BlockRecord = record { kind = k; number = b.number; local_len = b.local_len; instance_len = b.instance_len; params = map record_of_param (map param_of_record b.params); code = b.code; lines = b.lines } in r) (kind_back b.kind (head_kind before (head_of_block b) p.head_good))
    ∙ ap (λ (ps : List ParameterRecord). let r : BlockRecord = record { kind = b.kind; number = b.number; local_len = b.local_len; instance_len = b.instance_len; params = ps; code = b.code; lines = b.lines } in r) (params_back (head_of_block b) b.params p.params_good)

block_there : (with_code_faults : Bool) (before : ℕ × ℕ) (b : CodeBlock) → (code_block_layout with_code_faults before).good (record_of_block b) ≡ true → block_of_record (record_of_block b) ≡ b
block_there with_code_faults before b good =
    let p = good_block_of with_code_faults before (record_of_block b) good in
    ap (λ (k : BlockKind). let r : CodeBlock = record { id = record { kind = k; number = b.id.number }; local_len = b.local_len; instance_len = b.instance_len; params = map param_of_record (map record_of_param b.params); code = b.code; lines = b.lines } in r) (kind_there b.id.kind (head_kind before (head_of_block (record_of_block b)) p.head_good))
    ∙ ap (λ (ps : List Param). let r : CodeBlock = record { id = b.id; local_len = b.local_len; instance_len = b.instance_len; params = ps; code = b.code; lines = b.lines } in r) (params_there b.params)

pub name_parts_of : (before : List ℕ) (n : NameRecord) → (name_record before).good n ≡ true → NameParts before (name_row (fields_of_name n))
unfolding name_record
name_parts_of before n good = name_parts before (name_row (fields_of_name n)) good

name_back : (before : List ℕ) (n : NameRecord) → (name_record before).good n ≡ true → name_of_entry (entry_of_name n) ≡ n
name_back before n good = let p = name_parts_of before n good in rw (area_back n.area p.area_good, width_back n.width p.width_good) refl

name_there : (before : List ℕ) (e : NameEntry) → (name_record before).good (name_of_entry e) ≡ true → entry_of_name (name_of_entry e) ≡ e
name_there before e good =
    let p = name_parts_of before (name_of_entry e) good in
    let a = area_there e.place.number e.place.area p.area_good in
    ap (λ (z : Area). let r : NameEntry = record { name = e.name; place = record { area = z; number = 0; byte = e.place.byte; bit = e.place.bit }; width = width_of_number (width_number e.width) } in r) a.1
    ∙ ap (λ (n : ℕ). let r : NameEntry = record { name = e.name; place = record { area = e.place.area; number = n; byte = e.place.byte; bit = e.place.bit }; width = width_of_number (width_number e.width) } in r) (sym a.0)
    ∙ ap (λ (w : Width). let r : NameEntry = record { name = e.name; place = e.place; width = w } in r) (width_there e.width)

codes_back : (with_code_faults : Bool) (n : ℕ) (bs : List BlockRecord) → (code_blocks_layout with_code_faults n).good bs ≡ true → map record_of_block (map block_of_record bs) ≡ bs
unfolding code_blocks_layout
codes_back with_code_faults n bs good = there_many (code_block_layout with_code_faults) after_block block_of_record record_of_block (block_back with_code_faults) (0, 0) n bs good

codes_there : (with_code_faults : Bool) (n : ℕ) (bs : List CodeBlock) → (code_blocks_layout with_code_faults n).good (map record_of_block bs) ≡ true → map block_of_record (map record_of_block bs) ≡ bs
unfolding code_blocks_layout
codes_there with_code_faults n bs good = back_many (code_block_layout with_code_faults) after_block block_of_record record_of_block (block_there with_code_faults) (0, 0) n bs good

names_back : (n : ℕ) (ns : List NameRecord) → (names_layout n).good ns ≡ true → map name_of_entry (map entry_of_name ns) ≡ ns
unfolding names_layout
names_back n ns good = there_many name_record after_name entry_of_name name_of_entry name_back [] n ns good

names_there : (n : ℕ) (es : List NameEntry) → (names_layout n).good (map name_of_entry es) ≡ true → map entry_of_name (map name_of_entry es) ≡ es
unfolding names_layout
names_there n es good = back_many name_record after_name entry_of_name name_of_entry name_there [] n es good

pub good_records : (with_code_faults : Bool) (r : ImageRecords) → (records_layout with_code_faults).good r ≡ true → GoodRecords with_code_faults (parts_of_records r)
unfolding records_layout
good_records with_code_faults r good = good_parts with_code_faults (parts_of_records r) good

pub records_back : (with_code_faults : Bool) (r : ImageRecords) → (records_layout with_code_faults).good r ≡ true → records_of (program_of_records r) ≡ r
records_back with_code_faults r good =
    let p = good_records with_code_faults r good in
    ap (λ (z : List BlockRecord). let y : ImageRecords = record { code_blocks = z; data_blocks = r.data_blocks; names = map name_of_entry (map entry_of_name r.names) } in y) (codes_back with_code_faults (length r.code_blocks) r.code_blocks p.codes_good)
    ∙ ap (λ (z : List NameRecord). let y : ImageRecords = record { code_blocks = r.code_blocks; data_blocks = r.data_blocks; names = z } in y) (names_back (length r.names) r.names p.names_good)

records_there : (with_code_faults : Bool) (p : Program) → (records_layout with_code_faults).good (records_of p) ≡ true → program_of_records (records_of p) ≡ p
records_there with_code_faults p good =
    let q = good_records with_code_faults (records_of p) good in
    ap (λ (z : List CodeBlock). let y : Program = record { code_blocks = z; data_blocks = p.data_blocks; names = map entry_of_name (map name_of_entry p.names) } in y) (codes_there with_code_faults (length (map record_of_block p.code_blocks)) p.code_blocks q.codes_good)
    ∙ ap (λ (z : List NameEntry). let y : Program = record { code_blocks = p.code_blocks; data_blocks = p.data_blocks; names = z } in y) (names_there (length (map name_of_entry p.names)) p.names q.names_good)

pub body_laid : (with_code_faults : Bool) → IsLaidOut Program (body_layout with_code_faults)
unfolding body_layout
body_laid with_code_faults = seen_laid program_of_records records_of (records_layout with_code_faults) (records_back with_code_faults) (records_there with_code_faults) (records_laid with_code_faults)

-- ---- what is checked changes no byte, and is right where it isn't checked

pub many_text : {S A : Type 0} (l m : S → FieldLayout A) (next : S → A → S) → ((s : S) (x : A) → (l s).spell x ≡ (m s).spell x) → (s : S) (xs : List A) → spell_many l next s xs ≡ spell_many m next s xs
many_text l m next same s [] = refl
many_text l m next same s (x ∷ xs) = rw (same s x, many_text l m next same (next s x) xs) refl

line_text : (s x : ℕ) → (line_field true s).spell x ≡ (line_field false s).spell x
unfolding line_field
line_text s x = refl

code_text : (n : ℕ) (ops : List OpData) → (code_layout true n).spell ops ≡ (code_layout false n).spell ops
unfolding code_layout
code_text n ops = refl

block_text : (before : ℕ × ℕ) (b : BlockRecord) → (code_block_layout true before).spell b ≡ (code_block_layout false before).spell b
unfolding code_block_layout plain_block block_rows code_and_lines lines_layout
block_text before b =
    let h = head_of_block b in
    ap (λ (z : List ℕ). (head_layout before).spell h ++ ((parameters_layout h).spell b.params ++ (z ++ spell_many (line_field true) line_after 0 b.lines))) (code_text h.code_length b.code)
    ∙ ap (λ (z : List ℕ). (head_layout before).spell h ++ ((parameters_layout h).spell b.params ++ ((code_layout false h.code_length).spell b.code ++ z))) (many_text (line_field true) (line_field false) line_after line_text 0 b.lines)

pub true_text : (p : Program) → (body_layout true).spell p ≡ (body_layout false).spell p
unfolding body_layout records_layout body_rows code_blocks_layout
true_text p =
    let r = records_of p in
    let c = counts_of r in
    ap (λ (z : List ℕ). counts_layout.spell c ++ (z ++ ((data_blocks_layout c.data_blocks).spell r.data_blocks ++ (names_layout c.names).spell r.names))) (many_text (code_block_layout true) (code_block_layout false) after_block block_text (0, 0) r.code_blocks)

pub same_text : (with_code_faults : Bool) (p : Program) → (body_layout with_code_faults).spell p ≡ (body_layout false).spell p
same_text true p = true_text p
same_text false p = refl

many_weaker : {S A : Type 0} (l m : S → FieldLayout A) (next : S → A → S) → ((s : S) (x : A) → (l s).good x ≡ true → (m s).good x ≡ true) → (s : S) (n : ℕ) (xs : List A) → good_many l next s n xs ≡ true → good_many m next s n xs ≡ true
many_weaker l m next weaker s zero [] h = refl
many_weaker l m next weaker s zero (x ∷ xs) h = absurd cc
many_weaker l m next weaker s (suc n) [] h = absurd cc
many_weaker l m next weaker s (suc n) (x ∷ xs) h =
    let g = and_parts ((l s).good x) (good_many l next (next s x) n xs) h in
    and_from _ _ (weaker s x g.0) (many_weaker l m next weaker (next s x) n xs g.1)

line_weaker : (s x : ℕ) → (line_field true s).good x ≡ true → (line_field false s).good x ≡ true
unfolding line_field
line_weaker s x h = let g = and_parts (ltb x 4294967296) (is_fine (field_fault (Line s x))) h in and_from _ _ g.0 refl

code_weaker : (n : ℕ) (ops : List OpData) → (code_layout true n).good ops ≡ true → (code_layout false n).good ops ≡ true
unfolding code_layout
code_weaker n ops h =
    let a = and_parts (are_ops ops && is_fine (stop_at true ops [])) (eqb (length (code_bytes ops)) n) h in
    let b = and_parts (are_ops ops) (is_fine (stop_at true ops [])) a.0 in
    and_from (are_ops ops && true) (eqb (length (code_bytes ops)) n) (and_from (are_ops ops) true b.0 refl) a.1

lines_weaker : (h : Head) (ops : List OpData) (lines : List ℕ) → (lines_layout true 0 h ops).good lines ≡ true → (lines_layout false 0 h ops).good lines ≡ true
unfolding lines_layout
lines_weaker h ops lines good =
    let c = and_parts (is_fine (if_checked true (field_fault (StatementCount (end_marks ops) h.statement_count)))) (good_many (line_field true) line_after 0 h.statement_count lines) good in
    and_from true _ refl (many_weaker (line_field true) (line_field false) line_after line_weaker 0 h.statement_count lines c.1)

parts_good : (before : ℕ × ℕ) (b : BlockRecord) → GoodBlock true before 0 (parts_of_block b) → (code_block_layout false before).good b ≡ true
unfolding code_block_layout plain_block block_rows code_and_lines
parts_good before b g =
    let h = head_of_block b in
    and_from ((head_layout before).good h) _ g.head_good (and_from ((parameters_layout h).good b.params) _ g.params_good (and_from ((code_layout false h.code_length).good b.code) _ (code_weaker h.code_length b.code g.code_good) (lines_weaker h b.code b.lines g.lines_good)))

block_weaker : (before : ℕ × ℕ) (b : BlockRecord) → (code_block_layout true before).good b ≡ true → (code_block_layout false before).good b ≡ true
block_weaker before b h = parts_good before b (good_block_of true before b h)

codes_weaker : (n : ℕ) (bs : List BlockRecord) → (code_blocks_layout true n).good bs ≡ true → (code_blocks_layout false n).good bs ≡ true
unfolding code_blocks_layout
codes_weaker n bs h = many_weaker (code_block_layout true) (code_block_layout false) after_block block_weaker (0, 0) n bs h

all_good : (x : BodyParts) → GoodRecords true x → (body_rows false).good (row_of_body_parts x) ≡ true
unfolding body_rows
all_good x g =
    let c = x.counts in
    and_from (counts_layout.good c) _ g.counts_good (and_from ((code_blocks_layout false c.code_blocks).good x.code_blocks) _ (codes_weaker c.code_blocks x.code_blocks g.codes_good) (and_from ((data_blocks_layout c.data_blocks).good x.data_blocks) _ g.datas_good g.names_good))

pub good_weaker : (p : Program) → (body_layout true).good p ≡ true → (body_layout false).good p ≡ true
unfolding body_layout records_layout
good_weaker p h = let x = parts_of_records (records_of p) in all_good x (good_parts true x h)

-- ---- the header

abbrev front_from_profile : ℕ → FieldLayout (ℕ × ℕ)
front_from_profile version = chain_layout (profile_field version) (λ profile. plain_u32)

abbrev front_from_version : FieldLayout (ℕ × (ℕ × ℕ))
front_from_version = chain_layout version_field front_from_profile

front_rows_laid : IsLaidOut FrontRow front_rows
unfolding front_rows magic_field version_field profile_field plain_u32
front_rows_laid =
    chain_laid magic_field (λ magic. front_from_version) (field_laid u32 _ u32_exact) (λ magic.
    chain_laid version_field front_from_profile (field_laid u16 _ u16_exact) (λ version.
    chain_laid (profile_field version) (λ profile. plain_u32) (field_laid u16 _ u16_exact) (λ profile. field_laid u32 no_fault u32_exact)))

pub front_laid : IsLaidOut Front front_layout
unfolding front_layout
front_laid = seen_laid front_of_row row_of_front front_rows (λ r good. refl) (λ f good. refl) front_rows_laid

total_good : (total : ℕ) → total ≤ 8388608 → plain_u32.good total ≡ true
unfolding plain_u32
total_good total le = and_from (ltb total 4294967296) true (lt-ltb total 4294967296 (omega arith)) refl

front_good : (stamp : Stamp) (total : ℕ) → total ≤ 8388608 → front_layout.good (front_of stamp total) ≡ true
unfolding front_layout front_rows magic_field version_field profile_field field_fault
front_good stamps.One total le = and_from true _ refl (and_from true _ refl (and_from true _ refl (total_good total le)))
front_good (stamps.Two profiles.Small) total le = and_from true _ refl (and_from true _ refl (and_from true _ refl (total_good total le)))
front_good (stamps.Two profiles.Large) total le = and_from true _ refl (and_from true _ refl (and_from true _ refl (total_good total le)))

front_length : (f : Front) → length (front_layout.spell f) ≡ 12
unfolding front_layout front_rows magic_field version_field profile_field plain_u32
front_length f = refl

counts_length : (c : RecordCounts) → length (counts_layout.spell c) ≡ 8
unfolding counts_layout count_rows plain_u16 data_count zero_u16
counts_length c = refl

abbrev text_of : Program → List ℕ
text_of p = (body_layout false).spell p

text_long : (p : Program) → 8 ≤ length (text_of p)
unfolding body_layout records_layout body_rows
text_long p =
    let r = records_of p in
    let c = counts_of r in
    omega (arith, counts_length c, length-append (counts_layout.spell c) ((code_blocks_layout false c.code_blocks).spell r.code_blocks ++ ((data_blocks_layout c.data_blocks).spell r.data_blocks ++ (names_layout c.names).spell r.names)))

-- the stamp of the two fields that a stamp has
stamp_again : (stamp : Stamp) → stamp_of (version_number stamp) (profile_field_of stamp) ≡ stamp
stamp_again stamps.One = refl
stamp_again (stamps.Two profiles.Small) = refl
stamp_again (stamps.Two profiles.Large) = refl

-- ---- the image

-- a program with the version and profile of its image
abbrev pub StampedProgram : Type 0
StampedProgram = Stamp × Program

abbrev rest_of : Bool → Stamp → ℕ → Cursor → ReadResult StampedProgram
rest_of with_code_faults stamp total cur = bind_reading ((body_layout with_code_faults).read (record { at = cur.at; rest = take (total - front_size) cur.rest })) (end_layout stamp)

-- nothing is cut off, and nothing is noted
cut_finds : (with_code_faults : Bool) (stamp : Stamp) (total : ℕ) (cur : Cursor) (p : StampedProgram) (end : Cursor) → 20 ≤ total → total ≤ 8388608 → Finds StampedProgram (rest_of with_code_faults stamp total cur) p end → Finds StampedProgram (read_cut_off with_code_faults stamp total total cur) p end
cut_finds with_code_faults stamp total cur p end le most h =
    let no_cut : (ltb total 20 || ltb total total) ≡ false = or_from _ _ (le-ltb total 20 le) (le-ltb total total (omega arith)) in
    let same : eqb total total ≡ true = eq-eqb total total refl in
    let small : ltb 8388608 total ≡ false = le-ltb 8388608 total most in
    let shape : read_cut_off with_code_faults stamp total total cur ≡ rest_of with_code_faults stamp total cur = rw (no_cut, small, same) refl in
    subst (λ (z : ReadResult StampedProgram). Finds StampedProgram z p end) (sym shape) h

pub image_again : (with_code_faults : Bool) (stamp : Stamp) (p : Program) → (body_layout with_code_faults).good p ≡ true → front_size + length (text_of p) ≤ 8388608 → Finds StampedProgram (read_by with_code_faults (image stamp p)) (stamp, p) (at_place (front_size + length (text_of p)) [])
unfolding read_by image
image_again with_code_faults stamp p good short =
    let text = text_of p in
    let total = front_size + length text in
    let values : Front = front_of stamp total in
    let all = front_layout.spell values ++ text in
    let end = at_place total [] in
    let one = front_laid.again values 0 text (front_good stamp total short) in
    let mid = at_place (0 + length (front_layout.spell values)) text in
    let mid_is : mid ≡ at_place 12 text = ap (λ (k : ℕ). at_place (0 + k) text) (front_length values) in
    let one_here : Finds Front (front_layout.read (at_place 0 all)) values (at_place 12 text) = subst (λ (z : Cursor). Finds Front (front_layout.read (at_place 0 all)) values z) mid_is one in
    let size : length all ≡ total = length-append (front_layout.spell values) text ∙ ap (λ (k : ℕ). k + length text) (front_length values) in
    let spelled : (body_layout with_code_faults).spell p ≡ text = same_text with_code_faults p in
    let whole : take (total - front_size) text ≡ (body_layout with_code_faults).spell p ++ [] = ap (λ (z : List ℕ). take (total - front_size) z) (sym (append-nil text)) ∙ take_at text [] (total - front_size) (omega arith) ∙ sym spelled ∙ sym (append-nil ((body_layout with_code_faults).spell p)) in
    let two = (body_laid with_code_faults).again p 12 [] good in
    let two_at : Finds Program ((body_layout with_code_faults).read (at_place 12 ((body_layout with_code_faults).spell p ++ []))) p (at_place (12 + length text) []) = subst (λ (z : List ℕ). Finds Program ((body_layout with_code_faults).read (at_place 12 ((body_layout with_code_faults).spell p ++ []))) p (at_place (12 + length z) [])) spelled two in
    let two_here : Finds Program ((body_layout with_code_faults).read (at_place 12 (take (total - front_size) text))) p (at_place (12 + length text) []) = subst (λ (z : List ℕ). Finds Program ((body_layout with_code_faults).read (at_place 12 z)) p (at_place (12 + length text) [])) (sym whole) two_at in
    let three : Finds StampedProgram (end_layout stamp p (at_place (12 + length text) [])) (stamp, p) end = record { found = refl; clean = refl } in
    let inner : Finds StampedProgram (rest_of with_code_faults stamp total (at_place 12 text)) (stamp, p) end = bind_finds _ (end_layout stamp) p (at_place (12 + length text) []) (stamp, p) end two_here three in
    let cut_there : Finds StampedProgram (read_cut_off with_code_faults stamp total total (at_place 12 text)) (stamp, p) end = cut_finds with_code_faults stamp total (at_place 12 text) (stamp, p) end (let l = text_long p in omega arith) short inner in
    let cut_by : Finds StampedProgram (read_cut_off with_code_faults stamp (length all) total (at_place 12 text)) (stamp, p) end = subst (λ (k : ℕ). Finds StampedProgram (read_cut_off with_code_faults stamp k total (at_place 12 text)) (stamp, p) end) (sym size) cut_there in
    let cut_here : Finds StampedProgram (read_cut_off with_code_faults (stamp_in values) (length all) total (at_place 12 text)) (stamp, p) end = subst (λ (s : Stamp). Finds StampedProgram (read_cut_off with_code_faults s (length all) total (at_place 12 text)) (stamp, p) end) (sym (stamp_again stamp)) cut_by in
    bind_finds (front_layout.read (at_place 0 all)) (λ f cur. read_cut_off with_code_faults (stamp_in f) (length all) f.total_length cur) values (at_place 12 text) (stamp, p) end one_here cut_here

-- every byte string is the image of at most one program, version and profile
pub image_one : (s t : Stamp) (p q : Program) → IsProgram p → IsProgram q → image s p ≡ image t q → (s ≡ t) × (p ≡ q)
image_one s t p q hp hq e =
    let a = image_again false s p hp.good hp.short in
    let b = image_again false t q hq.good hq.short in
    let both = same_Some _ _ (sym a.found ∙ ap (λ (z : List ℕ). (read_by false z).found) e ∙ b.found) in
    (ap (λ (z : StampedProgram × Cursor). z.0.0) both, ap (λ (z : StampedProgram × Cursor). z.0.1) both)

no_note : (b : Bool) (at code : ℕ) → faults_in (cond b [] (Faulty at code ∷ [])) ≡ [] → b ≡ true
no_note true at code h = refl
no_note false at code h = absurd cc

magic_is : (n : ℕ) → magic_field.good n ≡ true → n ≡ 0x53374642
unfolding magic_field field_fault
magic_is n good = eqb-true n 0x53374642 (unless_fine _ 1 (and_parts (ltb n 4294967296) (is_fine (fault_unless_met (eqb n 0x53374642) 1)) good).1)

-- version and profile without fault are those of their stamp
record IsStamp (version profile : ℕ) : Type 0 where
  version_is : version ≡ version_number (stamp_of version profile)
  profile_is : profile ≡ profile_field_of (stamp_of version profile)

stamp_is : (version profile : ℕ) → version_field.good version ≡ true → (profile_field version).good profile ≡ true → IsStamp version profile
unfolding version_field profile_field field_fault
stamp_is version profile good fine = by_version version v f
  where
    v : (eqb version 1 || eqb version 2) ≡ true
    v = unless_fine _ 2 (and_parts (ltb version 65536) (is_fine (fault_unless_met (eqb version 1 || eqb version 2) 2)) good).1

    test : ℕ → ℕ → Bool
    test n m = cond (eqb n 2) (is_in_range 1 2 m) (eqb m 0)

    f : test version profile ≡ true
    f = unless_fine (test version profile) 4 (and_parts (ltb profile 65536) (is_fine (fault_unless_met (test version profile) 4)) fine).1

    by_profile : (m : ℕ) → is_in_range 1 2 m ≡ true → IsStamp 2 m
    by_profile zero h = absurd cc
    by_profile (suc zero) h = record { version_is = refl; profile_is = refl }
    by_profile (suc (suc zero)) h = record { version_is = refl; profile_is = refl }
    by_profile (suc (suc (suc m))) h = absurd (let le = leb-true (suc (suc (suc m))) 2 (and_parts (leb 1 (suc (suc (suc m)))) (leb (suc (suc (suc m))) 2) h).1 in omega arith)

    by_version : (n : ℕ) → (eqb n 1 || eqb n 2) ≡ true → test n profile ≡ true → IsStamp n profile
    by_version zero h g = absurd cc
    by_version (suc zero) h g = record { version_is = refl; profile_is = eqb-true profile 0 g }
    by_version (suc (suc zero)) h g = by_profile profile g
    by_version (suc (suc (suc n))) h g =
        let m = suc (suc (suc n)) in
        let none : (eqb m 1 || eqb m 2) ≡ false = or_from (eqb m 1) (eqb m 2) (ne_eqb m 1 (λ e. omega (arith, e))) (ne_eqb m 2 (λ e. omega (arith, e))) in
        let e : true ≡ false = sym h ∙ none in
        absurd cc

-- what a front without fault says
record GoodFront (f : Front) : Type 0 where
  magic : f.magic ≡ 0x53374642
  stamp : IsStamp f.version f.profile

good_front : (f : Front) → front_layout.good f ≡ true → GoodFront f
unfolding front_layout front_rows
good_front f good =
    let row = row_of_front f in
    let a = chain_parts magic_field (λ magic. front_from_version) row good in
    let b = chain_parts version_field front_from_profile row.1 a.1 in
    let c = chain_parts (profile_field f.version) (λ profile. plain_u32) row.1.1 b.1 in
    record { magic = magic_is f.magic a.0; stamp = stamp_is f.version f.profile b.0 c.0 }

front_is : (f : Front) (total : ℕ) → GoodFront f → f.total_length ≡ total → f ≡ front_of (stamp_in f) total
front_is f total g t = ap front_of_row (quad g.magic g.stamp.version_is g.stamp.profile_is t)

pub image_takes : (text : List ℕ) (s : Stamp) (p : Program) (end : Cursor) → IsBytes text → Finds StampedProgram (read_image text) (s, p) end → (text ≡ image s p) × IsProgram p × IsRight p
unfolding read_by image
image_takes text s p end are h =
    let a = bind_parts (front_layout.read (at_place 0 text)) (λ f cur. read_cut_off true (stamp_in f) (length text) f.total_length cur) (s, p) end h in
    let f = a.first in
    let stamp = stamp_in f in
    let total = f.total_length in
    let cur = a.next in
    let t = front_laid.takes (at_place 0 text) f cur are a.one in
    let fs = good_front f t.good in
    cond_finds (ltb total 20 || ltb (length text) total) (reading_ended 8 3) _ (s, p) end _ a.two (λ _ k. absurd (ended_finds 8 3 (s, p) end k)) (λ within g.
    cond_finds (ltb 8388608 total) (reading_ended 8 4) _ (s, p) end _ g (λ _ k. absurd (ended_finds 8 4 (s, p) end k)) (λ small g.
    let most : total ≤ 8388608 = ltb-false 8388608 total small in
    let n = no_faults (cond (eqb (length text) total) [] (Faulty total 10 ∷ [])) (rest_of true stamp total cur).notes g.clean in
    let size : length text ≡ total = eqb-true _ _ (no_note _ total 10 n.0) in
    let b = bind_parts ((body_layout true).read (at_place cur.at (take (total - front_size) cur.rest))) (end_layout stamp) (s, p) end (record { found = g.found; clean = n.1 }) in
    let u = (body_laid true).takes (at_place cur.at (take (total - front_size) cur.rest)) b.first b.next (bytes_taken (total - front_size) cur.rest t.text.rest_fits) b.one in
    let made = same_Some ((stamp, b.first), b.next) ((s, p), end) b.two.found in
    let s_is : stamp ≡ s = ap (λ (z : StampedProgram × Cursor). z.0.0) made in
    let p_is : b.first ≡ p = ap (λ (z : StampedProgram × Cursor). z.0.1) made in
    let none : b.next.rest ≡ [] = nil_from_length b.next.rest (eqb-true _ _ (no_note _ b.next.at 10 b.two.clean)) in
    let lengths : length text ≡ 12 + length cur.rest = ap length t.text.parts ∙ length-append (front_layout.spell f) cur.rest ∙ ap (λ (k : ℕ). k + length cur.rest) (front_length f) in
    let all : take (total - front_size) cur.rest ≡ cur.rest = ap (λ (z : List ℕ). take (total - front_size) z) (sym (append-nil cur.rest)) ∙ take_at cur.rest [] (total - front_size) (omega (arith, lengths, size)) in
    let behind : cur.rest ≡ text_of b.first = sym all ∙ u.text.parts ∙ ap (λ (z : List ℕ). (body_layout true).spell b.first ++ z) none ∙ append-nil ((body_layout true).spell b.first) ∙ same_text true b.first in
    let total_is : total ≡ front_size + length (text_of b.first) = sym size ∙ lengths ∙ ap (λ (z : List ℕ). 12 + length z) behind in
    let values : f ≡ front_of stamp (front_size + length (text_of b.first)) = front_is f (front_size + length (text_of b.first)) fs total_is in
    let whole : text ≡ image stamp b.first = t.text.parts ∙ ap (λ (z : List ℕ). front_layout.spell f ++ z) behind ∙ ap (λ (z : Front). front_layout.spell z ++ text_of b.first) values in
    let right : IsProgram b.first × IsRight b.first = (record { good = good_weaker b.first u.good; short = rw (← total_is) most }, u.good) in
    let whole_here : text ≡ image s p = whole ∙ ap (λ (z : Stamp). image z b.first) s_is ∙ ap (λ (z : Program). image s z) p_is in
    let right_here : IsProgram p × IsRight p = subst (λ (z : Program). IsProgram z × IsRight z) p_is right in
    (whole_here, right_here.0, right_here.1)))

-- ---- programs again, and their parameters

pub program_again : (p : Program) → IsProgram p → program_of_records (records_of p) ≡ p
unfolding body_layout
program_again p h = records_there false p h.good

block_few : (with_code_faults : Bool) (before : ℕ × ℕ) (b : BlockRecord) → (code_block_layout with_code_faults before).good b ≡ true → length b.params ≤ 60
block_few with_code_faults before b good = head_params before (head_of_block b) (good_block_of with_code_faults before b good).head_good

blocks_few : (with_code_faults : Bool) (s : ℕ × ℕ) (n : ℕ) (bs : List BlockRecord) → good_many (code_block_layout with_code_faults) after_block s n bs ≡ true → HaveFewParameters bs
blocks_few with_code_faults s zero [] h = tt
blocks_few with_code_faults s zero (b ∷ bs) h = absurd cc
blocks_few with_code_faults s (suc n) [] h = absurd cc
blocks_few with_code_faults s (suc n) (b ∷ bs) h =
    let g = and_parts ((code_block_layout with_code_faults s).good b) (good_many (code_block_layout with_code_faults) after_block (after_block s b) n bs) h in
    (block_few with_code_faults s b g.0, blocks_few with_code_faults (after_block s b) n bs g.1)

codes_few : (with_code_faults : Bool) (n : ℕ) (bs : List BlockRecord) → (code_blocks_layout with_code_faults n).good bs ≡ true → HaveFewParameters bs
unfolding code_blocks_layout
codes_few with_code_faults n bs good = blocks_few with_code_faults (0, 0) n bs good

pub program_few : (p : Program) → IsProgram p → HaveFewParameters (map record_of_block p.code_blocks)
unfolding body_layout
program_few p h = let q = good_records false (records_of p) h.good in codes_few false (length (map record_of_block p.code_blocks)) (map record_of_block p.code_blocks) q.codes_good
