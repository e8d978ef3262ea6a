-- Where reading ends, a fault was noted.
use Rattle.std.proofs.Common.{◌≡◌, ℕ, zero, suc, ◌+◌, ◌-◌, Bool, true, false, cond, eqb, ltb, ◌||◌, List, [], ◌∷◌, ◌++◌, length, take, Option, Some, None, refl}
use Rattle.flat_code.specs.Coding.{Coding, u8, u16, u32}
use Rattle.flat_code.specs.Ops.{OpData}
use Rattle.flat_code.specs.Programs.{DataBlock, Program}
use Rattle.flat_code.specs.declared.stamps.Stamp.{Stamp}
use Rattle.flat_code.specs.Records.{BlockRecord, NameRecord}
use Rattle.flat_code.specs.declared.image_fields.ParameterRecord.{ParameterRecord}
use Rattle.flat_code.specs.Layout.{ReadingNote, Faulty, AllBlocks, Cursor, ReadResult, FieldLayout, reading_ended, reading_given, go_on, bind_reading, fault_note, field_of, field_layout, chain_layout, checked_layout, located_layout, read_many, list_layout, layout_seen_as, noted_layout, faults_in}
use Rattle.flat_code.specs.Codes.{ops_from, stop_at, read_ops, read_code, code_layout}
use Rattle.flat_code.specs.Image.{no_fault, plain_u16, plain_u32, zero_u8, zero_u16, width_field, bytes_coding, section_field, parameter_byte, parameter_bit, parameter_rows, parameter_fields, parameter_row, parameter_of_fields, fields_of_parameter, parameter_layout, kind_field, parameter_count_layout, block_number_layout, local_length_layout, instance_bytes_layout, Head, head_of_row, row_of_head, head_rows, head_layout, same_state, parameters_layout, line_after, line_field, lines_layout, code_and_lines, BlockRow, parts_of_block_row, row_of_block_parts, block_rows, block_of_parts, parts_of_block, plain_block, whole_note, code_block_at, code_block_layout, after_block, data_number_layout, instance_field, data_length_layout, contents_layout, data_rows, data_fields, data_row, data_of_fields, fields_of_data, data_block_layout, after_data, name_len, name_bytes, name_area, name_bit, name_rows, name_fields, name_row, name_of_fields, fields_of_name, name_record, after_name, data_count, RecordCounts, counts_of_row, row_of_counts, count_rows, counts_layout, code_blocks_layout, plain_data_blocks, data_blocks_layout, names_layout, parts_of_body_row, row_of_body_parts, body_rows, records_of_parts, parts_of_records, records_layout, program_of_records, records_of, body_layout, magic_field, version_field, profile_field, Front, front_of_row, row_of_front, front_rows, front_layout, front_size, stamp_in, end_layout, read_cut_off, read_by, read_image}
use Rattle.image_file.proofs.LayoutLemmas.{no_faults, at_place}

-- reading that ends has a fault
abbrev Ends : {A : Type 0} → ReadResult A → Type 0
Ends r = r.found ≡ None → faults_in r.notes ≡ [] → ⊥

record Sound (A : Type 0) (l : FieldLayout A) : Type 0 where
  ends : (cur : Cursor) → Ends (l.read cur)

go_ends : {A B : Type 0} (notes : List ReadingNote) (o : Option (A × Cursor)) (f : A → Cursor → ReadResult B) → (o ≡ None → faults_in notes ≡ [] → ⊥) → ((x : A) (next : Cursor) → Ends (f x next)) → Ends (go_on notes o f)
go_ends {A = A} {B = B} notes None f p q e clean = p refl clean
go_ends {A = A} {B = B} notes (Some x) f p q e clean = q x.0 x.1 e (no_faults notes (f x.0 x.1).notes clean).1

bind_ends : {A B : Type 0} (r : ReadResult A) (f : A → Cursor → ReadResult B) → Ends r → ((x : A) (next : Cursor) → Ends (f x next)) → Ends (bind_reading r f)
bind_ends r f p q = go_ends r.notes r.found f p q

given_ends : {A : Type 0} (x : A) (cur : Cursor) → Ends (reading_given x cur)
given_ends {A = A} x cur e clean = cc

ended_ends : {A : Type 0} (at code : ℕ) → Ends {A = A} (reading_ended at code)
ended_ends {A = A} at code e clean = cc

field_of_ends : {A : Type 0} (fault_in : A → Option ℕ) (cur : Cursor) (o : Option (A × List ℕ)) → Ends (field_of fault_in cur o)
field_of_ends {A = A} fault_in cur None e clean = cc
field_of_ends {A = A} fault_in cur (Some r) e clean = cc

field_sound : {A : Type 0} (c : Coding A) (fault_in : A → Option ℕ) → Sound A (field_layout c fault_in)
field_sound {A = A} c fault_in = record { ends = λ cur. field_of_ends fault_in cur (c.read cur.rest) }

chain_sound : {A B : Type 0} (l : FieldLayout A) (m : A → FieldLayout B) → Sound A l → ((x : A) → Sound B (m x)) → Sound (A × B) (chain_layout l m)
chain_sound {A = A} {B = B} l m p q = record { ends = λ cur. bind_ends (l.read cur) (λ x next. bind_reading ((m x).read next) (λ y end. reading_given (x, y) end)) (p.ends cur) (λ x next. bind_ends ((m x).read next) (λ y end. reading_given (x, y) end) ((q x).ends next) (λ y end. given_ends (x, y) end)) }

checked_sound : {A : Type 0} (at : ℕ) (fault : Option ℕ) (l : FieldLayout A) → Sound A l → Sound A (checked_layout at fault l)
checked_sound {A = A} at fault l p = record { ends = λ cur e clean. p.ends cur e (no_faults (fault_note at fault) (l.read cur).notes clean).1 }

seen_sound : {A B : Type 0} (to : A → B) (from : B → A) (l : FieldLayout A) → Sound A l → Sound B (layout_seen_as to from l)
seen_sound {A = A} {B = B} to from l p = record { ends = λ cur. bind_ends (l.read cur) (λ x end. reading_given (to x) end) (p.ends cur) (λ x end. given_ends (to x) end) }

noted_ends : {A : Type 0} (notes : List ReadingNote) (x : A) (end : Cursor) → Ends {A = A} (record { notes = notes; found = Some (x, end) })
noted_ends {A = A} notes x end e clean = cc

remembered_sound : {A : Type 0} (note : A → ReadingNote) (l : FieldLayout A) → Sound A l → Sound A (noted_layout note l)
remembered_sound {A = A} note l p = record { ends = λ cur. bind_ends (l.read cur) (λ x end. record { notes = note x ∷ []; found = Some (x, end) }) (p.ends cur) (λ x end. noted_ends (note x ∷ []) x end) }

located_sound : {A : Type 0} (l : ℕ → FieldLayout A) → ((at : ℕ) → Sound A (l at)) → Sound A (located_layout l)
located_sound {A = A} l p = record { ends = λ cur. (p cur.at).ends cur }

many_ends : {S A : Type 0} (l : S → FieldLayout A) (next : S → A → S) → ((s : S) → Sound A (l s)) → (s : S) (n : ℕ) (cur : Cursor) → Ends (read_many l next s n cur)
many_ends {S = S} {A = A} l next p s zero cur = given_ends [] cur
many_ends {S = S} {A = A} l next p s (suc n) cur = bind_ends ((l s).read cur) (λ x after. bind_reading (read_many l next (next s x) n after) (λ xs end. reading_given (x ∷ xs) end)) ((p s).ends cur) (λ x after. bind_ends (read_many l next (next s x) n after) (λ xs end. reading_given (x ∷ xs) end) (many_ends l next p (next s x) n after) (λ xs end. given_ends (x ∷ xs) end))

many_sound : {S A : Type 0} (l : S → FieldLayout A) (next : S → A → S) → ((s : S) → Sound A (l s)) → (s : S) (n : ℕ) → Sound (List A) (list_layout l next s n)
many_sound l next p s n = record { ends = many_ends l next p s n }

cond_ends : {A : Type 0} (b : Bool) (x y : ReadResult A) → Ends x → Ends y → Ends (cond b x y)
cond_ends true x y p q = p
cond_ends false x y p q = q

read_ops_ends : (o : Option ℕ) (at : ℕ) (ops : List OpData) (next : Cursor) → Ends (read_ops o at ops next)
read_ops_ends None at ops next = given_ends ops next
read_ops_ends (Some offset) at ops next = ended_ends (at + offset) 5

code_ends : (n : ℕ) (cur : Cursor) → Ends (read_code true n cur)
code_ends n cur = let r = ops_from n (take n cur.rest) in cond_ends (ltb (length cur.rest) n) (reading_ended cur.at 3) _ (ended_ends cur.at 3) (read_ops_ends (stop_at true r.0 r.1) cur.at r.0 _)

code_sound : (n : ℕ) → Sound (List OpData) (code_layout true n)
unfolding code_layout
code_sound n = record { ends = code_ends n }

parameter_sound : (kind instance : ℕ) → Sound ParameterRecord (parameter_layout kind instance)
unfolding parameter_layout parameter_rows section_field width_field parameter_byte parameter_bit zero_u8
parameter_sound kind instance =
    seen_sound (λ r. parameter_of_fields (parameter_fields r)) (λ p. parameter_row (fields_of_parameter p)) (parameter_rows kind instance)
    (chain_sound section_field _ (field_sound u8 _) (λ s.
    chain_sound width_field _ (field_sound u8 _) (λ w.
    chain_sound (parameter_byte kind instance w) _ (field_sound u16 _) (λ byte.
    chain_sound (parameter_bit kind) _ (field_sound u8 _) (λ bit. field_sound u8 _)))))

parameters_sound : (h : Head) → Sound (List ParameterRecord) (parameters_layout h)
unfolding parameters_layout
parameters_sound h = many_sound (λ s. parameter_layout h.kind h.instance_bytes) same_state (λ s. parameter_sound h.kind h.instance_bytes) 0 h.parameter_count

head_sound : (before : ℕ × ℕ) → Sound Head (head_layout before)
unfolding head_layout head_rows kind_field parameter_count_layout block_number_layout local_length_layout instance_bytes_layout zero_u16 plain_u16 plain_u32
head_sound before = seen_sound head_of_row row_of_head (head_rows before)
    (chain_sound (kind_field before.0) _ (field_sound u8 _) (λ kind.
    chain_sound (parameter_count_layout kind) _ (field_sound u8 _) (λ params.
    chain_sound (block_number_layout before.0 before.1 kind) _ (field_sound u16 _) (λ number.
    chain_sound (local_length_layout kind) _ (field_sound u16 _) (λ locals.
    chain_sound (instance_bytes_layout kind) _ (field_sound u16 _) (λ instance.
    chain_sound plain_u16 _ (field_sound u16 no_fault) (λ statements.
    chain_sound zero_u16 _ (field_sound u16 _) (λ zero. field_sound u32 no_fault))))))))

lines_sound : (start : ℕ) (h : Head) (ops : List OpData) → Sound (List ℕ) (lines_layout true start h ops)
unfolding lines_layout line_field
lines_sound start h ops = checked_sound (start + 8) _ (list_layout (line_field true) line_after 0 h.statement_count) (many_sound (line_field true) line_after (λ s. field_sound u32 _) 0 h.statement_count)

block_rows_sound : (before : ℕ × ℕ) (at : ℕ) → Sound BlockRow (block_rows true before at)
unfolding block_rows code_and_lines
block_rows_sound before at =
    chain_sound (head_layout before) _ (head_sound before) (λ h.
    chain_sound (parameters_layout h) (λ params. code_and_lines true at h) (parameters_sound h) (λ params.
    chain_sound (code_layout true h.code_length) (lines_layout true at h) (code_sound h.code_length) (lines_sound at h)))

code_block_sound : (before : ℕ × ℕ) → Sound BlockRecord (code_block_layout true before)
unfolding code_block_layout plain_block
code_block_sound before = located_sound (code_block_at true before) (λ at. remembered_sound (whole_note at) (plain_block true before at) (seen_sound (λ r. block_of_parts (parts_of_block_row r)) (λ b. row_of_block_parts (parts_of_block b)) (block_rows true before at) (block_rows_sound before at)))

code_blocks_sound : (n : ℕ) → Sound (List BlockRecord) (code_blocks_layout true n)
unfolding code_blocks_layout
code_blocks_sound n = many_sound (code_block_layout true) after_block code_block_sound (0, 0) n

data_sound : (before : ℕ × ℕ) → Sound DataBlock (data_block_layout before)
unfolding data_block_layout data_rows data_number_layout instance_field data_length_layout zero_u16 contents_layout
data_sound before = seen_sound (λ r. data_of_fields (data_fields r)) (λ d. data_row (fields_of_data d)) (data_rows before)
    (chain_sound (data_number_layout before.0) _ (field_sound u16 _) (λ number.
    chain_sound instance_field _ (field_sound u16 _) (λ instance.
    chain_sound (data_length_layout before.1) _ (field_sound u16 _) (λ n.
    chain_sound zero_u16 (λ zero. contents_layout n) (field_sound u16 _) (λ zero. field_sound (bytes_coding n) (λ bs. None))))))

data_blocks_sound : (n : ℕ) → Sound (List DataBlock) (data_blocks_layout n)
unfolding data_blocks_layout
data_blocks_sound n = remembered_sound AllBlocks (plain_data_blocks n) (many_sound data_block_layout after_data data_sound (0, 0) n)

name_sound : (before : List ℕ) → Sound NameRecord (name_record before)
unfolding name_record name_rows name_len name_bytes name_area width_field plain_u16 name_bit
name_sound before = seen_sound (λ r. name_of_fields (name_fields r)) (λ n. name_row (fields_of_name n)) (name_rows before)
    (chain_sound name_len _ (field_sound u8 _) (λ n.
    chain_sound (name_bytes before n) _ (field_sound (bytes_coding n) _) (λ name.
    chain_sound name_area _ (field_sound u8 _) (λ area.
    chain_sound width_field _ (field_sound u8 _) (λ w.
    chain_sound plain_u16 (λ byte. name_bit w) (field_sound u16 no_fault) (λ byte. field_sound u8 _))))))

names_sound : (n : ℕ) → Sound (List NameRecord) (names_layout n)
unfolding names_layout
names_sound n = many_sound name_record after_name name_sound [] n

counts_sound : Sound RecordCounts counts_layout
unfolding counts_layout count_rows plain_u16 data_count zero_u16
counts_sound = seen_sound counts_of_row row_of_counts count_rows
    (chain_sound plain_u16 _ (field_sound u16 no_fault) (λ codes.
    chain_sound data_count _ (field_sound u16 _) (λ datas.
    chain_sound plain_u16 (λ names. zero_u16) (field_sound u16 no_fault) (λ names. field_sound u16 _))))

body_sound : Sound Program (body_layout true)
unfolding body_layout records_layout body_rows
body_sound = seen_sound program_of_records records_of (records_layout true) (seen_sound (λ r. records_of_parts (parts_of_body_row r)) (λ r. row_of_body_parts (parts_of_records r)) (body_rows true)
    (chain_sound counts_layout (λ c. chain_layout (code_blocks_layout true c.code_blocks) (λ blocks. chain_layout (data_blocks_layout c.data_blocks) (λ datas. names_layout c.names))) counts_sound (λ c.
    chain_sound (code_blocks_layout true c.code_blocks) (λ blocks. chain_layout (data_blocks_layout c.data_blocks) (λ datas. names_layout c.names)) (code_blocks_sound c.code_blocks) (λ blocks.
    chain_sound (data_blocks_layout c.data_blocks) (λ datas. names_layout c.names) (data_blocks_sound c.data_blocks) (λ datas. names_sound c.names)))))

front_sound : Sound Front front_layout
unfolding front_layout front_rows magic_field version_field profile_field plain_u32
front_sound = seen_sound front_of_row row_of_front front_rows
    (chain_sound magic_field _ (field_sound u32 _) (λ magic.
    chain_sound version_field _ (field_sound u16 _) (λ version.
    chain_sound (profile_field version) (λ profile. plain_u32) (field_sound u16 _) (λ profile. field_sound u32 no_fault))))

joined_ends : {A : Type 0} (notes : List ReadingNote) (r : ReadResult A) → Ends r → Ends {A = A} (record { notes = notes ++ r.notes; found = r.found })
joined_ends {A = A} notes r p e clean = p e (no_faults notes r.notes clean).1

cut_ends : (stamp : Stamp) (size total : ℕ) (cur : Cursor) → Ends (read_cut_off true stamp size total cur)
cut_ends stamp size total cur =
    let inner = (body_layout true).read (record { at = cur.at; rest = take (total - front_size) cur.rest }) in
    cond_ends (ltb total 20 || ltb size total) (reading_ended 8 3) _ (ended_ends 8 3)
    (cond_ends (ltb 8388608 total) (reading_ended 8 4) _ (ended_ends 8 4)
    (joined_ends (cond (eqb size total) [] (Faulty total 10 ∷ [])) (bind_reading inner (end_layout stamp)) (bind_ends inner (end_layout stamp) (body_sound.ends (record { at = cur.at; rest = take (total - front_size) cur.rest })) (λ p end. noted_ends (end_layout stamp p end).notes (stamp, p) end))))

pub image_ends : (text : List ℕ) → (read_image text).found ≡ None → faults_in (read_image text).notes ≡ [] → ⊥
unfolding read_by
image_ends text = bind_ends (front_layout.read (at_place 0 text)) (λ f cur. read_cut_off true (stamp_in f) (length text) f.total_length cur) (front_sound.ends (at_place 0 text)) (λ f cur. cut_ends (stamp_in f) (length text) f.total_length cur)
