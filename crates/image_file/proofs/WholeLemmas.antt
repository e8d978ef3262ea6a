-- The blocks that reading notes are those of the program that it finds.
use Rattle.std.proofs.Common.{◌≡◌, ℕ, zero, suc, ◌+◌, ◌-◌, Bool, true, false, cond, eqb, ltb, ◌||◌, List, [], ◌∷◌, ◌++◌, map, length, take, Option, Some, None, refl, sym, ap, subst, ◌∙◌}
use Rattle.std.proofs.lemmas.List.{append-nil}
use Rattle.std.proofs.lemmas.Option.{same_Some}
use Rattle.std.specs.Option.{option_map}
use Rattle.plc_base.proofs.ListLemmas.{nil_parts}
use Rattle.flat_code.specs.Coding.{Coding, u8, u16, u32}
use Rattle.flat_code.specs.Ops.{OpData}
use Rattle.flat_code.specs.Programs.{DataBlock, Program}
use Rattle.flat_code.specs.declared.stamps.Stamp.{Stamp}
use Rattle.flat_code.specs.Records.{BlockRecord, NameRecord, ImageRecords}
use Rattle.flat_code.specs.declared.image_fields.ParameterRecord.{ParameterRecord}
use Rattle.flat_code.specs.Layout.{ReadingNote, Faulty, Whole, AllBlocks, Cursor, ReadResult, FieldLayout, reading_ended, reading_given, go_on, bind_reading, fault_note, field_of, field_layout, chain_layout, checked_layout, located_layout, read_many, list_layout, layout_seen_as, noted_layout, faults_in}
use Rattle.flat_code.specs.Codes.{ops_from, stop_at, read_ops, read_code, code_layout}
use Rattle.flat_code.specs.Image.{no_fault, plain_u16, plain_u32, zero_u8, zero_u16, width_field, bytes_coding, section_field, parameter_byte, parameter_bit, parameter_rows, parameter_fields, parameter_row, parameter_of_fields, fields_of_parameter, parameter_layout, kind_field, parameter_count_layout, block_number_layout, local_length_layout, instance_bytes_layout, Head, head_of_row, row_of_head, head_rows, head_layout, same_state, parameters_layout, line_after, line_field, lines_layout, code_and_lines, BlockRow, parts_of_block_row, row_of_block_parts, block_rows, block_of_parts, parts_of_block, plain_block, whole_note, code_block_at, code_block_layout, after_block, data_number_layout, instance_field, data_length_layout, contents_layout, data_rows, data_fields, data_row, data_of_fields, fields_of_data, data_block_layout, after_data, name_len, name_bytes, name_area, name_bit, name_rows, name_fields, name_row, name_of_fields, fields_of_name, name_record, after_name, data_count, RecordCounts, counts_of_row, row_of_counts, count_rows, counts_layout, code_blocks_layout, plain_data_blocks, data_blocks_layout, names_layout, BodyRow, parts_of_body_row, row_of_body_parts, body_rows, records_of_parts, parts_of_records, records_layout, record_of_block, program_of_records, records_of, body_layout, magic_field, version_field, profile_field, Front, front_of_row, row_of_front, front_rows, front_layout, front_size, stamp_in, end_layout, read_cut_off, read_by, read_image}
use Rattle.flat_code.specs.declared.image_fields.OpenBracket.{OpenBracket}
use Rattle.flat_code.specs.PlacedOps.{PlacedOp, StatementStart, starts_of_statements, code_places, open_behind, zones_left}
use Rattle.flat_code.specs.Blocks.{Environment, operand_fault, call_fault, mark_fault, bracket_fault, zone_fault, at_offset, op_faults, faults_over, open_faults, open_zone_faults, block_faults}
use Rattle.flat_code.specs.Loading.{lens_of, later_data_blocks, environment_of_block, whole_blocks, all_blocks, blocks_of, op_faults_of_blocks, faults_of, GivesProgram, AreVerified, IsLoadable}
use Rattle.flat_code.proofs.CodingLemmas.{IsBytes}
use Rattle.image_file.proofs.LayoutLemmas.{at_place, no_faults}
use Rattle.image_file.proofs.ImageLemmas.{image_again, image_takes, records_back, records_laid, front_laid, bytes_taken, StampedProgram}

-- the blocks of an image that notes name
record NotedBlocks : Type 0 where
  -- the code blocks that were read whole
  codes : List BlockRecord
  -- the data blocks, once all blocks of the image were read
  datas : Option (List DataBlock)

-- the blocks of two lists of notes, one behind the other
join : NotedBlocks → NotedBlocks → NotedBlocks
join a b = record { codes = a.codes ++ b.codes; datas = later_data_blocks a.datas b.datas }

-- no block
nothing : NotedBlocks
nothing = record { codes = []; datas = None }

-- the blocks that notes name
blocks_in : List ReadingNote → NotedBlocks
blocks_in notes = record { codes = blocks_of (whole_blocks notes); datas = all_blocks notes }

same_blocks : {a b : List BlockRecord} {x y : Option (List DataBlock)} → a ≡ b → x ≡ y → ◌≡◌ {A = NotedBlocks} (record { codes = a; datas = x }) (record { codes = b; datas = y })
same_blocks p q = rw (p, q) refl

wholes-append : (a b : List ReadingNote) → blocks_of (whole_blocks (a ++ b)) ≡ blocks_of (whole_blocks a) ++ blocks_of (whole_blocks b)
wholes-append [] b = refl
wholes-append (Faulty at code ∷ a) b = wholes-append a b
wholes-append (Whole start block ∷ a) b = ap (λ (z : List BlockRecord). block ∷ z) (wholes-append a b)
wholes-append (AllBlocks blocks ∷ a) b = wholes-append a b

later-assoc : (a b c : Option (List DataBlock)) → later_data_blocks a (later_data_blocks b c) ≡ later_data_blocks (later_data_blocks a b) c
later-assoc a b None = refl
later-assoc a b (Some lens) = refl

later-none : (a : Option (List DataBlock)) → later_data_blocks None a ≡ a
later-none None = refl
later-none (Some lens) = refl

all-append : (a b : List ReadingNote) → all_blocks (a ++ b) ≡ later_data_blocks (all_blocks a) (all_blocks b)
all-append [] b = sym (later-none (all_blocks b))
all-append (Faulty at code ∷ a) b = all-append a b
all-append (Whole start block ∷ a) b = all-append a b
all-append (AllBlocks blocks ∷ a) b = ap (later_data_blocks (Some blocks)) (all-append a b) ∙ later-assoc (Some blocks) (all_blocks a) (all_blocks b)

blocks_in-append : (a b : List ReadingNote) → blocks_in (a ++ b) ≡ join (blocks_in a) (blocks_in b)
unfolding blocks_in join
blocks_in-append a b = same_blocks (wholes-append a b) (all-append a b)

join-nothing : (a : NotedBlocks) → join a nothing ≡ a
unfolding join nothing
join-nothing a = same_blocks (append-nil a.codes) refl

nothing-join : (a : NotedBlocks) → join nothing a ≡ a
unfolding join nothing
nothing-join a = same_blocks refl (later-none a.datas)

none_noted : (at : ℕ) (o : Option ℕ) → blocks_in (fault_note at o) ≡ nothing
unfolding blocks_in nothing
none_noted at None = refl
none_noted at (Some code) = refl

none_at_all : blocks_in [] ≡ nothing
unfolding blocks_in nothing
none_at_all = refl

one : BlockRecord → NotedBlocks
one b = record { codes = b ∷ []; datas = None }

one_block : (start : ℕ) (b : BlockRecord) → blocks_in (whole_note start b ∷ []) ≡ one b
unfolding blocks_in one
one_block start b = refl

data_blocks_of : List DataBlock → NotedBlocks
data_blocks_of ds = record { codes = []; datas = Some ds }

all_are_noted : (ds : List DataBlock) → blocks_in (AllBlocks ds ∷ []) ≡ data_blocks_of ds
unfolding blocks_in data_blocks_of
all_are_noted ds = refl

-- what a layout notes of what it finds
record Notes (A : Type 0) (l : FieldLayout A) (view : A → NotedBlocks) : Type 0 where
  says : (cur : Cursor) (x : A) (end : Cursor) → (l.read cur).found ≡ Some (x, end) → blocks_in (l.read cur).notes ≡ view x

record Steps (A B : Type 0) (r : ReadResult A) (f : A → Cursor → ReadResult B) (y : B) (end : Cursor) : Type 0 where
  first : A
  next : Cursor
  one : r.found ≡ Some (first, next)
  two : (f first next).found ≡ Some (y, end)
  are : (bind_reading r f).notes ≡ r.notes ++ (f first next).notes
  notes : blocks_in (bind_reading r f).notes ≡ join (blocks_in r.notes) (blocks_in (f first next).notes)

go_steps : {A B : Type 0} (notes : List ReadingNote) (o : Option (A × Cursor)) (f : A → Cursor → ReadResult B) (y : B) (end : Cursor) → (go_on notes o f).found ≡ Some (y, end) → Steps A B (record { notes = notes; found = o }) f y end
go_steps {A = A} {B = B} notes None f y end e = absurd cc
go_steps {A = A} {B = B} notes (Some x) f y end e = record { first = x.0; next = x.1; one = refl; two = e; are = refl; notes = blocks_in-append notes (f x.0 x.1).notes }

steps : {A B : Type 0} (r : ReadResult A) (f : A → Cursor → ReadResult B) (y : B) (end : Cursor) → (bind_reading r f).found ≡ Some (y, end) → Steps A B r f y end
steps r f y end e = go_steps r.notes r.found f y end e

field_of_notes : {A : Type 0} (fault_in : A → Option ℕ) (cur : Cursor) (o : Option (A × List ℕ)) (x : A) (end : Cursor) → (field_of fault_in cur o).found ≡ Some (x, end) → blocks_in (field_of fault_in cur o).notes ≡ nothing
field_of_notes {A = A} fault_in cur None x end h = absurd cc
field_of_notes {A = A} fault_in cur (Some r) x end h = none_noted cur.at (fault_in r.0)

field_notes : {A : Type 0} (c : Coding A) (fault_in : A → Option ℕ) → Notes A (field_layout c fault_in) (λ x. nothing)
field_notes {A = A} c fault_in = record { says = λ cur x end e. field_of_notes fault_in cur (c.read cur.rest) x end e }

chain_notes : {A B : Type 0} (l : FieldLayout A) (m : A → FieldLayout B) (v : A → NotedBlocks) (w : A → B → NotedBlocks) → Notes A l v → ((x : A) → Notes B (m x) (w x)) → Notes (A × B) (chain_layout l m) (λ x. join (v x.0) (w x.0 x.1))
chain_notes {A = A} {B = B} l m v w p q = record {
  says = λ cur x end e.
      let a = steps (l.read cur) (λ x next. bind_reading ((m x).read next) (λ y end. reading_given (x, y) end)) x end e in
      let b = steps ((m a.first).read a.next) (λ y end. reading_given (a.first, y) end) x end a.two in
      let made = same_Some ((a.first, b.first), b.next) (x, end) b.two in
      let x_is = ap (λ (z : (A × B) × Cursor). z.0) made in
      let inner = b.notes ∙ ap (λ (z : NotedBlocks). join (blocks_in ((m a.first).read a.next).notes) z) none_at_all ∙ join-nothing (blocks_in ((m a.first).read a.next).notes) ∙ (q a.first).says a.next b.first b.next b.one in
      a.notes ∙ ap (λ (z : NotedBlocks). join z (blocks_in (bind_reading {B = A × B} ((m a.first).read a.next) (λ y end. reading_given (a.first, y) end)).notes)) (p.says cur a.first a.next a.one)
      ∙ ap (λ (z : NotedBlocks). join (v a.first) z) inner ∙ ap (λ (z : A × B). join (v z.0) (w z.0 z.1)) x_is;
}

checked_notes : {A : Type 0} (at : ℕ) (fault : Option ℕ) (l : FieldLayout A) (v : A → NotedBlocks) → Notes A l v → Notes A (checked_layout at fault l) v
checked_notes {A = A} at fault l v p = record { says = λ cur x end e. blocks_in-append (fault_note at fault) (l.read cur).notes ∙ ap (λ (z : NotedBlocks). join z (blocks_in (l.read cur).notes)) (none_noted at fault) ∙ nothing-join (blocks_in (l.read cur).notes) ∙ p.says cur x end e }

seen_notes : {A B : Type 0} (to : A → B) (from : B → A) (l : FieldLayout A) (v : A → NotedBlocks) (w : B → NotedBlocks) → ((x : A) → v x ≡ w (to x)) → Notes A l v → Notes B (layout_seen_as to from l) w
seen_notes {A = A} {B = B} to from l v w same p = record {
  says = λ cur y end e.
      let a = steps (l.read cur) (λ x end. reading_given (to x) end) y end e in
      let made = same_Some (to a.first, a.next) (y, end) a.two in
      a.notes ∙ ap (λ (z : NotedBlocks). join (blocks_in (l.read cur).notes) z) none_at_all ∙ join-nothing (blocks_in (l.read cur).notes) ∙ p.says cur a.first a.next a.one ∙ same a.first ∙ ap w (ap (λ (z : B × Cursor). z.0) made);
}

remembered_notes : {A : Type 0} (note : A → ReadingNote) (l : FieldLayout A) (w : A → NotedBlocks) → ((x : A) → blocks_in (note x ∷ []) ≡ w x) → Notes A l (λ x. nothing) → Notes A (noted_layout note l) w
remembered_notes {A = A} note l w tells p = record {
  says = λ cur b end e.
      let a = steps (l.read cur) (λ x end. record { notes = note x ∷ []; found = Some (x, end) }) b end e in
      let made = same_Some (a.first, a.next) (b, end) a.two in
      a.notes ∙ ap (λ (z : NotedBlocks). join z (blocks_in (note a.first ∷ []))) (p.says cur a.first a.next a.one) ∙ nothing-join (blocks_in (note a.first ∷ [])) ∙ tells a.first ∙ ap (λ (z : A × Cursor). w z.0) made;
}

located_notes : {A : Type 0} (l : ℕ → FieldLayout A) (v : A → NotedBlocks) → ((at : ℕ) → Notes A (l at) v) → Notes A (located_layout l) v
located_notes {A = A} l v p = record { says = λ cur x end e. (p cur.at).says cur x end e }

all_of : {A : Type 0} → (A → NotedBlocks) → List A → NotedBlocks
all_of v [] = nothing
all_of v (x ∷ xs) = join (v x) (all_of v xs)

many_says : {S A : Type 0} (l : S → FieldLayout A) (next : S → A → S) (v : A → NotedBlocks) → ((s : S) → Notes A (l s) v) → (s : S) (n : ℕ) (cur : Cursor) (xs : List A) (end : Cursor) → (read_many l next s n cur).found ≡ Some (xs, end) → blocks_in (read_many l next s n cur).notes ≡ all_of v xs
unfolding all_of
many_says {S = S} {A = A} l next v p s zero cur xs end e = let made = same_Some ([], cur) (xs, end) e in none_at_all ∙ ap (λ (z : List A × Cursor). all_of v z.0) made
many_says {S = S} {A = A} l next v p s (suc n) cur xs end e =
    let a = steps ((l s).read cur) (λ x after. bind_reading (read_many l next (next s x) n after) (λ xs end. reading_given (x ∷ xs) end)) xs end e in
    let b = steps (read_many l next (next s a.first) n a.next) (λ xs end. reading_given (a.first ∷ xs) end) xs end a.two in
    let made = same_Some (a.first ∷ b.first, b.next) (xs, end) b.two in
    let inner = b.notes ∙ ap (λ (z : NotedBlocks). join (blocks_in (read_many l next (next s a.first) n a.next).notes) z) none_at_all ∙ join-nothing (blocks_in (read_many l next (next s a.first) n a.next).notes) ∙ many_says l next v p (next s a.first) n a.next b.first b.next b.one in
    a.notes ∙ ap (λ (z : NotedBlocks). join z (blocks_in (bind_reading (read_many l next (next s a.first) n a.next) (λ xs end. reading_given (a.first ∷ xs) end)).notes)) ((p s).says cur a.first a.next a.one)
    ∙ ap (λ (z : NotedBlocks). join (v a.first) z) inner ∙ ap (λ (z : List A × Cursor). all_of v z.0) made

many_notes : {S A : Type 0} (l : S → FieldLayout A) (next : S → A → S) (v : A → NotedBlocks) → ((s : S) → Notes A (l s) v) → (s : S) (n : ℕ) → Notes (List A) (list_layout l next s n) (all_of v)
many_notes l next v p s n = record { says = many_says l next v p s n }

-- layouts that note no block
weaker : {A : Type 0} (l : FieldLayout A) (v w : A → NotedBlocks) → ((x : A) → v x ≡ w x) → Notes A l v → Notes A l w
weaker {A = A} l v w same p = record { says = λ cur x end e. p.says cur x end e ∙ same x }

chain_none : {A B : Type 0} (l : FieldLayout A) (m : A → FieldLayout B) → Notes A l (λ x. nothing) → ((x : A) → Notes B (m x) (λ y. nothing)) → Notes (A × B) (chain_layout l m) (λ x. nothing)
chain_none {A = A} {B = B} l m p q = weaker (chain_layout l m) (λ x. join nothing nothing) (λ x. nothing) (λ x. nothing-join nothing) (chain_notes l m (λ x. nothing) (λ x y. nothing) p q)

all_none : {A : Type 0} (xs : List A) → all_of (λ x. nothing) xs ≡ nothing
unfolding all_of
all_none [] = refl
all_none (x ∷ xs) = nothing-join (all_of (λ x. nothing) xs) ∙ all_none xs

many_none : {S A : Type 0} (l : S → FieldLayout A) (next : S → A → S) → ((s : S) → Notes A (l s) (λ x. nothing)) → (s : S) (n : ℕ) → Notes (List A) (list_layout l next s n) (λ xs. nothing)
many_none l next p s n = weaker (list_layout l next s n) (all_of (λ x. nothing)) (λ xs. nothing) (λ xs. all_none xs) (many_notes l next (λ x. nothing) p s n)

cond_found : {A : Type 0} (b : Bool) (x y : ReadResult A) (v : A) (end : Cursor) (t : NotedBlocks) → (cond b x y).found ≡ Some (v, end) → (x.found ≡ Some (v, end) → blocks_in x.notes ≡ t) → (y.found ≡ Some (v, end) → blocks_in y.notes ≡ t) → blocks_in (cond b x y).notes ≡ t
cond_found true x y v end t e f g = f e
cond_found false x y v end t e f g = g e

read_ops_says : (o : Option ℕ) (at : ℕ) (ops : List OpData) (next : Cursor) (x : List OpData) (end : Cursor) → (read_ops o at ops next).found ≡ Some (x, end) → blocks_in (read_ops o at ops next).notes ≡ nothing
read_ops_says None at ops next x end e = none_at_all
read_ops_says (Some offset) at ops next x end e = absurd cc

code_says : (n : ℕ) (cur : Cursor) (ops : List OpData) (end : Cursor) → (read_code true n cur).found ≡ Some (ops, end) → blocks_in (read_code true n cur).notes ≡ nothing
code_says n cur ops end e =
    let r = ops_from n (take n cur.rest) in
    cond_found (ltb (length cur.rest) n) _ _ ops end nothing e (λ h. absurd cc) (λ e. read_ops_says (stop_at true r.0 r.1) cur.at r.0 _ ops end e)

code_notes : (n : ℕ) → Notes (List OpData) (code_layout true n) (λ ops. nothing)
unfolding code_layout
code_notes n = record { says = code_says n }

parameter_notes : (kind instance : ℕ) → Notes ParameterRecord (parameter_layout kind instance) (λ p. nothing)
unfolding parameter_layout parameter_rows section_field width_field parameter_byte parameter_bit zero_u8
parameter_notes kind instance =
    seen_notes (λ r. parameter_of_fields (parameter_fields r)) (λ p. parameter_row (fields_of_parameter p)) (parameter_rows kind instance) (λ x. nothing) (λ p. nothing) (λ x. refl)
    (chain_none section_field _ (field_notes u8 _) (λ s.
    chain_none width_field _ (field_notes u8 _) (λ w.
    chain_none (parameter_byte kind instance w) _ (field_notes u16 _) (λ byte.
    chain_none (parameter_bit kind) _ (field_notes u8 _) (λ bit. field_notes u8 _)))))

parameters_notes : (h : Head) → Notes (List ParameterRecord) (parameters_layout h) (λ ps. nothing)
unfolding parameters_layout
parameters_notes h = many_none (λ s. parameter_layout h.kind h.instance_bytes) same_state (λ s. parameter_notes h.kind h.instance_bytes) 0 h.parameter_count

head_notes : (before : ℕ × ℕ) → Notes Head (head_layout before) (λ h. nothing)
unfolding head_layout head_rows kind_field parameter_count_layout block_number_layout local_length_layout instance_bytes_layout zero_u16 plain_u16 plain_u32
head_notes before = seen_notes head_of_row row_of_head (head_rows before) (λ r. nothing) (λ h. nothing) (λ r. refl)
    (chain_none (kind_field before.0) _ (field_notes u8 _) (λ kind.
    chain_none (parameter_count_layout kind) _ (field_notes u8 _) (λ params.
    chain_none (block_number_layout before.0 before.1 kind) _ (field_notes u16 _) (λ number.
    chain_none (local_length_layout kind) _ (field_notes u16 _) (λ locals.
    chain_none (instance_bytes_layout kind) _ (field_notes u16 _) (λ instance.
    chain_none plain_u16 _ (field_notes u16 no_fault) (λ statements.
    chain_none zero_u16 _ (field_notes u16 _) (λ zero. field_notes u32 no_fault))))))))

lines_notes : (start : ℕ) (h : Head) (ops : List OpData) → Notes (List ℕ) (lines_layout true start h ops) (λ x. nothing)
unfolding lines_layout line_field
lines_notes start h ops = checked_notes (start + 8) _ (list_layout (line_field true) line_after 0 h.statement_count) (λ x. nothing) (many_none (line_field true) line_after (λ s. field_notes u32 _) 0 h.statement_count)

block_rows_notes : (before : ℕ × ℕ) (at : ℕ) → Notes BlockRow (block_rows true before at) (λ r. nothing)
unfolding block_rows code_and_lines
block_rows_notes before at =
    chain_none (head_layout before) _ (head_notes before) (λ h.
    chain_none (parameters_layout h) (λ params. code_and_lines true at h) (parameters_notes h) (λ params.
    chain_none (code_layout true h.code_length) (lines_layout true at h) (code_notes h.code_length) (lines_notes at h)))

code_block_notes : (before : ℕ × ℕ) → Notes BlockRecord (code_block_layout true before) one
unfolding code_block_layout plain_block
code_block_notes before = located_notes (code_block_at true before) one (λ at. remembered_notes (whole_note at) (plain_block true before at) one (one_block at) (seen_notes (λ r. block_of_parts (parts_of_block_row r)) (λ b. row_of_block_parts (parts_of_block b)) (block_rows true before at) (λ x. nothing) (λ b. nothing) (λ x. refl) (block_rows_notes before at)))

singles : (bs : List BlockRecord) → all_of one bs ≡ record { codes = bs; datas = None }
unfolding all_of one join nothing
singles [] = refl
singles (b ∷ bs) = ap (λ (z : NotedBlocks). let y : NotedBlocks = record { codes = b ∷ z.codes; datas = later_data_blocks None z.datas } in y) (singles bs)

abbrev code_blocks_of : List BlockRecord → NotedBlocks
code_blocks_of bs = record { codes = bs; datas = None }

code_blocks_notes : (n : ℕ) → Notes (List BlockRecord) (code_blocks_layout true n) code_blocks_of
unfolding code_blocks_layout
code_blocks_notes n = weaker (list_layout (code_block_layout true) after_block (0, 0) n) (all_of one) code_blocks_of singles (many_notes (code_block_layout true) after_block one code_block_notes (0, 0) n)

data_notes : (before : ℕ × ℕ) → Notes DataBlock (data_block_layout before) (λ d. nothing)
unfolding data_block_layout data_rows data_number_layout instance_field data_length_layout zero_u16 contents_layout
data_notes before = seen_notes (λ r. data_of_fields (data_fields r)) (λ d. data_row (fields_of_data d)) (data_rows before) (λ x. nothing) (λ d. nothing) (λ x. refl)
    (chain_none (data_number_layout before.0) _ (field_notes u16 _) (λ number.
    chain_none instance_field _ (field_notes u16 _) (λ instance.
    chain_none (data_length_layout before.1) _ (field_notes u16 _) (λ n.
    chain_none zero_u16 (λ zero. contents_layout n) (field_notes u16 _) (λ zero. field_notes (bytes_coding n) (λ bs. None))))))

data_blocks_notes : (n : ℕ) → Notes (List DataBlock) (data_blocks_layout n) data_blocks_of
unfolding data_blocks_layout
data_blocks_notes n = remembered_notes AllBlocks (plain_data_blocks n) data_blocks_of all_are_noted (many_none data_block_layout after_data data_notes (0, 0) n)

name_notes : (before : List ℕ) → Notes NameRecord (name_record before) (λ n. nothing)
unfolding name_record name_rows name_len name_bytes name_area width_field plain_u16 name_bit
name_notes before = seen_notes (λ r. name_of_fields (name_fields r)) (λ n. name_row (fields_of_name n)) (name_rows before) (λ x. nothing) (λ n. nothing) (λ x. refl)
    (chain_none name_len _ (field_notes u8 _) (λ n.
    chain_none (name_bytes before n) _ (field_notes (bytes_coding n) _) (λ name.
    chain_none name_area _ (field_notes u8 _) (λ area.
    chain_none width_field _ (field_notes u8 _) (λ w.
    chain_none plain_u16 (λ byte. name_bit w) (field_notes u16 no_fault) (λ byte. field_notes u8 _))))))

names_notes : (n : ℕ) → Notes (List NameRecord) (names_layout n) (λ ns. nothing)
unfolding names_layout
names_notes n = many_none name_record after_name name_notes [] n

counts_notes : Notes RecordCounts counts_layout (λ c. nothing)
unfolding counts_layout count_rows plain_u16 data_count zero_u16
counts_notes = seen_notes counts_of_row row_of_counts count_rows (λ r. nothing) (λ c. nothing) (λ r. refl)
    (chain_none plain_u16 _ (field_notes u16 no_fault) (λ codes.
    chain_none data_count _ (field_notes u16 _) (λ datas.
    chain_none plain_u16 (λ names. zero_u16) (field_notes u16 no_fault) (λ names. field_notes u16 _))))

abbrev datas_and_names : List DataBlock × List NameRecord → NotedBlocks
datas_and_names x = join (data_blocks_of x.0) nothing

abbrev blocks_and_names : List BlockRecord × (List DataBlock × List NameRecord) → NotedBlocks
blocks_and_names x = join (code_blocks_of x.0) (datas_and_names x.1)

body_rows_notes : Notes BodyRow (body_rows true) (λ r. join nothing (blocks_and_names r.1))
unfolding body_rows
body_rows_notes =
    chain_notes counts_layout (λ c. chain_layout (code_blocks_layout true c.code_blocks) (λ blocks. chain_layout (data_blocks_layout c.data_blocks) (λ datas. names_layout c.names))) (λ c. nothing) (λ c. blocks_and_names) counts_notes (λ c.
    chain_notes (code_blocks_layout true c.code_blocks) (λ blocks. chain_layout (data_blocks_layout c.data_blocks) (λ datas. names_layout c.names)) code_blocks_of (λ bs. datas_and_names) (code_blocks_notes c.code_blocks) (λ blocks.
    chain_notes (data_blocks_layout c.data_blocks) (λ datas. names_layout c.names) data_blocks_of (λ ds ns. nothing) (data_blocks_notes c.data_blocks) (λ datas. names_notes c.names)))

-- all blocks of records
blocks_of_records : ImageRecords → NotedBlocks
blocks_of_records r = record { codes = r.code_blocks; datas = Some r.data_blocks }

records_joined : (x : BodyRow) → join nothing (blocks_and_names x.1) ≡ blocks_of_records (records_of_parts (parts_of_body_row x))
unfolding join nothing data_blocks_of blocks_of_records
records_joined x = same_blocks (append-nil x.1.0) refl

records_notes : Notes ImageRecords (records_layout true) blocks_of_records
unfolding records_layout
records_notes = seen_notes (λ r. records_of_parts (parts_of_body_row r)) (λ r. row_of_body_parts (parts_of_records r)) (body_rows true) (λ r. join nothing (blocks_and_names r.1)) blocks_of_records records_joined body_rows_notes

front_notes : Notes Front front_layout (λ f. nothing)
unfolding front_layout front_rows magic_field version_field profile_field plain_u32
front_notes = seen_notes front_of_row row_of_front front_rows (λ r. nothing) (λ f. nothing) (λ r. refl)
    (chain_none magic_field _ (field_notes u32 _) (λ magic.
    chain_none version_field _ (field_notes u16 _) (λ version.
    chain_none (profile_field version) (λ profile. plain_u32) (field_notes u16 _) (λ profile. field_notes u32 no_fault))))

cond_note : (b : Bool) (at code : ℕ) → blocks_in (cond b [] (Faulty at code ∷ [])) ≡ nothing
unfolding blocks_in nothing
cond_note true at code = refl
cond_note false at code = refl

abbrev are_good : ImageRecords → Type 0
are_good r = (records_layout true).good r ≡ true

-- the records that were found without fault
record FromRecords (p : Program) (notes : List ReadingNote) : Type 0 where
  records : ImageRecords
  program : program_of_records records ≡ p
  good : are_good records
  noted : blocks_in notes ≡ blocks_of_records records

body_from : (cur : Cursor) (p : Program) (end : Cursor) → IsBytes cur.rest → ((body_layout true).read cur).found ≡ Some (p, end) → faults_in ((body_layout true).read cur).notes ≡ [] → FromRecords p ((body_layout true).read cur).notes
unfolding body_layout
body_from cur p end are e clean =
    let a = steps ((records_layout true).read cur) (λ x end. reading_given (program_of_records x) end) p end e in
    let made = same_Some (program_of_records a.first, a.next) (p, end) a.two in
    let c = no_faults ((records_layout true).read cur).notes [] (sym (ap faults_in a.are) ∙ clean) in
    let t = (records_laid true).takes cur a.first a.next are (record { found = a.one; clean = c.0 }) in
    record {
      records = a.first;
      program = ap (λ (z : Program × Cursor). z.0) made;
      good = t.good;
      noted = a.notes ∙ ap (λ (z : NotedBlocks). join (blocks_in ((records_layout true).read cur).notes) z) none_at_all ∙ join-nothing (blocks_in ((records_layout true).read cur).notes) ∙ records_notes.says cur a.first a.next a.one;
    }

abbrev cut_cursor : ℕ → Cursor → Cursor
cut_cursor total cur = record { at = cur.at; rest = take (total - front_size) cur.rest }

abbrev cut_inner : Stamp → List ℕ → ℕ → Cursor → ReadResult StampedProgram
cut_inner stamp text total cur = record {
  notes = cond (eqb (length text) total) [] (Faulty total 10 ∷ []) ++ (bind_reading ((body_layout true).read (cut_cursor total cur)) (end_layout stamp)).notes;
  found = (bind_reading ((body_layout true).read (cut_cursor total cur)) (end_layout stamp)).found;
}

inner_from : (stamp : Stamp) (text : List ℕ) (total : ℕ) (cur : Cursor) (p : StampedProgram) (end : Cursor) → IsBytes cur.rest → (cut_inner stamp text total cur).found ≡ Some (p, end) → faults_in (cut_inner stamp text total cur).notes ≡ [] → FromRecords p.1 (cut_inner stamp text total cur).notes
inner_from stamp text total cur p end are e clean =
    let inner = (body_layout true).read (cut_cursor total cur) in
    let a = steps inner (end_layout stamp) p end e in
    let made = same_Some ((stamp, a.first), a.next) (p, end) a.two in
    let c = no_faults (cond (eqb (length text) total) [] (Faulty total 10 ∷ [])) (bind_reading inner (end_layout stamp)).notes clean in
    let d = no_faults inner.notes (end_layout stamp a.first a.next).notes (sym (ap faults_in a.are) ∙ c.1) in
    let f = body_from (cut_cursor total cur) a.first a.next (bytes_taken (total - front_size) cur.rest are) a.one d.0 in
    record {
      records = f.records;
      program = f.program ∙ ap (λ (z : StampedProgram × Cursor). z.0.1) made;
      good = f.good;
      noted = blocks_in-append (cond (eqb (length text) total) [] (Faulty total 10 ∷ [])) (bind_reading inner (end_layout stamp)).notes
          ∙ ap (λ (z : NotedBlocks). join z (blocks_in (bind_reading inner (end_layout stamp)).notes)) (cond_note (eqb (length text) total) total 10)
          ∙ nothing-join (blocks_in (bind_reading inner (end_layout stamp)).notes)
          ∙ a.notes ∙ ap (λ (z : NotedBlocks). join (blocks_in inner.notes) z) (cond_note (eqb (length a.next.rest) 0) a.next.at 10) ∙ join-nothing (blocks_in inner.notes)
          ∙ f.noted;
    }

cut_from : (stamp : Stamp) (text : List ℕ) (total : ℕ) (cur : Cursor) (p : StampedProgram) (end : Cursor) (b d : Bool) → IsBytes cur.rest → (cond b (reading_ended 8 3) (cond d (reading_ended 8 4) (cut_inner stamp text total cur))).found ≡ Some (p, end) → faults_in (cond b (reading_ended 8 3) (cond d (reading_ended 8 4) (cut_inner stamp text total cur))).notes ≡ [] → FromRecords p.1 (cond b (reading_ended 8 3) (cond d (reading_ended 8 4) (cut_inner stamp text total cur))).notes
cut_from stamp text total cur p end true d are e clean = absurd cc
cut_from stamp text total cur p end false true are e clean = absurd cc
cut_from stamp text total cur p end false false are e clean = inner_from stamp text total cur p end are e clean

image_from : (text : List ℕ) (p : StampedProgram) (end : Cursor) → IsBytes text → (read_image text).found ≡ Some (p, end) → faults_in (read_image text).notes ≡ [] → FromRecords p.1 (read_image text).notes
unfolding read_by
image_from text p end are e clean =
    let a = steps (front_layout.read (at_place 0 text)) (λ f cur. read_cut_off true (stamp_in f) (length text) f.total_length cur) p end e in
    let stamp = stamp_in a.first in
    let total = a.first.total_length in
    let c = no_faults (front_layout.read (at_place 0 text)).notes (read_cut_off true stamp (length text) total a.next).notes (sym (ap faults_in a.are) ∙ clean) in
    let t = front_laid.takes (at_place 0 text) a.first a.next are (record { found = a.one; clean = c.0 }) in
    let f = cut_from stamp text total a.next p end (ltb total 20 || ltb (length text) total) (ltb 8388608 total) t.text.rest_fits a.two c.1 in
    record {
      records = f.records;
      program = f.program;
      good = f.good;
      noted = a.notes ∙ ap (λ (z : NotedBlocks). join z (blocks_in (read_cut_off true stamp (length text) total a.next).notes)) (front_notes.says (at_place 0 text) a.first a.next a.one) ∙ nothing-join (blocks_in (read_cut_off true stamp (length text) total a.next).notes) ∙ f.noted;
    }

-- what reading without fault noted, by the program
pub record AreNotesOf (p : Program) (notes : List ReadingNote) : Type 0 where
  pub codes : blocks_of (whole_blocks notes) ≡ map record_of_block p.code_blocks
  pub datas : all_blocks notes ≡ Some p.data_blocks

pub image_noted : (text : List ℕ) (stamp : Stamp) (p : Program) (end : Cursor) → IsBytes text → (read_image text).found ≡ Some ((stamp, p), end) → faults_in (read_image text).notes ≡ [] → AreNotesOf p (read_image text).notes
unfolding blocks_in blocks_of_records
image_noted text stamp p end are e clean =
    let f = image_from text (stamp, p) end are e clean in
    let back : records_of p ≡ f.records = ap records_of (sym f.program) ∙ records_back true f.records f.good in
    record {
      codes = ap (λ (z : NotedBlocks). z.codes) f.noted ∙ sym (ap (λ (z : ImageRecords). z.code_blocks) back);
      datas = ap (λ (z : NotedBlocks). z.datas) f.noted ∙ sym (ap (λ (z : ImageRecords). Some z.data_blocks) back);
    }

-- ---- verifying

nil_join : {A : Type 0} {xs ys : List A} → xs ≡ [] → ys ≡ [] → xs ++ ys ≡ []
nil_join p q = rw (p, q) refl

elsewhere : (at other : ℕ) (o : Option ℕ) → at_offset at o ≡ [] → at_offset other o ≡ []
elsewhere at other None e = refl
elsewhere at other (Some code) e = absurd cc

op_moved : (environment : Environment) (ps : List StatementStart) (start other : ℕ) (p : PlacedOp) → op_faults environment ps start p ≡ [] → op_faults environment ps other p ≡ []
unfolding op_faults
op_moved environment ps start other p e =
    let at = start + p.at in
    let to = other + p.at in
    let a = at_offset at (operand_fault environment ps p p.op.operand) in
    let b = at_offset at (call_fault environment environment.data_lens p) in
    let c = at_offset at (mark_fault p.op) in
    let d = at_offset at (bracket_fault p.op.code p.brackets) in
    let f = at_offset at (zone_fault p.op.code p.zones) in
    let o = nil_parts (((a ++ b) ++ c) ++ d) f e in
    let n = nil_parts ((a ++ b) ++ c) d o.0 in
    let m = nil_parts (a ++ b) c n.0 in
    let l = nil_parts a b m.0 in
    nil_join (nil_join (nil_join (nil_join (elsewhere at to (operand_fault environment ps p p.op.operand) l.0) (elsewhere at to (call_fault environment environment.data_lens p) l.1)) (elsewhere at to (mark_fault p.op) m.1)) (elsewhere at to (bracket_fault p.op.code p.brackets) n.1)) (elsewhere at to (zone_fault p.op.code p.zones) o.1)

over_moved : (environment : Environment) (ps : List StatementStart) (start other : ℕ) (rest : List PlacedOp) → faults_over environment ps start rest ≡ [] → faults_over environment ps other rest ≡ []
over_moved environment ps start other [] e = refl
over_moved environment ps start other (p ∷ rest) e =
    let n = nil_parts (op_faults environment ps start p) (faults_over environment ps start rest) e in
    nil_join (op_moved environment ps start other p n.0) (over_moved environment ps start other rest n.1)

open_moved : (start other : ℕ) (bs : List OpenBracket) → open_faults start bs ≡ [] → open_faults other bs ≡ []
open_moved start other [] e = refl
open_moved start other (b ∷ bs) e = absurd cc

open_zones_moved : (start other : ℕ) (zones : List ℕ) → open_zone_faults start zones ≡ [] → open_zone_faults other zones ≡ []
open_zones_moved start other [] e = refl
open_zones_moved start other (at ∷ zones) e = absurd cc

-- where a block begins doesn't matter for whether it has a fault
pub moved : (environment : Environment) (start other : ℕ) (ops : List OpData) → block_faults environment start ops ≡ [] → block_faults environment other ops ≡ []
unfolding block_faults
moved environment start other ops e =
    let m = nil_parts (faults_over environment (starts_of_statements ops) start (code_places ops) ++ open_faults start (open_behind 0 [] ops)) (open_zone_faults start (zones_left 0 [] ops)) e in
    let n = nil_parts (faults_over environment (starts_of_statements ops) start (code_places ops)) (open_faults start (open_behind 0 [] ops)) m.0 in
    nil_join (nil_join (over_moved environment (starts_of_statements ops) start other (code_places ops) n.0) (open_moved start other (open_behind 0 [] ops) n.1)) (open_zones_moved start other (zones_left 0 [] ops) m.1)

verified : (lens : List (ℕ × ℕ)) (all : List BlockRecord) (bs : List (ℕ × BlockRecord)) → op_faults_of_blocks (Some lens) all bs ≡ [] → AreVerified lens all (blocks_of bs)
verified lens all [] e = tt
verified lens all (b ∷ bs) e =
    let n = nil_parts (block_faults (environment_of_block (Some lens) all b.1) b.0 b.1.code) (op_faults_of_blocks (Some lens) all bs) e in
    (moved (environment_of_block (Some lens) all b.1) b.0 0 b.1.code n.0, verified lens all bs n.1)

no_faults_where_verified : (lens : List (ℕ × ℕ)) (all : List BlockRecord) (bs : List (ℕ × BlockRecord)) → AreVerified lens all (blocks_of bs) → op_faults_of_blocks (Some lens) all bs ≡ []
no_faults_where_verified lens all [] h = refl
no_faults_where_verified lens all (b ∷ bs) h = nil_join (moved (environment_of_block (Some lens) all b.1) 0 b.0 b.1.code h.0) (no_faults_where_verified lens all bs h.1)

pub gives_image : (text : List ℕ) (stamp : Stamp) (p : Program) → IsBytes text → GivesProgram text stamp p → IsLoadable text stamp p
unfolding faults_of
gives_image text stamp p are g =
    let notes = (read_image text).notes in
    let n = nil_parts (faults_in notes) (op_faults_of_blocks (option_map lens_of (all_blocks notes)) (blocks_of (whole_blocks notes)) (whole_blocks notes)) g.clean in
    let t = image_takes text stamp p g.end are (record { found = g.found; clean = n.0 }) in
    let m = image_noted text stamp p g.end are g.found n.0 in
    let no_block_faults : op_faults_of_blocks (Some (lens_of p.data_blocks)) (blocks_of (whole_blocks notes)) (whole_blocks notes) ≡ [] = ap (λ (z : Option (List DataBlock)). op_faults_of_blocks (option_map lens_of z) (blocks_of (whole_blocks notes)) (whole_blocks notes)) (sym m.datas) ∙ n.1 in
    let v = verified (lens_of p.data_blocks) (blocks_of (whole_blocks notes)) (whole_blocks notes) no_block_faults in
    record {
      spelled = t.0;
      program = t.1;
      verifies = record { right = t.2; blocks = subst (λ (z : List BlockRecord). AreVerified (lens_of p.data_blocks) z z) m.codes v };
    }

pub image_gives : (text : List ℕ) (stamp : Stamp) (p : Program) → IsBytes text → IsLoadable text stamp p → GivesProgram text stamp p
unfolding faults_of
image_gives text stamp p are h =
    let is = image_again true stamp p h.verifies.right h.program.short in
    let end : Cursor = at_place (front_size + length ((body_layout false).spell p)) [] in
    let notes = (read_image text).notes in
    let found : (read_image text).found ≡ Some ((stamp, p), end) = ap (λ (z : List ℕ). (read_image z).found) h.spelled ∙ is.found in
    let clean : faults_in notes ≡ [] = ap (λ (z : List ℕ). faults_in (read_image z).notes) h.spelled ∙ is.clean in
    let m = image_noted text stamp p end are found clean in
    let v : AreVerified (lens_of p.data_blocks) (blocks_of (whole_blocks notes)) (blocks_of (whole_blocks notes)) = subst (λ (z : List BlockRecord). AreVerified (lens_of p.data_blocks) z z) (sym m.codes) h.verifies.blocks in
    let no_block_faults : op_faults_of_blocks (option_map lens_of (all_blocks notes)) (blocks_of (whole_blocks notes)) (whole_blocks notes) ≡ [] = ap (λ (z : Option (List DataBlock)). op_faults_of_blocks (option_map lens_of z) (blocks_of (whole_blocks notes)) (whole_blocks notes)) m.datas ∙ no_faults_where_verified (lens_of p.data_blocks) (blocks_of (whole_blocks notes)) (whole_blocks notes) v in
    record { end = end; found = found; clean = nil_join clean no_block_faults }
