-- One pass over an image as a whole.
use Rattle.std.proofs.Common.{◌≡◌, ℕ, ◌-◌, ◌<◌, ◌≤◌, Bool, true, false, cond, eqb, ltb, not, ◌||◌, List, [], ◌∷◌, ◌++◌, length, take, Err, refl, sym, ap, ◌∙◌}
use Rattle.std.proofs.lemmas.Bool.{le-ltb, lt-ltb, or_from}
use Rattle.plc_base.proofs.TruthLemmas.{or_met_behind}
use Rattle.flat_code.specs.Programs.{DataBlock, Program}
use Rattle.flat_code.specs.declared.stamps.Stamp.{Stamp}
use Rattle.flat_code.specs.Records.{BlockRecord, NameRecord, ImageRecords}
use Rattle.flat_code.specs.Layout.{Faulty, Cursor, ReadResult, FieldLayout, reading_ended, bind_reading, chain_layout, list_layout}
use Rattle.flat_code.specs.Image.{RecordCounts, counts_layout, code_blocks_layout, data_blocks_layout, names_layout, name_record, after_name, BodyRow, parts_of_body_row, row_of_body_parts, body_rows, records_of_parts, parts_of_records, records_layout, program_of_records, records_of, body_layout, Front, front_layout, front_size, stamp_in, end_layout, read_cut_off, read_by, read_image}
use Rattle.image_file.specs.declared.stops.Stop.{Stop}
use Rattle.image_file.specs.declared.stops.Stop.TheVariants as stop
use Rattle.image_file.specs.declared.reader.Reader.{Reader}
use Rattle.image_file.specs.Running.{IsReaderRun, IsBlocksRun, IsDataBlocksRun, IsRecordsRun, IsImageRun, Log, log_after, RunResult, Continues, Stops, run_layout, run_of_read, then_run, log_of}
use Rattle.image_file.proofs.ImageLemmas.{StampedProgram}
use Rattle.image_file.proofs.RunLemmas.{chain_goes, chain_ends, chain_breaks, seen_goes, seen_ends, go_read, run_is_read, ended_read, noted_read}

-- the records of a row, and the row of records
abbrev to_records : BodyRow → ImageRecords
to_records r = records_of_parts (parts_of_body_row r)

abbrev from_records : ImageRecords → BodyRow
from_records r = row_of_body_parts (parts_of_records r)

abbrev after_codes : RecordCounts → FieldLayout (List DataBlock × List NameRecord)
after_codes c = chain_layout (data_blocks_layout c.data_blocks) (λ datas. names_layout c.names)

abbrev after_counts : RecordCounts → FieldLayout (List BlockRecord × (List DataBlock × List NameRecord))
after_counts c = chain_layout (code_blocks_layout true c.code_blocks) (λ blocks. after_codes c)

names_are : (n : ℕ) (cur : Cursor) (log : Log) → run_layout (list_layout name_record after_name [] n) cur log ≡ run_layout (names_layout n) cur log
unfolding names_layout
names_are n cur log = refl

-- where reading stands behind the counts
abbrev IsCounted : RecordCounts → Cursor → Log → Cursor → Log → Type 0
IsCounted c next mid cur log = Continues c next mid ≡ run_layout counts_layout cur log

pub counts_stop : {X : Type 0} (view : X → List NameRecord) (r : Reader) (cur : Cursor) (log : Log) → ◌≡◌ {A = RunResult RecordCounts} (Stops (log_of r)) (run_layout counts_layout cur log) → IsRecordsRun view (Err stop.AtFault) r (run_layout (records_layout true) cur log)
unfolding records_layout body_rows
counts_stop view r cur log h = seen_ends to_records from_records (body_rows true) cur (log_of r) log (chain_ends counts_layout after_counts cur (log_of r) log h)

pub codes_stop : {X : Type 0} (view : X → List NameRecord) (e : Stop) (r : Reader) (c : RecordCounts) (next cur : Cursor) (mid log : Log) → Continues c next mid ≡ run_layout counts_layout cur log → IsBlocksRun (Err e) r (run_layout (code_blocks_layout true c.code_blocks) next mid) → IsRecordsRun view (Err e) r (run_layout (records_layout true) cur log)
unfolding records_layout body_rows
codes_stop view stop.AtFault r c next cur mid log p h =
    seen_ends to_records from_records (body_rows true) cur (log_of r) log
    (chain_breaks counts_layout after_counts c next cur mid (log_of r) log p (chain_ends (code_blocks_layout true c.code_blocks) (λ blocks. after_codes c) next (log_of r) mid h))
codes_stop view stop.NoMemory r c next cur mid log p h = tt

pub datas_stop : {X : Type 0} (view : X → List NameRecord) (e : Stop) (r : Reader) (c : RecordCounts) (bs : List BlockRecord) (next two cur : Cursor) (mid log2 log : Log) → Continues c next mid ≡ run_layout counts_layout cur log → Continues bs two log2 ≡ run_layout (code_blocks_layout true c.code_blocks) next mid → IsDataBlocksRun (Err e) r (run_layout (data_blocks_layout c.data_blocks) two log2) → IsRecordsRun view (Err e) r (run_layout (records_layout true) cur log)
unfolding records_layout body_rows
datas_stop view stop.AtFault r c bs next two cur mid log2 log p q h =
    seen_ends to_records from_records (body_rows true) cur (log_of r) log
    (chain_breaks counts_layout after_counts c next cur mid (log_of r) log p (chain_breaks (code_blocks_layout true c.code_blocks) (λ blocks. after_codes c) bs two next log2 (log_of r) mid q (chain_ends (data_blocks_layout c.data_blocks) (λ datas. names_layout c.names) two (log_of r) log2 h)))
datas_stop view stop.NoMemory r c bs next two cur mid log2 log p q h = tt

pub names_stop : {X : Type 0} (view : X → List NameRecord) (e : Stop) (r : Reader) (c : RecordCounts) (bs : List BlockRecord) (ds : List DataBlock) (next two three cur : Cursor) (mid log2 log3 log : Log) → Continues c next mid ≡ run_layout counts_layout cur log → Continues bs two log2 ≡ run_layout (code_blocks_layout true c.code_blocks) next mid → Continues ds three log3 ≡ run_layout (data_blocks_layout c.data_blocks) two log2
    → IsReaderRun view (Err e) r (run_layout (list_layout name_record after_name [] c.names) three log3) → IsRecordsRun view (Err e) r (run_layout (records_layout true) cur log)
unfolding records_layout body_rows
names_stop view stop.AtFault r c bs ds next two three cur mid log2 log3 log p q s h =
    seen_ends to_records from_records (body_rows true) cur (log_of r) log
    (chain_breaks counts_layout after_counts c next cur mid (log_of r) log p (chain_breaks (code_blocks_layout true c.code_blocks) (λ blocks. after_codes c) bs two next log2 (log_of r) mid q (chain_breaks (data_blocks_layout c.data_blocks) (λ datas. names_layout c.names) ds three two log3 (log_of r) log2 s (h ∙ names_are c.names three log3))))
names_stop view stop.NoMemory r c bs ds next two three cur mid log2 log3 log p q s h = tt

pub records_go : (c : RecordCounts) (bs : List BlockRecord) (ds : List DataBlock) (ns : List NameRecord) (next two three end cur : Cursor) (mid log2 log3 last log : Log) → Continues c next mid ≡ run_layout counts_layout cur log → Continues bs two log2 ≡ run_layout (code_blocks_layout true c.code_blocks) next mid → Continues ds three log3 ≡ run_layout (data_blocks_layout c.data_blocks) two log2
    → Continues ns end last ≡ run_layout (list_layout name_record after_name [] c.names) three log3 → Continues (to_records (c, (bs, (ds, ns)))) end last ≡ run_layout (records_layout true) cur log
unfolding records_layout body_rows
records_go c bs ds ns next two three end cur mid log2 log3 last log p q s t =
    seen_goes to_records from_records (body_rows true) (c, (bs, (ds, ns))) end cur last log
    (chain_goes counts_layout after_counts c (bs, (ds, ns)) next end cur mid last log p (chain_goes (code_blocks_layout true c.code_blocks) (λ blocks. after_codes c) bs (ds, ns) two end next log2 last mid q (chain_goes (data_blocks_layout c.data_blocks) (λ datas. names_layout c.names) ds ns three end two log3 last log2 s (t ∙ names_are c.names three log3))))

-- ---- behind the total length

abbrev cut_cursor : ℕ → Cursor → Cursor
cut_cursor total cur = record { at = cur.at; rest = take (total - front_size) cur.rest }

inner : Stamp → ℕ → Cursor → ReadResult StampedProgram
inner stamp total cur = bind_reading ((body_layout true).read (cut_cursor total cur)) (end_layout stamp)

cut_is : (stamp : Stamp) (size total : ℕ) (cur : Cursor) (log : Log) → 20 ≤ total → total ≤ size → total ≤ 8388608 → run_of_read (read_cut_off true stamp size total cur) log ≡ run_of_read (inner stamp total cur) (log_after log (cond (eqb size total) [] (Faulty total 10 ∷ [])))
unfolding inner
cut_is stamp size total cur log low there high =
    let fits : (ltb total 20 || ltb size total) ≡ false = or_from (ltb total 20) (ltb size total) (le-ltb total 20 low) (le-ltb size total there) in
    let small : ltb 8388608 total ≡ false = le-ltb 8388608 total high in
    let shape : read_cut_off true stamp size total cur ≡ record { notes = cond (eqb size total) [] (Faulty total 10 ∷ []) ++ (inner stamp total cur).notes; found = (inner stamp total cur).found } = rw (fits, small) refl in
    ap (λ (r : ReadResult StampedProgram). run_of_read r log) shape ∙ noted_read (cond (eqb size total) [] (Faulty total 10 ∷ [])) (inner stamp total cur) log

inner_stops : (stamp : Stamp) (total : ℕ) (cur : Cursor) (log last : Log) → ◌≡◌ {A = RunResult ImageRecords} (Stops last) (run_layout (records_layout true) (cut_cursor total cur) log) → ◌≡◌ {A = RunResult StampedProgram} (Stops last) (run_of_read (inner stamp total cur) log)
unfolding inner body_layout
inner_stops stamp total cur log last h =
    let b : ◌≡◌ {A = RunResult Program} (Stops last) (run_layout (body_layout true) (cut_cursor total cur) log) = seen_ends program_of_records records_of (records_layout true) (cut_cursor total cur) last log h in
    sym (go_read ((body_layout true).read (cut_cursor total cur)) (end_layout stamp) log ∙ sym (ap (λ (r : RunResult Program). then_run r (λ p end mid. run_of_read (end_layout stamp p end) mid)) (b ∙ run_is_read (body_layout true) (cut_cursor total cur) log)))

end_read : (stamp : Stamp) (p : Program) (end : Cursor) (log : Log) → run_of_read (end_layout stamp p end) log ≡ Continues (stamp, p) end (log_after log (cond (eqb (length end.rest) 0) [] (Faulty end.at 10 ∷ [])))
unfolding run_of_read
end_read stamp p end log = refl

inner_goes : (stamp : Stamp) (total : ℕ) (cur : Cursor) (log last : Log) (x : ImageRecords) (end : Cursor) → Continues x end last ≡ run_layout (records_layout true) (cut_cursor total cur) log → Continues (stamp, program_of_records x) end (log_after last (cond (eqb (length end.rest) 0) [] (Faulty end.at 10 ∷ []))) ≡ run_of_read (inner stamp total cur) log
unfolding inner body_layout
inner_goes stamp total cur log last x end h =
    let b : Continues (program_of_records x) end last ≡ run_layout (body_layout true) (cut_cursor total cur) log = seen_goes program_of_records records_of (records_layout true) x end (cut_cursor total cur) last log h in
    sym (go_read ((body_layout true).read (cut_cursor total cur)) (end_layout stamp) log ∙ sym (ap (λ (r : RunResult Program). then_run r (λ p end mid. run_of_read (end_layout stamp p end) mid)) (b ∙ run_is_read (body_layout true) (cut_cursor total cur) log)) ∙ end_read stamp (program_of_records x) end last)

-- the condition as the code tests it
note_unless_equal : (a b : ℕ) (n : Bool) (at : ℕ) → n ≡ not (eqb a b) → cond n (Faulty at 10 ∷ []) [] ≡ cond (eqb a b) [] (Faulty at 10 ∷ [])
note_unless_equal a b n at e = ap (λ (z : Bool). cond z (Faulty at 10 ∷ []) []) e ∙ by (eqb a b)
  where
    by : (e : Bool) → cond (not e) (Faulty at 10 ∷ []) [] ≡ cond e [] (Faulty at 10 ∷ [])
    by true = refl
    by false = refl

pub rest_stops : {X : Type 0} (view : X → List NameRecord) (e : Stop) (r : Reader) (stamp : Stamp) (size total : ℕ) (differ : Bool) (cur place : Cursor) (log mid : Log) → 20 ≤ total → total ≤ size → total ≤ 8388608 → differ ≡ not (eqb size total) → mid ≡ log_after log (cond differ (Faulty total 10 ∷ []) []) → place ≡ cut_cursor total cur
    → IsRecordsRun view (Err e) r (run_layout (records_layout true) place mid) → IsImageRun (Err e) r (run_of_read (read_cut_off true stamp size total cur) log)
rest_stops view stop.AtFault r stamp size total differ cur place log mid low there high d m at_place h =
    let mid_is : mid ≡ log_after log (cond (eqb size total) [] (Faulty total 10 ∷ [])) = m ∙ ap (log_after log) (note_unless_equal size total differ total d) in
    inner_stops stamp total cur mid (log_of r) (h ∙ ap (λ (z : Cursor). run_layout (records_layout true) z mid) at_place) ∙ ap (run_of_read (inner stamp total cur)) mid_is ∙ sym (cut_is stamp size total cur log low there high)
rest_stops view stop.NoMemory r stamp size total differ cur place log mid low there high d m at_place h = tt

pub rest_goes : (stamp : Stamp) (x : ImageRecords) (end : Cursor) (size total : ℕ) (differ left : Bool) (cur place : Cursor) (log mid last after : Log) → 20 ≤ total → total ≤ size → total ≤ 8388608 → differ ≡ not (eqb size total) → mid ≡ log_after log (cond differ (Faulty total 10 ∷ []) [])
    → place ≡ cut_cursor total cur → Continues x end last ≡ run_layout (records_layout true) place mid → left ≡ not (eqb (length end.rest) 0) → after ≡ log_after last (cond left (Faulty end.at 10 ∷ []) []) → Continues (stamp, program_of_records x) end after ≡ run_of_read (read_cut_off true stamp size total cur) log
rest_goes stamp x end size total differ left cur place log mid last after low there high d m at_place h l a =
    let mid_is : mid ≡ log_after log (cond (eqb size total) [] (Faulty total 10 ∷ [])) = m ∙ ap (log_after log) (note_unless_equal size total differ total d) in
    let after_is : after ≡ log_after last (cond (eqb (length end.rest) 0) [] (Faulty end.at 10 ∷ [])) = a ∙ ap (log_after last) (note_unless_equal (length end.rest) 0 left end.at l) in
    ap (Continues (stamp, program_of_records x) end) after_is ∙ inner_goes stamp total cur mid last x end (h ∙ ap (λ (z : Cursor). run_layout (records_layout true) z mid) at_place) ∙ ap (run_of_read (inner stamp total cur)) mid_is ∙ sym (cut_is stamp size total cur log low there high)

-- ---- the whole

start : List ℕ → Cursor
start text = record { at = 0; rest = text }

image_is : (text : List ℕ) (log : Log) → run_of_read (read_image text) log ≡ then_run (run_layout front_layout (start text) log) (λ f cur mid. run_of_read (read_cut_off true (stamp_in f) (length text) f.total_length cur) mid)
unfolding read_by start
image_is text log = go_read (front_layout.read (start text)) (λ f cur. read_cut_off true (stamp_in f) (length text) f.total_length cur) log ∙ ap (λ (r : RunResult Front). then_run r (λ f cur mid. run_of_read (read_cut_off true (stamp_in f) (length text) f.total_length cur) mid)) (sym (run_is_read front_layout (start text) log))

pub front_stops : (r : Reader) (text : List ℕ) (at : ℕ) (log : Log) → at ≡ 0 → ◌≡◌ {A = RunResult Front} (Stops (log_of r)) (run_layout front_layout (record { at = at; rest = text }) log) → IsImageRun (Err stop.AtFault) r (run_of_read (read_image text) log)
unfolding start
front_stops r text at log zero_is h = sym (image_is text log ∙ sym (ap (λ (r : RunResult Front). then_run r (λ f cur mid. run_of_read (read_cut_off true (stamp_in f) (length text) f.total_length cur) mid)) (h ∙ ap (λ (n : ℕ). run_layout front_layout (record { at = n; rest = text }) log) zero_is)))

pub cut_image : (text : List ℕ) (at : ℕ) (log : Log) (f : Front) (cur : Cursor) (mid : Log) → at ≡ 0 → Continues f cur mid ≡ run_layout front_layout (record { at = at; rest = text }) log → run_of_read (read_image text) log ≡ run_of_read (read_cut_off true (stamp_in f) (length text) f.total_length cur) mid
unfolding start
cut_image text at log f cur mid zero_is h = image_is text log ∙ sym (ap (λ (r : RunResult Front). then_run r (λ f cur mid. run_of_read (read_cut_off true (stamp_in f) (length text) f.total_length cur) mid)) (h ∙ ap (λ (n : ℕ). run_layout front_layout (record { at = n; rest = text }) log) zero_is))

or_true : (a b : Bool) → a ≡ true → (a || b) ≡ true
or_true true b e = refl
or_true false b e = absurd cc

bad_total : (stamp : Stamp) (size total : ℕ) (cur : Cursor) (log : Log) → (ltb total 20 || ltb size total) ≡ true → ◌≡◌ {A = RunResult StampedProgram} (run_of_read (read_cut_off true stamp size total cur) log) (Stops (log_after log (Faulty 8 3 ∷ [])))
bad_total stamp size total cur log bad =
    let shape : read_cut_off true stamp size total cur ≡ reading_ended 8 3 = rw bad refl in
    ap (λ (r : ReadResult StampedProgram). run_of_read r log) shape ∙ ended_read 8 3 log

pub small_total : (stamp : Stamp) (size total : ℕ) (cur : Cursor) (log : Log) → total < 20 → ◌≡◌ {A = RunResult StampedProgram} (run_of_read (read_cut_off true stamp size total cur) log) (Stops (log_after log (Faulty 8 3 ∷ [])))
small_total stamp size total cur log lt = bad_total stamp size total cur log (or_true (ltb total 20) (ltb size total) (lt-ltb total 20 lt))

pub far_total : (stamp : Stamp) (size total : ℕ) (cur : Cursor) (log : Log) → size < total → ◌≡◌ {A = RunResult StampedProgram} (run_of_read (read_cut_off true stamp size total cur) log) (Stops (log_after log (Faulty 8 3 ∷ [])))
far_total stamp size total cur log lt = bad_total stamp size total cur log (or_met_behind (ltb total 20) (ltb size total) (lt-ltb size total lt))

pub great_total : (stamp : Stamp) (size total : ℕ) (cur : Cursor) (log : Log) → 20 ≤ total → total ≤ size → 8388608 < total → ◌≡◌ {A = RunResult StampedProgram} (run_of_read (read_cut_off true stamp size total cur) log) (Stops (log_after log (Faulty 8 4 ∷ [])))
great_total stamp size total cur log low there high =
    let fits : (ltb total 20 || ltb size total) ≡ false = or_from (ltb total 20) (ltb size total) (le-ltb total 20 low) (le-ltb size total there) in
    let great : ltb 8388608 total ≡ true = lt-ltb 8388608 total high in
    let shape : read_cut_off true stamp size total cur ≡ reading_ended 8 4 = rw (fits, great) refl in
    ap (λ (r : ReadResult StampedProgram). run_of_read r log) shape ∙ ended_read 8 4 log
