-- One pass over a chain of layouts is a pass over each.
use Rattle.std.proofs.Common.{◌≡◌, ℕ, suc, ◌+◌, ◌-◌, ◌<◌, ◌≤◌, List, [], ◌∷◌, ◌++◌, map, Option, Some, None, Err, refl, sym, ap, ◌∙◌, append_assoc, arith, true}
use Rattle.std.proofs.lemmas.List.{append-nil, map-append}
use Rattle.flat_code.specs.Image.{code_block_at, plain_block, code_block_layout, whole_note, after_block}
use Rattle.flat_code.specs.Layout.{ReadingNote, Faulty, Whole, AllBlocks, Cursor, ReadResult, FieldLayout, reading_ended, reading_given, go_on, bind_reading, chain_layout, checked_layout, located_layout, layout_seen_as, noted_layout, fault_note, read_many, list_layout, faults_in}
use Rattle.flat_code.specs.Programs.{DataBlock}
use Rattle.flat_code.specs.Records.{BlockRecord}
use Rattle.image_file.specs.declared.faults.LoadFault.{LoadFault}
use Rattle.image_file.specs.declared.stops.Stop.{Stop}
use Rattle.image_file.specs.declared.stops.Stop.TheVariants as stop
use Rattle.image_file.specs.declared.reader.Reader.{Reader}
use Rattle.image_file.specs.declared.records.LocatedBlock.{LocatedBlock}
use Rattle.image_file.specs.Least.{with_fault, with_faults}
use Rattle.image_file.specs.Running.{IsReaderRun, IsBlockRun, IsBlocksRun, located_block, Log, with_wholes, with_all, log_after, RunResult, Continues, Stops, run_result, run_layout, run_of_read, then_run, with_front, log_of}
use Rattle.image_file.proofs.LayoutLemmas.{faults-append}

pub with_more : (least : Option LoadFault) (a b : List (ℕ × ℕ)) → with_faults least (a ++ b) ≡ with_faults (with_faults least a) b
unfolding with_faults
with_more least [] b = refl
with_more least (f ∷ a) b = with_more (with_fault least f) a b

wholes_more : (blocks : List (ℕ × BlockRecord)) (a b : List ReadingNote) → with_wholes blocks (a ++ b) ≡ with_wholes (with_wholes blocks a) b
wholes_more blocks [] b = refl
wholes_more blocks (Faulty at code ∷ a) b = wholes_more blocks a b
wholes_more blocks (Whole start block ∷ a) b = wholes_more (blocks ++ (start, block) ∷ []) a b
wholes_more blocks (AllBlocks datas ∷ a) b = wholes_more blocks a b

all_more : (datas : Option (List DataBlock)) (a b : List ReadingNote) → with_all datas (a ++ b) ≡ with_all (with_all datas a) b
all_more datas [] b = refl
all_more datas (Faulty at code ∷ a) b = all_more datas a b
all_more datas (Whole start block ∷ a) b = all_more datas a b
all_more datas (AllBlocks found ∷ a) b = all_more (Some found) a b

logs : {f g : Option LoadFault} {x y : List (ℕ × BlockRecord)} {v w : Option (List DataBlock)} → f ≡ g → x ≡ y → v ≡ w → ◌≡◌ {A = Log} (record { least = f; blocks = x; datas = v }) (record { least = g; blocks = y; datas = w })
logs p q r = rw (p, q, r) refl

log_more : (log : Log) (a b : List ReadingNote) → log_after log (a ++ b) ≡ log_after (log_after log a) b
unfolding log_after
log_more log a b =
    logs (ap (with_faults log.least) (faults-append a b) ∙ with_more log.least (faults_in a) (faults_in b)) (wholes_more log.blocks a b) (all_more log.datas a b)

ran_of : {A : Type 0} → ReadResult A → Log → RunResult A
ran_of r least = run_result r.found (log_after least r.notes)

go_runs : {A B : Type 0} (notes : List ReadingNote) (o : Option (A × Cursor)) (f : A → Cursor → ReadResult B) (g : A → Cursor → Log → RunResult B) (least : Log)
    → ((x : A) (cur : Cursor) (mid : Log) → ran_of (f x cur) mid ≡ g x cur mid)
    → ran_of (go_on notes o f) least ≡ then_run (run_result o (log_after least notes)) g
unfolding ran_of
go_runs {A = A} {B = B} notes None f g least h = refl
go_runs {A = A} {B = B} notes (Some x) f g least h =
    ap (λ (l : Log). run_result (f x.0 x.1).found l) (log_more least notes (f x.0 x.1).notes)
    ∙ h x.0 x.1 (log_after least notes)

pub run_chain : {A B : Type 0} (l : FieldLayout A) (m : A → FieldLayout B) (cur : Cursor) (least : Log)
    → run_layout (chain_layout l m) cur least ≡ then_run (run_layout l cur least) (λ x next mid. then_run (run_layout (m x) next mid) (λ y end last. Continues (x, y) end last))
unfolding run_layout ran_of log_after with_faults
run_chain {A = A} {B = B} l m cur least =
    go_runs (l.read cur).notes (l.read cur).found (λ x next. bind_reading ((m x).read next) (λ y end. reading_given (x, y) end)) (λ x next mid. then_run (run_layout (m x) next mid) (λ y end last. Continues (x, y) end last)) least
    (λ x next mid. go_runs ((m x).read next).notes ((m x).read next).found (λ y end. reading_given (x, y) end) (λ y end last. Continues (x, y) end last) mid (λ y end last. refl))

pub run_more : {S A : Type 0} (l : S → FieldLayout A) (next : S → A → S) (s : S) (n : ℕ) (cur : Cursor) (least : Log)
    → run_layout (list_layout l next s (suc n)) cur least ≡ then_run (run_layout (l s) cur least) (λ x at mid. then_run (run_layout (list_layout l next (next s x) n) at mid) (λ xs end last. Continues (x ∷ xs) end last))
unfolding run_layout ran_of log_after with_faults
run_more {S = S} {A = A} l next s n cur least =
    go_runs ((l s).read cur).notes ((l s).read cur).found (λ x after. bind_reading (read_many l next (next s x) n after) (λ xs end. reading_given (x ∷ xs) end)) (λ x at mid. then_run (run_layout (list_layout l next (next s x) n) at mid) (λ xs end last. Continues (x ∷ xs) end last)) least
    (λ x after mid. go_runs (read_many l next (next s x) n after).notes (read_many l next (next s x) n after).found (λ xs end. reading_given (x ∷ xs) end) (λ xs end last. Continues (x ∷ xs) end last) mid (λ xs end last. refl))

-- a step of a loop over many
fronts : {A : Type 0} (xs : List A) (x : A) (r : RunResult (List A)) → with_front xs (then_run r (λ ys end last. Continues (x ∷ ys) end last)) ≡ with_front (xs ++ x ∷ []) r
fronts {A = A} xs x (Continues ys cur least) = ap (λ (z : List A). Continues z cur least) (sym (append_assoc xs (x ∷ []) ys))
fronts {A = A} xs x (Stops least) = refl

pub more_goes : {S A : Type 0} (l : S → FieldLayout A) (next : S → A → S) (s : S) (count i : ℕ) (cur : Cursor) (least : Log) (xs : List A) (x : A) (after : Cursor) (mid : Log) (all : RunResult (List A))
    → i < count → Continues x after mid ≡ run_layout (l s) cur least → with_front xs (run_layout (list_layout l next s (count - i)) cur least) ≡ all → with_front (xs ++ x ∷ []) (run_layout (list_layout l next (next s x) (count - (i + 1))) after mid) ≡ all
more_goes {S = S} {A = A} l next s count i cur least xs x after mid all lt one so_far =
    let k : count - i ≡ suc (count - (i + 1)) = omega arith in
    let step : run_layout (list_layout l next s (count - i)) cur least ≡ then_run (run_layout (list_layout l next (next s x) (count - (i + 1))) after mid) (λ ys end last. Continues (x ∷ ys) end last) =
    ap (λ (n : ℕ). run_layout (list_layout l next s n) cur least) k ∙ run_more l next s (count - (i + 1)) cur least
    ∙ ap (λ (r : RunResult A). then_run r (λ y at m. then_run (run_layout (list_layout l next (next s y) (count - (i + 1))) at m) (λ ys end last. Continues (y ∷ ys) end last))) (sym one) in
    sym (fronts xs x (run_layout (list_layout l next (next s x) (count - (i + 1))) after mid)) ∙ sym (ap (with_front xs) step) ∙ so_far

pub more_stops : {S A : Type 0} (l : S → FieldLayout A) (next : S → A → S) (s : S) (count i : ℕ) (cur : Cursor) (least mid : Log) (xs : List A) (all : RunResult (List A))
    → i < count → ◌≡◌ {A = RunResult A} (Stops mid) (run_layout (l s) cur least) → with_front xs (run_layout (list_layout l next s (count - i)) cur least) ≡ all → Stops mid ≡ all
more_stops {S = S} {A = A} l next s count i cur least mid xs all lt one so_far =
    let k : count - i ≡ suc (count - (i + 1)) = omega arith in
    let step : run_layout (list_layout l next s (count - i)) cur least ≡ Stops mid =
    ap (λ (n : ℕ). run_layout (list_layout l next s n) cur least) k ∙ run_more l next s (count - (i + 1)) cur least
    ∙ ap (λ (r : RunResult A). then_run r (λ y at m. then_run (run_layout (list_layout l next (next s y) (count - (i + 1))) at m) (λ ys end last. Continues (y ∷ ys) end last))) (sym one) in
    sym (ap (with_front xs) step) ∙ so_far

pub more_done : {S A : Type 0} (l : S → FieldLayout A) (next : S → A → S) (s : S) (count i : ℕ) (cur : Cursor) (least : Log) (xs : List A) (all : RunResult (List A))
    → count ≤ i → with_front xs (run_layout (list_layout l next s (count - i)) cur least) ≡ all → Continues xs cur least ≡ all
unfolding run_layout log_after with_faults
more_done {S = S} {A = A} l next s count i cur least xs all le so_far =
    let k : count - i ≡ 0 = omega arith in
    sym (ap (λ (n : ℕ). with_front xs (run_layout (list_layout l next s n) cur least)) k ∙ ap (λ (z : List A). Continues z cur least) (append-nil xs)) ∙ so_far

-- ---- the other layouts in one pass

pub run_seen : {A B : Type 0} (to : A → B) (from : B → A) (l : FieldLayout A) (cur : Cursor) (log : Log)
    → run_layout (layout_seen_as to from l) cur log ≡ then_run (run_layout l cur log) (λ x end mid. Continues (to x) end mid)
unfolding run_layout ran_of log_after with_faults
run_seen {A = A} {B = B} to from l cur log = go_runs (l.read cur).notes (l.read cur).found (λ x end. reading_given (to x) end) (λ x end mid. Continues (to x) end mid) log (λ x end mid. refl)

pub run_remembered : {A : Type 0} (note : A → ReadingNote) (l : FieldLayout A) (cur : Cursor) (log : Log)
    → run_layout (noted_layout note l) cur log ≡ then_run (run_layout l cur log) (λ x end mid. Continues x end (log_after mid (note x ∷ [])))
unfolding run_layout ran_of
run_remembered {A = A} note l cur log = go_runs (l.read cur).notes (l.read cur).found (λ x end. record { notes = note x ∷ []; found = Some (x, end) }) (λ x end mid. Continues x end (log_after mid (note x ∷ []))) log (λ x end mid. refl)

pub run_checked : {A : Type 0} (at : ℕ) (fault : Option ℕ) (l : FieldLayout A) (cur : Cursor) (log : Log)
    → run_layout (checked_layout at fault l) cur log ≡ run_layout l cur (log_after log (fault_note at fault))
unfolding run_layout
run_checked {A = A} at fault l cur log = ap (λ (z : Log). run_result (l.read cur).found z) (log_more log (fault_note at fault) (l.read cur).notes)

pub run_located : {A : Type 0} (l : ℕ → FieldLayout A) (cur : Cursor) (log : Log) → run_layout (located_layout l) cur log ≡ run_layout (l cur.at) cur log
unfolding run_layout
run_located {A = A} l cur log = refl

pub block_kept : (before : ℕ × ℕ) (cur : Cursor) (log : Log)
    → run_layout (code_block_layout true before) cur log ≡ then_run (run_layout (plain_block true before cur.at) cur log) (λ x end mid. Continues x end (log_after mid (whole_note cur.at x ∷ [])))
unfolding code_block_layout
block_kept before cur log = run_located (code_block_at true before) cur log ∙ run_remembered (whole_note cur.at) (plain_block true before cur.at) cur log

-- a block that couldn't be read
pub block_stops : {X : Type 0} (view : X → BlockRecord) (e : Stop) (r : Reader) (before : ℕ × ℕ) (cur : Cursor) (log : Log) → IsReaderRun view (Err e) r (run_layout (plain_block true before cur.at) cur log) → IsBlockRun (Err e) r (run_layout (code_block_layout true before) cur log)
block_stops view stop.AtFault r before cur log h = ap (λ (z : RunResult BlockRecord). then_run z (λ x end mid. Continues x end (log_after mid (whole_note cur.at x ∷ [])))) h ∙ sym (block_kept before cur log)
block_stops view stop.NoMemory r before cur log h = tt

pub block_goes : (b : BlockRecord) (end : Cursor) (mid after : Log) (before : ℕ × ℕ) (cur : Cursor) (log : Log) → Continues b end mid ≡ run_layout (plain_block true before cur.at) cur log → after ≡ log_after mid (whole_note cur.at b ∷ [])
    → Continues b end after ≡ run_layout (code_block_layout true before) cur log
block_goes b end mid after before cur log h is = ap (λ (z : Log). Continues b end z) is ∙ ap (λ (z : RunResult BlockRecord). then_run z (λ x end mid. Continues x end (log_after mid (whole_note cur.at x ∷ [])))) h ∙ sym (block_kept before cur log)

-- what is kept with one block more
pub kept_one : (least : Option LoadFault) (old new : List LocatedBlock) (datas : Option (List DataBlock)) (start : ℕ) (block : BlockRecord) (s : LocatedBlock) → new ≡ old ++ s ∷ [] → located_block s ≡ (start, block)
    → ◌≡◌ {A = Log} (record { least = least; blocks = map located_block new; datas = datas }) (log_after (record { least = least; blocks = map located_block old; datas = datas }) (Whole start block ∷ []))
unfolding log_after with_faults
kept_one least old new datas start block s is same =
    let m : map located_block new ≡ map located_block old ++ (start, block) ∷ [] = ap (map located_block) is ∙ map-append located_block old (s ∷ []) ∙ ap (λ (z : ℕ × BlockRecord). map located_block old ++ z ∷ []) same in
    ap (λ (z : List (ℕ × BlockRecord)). let y : Log = record { least = least; blocks = z; datas = datas } in y) m

-- ---- loops that may lack memory

front_nil : {A : Type 0} (r : RunResult (List A)) → with_front [] r ≡ r
front_nil (Continues xs cur log) = refl
front_nil (Stops log) = refl

pub more_starts : {S A : Type 0} (l : S → FieldLayout A) (next : S → A → S) (s : S) (count : ℕ) (cur : Cursor) (log : Log) → with_front [] (run_layout (list_layout l next s (count - 0)) cur log) ≡ run_layout (list_layout l next s count) cur log
more_starts {S = S} {A = A} l next s count cur log = ap (λ (n : ℕ). with_front [] (run_layout (list_layout l next s n) cur log)) (omega arith) ∙ front_nil (run_layout (list_layout l next s count) cur log)

pub sees_stops : {S A X Y : Type 0} (view : X → A) (views : Y → List A) (e : Stop) (r : Reader) (l : S → FieldLayout A) (next : S → A → S) (s : S) (count i : ℕ) (cur : Cursor) (log : Log) (xs : List A) (all : RunResult (List A))
    → i < count → IsReaderRun view (Err e) r (run_layout (l s) cur log) → with_front xs (run_layout (list_layout l next s (count - i)) cur log) ≡ all → IsReaderRun views (Err e) r all
sees_stops view views stop.AtFault r l next s count i cur log xs all lt h so_far = more_stops l next s count i cur log (log_of r) xs all lt h so_far
sees_stops view views stop.NoMemory r l next s count i cur log xs all lt h so_far = tt

pub blocks_stop : (e : Stop) (r : Reader) (s : ℕ × ℕ) (count i : ℕ) (cur : Cursor) (log : Log) (xs : List BlockRecord) (all : RunResult (List BlockRecord))
    → i < count → IsBlockRun (Err e) r (run_layout (code_block_layout true s) cur log) → with_front xs (run_layout (list_layout (code_block_layout true) after_block s (count - i)) cur log) ≡ all → IsBlocksRun (Err e) r all
blocks_stop stop.AtFault r s count i cur log xs all lt h so_far = more_stops (code_block_layout true) after_block s count i cur log (log_of r) xs all lt h so_far
blocks_stop stop.NoMemory r s count i cur log xs all lt h so_far = tt

-- ---- what a chain comes to, by what its parts come to

pub chain_goes : {A B : Type 0} (l : FieldLayout A) (m : A → FieldLayout B) (x : A) (y : B) (next end cur : Cursor) (mid last log : Log) → Continues x next mid ≡ run_layout l cur log → Continues y end last ≡ run_layout (m x) next mid → Continues (x, y) end last ≡ run_layout (chain_layout l m) cur log
chain_goes {A = A} {B = B} l m x y next end cur mid last log p q =
    sym (run_chain l m cur log ∙ sym (ap (λ (r : RunResult A). then_run r (λ x next mid. then_run (run_layout (m x) next mid) (λ y end last. Continues (x, y) end last))) p) ∙ sym (ap (λ (r : RunResult B). then_run r (λ y end last. Continues (x, y) end last)) q))

pub chain_ends : {A B : Type 0} (l : FieldLayout A) (m : A → FieldLayout B) (cur : Cursor) (mid log : Log) → ◌≡◌ {A = RunResult A} (Stops mid) (run_layout l cur log) → ◌≡◌ {A = RunResult (A × B)} (Stops mid) (run_layout (chain_layout l m) cur log)
chain_ends {A = A} {B = B} l m cur mid log p =
    sym (run_chain l m cur log ∙ sym (ap (λ (r : RunResult A). then_run r (λ x next mid. then_run (run_layout (m x) next mid) (λ y end last. Continues (x, y) end last))) p))

pub chain_breaks : {A B : Type 0} (l : FieldLayout A) (m : A → FieldLayout B) (x : A) (next cur : Cursor) (mid last log : Log) → Continues x next mid ≡ run_layout l cur log → ◌≡◌ {A = RunResult B} (Stops last) (run_layout (m x) next mid) → ◌≡◌ {A = RunResult (A × B)} (Stops last) (run_layout (chain_layout l m) cur log)
chain_breaks {A = A} {B = B} l m x next cur mid last log p q =
    sym (run_chain l m cur log ∙ sym (ap (λ (r : RunResult A). then_run r (λ x next mid. then_run (run_layout (m x) next mid) (λ y end last. Continues (x, y) end last))) p) ∙ sym (ap (λ (r : RunResult B). then_run r (λ y end last. Continues (x, y) end last)) q))

pub seen_goes : {A B : Type 0} (to : A → B) (from : B → A) (l : FieldLayout A) (x : A) (end cur : Cursor) (mid log : Log) → Continues x end mid ≡ run_layout l cur log → Continues (to x) end mid ≡ run_layout (layout_seen_as to from l) cur log
seen_goes {A = A} {B = B} to from l x end cur mid log p = sym (run_seen to from l cur log ∙ sym (ap (λ (r : RunResult A). then_run r (λ x end mid. Continues (to x) end mid)) p))

pub seen_ends : {A B : Type 0} (to : A → B) (from : B → A) (l : FieldLayout A) (cur : Cursor) (mid log : Log) → ◌≡◌ {A = RunResult A} (Stops mid) (run_layout l cur log) → ◌≡◌ {A = RunResult B} (Stops mid) (run_layout (layout_seen_as to from l) cur log)
seen_ends {A = A} {B = B} to from l cur mid log p = sym (run_seen to from l cur log ∙ sym (ap (λ (r : RunResult A). then_run r (λ x end mid. Continues (to x) end mid)) p))

pub go_read : {A B : Type 0} (r : ReadResult A) (f : A → Cursor → ReadResult B) (log : Log) → run_of_read (bind_reading r f) log ≡ then_run (run_of_read r log) (λ x cur mid. run_of_read (f x cur) mid)
unfolding run_of_read ran_of
go_read {A = A} {B = B} r f log = go_runs r.notes r.found f (λ x cur mid. run_of_read (f x cur) mid) log (λ x cur mid. refl)

pub run_is_read : {A : Type 0} (l : FieldLayout A) (cur : Cursor) (log : Log) → run_layout l cur log ≡ run_of_read (l.read cur) log
unfolding run_layout run_of_read
run_is_read l cur log = refl

pub ended_read : {A : Type 0} (at code : ℕ) (log : Log) → ◌≡◌ {A = RunResult A} (run_of_read (reading_ended at code) log) (Stops (log_after log (Faulty at code ∷ [])))
unfolding run_of_read
ended_read {A = A} at code log = refl

-- notes in front of a reading
pub noted_read : {A : Type 0} (notes : List ReadingNote) (r : ReadResult A) (log : Log) → run_of_read {A = A} (record { notes = notes ++ r.notes; found = r.found }) log ≡ run_of_read r (log_after log notes)
unfolding run_of_read
noted_read {A = A} notes r log = ap (λ (z : Log). run_result r.found z) (log_more log notes r.notes)
