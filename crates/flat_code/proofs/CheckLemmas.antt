-- The tests of a program's records, and the bytes that they take, are those of its image.
use Rattle.std.proofs.Common.{◌≡◌, ℕ, suc, ◌+◌, ◌*◌, ◌≤◌, ◌<◌, Bool, true, false, leb, ◌&&◌, get_or, List, [], ◌∷◌, ◌++◌, length, map, drop, refl, sym, ap, subst, ◌∙◌, length-append, arith}
use Rattle.std.proofs.lemmas.Bool.{and_parts, and_from, eq-eqb, leb-true, le-leb, lt-ltb}
use Rattle.std.proofs.lemmas.Bool.Decides.{nat_tests}
use Rattle.std.specs.Int.{w16, to_be_bytes}
use Rattle.std.proofs.lemmas.List.{length-map}
use Rattle.std.proofs.lemmas.List.Sums.{sum_by-cons}
use Rattle.std.specs.List.{sum_by}
use Rattle.plc_base.specs.Kinds.{kind_number}
use Rattle.plc_base.proofs.ListLemmas.{drop_next}
use Rattle.flat_code.specs.Checking.{all_good, good_params, good_lines, good_blocks, good_datas, good_names, good_counts, good_records, makes_program, records_size, data_size, name_size, image_size}
use Rattle.flat_code.specs.Codes.{are_ops, code_bytes, code_layout, size_of_op}
use Rattle.flat_code.specs.Faults.{field_fault, name_fault}
use Rattle.flat_code.specs.Image.{zero_u8, zero_u16, plain_u16, plain_u32, width_field, bytes_fit, section_field, parameter_byte, parameter_bit, parameter_rows, parameter_layout, kind_field, parameter_count_layout, block_number_layout, local_length_layout, instance_bytes_layout, Head, head_layout, head_rows, same_state, parameters_layout, line_field, line_after, lines_layout, code_and_lines, block_rows, head_of_block, plain_block, code_block_layout, after_block, record_of_block, record_of_param, data_number_layout, instance_field, data_length_layout, contents_layout, data_rows, data_block_layout, after_data, name_len, name_bytes, name_area, name_bit, name_rows, name_record, after_name, name_of_entry, data_count, RecordCounts, counts_layout, count_rows, code_blocks_layout, data_blocks_layout, names_layout, body_rows, parts_of_records, records_of, records_layout, body_layout, front_size, IsProgram}
use Rattle.flat_code.specs.Layout.{FieldLayout, is_fine, good_many, spell_many}
use Rattle.flat_code.specs.Ops.{OpData, IsOp, op_bytes}
use Rattle.flat_code.specs.Programs.{CodeBlock, DataBlock, NameEntry, Program}
use Rattle.flat_code.specs.Records.{BlockRecord, NameRecord}
use Rattle.flat_code.specs.declared.image_fields.ParameterRecord.{ParameterRecord}

pub zero_byte_good : zero_u8.good 0 ≡ true
unfolding zero_u8 field_fault
zero_byte_good = refl

pub zero_word_good : zero_u16.good 0 ≡ true
unfolding zero_u16 field_fault
zero_word_good = refl

-- ---- the tests

-- as many values as there are
good_many_is_all : {S A : Type 0} (l : S → FieldLayout A) (next : S → A → S) (s : S) (xs : List A) → good_many l next s (length xs) xs ≡ all_good l next s xs
good_many_is_all l next s [] = refl
good_many_is_all l next s (x ∷ xs) = ap (λ (t : Bool). (l s).good x && t) (good_many_is_all l next (next s x) xs)

code_good : (ops : List OpData) → are_ops ops ≡ true → (code_layout false (length (code_bytes ops))).good ops ≡ true
unfolding code_layout
code_good ops h = and_from _ _ (and_from _ _ h refl) (eq-eqb (length (code_bytes ops)) (length (code_bytes ops)) refl)

-- numbers of 32 bits are lines, and bytes fit
pub lines_fit : (lines : List ℕ) (before : ℕ) → ((i : ℕ) → get_or lines i 0 < 4294967296) → all_good (line_field false) line_after before lines ≡ true
unfolding line_field
lines_fit [] before h = refl
lines_fit (x ∷ xs) before h = and_from _ _ (and_from _ _ (lt-ltb x 4294967296 (h 0)) refl) (lines_fit xs (line_after before x) (λ i. h (suc i)))

pub all_bytes : (bs : List ℕ) → ((i : ℕ) → get_or bs i 0 < 256) → bytes_fit bs ≡ true
all_bytes [] h = refl
all_bytes (b ∷ bs) h = and_from _ _ (lt-ltb b 256 (h 0)) (all_bytes bs (λ i. h (suc i)))

pub contents_good : (bs : List ℕ) → bytes_fit bs ≡ true → (contents_layout (length bs)).good bs ≡ true
unfolding contents_layout
contents_good bs h = and_from _ _ (and_from _ _ (eq-eqb (length bs) (length bs) refl) h) refl

pub text_good : (before bs : List ℕ) → bytes_fit bs ≡ true → (name_bytes before (length bs)).good bs ≡ is_fine (name_fault before bs)
unfolding name_bytes
text_good before bs h = ap (λ (t : Bool). t && is_fine (name_fault before bs)) (and_from _ _ (eq-eqb (length bs) (length bs) refl) h)

lines_good : (start : ℕ) (before : ℕ × ℕ) (b : CodeBlock) → good_lines b.lines ≡ true → (lines_layout false start (head_of_block (record_of_block b)) b.code).good b.lines ≡ true
unfolding lines_layout
lines_good start before b h = good_many_is_all (line_field false) line_after 0 b.lines ∙ h

params_good : (b : CodeBlock) → (parameters_layout (head_of_block (record_of_block b))).good (map record_of_param b.params) ≡ good_params (kind_number b.id.kind) b.instance_len b.params
unfolding parameters_layout
params_good b = good_many_is_all (λ s. parameter_layout (kind_number b.id.kind) b.instance_len) same_state 0 (map record_of_param b.params)

-- what comes behind a test counts only where it is met
both : (t a b : Bool) → (t ≡ true → a ≡ b) → (t && a) ≡ (t && b)
both true a b h = h refl
both false a b h = refl

with_true : (a b c : Bool) → b ≡ true → c ≡ true → (a && (b && c)) ≡ a
with_true true b c p q = and_from b c p q
with_true false b c p q = refl

pub block_by_parts : (before : ℕ × ℕ) (b : CodeBlock) → ((head_layout before).good (head_of_block (record_of_block b)) ≡ true → are_ops b.code ≡ true) → good_lines b.lines ≡ true
    → ((head_layout before).good (head_of_block (record_of_block b)) && good_params (kind_number b.id.kind) b.instance_len b.params) ≡ (code_block_layout false before).good (record_of_block b)
unfolding code_block_layout plain_block block_rows code_and_lines
block_by_parts before b ops lines =
    let h = head_of_block (record_of_block b) in
    sym (both ((head_layout before).good h) _ _ (λ t.
    with_true ((parameters_layout h).good (map record_of_param b.params)) ((code_layout false (length (code_bytes b.code))).good b.code) ((lines_layout false 0 h b.code).good b.lines) (code_good b.code (ops t)) (lines_good 0 before b lines)
    ∙ params_good b))

-- a test behind another
pub true_before : (a b : Bool) → a ≡ true → (a && b) ≡ b
true_before true b h = refl
true_before false b h = absurd cc

counts_good : (a b c : ℕ) → counts_layout.good (record { code_blocks = a; data_blocks = b; names = c; reserved = 0 }) ≡ good_counts a b c
unfolding counts_layout count_rows plain_u16 data_count zero_u16 field_fault
counts_good a b c = grind (arith, nat_tests)

blocks_good : (bs : List CodeBlock) → (code_blocks_layout false (length (map record_of_block bs))).good (map record_of_block bs) ≡ good_blocks (0, 0) bs
unfolding code_blocks_layout
blocks_good bs = good_many_is_all (code_block_layout false) after_block (0, 0) (map record_of_block bs)

datas_good : (ds : List DataBlock) → (data_blocks_layout (length ds)).good ds ≡ good_datas (0, 0) ds
unfolding data_blocks_layout
datas_good ds = good_many_is_all data_block_layout after_data (0, 0) ds

names_good : (es : List NameEntry) → (names_layout (length (map name_of_entry es))).good (map name_of_entry es) ≡ good_names [] es
unfolding names_layout
names_good es = good_many_is_all name_record after_name [] (map name_of_entry es)

four : (a b c d x y z w : Bool) → a ≡ x → b ≡ y → c ≡ z → d ≡ w → (a && (b && (c && d))) ≡ (x && (y && (z && w)))
four a b c d x y z w p q r s = cc

records_good : (p : Program) → (body_layout false).good p ≡ good_records p
unfolding body_layout records_layout body_rows
records_good p =
    let r = parts_of_records (records_of p) in
    four (counts_layout.good r.counts) ((code_blocks_layout false r.counts.code_blocks).good r.code_blocks) ((data_blocks_layout r.counts.data_blocks).good r.data_blocks) ((names_layout r.counts.names).good r.names) _ _ _ _
    (counts_good r.counts.code_blocks r.counts.data_blocks r.counts.names ∙ rw (length-map p.code_blocks record_of_block, length-map p.names name_of_entry) refl)
    (blocks_good p.code_blocks) (datas_good p.data_blocks) (names_good p.names)

-- ---- the bytes

many_sized : {S A : Type 0} (l : S → FieldLayout A) (next : S → A → S) (size : A → ℕ) → ((s : S) (x : A) → length ((l s).spell x) ≡ size x) → (s : S) (xs : List A) → length (spell_many l next s xs) ≡ sum_by size xs
many_sized l next size each s [] = refl
many_sized l next size each s (x ∷ xs) =
    let more = many_sized l next size each (next s x) xs in
    length-append ((l s).spell x) (spell_many l next (next s x) xs)
    ∙ ap (λ (a : ℕ). a + length (spell_many l next (next s x) xs)) (each s x)
    ∙ ap (λ (a : ℕ). size x + a) more ∙ sym (sum_by-cons size x xs)

mapped_size : {A B : Type 0} (of : A → B) (size : B → ℕ) (other : A → ℕ) → ((x : A) → size (of x) ≡ other x) → (xs : List A) → sum_by size (map of xs) ≡ sum_by other xs
mapped_size of size other same [] = refl
mapped_size of size other same (x ∷ xs) =
    sum_by-cons size (of x) (map of xs)
    ∙ ap (λ (a : ℕ). a + sum_by size (map of xs)) (same x)
    ∙ ap (λ (a : ℕ). other x + a) (mapped_size of size other same xs) ∙ sym (sum_by-cons other x xs)

times : {A : Type 0} (k : ℕ) (xs : List A) → sum_by (λ x. k) xs ≡ k * length xs
times k [] = omega arith
times {A = A} k (x ∷ xs) = let h = times k xs in sum_by-cons (λ (y : A). k) x xs ∙ grind (arith, h)

param_sized : (kind instance : ℕ) (p : ParameterRecord) → length ((parameter_layout kind instance).spell p) ≡ 6
unfolding parameter_layout parameter_rows section_field width_field parameter_byte parameter_bit zero_u8
param_sized kind instance p = refl

params_sized : (h : Head) (ps : List ParameterRecord) → length ((parameters_layout h).spell ps) ≡ 6 * length ps
unfolding parameters_layout
params_sized h ps = many_sized (λ s. parameter_layout h.kind h.instance_bytes) same_state (λ p. 6) (λ s p. param_sized h.kind h.instance_bytes p) 0 ps ∙ times 6 ps

line_sized : (before line : ℕ) → length ((line_field false before).spell line) ≡ 4
unfolding line_field
line_sized before line = refl

lines_sized : (start : ℕ) (h : Head) (ops : List OpData) (lines : List ℕ) → length ((lines_layout false start h ops).spell lines) ≡ 4 * length lines
unfolding lines_layout
lines_sized start h ops lines = many_sized (line_field false) line_after (λ n. 4) line_sized 0 lines ∙ times 4 lines

head_sized : (before : ℕ × ℕ) (h : Head) → length ((head_layout before).spell h) ≡ 16
unfolding head_layout head_rows kind_field parameter_count_layout block_number_layout local_length_layout instance_bytes_layout plain_u16 zero_u16 plain_u32
head_sized before h = refl

code_spelled : (n : ℕ) (ops : List OpData) → (code_layout false n).spell ops ≡ code_bytes ops
unfolding code_layout
code_spelled n ops = refl

lengths_of_four : (a b c d : List ℕ) (k l m n : ℕ) → length a ≡ k → length b ≡ l → length c ≡ m → length d ≡ n → length (a ++ (b ++ (c ++ d))) ≡ k + l + m + n
lengths_of_four a b c d k l m n p q r s = omega (arith, length-append a (b ++ (c ++ d)), length-append b (c ++ d), length-append c d)

record_size : BlockRecord → ℕ
record_size b = 16 + 6 * length b.params + length (code_bytes b.code) + 4 * length b.lines

block_sized : (before : ℕ × ℕ) (b : BlockRecord) → length ((code_block_layout false before).spell b) ≡ record_size b
unfolding code_block_layout plain_block block_rows code_and_lines record_size
block_sized before b =
    let h = head_of_block b in
    lengths_of_four ((head_layout before).spell h) ((parameters_layout h).spell b.params) ((code_layout false (length (code_bytes b.code))).spell b.code) ((lines_layout false 0 h b.code).spell b.lines) _ _ _ _
    (head_sized before h) (params_sized h b.params) (ap length (code_spelled (length (code_bytes b.code)) b.code)) (lines_sized 0 h b.code b.lines)

same_size : (b : CodeBlock) → record_size (record_of_block b) ≡ records_size b
unfolding record_size
same_size b = ap (λ (n : ℕ). 16 + 6 * n + length (code_bytes b.code) + 4 * length b.lines) (length-map b.params record_of_param)

blocks_sized : (n : ℕ) (bs : List CodeBlock) → length ((code_blocks_layout false n).spell (map record_of_block bs)) ≡ sum_by records_size bs
unfolding code_blocks_layout
blocks_sized n bs = many_sized (code_block_layout false) after_block record_size block_sized (0, 0) (map record_of_block bs) ∙ mapped_size record_of_block record_size records_size same_size bs

data_sized : (before : ℕ × ℕ) (d : DataBlock) → length ((data_block_layout before).spell d) ≡ data_size d
unfolding data_block_layout data_rows data_number_layout instance_field data_length_layout zero_u16 contents_layout
data_sized before d = omega arith

datas_sized : (n : ℕ) (ds : List DataBlock) → length ((data_blocks_layout n).spell ds) ≡ sum_by data_size ds
unfolding data_blocks_layout
datas_sized n ds = many_sized data_block_layout after_data data_size data_sized (0, 0) ds

name_behind : NameRecord → ℕ
name_behind n = 6 + length n.name

name_sized : (before : List ℕ) (n : NameRecord) → length ((name_record before).spell n) ≡ name_behind n
unfolding name_record name_rows name_len name_bytes name_area width_field plain_u16 name_bit name_behind
name_sized before n = omega (arith, length-append n.name (n.area ∷ n.width ∷ to_be_bytes w16 n.byte ++ n.bit ∷ []))

names_sized : (n : ℕ) (es : List NameEntry) → length ((names_layout n).spell (map name_of_entry es)) ≡ sum_by name_size es
unfolding names_layout name_behind
names_sized n es = many_sized name_record after_name name_behind name_sized [] (map name_of_entry es) ∙ mapped_size name_of_entry name_behind name_size (λ e. refl) es

counts_sized : (c : RecordCounts) → length (counts_layout.spell c) ≡ 8
unfolding counts_layout count_rows plain_u16 data_count zero_u16
counts_sized c = refl

image_sized : (p : Program) → front_size + length ((body_layout false).spell p) ≡ image_size p
unfolding body_layout records_layout body_rows
image_sized p =
    let r = parts_of_records (records_of p) in
    let all = lengths_of_four (counts_layout.spell r.counts) ((code_blocks_layout false r.counts.code_blocks).spell r.code_blocks) ((data_blocks_layout r.counts.data_blocks).spell r.data_blocks) ((names_layout r.counts.names).spell r.names) _ _ _ _
    (counts_sized r.counts) (blocks_sized r.counts.code_blocks p.code_blocks) (datas_sized r.counts.data_blocks p.data_blocks) (names_sized r.counts.names p.names) in
    omega (arith, all)

-- ---- a program

is_program : (p : Program) → makes_program p ≡ true → IsProgram p
is_program p h =
    let parts = and_parts (good_records p) (leb (image_size p) 8388608) h in
    record { good = records_good p ∙ parts.0; short = subst (λ (n : ℕ). n ≤ 8388608) (sym (image_sized p)) (leb-true (image_size p) 8388608 parts.1) }

is_no_program : (p : Program) → makes_program p ≡ false → IsProgram p → ⊥
is_no_program p h is =
    let met : makes_program p ≡ true = and_from _ _ (sym (records_good p) ∙ is.good) (le-leb (image_size p) 8388608 (subst (λ (n : ℕ). n ≤ 8388608) (image_sized p) is.short)) in
    cc

abbrev pub of_parts : List CodeBlock → List DataBlock → List NameEntry → Program
of_parts bs ds es = record { code_blocks = bs; data_blocks = ds; names = es }

-- what a test of slices says of the lists
pub is_program_by_test : (bs xs : List CodeBlock) (ds ys : List DataBlock) (es zs : List NameEntry) (t : Bool) → xs ≡ bs → ys ≡ ds → zs ≡ es → t ≡ makes_program (of_parts xs ys zs) → t ≡ true → IsProgram (of_parts bs ds es)
is_program_by_test bs xs ds ys es zs t p q r h is = is_program (of_parts bs ds es) (cc)

pub is_no_program_by_test : (bs xs : List CodeBlock) (ds ys : List DataBlock) (es zs : List NameEntry) (t : Bool) → xs ≡ bs → ys ≡ ds → zs ≡ es → t ≡ makes_program (of_parts xs ys zs) → t ≡ false → IsProgram (of_parts bs ds es) → ⊥
is_no_program_by_test bs xs ds ys es zs t p q r h is = is_no_program (of_parts bs ds es) (cc)

-- ---- loops

-- the first one that is left takes its bytes
pub left_sum : {A : Type 0} (size : A → ℕ) (xs : List A) (i : ℕ) (x : A) → i < length xs → x ≡ get_or xs i x → sum_by size (drop i xs) ≡ size x + sum_by size (drop (i + 1) xs)
left_sum size xs i x lt is = ap (sum_by size) (drop_next xs i x lt is) ∙ sum_by-cons size x (drop (i + 1) xs)

pub left_code : (ops : List OpData) (i : ℕ) (op : OpData) → i < length ops → op ≡ get_or ops i op → length (code_bytes (drop i ops)) ≡ size_of_op op + length (code_bytes (drop (i + 1) ops))
unfolding size_of_op
left_code ops i op lt is = ap (λ (z : List OpData). length (code_bytes z)) (drop_next ops i op lt is) ∙ length-append (op_bytes op) (code_bytes (drop (i + 1) ops))

pub ops_behind : (ops : List OpData) (i : ℕ) (op : OpData) → i < length ops → op ≡ get_or ops i op → IsOp op → are_ops (drop (i + 1) ops) ≡ true → are_ops (drop i ops) ≡ true
ops_behind ops i op lt is here h = ap are_ops (drop_next ops i op lt is) ∙ and_from _ _ here h
