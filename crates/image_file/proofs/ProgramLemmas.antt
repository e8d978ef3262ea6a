-- What a program's records have: small numbers, and a slot for each block.
use Rattle.std.proofs.Common.{◌≡◌, ℕ, zero, suc, ◌+◌, ◌<◌, ◌≤◌, Bool, true, false, cond, eqb, ltb, leb, not, ◌&&◌, ◌||◌, List, [], ◌∷◌, length, map, is_some, Option, Some, None, refl, ap, subst, arith}
use Rattle.std.proofs.lemmas.Bool.{and_parts, eqb-true, leb-true, lt-ltb}
use Rattle.std.proofs.lemmas.Bool.Decides.{nat_tests}
use Rattle.std.proofs.lemmas.List.{length-map}
use Rattle.std.proofs.lemmas.Option.{same_Some}
use Rattle.std.specs.List.{AllByRecursion}
use Rattle.plc_base.specs.Kinds.{kind_number, kind_order}
use Rattle.plc_base.specs.declared.blocks.BlockId.{BlockId}
use Rattle.plc_base.specs.declared.blocks.BlockKind.{BlockKind}
use Rattle.plc_base.specs.declared.blocks.BlockKind.TheVariants as kinds
use Rattle.flat_code.specs.Faults.{field_fault, fault_unless_met, is_in_range, is_existing_ob, has_number}
use Rattle.flat_code.specs.Layout.{is_fine, chain_layout, good_many}
use Rattle.flat_code.specs.Codes.{size_of_op, code_bytes, code_layout, are_ops, ends_by_be, overlong_statement, first_found, last_place, stop_at, if_checked}
use Rattle.flat_code.specs.declared.image_fields.Field.TheVariants.{StatementCount}
use Rattle.flat_code.specs.Ops.{OpData, is_op}
use Rattle.flat_code.specs.Programs.{CodeBlock, Program}
use Rattle.flat_code.specs.declared.programs.Param.{Param}
use Rattle.flat_code.specs.Image.{plain_u16, zero_u16, parameter_count_layout, block_number_layout, local_length_layout, Head, head_layout, head_of_block, RecordCounts, row_of_counts, count_rows, counts_layout, counts_of, data_count, code_block_layout, code_blocks_layout, after_block, records_of, body_layout, record_of_block, IsProgram, IsRight, end_marks, lines_layout, line_field, line_after, record_of_param}
use Rattle.flat_code.specs.declared.image_fields.OpenBracket.{OpenBracket}
use Rattle.flat_code.specs.PlacedOps.{PlacedOp, ops_placed, code_places, brackets_after, zones_behind_op, before_next}
use Rattle.flat_code.proofs.PartLemmas.{all_of_blocks, chain_parts, dword_fits, good_head, unless_fine, word_fits}
use Rattle.image_file.specs.VerifiedProgram.{placed_op_at, BlockBegins, BlockIsRight}
use Rattle.image_file.specs.Readers.{is_same_id, block_by_id}
use Rattle.image_file.specs.Tables.{AreSmall, slot_of, HaveSlots}
use Rattle.image_file.proofs.ImageLemmas.{good_records, good_block_of, head_kind}

ob_small : (n : ℕ) → is_existing_ob n ≡ true → n < 2048
ob_small n h = grind (arith, nat_tests, h)

number_small : (b : Bool) (n : ℕ) → cond b (is_existing_ob n) (leb n 2047) ≡ true → n < 2048
number_small true n h = ob_small n h
number_small false n h = let le = leb-true n 2047 h in omega (arith, le)

-- the numbers of a head without fault
record HasSmall (h : Head) : Type 0 where
  number : h.number < 2048
  statements : h.statement_count < 65536
  code : h.code_length < 4294967296

head_small : (before : ℕ × ℕ) (h : Head) → (head_layout before).good h ≡ true → HasSmall h
unfolding block_number_layout field_fault
head_small before h good =
    let parts = good_head before h good in
    let n = h.number in
    let rises = not (eqb h.kind before.0) || ltb before.1 n in
    let fine = and_parts (ltb n 65536) (is_fine (fault_unless_met (has_number h.kind n && rises) 4)) parts.number_good in
    let right = and_parts (has_number h.kind n) rises (unless_fine (has_number h.kind n && rises) 4 fine.1) in
    record {
      number = number_small (eqb h.kind (kind_number kinds.Ob)) n right.0;
      statements = word_fits h.statement_count parts.statements_good;
      code = dword_fits h.code_length parts.size_good;
    }

kind_small : (k : BlockKind) → is_in_range 1 3 (kind_number k) ≡ true → ltb (kind_order k) 3 ≡ true
kind_small kinds.Ob h = refl
kind_small kinds.Fc h = refl
kind_small kinds.Fb h = refl
kind_small kinds.Db h = absurd cc
kind_small kinds.Sfc h = absurd cc
kind_small kinds.Udt h = absurd cc

has_slot : (b : CodeBlock) → ltb (kind_order b.id.kind) 3 ≡ true → b.id.number < 2048 → is_some (slot_of b.id) ≡ true
has_slot b kind number = rw (kind, lt-ltb b.id.number 2048 number) refl

-- the code blocks of a program
pub record HasRoom (bs : List CodeBlock) : Type 0 where
  pub small : AreSmall bs
  pub slots : HaveSlots bs

blocks_room : (with_code_faults : Bool) (s : ℕ × ℕ) (n : ℕ) (bs : List CodeBlock) → good_many (code_block_layout with_code_faults) after_block s n (map record_of_block bs) ≡ true → HasRoom bs
blocks_room with_code_faults s zero [] h = record { small = tt; slots = tt }
blocks_room with_code_faults s zero (b ∷ bs) h = absurd cc
blocks_room with_code_faults s (suc n) [] h = absurd cc
blocks_room with_code_faults s (suc n) (b ∷ bs) h =
    let r = record_of_block b in
    let g = and_parts ((code_block_layout with_code_faults s).good r) (good_many (code_block_layout with_code_faults) after_block (after_block s r) n (map record_of_block bs)) h in
    let p = good_block_of with_code_faults s r g.0 in
    let small = head_small s (head_of_block r) p.head_good in
    let kind = kind_small b.id.kind (head_kind s (head_of_block r) p.head_good) in
    let more = blocks_room with_code_faults (after_block s r) n bs g.1 in
    record {
      small = (record { code = omega (arith, small.code); lines = small.statements }, more.small);
      slots = (has_slot b kind small.number, more.slots);
    }

codes_room : (with_code_faults : Bool) (n : ℕ) (bs : List CodeBlock) → (code_blocks_layout with_code_faults n).good (map record_of_block bs) ≡ true → HasRoom bs
unfolding code_blocks_layout
codes_room with_code_faults n bs good = blocks_room with_code_faults (0, 0) n bs good

pub program_room : (p : Program) → IsProgram p → HasRoom p.code_blocks
unfolding body_layout
program_room p h = let q = good_records false (records_of p) h.good in codes_room false (length (map record_of_block p.code_blocks)) p.code_blocks q.codes_good

count_small : (c : RecordCounts) → counts_layout.good c ≡ true → c.code_blocks < 65536
unfolding counts_layout count_rows
count_small c good = word_fits c.code_blocks (chain_parts plain_u16 (λ codes. chain_layout data_count (λ datas. chain_layout plain_u16 (λ names. zero_u16))) (row_of_counts c) good).0

pub program_count : (p : Program) → IsProgram p → length p.code_blocks ≤ 0xFFFF
unfolding body_layout
program_count p h =
    let q = good_records false (records_of p) h.good in
    let small = count_small (counts_of (records_of p)) q.counts_good in
    omega (arith, small, length-map p.code_blocks record_of_block)

-- ---- code and lines of a program without fault

pub record IsRightCode (b : CodeBlock) : Type 0 where
  pub ended : ends_by_be b.code ≡ true
  pub few : overlong_statement 0 0 b.code ≡ None
  pub marks : end_marks b.code ≡ length b.lines
  pub ops : are_ops b.code ≡ true
  pub room : b.local_len ≤ 1024
  pub organization : b.id.kind ≡ kinds.Ob → (b.params ≡ []) × (20 ≤ b.local_len)

abbrev pub AreRight : List CodeBlock → Type 0
AreRight bs = AllByRecursion IsRightCode bs

stops_nowhere : (long : Option ℕ) (last : ℕ) (ended : Bool) → is_fine (first_found long (cond ended None (Some last))) ≡ true → (long ≡ None) × (ended ≡ true)
stops_nowhere None last true h = (refl, refl)
stops_nowhere None last false h = absurd cc
stops_nowhere (Some at) last ended h = absurd cc

code_right : (n : ℕ) (ops : List OpData) → (code_layout true n).good ops ≡ true → (overlong_statement 0 0 ops ≡ None) × (ends_by_be ops ≡ true) × (are_ops ops ≡ true)
unfolding code_layout
code_right n ops h =
    let a = and_parts (are_ops ops && is_fine (stop_at true ops [])) (eqb (length (code_bytes ops)) n) h in
    let b = and_parts (are_ops ops) (is_fine (stop_at true ops [])) a.0 in
    let stops = stops_nowhere (overlong_statement 0 0 ops) (last_place 0 ops) (ends_by_be ops) b.1 in
    (stops.0, stops.1, b.0)

-- no parameters, and room for the start information
none_if_ob : (kind count : ℕ) → kind ≡ kind_number kinds.Ob → (not (eqb kind (kind_number kinds.Ob)) || eqb count 0) ≡ true → count ≡ 0
none_if_ob kind count is h = eqb-true count 0 (rw is at h)

room_if_ob : (kind bytes : ℕ) → kind ≡ kind_number kinds.Ob → (not (eqb kind (kind_number kinds.Ob)) || leb 20 bytes) ≡ true → 20 ≤ bytes
room_if_ob kind bytes is h = leb-true 20 bytes (rw is at h)

locals_right : (before : ℕ × ℕ) (h : Head) → (head_layout before).good h ≡ true → h.local_bytes ≤ 1024
unfolding local_length_layout field_fault
locals_right before h good =
    let bytes = h.local_bytes in
    let has_room = not (eqb h.kind (kind_number kinds.Ob)) || leb 20 bytes in
    let long = and_parts (ltb bytes 65536) (is_fine (fault_unless_met (leb bytes 1024 && has_room) 4)) (good_head before h good).locals_good in
    leb-true bytes 1024 (and_parts (leb bytes 1024) has_room (unless_fine (leb bytes 1024 && has_room) 4 long.1)).0

ob_right : (before : ℕ × ℕ) (h : Head) → (head_layout before).good h ≡ true → h.kind ≡ kind_number kinds.Ob → (h.parameter_count ≡ 0) × (20 ≤ h.local_bytes)
unfolding parameter_count_layout local_length_layout field_fault
ob_right before h good is =
    let parts = good_head before h good in
    let count = h.parameter_count in
    let bytes = h.local_bytes in
    let no_params = not (eqb h.kind (kind_number kinds.Ob)) || eqb count 0 in
    let has_room = not (eqb h.kind (kind_number kinds.Ob)) || leb 20 bytes in
    let few = and_parts (ltb count 256) (is_fine (fault_unless_met (leb count 60 && no_params) 4)) parts.params_good in
    let long = and_parts (ltb bytes 65536) (is_fine (fault_unless_met (leb bytes 1024 && has_room) 4)) parts.locals_good in (
      none_if_ob h.kind count is (and_parts (leb count 60) no_params (unless_fine (leb count 60 && no_params) 4 few.1)).1,
      room_if_ob h.kind bytes is (and_parts (leb bytes 1024) has_room (unless_fine (leb bytes 1024 && has_room) 4 long.1)).1,
    )

none_mapped : (ps : List Param) → length (map record_of_param ps) ≡ 0 → ps ≡ []
none_mapped [] e = refl
none_mapped (p ∷ ps) e = absurd (omega (arith, e))

ob_block : (s : ℕ × ℕ) (b : CodeBlock) → (head_layout s).good (head_of_block (record_of_block b)) ≡ true → b.id.kind ≡ kinds.Ob → (b.params ≡ []) × (20 ≤ b.local_len)
ob_block s b good is =
    let right = ob_right s (head_of_block (record_of_block b)) good (ap kind_number is) in
    (none_mapped b.params right.0, right.1)

lines_right : (start : ℕ) (h : Head) (ops : List OpData) (lines : List ℕ) → (lines_layout true start h ops).good lines ≡ true → end_marks ops ≡ h.statement_count
unfolding lines_layout field_fault
lines_right start h ops lines good =
    let c = and_parts (is_fine (if_checked true (field_fault (StatementCount (end_marks ops) h.statement_count)))) (good_many (line_field true) line_after 0 h.statement_count lines) good in
    eqb-true (end_marks ops) h.statement_count (unless_fine (eqb (end_marks ops) h.statement_count) 9 c.0)

right_code : (s : ℕ × ℕ) (b : CodeBlock) → (code_block_layout true s).good (record_of_block b) ≡ true → IsRightCode b
right_code s b good =
    let r = record_of_block b in
    let p = good_block_of true s r good in
    let h = head_of_block r in
    let c = code_right (length (code_bytes b.code)) b.code p.code_good in
    record { ended = c.1; few = c.0; ops = c.2; room = locals_right s h p.head_good; organization = λ is. ob_block s b p.head_good is; marks = lines_right 0 h b.code b.lines p.lines_good }

pub program_right : (p : Program) → IsRight p → AreRight p.code_blocks
unfolding body_layout
program_right p h = let q = good_records true (records_of p) h in all_of_blocks true IsRightCode right_code (length (map record_of_block p.code_blocks)) p.code_blocks q.codes_good

pub right_at : (bs : List CodeBlock) (b : CodeBlock) (id : BlockId) → AreRight bs → block_by_id id bs ≡ Some b → IsRightCode b
right_at [] b id h found = absurd cc
right_at (c ∷ bs) b id h found = by (is_same_id c.id id) found (λ e. right_at bs b id h.1 e)
  where
    by : (t : Bool) → cond t (Some c) (block_by_id id bs) ≡ Some b → (block_by_id id bs ≡ Some b → IsRightCode b) → IsRightCode b
    by true e more = subst IsRightCode (same_Some c b e) h.0
    by false e more = more e

-- ---- the ops and the beginning of a block

pub op_right : (from : ℕ) (brackets : List OpenBracket) (zones : List ℕ) (before ops : List OpData) (at : ℕ) (q : PlacedOp) → are_ops ops ≡ true → placed_op_at at (ops_placed from brackets zones before ops) ≡ Some q → is_op q.op.code q.op.operand ≡ true
op_right from brackets zones before [] at q right found = absurd cc
op_right from brackets zones before (o ∷ ops) at q right found =
    let parts = and_parts (is_op o.code o.operand) (are_ops ops) right in
    by (eqb from at) found parts.0 (λ e. op_right (from + size_of_op o) (brackets_after from o.code brackets) (zones_behind_op from o.code zones) (before_next o before) ops at q parts.1 e)
  where
    here : PlacedOp
    here = record { at = from; brackets = brackets; zones = zones; before = before; op = o; rest = ops }

    behind : Option PlacedOp
    behind = placed_op_at at (ops_placed (from + size_of_op o) (brackets_after from o.code brackets) (zones_behind_op from o.code zones) (before_next o before) ops)

    by : (t : Bool) → cond t (Some here) behind ≡ Some q → is_op o.code o.operand ≡ true → (behind ≡ Some q → is_op q.op.code q.op.operand ≡ true) → is_op q.op.code q.op.operand ≡ true
    by true e is more = subst (λ (z : PlacedOp). is_op z.op.code z.op.operand ≡ true) (same_Some here q e) is
    by false e is more = more e

pub code_begins : (b : CodeBlock) (ops : List OpData) → b.code ≡ ops → ends_by_be ops ≡ true → BlockBegins b
code_begins b [] is ended = absurd cc
code_begins b (o ∷ ops) is ended =
    let first : PlacedOp = record { at = 0; brackets = []; zones = []; before = []; op = o; rest = ops } in
    let there : placed_op_at 0 (code_places b.code) ≡ Some first = rw is refl in
    record { first = first; place = there; offset = refl; statement = refl; closed = refl; no_zones = refl }

pub block_right : (b : CodeBlock) → IsRightCode b → BlockIsRight b
block_right b right = record { begins = code_begins b b.code refl right.ended; room = right.room; organization = right.organization }
