-- The data blocks of a program that verifies: their numbers rise, and each is read by its number.
use Rattle.std.proofs.Common.{◌≡◌, ℕ, zero, suc, ◌<◌, ◌≤◌, true, false, ltb, ◌&&◌, List, [], ◌∷◌, ◌++◌, map, refl, sym, ap, subst, ◌∙◌, arith}
use Rattle.std.specs.Prelude.{nat_eq, Vec}
use Rattle.std.specs.declared.alloc.Global.{Global}
use Rattle.std.specs.List.{AllByRecursion, IsDistinct}
use Rattle.std.proofs.lemmas.Bool.{and_parts, ltb-true}
use Rattle.std.proofs.lemmas.Bool.Decides.{nat_tests}
use Rattle.plc_base.specs.Kinds as of_kind
use Rattle.plc_base.specs.Kinds.{kind_number}
use Rattle.plc_base.specs.declared.BlockId.{BlockId}
use Rattle.plc_base.specs.declared.blocks.BlockKind.{BlockKind}
use Rattle.plc_base.specs.declared.blocks.BlockKind.TheVariants as kinds
use Rattle.flat_code.specs.Faults.{field_fault, is_in_range, fault_unless_met}
use Rattle.flat_code.specs.Image.{zero_u16, record_of_block, parts_of_block, code_block_layout, code_blocks_layout, after_block, data_number_layout, instance_field, data_length_layout, contents_layout, data_rows, data_row, fields_of_data, data_block_layout, after_data, data_blocks_layout, records_of, body_layout}
use Rattle.flat_code.specs.Layout.{chain_layout, good_many, is_fine}
use Rattle.flat_code.specs.Loading.{Verifies}
use Rattle.flat_code.specs.Programs.{CodeBlock, DataBlock, Program}
use Rattle.flat_code.proofs.PartLemmas.{chain_parts, unless_fine}
use Rattle.image_file.specs.Readers.{data_block_id, block_ids}
use Rattle.image_file.proofs.ImageLemmas.{good_block_of, good_records, head_kind}
use Rattle.plc_mem.specs.Blocks as owned
use Rattle.machine.specs.Flat.{numbered_bytes}
use Rattle.controller.specs.Starting.{is_data_block_id, data_block_numbers_in, read_block, data_block_numbers}

-- ---- numbers rise

abbrev pub Rise : (before : ℕ) → List DataBlock → Type 0
Rise before [] = Unit {0}
Rise before (d ∷ ds) = (before < d.number) × Rise d.number ds

number_rises : (before n : ℕ) → (data_number_layout before).good n ≡ true → before < n
unfolding data_number_layout field_fault
number_rises before n good =
    let right = is_in_range 1 2047 n && ltb before n in
    let fine = and_parts (ltb n 65536) (is_fine (fault_unless_met right 4)) good in
    ltb-true before n (and_parts (is_in_range 1 2047 n) (ltb before n) (unless_fine right 4 fine.1)).1

data_rises : (before : ℕ × ℕ) (d : DataBlock) → (data_block_layout before).good d ≡ true → before.0 < d.number
unfolding data_block_layout data_rows
data_rises before d good =
    let a = chain_parts (data_number_layout before.0) (λ number. chain_layout instance_field (λ instance. chain_layout (data_length_layout before.1) (λ n. chain_layout zero_u16 (λ zero. contents_layout n)))) (data_row (fields_of_data d)) good in
    number_rises before.0 d.number a.0

datas_rise : (s : ℕ × ℕ) (n : ℕ) (ds : List DataBlock) → good_many data_block_layout after_data s n ds ≡ true → Rise s.0 ds
datas_rise s n [] h = tt
datas_rise s zero (d ∷ ds) h = absurd cc
datas_rise s (suc n) (d ∷ ds) h =
    let g = and_parts ((data_block_layout s).good d) (good_many data_block_layout after_data (after_data s d) n ds) h in
    (data_rises s d g.0, datas_rise (after_data s d) n ds g.1)

datas_are : (n : ℕ) (ds : List DataBlock) → (data_blocks_layout n).good ds ≡ true → Rise 0 ds
unfolding data_blocks_layout
datas_are n ds good = datas_rise (0, 0) n ds good

pub numbers_rise : (p : Program) → Verifies p → Rise 0 p.data_blocks
unfolding body_layout
numbers_rise p h = datas_are _ p.data_blocks (good_records true (records_of p) h.right).datas_good

-- ---- code blocks are no data blocks

kind_right : (k : BlockKind) → is_in_range 1 3 (kind_number k) ≡ true → of_kind.is_data_block k ≡ false
kind_right kinds.Ob h = refl
kind_right kinds.Fc h = refl
kind_right kinds.Fb h = refl
kind_right kinds.Db h = absurd cc
kind_right kinds.Sfc h = refl
kind_right kinds.Udt h = refl

block_kind : (s : ℕ × ℕ) (b : CodeBlock) → (code_block_layout true s).good (record_of_block b) ≡ true → is_data_block_id b.id ≡ false
block_kind s b good =
    kind_right b.id.kind (head_kind s (parts_of_block (record_of_block b)).head (good_block_of true s (record_of_block b) good).head_good)

abbrev AreCode : List CodeBlock → Type 0
AreCode [] = Unit {0}
AreCode (b ∷ bs) = (is_data_block_id b.id ≡ false) × AreCode bs

blocks_kind : (s : ℕ × ℕ) (n : ℕ) (bs : List CodeBlock) → good_many (code_block_layout true) after_block s n (map record_of_block bs) ≡ true → AreCode bs
blocks_kind s n [] h = tt
blocks_kind s zero (b ∷ bs) h = absurd cc
blocks_kind s (suc n) (b ∷ bs) h =
    let r = record_of_block b in
    let g = and_parts ((code_block_layout true s).good r) (good_many (code_block_layout true) after_block (after_block s r) n (map record_of_block bs)) h in
    (block_kind s b g.0, blocks_kind (after_block s r) n bs g.1)

codes_are : (n : ℕ) (bs : List CodeBlock) → (code_blocks_layout true n).good (map record_of_block bs) ≡ true → AreCode bs
unfolding code_blocks_layout
codes_are n bs good = blocks_kind (0, 0) n bs good

are_code : (p : Program) → Verifies p → AreCode p.code_blocks
unfolding body_layout
are_code p h = codes_are _ p.code_blocks (good_records true (records_of p) h.right).codes_good

-- ---- the numbers among all blocks

past_code : (bs : List CodeBlock) (ids : List BlockId) → AreCode bs → data_block_numbers_in (map (λ (b : CodeBlock). b.id) bs ++ ids) ≡ data_block_numbers_in ids
past_code [] ids are = refl
past_code (b ∷ bs) ids are = rw are.0 (past_code bs ids are.1)

of_data : (ds : List DataBlock) → data_block_numbers_in (map data_block_id ds) ≡ data_block_numbers (numbered_bytes ds)
of_data [] = refl
of_data (d ∷ ds) = ap (λ (ns : List ℕ). d.number ∷ ns) (of_data ds)

pub numbers_among : (p : Program) → Verifies p → data_block_numbers_in (block_ids p) ≡ data_block_numbers (numbered_bytes p.data_blocks)
numbers_among p h = past_code p.code_blocks (map data_block_id p.data_blocks) (are_code p h) ∙ of_data p.data_blocks

-- ---- reading by numbers

other_number : (d n : ℕ) → d < n → nat_eq d n ≡ false
other_number d n h = grind (arith, nat_tests)

read_past : (d : DataBlock) (ds es : List DataBlock) (before : ℕ) → d.number ≤ before → Rise before es
    → map (read_block (d ∷ ds)) (data_block_numbers (numbered_bytes es)) ≡ map (read_block ds) (data_block_numbers (numbered_bytes es))
read_past d ds [] before h rise = refl
read_past d ds (e ∷ es) before h rise =
    let apart : nat_eq d.number e.number ≡ false = other_number d.number e.number (omega (arith, h, rise.0)) in
    rw apart (ap (λ (rest : List (ℕ × List ℕ)). read_block ds e.number ∷ rest) (read_past d ds es e.number (omega (arith, h, rise.0)) rise.1))

here : (n : ℕ) → nat_eq n n ≡ true
here n = grind (arith, nat_tests)

read_rising : (before : ℕ) (ds : List DataBlock) → Rise before ds → map (read_block ds) (data_block_numbers (numbered_bytes ds)) ≡ numbered_bytes ds
read_rising before [] rise = refl
read_rising before (d ∷ ds) rise =
    rw (here d.number)
    (ap (λ (rest : List (ℕ × List ℕ)). (d.number, d.bytes) ∷ rest) (read_past d ds ds d.number (omega arith) rise.1 ∙ read_rising d.number ds rise.1))

pub read_all : (p : Program) → Verifies p → map (read_block p.data_blocks) (data_block_numbers (numbered_bytes p.data_blocks)) ≡ numbered_bytes p.data_blocks
read_all p h = read_rising 0 p.data_blocks (numbers_rise p h)

-- ---- they differ

none_again : (n before : ℕ) (ds : List DataBlock) → n ≤ before → Rise before ds → AllByRecursion (λ m. nat_eq n m ≡ false) (data_block_numbers (numbered_bytes ds))
none_again n before [] h rise = tt
none_again n before (d ∷ ds) h rise =
    (other_number n d.number (omega (arith, h, rise.0)), none_again n d.number ds (omega (arith, h, rise.0)) rise.1)

distinct_from : (before : ℕ) (ds : List DataBlock) → Rise before ds → IsDistinct nat_eq (data_block_numbers (numbered_bytes ds))
unfolding IsDistinct
distinct_from before [] rise = tt
distinct_from before (d ∷ ds) rise = (none_again d.number d.number ds (omega arith) rise.1, distinct_from d.number ds rise.1)

pub numbers_differ : (p : Program) → Verifies p → IsDistinct nat_eq (data_block_numbers (numbered_bytes p.data_blocks))
numbers_differ p h = distinct_from 0 p.data_blocks (numbers_rise p h)

-- ---- the blocks that were copied

owned_numbers : (blocks : List (ℕ × Vec ℕ Global)) → data_block_numbers (owned.bytes_by_number blocks) ≡ owned.block_numbers blocks
owned_numbers [] = refl
owned_numbers (b ∷ bs) = ap (λ (ns : List ℕ). b.0 ∷ ns) (owned_numbers bs)

-- what is read by these numbers is what the program has
pub blocks_read : (p : Program) (numbers : List ℕ) (blocks : List (ℕ × Vec ℕ Global)) → Verifies p
    → numbers ≡ data_block_numbers (numbered_bytes p.data_blocks)
    → owned.bytes_by_number blocks ≡ map (read_block p.data_blocks) numbers
    → owned.bytes_by_number blocks ≡ numbered_bytes p.data_blocks
blocks_read p numbers blocks h are read =
    read ∙ ap (λ (ns : List ℕ). map (read_block p.data_blocks) ns) are ∙ read_all p h

pub blocks_differ : (p : Program) (numbers : List ℕ) (blocks : List (ℕ × Vec ℕ Global)) → Verifies p
    → numbers ≡ data_block_numbers (numbered_bytes p.data_blocks)
    → owned.bytes_by_number blocks ≡ map (read_block p.data_blocks) numbers
    → IsDistinct nat_eq (owned.block_numbers blocks)
blocks_differ p numbers blocks h are read =
    let P : List ℕ → Type 0 = λ ns. IsDistinct nat_eq ns in
    subst P (ap data_block_numbers (sym (blocks_read p numbers blocks h are read)) ∙ owned_numbers blocks) (numbers_differ p h)
