-- The numbers of a program are in the ranges of its image.
use Rattle.std.proofs.Common.{◌≡◌, ℕ, zero, suc, ◌<◌, ◌≤◌, Bool, true, false, ◌&&◌, List, [], ◌∷◌, length, Option, Some, None, arith}
use Rattle.std.specs.Prelude.{◌==◌, nat_lt}
use Rattle.std.specs.List.{AllByRecursion}
use Rattle.std.proofs.lemmas.Bool.{and_parts, ltb-true, false≢true}
use Rattle.std.proofs.lemmas.List.{length-map}
use Rattle.flat_code.proofs.PartLemmas.{all_of_blocks, chain_parts, good_block, good_head, head_params}
use Rattle.flat_code.specs.Codes.{are_ops, code_layout, stop_at}
use Rattle.flat_code.specs.Forms.{payload_fits}
use Rattle.flat_code.specs.Image.{IsProgram, after_data, block_number_layout, body_layout, body_rows, bytes_fit, code_block_layout, code_blocks_layout, contents_layout, counts_layout, counts_of, data_block_layout, data_blocks_layout, data_length_layout, data_number_layout, data_row, data_rows, fields_of_data, instance_bytes_layout, instance_field, local_length_layout, names_layout, number_of_instance, parts_of_block, parts_of_records, plain_block, record_of_block, record_of_param, records_layout, records_of, row_of_body_parts, zero_u16}
use Rattle.flat_code.specs.Layout.{chain_layout, good_many, is_fine}
use Rattle.flat_code.specs.Ops.{OpData, is_op}
use Rattle.flat_code.specs.Programs.{CodeBlock, DataBlock, Program}
use Rattle.stl_ast.specs.Operands.{IsNumber}
use Rattle.listing_laws.specs.Ranges.{IsOffsetWritable, IsWrittenBlock, IsWrittenProgram}

-- an op: the numbers of its operand are in the ranges of its form
abbrev pub IsListedOp : OpData → Type 0
IsListedOp op = (payload_fits op.operand ≡ true) × IsOffsetWritable op.operand

-- a code block: its numbers fit their fields
pub record IsListedCode (b : CodeBlock) : Type 0 where
  pub number : IsNumber b.id.number
  pub local_len : b.local_len ≤ 65536
  pub instance_len : b.instance_len ≤ 65536
  pub params : length b.params < 65536
  pub code : AllByRecursion IsListedOp b.code

-- the number of a function block, where there is one
abbrev pub IsNumberOrNone : Option ℕ → Type 0
IsNumberOrNone None = Unit {0}
IsNumberOrNone (Some number) = IsNumber number

-- a data block
pub record IsListedData (d : DataBlock) : Type 0 where
  pub number : IsNumber d.number
  pub instance_of : IsNumberOrNone d.instance_of
  pub size : length d.bytes ≤ 65536
  pub bytes : AllByRecursion (λ b. b < 256) d.bytes

-- a program
pub record IsListed (p : Program) : Type 0 where
  pub code_blocks : AllByRecursion IsListedCode p.code_blocks
  pub data_blocks : AllByRecursion IsListedData p.data_blocks

-- ---- code blocks

-- a code block as its fields have it
record IsGoodCode (b : CodeBlock) : Type 0 where
  number : b.id.number < 65536
  local_len : b.local_len < 65536
  instance_len : b.instance_len < 65536
  params : length b.params ≤ 60
  code : are_ops b.code ≡ true

block_number_fits : (kind_before before kind n : ℕ) → (block_number_layout kind_before before kind).good n ≡ true → n < 65536
unfolding block_number_layout
block_number_fits kind_before before kind n good = ltb-true n 65536 (and_parts (nat_lt n 65536) _ good).0

local_fits : (kind n : ℕ) → (local_length_layout kind).good n ≡ true → n < 65536
unfolding local_length_layout
local_fits kind n good = ltb-true n 65536 (and_parts (nat_lt n 65536) _ good).0

instance_fits : (kind n : ℕ) → (instance_bytes_layout kind).good n ≡ true → n < 65536
unfolding instance_bytes_layout
instance_fits kind n good = ltb-true n 65536 (and_parts (nat_lt n 65536) _ good).0

pub ops_fit : (with_code_faults : Bool) (n : ℕ) (ops : List OpData) → (code_layout with_code_faults n).good ops ≡ true → are_ops ops ≡ true
unfolding code_layout
ops_fit with_code_faults n ops good = (and_parts (are_ops ops) (is_fine (stop_at with_code_faults ops [])) (and_parts _ _ good).0).0

good_code : (before : ℕ × ℕ) (b : CodeBlock) → (code_block_layout false before).good (record_of_block b) ≡ true → IsGoodCode b
unfolding code_block_layout plain_block
good_code before b good =
    let parts = parts_of_block (record_of_block b) in
    let whole = good_block false before 0 parts good in
    let fields = good_head before parts.head whole.head_good in
    record {
      number = block_number_fits before.0 before.1 parts.head.kind b.id.number fields.number_good;
      local_len = local_fits parts.head.kind b.local_len fields.locals_good;
      instance_len = instance_fits parts.head.kind b.instance_len fields.instance_good;
      params = omega (arith, head_params before parts.head whole.head_good, length-map b.params record_of_param);
      code = ops_fit false parts.head.code_length b.code whole.code_good;
    }

payload_is : (op : OpData) → is_op op.code op.operand ≡ true → payload_fits op.operand ≡ true
unfolding is_op
payload_is op e = (and_parts _ (payload_fits op.operand) e).1

ops_listed : (ops : List OpData) → are_ops ops ≡ true → AllByRecursion (λ op. IsOffsetWritable op.operand) ops → AllByRecursion IsListedOp ops
ops_listed [] good h = tt
ops_listed (op ∷ ops) good (one, more) =
    let parts = and_parts (is_op op.code op.operand) (are_ops ops) good in
    ((payload_is op parts.0, one), ops_listed ops parts.1 more)

code_listed : (bs : List CodeBlock) → AllByRecursion IsGoodCode bs → AllByRecursion IsWrittenBlock bs → AllByRecursion IsListedCode bs
code_listed [] good h = tt
code_listed (b ∷ bs) (g, gs) (one, more) = (
  record {
    number = omega (arith, g.number);
    local_len = omega (arith, g.local_len);
    instance_len = omega (arith, g.instance_len);
    params = omega (arith, g.params);
    code = ops_listed b.code g.code one;
  },
  code_listed bs gs more,
)

-- ---- data blocks

number_fits : (before n : ℕ) → (data_number_layout before).good n ≡ true → n < 65536
unfolding data_number_layout
number_fits before n good = ltb-true n 65536 (and_parts (nat_lt n 65536) _ good).0

size_fits : (before n : ℕ) → (data_length_layout before).good n ≡ true → n < 65536
unfolding data_length_layout
size_fits before n good = ltb-true n 65536 (and_parts (nat_lt n 65536) _ good).0

instance_of_fits : (of_ : Option ℕ) → instance_field.good (number_of_instance of_) ≡ true → IsNumberOrNone of_
unfolding instance_field
instance_of_fits None good = tt
instance_of_fits (Some n) good = omega (arith, ltb-true (suc n) 65536 (and_parts (nat_lt (suc n) 65536) _ good).0)

bytes_are : (bs : List ℕ) → bytes_fit bs ≡ true → AllByRecursion (λ b. b < 256) bs
bytes_are [] e = tt
bytes_are (b ∷ bs) e =
    let parts = and_parts (nat_lt b 256) (bytes_fit bs) e in
    (ltb-true b 256 parts.0, bytes_are bs parts.1)

contents_are : (n : ℕ) (bs : List ℕ) → (contents_layout n).good bs ≡ true → AllByRecursion (λ b. b < 256) bs
unfolding contents_layout
contents_are n bs good = bytes_are bs (and_parts (length bs == n) (bytes_fit bs) (and_parts (length bs == n && bytes_fit bs) _ good).0).1

data_listed : (before : ℕ × ℕ) (d : DataBlock) → (data_block_layout before).good d ≡ true → IsListedData d
unfolding data_block_layout data_rows
data_listed before d good =
    let a = chain_parts (data_number_layout before.0) (λ number. chain_layout instance_field (λ instance. chain_layout (data_length_layout before.1) (λ n. chain_layout zero_u16 (λ zero. contents_layout n)))) (data_row (fields_of_data d)) good in
    let b = chain_parts instance_field (λ instance. chain_layout (data_length_layout before.1) (λ n. chain_layout zero_u16 (λ zero. contents_layout n))) (data_row (fields_of_data d)).1 a.1 in
    let c = chain_parts (data_length_layout before.1) (λ n. chain_layout zero_u16 (λ zero. contents_layout n)) (data_row (fields_of_data d)).1.1 b.1 in
    let f = chain_parts zero_u16 (λ zero. contents_layout (length d.bytes)) (data_row (fields_of_data d)).1.1.1 c.1 in
    record {
      number = omega (arith, number_fits before.0 d.number a.0);
      instance_of = instance_of_fits d.instance_of b.0;
      size = omega (arith, size_fits before.1 (length d.bytes) c.0);
      bytes = contents_are (length d.bytes) d.bytes f.1;
    }

datas_listed : (s : ℕ × ℕ) (n : ℕ) (ds : List DataBlock) → good_many data_block_layout after_data s n ds ≡ true → AllByRecursion IsListedData ds
datas_listed s n [] h = tt
datas_listed s zero (d ∷ ds) h = absurd (false≢true h)
datas_listed s (suc n) (d ∷ ds) h =
    let g = and_parts ((data_block_layout s).good d) (good_many data_block_layout after_data (after_data s d) n ds) h in
    (data_listed s d g.0, datas_listed (after_data s d) n ds g.1)

-- ---- programs

pub program_listed : (p : Program) → IsProgram p → IsWrittenProgram p → IsListed p
unfolding body_layout records_layout body_rows data_blocks_layout
program_listed p is w =
    let row = row_of_body_parts (parts_of_records (records_of p)) in
    let a = chain_parts counts_layout (λ c. chain_layout (code_blocks_layout false c.code_blocks) (λ blocks. chain_layout (data_blocks_layout c.data_blocks) (λ datas. names_layout c.names))) row is.good in
    let b = chain_parts (code_blocks_layout false (counts_of (records_of p)).code_blocks) (λ blocks. chain_layout (data_blocks_layout (counts_of (records_of p)).data_blocks) (λ datas. names_layout (counts_of (records_of p)).names)) row.1 a.1 in
    let c = chain_parts (data_blocks_layout (counts_of (records_of p)).data_blocks) (λ datas. names_layout (counts_of (records_of p)).names) row.1.1 b.1 in
    record {
      code_blocks = code_listed p.code_blocks (all_of_blocks false IsGoodCode good_code (counts_of (records_of p)).code_blocks p.code_blocks b.0) w;
      data_blocks = datas_listed (0, 0) (counts_of (records_of p)).data_blocks p.data_blocks c.0;
    }
