-- The parts of an image's records: without fault where the records are.
use Rattle.std.proofs.Common.{◌≡◌, ℕ, zero, suc, ◌<◌, ◌≤◌, Bool, true, false, eqb, ltb, leb, not, ◌&&◌, ◌||◌, List, [], ◌∷◌, map, refl}
use Rattle.std.proofs.lemmas.Bool.{and_parts, ltb-true, leb-true}
use Rattle.std.specs.List.{AllByRecursion}
use Rattle.plc_base.specs.Kinds.{kind_number}
use Rattle.plc_base.specs.declared.blocks.BlockKind.TheVariants as blocks
use Rattle.flat_code.specs.Codes.{code_layout}
use Rattle.flat_code.specs.Faults.{field_fault, fault_unless_met}
use Rattle.flat_code.specs.Image.{BlockParts, Head, after_block, block_number_layout, block_rows, code_and_lines, code_block_layout, code_blocks_layout, head_layout, head_rows, instance_bytes_layout, kind_field, lines_layout, local_length_layout, parameter_count_layout, parameters_layout, plain_u16, plain_u32, record_of_block, row_of_block_parts, row_of_head, zero_u16}
use Rattle.flat_code.specs.Layout.{FieldLayout, chain_layout, good_many, is_fine}
use Rattle.flat_code.specs.declared.image_fields.ParameterRecord.{ParameterRecord}
use Rattle.flat_code.specs.Ops.{OpData}
use Rattle.flat_code.specs.Programs.{CodeBlock}

pub unless_fine : (b : Bool) (code : ℕ) → is_fine (fault_unless_met b code) ≡ true → b ≡ true
unless_fine true code h = refl
unless_fine false code h = absurd cc

pub chain_parts : {A B : Type 0} (l : FieldLayout A) (m : A → FieldLayout B) (x : A × B) → (chain_layout l m).good x ≡ true → (l.good x.0 ≡ true) × ((m x.0).good x.1 ≡ true)
chain_parts l m x h = and_parts (l.good x.0) ((m x.0).good x.1) h

-- what holds of each record without fault holds of all of a list without fault
pub all_of_many : {S A B : Type 0} (l : S → FieldLayout A) (next : S → A → S) (record_of : B → A) (P : B → Type 0)
    → ((s : S) (y : B) → (l s).good (record_of y) ≡ true → P y)
    → (s : S) (n : ℕ) (ys : List B) → good_many l next s n (map record_of ys) ≡ true → AllByRecursion P ys
all_of_many l next record_of P each s n [] h = tt
all_of_many l next record_of P each s zero (y ∷ ys) h = absurd cc
all_of_many l next record_of P each s (suc n) (y ∷ ys) h =
    let g = and_parts ((l s).good (record_of y)) (good_many l next (next s (record_of y)) n (map record_of ys)) h in
    (each s y g.0, all_of_many l next record_of P each (next s (record_of y)) n ys g.1)

pub word_fits : (n : ℕ) → plain_u16.good n ≡ true → n < 65536
unfolding plain_u16
word_fits n good = ltb-true n 65536 (and_parts (ltb n 65536) true good).0

pub dword_fits : (n : ℕ) → plain_u32.good n ≡ true → n < 4294967296
unfolding plain_u32
dword_fits n good = ltb-true n 4294967296 (and_parts (ltb n 4294967296) true good).0

-- ---- the head of a code block, from each of its fields on

abbrev pub from_size : FieldLayout ℕ
from_size = plain_u32

abbrev pub from_zero : FieldLayout (ℕ × ℕ)
from_zero = chain_layout zero_u16 (λ zero. from_size)

abbrev pub from_statements : FieldLayout (ℕ × (ℕ × ℕ))
from_statements = chain_layout plain_u16 (λ statements. from_zero)

abbrev pub from_instance : ℕ → FieldLayout (ℕ × (ℕ × (ℕ × ℕ)))
from_instance kind = chain_layout (instance_bytes_layout kind) (λ instance. from_statements)

abbrev pub from_locals : ℕ → FieldLayout (ℕ × (ℕ × (ℕ × (ℕ × ℕ))))
from_locals kind = chain_layout (local_length_layout kind) (λ locals. from_instance kind)

abbrev pub from_number : ℕ × ℕ → ℕ → FieldLayout (ℕ × (ℕ × (ℕ × (ℕ × (ℕ × ℕ)))))
from_number before kind = chain_layout (block_number_layout before.0 before.1 kind) (λ number. from_locals kind)

abbrev pub from_params : ℕ × ℕ → ℕ → FieldLayout (ℕ × (ℕ × (ℕ × (ℕ × (ℕ × (ℕ × ℕ))))))
from_params before kind = chain_layout (parameter_count_layout kind) (λ params. from_number before kind)

-- the fields of a head without fault
pub record GoodHead (before : ℕ × ℕ) (h : Head) : Type 0 where
  pub kind_good : (kind_field before.0).good h.kind ≡ true
  pub params_good : (parameter_count_layout h.kind).good h.parameter_count ≡ true
  pub number_good : (block_number_layout before.0 before.1 h.kind).good h.number ≡ true
  pub locals_good : (local_length_layout h.kind).good h.local_bytes ≡ true
  pub instance_good : (instance_bytes_layout h.kind).good h.instance_bytes ≡ true
  pub statements_good : plain_u16.good h.statement_count ≡ true
  pub zero_good : zero_u16.good h.reserved ≡ true
  pub size_good : plain_u32.good h.code_length ≡ true

pub good_head : (before : ℕ × ℕ) (h : Head) → (head_layout before).good h ≡ true → GoodHead before h
unfolding head_layout head_rows
good_head before h good =
    let row = row_of_head h in
    let a = chain_parts (kind_field before.0) (from_params before) row good in
    let b = chain_parts (parameter_count_layout h.kind) (λ params. from_number before h.kind) row.1 a.1 in
    let c = chain_parts (block_number_layout before.0 before.1 h.kind) (λ number. from_locals h.kind) row.1.1 b.1 in
    let d = chain_parts (local_length_layout h.kind) (λ locals. from_instance h.kind) row.1.1.1 c.1 in
    let e = chain_parts (instance_bytes_layout h.kind) (λ instance. from_statements) row.1.1.1.1 d.1 in
    let f = chain_parts plain_u16 (λ statements. from_zero) row.1.1.1.1.1 e.1 in
    let g = chain_parts zero_u16 (λ zero. from_size) row.1.1.1.1.1.1 f.1 in
    record { kind_good = a.0; params_good = b.0; number_good = c.0; locals_good = d.0; instance_good = e.0; statements_good = f.0; zero_good = g.0; size_good = g.1 }

-- a block has at most 60 parameters
pub head_params : (before : ℕ × ℕ) (h : Head) → (head_layout before).good h ≡ true → h.parameter_count ≤ 60
unfolding parameter_count_layout field_fault
head_params before h good =
    let few = leb h.parameter_count 60 in
    let none = not (eqb h.kind (kind_number blocks.Ob)) || eqb h.parameter_count 0 in
    let c = and_parts (ltb h.parameter_count 256) (is_fine (fault_unless_met (few && none) 4)) (good_head before h good).params_good in
    leb-true h.parameter_count 60 (and_parts few none (unless_fine (few && none) 4 c.1)).0

-- ---- a code block

abbrev pub behind_head : Bool → ℕ → Head → FieldLayout (List ParameterRecord × (List OpData × List ℕ))
behind_head with_code_faults start h = chain_layout (parameters_layout h) (λ params. code_and_lines with_code_faults start h)

-- the parts of a block without fault
pub record GoodBlock (with_code_faults : Bool) (before : ℕ × ℕ) (start : ℕ) (x : BlockParts) : Type 0 where
  pub head_good : (head_layout before).good x.head ≡ true
  pub params_good : (parameters_layout x.head).good x.params ≡ true
  pub code_good : (code_layout with_code_faults x.head.code_length).good x.code ≡ true
  pub lines_good : (lines_layout with_code_faults start x.head x.code).good x.lines ≡ true

pub good_block : (with_code_faults : Bool) (before : ℕ × ℕ) (start : ℕ) (x : BlockParts) → (block_rows with_code_faults before start).good (row_of_block_parts x) ≡ true → GoodBlock with_code_faults before start x
unfolding block_rows code_and_lines
good_block with_code_faults before start x good =
    let row = row_of_block_parts x in
    let a = chain_parts (head_layout before) (behind_head with_code_faults start) row good in
    let b = chain_parts (parameters_layout x.head) (λ params. code_and_lines with_code_faults start x.head) row.1 a.1 in
    let c = chain_parts (code_layout with_code_faults x.head.code_length) (lines_layout with_code_faults start x.head) row.1.1 b.1 in
    record { head_good = a.0; params_good = b.0; code_good = c.0; lines_good = c.1 }

-- what holds of each code block without fault holds of all of a program
pub all_of_blocks : (with_code_faults : Bool) (P : CodeBlock → Type 0) → ((s : ℕ × ℕ) (b : CodeBlock) → (code_block_layout with_code_faults s).good (record_of_block b) ≡ true → P b)
    → (n : ℕ) (bs : List CodeBlock) → (code_blocks_layout with_code_faults n).good (map record_of_block bs) ≡ true → AllByRecursion P bs
unfolding code_blocks_layout
all_of_blocks with_code_faults P each n bs good = all_of_many (code_block_layout with_code_faults) after_block record_of_block P each (0, 0) n bs good
