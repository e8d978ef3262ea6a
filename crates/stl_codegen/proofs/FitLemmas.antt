-- What the code blocks of a program fit.
use Rattle.std.proofs.Common.{◌≡◌, ℕ, ◌/◌, ◌<◌, ◌≤◌, Bool, true, false, ltb, ◌&&◌, List, [], ◌∷◌, map, subst, arith}
use Rattle.std.proofs.lemmas.Bool.{and_parts, ltb-true}
use Rattle.std.proofs.lemmas.List.{length-map}
use Rattle.std.specs.List.{AllByRecursion}
use Rattle.plc_base.specs.declared.places.Width.{Width}
use Rattle.flat_code.specs.Codes.{are_ops, code_layout}
use Rattle.flat_code.specs.Image.{Head, IsProgram, body_layout, body_rows, code_block_layout, code_blocks_layout, counts_layout, data_blocks_layout, fields_of_parameter, head_layout, instance_bytes_layout, local_length_layout, names_layout, parameter_layout, parameter_bit, parameter_byte, parameter_row, parameter_rows, parameters_layout, parts_of_block, parts_of_records, plain_block, record_of_block, record_of_param, records_layout, records_of, row_of_body_parts, same_state, section_field, width_field, zero_u8}
use Rattle.flat_code.specs.Layout.{chain_layout}
use Rattle.flat_code.specs.Ops.{OpData}
use Rattle.flat_code.specs.Programs.{CodeBlock, Program}
use Rattle.flat_code.specs.declared.programs.Param.{Param}
use Rattle.flat_code.proofs.PartLemmas.{all_of_blocks, all_of_many, chain_parts, good_block, good_head, head_params, word_fits}
use Rattle.stl_codegen.specs.Fitting.{BlockFits, ParamFits}
use Rattle.stl_codegen.specs.GeneratedProgram.{param_at_bits}

-- a number that fits a word, whatever else its field asks
word : (n : ℕ) (checked : Bool) → (ltb n 65536 && checked) ≡ true → n < 65536
word n checked good = ltb-true n 65536 (and_parts (ltb n 65536) checked good).0

-- the numbers of a head
record HeadFits (h : Head) : Type 0 where
  count : h.parameter_count ≤ 60
  local_len : h.local_bytes < 65536
  instance_len : h.instance_bytes < 65536
  statements : h.statement_count < 65536

local_word : (kind n : ℕ) → (local_length_layout kind).good n ≡ true → n < 65536
unfolding local_length_layout
local_word kind n good = word n _ good

instance_word : (kind n : ℕ) → (instance_bytes_layout kind).good n ≡ true → n < 65536
unfolding instance_bytes_layout
instance_word kind n good = word n _ good

head_fits : (before : ℕ × ℕ) (h : Head) → (head_layout before).good h ≡ true → HeadFits h
head_fits before h good =
    let parts = good_head before h good in
    record {
      count = head_params before h good;
      local_len = local_word h.kind h.local_bytes parts.locals_good;
      instance_len = instance_word h.kind h.instance_bytes parts.instance_good;
      statements = word_fits h.statement_count parts.statements_good;
    }

-- the places of parameters
byte_word : (kind instance w n : ℕ) → (parameter_byte kind instance w).good n ≡ true → n < 65536
unfolding parameter_byte
byte_word kind instance w n good = word n _ good

param_fits : (kind instance : ℕ) (p : Param) → (parameter_layout kind instance).good (record_of_param p) ≡ true → ParamFits p
unfolding parameter_layout parameter_rows
param_fits kind instance p good =
    let x = parameter_row (fields_of_parameter (record_of_param p)) in
    let a = chain_parts section_field (λ s. chain_layout width_field (λ w. chain_layout (parameter_byte kind instance w) (λ byte. chain_layout (parameter_bit kind) (λ bit. zero_u8)))) x good in
    let b = chain_parts width_field (λ w. chain_layout (parameter_byte kind instance w) (λ byte. chain_layout (parameter_bit kind) (λ bit. zero_u8))) x.1 a.1 in
    let c = chain_parts (parameter_byte kind instance x.1.0) (λ byte. chain_layout (parameter_bit kind) (λ bit. zero_u8)) x.1.1 b.1 in
    byte_word kind instance x.1.0 x.1.1.0 c.0

places_fit : (h : Head) (ps : List Param) → (parameters_layout h).good (map record_of_param ps) ≡ true → AllByRecursion ParamFits ps
unfolding parameters_layout
places_fit h ps good = all_of_many (λ s. parameter_layout h.kind h.instance_bytes) same_state record_of_param ParamFits (λ s p. param_fits h.kind h.instance_bytes p) 0 h.parameter_count ps good

ops_are : (n : ℕ) (ops : List OpData) → (code_layout false n).good ops ≡ true → are_ops ops ≡ true
unfolding code_layout
ops_are n ops good = (and_parts (are_ops ops) _ (and_parts (are_ops ops && _) _ good).0).0

block_fits : (before : ℕ × ℕ) (b : CodeBlock) → (code_block_layout false before).good (record_of_block b) ≡ true → BlockFits b
unfolding code_block_layout plain_block
block_fits before b good =
    let x = parts_of_block (record_of_block b) in
    let p = good_block false before 0 x good in
    let h = head_fits before x.head p.head_good in
    record {
      local_len = h.local_len;
      instance_len = h.instance_len;
      params = record { count = subst (λ (k : ℕ). k ≤ 60) (length-map b.params record_of_param) h.count; places = places_fit x.head b.params p.params_good };
      code = record { ops = ops_are x.head.code_length b.code p.code_good; count = h.statements };
    }

pub program_fits : (p : Program) → IsProgram p → AllByRecursion BlockFits p.code_blocks
unfolding body_layout records_layout body_rows
program_fits p h =
    let x = parts_of_records (records_of p) in
    let row = row_of_body_parts x in
    let a = chain_parts counts_layout (λ c. chain_layout (code_blocks_layout false c.code_blocks) (λ blocks. chain_layout (data_blocks_layout c.data_blocks) (λ datas. names_layout c.names))) row h.good in
    let b = chain_parts (code_blocks_layout false x.counts.code_blocks) (λ blocks. chain_layout (data_blocks_layout x.counts.data_blocks) (λ datas. names_layout x.counts.names)) row.1 a.1 in
    all_of_blocks false BlockFits block_fits x.counts.code_blocks p.code_blocks b.0

-- a parameter too far behind
pub far_param : (section : ℕ) (w : Width) (bits : ℕ) → 65536 ≤ bits / 8 → AllByRecursion ParamFits (param_at_bits section w bits ∷ []) → ⊥
far_param section w bits far fits = far_byte (bits / 8) far fits.0
  where
    far_byte : (byte : ℕ) → 65536 ≤ byte → byte < 65536 → ⊥
    far_byte byte far near = absurd (omega arith)
