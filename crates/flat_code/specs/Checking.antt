-- The records of a program checked one behind the other, and how many bytes they take in its image.
use Rattle.std.specs.Prelude.{ℕ, ◌+◌, ◌*◌, nat_le, nat_lt, Bool, true, false, ◌&&◌, List, [], ◌∷◌, length, map, sum_by}
use Rattle.flat_code.specs.Codes.{code_bytes}
use Rattle.flat_code.specs.Image.{after_block, after_data, after_name, code_block_layout, data_block_layout, line_after, line_field, name_of_entry, name_record, parameter_layout, record_of_block, record_of_param, same_state}
use Rattle.flat_code.specs.Layout.{FieldLayout}
use Rattle.flat_code.specs.Programs.{CodeBlock, DataBlock, NameEntry, Program}
use Rattle.flat_code.specs.declared.programs.Param.{Param}

-- whether values one behind the other are without fault, each checked by a state of those before it
abbrev pub all_good : {S A : Type 0} → (S → FieldLayout A) → (S → A → S) → S → List A → Bool
all_good l next s [] = true
all_good l next s (x ∷ xs) = (l s).good x && all_good l next (next s x) xs

-- whether the parameters of a block of a kind with so many instance bytes are without fault
abbrev pub good_params : (kind instance : ℕ) → List Param → Bool
good_params kind instance ps =
    all_good (λ s. parameter_layout kind instance) same_state 0 (map record_of_param ps)

-- whether each source line of a block fits 32 bits; that none is 0 or falls (fault 9) isn't tested
abbrev pub good_lines : List ℕ → Bool
good_lines lines = all_good (line_field false) line_after 0 lines

-- whether code blocks behind one of kind and number `before` (0 and 0 for none) are without fault;
-- faults 5 to 9 aside
abbrev pub good_blocks : ℕ × ℕ → List CodeBlock → Bool
good_blocks before bs =
    all_good (code_block_layout false) after_block before (map record_of_block bs)

-- whether data blocks are without fault, behind one of the number `before.0` (0 for none), with
-- `before.1` bytes in all data blocks before
abbrev pub good_datas : ℕ × ℕ → List DataBlock → Bool
good_datas before ds = all_good data_block_layout after_data before ds

-- whether names behind the name `before` (empty for none) are without fault: they rise, their
-- variables are in I, Q or M
abbrev pub good_names : List ℕ → List NameEntry → Bool
good_names before es = all_good name_record after_name before (map name_of_entry es)

-- whether an image may have so many code blocks, data blocks (at most 256) and names
abbrev pub good_counts : (codes datas names : ℕ) → Bool
good_counts codes datas names = nat_lt codes 65536 && nat_le datas 256 && nat_lt names 65536

-- whether the counts, and then each list of records in the order of the image, are without fault
abbrev pub good_records : Program → Bool
good_records p =
    good_counts (length p.code_blocks) (length p.data_blocks) (length p.names)
    && (good_blocks (0, 0) p.code_blocks
    && (good_datas (0, 0) p.data_blocks && good_names [] p.names))

-- how many bytes a code block takes: 16 of its head, 6 for each parameter, its code, 4 for each
-- line
abbrev pub records_size : CodeBlock → ℕ
records_size b = 16 + 6 * length b.params + length (code_bytes b.code) + 4 * length b.lines

-- how many bytes a data block takes: 8 of number, instance, length and zero, besides its contents
abbrev pub data_size : DataBlock → ℕ
data_size d = 8 + length d.bytes

-- how many bytes a name takes: 6 of length, area, width, byte and bit, besides those of the name
abbrev pub name_size : NameEntry → ℕ
name_size e = 6 + length e.name

-- how many bytes the image of a program takes: 20 of header and counts, besides its records
abbrev pub image_size : Program → ℕ
image_size p =
    20 + sum_by records_size p.code_blocks + sum_by data_size p.data_blocks
    + sum_by name_size p.names

-- whether code blocks, data blocks and names make a program, with an image of at most 8,388,608
-- bytes
abbrev pub makes_program : Program → Bool
makes_program p = good_records p && nat_le (image_size p) 8388608
