-- THE IMAGE of a program, of version 1 or 2, and what reading bytes as one notes and finds.
use Rattle.std.specs.Prelude.{◌≡◌, ℕ, zero, suc, ◌+◌, ◌-◌, ◌*◌, ◌≤◌, nat_lt, ◌==◌, Bool, true, false, ◌&&◌, ◌||◌, if◌then◌else◌, List, [], ◌∷◌, ◌++◌, length, map, take, drop, Option, Some, None}
use Rattle.plc_base.specs.Kinds.{kind_number}
use Rattle.plc_base.specs.Widths.{width_number}
use Rattle.plc_base.specs.declared.blocks.BlockKind.{BlockKind}
use Rattle.plc_base.specs.declared.blocks.BlockKind.TheVariants as kind
use Rattle.plc_base.specs.declared.places.Area.{Area}
use Rattle.plc_base.specs.declared.places.Area.TheVariants as area
use Rattle.flat_code.specs.declared.programs.Param.{Param}
use Rattle.flat_code.specs.declared.image_fields.ParameterRecord.{ParameterRecord}
use Rattle.flat_code.specs.declared.image_fields.Field.TheVariants as field
use Rattle.flat_code.specs.Coding.{Coding, u8, u16, u32, behind_fifth, behind_fourth, behind_seventh, behind_third, fifth_value, fourth_value, second_value, seventh_value, sixth_value, third_value}
use Rattle.flat_code.specs.Forms.{area_code, area_of_code, kind_of_code, width_of_number}
use Rattle.flat_code.specs.Ops.{OpData}
use Rattle.flat_code.specs.Programs.{CodeBlock, DataBlock, NameEntry, Program}
use Rattle.flat_code.specs.Records.{BlockRecord, NameRecord, ImageRecords}
use Rattle.flat_code.specs.Faults.{field_fault, name_fault}
use Rattle.flat_code.specs.Stamps.{version_number, profile_field_of, stamp_of}
use Rattle.flat_code.specs.declared.stamps.Stamp.{Stamp}
use Rattle.flat_code.specs.Layout.{ReadingNote, Faulty, Whole, AllBlocks, Cursor, ReadResult, FieldLayout, reading_ended, bind_reading, field_layout, chain_layout, checked_layout, located_layout, list_layout, layout_seen_as, noted_layout}
use Rattle.flat_code.specs.Codes.{code_bytes, code_layout, if_checked}

-- the fault of a field that is checked later, or not at all: None, whatever number it has
abbrev pub no_fault : ℕ → Option ℕ
no_fault n = None

-- any u16: statement count, counts of code blocks and names, byte of a name
unfoldable pub plain_u16 : FieldLayout ℕ
plain_u16 = field_layout u16 no_fault

-- any u32: code length, total length
unfoldable pub plain_u32 : FieldLayout ℕ
plain_u32 = field_layout u32 no_fault

-- the reserved byte of a parameter: 0, else fault 4
unfoldable pub zero_u8 : FieldLayout ℕ
zero_u8 = field_layout u8 (λ n. field_fault (field.Reserved n))

-- a reserved u16 of the counts, a code block's head or a data block: 0, else fault 4
unfoldable pub zero_u16 : FieldLayout ℕ
zero_u16 = field_layout u16 (λ n. field_fault (field.Reserved n))

-- the width of a parameter, or of a name's variable: 1 to 4, else fault 4
unfoldable pub width_field : FieldLayout ℕ
width_field = field_layout u8 (λ n. field_fault (field.Width n))

-- whether each number of a list is a byte, below 256
abbrev pub bytes_fit : List ℕ → Bool
bytes_fit [] = true
bytes_fit (b ∷ bs) = nat_lt b 256 && bytes_fit bs

-- n bytes as one field, which can't be read where fewer are left
abbrev pub bytes_coding : ℕ → Coding (List ℕ)
bytes_coding n = record {
  fits = λ bs. length bs == n && bytes_fit bs;
  spell = λ bs. bs;
  read = λ text. if nat_lt (length text) n then None else Some (take n text, drop n text);
}

-- the section of a parameter, 1 VAR_INPUT, 2 VAR_OUTPUT or 3 VAR_IN_OUT, else fault 4. A parameter
-- has the fields section u8, width u8, byte u16, bit u8, zero u8
unfoldable pub section_field : FieldLayout ℕ
section_field = field_layout u8 (λ n. field_fault (field.Section n))

-- the byte of a parameter of the width `w` (1 to 4): in an FB (kind 3) so that it lies within the
-- `instance` bytes, in an FC 0
unfoldable pub parameter_byte : ℕ → ℕ → ℕ → FieldLayout ℕ
parameter_byte kind instance w =
    field_layout u16 (λ n. field_fault (field.ParameterByte kind instance w n))

-- the bit of a parameter: 0 to 7 in an FB, whatever the width is, and 0 in an FC
unfoldable pub parameter_bit : ℕ → FieldLayout ℕ
parameter_bit kind = field_layout u8 (λ n. field_fault (field.ParameterBit kind n))

-- the fields of a parameter of a code block, six bytes of an image
pub record ParameterFields : Type 0 where
  -- the section of its declaration: 1 VAR_INPUT, 2 VAR_OUTPUT, 3 VAR_IN_OUT
  pub section : ℕ
  -- the width: 1 bit, 2 byte, 3 word, 4 double word
  pub width : ℕ
  -- in an FB the byte of the instance data block at which the parameter lies, else 0
  pub byte : ℕ
  -- in an FB the bit, 0 to 7, of that byte, else 0
  pub bit : ℕ
  -- the last byte, which is 0
  pub reserved : ℕ

-- the fields of a parameter in the order of the image: section, width, byte, bit, reserved
abbrev pub ParameterRow : Type 0
ParameterRow = ℕ × (ℕ × (ℕ × (ℕ × ℕ)))

-- the fields of a parameter, by the row of them in the order of the image
abbrev pub parameter_fields : ParameterRow → ParameterFields
parameter_fields r = record {
  section = r.0;
  width = second_value r;
  byte = third_value r;
  bit = fourth_value r;
  reserved = behind_fourth r;
}

-- the fields of a parameter as a row in the order of the image
abbrev pub parameter_row : ParameterFields → ParameterRow
parameter_row f = (f.section, (f.width, (f.byte, (f.bit, f.reserved))))

-- the layout of a parameter as a row of its fields, in a block of this kind (1 OB, 2 FC, 3 FB) with
-- so many instance bytes
unfoldable pub parameter_rows : ℕ → ℕ → FieldLayout ParameterRow
parameter_rows kind instance =
    chain_layout section_field (λ section.
    chain_layout width_field (λ width.
    chain_layout (parameter_byte kind instance width) (λ byte.
    chain_layout (parameter_bit kind) (λ bit. zero_u8))))

-- the record of a parameter's fields, without the reserved one
abbrev pub parameter_of_fields : ParameterFields → ParameterRecord
parameter_of_fields f = record { section = f.section; width = f.width; byte = f.byte; bit = f.bit }

-- the fields of a parameter's record; the reserved one is 0
abbrev pub fields_of_parameter : ParameterRecord → ParameterFields
fields_of_parameter p = record {
  section = p.section;
  width = p.width;
  byte = p.byte;
  bit = p.bit;
  reserved = 0;
}

-- the six bytes of a parameter as its record
unfoldable pub parameter_layout : ℕ → ℕ → FieldLayout ParameterRecord
parameter_layout kind instance =
    layout_seen_as
    (λ r. parameter_of_fields (parameter_fields r))
    (λ p. parameter_row (fields_of_parameter p))
    (parameter_rows kind instance)

-- the kind of a code block, 1 OB, 2 FC or 3 FB, not below `before`, that of the block before it (0
-- for none), else fault 4. A head has the fields kind u8, parameter count u8, number u16, local
-- bytes u16, instance bytes u16, statement count u16, zero u16, code length u32
unfoldable pub kind_field : ℕ → FieldLayout ℕ
kind_field before = field_layout u8 (λ n. field_fault (field.Kind before n))

-- the parameter count of a code block: at most 60, and 0 for an OB, else fault 4
unfoldable pub parameter_count_layout : ℕ → FieldLayout ℕ
parameter_count_layout kind = field_layout u8 (λ n. field_fault (field.ParameterCount kind n))

-- the number of a code block: one that there is of its kind; above `before`, that of the block
-- before it, where this has the same kind; else fault 4
unfoldable pub block_number_layout : ℕ → ℕ → ℕ → FieldLayout ℕ
block_number_layout kind_before before kind =
    field_layout u16 (λ n. field_fault (field.Number kind_before before kind n))

-- how many local bytes (area L) a code block has: at most 1,024; at least 20 for an OB, which has
-- its start information there; else fault 4
unfoldable pub local_length_layout : ℕ → FieldLayout ℕ
local_length_layout kind = field_layout u16 (λ n. field_fault (field.LocalBytes kind n))

-- how many bytes an instance of a code block has: at most 16,384 for an FB, and 0 for another
-- block, else fault 4
unfoldable pub instance_bytes_layout : ℕ → FieldLayout ℕ
instance_bytes_layout kind = field_layout u16 (λ n. field_fault (field.InstanceBytes kind n))

-- the head of a code block, the first sixteen bytes of it in an image
pub record Head : Type 0 where
  -- the kind of the block: 1 OB, 2 FC, 3 FB; another number is fault 4
  pub kind : ℕ
  -- how many parameters stand behind the head
  pub parameter_count : ℕ
  -- the number of the block among those of its kind
  pub number : ℕ
  -- how many bytes of local data (area L) the block has
  pub local_bytes : ℕ
  -- how many bytes an instance data block of an FB has at least; 0 for another block
  pub instance_bytes : ℕ
  -- how many statements the block has, each with a source line
  pub statement_count : ℕ
  -- two bytes, which are 0
  pub reserved : ℕ
  -- how many bytes the code takes
  pub code_length : ℕ

-- the fields of the head of a code block in the order of the image: kind, parameter count, number,
-- local bytes, instance bytes, statement count, reserved, code length
abbrev pub HeadRow : Type 0
HeadRow = ℕ × (ℕ × (ℕ × (ℕ × (ℕ × (ℕ × (ℕ × ℕ))))))

-- the head of a code block, by the row of its fields in the order of the image
abbrev pub head_of_row : HeadRow → Head
head_of_row r = record {
  kind = r.0;
  parameter_count = second_value r;
  number = third_value r;
  local_bytes = fourth_value r;
  instance_bytes = fifth_value r;
  statement_count = sixth_value r;
  reserved = seventh_value r;
  code_length = behind_seventh r;
}

-- the head of a code block as a row of its fields in the order of the image
abbrev pub row_of_head : Head → HeadRow
row_of_head h = (
  h.kind,
  (
    h.parameter_count,
    (
      h.number,
      (
        h.local_bytes,
        (h.instance_bytes, (h.statement_count, (h.reserved, h.code_length))),
      ),
    ),
  ),
)

-- the head of a code block as a row of its fields, behind a block of kind and number `before` (0
-- and 0 for none)
unfoldable pub head_rows : ℕ × ℕ → FieldLayout HeadRow
head_rows before =
    chain_layout (kind_field before.0) (λ kind.
    chain_layout (parameter_count_layout kind) (λ params.
    chain_layout (block_number_layout before.0 before.1 kind) (λ number.
    chain_layout (local_length_layout kind) (λ locals.
    chain_layout (instance_bytes_layout kind) (λ instance.
    chain_layout plain_u16 (λ statements.
    chain_layout zero_u16 (λ zero. plain_u32)))))))

-- the head of a code block, sixteen bytes, behind a block of kind and number `before` (0 and 0 for
-- none)
unfoldable pub head_layout : ℕ × ℕ → FieldLayout Head
head_layout before = layout_seen_as head_of_row row_of_head (head_rows before)

-- the state behind a parameter: the one before it, since parameters are checked one by one
abbrev pub same_state : ℕ → ParameterRecord → ℕ
same_state s p = s

-- as many parameters of a code block as its head counts, by its kind and instance bytes
unfoldable pub parameters_layout : Head → FieldLayout (List ParameterRecord)
parameters_layout h =
    list_layout (λ s. parameter_layout h.kind h.instance_bytes) same_state 0 h.parameter_count

-- how many ops have the end mark: the number of statements, where the code ends with one
abbrev pub end_marks : List OpData → ℕ
end_marks [] = 0
end_marks (op ∷ ops) = (if op.last then 1 else 0) + end_marks ops

-- the state behind a source line, by which the next one is checked: this line
abbrev pub line_after : ℕ → ℕ → ℕ
line_after before line = line

-- the source line of a statement: not 0, nor below that of the statement before, `before` (0 for
-- none), else fault 9; without code faults any u32
unfoldable pub line_field : (with_code_faults : Bool) → (before : ℕ) → FieldLayout ℕ
line_field with_code_faults before =
    field_layout u32 (λ n. if_checked with_code_faults (field_fault (field.Line before n)))

-- the source lines of a code block at offset `start`, u32 each, as many as its head counts
-- statements; with code faults, fault 9 at the statement count (`start` + 8) where the ops have
-- another number of end marks
unfoldable pub lines_layout :
    (with_code_faults : Bool) → (start : ℕ) → Head → List OpData → FieldLayout (List ℕ)
lines_layout with_code_faults start h ops =
    checked_layout (start + 8)
    (if_checked with_code_faults
    (field_fault (field.StatementCount (end_marks ops) h.statement_count)))
    (list_layout (line_field with_code_faults) line_after 0 h.statement_count)

-- the ops and source lines of a code block at offset `start`, behind this head and the parameters;
-- without code faults no fault 9, and fault 5 only for bytes that begin no op
unfoldable pub code_and_lines :
    (with_code_faults : Bool) → (start : ℕ) → Head → FieldLayout (List OpData × List ℕ)
code_and_lines with_code_faults start h =
    chain_layout
    (code_layout with_code_faults h.code_length)
    (lines_layout with_code_faults start h)

-- the parts of a code block of an image
pub record BlockParts : Type 0 where
  -- the first sixteen bytes
  pub head : Head
  -- the parameters, six bytes each
  pub params : List ParameterRecord
  -- the ops of all statements
  pub code : List OpData
  -- the source line of each statement, four bytes each
  pub lines : List ℕ

-- the parts of a code block in the order of the image: head, parameters, ops, source lines
abbrev pub BlockRow : Type 0
BlockRow = Head × (List ParameterRecord × (List OpData × List ℕ))

-- the parts of a code block, by the row of them in the order of the image
abbrev pub parts_of_block_row : BlockRow → BlockParts
parts_of_block_row r = record {
  head = r.0;
  params = second_value r;
  code = third_value r;
  lines = behind_third r;
}

-- the parts of a code block as a row in the order of the image
abbrev pub row_of_block_parts : BlockParts → BlockRow
row_of_block_parts p = (p.head, (p.params, (p.code, p.lines)))

-- the layout of a code block as a row of its parts, from offset `start` of the image on, behind a
-- block of kind and number `before`; without code faults no fault 9, and fault 5 only for bytes
-- that begin no op
unfoldable pub block_rows :
    (with_code_faults : Bool) → (before : ℕ × ℕ) → (start : ℕ) → FieldLayout BlockRow
block_rows with_code_faults before start =
    chain_layout (head_layout before) (λ h.
    chain_layout (parameters_layout h) (λ params. code_and_lines with_code_faults start h))

-- the record of a code block's parts, without counts, code length and reserved field: the lists are
-- as long as those say
abbrev pub block_of_parts : BlockParts → BlockRecord
block_of_parts p = record {
  kind = p.head.kind;
  number = p.head.number;
  local_len = p.head.local_bytes;
  instance_len = p.head.instance_bytes;
  params = p.params;
  code = p.code;
  lines = p.lines;
}

-- the head of a code block's record: counts and code length are those of its lists, the reserved
-- field is 0
abbrev pub head_of_block : BlockRecord → Head
head_of_block b = record {
  kind = b.kind;
  parameter_count = length b.params;
  number = b.number;
  local_bytes = b.local_len;
  instance_bytes = b.instance_len;
  statement_count = length b.lines;
  reserved = 0;
  code_length = length (code_bytes b.code);
}

-- the parts of a code block, by its record
abbrev pub parts_of_block : BlockRecord → BlockParts
parts_of_block b = record {
  head = head_of_block b;
  params = b.params;
  code = b.code;
  lines = b.lines;
}

-- a code block at offset `start` of the image, as its record, behind a block of kind and number
-- `before`; no note says that it was read whole
unfoldable pub plain_block :
    (with_code_faults : Bool) → (before : ℕ × ℕ) → (start : ℕ) → FieldLayout BlockRecord
plain_block with_code_faults before start =
    layout_seen_as
    (λ r. block_of_parts (parts_of_block_row r))
    (λ b. row_of_block_parts (parts_of_block b))
    (block_rows with_code_faults before start)

-- the note of a code block that begins at offset `start` and was read whole: its code begins behind
-- a head of 16 bytes and 6 bytes for each parameter
abbrev pub whole_note : ℕ → BlockRecord → ReadingNote
whole_note start b = Whole (start + 16 + 6 * length b.params) b

-- a code block at offset `start` of the image, noted once it was read whole, so that its faults 6
-- to 8 are checked
abbrev pub code_block_at :
    (with_code_faults : Bool) → (before : ℕ × ℕ) → (start : ℕ) → FieldLayout BlockRecord
code_block_at with_code_faults before start =
    noted_layout (whole_note start) (plain_block with_code_faults before start)

-- a code block at any offset of the image, behind one of kind and number `before` (0 and 0 for
-- none)
unfoldable pub code_block_layout :
    (with_code_faults : Bool) → (before : ℕ × ℕ) → FieldLayout BlockRecord
code_block_layout with_code_faults before = located_layout (code_block_at with_code_faults before)

-- the state behind a code block, by which the next one is checked: its kind and number
abbrev pub after_block : ℕ × ℕ → BlockRecord → ℕ × ℕ
after_block before b = (b.kind, b.number)

-- the number of a data block: 1 to 2,047, and above `before`, that of the data block before it (0
-- for none), else fault 4. A data block has the fields number u16, instance u16, length u16, zero
-- u16, bytes
unfoldable pub data_number_layout : ℕ → FieldLayout ℕ
data_number_layout before = field_layout u16 (λ n. field_fault (field.DataNumber before n))

-- the FB of an instance data block: 0 for none, or the number of the FB plus 1, so at most 2,048;
-- that there is this FB isn't tested
unfoldable pub instance_field : FieldLayout ℕ
instance_field = field_layout u16 (λ n. field_fault (field.InstanceOf n))

-- the length of a data block in bytes: at most 16,384, and at most 2,097,152 together with
-- `before`, the bytes of all data blocks before it, else fault 4
unfoldable pub data_length_layout : ℕ → FieldLayout ℕ
data_length_layout before = field_layout u16 (λ n. field_fault (field.DataBytes before n))

-- the n bytes of a data block, of any values
unfoldable pub contents_layout : ℕ → FieldLayout (List ℕ)
contents_layout n = field_layout (bytes_coding n) (λ bs. None)

-- the fields of a data block of an image
pub record DataFields : Type 0 where
  -- the number of the data block
  pub number : ℕ
  -- the number of its function block plus 1; 0 where it is no instance
  pub instance : ℕ
  -- how many bytes the data block has
  pub length : ℕ
  -- two bytes, which are 0
  pub reserved : ℕ
  -- the initial contents of the data block
  pub bytes : List ℕ

-- the fields of a data block in the order of the image: number, instance, length, reserved, bytes
abbrev pub DataRow : Type 0
DataRow = ℕ × (ℕ × (ℕ × (ℕ × List ℕ)))

-- the fields of a data block, by the row of them in the order of the image
abbrev pub data_fields : DataRow → DataFields
data_fields r = record {
  number = r.0;
  instance = second_value r;
  length = third_value r;
  reserved = fourth_value r;
  bytes = behind_fourth r;
}

-- the fields of a data block as a row in the order of the image
abbrev pub data_row : DataFields → DataRow
data_row f = (f.number, (f.instance, (f.length, (f.reserved, f.bytes))))

-- the layout of a data block as a row of its fields, behind a data block of number `before.0` (0
-- for none), with `before.1` bytes in all data blocks before
unfoldable pub data_rows : ℕ × ℕ → FieldLayout DataRow
data_rows before =
    chain_layout (data_number_layout before.0) (λ number.
    chain_layout instance_field (λ instance.
    chain_layout (data_length_layout before.1) (λ n.
    chain_layout zero_u16 (λ zero. contents_layout n))))

-- the FB whose instance a data block is, by its field: 0 is no instance, and n + 1 one of FB n, so
-- that FB 0 has instances too
abbrev pub instance_of_number : ℕ → Option ℕ
instance_of_number zero = None
instance_of_number (suc n) = Some n

-- the instance field of a data block: the number of its FB plus 1, and 0 where it is no instance
abbrev pub number_of_instance : Option ℕ → ℕ
number_of_instance None = 0
number_of_instance (Some n) = suc n

-- a data block without length and reserved field: it has as many bytes as the length says
abbrev pub data_of_fields : DataFields → DataBlock
data_of_fields f = record {
  number = f.number;
  instance_of = instance_of_number f.instance;
  bytes = f.bytes;
}

-- the fields of a data block: the length is that of its bytes, the reserved field is 0
abbrev pub fields_of_data : DataBlock → DataFields
fields_of_data d = record {
  number = d.number;
  instance = number_of_instance d.instance_of;
  length = length d.bytes;
  reserved = 0;
  bytes = d.bytes;
}

-- a data block of an image, behind a data block of number `before.0` (0 for none), with `before.1`
-- bytes in all data blocks before
unfoldable pub data_block_layout : ℕ × ℕ → FieldLayout DataBlock
data_block_layout before =
    layout_seen_as
    (λ r. data_of_fields (data_fields r))
    (λ d. data_row (fields_of_data d))
    (data_rows before)

-- the state behind a data block, by which the next one is checked: its number, and the bytes of all
-- data blocks so far
abbrev pub after_data : ℕ × ℕ → DataBlock → ℕ × ℕ
after_data before d = (d.number, before.1 + length d.bytes)

-- the length of a name in bytes: 1 to 24, else fault 4. A name has the fields length u8, bytes,
-- area u8, width u8, byte u16, bit u8
unfoldable pub name_len : FieldLayout ℕ
name_len = field_layout u8 (λ n. field_fault (field.NameLength n))

-- the n bytes of a name: above those of the name `before` (empty for none), without a to z, without
-- a blank at the end, else fault 4
unfoldable pub name_bytes : List ℕ → ℕ → FieldLayout (List ℕ)
name_bytes before n = field_layout (bytes_coding n) (name_fault before)

-- the area of a name's variable: 16#81 I, 16#82 Q, 16#83 M, else fault 4
unfoldable pub name_area : FieldLayout ℕ
name_area = field_layout u8 (λ n. field_fault (field.NameArea n))

-- the bit of a name's variable: 0 to 7 where its width w is 1 (a bit), else 0
unfoldable pub name_bit : ℕ → FieldLayout ℕ
name_bit w = field_layout u8 (λ n. field_fault (field.NameBit w n))

-- the fields of a name of an image, with the place of the variable that it names
pub record NameFields : Type 0 where
  -- how many bytes the name has, 1 to 24
  pub length : ℕ
  -- the bytes of the name
  pub name : List ℕ
  -- the area of the variable: 16#81 I, 16#82 Q, 16#83 M
  pub area : ℕ
  -- the width of the variable: 1 bit, 2 byte, 3 word, 4 double word
  pub width : ℕ
  -- the byte of the area at which the variable begins
  pub byte : ℕ
  -- the bit of that byte, 0 to 7, where the width is a bit, else 0
  pub bit : ℕ

-- the fields of a name in the order of the image: length, name, area, width, byte, bit
abbrev pub NameRow : Type 0
NameRow = ℕ × (List ℕ × (ℕ × (ℕ × (ℕ × ℕ))))

-- the fields of a name, by the row of them in the order of the image
abbrev pub name_fields : NameRow → NameFields
name_fields r = record {
  length = r.0;
  name = second_value r;
  area = third_value r;
  width = fourth_value r;
  byte = fifth_value r;
  bit = behind_fifth r;
}

-- the fields of a name as a row in the order of the image
abbrev pub name_row : NameFields → NameRow
name_row f = (f.length, (f.name, (f.area, (f.width, (f.byte, f.bit)))))

-- the layout of a name as a row of its fields, behind the name `before` (empty for none)
unfoldable pub name_rows : List ℕ → FieldLayout NameRow
name_rows before =
    chain_layout name_len (λ n.
    chain_layout (name_bytes before n) (λ name.
    chain_layout name_area (λ area.
    chain_layout width_field (λ w.
    chain_layout plain_u16 (λ byte. name_bit w)))))

-- the record of a name's fields, without the length: the name has as many bytes
abbrev pub name_of_fields : NameFields → NameRecord
name_of_fields f = record {
  name = f.name;
  area = f.area;
  width = f.width;
  byte = f.byte;
  bit = f.bit;
}

-- the fields of a name's record; the length is that of the name
abbrev pub fields_of_name : NameRecord → NameFields
fields_of_name n = record {
  length = length n.name;
  name = n.name;
  area = n.area;
  width = n.width;
  byte = n.byte;
  bit = n.bit;
}

-- a name of an image and the variable that it names, as its record, behind the name `before` (empty
-- for none)
unfoldable pub name_record : List ℕ → FieldLayout NameRecord
name_record before =
    layout_seen_as
    (λ r. name_of_fields (name_fields r))
    (λ n. name_row (fields_of_name n))
    (name_rows before)

-- the state behind a name, by which the next one is checked: this name
abbrev pub after_name : List ℕ → NameRecord → List ℕ
after_name before n = n.name

-- the count of an image's data blocks: at most 256, else fault 4. The counts stand behind the total
-- length: code blocks u16, data blocks u16, names u16, zero u16
unfoldable pub data_count : FieldLayout ℕ
data_count = field_layout u16 (λ n. field_fault (field.DataBlockCount n))

-- how many records of each kind an image has, the last eight bytes of its header
pub record RecordCounts : Type 0 where
  -- how many code blocks
  pub code_blocks : ℕ
  -- how many data blocks, at most 256
  pub data_blocks : ℕ
  -- how many names of variables
  pub names : ℕ
  -- two bytes, which are 0
  pub reserved : ℕ

-- the counts of an image in their order there: code blocks, data blocks, names, reserved
abbrev pub CountRow : Type 0
CountRow = ℕ × (ℕ × (ℕ × ℕ))

-- the counts of an image, by the row of them in their order there
abbrev pub counts_of_row : CountRow → RecordCounts
counts_of_row r = record {
  code_blocks = r.0;
  data_blocks = second_value r;
  names = third_value r;
  reserved = behind_third r;
}

-- the counts of an image as a row in their order there
abbrev pub row_of_counts : RecordCounts → CountRow
row_of_counts c = (c.code_blocks, (c.data_blocks, (c.names, c.reserved)))

-- the counts of an image, the last eight bytes of its header, as a row
unfoldable pub count_rows : FieldLayout CountRow
count_rows =
    chain_layout plain_u16 (λ codes.
    chain_layout data_count (λ datas.
    chain_layout plain_u16 (λ names. zero_u16)))

-- the counts of an image, the last eight bytes of its header
unfoldable pub counts_layout : FieldLayout RecordCounts
counts_layout = layout_seen_as counts_of_row row_of_counts count_rows

-- the n code blocks of an image; without code faults no fault 9, and fault 5 only for bytes that
-- begin no op
unfoldable pub code_blocks_layout : (with_code_faults : Bool) → (n : ℕ)
    → FieldLayout (List BlockRecord)
code_blocks_layout with_code_faults n =
    list_layout (code_block_layout with_code_faults) after_block (0, 0) n

-- the n data blocks of an image; no note says that they were read
abbrev pub plain_data_blocks : ℕ → FieldLayout (List DataBlock)
plain_data_blocks n = list_layout data_block_layout after_data (0, 0) n

-- the n data blocks of an image; behind the last one it is noted that all blocks were read
unfoldable pub data_blocks_layout : ℕ → FieldLayout (List DataBlock)
data_blocks_layout n = noted_layout AllBlocks (plain_data_blocks n)

-- the n names of an image
unfoldable pub names_layout : ℕ → FieldLayout (List NameRecord)
names_layout n = list_layout name_record after_name [] n

-- the parts of an image behind the total length
pub record BodyParts : Type 0 where
  -- how many records of each kind follow
  pub counts : RecordCounts
  -- the code blocks, by kind and number
  pub code_blocks : List BlockRecord
  -- the data blocks, by number
  pub data_blocks : List DataBlock
  -- the names of variables, in the order of their bytes
  pub names : List NameRecord

-- the parts of an image behind the total length, in its order: counts, code blocks, data blocks,
-- names
abbrev pub BodyRow : Type 0
BodyRow = RecordCounts × (List BlockRecord × (List DataBlock × List NameRecord))

-- the parts of an image behind the total length, by the row of them in its order
abbrev pub parts_of_body_row : BodyRow → BodyParts
parts_of_body_row r = record {
  counts = r.0;
  code_blocks = second_value r;
  data_blocks = third_value r;
  names = behind_third r;
}

-- the parts of an image behind the total length as a row in its order
abbrev pub row_of_body_parts : BodyParts → BodyRow
row_of_body_parts p = (p.counts, (p.code_blocks, (p.data_blocks, p.names)))

-- the layout of all behind the total length as a row of its parts; without code faults no fault 9,
-- and fault 5 only for bytes that begin no op
unfoldable pub body_rows : (with_code_faults : Bool) → FieldLayout BodyRow
body_rows with_code_faults =
    chain_layout counts_layout (λ c.
    chain_layout (code_blocks_layout with_code_faults c.code_blocks) (λ blocks.
    chain_layout (data_blocks_layout c.data_blocks) (λ datas. names_layout c.names)))

-- the records of an image, without the counts: the lists are as long as these say
abbrev pub records_of_parts : BodyParts → ImageRecords
records_of_parts p = record {
  code_blocks = p.code_blocks;
  data_blocks = p.data_blocks;
  names = p.names;
}

-- the counts of an image with these records: the lengths of their lists; the reserved field is 0
abbrev pub counts_of : ImageRecords → RecordCounts
counts_of r = record {
  code_blocks = length r.code_blocks;
  data_blocks = length r.data_blocks;
  names = length r.names;
  reserved = 0;
}

-- the parts of an image behind the total length, by its records
abbrev pub parts_of_records : ImageRecords → BodyParts
parts_of_records r = record {
  counts = counts_of r;
  code_blocks = r.code_blocks;
  data_blocks = r.data_blocks;
  names = r.names;
}

-- all records of an image, with their counts before them; without code faults no fault 9, and fault
-- 5 only for bytes that begin no op
unfoldable pub records_layout : (with_code_faults : Bool) → FieldLayout ImageRecords
records_layout with_code_faults =
    layout_seen_as
    (λ r. records_of_parts (parts_of_body_row r))
    (λ r. row_of_body_parts (parts_of_records r))
    (body_rows with_code_faults)

-- the kind of a code block of an image, OB, FC or FB; a data type (UDT) in place of another kind or
-- of none
abbrev pub or_type : Option BlockKind → BlockKind
or_type (Some kind.Ob) = kind.Ob
or_type (Some kind.Fc) = kind.Fc
or_type (Some kind.Fb) = kind.Fb
or_type _ = kind.Udt

-- the kind of a code block by its number in records: 1 OB, 2 FC, 3 FB; another number is a fault,
-- and stands for a data type (UDT)
abbrev pub kind_of_number : ℕ → BlockKind
kind_of_number n = or_type (kind_of_code n)

-- an area in which a variable with a name may lie: I, Q or M; M in place of another area or of none
abbrev pub or_m : Option Area → Area
or_m (Some area.I) = area.I
or_m (Some area.Q) = area.Q
or_m _ = area.M

-- the area of a name's variable by its number in records: 16#81 I, 16#82 Q, 16#83 M; another number
-- is a fault, and stands for M
abbrev pub area_of_number : ℕ → Area
area_of_number n = or_m (area_of_code n)

-- the area of a name's variable as a number of records: 16#81 I, 16#82 Q, 16#83 M; 0, which is a
-- fault, for another area or a data block of a number other than 0
abbrev pub number_of_area : ℕ → Area → ℕ
number_of_area zero area.I = area_code area.I
number_of_area zero area.Q = area_code area.Q
number_of_area zero area.M = area_code area.M
number_of_area _ _ = 0

-- a parameter of a program by its record; the section stays a number, 1 IN, 2 OUT, 3 IN_OUT
abbrev pub param_of_record : ParameterRecord → Param
param_of_record p = record {
  section = p.section;
  width = width_of_number p.width;
  byte = p.byte;
  bit = p.bit;
}

-- the record of a parameter: its width by number, the rest as it is
abbrev pub record_of_param : Param → ParameterRecord
record_of_param p = record {
  section = p.section;
  width = width_number p.width;
  byte = p.byte;
  bit = p.bit;
}

-- a code block by its record; ops and lines are the same in both
abbrev pub block_of_record : BlockRecord → CodeBlock
block_of_record b = record {
  id = record { kind = kind_of_number b.kind; number = b.number };
  local_len = b.local_len;
  instance_len = b.instance_len;
  params = map param_of_record b.params;
  code = b.code;
  lines = b.lines;
}

-- the record of a code block: its kind and the widths of its parameters by numbers
abbrev pub record_of_block : CodeBlock → BlockRecord
record_of_block b = record {
  kind = kind_number b.id.kind;
  number = b.id.number;
  local_len = b.local_len;
  instance_len = b.instance_len;
  params = map record_of_param b.params;
  code = b.code;
  lines = b.lines;
}

-- a symbol by its record; the variable lies in no data block, so its place has number 0
abbrev pub entry_of_name : NameRecord → NameEntry
entry_of_name n = record {
  name = n.name;
  place = record { area = area_of_number n.area; number = 0; byte = n.byte; bit = n.bit };
  width = width_of_number n.width;
}

-- the record of a symbol; where its place isn't in I, Q or M its area is 0, which is fault 4
abbrev pub name_of_entry : NameEntry → NameRecord
name_of_entry e = record {
  name = e.name;
  area = number_of_area e.place.number e.place.area;
  width = width_number e.width;
  byte = e.place.byte;
  bit = e.place.bit;
}

-- the program of records; data blocks are the same in both
abbrev pub program_of_records : ImageRecords → Program
program_of_records r = record {
  code_blocks = map block_of_record r.code_blocks;
  data_blocks = r.data_blocks;
  names = map entry_of_name r.names;
}

-- the records of a program; data blocks are the same in both
abbrev pub records_of : Program → ImageRecords
records_of p = record {
  code_blocks = map record_of_block p.code_blocks;
  data_blocks = p.data_blocks;
  names = map name_of_entry p.names;
}

-- a program as the bytes behind the total length: the counts, then all records; without code faults
-- no fault 9, and fault 5 only for bytes that begin no op
unfoldable pub body_layout : (with_code_faults : Bool) → FieldLayout Program
body_layout with_code_faults =
    layout_seen_as program_of_records records_of (records_layout with_code_faults)

-- the magic of an image, the bytes `S7FB`, else fault 1. The front of an image has the fields magic
-- u32, version u16, profile u16, total length u32
unfoldable pub magic_field : FieldLayout ℕ
magic_field = field_layout u32 (λ n. field_fault (field.Magic n))

-- the version of an image: 1 or 2, else fault 2
unfoldable pub version_field : FieldLayout ℕ
version_field = field_layout u16 (λ n. field_fault (field.Version n))

-- the profile of an image: in version 2 1 for Small or 2 for Large, in version 1 0, else fault 4
unfoldable pub profile_field : ℕ → FieldLayout ℕ
profile_field version = field_layout u16 (λ n. field_fault (field.Profile version n))

-- the front of an image: the fields of its header up to the total length, twelve bytes
pub record Front : Type 0 where
  -- the bytes `S7FB` as a number, else fault 1
  pub magic : ℕ
  -- the version of the image: 1 or 2; another number is fault 2
  pub version : ℕ
  -- the profile with which the image is run: in version 2 1 for Small or 2 for Large, in version 1
  -- 0
  pub profile : ℕ
  -- how many bytes the whole image has
  pub total_length : ℕ

-- the fields of an image's front in their order there: magic, version, profile, total length
abbrev pub FrontRow : Type 0
FrontRow = ℕ × (ℕ × (ℕ × ℕ))

-- the front of an image, by the row of its fields in their order there
abbrev pub front_of_row : FrontRow → Front
front_of_row r = record {
  magic = r.0;
  version = second_value r;
  profile = third_value r;
  total_length = behind_third r;
}

-- the front of an image as a row of its fields in their order there
abbrev pub row_of_front : Front → FrontRow
row_of_front f = (f.magic, (f.version, (f.profile, f.total_length)))

-- the first twelve bytes of an image as a row of fields; whether the total length is right is
-- tested by `read_cut_off`
unfoldable pub front_rows : FieldLayout FrontRow
front_rows =
    chain_layout magic_field (λ magic.
    chain_layout version_field (λ version.
    chain_layout (profile_field version) (λ profile. plain_u32)))

-- the front of an image, its first twelve bytes; whether the total length is right is tested by
-- `read_cut_off`
unfoldable pub front_layout : FieldLayout Front
front_layout = layout_seen_as front_of_row row_of_front front_rows

-- how many bytes the front of an image has: 4 magic, 2 version, 2 profile, 4 total length
abbrev pub front_size : ℕ
front_size = 12

-- the front of an image of so many bytes: the magic `S7FB`, version and profile, the total length
abbrev pub front_of : Stamp → ℕ → Front
front_of stamp total = record {
  magic = 0x53374642;
  version = version_number stamp;
  profile = profile_field_of stamp;
  total_length = total;
}

-- the version and profile that the front of an image says
abbrev pub stamp_in : Front → Stamp
stamp_in f = stamp_of f.version f.profile

-- the image of a program, as bytes: the front, with the length of them all, then counts and records
unfoldable pub image : Stamp → Program → List ℕ
image stamp p =
    front_layout.spell (front_of stamp (front_size + length ((body_layout false).spell p)))
    ++ (body_layout false).spell p

-- A PROGRAM: every number fits its field, nothing in it is fault 4, and its image has at most
-- 8,388,608 bytes
pub record IsProgram (p : Program) : Type 0 where
  -- every number fits its field, and no field has a fault 4
  pub good : (body_layout false).good p ≡ true
  -- the image has at most 8,388,608 bytes
  pub short : front_size + length ((body_layout false).spell p) ≤ 8388608

-- no field of a program has a fault 4, 5 (code) or 9 (statement count and lines)
abbrev pub IsRight : Program → Type 0
IsRight p = (body_layout true).good p ≡ true

-- what is found once the last record was read; fault 10 where bytes stand behind it
abbrev pub end_layout : Stamp → Program → Cursor → ReadResult (Stamp × Program)
end_layout stamp p end = record {
  notes = if length end.rest == 0 then [] else Faulty end.at 10 ∷ [];
  found = Some ((stamp, p), end);
}

-- the body of an image read from `size` bytes, all behind the total length; fault 10 where bytes
-- stand behind its last record
abbrev pub read_body :
    (with_code_faults : Bool) → Stamp → (size : ℕ) → Cursor → ReadResult (Stamp × Program)
read_body with_code_faults stamp size cur =
    bind_reading
    ((body_layout with_code_faults).read (record { at = cur.at; rest = take size cur.rest }))
    (end_layout stamp)

-- an image of `size` bytes read from behind its front, by the `total` length that this says. 3: a
-- total length above the bytes there, or below 20 (header). 4: one above 8,388,608. Both end the
-- reading, at offset 8, the total length. 10: bytes behind the total length, which are cut off
abbrev pub read_cut_off :
    (with_code_faults : Bool) → Stamp → (size total : ℕ) → Cursor → ReadResult (Stamp × Program)
read_cut_off with_code_faults stamp size total cur =
    if nat_lt total 20 || nat_lt size total then reading_ended 8 3
    else if nat_lt 8388608 total then reading_ended 8 4
    else record {
      notes = (if size == total then [] else Faulty total 10 ∷ [])
          ++ (read_body with_code_faults stamp (total - front_size) cur).notes;
      found = (read_body with_code_faults stamp (total - front_size) cur).found;
    }

-- bytes read as an image: the front (faults 1, 2 and 4 don't end it), then by its total length;
-- without code faults no fault 9, and fault 5 only for bytes that begin no op
unfoldable pub read_by : (with_code_faults : Bool) → List ℕ → ReadResult (Stamp × Program)
read_by with_code_faults text =
    bind_reading
    (front_layout.read (record { at = 0; rest = text }))
    (λ f cur. read_cut_off with_code_faults (stamp_in f) (length text) f.total_length cur)

-- bytes read as an image, with all faults of its fields, and of code and lines (5 and 9)
abbrev pub read_image : List ℕ → ReadResult (Stamp × Program)
read_image text = read_by true text
