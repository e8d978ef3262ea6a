-- The order of the records of an image.
use Rattle.std.specs.Prelude.{nat_eq, nat_lt, Bool, ◌&&◌, ◌||◌, List, [], ◌∷◌, if◌then◌else◌}
use Rattle.plc_base.specs.Kinds.{kind_number}
use Rattle.plc_base.specs.declared.blocks.BlockId.{BlockId}
use Rattle.flat_code.specs.Faults.{is_earlier_name}
use Rattle.flat_code.specs.Programs.{CodeBlock, DataBlock, NameEntry}
use Rattle.stl_codegen.specs.CompiledBlock.{StatedBlock}

-- a block's kind and number stand before another's: by the number of the kind, then by its own
abbrev pub is_id_before : BlockId → BlockId → Bool
is_id_before a b =
    nat_lt (kind_number a.kind) (kind_number b.kind)
    || nat_eq (kind_number a.kind) (kind_number b.kind) && nat_lt a.number b.number

-- a code block stands before another by kind and number, before their statements are ops
abbrev pub is_code_before : StatedBlock → StatedBlock → Bool
is_code_before a b = is_id_before a.id b.id

-- a code block stands before another by kind and number, where their statements are ops
abbrev pub is_block_before : CodeBlock → CodeBlock → Bool
is_block_before a b = is_id_before a.id b.id

-- a data block stands before another by its number
abbrev pub is_data_before : DataBlock → DataBlock → Bool
is_data_before a b = nat_lt a.number b.number

-- a name stands before another by its bytes, and before those that it begins
abbrev pub is_entry_before : NameEntry → NameEntry → Bool
is_entry_before a b = is_earlier_name a.name b.name

-- a list in order with one more record, behind those that come before it
abbrev pub sorted_insertion : {A : Type 0} → (A → A → Bool) → A → List A → List A
sorted_insertion before x [] = x ∷ []
sorted_insertion before x (y ∷ ys) =
    if before y x then y ∷ sorted_insertion before x ys else x ∷ y ∷ ys

-- the records in order; two that are alike stay as they stood
unfoldable pub sorted_list : {A : Type 0} → (A → A → Bool) → List A → List A
sorted_list before [] = []
sorted_list before (x ∷ xs) = sorted_insertion before x (sorted_list before xs)
