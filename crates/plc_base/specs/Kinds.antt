-- The kinds of blocks: what each is, and their numbers.
use Rattle.std.specs.Prelude.{ℕ, nat_eq, Bool, true, false, ◌&&◌, ◌||◌}
use Rattle.plc_base.specs.declared.blocks.BlockId.{BlockId}
use Rattle.plc_base.specs.declared.blocks.BlockKind.{BlockKind}
use Rattle.plc_base.specs.declared.blocks.BlockKind.TheVariants as kind

-- whether a kind is that of code blocks: OB, FC or FB
abbrev pub is_code : BlockKind → Bool
is_code kind.Ob = true
is_code kind.Fc = true
is_code kind.Fb = true
is_code _ = false

-- whether a kind is that of functions (FC)
abbrev pub is_function : BlockKind → Bool
is_function kind.Fc = true
is_function _ = false

-- whether a kind is that of organization blocks (OB)
abbrev pub is_organization_block : BlockKind → Bool
is_organization_block kind.Ob = true
is_organization_block _ = false

-- whether a kind is that of function blocks (FB)
abbrev pub is_function_block : BlockKind → Bool
is_function_block kind.Fb = true
is_function_block _ = false

-- whether a kind is that of data blocks (DB)
abbrev pub is_data_block : BlockKind → Bool
is_data_block kind.Db = true
is_data_block _ = false

-- whether a kind is that of user-defined data types (UDT)
abbrev pub is_data_type : BlockKind → Bool
is_data_type kind.Udt = true
is_data_type _ = false

-- whether a kind is that of system functions (SFC)
abbrev pub is_system_function : BlockKind → Bool
is_system_function kind.Sfc = true
is_system_function _ = false

-- whether blocks of a kind can be called: FC, FB and SFC
abbrev pub is_callable : BlockKind → Bool
is_callable k = is_function k || is_function_block k || is_system_function k

-- whether two kinds of blocks are the same
abbrev pub is_same_kind : BlockKind → BlockKind → Bool
is_same_kind kind.Ob = is_organization_block
is_same_kind kind.Fc = is_function
is_same_kind kind.Fb = is_function_block
is_same_kind kind.Db = is_data_block
is_same_kind kind.Sfc = is_system_function
is_same_kind kind.Udt = is_data_type

-- whether two blocks are the same, by kind and number
abbrev pub is_same_block : BlockId → BlockId → Bool
is_same_block a b = is_same_kind a.kind b.kind && nat_eq a.number b.number

-- the number of a kind of code in images and in start information: 1 OB, 2 FC, 3 FB, and 5 SFC, a
-- kind of calls alone; 0 for DB and UDT, which have no code
abbrev pub kind_number : BlockKind → ℕ
kind_number kind.Ob = 1
kind_number kind.Fc = 2
kind_number kind.Fb = 3
kind_number kind.Sfc = 5
kind_number _ = 0

-- the rank by which kinds of blocks are sorted, 0 to 5
abbrev pub kind_order : BlockKind → ℕ
kind_order kind.Ob = 0
kind_order kind.Fc = 1
kind_order kind.Fb = 2
kind_order kind.Db = 3
kind_order kind.Sfc = 4
kind_order kind.Udt = 5
