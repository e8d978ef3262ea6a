-- The data blocks of a listing.
use Rattle.std.specs.Prelude.{ℕ, List, [], length, map, Option, Some, None, find}
use Rattle.plc_base.specs.Kinds.{is_same_block}
use Rattle.plc_base.specs.declared.blocks.BlockId.{BlockId}
use Rattle.plc_base.specs.declared.blocks.BlockKind.TheVariants as kinds
use Rattle.flat_code.specs.Programs.{DataBlock}
use Rattle.stl_ast.specs.declared.blocks.Block.{Block}
use Rattle.stl_ast.specs.declared.blocks.Setting.{Setting}
use Rattle.stl_ast.specs.declared.declarations.Declaration.{Declaration}
use Rattle.stl_ast.specs.declared.declarations.ElementType.TheVariants as element
use Rattle.stl_ast.specs.declared.declarations.TypeTree.{TypeTree}
use Rattle.stl_ast.specs.declared.names.BlockName.{BlockName}
use Rattle.stl_ast.specs.declared.names.BlockName.TheVariants as block
use Rattle.stl_parser.specs.Operands.{data_block_name}
use Rattle.stl_list.specs.Sections.{bytes_here, data_name}
use Rattle.stl_list.specs.Initial.{settings_of, values_of}
use Rattle.stl_list.specs.Signatures.{Signature}

-- a data block on a line: a structure with its components, or an instance with its settings
abbrev pub data_block_tree : (line number : ℕ) → Option TypeTree → List Declaration
    → Option BlockName → List Setting → Block
data_block_tree line number shape components instance_of settings = record {
  line = line;
  end_line = line;
  kind = kinds.Db;
  name = data_block_name number;
  result = None;
  parts = [];
  shape = shape;
  components = components;
  instance_of = instance_of;
  settings = settings;
  body = [];
}

-- the type STRUCT of a data block of its own
abbrev pub structure_type : TypeTree
structure_type = record { arrays = []; of = element.Structure }

-- the function block of a number
abbrev pub function_block : ℕ → BlockId
function_block number = record { kind = kinds.Fb; number = number }

-- the settings of an instance with these bytes, by the signature of its function block; none where
-- there is no such block (None)
abbrev pub known_settings : (line : ℕ) → (bytes : List ℕ) → Option Signature → List Setting
known_settings line bytes None = []
known_settings line bytes (Some s) = settings_of line bytes s

-- the signature of the function block of a number
abbrev pub instance_signature : List Signature → ℕ → Option Signature
instance_signature signatures number =
    find (λ s. is_same_block s.id (function_block number)) signatures

-- a data block on a line with these bytes: one of its own, or an instance of the function block of
-- a number
abbrev pub listed_data : List Signature → (line number : ℕ) → (bytes : List ℕ) → Option ℕ → Block
listed_data signatures line number bytes None =
    data_block_tree line number (Some structure_type)
    (bytes_here line data_name (length bytes) (values_of bytes)) None []
listed_data signatures line number bytes (Some of) =
    data_block_tree line number None [] (Some (block.Number (function_block of)))
    (known_settings line bytes (instance_signature signatures of))

-- the data blocks of a listing, which all stand on one line
abbrev pub listed_data_blocks : List Signature → (line : ℕ) → List DataBlock → List Block
listed_data_blocks signatures line ds =
    map (λ d. listed_data signatures line d.number d.bytes d.instance_of) ds
