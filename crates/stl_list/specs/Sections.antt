-- Declarations and sections.
use Rattle.std.specs.Prelude.{ℕ, ◌+◌, ◌-◌, ◌*◌, ◌/◌, pos, nat_eq, ◌==◌, Bool, not, ◌&&◌, List, [], ◌∷◌, ◌++◌, codes, length, Option, Some, None, if◌then◌else◌, slice_get}
use Rattle.std.specs.List.{flat_map}
use Rattle.plc_base.specs.Kinds.{is_function_block}
use Rattle.plc_base.specs.Widths.{bit_count}
use Rattle.flat_code.specs.Programs.{CodeBlock}
use Rattle.flat_code.specs.declared.programs.Param.{Param}
use Rattle.stl_ast.specs.Blocks.{part_rank}
use Rattle.stl_ast.specs.declared.blocks.Part.{Part}
use Rattle.stl_ast.specs.declared.blocks.PartKind.{PartKind}
use Rattle.stl_ast.specs.declared.blocks.PartKind.TheVariants as part
use Rattle.stl_ast.specs.declared.declarations.Declaration.{Declaration}
use Rattle.stl_ast.specs.declared.declarations.ElementType.TheVariants as element
use Rattle.stl_ast.specs.declared.declarations.Init.{Init}
use Rattle.stl_ast.specs.declared.declarations.Simple.TheVariants as simple
use Rattle.stl_types.specs.declared.parameters.Formal.{Formal}
use Rattle.stl_list.specs.Parameters.{is_return}

-- the declaration of a parameter on a line, `name : type;`
abbrev pub plain_declaration : (line : ℕ) → Formal → Declaration
plain_declaration line f = record {
  line = line;
  name = f.name;
  level = 0;
  of = record { arrays = []; of = element.Plain f.kind };
  init = [];
}

-- the declaration of so many bytes, `name : ARRAY [0..count - 1] OF BYTE := values;`
abbrev pub byte_array : (line : ℕ) → (name : List ℕ) → (count : ℕ) → List Init → Declaration
byte_array line name count values = record {
  line = line;
  name = name;
  level = 0;
  of = record {
    arrays = record { low = pos 0; high = pos (count - 1) } ∷ [];
    of = element.Plain simple.Byte;
  };
  init = values;
}

-- the declaration of so many bytes with these initial values; none where there are no bytes
abbrev pub bytes_here : (line : ℕ) → (name : List ℕ) → (count : ℕ) → List Init → List Declaration
bytes_here line name count values =
    if count == 0 then [] else byte_array line name count values ∷ []

-- whether a parameter is declared in a section: in its own, but a return value in the head
abbrev pub is_declared_in : PartKind → Formal → Bool
is_declared_in kind f = nat_eq (part_rank f.section) (part_rank kind) && not (is_return f)

-- the declaration of a parameter in a section, as a list of one; none where it isn't declared there
abbrev pub declared_here : (line : ℕ) → PartKind → Formal → List Declaration
declared_here line kind f =
    if is_declared_in kind f then plain_declaration line f ∷ [] else []

-- the declarations of those of the parameters that are declared in this section
abbrev pub declarations_of_section : (line : ℕ) → List Formal → PartKind → List Declaration
declarations_of_section line formals kind = flat_map (declared_here line kind) formals

-- a section with these declarations, as a list of one; none where there are no declarations
abbrev pub section_part : (line : ℕ) → PartKind → List Declaration → List Part
section_part line kind items =
    if length items == 0 then [] else record { line = line; kind = kind; items = items } ∷ []

-- the first even byte at or past the end of a parameter
abbrev pub even_end : Param → ℕ
even_end p = (8 * p.byte + p.bit + bit_count p.width + 15) / 16 * 2

-- where VAR begins: behind the last parameter, or at 0
abbrev pub static_start : List Param → ℕ
static_start params = end_or_0 (slice_get params (length params - 1))
  where
    -- the even end of a parameter; 0 without one
    end_or_0 : Option Param → ℕ
    end_or_0 None = 0
    end_or_0 (Some p) = even_end p

-- how many bytes VAR has, up to the end of an instance
abbrev pub static_len : (instance_len : ℕ) → List Param → ℕ
static_len instance_len params = instance_len - static_start params

-- the name of the bytes in VAR
abbrev pub static_name : List ℕ
static_name = codes "s"

-- the name of the bytes in VAR_TEMP
abbrev pub temporary_name : List ℕ
temporary_name = codes "t"

-- the name of the bytes in a data block of its own
abbrev pub data_name : List ℕ
data_name = codes "x"

-- how many bytes VAR has: a function block alone has it
abbrev pub static_bytes : CodeBlock → ℕ
static_bytes b = if is_function_block b.id.kind then static_len b.instance_len b.params else 0

-- the sections of a code block with these parameters
unfoldable pub section_parts : (line : ℕ) → List Formal → CodeBlock → List Part
section_parts line formals b =
    section_part line part.Input (declarations_of_section line formals part.Input)
    ++ section_part line part.Output (declarations_of_section line formals part.Output)
    ++ section_part line part.InOut (declarations_of_section line formals part.InOut)
    ++ section_part line part.Static (bytes_here line static_name (static_bytes b) [])
    ++ section_part line part.Temp (bytes_here line temporary_name b.local_len [])
