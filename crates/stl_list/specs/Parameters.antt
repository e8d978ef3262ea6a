-- The parameters of a code block as a source declares them: their names, sections and types.
use Rattle.std.specs.Prelude.{ℕ, ◌==◌, Bool, List, ◌++◌, codes, decimal, if◌then◌else◌}
use Rattle.std.specs.Str.{bytes_eq}
use Rattle.plc_base.specs.declared.places.Width.{Width}
use Rattle.plc_base.specs.declared.places.Width.TheVariants as width
use Rattle.flat_code.specs.Records.{section_in, section_out}
use Rattle.stl_ast.specs.declared.blocks.PartKind.{PartKind}
use Rattle.stl_ast.specs.declared.blocks.PartKind.TheVariants as part
use Rattle.stl_ast.specs.declared.declarations.Simple.{Simple}
use Rattle.stl_ast.specs.declared.declarations.Simple.TheVariants as simple
use Rattle.stl_types.specs.declared.parameters.Formal.{Formal}

-- `p` and the index: the name of a parameter that isn't the return value
abbrev pub parameter_name : ℕ → List ℕ
parameter_name index = codes "p" ++ decimal index

-- the name of the return value
abbrev pub return_name : List ℕ
return_name = codes "RET_VAL"

-- whether a parameter is the return value of its function: no other has its name
abbrev pub is_return : Formal → Bool
is_return f = bytes_eq f.name return_name

-- the type that a width has by itself
abbrev pub kind_of_width : Width → Simple
kind_of_width width.Bit = simple.Bool
kind_of_width width.Byte = simple.Byte
kind_of_width width.Word = simple.Word
kind_of_width width.Dword = simple.Dword

-- the section by its number in an image: 1 IN, 2 OUT, 3 IN_OUT
abbrev pub section_of : ℕ → PartKind
section_of section =
    if section == section_in then part.Input
    else if section == section_out then part.Output
    else part.InOut

-- the name of a parameter of an index, or of the return value; in a function an OUT behind an
-- IN_OUT is the return value, since the others stand by their sections
abbrev pub name_of : (returns : Bool) → (index : ℕ) → List ℕ
name_of returns index = if returns then return_name else parameter_name index
