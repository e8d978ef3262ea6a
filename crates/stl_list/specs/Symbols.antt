-- The symbols file of a listing.
use Rattle.std.specs.Prelude.{ℕ, List, [], ◌∷◌}
use Rattle.std.specs.List.{flat_map}
use Rattle.csv.specs.Writing.{default_writer, row_text, with_style}
use Rattle.csv.specs.declared.writer.QuoteStyle.TheVariants as style
use Rattle.csv.specs.declared.writer.WriterBuilder.{WriterBuilder}
use Rattle.flat_code.specs.Programs.{NameEntry}
use Rattle.stl_print.specs.Operands.{address_pieces}
use Rattle.stl_print.specs.Pieces.{with_pieces}
use Rattle.stl_print.specs.Words.{type_word}
use Rattle.stl_print.specs.declared.gaps.Gap.TheVariants as gap
use Rattle.stl_list.specs.Operands.{read_letters}
use Rattle.stl_list.specs.Parameters.{kind_of_width}

-- the writer of a symbols file: each field is quoted
abbrev pub symbols_writer : WriterBuilder
symbols_writer = with_style default_writer style.Always

-- the address of a name, `MW 2` or `M 0.3`
abbrev pub address_text : NameEntry → List ℕ
address_text e =
    with_pieces []
    (address_pieces gap.Nothing (read_letters e.place.area) e.width e.place.byte e.place.bit)

-- the fields of a name in the symbols file: the name, its address, its type, and an empty comment
abbrev pub fields_of : NameEntry → List (List ℕ)
fields_of e = e.name ∷ address_text e ∷ type_word (kind_of_width e.width) ∷ [] ∷ []

-- the line of a name in the symbols file
abbrev pub name_text : NameEntry → List ℕ
name_text e = row_text symbols_writer (fields_of e)

-- the text of the symbols file of these names
unfoldable pub listed_names : List NameEntry → List ℕ
listed_names names = flat_map name_text names
