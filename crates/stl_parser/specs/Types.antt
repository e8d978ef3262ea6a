-- Types and initial values.
use Rattle.std.specs.Prelude.{ℕ, ◌&&◌, if◌then◌else◌, List, [], ◌∷◌, length, Option, Some, None, ℤ}
use Rattle.std.specs.Option.{option_map, option_or, option_and_then}
use Rattle.plc_base.specs.declared.blocks.BlockId.{BlockId}
use Rattle.plc_base.specs.declared.blocks.BlockKind.{BlockKind}
use Rattle.plc_base.specs.declared.blocks.BlockKind.TheVariants as kinds
use Rattle.stl_lexer.specs.declared.kinds.Token.{Token}
use Rattle.stl_lexer.specs.declared.kinds.TokenKind.TheVariants as kind
use Rattle.stl_lexer.specs.Tokens.{text_of}
use Rattle.stl_ast.specs.declared.declarations.Bounds.{Bounds}
use Rattle.stl_ast.specs.declared.declarations.ElementType.{ElementType}
use Rattle.stl_ast.specs.declared.declarations.ElementType.TheVariants as element
use Rattle.stl_ast.specs.declared.declarations.Init.{Init}
use Rattle.stl_ast.specs.declared.literals.Literal.{Literal}
use Rattle.stl_ast.specs.declared.names.BlockName.{BlockName}
use Rattle.stl_ast.specs.declared.names.BlockName.TheVariants as block
use Rattle.stl_lexer.specs.declared.marks.Mark.TheVariants as mark
use Rattle.stl_parser.specs.declared.keywords.ClauseWord.TheVariants as key
use Rattle.stl_parser.specs.Terminals.{has_kind, is_mark, is_key}
use Rattle.stl_parser.specs.Tables.{look_up, simple_types}
use Rattle.stl_parser.specs.Numbers.{number_of_token, int_at}
use Rattle.stl_parser.specs.Parts.{parts_from, complete_reading}
use Rattle.stl_parser.specs.Literals.{literal_at, literal_of}
use Rattle.stl_parser.specs.Addresses.{block_at}

-- an array with these bounds, where `] OF` stands at the front, and what follows
unfoldable pub array_end : List ℕ → ℤ → ℤ → List Token → Option (Bounds × List Token)
array_end source low high (close ∷ of_ ∷ rest) =
    if is_mark source close mark.CloseBracket && is_key source of_ key.Of
    then Some (record { low = low; high = high }, rest) else None
array_end source low high _ = None

-- an array with this lower bound, read from `.. high ] OF`, and what follows
unfoldable pub array_high : List ℕ → ℤ → List Token → Option (Bounds × List Token)
array_high source low [] = None
array_high source low (dots ∷ rest) =
    if is_mark source dots mark.DotDot
    then option_and_then (λ r. array_end source low r.0 r.1) (int_at source rest) else None

-- `ARRAY [ low .. high ] OF`, and what follows
unfoldable pub array_at : List ℕ → List Token → Option (Bounds × List Token)
array_at source (array ∷ open_ ∷ rest) =
    if is_key source array key.Array && is_mark source open_ mark.OpenBracket
    then option_and_then (λ r. array_high source r.0 r.1) (int_at source rest)
    else None
array_at source _ = None

-- the tokens as they stand, where no array was found at their front, and else None
abbrev pub no_array : Option (Bounds × List Token) → List Token → Option (List Token)
no_array None tokens = Some tokens
no_array (Some found) tokens = None

-- the arrays of a type end where no further one stands
unfoldable pub arrays_end : List ℕ → List Token → Option (List Token)
arrays_end source tokens = no_array (array_at source tokens) tokens

-- the arrays of a type, the outermost first, and what follows
unfoldable pub arrays_at : List ℕ → List Token → Option (List Bounds × List Token)
arrays_at source tokens = parts_from (arrays_end source) (array_at source) [] (length tokens) tokens

-- UDT and its number as the name of a data type; a block of another kind is none
abbrev pub udt_name_of_id : BlockId → BlockKind → Option BlockName
udt_name_of_id id kinds.Udt = Some (block.Number id)
udt_name_of_id id _ = None

-- the name of a user-defined data type: UDT and its number, or a quoted name
unfoldable pub udt_of : BlockName → Option BlockName
udt_of (block.Number id) = udt_name_of_id id id.kind
udt_of (block.Quoted name) = Some (block.Quoted name)

-- an elementary type or DATE_AND_TIME, and what follows
unfoldable pub simple_at : List ℕ → Token → List Token → Option (ElementType × List Token)
simple_at source t rest =
    if has_kind t kind.Word
    then (if is_key source t key.DateAndTime then Some (element.DateAndTime, rest)
    else option_map (λ k. (element.Plain k, rest)) (look_up simple_types (text_of source t)))
    else None

-- a user-defined data type, and what follows
unfoldable pub udt_at : List ℕ → List Token → Option (ElementType × List Token)
udt_at source tokens =
    option_and_then (λ r. option_map (λ name. (element.Udt name, r.1)) (udt_of r.0))
    (block_at source tokens)

-- an element type other than a structure, and what follows
unfoldable pub element_at : List ℕ → List Token → Option (ElementType × List Token)
element_at source [] = None
element_at source (t ∷ rest) = option_or (simple_at source t rest) (udt_at source (t ∷ rest))

-- the initial value `n (value)`, where its `)` stands at the front, and what follows
unfoldable pub counted_init_end : List ℕ → ℕ → Literal → List Token → Option (Init × List Token)
counted_init_end source count value [] = None
counted_init_end source count value (t ∷ rest) =
    if is_mark source t mark.CloseParen
    then Some (record { count = Some count; value = value }, rest) else None

-- the initial value `n (value)` at the front, and what follows
unfoldable pub counted_init_at : List ℕ → List Token → Option (Init × List Token)
counted_init_at source (n ∷ open_ ∷ rest) =
    if is_mark source open_ mark.OpenParen
    then option_and_then
    (λ count. option_and_then (λ r. counted_init_end source count r.0 r.1) (literal_at source rest))
    (number_of_token source n)
    else None
counted_init_at source _ = None

-- an initial value, `n (value)` or a value, and what follows
unfoldable pub init_at : List ℕ → List Token → Option (Init × List Token)
init_at source tokens =
    option_or (counted_init_at source tokens)
    (option_map (λ r. (record { count = None; value = r.0 }, r.1)) (literal_at source tokens))

-- a further initial value, behind its comma
unfoldable pub next_init : List ℕ → List Token → Option (Init × List Token)
next_init source [] = None
next_init source (t ∷ rest) = if is_mark source t mark.Comma then init_at source rest else None

-- the end of a part: no token is left
unfoldable pub end_of_tokens : List Token → Option (List Token)
end_of_tokens [] = Some []
end_of_tokens (t ∷ rest) = None

-- a list of initial values that is all of the tokens
unfoldable pub init_list : List ℕ → List Token → Option (List Init)
init_list source tokens =
    option_and_then
    (λ r. complete_reading
    (parts_from end_of_tokens (next_init source) (r.0 ∷ []) (length r.1) r.1))
    (init_at source tokens)

-- the one initial value that is all of the tokens
unfoldable pub single_init : List ℕ → List Token → Option (List Init)
single_init source tokens =
    option_map (λ value. record { count = None; value = value } ∷ []) (literal_of source tokens)

-- an array of elementary type has a list of initial values, and every other type one value
unfoldable pub init_of : List ℕ → List Bounds → ElementType → List Token → Option (List Init)
init_of source (b ∷ []) (element.Plain k) tokens = init_list source tokens
init_of source _ _ tokens = single_init source tokens
