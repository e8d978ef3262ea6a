-- Declarations.
use Rattle.std.specs.Prelude.{ℕ, if◌then◌else◌, List, [], ◌∷◌, Option, Some, None}
use Rattle.std.specs.Option.{option_map, option_and_then}
use Rattle.stl_lexer.specs.declared.kinds.Token.{Token}
use Rattle.stl_lexer.specs.declared.kinds.TokenKind.TheVariants as kind
use Rattle.stl_lexer.specs.Tokens.{text_of}
use Rattle.stl_ast.specs.declared.declarations.Bounds.{Bounds}
use Rattle.stl_ast.specs.declared.declarations.Declaration.{Declaration}
use Rattle.stl_ast.specs.declared.declarations.ElementType.{ElementType}
use Rattle.stl_ast.specs.declared.declarations.ElementType.TheVariants as element
use Rattle.stl_ast.specs.declared.declarations.Init.{Init}
use Rattle.stl_lexer.specs.declared.marks.Mark.TheVariants as mark
use Rattle.stl_parser.specs.declared.keywords.ClauseWord.TheVariants as key
use Rattle.stl_parser.specs.Terminals.{has_kind, is_mark, is_key}
use Rattle.stl_parser.specs.Types.{arrays_at, element_at, init_of}

-- the tokens behind an attribute, where one stands at the front
unfoldable pub after_attribute : List Token → List Token
after_attribute [] = []
after_attribute (t ∷ rest) = if has_kind t kind.Attribute then rest else t ∷ rest

-- the tokens behind a `:`
unfoldable pub after_colon : List ℕ → List Token → Option (List Token)
after_colon source [] = None
after_colon source (t ∷ rest) = if is_mark source t mark.Colon then Some rest else None

-- a declared name, `word [attribute] :`, and the tokens of its type
unfoldable pub declared_name_at : List ℕ → List Token → Option (Token × List Token)
declared_name_at source [] = None
declared_name_at source (w ∷ rest) =
    if has_kind w kind.Word
    then option_map (λ behind. (w, behind)) (after_colon source (after_attribute rest)) else None

-- the tokens behind STRUCT
unfoldable pub after_struct : List ℕ → List Token → Option (List Token)
after_struct source [] = None
after_struct source (t ∷ rest) = if is_key source t key.Struct then Some rest else None

-- a declaration with this type and these initial values
abbrev pub declaration_from_parts : List ℕ → ℕ → Token → List Bounds → ElementType → List Init
    → Declaration
declaration_from_parts source level w arrays e init =
    record {
      line = w.line;
      name = text_of source w;
      level = level;
      of = record { arrays = arrays; of = e };
      init = init;
    }

-- a declaration that opens a structure, up to STRUCT, and what follows
unfoldable pub structure_at : List ℕ → ℕ → List Token → Option (Declaration × List Token)
structure_at source level tokens =
    option_and_then (λ d. option_and_then (λ a. option_map
    (λ rest. (declaration_from_parts source level d.0 a.0 element.Structure [], rest))
    (after_struct source a.1))
    (arrays_at source d.1)) (declared_name_at source tokens)

-- the initial values behind a type: none, or `:=` and the values
unfoldable pub init_behind : List ℕ → List Bounds → ElementType → List Token → Option (List Init)
init_behind source arrays e [] = Some []
init_behind source arrays e (t ∷ rest) =
    if is_mark source t mark.Assign then init_of source arrays e rest else None

-- a declaration that is all of the tokens
unfoldable pub declaration_of : List ℕ → ℕ → List Token → Option Declaration
declaration_of source level tokens =
    option_and_then (λ d. option_and_then (λ a. option_and_then (λ e. option_map
    (λ init. declaration_from_parts source level d.0 a.0 e.0 init) (init_behind source a.0 e.0 e.1))
    (element_at source a.1)) (arrays_at source d.1)) (declared_name_at source tokens)
