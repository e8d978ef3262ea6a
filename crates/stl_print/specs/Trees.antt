-- A tree as text.
use Rattle.std.specs.Prelude.{ℕ, ◌-◌, if◌then◌else◌, List, [], ◌∷◌, ◌++◌, map, replicate, Option, Some, None}
use Rattle.std.specs.List.{flat_map}
use Rattle.plc_base.specs.Kinds.{is_data_type}
use Rattle.plc_base.specs.declared.blocks.BlockKind.{BlockKind}
use Rattle.stl_ast.specs.Outline.{level_behind}
use Rattle.stl_ast.specs.declared.blocks.Block.{Block}
use Rattle.stl_ast.specs.declared.blocks.Part.{Part}
use Rattle.stl_ast.specs.declared.blocks.Tree.{Tree}
use Rattle.stl_ast.specs.declared.declarations.Declaration.{Declaration}
use Rattle.stl_ast.specs.declared.declarations.ElementType.{ElementType}
use Rattle.stl_ast.specs.declared.declarations.ElementType.TheVariants as element
use Rattle.stl_ast.specs.declared.declarations.TypeTree.{TypeTree}
use Rattle.stl_ast.specs.declared.names.BlockName.{BlockName}
use Rattle.stl_lexer.specs.Bytes.{newline}
use Rattle.stl_lexer.specs.Pieces.{Piece, text_of_pieces}
use Rattle.stl_parser.specs.declared.clauses.Clause.{Clause}
use Rattle.stl_parser.specs.declared.clauses.Clause.TheVariants as clause
use Rattle.stl_print.specs.Clauses.{pieces_from}

-- the END clauses of so many structures
abbrev pub structure_ends : ℕ → List Clause
structure_ends count = replicate count clause.EndStructure

-- declarations, where so many structures are open: each closes those that it doesn't stand in, and
-- behind the last one all are closed
abbrev pub declaration_clauses_from : (level : ℕ) → List Declaration → List Clause
declaration_clauses_from level [] = structure_ends level
declaration_clauses_from level (d ∷ ds) =
    structure_ends (level - d.level)
    ++ (clause.Declares d ∷ declaration_clauses_from (level_behind d.level d.of.of) ds)

-- a section, from its word to END_VAR
unfoldable pub part_clauses : Part → List Clause
part_clauses p =
    clause.Section p.line p.kind ∷ (declaration_clauses_from 0 p.items ++ clause.EndSection ∷ [])

-- the type of a block: a structure with its components, or a user-defined data type; a block has no
-- other
unfoldable pub type_clauses : ElementType → List Declaration → List Clause
type_clauses element.Structure components =
    clause.Structure ∷ (declaration_clauses_from 0 components ++ clause.EndStructure ∷ [])
type_clauses (element.Udt name) components = clause.Based name ∷ []
type_clauses _ components = []

-- the type of a block, where it has one
abbrev pub shape_clauses : Option TypeTree → List Declaration → List Clause
shape_clauses None components = []
shape_clauses (Some t) components = type_clauses t.of components

-- the function block of an instance
abbrev pub instance_clauses : Option BlockName → List Clause
instance_clauses None = []
instance_clauses (Some name) = clause.Based name ∷ []

-- BEGIN, which a data type doesn't have
abbrev pub begin_clauses : BlockKind → List Clause
begin_clauses k = if is_data_type k then [] else clause.Begins ∷ []

-- a block: its head, its sections, its type or the function block of which it is an instance,
-- BEGIN, its settings or its statements, and its END clause
unfoldable pub block_clauses : Block → List Clause
block_clauses b =
    clause.Head b.line b.kind b.name b.result
    ∷ (flat_map part_clauses b.parts
    ++ (shape_clauses b.shape b.components ++ (instance_clauses b.instance_of
    ++ (begin_clauses b.kind ++ (map clause.Sets b.settings ++ (map clause.Runs b.body
    ++ clause.Ends b.end_line b.kind ∷ []))))))

-- the tokens of a tree, each with its gap
unfoldable pub pieces_of_tree : Tree → List Piece
pieces_of_tree t = pieces_from 0 (flat_map block_clauses t.blocks)

-- what stands behind the last token: the end of its line, where there is one
abbrev pub end_of_text : List Block → List ℕ
end_of_text [] = []
end_of_text (b ∷ bs) = newline ∷ []

-- a tree as text
unfoldable pub printed_text : Tree → List ℕ
printed_text t = text_of_pieces (pieces_of_tree t) (end_of_text t.blocks)
