-- A tree as it is spelled by clauses.
use Rattle.std.specs.Prelude.{Bool, true, false, List, [], ◌∷◌, ◌++◌, if◌then◌else◌, map, Option, Some, None}
use Rattle.std.specs.List.{flat_map}
use Rattle.plc_base.specs.Kinds.{is_data_type}
use Rattle.stl_ast.specs.declared.blocks.Block.{Block}
use Rattle.stl_ast.specs.declared.blocks.Part.{Part}
use Rattle.stl_ast.specs.declared.declarations.Bounds.{Bounds}
use Rattle.stl_ast.specs.declared.declarations.Declaration.{Declaration}
use Rattle.stl_ast.specs.declared.declarations.ElementType.{ElementType}
use Rattle.stl_ast.specs.declared.declarations.ElementType.TheVariants as element
use Rattle.stl_ast.specs.declared.declarations.TypeTree.{TypeTree}
use Rattle.stl_ast.specs.declared.names.BlockName.{BlockName}
use Rattle.stl_ast.specs.declared.names.BlockName.TheVariants as block
use Rattle.stl_parser.specs.declared.clauses.Clause.{Clause}
use Rattle.stl_parser.specs.declared.clauses.Clause.TheVariants as clause

-- the clauses that a tree keeps; the others only say where a section, a structure or a network ends
-- or begins, or are read and ignored
abbrev pub is_kept_by_tree : Clause → Bool
is_kept_by_tree (clause.Head line k name result) = true
is_kept_by_tree (clause.Ends line k) = true
is_kept_by_tree (clause.Section line k) = true
is_kept_by_tree clause.EndSection = false
is_kept_by_tree clause.Begins = false
is_kept_by_tree clause.Network = false
is_kept_by_tree clause.Structure = true
is_kept_by_tree clause.EndStructure = false
is_kept_by_tree (clause.Based name) = true
is_kept_by_tree clause.Note = false
is_kept_by_tree clause.Title = false
is_kept_by_tree (clause.Declares d) = true
is_kept_by_tree (clause.Sets s) = true
is_kept_by_tree (clause.Runs s) = true

-- a section: its first clause and its declarations
abbrev pub spelled_part : Part → List Clause
spelled_part p = clause.Section p.line p.kind ∷ map clause.Declares p.items

-- UDT and its number; a quoted name isn't taken for that of a data type
abbrev pub is_udt : BlockName → Bool
is_udt (block.Number id) = is_data_type id.kind
is_udt (block.Quoted name) = false

-- what no block spells: a clause that no tree keeps
abbrev pub unspelled_clauses : List Clause
unspelled_clauses = clause.EndSection ∷ []

-- the type of a data block or of a TYPE block: a structure with its components, or a user-defined
-- data type
abbrev pub spelled_type : List Bounds → ElementType → List Declaration → List Clause
spelled_type [] element.Structure components = clause.Structure ∷ map clause.Declares components
spelled_type [] (element.Udt name) [] =
    if is_udt name then clause.Based name ∷ [] else unspelled_clauses
spelled_type _ _ _ = unspelled_clauses

-- the shape of a data block or of a TYPE block with its components, or the function block of an
-- instance; a quoted name is taken for that of a function block
abbrev pub spelled_shape : Option TypeTree → Option BlockName → List Declaration → List Clause
spelled_shape None None [] = []
spelled_shape None (Some name) [] =
    if is_udt name then unspelled_clauses else clause.Based name ∷ []
spelled_shape (Some of_) None components = spelled_type of_.arrays of_.of components
spelled_shape _ _ _ = unspelled_clauses

-- a block behind its first clause: its sections, its shape, its settings, its statements, its END
-- clause
abbrev pub spelled_behind_head : Block → List Clause
spelled_behind_head b =
    flat_map spelled_part b.parts ++ (spelled_shape b.shape b.instance_of b.components
    ++ (map clause.Sets b.settings
    ++ (map clause.Runs b.body ++ clause.Ends b.end_line b.kind ∷ [])))

-- a block: the clause of its head, with kind, name and return value, and those behind it
abbrev pub spelled_block : Block → List Clause
spelled_block b = clause.Head b.line b.kind b.name b.result ∷ spelled_behind_head b
