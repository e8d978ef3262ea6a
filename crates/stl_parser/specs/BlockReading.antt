-- What is read of a block, place by place.
use Rattle.std.specs.Prelude.{◌≡◌, ℕ, Bool, true, false, List, [], ◌∷◌, ◌++◌, map, filter}
use Rattle.plc_base.specs.declared.blocks.BlockKind.{BlockKind}
use Rattle.stl_ast.specs.declared.blocks.Setting.{Setting}
use Rattle.stl_ast.specs.declared.declarations.Declaration.{Declaration}
use Rattle.stl_ast.specs.declared.statements.Statement.{Statement}
use Rattle.stl_lexer.specs.declared.kinds.Token.{Token}
use Rattle.stl_parser.specs.declared.clauses.Clause.{Clause}
use Rattle.stl_parser.specs.declared.clauses.Clause.TheVariants as clause
use Rattle.stl_parser.specs.declared.places.ClausePlace.{ClausePlace}
use Rattle.stl_parser.specs.declared.places.ClausePlace.TheVariants as place
use Rattle.stl_parser.specs.declared.blocks.Content.{Content}
use Rattle.stl_parser.specs.declared.blocks.ShapeOrBody.{ShapeOrBody}
use Rattle.stl_parser.specs.declared.blocks.ShapeOrBody.TheVariants as opening_of
use Rattle.stl_parser.specs.Source.{ReadsKeptClauses}
use Rattle.stl_parser.specs.Spelling.{is_kept_by_tree}

-- a place inside a section, or inside the structure of a block
abbrev pub is_inside : ClausePlace → Bool
is_inside (place.Section k p level) = true
is_inside (place.Shape k level) = true
is_inside _ = false

-- where the clauses behind the end of a section, or of the structure of a block, stand; every other
-- place stays
abbrev pub behind_inside : ClausePlace → ClausePlace
behind_inside (place.Section k p level) = place.Between k p
behind_inside (place.Shape k level) = place.Shaped k
behind_inside p = p

-- what a clause adds to the declarations of a block
abbrev pub declarations_of_clause : Clause → List Declaration
declarations_of_clause (clause.Declares d) = d ∷ []
declarations_of_clause _ = []

-- what a clause adds to the settings of a block
abbrev pub settings_of_clause : Clause → List Setting
settings_of_clause (clause.Sets s) = s ∷ []
settings_of_clause _ = []

-- what a clause adds to the statements of a block
abbrev pub statements_of_clause : Clause → List Statement
statements_of_clause (clause.Runs s) = s ∷ []
statements_of_clause _ = []

-- a clause opens the structure of a block, or names what the block is based on
abbrev pub opens_shape : Clause → Bool
opens_shape clause.Structure = true
opens_shape (clause.Based name) = true
opens_shape _ = false

-- a clause opens what stands behind the sections of a block: its structure, what it is based on, or
-- its body
abbrev pub opens_content : Clause → Bool
opens_content clause.Begins = true
opens_content c = opens_shape c

-- a clause opens a part of a block: a section, its structure, what it is based on, or its body
abbrev pub opens_part : Clause → Bool
opens_part (clause.Section line p) = true
opens_part c = opens_content c

-- where the clauses stand behind one that opens a part of a block; behind any other they stand in
-- the head
abbrev pub opened_place : BlockKind → Clause → ClausePlace
opened_place k (clause.Section line p) = place.Section k p 0
opened_place k clause.Begins = place.Body k
opened_place k clause.Structure = place.Shape k 0
opened_place k (clause.Based name) = place.Shaped k
opened_place k _ = place.Head k

-- a shape is spelled by the clause that opens it and the clauses that are read behind that
pub record ReadsShape (source : List ℕ) (k : BlockKind) (opening : Clause) (tokens : List Token)
    (spelled : List Clause) (rest : List Token) : Type 0 where
  -- the clauses behind the opening one that a tree keeps
  pub kept : List Clause
  -- these clauses are read from behind the opening one to a place behind the shape,
  -- where the tokens `rest` stand
  pub reads : ReadsKeptClauses source (opened_place k opening) tokens kept (place.Shaped k) rest
  -- the opening clause and these clauses spell the shape
  pub whole : spelled ≡ opening ∷ kept

-- what a body or a shape is spelled by: the clause that opens it, where a tree keeps that, and the
-- components
abbrev pub spelled_shape_or_body : ShapeOrBody → List Clause
spelled_shape_or_body opening_of.Body = []
spelled_shape_or_body (opening_of.Structure components) =
    clause.Structure ∷ map clause.Declares components
spelled_shape_or_body (opening_of.Based name) = clause.Based name ∷ []

-- what stands behind the sections of a block of this kind: its shape, its settings, its statements
-- and its END clause
abbrev pub spelled_content : BlockKind → Content → List Clause
spelled_content k c =
    spelled_shape_or_body c.opened
    ++ (map clause.Sets c.settings ++ (map clause.Runs c.body ++ clause.Ends c.end_line k ∷ []))

-- what stands behind the sections of a block is spelled by the clause that opens it, where a tree
-- keeps that, and the clauses that are read behind that, to the end of the block
pub record ReadsContent (source : List ℕ) (k : BlockKind) (opening : Clause) (tokens : List Token)
    (spelled : List Clause) (rest : List Token) : Type 0 where
  -- the clauses behind the opening one that a tree keeps
  pub kept : List Clause
  -- these clauses are read from behind the opening one to the end of the block,
  -- where the tokens `rest` stand
  pub reads : ReadsKeptClauses source (opened_place k opening) tokens kept place.Outside rest
  -- the opening clause, where a tree keeps it, and these clauses spell the content
  pub whole : spelled ≡ filter is_kept_by_tree (opening ∷ []) ++ kept
