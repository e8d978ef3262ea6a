-- The outline of declarations: how many structures are open around each.
use Rattle.std.specs.Prelude.{ℕ, ◌+◌, ◌≤◌, List, [], ◌∷◌}
use Rattle.stl_ast.specs.declared.declarations.Declaration.{Declaration}
use Rattle.stl_ast.specs.declared.declarations.ElementType.{ElementType}
use Rattle.stl_ast.specs.declared.declarations.ElementType.TheVariants.{Plain, Structure, Udt, DateAndTime}

-- the deepest level behind a declaration at `level`: a structure's components stand one deeper
abbrev pub level_behind : ℕ → ElementType → ℕ
level_behind level (Plain kind) = level
level_behind level Structure = level + 1
level_behind level (Udt name) = level
level_behind level DateAndTime = level

-- a list of declarations in the order of the text: the first stands at most at level `deepest`, and
-- each later one at most at the deepest level behind the one before it
abbrev pub IsOutline : ℕ → List Declaration → Type 0
IsOutline deepest [] = Unit {0}
IsOutline deepest (d ∷ ds) = (d.level ≤ deepest) × IsOutline (level_behind d.level d.of.of) ds

-- the deepest level at which a declaration may follow these
abbrev pub deepest_behind : ℕ → List Declaration → ℕ
deepest_behind deepest [] = deepest
deepest_behind deepest (d ∷ ds) = deepest_behind (level_behind d.level d.of.of) ds
