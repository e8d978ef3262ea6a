-- The outline of declarations with one more at the end.
use Rattle.std.proofs.Common.{ℕ, ◌≤◌, ◌≡◌, List, [], ◌∷◌, ◌++◌, refl}
use Rattle.stl_ast.specs.declared.declarations.Declaration.{Declaration}
use Rattle.stl_ast.specs.Outline.{level_behind, IsOutline, deepest_behind}

-- one declaration more, at a level that the outline leaves open
pub IsOutline-push : (deepest : ℕ) (ds : List Declaration) (d : Declaration) → IsOutline deepest ds →
    d.level ≤ deepest_behind deepest ds → IsOutline deepest (ds ++ d ∷ [])
IsOutline-push deepest [] d outline within = (within, tt)
IsOutline-push deepest (e ∷ es) d outline within =
    (outline.0, IsOutline-push (level_behind e.level e.of.of) es d outline.1 within)

-- what a declaration at the end leaves open
pub deepest_behind-push : (deepest : ℕ) (ds : List Declaration) (d : Declaration) →
    deepest_behind deepest (ds ++ d ∷ []) ≡ level_behind d.level d.of.of
deepest_behind-push deepest [] d = refl
deepest_behind-push deepest (e ∷ es) d = deepest_behind-push (level_behind e.level e.of.of) es d
