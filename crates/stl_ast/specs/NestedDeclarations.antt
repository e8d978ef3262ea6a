-- Declarations as they lie within one another.
use Rattle.std.specs.Prelude.{◌≡◌, ℕ, ◌+◌, nat_lt, if◌then◌else◌, List, [], ◌∷◌, ◌++◌}
use Rattle.stl_ast.specs.declared.declarations.Declaration.{Declaration}
use Rattle.stl_ast.specs.declared.declarations.ElementType.{ElementType}
use Rattle.stl_ast.specs.declared.declarations.ElementType.TheVariants as element
use Rattle.stl_ast.specs.Outline.{IsOutline}

-- declarations one behind the other, each with its components
pub data Components : Type 0 where
  -- no declaration
  none : Components
  -- a declaration with its components, and then those behind it
  more : Declaration → Components → Components → Components

-- the leading ones of some components that stand deeper than a level
abbrev pub inner_components : ℕ → Components → Components
inner_components level none = none
inner_components level (more d components behind) =
    if nat_lt level d.level then more d components (inner_components level behind) else none

-- of components in the order of a text, those from the first one on that stands no deeper than a
-- level
abbrev pub outer_components : ℕ → Components → Components
outer_components level none = none
outer_components level (more d components behind) =
    if nat_lt level d.level then outer_components level behind else more d components behind

-- the nested view of a list of declarations: the components of a declaration are the leading ones
-- behind it that stand deeper
abbrev pub nested_declarations : List Declaration → Components
nested_declarations [] = none
nested_declarations (d ∷ ds) =
    more d (inner_components d.level (nested_declarations ds))
    (outer_components d.level (nested_declarations ds))

-- the declarations of a nested view, in the order of the text
abbrev pub flat_declarations : Components → List Declaration
flat_declarations none = []
flat_declarations (more d components behind) =
    d ∷ (flat_declarations components ++ flat_declarations behind)

-- only a structure has components
abbrev pub MayHoldComponents : ElementType → Components → Type 0
MayHoldComponents element.Structure components = Unit {0}
MayHoldComponents _ components = components ≡ none

-- each of some components stands at a level, and the components of each one level deeper
abbrev pub AreAtLevel : ℕ → Components → Type 0
AreAtLevel level none = Unit {0}
AreAtLevel level (more d components behind) =
    (d.level ≡ level) × MayHoldComponents d.of.of components × AreAtLevel (level + 1) components
    × AreAtLevel level behind

-- the nested view of a list of declarations, in the order of the text, is that list
abbrev pub IsSpelledByNested : Type 0
IsSpelledByNested = (ds : List Declaration) → flat_declarations (nested_declarations ds) ≡ ds

-- in the nested view of an outline the components of a structure stand one level deeper, and
-- nothing else has components
abbrev pub AreLevelsOfNesting : Type 0
AreLevelsOfNesting =
    (ds : List Declaration) → IsOutline 0 ds → AreAtLevel 0 (nested_declarations ds)
