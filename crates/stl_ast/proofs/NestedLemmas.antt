-- The nested view of declarations.
use Rattle.std.proofs.Common.{arith, ℕ, ◌+◌, ◌≤◌, ◌≡◌, Bool, true, false, List, [], ◌∷◌, ◌++◌, if◌then◌else◌, refl, sym, ◌∙◌, ap, subst}
use Rattle.std.proofs.lemmas.Bool.Decides.{nat_tests}
use Rattle.std.proofs.lemmas.List.{append_assoc}
use Rattle.std.specs.Prelude.{nat_lt}
use Rattle.std.proofs.lemmas.Bool.{ltb-true}
use Rattle.stl_ast.specs.declared.declarations.Declaration.{Declaration}
use Rattle.stl_ast.specs.declared.declarations.ElementType.{ElementType}
use Rattle.stl_ast.specs.declared.declarations.ElementType.TheVariants.{Plain, Structure, Udt, DateAndTime}
use Rattle.stl_ast.specs.Outline.{level_behind, IsOutline}
use Rattle.stl_ast.specs.NestedDeclarations.{Components, none, more, inner_components, outer_components, nested_declarations, flat_declarations, MayHoldComponents, AreAtLevel, IsSpelledByNested, AreLevelsOfNesting}

-- the inner ones and then the outer ones are all
inner_and_outer_one : (level : ℕ) (d : Declaration) (components behind : Components) (deeper : Bool) →
    flat_declarations (inner_components level behind) ++ flat_declarations (outer_components level behind) ≡ flat_declarations behind →
    flat_declarations (if deeper then more d components (inner_components level behind) else none)
    ++ flat_declarations (if deeper then outer_components level behind else more d components behind) ≡ d ∷ (flat_declarations components ++ flat_declarations behind)
inner_and_outer_one level d components behind true rest =
    ap (λ ds. d ∷ ds)
    (append_assoc (flat_declarations components) (flat_declarations (inner_components level behind)) (flat_declarations (outer_components level behind)) ∙ ap (λ ds. flat_declarations components ++ ds) rest)
inner_and_outer_one level d components behind false rest = refl

inner_and_outer : (level : ℕ) (cs : Components) → flat_declarations (inner_components level cs) ++ flat_declarations (outer_components level cs) ≡ flat_declarations cs
inner_and_outer level none = refl
inner_and_outer level (more d components behind) = inner_and_outer_one level d components behind (nat_lt level d.level) (inner_and_outer level behind)

pub spelled_by_nested : IsSpelledByNested
spelled_by_nested [] = refl
spelled_by_nested (d ∷ ds) = ap (λ rest. d ∷ rest) (inner_and_outer d.level (nested_declarations ds) ∙ spelled_by_nested ds)

-- each stands at most as deep as the one before it, and its components one level deeper
abbrev AreFalling : ℕ → Components → Type 0
AreFalling deepest none = Unit {0}
AreFalling deepest (more d components behind) =
    (d.level ≤ deepest) × MayHoldComponents d.of.of components × AreAtLevel (d.level + 1) components × AreFalling d.level behind

weaker : (low high : ℕ) (cs : Components) → low ≤ high → AreFalling low cs → AreFalling high cs
weaker low high none within falling = tt
weaker low high (more d components behind) within falling = (omega (arith, falling.0, within), falling.1, falling.2, falling.3)

not_deeper : (level at : ℕ) → nat_lt level at ≡ false → at ≤ level
not_deeper level at test = grind (arith, nat_tests)

-- those that stand deeper than a level stand one level deeper
inner_one : (level : ℕ) (d : Declaration) (components behind : Components) (deeper : Bool) → nat_lt level d.level ≡ deeper →
    AreFalling (level + 1) (more d components behind) →
    ((deepest : ℕ) → deepest ≤ level + 1 → AreFalling deepest behind → AreAtLevel (level + 1) (inner_components level behind)) →
    AreAtLevel (level + 1) (if deeper then more d components (inner_components level behind) else none)
inner_one level d components behind true test falling rest =
    let one : d.level ≡ level + 1 = omega (arith, ltb-true level d.level test, falling.0) in
    (one, falling.1, subst (λ n. AreAtLevel (n + 1) components) one falling.2, rest d.level falling.0 falling.3)
inner_one level d components behind false test falling rest = tt

inner_are : (level : ℕ) (cs : Components) → AreFalling (level + 1) cs → AreAtLevel (level + 1) (inner_components level cs)
inner_are level none falling = tt
inner_are level (more d components behind) falling =
    inner_one level d components behind (nat_lt level d.level) refl falling
    (λ deepest within rest. inner_are level behind (weaker deepest (level + 1) behind within rest))

-- none stand deeper than the deepest
inner_none : (level : ℕ) (cs : Components) → AreFalling level cs → inner_components level cs ≡ none
inner_none level none falling = refl
inner_none level (more d components behind) falling =
    ap (λ deeper. if deeper then more d components (inner_components level behind) else none) (not_below level d.level falling.0)
  where
    not_below : (level at : ℕ) → at ≤ level → nat_lt level at ≡ false
    not_below level at within = grind (arith, nat_tests)

outer_one : (level deepest : ℕ) (d : Declaration) (components behind : Components) (deeper : Bool) → nat_lt level d.level ≡ deeper →
    AreFalling deepest (more d components behind) → AreFalling level (outer_components level behind) →
    AreFalling level (if deeper then outer_components level behind else more d components behind)
outer_one level deepest d components behind true test falling rest = rest
outer_one level deepest d components behind false test falling rest =
    (not_deeper level d.level test, falling.1, falling.2, falling.3)

outer_fall : (level deepest : ℕ) (cs : Components) → AreFalling deepest cs → AreFalling level (outer_components level cs)
outer_fall level deepest none falling = tt
outer_fall level deepest (more d components behind) falling =
    outer_one level deepest d components behind (nat_lt level d.level) refl falling (outer_fall level d.level behind falling.3)

may_hold : (level : ℕ) (of_ : ElementType) (cs : Components) → AreFalling (level_behind level of_) cs → MayHoldComponents of_ (inner_components level cs)
may_hold level (Plain kind) cs falling = inner_none level cs falling
may_hold level Structure cs falling = tt
may_hold level (Udt name) cs falling = inner_none level cs falling
may_hold level DateAndTime cs falling = inner_none level cs falling

none_there : (level : ℕ) (cs : Components) → inner_components level cs ≡ none → AreAtLevel (level + 1) (inner_components level cs)
none_there level cs same = subst (AreAtLevel (level + 1)) (sym same) tt

components_are : (level : ℕ) (of_ : ElementType) (cs : Components) → AreFalling (level_behind level of_) cs →
    AreAtLevel (level + 1) (inner_components level cs)
components_are level (Plain kind) cs falling = none_there level cs (inner_none level cs falling)
components_are level Structure cs falling = inner_are level cs falling
components_are level (Udt name) cs falling = none_there level cs (inner_none level cs falling)
components_are level DateAndTime cs falling = none_there level cs (inner_none level cs falling)

nested_fall : (deepest : ℕ) (ds : List Declaration) → IsOutline deepest ds → AreFalling deepest (nested_declarations ds)
nested_fall deepest [] outline = tt
nested_fall deepest (d ∷ ds) outline =
    let behind = nested_fall (level_behind d.level d.of.of) ds outline.1 in (
      outline.0,
      may_hold d.level d.of.of (nested_declarations ds) behind,
      components_are d.level d.of.of (nested_declarations ds) behind,
      outer_fall d.level (level_behind d.level d.of.of) (nested_declarations ds) behind,
    )

at_zero : (cs : Components) → AreFalling 0 cs → AreAtLevel 0 cs
at_zero none falling = tt
at_zero (more d components behind) falling =
    let top : d.level ≡ 0 = omega (arith, falling.0) in
    (top, falling.1, subst (λ n. AreAtLevel (n + 1) components) top falling.2, at_zero behind (weaker d.level 0 behind falling.0 falling.3))

pub levels : AreLevelsOfNesting
levels ds outline = at_zero (nested_declarations ds) (nested_fall 0 ds outline)
