-- Names in the order in which they came, and the first place of one.
use Rattle.std.specs.Prelude.{ℕ, suc, List, [], ◌∷◌, Option, Some, None, if◌then◌else◌}
use Rattle.std.specs.Option.{option_map}
use Rattle.std.specs.Str.{bytes_eq}

-- the first place of a name, counted from 0
abbrev pub name_place : List ℕ → List (List ℕ) → Option ℕ
name_place name [] = None
name_place name (n ∷ ns) =
    if bytes_eq name n then Some 0 else option_map (λ k. suc k) (name_place name ns)
