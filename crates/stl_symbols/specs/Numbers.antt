-- Numbers in the order in which they came, and the first place of one.
use Rattle.std.specs.Prelude.{ℕ, suc, nat_eq, List, [], ◌∷◌, Option, Some, None, if◌then◌else◌}
use Rattle.std.specs.Option.{option_map}

-- the first place of a number, counted from 0
abbrev pub number_place : ℕ → List ℕ → Option ℕ
number_place number [] = None
number_place number (n ∷ ns) =
    if nat_eq number n then Some 0 else option_map (λ k. suc k) (number_place number ns)
