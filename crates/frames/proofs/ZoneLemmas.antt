-- The last of a list, seen reversed.
use Rattle.std.proofs.Common.{◌≡◌, ◌∙◌, ℕ, Bool, true, List, [], ◌∷◌, length, reverse, refl, ap, sym, get_or, ◌+◌, ◌<◌, arith, take}
use Rattle.std.specs.Prelude.{◌-◌}
use Rattle.std.proofs.lemmas.List.{take_all, get_or_default}
use Rattle.frames.specs.Relay.{zone_value}
use Rattle.frames.proofs.Stack.{popped}

pub no_value : (values : List Bool) → length values ≡ 0 → true ≡ zone_value (reverse values)
no_value [] is = refl
no_value (v ∷ rest) is = absurd cc

last_of : (values : List Bool) (n : ℕ) (d : Bool) → length values ≡ n + 1
    → get_or values n d ≡ zone_value (reverse values)
last_of values n d is =
    let x : Bool = get_or values n d in
    let within : n < length values = omega (arith, is) in
    let all : take (n + 1) values ≡ values = take_all (n + 1) values (omega (arith, is)) in
    sym (ap zone_value
    (ap reverse (sym all) ∙ popped n values x within (get_or_default values n d x within)))

pub last_value : (values : List Bool) (d : Bool) → (length values ≡ 0 → ⊥)
    → get_or values (length values - 1) d ≡ zone_value (reverse values)
last_value values d some = last_of values (length values - 1) d (omega (arith, some))
