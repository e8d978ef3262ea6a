-- Numbers drawn one behind the other, by a linear congruence.
use Rattle.std.specs.Prelude.{ℕ, zero, suc, ◌+◌, ◌*◌, ◌/◌, ◌%◌, ◌^◌, List, [], ◌∷◌}
use Rattle.std.specs.Fn.{iterate}

-- the state that a draw leaves
abbrev pub next_state : ℕ → ℕ
next_state x = (1103515245 * x + 12345) % 2 ^ 31

-- the state that a number of draws leave, from a state `x` on
unfoldable pub state_behind : (count x : ℕ) → ℕ
state_behind count x = iterate next_state count x

-- what a number of draws give from a state `x` on: each the state that it leaves without its lowest
-- 16 bits
unfoldable pub random_draws : (count x : ℕ) → List ℕ
random_draws zero x = []
random_draws (suc count) x = next_state x / 65536 ∷ random_draws count (next_state x)
