-- Draws one by one.
use Rattle.std.proofs.Common.{◌≡◌, ◌∙◌, ℕ, zero, suc, ◌+◌, ◌-◌, ◌/◌, ◌<◌, List, ◌++◌, sym, ap, arith}
use Rattle.std.specs.Fn.{iterate}
use Rattle.std.specs.List.{flat_map}
use Rattle.std.proofs.lemmas.List.{append_assoc, append-nil}
use Rattle.generator.specs.Draws.{random_draws, next_state, state_behind}

-- where no draw is left, the state is the last one
pub state_behind_all : (count x whole : ℕ) → state_behind (count - count) x ≡ whole → x ≡ whole
unfolding state_behind
state_behind_all count x whole before =
    let none : count - count ≡ zero = omega arith in
    sym (ap (λ left. iterate next_state left x) none) ∙ before

-- one draw of those that are left
pub state_behind_more : (count i x y whole : ℕ) → i < count → y ≡ next_state x → state_behind (count - i) x ≡ whole →
    state_behind (count - (i + 1)) y ≡ whole
unfolding state_behind
state_behind_more count i x y whole h drawn before =
    let left : count - i ≡ suc (count - (i + 1)) = omega arith in
    ap (λ z. iterate next_state (count - (i + 1)) z) drawn ∙ sym (ap (λ n. iterate next_state n x) left) ∙ before

-- where no draw is left, what the draws gave is the whole
pub pieces_all : {A : Type 0} (f : ℕ → List A) (count x : ℕ) (so_far whole : List A) →
    so_far ++ flat_map f (random_draws (count - count) x) ≡ whole → so_far ≡ whole
unfolding random_draws
pieces_all f count x so_far whole before =
    let none : count - count ≡ zero = omega arith in
    sym (append-nil so_far) ∙ sym (ap (λ left. so_far ++ flat_map f (random_draws left x)) none) ∙ before

-- what one draw gives goes before what those give that are left
pub pieces_more : {A : Type 0} (f : ℕ → List A) (count i x y d : ℕ) (so_far next whole : List A) → i < count →
    y ≡ next_state x → d ≡ y / 65536 → so_far ++ flat_map f (random_draws (count - i) x) ≡ whole → next ≡ so_far ++ f d →
    next ++ flat_map f (random_draws (count - (i + 1)) y) ≡ whole
unfolding random_draws
pieces_more f count i x y d so_far next whole h state drawn before piece =
    let left : count - i ≡ suc (count - (i + 1)) = omega arith in
    ap (λ z. z ++ flat_map f (random_draws (count - (i + 1)) y)) piece
    ∙ append_assoc so_far (f d) (flat_map f (random_draws (count - (i + 1)) y))
    ∙ ap (λ z. so_far ++ (f z ++ flat_map f (random_draws (count - (i + 1)) y))) drawn
    ∙ ap (λ z. so_far ++ (f (z / 65536) ++ flat_map f (random_draws (count - (i + 1)) z))) state
    ∙ sym (ap (λ n. so_far ++ flat_map f (random_draws n x)) left)
    ∙ before
