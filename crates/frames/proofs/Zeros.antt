-- The first of some zeros are zeros.
use Rattle.std.proofs.Common.{◌≡◌, ℕ, ◌≤◌, take, replicate}
use Rattle.std.proofs.lemmas.List.{take-replicate}

pub first_zeros : (m n : ℕ) → m ≤ n → take {A = ℕ} m (replicate {A = ℕ} n 0) ≡ replicate {A = ℕ} m 0
first_zeros m n h = take-replicate m n 0 h
