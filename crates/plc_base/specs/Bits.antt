-- The bits of a number.
use Rattle.std.specs.Prelude.{ℕ, ◌/◌, ◌%◌, ◌^◌, Bool, nat_eq}

-- whether bit k of n is 1
abbrev pub has_bit : ℕ → ℕ → Bool
has_bit n k = nat_eq (n / 2 ^ k % 2) 1
