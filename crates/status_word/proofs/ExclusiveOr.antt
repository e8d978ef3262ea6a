-- Two truth values differ exactly where their exclusive or is true.
use Rattle.std.proofs.Common.{◌≡◌, Bool, true, false, not, refl}
use Rattle.std.specs.Bool.{beq}
use Rattle.status_word.specs.Check.{exclusive_or}

-- the code's `^` on truth values
pub differs : (a b : Bool) → not (beq a b) ≡ exclusive_or a b
differs true true = refl
differs true false = refl
differs false true = refl
differs false false = refl
