-- Setting and clearing one bit of a byte.
use Rattle.std.proofs.Common.{◌≡◌, ℕ, ◌-◌, ◌*◌, ◌%◌, ◌^◌, ◌<◌, ap, ◌∙◌, arith}
use Rattle.std.specs.Int.Bits.{bit_and, bit_or, or_add_and}
use Rattle.std.proofs.Math.Pow.{pow-lt}
use Rattle.std.proofs.lemmas.Nat.{and_comm, and-not, one_shl}
use Rattle.std.proofs.lemmas.Nat.Bits.{and_pow}
use Rattle.plc_mem.specs.Writing.{byte_with_bit}

pub bit_set : (byte k : ℕ) → k < 8 → bit_or byte (1 * 2 ^ k % 256) ≡ byte_with_bit byte k 1
bit_set byte k h =
    ap (bit_or byte) (one_shl k 8 h) ∙ omega (arith, or_add_and byte (2 ^ k), and_pow byte k)

pub bit_clear : (byte k : ℕ) → k < 8 → byte < 256 → bit_and byte (255 - 1 * 2 ^ k % 256) ≡ byte_with_bit byte k 0
bit_clear byte k h small =
    let below : 2 ^ k < 2 ^ 8 = pow-lt h in
    ap (λ m. bit_and byte (255 - m)) (one_shl k 8 h)
    ∙ and_comm byte (255 - 2 ^ k)
    ∙ omega (arith, and-not 8 (2 ^ k) byte below small, and_pow byte k, and_comm (2 ^ k) byte)
