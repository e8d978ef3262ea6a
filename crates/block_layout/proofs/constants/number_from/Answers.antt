use Rattle.std.proofs.Common.{ℕ, zero, suc, ◌<◌, ◌*◌, ◌^◌, arith, rules}
use Rattle.block_layout.proofs.constants.number_from.Goals as goal

four_bytes : (n i : ℕ) → n < 256 ^ i → i < 4 → 256 * n < 2 ^ 32
four_bytes n zero below few = omega arith
four_bytes n (suc zero) below few = omega arith
four_bytes n (suc (suc zero)) below few = omega arith
four_bytes n (suc (suc (suc zero))) below few = omega arith
four_bytes n (suc (suc (suc (suc i)))) below few = absurd (let never : ⊥ = omega arith in never)

pub overflow_mul-number : goal.overflow_mul-number
overflow_mul-number c =
    let within = c.loop-b-test.true in
    let most = c.requires in
    let few : c.loop-b.b-index < 4 = omega arith in
    let small = four_bytes c.loop-b.number c.loop-b.b-index c.loop-b.invariant.near few in
    search rules
