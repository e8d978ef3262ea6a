-- The bits determine the memory.
use Rattle.std.proofs.Common.{◌≡◌, ℕ, zero, suc, ◌+◌, ◌-◌, ◌<◌, ◌≤◌, List, length, refl, sym, ap, ◌∙◌, arith, Option, Some, None, nat_eq, slice_get, slice_index, ◌⊎◌, inl, inr, is_some, lit<}
use Rattle.std.specs.Int.{bit_at as number_bit}
use Rattle.std.specs.Option.{option_and_then}
use Rattle.std.specs.FinMap as map
use Rattle.std.specs.FinMap.{same_map, nat_cmp-IsAntisymmetric}
use Rattle.std.specs.Cmp.{nat_cmp_total}
use Rattle.std.proofs.lemmas.Option.{slice_get-get_or, slice_get_past, same_Some}
use Rattle.std.proofs.lemmas.Grind.{same_number_lists}
use Rattle.std.proofs.lemmas.Nat.Bits.{bit_at-lt, same_from_bits_below}
use Rattle.std.proofs.lemmas.Bool.{true≢false}
use Rattle.plc_mem.specs.Areas.{Areas, PeripheralBytes}
use Rattle.plc_mem.specs.BitPlace.{BitPlace, Region, Inputs, Outputs, BitMemory, PeripheralInputs, PeripheralOutputs, DataBlock}
use Rattle.plc_mem.specs.Bits.{bit_at, bit_of_byte, is_bit_one, region_byte, peripheral_byte, block_byte}
use Rattle.plc_mem.specs.Places.{SameBlocks, AreByteValues, IsPeripheral, IsMemory}
use Rattle.plc_mem.proofs.Numbers.{bit_in_some}
use Rattle.plc_mem.proofs.Runs.{none_some, in_low, in_high}

SameBits : (xs ys : List ℕ) → Type 0
SameBits xs ys = (i b : ℕ) → bit_of_byte (slice_get ys i) b ≡ bit_of_byte (slice_get xs i) b

-- a bit of a byte that stands
existing_bit : (xs : List ℕ) (i b : ℕ) → i < length xs → b < 8 → bit_of_byte (slice_get xs i) b ≡ Some (is_bit_one (slice_index xs i) b)
existing_bit xs i b within low = ap (λ (o : Option ℕ). bit_of_byte o b) (slice_get-get_or xs i 0 within) ∙ bit_in_some (slice_index xs i) b low

at_most_or_more : (a b : ℕ) → (a ≤ b) ⊎ (b < a)
at_most_or_more a b = grind arith

no_longer : (xs ys : List ℕ) → SameBits xs ys → length ys ≤ length xs
unfolding SameBits
no_longer xs ys same =
    elim (at_most_or_more (length ys) (length xs)) [
      | inl most ↦ most
      | inr more ↦
          absurd (none_some (is_bit_one (slice_index ys (length xs)) 0) (sym (ap (λ (o : Option ℕ). bit_of_byte o 0) (slice_get_past xs (length xs) (omega arith))) ∙ sym (same (length xs) 0) ∙ existing_bit ys (length xs) 0 more (lit< tt)))
    ]

-- truth values tell bits apart
same_digit : (a b : ℕ) → a < 2 → b < 2 → nat_eq a 1 ≡ nat_eq b 1 → a ≡ b
same_digit zero zero ha hb e = refl
same_digit zero (suc zero) ha hb e = absurd (true≢false (sym e))
same_digit (suc zero) zero ha hb e = absurd (true≢false e)
same_digit (suc zero) (suc zero) ha hb e = refl
same_digit (suc (suc a)) b ha hb e = absurd (omega arith)
same_digit zero (suc (suc b)) ha hb e = absurd (omega arith)
same_digit (suc zero) (suc (suc b)) ha hb e = absurd (omega arith)

-- two runs of bytes with the same bits are the same
same_runs : (xs ys : List ℕ) → AreByteValues xs → AreByteValues ys → SameBits xs ys → ys ≡ xs
unfolding SameBits
same_runs xs ys bx by same =
    let size : length ys ≡ length xs = omega (arith, no_longer xs ys same, no_longer ys xs (λ i b. sym (same i b))) in
    same_number_lists ys xs size (λ i within.
    same_from_bits_below 8 (slice_index ys i) (slice_index xs i) (by i) (bx i) (λ b low.
    same_digit (number_bit (slice_index ys i) b) (number_bit (slice_index xs i) b) (bit_at-lt (slice_index ys i) b) (bit_at-lt (slice_index xs i) b)
    (same_Some _ _ (sym (existing_bit ys i b within low) ∙ same i b ∙ existing_bit xs i b (omega arith) low))))

-- ---- peripheral areas

SamePeripheralBits : (p q : PeripheralBytes) → Type 0
SamePeripheralBits p q = (i b : ℕ) → bit_of_byte (peripheral_byte q i) b ≡ bit_of_byte (peripheral_byte p i) b

below_or_from : (n : ℕ) → (n < 256) ⊎ (256 ≤ n)
below_or_from n = grind arith

same_low : (p q : PeripheralBytes) → IsPeripheral p → IsPeripheral q → SamePeripheralBits p q → SameBits p.low q.low
unfolding SameBits SamePeripheralBits
same_low p q hp hq same i b =
    elim (below_or_from i) [
      | inl below ↦
          sym (ap (λ (o : Option ℕ). bit_of_byte o b) (in_low q i below)) ∙ same i b ∙ ap (λ (o : Option ℕ). bit_of_byte o b) (in_low p i below)
      | inr from ↦
          ap (λ (o : Option ℕ). bit_of_byte o b) (slice_get_past q.low i (omega (arith, hq.low.count_is)) ∙ sym (slice_get_past p.low i (omega (arith, hp.low.count_is))))
    ]

same_high : (p q : PeripheralBytes) → SamePeripheralBits p q → SameBits p.high q.high
unfolding SameBits SamePeripheralBits
same_high p q same i b =
    let index : i + 256 - 256 ≡ i = omega arith in
    sym (ap (λ (o : Option ℕ). bit_of_byte o b) (in_high q (i + 256) (omega arith) ∙ ap (slice_get q.high) index))
    ∙ same (i + 256) b
    ∙ ap (λ (o : Option ℕ). bit_of_byte o b) (in_high p (i + 256) (omega arith) ∙ ap (slice_get p.high) index)

same_peripherals : (p q : PeripheralBytes) → IsPeripheral p → IsPeripheral q → SamePeripheralBits p q → q ≡ p
same_peripherals p q hp hq same =
    let low : q.low ≡ p.low = same_runs p.low q.low hp.low.bytes_are hq.low.bytes_are (same_low p q hp hq same) in
    let high : q.high ≡ p.high = same_runs p.high q.high hp.high.bytes_are hq.high.bytes_are (same_high p q same) in
    λ i. record { low = low i; high = high i }

-- ---- data blocks

block_cases :
    (xs ys : Option (List ℕ))
    → ((bytes : List ℕ) → xs ≡ Some bytes → AreByteValues bytes)
    → ((bytes : List ℕ) → ys ≡ Some bytes → AreByteValues bytes)
    → is_some ys ≡ is_some xs
    → ((i b : ℕ) → bit_of_byte (option_and_then (λ (s : List ℕ). slice_get s i) ys) b ≡ bit_of_byte (option_and_then (λ (s : List ℕ). slice_get s i) xs) b)
    → ys ≡ xs
unfolding SameBits
block_cases (Some xs) (Some ys) bx by loaded same = ap Some (same_runs xs ys (bx xs refl) (by ys refl) same)
block_cases None None bx by loaded same = refl
block_cases (Some xs) None bx by loaded same = absurd (true≢false (sym loaded))
block_cases None (Some ys) bx by loaded same = absurd (true≢false loaded)

same_block :
    (m n : Areas) (k : ℕ) → IsMemory m → IsMemory n → SameBlocks m n → ((i b : ℕ) → bit_of_byte (block_byte n.data_blocks k i) b ≡ bit_of_byte (block_byte m.data_blocks k i) b)
    → map.get n.data_blocks k ≡ map.get m.data_blocks k
same_block m n k hm hn loaded same =
    block_cases (map.get m.data_blocks k) (map.get n.data_blocks k) (λ bytes e. hm.data_blocks k bytes e) (λ bytes e. hn.data_blocks k bytes e) (loaded k) same

-- ---- memory

pub same_memory : (m n : Areas) → IsMemory m → IsMemory n → SameBlocks m n → ((place : BitPlace) → bit_at n place ≡ bit_at m place) → n ≡ m
unfolding bit_at SameBits SamePeripheralBits
same_memory m n hm hn loaded same =
    let at : (region : Region) (i b : ℕ) → bit_of_byte (region_byte n region i) b ≡ bit_of_byte (region_byte m region i) b = λ region i b. same (record { region = region; byte = i; bit = b }) in
    let inputs : n.inputs ≡ m.inputs = same_runs m.inputs n.inputs hm.inputs.bytes_are hn.inputs.bytes_are (at Inputs) in
    let outputs : n.outputs ≡ m.outputs = same_runs m.outputs n.outputs hm.outputs.bytes_are hn.outputs.bytes_are (at Outputs) in
    let bit_memory : n.bit_memory ≡ m.bit_memory = same_runs m.bit_memory n.bit_memory hm.bit_memory.bytes_are hn.bit_memory.bytes_are (at BitMemory) in
    let peripheral_inputs : n.peripheral_inputs ≡ m.peripheral_inputs = same_peripherals m.peripheral_inputs n.peripheral_inputs hm.peripheral_inputs hn.peripheral_inputs (at PeripheralInputs) in
    let peripheral_outputs : n.peripheral_outputs ≡ m.peripheral_outputs = same_peripherals m.peripheral_outputs n.peripheral_outputs hm.peripheral_outputs hn.peripheral_outputs (at PeripheralOutputs) in
    let data_blocks : n.data_blocks ≡ m.data_blocks = same_map nat_cmp_total nat_cmp-IsAntisymmetric n.data_blocks m.data_blocks (λ k. same_block m n k hm hn loaded (at (DataBlock k))) in
    λ i. record { inputs = inputs i; outputs = outputs i; bit_memory = bit_memory i; peripheral_inputs = peripheral_inputs i; peripheral_outputs = peripheral_outputs i; data_blocks = data_blocks i }
