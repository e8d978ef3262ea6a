-- The laws of memory, proved.
use Rattle.std.proofs.Common.{◌≡◌, ◌≢◌, ℕ, zero, suc, ◌+◌, ◌-◌, ◌*◌, ◌/◌, ◌%◌, ◌^◌, ◌<◌, ◌≤◌, List, length, refl, sym, ap, ◌∙◌, subst, arith, Option, Some, None, Bool, true, false, nat_lt, slice_set, slice_index, ◌⊎◌, inl, inr, unwrap_or, cond}
use Rattle.std.proofs.lemmas.Nat.{or_lt}
use Rattle.std.proofs.lemmas.List.{get_or-set_same, get_or-set_other, get_or_past, length-set}
use Rattle.std.proofs.lemmas.Bool.{ltb-true, and_parts}
use Rattle.plc_base.specs.declared.Width.{Width}
use Rattle.plc_base.specs.declared.Width.TheVariants.{Bit, Byte, Word, Dword}
use Rattle.plc_base.specs.declared.Place.{Place}
use Rattle.plc_mem.specs.Areas.{Areas, PeripheralBytes}
use Rattle.plc_mem.specs.BitPlace.{Region, Inputs, Outputs, BitMemory, PeripheralInputs, PeripheralOutputs, DataBlock}
use Rattle.plc_mem.specs.Bits.{bit_at}
use Rattle.plc_base.specs.Widths.{bit_count}
use Rattle.plc_mem.specs.Number.{region_written}
use Rattle.plc_base.specs.Profiles.{bit_memory_size}
use Rattle.plc_mem.specs.Places.{IsBitMemory, AreByteValues, IsRun, IsPeripheral, IsMemory, HasImage}
use Rattle.plc_mem.specs.Writing.{is_within, bytes_with_number, byte_with_bit, put_number, put_peripheral, put_in_block, number_written_in, number_written}
use Rattle.std.specs.Option.{option_map}
use Rattle.plc_mem.specs.WrittenBits.{IsNumberWritten, bit_after_write}
use Rattle.plc_mem.specs.Laws.{BitsDetermineMemory, WritingGivesTheOneMemory}
use Rattle.plc_mem.proofs.Writes.{written_is}
use Rattle.plc_mem.proofs.Extensional.{same_memory}
use Rattle.plc_mem.proofs.OneBit.{bit_set}
use Rattle.plc_mem.proofs.Runs.{put_done, length-put, part_put, block_put, mapped_value, chained_value}
use Rattle.std.specs.FinMap as map
use Rattle.std.specs.FinMap.{get-insert}
use Rattle.std.specs.Ordering.{nat_cmp, eq_by_cmp}
use Rattle.std.specs.Cmp.{nat_cmp_total}
use Rattle.std.proofs.lemmas.Option.{same_Some}

-- ---- memory stays made of bytes

with_bit_byte : (x k v : ℕ) → x < 256 → k < 8 → v < 2 → byte_with_bit x k v < 256
with_bit_byte x k zero small low two = omega arith
with_bit_byte x k (suc zero) small low two =
    let power : 1 * 2 ^ k % 256 < 256 = omega arith in
    subst (λ (n : ℕ). n < 256) (bit_set x k low) (or_lt 8 x (1 * 2 ^ k % 256) small power)
with_bit_byte x k (suc (suc v)) small low two = absurd (omega arith)

here_or_there : (n i : ℕ) → (n ≡ i) ⊎ (n ≢ i)
here_or_there n i = grind arith

within_or_past : (n : ℕ) (xs : List ℕ) → (n < length xs) ⊎ (length xs ≤ n)
within_or_past n xs = grind arith

set_bytes : (xs : List ℕ) (i v : ℕ) → AreByteValues xs → v < 256 → AreByteValues (slice_set xs i v)
set_bytes xs i v bytes small n =
    elim (here_or_there n i) [
      | inl here ↦
          elim (within_or_past i xs) [
            | inl within ↦ let same = get_or-set_same xs i v 0 within in omega (arith, same, ap (slice_index (slice_set xs i v)) here)
            | inr past ↦ let none = get_or_past (slice_set xs i v) n 0 (simp length-set (omega arith)) in omega (arith, none)
          ]
      | inr there ↦ let same = get_or-set_other xs i n v 0 there in omega (arith, same, bytes n)
    ]

stored_bytes :
    (bytes : List ℕ) (at bit : ℕ) (width : Width) (value : ℕ)
    → AreByteValues bytes
    → is_within bytes at bit width ≡ true
    → value < 2 ^ bit_count width
    → AreByteValues (bytes_with_number bytes at bit width value)
stored_bytes bytes at bit Bit value all within fits =
    let tests = and_parts (nat_lt at (length bytes)) (nat_lt bit 8) within in
    set_bytes bytes at (byte_with_bit (slice_index bytes at) bit value) all (with_bit_byte (slice_index bytes at) bit value (all at) (ltb-true bit 8 tests.1) fits)
stored_bytes bytes at bit Byte value all within fits = set_bytes bytes at value all fits
stored_bytes bytes at bit Word value all within fits =
    set_bytes (slice_set bytes at (value / 2 ^ 8)) (at + 1) (value % 2 ^ 8) (set_bytes bytes at (value / 2 ^ 8) all (omega arith)) (omega arith)
stored_bytes bytes at bit Dword value all within fits =
    let a = value / 2 ^ 24 in
    let b = value / 2 ^ 16 % 2 ^ 8 in
    let c = value / 2 ^ 8 % 2 ^ 8 in
    let d = value % 2 ^ 8 in
    let one = slice_set bytes at a in
    let two = slice_set one (at + 1) b in
    let three = slice_set two (at + 2) c in
    set_bytes three (at + 3) d (set_bytes two (at + 2) c (set_bytes one (at + 1) b (set_bytes bytes at a all (omega arith)) (omega arith)) (omega arith)) (omega arith)

pub put_run : (count : ℕ) (bytes new : List ℕ) (at bit : ℕ) (width : Width) (value : ℕ) → IsRun count bytes → value < 2 ^ bit_count width → put_number bytes at bit width value ≡ Some new → IsRun count new
put_run count bytes new at bit width value run fits done =
    let was = put_done bytes new at bit width value done in
    record {
      count_is = length-put bytes new at bit width value done ∙ run.count_is;
      bytes_are = subst AreByteValues was.1 (stored_bytes bytes at bit width value run.bytes_are was.0 fits);
    }

pub put_peripheral_run : (p q : PeripheralBytes) (at bit : ℕ) (width : Width) (value : ℕ) → IsPeripheral p → value < 2 ^ bit_count width → put_peripheral p at bit width value ≡ Some q → IsPeripheral q
put_peripheral_run p q at bit width value is fits done =
    elim (part_put p q at bit width value done) [
      | inl w ↦ subst IsPeripheral w.3 (record { low = put_run 128 p.low w.0 at bit width value is.low fits w.2; high = is.high })
      | inr w ↦ subst IsPeripheral w.3 (record { low = is.low; high = put_run 512 p.high w.0 (at - 256) bit width value is.high fits w.2 })
    ]

image_run : (bytes : List ℕ) (at bit : ℕ) (width : Width) (value : ℕ) → IsRun 128 bytes → value < 2 ^ bit_count width → (o : Option (List ℕ)) → put_number bytes at bit width value ≡ o → IsRun 128 (unwrap_or o bytes)
image_run bytes at bit width value run fits (Some new) e = put_run 128 bytes new at bit width value run fits e
image_run bytes at bit width value run fits None e = run

pub found_block :
    (same : Bool) (bytes stored : List ℕ) (o : Option (List ℕ)) → AreByteValues stored → ((s : List ℕ) → o ≡ Some s → AreByteValues s) → cond same (Some stored) o ≡ Some bytes → AreByteValues bytes
found_block true bytes stored o new before e = subst AreByteValues (same_Some stored bytes e) new
found_block false bytes stored o new before e = before bytes e

pub put_blocks_bytes :
    (blocks new : map.FinMap nat_cmp (List ℕ)) (k at bit : ℕ) (width : Width) (value : ℕ)
    → ((number : ℕ) (bytes : List ℕ) → map.get blocks number ≡ Some bytes → AreByteValues bytes)
    → value < 2 ^ bit_count width
    → put_in_block blocks k at bit width value ≡ Some new
    → (number : ℕ) (bytes : List ℕ)
    → map.get new number ≡ Some bytes
    → AreByteValues bytes
put_blocks_bytes blocks new k at bit width value all fits done number bytes found =
    let was = block_put blocks new k at bit width value done in
    let stored = put_done was.0 was.1 at bit width value was.3 in
    found_block (eq_by_cmp nat_cmp number k) bytes was.1 (map.get blocks number)
    (subst AreByteValues stored.1 (stored_bytes was.0 at bit width value (all k was.0 was.2) stored.0 fits))
    (all number)
    (sym (get-insert nat_cmp_total blocks k was.1 number) ∙ ap (λ (m : map.FinMap nat_cmp (List ℕ)). map.get m number) was.4 ∙ found)

-- a write to bit memory leaves it one of the same profile
put_bits : (bytes new : List ℕ) (at bit : ℕ) (width : Width) (value : ℕ) → IsBitMemory bytes → value < 2 ^ bit_count width → put_number bytes at bit width value ≡ Some new → IsBitMemory new
put_bits bytes new at bit width value is fits done =
    let run : IsRun (bit_memory_size is.profile) new =
    put_run (bit_memory_size is.profile) bytes new at bit width value (record { count_is = is.count_is; bytes_are = is.bytes_are }) fits done in
    record { profile = is.profile; count_is = run.count_is; bytes_are = run.bytes_are }

-- a write gives a memory
pub written_in_memory :
    (m n : Areas) (region : Region) (at bit : ℕ) (width : Width) (value : ℕ) → IsMemory m → value < 2 ^ bit_count width → number_written_in m region at bit width value ≡ Some n → IsMemory n
written_in_memory m n Inputs at bit width value is fits done =
    let was = mapped_value (λ (s : List ℕ). let r : Areas = record m { inputs = s } in r) (put_number m.inputs at bit width value) n done in
    subst IsMemory was.2 (record { inputs = put_run 128 m.inputs was.0 at bit width value is.inputs fits was.1; outputs = is.outputs; bit_memory = is.bit_memory; peripheral_inputs = is.peripheral_inputs; peripheral_outputs = is.peripheral_outputs; data_blocks = is.data_blocks })
written_in_memory m n Outputs at bit width value is fits done =
    let was = mapped_value (λ (s : List ℕ). let r : Areas = record m { outputs = s } in r) (put_number m.outputs at bit width value) n done in
    subst IsMemory was.2 (record { inputs = is.inputs; outputs = put_run 128 m.outputs was.0 at bit width value is.outputs fits was.1; bit_memory = is.bit_memory; peripheral_inputs = is.peripheral_inputs; peripheral_outputs = is.peripheral_outputs; data_blocks = is.data_blocks })
written_in_memory m n BitMemory at bit width value is fits done =
    let was = mapped_value (λ (s : List ℕ). let r : Areas = record m { bit_memory = s } in r) (put_number m.bit_memory at bit width value) n done in
    subst IsMemory was.2 (record { inputs = is.inputs; outputs = is.outputs; bit_memory = put_bits m.bit_memory was.0 at bit width value is.bit_memory fits was.1; peripheral_inputs = is.peripheral_inputs; peripheral_outputs = is.peripheral_outputs; data_blocks = is.data_blocks })
written_in_memory m n PeripheralInputs at bit width value is fits done =
    let was = mapped_value (λ (p : PeripheralBytes). let r : Areas = record m { peripheral_inputs = p } in r) (put_peripheral m.peripheral_inputs at bit width value) n done in
    subst IsMemory was.2 (record { inputs = is.inputs; outputs = is.outputs; bit_memory = is.bit_memory; peripheral_inputs = put_peripheral_run m.peripheral_inputs was.0 at bit width value is.peripheral_inputs fits was.1; peripheral_outputs = is.peripheral_outputs; data_blocks = is.data_blocks })
written_in_memory m n PeripheralOutputs at bit width value is fits done =
    let was = mapped_value (λ (p : PeripheralBytes). let r : Areas = record m { outputs = unwrap_or (put_number m.outputs at bit width value) m.outputs; peripheral_outputs = p } in r) (put_peripheral m.peripheral_outputs at bit width value) n done in
    subst IsMemory was.2 (record { inputs = is.inputs; outputs = image_run m.outputs at bit width value is.outputs fits (put_number m.outputs at bit width value) refl; bit_memory = is.bit_memory; peripheral_inputs = is.peripheral_inputs; peripheral_outputs = put_peripheral_run m.peripheral_outputs was.0 at bit width value is.peripheral_outputs fits was.1; data_blocks = is.data_blocks })
written_in_memory m n (DataBlock k) at bit width value is fits done =
    let was = mapped_value (λ (blocks : map.FinMap nat_cmp (List ℕ)). let r : Areas = record m { data_blocks = blocks } in r) (put_in_block m.data_blocks k at bit width value) n done in
    subst IsMemory was.2 (record { inputs = is.inputs; outputs = is.outputs; bit_memory = is.bit_memory; peripheral_inputs = is.peripheral_inputs; peripheral_outputs = is.peripheral_outputs; data_blocks = put_blocks_bytes m.data_blocks was.0 k at bit width value is.data_blocks fits was.1 })

pub has_image : (m : Areas) → IsMemory m → HasImage m
has_image m is = record { image = is.outputs.count_is; outputs_low = is.peripheral_outputs.low.count_is }

pub written_memory : (m n : Areas) (place : Place) (width : Width) (value : ℕ) → IsMemory m → value < 2 ^ bit_count width → number_written m place width value ≡ Some n → IsMemory n
unfolding number_written
written_memory m n place width value is fits done =
    let found = chained_value (λ (region : Region). number_written_in m region place.byte place.bit width value) (region_written place) n done in
    written_in_memory m n found.0 place.byte place.bit width value is fits found.2

-- two memories that are written alike from one are the same
same_written : (m n other : Areas) (place : Place) (width : Width) (value : ℕ) → IsMemory n → IsMemory other → IsNumberWritten m n place width value → IsNumberWritten m other place width value → other ≡ n
same_written m n other place width value hn ho wn wo =
    let region : wo.0 ≡ wn.0 = same_Some wo.0 wn.0 (sym wo.1 ∙ wn.1) in
    same_memory n other hn ho (λ k. wo.2.blocks k ∙ sym (wn.2.blocks k)) (λ q.
    wo.2.bits q
    ∙ ap (λ (r : Region). option_map (bit_after_write r place.byte place.bit width value q) (bit_at m q)) region
    ∙ sym (wn.2.bits q))

pub writing_gives_the_one_memory : (m other : Areas) → IsMemory m → IsMemory other → WritingGivesTheOneMemory m other
writing_gives_the_one_memory m other is ho n place width value fits done =
    let new = written_memory m n place width value is fits done in
    let words = written_is m n place width value (λ _. has_image m is) fits done in
    (new, words, λ wo. same_written m n other place width value new ho words wo)

pub bits_determine_memory : (m n : Areas) → IsMemory m → IsMemory n → BitsDetermineMemory m n
bits_determine_memory m n hm hn loaded same = same_memory m n hm hn loaded same
