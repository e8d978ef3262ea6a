-- Each call keeps memory one that can be.
use Rattle.std.proofs.Common.{◌≡◌, ℕ, ◌<◌, ◌^◌, ◌+◌, ◌-◌, List, [], ◌∷◌, ◌++◌, length, take, replicate, refl, sym, ◌∙◌, subst, arith, Bool, true, false, if◌then◌else◌, Option, Some, None, Result, Ok, Err, MatchResult, IfOk, IfSome, zero, suc}
use Rattle.std.proofs.Math.Nat.{pow-succ'}
use Rattle.std.proofs.lemmas.List.{length-append, length-take, length-replicate}
use Rattle.std.specs.FinMap as map
use Rattle.std.specs.FinMap.{get-insert, get-from_entries}
use Rattle.std.specs.Ordering.{nat_cmp, eq_by_cmp}
use Rattle.std.specs.Cmp.{nat_cmp_total}
use Rattle.std.proofs.lemmas.Option.{same_Some}
use Rattle.plc_base.specs.declared.Width.{Width}
use Rattle.plc_base.specs.declared.Place.{Place}
use Rattle.plc_base.specs.Changes.{ChangesOrStays}
use Rattle.plc_base.specs.Widths.{bit_count}
use Rattle.plc_mem.specs.Areas.{Areas, PeripheralBytes}
use Rattle.plc_mem.specs.declared.faults.Missing.{Missing}
use Rattle.plc_mem.specs.Number.{weights_of, plus_weight, number_at_place, region_number, region_read, operand_bit}
use Rattle.plc_mem.specs.BitPlace.{Region}
use Rattle.plc_mem.specs.Bits.{bit_at}
use Rattle.plc_base.specs.Profiles.{bit_memory_size}
use Rattle.plc_base.specs.declared.Profile.{Profile}
use Rattle.plc_mem.specs.Places.{IsBitMemory, AreBlocks, AreByteValues, IsRun, IsPeripheral, HasParts, IsMemory}
use Rattle.plc_mem.specs.Fresh.{clear_peripheral, zeroed_memory}
use Rattle.plc_mem.specs.Restart.{retained_bit_memory}
use Rattle.plc_mem.specs.Run.{number_over, operand_bit_of}
use Rattle.plc_mem.specs.Writing.{put_number, put_peripheral, put_in_block}
use Rattle.plc_mem.proofs.OneMemory.{put_run, put_peripheral_run, put_blocks_bytes, found_block}
use Rattle.plc_mem.proofs.Lawful.{zero_count, zero_memory}
use Rattle.plc_mem.proofs.Runs.{none_some, chained_value}

pub run_kept : (count : ℕ) (old new : List ℕ) (at bit : ℕ) (width : Width) (value : ℕ) (r : Result (Unit {0}) Missing)
    → IsRun count old → value < 2 ^ bit_count width → ChangesOrStays (put_number old at bit width value) old new r → IsRun count new
run_kept count old new at bit width value (Ok _) run fits done = put_run count old new at bit width value run fits done
run_kept count old new at bit width value (Err _) run fits stays = subst (IsRun count) (sym stays.1) run

pub bits_kept : (old new : List ℕ) (at bit : ℕ) (width : Width) (value : ℕ) (r : Result (Unit {0}) Missing)
    → IsBitMemory old → value < 2 ^ bit_count width → ChangesOrStays (put_number old at bit width value) old new r → IsBitMemory new
bits_kept old new at bit width value r is fits done =
    let run : IsRun (bit_memory_size is.profile) new =
    run_kept (bit_memory_size is.profile) old new at bit width value r (record { count_is = is.count_is; bytes_are = is.bytes_are }) fits done in
    record { profile = is.profile; count_is = run.count_is; bytes_are = run.bytes_are }

pub peripheral_kept : (old new : PeripheralBytes) (at bit : ℕ) (width : Width) (value : ℕ) (r : Result (Unit {0}) Missing)
    → IsPeripheral old → value < 2 ^ bit_count width → ChangesOrStays (put_peripheral old at bit width value) old new r → IsPeripheral new
peripheral_kept old new at bit width value (Ok _) is fits done = put_peripheral_run old new at bit width value is fits done
peripheral_kept old new at bit width value (Err _) is fits stays = subst IsPeripheral (sym stays.1) is

pub has_parts : (p : PeripheralBytes) → IsPeripheral p → HasParts p
has_parts p is = record { low = is.low.count_is; high = is.high.count_is }

pub blocks_kept : (old new : map.FinMap nat_cmp (List ℕ)) (number at bit : ℕ) (width : Width) (value : ℕ) (r : Result (Unit {0}) Missing)
    → AreBlocks old → value < 2 ^ bit_count width → ChangesOrStays (put_in_block old number at bit width value) old new r → AreBlocks new
blocks_kept old new number at bit width value (Ok _) all fits done = put_blocks_bytes old new number at bit width value all fits done
blocks_kept old new number at bit width value (Err _) all fits stays = subst AreBlocks (sym stays.1) all

-- a peripheral area in which each bit is 0
pub clear_is : IsPeripheral clear_peripheral
clear_is = record { low = zero_count 128; high = zero_count 512 }

-- memory as it begins
pub cleared_is : (profile : Profile) (blocks : map.FinMap nat_cmp (List ℕ)) → AreBlocks blocks → IsMemory (zeroed_memory profile blocks)
cleared_is profile blocks all = record {
  inputs = zero_count 128;
  outputs = zero_count 128;
  bit_memory = zero_memory profile;
  peripheral_inputs = clear_is;
  peripheral_outputs = clear_is;
  data_blocks = all;
}

-- no data blocks
pub no_blocks : AreBlocks (map.from_entries [])
no_blocks k bytes found = absurd (none_some bytes (sym (get-from_entries nat_cmp_total [] k) ∙ found))

-- one data block more
pub block_more : (blocks : map.FinMap nat_cmp (List ℕ)) (number : ℕ) (bytes : List ℕ) → AreBlocks blocks → AreByteValues bytes → AreBlocks (map.insert blocks number bytes)
block_more blocks number bytes all small k found is =
    found_block (eq_by_cmp nat_cmp k number) found bytes (map.get blocks k) small (all k) (sym (get-insert nat_cmp_total blocks number bytes k) ∙ is)

-- ---- a warm restart

take_bytes : (n : ℕ) (bytes : List ℕ) → AreByteValues bytes → AreByteValues (take n bytes)
take_bytes zero bytes small i = omega arith
take_bytes (suc n) [] small i = small i
take_bytes (suc n) (byte ∷ bytes) small zero = small zero
take_bytes (suc n) (byte ∷ bytes) small (suc i) = take_bytes n bytes (λ j. small (suc j)) i

append_bytes : (xs ys : List ℕ) → AreByteValues xs → AreByteValues ys → AreByteValues (xs ++ ys)
append_bytes [] ys first second i = second i
append_bytes (x ∷ xs) ys first second zero = first zero
append_bytes (x ∷ xs) ys first second (suc i) = append_bytes xs ys (λ j. first (suc j)) second i

retained_length : (bytes : List ℕ) → length (retained_bit_memory bytes) ≡ length bytes
retained_length bytes =
    let rest : List ℕ = replicate (length bytes - 16) 0 in
    omega (arith, length-append (take 16 bytes) rest, length-take 16 bytes, length-replicate {A = ℕ} (length bytes - 16) 0)

pub retained_is : (bytes : List ℕ) → IsBitMemory bytes → IsBitMemory (retained_bit_memory bytes)
retained_is bytes is = record {
  profile = is.profile;
  count_is = retained_length bytes ∙ is.count_is;
  bytes_are =
      append_bytes (take 16 bytes) (replicate (length bytes - 16) 0) (take_bytes 16 bytes is.bytes_are)
      (zero_count (length bytes - 16)).bytes_are;
}

-- ---- a number fits its width

one_bit : (n x v : ℕ) (one : Bool) → x < 2 ^ n → x + (if one then 2 ^ n else 0) ≡ v → v < 2 ^ suc n
one_bit n x v true small e = omega (arith, pow-succ' 2 n)
one_bit n x v false small e = omega (arith, pow-succ' 2 n)

more_weight : (n : ℕ) (o : Option ℕ) (bit : Option Bool) (v : ℕ) → ((x : ℕ) → o ≡ Some x → x < 2 ^ n) → plus_weight n o bit ≡ Some v → v < 2 ^ suc n
more_weight n (Some x) (Some one) v small e = one_bit n x v one (small x refl) (same_Some _ v e)
more_weight n (Some x) None v small e = absurd (none_some v e)
more_weight n None bit v small e = absurd (none_some v e)

-- a sum of the weights below 2 ^ n is below it
weights_below : (f : ℕ → Option Bool) (n v : ℕ) → weights_of f n ≡ Some v → v < 2 ^ n
unfolding weights_of
weights_below f zero v e = omega (arith, same_Some 0 v e)
weights_below f (suc n) v e = more_weight n (weights_of f n) (f n) v (λ x is. weights_below f n x is) e

pub number_fits : (m : Areas) (place : Place) (width : Width) (v : ℕ) → number_at_place m place width ≡ Some v → v < 2 ^ bit_count width
unfolding number_at_place region_number
number_fits m place width v e =
    let found = chained_value (λ (region : Region). region_number m region place width) (region_read place) v e in
    weights_below (λ j. bit_at m (operand_bit found.0 place width j)) (bit_count width) v found.2

pub over_fits : (bytes : ℕ → Option ℕ) (at bit : ℕ) (width : Width) (o : Option ℕ) → o ≡ number_over bytes at bit width → IfSome o (λ n. n < 2 ^ bit_count width)
unfolding number_over
over_fits bytes at bit width (Some n) is = weights_below (operand_bit_of bytes at bit width) (bit_count width) n (sym is)
over_fits bytes at bit width None is = tt

-- what reading answers
pub read_fits : (m : Areas) (place : Place) (width : Width) (r : Result ℕ Missing)
    → MatchResult r (λ n. number_at_place m place width ≡ Some n) (λ _. number_at_place m place width ≡ None) → IfOk r (λ n. n < 2 ^ bit_count width)
read_fits m place width (Ok n) is = number_fits m place width n is
read_fits m place width (Err _) is = tt
