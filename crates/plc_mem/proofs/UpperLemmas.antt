-- The upper part of a peripheral area is clear from where its bytes in use end.
use Rattle.std.proofs.Common.{◌≡◌, ℕ, ◌+◌, ◌/◌, ◌%◌, ◌^◌, ◌≤◌, List, replicate, slice_set, slice_index, ◌∙◌, subst, arith, Some, zero, suc, refl}
use Rattle.std.proofs.lemmas.List.{get_or-set_other}
use Rattle.plc_base.specs.declared.Width.{Width}
use Rattle.plc_base.specs.declared.Width.TheVariants.{Bit, Byte, Word, Dword}
use Rattle.plc_base.specs.Widths.{byte_count}
use Rattle.plc_mem.specs.Places.{IsClearFrom}
use Rattle.plc_mem.specs.Writing.{bytes_with_number, put_number, byte_with_bit}
use Rattle.plc_mem.proofs.Runs.{put_done}

-- zeros are clear
pub zeros_clear : (count i : ℕ) → slice_index (replicate count 0) i ≡ 0
zeros_clear zero i = refl
zeros_clear (suc count) zero = refl
zeros_clear (suc count) (suc i) = zeros_clear count i

-- with another byte before its end, a list is clear from there on as before
set_clear : (bytes : List ℕ) (end at value : ℕ) → IsClearFrom end bytes → at + 1 ≤ end → IsClearFrom end (slice_set bytes at value)
set_clear bytes end at value clear before i from = get_or-set_other bytes at i value 0 (omega arith) ∙ clear i from

stored_clear : (bytes : List ℕ) (end at bit : ℕ) (width : Width) (value : ℕ) → IsClearFrom end bytes → at + byte_count width ≤ end → IsClearFrom end (bytes_with_number bytes at bit width value)
stored_clear bytes end at bit Bit value clear before = set_clear bytes end at (byte_with_bit (slice_index bytes at) bit value) clear before
stored_clear bytes end at bit Byte value clear before = set_clear bytes end at value clear before
stored_clear bytes end at bit Word value clear before =
    set_clear (slice_set bytes at (value / 2 ^ 8)) end (at + 1) (value % 2 ^ 8) (set_clear bytes end at (value / 2 ^ 8) clear (omega arith)) (omega arith)
stored_clear bytes end at bit Dword value clear before =
    let one = slice_set bytes at (value / 2 ^ 24) in
    let two = slice_set one (at + 1) (value / 2 ^ 16 % 2 ^ 8) in
    let three = slice_set two (at + 2) (value / 2 ^ 8 % 2 ^ 8) in
    set_clear three end (at + 3) (value % 2 ^ 8)
    (set_clear two end (at + 2) (value / 2 ^ 8 % 2 ^ 8)
    (set_clear one end (at + 1) (value / 2 ^ 16 % 2 ^ 8) (set_clear bytes end at (value / 2 ^ 24) clear (omega arith)) (omega arith))
    (omega arith))
    (omega arith)

-- a write before the end leaves it where it is
pub put_clear :
    (bytes new : List ℕ) (old_end end at bit : ℕ) (width : Width) (value : ℕ)
    → IsClearFrom old_end bytes
    → put_number bytes at bit width value ≡ Some new
    → old_end ≤ end
    → at + byte_count width ≤ end
    → IsClearFrom end new
put_clear bytes new old_end end at bit width value clear done later before =
    let was = put_done bytes new at bit width value done in
    subst (IsClearFrom end) was.1 (stored_clear bytes end at bit width value (λ i from. clear i (omega arith)) before)
