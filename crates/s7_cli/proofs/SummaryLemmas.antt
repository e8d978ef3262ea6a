-- Bytes of bit memory, as reads answer them.
use Rattle.std.proofs.Common.{◌≡◌, refl, sym, ◌∙◌, ap, ℕ, zero, suc, ◌+◌, ◌≤◌, ◌<◌, List, [], ◌++◌, length, map, take, drop, get_or, true, Option, Some, Ok, arith}
use Rattle.std.proofs.lemmas.Bool.Decides.{nat_tests}
use Rattle.std.proofs.Math.Seq.{take-add}
use Rattle.std.proofs.lemmas.Grind.{common_steps, get_or_default_zero}
use Rattle.std.specs.List.{range_with_len}
use Rattle.std.specs.Prelude.{sum}
use Rattle.plc_base.proofs.ListLemmas.{drop_next}
use Rattle.plc_base.specs.declared.Profile.{Profile}
use Rattle.plc_base.specs.declared.Profile.TheVariants.{Small, Large}
use Rattle.plc_base.specs.declared.Width.TheVariants.{Byte}
use Rattle.plc_base.specs.Profiles.{bit_memory_size}
use Rattle.plc_mem.proofs.Numbers.{number_at_bytes, run_number}
use Rattle.plc_mem.specs.Areas.{Areas}
use Rattle.plc_mem.specs.Places.{AreByteValues, IsMemory}
use Rattle.plc_mem.specs.Writing.{is_within}
use Rattle.plc_base.specs.declared.Mode.{Mode}
use Rattle.machine.specs.Code.{Code}
use Rattle.machine.specs.Statement.{GlobalStore}
use Rattle.var_access.specs.declared.Reply.{Reply}
use Rattle.var_access.specs.declared.Reply.TheVariants.{Values}
use Rattle.var_access.specs.declared.Request.TheVariants.{ReadVars}
use Rattle.var_access.specs.declared.Var.{Var}
use Rattle.var_access.specs.declared.What.{What}
use Rattle.controller.specs.Asking.{request_reply, read_reply, value_before, var_value, values_from}
use Rattle.controller.specs.State.{State}
use Rattle.controller.specs.Replay.{replay}
use Rattle.sem_kept.specs.KeptProgram.{BehavesAlike}
use Rattle.s7_cli.specs.GenText.{memory_byte, summary_of}

byte-read : (m : Areas) → AreByteValues m.bit_memory → (n : ℕ) → n < length m.bit_memory
    → var_value m (memory_byte n) ≡ Some (get_or m.bit_memory n 0)
byte-read m small n there =
    number_at_bytes m (memory_byte n).place Byte ∙ run_number m.bit_memory n 0 Byte small within
  where
    within : is_within m.bit_memory n 0 Byte ≡ true
    within = grind (arith, nat_tests)

-- bytes in a row, from one on
pub bytes-read : (m : Areas) → AreByteValues m.bit_memory → (count first index : ℕ) → first + count ≤ length m.bit_memory
    → values_from m index (map memory_byte (range_with_len first count)) ≡ Ok (take count (drop first m.bit_memory))
bytes-read m small zero first index within = refl
bytes-read m small (suc count) first index within =
    ap (λ (o : Option ℕ). value_before o index (values_from m (index + 1) (map memory_byte (range_with_len (first + 1) count))))
    (byte-read m small first here)
    ∙ ap (value_before (Some byte) index) (bytes-read m small count (first + 1) (index + 1) (omega (arith, within)))
    ∙ ap (λ (bytes : List ℕ). Ok (take (suc count) bytes)) (sym (drop_next m.bit_memory first byte here next))
  where
    here : first < length m.bit_memory
    here = omega (arith, within)

    byte : ℕ
    byte = get_or m.bit_memory first 0

    next : byte ≡ get_or m.bit_memory first byte
    next = sym (get_or_default_zero m.bit_memory first byte here)

-- bit memory has 256 bytes at least
enough : (profile : Profile) → 256 ≤ bit_memory_size profile
enough Small = omega arith
enough Large = omega arith

pub eight-read : (m : Areas) → IsMemory m → (first : ℕ) → first ≤ 248
    → values_from m 1 (map memory_byte (range_with_len first 8)) ≡ Ok (take 8 (drop first m.bit_memory))
eight-read m is first low =
    bytes-read m is.bit_memory.bytes_are 8 first 1
    (omega (arith, low, is.bit_memory.count_is, enough is.bit_memory.profile))

-- what a reply has read; nothing, where it isn't that of a read
abbrev pub values_in : Reply → List ℕ
values_in (Values values) = values
values_in _ = []

-- a read of eight bytes of bit memory is answered by them
pub eight-answered : (code : Code) (s : State) → IsMemory s.store.memory → (first : ℕ) → first ≤ 248 → (vars : List Var)
    → vars ≡ map memory_byte (range_with_len first 8)
    → request_reply code (ReadVars vars) s ≡ Values (take 8 (drop first s.store.memory.bit_memory))
unfolding request_reply
eight-answered code s is first low vars are =
    ap (λ (read : List Var). read_reply (values_from s.store.memory 1 read)) are
    ∙ ap read_reply (eight-read s.store.memory is first low)

-- ---- sums

sum-append : (xs ys : List ℕ) → sum (xs ++ ys) ≡ sum xs + sum ys
sum-append xs ys = grind (arith, common_steps)

-- the sum of a front, and of what stands behind it
pub sum-on : (bytes : List ℕ) (n m : ℕ) → sum (take (n + m) bytes) ≡ sum (take n bytes) + sum (take m (drop n bytes))
sum-on bytes n m = ap sum (take-add n m bytes) ∙ sum-append (take n bytes) (take m (drop n bytes))

-- ---- the summary is one for programs that no history tells apart

pub summary-kept : (number entries : ℕ) (profile : Profile) (c d : Code) → BehavesAlike profile c d → (events : List What)
    → summary_of number entries (replay profile d events) ≡ summary_of number entries (replay profile c events)
unfolding summary_of
summary-kept number entries profile c d kept events =
    ap (λ (mode : Mode). summary_of number entries (record (replay profile d events) { mode = mode })) (kept.mode events)
    ∙ ap (λ (store : GlobalStore). summary_of number entries (record (replay profile c events) { store = store })) (kept.store events)
