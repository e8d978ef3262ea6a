-- What an operand of the code reads as, where it stands for what is named.
use Rattle.std.proofs.Common.{ℕ, ◌≡◌, ◌==◌, Bool, true, false, List, slice_get, Option, Some, None, Result, Ok, Err, ok_or, option_map, if◌then◌else◌, refl, ◌∙◌, ap}
use Rattle.std.proofs.lemmas.Bool.{false≢true}
use Rattle.plc_base.specs.ErrorCodes as errors
use Rattle.plc_base.specs.declared.flags.Flag.{Flag}
use Rattle.plc_base.specs.declared.flags.Flag.TheVariants as flag
use Rattle.plc_base.specs.declared.places.Area.{Area}
use Rattle.plc_base.specs.declared.places.Area.TheVariants as area
use Rattle.plc_base.specs.declared.places.Width.TheVariants as widths
use Rattle.status_word.specs.Flags.{flag_value}
use Rattle.timers_counters.specs.Counter.{Counter, count_bcd, is_counting}
use Rattle.timers_counters.specs.ByNumber.{read_at_number}
use Rattle.timers_counters.specs.Timer.{Timer, time_left, units_left}
use Rattle.timers_counters.specs.declared.faults.TimerFault.TheVariants.{NoNumber}
use Rattle.frames.specs.declared.bindings.Binding.{Binding}
use Rattle.frames.specs.declared.bindings.Binding.TheVariants as binding
use Rattle.flat_code.specs.Kinds.{condition_number, flag_of}
use Rattle.flat_code.specs.declared.operands.Operand.{Operand}
use Rattle.flat_code.specs.declared.operands.Operand.TheVariants as flat
use Rattle.machine.specs.ExecState.{ExecState, then_ok}
use Rattle.machine.specs.Places as places
use Rattle.machine.specs.Values as values
use Rattle.machine.specs.declared.places.Access.{Access}
use Rattle.machine.specs.declared.places.Access.TheVariants.{Reading}
use Rattle.statement_laws.specs.NamedOperands.{NamedItem, ItemNumber, OpenBlockFact, OperandPlace}
use Rattle.statement_laws.specs.NamedOperands as named
use Rattle.statement_laws.specs.Reading as own
use Rattle.statement_laws.proofs.PlaceLemmas.{crossing_same, fixed_same, pointed_same, read_same, standing_same, then_same}

-- ---- operands of the code

abbrev pub flat_place : OperandPlace → Operand
flat_place (named.Fixed a w byte bit) = flat.Direct a w byte bit
flat_place (named.ByMemory a w from byte) = flat.ByMemory a w from byte
flat_place (named.ByRegister a w register count) = flat.ByRegister a w register count

-- timers are of kind 1, counters of kind 2
abbrev pub flat_number : (kind : ℕ) → ItemNumber → Operand
flat_number kind (named.Written number) = flat.Numbered kind number
flat_number kind (named.InWord from byte) = flat.NumberedBy kind from byte

abbrev pub flat_block : (di : Bool) → ItemNumber → Operand
flat_block di (named.Written number) = flat.OpenBlock (if di then 2 else 1) number
flat_block di (named.InWord from byte) = flat.OpenBy (if di then 2 else 1) from byte

abbrev pub flat_fact : OpenBlockFact → Operand
flat_fact named.DbLength = flat.Literal 0
flat_fact named.DbNumber = flat.Literal 1
flat_fact named.DiLength = flat.Literal 2
flat_fact named.DiNumber = flat.Literal 3

-- the operand of the code for what is named
abbrev pub flat_of : NamedItem → Operand
flat_of (named.Place place) = flat_place place
flat_of (named.PlaceIn block w byte bit) = flat.Direct area.Db w byte bit
flat_of (named.Parameter index w) = flat.Parameter index w
flat_of (named.Constant value) = flat.Literal (own.bits_of_literal value)
flat_of (named.Pointer value) = flat.Literal value
flat_of (named.Condition f) = flat.OfStatus (condition_number f)
flat_of (named.Timer n) = flat_number 1 n
flat_of (named.Counter n) = flat_number 2 n
flat_of (named.DataBlock di n) = flat_block di n
flat_of (named.Opened what) = flat_fact what
flat_of _ = flat.Nothing

-- ---- places

found_same : (access : Access) (place : OperandPlace) (p : ExecState)
    → places.operand_location access (flat_place place) p.local p.memory ≡ own.place_of_operand_place access place p
unfolding places.operand_location own.place_of_operand_place
found_same access (named.Fixed a w byte bit) p = fixed_same access a w byte bit p
found_same access (named.ByMemory a w from byte) p =
    then_same (places.pointer_number from byte widths.Dword p.local p.memory)
    (own.stored_number from byte widths.Dword p)
    (λ n. places.pointer_location access a w n p.local) (λ n. own.place_at_pointer_in_area access a w n p)
    (standing_same from byte widths.Dword p) (λ n. pointed_same access a w n p)
found_same access (named.ByRegister None w register count) p =
    crossing_same access w (places.register_address register p.local)
    (places.address_moved_by (places.register_address register p.local) count) p
found_same access (named.ByRegister (Some a) w register count) p =
    pointed_same access a w (places.address_moved_by (places.register_address register p.local) count) p

bound_same : (o : Option Binding) → places.binding_location o ≡ own.place_of_binding o
bound_same None = refl
bound_same (Some (binding.AtPlace place w frame)) = refl
bound_same (Some _) = refl

-- what is named isn't in a data block that the statement opens first
abbrev pub opens_no_block : NamedItem → Bool
opens_no_block (named.PlaceIn block w byte bit) = false
opens_no_block _ = true

pub place_same : (access : Access) (x : NamedItem) (p : ExecState) → opens_no_block x ≡ true
    → places.operand_location access (flat_of x) p.local p.memory ≡ own.place_of_operand access x p
unfolding places.operand_location own.place_of_operand
place_same access (named.Place place) p e = found_same access place p
place_same access (named.PlaceIn block w byte bit) p e = absurd (false≢true e)
place_same access (named.Parameter index w) p e = bound_same (slice_get p.local.inner.bindings index)
place_same access (named.Timer (named.Written n)) p e = refl
place_same access (named.Timer (named.InWord from byte)) p e = refl
place_same access (named.Counter (named.Written n)) p e = refl
place_same access (named.Counter (named.InWord from byte)) p e = refl
place_same access (named.DataBlock di (named.Written n)) p e = refl
place_same access (named.DataBlock di (named.InWord from byte)) p e = refl
place_same access (named.Opened named.DbLength) p e = refl
place_same access (named.Opened named.DbNumber) p e = refl
place_same access (named.Opened named.DiLength) p e = refl
place_same access (named.Opened named.DiNumber) p e = refl
place_same access _ p e = refl

-- ---- numbers

bound_number_same : (o : Option Binding) (p : ExecState)
    → values.number_of_binding o p.local p.memory ≡ own.number_of_parameter o p
bound_number_same None p = refl
bound_number_same (Some (binding.AtPlace place w frame)) p =
    read_same (record { place = place; width = w; frame = frame }) p
bound_number_same (Some (binding.Constant value)) p = refl
bound_number_same (Some _) p = refl

-- what is named can be read as a number or a bit, or not at all
abbrev pub is_read : NamedItem → Bool
is_read (named.PlaceIn block w byte bit) = false
is_read (named.Opened what) = false
is_read _ = true

place_read : (place : OperandPlace) (p : ExecState)
    → then_ok (places.operand_location Reading (flat_place place) p.local p.memory)
    (λ b. places.number_read_at b p.local p.memory)
    ≡ then_ok (own.place_of_operand_place Reading place p) (λ b. own.number_or_error Reading b p)
place_read place p =
    then_same (places.operand_location Reading (flat_place place) p.local p.memory) (own.place_of_operand_place Reading place p)
    (λ b. places.number_read_at b p.local p.memory) (λ b. own.number_or_error Reading b p)
    (found_same Reading place p) (λ b. read_same b p)

place_number : (place : OperandPlace) (p : ExecState)
    → values.operand_number (flat_place place) p.local p.memory
    ≡ then_ok (places.operand_location Reading (flat_place place) p.local p.memory)
    (λ b. places.number_read_at b p.local p.memory)
unfolding values.operand_number
place_number (named.Fixed a w byte bit) p = refl
place_number (named.ByMemory a w from byte) p = refl
place_number (named.ByRegister a w register count) p = refl

pub number_same : (x : NamedItem) (p : ExecState) → is_read x ≡ true
    → values.operand_number (flat_of x) p.local p.memory ≡ own.number_of_operand x p
unfolding values.operand_number own.number_of_operand places.operand_location
number_same (named.Place place) p e = place_number place p ∙ place_read place p
number_same (named.PlaceIn block w byte bit) p e = absurd (false≢true e)
number_same (named.Opened what) p e = absurd (false≢true e)
number_same (named.Parameter index w) p e =
    bound_number_same (slice_get p.local.inner.bindings index) p
number_same (named.Timer (named.Written n)) p e = refl
number_same (named.Timer (named.InWord from byte)) p e = refl
number_same (named.Counter (named.Written n)) p e = refl
number_same (named.Counter (named.InWord from byte)) p e = refl
number_same (named.DataBlock di (named.Written n)) p e = refl
number_same (named.DataBlock di (named.InWord from byte)) p e = refl
number_same _ p e = refl

-- ---- timers and counters

pub numbered_same : (kind : ℕ) (n : ItemNumber) (p : ExecState)
    → values.number_named (flat_number kind n) p.local p.memory ≡ own.number_of_item n p
unfolding values.number_named own.number_of_item
numbered_same kind (named.Written n) p = refl
numbered_same kind (named.InWord from byte) p = standing_same from byte widths.Word p

faulty_same : {A B : Type 0} (code : ℕ) (read : A → B) (all : List A) (n : ℕ)
    → values.with_timer_error code (read_at_number read all n) ≡ ok_or (option_map read (slice_get all n)) code
faulty_same {A = A} code read all n = by (slice_get all n)
  where
    by : (o : Option A)
        → values.with_timer_error code (ok_or (option_map read o) NoNumber) ≡ ok_or (option_map read o) code
    by None = refl
    by (Some x) = refl

-- a condition by its number in the code
flag_same : (f : Flag) → flag_of (condition_number f) ≡ f
unfolding flag_of
flag_same flag.Br = refl
flag_same flag.Ov = refl
flag_same flag.Os = refl
flag_same flag.EqZero = refl
flag_same flag.NeZero = refl
flag_same flag.GtZero = refl
flag_same flag.LtZero = refl
flag_same flag.GeZero = refl
flag_same flag.LeZero = refl
flag_same flag.Uo = refl

one_same : (r : Result ℕ ℕ) → values.bit_of_number r ≡ then_ok r (λ n. Ok (n == 1))
one_same (Ok n) = refl
one_same (Err code) = refl

-- of a timer or a counter by its number in a word
in_word : {A B : Type 0} (code : ℕ) (read : A → B) (all : List A) (from : Area) (byte : ℕ) (p : ExecState)
    → then_ok (places.pointer_number from byte widths.Word p.local p.memory)
    (λ n. values.with_timer_error code (read_at_number read all n))
    ≡ then_ok (own.stored_number from byte widths.Word p)
    (λ n. ok_or (option_map read (slice_get all n)) code)
in_word code read all from byte p =
    then_same (places.pointer_number from byte widths.Word p.local p.memory)
    (own.stored_number from byte widths.Word p)
    (λ n. values.with_timer_error code (read_at_number read all n))
    (λ n. ok_or (option_map read (slice_get all n)) code)
    (standing_same from byte widths.Word p) (λ n. faulty_same code read all n)

place_tested : (place : OperandPlace) (p : ExecState)
    → values.checked_bit (flat_place place) p.local p.memory p.timers p.counters
    ≡ values.bit_of_number (values.operand_number (flat_place place) p.local p.memory)
unfolding values.checked_bit
place_tested (named.Fixed a w byte bit) p = refl
place_tested (named.ByMemory a w from byte) p = refl
place_tested (named.ByRegister a w register count) p = refl

pub tested_same : (x : NamedItem) (p : ExecState) → is_read x ≡ true
    → values.checked_bit (flat_of x) p.local p.memory p.timers p.counters ≡ own.bit_of_operand x p
unfolding values.checked_bit values.bit_of_numbered own.bit_of_operand own.number_of_item
tested_same (named.Place place) p e =
    place_tested place p
    ∙ ap values.bit_of_number (number_same (named.Place place) p e)
    ∙ one_same (own.number_of_operand (named.Place place) p)
tested_same (named.PlaceIn block w byte bit) p e = absurd (false≢true e)
tested_same (named.Opened what) p e = absurd (false≢true e)
tested_same (named.Timer (named.Written n)) p e =
    faulty_same errors.no_timer (λ (timer : Timer). timer.output) p.timers n
tested_same (named.Timer (named.InWord from byte)) p e =
    in_word errors.no_timer (λ (timer : Timer). timer.output) p.timers from byte p
tested_same (named.Counter (named.Written n)) p e = faulty_same errors.no_counter is_counting p.counters n
tested_same (named.Counter (named.InWord from byte)) p e = in_word errors.no_counter is_counting p.counters from byte p
tested_same (named.Condition f) p e = ap (λ g. Ok (flag_value g p.local.regs.status)) (flag_same f)
tested_same (named.DataBlock di (named.Written n)) p e =
    ap values.bit_of_number (number_same (named.DataBlock di (named.Written n)) p e)
    ∙ one_same (own.number_of_operand (named.DataBlock di (named.Written n)) p)
tested_same (named.DataBlock di (named.InWord from byte)) p e =
    ap values.bit_of_number (number_same (named.DataBlock di (named.InWord from byte)) p e)
    ∙ one_same (own.number_of_operand (named.DataBlock di (named.InWord from byte)) p)
tested_same x p e = ap values.bit_of_number (number_same x p e) ∙ one_same (own.number_of_operand x p)

place_loaded : (place : OperandPlace) (p : ExecState)
    → values.load_value (flat_place place) p.local p.memory p.timers p.counters
    ≡ values.operand_number (flat_place place) p.local p.memory
unfolding values.load_value
place_loaded (named.Fixed a w byte bit) p = refl
place_loaded (named.ByMemory a w from byte) p = refl
place_loaded (named.ByRegister a w register count) p = refl

pub loaded_same : (x : NamedItem) (p : ExecState) → is_read x ≡ true
    → values.load_value (flat_of x) p.local p.memory p.timers p.counters ≡ own.number_to_load x p
unfolding values.load_value values.value_of_numbered own.number_to_load own.number_of_item
loaded_same (named.Place place) p e = place_loaded place p ∙ number_same (named.Place place) p e
loaded_same (named.PlaceIn block w byte bit) p e = absurd (false≢true e)
loaded_same (named.Opened what) p e = absurd (false≢true e)
loaded_same (named.Timer (named.Written n)) p e = faulty_same errors.no_timer units_left p.timers n
loaded_same (named.Timer (named.InWord from byte)) p e =
    in_word errors.no_timer units_left p.timers from byte p
loaded_same (named.Counter (named.Written n)) p e =
    faulty_same errors.no_counter (λ (counter : Counter). counter.value) p.counters n
loaded_same (named.Counter (named.InWord from byte)) p e =
    in_word errors.no_counter (λ (counter : Counter). counter.value) p.counters from byte p
loaded_same (named.DataBlock di (named.Written n)) p e =
    number_same (named.DataBlock di (named.Written n)) p e
loaded_same (named.DataBlock di (named.InWord from byte)) p e =
    number_same (named.DataBlock di (named.InWord from byte)) p e
loaded_same x p e = number_same x p e

pub bcd_same : (x : NamedItem) (p : ExecState)
    → values.bcd_loaded (flat_of x) p.local p.memory p.timers p.counters ≡ own.bcd_to_load x p
unfolding values.bcd_loaded values.bcd_of_numbered own.bcd_to_load own.number_of_item
bcd_same (named.Timer (named.Written n)) p = faulty_same errors.no_timer time_left p.timers n
bcd_same (named.Timer (named.InWord from byte)) p = in_word errors.no_timer time_left p.timers from byte p
bcd_same (named.Counter (named.Written n)) p = faulty_same errors.no_counter count_bcd p.counters n
bcd_same (named.Counter (named.InWord from byte)) p = in_word errors.no_counter count_bcd p.counters from byte p
bcd_same (named.Place (named.Fixed a w byte bit)) p = refl
bcd_same (named.Place (named.ByMemory a w from byte)) p = refl
bcd_same (named.Place (named.ByRegister a w register count)) p = refl
bcd_same (named.DataBlock di (named.Written n)) p = refl
bcd_same (named.DataBlock di (named.InWord from byte)) p = refl
bcd_same (named.Opened named.DbLength) p = refl
bcd_same (named.Opened named.DbNumber) p = refl
bcd_same (named.Opened named.DiLength) p = refl
bcd_same (named.Opened named.DiNumber) p = refl
bcd_same _ p = refl
