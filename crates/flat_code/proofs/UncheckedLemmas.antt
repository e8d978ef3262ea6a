-- Ops that are known to stand where they are read: the tests that aren't made would be met.
use Rattle.std.proofs.Common.{◌≡◌, ℕ, suc, ◌+◌, ◌-◌, ◌%◌, ◌<◌, ◌≤◌, Bool, true, false, cond, leb, ltb, is_some, get_or, slice_index_or, List, [], ◌∷◌, length, take, drop, Option, Some, None, refl, sym, ap, ◌∙◌, length-append, length-drop, arith}
use Rattle.std.specs.Option.{option_map, option_and_then}
use Rattle.std.specs.Int.{w16, from_be_bytes}
use Rattle.std.proofs.lemmas.Bool.{ltb-true}
use Rattle.std.proofs.lemmas.Bool.Decides.{nat_tests}
use Rattle.std.proofs.lemmas.List.{take_rest}
use Rattle.plc_base.specs.declared.places.Area.{Area}
use Rattle.plc_base.specs.declared.places.Width.{Width}
use Rattle.flat_code.specs.declared.operands.Operand.{Operand}
use Rattle.flat_code.specs.declared.operands.Operand.TheVariants as operand
use Rattle.flat_code.specs.declared.operands.Passed.{Passed}
use Rattle.flat_code.specs.declared.operands.Passed.TheVariants as passed
use Rattle.flat_code.specs.Codes.{size_of_op}
use Rattle.flat_code.specs.Forms.{actual_in, direct_coding, form_of_operand, payload, payload_in}
use Rattle.flat_code.specs.Ops.{OpData, code_byte, is_op, op_at, op_bytes, op_of}
use Rattle.flat_code.specs.Table.{admits, forms_of}
use Rattle.flat_code.proofs.CodingLemmas.{IsBytes}
use Rattle.flat_code.proofs.OpLemmas.{bytes_from, nothing_past, op_takes, payload_is_op}

-- where something comes of a value, there is the value
there : {A B : Type 0} (o : Option A) (f : A → Option B) → is_some (option_and_then f o) ≡ true → is_some o ≡ true
there None f h = h
there (Some x) f h = refl

-- where something comes of a test, the test is met
test_is_met : {A : Type 0} (test : Bool) (x : A) → is_some (cond test (Some x) None) ≡ true → test ≡ true
test_is_met true x h = refl
test_is_met false x h = absurd cc

-- an op takes two bytes at least
pub too_short : (bytes : List ℕ) → length bytes < 2 → is_some (op_at bytes) ≡ true → ⊥
unfolding op_at
too_short [] less h = cc
too_short (b ∷ []) less h = cc
too_short (b ∷ n ∷ rest) less h = omega (arith, less)

-- the bytes behind the first two
abbrev pub behind_form : List ℕ → List ℕ
behind_form bytes = take (length bytes - 2) (drop 2 bytes)

-- the op of a first byte with the operand that was read, where it takes it
abbrev pub with_operand : ℕ → Operand × List ℕ → Option (OpData × List ℕ)
with_operand b r = cond (admits (forms_of (b % 128)) r.0) (Some (op_of (b % 128) (leb 128 b) r.0, r.1)) None

-- its operand can be read
pub operand_there : (bytes : List ℕ) → is_some (op_at bytes) ≡ true → is_some (payload_in (get_or bytes 1 0) (behind_form bytes)) ≡ true
unfolding op_at
operand_there [] h = absurd cc
operand_there (b ∷ []) h = absurd cc
operand_there (b ∷ n ∷ rest) h =
    ap (λ (z : List ℕ). is_some (payload_in n z)) (take_rest (b ∷ n ∷ rest) 2)
    ∙ there (payload_in n rest) (with_operand b) h

-- the op that was found, and how many bytes it takes
abbrev pub op_and_size : Option (OpData × List ℕ) → Option (OpData × ℕ)
op_and_size found = option_map (λ r. (r.0, size_of_op r.0)) found

len_of : Option (OpData × ℕ) → ℕ
len_of None = 0
len_of (Some found) = found.1

-- it begins within the bytes
pub begins_within : (bytes : List ℕ) (at : ℕ) → is_some (op_at (drop at bytes)) ≡ true → at ≤ length bytes
begins_within bytes at h = by (ltb (length bytes) at) refl
  where
    by : (past : Bool) → ltb (length bytes) at ≡ past → at ≤ length bytes
    by true e = let none = nothing_past bytes at (ltb-true (length bytes) at e) in absurd cc
    by false e = grind (arith, nat_tests)

-- and ends there
pub ends_within : (bytes : List ℕ) (at : ℕ) (op : OpData) (len : ℕ) → IsBytes bytes → at ≤ length bytes
    → op_and_size (op_at (drop at bytes)) ≡ Some (op, len) → at + len ≤ length bytes
unfolding size_of_op len_of
ends_within bytes at op len are within is = by (op_at (drop at bytes)) refl is
  where
    by : (o : Option (OpData × List ℕ)) → op_at (drop at bytes) ≡ o → op_and_size o ≡ Some (op, len) → at + len ≤ length bytes
    by None e s = absurd cc
    by (Some r) e s =
        let parts = (op_takes (drop at bytes) r.0 r.1 (bytes_from at bytes are) e).0.parts in
        let sized : size_of_op r.0 ≡ len = ap len_of s in
        omega (arith, sized, ap length parts ∙ length-append (op_bytes r.0) r.1, length-drop at bytes)

-- an op of the table, and as long as its operand says
pub record IsFirst (bytes : List ℕ) (operand : Operand) (len : ℕ) : Type 0 where
  pub op : is_op (get_or bytes 0 0 % 128) operand ≡ true
  pub is : op_and_size (op_at bytes) ≡ Some (op_of (get_or bytes 0 0 % 128) (leb 128 (get_or bytes 0 0)) operand, len)

-- what is read for the operand, with the code of the first byte
pub is_first : (bytes : List ℕ) (operand : Operand) (len : ℕ) → IsBytes bytes → is_some (op_at bytes) ≡ true
    → option_map (λ r. r.0) (payload_in (get_or bytes 1 0) (behind_form bytes)) ≡ Some operand → len ≡ 2 + length (payload operand)
    → IsFirst bytes operand len
unfolding op_at op_bytes size_of_op
is_first [] operand len are h read sized = absurd cc
is_first (b ∷ []) operand len are h read sized = absurd cc
is_first (b ∷ n ∷ rest) operand len are h read sized =
    by (payload_in n rest) refl h (ap (λ (z : List ℕ). option_map (λ r. r.0) (payload_in n z)) (sym (take_rest (b ∷ n ∷ rest) 2)) ∙ read)
  where
    by : (o : Option (Operand × List ℕ)) → payload_in n rest ≡ o
        → is_some (option_and_then (with_operand b) o) ≡ true
        → option_map (λ r. r.0) o ≡ Some operand → IsFirst (b ∷ n ∷ rest) operand len
    by None e t is = absurd cc
    by (Some r) e t is =
        let same : r.0 ≡ operand = cc in
        let long : length (code_byte (b % 128) (leb 128 b) ∷ form_of_operand operand ∷ payload operand) ≡ len = omega (arith, sized) in
        let taken : admits (forms_of (b % 128)) operand ≡ true = ap (admits (forms_of (b % 128))) (sym same) ∙ test_is_met (admits (forms_of (b % 128)) r.0) (op_of (b % 128) (leb 128 b) r.0, r.1) t in
        record {
          op = payload_is_op (b % 128) n rest operand r.1 (λ i. are (suc (suc i))) (e ∙ ap (λ (z : Operand). Some (z, r.1)) same) (omega arith) taken;
          is = rw (e, same, taken) (ap (λ (n : ℕ). Some (op_of (b % 128) (leb 128 b) operand, n)) long);
        }

-- ---- fixed places: the payload of form 02, in an op and passed, and with a number in form 0C

-- area, width, byte and bit
abbrev FixedPlace : Type 0
FixedPlace = Area × (Width × (ℕ × ℕ))

-- where something is made of what was read, something was read
made_there : {A B : Type 0} (make : A → B) (o : Option (A × List ℕ)) → is_some {T = B × List ℕ} (option_map (λ (r : A × List ℕ). (make r.0, r.1)) o) ≡ true → is_some o ≡ true
made_there make None h = h
made_there make (Some r) h = refl

-- what is made of what was read
made_is : {A B : Type 0} (make : A → B) (o : Option (A × List ℕ)) (x : A) → option_map (λ (r : A × List ℕ). r.0) o ≡ Some x
    → option_map (λ (r : B × List ℕ). r.0) (option_map (λ (r : A × List ℕ). (make r.0, r.1)) o) ≡ Some (make x)
made_is make None x h = absurd cc
made_is make (Some r) x h = ap (option_map make) h

passed_place : FixedPlace → Passed
passed_place x = passed.Direct x.0 x.1.0 x.1.1.0 x.1.1.1

operand_place : FixedPlace → Operand
operand_place x = operand.Direct x.0 x.1.0 x.1.1.0 x.1.1.1

-- a fixed place that is passed
pub place_there : (bytes : List ℕ) → is_some (actual_in 2 bytes) ≡ true → is_some (direct_coding.read bytes) ≡ true
unfolding passed_place
place_there bytes h = made_there passed_place (direct_coding.read bytes) h

pub place_passed : (bytes : List ℕ) (x : FixedPlace) → option_map (λ (r : FixedPlace × List ℕ). r.0) (direct_coding.read bytes) ≡ Some x
    → option_map (λ (r : Passed × List ℕ). r.0) (actual_in 2 bytes) ≡ Some (passed.Direct x.0 x.1.0 x.1.1.0 x.1.1.1)
unfolding passed_place
place_passed bytes x h = made_is passed_place (direct_coding.read bytes) x h

-- a fixed place of an operand
pub place_read : (bytes : List ℕ) (x : FixedPlace) → option_map (λ (r : FixedPlace × List ℕ). r.0) (direct_coding.read bytes) ≡ Some x
    → option_map (λ (r : Operand × List ℕ). r.0) (payload_in 2 bytes) ≡ Some (operand.Direct x.0 x.1.0 x.1.1.0 x.1.1.1)
unfolding payload_in operand_place
place_read bytes x h = made_is operand_place (direct_coding.read bytes) x h

-- a fixed place in a data block that is named
with_number : ℕ → FixedPlace → ℕ × FixedPlace
with_number number x = (number, x)

in_named : ℕ × FixedPlace → Passed
in_named x = passed.InBlock x.0 x.1.0 x.1.1.0 x.1.1.1.0 x.1.1.1.1

pub block_there : (bytes : List ℕ) → is_some (actual_in 12 bytes) ≡ true → is_some (direct_coding.read (behind_form bytes)) ≡ true
unfolding with_number in_named
block_there [] h = absurd cc
block_there (a ∷ []) h = absurd cc
block_there (a ∷ b ∷ rest) h =
    let number : ℕ = from_be_bytes w16 (a ∷ b ∷ []) in
    ap (λ (z : List ℕ). is_some (direct_coding.read z)) (take_rest (a ∷ b ∷ rest) 2)
    ∙ made_there (with_number number) (direct_coding.read rest)
    (made_there in_named (option_map (λ (r : FixedPlace × List ℕ). (with_number number r.0, r.1)) (direct_coding.read rest)) h)

pub block_passed : (bytes : List ℕ) (number : ℕ) (x : FixedPlace)
    → number ≡ from_be_bytes w16 (slice_index_or bytes 0 0 ∷ slice_index_or bytes 1 0 ∷ [])
    → option_map (λ (r : FixedPlace × List ℕ). r.0) (direct_coding.read (behind_form bytes)) ≡ Some x
    → option_map (λ (r : Passed × List ℕ). r.0) (actual_in 12 bytes) ≡ Some (passed.InBlock number x.0 x.1.0 x.1.1.0 x.1.1.1)
unfolding direct_coding with_number in_named
block_passed [] number x is h = absurd cc
block_passed (a ∷ []) number x is h = absurd cc
block_passed (a ∷ b ∷ rest) number x is h = rw is
    (made_is in_named (option_map (λ (r : FixedPlace × List ℕ). (with_number (from_be_bytes w16 (a ∷ b ∷ [])) r.0, r.1)) (direct_coding.read rest)) _
    (made_is (with_number (from_be_bytes w16 (a ∷ b ∷ []))) (direct_coding.read rest) x
    (ap (λ (z : List ℕ). option_map (λ (r : FixedPlace × List ℕ). r.0) (direct_coding.read z)) (sym (take_rest (a ∷ b ∷ rest) 2)) ∙ h)))
