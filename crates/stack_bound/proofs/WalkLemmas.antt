-- Walking the ops of a block by their offsets.
use Rattle.std.proofs.Common.{◌≡◌, ℕ, ◌+◌, ◌<◌, Bool, true, false, List, [], ◌∷◌, length, Option, Some, None, refl, sym, ap, ◌∙◌, subst, arith, if◌then◌else◌}
use Rattle.std.specs.Prelude.{◌==◌}
use Rattle.std.proofs.lemmas.Bool.Decides.{nat_tests}
use Rattle.flat_code.specs.Codes.{size_of_op}
use Rattle.flat_code.specs.Forms.{form_of_operand, payload}
use Rattle.flat_code.specs.Ops.{OpData, op_bytes, code_byte}
use Rattle.flat_code.specs.PlacedOps.{op_placed}
use Rattle.stack_bound.specs.Walking.{ops_after_offset}

two_bytes : (a b : ℕ) (rest : List ℕ) → 0 < length (a ∷ b ∷ rest)
two_bytes a b rest = omega arith

-- each op takes bytes
has_size : (op : OpData) → 0 < size_of_op op
unfolding size_of_op op_bytes
has_size op = two_bytes (code_byte op.code op.last) (form_of_operand op.operand) (payload op.operand)

abbrev behind_of : ℕ → Option (OpData × ℕ) → ℕ
behind_of d None = d
behind_of d (Some r) = r.1

abbrev op_in : OpData → Option (OpData × ℕ) → OpData
op_in d None = d
op_in d (Some r) = r.0

-- an op that is found stands not before the first, and ends behind where it begins
ends_behind : (from : ℕ) (ops : List OpData) (at : ℕ) (r : OpData × ℕ)
    → op_placed from ops at ≡ Some r → from < r.1
ends_behind from [] at r is = absurd cc
ends_behind from (op ∷ ops) at r is =
    by (ends_behind (from + size_of_op op) ops at r) (from == at) is
  where
    by : (op_placed (from + size_of_op op) ops at ≡ Some r → from + size_of_op op < r.1) → (test : Bool)
        → (if test then Some (op, from + size_of_op op) else op_placed (from + size_of_op op) ops at) ≡ Some r
        → from < r.1
    by later true same =
        subst (λ (n : ℕ). from < n)
        (ap (λ (o : Option (OpData × ℕ)). behind_of 0 o) same) (omega (arith, has_size op))
    by later false same = omega (arith, later same)

-- the first op of some begins where they do
behind_first : (from : ℕ) (ops : List OpData) → ops_after_offset from ops from ≡ ops
behind_first from [] = refl
behind_first from (op ∷ ops) = rw at_first refl
  where
    at_first : (from == from) ≡ true
    at_first = grind (arith, nat_tests)

skips : (from : ℕ) (op : OpData) (ops : List OpData) (at : ℕ) → from < at
    → ops_after_offset from (op ∷ ops) at ≡ ops_after_offset (from + size_of_op op) ops at
skips from op ops at over = rw apart refl
  where
    apart : (from == at) ≡ false
    apart = grind (arith, nat_tests)

-- an op that is found is the first of those from there on, and the others stand behind it
pub walk_goes_on : (from : ℕ) (ops : List OpData) (at : ℕ) (op : OpData) (next : ℕ)
    → op_placed from ops at ≡ Some (op, next)
    → ops_after_offset from ops at ≡ op ∷ ops_after_offset from ops next
walk_goes_on from [] at op next is = absurd cc
walk_goes_on from (one ∷ ops) at op next is =
    by (λ same. walk_goes_on (from + size_of_op one) ops at op next same) (from == at) refl is
  where
    by : (op_placed (from + size_of_op one) ops at ≡ Some (op, next)
        → ops_after_offset (from + size_of_op one) ops at ≡ op ∷ ops_after_offset (from + size_of_op one) ops next)
        → (test : Bool) → (from == at) ≡ test
        → (if test then Some (one, from + size_of_op one) else op_placed (from + size_of_op one) ops at)
        ≡ Some (op, next)
        → (if test then one ∷ ops else ops_after_offset (from + size_of_op one) ops at)
        ≡ op ∷ ops_after_offset from (one ∷ ops) next
    by later true here same =
        let first : one ≡ op = ap (λ (o : Option (OpData × ℕ)). op_in one o) same in
        let end : from + size_of_op one ≡ next = ap (λ (o : Option (OpData × ℕ)). behind_of 0 o) same in
        ap (λ (o : OpData). o ∷ ops) first
        ∙ ap (λ (rest : List OpData). op ∷ rest)
        (sym (behind_first (from + size_of_op one) ops)
        ∙ ap (λ (n : ℕ). ops_after_offset (from + size_of_op one) ops n) end
        ∙ sym (skips from one ops next (omega (arith, has_size one, end))))
    by later false apart same =
        later same
        ∙ ap (λ (rest : List OpData). op ∷ rest)
        (sym (skips from one ops next (omega (arith, ends_behind (from + size_of_op one) ops at (op, next) same))))

-- where none is found, none is left
pub walk_ends : (from : ℕ) (ops : List OpData) (at : ℕ) → op_placed from ops at ≡ None
    → ops_after_offset from ops at ≡ []
walk_ends from [] at is = refl
walk_ends from (op ∷ ops) at is =
    by (λ same. walk_ends (from + size_of_op op) ops at same) (from == at) is
  where
    by : (op_placed (from + size_of_op op) ops at ≡ None → ops_after_offset (from + size_of_op op) ops at ≡ [])
        → (test : Bool)
        → (if test then Some (op, from + size_of_op op) else op_placed (from + size_of_op op) ops at) ≡ None
        → (if test then op ∷ ops else ops_after_offset (from + size_of_op op) ops at) ≡ []
    by later true same = absurd cc
    by later false same = later same

-- at the begin all are left
pub all_behind : (ops : List OpData) → ops_after_offset 0 ops 0 ≡ ops
all_behind ops = behind_first 0 ops
