-- The offsets of statements in a table, and jumps that lead to them.
use Rattle.std.proofs.Common.{◌≡◌, ℕ, zero, suc, ◌+◌, ◌≤◌, ◌<◌, Bool, true, false, List, [], ◌∷◌, ◌++◌, length, map, drop, get_or, Option, Some, None, refl, sym, ap, subst, ◌∙◌, arith}
use Rattle.std.proofs.lemmas.Bool.{and_parts}
use Rattle.std.proofs.lemmas.List.{drop_more}
use Rattle.flat_code.specs.Codes.{are_ops, size_of_op}
use Rattle.flat_code.specs.Ops.{OpData, IsOp, is_op}
use Rattle.stl_codegen.specs.CompiledBlock.{offset_from, offset_of_statement, op_with_target, placed_ops}
use Rattle.stl_codegen.specs.Places.{offset_in_table, extended_starts, IsOffset, AreStatementOffsets}

-- the offset of a statement behind others that begin at these offsets
pub offset_behind : List ℕ → (at : ℕ) → (begins : Bool) → List OpData → ℕ → ℕ
offset_behind [] at begins ops n = offset_from at begins ops n
offset_behind (s ∷ ss) at begins ops zero = s
offset_behind (s ∷ ss) at begins ops (suc n) = offset_behind ss at begins ops n

-- those that are known, and those of the ops that are left, are the offsets of all
pub record Reaches (starts : List ℕ) (at : ℕ) (begins : Bool) (left ops : List OpData) : Type 0 where
  pub each : (n : ℕ) → offset_behind starts at begins left n ≡ offset_of_statement ops n

pub reaches_none : (ops : List OpData) → Reaches [] 0 true ops ops
unfolding offset_behind offset_of_statement
reaches_none ops = record { each = λ n. refl }

step_begun : (starts : List ℕ) (at : ℕ) (op : OpData) (ops : List OpData) (n : ℕ) → offset_behind (starts ++ at ∷ []) (at + size_of_op op) op.last ops n ≡ offset_behind starts at true (op ∷ ops) n
unfolding offset_behind
step_begun [] at op ops zero = refl
step_begun [] at op ops (suc n) = refl
step_begun (s ∷ ss) at op ops zero = refl
step_begun (s ∷ ss) at op ops (suc n) = step_begun ss at op ops n

step_within : (starts : List ℕ) (at : ℕ) (op : OpData) (ops : List OpData) (n : ℕ) → offset_behind starts (at + size_of_op op) op.last ops n ≡ offset_behind starts at false (op ∷ ops) n
unfolding offset_behind
step_within [] at op ops n = refl
step_within (s ∷ ss) at op ops zero = refl
step_within (s ∷ ss) at op ops (suc n) = step_within ss at op ops n

pub reaches_more : (starts : List ℕ) (at : ℕ) (begins : Bool) (op : OpData) (left ops : List OpData) → Reaches starts at begins (op ∷ left) ops → Reaches (extended_starts starts at begins) (at + size_of_op op) op.last left ops
reaches_more starts at true op left ops h = record { each = λ n. step_begun starts at op left n ∙ h.each n }
reaches_more starts at false op left ops h = record { each = λ n. step_within starts at op left n ∙ h.each n }

-- no offset stands before that at which the ops begin
from_there : (at : ℕ) (begins : Bool) (ops : List OpData) (n : ℕ) → at ≤ offset_from at begins ops n
from_there at begins [] n = omega arith
from_there at true (op ∷ ops) zero = omega arith
from_there at true (op ∷ ops) (suc n) = let h = from_there (at + size_of_op op) op.last ops n in omega arith
from_there at false (op ∷ ops) n = let h = from_there (at + size_of_op op) op.last ops n in omega arith

offsets_at : (starts : List ℕ) (at : ℕ) (begins : Bool) (left : List OpData) (end : Option ℕ) (n : ℕ) → ((m : ℕ) → IsOffset end (offset_from at begins left m)) → IsOffset (offset_in_table starts end n) (offset_behind starts at begins left n)
unfolding offset_behind
offsets_at [] at begins left end n h = h n
offsets_at (s ∷ ss) at begins left end zero h = refl
offsets_at (s ∷ ss) at begins left end (suc n) h = offsets_at ss at begins left end n h

-- all ops were passed, or the next offset doesn't fit
pub offsets_end : (starts : List ℕ) (at : ℕ) (begins : Bool) (ops : List OpData) → Reaches starts at begins [] ops → AreStatementOffsets starts (Some at) ops
offsets_end starts at begins ops h = record { each = λ n. subst (λ (k : ℕ). IsOffset (offset_in_table starts (Some at) n) k) (h.each n) (offsets_at starts at begins [] (Some at) n (λ m. refl)) }

pub offsets_past : (starts : List ℕ) (at : ℕ) (begins : Bool) (left ops : List OpData) → 4294967296 ≤ at → Reaches starts at begins left ops → AreStatementOffsets starts None ops
offsets_past starts at begins left ops past h = record { each = λ n. subst (λ (k : ℕ). IsOffset (offset_in_table starts None n) k) (h.each n) (offsets_at starts at begins left None n (λ m. let le = from_there at begins left m in omega arith)) }

-- ---- jumps

next_of : (xs : List OpData) (i : ℕ) (x : OpData) → i < length xs → x ≡ get_or xs i x → drop i xs ≡ x ∷ drop (i + 1) xs
next_of xs i x lt is = drop_more xs i x lt ∙ ap (λ (z : OpData). z ∷ drop (i + 1) xs) (sym is)

-- one op more was passed
pub reaches_next : (starts now : List ℕ) (at end : ℕ) (begins : Bool) (ops : List OpData) (i : ℕ) (op : OpData) → i < length ops → op ≡ get_or ops i op → now ≡ extended_starts starts at begins → end ≡ at + size_of_op op
    → Reaches starts at begins (drop i ops) ops → Reaches now end op.last (drop (i + 1) ops) ops
reaches_next starts now at end begins ops i op lt is n e h =
    let here = subst (λ (z : List OpData). Reaches starts at begins z ops) (next_of ops i op lt is) h in
    let more = reaches_more starts at begins op (drop (i + 1) ops) ops here in
    subst (λ (z : List ℕ). Reaches z end op.last (drop (i + 1) ops) ops) (sym n)
    (subst (λ (k : ℕ). Reaches (extended_starts starts at begins) k op.last (drop (i + 1) ops) ops) (sym e) more)

-- an op that is none is found among all
none_at : (f : OpData → OpData) (ops : List OpData) (i : ℕ) (op : OpData) → i < length ops → op ≡ get_or ops i op → (IsOp (f op) → ⊥) → are_ops (map f ops) ≡ true → ⊥
none_at f [] i op lt is none all = absurd (omega arith)
none_at f (x ∷ xs) zero op lt is none all = none (ap (λ (z : OpData). is_op (f z).code (f z).operand) is ∙ (and_parts _ _ all).0)
none_at f (x ∷ xs) (suc i) op lt is none all = none_at f xs i op (omega arith) is none (and_parts _ _ all).1

is_false : (b : Bool) → (b ≡ true → ⊥) → b ≡ false
is_false true h = absurd (h refl)
is_false false h = refl

pub are_none : (ops : List OpData) (i : ℕ) (op : OpData) → i < length ops → op ≡ get_or ops i op → (IsOp (op_with_target (offset_of_statement ops) op) → ⊥) → are_ops (placed_ops ops) ≡ false
unfolding placed_ops
are_none ops i op lt is none = is_false (are_ops (map (op_with_target (offset_of_statement ops)) ops)) (none_at (op_with_target (offset_of_statement ops)) ops i op lt is none)
