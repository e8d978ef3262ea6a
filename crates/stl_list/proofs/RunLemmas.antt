-- The offsets of statements: they rise, and are found by a binary search.
use Rattle.std.proofs.Common.{◌≡◌, ℕ, zero, suc, ◌+◌, ◌≤◌, ◌<◌, eqb, ltb, cond, Bool, true, false, List, [], ◌∷◌, ◌++◌, length, drop, get_or, refl, sym, ap, subst, ◌∙◌, append_assoc, length-append, arith}
use Rattle.std.specs.List.{AllByRecursion, position_or_len}
use Rattle.std.specs.List.Sorted.{IsBinarySearchResult, IsStrictlySortedBy}
use Rattle.std.specs.Ordering.{nat_cmp}
use Rattle.std.specs.Prelude.{Ok, Err}
use Rattle.std.specs.declared.cmp.Ordering.TheVariants.{Less}
use Rattle.std.proofs.lemmas.Bool.Decides.{nat_tests}
use Rattle.std.proofs.lemmas.List.{append-nil, drop_more}
use Rattle.std.proofs.lemmas.List.Sorted.{searched}
use Rattle.std.proofs.lemmas.Map.Keys.{below_from_sorted}
use Rattle.flat_code.specs.Codes.{code_bytes, size_of_op}
use Rattle.flat_code.specs.Ops.{OpData, op_bytes}
use Rattle.stl_list.specs.Runs.{statement_number_at, runs_from, start_here, statement_starts, starts_from}

-- ---- they rise

size_above : (op : OpData) → 0 < size_of_op op
unfolding size_of_op op_bytes
size_above op = omega arith

-- all of them are at a place or past it
AreFrom : ℕ → List ℕ → Type 0
AreFrom at [] = Unit {0}
AreFrom at (s ∷ ss) = (at ≤ s) × AreFrom at ss

from_later : (at next : ℕ) (ss : List ℕ) → at ≤ next → AreFrom next ss → AreFrom at ss
unfolding AreFrom
from_later at next [] le h = tt
from_later at next (s ∷ ss) le h = (omega (arith, h.0), from_later at next ss le h.1)

are_from : (at : ℕ) (begins : Bool) (ops : List OpData) → AreFrom at (starts_from at begins ops)
unfolding AreFrom
are_from at begins [] = tt
are_from at true (op ∷ ops) = (omega arith, from_later at (at + size_of_op op) (starts_from (at + size_of_op op) op.last ops) (omega arith) (are_from (at + size_of_op op) op.last ops))
are_from at false (op ∷ ops) = from_later at (at + size_of_op op) (starts_from (at + size_of_op op) op.last ops) (omega arith) (are_from (at + size_of_op op) op.last ops)

less_from : (at next : ℕ) (ss : List ℕ) → at < next → AreFrom next ss → AllByRecursion (λ y. nat_cmp at y ≡ Less) ss
unfolding AreFrom
less_from at next [] lt h = tt
less_from at next (s ∷ ss) lt h =
    let below : at < s = omega (arith, h.0) in
    (grind (arith, nat_tests), less_from at next ss lt h.1)

rise_from : (at : ℕ) (begins : Bool) (ops : List OpData) → IsStrictlySortedBy nat_cmp (starts_from at begins ops)
unfolding IsStrictlySortedBy
rise_from at begins [] = tt
rise_from at true (op ∷ ops) =
    let above = size_above op in (
      less_from at (at + size_of_op op) (starts_from (at + size_of_op op) op.last ops) (omega arith) (are_from (at + size_of_op op) op.last ops),
      rise_from (at + size_of_op op) op.last ops,
    )
rise_from at false (op ∷ ops) = rise_from (at + size_of_op op) op.last ops

pub starts_rise : (ops : List OpData) → IsStrictlySortedBy nat_cmp (statement_starts ops)
unfolding statement_starts
starts_rise ops = rise_from 0 true ops

-- ---- they are found

position_of_first : (x : ℕ) (xs : List ℕ) (i : ℕ) → i < length xs → get_or xs i 0 ≡ x → ((k : ℕ) → k < i → get_or xs k 0 < x) → position_or_len (λ s. eqb s x) xs ≡ i
position_of_first x [] i lt is before = absurd (omega arith)
position_of_first x (y ∷ ys) zero lt is before = rw is (let e : eqb x x ≡ true = grind (arith, nat_tests) in rw e refl)
position_of_first x (y ∷ ys) (suc i) lt is before =
    let less : y < x = before 0 (omega arith) in
    let e : eqb y x ≡ false = grind (arith, nat_tests) in
    let more = position_of_first x ys i (omega arith) is (λ k le. before (suc k) (omega arith)) in
    rw e (omega (arith, more))

absent : (x : ℕ) (xs : List ℕ) (i : ℕ) → ((k : ℕ) → k < i → get_or xs k 0 < x) → ((k : ℕ) → i ≤ k → k < length xs → x < get_or xs k 0) → position_or_len (λ s. eqb s x) xs ≡ length xs
absent x [] i before behind = refl
absent x (y ∷ ys) zero before behind =
    let more : x < y = behind 0 (omega arith) (omega arith) in
    let e : eqb y x ≡ false = grind (arith, nat_tests) in
    let rest = absent x ys 0 (λ k lt. absurd (omega arith)) (λ k le lt. behind (suc k) (omega arith) (omega arith)) in
    rw e (omega (arith, rest))
absent x (y ∷ ys) (suc i) before behind =
    let less : y < x = before 0 (omega arith) in
    let e : eqb y x ≡ false = grind (arith, nat_tests) in
    let rest = absent x ys i (λ k lt. before (suc k) (omega arith)) (λ k le lt. behind (suc k) (omega arith) (omega arith)) in
    rw e (omega (arith, rest))

not_falling : (xs : List ℕ) → IsStrictlySortedBy nat_cmp xs → (i j : ℕ) → i ≤ j → j < length xs → get_or xs i 0 ≤ get_or xs j 0
not_falling xs h i j le lt = by_test (ltb i j) refl
  where
    by_test : (b : Bool) → ltb i j ≡ b → get_or xs i 0 ≤ get_or xs j 0
    by_test true e =
        let less : i < j = grind (arith, nat_tests) in
        omega (arith, below_from_sorted xs i j 0 h less lt)
    by_test false e =
        let same : i ≡ j = grind (arith, nat_tests) in
        rw same (omega arith)

pub found_at : (starts : List ℕ) (x i : ℕ) → IsStrictlySortedBy nat_cmp starts → IsBinarySearchResult (λ y. nat_cmp y x) starts (Ok i) → i ≡ statement_number_at starts x
unfolding statement_number_at
found_at starts x i rise h =
    let s = searched starts x (Ok i) h (not_falling starts rise) in
    sym (position_of_first x starts i s.0 s.1 (λ k lt. rw (sym s.1) (below_from_sorted starts k i 0 rise lt s.0)))

pub found_nowhere : (starts : List ℕ) (x i : ℕ) → IsStrictlySortedBy nat_cmp starts → IsBinarySearchResult (λ y. nat_cmp y x) starts (Err i) → length starts ≡ statement_number_at starts x
unfolding statement_number_at
found_nowhere starts x i rise h =
    let s = searched starts x (Err i) h (not_falling starts rise) in
    sym (absent x starts i s.1 s.2)

-- ---- the table of them

-- those that were noted, and those of the ops that are left, are all
pub record StartsGoOn (noted : List ℕ) (at : ℕ) (begins : Bool) (left ops : List OpData) : Type 0 where
  pub listed : noted ++ starts_from at begins left ≡ statement_starts ops
  pub place : at + length (code_bytes left) ≡ length (code_bytes ops)

pub reaches_none : (noted : List ℕ) (ops : List OpData) → noted ≡ [] → StartsGoOn noted 0 true ops ops
unfolding statement_starts
reaches_none noted ops is = record { listed = ap (λ (z : List ℕ). z ++ starts_from 0 true ops) is; place = omega arith }

-- the bytes of the ops that are left, behind one op more
bytes_behind : (at after : ℕ) (op : OpData) (rest : List OpData) (whole : ℕ) → after ≡ at + size_of_op op → at + length (code_bytes (op ∷ rest)) ≡ whole → after + length (code_bytes rest) ≡ whole
unfolding size_of_op
bytes_behind at after op rest whole there bytes = omega (arith, there, bytes, length-append (op_bytes op) (code_bytes rest))

-- behind one op more
pub reaches_next : (noted next : List ℕ) (at after : ℕ) (begins : Bool) (op : OpData) (ops : List OpData) (i : ℕ) → i < length ops → op ≡ get_or ops i op
    → next ≡ noted ++ start_here at begins → after ≡ at + size_of_op op → StartsGoOn noted at begins (drop i ops) ops → StartsGoOn next after op.last (drop (i + 1) ops) ops
reaches_next noted next at after begins op ops i within is more there h =
    let parted : drop i ops ≡ op ∷ drop (i + 1) ops = drop_more ops i op within ∙ ap (λ (y : OpData). y ∷ drop (i + 1) ops) (sym is) in
    let all = subst (λ (z : List OpData). noted ++ starts_from at begins z ≡ statement_starts ops) parted h.listed in
    let bytes = subst (λ (z : List OpData). at + length (code_bytes z) ≡ length (code_bytes ops)) parted h.place in
    record {
      listed =
          ap (λ (z : List ℕ). z ++ starts_from after op.last (drop (i + 1) ops)) more
          ∙ append_assoc noted (start_here at begins) (starts_from after op.last (drop (i + 1) ops))
          ∙ ap (λ (k : ℕ). noted ++ (start_here at begins ++ starts_from k op.last (drop (i + 1) ops))) there
          ∙ all;
      place = bytes_behind at after op (drop (i + 1) ops) (length (code_bytes ops)) there bytes;
    }

-- an op that is left has room
pub room_left : (noted : List ℕ) (at : ℕ) (begins : Bool) (op : OpData) (ops : List OpData) (i : ℕ) → i < length ops → op ≡ get_or ops i op
    → StartsGoOn noted at begins (drop i ops) ops → at + size_of_op op ≤ length (code_bytes ops)
unfolding size_of_op
room_left noted at begins op ops i within is h =
    let parted : drop i ops ≡ op ∷ drop (i + 1) ops = drop_more ops i op within ∙ ap (λ (y : OpData). y ∷ drop (i + 1) ops) (sym is) in
    let bytes = subst (λ (z : List OpData). at + length (code_bytes z) ≡ length (code_bytes ops)) parted h.place in
    omega (arith, bytes, length-append (op_bytes op) (code_bytes (drop (i + 1) ops)))

pub reaches_end : (noted : List ℕ) (at : ℕ) (begins : Bool) (left ops : List OpData) → left ≡ [] → StartsGoOn noted at begins left ops → noted ≡ statement_starts ops
reaches_end noted at begins left ops over h =
    sym (append-nil noted) ∙ sym (ap (λ (z : List OpData). noted ++ starts_from at begins z) over) ∙ h.listed

-- ---- statements

-- a statement ends at an op
pub run_ends : (before : List OpData) (op : OpData) (rest : List OpData) → op.last ≡ true
    → runs_from before (op ∷ rest) ≡ record { before = before; op = op } ∷ runs_from [] rest
run_ends before op rest last = by_test op.last last
  where
    by_test : (b : Bool) → b ≡ true → cond b (record { before = before; op = op } ∷ runs_from [] rest) (runs_from (before ++ op ∷ []) rest) ≡ record { before = before; op = op } ∷ runs_from [] rest
    by_test true e = refl
    by_test false e = absurd cc

-- or goes on behind it
pub run_goes : (before : List OpData) (op : OpData) (rest : List OpData) → op.last ≡ false
    → runs_from before (op ∷ rest) ≡ runs_from (before ++ op ∷ []) rest
run_goes before op rest last = by_test op.last last
  where
    by_test : (b : Bool) → b ≡ false → cond b (record { before = before; op = op } ∷ runs_from [] rest) (runs_from (before ++ op ∷ []) rest) ≡ runs_from (before ++ op ∷ []) rest
    by_test true e = absurd cc
    by_test false e = refl
