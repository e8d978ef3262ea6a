-- The code of a block is laid out exactly.
use Rattle.std.proofs.Common.{◌≡◌, ℕ, zero, suc, ◌+◌, ◌<◌, ◌≤◌, Bool, true, false, cond, eqb, ltb, ◌&&◌, List, [], ◌∷◌, ◌++◌, length, take, drop, Option, Some, None, refl, sym, ap, subst, ◌∙◌, append_assoc, length-append, length-drop, arith, inl, inr}
use Rattle.std.proofs.lemmas.Bool.{cases_lt, eq-eqb, and_parts, and_from, eqb-true, ltb-false, le-ltb}
use Rattle.std.proofs.lemmas.List.{append-nil, take_at, drop_at, take-append-drop, nil_from_length, get_or-drop, get_or-take, get_or_past, length-take}
use Rattle.flat_code.specs.Ops.{OpData, is_op, op_bytes, op_at}
use Rattle.flat_code.specs.OpCodes.{op_code_of}
use Rattle.flat_code.specs.declared.operations.EndOperation.TheVariants as ends
use Rattle.flat_code.specs.declared.operations.Operation.TheVariants as operation
use Rattle.flat_code.proofs.CodingLemmas.{IsBytes, BeginsWith}
use Rattle.flat_code.proofs.OpLemmas.{op_again, op_takes, long_enough}
use Rattle.flat_code.specs.Layout.{Cursor, ReadResult, reading_ended, reading_given, is_fine}
use Rattle.flat_code.specs.Codes.{cons_op, ops_next, ops_from, ends_by_be, are_ops, code_bytes, if_checked, overlong_statement, first_found, stop_at, read_ops, read_code, code_layout, size_of_op, last_place}
use Rattle.image_file.specs.Walking.{ops_behind_front, HasReadOps}
use Rattle.image_file.proofs.LayoutLemmas.{at_place, Finds, Spells, IsLaidOut, given_finds}

-- ---- runs of ops

abbrev TakesOps : List ℕ → List OpData × List ℕ → Type 0
TakesOps bytes r = BeginsWith bytes (code_bytes r.0) r.1 × (are_ops r.0 ≡ true)

ops_next_take : (bytes : List ℕ) (o : Option (OpData × List ℕ)) → op_at bytes ≡ o → (more : List ℕ → List OpData × List ℕ) → IsBytes bytes → ((rest : List ℕ) → IsBytes rest → TakesOps rest (more rest)) → TakesOps bytes (ops_next o bytes more)
ops_next_take bytes None e more are inner = (record { parts = refl; rest_fits = are }, refl)
ops_next_take bytes (Some r) e more are inner =
    let t = op_takes bytes r.0 r.1 are e in
    let u = inner r.1 t.0.rest_fits in
    (record { parts = t.0.parts ∙ ap (λ (z : List ℕ). op_bytes r.0 ++ z) u.0.parts ∙ sym (append_assoc (op_bytes r.0) (code_bytes (more r.1).0) (more r.1).1); rest_fits = u.0.rest_fits }, and_from _ _ t.1 u.1)

pub ops_take : (n : ℕ) (bytes : List ℕ) → IsBytes bytes → TakesOps bytes (ops_from n bytes)
ops_take zero bytes are = (record { parts = refl; rest_fits = are }, refl)
ops_take (suc n) bytes are = ops_next_take bytes (op_at bytes) refl (λ rest. ops_from n rest) are (λ rest h. ops_take n rest h)

none_at_nil : op_at [] ≡ None
unfolding op_at
none_at_nil = refl

pub ops_again : (n : ℕ) (ops : List OpData) → are_ops ops ≡ true → length (code_bytes ops) ≤ n → ops_from n (code_bytes ops) ≡ (ops, [])
ops_again zero [] good long = refl
ops_again (suc n) [] good long = ap (λ (o : Option (OpData × List ℕ)). ops_next o [] (λ rest. ops_from n rest)) none_at_nil
ops_again zero (op ∷ ops) good long = let some = long_enough op in absurd (omega (arith, some.1, long, length-append (op_bytes op) (code_bytes ops)))
ops_again (suc n) (op ∷ ops) good long =
    let g = and_parts (is_op op.code op.operand) (are_ops ops) good in
    let some = long_enough op in
    let inner = ops_again n ops g.1 (omega (arith, some.1, long, length-append (op_bytes op) (code_bytes ops))) in
    ap (λ (o : Option (OpData × List ℕ)). ops_next o (op_bytes op ++ code_bytes ops) (λ rest. ops_from n rest)) (op_again op (code_bytes ops) g.0)
    ∙ ap (cons_op op) inner

-- ---- the code field

pub cond_finds : {A : Type 0} (b : Bool) (x y : ReadResult A) (v : A) (end : Cursor) (P : Type 0) → Finds A (cond b x y) v end → (b ≡ true → Finds A x v end → P) → (b ≡ false → Finds A y v end → P) → P
cond_finds true x y v end P h f g = f refl h
cond_finds false x y v end P h f g = g refl h

pub ended_finds : {A : Type 0} (at code : ℕ) (v : A) (end : Cursor) → Finds A (reading_ended at code) v end → ⊥
ended_finds at code v end h = let e = h.found in cc

bytes_taken : (n : ℕ) (bytes : List ℕ) → IsBytes bytes → IsBytes (take n bytes)
bytes_taken n bytes h i =
    elim (cases_lt i n) [
      | inl lt ↦ rw (get_or-take n bytes i 0 lt) (h i)
      | inr le ↦ rw (get_or_past (take n bytes) i 0 (omega (arith, length-take n bytes))) (omega arith)
    ]

bytes_dropped : (n : ℕ) (bytes : List ℕ) → IsBytes bytes → IsBytes (drop n bytes)
bytes_dropped n bytes h i = rw get_or-drop (h (n + i))

read_finds : (o : Option ℕ) (at : ℕ) (ops : List OpData) (next : Cursor) (v : List OpData) (end : Cursor) → Finds (List OpData) (read_ops o at ops next) v end → (o ≡ None) × Finds (List OpData) (reading_given ops next) v end
read_finds None at ops next v end h = (refl, h)
read_finds (Some offset) at ops next v end h = absurd (ended_finds (at + offset) 5 v end h)

first_some : (o : Option ℕ) (n : ℕ) → first_found o (Some n) ≡ None → ⊥
first_some None n h = cc
first_some (Some at) n h = cc

-- nothing is left where the code has no fault
nothing_left : (with_code_faults : Bool) (ops : List OpData) (left : List ℕ) → stop_at with_code_faults ops left ≡ None → left ≡ []
nothing_left with_code_faults ops [] h = refl
nothing_left with_code_faults ops (byte ∷ left) h = absurd (first_some (if_checked with_code_faults (overlong_statement 0 0 ops)) (length (code_bytes ops)) h)

pub is_none : (o : Option ℕ) → is_fine o ≡ true → o ≡ None
is_none None h = refl
is_none (Some at) h = absurd cc

code_takes : (with_code_faults : Bool) (n : ℕ) (cur : Cursor) (ops : List OpData) (end : Cursor) → IsBytes cur.rest → Finds (List OpData) (read_code with_code_faults n cur) ops end → Spells (List OpData) (code_layout with_code_faults n) cur ops end
unfolding code_layout
code_takes with_code_faults n cur ops end are h =
    cond_finds (ltb (length cur.rest) n) (reading_ended cur.at 3) _ ops end _ h (λ _ k. absurd (ended_finds cur.at 3 ops end k)) (λ long h.
    let r = ops_from n (take n cur.rest) in
    let next : Cursor = record { at = cur.at + n; rest = drop n cur.rest } in
    let f = read_finds (stop_at with_code_faults r.0 r.1) cur.at r.0 next ops end h in
    let made = given_finds r.0 ops next end f.1 in
    let within : n ≤ length cur.rest = ltb-false _ _ long in
    let nothing : r.1 ≡ [] = nothing_left with_code_faults r.0 r.1 f.0 in
    let t = ops_take n (take n cur.rest) (bytes_taken n cur.rest are) in
    let text : take n cur.rest ≡ code_bytes r.0 = t.0.parts ∙ ap (λ (z : List ℕ). code_bytes r.0 ++ z) nothing ∙ append-nil (code_bytes r.0) in
    let size : length (code_bytes r.0) ≡ n = ap length (sym text) ∙ omega (arith, length-take n cur.rest) in
    let whole : cur.rest ≡ code_bytes r.0 ++ drop n cur.rest = sym (take-append-drop n cur.rest) ∙ ap (λ (z : List ℕ). z ++ drop n cur.rest) text in
    let fine : is_fine (stop_at with_code_faults r.0 []) ≡ true = ap (λ (z : List ℕ). is_fine (stop_at with_code_faults r.0 z)) (sym nothing) ∙ ap is_fine f.0 in
    let here : Spells (List OpData) (code_layout with_code_faults n) cur r.0 next =
    record { text = record { parts = whole; rest_fits = bytes_dropped n cur.rest are }; good = and_from (are_ops r.0 && is_fine (stop_at with_code_faults r.0 [])) _ (and_from (are_ops r.0) _ t.1 fine) (eq-eqb _ _ size) } in
    subst (λ (z : List OpData). Spells (List OpData) (code_layout with_code_faults n) cur z end) made.0 (subst (λ (z : Cursor). Spells (List OpData) (code_layout with_code_faults n) cur r.0 z) made.1 here))

code_again : (with_code_faults : Bool) (n : ℕ) (ops : List OpData) (at : ℕ) (rest : List ℕ) → (are_ops ops && is_fine (stop_at with_code_faults ops []) && eqb (length (code_bytes ops)) n) ≡ true → Finds (List OpData) (read_code with_code_faults n (at_place at (code_bytes ops ++ rest))) ops (at_place (at + length (code_bytes ops)) rest)
code_again with_code_faults n ops at rest good =
    let g = and_parts (are_ops ops && is_fine (stop_at with_code_faults ops [])) (eqb (length (code_bytes ops)) n) good in
    let f = and_parts (are_ops ops) (is_fine (stop_at with_code_faults ops [])) g.0 in
    let size : length (code_bytes ops) ≡ n = eqb-true _ _ g.1 in
    let bytes = code_bytes ops ++ rest in
    let long : ltb (length bytes) n ≡ false = le-ltb _ _ (omega (arith, size, length-append (code_bytes ops) rest)) in
    let read : ops_from n (take n bytes) ≡ (ops, []) = ap (ops_from n) (take_at (code_bytes ops) rest n size) ∙ ops_again n ops f.0 (omega (arith, size)) in
    let left : drop n bytes ≡ rest = drop_at (code_bytes ops) rest n size in
    let none : stop_at with_code_faults ops [] ≡ None = is_none (stop_at with_code_faults ops []) f.1 in
    let shape : read_code with_code_faults n (at_place at bytes) ≡ reading_given ops (at_place (at + n) rest) = rw (long, read, left, none) refl in
    subst (λ (z : ReadResult (List OpData)). Finds (List OpData) z ops (at_place (at + length (code_bytes ops)) rest)) (sym shape)
    (record { found = ap (λ (k : ℕ). Some (ops, at_place (at + k) rest)) (sym size); clean = refl })

pub code_laid : (with_code_faults : Bool) (n : ℕ) → IsLaidOut (List OpData) (code_layout with_code_faults n)
unfolding code_layout
code_laid with_code_faults n = record { again = code_again with_code_faults n; takes = code_takes with_code_faults n }

-- fuel that is enough is as good as any
shorter : (bytes : List ℕ) (op : OpData) (rest : List ℕ) → IsBytes bytes → op_at bytes ≡ Some (op, rest) → length rest < length bytes
shorter bytes op rest are e =
    let t = op_takes bytes op rest are e in
    let some = long_enough op in
    let lengths : length bytes ≡ length (op_bytes op) + length rest = ap length t.0.parts ∙ length-append (op_bytes op) rest in
    omega (arith, lengths, some.1)

fuel_next : (bytes : List ℕ) (o : Option (OpData × List ℕ)) → op_at bytes ≡ o → IsBytes bytes → (f g : List ℕ → List OpData × List ℕ) → ((rest : List ℕ) → IsBytes rest → length rest < length bytes → f rest ≡ g rest) → ops_next o bytes f ≡ ops_next o bytes g
fuel_next bytes None e are f g same = refl
fuel_next bytes (Some r) e are f g same = ap (cons_op r.0) (same r.1 (op_takes bytes r.0 r.1 are e).0.rest_fits (shorter bytes r.0 r.1 are e))

at_nil : (n : ℕ) → ops_from n [] ≡ ([], [])
at_nil zero = refl
at_nil (suc n) = ap (λ (o : Option (OpData × List ℕ)). ops_next o [] (λ rest. ops_from n rest)) none_at_nil

fuel : (n m : ℕ) (bytes : List ℕ) → IsBytes bytes → length bytes ≤ n → length bytes ≤ m → ops_from n bytes ≡ ops_from m bytes
fuel zero m bytes are p q = let e : bytes ≡ [] = nil_from_length bytes (omega (arith, p)) in ap (ops_from zero) e ∙ sym (at_nil m) ∙ sym (ap (ops_from m) e)
fuel (suc n) zero bytes are p q = let e : bytes ≡ [] = nil_from_length bytes (omega (arith, q)) in ap (ops_from (suc n)) e ∙ at_nil (suc n) ∙ sym (ap (ops_from zero) e)
fuel (suc n) (suc m) bytes are p q = fuel_next bytes (op_at bytes) refl are (λ rest. ops_from n rest) (λ rest. ops_from m rest) (λ rest h lt. fuel n m rest h (omega (arith, lt, p)) (omega (arith, lt, q)))

more_at : (n : ℕ) (code : List ℕ) (front : List OpData) (at next : ℕ) (op : OpData) (all : List OpData × List ℕ) → n ≡ length code → IsBytes code → op_at (drop at code) ≡ Some (op, drop next code) → at < next → next ≤ length code
    → ops_behind_front front (length code) code at ≡ all → ops_behind_front (front ++ op ∷ []) (length code) code next ≡ all
more_at zero code front at next op all e are found lt within so_far = absurd (omega (arith, e, lt, within))
more_at (suc n) code front at next op all e are found lt within so_far =
    let tail = ops_from n (drop next code) in
    let enough : ops_from (length code) (drop next code) ≡ tail = fuel (length code) n (drop next code) (bytes_dropped next code are) (omega (arith, length-drop next code)) (omega (arith, e, lt, length-drop next code)) in
    let here : ops_from (length code) (drop at code) ≡ cons_op op tail = ap (λ (k : ℕ). ops_from k (drop at code)) (sym e) ∙ ap (λ (o : Option (OpData × List ℕ)). ops_next o (drop at code) (λ rest. ops_from n rest)) found in
    ap (λ (r : List OpData × List ℕ). let y : List OpData × List ℕ = ((front ++ op ∷ []) ++ r.0, r.1) in y) enough
    ∙ ap (λ (z : List OpData). let y : List OpData × List ℕ = (z, tail.1) in y) (append_assoc front (op ∷ []) tail.0)
    ∙ sym (ap (λ (r : List OpData × List ℕ). let y : List OpData × List ℕ = (front ++ r.0, r.1) in y) here) ∙ so_far

pub ops_more : (code : List ℕ) (front : List OpData) (at next : ℕ) (op : OpData) (all : List OpData × List ℕ) → IsBytes code → op_at (drop at code) ≡ Some (op, drop next code) → at < next → next ≤ length code
    → ops_behind_front front (length code) code at ≡ all → ops_behind_front (front ++ op ∷ []) (length code) code next ≡ all
ops_more code front at next op all are found lt within so_far = more_at (length code) code front at next op all refl are found lt within so_far

nothing_more : (n : ℕ) (bytes : List ℕ) → op_at bytes ≡ None → ops_from n bytes ≡ ([], bytes)
nothing_more zero bytes none = refl
nothing_more (suc n) bytes none = ap (λ (o : Option (OpData × List ℕ)). ops_next o bytes (λ rest. ops_from n rest)) none

pub ops_stop : (code : List ℕ) (front : List OpData) (at : ℕ) (all : List OpData × List ℕ) → op_at (drop at code) ≡ None → ops_behind_front front (length code) code at ≡ all → (front ≡ all.0) × (drop at code ≡ all.1)
ops_stop code front at all none so_far =
    let k = nothing_more (length code) (drop at code) none in
    let done : ◌≡◌ {A = List OpData × List ℕ} (front ++ [], drop at code) all = sym (ap (λ (r : List OpData × List ℕ). let y : List OpData × List ℕ = (front ++ r.0, r.1) in y) k) ∙ so_far in
    (sym (append-nil front) ∙ ap (λ (r : List OpData × List ℕ). r.0) done, ap (λ (r : List OpData × List ℕ). r.1) done)

-- at the start nothing stands in front
pub ops_start : (code : List ℕ) → ops_behind_front [] (length code) code 0 ≡ ops_from (length code) code
ops_start code = refl

-- ---- one pass over code

pub last_of : (from : ℕ) (front : List OpData) (op : OpData) → last_place from (front ++ op ∷ []) ≡ from + length (code_bytes front)
unfolding size_of_op
last_of from [] op = omega arith
last_of from (a ∷ []) op = omega (arith, length-append (op_bytes a) [])
last_of from (a ∷ b ∷ front) op = omega (arith, last_of (from + length (op_bytes a)) (b ∷ front) op, length-append (op_bytes a) (code_bytes (b ∷ front)))

pub ends_at : (front : List OpData) (op : OpData) → ends_by_be (front ++ op ∷ []) ≡ (eqb op.code (op_code_of (operation.End ends.Be)) && op.last)
ends_at [] op = refl
ends_at (a ∷ []) op = refl
ends_at (a ∷ b ∷ front) op = ends_at (b ∷ front) op

pub bytes-append : (a b : List OpData) → code_bytes (a ++ b) ≡ code_bytes a ++ code_bytes b
bytes-append [] b = refl
bytes-append (op ∷ a) b = ap (λ (z : List ℕ). op_bytes op ++ z) (bytes-append a b) ∙ sym (append_assoc (op_bytes op) (code_bytes a) (code_bytes b))

pub read_starts : (code : List ℕ) → HasReadOps code [] 0 0 false 0
read_starts code = record { within = omega arith; all = refl; size = refl; last = refl; ended = refl; few = refl }

-- the ops from a place on begin with the op there
ops_there : (n : ℕ) (code : List ℕ) (at next : ℕ) (op : OpData) → n ≡ length code → IsBytes code → op_at (drop at code) ≡ Some (op, drop next code) → at < next → next ≤ length code
    → ops_from (length code) (drop at code) ≡ cons_op op (ops_from (length code) (drop next code))
ops_there zero code at next op e are found lt within = absurd (omega (arith, e, lt, within))
ops_there (suc n) code at next op e are found lt within =
    let tail = ops_from n (drop next code) in
    let enough : ops_from (length code) (drop next code) ≡ tail = fuel (length code) n (drop next code) (bytes_dropped next code are) (omega (arith, length-drop next code)) (omega (arith, e, lt, length-drop next code)) in
    ap (λ (k : ℕ). ops_from k (drop at code)) (sym e) ∙ ap (λ (o : Option (OpData × List ℕ)). ops_next o (drop at code) (λ rest. ops_from n rest)) found ∙ ap (cons_op op) (sym enough)

-- what is counted behind an op
abbrev count_after : OpData → ℕ → ℕ
count_after op count = cond op.last 0 (suc count)

pub read_goes : (code : List ℕ) (ops : List OpData) (at next last count after : ℕ) (ended end : Bool) (op : OpData) → IsBytes code → op_at (drop at code) ≡ Some (op, drop next code) → at < next → next ≤ length code
    → eqb count 64 ≡ false → after ≡ count_after op count → end ≡ (eqb op.code (op_code_of (operation.End ends.Be)) && op.last) → HasReadOps code ops at last ended count → HasReadOps code (ops ++ op ∷ []) next at end after
unfolding size_of_op
read_goes code ops at next last count after ended end op are found lt within not64 counted is_end h =
    let t = op_takes (drop at code) op (drop next code) (bytes_dropped at code are) found in
    let lengths : length (drop at code) ≡ length (op_bytes op) + length (drop next code) = ap length t.0.parts ∙ length-append (op_bytes op) (drop next code) in
    let step : next ≡ at + length (op_bytes op) = omega (arith, lengths, lt, within, length-drop at code, length-drop next code) in
    let there = ops_there (length code) code at next op refl are found lt within in
    let here : overlong_statement count at (ops_from (length code) (drop at code)).0 ≡ overlong_statement (count_after op count) (at + length (op_bytes op)) (ops_from (length code) (drop next code)).0 =
    ap (λ (r : List OpData × List ℕ). overlong_statement count at r.0) there ∙ rw not64 refl in
    record {
      within = within;
      all = ops_more code ops at next op _ are found lt within h.all;
      size = ap length (bytes-append ops (op ∷ [])) ∙ omega (arith, length-append (code_bytes ops) (code_bytes (op ∷ [])), length-append (op_bytes op) [], h.size, step);
      last = sym (last_of 0 ops op ∙ omega (arith, h.size));
      ended = is_end ∙ sym (ends_at ops op);
      few = h.few ∙ here ∙ ap (λ (k : ℕ). overlong_statement k (at + length (op_bytes op)) (ops_from (length code) (drop next code)).0) (sym counted) ∙ ap (λ (k : ℕ). overlong_statement after k (ops_from (length code) (drop next code)).0) (sym step);
    }

stop_overlong : (ops : List OpData) (left : List ℕ) (at : ℕ) → overlong_statement 0 0 ops ≡ Some at → stop_at true ops left ≡ Some at
stop_overlong ops [] at e = ap (λ (o : Option ℕ). first_found o (cond (ends_by_be ops) None (Some (last_place 0 ops)))) e
stop_overlong ops (b ∷ left) at e = ap (λ (o : Option ℕ). first_found o (Some (length (code_bytes ops)))) e

-- the 65th op of a statement
pub read_65th : (code : List ℕ) (ops : List OpData) (at next last count : ℕ) (ended : Bool) (op : OpData) → IsBytes code → op_at (drop at code) ≡ Some (op, drop next code) → at < next → next ≤ length code
    → eqb count 64 ≡ true → HasReadOps code ops at last ended count → stop_at true (ops_from (length code) code).0 (ops_from (length code) code).1 ≡ Some at
read_65th code ops at next last count ended op are found lt within is64 h =
    let there = ops_there (length code) code at next op refl are found lt within in
    let here : overlong_statement count at (ops_from (length code) (drop at code)).0 ≡ Some at = ap (λ (r : List OpData × List ℕ). overlong_statement count at r.0) there ∙ rw is64 refl in
    stop_overlong (ops_from (length code) code).0 (ops_from (length code) code).1 at (h.few ∙ here)

left_stop : (ops : List OpData) (left : List ℕ) (at size : ℕ) → overlong_statement 0 0 ops ≡ None → length (code_bytes ops) ≡ at → 0 < length left → stop_at true ops left ≡ Some at
left_stop ops [] at size e f lt = absurd (omega (arith, lt))
left_stop ops (b ∷ left) at size e f lt = ap (λ (o : Option ℕ). first_found o (Some (length (code_bytes ops)))) e ∙ ap (λ (n : ℕ). Some n) f

-- what the code has where no op begins: the ops found, and what is left
record HasNoMoreOps (code : List ℕ) (ops : List OpData) (at : ℕ) : Type 0 where
  ops_are : ops ≡ (ops_from (length code) code).0
  left_is : drop at code ≡ (ops_from (length code) code).1
  few : overlong_statement 0 0 ops ≡ None

read_ended : (code : List ℕ) (ops : List OpData) (at last count : ℕ) (ended : Bool) → op_at (drop at code) ≡ None → HasReadOps code ops at last ended count → HasNoMoreOps code ops at
read_ended code ops at last count ended none h =
    let p = ops_stop code ops at (ops_from (length code) code) none h.all in
    let nothing : (ops_from (length code) (drop at code)).0 ≡ [] = ap (λ (r : List OpData × List ℕ). r.0) (nothing_more (length code) (drop at code) none) in
    let few : overlong_statement 0 0 (ops_from (length code) code).0 ≡ None = h.few ∙ ap (overlong_statement count at) nothing in
    record { ops_are = p.0; left_is = p.1; few = ap (overlong_statement 0 0) p.0 ∙ few }

abbrev IsCodeStop : List ℕ → Option ℕ → Type 0
IsCodeStop code fault = fault ≡ stop_at true (ops_from (length code) code).0 (ops_from (length code) code).1

stop_for : (code : List ℕ) (ops : List OpData) (at : ℕ) → HasNoMoreOps code ops at → stop_at true (ops_from (length code) code).0 (ops_from (length code) code).1 ≡ stop_at true ops (drop at code)
stop_for code ops at e = rw (← e.ops_are, ← e.left_is) refl

-- bytes that begin no op
pub read_bad : (code : List ℕ) (ops : List OpData) (at last count : ℕ) (ended : Bool) → op_at (drop at code) ≡ None → at < length code → HasReadOps code ops at last ended count → IsCodeStop code (Some at)
read_bad code ops at last count ended none lt h =
    let e = read_ended code ops at last count ended none h in
    sym (stop_for code ops at e ∙ left_stop ops (drop at code) at at e.few h.size (omega (arith, length-drop at code)))

none_left : (code : List ℕ) (at : ℕ) → length code ≤ at → drop at code ≡ []
none_left code at le = nil_from_length (drop at code) (omega (arith, length-drop at code))

whole_stop : (code : List ℕ) (ops : List OpData) (at last count : ℕ) (ended : Bool) → op_at (drop at code) ≡ None → length code ≤ at → HasReadOps code ops at last ended count → stop_at true (ops_from (length code) code).0 (ops_from (length code) code).1 ≡ cond ended None (Some last)
whole_stop code ops at last count ended none le h =
    let e = read_ended code ops at last count ended none h in
    stop_for code ops at e ∙ ap (stop_at true ops) (none_left code at le)
    ∙ ap (λ (o : Option ℕ). first_found o (cond (ends_by_be ops) None (Some (last_place 0 ops)))) e.few
    ∙ rw (← h.ended, ← h.last) refl

-- code whose last op isn't BE with the end mark
pub read_open : (code : List ℕ) (ops : List OpData) (at last count : ℕ) (ended : Bool) → op_at (drop at code) ≡ None → length code ≤ at → ended ≡ false → HasReadOps code ops at last ended count → IsCodeStop code (Some last)
read_open code ops at last count ended none le open_is h = sym (whole_stop code ops at last count ended none le h ∙ rw open_is refl)

pub read_whole : (code : List ℕ) (ops : List OpData) (at last count : ℕ) (ended : Bool) → op_at (drop at code) ≡ None → length code ≤ at → ended ≡ true → HasReadOps code ops at last ended count → IsCodeStop code None × (ops ≡ (ops_from (length code) code).0)
read_whole code ops at last count ended none le ended_is h =
    (sym (whole_stop code ops at last count ended none le h ∙ rw ended_is refl), (read_ended code ops at last count ended none h).ops_are)
