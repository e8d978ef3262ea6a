-- Ops at their places: behind other ops, and statement by statement.
use Rattle.std.proofs.Common.{◌≡◌, ℕ, zero, suc, ◌+◌, ◌<◌, ◌≤◌, Bool, true, false, eqb, List, [], ◌∷◌, ◌++◌, length, map, drop, slice_get, append_assoc, Some, None, refl, sym, ◌∙◌, arith}
use Rattle.std.proofs.lemmas.Bool.{eq-eqb, ne_eqb}
use Rattle.std.specs.List.{AllByRecursion}
use Rattle.flat_code.specs.Codes.{size_of_op}
use Rattle.flat_code.specs.Ops.{OpData, op_bytes}
use Rattle.flat_code.specs.PlacedOps.{op_placed, line_placed}
use Rattle.flat_code.specs.declared.operands.Operand.{Operand}
use Rattle.flat_code.specs.declared.operands.Operand.TheVariants as operand
use Rattle.stl_codegen.specs.CompiledBlock.{offset_from, operand_with_target, op_with_target}

pub op_long : (op : OpData) → 0 < size_of_op op
unfolding size_of_op op_bytes
op_long op = omega arith

-- how many bytes ops take
abbrev pub total : List OpData → ℕ
total [] = 0
total (op ∷ ops) = size_of_op op + total ops

pub total_append : (xs ys : List OpData) → total (xs ++ ys) ≡ total xs + total ys
total_append [] ys = omega arith
total_append (x ∷ xs) ys = let more = total_append xs ys in omega (arith, more)

-- the op behind other ops
pub op_behind :
    (from : ℕ) (xs : List OpData) (op : OpData) (ys : List OpData)
    → op_placed from (xs ++ op ∷ ys) (from + total xs) ≡ Some (op, from + total xs + size_of_op op)
op_behind from [] op ys =
    let same : from + 0 ≡ from = omega arith in
    rw same (rw (eq-eqb from from refl) refl)
op_behind from (x ∷ xs) op ys =
    let long = op_long x in
    let other : eqb from (from + (size_of_op x + total xs)) ≡ false = ne_eqb from (from + (size_of_op x + total xs)) (λ e. omega (arith, e, long)) in
    let moved : from + (size_of_op x + total xs) ≡ from + size_of_op x + total xs = omega arith in
    rw other (rw moved (op_behind (from + size_of_op x) xs op ys))

pub op_at_end : (from : ℕ) (xs : List OpData) → op_placed from xs (from + total xs) ≡ None
op_at_end from [] = refl
op_at_end from (x ∷ xs) =
    let long = op_long x in
    let other : eqb from (from + (size_of_op x + total xs)) ≡ false = ne_eqb from (from + (size_of_op x + total xs)) (λ e. omega (arith, e, long)) in
    let moved : from + (size_of_op x + total xs) ≡ from + size_of_op x + total xs = omega arith in
    rw other (rw moved (op_at_end (from + size_of_op x) xs))

-- a target is as long as any other
long_as : (f : ℕ → ℕ) (code : ℕ) (last : Bool) (o : Operand)
    → size_of_op (record { code = code; last = last; operand = operand_with_target f o }) ≡ size_of_op (record { code = code; last = last; operand = o })
unfolding size_of_op op_bytes
long_as f code last (operand.Jump kind target) = refl
long_as f code last operand.Nothing = refl
long_as f code last (operand.Literal value) = refl
long_as f code last (operand.Direct area width byte bit) = refl
long_as f code last (operand.ByMemory area width from byte) = refl
long_as f code last (operand.ByRegister area width register bits) = refl
long_as f code last (operand.Parameter index width) = refl
long_as f code last (operand.Numbered kind number) = refl
long_as f code last (operand.NumberedBy kind from byte) = refl
long_as f code last (operand.OfStatus condition) = refl
long_as f code last (operand.UseDb number) = refl
long_as f code last (operand.Pass index actual) = refl
long_as f code last (operand.Called kind number instance) = refl
long_as f code last (operand.OpenBlock register number) = refl
long_as f code last (operand.OpenBy register from byte) = refl

pub size_aimed : (f : ℕ → ℕ) (op : OpData) → size_of_op (op_with_target f op) ≡ size_of_op op
size_aimed f op = long_as f op.code op.last op.operand

pub total_aimed : (f : ℕ → ℕ) (ops : List OpData) → total (map (op_with_target f) ops) ≡ total ops
total_aimed f [] = refl
total_aimed f (op ∷ ops) = let one = size_aimed f op in let more = total_aimed f ops in omega (arith, one, more)

-- the ops of a statement: those that prepare, and the one that does it
pub record InstrParts : Type 0 where
  pub front : List OpData
  pub end : OpData

abbrev pub IsPreparing : OpData → Type 0
IsPreparing op = op.last ≡ false

pub record IsPartedStatement (p : InstrParts) : Type 0 where
  pub front : AllByRecursion IsPreparing p.front
  pub end : p.end.last ≡ true

abbrev pub AreStatements : List InstrParts → Type 0
AreStatements ps = AllByRecursion IsPartedStatement ps

abbrev pub flat : List InstrParts → List OpData
flat [] = []
flat (p ∷ ps) = p.front ++ p.end ∷ flat ps

abbrev pub bytes_of : InstrParts → ℕ
bytes_of p = total p.front + size_of_op p.end

pub bytes_long : (p : InstrParts) → 0 < bytes_of p
bytes_long p = let long = op_long p.end in omega (arith, long)

abbrev pub extent : List InstrParts → ℕ
extent [] = 0
extent (p ∷ ps) = bytes_of p + extent ps

pub total_flat : (ps : List InstrParts) → total (flat ps) ≡ extent ps
total_flat [] = refl
total_flat (p ∷ ps) =
    let cut = total_append p.front (p.end ∷ flat ps) in
    let more = total_flat ps in
    omega (arith, cut, more)

pub extent_append : (xs ys : List InstrParts) → extent (xs ++ ys) ≡ extent xs + extent ys
extent_append [] ys = omega arith
extent_append (x ∷ xs) ys = let more = extent_append xs ys in omega (arith, more)

pub flat_append : (xs ys : List InstrParts) → flat (xs ++ ys) ≡ flat xs ++ flat ys
flat_append [] ys = refl
flat_append (x ∷ xs) ys = rw (flat_append xs ys) (sym (append_assoc x.front (x.end ∷ flat xs) (flat ys)))

-- the line of a statement behind one
line_behind :
    (from k : ℕ) (b : Bool) (front : List OpData) (op : OpData) (ys : List OpData) (lines : List ℕ)
    → AllByRecursion IsPreparing front → op.last ≡ true
    → line_placed from b (front ++ op ∷ ys) lines (from + (total front + size_of_op op) + k)
    ≡ line_placed (from + (total front + size_of_op op)) true ys (drop 1 lines) (from + (total front + size_of_op op) + k)
unfolding size_of_op op_bytes
line_behind from k b [] op ys lines fs last =
    let long = op_long op in
    let same : total [] + size_of_op op ≡ size_of_op op = omega arith in
    let other : eqb from (from + size_of_op op + k) ≡ false = ne_eqb from (from + size_of_op op + k) (λ e. omega (arith, e, long)) in
    rw same (rw other (rw last refl))
line_behind from k b (x ∷ front) op ys lines fs last =
    let long = op_long x in
    let other : eqb from (from + (size_of_op x + total front + size_of_op op) + k) ≡ false = ne_eqb from (from + (size_of_op x + total front + size_of_op op) + k) (λ e. omega (arith, e, long)) in
    let moved : from + (size_of_op x + total front + size_of_op op) ≡ from + size_of_op x + (total front + size_of_op op) = omega arith in
    let more = line_behind (from + size_of_op x) k false front op ys lines fs.1 last in
    rw other (rw moved (rw fs.0 more))

pub line_at :
    (from : ℕ) (ps : List InstrParts) (p : InstrParts) (qs : List InstrParts) (lines : List ℕ) → AreStatements ps
    → line_placed from true (flat (ps ++ p ∷ qs)) lines (from + extent ps) ≡ slice_get lines (length ps)
line_at from [] p qs lines h = here p.front
  where
    here : (front : List OpData) → line_placed from true (front ++ p.end ∷ flat qs) lines (from + 0) ≡ slice_get lines 0
    here [] = rw (eq-eqb from (from + 0) (omega arith)) refl
    here (x ∷ front) = rw (eq-eqb from (from + 0) (omega arith)) refl
line_at from (q ∷ ps) p qs lines h =
    let moved : from + (bytes_of q + extent ps) ≡ from + (total q.front + size_of_op q.end) + extent ps = omega arith in
    rw moved (line_behind from (extent ps) true q.front q.end (flat (ps ++ p ∷ qs)) lines h.0.front h.0.end
    ∙ line_at (from + (total q.front + size_of_op q.end)) ps p qs (drop 1 lines) h.1 ∙ dropped lines (length ps))
  where
    dropped : (xs : List ℕ) (n : ℕ) → slice_get (drop 1 xs) n ≡ slice_get xs (suc n)
    dropped [] n = refl
    dropped (x ∷ xs) n = refl

pub line_at_end :
    (from : ℕ) (ps : List InstrParts) (lines : List ℕ) → AreStatements ps
    → line_placed from true (flat ps) lines (from + extent ps) ≡ None
line_at_end from [] lines h = refl
line_at_end from (q ∷ ps) lines h =
    let moved : from + (bytes_of q + extent ps) ≡ from + (total q.front + size_of_op q.end) + extent ps = omega arith in
    rw moved (line_behind from (extent ps) true q.front q.end (flat ps) lines h.0.front h.0.end
    ∙ line_at_end (from + (total q.front + size_of_op q.end)) ps (drop 1 lines) h.1)

-- the offset of a statement
offset_behind :
    (at n : ℕ) (front : List OpData) (op : OpData) (ys : List OpData) → AllByRecursion IsPreparing front → op.last ≡ true
    → offset_from at false (front ++ op ∷ ys) n ≡ offset_from (at + (total front + size_of_op op)) true ys n
unfolding size_of_op op_bytes
offset_behind at n [] op ys fs last =
    let same : total [] + size_of_op op ≡ size_of_op op = omega arith in
    rw same (rw last refl)
offset_behind at n (x ∷ front) op ys fs last =
    let moved : at + (size_of_op x + total front + size_of_op op) ≡ at + size_of_op x + (total front + size_of_op op) = omega arith in
    rw moved (rw fs.0 (offset_behind (at + size_of_op x) n front op ys fs.1 last))

pub offset_next :
    (at n : ℕ) (p : InstrParts) (ys : List OpData) → IsPartedStatement p
    → offset_from at true (p.front ++ p.end ∷ ys) (suc n) ≡ offset_from (at + bytes_of p) true ys n
unfolding size_of_op op_bytes
offset_next at n p ys h = by p.front h.front
  where
    by : (front : List OpData) → AllByRecursion IsPreparing front
        → offset_from at true (front ++ p.end ∷ ys) (suc n) ≡ offset_from (at + (total front + size_of_op p.end)) true ys n
    by [] fs = let same : total [] + size_of_op p.end ≡ size_of_op p.end = omega arith in rw same (rw h.end refl)
    by (x ∷ front) fs =
        let moved : at + (size_of_op x + total front + size_of_op p.end) ≡ at + size_of_op x + (total front + size_of_op p.end) = omega arith in
        rw moved (rw fs.0 (offset_behind (at + size_of_op x) n front p.end ys fs.1 h.end))

pub offset_is :
    (at : ℕ) (ps : List InstrParts) (ys : List InstrParts) → AreStatements ps
    → offset_from at true (flat (ps ++ ys)) (length ps) ≡ at + extent ps
offset_is at [] ys h = here (flat ys)
  where
    here : (ops : List OpData) → offset_from at true ops 0 ≡ at + 0
    here [] = omega arith
    here (op ∷ ops) = omega arith
offset_is at (p ∷ ps) ys h =
    let more = offset_is (at + bytes_of p) ps ys h.1 in
    let moved : at + (bytes_of p + extent ps) ≡ at + bytes_of p + extent ps = omega arith in
    offset_next at (length ps) p (flat (ps ++ ys)) h.0 ∙ more ∙ sym moved

pub offset_past :
    (at n : ℕ) (ps : List InstrParts) → AreStatements ps → length ps ≤ n
    → offset_from at true (flat ps) n ≡ at + extent ps
offset_past at n [] h past = omega arith
offset_past at zero (p ∷ ps) h past = absurd (omega (arith, past))
offset_past at (suc n) (p ∷ ps) h past =
    let more = offset_past (at + bytes_of p) n ps h.1 (omega (arith, past)) in
    let moved : at + (bytes_of p + extent ps) ≡ at + bytes_of p + extent ps = omega arith in
    offset_next at n p (flat ps) h.0 ∙ more ∙ sym moved
