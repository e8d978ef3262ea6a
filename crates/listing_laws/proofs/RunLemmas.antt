-- The statements of code: what is found in the ops of statements.
use Rattle.std.proofs.Common.{◌≡◌, ℕ, zero, suc, ◌+◌, ◌<◌, ◌≤◌, Bool, true, false, cond, eqb, ◌||◌, List, [], ◌∷◌, ◌++◌, length, map, append_assoc, Some, None, slice_get, refl, sym, ap, ◌∙◌, arith}
use Rattle.std.specs.Prelude.{◌==◌, fold, min, replicate, slice_set, unwrap_or}
use Rattle.std.specs.List.{AllByRecursion, list_any, position_or_len}
use Rattle.std.proofs.lemmas.Bool.{eq-eqb, ne_eqb}
use Rattle.std.proofs.lemmas.Bool.Decides.{nat_tests}
use Rattle.std.proofs.lemmas.List.{append-nil, length-set}
use Rattle.flat_code.specs.Codes.{size_of_op}
use Rattle.flat_code.specs.Instr.{Instr, Passing, Does, Jumps, JumpsByList, Calls, Returns}
use Rattle.flat_code.specs.Ops.{OpData, op_bytes}
use Rattle.flat_code.specs.declared.operands.Operand.{Operand}
use Rattle.flat_code.specs.declared.operands.Operand.TheVariants as operand
use Rattle.stl_codegen.specs.CompiledBlock.{SourceInstruction, operand_with_target, op_with_target, code_in, offset_from, offset_of_statement, ops_in, placed_ops}
use Rattle.stl_codegen.specs.EmittedOps.{call_op, op_with_end_mark, use_db_ops, ops_of, pass_ops}
use Rattle.stl_list.specs.Runs.{StatementOps, marks_with_target, statement_number_at, runs, runs_from, statement_starts, starts_from, target_marks}
use Rattle.listing_laws.specs.Statements.{AreNumbersFound, AreRunsFound, AreStartsFound, AreTargetsFound, IsCountFound, is_jump_to, jumps_to, statement_offset, run_of}

-- ---- the ops of an instruction in two parts

pub same_target : (o : Operand) → operand_with_target (λ n. n) o ≡ o
same_target (operand.Jump kind target) = refl
same_target _ = refl

ops_of_run : (i : Instr) → ops_of i ≡ (run_of (λ n. n) i).before ++ (run_of (λ n. n) i).op ∷ []
unfolding ops_of
ops_of_run (Does use_db w o) = ap (λ (p : Operand). use_db_ops use_db ++ op_with_end_mark w p ∷ []) (sym (same_target o))
ops_of_run (Jumps how target) = refl
ops_of_run (JumpsByList targets otherwise) = refl
ops_of_run (Calls how block instance passings) = refl
ops_of_run (Returns how) = refl

abbrev IsPreparing : OpData → Type 0
IsPreparing op = op.last ≡ false

passing_prepares : (ps : List Passing) → AllByRecursion IsPreparing (pass_ops ps)
passing_prepares [] = tt
passing_prepares (p ∷ ps) = (refl, passing_prepares ps)

prepares : (f : ℕ → ℕ) (i : Instr) → AllByRecursion IsPreparing (run_of f i).before
prepares f (Does None w o) = tt
prepares f (Does (Some number) w o) = (refl, tt)
prepares f (Jumps how target) = tt
prepares f (JumpsByList targets otherwise) = tt
prepares f (Calls how block instance passings) = passing_prepares passings
prepares f (Returns how) = tt

does : (f : ℕ → ℕ) (i : Instr) → (run_of f i).op.last ≡ true
does f (Does use_db w o) = refl
does f (Jumps how target) = refl
does f (JumpsByList targets otherwise) = refl
does f (Calls how block instance passings) = refl
does f (Returns how) = refl

passing_still : (f : ℕ → ℕ) (ps : List Passing) → map (op_with_target f) (pass_ops ps) ≡ pass_ops ps
passing_still f [] = refl
passing_still f (p ∷ ps) = rw (passing_still f ps) refl

map_append : (f : ℕ → ℕ) (xs ys : List OpData) → map (op_with_target f) (xs ++ ys) ≡ map (op_with_target f) xs ++ map (op_with_target f) ys
map_append f [] ys = refl
map_append f (x ∷ xs) ys = ap (λ (z : List OpData). op_with_target f x ∷ z) (map_append f xs ys)

-- with offsets as targets
aimed_ops : (f : ℕ → ℕ) (i : Instr) → map (op_with_target f) (ops_of i) ≡ (run_of f i).before ++ (run_of f i).op ∷ []
unfolding ops_of
aimed_ops f (Does None w o) = refl
aimed_ops f (Does (Some number) w o) = refl
aimed_ops f (Jumps how target) = refl
aimed_ops f (JumpsByList targets otherwise) = refl
aimed_ops f (Calls how block instance passings) =
    map_append f (pass_ops passings) (call_op how block instance ∷ []) ∙ rw (passing_still f passings) refl
aimed_ops f (Returns how) = refl

abbrev ops_with_targets : (ℕ → ℕ) → List SourceInstruction → List OpData
ops_with_targets f ss = map (op_with_target f) (ops_in ss)

next_ops_with_targets : (f : ℕ → ℕ) (s : SourceInstruction) (ss : List SourceInstruction) → ops_with_targets f (s ∷ ss) ≡ (run_of f s.instr).before ++ (run_of f s.instr).op ∷ ops_with_targets f ss
next_ops_with_targets f s ss =
    map_append f (ops_of s.instr) (ops_in ss)
    ∙ ap (λ (z : List OpData). z ++ ops_with_targets f ss) (aimed_ops f s.instr)
    ∙ append_assoc (run_of f s.instr).before ((run_of f s.instr).op ∷ []) (ops_with_targets f ss)

-- ---- the statements

run_next : (b front : List OpData) (op : OpData) (rest : List OpData) → AllByRecursion IsPreparing front → op.last ≡ true
    → runs_from b (front ++ op ∷ rest) ≡ record { before = b ++ front; op = op } ∷ runs_from [] rest
run_next b [] op rest h e = rw (append-nil b) (ap (λ (t : Bool). cond t (record { before = b; op = op } ∷ runs_from [] rest) (runs_from (b ++ op ∷ []) rest)) e)
run_next b (x ∷ front) op rest h e =
    ap (λ (t : Bool). cond t (record { before = b; op = x } ∷ runs_from [] (front ++ op ∷ rest)) (runs_from (b ++ x ∷ []) (front ++ op ∷ rest))) h.0
    ∙ run_next (b ++ x ∷ []) front op rest h.1 e
    ∙ ap (λ (z : List OpData). record { before = z; op = op } ∷ runs_from [] rest) (append_assoc b (x ∷ []) front)

runs_are : (f : ℕ → ℕ) (ss : List SourceInstruction) → runs_from [] (ops_with_targets f ss) ≡ map (λ s. run_of f s.instr) ss
runs_are f [] = refl
runs_are f (s ∷ ss) =
    ap (runs_from []) (next_ops_with_targets f s ss)
    ∙ run_next [] (run_of f s.instr).before (run_of f s.instr).op (ops_with_targets f ss) (prepares f s.instr) (does f s.instr)
    ∙ ap (λ (z : List StatementOps). run_of f s.instr ∷ z) (runs_are f ss)

pub runs_found : AreRunsFound
unfolding runs placed_ops
runs_found ss = runs_are (statement_offset ss) ss

-- ---- their starts

op_long : (op : OpData) → 0 < size_of_op op
unfolding size_of_op op_bytes
op_long op = omega arith

abbrev total : List OpData → ℕ
total [] = 0
total (op ∷ ops) = size_of_op op + total ops

-- how many bytes a statement takes
abbrev bytes : (ℕ → ℕ) → SourceInstruction → ℕ
bytes f s = total (run_of f s.instr).before + size_of_op (run_of f s.instr).op

abbrev offsets_from : (ℕ → ℕ) → (at : ℕ) → List SourceInstruction → List ℕ
offsets_from f at [] = []
offsets_from f at (s ∷ ss) = at ∷ offsets_from f (at + bytes f s) ss

abbrev offset_at : (ℕ → ℕ) → (at : ℕ) → List SourceInstruction → ℕ → ℕ
offset_at f at [] n = at
offset_at f at (s ∷ ss) zero = at
offset_at f at (s ∷ ss) (suc n) = offset_at f (at + bytes f s) ss n

later : (at : ℕ) (front : List OpData) (op : OpData) (rest : List OpData) → AllByRecursion IsPreparing front → op.last ≡ true
    → starts_from at false (front ++ op ∷ rest) ≡ starts_from (at + (total front + size_of_op op)) true rest
later at [] op rest h e = ap (λ (t : Bool). starts_from (at + size_of_op op) t rest) e ∙ ap (λ (k : ℕ). starts_from k true rest) (omega arith)
later at (x ∷ front) op rest h e =
    ap (λ (t : Bool). starts_from (at + size_of_op x) t (front ++ op ∷ rest)) h.0
    ∙ later (at + size_of_op x) front op rest h.1 e
    ∙ ap (λ (k : ℕ). starts_from k true rest) (omega arith)

start_next : (at : ℕ) (front : List OpData) (op : OpData) (rest : List OpData) → AllByRecursion IsPreparing front → op.last ≡ true
    → starts_from at true (front ++ op ∷ rest) ≡ at ∷ starts_from (at + (total front + size_of_op op)) true rest
start_next at [] op rest h e = ap (λ (z : List ℕ). at ∷ z) (later at [] op rest h e)
start_next at (x ∷ front) op rest h e = ap (λ (z : List ℕ). at ∷ z) (later at (x ∷ front) op rest h e)

starts_are : (f : ℕ → ℕ) (at : ℕ) (ss : List SourceInstruction) → starts_from at true (ops_with_targets f ss) ≡ offsets_from f at ss
starts_are f at [] = refl
starts_are f at (s ∷ ss) =
    ap (starts_from at true) (next_ops_with_targets f s ss)
    ∙ start_next at (run_of f s.instr).before (run_of f s.instr).op (ops_with_targets f ss) (prepares f s.instr) (does f s.instr)
    ∙ ap (λ (z : List ℕ). at ∷ z) (starts_are f (at + bytes f s) ss)

-- the same of the offsets that the code generator knows
offset_later : (at n : ℕ) (front : List OpData) (op : OpData) (rest : List OpData) → AllByRecursion IsPreparing front → op.last ≡ true
    → offset_from at false (front ++ op ∷ rest) n ≡ offset_from (at + (total front + size_of_op op)) true rest n
offset_later at n [] op rest h e = ap (λ (t : Bool). offset_from (at + size_of_op op) t rest n) e ∙ ap (λ (k : ℕ). offset_from k true rest n) (omega arith)
offset_later at n (x ∷ front) op rest h e =
    ap (λ (t : Bool). offset_from (at + size_of_op x) t (front ++ op ∷ rest) n) h.0
    ∙ offset_later (at + size_of_op x) n front op rest h.1 e
    ∙ ap (λ (k : ℕ). offset_from k true rest n) (omega arith)

offset_next : (at n : ℕ) (front : List OpData) (op : OpData) (rest : List OpData) → AllByRecursion IsPreparing front → op.last ≡ true
    → offset_from at true (front ++ op ∷ rest) (suc n) ≡ offset_from (at + (total front + size_of_op op)) true rest n
offset_next at n [] op rest h e = offset_later at n [] op rest h e
offset_next at n (x ∷ front) op rest h e = offset_later at n (x ∷ front) op rest h e

offset_first : (at : ℕ) (front : List OpData) (op : OpData) (rest : List OpData) → offset_from at true (front ++ op ∷ rest) zero ≡ at
offset_first at [] op rest = refl
offset_first at (x ∷ front) op rest = refl

offsets_are : (f : ℕ → ℕ) (at : ℕ) (ss : List SourceInstruction) (n : ℕ) → offset_from at true (ops_with_targets f ss) n ≡ offset_at f at ss n
offsets_are f at [] n = refl
offsets_are f at (s ∷ ss) zero =
    ap (λ (z : List OpData). offset_from at true z zero) (next_ops_with_targets f s ss) ∙ offset_first at (run_of f s.instr).before (run_of f s.instr).op (ops_with_targets f ss)
offsets_are f at (s ∷ ss) (suc n) =
    ap (λ (z : List OpData). offset_from at true z (suc n)) (next_ops_with_targets f s ss)
    ∙ offset_next at n (run_of f s.instr).before (run_of f s.instr).op (ops_with_targets f ss) (prepares f s.instr) (does f s.instr)
    ∙ offsets_are f (at + bytes f s) ss n

-- a target is as long as any other
long_as : (f : ℕ → ℕ) (code : ℕ) (last : Bool) (o : Operand)
    → size_of_op (record { code = code; last = last; operand = operand_with_target f o }) ≡ size_of_op (record { code = code; last = last; operand = o })
unfolding size_of_op op_bytes
long_as f code last (operand.Jump kind target) = refl
long_as f code last _ = refl

size_aimed : (f : ℕ → ℕ) (op : OpData) → size_of_op (op_with_target f op) ≡ size_of_op op
size_aimed f op = long_as f op.code op.last op.operand

placed_offset : (f : ℕ → ℕ) (at : ℕ) (begins : Bool) (ops : List OpData) (n : ℕ) → offset_from at begins (map (op_with_target f) ops) n ≡ offset_from at begins ops n
placed_offset f at begins [] n = refl
placed_offset f at true (op ∷ ops) zero = refl
placed_offset f at true (op ∷ ops) (suc n) =
    ap (λ (k : ℕ). offset_from (at + k) op.last (map (op_with_target f) ops) n) (size_aimed f op) ∙ placed_offset f (at + size_of_op op) op.last ops n
placed_offset f at false (op ∷ ops) n =
    ap (λ (k : ℕ). offset_from (at + k) op.last (map (op_with_target f) ops) n) (size_aimed f op) ∙ placed_offset f (at + size_of_op op) op.last ops n

offset_is : (ss : List SourceInstruction) (n : ℕ) → statement_offset ss n ≡ offset_at (statement_offset ss) 0 ss n
unfolding offset_of_statement
offset_is ss n = sym (placed_offset (statement_offset ss) 0 true (ops_in ss) n) ∙ offsets_are (statement_offset ss) 0 ss n

starts_in : (ss : List SourceInstruction) → statement_starts (code_in ss) ≡ offsets_from (statement_offset ss) 0 ss
unfolding statement_starts placed_ops
starts_in ss = starts_are (statement_offset ss) 0 ss

start_got : (f : ℕ → ℕ) (at : ℕ) (ss : List SourceInstruction) (n : ℕ) → n < length ss → slice_get (offsets_from f at ss) n ≡ Some (offset_at f at ss n)
start_got f at [] n h = absurd (omega (arith, h))
start_got f at (s ∷ ss) zero h = refl
start_got f at (s ∷ ss) (suc n) h = start_got f (at + bytes f s) ss n (omega (arith, h))

start_count : (f : ℕ → ℕ) (at : ℕ) (ss : List SourceInstruction) → length (offsets_from f at ss) ≡ length ss
start_count f at [] = refl
start_count f at (s ∷ ss) = ap (λ n. suc n) (start_count f (at + bytes f s) ss)

pub starts_found : AreStartsFound
starts_found ss n h =
    ap (λ (z : List ℕ). slice_get z n) (starts_in ss) ∙ start_got (statement_offset ss) 0 ss n h ∙ ap (λ (k : ℕ). Some k) (sym (offset_is ss n))

pub count_found : IsCountFound
count_found ss = ap (λ (z : List ℕ). length z) (starts_in ss) ∙ start_count (statement_offset ss) 0 ss

-- ---- their numbers

behind : (f : ℕ → ℕ) (at : ℕ) (ss : List SourceInstruction) (n : ℕ) → at ≤ offset_at f at ss n
behind f at [] n = omega arith
behind f at (s ∷ ss) zero = omega arith
behind f at (s ∷ ss) (suc n) = let more = behind f (at + bytes f s) ss n in omega (arith, more)

number_is : (f : ℕ → ℕ) (at : ℕ) (ss : List SourceInstruction) (n : ℕ) → position_or_len (λ start. start == offset_at f at ss n) (offsets_from f at ss) ≡ min n (length ss)
number_is f at [] n = omega arith
number_is f at (s ∷ ss) zero = rw (eq-eqb at at refl) (omega arith)
number_is f at (s ∷ ss) (suc n) =
    let long = op_long (run_of f s.instr).op in
    let past = behind f (at + bytes f s) ss n in
    let other : eqb at (offset_at f (at + bytes f s) ss n) ≡ false = ne_eqb at (offset_at f (at + bytes f s) ss n) (λ e. omega (arith, e, long, past)) in
    rw (other, number_is f (at + bytes f s) ss n) (omega arith)

pub numbers_found : AreNumbersFound
unfolding statement_number_at
numbers_found ss n =
    ap (λ (z : List ℕ). position_or_len (λ start. start == statement_offset ss n) z) (starts_in ss)
    ∙ ap (λ (k : ℕ). position_or_len (λ start. start == k) (offsets_from (statement_offset ss) 0 ss)) (offset_is ss n)
    ∙ number_is (statement_offset ss) 0 ss n

-- ---- their targets

abbrev mark : List Bool → ℕ → Bool
mark marks n = unwrap_or (slice_get marks n) false

either_end : (a b c : Bool) → ((a || b) || c) ≡ (a || (b || c))
either_end true b c = refl
either_end false b c = refl

mark_set : (marks : List Bool) (i n : ℕ) → n < length marks → mark (slice_set marks i true) n ≡ (mark marks n || i == n)
mark_set [] i n h = absurd (omega (arith, h))
mark_set (b ∷ marks) zero zero h = by b
  where
    by : (b : Bool) → true ≡ (b || true)
    by true = refl
    by false = refl
mark_set (b ∷ marks) zero (suc n) h = by (mark marks n)
  where
    by : (b : Bool) → b ≡ (b || 0 == suc n)
    by true = refl
    by false = sym (ne_eqb 0 (suc n) (λ e. omega (arith, e)))
mark_set (b ∷ marks) (suc i) zero h = by b
  where
    by : (b : Bool) → b ≡ (b || suc i == 0)
    by true = refl
    by false = sym (ne_eqb (suc i) 0 (λ e. omega (arith, e)))
mark_set (b ∷ marks) (suc i) (suc n) h = mark_set marks i n (omega (arith, h)) ∙ ap (λ (t : Bool). mark marks n || t) (same i n)
  where
    same : (i n : ℕ) → eqb i n ≡ eqb (suc i) (suc n)
    same i n = grind (arith, nat_tests)

-- whether an op goes to a statement
abbrev hits : (starts : List ℕ) → (ℕ → ℕ) → (n : ℕ) → Operand → Bool
hits starts f n (operand.Jump kind target) = statement_number_at starts (f target) == n
hits starts f n _ = false

or_false : (b : Bool) → b ≡ (b || false)
or_false true = refl
or_false false = refl

marked_length : (starts : List ℕ) (marks : List Bool) (o : Operand) → length (marks_with_target starts marks o) ≡ length marks
marked_length starts marks (operand.Jump kind target) = length-set marks (statement_number_at starts target) true
marked_length starts marks _ = refl

mark_one : (starts : List ℕ) (f : ℕ → ℕ) (n : ℕ) (marks : List Bool) (o : Operand) → n < length marks → mark (marks_with_target starts marks (operand_with_target f o)) n ≡ (mark marks n || hits starts f n o)
mark_one starts f n marks (operand.Jump kind target) h = mark_set marks (statement_number_at starts (f target)) n h
mark_one starts f n marks _ h = or_false (mark marks n)

marks_are : (starts : List ℕ) (f : ℕ → ℕ) (n : ℕ) (marks : List Bool) (ops : List OpData) → n < length marks
    → mark (fold (λ marks op. marks_with_target starts marks op.operand) marks (map (op_with_target f) ops)) n ≡ (mark marks n || list_any (λ op. hits starts f n op.operand) ops)
marks_are starts f n marks [] h = or_false (mark marks n)
marks_are starts f n marks (op ∷ ops) h =
    let size = marked_length starts marks (operand_with_target f op.operand) in
    marks_are starts f n (marks_with_target starts marks (operand_with_target f op.operand)) ops (omega (arith, size, h))
    ∙ ap (λ (t : Bool). t || list_any (λ op. hits starts f n op.operand) ops) (mark_one starts f n marks op.operand h)
    ∙ either_end (mark marks n) (hits starts f n op.operand) (list_any (λ op. hits starts f n op.operand) ops)

no_mark : (count n : ℕ) → mark (replicate count false) n ≡ false
no_mark zero n = refl
no_mark (suc count) zero = refl
no_mark (suc count) (suc n) = no_mark count n

any_append : (p : OpData → Bool) (xs ys : List OpData) → list_any p (xs ++ ys) ≡ (list_any p xs || list_any p ys)
any_append p [] ys = refl
any_append p (x ∷ xs) ys = ap (λ (t : Bool). p x || t) (any_append p xs ys) ∙ sym (either_end (p x) (list_any p xs) (list_any p ys))

same_number : (n t count : ℕ) → n < count → eqb (min t count) n ≡ eqb t n
same_number n t count h = grind (arith, nat_tests)

one_hit : (ss : List SourceInstruction) (n : ℕ) (o : Operand) → n < length ss → hits (statement_starts (code_in ss)) (statement_offset ss) n o ≡ is_jump_to n o
one_hit ss n (operand.Jump kind target) h = ap (λ (k : ℕ). k == n) (numbers_found ss target) ∙ same_number n target (length ss) h
one_hit ss n _ h = refl

none_passed : (starts : List ℕ) (f : ℕ → ℕ) (n : ℕ) (ps : List Passing) → list_any (λ op. hits starts f n op.operand) (pass_ops ps) ≡ false
none_passed starts f n [] = refl
none_passed starts f n (p ∷ ps) = none_passed starts f n ps

hits_of : (ss : List SourceInstruction) (n : ℕ) (i : Instr) → n < length ss → list_any (λ op. hits (statement_starts (code_in ss)) (statement_offset ss) n op.operand) (ops_of i) ≡ jumps_to n i
unfolding ops_of
hits_of ss n (Does None w o) h = sym (or_false _) ∙ one_hit ss n o h
hits_of ss n (Does (Some number) w o) h = sym (or_false _) ∙ one_hit ss n o h
hits_of ss n (Jumps how target) h = sym (or_false _) ∙ one_hit ss n (operand.Jump 0 target) h
hits_of ss n (JumpsByList targets otherwise) h = sym (or_false _) ∙ one_hit ss n (operand.Jump 0 otherwise) h
hits_of ss n (Calls how block instance passings) h =
    any_append (λ op. hits (statement_starts (code_in ss)) (statement_offset ss) n op.operand) (pass_ops passings) (call_op how block instance ∷ [])
    ∙ rw (none_passed (statement_starts (code_in ss)) (statement_offset ss) n passings) refl
hits_of ss n (Returns how) h = refl

hits_in : (ss : List SourceInstruction) (n : ℕ) (left : List SourceInstruction) → n < length ss
    → list_any (λ op. hits (statement_starts (code_in ss)) (statement_offset ss) n op.operand) (ops_in left) ≡ list_any (λ s. jumps_to n s.instr) left
hits_in ss n [] h = refl
hits_in ss n (s ∷ left) h =
    any_append (λ op. hits (statement_starts (code_in ss)) (statement_offset ss) n op.operand) (ops_of s.instr) (ops_in left)
    ∙ ap (λ (t : Bool). t || list_any (λ op. hits (statement_starts (code_in ss)) (statement_offset ss) n op.operand) (ops_in left)) (hits_of ss n s.instr h)
    ∙ ap (λ (t : Bool). jumps_to n s.instr || t) (hits_in ss n left h)

pub targets_found : AreTargetsFound
unfolding target_marks placed_ops
targets_found ss n h =
    let count = count_found ss in
    let all : List ℕ = statement_starts (code_in ss) in
    let size : length (replicate (length all) false) ≡ length all = long (length all) in
    marks_are all (statement_offset ss) n (replicate (length all) false) (ops_in ss) (omega (arith, count, size, h))
    ∙ ap (λ (t : Bool). t || list_any (λ op. hits all (statement_offset ss) n op.operand) (ops_in ss)) (no_mark (length all) n)
    ∙ hits_in ss n ss h
  where
    long : (count : ℕ) → length (replicate count false) ≡ count
    long zero = refl
    long (suc count) = ap (λ n. suc n) (long count)
