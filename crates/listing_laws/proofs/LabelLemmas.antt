-- The labels of a listing: apart, and at their statements.
use Rattle.std.proofs.Common.{◌≡◌, ℕ, suc, ◌+◌, ◌-◌, ◌/◌, ◌%◌, ◌<◌, ◌≤◌, Bool, true, false, List, [], ◌∷◌, ◌++◌, length, map, get_or, Option, Some, None, slice_get, refl, sym, ap, ◌∙◌, arith}
use Rattle.std.specs.Prelude.{bytes_eq, nat_lt, unwrap_or, ◌==◌, if◌then◌else◌}
use Rattle.std.specs.List.{AllByRecursion}
use Rattle.std.proofs.lemmas.Bool.{false_from_ne_true, ltb-true, ne_eqb}
use Rattle.std.proofs.lemmas.Bool.Decides.{nat_tests}
use Rattle.std.proofs.lemmas.Slice.Eq.{bytes_eq-Decides}
use Rattle.flat_code.specs.Instr.{Instr, Does, Jumps, JumpsByList, Calls, Returns}
use Rattle.flat_code.specs.OpCodes.{op_code_of}
use Rattle.flat_code.specs.declared.operands.Operand.{Operand}
use Rattle.flat_code.specs.declared.operands.Operand.TheVariants as operand
use Rattle.stl_ast.specs.Statements.{is_empty_statement}
use Rattle.stl_ast.specs.declared.statements.Statement.{Statement}
use Rattle.stl_types.specs.Lists.{has_label}
use Rattle.stl_codegen.specs.CompiledBlock.{SourceInstruction, operand_with_target, compiled_block}
use Rattle.stl_codegen.specs.Instruction.{target_in}
use Rattle.stl_list.specs.Labels.{base_36_digit, label_of_number, three_digits}
use Rattle.stl_list.specs.Lines.{line_of_statement}
use Rattle.stl_list.specs.Mnemonics.{mnemonic_of, mnemonic_by}
use Rattle.stl_list.specs.Runs.{StatementOps, target_marks}
use Rattle.stl_list.specs.Statements.{ListingContext, body_of, label_alone, label_at, label_of_end, listed_statement, statement_at, statements_from, listing_context}
use Rattle.listing_laws.specs.Labels.{AreLabelsApart, AreLabelsReached, HasWord}
use Rattle.listing_laws.specs.Statements.{statement_offset, run_of}
use Rattle.listing_laws.proofs.RunLemmas.{runs_found, targets_found}

-- ---- apart

same_digit : (x y : ℕ) → x < 36 → y < 36 → base_36_digit x ≡ base_36_digit y → x ≡ y
same_digit x y h k e = grind (arith, nat_tests)

abbrev at : List ℕ → ℕ → ℕ
at text k = get_or text k 0

same_digits : (m n : ℕ) (first : ℕ) → m < 46656 → n < 46656 → first ∷ three_digits m ≡ first ∷ three_digits n → m ≡ n
same_digits m n first h k e =
    let high : m / 1296 % 36 ≡ n / 1296 % 36 = same_digit (m / 1296 % 36) (n / 1296 % 36) (omega arith) (omega arith) (ap (λ (t : List ℕ). at t 1) e) in
    let middle : m / 36 % 36 ≡ n / 36 % 36 = same_digit (m / 36 % 36) (n / 36 % 36) (omega arith) (omega arith) (ap (λ (t : List ℕ). at t 2) e) in
    let low : m % 36 ≡ n % 36 = same_digit (m % 36) (n % 36) (omega arith) (omega arith) (ap (λ (t : List ℕ). at t 3) e) in
    omega (arith, high, middle, low, h, k)

pub labels_apart : AreLabelsApart
unfolding label_of_number
labels_apart m n h k e = by (nat_lt m 46656) (nat_lt n 46656) refl refl e
  where
    by : (a b : Bool) → nat_lt m 46656 ≡ a → nat_lt n 46656 ≡ b
        → (if a then 95 ∷ three_digits m else 90 ∷ three_digits (m - 46656)) ≡ (if b then 95 ∷ three_digits n else 90 ∷ three_digits (n - 46656)) → m ≡ n
    by true true f g e = same_digits m n 95 (ltb-true m 46656 f) (ltb-true n 46656 g) e
    by true false f g e = let first : 95 ≡ 90 = ap (λ (t : List ℕ). at t 0) e in absurd (omega (arith, first))
    by false true f g e = let first : 90 ≡ 95 = ap (λ (t : List ℕ). at t 0) e in absurd (omega (arith, first))
    by false false f g e =
        let low = past m f in
        let low2 = past n g in
        let rest = same_digits (m - 46656) (n - 46656) 90 (omega (arith, h)) (omega (arith, k)) e in
        omega (arith, rest, low, low2)
      where
        past : (n : ℕ) → nat_lt n 46656 ≡ false → 46656 ≤ n
        past n g = grind (arith, nat_tests)

-- ---- at their statements

pub same_label : (n : ℕ) → bytes_eq (label_of_number n) (label_of_number n) ≡ true
same_label n = (bytes_eq-Decides (label_of_number n) (label_of_number n)).1 refl

pub other_label : (m n : ℕ) → m < 93312 → n < 93312 → (m ≡ n → ⊥) → bytes_eq (label_of_number m) (label_of_number n) ≡ false
other_label m n h k apart = false_from_ne_true (bytes_eq (label_of_number m) (label_of_number n)) (λ y. apart (labels_apart m n h k ((bytes_eq-Decides (label_of_number m) (label_of_number n)).0 y)))

-- a statement before the one that has the label
pub not_here : (targets : List Bool) (k n : ℕ) → k < n → n < 93312 → has_label (label_of_number n) (label_at targets k) ≡ false
not_here targets k n h few = by (unwrap_or (slice_get targets k) false)
  where
    by : (b : Bool) → has_label (label_of_number n) (if b then Some (label_of_number k) else None) ≡ false
    by true = other_label n k few (omega (arith, h, few)) (λ e. omega (arith, e, h))
    by false = refl

pub here : (targets : List Bool) (n : ℕ) → unwrap_or (slice_get targets n) false ≡ true → label_at targets n ≡ Some (label_of_number n)
here targets n h = rw h refl

-- in the list of what follows
found_here : (name : List ℕ) (s : Statement) (ss : List Statement) → has_label name s.label ≡ true → target_in name (s ∷ ss) ≡ 0
unfolding target_in
found_here name s ss h = rw h refl

found_later : (name : List ℕ) (s : Statement) (ss : List Statement) → has_label name s.label ≡ false → is_empty_statement s.code ≡ false → target_in name (s ∷ ss) ≡ 1 + target_in name ss
unfolding target_in
found_later name s ss h some = rw (h, some) refl

last_found : (line n : ℕ) (found : Option (List ℕ)) (rest : List Statement) → found ≡ Some (label_of_number n) → target_in (label_of_number n) (label_of_end line found ++ rest) ≡ 0
last_found line n found rest e =
    ap (λ (o : Option (List ℕ)). target_in (label_of_number n) (label_of_end line o ++ rest)) e
    ∙ found_here (label_of_number n) (label_alone line (label_of_number n)) rest (same_label n)

first_found : (sur : ListingContext) (n : ℕ) (r : StatementOps) (rest : List Statement) → unwrap_or (slice_get sur.targets n) false ≡ true → target_in (label_of_number n) (statement_at sur n r ++ rest) ≡ 0
unfolding statement_at
first_found sur n r rest h = by (suc n == length sur.lines)
  where
    by : (b : Bool) → target_in (label_of_number n) ((if b then label_of_end (line_of_statement sur.lines n) (label_at sur.targets n) else listed_statement sur n r ∷ []) ++ rest) ≡ 0
    by true = last_found (line_of_statement sur.lines n) n (label_at sur.targets n) rest (here sur.targets n h)
    by false = found_here (label_of_number n) (listed_statement sur n r) rest (ap (has_label (label_of_number n)) (here sur.targets n h) ∙ same_label n)

next_found : (sur : ListingContext) (k n : ℕ) (r : StatementOps) (rest : List Statement) → k < n → n < 93312 → suc k < length sur.lines → is_empty_statement (mnemonic_of r.op) ≡ false
    → target_in (label_of_number n) (statement_at sur k r ++ rest) ≡ 1 + target_in (label_of_number n) rest
unfolding statement_at
next_found sur k n r rest h few more some =
    let inner : (suc k == length sur.lines) ≡ false = ne_eqb (suc k) (length sur.lines) (λ e. omega (arith, e, more)) in
    ap (λ (b : Bool). target_in (label_of_number n) ((if b then label_of_end (line_of_statement sur.lines k) (label_at sur.targets k) else listed_statement sur k r ∷ []) ++ rest)) inner
    ∙ found_later (label_of_number n) (listed_statement sur k r) rest (not_here sur.targets k n h few) some

pub equal : (k n : ℕ) → (k == n) ≡ true → k ≡ n
equal k n e = grind (arith, nat_tests)

pub below : (k n : ℕ) → k ≤ n → (k == n) ≡ false → k < n
below k n low e = grind (arith, nat_tests)

abbrev Words : (ℕ → ℕ) → List SourceInstruction → Type 0
Words f ss = AllByRecursion (λ s. is_empty_statement (mnemonic_of (run_of f s.instr).op) ≡ false) ss

reached_from : (sur : ListingContext) (f : ℕ → ℕ) (k n : ℕ) (ss : List SourceInstruction) → Words f ss → length sur.lines ≡ k + length ss → length sur.lines ≤ 93312
    → unwrap_or (slice_get sur.targets n) false ≡ true → k ≤ n → n < k + length ss
    → k + target_in (label_of_number n) (statements_from sur k (map (λ s. run_of f s.instr) ss)) ≡ n
reached_from sur f k n [] words size few marked low high = absurd (omega (arith, low, high))
reached_from sur f k n (s ∷ ss) words size few marked low high =
    by (k == n) refl
    (λ other. reached_from sur f (suc k) n ss words.1 (omega (arith, size)) few marked (omega (arith, other)) (omega (arith, high)))
  where
    rest : List Statement
    rest = statements_from sur (suc k) (map (λ s. run_of f s.instr) ss)

    by : (b : Bool) → (k == n) ≡ b → (k < n → suc k + target_in (label_of_number n) rest ≡ n)
        → k + target_in (label_of_number n) (statement_at sur k (run_of f s.instr) ++ rest) ≡ n
    by true e more =
        let same : k ≡ n = equal k n e in
        let found : target_in (label_of_number n) (statement_at sur k (run_of f s.instr) ++ rest) ≡ 0 =
        ap (λ (z : ℕ). target_in (label_of_number z) (statement_at sur k (run_of f s.instr) ++ rest)) (sym same)
        ∙ first_found sur k (run_of f s.instr) rest (ap (λ (z : ℕ). unwrap_or (slice_get sur.targets z) false) same ∙ marked) in
        omega (arith, same, found)
    by false e more =
        let other : k < n = below k n low e in
        let found : target_in (label_of_number n) (statement_at sur k (run_of f s.instr) ++ rest) ≡ 1 + target_in (label_of_number n) rest =
        next_found sur k n (run_of f s.instr) rest other (omega (arith, size, few, high)) (omega (arith, size, other, high)) words.0 in
        let more = more other in
        omega (arith, found, more)

-- a word goes by no target
operand_words : (f : ℕ → ℕ) (op_code : ℕ) (o : Operand) → mnemonic_by op_code (operand_with_target f o) ≡ mnemonic_by op_code (operand_with_target (λ n. n) o)
operand_words f op_code (operand.Jump kind target) = refl
operand_words f op_code _ = refl

pub same_word : (f : ℕ → ℕ) (i : Instr) → mnemonic_of (run_of f i).op ≡ mnemonic_of (run_of (λ n. n) i).op
same_word f (Does use_db w o) = operand_words f (op_code_of w) o
same_word f (Jumps how target) = refl
same_word f (JumpsByList targets otherwise) = refl
same_word f (Calls how block instance passings) = refl
same_word f (Returns how) = refl

placed_words : (f : ℕ → ℕ) (ss : List SourceInstruction) → AllByRecursion (λ s. HasWord s.instr) ss → Words f ss
placed_words f [] h = tt
placed_words f (s ∷ ss) h = (ap is_empty_statement (same_word f s.instr) ∙ h.0, placed_words f ss h.1)

pub labels_reached : AreLabelsReached
unfolding body_of
labels_reached signatures lines b n words size few within jumps =
    let sur = listing_context signatures lines (compiled_block b) in
    let f = statement_offset b.statements in
    let found = reached_from sur f 0 n b.statements (placed_words f b.statements words) (omega (arith, size)) (omega (arith, size, few)) (targets_found b.statements n within ∙ jumps) (omega arith) (omega (arith, within)) in
    ap (λ (rs : List StatementOps). target_in (label_of_number n) (statements_from sur 0 rs)) (runs_found b.statements) ∙ omega (arith, found)
