-- Each jump of a listed body leads to a label of it.
use Rattle.std.proofs.Common.{◌≡◌, ℕ, zero, suc, ◌+◌, ◌<◌, ◌≤◌, Bool, true, false, List, [], ◌∷◌, ◌++◌, length, map, Option, Some, None, if◌then◌else◌, is_some, refl, ap, ◌∙◌, arith}
use Rattle.std.specs.Prelude.{bytes_eq, min, option_map, slice_get, ◌==◌, ◌||◌}
use Rattle.std.specs.List.{AllByRecursion, list_any}
use Rattle.std.specs.Option.{is_none, unwrap_or}
use Rattle.std.proofs.lemmas.Bool.{eq-eqb}
use Rattle.std.proofs.lemmas.Bool.Decides.{nat_tests}
use Rattle.std.proofs.lemmas.Slice.Eq.{bytes_eq-Decides}
use Rattle.plc_base.specs.Least.{broken_if}
use Rattle.plc_base.specs.declared.refusals.Refusal.{Refusal}
use Rattle.flat_code.specs.Kinds.{timer_kind}
use Rattle.flat_code.specs.Instr.{Calls, Does, Instr, Jumps, JumpsByList, Returns}
use Rattle.flat_code.specs.declared.operands.Operand.{Operand as FlatOperand}
use Rattle.flat_code.specs.declared.operands.Operand.TheVariants as flat
use Rattle.flat_code.specs.declared.operations.AddConstant.TheVariants as add_constant
use Rattle.flat_code.specs.declared.operations.Logic.TheVariants as logic
use Rattle.flat_code.specs.declared.operations.Operation.{Operation}
use Rattle.flat_code.specs.declared.operations.Operation.TheVariants as operation
use Rattle.flat_code.specs.declared.operations.PointerOperation.TheVariants as pointers
use Rattle.stl_ast.specs.declared.operands.Operand.{Operand}
use Rattle.stl_ast.specs.declared.operands.Operand.TheVariants as operand
use Rattle.stl_ast.specs.declared.statements.Statement.{Statement}
use Rattle.stl_symbols.specs.Names.{name_place}
use Rattle.stl_types.specs.Labels.{is_unknown_label, label_of as label_list, labels_of, unknown_labels}
use Rattle.stl_types.specs.declared.parameters.Formal.{Formal}
use Rattle.stl_codegen.specs.CompiledBlock.{SourceInstruction, compiled_block}
use Rattle.stl_list.specs.Constants.{instruction_constant}
use Rattle.stl_list.specs.Labels.{label_of_number}
use Rattle.stl_list.specs.Lines.{line_of_statement}
use Rattle.stl_list.specs.Operands.{implied_operand, operand_by, plain_operand}
use Rattle.stl_list.specs.Runs.{StatementOps, statement_number_at}
use Rattle.stl_list.specs.Statements.{ListingContext, body_of, label_at, label_of_end, listed_statement, statement_at, statements_from, listing_context}
use Rattle.listing_laws.specs.LabelRules.{AreJumpLabelsKnown, LeadsWithin}
use Rattle.listing_laws.specs.Statements.{jumps_to, statement_offset, run_of}
use Rattle.listing_laws.proofs.RunLemmas.{numbers_found, runs_found, targets_found}

-- ---- the labels of a listed body

abbrev numbered_labels : (targets : List Bool) → (k count : ℕ) → List (List ℕ)
numbered_labels targets k zero = []
numbered_labels targets k (suc count) = label_list (label_at targets k) ++ numbered_labels targets (suc k) count

end_labels : (line : ℕ) (label : Option (List ℕ)) (rest : List Statement) → labels_of (label_of_end line label ++ rest) ≡ label_list label ++ labels_of rest
end_labels line None rest = refl
end_labels line (Some label) rest = refl

here_labels : (sur : ListingContext) (k : ℕ) (r : StatementOps) (rest : List Statement) → labels_of (statement_at sur k r ++ rest) ≡ label_list (label_at sur.targets k) ++ labels_of rest
unfolding statement_at
here_labels sur k r rest = by (suc k == length sur.lines)
  where
    by : (b : Bool) → labels_of ((if b then label_of_end (line_of_statement sur.lines k) (label_at sur.targets k) else listed_statement sur k r ∷ []) ++ rest) ≡ label_list (label_at sur.targets k) ++ labels_of rest
    by true = end_labels (line_of_statement sur.lines k) (label_at sur.targets k) rest
    by false = refl

all_labels : (sur : ListingContext) (k : ℕ) (rs : List StatementOps) → labels_of (statements_from sur k rs) ≡ numbered_labels sur.targets k (length rs)
all_labels sur k [] = refl
all_labels sur k (r ∷ rs) = here_labels sur k r (statements_from sur (suc k) rs) ∙ ap (λ (ls : List (List ℕ)). label_list (label_at sur.targets k) ++ ls) (all_labels sur (suc k) rs)

-- ---- a label that stands there

equal : (k n : ℕ) → (k == n) ≡ true → k ≡ n
equal k n e = grind (arith, nat_tests)

below : (k n : ℕ) → k ≤ n → (k == n) ≡ false → suc k ≤ n
below k n low e = grind (arith, nat_tests)

some_later : (name other : List ℕ) (rest : List (List ℕ)) → is_some (name_place name rest) ≡ true → is_some (name_place name (other ∷ rest)) ≡ true
some_later name other rest h = by (bytes_eq name other) (name_place name rest) h
  where
    by : (b : Bool) (o : Option ℕ) → is_some o ≡ true → is_some (if b then Some 0 else option_map (λ (j : ℕ). suc j) o) ≡ true
    by true o e = refl
    by false None e = absurd cc
    by false (Some j) e = refl

some_behind : (name : List ℕ) (label : Option (List ℕ)) (rest : List (List ℕ)) → is_some (name_place name rest) ≡ true → is_some (name_place name (label_list label ++ rest)) ≡ true
some_behind name None rest h = h
some_behind name (Some other) rest h = some_later name other rest h

some_here : (name : List ℕ) (rest : List (List ℕ)) → is_some (name_place name (name ∷ rest)) ≡ true
some_here name rest = ap (λ (b : Bool). is_some (if b then Some 0 else option_map (λ (j : ℕ). suc j) (name_place name rest))) ((bytes_eq-Decides name name).1 refl)

is_there : (targets : List Bool) (k count n : ℕ) → k ≤ n → n < k + count → unwrap_or (slice_get targets n) false ≡ true → is_some (name_place (label_of_number n) (numbered_labels targets k count)) ≡ true
is_there targets k zero n low high marked = absurd (omega (arith, low, high))
is_there targets k (suc count) n low high marked = by (k == n) refl (λ more. is_there targets (suc k) count n more (omega (arith, high)) marked)
  where
    label_here : k ≡ n → label_at targets k ≡ Some (label_of_number n)
    label_here e = ap (label_at targets) e ∙ ap (λ (b : Bool). if b then Some (label_of_number n) else None) marked

    by : (b : Bool) → (k == n) ≡ b → (suc k ≤ n → is_some (name_place (label_of_number n) (numbered_labels targets (suc k) count)) ≡ true)
        → is_some (name_place (label_of_number n) (label_list (label_at targets k) ++ numbered_labels targets (suc k) count)) ≡ true
    by true e later = ap (λ (l : Option (List ℕ)). is_some (name_place (label_of_number n) (label_list l ++ numbered_labels targets (suc k) count))) (label_here (equal k n e)) ∙ some_here (label_of_number n) (numbered_labels targets (suc k) count)
    by false e later = some_behind (label_of_number n) (label_at targets k) (numbered_labels targets (suc k) count) (later (below k n low e))

-- ---- operands that are no labels

abbrev IsNoLabel : Operand → Type 0
IsNoLabel o = (labels : List (List ℕ)) → is_unknown_label labels o ≡ false

implied_no : (w : Operation) → IsNoLabel (implied_operand w)
implied_no operation.LoadStatus labels = refl
implied_no operation.TransferStatus labels = refl
implied_no (operation.Pointer pointers.Lar1Ar2) labels = refl
implied_no (operation.Pointer pointers.Tar1Ar2) labels = refl
implied_no _ labels = refl

constant_no : (w : Operation) (bits : ℕ) → IsNoLabel (instruction_constant w bits)
constant_no operation.Load bits labels = refl
constant_no (operation.Logic logic.Ad) bits labels = refl
constant_no (operation.Logic logic.Od) bits labels = refl
constant_no (operation.Logic logic.Xod) bits labels = refl
constant_no (operation.Logic _) bits labels = refl
constant_no (operation.Pointer which) bits labels = refl
constant_no (operation.Add add_constant.Dword) bits labels = refl
constant_no operation.LoadOpenBlock bits labels = refl
constant_no _ bits labels = refl

timer_no : (b : Bool) (number : ℕ) → IsNoLabel (if b then operand.Timer number else operand.Counter number)
timer_no true number labels = refl
timer_no false number labels = refl

-- an operand that is a jump goes to one of these labels
abbrev pub JumpsIn : (List (List ℕ)) → (starts : List ℕ) → FlatOperand → Type 0
JumpsIn labels starts (flat.Jump kind target) = is_some (name_place (label_of_number (statement_number_at starts target)) labels) ≡ true
JumpsIn labels starts _ = Unit {0}

none_is : {A : Type 0} (o : Option A) → is_some o ≡ true → is_none o ≡ false
none_is None e = absurd cc
none_is (Some x) e = refl

pub no_unknown : (labels : List (List ℕ)) (formals : List Formal) (starts : List ℕ) (opened : Option ℕ) (w : Operation) (f : FlatOperand) → JumpsIn labels starts f → is_unknown_label labels (operand_by formals starts opened w f) ≡ false
unfolding operand_by plain_operand
no_unknown labels formals starts opened w flat.Nothing h = implied_no w labels
no_unknown labels formals starts opened w (flat.Literal value) h = constant_no w value labels
no_unknown labels formals starts opened w (flat.Jump kind target) h = none_is (name_place (label_of_number (statement_number_at starts target)) labels) h
no_unknown labels formals starts opened w (flat.Numbered kind number) h = timer_no (kind == timer_kind) number labels
no_unknown labels formals starts opened w _ h = refl

-- ---- all statements

abbrev All : List (List ℕ) → (starts : List ℕ) → List StatementOps → Type 0
All labels starts rs = AllByRecursion (λ r. JumpsIn labels starts r.op.operand) rs

abbrev found_in : List (List ℕ) → List Statement → List Refusal
found_in labels body = unknown_labels labels body

end_known : (labels : List (List ℕ)) (line : ℕ) (label : Option (List ℕ)) (rest : List Statement) → found_in labels (label_of_end line label ++ rest) ≡ found_in labels rest
end_known labels line None rest = refl
end_known labels line (Some label) rest = refl

here_known : (sur : ListingContext) (labels : List (List ℕ)) (k : ℕ) (r : StatementOps) (rest : List Statement) → JumpsIn labels sur.starts r.op.operand → found_in labels (statement_at sur k r ++ rest) ≡ found_in labels rest
unfolding statement_at
here_known sur labels k r rest h = by (suc k == length sur.lines)
  where
    by : (b : Bool) → found_in labels ((if b then label_of_end (line_of_statement sur.lines k) (label_at sur.targets k) else listed_statement sur k r ∷ []) ++ rest) ≡ found_in labels rest
    by true = end_known labels (line_of_statement sur.lines k) (label_at sur.targets k) rest
    by false = ap (λ (b : Bool). broken_if b (line_of_statement sur.lines k) 26 ++ found_in labels rest) (no_unknown labels sur.formals sur.starts _ _ r.op.operand h)

all_known : (sur : ListingContext) (labels : List (List ℕ)) (k : ℕ) (rs : List StatementOps) → All labels sur.starts rs → found_in labels (statements_from sur k rs) ≡ []
all_known sur labels k [] h = refl
all_known sur labels k (r ∷ rs) h = here_known sur labels k r (statements_from sur (suc k) rs) h.0 ∙ all_known sur labels (suc k) rs h.1

-- ---- the jumps of the statements

itself : (t : ℕ) → (t == t) ≡ true
itself t = eq-eqb t t refl

abbrev pub IsMet : List (List ℕ) → (starts : List ℕ) → (ℕ → ℕ) → ℕ → Type 0
IsMet labels starts f t = is_some (name_place (label_of_number (statement_number_at starts (f t))) labels) ≡ true

pub one : (labels : List (List ℕ)) (starts : List ℕ) (f : ℕ → ℕ) (i : Instr) → ((t : ℕ) → jumps_to t i ≡ true → IsMet labels starts f t) → JumpsIn labels starts (run_of f i).op.operand
one labels starts f (Does u w (flat.Jump kind t)) h = h t (itself t)
one labels starts f (Does u w _) h = tt
one labels starts f (Jumps how t) h = h t (itself t)
one labels starts f (JumpsByList targets t) h = h t (itself t)
one labels starts f (Calls how block instance passings) h = tt
one labels starts f (Returns how) h = tt

or_left : (a b : Bool) → a ≡ true → (a || b) ≡ true
or_left true b e = refl
or_left false b e = absurd cc

or_right : (a b : Bool) → b ≡ true → (a || b) ≡ true
or_right true b e = refl
or_right false b e = e

abbrev any_to : ℕ → List SourceInstruction → Bool
any_to t ss = list_any (λ s. jumps_to t s.instr) ss

all_of : (labels : List (List ℕ)) (starts : List ℕ) (f : ℕ → ℕ) (whole ss : List SourceInstruction) → AllByRecursion (λ s. LeadsWithin (length whole) s.instr) ss
    → ((t : ℕ) → any_to t ss ≡ true → any_to t whole ≡ true) → ((t : ℕ) → t < length whole → any_to t whole ≡ true → IsMet labels starts f t)
    → All labels starts (map (λ s. run_of f s.instr) ss)
all_of labels starts f whole [] w into met = tt
all_of labels starts f whole (s ∷ ss) w into met = (
  one labels starts f s.instr (λ t j. met t (w.0 t j) (into t (or_left (jumps_to t s.instr) (any_to t ss) j))),
  all_of labels starts f whole ss w.1 (λ t h. into t (or_right (jumps_to t s.instr) (any_to t ss) h)) met,
)

map_length : (f : SourceInstruction → StatementOps) (xs : List SourceInstruction) → length (map f xs) ≡ length xs
map_length f [] = refl
map_length f (x ∷ xs) = ap suc (map_length f xs)

least_is : (t n : ℕ) → t < n → min t n ≡ t
least_is t n h = omega (arith, h)

pub labels_known : AreJumpLabelsKnown
unfolding body_of
labels_known signatures lines b within =
    ap (λ (rs : List StatementOps). unknown_labels (labels_of (statements_from sur 0 rs)) (statements_from sur 0 rs)) (runs_found b.statements)
    ∙ ap (λ (ls : List (List ℕ)). unknown_labels ls (statements_from sur 0 rs)) (all_labels sur 0 rs)
    ∙ all_known sur labels 0 rs (all_of labels sur.starts f b.statements b.statements within (λ t h. h) met)
  where
    sur : ListingContext
    sur = listing_context signatures lines (compiled_block b)

    f : ℕ → ℕ
    f = statement_offset b.statements

    rs : List StatementOps
    rs = map (λ s. run_of f s.instr) b.statements

    labels : List (List ℕ)
    labels = numbered_labels sur.targets 0 (length rs)

    met : (t : ℕ) → t < length b.statements → any_to t b.statements ≡ true → IsMet labels sur.starts f t
    met t h j =
        let size = map_length (λ s. run_of f s.instr) b.statements in
        ap (λ (n : ℕ). is_some (name_place (label_of_number n) labels)) (numbers_found b.statements t ∙ least_is t (length b.statements) h)
        ∙ is_there sur.targets 0 (length rs) t (omega arith) (omega (arith, h, size)) (targets_found b.statements t h ∙ j)
