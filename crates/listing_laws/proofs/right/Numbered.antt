-- A body with another statement in the place of each: what the rules of jump lists and of landings see of it.
use Rattle.std.proofs.Common.{◌≡◌, ℕ, suc, ◌+◌, ◌-◌, ◌<◌, ◌≤◌, Bool, true, false, ◌&&◌, List, [], ◌∷◌, ◌++◌, append_assoc, Option, Some, None, if◌then◌else◌, is_some, refl, sym, ap, subst, ◌∙◌, arith}
use Rattle.std.specs.Prelude.{bytes_eq, nat_lt, not, option_map, slice_get, unwrap_or}
use Rattle.std.specs.Option.{option_and_then}
use Rattle.plc_base.proofs.ListLemmas.{all_append}
use Rattle.plc_base.specs.Least.{broken_if}
use Rattle.flat_code.specs.declared.kinds.JumpOperation.{JumpOperation}
use Rattle.flat_code.specs.declared.kinds.JumpOperation.TheVariants as jump
use Rattle.stl_ast.specs.Statements.{is_empty_statement}
use Rattle.stl_ast.specs.declared.mnemonics.Mnemonic.{Mnemonic}
use Rattle.stl_ast.specs.declared.mnemonics.Mnemonic.TheVariants as code
use Rattle.stl_ast.specs.declared.operands.Operand.{Operand}
use Rattle.stl_ast.specs.declared.operands.Operand.TheVariants as operand
use Rattle.stl_ast.specs.declared.statements.Statement.{Statement}
use Rattle.stl_symbols.specs.Names.{name_place}
use Rattle.stl_types.specs.Brackets.{bracket_function}
use Rattle.stl_types.specs.Labels.{is_unknown_label, label_of as label_list, labels_of}
use Rattle.stl_types.specs.Landings.{Landing, SourceNesting, crosses_nesting, crossing_jumps, landing_at, landing_here, landing_of, landings_at_labels, lands_elsewhere, nesting_behind, empty_nesting}
use Rattle.stl_types.specs.Lists.{list_goes_on, has_label, is_list_jump, is_list_to, is_unconditional_jump, is_wrong_list, lacks_list, jumps_left, lists_from}
use Rattle.stl_types.specs.declared.brackets.SourceBracket.{SourceBracket}
use Rattle.stl_codegen.specs.Bodies.{count_of_statements}
use Rattle.stl_codegen.specs.Instruction.{count_of_statement, target_in}
use Rattle.stl_codegen.specs.Operations.{jump_operation_of}
use Rattle.stl_list.specs.Labels.{label_of_number}
use Rattle.stl_list.specs.Statements.{label_at}
use Rattle.block_layout.proofs.CommonLemmas.{none_left, none_right, not_broken}
use Rattle.sem_kept.proofs.accepted.JumpsRules.{AreRightFrom, by_33, has_list, target_is, target_past}
use Rattle.listing_laws.proofs.JumpLemmas.{Others, others_later, others_more}
use Rattle.listing_laws.proofs.LabelLemmas.{here, not_here, same_label}
use Rattle.listing_laws.proofs.ruled.Nesting.{bracket_still, brackets_alike, stub, zone_still}
use Rattle.listing_laws.specs.Nesting.{NestingMark}

-- ---- statements in the places of others

-- another statement for each that has a number, of statements from a number on
abbrev pub numbered_from : (ℕ → Statement → Statement) → (k : ℕ) → List Statement → List Statement
numbered_from again k [] = []
numbered_from again k (s ∷ ss) = if is_empty_statement s.code then numbered_from again k ss else again k s ∷ numbered_from again (suc k) ss

-- a jump leads to the statement of a number
abbrev pub IsMarked : List Bool → (n : ℕ) → Type 0
IsMarked targets n = unwrap_or (slice_get targets n) false ≡ true

-- a jump, and the one in its place: its label is that of the number of the statement to which it leads
pub record IsJumpAgain (body : List Statement) (targets : List Bool) (s again : Statement) : Type 0 where
  pub name : List ℕ
  pub is : s.operand ≡ operand.Label name
  pub known : is_unknown_label (labels_of body) (operand.Label name) ≡ false
  pub leads : again.operand ≡ operand.Label (label_of_number (target_in name body))
  pub marked : IsMarked targets (target_in name body)
  pub few : target_in name body < 93312

-- an operand that is no label
abbrev pub IsNoLabel : Operand → Type 0
IsNoLabel o = is_unknown_label [] o ≡ false

-- a statement, and the one in its place
pub record IsAgain (body : List Statement) (targets : List Bool) (k : ℕ) (s again : Statement) : Type 0 where
  pub word : again.code ≡ s.code
  pub line : again.line ≡ s.line
  pub label : again.label ≡ label_at targets k
  pub jump : (how : JumpOperation) → jump_operation_of s.code ≡ Some how → IsJumpAgain body targets s again
  pub plain : jump_operation_of s.code ≡ None → IsNoLabel again.operand

-- a statement with a number has one in its place, and an empty one no label
pub record IsPlaced (body : List Statement) (targets : List Bool) (again : ℕ → Statement → Statement) (k : ℕ) (s : Statement) : Type 0 where
  pub some : is_empty_statement s.code ≡ false → IsAgain body targets k s (again k s)
  pub bare : is_empty_statement s.code ≡ true → s.label ≡ None

abbrev pub ArePlaced : (body : List Statement) → List Bool → (ℕ → Statement → Statement) → (k : ℕ) → List Statement → Type 0
ArePlaced body targets again k [] = Unit {0}
ArePlaced body targets again k (s ∷ ss) = IsPlaced body targets again k s × ArePlaced body targets again (if is_empty_statement s.code then k else suc k) ss

-- ---- labels before

no_place_at : (n k : ℕ) (before : List (List ℕ)) → k ≤ n → n < 93312 → Others k before → name_place (label_of_number n) before ≡ None
no_place_at n k [] low few h = refl
no_place_at n k (l ∷ before) low few h = rw (h.0 n low few, no_place_at n k before low few h.1) refl

others_here : (targets : List Bool) (k : ℕ) (before : List (List ℕ)) → Others k before → Others (suc k) (before ++ label_list (label_at targets k))
others_here targets k before h = by (unwrap_or (slice_get targets k) false)
  where
    by : (b : Bool) → Others (suc k) (before ++ label_list (if b then Some (label_of_number k) else None))
    by true = others_more k before h
    by false = all_append (λ l. (n : ℕ) → suc k ≤ n → n < 93312 → bytes_eq (label_of_number n) l ≡ false) before [] (others_later k before h) tt

no_label : (name : List ℕ) (label : Option (List ℕ)) → has_label name label ≡ true → label ≡ None → ⊥
no_label name None h e = absurd cc
no_label name (Some l) h e = absurd cc

-- ---- a jump list

list_kept : (body : List Statement) (targets : List Bool) (again : ℕ → Statement → Statement) (left n k : ℕ) (name : List ℕ) (ss : List Statement)
    → ArePlaced body targets again k ss → n ≡ k + target_in name ss → n < 93312 → IsMarked targets n
    → is_list_to left name ss ≡ true → is_list_to left (label_of_number n) (numbered_from again k ss) ≡ true
unfolding target_in
list_kept body targets again left n k name [] h e few marked leads = absurd cc
list_kept body targets again left n k name (s ∷ ss) h e few marked leads =
    by (has_label name s.label) refl (is_empty_statement s.code) refl e leads h.1 (λ l j all size led. list_kept body targets again l n j name ss all size few marked led)
  where
    rest : List Statement
    rest = numbered_from again (suc k) ss

    plainly : (plain : Bool) → (is_unconditional_jump s.code && nat_lt 0 left) ≡ plain → is_empty_statement s.code ≡ false → has_label (label_of_number n) (again k s).label ≡ false → (again k s).code ≡ s.code
        → list_goes_on (if plain then Some (left - 1) else None) (λ next. is_list_to next name ss) ≡ true
        → (is_list_to (left - 1) name ss ≡ true → is_list_to (left - 1) (label_of_number n) rest ≡ true)
        → is_list_to left (label_of_number n) (again k s ∷ rest) ≡ true
    plainly false p w other word led more = absurd cc
    plainly true p w other word led more =
        ap (λ (b : Bool). if b then true else list_goes_on (jumps_left left (again k s).code) (λ next. is_list_to next (label_of_number n) rest)) other
        ∙ ap (λ (m : Mnemonic). list_goes_on (jumps_left left m) (λ next. is_list_to next (label_of_number n) rest)) word
        ∙ ap (λ (b : Bool). list_goes_on (if b then Some left else if is_unconditional_jump s.code && nat_lt 0 left then Some (left - 1) else None) (λ next. is_list_to next (label_of_number n) rest)) w
        ∙ ap (λ (b : Bool). list_goes_on (if b then Some (left - 1) else None) (λ next. is_list_to next (label_of_number n) rest)) p
        ∙ more led

    found : n ≡ k → (again k s).label ≡ label_at targets k → is_list_to left (label_of_number n) (again k s ∷ rest) ≡ true
    found same label =
        ap (λ (b : Bool). if b then true else list_goes_on (jumps_left left (again k s).code) (λ next. is_list_to next (label_of_number n) rest))
        (ap (has_label (label_of_number n)) (label ∙ ap (label_at targets) (sym same) ∙ here targets n marked) ∙ same_label n)

    by : (found : Bool) → has_label name s.label ≡ found → (none : Bool) → is_empty_statement s.code ≡ none
        → n ≡ k + (if found then 0 else (if none then 0 else 1) + target_in name ss)
        → (if found then true else list_goes_on (if none then Some left else if is_unconditional_jump s.code && nat_lt 0 left then Some (left - 1) else None) (λ next. is_list_to next name ss)) ≡ true
        → ArePlaced body targets again (if none then k else suc k) ss
        → ((l j : ℕ) → ArePlaced body targets again j ss → n ≡ j + target_in name ss → is_list_to l name ss ≡ true → is_list_to l (label_of_number n) (numbered_from again j ss) ≡ true)
        → is_list_to left (label_of_number n) (if none then numbered_from again k ss else again k s ∷ numbered_from again (suc k) ss) ≡ true
    by true g true w size led all more = absurd (no_label name s.label g (h.0.bare w))
    by true g false w size led all more = found (omega (arith, size)) (h.0.some w).label
    by false g true w size led all more = more left k all (omega (arith, size)) led
    by false g false w size led all more =
        let i = h.0.some w in
        plainly (is_unconditional_jump s.code && nat_lt 0 left) refl w (ap (has_label (label_of_number n)) i.label ∙ not_here targets k n (omega (arith, size)) few) i.word led
        (λ l. more (left - 1) (suc k) all (omega (arith, size)) l)

-- ---- all of them

jl_code : (m : Mnemonic) → is_list_jump m ≡ true → jump_operation_of m ≡ Some jump.Jl
jl_code code.Jl h = refl
jl_code _ h = absurd cc

and_false : (a b : Bool) → b ≡ false → (a && b) ≡ false
and_false true b e = e
and_false false b e = refl

count_more : (pre : List Statement) (s : Statement) → count_of_statements (pre ++ s ∷ []) ≡ count_of_statements pre + count_of_statement s
count_more [] s = omega arith
count_more (x ∷ pre) s = let more = count_more pre s in omega (arith, more)

list_right : (body : List Statement) (targets : List Bool) (again : ℕ → Statement → Statement) (pre ss : List Statement) (s : Statement) (k : ℕ) (before : List (List ℕ))
    → body ≡ pre ++ s ∷ ss → count_of_statements (pre ++ s ∷ []) ≡ suc k → AreRightFrom body pre (s ∷ ss) → IsAgain body targets k s (again k s) → ArePlaced body targets again (suc k) ss → Others (suc k) before
    → is_wrong_list before (again k s) (numbered_from again (suc k) ss) ≡ false
list_right body targets again pre ss s k before e count right i all others = by (is_list_jump s.code) refl
  where
    rest : List Statement
    rest = numbered_from again (suc k) ss

    leads : (j : IsJumpAgain body targets s (again k s)) → is_list_jump s.code ≡ true → lacks_list before (again k s).operand rest ≡ false
    leads j g =
        let list = has_list body pre s j.name ss right.0 g j.is in
        let n : ℕ = target_in j.name body in
        let size : n ≡ suc k + target_in j.name ss =
        ap (target_in j.name) (e ∙ sym (append_assoc pre (s ∷ []) ss)) ∙ target_past j.name (pre ++ s ∷ []) ss list.new ∙ ap (λ (m : ℕ). m + target_in j.name ss) count in
        ap (λ (o : Operand). lacks_list before o rest) j.leads
        ∙ ap (λ (place : Option ℕ). not (not (is_some place) && is_list_to 255 (label_of_number n) rest)) (no_place_at n (suc k) before (omega (arith, size)) j.few others)
        ∙ ap (λ (b : Bool). not b) (list_kept body targets again 255 n (suc k) j.name ss all size j.few j.marked list.leads)

    by : (b : Bool) → is_list_jump s.code ≡ b → is_wrong_list before (again k s) rest ≡ false
    by false g = ap (λ (m : Mnemonic). is_list_jump m && lacks_list before (again k s).operand rest) i.word ∙ ap (λ (b : Bool). b && lacks_list before (again k s).operand rest) g
    by true g = and_false (is_list_jump (again k s).code) (lacks_list before (again k s).operand rest) (leads (i.jump jump.Jl (jl_code s.code g)) g)

lists_from_kept : (body : List Statement) (targets : List Bool) (again : ℕ → Statement → Statement) (pre ss : List Statement) (k : ℕ) (before : List (List ℕ))
    → body ≡ pre ++ ss → count_of_statements pre ≡ k → AreRightFrom body pre ss → ArePlaced body targets again k ss → Others k before
    → lists_from before (numbered_from again k ss) ≡ []
lists_from_kept body targets again pre [] k before e count right h others = refl
lists_from_kept body targets again pre (s ∷ ss) k before e count right h others =
    by (is_empty_statement s.code) refl (count_more pre s) h.1
    (λ j next all size free. lists_from_kept body targets again (pre ++ s ∷ []) ss j next (e ∙ sym (append_assoc pre (s ∷ []) ss)) size right.1 all free)
  where
    by : (none : Bool) → is_empty_statement s.code ≡ none → count_of_statements (pre ++ s ∷ []) ≡ count_of_statements pre + (if none then 0 else 1) → ArePlaced body targets again (if none then k else suc k) ss
        → ((j : ℕ) (next : List (List ℕ)) → ArePlaced body targets again j ss → count_of_statements (pre ++ s ∷ []) ≡ j → Others j next → lists_from next (numbered_from again j ss) ≡ [])
        → lists_from before (if none then numbered_from again k ss else again k s ∷ numbered_from again (suc k) ss) ≡ []
    by true w size all more = more k before all (omega (arith, size, count)) others
    by false w size all more =
        let i = h.0.some w in
        let next : List (List ℕ) = before ++ label_list (again k s).label in
        let free : Others (suc k) next = subst (λ (l : Option (List ℕ)). Others (suc k) (before ++ label_list l)) (sym i.label) (others_here targets k before others) in
        let behind : count_of_statements (pre ++ s ∷ []) ≡ suc k = omega (arith, size, count) in
        ap (λ (b : Bool). broken_if b (again k s).line 32 ++ lists_from next (numbered_from again (suc k) ss)) (list_right body targets again pre ss s k next e behind right i all free)
        ∙ more (suc k) next all behind free

-- rule 32
pub lists_kept : (body : List Statement) (targets : List Bool) (again : ℕ → Statement → Statement)
    → AreRightFrom body [] body → ArePlaced body targets again 0 body → lists_from [] (numbered_from again 0 body) ≡ []
lists_kept body targets again right h = lists_from_kept body targets again [] body 0 [] refl refl right h tt

-- ---- what is open

nested_same : (x : SourceNesting) (s again : Statement) → again.code ≡ s.code → again.line ≡ s.line → nesting_behind x again ≡ nesting_behind x s
nested_same x s again word line =
    as_stub again
    ∙ ap (λ (m : Mnemonic). nesting_behind x (stub (mark m again.line))) word
    ∙ ap (λ (n : ℕ). nesting_behind x (stub (mark s.code n))) line
    ∙ sym (as_stub s)
  where
    mark : Mnemonic → ℕ → NestingMark
    mark m n = record { code = m; line = n }

    as_stub : (t : Statement) → nesting_behind x t ≡ nesting_behind x (stub (mark t.code t.line))
    as_stub t = ap (λ (bs : List SourceBracket). nesting bs) (brackets_alike x.brackets t (bracket_function t.code))
      where
        nesting : List SourceBracket → SourceNesting
        nesting bs = record { brackets = bs; zones = (nesting_behind x t).zones }

nested_still : (x : SourceNesting) (s : Statement) → is_empty_statement s.code ≡ true → nesting_behind x s ≡ x
nested_still x s e =
    ap (λ (bs : List SourceBracket). nesting bs (nesting_behind x s).zones) (bracket_still x.brackets s e) ∙ ap (λ (zs : List ℕ). nesting x.brackets zs) (zone_still x.zones s e)
  where
    nesting : List SourceBracket → List ℕ → SourceNesting
    nesting bs zs = record { brackets = bs; zones = zs }

-- what is open at a label, one statement after the other
landing_moved : (x : Landing) (xs : List Landing) (place : Option ℕ) → option_and_then (slice_get (x ∷ xs)) (option_map (λ k. suc k) place) ≡ option_and_then (slice_get xs) place
landing_moved x xs None = refl
landing_moved x xs (Some place) = refl

landing_next : (x : SourceNesting) (s : Statement) (ss : List Statement) (name : List ℕ) (label : Option (List ℕ))
    → landing_at (label_list label ++ labels_of ss) (landing_here x label ++ landings_at_labels (nesting_behind x s) ss) name
    ≡ (if has_label name label then Some (landing_of x) else landing_at (labels_of ss) (landings_at_labels (nesting_behind x s) ss) name)
landing_next x s ss name None = refl
landing_next x s ss name (Some l) = by (bytes_eq name l)
  where
    by : (b : Bool)
        → option_and_then (slice_get (landing_of x ∷ landings_at_labels (nesting_behind x s) ss)) (if b then Some 0 else option_map (λ k. suc k) (name_place name (labels_of ss)))
        ≡ (if b then Some (landing_of x) else landing_at (labels_of ss) (landings_at_labels (nesting_behind x s) ss) name)
    by true = refl
    by false = landing_moved (landing_of x) (landings_at_labels (nesting_behind x s) ss) (name_place name (labels_of ss))

-- that at a label of a body, behind statements
abbrev landing_in : SourceNesting → List Statement → List ℕ → Option Landing
landing_in x ss name = landing_at (labels_of ss) (landings_at_labels x ss) name

landing_kept : (body : List Statement) (targets : List Bool) (again : ℕ → Statement → Statement) (n k : ℕ) (name : List ℕ) (y : Landing) (x : SourceNesting) (ss : List Statement)
    → ArePlaced body targets again k ss → n ≡ k + target_in name ss → n < 93312 → IsMarked targets n
    → landing_in x ss name ≡ Some y → landing_in x (numbered_from again k ss) (label_of_number n) ≡ Some y
unfolding target_in
landing_kept body targets again n k name y x [] h e few marked there = absurd cc
landing_kept body targets again n k name y x (s ∷ ss) h e few marked there =
    by (has_label name s.label) refl (is_empty_statement s.code) refl e (sym (landing_next x s ss name s.label) ∙ there) h.1
    (λ j z all size led. landing_kept body targets again n j name y z ss all size few marked led)
  where
    rest : List Statement
    rest = numbered_from again (suc k) ss

    by : (found : Bool) → has_label name s.label ≡ found → (none : Bool) → is_empty_statement s.code ≡ none
        → n ≡ k + (if found then 0 else (if none then 0 else 1) + target_in name ss)
        → (if found then Some (landing_of x) else landing_in (nesting_behind x s) ss name) ≡ Some y
        → ArePlaced body targets again (if none then k else suc k) ss
        → ((j : ℕ) (z : SourceNesting) → ArePlaced body targets again j ss → n ≡ j + target_in name ss → landing_in z ss name ≡ Some y → landing_in z (numbered_from again j ss) (label_of_number n) ≡ Some y)
        → landing_in x (if none then numbered_from again k ss else again k s ∷ numbered_from again (suc k) ss) (label_of_number n) ≡ Some y
    by true g true w size led all more = absurd (no_label name s.label g (h.0.bare w))
    by true g false w size led all more =
        let i = h.0.some w in
        let same : n ≡ k = omega (arith, size) in
        landing_next x (again k s) rest (label_of_number n) (again k s).label
        ∙ ap (λ (b : Bool). if b then Some (landing_of x) else landing_in (nesting_behind x (again k s)) rest (label_of_number n))
        (ap (has_label (label_of_number n)) (i.label ∙ ap (label_at targets) (sym same) ∙ here targets n marked) ∙ same_label n)
        ∙ led
    by false g true w size led all more =
        more k x all (omega (arith, size)) (ap (λ (z : SourceNesting). landing_in z ss name) (sym (nested_still x s w)) ∙ led)
    by false g false w size led all more =
        let i = h.0.some w in
        landing_next x (again k s) rest (label_of_number n) (again k s).label
        ∙ ap (λ (b : Bool). if b then Some (landing_of x) else landing_in (nesting_behind x (again k s)) rest (label_of_number n))
        (ap (has_label (label_of_number n)) i.label ∙ not_here targets k n (omega (arith, size)) few)
        ∙ ap (λ (z : SourceNesting). landing_in z rest (label_of_number n)) (nested_same x s (again k s) i.word i.line)
        ∙ more (suc k) (nesting_behind x s) all (omega (arith, size)) led

-- ---- jumps and their labels

plain_crosses : (labels : List (List ℕ)) (landings : List Landing) (x : SourceNesting) (o : Operand) → IsNoLabel o → crosses_nesting labels landings x o ≡ false
plain_crosses labels landings x (operand.Label name) h = absurd cc
plain_crosses labels landings x _ h = refl

jumps_from_kept : (body : List Statement) (targets : List Bool) (again : ℕ → Statement → Statement) (k : ℕ) (x : SourceNesting) (ss : List Statement)
    → ArePlaced body targets again 0 body → ArePlaced body targets again k ss
    → by_33 (labels_of body) (landings_at_labels empty_nesting body) x ss ≡ []
    → by_33 (labels_of (numbered_from again 0 body)) (landings_at_labels empty_nesting (numbered_from again 0 body)) x (numbered_from again k ss) ≡ []
jumps_from_kept body targets again k x [] whole h e = refl
jumps_from_kept body targets again k x (s ∷ ss) whole h e =
    by (is_empty_statement s.code) refl h.1
    (none_right (broken_if (crosses_nesting labels landings x s.operand) s.line 33) (by_33 labels landings (nesting_behind x s) ss) e)
    (λ j z all led. jumps_from_kept body targets again j z ss whole all led)
  where
    labels : List (List ℕ)
    labels = labels_of body

    landings : List Landing
    landings = landings_at_labels empty_nesting body

    listed : List Statement
    listed = numbered_from again 0 body

    lands : crosses_nesting labels landings x s.operand ≡ false
    lands = not_broken (crosses_nesting labels landings x s.operand) s.line 33
        (none_left (broken_if (crosses_nesting labels landings x s.operand) s.line 33) (by_33 labels landings (nesting_behind x s) ss) e)

    there : (j : IsJumpAgain body targets s (again k s)) → crosses_nesting (labels_of listed) (landings_at_labels empty_nesting listed) x (again k s).operand ≡ false
    there j =
        let target = target_is body j.name j.known in
        let n : ℕ = target_in j.name body in
        let again_there = landing_kept body targets again n 0 j.name _ empty_nesting body whole (omega arith) j.few j.marked target.landing in
        ap (crosses_nesting (labels_of listed) (landings_at_labels empty_nesting listed) x) j.leads
        ∙ ap (lands_elsewhere (landing_of x)) (again_there ∙ sym target.landing)
        ∙ ap (crosses_nesting labels landings x) (sym j.is)
        ∙ lands

    right : IsAgain body targets k s (again k s) → crosses_nesting (labels_of listed) (landings_at_labels empty_nesting listed) x (again k s).operand ≡ false
    right i = by (jump_operation_of s.code) refl
      where
        by : (how : Option JumpOperation) → jump_operation_of s.code ≡ how → crosses_nesting (labels_of listed) (landings_at_labels empty_nesting listed) x (again k s).operand ≡ false
        by None g = plain_crosses (labels_of listed) (landings_at_labels empty_nesting listed) x (again k s).operand (i.plain g)
        by (Some how) g = there (i.jump how g)

    by : (none : Bool) → is_empty_statement s.code ≡ none → ArePlaced body targets again (if none then k else suc k) ss
        → by_33 labels landings (nesting_behind x s) ss ≡ []
        → ((j : ℕ) (z : SourceNesting) → ArePlaced body targets again j ss → by_33 labels landings z ss ≡ [] → by_33 (labels_of listed) (landings_at_labels empty_nesting listed) z (numbered_from again j ss) ≡ [])
        → by_33 (labels_of listed) (landings_at_labels empty_nesting listed) x (if none then numbered_from again k ss else again k s ∷ numbered_from again (suc k) ss) ≡ []
    by true w all led more = more k x all (ap (λ (z : SourceNesting). by_33 labels landings z ss) (sym (nested_still x s w)) ∙ led)
    by false w all led more =
        let i = h.0.some w in
        ap (λ (b : Bool). broken_if b (again k s).line 33 ++ by_33 (labels_of listed) (landings_at_labels empty_nesting listed) (nesting_behind x (again k s)) (numbered_from again (suc k) ss)) (right i)
        ∙ ap (λ (z : SourceNesting). by_33 (labels_of listed) (landings_at_labels empty_nesting listed) z (numbered_from again (suc k) ss)) (nested_same x s (again k s) i.word i.line)
        ∙ more (suc k) (nesting_behind x s) all led

-- rule 33
pub landings_kept : (body : List Statement) (targets : List Bool) (again : ℕ → Statement → Statement)
    → ArePlaced body targets again 0 body → crossing_jumps (labels_of body) (landings_at_labels empty_nesting body) body ≡ []
    → crossing_jumps (labels_of (numbered_from again 0 body)) (landings_at_labels empty_nesting (numbered_from again 0 body)) (numbered_from again 0 body) ≡ []
landings_kept body targets again h e = jumps_from_kept body targets again 0 empty_nesting body h h e
