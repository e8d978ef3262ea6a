-- A source has at most one list of clauses and at most one violation, and never both.
use Rattle.std.proofs.Common.{ℕ, ◌≡◌, List, [], ◌∷◌, Result, Ok, Err, refl, sym, ◌∙◌, ap, subst}
use Rattle.std.proofs.lemmas.Bool.{true≢false}
use Rattle.stl_lexer.specs.declared.kinds.Token.{Token}
use Rattle.stl_parser.specs.declared.clauses.Clause.{Clause}
use Rattle.stl_parser.specs.declared.places.ClausePlace.{ClausePlace}
use Rattle.stl_parser.specs.declared.places.ClausePlace.TheVariants as place
use Rattle.stl_parser.specs.Source.{ClauseStep, no_clause_rule, step_of, ReadsClauses, BreaksClauseRule, is_outside, last_line, AreClausesUnique, ClausesExcludeViolation, IsClauseViolationUnique}
use Rattle.stl_parser.specs.Clauses.{clause_at}

ok_same : {A B : Type 0} (a b : A) → ◌≡◌ {A = Result A B} (Ok a) (Ok b) → a ≡ b
ok_same {A = A} {B = B} a b same =
    let value : Result A B → A = λ r. elim r [ Ok x ↦ x | Err e ↦ a ] in ap value same

err_same : {A B : Type 0} (a b : B) → ◌≡◌ {A = Result A B} (Err a) (Err b) → a ≡ b
err_same {A = A} {B = B} a b same =
    let value : Result A B → B = λ r. elim r [ Ok x ↦ a | Err e ↦ e ] in ap value same

ok_no_err : {A B : Type 0} (a : A) (b : B) → ◌≡◌ {A = Result A B} (Ok a) (Err b) → ⊥
ok_no_err a b same = cc

-- no clause is read where no token is left
pub end_is_stuck : (source : List ℕ) (q : ClausePlace) → step_of source q [] ≡ Err no_clause_rule
unfolding step_of clause_at
end_is_stuck source q = refl

-- the clauses that can be read are one list, up to where none can be read
reads_once : (source : List ℕ) (p : ClausePlace) (ts : List Token) (cs ds : List Clause) (q q' : ClausePlace) (rest rest' : List Token) (r r' : ℕ) →
    ReadsClauses source p ts cs q rest → step_of source q rest ≡ Err r → ReadsClauses source p ts ds q' rest' → step_of source q' rest' ≡ Err r' →
    (cs ≡ ds) × (q ≡ q') × (rest ≡ rest')
reads_once source p ts [] [] q q' rest rest' r r' a ea b eb = (refl, sym a.0 ∙ b.0, sym a.1 ∙ b.1)
reads_once source p ts [] (d ∷ ds) q q' rest rest' r r' a ea b eb =
    absurd (ok_no_err {A = ClauseStep} (d, b.0, b.1) r (sym b.2 ∙ ap (λ x. step_of source x ts) a.0 ∙ ap (λ x. step_of source q x) a.1 ∙ ea))
reads_once source p ts (c ∷ cs) [] q q' rest rest' r r' a ea b eb =
    absurd (ok_no_err {A = ClauseStep} (c, a.0, a.1) r' (sym a.2 ∙ ap (λ x. step_of source x ts) b.0 ∙ ap (λ x. step_of source q' x) b.1 ∙ eb))
reads_once source p ts (c ∷ cs) (d ∷ ds) q q' rest rest' r r' a ea b eb =
    let x : ClauseStep = (c, a.0, a.1) in
    let y : ClauseStep = (d, b.0, b.1) in
    let same : x ≡ y = ok_same {A = ClauseStep} {B = ℕ} x y (sym a.2 ∙ b.2) in
    let moved : ReadsClauses source a.1 a.0 ds q' rest' = subst (λ (s : ClauseStep). ReadsClauses source s.2 s.1 ds q' rest') (sym same) b.3 in
    let behind = reads_once source a.1 a.0 cs ds q q' rest rest' r r' a.3 ea moved eb in
    (ap (λ (s : ClauseStep). s.0 ∷ cs) same ∙ ap (λ xs. d ∷ xs) behind.0, behind.1, behind.2)

-- where a rule is broken no clause is read
breaks_is_stuck : (source : List ℕ) (p : ClausePlace) (rest : List Token) (last line rule : ℕ) → BreaksClauseRule source p rest last line rule →
    (r : ℕ) × (step_of source p rest ≡ Err r)
breaks_is_stuck source p [] last line rule breaks = (10, end_is_stuck source p)
breaks_is_stuck source p (t ∷ ts) last line rule breaks = (rule, breaks.1)

pub one_list : AreClausesUnique
one_list source tokens cs ds a b =
    (reads_once source place.Outside tokens cs ds place.Outside place.Outside [] [] 10 10 a (end_is_stuck source place.Outside) b
    (end_is_stuck source place.Outside)).0

no_token : {A : Type 0} (t : A) (ts : List A) → [] ≡ t ∷ ts → ⊥
no_token t ts same = cc

not_open : (source : List ℕ) (p : ClausePlace) (rest : List Token) (last line rule : ℕ) → place.Outside ≡ p → [] ≡ rest →
    BreaksClauseRule source p rest last line rule → ⊥
not_open source p [] last line rule outside none breaks = true≢false (ap is_outside outside ∙ breaks.0)
not_open source p (t ∷ ts) last line rule outside none breaks = no_token t ts none

pub list_or_violation : ClausesExcludeViolation
list_or_violation source tokens cs line rule a v =
    let stuck = breaks_is_stuck source v.at v.rest (last_line 0 tokens) line rule v.breaks in
    let same = reads_once source place.Outside tokens cs v.before place.Outside v.at [] v.rest 10 stuck.0 a
    (end_is_stuck source place.Outside) v.reads stuck.1 in
    not_open source v.at v.rest (last_line 0 tokens) line rule same.1 same.2 v.breaks

one_break : (source : List ℕ) (p : ClausePlace) (rest : List Token) (last line rule line' rule' : ℕ) →
    BreaksClauseRule source p rest last line rule → BreaksClauseRule source p rest last line' rule' → (line ≡ line') × (rule ≡ rule')
one_break source p [] last line rule line' rule' a b = (a.1 ∙ sym b.1, a.2 ∙ sym b.2)
one_break source p (t ∷ ts) last line rule line' rule' a b = (a.0 ∙ sym b.0, err_same {A = ClauseStep} {B = ℕ} rule rule' (sym a.1 ∙ b.1))

pub one_violation : IsClauseViolationUnique
one_violation source tokens line rule line' rule' v w =
    let a = breaks_is_stuck source v.at v.rest (last_line 0 tokens) line rule v.breaks in
    let b = breaks_is_stuck source w.at w.rest (last_line 0 tokens) line' rule' w.breaks in
    let same = reads_once source place.Outside tokens v.before w.before v.at w.at v.rest w.rest a.0 b.0 v.reads a.1 w.reads b.1 in
    let moved : BreaksClauseRule source v.at v.rest (last_line 0 tokens) line' rule' =
    subst (λ p. BreaksClauseRule source p v.rest (last_line 0 tokens) line' rule') (sym same.1)
    (subst (λ ts. BreaksClauseRule source w.at ts (last_line 0 tokens) line' rule') (sym same.2) w.breaks) in
    one_break source v.at v.rest (last_line 0 tokens) line rule line' rule' v.breaks moved
