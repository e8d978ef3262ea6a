-- Each source has a tree or a violation.
use Rattle.std.proofs.Common.{arith, ℕ, zero, suc, sym, ◌≡◌, ◌<◌, ◌≤◌, ◌⊎◌, inl, inr, Bool, true, false, List, [], ◌∷◌, length, Result, Ok, Err, refl}
use Rattle.stl_lexer.specs.declared.kinds.Token.{Token}
use Rattle.stl_parser.specs.declared.clauses.Clause.{Clause}
use Rattle.stl_parser.specs.declared.places.ClausePlace.{ClausePlace}
use Rattle.stl_parser.specs.declared.places.ClausePlace.TheVariants as place
use Rattle.stl_parser.specs.Source.{ClauseStep, step_of, ReadsClauses, BreaksClauseRule, is_outside, last_line, HasTreeOrViolation, IsParsingTotal}
use Rattle.stl_parser.proofs.SourceLemmas.{outside_is}
use Rattle.stl_parser.proofs.LengthLemmas.{read_rest}
use Rattle.stl_parser.proofs.FrameLemmas.{right_clause, tree_there}

-- the clauses are right up to the end, or up to a violation
abbrev Ends : List ℕ → ClausePlace → List Token → ℕ → Type 0
Ends source p ts last =
    ((cs : List Clause) × ReadsClauses source p ts cs place.Outside [])
    ⊎ ((cs : List Clause) × (q : ClausePlace) × (rest : List Token) × (line : ℕ) × (rule : ℕ) × ReadsClauses source p ts cs q rest
    × BreaksClauseRule source q rest last line rule)

at_end : (source : List ℕ) (p : ClausePlace) (last : ℕ) (b : Bool) → is_outside p ≡ b → Ends source p [] last
at_end source p last true outside = inl ([], (outside_is p outside, refl))
at_end source p last false outside = inr ([], p, [], last, 13, (refl, refl), (outside, refl, refl))

-- one clause more in front of them
in_front : (source : List ℕ) (p : ClausePlace) (ts : List Token) (last : ℕ) (c : Clause) (behind : List Token) (q : ClausePlace) →
    step_of source p ts ≡ Ok (c, behind, q) → Ends source q behind last → Ends source p ts last
in_front source p ts last c behind q read (inl h) = inl (c ∷ h.0, (behind, q, read, h.1))
in_front source p ts last c behind q read (inr h) = inr (c ∷ h.0, h.1, h.2, h.3, h.4, (behind, q, read, h.5), h.6)

shorter : (source : List ℕ) (p : ClausePlace) (t : Token) (ts : List Token) (c : Clause) (behind : List Token) (q : ClausePlace) →
    step_of source p (t ∷ ts) ≡ Ok (c, behind, q) → length behind ≤ length ts
shorter source p t ts c behind q read =
    let right = right_clause source p (t ∷ ts) c behind q read in read_rest source p t ts (c, behind, false) right.0

-- fewer tokens are left behind a right clause
pub fewer_left : (source : List ℕ) (p : ClausePlace) (ts : List Token) (c : Clause) (behind : List Token) (q : ClausePlace) →
    1 ≤ length ts → Ok (c, behind, q) ≡ step_of source p ts → length behind < length ts
fewer_left source p [] c behind q some read = absurd (omega (arith, some))
fewer_left source p (t ∷ ts) c behind q some read = omega (arith, shorter source p t ts c behind q (sym read))

by_step : (source : List ℕ) (p : ClausePlace) (t : Token) (ts : List Token) (last : ℕ) (r : Result ClauseStep ℕ) → step_of source p (t ∷ ts) ≡ r →
    ((q : ClausePlace) (behind : List Token) → length behind ≤ length ts → Ends source q behind last) → Ends source p (t ∷ ts) last
by_step source p t ts last (Err rule) read k = inr ([], p, t ∷ ts, t.line, rule, (refl, refl), (refl, read))
by_step source p t ts last (Ok s) read k =
    in_front source p (t ∷ ts) last s.0 s.1 s.2 read (k s.2 s.1 (shorter source p t ts s.0 s.1 s.2 read))

reads_end : (source : List ℕ) (n : ℕ) (p : ClausePlace) (ts : List Token) (last : ℕ) → length ts ≤ n → Ends source p ts last
reads_end source n p [] last h = at_end source p last (is_outside p) refl
reads_end source zero p (t ∷ ts) last h = absurd (omega (arith, h))
reads_end source (suc n) p (t ∷ ts) last h =
    by_step source p t ts last (step_of source p (t ∷ ts)) refl (λ q behind fits. reads_end source n q behind last (omega (arith, h, fits)))

has_outcome : (source : List ℕ) (tokens : List Token) → Ends source place.Outside tokens (last_line 0 tokens) →
    HasTreeOrViolation source tokens
has_outcome source tokens (inl h) = inl (tree_there source tokens h.0 h.1)
has_outcome source tokens (inr h) = inr (h.3, h.4, record { before = h.0; at = h.1; rest = h.2; reads = h.5; breaks = h.6 })

pub total : IsParsingTotal
total source tokens =
    has_outcome source tokens (reads_end source (length tokens) place.Outside tokens (last_line 0 tokens) (omega arith))
