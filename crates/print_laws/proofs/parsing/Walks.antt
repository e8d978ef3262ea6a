-- Clauses one behind the other, each on its line, are read one behind the other.
use Rattle.std.proofs.Common.{◌≡◌, ◌+◌, ◌-◌, refl, sym, ◌∙◌, ap, subst, ℕ, zero, suc, Bool, true, false, List, [], ◌∷◌, ◌++◌, Some, Ok, arith}
use Rattle.std.specs.Prelude.{◌==◌, if◌then◌else◌, nat_lt, max, sum_by, replicate, fold}
use Rattle.std.proofs.lemmas.Bool.Decides.{nat_tests}
use Rattle.stl_lexer.specs.Bytes.{newline}
use Rattle.stl_lexer.specs.Gap.{newlines_of}
use Rattle.stl_lexer.specs.Pieces.{tokens_of}
use Rattle.stl_lexer.specs.declared.kinds.Token.{Token}
use Rattle.stl_parser.specs.Clauses.{clause_at}
use Rattle.stl_parser.specs.Frame.{next_place}
use Rattle.stl_parser.specs.Source.{ReadsClauses, step_of}
use Rattle.stl_parser.specs.declared.clauses.Clause.{Clause}
use Rattle.stl_parser.specs.declared.clauses.Clause.TheVariants as clause
use Rattle.stl_parser.specs.declared.places.ClausePlace.{ClausePlace}
use Rattle.stl_print.specs.Clauses.{clause_pieces, line_of, pieces_from}
use Rattle.stl_print.specs.Gaps.{clause_gap, gap_text, line_behind}
use Rattle.stl_print.specs.declared.gaps.Gap.{Gap}
use Rattle.stl_print.specs.declared.gaps.Gap.TheVariants as gap
use Rattle.print_laws.specs.Reading.{AreOnLines, IsOnLine}
use Rattle.print_laws.proofs.parsing.Operands.{Texts}
use Rattle.print_laws.proofs.parsing.Shown.{behind, line_past, shown_behind, shown_front, tokens_joined}

-- the line of a clause, where a tree has it
abbrev pub IsHere : ℕ → Clause → Type 0
IsHere n (clause.Head line k name result) = n ≡ line
IsHere n (clause.Ends line k) = n ≡ line
IsHere n (clause.Section line p) = n ≡ line
IsHere n (clause.Declares d) = n ≡ d.line
IsHere n (clause.Sets s) = n ≡ s.line
IsHere n (clause.Runs s) = n ≡ s.line
IsHere n _ = Unit {0}

-- the line behind a gap
abbrev pub gap_line : ℕ → Gap → ℕ
gap_line line g = line + sum_by newlines_of (gap_text g)

-- a printed clause is read at a place, and others stand at the next behind it
pub record IsStep (p : ClausePlace) (c : Clause) (next : ClausePlace) : Type 0 where
  pub reads : (source : List ℕ) (from line : ℕ) (g : Gap) (rest : List Token) → IsHere (gap_line line g) c → Texts source from line (clause_pieces g c)
      → clause_at source p (tokens_of from line (clause_pieces g c) ++ rest) ≡ Some (c, rest, false)
  pub lines : (g : Gap) (line : ℕ) → line_past line (clause_pieces g c) ≡ gap_line line g
  pub goes : next_place p c ≡ Some next

-- clauses lead from a place to another
abbrev pub Walk : ClausePlace → List Clause → ClausePlace → Type 0
Walk p [] q = p ≡ q
Walk p (c ∷ cs) q = (next : ClausePlace) × IsStep p c next × Walk next cs q

pub walk_joined : (cs ds : List Clause) (p r q : ClausePlace) → Walk p cs r → Walk r ds q → Walk p (cs ++ ds) q
walk_joined [] ds p r q a b = subst (λ (z : ClausePlace). Walk z ds q) (sym a) b
walk_joined (c ∷ cs) ds p r q a b = (a.0, a.1, walk_joined cs ds a.0 r q a.2 b)

step_made : (source : List ℕ) (p next : ClausePlace) (c : Clause) (tokens rest : List Token) → clause_at source p tokens ≡ Some (c, rest, false)
    → next_place p c ≡ Some next → step_of source p tokens ≡ Ok (c, rest, next)
unfolding step_of
step_made source p next c tokens rest reads goes = rw (reads, goes) refl

-- ---- lines

ends_from : (a n : ℕ) → fold (λ k b. k + newlines_of b) a (replicate n newline) ≡ a + n
ends_from a zero = omega arith
ends_from a (suc n) = ends_from (a + newlines_of newline) n ∙ more
  where
    more : a + 1 + n ≡ a + suc n
    more = omega arith

ends_counted : (n : ℕ) → sum_by newlines_of (replicate n newline) ≡ n
ends_counted n = ends_from 0 n ∙ none
  where
    none : 0 + n ≡ n
    none = omega arith

line_by : (reached n line : ℕ) (a b : Bool) → (reached == 0) ≡ a → nat_lt reached n ≡ b → line ≡ max 1 reached
    → gap_line line (if a then gap.LineEnds (n - 1) else (if b then gap.LineEnds (n - reached) else gap.Blank)) ≡ max 1 (max reached n)
line_by reached n line true b e f is = ap (λ (k : ℕ). line + k) (ends_counted (n - 1)) ∙ grind (arith, nat_tests, e, is)
line_by reached n line false true e f is = ap (λ (k : ℕ). line + k) (ends_counted (n - reached)) ∙ grind (arith, nat_tests, e, f, is)
line_by reached n line false false e f is = blank_line (grind (arith, nat_tests, e, f, is))
  where
    blank_line : line ≡ max 1 (max reached n) → line + 0 ≡ max 1 (max reached n)
    blank_line h = omega (arith, h)

gap_is : (reached n line : ℕ) → line ≡ max 1 reached → gap_line line (clause_gap reached n) ≡ line_behind reached n
unfolding clause_gap line_behind
gap_is reached n line is = line_by reached n line (reached == 0) (nat_lt reached n) refl refl is

behind_is : (reached n : ℕ) → line_behind reached n ≡ max 1 (line_behind reached n)
unfolding line_behind
behind_is reached n = omega arith

here_by : (reached line : ℕ) (c : Clause) → line ≡ line_behind reached (line_of c) → IsOnLine reached c → IsHere line c
unfolding line_of
here_by reached line (clause.Head at k name result) e h = e ∙ h
here_by reached line (clause.Ends at k) e h = e ∙ h
here_by reached line (clause.Section at p) e h = e ∙ h
here_by reached line (clause.Declares d) e h = e ∙ h
here_by reached line (clause.Sets s) e h = e ∙ h
here_by reached line (clause.Runs s) e h = e ∙ h
here_by reached line clause.EndSection e h = tt
here_by reached line clause.Begins e h = tt
here_by reached line clause.Network e h = tt
here_by reached line clause.Structure e h = tt
here_by reached line clause.EndStructure e h = tt
here_by reached line (clause.Based name) e h = tt
here_by reached line clause.Note e h = tt
here_by reached line clause.Title e h = tt

-- ---- all clauses

pub walk_read : (cs : List Clause) (source : List ℕ) (from line reached : ℕ) (p q : ClausePlace) → Walk p cs q → AreOnLines reached cs → line ≡ max 1 reached
    → Texts source from line (pieces_from reached cs) → ReadsClauses source p (tokens_of from line (pieces_from reached cs)) cs q []
walk_read [] source from line reached p q w on is t = (w, refl)
walk_read (c ∷ cs) source from line reached p q w on is t =
    let g : Gap = clause_gap reached (line_of c) in
    let there : gap_line line g ≡ line_behind reached (line_of c) = gap_is reached (line_of c) line is in
    let past : line_past line (clause_pieces g c) ≡ line_behind reached (line_of c) = w.1.lines g line ∙ there in (
      tokens_of (behind from (clause_pieces g c)) (line_past line (clause_pieces g c)) (pieces_from (line_behind reached (line_of c)) cs),
      w.0,
      ap (step_of source p) (tokens_joined from line (clause_pieces g c) (pieces_from (line_behind reached (line_of c)) cs))
          ∙ step_made source p w.0 c _ _
          (w.1.reads source from line g _ (here_by reached (gap_line line g) c there on.0)
          (shown_front source from line (clause_pieces g c) (pieces_from (line_behind reached (line_of c)) cs) t))
          w.1.goes,
      walk_read cs source (behind from (clause_pieces g c)) (line_past line (clause_pieces g c)) (line_behind reached (line_of c)) w.0 q w.2 on.1
          (past ∙ behind_is reached (line_of c))
          (shown_behind source from line (clause_pieces g c) (pieces_from (line_behind reached (line_of c)) cs) t),
    )
