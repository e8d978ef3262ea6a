-- Right clauses, one behind the other.
use Rattle.std.proofs.Common.{ℕ, ◌≡◌, true, List, [], ◌∷◌, ◌++◌, filter, Ok, refl, sym, ◌∙◌, ap, subst}
use Rattle.std.proofs.lemmas.List.Elements.{filter-append}
use Rattle.plc_base.specs.declared.refusals.SourceFault.{SourceFault}
use Rattle.plc_base.specs.declared.refusals.SourceFault.TheVariants as fault
use Rattle.stl_lexer.specs.declared.kinds.Token.{Token}
use Rattle.stl_parser.specs.declared.clauses.Clause.{Clause}
use Rattle.stl_parser.specs.declared.places.ClausePlace.{ClausePlace}
use Rattle.stl_parser.specs.declared.places.ClausePlace.TheVariants as place
use Rattle.stl_parser.specs.Source.{step_of, ReadsClauses, ReadsKeptClauses, IsBrokenAt, IsBrokenBehind, is_outside}
use Rattle.stl_parser.specs.Spelling.{is_kept_by_tree}

reads_then : (source : List ℕ) (p : ClausePlace) (tokens : List Token) (cs : List Clause) (q : ClausePlace) (rest : List Token) (ds : List Clause)
    (next : ClausePlace) (behind : List Token) → ReadsClauses source p tokens cs q rest → ReadsClauses source q rest ds next behind →
    ReadsClauses source p tokens (cs ++ ds) next behind
reads_then source p tokens [] q rest ds next behind first second =
    subst (λ ts. ReadsClauses source p ts ds next behind) (sym first.1) (subst (λ at. ReadsClauses source at rest ds next behind) (sym first.0) second)
reads_then source p tokens (c ∷ cs) q rest ds next behind first second =
    (first.0, first.1, first.2, reads_then source first.1 first.0 cs q rest ds next behind first.3 second)

-- more is read behind what was read
pub kept_then : (source : List ℕ) (p : ClausePlace) (tokens : List Token) (kept : List Clause) (q : ClausePlace) (rest : List Token)
    (more : List Clause) (next : ClausePlace) (behind : List Token) → ReadsKeptClauses source p tokens kept q rest →
    ReadsKeptClauses source q rest more next behind → ReadsKeptClauses source p tokens (kept ++ more) next behind
kept_then source p tokens kept q rest more next behind first second =
    record {
      clauses = first.clauses ++ second.clauses;
      reads = reads_then source p tokens first.clauses q rest second.clauses next behind first.reads second.reads;
      those = ap (λ ks. ks ++ more) first.those ∙ ap (λ ks. filter is_kept_by_tree first.clauses ++ ks) second.those
          ∙ sym (filter-append is_kept_by_tree first.clauses second.clauses);
    }

-- one clause is read
pub kept_one : (source : List ℕ) (p : ClausePlace) (tokens : List Token) (c : Clause) (behind : List Token) (next : ClausePlace) →
    step_of source p tokens ≡ Ok (c, behind, next) → ReadsKeptClauses source p tokens (filter is_kept_by_tree (c ∷ [])) next behind
kept_one source p tokens c behind next found =
    record { clauses = c ∷ []; reads = (behind, next, found, (refl, refl)); those = refl }

-- one clause more is read
pub kept_more : (source : List ℕ) (p : ClausePlace) (tokens : List Token) (kept : List Clause) (q : ClausePlace) (rest : List Token) (c : Clause)
    (behind : List Token) (next : ClausePlace) → ReadsKeptClauses source p tokens kept q rest → step_of source q rest ≡ Ok (c, behind, next) →
    ReadsKeptClauses source p tokens (kept ++ filter is_kept_by_tree (c ∷ [])) next behind
kept_more source p tokens kept q rest c behind next so_far found =
    kept_then source p tokens kept q rest (filter is_kept_by_tree (c ∷ [])) next behind so_far (kept_one source q rest c behind next found)

-- a rule is broken behind what was read
pub broken_behind : (source : List ℕ) (p : ClausePlace) (tokens : List Token) (kept : List Clause) (q : ClausePlace) (rest : List Token) (last : ℕ)
    (f : SourceFault) → ReadsKeptClauses source p tokens kept q rest → IsBrokenBehind source q rest last f → IsBrokenBehind source p tokens last f
broken_behind source p tokens kept q rest last (fault.Refused refusal) so_far broken =
    record {
      before = so_far.clauses ++ broken.before;
      at = broken.at;
      rest = broken.rest;
      reads = reads_then source p tokens so_far.clauses q rest broken.before broken.at broken.rest so_far.reads broken.reads;
      breaks = broken.breaks;
    }
broken_behind source p tokens kept q rest last fault.NoMemory so_far broken = tt

-- by the clause right behind it
pub broken_at : (source : List ℕ) (p : ClausePlace) (tokens : List Token) (kept : List Clause) (q : ClausePlace) (rest : List Token) (last : ℕ)
    (f : SourceFault) → ReadsKeptClauses source p tokens kept q rest → IsBrokenAt source q rest last f → IsBrokenBehind source p tokens last f
broken_at source p tokens kept q rest last (fault.Refused refusal) so_far broken =
    record { before = so_far.clauses; at = q; rest = rest; reads = so_far.reads; breaks = broken }
broken_at source p tokens kept q rest last fault.NoMemory so_far broken = tt

pub outside_is : (at : ClausePlace) → is_outside at ≡ true → at ≡ place.Outside
outside_is place.Outside h = refl
outside_is (place.Head k) h = cc
outside_is (place.Section k p l) h = cc
outside_is (place.Between k p) h = cc
outside_is (place.Shape k l) h = cc
outside_is (place.Shaped k) h = cc
outside_is (place.Body k) h = cc
outside_is place.Settings h = cc
