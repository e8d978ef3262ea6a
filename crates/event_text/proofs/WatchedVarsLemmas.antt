-- The variables of a watch, read line by line.
use Rattle.std.proofs.Common.{◌≡◌, ◌+◌, ℕ, List, [], ◌∷◌, length, Option, Some, None, Result, Ok, Err, refl, ap, sym, ◌∙◌, subst, arith}
use Rattle.std.specs.Prelude.{IfSome}
use Rattle.std.specs.List.{All}
use Rattle.std.specs.Str.Lines.{lines}
use Rattle.std.proofs.lemmas.List.Elements.{recursion_from_All}
use Rattle.plc_base.specs.declared.refusals.Refusal.{Refusal}
use Rattle.flat_code.specs.Names.{find}
use Rattle.flat_code.specs.Programs.{NameEntry}
use Rattle.var_access.specs.Entry.{IsRequest}
use Rattle.var_access.specs.Variables.{Names}
use Rattle.var_access.specs.declared.requests.Request.TheVariants.{ReadVars}
use Rattle.var_access.specs.declared.requests.Var.{Var}
use Rattle.event_text.specs.Lines.{line_read}
use Rattle.event_text.specs.Regular.{FitsPlace, IsRegularOf}
use Rattle.event_text.specs.WatchedVars.{vars_behind, vars_or_no_request, vars_from, watched_vars_of, vars_and_then}
use Rattle.event_text.specs.Workers.{request_entry}
use Rattle.event_text.specs.declared.kinds.TextKind.TheVariants.{Script}

-- a text comes to what the lines that are left come to, behind those that were read
pub record VarsOn (names : List NameEntry) (text : List ℕ) (line : ℕ) (found : Option (List Var)) (rest : List ℕ) : Type 0 where
  pub all : watched_vars_of names text ≡ vars_from (find names) line found (lines rest)

-- before the first line
pub vars-start : (names : List NameEntry) (text : List ℕ) → VarsOn names text 1 None text
unfolding watched_vars_of
vars-start names text = record { all = refl }

-- a line decides, or the lines behind it
vars-line : (names : Names) (line : ℕ) (found : Option (List Var)) (rest here behind : List ℕ) (r : Result (Option (List Var)) Refusal)
    → lines rest ≡ here ∷ lines behind → r ≡ vars_behind line found (line_read (Script 6) names 0 here)
    → vars_from names line found (lines rest) ≡ vars_and_then r (λ next. vars_from names (line + 1) next (lines behind))
unfolding vars_from
vars-line names line found rest here behind r at is =
    ap (λ ls. vars_from names line found ls) at
    ∙ ap (λ (v : Result (Option (List Var)) Refusal). vars_and_then v (λ next. vars_from names (line + 1) next (lines behind))) (sym is)

-- behind a right line
pub vars-next : (names : List NameEntry) (text : List ℕ) (line : ℕ) (found next : Option (List Var)) (rest here behind : List ℕ) → VarsOn names text line found rest
    → lines rest ≡ here ∷ lines behind → Ok next ≡ vars_behind line found (line_read (Script 6) (find names) 0 here) → VarsOn names text (line + 1) next behind
vars-next names text line found next rest here behind so_far at is = record {
  all = so_far.all ∙ vars-line (find names) line found rest here behind (Ok next) at is;
}

-- the refusal of a bad line is that of the text
pub vars-cut : (names : List NameEntry) (text : List ℕ) (line : ℕ) (found : Option (List Var)) (refusal : Refusal) (rest here behind : List ℕ)
    → VarsOn names text line found rest → lines rest ≡ here ∷ lines behind
    → Err refusal ≡ vars_behind line found (line_read (Script 6) (find names) 0 here) → watched_vars_of names text ≡ Err refusal
vars-cut names text line found refusal rest here behind so_far at is =
    so_far.all ∙ vars-line (find names) line found rest here behind (Err refusal) at is

-- at the end of the text
pub vars-end : (names : List NameEntry) (text : List ℕ) (line : ℕ) (found : Option (List Var)) (rest : List ℕ) → VarsOn names text line found rest → length rest ≡ 0
    → watched_vars_of names text ≡ vars_or_no_request found
unfolding vars_from
vars-end names text line found [] so_far none = so_far.all
vars-end names text line found (b ∷ rest) so_far none = absurd (omega arith)

-- the read of variables that fit their fields is regular
pub watched-regular : (found : Option (List Var)) (vars : List Var) → found ≡ Some vars → IfSome found (λ v. IsRequest (ReadVars v)) → All FitsPlace vars
    → IsRegularOf 6 (request_entry 6 (ReadVars vars))
watched-regular found vars is valid fits = (
  refl,
  record {
    worker = (omega arith, omega arith);
    range = subst (λ (o : Option (List Var)). IfSome o (λ v. IsRequest (ReadVars v))) is valid;
    fields = recursion_from_All FitsPlace vars fits;
  },
)
