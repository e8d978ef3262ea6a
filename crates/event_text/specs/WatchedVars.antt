-- The variables that a watch reads: those of a script with a single line, a `read`.
use Rattle.std.specs.Prelude.{◌+◌, ℕ, List, [], ◌∷◌, Option, Some, None, Result, Ok, Err}
use Rattle.std.specs.Str.Lines.{lines}
use Rattle.plc_base.specs.declared.refusals.Refusal.{Refusal}
use Rattle.flat_code.specs.Names.{find}
use Rattle.flat_code.specs.Programs.{NameEntry}
use Rattle.var_access.specs.Readings.{Reading}
use Rattle.var_access.specs.Variables.{Names}
use Rattle.var_access.specs.declared.entries.Entry.{Entry}
use Rattle.var_access.specs.declared.entries.What.{What}
use Rattle.var_access.specs.declared.entries.What.TheVariants.{Ask}
use Rattle.var_access.specs.declared.requests.Request.TheVariants.{ReadVars}
use Rattle.var_access.specs.declared.requests.Var.{Var}
use Rattle.event_text.specs.Lines.{line_read}
use Rattle.event_text.specs.declared.kinds.TextKind.TheVariants.{Script}

-- the refusal of a line by the rule that it breaks
abbrev pub line_refused : {A : Type 0} → (line rule : ℕ) → Result A Refusal
line_refused line rule = Err (record { line = line; rule = rule })

-- the variables of a line that asks for something; rule 7 where that isn't a `read`
abbrev pub vars_of_read_request : (line : ℕ) → What → Result (Option (List Var)) Refusal
vars_of_read_request line (Ask (ReadVars vars)) = Ok (Some vars)
vars_of_read_request line what = line_refused line 7

-- the variables behind a line, with those that were found before it; rule 7 where it is a second
-- one
abbrev pub vars_behind :
    (line : ℕ) (found : Option (List Var)) → Reading (List Entry)
    → Result (Option (List Var)) Refusal
vars_behind line found (Err rule) = line_refused line rule
vars_behind line found (Ok []) = Ok found
vars_behind line None (Ok (e ∷ [])) = vars_of_read_request line e.what
vars_behind line found (Ok entries) = line_refused line 7

-- the variables that were found in a script; rule 7, of line 1, where no line has a request
abbrev pub vars_or_no_request : Option (List Var) → Result (List Var) Refusal
vars_or_no_request (Some vars) = Ok vars
vars_or_no_request None = line_refused 1 7

-- what lines come to by how the first was read: its refusal, or what `more` makes of the variables
-- found so far
abbrev pub vars_and_then :
    Result (Option (List Var)) Refusal
    → (Option (List Var) → Result (List Var) Refusal) → Result (List Var) Refusal
vars_and_then (Err refusal) more = Err refusal
vars_and_then (Ok found) more = more found

-- the variables that lines spell, the first of which has this number, with those found before it;
-- or a refusal
unfoldable pub vars_from :
    Names → (line : ℕ) (found : Option (List Var)) → List (List ℕ) → Result (List Var) Refusal
vars_from names line found [] = vars_or_no_request found
vars_from names line found (text ∷ more) =
    vars_and_then (vars_behind line found (line_read (Script 6) names 0 text))
    (λ next. vars_from names (line + 1) next more)

-- the variables that a script asks for, with the names of a program, or its refusal
unfoldable pub watched_vars_of : List NameEntry → List ℕ → Result (List Var) Refusal
watched_vars_of names text = vars_from (find names) 1 None (lines text)
