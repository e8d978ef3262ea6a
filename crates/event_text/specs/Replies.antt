-- The lines that tell the reply to a request.
use Rattle.std.specs.Prelude.{ℕ, List, [], ◌∷◌, ◌++◌, length, codes, decimal}
use Rattle.std.specs.List.{flat_map}
use Rattle.monitor.specs.LineText.{diag_text}
use Rattle.monitor.specs.declared.DiagRecord.{DiagRecord}
use Rattle.var_access.specs.declared.replies.Reply.{Reply}
use Rattle.var_access.specs.declared.replies.Reply.TheVariants.{Values, Done, NoSuch, NotStopped, Diag as Diagnostics}
use Rattle.var_access.specs.declared.requests.Request.{Request}
use Rattle.var_access.specs.declared.requests.Request.TheVariants.{ReadVars}
use Rattle.var_access.specs.declared.requests.Var.{Var}
use Rattle.event_text.specs.Workers.{operator_of}
use Rattle.event_text.specs.HistoryText.{value_text}

-- how the line of a reply begins: the number of the entry, and the operator who asked
abbrev pub reply_head : (n who : ℕ) → List ℕ
reply_head n who = codes "@" ++ (decimal n ++ (codes " OP " ++ decimal (operator_of who)))

-- the values of variables, each at its width behind a blank
abbrev pub values_text : List Var → List ℕ → List ℕ
values_text [] values = []
values_text (v ∷ vs) [] = []
values_text (v ∷ vs) (value ∷ values) =
    codes " " ++ (value_text v.width value ++ values_text vs values)

-- the variables that a request reads
abbrev pub vars_of_request : Request → List Var
vars_of_request (ReadVars vars) = vars
vars_of_request _ = []

-- a line for each record of diagnostics, in the answer to entry n
abbrev pub records_text : (n : ℕ) → List DiagRecord → List ℕ
records_text n records = flat_map (diag_text n) records

-- what the reply to entry n says; behind the number of diagnostics a line for each of them
unfoldable pub outcome_text : (n : ℕ) → Request → Reply → List ℕ
outcome_text n request (Values values) =
    codes " VALUES" ++ (values_text (vars_of_request request) values ++ codes "\n")
outcome_text n request Done = codes " DONE\n"
outcome_text n request (NoSuch index) = codes " NOSUCH " ++ (decimal index ++ codes "\n")
outcome_text n request NotStopped = codes " NOTSTOPPED\n"
outcome_text n request (Diagnostics list) =
    codes " DIAG " ++ (decimal (length list) ++ (codes "\n" ++ records_text n list))

-- the lines of a reply to entry n
unfoldable pub reply_text : (n who : ℕ) → Request → Reply → List ℕ
reply_text n who request reply = reply_head n who ++ outcome_text n request reply
