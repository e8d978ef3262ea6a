-- What `watch` answers for what its files hold.
use Rattle.std.specs.Prelude.{◌≡◌, ℕ, List, ◌++◌, codes, decimal, Option, Some, None, Result, Ok, Err}
use Rattle.std.specs.List.{flat_map}
use Rattle.plc_base.specs.declared.Refusal.{Refusal}
use Rattle.var_access.specs.declared.Entry.{Entry}
use Rattle.var_access.specs.declared.Reply.{Reply}
use Rattle.var_access.specs.declared.Request.TheVariants.{ReadVars}
use Rattle.var_access.specs.declared.Var.{Var}
use Rattle.image_file.specs.LoadedProgram.{LoadedProgram}
use Rattle.image_file.specs.declared.faults.LoadFault.{LoadFault}
use Rattle.event_text.specs.HistoryText.{history_text}
use Rattle.event_text.specs.Replies.{outcome_text}
use Rattle.event_text.specs.Texts.{history_of_text, stimuli_of}
use Rattle.event_text.specs.WatchedVars.{watched_vars_of}
use Rattle.watch_board.specs.declared.shown.Shown.{Shown}
use Rattle.s7_cli.specs.declared.failures.File.TheVariants.{Stimuli, Script, Vars}
use Rattle.s7_cli.specs.Answer.{CallAnswer, done_answer, refused_file_answer, refused_image_answer}
use Rattle.s7_cli.specs.LiveSays.{RefusedScript, live_text, scripts_from}
use Rattle.s7_cli.specs.Living.{IsLive, opening_on}
use Rattle.s7_cli.specs.Loads.{LoadsAs}
use Rattle.s7_cli.specs.Watching.{AreViews, read_entry_of, watch_lists}

-- how often the variables are read and published, and how often the board is viewed
abbrev pub watch_count : ℕ
watch_count = 100

-- what a view says of a reply; the opening item of a board has none
abbrev pub seen_reply : List Var → (number : ℕ) → Option Reply → List ℕ
seen_reply vars number None = codes " NONE\n"
seen_reply vars number (Some reply) = outcome_text number (ReadVars vars) reply

-- the line of a view: `SEEN n REPLY`, or `SEEN 0 NONE`
abbrev pub seen_line : List Var → Shown → List ℕ
seen_line vars item =
    codes "SEEN " ++ (decimal item.length ++ seen_reply vars item.length item.reply)

-- the lines of all views, in their order
unfoldable pub seen_text : List Var → List Shown → List ℕ
seen_text vars seen = flat_map (seen_line vars) seen

-- the text of a live run, a line `---`, and what was seen
abbrev pub watch_text :
    LoadedProgram → (history : List Entry) → List Var → (seen : List Shown) → List ℕ
watch_text loaded history vars seen =
    live_text loaded history ++ (codes "---\n" ++ seen_text vars seen)

-- the workers made some live history of these lists, in which operator 4 read the variables again
-- and again. Each line of a view but that of the opening item has the number and the reply of one
-- of operator 4's entries, and the numbers never fall
pub record RanWatch
    (loaded : LoadedProgram) (steps : ℕ) (stimuli : List Entry) (vars : List Var)
    (scripts : List (List Entry)) (answer : CallAnswer)
    : Type 0 where
  -- the history that the workers made
  pub history : List Entry
  -- it is a live history of these lists, and of the reads of operator 4
  pub live : IsLive loaded steps stimuli (watch_lists watch_count scripts vars) history
  -- the written history is read as this history
  pub read_back : history_of_text loaded.program.names (history_text history) ≡ Ok history
  -- the items that were viewed
  pub seen : List Shown
  -- each is the opening item or a reply to one of these reads, and their numbers never fall
  pub views : AreViews (read_entry_of 6 vars) (opening_on loaded) history watch_count seen
  -- the answer is the text of the history and of the views, done
  pub says : answer ≡ done_answer (watch_text loaded history vars seen)

-- what `watch` answers for a program: the stimuli are checked first, then the variables, then
-- the scripts in their order, and then the workers run
abbrev pub WatchAnswer :
    LoadedProgram → (steps : ℕ) → Result (List Entry) Refusal → Result (List Var) Refusal
    → Result (List (List Entry)) RefusedScript → CallAnswer → Type 0
WatchAnswer loaded steps (Err refusal) vars scripts answer =
    answer ≡ refused_file_answer Stimuli refusal
WatchAnswer loaded steps (Ok stimuli) (Err refusal) scripts answer =
    answer ≡ refused_file_answer Vars refusal
WatchAnswer loaded steps (Ok stimuli) (Ok vars) (Err script) answer =
    answer ≡ refused_file_answer (Script script.number) script.refusal
WatchAnswer loaded steps (Ok stimuli) (Ok vars) (Ok scripts) answer =
    RanWatch loaded steps stimuli vars scripts answer

-- what `watch` answers by how its image loads, which is before stimuli, variables and scripts
-- are checked
abbrev pub LoadedWatch :
    Result LoadedProgram LoadFault → (steps : ℕ) → (stimuli vars : List ℕ) (scripts : List (List ℕ))
    → CallAnswer → Type 0
LoadedWatch (Err fault) steps stimuli vars scripts answer = answer ≡ refused_image_answer fault
LoadedWatch (Ok loaded) steps stimuli vars scripts answer =
    WatchAnswer loaded steps (stimuli_of stimuli) (watched_vars_of loaded.program.names vars)
    (scripts_from loaded.program.names 1 scripts) answer

-- what `watch` answers, over the contents of its files
abbrev pub WatchSays :
    (steps : ℕ) (image stimuli vars : List ℕ) (scripts : List (List ℕ)) → CallAnswer → Type 0
WatchSays steps image stimuli vars scripts answer =
    (loaded : Result LoadedProgram LoadFault) × LoadsAs image loaded
    × LoadedWatch loaded steps stimuli vars scripts answer
