-- What `live` answers for what its files hold.
use Rattle.std.specs.Prelude.{◌≡◌, ℕ, ◌+◌, List, [], ◌∷◌, ◌++◌, codes, Result, Ok, Err}
use Rattle.plc_base.specs.declared.Refusal.{Refusal}
use Rattle.var_access.specs.declared.Entry.{Entry}
use Rattle.flat_code.specs.Programs.{NameEntry}
use Rattle.image_file.specs.LoadedProgram.{LoadedProgram}
use Rattle.image_file.specs.declared.faults.LoadFault.{LoadFault}
use Rattle.machine.specs.Flat.{code_of}
use Rattle.event_text.specs.HistoryText.{history_text}
use Rattle.event_text.specs.Texts.{history_of_text, script_of, stimuli_of}
use Rattle.s7_cli.specs.declared.failures.File.TheVariants.{Stimuli, Script}
use Rattle.s7_cli.specs.run_text.RunText.{run_text}
use Rattle.s7_cli.specs.Answer.{CallAnswer, done_answer, refused_file_answer, refused_image_answer}
use Rattle.s7_cli.specs.Living.{IsLive}
use Rattle.s7_cli.specs.Loads.{LoadsAs}

-- a script that is refused: its number, from 1, and why
pub record RefusedScript : Type 0 where
  -- the number of the script, from 1
  pub number : ℕ
  -- the line and the rule by which the script is refused
  pub refusal : Refusal

-- a script that was read, in front of those that follow; the first one that is refused decides
abbrev pub script_first :
    (number : ℕ) → Result (List Entry) Refusal → Result (List (List Entry)) RefusedScript
    → Result (List (List Entry)) RefusedScript
script_first number (Err refusal) more = Err (record { number = number; refusal = refusal })
script_first number (Ok entries) (Err refused) = Err refused
script_first number (Ok entries) (Ok more) = Ok (entries ∷ more)

-- scripts, numbered from this one on: script k is read as what worker k + 2 asks, with the names of
-- the program
abbrev pub scripts_from :
    List NameEntry → (number : ℕ) → List (List ℕ) → Result (List (List Entry)) RefusedScript
scripts_from names number [] = Ok []
scripts_from names number (script ∷ more) =
    script_first number (script_of (number + 2) names script) (scripts_from names (number + 1) more)

-- the history as it is written, a line `---`, and the text of its run, at the image's profile
abbrev pub live_text : LoadedProgram → List Entry → List ℕ
live_text loaded history =
    history_text history
    ++ (codes "---\n" ++ run_text loaded.profile (code_of loaded.program) history)

-- the workers made some live history of these lists, and its text is the answer
pub record RanLive
    (loaded : LoadedProgram) (steps : ℕ) (stimuli : List Entry) (scripts : List (List Entry))
    (answer : CallAnswer)
    : Type 0 where
  -- the history that the workers made
  pub history : List Entry
  -- it is a live history of these lists
  pub live : IsLive loaded steps stimuli scripts history
  -- the written history is read as this history
  pub read_back : history_of_text loaded.program.names (history_text history) ≡ Ok history
  -- the answer is its text, done
  pub says : answer ≡ done_answer (live_text loaded history)

-- what `live` answers for a program: the stimuli are checked first, then the scripts in their
-- order, and then the workers run
abbrev pub LiveAnswer :
    LoadedProgram → (steps : ℕ) → Result (List Entry) Refusal
    → Result (List (List Entry)) RefusedScript → CallAnswer → Type 0
LiveAnswer loaded steps (Err refusal) scripts answer = answer ≡ refused_file_answer Stimuli refusal
LiveAnswer loaded steps (Ok stimuli) (Err script) answer =
    answer ≡ refused_file_answer (Script script.number) script.refusal
LiveAnswer loaded steps (Ok stimuli) (Ok scripts) answer =
    RanLive loaded steps stimuli scripts answer

-- what `live` answers by how its image loads, which is before stimuli and scripts are checked
abbrev pub LoadedLive :
    Result LoadedProgram LoadFault → (steps : ℕ) → (stimuli : List ℕ) (scripts : List (List ℕ))
    → CallAnswer → Type 0
LoadedLive (Err fault) steps stimuli scripts answer = answer ≡ refused_image_answer fault
LoadedLive (Ok loaded) steps stimuli scripts answer =
    LiveAnswer loaded steps (stimuli_of stimuli) (scripts_from loaded.program.names 1 scripts)
    answer

-- what `live` answers, over the contents of its files
abbrev pub LiveSays :
    (steps : ℕ) (image stimuli : List ℕ) (scripts : List (List ℕ)) → CallAnswer → Type 0
LiveSays steps image stimuli scripts answer =
    (loaded : Result LoadedProgram LoadFault) × LoadsAs image loaded
    × LoadedLive loaded steps stimuli scripts answer
