-- What was read of the files of a watch, and what was found in it.
use Rattle.std.specs.Prelude.{◌≡◌, ℕ, ◌+◌, ◌≤◌, List, ◌∷◌, length, map, Result, Ok, Err}
use Rattle.plc_base.specs.declared.Refusal.{Refusal}
use Rattle.image_file.specs.LoadedProgram.{LoadedProgram}
use Rattle.var_access.specs.declared.Entry.{Entry}
use Rattle.var_access.specs.declared.Var.{Var}
use Rattle.event_text.specs.Regular.{IsRegularOf}
use Rattle.event_text.specs.Texts.{stimuli_of}
use Rattle.event_text.specs.WatchedVars.{watched_vars_of}
use Rattle.s7_cli.specs.declared.failures.Failure.{Failure}
use Rattle.s7_cli.specs.declared.failures.Failure.TheVariants.{Refused}
use Rattle.s7_cli.specs.declared.failures.File.TheVariants.{Vars}
use Rattle.s7_cli.specs.declared.watch_files.WatchText.{WatchText}
use Rattle.s7_cli.specs.Answer.{CallAnswer}
use Rattle.s7_cli.specs.LiveSays.{scripts_from}
use Rattle.s7_cli.specs.LiveTexts.{AreScriptsWithin}
use Rattle.s7_cli.specs.Living.{AreRegularBy, total_length}
use Rattle.s7_cli.specs.Loads.{LoadsAs}
use Rattle.s7_cli.specs.WatchSays.{WatchSays}
use Rattle.s7_cli.specs.Watching.{read_entry_of}

-- the bytes of the scripts of a watch, in their order
abbrev pub watch_scripts : WatchText → List (List ℕ)
watch_scripts text = map (λ v. v.items) text.scripts.items

-- the contents of the files of a watch, in the order of reading
abbrev pub watch_contents : WatchText → List (List ℕ)
watch_contents text = text.image.items ∷ text.stimuli.items ∷ text.vars.items ∷ watch_scripts text

-- no file but the image is longer than it may be, and there are one to three scripts
pub record IsWatchText (text : WatchText) : Type 0 where
  -- the stimuli have at most 4,194,304 bytes
  pub stimuli : length text.stimuli.items ≤ 4194304
  -- the text of variables has at most 1,048,576 bytes
  pub vars : length text.vars.items ≤ 1048576
  -- each script has at most 1,048,576 bytes
  pub scripts : AreScriptsWithin (watch_scripts text)
  -- there is a script
  pub some : 1 ≤ length text.scripts.items
  -- there are at most three
  pub few : length text.scripts.items ≤ 3

-- what `watch` answers, over its files as they were read
abbrev pub WatchTextSays : (steps : ℕ) → WatchText → CallAnswer → Type 0
WatchTextSays steps text answer =
    WatchSays steps text.image.items text.stimuli.items text.vars.items (watch_scripts text) answer

-- the variables are refused, and this is the failure by their refusal
abbrev pub AreVarsRefused : Result (List Var) Refusal → Failure → Type 0
AreVarsRefused vars failure =
    (refusal : Refusal) × (vars ≡ Err refusal) × (failure ≡ Refused Vars refusal)

-- what is found in the files of a watch: the program, the lists of the workers and the
-- variables; an entry has four bytes of its text at least
pub record FindsWatch
    (text : WatchText) (loaded : LoadedProgram) (stimuli : List Entry) (vars : List Var)
    (scripts : List (List Entry))
    : Type 0 where
  -- the image loads as this program
  pub loads : LoadsAs text.image.items (Ok loaded)
  -- the stimuli break no rule and are these entries
  pub are_stimuli : stimuli_of text.stimuli.items ≡ Ok stimuli
  -- the variables break no rule and are these
  pub are_vars : watched_vars_of loaded.program.names text.vars.items ≡ Ok vars
  -- the scripts break no rule and are these lists
  pub are_scripts : scripts_from loaded.program.names 1 (watch_scripts text) ≡ Ok scripts
  -- the stimuli are regular entries of worker 2, those of script k of worker k + 2
  pub regular : AreRegularBy 2 (stimuli ∷ scripts)
  -- the entry that reads the variables is a regular one of worker 6
  pub reads : IsRegularOf 6 (read_entry_of 6 vars)
  -- stimuli and scripts have no more entries than this together
  pub few : length stimuli + total_length scripts ≤ 2097152
  -- a script was found for each file of scripts
  pub many : length scripts ≡ length text.scripts.items
