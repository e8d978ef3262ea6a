-- What was read of the files of a live run, and what was found in it.
use Rattle.std.specs.Prelude.{◌≡◌, ◌⊎◌, ℕ, ◌+◌, ◌≤◌, List, ◌∷◌, length, map, Result, Ok, Err}
use Rattle.std.specs.List.{AllByRecursion}
use Rattle.image_file.specs.LoadedProgram.{LoadedProgram}
use Rattle.var_access.specs.declared.Entry.{Entry}
use Rattle.event_text.specs.Texts.{stimuli_of}
use Rattle.s7_cli.specs.declared.failures.Failure.{Failure}
use Rattle.s7_cli.specs.declared.failures.Failure.TheVariants.{Refused, NoMemory}
use Rattle.s7_cli.specs.declared.failures.File.TheVariants.{Script}
use Rattle.s7_cli.specs.declared.files.LiveText.{LiveText}
use Rattle.s7_cli.specs.Answer.{CallAnswer}
use Rattle.s7_cli.specs.LiveSays.{LiveSays, RefusedScript, scripts_from}
use Rattle.s7_cli.specs.Living.{AreRegularBy, total_length}
use Rattle.s7_cli.specs.Loads.{LoadsAs}

-- the bytes of the scripts of a live run, in their order
abbrev pub scripts_of : LiveText → List (List ℕ)
scripts_of text = map (λ v. v.items) text.scripts.items

-- the contents of the files of a live run, in the order of reading
abbrev pub live_contents : LiveText → List (List ℕ)
live_contents text = text.image.items ∷ text.stimuli.items ∷ scripts_of text

-- no script is longer than it may be
abbrev pub AreScriptsWithin : List (List ℕ) → Type 0
AreScriptsWithin scripts = AllByRecursion (λ bytes. length bytes ≤ 1048576) scripts

-- stimuli and scripts aren't longer than they may be, and there are one to four scripts
pub record IsLiveText (text : LiveText) : Type 0 where
  -- the stimuli have at most 4,194,304 bytes
  pub stimuli : length text.stimuli.items ≤ 4194304
  -- each script has at most 1,048,576 bytes
  pub scripts : AreScriptsWithin (scripts_of text)
  -- there is a script
  pub some : 1 ≤ length text.scripts.items
  -- there are at most four
  pub few : length text.scripts.items ≤ 4

-- what `live` answers, over its files as they were read
abbrev pub LiveTextSays : (steps : ℕ) → LiveText → CallAnswer → Type 0
LiveTextSays steps text answer =
    LiveSays steps text.image.items text.stimuli.items (scripts_of text) answer

-- the first script that is refused is answered, by its number and its refusal, or memory was
-- wanting
abbrev pub IsScriptRefusal : Result (List (List Entry)) RefusedScript → Failure → Type 0
IsScriptRefusal scripts failure =
    (failure ≡ NoMemory)
    ⊎ ((script : RefusedScript) × (scripts ≡ Err script)
    × (failure ≡ Refused (Script script.number) script.refusal))

-- what is found in the files of a live run: the program and the lists of the workers; an entry
-- has four bytes of its text at least
pub record FindsProgramAndScripts
    (text : LiveText) (loaded : LoadedProgram) (stimuli : List Entry) (scripts : List (List Entry))
    : Type 0 where
  -- the image loads as this program
  pub loads : LoadsAs text.image.items (Ok loaded)
  -- the stimuli break no rule and are these entries
  pub are_stimuli : stimuli_of text.stimuli.items ≡ Ok stimuli
  -- the scripts break no rule and are these lists
  pub are_scripts : scripts_from loaded.program.names 1 (scripts_of text) ≡ Ok scripts
  -- the stimuli are regular entries of worker 2, those of script k of worker k + 2
  pub regular : AreRegularBy 2 (stimuli ∷ scripts)
  -- stimuli and scripts have no more entries than this together
  pub few : length stimuli + total_length scripts ≤ 2097152
  -- a script was found for each file of scripts
  pub many : length scripts ≡ length text.scripts.items
