-- How the files of a watch are read and checked.
use Rattle.std.proofs.Common.{◌≡◌, ◌≤◌, refl, sym, ◌∙◌, subst, ℕ, List, length, Result, Ok, Err, inl, inr}
use Rattle.plc_base.specs.declared.Refusal.{Refusal}
use Rattle.plc_io.specs.Contents.{Contents}
use Rattle.flat_code.specs.Loading.{faults_of}
use Rattle.image_file.specs.LoadedProgram.{LoadedProgram}
use Rattle.image_file.specs.Refusing.{IsLoadError}
use Rattle.image_file.specs.declared.refusing.LoadError.{LoadError}
use Rattle.image_file.specs.declared.refusing.LoadError.TheVariants as loading
use Rattle.var_access.specs.declared.Entry.{Entry}
use Rattle.var_access.specs.declared.Var.{Var}
use Rattle.event_text.specs.HistoryText.{history_text}
use Rattle.event_text.specs.TextFault.{IsTextFault}
use Rattle.event_text.specs.Texts.{history_of_text, stimuli_of}
use Rattle.event_text.specs.WatchedVars.{watched_vars_of}
use Rattle.event_text.specs.declared.TextFault.{TextFault}
use Rattle.event_text.specs.declared.TextFault.TheVariants as broken
use Rattle.watch_board.specs.declared.shown.Shown.{Shown}
use Rattle.s7_cli.specs.declared.failures.Failure.{Failure}
use Rattle.s7_cli.specs.declared.failures.Failure.TheVariants.{Refused, NoMemory}
use Rattle.s7_cli.specs.declared.failures.File.TheVariants.{Stimuli, Vars}
use Rattle.s7_cli.specs.declared.watch_files.WatchText.{WatchText}
use Rattle.s7_cli.specs.Answer.{CallAnswer, done_answer}
use Rattle.s7_cli.specs.Command.{watch_inputs}
use Rattle.s7_cli.specs.Faults.{failure_of_loading, failure_of_text}
use Rattle.s7_cli.specs.Inner.{SaysRefusal}
use Rattle.s7_cli.specs.LiveSays.{RefusedScript, scripts_from}
use Rattle.s7_cli.specs.LiveTexts.{IsScriptRefusal}
use Rattle.s7_cli.specs.Living.{IsLive, opening_on}
use Rattle.s7_cli.specs.Loads.{LoadsAs}
use Rattle.s7_cli.specs.Reading.{HoldBytesInTurn}
use Rattle.s7_cli.specs.WatchSays.{WatchAnswer, watch_count, watch_text}
use Rattle.s7_cli.specs.WatchTexts.{FindsWatch, IsWatchText, WatchTextSays, watch_contents, watch_scripts}
use Rattle.s7_cli.specs.Watching.{AreViews, read_entry_of, watch_lists}
use Rattle.s7_cli.proofs.LiveLemmas.{scripts-within}

-- ---- what was read

pub watch-within : (c : Contents) (image stimuli vars : List ℕ) (names : List (List ℕ)) (text : WatchText) (count : ℕ) → length (watch_scripts text) ≡ count
    → count ≡ length text.scripts.items → 1 ≤ length names → length names ≤ 3
    → HoldBytesInTurn c (watch_inputs image stimuli vars names) (watch_contents text) → IsWatchText text
watch-within c image stimuli vars names text count same are some few hold =
    let scripts = scripts-within c 1 names (watch_scripts text) hold.1.1.1 in
    let many : length text.scripts.items ≡ length names = sym are ∙ sym same ∙ scripts.1 in record {
      stimuli = hold.1.0.within;
      vars = hold.1.1.0.within;
      scripts = scripts.0;
      some = subst (λ (n : ℕ). 1 ≤ n) (sym many) some;
      few = subst (λ (n : ℕ). n ≤ 3) (sym many) few;
    }

-- ---- what is said of all

said-so : (steps : ℕ) (text : WatchText) (p : LoadedProgram) (stimuli : Result (List Entry) Refusal) (vars : Result (List Var) Refusal)
    (scripts : Result (List (List Entry)) RefusedScript) (a : CallAnswer) → LoadsAs text.image.items (Ok p) → stimuli_of text.stimuli.items ≡ stimuli
    → watched_vars_of p.program.names text.vars.items ≡ vars → scripts_from p.program.names 1 (watch_scripts text) ≡ scripts
    → WatchAnswer p steps stimuli vars scripts a → WatchTextSays steps text a
said-so steps text p stimuli vars scripts a loads are_stimuli are_vars are_scripts answers = (
  Ok p,
  loads,
  subst (λ (s : Result (List Entry) Refusal). WatchAnswer p steps s (watched_vars_of p.program.names text.vars.items) (scripts_from p.program.names 1 (watch_scripts text)) a) (sym are_stimuli)
      (subst (λ (v : Result (List Var) Refusal). WatchAnswer p steps stimuli v (scripts_from p.program.names 1 (watch_scripts text)) a) (sym are_vars)
      (subst (λ (s : Result (List (List Entry)) RefusedScript). WatchAnswer p steps stimuli vars s a) (sym are_scripts) answers)),
)

pub watch-image-refused : (V : Type 0) (text : WatchText) (error : LoadError) (r : Result V Failure) → r ≡ Err (failure_of_loading error)
    → IsLoadError error (faults_of text.image.items) → (steps : ℕ) → SaysRefusal (WatchTextSays steps text) r
watch-image-refused V text (loading.Fault fault) r fails least = λ steps.
    subst (λ (q : Result V Failure). SaysRefusal (WatchTextSays steps text) q) (sym fails) (Err fault, least, refl)
watch-image-refused V text loading.NoMemory r fails least = λ steps.
    subst (λ (q : Result V Failure). SaysRefusal (WatchTextSays steps text) q) (sym fails) tt

stimuli-refuse : (V : Type 0) (steps : ℕ) (text : WatchText) (p : LoadedProgram) (fault : TextFault) → LoadsAs text.image.items (Ok p)
    → IsTextFault (stimuli_of text.stimuli.items) fault → SaysRefusal {V = V} (WatchTextSays steps text) (Err (failure_of_text Stimuli fault))
stimuli-refuse V steps text p (broken.BadLine line rule) loads is =
    said-so steps text p (Err (record { line = line; rule = rule })) (watched_vars_of p.program.names text.vars.items)
    (scripts_from p.program.names 1 (watch_scripts text)) _ loads is refl refl refl
stimuli-refuse V steps text p broken.NoMemory loads is = tt

-- the stimuli are refused, whatever the files behind them hold
pub watch-stimuli-refused : (V : Type 0) (text : WatchText) (p : LoadedProgram) (fault : TextFault) (r : Result V Failure)
    → r ≡ Err (failure_of_text Stimuli fault) → LoadsAs text.image.items (Ok p) → IsTextFault (stimuli_of text.stimuli.items) fault
    → (steps : ℕ) → SaysRefusal (WatchTextSays steps text) r
watch-stimuli-refused V text p fault r fails loads is = λ steps.
    subst (λ (q : Result V Failure). SaysRefusal (WatchTextSays steps text) q) (sym fails) (stimuli-refuse V steps text p fault loads is)

-- the variables are, whatever the scripts hold
pub watch-vars-refused : (V : Type 0) (text : WatchText) (p : LoadedProgram) (stimuli : List Entry) (refusal : Refusal) (r : Result V Failure)
    → r ≡ Err (Refused Vars refusal) → LoadsAs text.image.items (Ok p) → stimuli_of text.stimuli.items ≡ Ok stimuli
    → watched_vars_of p.program.names text.vars.items ≡ Err refusal → (steps : ℕ) → SaysRefusal (WatchTextSays steps text) r
watch-vars-refused V text p stimuli refusal r fails loads are is = λ steps.
    subst (λ (q : Result V Failure). SaysRefusal (WatchTextSays steps text) q) (sym fails)
    (said-so steps text p (Ok stimuli) (Err refusal) (scripts_from p.program.names 1 (watch_scripts text)) _ loads are is refl refl)

scripts-refuse : (V : Type 0) (steps : ℕ) (text : WatchText) (p : LoadedProgram) (stimuli : List Entry) (vars : List Var) (failure : Failure)
    → LoadsAs text.image.items (Ok p) → stimuli_of text.stimuli.items ≡ Ok stimuli → watched_vars_of p.program.names text.vars.items ≡ Ok vars
    → IsScriptRefusal (scripts_from p.program.names 1 (watch_scripts text)) failure → SaysRefusal {V = V} (WatchTextSays steps text) (Err failure)
scripts-refuse V steps text p stimuli vars failure loads are watched (inl is) =
    subst (λ (f : Failure). SaysRefusal {V = V} (WatchTextSays steps text) (Err f)) (sym is) tt
scripts-refuse V steps text p stimuli vars failure loads are watched (inr (script, refuses, is)) =
    subst (λ (f : Failure). SaysRefusal {V = V} (WatchTextSays steps text) (Err f)) (sym is)
    (said-so steps text p (Ok stimuli) (Ok vars) (Err script) _ loads are watched refuses refl)

pub watch-scripts-refused : (V : Type 0) (text : WatchText) (p : LoadedProgram) (stimuli : List Entry) (vars : List Var) (failure : Failure) (r : Result V Failure)
    → r ≡ Err failure → LoadsAs text.image.items (Ok p) → stimuli_of text.stimuli.items ≡ Ok stimuli → watched_vars_of p.program.names text.vars.items ≡ Ok vars
    → IsScriptRefusal (scripts_from p.program.names 1 (watch_scripts text)) failure → (steps : ℕ) → SaysRefusal (WatchTextSays steps text) r
watch-scripts-refused V text p stimuli vars failure r fails loads are watched tells = λ steps.
    subst (λ (q : Result V Failure). SaysRefusal (WatchTextSays steps text) q) (sym fails) (scripts-refuse V steps text p stimuli vars failure loads are watched tells)

-- the workers made this history, and this was seen of it
pub watch-said : (steps : ℕ) (text : WatchText) (p q : LoadedProgram) (stimuli : List Entry) (vars : List Var) (scripts : List (List Entry)) (history : List Entry)
    (seen : List Shown) → q ≡ p → FindsWatch text p stimuli vars scripts → IsLive p steps stimuli (watch_lists watch_count scripts vars) history
    → history_of_text p.program.names (history_text history) ≡ Ok history → AreViews (read_entry_of 6 vars) (opening_on p) history watch_count seen
    → WatchTextSays steps text (done_answer (watch_text q history vars seen))
watch-said steps text p q stimuli vars scripts history seen same finds live back views =
    subst (λ (x : LoadedProgram). WatchTextSays steps text (done_answer (watch_text x history vars seen))) (sym same)
    (said-so steps text p (Ok stimuli) (Ok vars) (Ok scripts) _ finds.loads finds.are_stimuli finds.are_vars finds.are_scripts
    (record { history = history; live = live; read_back = back; seen = seen; views = views; says = refl }))
