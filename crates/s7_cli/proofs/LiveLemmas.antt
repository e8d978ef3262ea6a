-- How the files of a live run are read and checked.
use Rattle.std.proofs.Common.{◌≡◌, ◌<◌, ◌≤◌, inl, inr, refl, sym, ◌∙◌, ap, subst, ℕ, suc, ◌+◌, ◌*◌, List, [], ◌∷◌, ◌++◌, length, map, drop, get_or, Bor, Result, Ok, Err, append_assoc, append-nil, arith}
use Rattle.std.specs.List.{All}
use Rattle.plc_base.specs.declared.Refusal.{Refusal}
use Rattle.plc_io.specs.Contents.{Contents}
use Rattle.plc_io.specs.Moments.{FilesAt}
use Rattle.flat_code.specs.Loading.{faults_of}
use Rattle.flat_code.specs.Programs.{NameEntry}
use Rattle.image_file.specs.LoadedProgram.{LoadedProgram}
use Rattle.image_file.specs.Refusing.{IsLoadError}
use Rattle.image_file.specs.declared.refusing.LoadError.{LoadError}
use Rattle.image_file.specs.declared.refusing.LoadError.TheVariants as loading
use Rattle.var_access.specs.declared.Entry.{Entry}
use Rattle.event_text.specs.HistoryText.{history_text}
use Rattle.event_text.specs.Regular.{IsRegularOf}
use Rattle.event_text.specs.TextFault.{IsTextFault}
use Rattle.event_text.specs.Texts.{history_of_text, script_of, stimuli_of}
use Rattle.event_text.specs.declared.TextFault.{TextFault}
use Rattle.event_text.specs.declared.TextFault.TheVariants as broken
use Rattle.s7_cli.specs.declared.failures.Failure.{Failure}
use Rattle.s7_cli.specs.declared.failures.Failure.TheVariants.{WordsRefused, ReadFault, TooLong, Refused, ImageRefused, NoListing, SaysNo, TooDeep, WriteFault, NoMemory}
use Rattle.s7_cli.specs.declared.failures.File.TheVariants.{Stimuli, Script}
use Rattle.s7_cli.specs.declared.files.LiveText.{LiveText}
use Rattle.s7_cli.specs.Answer.{CallAnswer, done_answer}
use Rattle.s7_cli.specs.Command.{InputFile, live_inputs, script_inputs}
use Rattle.s7_cli.specs.Faults.{failure_of_loading, failure_of_text}
use Rattle.s7_cli.specs.Inner.{AllRead, FileRead, HasRead, SaysRefusal}
use Rattle.s7_cli.specs.LiveSays.{LiveAnswer, RefusedScript, live_text, script_first, scripts_from}
use Rattle.s7_cli.specs.LiveTexts.{AreScriptsWithin, FindsProgramAndScripts, IsLiveText, IsScriptRefusal, LiveTextSays, live_contents, scripts_of}
use Rattle.s7_cli.specs.Living.{AreRegularBy, IsLive, total_length}
use Rattle.s7_cli.specs.Loads.{LoadsAs}
use Rattle.s7_cli.specs.Reading.{HoldBytesInTurn, disk_moments}
use Rattle.plc_base.proofs.ListLemmas.{drop_next}
use Rattle.s7_cli.proofs.ComesLemmas.{file-fails, file-read, only-reads, read-then, unchanged, unread-then}

-- ---- input files that are read in a loop

-- of all files these are left, and those before them were read
pub record IsReading (start now : FilesAt) (all rest : List InputFile) (contents : List (List ℕ)) : Type 0 where
  pub before : List InputFile
  pub splits : all ≡ before ++ rest
  pub read : HasRead start now before contents

pub reads-first : (at : FilesAt) (all : List InputFile) → IsReading at at all all []
reads-first at all = record { before = []; splits = refl; read = record { same = unchanged at; hold = tt } }

pub reads-next : {V : Type 0} (view : V → List ℕ) (start middle now : FilesAt) (all rest more : List InputFile) (i : InputFile) (contents after : List (List ℕ)) (v : V)
    → IsReading start middle all rest contents → rest ≡ i ∷ more → after ≡ contents ++ view v ∷ [] → FileRead view (disk_moments middle now) i (Ok v)
    → IsReading start now all more after
reads-next view start middle now all rest more i contents after v so_far first are read = record {
  before = so_far.before ++ i ∷ [];
  splits = so_far.splits ∙ ap (λ (is : List InputFile). so_far.before ++ is) first ∙ sym (append_assoc so_far.before (i ∷ []) more);
  read = subst (λ (c : List (List ℕ)). HasRead start now (so_far.before ++ i ∷ []) c) (sym are)
      (read-then start middle now so_far.before (i ∷ []) contents (view v ∷ []) so_far.read (file-read view middle now i v read));
}

pub reads-cut : {V W : Type 0} (view : V → List ℕ) (views : W → List (List ℕ)) (start middle now : FilesAt) (all rest more : List InputFile) (i : InputFile)
    (contents : List (List ℕ)) (failure : Failure) (r : Result W Failure) → IsReading start middle all rest contents → rest ≡ i ∷ more
    → r ≡ Err failure → FileRead view (disk_moments middle now) i (Err failure) → AllRead views (disk_moments start now) all r
reads-cut {V} {W} view views start middle now all rest more i contents failure r so_far first is read =
    subst (λ (inputs : List InputFile). AllRead views (disk_moments start now) inputs r)
    (sym (so_far.splits ∙ ap (λ (inputs : List InputFile). so_far.before ++ inputs) first))
    (unread-then views views start middle now so_far.before (i ∷ more) contents failure r is so_far.read
    (file-fails view views (disk_moments middle now) i more failure read))

pub reads-wanting : {W : Type 0} (views : W → List (List ℕ)) (start now : FilesAt) (all rest : List InputFile) (contents : List (List ℕ)) (r : Result W Failure)
    → IsReading start now all rest contents → r ≡ Err NoMemory → AllRead views (disk_moments start now) all r
reads-wanting {W} views start now all rest contents r so_far is =
    subst (λ (q : Result W Failure). AllRead views (disk_moments start now) all q) (sym is) (only-reads start now so_far.read.same)

pub reads-last : (start now : FilesAt) (all rest : List InputFile) (contents : List (List ℕ)) → IsReading start now all rest contents → rest ≡ []
    → HasRead start now all contents
reads-last start now all rest contents so_far none =
    subst (λ (inputs : List InputFile). HasRead start now inputs contents)
    (sym (so_far.splits ∙ ap (λ (inputs : List InputFile). so_far.before ++ inputs) none ∙ append-nil so_far.before)) so_far.read

-- the scripts from a place on, as input files
abbrev pub inputs_from : List (Bor (List ℕ)) → (place : ℕ) → List InputFile
inputs_from names place = script_inputs (place + 1) (map (λ s. s.now) (drop place names))

inputs-next : (names : List (Bor (List ℕ))) (place : ℕ) (name : Bor (List ℕ)) → place < length names → name ≡ get_or names place name
    → inputs_from names place ≡ record { file = Script (place + 1); name = name.now } ∷ inputs_from names (place + 1)
inputs-next names place name within is =
    ap (λ (ns : List (Bor (List ℕ))). script_inputs (place + 1) (map (λ s. s.now) ns)) (drop_next names place name within is)

pub script-next : {V : Type 0} (view : V → List ℕ) (start middle now : FilesAt) (all : List InputFile) (names : List (Bor (List ℕ))) (place : ℕ)
    (name : Bor (List ℕ)) (contents after : List (List ℕ)) (v : V) → FileRead view (disk_moments middle now) (record { file = Script (place + 1); name = name.now }) (Ok v)
    → IsReading start middle all (inputs_from names place) contents → after ≡ contents ++ view v ∷ [] → place < length names
    → name ≡ get_or names place name → IsReading start now all (inputs_from names (place + 1)) after
script-next view start middle now all names place name contents after v read so_far are within is =
    reads-next view start middle now all (inputs_from names place) (inputs_from names (place + 1)) _ contents after v so_far
    (inputs-next names place name within is) are read

pub script-cut : {V W : Type 0} (view : V → List ℕ) (views : W → List (List ℕ)) (start middle now : FilesAt) (all : List InputFile)
    (names : List (Bor (List ℕ))) (place : ℕ) (name : Bor (List ℕ)) (contents : List (List ℕ)) (failure : Failure) (r : Result W Failure)
    → FileRead view (disk_moments middle now) (record { file = Script (place + 1); name = name.now }) (Err failure)
    → IsReading start middle all (inputs_from names place) contents → r ≡ Err failure → place < length names
    → name ≡ get_or names place name → AllRead views (disk_moments start now) all r
script-cut view views start middle now all names place name contents failure r read so_far ends within is =
    reads-cut view views start middle now all (inputs_from names place) (inputs_from names (place + 1)) _ contents failure r so_far
    (inputs-next names place name within is) ends read

pub map-behind : {A B : Type 0} (f : A → B) (xs : List A) (x : A) → map f (xs ++ x ∷ []) ≡ map f xs ++ f x ∷ []
map-behind f [] x = refl
map-behind f (y ∷ xs) x = ap (λ l. f y ∷ l) (map-behind f xs x)

-- scripts that were read are within their limit
pub scripts-within : (c : Contents) (number : ℕ) (names contents : List (List ℕ)) → HoldBytesInTurn c (script_inputs number names) contents
    → AreScriptsWithin contents × (length contents ≡ length names)
scripts-within c number [] [] hold = (tt, refl)
scripts-within c number [] (bytes ∷ more) hold = absurd hold
scripts-within c number (name ∷ names) [] hold = absurd hold
scripts-within c number (name ∷ names) (bytes ∷ more) hold =
    let rest = scripts-within c (number + 1) names more hold.1 in
    ((hold.0.within, rest.0), ap suc rest.1)

pub live-within : (c : Contents) (image stimuli : List ℕ) (names : List (List ℕ)) (text : LiveText) (count : ℕ) → length (scripts_of text) ≡ count
    → count ≡ length text.scripts.items → 1 ≤ length names → length names ≤ 4
    → HoldBytesInTurn c (live_inputs image stimuli names) (live_contents text) → IsLiveText text
live-within c image stimuli names text count same are some few hold =
    let scripts = scripts-within c 1 names (scripts_of text) hold.1.1 in
    let many : length text.scripts.items ≡ length names = sym are ∙ sym same ∙ scripts.1 in record {
      stimuli = hold.1.0.within;
      scripts = scripts.0;
      some = subst (λ (n : ℕ). 1 ≤ n) (sym many) some;
      few = subst (λ (n : ℕ). n ≤ 4) (sym many) few;
    }

-- ---- scripts that are checked in a loop

-- the lists of scripts before others, with what is found in these
abbrev pub behind : List (List Entry) → Result (List (List Entry)) RefusedScript → Result (List (List Entry)) RefusedScript
behind lists (Ok more) = Ok (lists ++ more)
behind lists (Err script) = Err script

-- of all scripts these are left, from a number on, and those before them gave these lists
pub record AreChecked (names : List NameEntry) (all : List (List ℕ)) (number : ℕ) (rest : List (List ℕ)) (lists : List (List Entry)) : Type 0 where
  pub spells : scripts_from names 1 all ≡ behind lists (scripts_from names number rest)
  pub within : AreScriptsWithin rest
  pub many : length lists + 1 ≡ number
  pub regular : AreRegularBy 3 lists
  pub few : 4 * total_length lists ≤ 1048576 * length lists

behind-none : (r : Result (List (List Entry)) RefusedScript) → r ≡ behind [] r
behind-none (Ok lists) = refl
behind-none (Err script) = refl

pub checked-first : (names : List NameEntry) (all : List (List ℕ)) → AreScriptsWithin all → AreChecked names all 1 all []
checked-first names all within = record {
  spells = behind-none (scripts_from names 1 all);
  within = within;
  many = refl;
  regular = tt;
  few = omega arith;
}

behind-one : (number : ℕ) (lists : List (List Entry)) (list : List Entry) (r : Result (List (List Entry)) RefusedScript)
    → behind lists (script_first number (Ok list) r) ≡ behind (lists ++ list ∷ []) r
behind-one number lists list (Ok more) = ap Ok (sym (append_assoc lists (list ∷ []) more))
behind-one number lists list (Err script) = refl

regular-one : (who : ℕ) (lists : List (List Entry)) (list : List Entry) (maker : ℕ) → AreRegularBy who lists → who + length lists ≡ maker
    → All (IsRegularOf maker) list → AreRegularBy who (lists ++ list ∷ [])
regular-one who [] list maker regular is one =
    let same : maker ≡ who = omega (arith, is) in
    (subst (λ (n : ℕ). All (IsRegularOf n) list) same one, tt)
regular-one who (x ∷ lists) list maker regular is one = (regular.0, regular-one (suc who) lists list maker regular.1 (omega (arith, is)) one)

total-one : (lists : List (List Entry)) (list : List Entry) → total_length (lists ++ list ∷ []) ≡ total_length lists + length list
total-one [] list = omega arith
total-one (x ∷ lists) list = omega (arith, total-one lists list)

length-one : {A : Type 0} (xs : List A) (x : A) → length (xs ++ x ∷ []) ≡ length xs + 1
length-one [] x = refl
length-one (y ∷ xs) x = omega (arith, length-one xs x)

pub checked-next : (names : List NameEntry) (all : List (List ℕ)) (number next : ℕ) (rest : List (List ℕ)) (bytes : List ℕ) (more : List (List ℕ))
    (lists after : List (List Entry)) (list : List Entry)
    → AreChecked names all number rest lists → rest ≡ bytes ∷ more → next ≡ number + 1 → after ≡ lists ++ list ∷ []
    → script_of (number + 2) names bytes ≡ Ok list → All (IsRegularOf (number + 2)) list → 4 * length list ≤ length bytes
    → AreChecked names all next more after
checked-next names all number next rest bytes more lists after list so_far first is are spelled regular few =
    subst (λ (n : ℕ). AreChecked names all n more after) (sym is)
    (subst (λ (l : List (List Entry)). AreChecked names all (number + 1) more l) (sym are) (record {
      spells = so_far.spells ∙ ap (λ (r : List (List ℕ)). behind lists (scripts_from names number r)) first
          ∙ ap (λ (s : Result (List Entry) Refusal). behind lists (script_first number s (scripts_from names (number + 1) more))) spelled
          ∙ behind-one number lists list (scripts_from names (number + 1) more);
      within = within.1;
      many = omega (arith, length-one lists list, so_far.many);
      regular = regular-one 3 lists list (number + 2) so_far.regular (omega (arith, so_far.many)) regular;
      few = omega (arith, total-one lists list, length-one lists list, so_far.few, few, within.0);
    }))
  where
    within : AreScriptsWithin (bytes ∷ more)
    within = subst AreScriptsWithin first so_far.within

-- the script in front is within its limit
pub next-within : (names : List NameEntry) (all : List (List ℕ)) (number : ℕ) (rest : List (List ℕ)) (bytes : List ℕ) (more : List (List ℕ))
    (lists : List (List Entry)) → AreChecked names all number rest lists → rest ≡ bytes ∷ more → length bytes ≤ 1048576
next-within names all number rest bytes more lists so_far first = (subst AreScriptsWithin first so_far.within).0

pub checked-last : (names : List NameEntry) (all : List (List ℕ)) (number : ℕ) (rest : List (List ℕ)) (lists : List (List Entry))
    → AreChecked names all number rest lists → rest ≡ [] → scripts_from names 1 all ≡ Ok lists
checked-last names all number rest lists so_far none =
    so_far.spells ∙ ap (λ (r : List (List ℕ)). behind lists (scripts_from names number r)) none ∙ ap Ok (append-nil lists)

tells-script : (names : List NameEntry) (number : ℕ) (bytes : List ℕ) (more : List (List ℕ)) (lists : List (List Entry)) (fault : TextFault)
    → IsTextFault (script_of (number + 2) names bytes) fault
    → IsScriptRefusal (behind lists (scripts_from names number (bytes ∷ more))) (failure_of_text (Script number) fault)
tells-script names number bytes more lists (broken.BadLine line rule) is = inr (
  record { number = number; refusal = record { line = line; rule = rule } },
  ap (λ (s : Result (List Entry) Refusal). behind lists (script_first number s (scripts_from names (number + 1) more))) is,
  refl,
)
tells-script names number bytes more lists broken.NoMemory is = inl refl

pub checked-cut : (names : List NameEntry) (all : List (List ℕ)) (number : ℕ) (rest : List (List ℕ)) (bytes : List ℕ) (more : List (List ℕ))
    (lists : List (List Entry)) (fault : TextFault) (failure : Failure) → AreChecked names all number rest lists → rest ≡ bytes ∷ more
    → failure ≡ failure_of_text (Script number) fault → IsTextFault (script_of (number + 2) names bytes) fault
    → IsScriptRefusal (scripts_from names 1 all) failure
checked-cut names all number rest bytes more lists fault failure so_far first fails is =
    subst (λ (f : Failure). IsScriptRefusal (scripts_from names 1 all) f) (sym fails)
    (subst (λ (s : Result (List (List Entry)) RefusedScript). IsScriptRefusal s (failure_of_text (Script number) fault))
    (sym (so_far.spells ∙ ap (λ (r : List (List ℕ)). behind lists (scripts_from names number r)) first))
    (tells-script names number bytes more lists fault is))

-- ---- what is said of all

said-so : (steps : ℕ) (text : LiveText) (p : LoadedProgram) (stimuli : Result (List Entry) Refusal) (scripts : Result (List (List Entry)) RefusedScript)
    (a : CallAnswer) → LoadsAs text.image.items (Ok p) → stimuli_of text.stimuli.items ≡ stimuli → scripts_from p.program.names 1 (scripts_of text) ≡ scripts
    → LiveAnswer p steps stimuli scripts a → LiveTextSays steps text a
said-so steps text p stimuli scripts a loads are_stimuli are_scripts answers = (
  Ok p,
  loads,
  subst (λ (s : Result (List Entry) Refusal). LiveAnswer p steps s (scripts_from p.program.names 1 (scripts_of text)) a) (sym are_stimuli)
      (subst (λ (s : Result (List (List Entry)) RefusedScript). LiveAnswer p steps stimuli s a) (sym are_scripts) answers),
)

pub live-image-refused : (V : Type 0) (text : LiveText) (error : LoadError) (r : Result V Failure) → r ≡ Err (failure_of_loading error)
    → IsLoadError error (faults_of text.image.items) → (steps : ℕ) → SaysRefusal (LiveTextSays steps text) r
live-image-refused V text (loading.Fault fault) r fails least = λ steps.
    subst (λ (q : Result V Failure). SaysRefusal (LiveTextSays steps text) q) (sym fails) (Err fault, least, refl)
live-image-refused V text loading.NoMemory r fails least = λ steps.
    subst (λ (q : Result V Failure). SaysRefusal (LiveTextSays steps text) q) (sym fails) tt

-- the stimuli are refused, whatever the scripts are
stimuli-refuse : (V : Type 0) (steps : ℕ) (text : LiveText) (p : LoadedProgram) (fault : TextFault) → LoadsAs text.image.items (Ok p)
    → IsTextFault (stimuli_of text.stimuli.items) fault → SaysRefusal {V = V} (LiveTextSays steps text) (Err (failure_of_text Stimuli fault))
stimuli-refuse V steps text p (broken.BadLine line rule) loads is =
    said-so steps text p (Err (record { line = line; rule = rule })) (scripts_from p.program.names 1 (scripts_of text)) _ loads is refl refl
stimuli-refuse V steps text p broken.NoMemory loads is = tt

pub stimuli-refused : (V : Type 0) (text : LiveText) (p : LoadedProgram) (fault : TextFault) (r : Result V Failure) → r ≡ Err (failure_of_text Stimuli fault)
    → LoadsAs text.image.items (Ok p) → IsTextFault (stimuli_of text.stimuli.items) fault → (steps : ℕ) → SaysRefusal (LiveTextSays steps text) r
stimuli-refused V text p fault r fails loads is = λ steps.
    subst (λ (q : Result V Failure). SaysRefusal (LiveTextSays steps text) q) (sym fails) (stimuli-refuse V steps text p fault loads is)

scripts-refuse : (V : Type 0) (steps : ℕ) (text : LiveText) (p : LoadedProgram) (stimuli : List Entry) (failure : Failure) → LoadsAs text.image.items (Ok p)
    → stimuli_of text.stimuli.items ≡ Ok stimuli → IsScriptRefusal (scripts_from p.program.names 1 (scripts_of text)) failure
    → SaysRefusal {V = V} (LiveTextSays steps text) (Err failure)
scripts-refuse V steps text p stimuli failure loads are (inl is) =
    subst (λ (f : Failure). SaysRefusal {V = V} (LiveTextSays steps text) (Err f)) (sym is) tt
scripts-refuse V steps text p stimuli failure loads are (inr (script, refuses, is)) =
    subst (λ (f : Failure). SaysRefusal {V = V} (LiveTextSays steps text) (Err f)) (sym is)
    (said-so steps text p (Ok stimuli) (Err script) _ loads are refuses refl)

pub scripts-refused : (V : Type 0) (text : LiveText) (p : LoadedProgram) (stimuli : List Entry) (failure : Failure) (r : Result V Failure) → r ≡ Err failure
    → LoadsAs text.image.items (Ok p) → stimuli_of text.stimuli.items ≡ Ok stimuli → IsScriptRefusal (scripts_from p.program.names 1 (scripts_of text)) failure
    → (steps : ℕ) → SaysRefusal (LiveTextSays steps text) r
scripts-refused V text p stimuli failure r fails loads are tells = λ steps.
    subst (λ (q : Result V Failure). SaysRefusal (LiveTextSays steps text) q) (sym fails) (scripts-refuse V steps text p stimuli failure loads are tells)

on : (V W : Type 0) (says : CallAnswer → Type 0) (failure : Failure) → SaysRefusal {V = V} says (Err failure) → SaysRefusal {V = W} says (Err failure)
on V W says (Refused file refusal) refused = refused
on V W says (ImageRefused fault) refused = refused
on V W says NoListing refused = refused
on V W says SaysNo refused = refused
on V W says TooDeep refused = absurd refused
on V W says NoMemory refused = tt
on V W says WordsRefused refused = absurd refused
on V W says ReadFault refused = absurd refused
on V W says (TooLong file) refused = refused
on V W says WriteFault refused = absurd refused

-- a refusal is handed on
pub refused-on : (V W : Type 0) (says : CallAnswer → Type 0) (failure : Failure) (r : Result W Failure) → r ≡ Err failure
    → SaysRefusal {V = V} says (Err failure) → SaysRefusal says r
refused-on V W says failure r fails refused =
    subst (λ (q : Result W Failure). SaysRefusal says q) (sym fails) (on V W says failure refused)

-- the workers made this history
pub live-said : (steps : ℕ) (text : LiveText) (p q : LoadedProgram) (stimuli : List Entry) (scripts : List (List Entry)) (history : List Entry)
    → q ≡ p → FindsProgramAndScripts text p stimuli scripts → IsLive p steps stimuli scripts history → history_of_text p.program.names (history_text history) ≡ Ok history
    → LiveTextSays steps text (done_answer (live_text q history))
live-said steps text p q stimuli scripts history same finds live back =
    subst (λ (x : LoadedProgram). LiveTextSays steps text (done_answer (live_text x history))) (sym same)
    (said-so steps text p (Ok stimuli) (Ok scripts) _ finds.loads finds.are_stimuli finds.are_scripts
    (record { history = history; live = live; read_back = back; says = refl }))
