-- What a command answers for what its input files hold, and what it writes to its output files.
use Rattle.std.specs.Prelude.{◌≡◌, ℕ, Bool, List, [], ◌∷◌, Some, None, Result, Ok, Err}
use Rattle.plc_base.specs.declared.Refusal.{Refusal}
use Rattle.plc_base.specs.declared.Profile.{Profile}
use Rattle.plc_base.specs.declared.Profile.TheVariants.{Large}
use Rattle.var_access.specs.declared.Entry.{Entry}
use Rattle.flat_code.specs.Image.{image as image_of}
use Rattle.flat_code.specs.declared.stamps.Stamp.TheVariants.{Two}
use Rattle.image_file.specs.LoadedProgram.{LoadedProgram}
use Rattle.image_file.specs.declared.faults.LoadFault.{LoadFault}
use Rattle.machine.specs.Code.{Code}
use Rattle.machine.specs.Flat.{code_of}
use Rattle.generator.specs.History.{generated_history}
use Rattle.generator.specs.Source.{source_text}
use Rattle.de_mnemonics.specs.Translation.{IsTranslation}
use Rattle.stl_symbols.specs.declared.languages.Language.{Language}
use Rattle.sem_kept.specs.Agreement.{names_read_in}
use Rattle.sem_kept.specs.Meaning.{HasOutcomeOfSource, HasOutcomeOfSourceIn, IsRefusedSourceIn, RefusedFile, InSymbols, InSource}
use Rattle.event_text.specs.Texts.{history_of_text}
use Rattle.s7_cli.specs.run_text.RunText.{run_text}
use Rattle.s7_cli.specs.declared.failures.File.TheVariants.{Source, Symbols, History}
use Rattle.s7_cli.specs.Answer.{CallAnswer, done_answer, refused_file_answer, refused_image_answer}
use Rattle.s7_cli.specs.BoundSays.{BoundSays, IsCertificate, RecheckSays}
use Rattle.s7_cli.specs.Command.{Command, Go, Check, Compile, Translate, Run, Gen, Live, Watch, Upgrade, ListImage, Bound, Recheck}
use Rattle.s7_cli.specs.GenText.{summary_text}
use Rattle.s7_cli.specs.Lines.{ok_line}
use Rattle.s7_cli.specs.ListSays.{IsListed, ListSays}
use Rattle.s7_cli.specs.LiveSays.{LiveSays}
use Rattle.s7_cli.specs.Loads.{LoadsAs}
use Rattle.s7_cli.specs.Translating.{SaysInEnglish, IsSourceImage, SaysTranslated, language_of}
use Rattle.s7_cli.specs.WatchSays.{WatchSays}

-- a source is refused by what its symbols break, or by what it breaks itself
abbrev pub refused_source_answer : RefusedFile → CallAnswer
refused_source_answer (InSymbols refusal) = refused_file_answer Symbols refusal
refused_source_answer (InSource refusal) = refused_file_answer Source refusal

-- the answer of `go`, at a profile: the refusal of the source with its symbols, which is checked
-- first; else that of the history; else the text of the run
abbrev pub go_answer : Profile → Result Code RefusedFile → Result (List Entry) Refusal → CallAnswer
go_answer profile (Err why) history = refused_source_answer why
go_answer profile (Ok code) (Err refusal) = refused_file_answer History refusal
go_answer profile (Ok code) (Ok entries) = done_answer (run_text profile code entries)

-- the answer of `check` and `compile`: the refusal of the source with its symbols, or `OK`
abbrev pub check_answer : Result Code RefusedFile → CallAnswer
check_answer (Err why) = refused_source_answer why
check_answer (Ok code) = done_answer ok_line

-- the answer of running a source along a history, over the contents of its files, with symbols
-- in a language, at a profile; the history may name the variables of the symbols
abbrev pub SourceSays : Language → Profile → (source symbols history : List ℕ) → CallAnswer → Type 0
SourceSays language profile source symbols history answer =
    (outcome : Result Code RefusedFile) × HasOutcomeOfSourceIn language source symbols outcome
    × (answer
    ≡ go_answer profile outcome (history_of_text (names_read_in language symbols) history))

-- what `go` answers, of the English text of the source: it has the sizes of the large profile
abbrev pub GoSays : (german : Bool) → (source symbols history : List ℕ) → CallAnswer → Type 0
GoSays german source symbols history answer =
    SaysInEnglish german source symbols
    (λ text. SourceSays (language_of german) Large text symbols history) answer

-- the answer of `run` with an image that loads: the refusal of the history, or the text of the run,
-- at the image's profile
abbrev pub run_loaded_answer : LoadedProgram → Result (List Entry) Refusal → CallAnswer
run_loaded_answer loaded (Err refusal) = refused_file_answer History refusal
run_loaded_answer loaded (Ok entries) =
    done_answer (run_text loaded.profile (code_of loaded.program) entries)

-- the answer of `run`, by how its image loads: the image is refused, or runs along the history,
-- which may name the variables whose names stand in the image
abbrev pub run_answer : Result LoadedProgram LoadFault → (history : List ℕ) → CallAnswer
run_answer (Err fault) history = refused_image_answer fault
run_answer (Ok loaded) history =
    run_loaded_answer loaded (history_of_text loaded.program.names history)

-- what `run` answers, over the contents of its files
abbrev pub RunSays : (image history : List ℕ) → CallAnswer → Type 0
RunSays image history answer =
    (loaded : Result LoadedProgram LoadFault) × LoadsAs image loaded
    × (answer ≡ run_answer loaded history)

-- the answer of `upgrade` by how its image loads: the image is refused, or `OK`
abbrev pub upgrade_answer : Result LoadedProgram LoadFault → CallAnswer
upgrade_answer (Err fault) = refused_image_answer fault
upgrade_answer (Ok loaded) = done_answer ok_line

-- what `upgrade` answers, over the contents of its file
abbrev pub UpgradeSays : (image : List ℕ) → CallAnswer → Type 0
UpgradeSays image answer =
    (loaded : Result LoadedProgram LoadFault) × LoadsAs image loaded
    × (answer ≡ upgrade_answer loaded)

-- bytes are the image of version 2 of the program, with its names, and of the profile as which an
-- image loads
abbrev pub IsUpgraded : (bytes image : List ℕ) → Type 0
IsUpgraded bytes image =
    (loaded : LoadedProgram) × LoadsAs image (Ok loaded)
    × (bytes ≡ image_of (Two loaded.profile) loaded.program)

-- the answer of `gen`: the refusal of the source of the number, or the summary of its run along the
-- history of the number
abbrev pub gen_answer : (number : ℕ) → Result Code RefusedFile → CallAnswer
gen_answer number (Err why) = refused_source_answer why
gen_answer number (Ok code) =
    done_answer (summary_text number Large code (generated_history number))

-- what `gen` answers; it reads no file
abbrev pub GenSays : (number : ℕ) → CallAnswer → Type 0
GenSays number answer =
    (outcome : Result Code RefusedFile) × HasOutcomeOfSource (source_text number) [] outcome
    × (answer ≡ gen_answer number outcome)

-- what `check` and `compile` answer for an English text with symbols in a language
abbrev pub ChecksAs : Language → (symbols text : List ℕ) → CallAnswer → Type 0
ChecksAs language symbols text answer =
    (outcome : Result Code RefusedFile) × HasOutcomeOfSourceIn language text symbols outcome
    × (answer ≡ check_answer outcome)

-- what `check` and `compile` answer, over the contents of their files
abbrev pub CheckSays : (german : Bool) → (source symbols : List ℕ) → CallAnswer → Type 0
CheckSays german source symbols answer =
    SaysInEnglish german source symbols (ChecksAs (language_of german) symbols) answer

-- an English text with symbols in a language is refused with this answer
abbrev pub RefusedText : Language → (symbols text : List ℕ) → CallAnswer → Type 0
RefusedText language symbols text answer =
    (why : RefusedFile) × IsRefusedSourceIn language text symbols why
    × (answer ≡ refused_source_answer why)

-- a source with its symbols is refused with this answer, or its translation is too long
abbrev pub RefusedProgram : (german : Bool) → (source symbols : List ℕ) → CallAnswer → Type 0
RefusedProgram german source symbols answer =
    SaysInEnglish german source symbols (RefusedText (language_of german) symbols) answer

-- what `english` and `german` answer, over the contents of their file
abbrev pub TranslateSays : Language → (source : List ℕ) → CallAnswer → Type 0
TranslateSays language source answer =
    SaysTranslated language source (λ text a. a ≡ done_answer ok_line) answer

-- what a command answers, over the contents of its input files, in the order of reading; without
-- a symbols file the symbols are no bytes
abbrev pub CommandSays : Command → List (List ℕ) → CallAnswer → Type 0
CommandSays (Go _ None german _) (source ∷ history ∷ []) answer =
    GoSays german source [] history answer
CommandSays (Go _ (Some _) german _) (source ∷ symbols ∷ history ∷ []) answer =
    GoSays german source symbols history answer
CommandSays (Check _ None german) (source ∷ []) answer = CheckSays german source [] answer
CommandSays (Check _ (Some _) german) (source ∷ symbols ∷ []) answer =
    CheckSays german source symbols answer
CommandSays (Compile _ None german _) (source ∷ []) answer = CheckSays german source [] answer
CommandSays (Compile _ (Some _) german _) (source ∷ symbols ∷ []) answer =
    CheckSays german source symbols answer
CommandSays (Translate language _ _) (source ∷ []) answer = TranslateSays language source answer
CommandSays (Run _ _) (image ∷ history ∷ []) answer = RunSays image history answer
CommandSays (Gen number) [] answer = GenSays number answer
CommandSays (Live _ _ _ steps) (image ∷ stimuli ∷ scripts) answer =
    LiveSays steps image stimuli scripts answer
CommandSays (Watch _ _ _ _ steps) (image ∷ stimuli ∷ vars ∷ scripts) answer =
    WatchSays steps image stimuli vars scripts answer
CommandSays (Upgrade _ _) (image ∷ []) answer = UpgradeSays image answer
CommandSays (ListImage _ _ _) (image ∷ []) answer = ListSays image answer
CommandSays (Bound _ _) (image ∷ []) answer = BoundSays image answer
CommandSays (Recheck _ _) (image ∷ certificate ∷ []) answer = RecheckSays image certificate answer
CommandSays _ contents answer = ⊥

-- what a command writes to an output file, over the contents of its input files, in the order of
-- reading
abbrev pub WritesOutputFile : Command → List (List ℕ) → (name bytes : List ℕ) → Type 0
WritesOutputFile (Compile _ None german image) (source ∷ []) name bytes =
    (name ≡ image) × IsSourceImage german bytes source []
WritesOutputFile (Compile _ (Some _) german image) (source ∷ symbols ∷ []) name bytes =
    (name ≡ image) × IsSourceImage german bytes source symbols
WritesOutputFile (Compile _ _ _ _) contents name bytes = ⊥
WritesOutputFile (Translate language _ translation) (source ∷ []) name bytes =
    (name ≡ translation) × IsTranslation language source bytes
WritesOutputFile (Translate _ _ _) contents name bytes = ⊥
WritesOutputFile (Go _ _ _ _) contents name bytes = ⊥
WritesOutputFile (Check _ _ _) contents name bytes = ⊥
WritesOutputFile (Run _ _) contents name bytes = ⊥
WritesOutputFile (Gen _) contents name bytes = ⊥
WritesOutputFile (Live _ _ _ _) contents name bytes = ⊥
WritesOutputFile (Watch _ _ _ _ _) contents name bytes = ⊥
WritesOutputFile (Upgrade _ upgraded) (image ∷ []) name bytes =
    (name ≡ upgraded) × IsUpgraded bytes image
WritesOutputFile (Upgrade _ _) contents name bytes = ⊥
WritesOutputFile (ListImage _ source symbols) (image ∷ []) name bytes =
    IsListed source symbols image name bytes
WritesOutputFile (ListImage _ _ _) contents name bytes = ⊥
WritesOutputFile (Bound _ certificate) (image ∷ []) name bytes =
    (name ≡ certificate) × IsCertificate bytes image
WritesOutputFile (Bound _ _) contents name bytes = ⊥
WritesOutputFile (Recheck _ _) contents name bytes = ⊥
