-- What commands say of the contents of their files.
use Rattle.std.proofs.Common.{◌≡◌, ◌≤◌, inl, inr, refl, sym, ◌∙◌, ap, subst, ℕ, Bool, true, false, List, [], ◌∷◌, ◌++◌, length, Option, Some, None, Ok, Err, Result, arith}
use Rattle.std.specs.Prelude.{option_to_list, unwrap_or}
use Rattle.plc_base.specs.declared.Profile.TheVariants.{Large}
use Rattle.plc_base.specs.declared.Refusal.{Refusal}
use Rattle.plc_io.specs.Contents.{Contents}
use Rattle.flat_code.specs.Loading.{faults_of}
use Rattle.flat_code.specs.Programs.{NameEntry, Program}
use Rattle.image_file.specs.LoadedProgram.{LoadedProgram}
use Rattle.image_file.specs.Refusing.{IsLoadError}
use Rattle.image_file.specs.declared.faults.LoadFault.{LoadFault}
use Rattle.image_file.specs.declared.refusing.LoadError.{LoadError}
use Rattle.image_file.specs.declared.refusing.LoadError.TheVariants as loading
use Rattle.var_access.specs.declared.Entry.{Entry}
use Rattle.machine.specs.Code.{Code}
use Rattle.machine.specs.Flat.{code_of}
use Rattle.generator.specs.History.{generated_history}
use Rattle.generator.specs.Source.{source_text}
use Rattle.sem_kept.specs.Agreement.{names_read_in}
use Rattle.sem_kept.specs.Meaning.{HasSymbolsIn, HasOutcomeOfSourceIn, IsMeaningUnique, ExcludesRefusal, IsRefusalUnique, RefusedFile, InSymbols, InSource, MeansCodeIn}
use Rattle.stl_symbols.specs.Symbol.{Symbol}
use Rattle.stl_symbols.specs.Symbols.{symbols_in}
use Rattle.stl_symbols.specs.declared.languages.Language.{Language}
use Rattle.stl_symbols.specs.declared.languages.Language.TheVariants.{English, German}
use Rattle.event_text.specs.TextFault.{IsTextFault}
use Rattle.event_text.specs.Texts.{history_of_text, stimuli_of}
use Rattle.event_text.specs.declared.TextFault.{TextFault}
use Rattle.event_text.specs.declared.TextFault.TheVariants as text
use Rattle.s7_cli.specs.run_text.RunText.{run_text}
use Rattle.s7_cli.specs.Compiling.{RefusesEnglish, RefusesInLanguage, RefusesSymbols, RefusesForSymbols}
use Rattle.s7_cli.specs.declared.faults.CompileFault.{CompileFault}
use Rattle.s7_cli.specs.declared.faults.CompileFault.TheVariants as compiling
use Rattle.s7_cli.specs.declared.failures.File.TheVariants.{Source, Symbols, History, Stimuli, Script}
use Rattle.s7_cli.specs.declared.failures.Failure.{Failure}
use Rattle.s7_cli.specs.declared.files.ProgramText.{ProgramText}
use Rattle.s7_cli.specs.Answer.{CallAnswer, done_answer, refused_file_answer}
use Rattle.s7_cli.specs.Command.{Command, InputFile, Go, Check, Compile, Translate, Run, Gen, Live, Watch, Upgrade, ListImage, Bound, Recheck, symbols_inputs, program_inputs}
use Rattle.s7_cli.specs.Faults.{failure_of_compiling, failure_of_history, failure_of_loading}
use Rattle.s7_cli.specs.GenText.{summary_text}
use Rattle.s7_cli.specs.Inner.{SaysRefusal}
use Rattle.s7_cli.specs.Lines.{ok_line}
use Rattle.s7_cli.specs.LiveSays.{LiveAnswer, LiveSays, LoadedLive, RefusedScript, live_text, scripts_from}
use Rattle.s7_cli.specs.Loads.{LoadsAs}
use Rattle.s7_cli.specs.Reading.{HoldBytesInTurn}
use Rattle.s7_cli.specs.Says.{GoSays, CheckSays, RefusedProgram, RefusedText, RunSays, SourceSays, ChecksAs, TranslateSays, GenSays, UpgradeSays, refused_source_answer, go_answer, check_answer, run_answer, run_loaded_answer, gen_answer, upgrade_answer, CommandSays, WritesOutputFile}
use Rattle.s7_cli.specs.StatusTable.{HasOneText}
use Rattle.s7_cli.specs.Texts.{AreFilesWithinLimits, file_contents_of, symbols_file}
use Rattle.s7_cli.specs.Translating.{HasNoTranslation, IsEnglish, IsSourceImage, KeepsText, NotInEnglish, SaysWithSymbols, language_of}
use Rattle.s7_cli.proofs.BoundLemmas.{bound-outcome, bound-is-answer, recheck-one, recheck-is-answer}
use Rattle.s7_cli.proofs.ListLemmas.{list-one, list-is-answer}
use Rattle.s7_cli.proofs.LoadLemmas.{loads-one}
use Rattle.s7_cli.proofs.RefusedLemmas.{refused-more}
use Rattle.s7_cli.proofs.ReadingLemmas.{AnswersAlike}
use Rattle.s7_cli.proofs.TranslatingLemmas.{SaysOne, TranslatesOne, english-one, english-is-answer, english-weaker, german-so, in-english, translated-one, translated-is-answer}
use Rattle.s7_cli.proofs.CommandAnswers.{IsCommandAnswer}
use Rattle.s7_cli.proofs.WatchSaysLemmas.{watch-one, watch-is-answer}

-- ---- one answer

-- a source with its symbols means one code, or is refused in one way
abbrev pub MeansOne : Type 0
MeansOne =
    (language : Language) (source symbols : List ℕ) (v w : Result Code RefusedFile) → HasOutcomeOfSourceIn language source symbols v
    → HasOutcomeOfSourceIn language source symbols w → v ≡ w

pub means-one : IsMeaningUnique → ExcludesRefusal → IsRefusalUnique → MeansOne
means-one meaning excludes refusal language source symbols (Ok c) (Ok d) p q = ap Ok (meaning language source symbols c d p q)
means-one meaning excludes refusal language source symbols (Ok c) (Err r) p q = absurd (excludes language source symbols c r p q)
means-one meaning excludes refusal language source symbols (Err r) (Ok c) p q = absurd (excludes language source symbols c r q p)
means-one meaning excludes refusal language source symbols (Err r) (Err s) p q = ap Err (refusal language source symbols r s p q)

-- the laws that leave each command one answer
pub record OneEach : Type 0 where
  pub means : MeansOne
  pub translates : TranslatesOne

go-one : MeansOne → (language : Language) (symbols history : List ℕ) → SaysOne (λ text. SourceSays language Large text symbols history)
go-one one language symbols history text a b p q =
    p.2 ∙ ap (λ v. go_answer Large v (history_of_text (names_read_in language symbols) history)) (one language text symbols p.0 q.0 p.1 q.1) ∙ sym q.2

go-german-one : OneEach → (german : Bool) (source symbols history : List ℕ) (a b : CallAnswer) → GoSays german source symbols history a
    → GoSays german source symbols history b → a ≡ b
go-german-one one german source symbols history a b p q =
    english-one one.translates german source symbols (λ text. SourceSays (language_of german) Large text symbols history)
    (go-one one.means (language_of german) symbols history) a b p q

text-one : MeansOne → (language : Language) (symbols : List ℕ) → SaysOne (ChecksAs language symbols)
text-one one language symbols text a b p q = p.2 ∙ ap check_answer (one language text symbols p.0 q.0 p.1 q.1) ∙ sym q.2

check-one : OneEach → (german : Bool) (source symbols : List ℕ) (a b : CallAnswer) → CheckSays german source symbols a
    → CheckSays german source symbols b → a ≡ b
check-one one german source symbols a b p q =
    english-one one.translates german source symbols (ChecksAs (language_of german) symbols) (text-one one.means (language_of german) symbols) a b p q

translate-one : OneEach → (language : Language) (source : List ℕ) (a b : CallAnswer) → TranslateSays language source a
    → TranslateSays language source b → a ≡ b
translate-one one language source a b p q =
    translated-one one.translates language source (λ text answer. answer ≡ done_answer ok_line) (λ text x y m n. m ∙ sym n) a b p q

run-one : (image history : List ℕ) (a b : CallAnswer) → RunSays image history a → RunSays image history b → a ≡ b
run-one image history a b p q =
    p.2 ∙ ap (λ v. run_answer v history) (loads-one image p.0 q.0 p.1 q.1) ∙ sym q.2

upgrade-one : (image : List ℕ) (a b : CallAnswer) → UpgradeSays image a → UpgradeSays image b → a ≡ b
upgrade-one image a b p q = p.2 ∙ ap upgrade_answer (loads-one image p.0 q.0 p.1 q.1) ∙ sym q.2

gen-one : OneEach → (number : ℕ) (a b : CallAnswer) → GenSays number a → GenSays number b → a ≡ b
gen-one one number a b p q = p.2 ∙ ap (gen_answer number) (one.means English (source_text number) [] p.0 q.0 p.1 q.1) ∙ sym q.2

-- a command with one text says one thing of any contents
says-one : OneEach → (k : Command) → HasOneText k → (contents : List (List ℕ)) (a b : CallAnswer) → CommandSays k contents a → CommandSays k contents b → a ≡ b
says-one one (Go _ None german _) text [] a b p q = absurd p
says-one one (Go _ None german _) text (x ∷ []) a b p q = absurd p
says-one one (Go _ None german _) text (source ∷ history ∷ []) a b p q = go-german-one one german source [] history a b p q
says-one one (Go _ None german _) text (x ∷ y ∷ more ∷ rest) a b p q = absurd p
says-one one (Go _ (Some _) german _) text [] a b p q = absurd p
says-one one (Go _ (Some _) german _) text (x ∷ []) a b p q = absurd p
says-one one (Go _ (Some _) german _) text (x ∷ y ∷ []) a b p q = absurd p
says-one one (Go _ (Some _) german _) text (source ∷ symbols ∷ history ∷ []) a b p q = go-german-one one german source symbols history a b p q
says-one one (Go _ (Some _) german _) text (x ∷ y ∷ z ∷ more ∷ rest) a b p q = absurd p
says-one one (Check _ None german) text [] a b p q = absurd p
says-one one (Check _ None german) text (source ∷ []) a b p q = check-one one german source [] a b p q
says-one one (Check _ None german) text (x ∷ more ∷ rest) a b p q = absurd p
says-one one (Check _ (Some _) german) text [] a b p q = absurd p
says-one one (Check _ (Some _) german) text (x ∷ []) a b p q = absurd p
says-one one (Check _ (Some _) german) text (source ∷ symbols ∷ []) a b p q = check-one one german source symbols a b p q
says-one one (Check _ (Some _) german) text (x ∷ y ∷ more ∷ rest) a b p q = absurd p
says-one one (Compile _ None german _) text [] a b p q = absurd p
says-one one (Compile _ None german _) text (source ∷ []) a b p q = check-one one german source [] a b p q
says-one one (Compile _ None german _) text (x ∷ more ∷ rest) a b p q = absurd p
says-one one (Compile _ (Some _) german _) text [] a b p q = absurd p
says-one one (Compile _ (Some _) german _) text (x ∷ []) a b p q = absurd p
says-one one (Compile _ (Some _) german _) text (source ∷ symbols ∷ []) a b p q = check-one one german source symbols a b p q
says-one one (Compile _ (Some _) german _) text (x ∷ y ∷ more ∷ rest) a b p q = absurd p
says-one one (Translate language _ _) text [] a b p q = absurd p
says-one one (Translate language _ _) text (source ∷ []) a b p q = translate-one one language source a b p q
says-one one (Translate language _ _) text (x ∷ more ∷ rest) a b p q = absurd p
says-one one (Run _ _) text [] a b p q = absurd p
says-one one (Run _ _) text (x ∷ []) a b p q = absurd p
says-one one (Run _ _) text (image ∷ history ∷ []) a b p q = run-one image history a b p q
says-one one (Run _ _) text (x ∷ y ∷ more ∷ rest) a b p q = absurd p
says-one one (Gen number) text [] a b p q = gen-one one number a b p q
says-one one (Gen number) text (more ∷ rest) a b p q = absurd p
says-one one (Live _ _ _ _) text contents a b p q = absurd text
says-one one (Watch _ _ _ _ _) text contents a b p q = absurd text
says-one one (Upgrade _ _) text [] a b p q = absurd p
says-one one (Upgrade _ _) text (image ∷ []) a b p q = upgrade-one image a b p q
says-one one (Upgrade _ _) text (x ∷ more ∷ rest) a b p q = absurd p
says-one one (ListImage _ _ _) text [] a b p q = absurd p
says-one one (ListImage _ _ _) text (image ∷ []) a b p q = list-one image a b p q
says-one one (ListImage _ _ _) text (x ∷ more ∷ rest) a b p q = absurd p
says-one one (Bound _ _) text contents a b p q = absurd text
says-one one (Recheck _ _) text [] a b p q = absurd p
says-one one (Recheck _ _) text (x ∷ []) a b p q = absurd p
says-one one (Recheck _ _) text (image ∷ certificate ∷ []) a b p q = recheck-one image certificate a b p q
says-one one (Recheck _ _) text (x ∷ y ∷ more ∷ rest) a b p q = absurd p

-- `live` has one outcome
stimulated-one : (p : LoadedProgram) (steps : ℕ) (s : Result (List Entry) Refusal) (r : Result (List (List Entry)) RefusedScript) (a b : CallAnswer)
    → LiveAnswer p steps s r a → LiveAnswer p steps s r b → a.outcome ≡ b.outcome
stimulated-one p steps (Err refusal) r a b m n = ap (λ (x : CallAnswer). x.outcome) (m ∙ sym n)
stimulated-one p steps (Ok stimuli) (Err script) a b m n = ap (λ (x : CallAnswer). x.outcome) (m ∙ sym n)
stimulated-one p steps (Ok stimuli) (Ok scripts) a b m n = ap (λ (x : CallAnswer). x.outcome) m.says ∙ sym (ap (λ (x : CallAnswer). x.outcome) n.says)

loaded-one : (v : Result LoadedProgram LoadFault) (steps : ℕ) (stimuli : List ℕ) (scripts : List (List ℕ)) (a b : CallAnswer)
    → LoadedLive v steps stimuli scripts a → LoadedLive v steps stimuli scripts b → a.outcome ≡ b.outcome
loaded-one (Err fault) steps stimuli scripts a b m n = ap (λ (x : CallAnswer). x.outcome) (m ∙ sym n)
loaded-one (Ok p) steps stimuli scripts a b m n =
    stimulated-one p steps (stimuli_of stimuli) (scripts_from p.program.names 1 scripts) a b m n

live-one : (steps : ℕ) (image stimuli : List ℕ) (scripts : List (List ℕ)) (a b : CallAnswer) → LiveSays steps image stimuli scripts a
    → LiveSays steps image stimuli scripts b → a.outcome ≡ b.outcome
live-one steps image stimuli scripts a b p q =
    loaded-one p.0 steps stimuli scripts a b p.2
    (subst (λ (v : Result LoadedProgram LoadFault). LoadedLive v steps stimuli scripts b) (loads-one image q.0 p.0 q.1 p.1) q.2)

says-outcome : OneEach → (k : Command) (contents : List (List ℕ)) (a b : CallAnswer) → CommandSays k contents a → CommandSays k contents b → a.outcome ≡ b.outcome
says-outcome one (Go s y g h) contents a b p q = ap (λ (x : CallAnswer). x.outcome) (says-one one (Go s y g h) tt contents a b p q)
says-outcome one (Check s y g) contents a b p q = ap (λ (x : CallAnswer). x.outcome) (says-one one (Check s y g) tt contents a b p q)
says-outcome one (Compile s y g i) contents a b p q = ap (λ (x : CallAnswer). x.outcome) (says-one one (Compile s y g i) tt contents a b p q)
says-outcome one (Translate d s t) contents a b p q = ap (λ (x : CallAnswer). x.outcome) (says-one one (Translate d s t) tt contents a b p q)
says-outcome one (Run i h) contents a b p q = ap (λ (x : CallAnswer). x.outcome) (says-one one (Run i h) tt contents a b p q)
says-outcome one (Upgrade i u) contents a b p q = ap (λ (x : CallAnswer). x.outcome) (says-one one (Upgrade i u) tt contents a b p q)
says-outcome one (ListImage i s y) contents a b p q = ap (λ (x : CallAnswer). x.outcome) (says-one one (ListImage i s y) tt contents a b p q)
says-outcome one (Recheck i k) contents a b p q = ap (λ (x : CallAnswer). x.outcome) (says-one one (Recheck i k) tt contents a b p q)
says-outcome one (Bound i k) [] a b p q = absurd p
says-outcome one (Bound i k) (image ∷ []) a b p q = bound-outcome image a b p q
says-outcome one (Bound i k) (x ∷ more ∷ rest) a b p q = absurd p
says-outcome one (Gen n) contents a b p q = ap (λ (x : CallAnswer). x.outcome) (says-one one (Gen n) tt contents a b p q)
says-outcome one (Live i s o n) [] a b p q = absurd p
says-outcome one (Live i s o n) (x ∷ []) a b p q = absurd p
says-outcome one (Live i s o n) (image ∷ stimuli ∷ scripts) a b p q = live-one n image stimuli scripts a b p q
says-outcome one (Watch i s v o n) [] a b p q = absurd p
says-outcome one (Watch i s v o n) (x ∷ []) a b p q = absurd p
says-outcome one (Watch i s v o n) (x ∷ y ∷ []) a b p q = absurd p
says-outcome one (Watch i s v o n) (image ∷ stimuli ∷ vars ∷ scripts) a b p q = watch-one n image stimuli vars scripts a b p q

-- two answers of a command that files allow whose contents are known
abbrev pub Alike : Command → CallAnswer → CallAnswer → Type 0
Alike k a b = (a.outcome ≡ b.outcome) × (HasOneText k → a ≡ b)

pub same-alike : (k : Command) (a b : CallAnswer) → a ≡ b → Alike k a b
same-alike k a b same = (ap (λ (x : CallAnswer). x.outcome) same, λ text. same)

pub says-alike : OneEach → (k : Command) → AnswersAlike (Alike k) (CommandSays k)
says-alike one k contents a b p q = (says-outcome one k contents a b p q, λ text. says-one one k text contents a b p q)

-- ---- which answers there are

refused-is-answer : (a : CallAnswer) (why : RefusedFile) → a ≡ refused_source_answer why → IsCommandAnswer a
refused-is-answer a (InSymbols refusal) gives = inr (inl (Symbols, refusal, gives))
refused-is-answer a (InSource refusal) gives = inr (inl (Source, refusal, gives))

source-and-history-is-answer : (a : CallAnswer) (v : Result Code RefusedFile) (h : Result (List Entry) Refusal) → a ≡ go_answer Large v h → IsCommandAnswer a
source-and-history-is-answer a (Err why) h gives = refused-is-answer a why gives
source-and-history-is-answer a (Ok code) (Err refusal) gives = inr (inl (History, refusal, gives))
source-and-history-is-answer a (Ok code) (Ok entries) gives = inl (run_text Large code entries, gives)

go-is-answer : (german : Bool) (source symbols history : List ℕ) (a : CallAnswer) → GoSays german source symbols history a → IsCommandAnswer a
go-is-answer german source symbols history a said =
    english-is-answer german source symbols (λ text. SourceSays (language_of german) Large text symbols history)
    (λ text b says. source-and-history-is-answer b says.0 (history_of_text (names_read_in (language_of german) symbols) history) says.2) a said

source-is-answer : (a : CallAnswer) (v : Result Code RefusedFile) → a ≡ check_answer v → IsCommandAnswer a
source-is-answer a (Err why) gives = refused-is-answer a why gives
source-is-answer a (Ok code) gives = inl (ok_line, gives)

check-is-answer : (german : Bool) (source symbols : List ℕ) (a : CallAnswer) → CheckSays german source symbols a → IsCommandAnswer a
check-is-answer german source symbols a said =
    english-is-answer german source symbols (ChecksAs (language_of german) symbols) (λ text b says. source-is-answer b says.0 says.2) a said

translate-is-answer : (language : Language) (source : List ℕ) (a : CallAnswer) → TranslateSays language source a → IsCommandAnswer a
translate-is-answer language source a said =
    translated-is-answer language source (λ text answer. answer ≡ done_answer ok_line) (λ text b gives. inl (ok_line, gives)) a said

ran-is-answer : (a : CallAnswer) (l : LoadedProgram) (h : Result (List Entry) Refusal) → a ≡ run_loaded_answer l h → IsCommandAnswer a
ran-is-answer a l (Err refusal) gives = inr (inl (History, refusal, gives))
ran-is-answer a l (Ok entries) gives = inl (run_text l.profile (code_of l.program) entries, gives)

run-is-answer : (a : CallAnswer) (v : Result LoadedProgram LoadFault) (history : List ℕ) → a ≡ run_answer v history → IsCommandAnswer a
run-is-answer a (Err fault) history gives = inr (inr (inl (fault, gives)))
run-is-answer a (Ok l) history gives = ran-is-answer a l (history_of_text l.program.names history) gives

upgrade-is-answer : (a : CallAnswer) (v : Result LoadedProgram LoadFault) → a ≡ upgrade_answer v → IsCommandAnswer a
upgrade-is-answer a (Err fault) gives = inr (inr (inl (fault, gives)))
upgrade-is-answer a (Ok l) gives = inl (ok_line, gives)

gen-is-answer : (a : CallAnswer) (number : ℕ) (v : Result Code RefusedFile) → a ≡ gen_answer number v → IsCommandAnswer a
gen-is-answer a number (Err why) gives = refused-is-answer a why gives
gen-is-answer a number (Ok code) gives = inl (summary_text number Large code (generated_history number), gives)

stimulated-is-answer : (p : LoadedProgram) (steps : ℕ) (s : Result (List Entry) Refusal) (r : Result (List (List Entry)) RefusedScript) (a : CallAnswer)
    → LiveAnswer p steps s r a → IsCommandAnswer a
stimulated-is-answer p steps (Err refusal) r a said = inr (inl (Stimuli, refusal, said))
stimulated-is-answer p steps (Ok stimuli) (Err script) a said = inr (inl (Script script.number, script.refusal, said))
stimulated-is-answer p steps (Ok stimuli) (Ok scripts) a said = inl (live_text p said.history, said.says)

live-is-answer : (v : Result LoadedProgram LoadFault) (steps : ℕ) (stimuli : List ℕ) (scripts : List (List ℕ)) (a : CallAnswer)
    → LoadedLive v steps stimuli scripts a → IsCommandAnswer a
live-is-answer (Err fault) steps stimuli scripts a said = inr (inr (inl (fault, said)))
live-is-answer (Ok p) steps stimuli scripts a said =
    stimulated-is-answer p steps (stimuli_of stimuli) (scripts_from p.program.names 1 scripts) a said

pub says-is-answer : (k : Command) (contents : List (List ℕ)) (a : CallAnswer) → CommandSays k contents a → IsCommandAnswer a
says-is-answer (Go _ None german _) [] a said = absurd said
says-is-answer (Go _ None german _) (x ∷ []) a said = absurd said
says-is-answer (Go _ None german _) (source ∷ history ∷ []) a said = go-is-answer german source [] history a said
says-is-answer (Go _ None german _) (x ∷ y ∷ more ∷ rest) a said = absurd said
says-is-answer (Go _ (Some _) german _) [] a said = absurd said
says-is-answer (Go _ (Some _) german _) (x ∷ []) a said = absurd said
says-is-answer (Go _ (Some _) german _) (x ∷ y ∷ []) a said = absurd said
says-is-answer (Go _ (Some _) german _) (source ∷ symbols ∷ history ∷ []) a said = go-is-answer german source symbols history a said
says-is-answer (Go _ (Some _) german _) (x ∷ y ∷ z ∷ more ∷ rest) a said = absurd said
says-is-answer (Check _ None german) [] a said = absurd said
says-is-answer (Check _ None german) (source ∷ []) a said = check-is-answer german source [] a said
says-is-answer (Check _ None german) (x ∷ more ∷ rest) a said = absurd said
says-is-answer (Check _ (Some _) german) [] a said = absurd said
says-is-answer (Check _ (Some _) german) (x ∷ []) a said = absurd said
says-is-answer (Check _ (Some _) german) (source ∷ symbols ∷ []) a said = check-is-answer german source symbols a said
says-is-answer (Check _ (Some _) german) (x ∷ y ∷ more ∷ rest) a said = absurd said
says-is-answer (Compile _ None german _) [] a said = absurd said
says-is-answer (Compile _ None german _) (source ∷ []) a said = check-is-answer german source [] a said
says-is-answer (Compile _ None german _) (x ∷ more ∷ rest) a said = absurd said
says-is-answer (Compile _ (Some _) german _) [] a said = absurd said
says-is-answer (Compile _ (Some _) german _) (x ∷ []) a said = absurd said
says-is-answer (Compile _ (Some _) german _) (source ∷ symbols ∷ []) a said = check-is-answer german source symbols a said
says-is-answer (Compile _ (Some _) german _) (x ∷ y ∷ more ∷ rest) a said = absurd said
says-is-answer (Translate language _ _) [] a said = absurd said
says-is-answer (Translate language _ _) (source ∷ []) a said = translate-is-answer language source a said
says-is-answer (Translate language _ _) (x ∷ more ∷ rest) a said = absurd said
says-is-answer (Run _ _) [] a said = absurd said
says-is-answer (Run _ _) (x ∷ []) a said = absurd said
says-is-answer (Run _ _) (image ∷ history ∷ []) a said = run-is-answer a said.0 history said.2
says-is-answer (Run _ _) (x ∷ y ∷ more ∷ rest) a said = absurd said
says-is-answer (Gen number) [] a said = gen-is-answer a number said.0 said.2
says-is-answer (Gen number) (more ∷ rest) a said = absurd said
says-is-answer (Upgrade _ _) [] a said = absurd said
says-is-answer (Upgrade _ _) (image ∷ []) a said = upgrade-is-answer a said.0 said.2
says-is-answer (Upgrade _ _) (x ∷ more ∷ rest) a said = absurd said
says-is-answer (ListImage _ _ _) [] a said = absurd said
says-is-answer (ListImage _ _ _) (image ∷ []) a said = list-is-answer said.0 a said.2
says-is-answer (ListImage _ _ _) (x ∷ more ∷ rest) a said = absurd said
says-is-answer (Bound _ _) [] a said = absurd said
says-is-answer (Bound _ _) (image ∷ []) a said = bound-is-answer said.0 a said.2
says-is-answer (Bound _ _) (x ∷ more ∷ rest) a said = absurd said
says-is-answer (Recheck _ _) [] a said = absurd said
says-is-answer (Recheck _ _) (x ∷ []) a said = absurd said
says-is-answer (Recheck _ _) (image ∷ certificate ∷ []) a said = recheck-is-answer said.0 certificate a said.2
says-is-answer (Recheck _ _) (x ∷ y ∷ more ∷ rest) a said = absurd said
says-is-answer (Live _ _ _ _) [] a said = absurd said
says-is-answer (Live _ _ _ _) (x ∷ []) a said = absurd said
says-is-answer (Live _ _ _ steps) (image ∷ stimuli ∷ scripts) a said = live-is-answer said.0 steps stimuli scripts a said.2
says-is-answer (Watch _ _ _ _ _) [] a said = absurd said
says-is-answer (Watch _ _ _ _ _) (x ∷ []) a said = absurd said
says-is-answer (Watch _ _ _ _ _) (x ∷ y ∷ []) a said = absurd said
says-is-answer (Watch _ _ _ _ steps) (image ∷ stimuli ∷ vars ∷ scripts) a said = watch-is-answer steps image stimuli vars scripts a said

-- ---- of what was read

-- the symbols file was read where there is one, and is within its limit
symbols-within : (c : Contents) (symbols bytes : Option (List ℕ)) → HoldBytesInTurn c (symbols_inputs symbols) (option_to_list bytes)
    → length (unwrap_or bytes []) ≤ 1048576
symbols-within c None None hold = omega arith
symbols-within c None (Some bytes) hold = absurd hold
symbols-within c (Some name) None hold = absurd hold
symbols-within c (Some name) (Some bytes) hold = hold.0.within

pub within : (c : Contents) (source : List ℕ) (symbols : Option (List ℕ)) (text : ProgramText)
    → HoldBytesInTurn c (program_inputs source symbols) (file_contents_of text) → AreFilesWithinLimits text
within c source symbols text hold =
    record { source = hold.0.within; symbols = symbols-within c symbols (symbols_file text) hold.1 }

-- the symbols file, in front of another one
pub symbols-held : (c : Contents) (symbols bytes : Option (List ℕ)) (i : InputFile) (other : List ℕ)
    → HoldBytesInTurn c (symbols_inputs symbols ++ i ∷ []) (option_to_list bytes ++ other ∷ []) → HoldBytesInTurn c (symbols_inputs symbols) (option_to_list bytes)
symbols-held c None None i other hold = tt
symbols-held c None (Some bytes) i other hold = absurd hold.1
symbols-held c (Some name) None i other hold = absurd hold.1
symbols-held c (Some name) (Some bytes) i other hold = (hold.0, tt)

pub go-said : (c : Contents) (src : List ℕ) (symbols : Option (List ℕ)) (german : Bool) (hist source : List ℕ) (bytes : Option (List ℕ))
    (history : List ℕ) (a : CallAnswer) → HoldBytesInTurn c (symbols_inputs symbols) (option_to_list bytes)
    → GoSays german source (unwrap_or bytes []) history a
    → CommandSays (Go src symbols german hist) ((source ∷ option_to_list bytes) ++ history ∷ []) a
go-said c src None german hist source None history a hold said = said
go-said c src None german hist source (Some bytes) history a hold said = absurd hold
go-said c src (Some name) german hist source None history a hold said = absurd hold
go-said c src (Some name) german hist source (Some bytes) history a hold said = said

pub check-said : (c : Contents) (src : List ℕ) (symbols : Option (List ℕ)) (german : Bool) (source : List ℕ) (bytes : Option (List ℕ))
    (a : CallAnswer) → HoldBytesInTurn c (symbols_inputs symbols) (option_to_list bytes) → CheckSays german source (unwrap_or bytes []) a
    → CommandSays (Check src symbols german) (source ∷ option_to_list bytes) a
check-said c src None german source None a hold said = said
check-said c src None german source (Some bytes) a hold said = absurd hold
check-said c src (Some name) german source None a hold said = absurd hold
check-said c src (Some name) german source (Some bytes) a hold said = said

pub compile-said : (c : Contents) (src : List ℕ) (symbols : Option (List ℕ)) (german : Bool) (img source : List ℕ) (bytes : Option (List ℕ))
    (a : CallAnswer) → HoldBytesInTurn c (symbols_inputs symbols) (option_to_list bytes) → CheckSays german source (unwrap_or bytes []) a
    → CommandSays (Compile src symbols german img) (source ∷ option_to_list bytes) a
compile-said c src None german img source None a hold said = said
compile-said c src None german img source (Some bytes) a hold said = absurd hold
compile-said c src (Some name) german img source None a hold said = absurd hold
compile-said c src (Some name) german img source (Some bytes) a hold said = said

pub compile-writes : (c : Contents) (src : List ℕ) (symbols : Option (List ℕ)) (german : Bool) (img source : List ℕ) (bytes : Option (List ℕ))
    (image : List ℕ) → HoldBytesInTurn c (symbols_inputs symbols) (option_to_list bytes) → IsSourceImage german image source (unwrap_or bytes [])
    → WritesOutputFile (Compile src symbols german img) (source ∷ option_to_list bytes) img image
compile-writes c src None german img source None image hold keeps = (refl, keeps)
compile-writes c src None german img source (Some bytes) image hold keeps = absurd hold
compile-writes c src (Some name) german img source None image hold keeps = absurd hold
compile-writes c src (Some name) german img source (Some bytes) image hold keeps = (refl, keeps)

-- ---- a source that isn't compiled

-- what refuses it is what `check` and `go` say
pub refused-checks : (german : Bool) (source symbols : List ℕ) (a : CallAnswer) → RefusedProgram german source symbols a → CheckSays german source symbols a
refused-checks german source symbols a holds =
    english-weaker german source symbols (RefusedText (language_of german) symbols) (ChecksAs (language_of german) symbols)
    (λ text b refused. (Err refused.0, refused.1, refused.2)) a holds

pub refused-goes : (german : Bool) (source symbols history : List ℕ) (a : CallAnswer) → RefusedProgram german source symbols a
    → GoSays german source symbols history a
refused-goes german source symbols history a holds =
    english-weaker german source symbols (RefusedText (language_of german) symbols)
    (λ text. SourceSays (language_of german) Large text symbols history) (λ text b refused. (Err refused.0, refused.1, refused.2)) a holds

pub text-refuses : (V : Type 0) (language : Language) (symbols text : List ℕ) (fault : CompileFault) → RefusesInLanguage language text symbols fault
    → SaysRefusal {V = V} (RefusedText language symbols text) (Err (failure_of_compiling fault))
text-refuses V language symbols text (compiling.Symbols refusal) breaks = (InSymbols refusal, breaks, refl)
text-refuses V language symbols text (compiling.Source refusal) breaks = (InSource refusal, breaks, refl)
text-refuses V language symbols text compiling.NoMemory breaks = tt

refused-so : (source source' symbols symbols' : List ℕ) (fault : CompileFault) → source' ≡ source → symbols' ≡ symbols
    → RefusesEnglish source' symbols' fault → RefusesEnglish source symbols fault
refused-so source source' symbols symbols' fault is are breaks =
    subst (λ (s : List ℕ). RefusesEnglish s symbols fault) is (subst (λ (y : List ℕ). RefusesEnglish source' y fault) are breaks)

-- an English one
pub program-refused : (V : Type 0) (source source' symbols symbols' : List ℕ) (fault : CompileFault) (r : Result V Failure)
    → source' ≡ source → symbols' ≡ symbols → r ≡ Err (failure_of_compiling fault) → RefusesEnglish source' symbols' fault
    → SaysRefusal (RefusedProgram false source symbols) r
program-refused V source source' symbols symbols' fault r is are fails breaks =
    subst (λ (q : Result V Failure). SaysRefusal (RefusedProgram false source symbols) q) (sym fails)
    (text-refuses V English symbols source fault (refused-so source source' symbols symbols' fault is are breaks))

-- a German one: by its symbols, by its words or its length, or by what its translation breaks
pub symbols-refused : (V : Type 0) (source symbols : List ℕ) (fault : CompileFault) (r : Result V Failure) → r ≡ Err (failure_of_compiling fault)
    → RefusesSymbols German symbols fault → SaysRefusal (NotInEnglish source symbols) r
symbols-refused V source symbols (compiling.Symbols refusal) r fails has =
    subst (λ (q : Result V Failure). SaysRefusal (NotInEnglish source symbols) q) (sym fails)
    (subst (λ (read : Result (List Symbol) Refusal). SaysWithSymbols read source (λ text a. ⊥) (refused_file_answer Symbols refusal)) has refl)
symbols-refused V source symbols (compiling.Source refusal) r fails has = absurd has
symbols-refused V source symbols compiling.NoMemory r fails has =
    subst (λ (q : Result V Failure). SaysRefusal (NotInEnglish source symbols) q) (sym fails) tt

pub translation-refused : (V W : Type 0) (source source' symbols : List ℕ) (list : List Symbol) (failure : Failure) (r : Result V Failure)
    → r ≡ Err failure → source' ≡ source → HasSymbolsIn German symbols (Ok list)
    → SaysRefusal {V = W} (HasNoTranslation English source') (Err failure) → SaysRefusal (NotInEnglish source symbols) r
translation-refused V W source source' symbols list failure r fails is has refused =
    refused-more W V (HasNoTranslation English source') (NotInEnglish source symbols) failure r fails
    (λ (a : CallAnswer) no. german-so (symbols_in German symbols) list source (λ text b. ⊥) a has
    (subst (λ (s : List ℕ). HasNoTranslation English s a) is no))
    refused

pub english-refused : (V W : Type 0) (source symbols : List ℕ) (failure : Failure) (r : Result V Failure) → r ≡ Err failure
    → SaysRefusal {V = W} (NotInEnglish source symbols) (Err failure) → SaysRefusal (RefusedProgram true source symbols) r
english-refused V W source symbols failure r fails refused =
    refused-more W V (NotInEnglish source symbols) (RefusedProgram true source symbols) failure r fails
    (λ (a : CallAnswer) no. english-weaker true source symbols (λ text b. ⊥) (RefusedText German symbols) (λ text b none. absurd none) a no)
    refused

pub text-refused : (V : Type 0) (source symbols text : List ℕ) (list : List Symbol) (fault : CompileFault) (r : Result V Failure)
    → r ≡ Err (failure_of_compiling fault) → HasSymbolsIn German symbols (Ok list) → IsEnglish true source text
    → RefusesForSymbols text list fault → SaysRefusal (RefusedProgram true source symbols) r
text-refused V source symbols text list fault r fails has is refuses =
    refused-more V V (RefusedText German symbols text) (RefusedProgram true source symbols) (failure_of_compiling fault) r fails
    (λ (a : CallAnswer) holds. in-english true source symbols text list (RefusedText German symbols) a has is holds)
    (text-refuses V German symbols text fault (refuses German symbols has))

-- ---- what a source with a program says

-- the symbols that were read
pub means-symbols : (language : Language) (source symbols : List ℕ) (code : Code) → MeansCodeIn language source symbols code
    → (list : List Symbol) × HasSymbolsIn language symbols (Ok list)
unfolding HasOutcomeOfSourceIn
means-symbols language source symbols code means = (means.0, means.1)

pub checks-ok : (german : Bool) (source symbols text : List ℕ) (code : Code) → MeansCodeIn (language_of german) text symbols code
    → IsEnglish german source text → CheckSays german source symbols (done_answer ok_line)
checks-ok german source symbols text code means is =
    let read = means-symbols (language_of german) text symbols code means in
    in-english german source symbols text read.0 (ChecksAs (language_of german) symbols) (done_answer ok_line) read.1 is (Ok code, means, refl)

-- ---- a history that isn't read, behind a source that is compiled

history-refuses : (V : Type 0) (german : Bool) (source symbols english : List ℕ) (code : Code) (history : List ℕ) (fault : TextFault)
    → MeansCodeIn (language_of german) english symbols code → IsEnglish german source english
    → IsTextFault (history_of_text (names_read_in (language_of german) symbols) history) fault
    → SaysRefusal {V = V} (GoSays german source symbols history) (Err (failure_of_history fault))
history-refuses V german source symbols english code history (text.BadLine line rule) means within is =
    let read = means-symbols (language_of german) english symbols code means in
    in-english german source symbols english read.0 (λ t. SourceSays (language_of german) Large t symbols history)
    (refused_file_answer History (record { line = line; rule = rule })) read.1 within
    (Ok code, means, ap (go_answer Large (Ok code)) (sym is))
history-refuses V german source symbols english code history text.NoMemory means within is = tt

pub history-refused : (V : Type 0) (german : Bool) (source symbols : List ℕ) (p : Program) (history : List ℕ)
    (fault : TextFault) (r : Result V Failure) → r ≡ Err (failure_of_history fault)
    → KeepsText german source symbols p → IsTextFault (history_of_text p.names history) fault
    → SaysRefusal (GoSays german source symbols history) r
history-refused V german source symbols p history fault r fails (english, is, kept) breaks =
    subst (λ (q : Result V Failure). SaysRefusal (GoSays german source symbols history) q) (sym fails)
    (history-refuses V german source symbols english kept.runs.0 history fault kept.runs.1 is
    (subst (λ (names : List NameEntry). IsTextFault (history_of_text names history) fault) kept.names breaks))

-- ---- an image that isn't loaded, and a history that isn't read behind one that is

pub image-refused : (V : Type 0) (image history : List ℕ) (error : LoadError) (r : Result V Failure) → r ≡ Err (failure_of_loading error)
    → IsLoadError error (faults_of image) → SaysRefusal (RunSays image history) r
image-refused V image history (loading.Fault fault) r fails least =
    subst (λ (q : Result V Failure). SaysRefusal (RunSays image history) q) (sym fails) (Err fault, least, refl)
image-refused V image history loading.NoMemory r fails least =
    subst (λ (q : Result V Failure). SaysRefusal (RunSays image history) q) (sym fails) tt

run-refuses : (V : Type 0) (image : List ℕ) (l : LoadedProgram) (history : List ℕ) (fault : TextFault) → LoadsAs image (Ok l)
    → IsTextFault (history_of_text l.program.names history) fault
    → SaysRefusal {V = V} (RunSays image history) (Err (failure_of_history fault))
run-refuses V image l history (text.BadLine line rule) loads is = (Ok l, loads, ap (run_loaded_answer l) (sym is))
run-refuses V image l history text.NoMemory loads is = tt

pub run-refused : (V : Type 0) (image : List ℕ) (l : LoadedProgram) (history : List ℕ) (fault : TextFault) (r : Result V Failure)
    → r ≡ Err (failure_of_history fault) → LoadsAs image (Ok l) → IsTextFault (history_of_text l.program.names history) fault
    → SaysRefusal (RunSays image history) r
run-refused V image l history fault r fails loads is =
    subst (λ (q : Result V Failure). SaysRefusal (RunSays image history) q) (sym fails) (run-refuses V image l history fault loads is)
