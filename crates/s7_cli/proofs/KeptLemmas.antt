-- An image that keeps a source runs and answers as the source.
use Rattle.std.proofs.Common.{◌≡◌, refl, sym, ◌∙◌, ap, subst, ℕ, List, Ok, Err, Result}
use Rattle.plc_base.specs.declared.Profile.{Profile}
use Rattle.plc_base.specs.declared.Refusal.{Refusal}
use Rattle.var_access.specs.declared.Entry.{Entry}
use Rattle.flat_code.specs.Loading.{IsLoadable}
use Rattle.flat_code.specs.Programs.{NameEntry, Program}
use Rattle.flat_code.specs.Stamps.{profile_of}
use Rattle.image_file.specs.LoadedProgram.{LoadedProgram}
use Rattle.image_file.specs.Laws.{GivesExactlyImages, ImagesAreOfOne}
use Rattle.image_file.specs.declared.faults.LoadFault.{LoadFault}
use Rattle.machine.specs.Code.{Code}
use Rattle.machine.specs.Flat.{code_of}
use Rattle.controller.specs.Replay.{ContinuesReplay}
use Rattle.sem_kept.specs.Agreement.{ImageKeepsSourceIn, KeepsSourceIn, names_read_in}
use Rattle.sem_kept.specs.Meaning.{IsMeaningUnique, RefusedFile, MeansCodeIn}
use Rattle.stl_symbols.specs.declared.languages.Language.{Language}
use Rattle.event_text.specs.Texts.{history_of_text}
use Rattle.s7_cli.specs.run_text.RunText.{run_text}
use Rattle.s7_cli.specs.Answer.{done_answer}
use Rattle.s7_cli.specs.KeptImages.{KeptImagesAnswerAlike, KeptImagesRunAlike}
use Rattle.s7_cli.specs.Loads.{LoadsAs}
use Rattle.s7_cli.specs.Says.{go_answer, run_loaded_answer, run_answer}
use Rattle.s7_cli.proofs.LoadLemmas.{loads-one}
use Rattle.s7_cli.proofs.RunLemmas.{texts-kept}
use Rattle.s7_cli.proofs.SaysLemmas.{MeansOne}

-- a program that keeps a source has the texts of the source
texts-of : ContinuesReplay → IsMeaningUnique → (language : Language) (profile : Profile) (source symbols : List ℕ) (p : Program) (c : Code)
    → KeepsSourceIn language profile source symbols p → MeansCodeIn language source symbols c → (entries : List Entry)
    → run_text profile (code_of p) entries ≡ run_text profile c entries
texts-of continues one language profile source symbols p c keeps means entries =
    texts-kept continues profile keeps.runs.0 (code_of p) keeps.runs.2 entries
    ∙ ap (λ (d : Code). run_text profile d entries) (one language source symbols keeps.runs.0 c keeps.runs.1 means)

-- the image of which bytes are, of whatever version, is the one that is loaded
pub kept-loaded : ImagesAreOfOne → (language : Language) (image source symbols : List ℕ) (l : LoadedProgram) → ImageKeepsSourceIn language image source symbols
    → LoadsAs image (Ok l) → KeepsSourceIn language l.profile source symbols l.program
kept-loaded images language image source symbols l kept loads =
    subst (λ (f : Profile). KeepsSourceIn language f source symbols l.program) (ap profile_of same.0 ∙ sym loads.image.profile)
    (subst (KeepsSourceIn language (profile_of kept.stamp) source symbols) same.1 kept.keeps)
  where
    same : (kept.stamp ≡ loads.image.stamp) × (kept.program ≡ l.program)
    same = images kept.stamp loads.image.stamp kept.program l.program kept.keeps.runnable.is loads.loadable.program
        (sym kept.spelled ∙ loads.loadable.spelled)

pub run-alike : ContinuesReplay → IsMeaningUnique → ImagesAreOfOne → KeptImagesRunAlike
run-alike continues one images language image source symbols l c kept loads means entries =
    texts-of continues one language l.profile source symbols l.program c (kept-loaded images language image source symbols l kept loads) means entries

-- what a program answers that keeps a source, by how the history reads
ran-so : ContinuesReplay → IsMeaningUnique → (language : Language) (source symbols : List ℕ) (l : LoadedProgram) (c : Code)
    → KeepsSourceIn language l.profile source symbols l.program → MeansCodeIn language source symbols c → (read : Result (List Entry) Refusal)
    → run_loaded_answer l read ≡ go_answer l.profile (Ok c) read
ran-so continues one language source symbols l c keeps means (Err refusal) = refl
ran-so continues one language source symbols l c keeps means (Ok entries) =
    ap done_answer (texts-of continues one language l.profile source symbols l.program c keeps means entries)

answers-so : ContinuesReplay → IsMeaningUnique → (language : Language) (source symbols : List ℕ) (l : LoadedProgram) (c : Code)
    → KeepsSourceIn language l.profile source symbols l.program → MeansCodeIn language source symbols c → (history : List ℕ)
    → run_answer (Ok l) history ≡ go_answer l.profile (Ok c) (history_of_text (names_read_in language symbols) history)
answers-so continues one language source symbols l c keeps means history =
    ap (λ (names : List NameEntry). run_loaded_answer l (history_of_text names history)) keeps.names
    ∙ ran-so continues one language source symbols l c keeps means (history_of_text (names_read_in language symbols) history)

pub answer-alike : ContinuesReplay → MeansOne → IsMeaningUnique → GivesExactlyImages → KeptImagesAnswerAlike
answer-alike continues means_one one gives language image source symbols bytes kept history answer = (
  λ said. (
    Ok c,
    kept.keeps.runs.1,
    said.2 ∙ ap (λ (v : Result LoadedProgram LoadFault). run_answer v history) (loads-one image said.0 (Ok l) said.1 loads) ∙ same,
  ),
  λ said. (
    Ok l,
    loads,
    said.2 ∙ ap (λ (v : Result Code RefusedFile). go_answer l.profile v (history_of_text (names_read_in language symbols) history))
        (means_one language source symbols said.0 (Ok c) said.1 kept.keeps.runs.1) ∙ sym same,
  ),
)
  where
    l : LoadedProgram
    l = record { program = kept.program; profile = profile_of kept.stamp }

    c : Code
    c = kept.keeps.runs.0

    loads : LoadsAs image (Ok l)
    loads =
        let is : IsLoadable image kept.stamp kept.program =
        record { spelled = kept.spelled; program = kept.keeps.runnable.is; verifies = kept.keeps.runnable.verifies } in
        record { image = record { stamp = kept.stamp; given = (gives image kept.stamp kept.program bytes).1 is; profile = refl }; loadable = is }

    same : run_answer (Ok l) history ≡ go_answer l.profile (Ok c) (history_of_text (names_read_in language symbols) history)
    same = answers-so continues one language source symbols l c kept.keeps kept.keeps.runs.1 history
