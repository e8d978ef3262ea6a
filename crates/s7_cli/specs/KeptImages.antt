-- An image that keeps a source, beside the source: their runs. The addresses of the symbols are
-- those of a language, and where this is German, the source is the English text of what was
-- compiled.
use Rattle.std.specs.Prelude.{◌≡◌, ◌<◌, ℕ, List, get_or, Ok}
use Rattle.var_access.specs.declared.Entry.{Entry}
use Rattle.flat_code.specs.Stamps.{profile_of}
use Rattle.image_file.specs.LoadedProgram.{LoadedProgram}
use Rattle.machine.specs.Code.{Code}
use Rattle.machine.specs.Flat.{code_of}
use Rattle.sem_kept.specs.Agreement.{ImageKeepsSourceIn}
use Rattle.sem_kept.specs.Meaning.{MeansCodeIn}
use Rattle.stl_symbols.specs.declared.languages.Language.{Language}
use Rattle.s7_cli.specs.run_text.RunText.{run_text}
use Rattle.s7_cli.specs.Answer.{CallAnswer}
use Rattle.s7_cli.specs.Loads.{LoadsAs}
use Rattle.s7_cli.specs.Says.{SourceSays, RunSays}

-- the program of an image that keeps a source runs as the source means, along each list of
-- entries, at the image's profile
abbrev pub KeptImagesRunAlike : Type 0
KeptImagesRunAlike =
    (language : Language) (image source symbols : List ℕ) (loaded : LoadedProgram) (c : Code)
    → ImageKeepsSourceIn language image source symbols
    → LoadsAs image (Ok loaded) → MeansCodeIn language source symbols c → (entries : List Entry)
    → run_text loaded.profile (code_of loaded.program) entries ≡ run_text loaded.profile c entries

-- `run` with an image that keeps a source answers what the source says at the profile of the
-- image: where that is the large one, as of an image that `compile` wrote, what `go` answers
-- with the source
abbrev pub KeptImagesAnswerAlike : Type 0
KeptImagesAnswerAlike =
    (language : Language) (image source symbols : List ℕ)
    → ((i : ℕ) → get_or image i 0 < 256) → (kept : ImageKeepsSourceIn language image source symbols)
    → (history : List ℕ) (answer : CallAnswer)
    → (RunSays image history answer
    → SourceSays language (profile_of kept.stamp) source symbols history answer)
    × (SourceSays language (profile_of kept.stamp) source symbols history answer
    → RunSays image history answer)
