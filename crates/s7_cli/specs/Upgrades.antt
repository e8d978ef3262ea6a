-- An upgraded image beside the image that it was made of.
use Rattle.std.specs.Prelude.{◌<◌, ℕ, List, get_or, Result}
use Rattle.image_file.specs.LoadedProgram.{LoadedProgram}
use Rattle.image_file.specs.declared.faults.LoadFault.{LoadFault}
use Rattle.sem_kept.specs.Agreement.{ImageKeepsSourceIn}
use Rattle.stl_symbols.specs.declared.languages.Language.{Language}
use Rattle.s7_cli.specs.Answer.{CallAnswer}
use Rattle.s7_cli.specs.LiveSays.{LiveSays}
use Rattle.s7_cli.specs.Loads.{LoadsAs}
use Rattle.s7_cli.specs.Says.{IsUpgraded, RunSays}

-- an upgraded image and the image that it was made of load as the same program with the same
-- profile, so every replay of the one is that of the other
abbrev pub UpgradesLoadAlike : Type 0
UpgradesLoadAlike =
    (upgraded image : List ℕ) → ((i : ℕ) → get_or upgraded i 0 < 256) → IsUpgraded upgraded image
    → (loaded : Result LoadedProgram LoadFault)
    → (LoadsAs upgraded loaded → LoadsAs image loaded)
    × (LoadsAs image loaded → LoadsAs upgraded loaded)

-- `run` with an upgraded image answers what it answers with the image that it was made of
abbrev pub UpgradesRunAlike : Type 0
UpgradesRunAlike =
    (upgraded image : List ℕ) → ((i : ℕ) → get_or upgraded i 0 < 256) → IsUpgraded upgraded image
    → (history : List ℕ) (answer : CallAnswer)
    → (RunSays upgraded history answer → RunSays image history answer)
    × (RunSays image history answer → RunSays upgraded history answer)

-- `live` with an upgraded image answers what it answers with the image that it was made of
abbrev pub UpgradesLiveAlike : Type 0
UpgradesLiveAlike =
    (upgraded image : List ℕ) → ((i : ℕ) → get_or upgraded i 0 < 256) → IsUpgraded upgraded image
    → (steps : ℕ) (stimuli : List ℕ) (scripts : List (List ℕ)) (answer : CallAnswer)
    → (LiveSays steps upgraded stimuli scripts answer → LiveSays steps image stimuli scripts answer)
    × (LiveSays steps image stimuli scripts answer → LiveSays steps upgraded stimuli scripts answer)

-- a source that an image keeps is kept by the image that is upgraded of it
abbrev pub UpgradesKeepSources : Type 0
UpgradesKeepSources =
    (language : Language) (upgraded image source symbols : List ℕ) → IsUpgraded upgraded image
    → ImageKeepsSourceIn language image source symbols
    → ImageKeepsSourceIn language upgraded source symbols
