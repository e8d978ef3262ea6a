-- An upgraded image loads as the image that it was made of.
use Rattle.std.proofs.Common.{◌≡◌, ◌<◌, refl, sym, subst, ℕ, List, get_or, Ok, Err, Result}
use Rattle.flat_code.specs.Loading.{IsLoadable, faults_of}
use Rattle.flat_code.specs.declared.stamps.Stamp.TheVariants.{Two}
use Rattle.image_file.specs.Laws.{GivesExactlyImages, ImagesAreOfOne}
use Rattle.image_file.specs.Refusing.{IsLoadError}
use Rattle.image_file.specs.declared.refusing.LoadError.{LoadError}
use Rattle.image_file.specs.declared.refusing.LoadError.TheVariants as loading
use Rattle.s7_cli.specs.declared.failures.Failure.{Failure}
use Rattle.s7_cli.specs.Faults.{failure_of_loading}
use Rattle.s7_cli.specs.Inner.{SaysRefusal}
use Rattle.s7_cli.specs.Loads.{LoadsAs}
use Rattle.s7_cli.specs.Says.{IsUpgraded, UpgradeSays}
use Rattle.s7_cli.specs.Upgrades.{UpgradesKeepSources, UpgradesLiveAlike, UpgradesLoadAlike, UpgradesRunAlike}
use Rattle.s7_cli.proofs.KeptLemmas.{kept-loaded}
use Rattle.s7_cli.proofs.LoadLemmas.{loads-one}

-- the upgraded image loads as what the other loads as
upgraded-loads : GivesExactlyImages → (upgraded image : List ℕ) → ((i : ℕ) → get_or upgraded i 0 < 256)
    → (is : IsUpgraded upgraded image) → LoadsAs upgraded (Ok is.0)
upgraded-loads gives upgraded image bytes (l, loads, spelled) =
    let loadable : IsLoadable upgraded (Two l.profile) l.program =
    record { spelled = spelled; program = loads.loadable.program; verifies = loads.loadable.verifies } in
    record {
      image = record { stamp = Two l.profile; given = (gives upgraded (Two l.profile) l.program bytes).1 loadable; profile = refl };
      loadable = loadable;
    }

pub load-alike : GivesExactlyImages → UpgradesLoadAlike
load-alike gives upgraded image bytes is v = (
  λ loads. subst (LoadsAs image) (loads-one upgraded (Ok is.0) v given loads) is.1,
  λ loads. subst (LoadsAs upgraded) (loads-one image (Ok is.0) v is.1 loads) given,
)
  where
    given : LoadsAs upgraded (Ok is.0)
    given = upgraded-loads gives upgraded image bytes is

pub runs-alike : GivesExactlyImages → UpgradesRunAlike
runs-alike gives upgraded image bytes is history answer = (
  λ said. (said.0, (load-alike gives upgraded image bytes is said.0).0 said.1, said.2),
  λ said. (said.0, (load-alike gives upgraded image bytes is said.0).1 said.1, said.2),
)

pub lives-alike : GivesExactlyImages → UpgradesLiveAlike
lives-alike gives upgraded image bytes is steps stimuli scripts answer = (
  λ said. (said.0, (load-alike gives upgraded image bytes is said.0).0 said.1, said.2),
  λ said. (said.0, (load-alike gives upgraded image bytes is said.0).1 said.1, said.2),
)

pub keeps-alike : ImagesAreOfOne → UpgradesKeepSources
keeps-alike images language upgraded image source symbols (l, loads, spelled) kept = record {
  stamp = Two l.profile;
  program = l.program;
  spelled = spelled;
  keeps = kept-loaded images language image source symbols l kept loads;
}

-- an image that isn't loaded
pub upgrade-refused : (V : Type 0) (image : List ℕ) (error : LoadError) (r : Result V Failure) → r ≡ Err (failure_of_loading error)
    → IsLoadError error (faults_of image) → SaysRefusal (UpgradeSays image) r
upgrade-refused V image (loading.Fault fault) r fails least =
    subst (λ (q : Result V Failure). SaysRefusal (UpgradeSays image) q) (sym fails) (Err fault, least, refl)
upgrade-refused V image loading.NoMemory r fails least =
    subst (λ (q : Result V Failure). SaysRefusal (UpgradeSays image) q) (sym fails) tt
