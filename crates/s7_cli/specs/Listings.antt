-- What listings compile to.
use Rattle.std.specs.Prelude.{◌≡◌, Bool, true, ℕ, List, Option, Some, None, Ok}
use Rattle.flat_code.specs.Programs.{Program}
use Rattle.image_file.specs.LoadedProgram.{LoadedProgram}
use Rattle.sem_kept.specs.Compiles.{CompilesTo}
use Rattle.stl_list.specs.Listing.{listed_source}
use Rattle.stl_list.specs.Symbols.{listed_names}
use Rattle.stl_symbols.specs.declared.languages.Language.TheVariants.{English}
use Rattle.s7_cli.specs.Command.{Command, ListImage}
use Rattle.s7_cli.specs.Compiling.{IsImageOfEnglishSource}
use Rattle.s7_cli.specs.ListSays.{HasListing, IsShortListing}
use Rattle.s7_cli.specs.Loads.{LoadsAs}
use Rattle.s7_cli.specs.Reading.{Disk}
use Rattle.s7_cli.specs.Translating.{IsSourceImage}

-- a listing compiles to the program that was listed, its names with it, and to no other
abbrev pub ListingsGivePrograms : Type 0
ListingsGivePrograms =
    (p q : Program) → HasListing p
    → CompilesTo English (listed_source p) (listed_names p.names) q → q ≡ p

-- where `compile` wrote the image that was listed, it writes the same bytes for the listing
abbrev pub ListingsGiveImages : Type 0
ListingsGiveImages =
    (german : Bool) (image source symbols : List ℕ) → IsSourceImage german image source symbols
    → (l : LoadedProgram) → LoadsAs image (Ok l) → HasListing l.program
    → (bytes : List ℕ)
    → IsImageOfEnglishSource bytes (listed_source l.program) (listed_names l.program.names)
    → bytes ≡ image

-- the listing of an image that `compile` wrote compiles to the image's program, where neither of
-- its texts is longer than it may be
abbrev pub CompiledHaveListings : Type 0
CompiledHaveListings =
    (german : Bool) (image source symbols : List ℕ) → IsSourceImage german image source symbols
    → (l : LoadedProgram) → LoadsAs image (Ok l) → IsShortListing l.program → HasListing l.program

-- the image whose program a command lists
abbrev pub image_listed : Command → Option (List ℕ)
image_listed (ListImage image source symbols) = Some image
image_listed _ = None

-- the image that a command lists, where the files tell what they hold, is none that `compile`
-- wrote of a source in either language
abbrev pub IsNotCompiled : Command → Disk → Type 0
IsNotCompiled k d =
    (name bytes : List ℕ) (german : Bool) (source symbols : List ℕ) → image_listed k ≡ Some name
    → d.before.contents.told ≡ true → d.before.contents.at name ≡ Some bytes
    → IsSourceImage german bytes source symbols → ⊥
