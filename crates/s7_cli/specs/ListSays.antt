-- What `list` answers for what its file holds, and what it writes.
use Rattle.std.specs.Prelude.{◌≡◌, ◌<◌, ◌≤◌, ◌⊎◌, ℕ, List, length, Result, Ok, Err}
use Rattle.flat_code.specs.Programs.{Program}
use Rattle.image_file.specs.LoadedProgram.{LoadedProgram}
use Rattle.image_file.specs.declared.faults.LoadFault.{LoadFault}
use Rattle.sem_kept.specs.Compiles.{CompilesTo}
use Rattle.stl_list.specs.Listing.{listed_source}
use Rattle.stl_list.specs.Symbols.{listed_names}
use Rattle.stl_symbols.specs.declared.languages.Language.TheVariants.{English}
use Rattle.s7_cli.specs.declared.failures.File.TheVariants.{Listing}
use Rattle.s7_cli.specs.Answer.{CallAnswer, done_answer, no_listing_answer, refused_image_answer, too_long_answer}
use Rattle.s7_cli.specs.Command.{limit_of}
use Rattle.s7_cli.specs.Lines.{ok_line}
use Rattle.s7_cli.specs.Loads.{LoadsAs}

-- a text of the listing of a program is longer than it may be
abbrev pub IsLongListing : Program → Type 0
IsLongListing p =
    (limit_of Listing < length (listed_source p))
    ⊎ (limit_of Listing < length (listed_names p.names))

-- neither text of the listing of a program is longer than it may be
pub record IsShortListing (p : Program) : Type 0 where
  -- the listed source is no longer than a text of a listing may be
  pub source : length (listed_source p) ≤ limit_of Listing
  -- the listed symbols file is no longer than a text of a listing may be
  pub symbols : length (listed_names p.names) ≤ limit_of Listing

-- the source that is listed of a program compiles to it, with the names that are listed
abbrev pub HasListing : Program → Type 0
HasListing p = CompilesTo English (listed_source p) (listed_names p.names) p

-- what `list` answers for a program: the length of its listing is checked first, and then
-- the listing is compiled
abbrev pub ListedAnswer : Program → CallAnswer → Type 0
ListedAnswer p answer =
    (IsLongListing p × (answer ≡ too_long_answer Listing))
    ⊎ (IsShortListing p × (HasListing p → ⊥) × (answer ≡ no_listing_answer))
    ⊎ (IsShortListing p × HasListing p × (answer ≡ done_answer ok_line))

-- what `list` answers by how its image loads: the image is refused, or the program is listed
abbrev pub ListAnswer : Result LoadedProgram LoadFault → CallAnswer → Type 0
ListAnswer (Err fault) answer = answer ≡ refused_image_answer fault
ListAnswer (Ok l) answer = ListedAnswer l.program answer

-- what `list` answers, over the contents of its file
abbrev pub ListSays : (image : List ℕ) → CallAnswer → Type 0
ListSays image answer =
    (loaded : Result LoadedProgram LoadFault) × LoadsAs image loaded × ListAnswer loaded answer

-- these are the texts of the listing of a program: they aren't longer than they may be and
-- compile to it
pub record IsListing (source symbols : List ℕ) (p : Program) : Type 0 where
  -- the first is the source that is listed of it
  pub source_is : source ≡ listed_source p
  -- the second is the symbols file that is listed of its names
  pub symbols_are : symbols ≡ listed_names p.names
  -- both are no longer than they may be
  pub short : IsShortListing p
  -- the source compiles to the program, with these names
  pub compiles : HasListing p

-- these are the texts of the listing of the program as which an image loads
abbrev pub IsListingOf : (source symbols image : List ℕ) → Type 0
IsListingOf source symbols image =
    (l : LoadedProgram) × LoadsAs image (Ok l) × IsListing source symbols l.program

-- what `list` writes to a file, of the program as which an image loads: its source to the one,
-- its names to the other
abbrev pub IsListed : (source symbols image name bytes : List ℕ) → Type 0
IsListed source symbols image name bytes =
    (l : LoadedProgram) × LoadsAs image (Ok l) × HasListing l.program
    × (((name ≡ source) × (bytes ≡ listed_source l.program))
    ⊎ ((name ≡ symbols) × (bytes ≡ listed_names l.program.names)))
