-- The program of a source runs as the source means. The addresses of the symbols are those of a
-- language; where none is named, English ones.
use Rattle.std.specs.Prelude.{◌≡◌, ◌≤◌, ℕ, List, [], length, None, Result, Ok, Err}
use Rattle.flat_code.specs.Image.{image, IsProgram}
use Rattle.flat_code.specs.Loading.{Verifies}
use Rattle.flat_code.specs.Programs.{NameEntry, Program}
use Rattle.flat_code.specs.Stamps.{profile_of}
use Rattle.flat_code.specs.declared.stamps.Stamp.{Stamp}
use Rattle.machine.specs.Code.{Code}
use Rattle.machine.specs.Flat.{code_of}
use Rattle.stl_ast.specs.Literals.{AreBytes}
use Rattle.plc_base.specs.declared.profiles.Profile.{Profile}
use Rattle.plc_base.specs.declared.refusals.Refusal.{Refusal}
use Rattle.stl_ast.specs.declared.blocks.Tree.{Tree}
use Rattle.stl_codegen.specs.GeneratedProgram.{name_entries_of}
use Rattle.stl_lexer.specs.Limits.{source_limit}
use Rattle.stl_lexer.specs.declared.kinds.Token.{Token}
use Rattle.plc_base.specs.Least.{least}
use Rattle.stl_symbols.specs.Symbol.{Symbol}
use Rattle.stl_symbols.specs.Symbols.{symbols_in, symbols_limit}
use Rattle.stl_symbols.specs.declared.languages.Language.{Language}
use Rattle.stl_symbols.specs.declared.languages.Language.TheVariants.{English, German}
use Rattle.sem_kept.specs.AcceptedSource.{program_in}
use Rattle.sem_kept.specs.KeptProgram.{BehavesAlike}
use Rattle.sem_kept.specs.Meaning.{HasSymbolsIn, HasTokens, HasTreeOrRefusal, refusals_of, MeansCodeIn}

-- the source with these symbols means a code, and at this profile no history tells it from the one
-- that runs
abbrev pub RunsAsIn : Language → Profile → (source symbols : List ℕ) → (running : Code) → Type 0
RunsAsIn language profile source symbols running =
    (code : Code) × MeansCodeIn language source symbols code × BehavesAlike profile code running

-- a program has an image and verifies
pub record IsRunnable (p : Program) : Type 0 where
  -- the program has an image
  pub is : IsProgram p
  -- it has none of the faults 4 to 9 of an image
  pub verifies : Verifies p

-- the names of the symbols that were read, and none where they are refused
abbrev pub names_among : Result (List Symbol) Refusal → List NameEntry
names_among (Ok list) = name_entries_of list
names_among (Err refusal) = []

-- the names of variables that a symbols file gives
abbrev pub names_read_in : Language → (symbols : List ℕ) → List NameEntry
names_read_in language symbols = names_among (symbols_in language symbols)

-- a program keeps a source with its symbols at a profile: it has an image and verifies, its names
-- are those that the symbols file gives, and it runs as the source means
pub record KeepsSourceIn (language : Language) (profile : Profile) (source symbols : List ℕ)
    (p : Program) : Type 0 where
  -- it has an image and verifies
  pub runnable : IsRunnable p
  -- its names are those that the symbols file gives
  pub names : p.names ≡ names_read_in language symbols
  -- it runs as the source means
  pub runs : RunsAsIn language profile source symbols (code_of p)

-- bytes keep a source with its symbols: they are an image, of whatever version, of a program
-- that keeps them at the image's profile
pub record ImageKeepsSourceIn (language : Language) (bytes source symbols : List ℕ) : Type 0 where
  -- the version of the image, with its profile
  pub stamp : Stamp
  -- the program of the image
  pub program : Program
  -- the bytes are the image of this program
  pub spelled : bytes ≡ image stamp program
  -- the program keeps the source with its symbols
  pub keeps : KeepsSourceIn language (profile_of stamp) source symbols program

-- ---- in English

-- a code runs as a source whose symbols have English addresses does
abbrev pub RunsAs : Profile → (source symbols : List ℕ) → (running : Code) → Type 0
RunsAs profile source symbols running = RunsAsIn English profile source symbols running

-- the names of variables that a symbols file with English addresses gives
abbrev pub names_in : (symbols : List ℕ) → List NameEntry
names_in symbols = names_read_in English symbols

-- a program keeps a source whose symbols have English addresses
abbrev pub KeepsSource : Profile → (source symbols : List ℕ) → Program → Type 0
KeepsSource profile source symbols p = KeepsSourceIn English profile source symbols p

-- an image keeps a source whose symbols have English addresses
abbrev pub ImageKeepsSource : (bytes source symbols : List ℕ) → Type 0
ImageKeepsSource bytes source symbols = ImageKeepsSourceIn English bytes source symbols

-- ---- laws

-- a source and a symbols file as they are read: bytes, and no more than a limit of them
pub record AreFiles (source symbols : List ℕ) : Type 0 where
  -- the source has no more bytes than it may
  pub source_short : length source ≤ source_limit
  -- the elements of the source are bytes
  pub source_bytes : AreBytes source
  -- the symbols file has no more bytes than it may
  pub symbols_short : length symbols ≤ symbols_limit
  -- the elements of the symbols file are bytes
  pub symbols_bytes : AreBytes symbols

-- the program of a source that breaks no rule keeps it at each profile, in each language
abbrev pub ProgramsRun : Type 0
ProgramsRun =
    (language : Language) (profile : Profile) (source symbols : List ℕ) (list : List Symbol)
    (tokens : List Token) (tree : Tree)
    → AreFiles source symbols
    → HasSymbolsIn language symbols (Ok list) → HasTokens source (Ok tokens)
    → HasTreeOrRefusal source tokens (Ok tree)
    → least (refusals_of list tree) ≡ None
    → KeepsSourceIn language profile source symbols (program_in list tree)

-- the image of the program of a source that breaks no rule, of each version and profile, keeps
-- the source, with symbols of a language
abbrev pub ImagesKeepSourcesIn : Language → Type 0
ImagesKeepSourcesIn language =
    (stamp : Stamp) (source symbols : List ℕ) (list : List Symbol) (tokens : List Token)
    (tree : Tree)
    → AreFiles source symbols
    → HasSymbolsIn language symbols (Ok list) → HasTokens source (Ok tokens)
    → HasTreeOrRefusal source tokens (Ok tree)
    → least (refusals_of list tree) ≡ None
    → ImageKeepsSourceIn language (image stamp (program_in list tree)) source symbols

-- each image that is compiled keeps its source, where the symbols have English addresses
abbrev pub ImagesKeepSources : Type 0
ImagesKeepSources = ImagesKeepSourcesIn English

-- each image that is compiled keeps its source, where the symbols have German addresses
abbrev pub ImagesKeepGermanSources : Type 0
ImagesKeepGermanSources = ImagesKeepSourcesIn German
