-- What the words of a call ask for, and which files that reads and writes.
use Rattle.std.specs.Prelude.{ℕ, ◌+◌, Bool, List, [], ◌∷◌, ◌++◌, Option, Some, None}
use Rattle.stl_symbols.specs.declared.languages.Language.{Language}
use Rattle.s7_cli.specs.declared.failures.File.{File}
use Rattle.s7_cli.specs.declared.failures.File.TheVariants.{Source, Translation, Symbols, Image, Listing, History, Stimuli, Vars, Script, Certificate}

-- what a call is to do, with the names of its files and its numbers. A source has a file of symbols
-- where `--symbols FILE` names one, and both are in German where `--german` says so
pub data Command : Type 0 where
  -- `go SRC HIST` runs a source along a history
  Go : (source : List ℕ) (symbols : Option (List ℕ)) (german : Bool) (history : List ℕ) → Command
  -- `check SRC` checks a source
  Check : (source : List ℕ) (symbols : Option (List ℕ)) (german : Bool) → Command
  -- `compile SRC IMG` writes the image of a source
  Compile : (source : List ℕ) (symbols : Option (List ℕ)) (german : Bool) (image : List ℕ) → Command
  -- `english SRC OUT` and `german SRC OUT` write a source in this language, out of the other
  Translate : (language : Language) (source translation : List ℕ) → Command
  -- `run IMG HIST` runs an image along a history
  Run : (image history : List ℕ) → Command
  -- `gen NUMBER` sums up the run of a program along a history, both made of the number
  Gen : (number : ℕ) → Command
  -- `live IMG STIM OPS.. --steps N` has several workers run an image
  Live : (image stimuli : List ℕ) (scripts : List (List ℕ)) (steps : ℕ) → Command
  -- `watch IMG STIM VARS OPS.. --steps N` has several workers run an image, and watches variables
  -- of it
  Watch : (image stimuli vars : List ℕ) (scripts : List (List ℕ)) (steps : ℕ) → Command
  -- `upgrade IMG IMG2` writes an image once more, in version 2
  Upgrade : (image upgraded : List ℕ) → Command
  -- `list IMG SRC SYM` writes the source and the symbols file of what an image holds
  ListImage : (image source symbols : List ℕ) → Command
  -- `bound IMG CERT` writes the certificate of an image
  Bound : (image certificate : List ℕ) → Command
  -- `recheck IMG CERT` checks the certificate of an image
  Recheck : (image certificate : List ℕ) → Command

-- a file that a command reads: what it is read as, and its name
pub record InputFile : Type 0 where
  -- what it is read as
  pub file : File
  -- its name, as the call gives it
  pub name : List ℕ

-- the symbols file, where `--symbols` names one
abbrev pub symbols_inputs : Option (List ℕ) → List InputFile
symbols_inputs None = []
symbols_inputs (Some symbols) = record { file = Symbols; name = symbols } ∷ []

-- the input files of a program: its source, and its symbols where `--symbols` names them
abbrev pub program_inputs : (source : List ℕ) (symbols : Option (List ℕ)) → List InputFile
program_inputs source symbols = record { file = Source; name = source } ∷ symbols_inputs symbols

-- the input files that are scripts, numbered from this one on
abbrev pub script_inputs : (number : ℕ) → List (List ℕ) → List InputFile
script_inputs number [] = []
script_inputs number (script ∷ more) =
    record { file = Script number; name = script } ∷ script_inputs (number + 1) more

-- the input files of `live`: an image, stimuli and scripts
abbrev pub live_inputs : (image stimuli : List ℕ) (scripts : List (List ℕ)) → List InputFile
live_inputs image stimuli scripts =
    record { file = Image; name = image } ∷ record { file = Stimuli; name = stimuli }
    ∷ script_inputs 1 scripts

-- the input files of `watch`: an image, stimuli, variables and scripts
abbrev pub watch_inputs : (image stimuli vars : List ℕ) (scripts : List (List ℕ)) → List InputFile
watch_inputs image stimuli vars scripts =
    record { file = Image; name = image } ∷ record { file = Stimuli; name = stimuli }
    ∷ record { file = Vars; name = vars } ∷ script_inputs 1 scripts

-- the files that a command reads, in the order in which they are read
abbrev pub input_files_of : Command → List InputFile
input_files_of (Go source symbols german history) =
    program_inputs source symbols ++ record { file = History; name = history } ∷ []
input_files_of (Check source symbols german) = program_inputs source symbols
input_files_of (Compile source symbols german image) = program_inputs source symbols
input_files_of (Translate language source translation) =
    record { file = Source; name = source } ∷ []
input_files_of (Run image history) =
    record { file = Image; name = image } ∷ record { file = History; name = history } ∷ []
input_files_of (Gen number) = []
input_files_of (Live image stimuli scripts steps) = live_inputs image stimuli scripts
input_files_of (Watch image stimuli vars scripts steps) = watch_inputs image stimuli vars scripts
input_files_of (Upgrade image upgraded) = record { file = Image; name = image } ∷ []
input_files_of (ListImage image source symbols) = record { file = Image; name = image } ∷ []
input_files_of (Bound image certificate) = record { file = Image; name = image } ∷ []
input_files_of (Recheck image certificate) =
    record { file = Image; name = image } ∷ record { file = Certificate; name = certificate } ∷ []

-- the files that a command writes
abbrev pub outputs_of : Command → List (List ℕ)
outputs_of (Go source symbols german history) = []
outputs_of (Check source symbols german) = []
outputs_of (Compile source symbols german image) = image ∷ []
outputs_of (Translate language source translation) = translation ∷ []
outputs_of (Run image history) = []
outputs_of (Gen number) = []
outputs_of (Live image stimuli scripts steps) = []
outputs_of (Watch image stimuli vars scripts steps) = []
outputs_of (Upgrade image upgraded) = upgraded ∷ []
outputs_of (ListImage image source symbols) = source ∷ symbols ∷ []
outputs_of (Bound image certificate) = certificate ∷ []
outputs_of (Recheck image certificate) = []

-- the most bytes that a file of this sort may hold, and a translation, and each text of a
-- listing
abbrev pub limit_of : File → ℕ
limit_of Source = 1048576
limit_of Translation = 1048576
limit_of Symbols = 1048576
limit_of Image = 8388608
limit_of Listing = 1048576
limit_of History = 4194304
limit_of Stimuli = 4194304
limit_of Vars = 1048576
limit_of (Script number) = 1048576
limit_of Certificate = 1048576
