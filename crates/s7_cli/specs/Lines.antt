-- The one line of each refusal.
use Rattle.std.specs.Prelude.{◌≡◌, ℕ, List, ◌++◌, codes, decimal, Option, Some, None}
use Rattle.plc_base.specs.declared.blocks.BlockId.{BlockId}
use Rattle.plc_base.specs.declared.refusals.Refusal.{Refusal}
use Rattle.image_file.specs.declared.faults.LoadFault.{LoadFault}
use Rattle.stack_bound.specs.ChainText.{chain_text}
use Rattle.s7_cli.specs.declared.failures.File.{File}
use Rattle.s7_cli.specs.declared.failures.File.TheVariants.{Source, Translation, Symbols, Image, Listing, History, Stimuli, Vars, Script, Certificate}
use Rattle.s7_cli.specs.declared.failures.Failure.{Failure}
use Rattle.s7_cli.specs.declared.failures.Failure.TheVariants.{WordsRefused, ReadFault, TooLong, Refused, ImageRefused, NoListing, SaysNo, TooDeep, WriteFault, NoMemory}

-- the word for a file, for a translation, and for a listing
unfoldable pub file_text : File → List ℕ
file_text Source = codes "source"
file_text Translation = codes "result"
file_text Symbols = codes "symbols"
file_text Image = codes "image"
file_text Listing = codes "list"
file_text History = codes "history"
file_text Stimuli = codes "stimuli"
file_text Vars = codes "vars"
file_text (Script number) = codes "script " ++ decimal number
file_text Certificate = codes "certificate"

-- the line of a call whose words are refused
unfoldable pub words_refused_text : List ℕ
words_refused_text = codes "words refused\n"

-- the line of a call where a file can't be read
unfoldable pub read_fault_text : List ℕ
read_fault_text = codes "read fault\n"

-- the line of a file that holds a byte past its limit
unfoldable pub too_long_text : File → List ℕ
too_long_text file = codes "too long: " ++ file_text file ++ codes "\n"

-- the line of a refused file: which of its lines breaks a rule, and which rule
unfoldable pub refusal_text : File → Refusal → List ℕ
refusal_text file refusal =
    file_text file ++ codes " refused: line " ++ decimal refusal.line ++ codes " rule "
    ++ decimal refusal.rule ++ codes "\n"

-- the line of a refused image: the offset of its least fault, and the fault's code
unfoldable pub image_refused_text : LoadFault → List ℕ
image_refused_text fault =
    codes "image refused: offset " ++ decimal fault.at ++ codes " code " ++ decimal fault.code
    ++ codes "\n"

-- the line of an image whose listing doesn't compile to its program
unfoldable pub no_listing_text : List ℕ
no_listing_text = codes "image has no listing\n"

-- the line of a certificate that doesn't hold
unfoldable pub says_no_text : List ℕ
says_no_text = codes "certificate says no\n"

-- what `check` writes for a source that is accepted, `recheck` for a certificate that holds, and
-- `compile`, `english`, `german`, `upgrade`, `list` and `bound` where they have written their files
unfoldable pub ok_line : List ℕ
ok_line = codes "OK\n"

-- the line of a failure; a failed write and want of memory have none of their own, and that of a
-- chain which is too deep goes by the chain
abbrev pub line_of_failure : Failure → Option (List ℕ)
line_of_failure WordsRefused = Some words_refused_text
line_of_failure ReadFault = Some read_fault_text
line_of_failure (TooLong file) = Some (too_long_text file)
line_of_failure (Refused file refusal) = Some (refusal_text file refusal)
line_of_failure (ImageRefused fault) = Some (image_refused_text fault)
line_of_failure NoListing = Some no_listing_text
line_of_failure SaysNo = Some says_no_text
line_of_failure TooDeep = None
line_of_failure WriteFault = None
line_of_failure NoMemory = None

-- a line that a failure may have: its own, and for a chain that is too deep the line of some
-- chain
abbrev pub IsFailureLine : Failure → List ℕ → Type 0
IsFailureLine TooDeep line = (chain : List BlockId) × (line ≡ chain_text chain)
IsFailureLine failure line = line_of_failure failure ≡ Some line
