-- What compiling answers, stage by stage.
use Rattle.std.specs.Prelude.{◌≡◌, ℕ, List, None, Result, Ok, Err}
use Rattle.flat_code.specs.Programs.{Program}
use Rattle.flat_code.specs.declared.stamps.Stamp.TheVariants as stamp
use Rattle.plc_base.specs.declared.profiles.Profile.TheVariants as profile
use Rattle.plc_base.specs.declared.refusals.Refusal.{Refusal}
use Rattle.plc_base.specs.declared.refusals.SourceFault.{SourceFault}
use Rattle.plc_base.specs.declared.refusals.SourceFault.TheVariants as found
use Rattle.stl_ast.specs.declared.blocks.Tree.{Tree}
use Rattle.plc_base.specs.Least.{least}
use Rattle.stl_symbols.specs.Symbol.{Symbol}
use Rattle.stl_symbols.specs.declared.languages.Language.{Language}
use Rattle.stl_symbols.specs.declared.languages.Language.TheVariants.{English}
use Rattle.block_layout.specs.Layouts.{layouts_of}
use Rattle.block_layout.specs.Table.{layout_refusals}
use Rattle.block_layout.specs.declared.blocks.BlockLayout.{BlockLayout}
use Rattle.sem_kept.specs.Agreement.{AreFiles, ImageKeepsSourceIn, KeepsSourceIn}
use Rattle.sem_kept.specs.Compiles.{CompilesTo}
use Rattle.sem_kept.specs.Meaning.{HasSymbolsIn, HasTokens, HasTreeOrRefusal, IsSound, InSymbols, InSource, IsRefusedSourceIn, RefusedFile}
use Rattle.sem_kept.specs.Stages.{HaveOutcomeInTurn}
use Rattle.s7_cli.specs.declared.compiling.LaidSource.{LaidSource}
use Rattle.s7_cli.specs.declared.faults.CompileFault.{CompileFault}
use Rattle.s7_cli.specs.declared.faults.CompileFault.TheVariants as fault

-- a source with its symbols, whose addresses are those of a language, is refused by this fault;
-- nothing is said where memory is wanting
abbrev pub RefusesInLanguage : Language → (source symbols : List ℕ) → CompileFault → Type 0
RefusesInLanguage language source symbols (fault.Symbols refusal) =
    IsRefusedSourceIn language source symbols (InSymbols refusal)
RefusesInLanguage language source symbols (fault.Source refusal) =
    IsRefusedSourceIn language source symbols (InSource refusal)
RefusesInLanguage language source symbols fault.NoMemory = Unit {0}

-- a source with its symbols, whose addresses are English, is refused by this fault; nothing is
-- said where memory is wanting
abbrev pub RefusesEnglish : (source symbols : List ℕ) → CompileFault → Type 0
RefusesEnglish source symbols fault = RefusesInLanguage English source symbols fault

-- a symbols file with addresses in a language is refused by this fault, whatever the source is
abbrev pub RefusesSymbols : Language → (symbols : List ℕ) → CompileFault → Type 0
RefusesSymbols language symbols (fault.Symbols refusal) =
    HasSymbolsIn language symbols (Err refusal)
RefusesSymbols language symbols (fault.Source refusal) = ⊥
RefusesSymbols language symbols fault.NoMemory = Unit {0}

-- a source is refused by this fault with each symbols file, in whichever language, that has
-- these symbols
abbrev pub RefusesForSymbols : (source : List ℕ) → List Symbol → CompileFault → Type 0
RefusesForSymbols source list fault =
    (language : Language) (symbols : List ℕ) → HasSymbolsIn language symbols (Ok list)
    → RefusesInLanguage language source symbols fault

-- the fault of compiling by a fault of the symbols file: its refusal, or want of memory
abbrev pub fault_in_symbols : SourceFault → CompileFault
fault_in_symbols (found.Refused refusal) = fault.Symbols refusal
fault_in_symbols found.NoMemory = fault.NoMemory

-- the fault of compiling by a fault of the source: its refusal, or want of memory
abbrev pub fault_in_source : SourceFault → CompileFault
fault_in_source (found.Refused refusal) = fault.Source refusal
fault_in_source found.NoMemory = fault.NoMemory

-- what a stage makes, or its refusal; nothing is said where memory is wanting
abbrev pub MakesOrRefuses :
    {A : Type 0} → (Result A Refusal → Type 0) → Result A SourceFault → Type 0
MakesOrRefuses stage (Ok made) = stage (Ok made)
MakesOrRefuses stage (Err (found.Refused refusal)) = stage (Err refusal)
MakesOrRefuses stage (Err found.NoMemory) = Unit {0}

-- a tree is refused by its layout or by its statements
abbrev pub IsRefusedByFault : List Symbol → Tree → SourceFault → Type 0
IsRefusedByFault symbols tree (found.Refused refusal) = IsSound symbols tree (Err refusal)
IsRefusedByFault symbols tree found.NoMemory = Unit {0}

-- the layouts of a tree that breaks no rule on its layout, or the least of the rules on layout and
-- on statements that it breaks
abbrev pub LaysOutTree : List Symbol → Tree → Result (List BlockLayout) SourceFault → Type 0
LaysOutTree symbols tree (Ok layouts) =
    (least (layout_refusals tree symbols) ≡ None) × (layouts ≡ layouts_of tree symbols)
LaysOutTree symbols tree (Err fault) = IsRefusedByFault symbols tree fault

-- a source is laid out so with its symbols, and breaks no rule on its tokens, clauses and layout
pub record IsSourceLaidOut (source : List ℕ) (laid : LaidSource) : Type 0 where
  -- its tokens and clauses break no rule, and it has this tree
  pub parsed : HaveOutcomeInTurn HasTokens (HasTreeOrRefusal source) source (Ok laid.tree)
  -- it breaks no rule on layout
  pub right : least (layout_refusals laid.tree laid.symbols) ≡ None
  -- these are the layouts of its blocks
  pub layout : laid.layouts ≡ layouts_of laid.tree laid.symbols

-- each source that is laid out with this tree, symbols and layouts is refused by this fault
abbrev pub RefusesLaid : LaidSource → CompileFault → Type 0
RefusesLaid laid fault =
    (source : List ℕ) → IsSourceLaidOut source laid → RefusesForSymbols source laid.symbols fault

-- a source with its symbols has a program that keeps it, at the large profile
abbrev pub HasProgramIn : Language → (source symbols : List ℕ) → Type 0
HasProgramIn language source symbols =
    (p : Program) × KeepsSourceIn language profile.Large source symbols p

-- bytes are the image of version 2, for the large profile, of the program to which a source with
-- its symbols compiles, as files hold them, and keep the source
abbrev pub IsCompiledIn : Language → (bytes source symbols : List ℕ) → Type 0
IsCompiledIn language bytes source symbols =
    (kept : ImageKeepsSourceIn language bytes source symbols)
    × (kept.stamp ≡ stamp.Two profile.Large) × CompilesTo language source symbols kept.program
    × AreFiles source symbols

-- a source with its symbols, with English addresses, has a program that keeps it, at the large
-- profile
abbrev pub HasProgram : (source symbols : List ℕ) → Type 0
HasProgram source symbols = HasProgramIn English source symbols

-- bytes are the image of a source with its symbols, which have English addresses
abbrev pub IsImageOfEnglishSource : (bytes source symbols : List ℕ) → Type 0
IsImageOfEnglishSource bytes source symbols = IsCompiledIn English bytes source symbols

-- some files are a source and have these symbols
abbrev pub AreRead : (source : List ℕ) → List Symbol → Type 0
AreRead source list =
    (language : Language) × (symbols : List ℕ) × AreFiles source symbols
    × HasSymbolsIn language symbols (Ok list)

-- a source has a program with each symbols file that has these symbols
abbrev pub HasProgramWith : (source : List ℕ) → List Symbol → Type 0
HasProgramWith source list =
    (language : Language) (symbols : List ℕ) → AreFiles source symbols
    → HasSymbolsIn language symbols (Ok list) → HasProgramIn language source symbols

-- a program keeps a source, at the large profile, with each symbols file that has these symbols
abbrev pub KeepsWith : (source : List ℕ) → List Symbol → Program → Type 0
KeepsWith source list p =
    (language : Language) (symbols : List ℕ) → AreFiles source symbols
    → HasSymbolsIn language symbols (Ok list)
    → KeepsSourceIn language profile.Large source symbols p

-- a source compiles to this program with each symbols file that has these symbols
abbrev pub CompilesWith : (source : List ℕ) → List Symbol → Program → Type 0
CompilesWith source list p =
    (language : Language) (symbols : List ℕ) → HasSymbolsIn language symbols (Ok list)
    → CompilesTo language source symbols p

-- a source that is refused compiles to no program
abbrev pub RefusedHaveNone : Type 0
RefusedHaveNone =
    (language : Language) (source symbols : List ℕ) (refused : RefusedFile) (p : Program)
    → IsRefusedSourceIn language source symbols refused → CompilesTo language source symbols p → ⊥
