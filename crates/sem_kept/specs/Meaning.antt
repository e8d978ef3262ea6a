-- What a source with its symbols means: the code of its statements, or a refusal. The addresses of
-- the symbols are those of a language; where none is named, English ones.
use Rattle.std.specs.Prelude.{ℕ, ◌≡◌, ◌⊎◌, List, [], ◌++◌, Option, Some, None, Result, Ok, Err}
use Rattle.plc_base.specs.declared.refusals.Refusal.{Refusal}
use Rattle.machine.specs.Code.{Code}
use Rattle.stl_ast.specs.declared.blocks.Tree.{Tree}
use Rattle.stl_lexer.specs.declared.kinds.Token.{Token}
use Rattle.stl_lexer.specs.Tokens.{AreTokens, IsViolation as BreaksTokenRule}
use Rattle.stl_parser.specs.Source.{IsTree, IsClauseViolation as BreaksClauseRule}
use Rattle.plc_base.specs.Least.{least}
use Rattle.stl_symbols.specs.Symbol.{Symbol}
use Rattle.stl_symbols.specs.Symbols.{symbols_in}
use Rattle.stl_symbols.specs.declared.languages.Language.{Language}
use Rattle.stl_symbols.specs.declared.languages.Language.TheVariants.{English}
use Rattle.block_layout.specs.Layouts.{layouts_of}
use Rattle.block_layout.specs.Table.{layout_refusals}
use Rattle.stl_types.specs.Table.{statement_refusals}
use Rattle.stl_codegen.specs.GeneratedProgram.{code_blocks_of, data_blocks_of}
use Rattle.sem_kept.specs.Statements.{stated_code}
use Rattle.sem_kept.specs.Stages.{HaveOutcomeInTurn, NamesRefusalOf}

-- ---- stages

-- the symbols of a symbols file with addresses in a language, or its refusal; no bytes stand for no
-- file, and have no symbols
abbrev pub HasSymbolsIn : Language → List ℕ → Result (List Symbol) Refusal → Type 0
HasSymbolsIn language bytes outcome = outcome ≡ symbols_in language bytes

-- the symbols of a symbols file with English addresses, or its refusal; no bytes stand for no
-- file, and have no symbols
abbrev pub HasSymbols : List ℕ → Result (List Symbol) Refusal → Type 0
HasSymbols bytes outcome = HasSymbolsIn English bytes outcome

-- the tokens of a source, or its first token that breaks a rule
abbrev pub HasTokens : List ℕ → Result (List Token) Refusal → Type 0
HasTokens source (Ok tokens) = AreTokens source tokens
HasTokens source (Err refusal) = BreaksTokenRule source refusal.line refusal.rule

-- the tree of the tokens of a source, or its first clause that breaks a rule
abbrev pub HasTreeOrRefusal : (source : List ℕ) → List Token → Result Tree Refusal → Type 0
HasTreeOrRefusal source tokens (Ok tree) = IsTree source tokens tree
HasTreeOrRefusal source tokens (Err refusal) =
    BreaksClauseRule source tokens refusal.line refusal.rule

-- what a tree breaks of the rules on layout and of those on statements
abbrev pub refusals_of : List Symbol → Tree → List Refusal
refusals_of symbols tree =
    layout_refusals tree symbols ++ statement_refusals tree symbols (layouts_of tree symbols)

-- a tree, checked by the least of its refusals: the tree itself where there is none, or else that
-- refusal
abbrev pub sound_by : Tree → Option Refusal → Result Tree Refusal
sound_by tree None = Ok tree
sound_by tree (Some refusal) = Err refusal

-- the tree itself where it breaks no rule on layout or statements, or else the least refusal
abbrev pub IsSound : List Symbol → Tree → Result Tree Refusal → Type 0
IsSound symbols tree outcome = outcome ≡ sound_by tree (least (refusals_of symbols tree))

-- the statements of a tree, by their numbers in each block
abbrev pub stated_code_of_tree : List Symbol → Tree → Code
stated_code_of_tree symbols tree =
    stated_code (code_blocks_of tree symbols (layouts_of tree symbols))
    (data_blocks_of tree symbols (layouts_of tree symbols))

-- the last stage: a tree that breaks no rule means the code of its statements; nothing is
-- refused here
abbrev pub HasCode : List Symbol → Tree → Result Code Refusal → Type 0
HasCode symbols tree outcome = outcome ≡ Ok (stated_code_of_tree symbols tree)

-- ---- in turn

-- a source with these symbols is checked by its tokens, its clauses, and its layout together with
-- its statements; where it breaks no rule, it means its statements
abbrev pub IsCheckedWith : (source : List ℕ) → List Symbol → Result Code Refusal → Type 0
IsCheckedWith source symbols outcome =
    HaveOutcomeInTurn HasTokens
    (HaveOutcomeInTurn (HasTreeOrRefusal source)
    (HaveOutcomeInTurn (IsSound symbols) (HasCode symbols)))
    source outcome

-- a refusal is that of the symbols file or that of the source
pub data RefusedFile : Type 0 where
  -- a refusal of the symbols file
  InSymbols : (refusal : Refusal) → RefusedFile
  -- a refusal of the source
  InSource : (refusal : Refusal) → RefusedFile

-- what a source with a symbols file comes to, whose addresses are those of a language: the
-- symbols are checked first, and then the source with them; it means a code or is refused
unfoldable pub HasOutcomeOfSourceIn :
    Language → (source symbols : List ℕ) → Result Code RefusedFile → Type 0
HasOutcomeOfSourceIn language source symbols outcome =
    HaveOutcomeInTurn (NamesRefusalOf InSymbols (HasSymbolsIn language))
    (NamesRefusalOf InSource (IsCheckedWith source)) symbols
    outcome

-- a source with a symbols file, whose addresses are those of a language, breaks no rule and
-- means this code
abbrev pub MeansCodeIn : Language → (source symbols : List ℕ) → Code → Type 0
MeansCodeIn language source symbols code = HasOutcomeOfSourceIn language source symbols (Ok code)

-- a source with a symbols file, whose addresses are those of a language, is refused with this
-- refusal, of the one or the other
abbrev pub IsRefusedSourceIn : Language → (source symbols : List ℕ) → RefusedFile → Type 0
IsRefusedSourceIn language source symbols refused =
    HasOutcomeOfSourceIn language source symbols (Err refused)

-- ---- in English

-- what a source whose symbols have English addresses comes to: its code, or its refusal
abbrev pub HasOutcomeOfSource : (source symbols : List ℕ) → Result Code RefusedFile → Type 0
HasOutcomeOfSource source symbols outcome = HasOutcomeOfSourceIn English source symbols outcome

-- a source whose symbols have English addresses means a code
abbrev pub MeansCode : (source symbols : List ℕ) → Code → Type 0
MeansCode source symbols code = MeansCodeIn English source symbols code

-- a source whose symbols have English addresses is refused
abbrev pub IsRefusedSource : (source symbols : List ℕ) → RefusedFile → Type 0
IsRefusedSource source symbols refused = IsRefusedSourceIn English source symbols refused

-- ---- laws, in each language

-- an empty symbols file is accepted in each language and has no symbols: so it stands for no
-- file
abbrev pub NoFileHasNone : Type 0
NoFileHasNone = (language : Language) → HasSymbolsIn language [] (Ok [])

-- a source means one code at most
abbrev pub IsMeaningUnique : Type 0
IsMeaningUnique =
    (language : Language) (source symbols : List ℕ) (c d : Code)
    → MeansCodeIn language source symbols c → MeansCodeIn language source symbols d → c ≡ d

-- a source that is refused means no code
abbrev pub ExcludesRefusal : Type 0
ExcludesRefusal =
    (language : Language) (source symbols : List ℕ) (code : Code) (refused : RefusedFile)
    → MeansCodeIn language source symbols code → IsRefusedSourceIn language source symbols refused
    → ⊥

-- a source is refused in one way at most
abbrev pub IsRefusalUnique : Type 0
IsRefusalUnique =
    (language : Language) (source symbols : List ℕ) (r s : RefusedFile)
    → IsRefusedSourceIn language source symbols r → IsRefusedSourceIn language source symbols s
    → r ≡ s

-- each source means a code or is refused
abbrev pub HasEachSourceOutcome : Type 0
HasEachSourceOutcome =
    (language : Language) (source symbols : List ℕ)
    → ((code : Code) × MeansCodeIn language source symbols code)
    ⊎ ((refused : RefusedFile) × IsRefusedSourceIn language source symbols refused)
