-- What the stages of compiling find, joined.
use Rattle.std.proofs.Common.{◌≡◌, ◌≢◌, Bool, true, false, if◌then◌else◌, refl, sym, ap, ap₂, subst, ◌∙◌, ℕ, suc, ◌<◌, List, [], ◌∷◌, get_or, Option, Some, None, Result, Ok, Err, inl, inr, arith}
use Rattle.std.specs.Option.{unwrap_or}
use Rattle.flat_code.specs.Programs.{Program}
use Rattle.plc_base.specs.declared.Profile.TheVariants.{Large}
use Rattle.plc_base.specs.declared.refusals.Refusal.{Refusal}
use Rattle.plc_base.specs.declared.refusals.SourceFault.{SourceFault}
use Rattle.plc_base.specs.declared.refusals.SourceFault.TheVariants as found
use Rattle.sem_kept.specs.AcceptedSource.{program_in}
use Rattle.stl_ast.specs.Literals.{AreBytes}
use Rattle.stl_ast.specs.declared.blocks.Tree.{Tree}
use Rattle.stl_lexer.specs.declared.kinds.Token.{Token}
use Rattle.stl_lexer.specs.Tokens.{AreTokens, AreTokensUnique, IsRefused as AreNoTokens}
use Rattle.stl_parser.specs.Source.{IsTreeUnique, IsRefusedBy as IsRefusedTree}
use Rattle.plc_base.specs.Least.{least, lesser, is_refusal_before}
use Rattle.stl_symbols.specs.Symbol.{Symbol}
use Rattle.plc_base.proofs.LeastLemmas.{least-append}
use Rattle.block_layout.specs.Layouts.{layouts_of}
use Rattle.block_layout.specs.Table.{layout_refusals}
use Rattle.block_layout.specs.declared.blocks.BlockLayout.{BlockLayout}
use Rattle.stl_types.specs.Table.{statement_refusals, ChecksTree}
use Rattle.stl_codegen.specs.GeneratedProgram.{program_of}
use Rattle.sem_kept.specs.Agreement.{AreFiles, KeepsSourceIn, ProgramsRun}
use Rattle.sem_kept.specs.Compiles.{CompilesTo, IsProgramUnique}
use Rattle.sem_kept.specs.Stages.{HaveOutcomeInTurn}
use Rattle.sem_kept.specs.Meaning.{HasSymbolsIn, HasTokens, HasTreeOrRefusal, refusals_of, sound_by, IsSound, IsCheckedWith, HasOutcomeOfSourceIn, ExcludesRefusal, InSource, InSymbols, MeansCodeIn, stated_code_of_tree}
use Rattle.stl_symbols.specs.declared.languages.Language.{Language}
use Rattle.stl_symbols.specs.declared.languages.Language.TheVariants.{English}
use Rattle.s7_cli.specs.declared.compiling.LaidSource.{LaidSource}
use Rattle.s7_cli.specs.declared.faults.CompileFault.{CompileFault}
use Rattle.s7_cli.specs.declared.faults.CompileFault.TheVariants as compiling
use Rattle.s7_cli.specs.Compiling.{CompilesWith, MakesOrRefuses, HasProgramWith, IsSourceLaidOut, IsRefusedByFault, KeepsWith, RefusedHaveNone, RefusesEnglish, RefusesInLanguage, RefusesLaid, RefusesSymbols, RefusesForSymbols, fault_in_symbols, fault_in_source}

-- the lesser of a refusal and another is one
one_of : (before : Bool) (r s : Refusal)
    → (if before then Some s else Some r) ≡ Some (unwrap_or (if before then Some s else Some r) r)
one_of true r s = refl
one_of false r s = refl

lesser_is : (r : Refusal) (other : Option Refusal)
    → lesser (Some r) other ≡ Some (unwrap_or (lesser (Some r) other) r)
unfolding lesser
lesser_is r None = refl
lesser_is r (Some s) = one_of (is_refusal_before s r) r s

both : (symbols : List Symbol) (tree : Tree) (a b : Option Refusal)
    → least (layout_refusals tree symbols) ≡ a
    → least (statement_refusals tree symbols (layouts_of tree symbols)) ≡ b
    → least (refusals_of symbols tree) ≡ lesser a b
both symbols tree a b at_a at_b =
    least-append (layout_refusals tree symbols)
    (statement_refusals tree symbols (layouts_of tree symbols))
    ∙ ap (λ (z : Option Refusal). lesser z (least (statement_refusals tree symbols (layouts_of tree symbols)))) at_a
    ∙ ap (λ (z : Option Refusal). lesser a z) at_b

pub refused_so : (symbols : List Symbol) (tree : Tree) (layouts : List BlockLayout) (r : Refusal)
    (other : Option Refusal)
    → least (layout_refusals tree symbols) ≡ Some r → layouts ≡ layouts_of tree symbols
    → other ≡ least (statement_refusals tree symbols layouts)
    → IsSound symbols tree (Err (unwrap_or (lesser (Some r) other) r))
refused_so symbols tree layouts r other here laid there =
    sym (ap (sound_by tree)
    (both symbols tree (Some r) other here
    (ap (λ (z : List BlockLayout). least (statement_refusals tree symbols z)) (sym laid) ∙ sym there)
    ∙ lesser_is r other))

pub sound_both : (symbols : List Symbol) (tree : Tree) (layouts : List BlockLayout)
    → least (layout_refusals tree symbols) ≡ None → layouts ≡ layouts_of tree symbols
    → least (statement_refusals tree symbols layouts) ≡ None
    → least (refusals_of symbols tree) ≡ None
unfolding lesser
sound_both symbols tree layouts here laid there =
    both symbols tree None None here
    (ap (λ (z : List BlockLayout). least (statement_refusals tree symbols z)) (sym laid) ∙ there)

pub refused_by_statements : (symbols : List Symbol) (tree : Tree) (layouts : List BlockLayout)
    (r : Refusal)
    → least (layout_refusals tree symbols) ≡ None → layouts ≡ layouts_of tree symbols
    → least (statement_refusals tree symbols layouts) ≡ Some r
    → IsSound symbols tree (Err r)
unfolding lesser
refused_by_statements symbols tree layouts r here laid there =
    sym (ap (sound_by tree)
    (both symbols tree None (Some r) here
    (ap (λ (z : List BlockLayout). least (statement_refusals tree symbols z)) (sym laid) ∙ there)))

-- ---- what a stage finds

pub tree_refused : (source : List ℕ) (tokens : List Token) (fault : SourceFault)
    → AreTokens source tokens → IsRefusedTree source tokens fault
    → MakesOrRefuses (HaveOutcomeInTurn HasTokens (HasTreeOrRefusal source) source) (Err fault)
tree_refused source tokens (found.Refused refusal) are refused = inr (tokens, are, refused)
tree_refused source tokens found.NoMemory are refused = tt

pub tokens_refused : (source : List ℕ) (fault : SourceFault) → AreNoTokens source fault
    → MakesOrRefuses (HaveOutcomeInTurn HasTokens (HasTreeOrRefusal source) source) (Err fault)
tokens_refused source (found.Refused refusal) refused = inl refused
tokens_refused source found.NoMemory refused = tt

-- ---- whole

pub symbols_refused : (language : Language) (symbols : List ℕ) (fault : SourceFault)
    → MakesOrRefuses (HasSymbolsIn language symbols) (Err fault)
    → RefusesSymbols language symbols (fault_in_symbols fault)
symbols_refused language symbols (found.Refused refusal) h = h
symbols_refused language symbols found.NoMemory h = tt

pub by_symbols : (language : Language) (source symbols : List ℕ) (fault : CompileFault)
    → RefusesSymbols language symbols fault → RefusesInLanguage language source symbols fault
unfolding HasOutcomeOfSourceIn
by_symbols language source symbols (compiling.Symbols refusal) h = inl (refusal, refl, h)
by_symbols language source symbols (compiling.Source refusal) h = absurd h
by_symbols language source symbols compiling.NoMemory h = tt

with_tree : (source : List ℕ) (symbols : List Symbol) (refusal : Refusal)
    → HaveOutcomeInTurn HasTokens (HasTreeOrRefusal source) source (Err refusal)
    → IsCheckedWith source symbols (Err refusal)
with_tree source symbols refusal (inl refused) = inl refused
with_tree source symbols refusal (inr (tokens, are, refused)) = inr (tokens, are, inl refused)

pub tree_fault : (source : List ℕ) (list : List Symbol) (fault : SourceFault)
    → MakesOrRefuses (HaveOutcomeInTurn HasTokens (HasTreeOrRefusal source) source) (Err fault)
    → RefusesForSymbols source list (fault_in_source fault)
unfolding HasOutcomeOfSourceIn
tree_fault source list (found.Refused refusal) h = λ language symbols has.
    inr (list, has, (refusal, refl, with_tree source list refusal h))
tree_fault source list found.NoMemory h = λ language symbols has. tt

pub program_fault : (source : List ℕ) (list : List Symbol) (tree : Tree) (fault : SourceFault)
    → HaveOutcomeInTurn HasTokens (HasTreeOrRefusal source) source (Ok tree) → IsRefusedByFault list tree fault
    → RefusesForSymbols source list (fault_in_source fault)
unfolding HasOutcomeOfSourceIn
program_fault source list tree (found.Refused refusal) (tokens, are, is) h = λ language symbols has.
    inr (list, has, (refusal, refl, inr (tokens, are, inr (tree, is, inl h))))
program_fault source list tree found.NoMemory at h = λ language symbols has. tt

pub all_bytes : (bytes : List ℕ) → ((i : ℕ) → get_or bytes i 0 < 256) → AreBytes bytes
all_bytes [] small = tt
all_bytes (b ∷ bytes) small =
    let first : b < 256 = small 0 in
    (omega (arith, first), all_bytes bytes (λ i. small (suc i)))

-- ---- a source that is laid out

pub statements_fault : (source : List ℕ) (laid : LaidSource) (checked : Tree) (fault : SourceFault)
    → IsSourceLaidOut source laid
    → ChecksTree (least (statement_refusals laid.tree laid.symbols laid.layouts)) checked (Err fault)
    → RefusesForSymbols source laid.symbols (fault_in_source fault)
statements_fault source laid checked (found.Refused refusal) is h =
    program_fault source laid.symbols laid.tree (found.Refused refusal) is.parsed
    (refused_by_statements laid.symbols laid.tree laid.layouts refusal is.right is.layout h)
statements_fault source laid checked found.NoMemory is h = λ language symbols has. tt

-- with the symbols that it was laid out with
pub refused_laid : (source : List ℕ) (laid : LaidSource) (list : List Symbol) (fault : CompileFault)
    → laid.symbols ≡ list → IsSourceLaidOut source laid → RefusesLaid laid fault
    → RefusesForSymbols source list fault
refused_laid source laid list fault are is refuses =
    subst (λ (l : List Symbol). RefusesForSymbols source l fault) are (refuses source is)

-- where its statements break no rule, its program runs
accepted_runs : ProgramsRun → (language : Language) (source symbols : List ℕ) (laid : LaidSource)
    → AreFiles source symbols → HasSymbolsIn language symbols (Ok laid.symbols) → IsSourceLaidOut source laid
    → least (statement_refusals laid.tree laid.symbols laid.layouts) ≡ None
    → KeepsSourceIn language Large source symbols (program_in laid.symbols laid.tree)
accepted_runs law language source symbols laid are has is there =
    law language Large source symbols laid.symbols is.parsed.0 laid.tree are has is.parsed.1
    is.parsed.2 (sound_both laid.symbols laid.tree laid.layouts is.right is.layout there)

same_symbols : (language : Language) (symbols : List ℕ) (list other : List Symbol) → other ≡ list
    → HasSymbolsIn language symbols (Ok list) → HasSymbolsIn language symbols (Ok other)
same_symbols language symbols list other are has =
    subst (λ (l : List Symbol). HasSymbolsIn language symbols (Ok l)) (sym are) has

pub has_program : ProgramsRun → (source : List ℕ) (list : List Symbol) (laid : LaidSource)
    → laid.symbols ≡ list → IsSourceLaidOut source laid
    → least (statement_refusals laid.tree laid.symbols laid.layouts) ≡ None
    → HasProgramWith source list
has_program law source list laid are is there = λ language symbols files has. (
  program_in laid.symbols laid.tree,
  accepted_runs law language source symbols laid files
      (same_symbols language symbols list laid.symbols are has) is there,
)

-- the one that is generated
program_is_generated : (source : List ℕ) (laid : LaidSource) (checked : Tree) → IsSourceLaidOut source laid
    → checked ≡ laid.tree
    → program_of checked laid.symbols laid.layouts ≡ program_in laid.symbols laid.tree
program_is_generated source laid checked is same =
    ap (λ (t : Tree). program_of t laid.symbols laid.layouts) same
    ∙ ap (λ (z : List BlockLayout). program_of laid.tree laid.symbols z) is.layout

pub generated_runs : ProgramsRun → (source : List ℕ) (list : List Symbol) (laid : LaidSource)
    (checked : Tree)
    → laid.symbols ≡ list → IsSourceLaidOut source laid → checked ≡ laid.tree
    → least (statement_refusals laid.tree laid.symbols laid.layouts) ≡ None
    → KeepsWith source list (program_of checked laid.symbols laid.layouts)
generated_runs law source list laid checked are is same there = λ language symbols files has.
    subst (KeepsSourceIn language Large source symbols) (sym (program_is_generated source laid checked is same))
    (accepted_runs law language source symbols laid files
    (same_symbols language symbols list laid.symbols are has) is there)

-- ---- the program to which a source compiles

pub generated_compiles : (source : List ℕ) (list : List Symbol) (laid : LaidSource) (checked : Tree)
    → laid.symbols ≡ list → IsSourceLaidOut source laid → checked ≡ laid.tree
    → least (statement_refusals laid.tree laid.symbols laid.layouts) ≡ None
    → CompilesWith source list (program_of checked laid.symbols laid.layouts)
generated_compiles source list laid checked are is same there = λ language symbols has. record {
  list = laid.symbols;
  tokens = is.parsed.0;
  tree = laid.tree;
  named = same_symbols language symbols list laid.symbols are has;
  lexed = is.parsed.1;
  parsed = is.parsed.2;
  right = sound_both laid.symbols laid.tree laid.layouts is.right is.layout there;
  program = sym (program_is_generated source laid checked is same);
}

pub one_program : AreTokensUnique → IsTreeUnique → IsProgramUnique
one_program one_list one_tree language source symbols p q a b =
    sym a.program ∙ ap₂ program_in lists trees ∙ b.program
  where
    lists : a.list ≡ b.list
    lists = let e : ◌≡◌ {A = Result (List Symbol) Refusal} (Ok a.list) (Ok b.list) = a.named ∙ sym b.named in cc

    tokens : a.tokens ≡ b.tokens
    tokens = one_list source a.tokens b.tokens a.lexed b.lexed

    trees : a.tree ≡ b.tree
    trees = one_tree source a.tokens a.tree b.tree a.parsed
        (subst (λ (ts : List Token). HasTreeOrRefusal source ts (Ok b.tree)) (sym tokens) b.parsed)

-- it means a code
means : (language : Language) (source symbols : List ℕ) (p : Program)
    → (a : CompilesTo language source symbols p)
    → MeansCodeIn language source symbols (stated_code_of_tree a.list a.tree)
unfolding HasOutcomeOfSourceIn
means language source symbols p a = (
  a.list,
  a.named,
  (a.tokens, a.lexed, (a.tree, a.parsed, (a.tree, ap (sound_by a.tree) (sym a.right), refl))),
)

pub refused_have_none : ExcludesRefusal → RefusedHaveNone
refused_have_none excludes language source symbols refused p is made =
    excludes language source symbols (stated_code_of_tree made.list made.tree) refused
    (means language source symbols p made) is

-- a fault of compiling, but want of memory, is a refusal
pub none_by_fault : RefusedHaveNone → (source symbols : List ℕ) (fault : CompileFault) (p : Program)
    → fault ≢ compiling.NoMemory → RefusesEnglish source symbols fault
    → CompilesTo English source symbols p → ⊥
none_by_fault none source symbols (compiling.Symbols refusal) p other refuses made =
    none English source symbols (InSymbols refusal) p refuses made
none_by_fault none source symbols (compiling.Source refusal) p other refuses made =
    none English source symbols (InSource refusal) p refuses made
none_by_fault none source symbols compiling.NoMemory p other refuses made = absurd (other refl)
