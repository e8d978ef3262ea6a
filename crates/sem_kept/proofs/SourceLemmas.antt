-- A source is checked in one way.
use Rattle.std.proofs.Common.{◌≡◌, refl, sym, ◌∙◌, ℕ, List, Result, Ok, Err, ◌⊎◌, inl, inr}
use Rattle.plc_base.specs.declared.refusals.Refusal.{Refusal}
use Rattle.machine.specs.Code.{Code}
use Rattle.stl_lexer.specs.declared.kinds.Token.{Token}
use Rattle.stl_lexer.specs.Tokens.{AreTokensUnique, ExcludesViolation as TokensExclude, IsViolationUnique as OneTokenViolation, HasTokensOrViolation, IsLexingTotal as EachHasTokens}
use Rattle.stl_ast.specs.declared.blocks.Tree.{Tree}
use Rattle.stl_parser.specs.Source.{IsTreeUnique, TreeExcludesViolation, IsClauseViolationUnique as OneClauseViolation, HasTreeOrViolation, IsParsingTotal as EachHasTree}
use Rattle.plc_base.specs.Least.{least}
use Rattle.stl_symbols.specs.Symbol.{Symbol}
use Rattle.stl_symbols.specs.Symbols.{symbols_in, with_lines}
use Rattle.stl_symbols.specs.declared.languages.Language.{Language}
use Rattle.sem_kept.specs.Stages.{HaveOutcomeInTurn, NamesRefusalOf, HasOneOutcome, HasOutcome}
use Rattle.sem_kept.specs.Meaning.{HasSymbolsIn, HasTokens, HasTreeOrRefusal, refusals_of, sound_by, IsSound, stated_code_of_tree, HasCode, IsCheckedWith, RefusedFile, InSymbols, InSource, HasOutcomeOfSourceIn, MeansCodeIn, IsRefusedSourceIn, IsMeaningUnique, ExcludesRefusal, IsRefusalUnique, HasEachSourceOutcome, NoFileHasNone}
use Rattle.sem_kept.proofs.StageLemmas.{same_refusal, one_by_parts, in_turn_one, in_turn_some, refusal_one, refusal_some}

-- what is known of tokens and of clauses
pub record Laws : Type 0 where
  pub one_list : AreTokensUnique
  pub tokens_exclude : TokensExclude
  pub one_token_violation : OneTokenViolation
  pub one_tree : IsTreeUnique
  pub tree_excludes : TreeExcludesViolation
  pub one_clause_violation : OneClauseViolation
  pub tokens_or_violation : EachHasTokens
  pub tree_or_violation : EachHasTree

-- ---- symbols

pub no_file : NoFileHasNone
unfolding symbols_in with_lines
no_file language = refl

-- ---- one outcome at most

tokens_one : Laws → HasOneOutcome HasTokens
tokens_one laws =
    one_by_parts
    HasTokens
    laws.one_list
    (λ source ts r are_ts breaks. laws.tokens_exclude source ts r.line r.rule are_ts breaks)
    (λ source r s breaks_r breaks_s.
    same_refusal r s
    (laws.one_token_violation source r.line r.rule s.line s.rule breaks_r breaks_s))

tree_one : Laws → (source : List ℕ) → HasOneOutcome (HasTreeOrRefusal source)
tree_one laws source =
    one_by_parts
    (HasTreeOrRefusal source)
    (laws.one_tree source)
    (λ tokens t r is_t breaks. laws.tree_excludes source tokens t r.line r.rule is_t breaks)
    (λ tokens r s breaks_r breaks_s.
    same_refusal r s
    (laws.one_clause_violation source tokens r.line r.rule s.line s.rule breaks_r breaks_s))

sound_one : (symbols : List Symbol) → HasOneOutcome (IsSound symbols)
sound_one symbols tree x y is_x is_y = is_x ∙ sym is_y

code_one : (symbols : List Symbol) → HasOneOutcome (HasCode symbols)
code_one symbols tree x y is_x is_y = is_x ∙ sym is_y

with_one : Laws → (source : List ℕ) → HasOneOutcome (IsCheckedWith source)
with_one laws source symbols =
    in_turn_one HasTokens (HaveOutcomeInTurn (HasTreeOrRefusal source) (HaveOutcomeInTurn (IsSound symbols) (HasCode symbols)))
    (tokens_one laws)
    (in_turn_one (HasTreeOrRefusal source) (HaveOutcomeInTurn (IsSound symbols) (HasCode symbols))
    (tree_one laws source)
    (in_turn_one (IsSound symbols) (HasCode symbols) (sound_one symbols) (code_one symbols)))
    source

symbols_one : (language : Language) → HasOneOutcome (HasSymbolsIn language)
symbols_one language bytes x y is_x is_y = is_x ∙ sym is_y

outcome_one : Laws → (language : Language) (source symbols : List ℕ) (x y : Result Code RefusedFile)
    → HasOutcomeOfSourceIn language source symbols x → HasOutcomeOfSourceIn language source symbols y → x ≡ y
unfolding HasOutcomeOfSourceIn
outcome_one laws language source =
    in_turn_one (NamesRefusalOf InSymbols (HasSymbolsIn language)) (NamesRefusalOf InSource (IsCheckedWith source))
    (refusal_one InSymbols (HasSymbolsIn language) (symbols_one language))
    (refusal_one InSource (IsCheckedWith source) (with_one laws source))

pub one_meaning : Laws → IsMeaningUnique
one_meaning laws language source symbols c d means_c means_d =
    same c d (outcome_one laws language source symbols (Ok c) (Ok d) means_c means_d)
  where
    same : (c d : Code) → ◌≡◌ {A = Result Code RefusedFile} (Ok c) (Ok d) → c ≡ d
    same c d e = cc

pub meaning_or_refusal : Laws → ExcludesRefusal
meaning_or_refusal laws language source symbols c r means refused =
    other (outcome_one laws language source symbols (Ok c) (Err r) means refused)
  where
    other : ◌≡◌ {A = Result Code RefusedFile} (Ok c) (Err r) → ⊥
    other e = cc

pub one_refusal : Laws → IsRefusalUnique
one_refusal laws language source symbols r s refused_r refused_s =
    same (outcome_one laws language source symbols (Err r) (Err s) refused_r refused_s)
  where
    same : ◌≡◌ {A = Result Code RefusedFile} (Err r) (Err s) → r ≡ s
    same e = cc

-- ---- and one at least

tokens_at : (source : List ℕ) → HasTokensOrViolation source
    → (x : Result (List Token) Refusal) × HasTokens source x
tokens_at source (inl (tokens, are)) = (Ok tokens, are)
tokens_at source (inr (line, rule, breaks)) = (Err (record { line = line; rule = rule }), breaks)

tokens_some : Laws → HasOutcome HasTokens
tokens_some laws source = tokens_at source (laws.tokens_or_violation source)

tree_at : (source : List ℕ) (tokens : List Token) → HasTreeOrViolation source tokens
    → (x : Result Tree Refusal) × HasTreeOrRefusal source tokens x
tree_at source tokens (inl (tree, is, outlined)) = (Ok tree, is)
tree_at source tokens (inr (line, rule, breaks)) =
    (Err (record { line = line; rule = rule }), breaks)

tree_some : Laws → (source : List ℕ) → HasOutcome (HasTreeOrRefusal source)
tree_some laws source tokens = tree_at source tokens (laws.tree_or_violation source tokens)

sound_some : (symbols : List Symbol) → HasOutcome (IsSound symbols)
sound_some symbols tree = (sound_by tree (least (refusals_of symbols tree)), refl)

code_some : (symbols : List Symbol) → HasOutcome (HasCode symbols)
code_some symbols tree = (Ok (stated_code_of_tree symbols tree), refl)

with_some : Laws → (source : List ℕ) → HasOutcome (IsCheckedWith source)
with_some laws source symbols =
    in_turn_some HasTokens (HaveOutcomeInTurn (HasTreeOrRefusal source) (HaveOutcomeInTurn (IsSound symbols) (HasCode symbols)))
    (tokens_some laws)
    (in_turn_some (HasTreeOrRefusal source) (HaveOutcomeInTurn (IsSound symbols) (HasCode symbols))
    (tree_some laws source)
    (in_turn_some (IsSound symbols) (HasCode symbols) (sound_some symbols)
    (code_some symbols)))
    source

symbols_some : (language : Language) → HasOutcome (HasSymbolsIn language)
symbols_some language bytes = (symbols_in language bytes, refl)

outcome_some : Laws → (language : Language) (source symbols : List ℕ)
    → (x : Result Code RefusedFile) × HasOutcomeOfSourceIn language source symbols x
unfolding HasOutcomeOfSourceIn
outcome_some laws language source =
    in_turn_some (NamesRefusalOf InSymbols (HasSymbolsIn language)) (NamesRefusalOf InSource (IsCheckedWith source))
    (refusal_some InSymbols (HasSymbolsIn language) (symbols_some language))
    (refusal_some InSource (IsCheckedWith source) (with_some laws source))

abbrev MeansOrIsRefused : Language → (source symbols : List ℕ) → Type 0
MeansOrIsRefused language source symbols =
    ((code : Code) × MeansCodeIn language source symbols code)
    ⊎ ((refused : RefusedFile) × IsRefusedSourceIn language source symbols refused)

by_outcome : (language : Language) (source symbols : List ℕ)
    → (x : Result Code RefusedFile) × HasOutcomeOfSourceIn language source symbols x
    → MeansOrIsRefused language source symbols
by_outcome language source symbols (Ok code, outcome) = inl (code, outcome)
by_outcome language source symbols (Err refused, outcome) = inr (refused, outcome)

pub each_has_outcome : Laws → HasEachSourceOutcome
each_has_outcome laws language source symbols =
    by_outcome language source symbols (outcome_some laws language source symbols)
