-- The program of a source that breaks no rule runs as the source means.
use Rattle.std.proofs.Common.{◌≡◌, refl, sym, ap, ◌∙◌, ℕ, List, Option, Some, None, Ok, arith}
use Rattle.plc_base.specs.declared.refusals.Refusal.{Refusal}
use Rattle.block_layout.specs.Layouts.{layouts_of}
use Rattle.block_layout.specs.Table.{layout_refusals}
use Rattle.stl_ast.specs.declared.blocks.Tree.{Tree}
use Rattle.stl_codegen.specs.GeneratedProgram.{code_blocks_of, data_blocks_of, name_entries_of}
use Rattle.stl_lexer.specs.declared.kinds.Token.{Token}
use Rattle.plc_base.specs.Least.{least, lesser}
use Rattle.stl_symbols.specs.Symbol.{Symbol}
use Rattle.stl_symbols.specs.declared.languages.Language.{Language}
use Rattle.plc_base.proofs.LeastLemmas.{least-append}
use Rattle.stl_types.specs.Table.{statement_refusals}
use Rattle.sem_kept.specs.AcceptedSource.{IsAccepted, program_in, AcceptedVerifies}
use Rattle.sem_kept.specs.VerifiedBlocks.{VerifiedIsCompilable}
use Rattle.sem_kept.specs.KeptProgram.{ProgramsAreKept}
use Rattle.sem_kept.specs.Agreement.{AreFiles, IsRunnable, ProgramsRun, names_among}
use Rattle.sem_kept.specs.Meaning.{HasSymbolsIn, HasTokens, HasTreeOrRefusal, refusals_of, sound_by, stated_code_of_tree, HasOutcomeOfSourceIn, MeansCodeIn}

means : (language : Language) (source symbols : List ℕ) (list : List Symbol) (tokens : List Token)
    (tree : Tree)
    → HasSymbolsIn language symbols (Ok list) → HasTokens source (Ok tokens)
    → HasTreeOrRefusal source tokens (Ok tree)
    → least (refusals_of list tree) ≡ None → MeansCodeIn language source symbols (stated_code_of_tree list tree)
unfolding HasOutcomeOfSourceIn
means language source symbols list tokens tree has_list has_tokens has_tree sound = (
  list,
  has_list,
  (tokens, has_tokens, (tree, has_tree, (tree, ap (sound_by tree) (sym sound), refl))),
)

-- neither of two lists has a refusal where both together have none
none_of_both : (a b : Option Refusal) → lesser a b ≡ None → (a ≡ None) × (b ≡ None)
unfolding lesser
none_of_both None b none = (refl, none)
none_of_both (Some r) None none = cc
none_of_both (Some r) (Some q) none = absurd (grind arith)

-- a source that compiles is accepted
pub accepted : (language : Language) (source symbols : List ℕ) (list : List Symbol)
    (tokens : List Token) (tree : Tree)
    → AreFiles source symbols
    → HasSymbolsIn language symbols (Ok list) → HasTokens source (Ok tokens)
    → HasTreeOrRefusal source tokens (Ok tree)
    → least (refusals_of list tree) ≡ None → IsAccepted source symbols list tree
accepted language source symbols list tokens tree are has_list has_tokens has_tree sound = record {
  short = are.source_short;
  file_short = are.symbols_short;
  language = language;
  named = sym has_list;
  tokens = tokens;
  lexed = has_tokens;
  parsed = has_tree;
  laid_out = neither.0;
  checked = neither.1;
}
  where
    layout : Option Refusal
    layout = least (layout_refusals tree list)

    statements : Option Refusal
    statements = least (statement_refusals tree list (layouts_of tree list))

    neither : (layout ≡ None) × (statements ≡ None)
    neither =
        none_of_both layout statements
        (sym (least-append (layout_refusals tree list)
        (statement_refusals tree list (layouts_of tree list)))
        ∙ sound)

pub programs_run : AcceptedVerifies → VerifiedIsCompilable → ProgramsAreKept → ProgramsRun
programs_run verifies compilable kept language profile source symbols list tokens tree are has_list has_tokens has_tree sound = record {
  runnable = runnable;
  names = ap names_among has_list;
  runs = (
    stated_code_of_tree list tree,
    means language source symbols list tokens tree has_list has_tokens has_tree sound,
    kept profile (code_blocks_of tree list (layouts_of tree list))
        (data_blocks_of tree list (layouts_of tree list)) (name_entries_of list)
        (compilable tree list (layouts_of tree list) runnable.verifies),
  );
}
  where
    is : IsAccepted source symbols list tree
    is = accepted language source symbols list tokens tree are has_list has_tokens has_tree sound

    runnable : IsRunnable (program_in list tree)
    runnable =
        let both = verifies source symbols list tree is are.source_bytes are.symbols_bytes in
        record { is = both.0; verifies = both.1 }
