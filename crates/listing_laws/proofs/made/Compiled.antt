-- The listing of an accepted source's program compiles to this program, by what is known of its parts.
use Rattle.std.proofs.Common.{◌≡◌, ℕ, List, ◌++◌, map, sym, ap, ◌∙◌}
use Rattle.plc_base.specs.Least.{least}
use Rattle.plc_base.specs.declared.refusals.Refusal.{Refusal}
use Rattle.stl_ast.specs.Literals.{AreBytes}
use Rattle.stl_ast.specs.declared.blocks.Tree.{Tree}
use Rattle.stl_lexer.specs.Tokens.{AreTokens}
use Rattle.stl_lexer.specs.declared.kinds.Token.{Token}
use Rattle.stl_parser.specs.Source.{IsTree}
use Rattle.stl_symbols.specs.Symbol.{Symbol}
use Rattle.block_layout.specs.Layouts.{layouts_of}
use Rattle.block_layout.specs.Measures.{types_of_source}
use Rattle.stl_types.specs.Bodies.{first_context}
use Rattle.stl_types.specs.Table.{statement_refusals}
use Rattle.stl_codegen.specs.GeneratedProgram.{data_blocks_of, name_entries_of}
use Rattle.stl_list.specs.Listing.{listed_source, listed_tree}
use Rattle.sem_kept.specs.AcceptedSource.{IsAccepted, program_in}
use Rattle.sem_kept.proofs.accepted.Accepted.{LaysOutRight, StatesRight}
use Rattle.listing_laws.specs.ListedSource.{AreWholeAgain, IsWholeAgain, listed_tree_again}
use Rattle.listing_laws.specs.AgainBodies.{AreBodiesKeptAgain}
use Rattle.listing_laws.specs.ListingCompiles.{AreListingsCompiled}
use Rattle.listing_laws.specs.Names.{symbol_of}
use Rattle.listing_laws.proofs.SymbolOrderLemmas.{names_kept, names_read}
use Rattle.listing_laws.proofs.made.CodeBlocks.{code_blocks_kept}
use Rattle.listing_laws.proofs.made.Refusals.{no_layout_refusals, no_statement_refusals}

-- ---- what is asked of each listing of an accepted source's program

-- its text is read as its tree
abbrev pub AreReadAgain : Type 0
AreReadAgain =
    (source file : List ℕ) (symbols : List Symbol) (t : Tree) → IsAccepted source file symbols t → AreBytes source → AreBytes file
    → (tokens : List Token) × AreTokens (listed_source (program_in symbols t)) tokens × IsTree (listed_source (program_in symbols t)) tokens (listed_tree (program_in symbols t))

-- what holds of it, whatever symbols stand beside it, where none of its blocks breaks a rule as a whole
abbrev pub OfListings : ((symbols : List Symbol) → Tree → (others : List Symbol) → Type 0) → Type 0
OfListings P =
    (source file : List ℕ) (symbols : List Symbol) (t : Tree) → IsAccepted source file symbols t → AreBytes source → AreBytes file → (others : List Symbol) → IsWholeAgain symbols t others
    → P symbols t others

-- its data blocks are those of the program
abbrev pub AreDataBlocksKept : Type 0
AreDataBlocksKept =
    OfListings (λ symbols t others. data_blocks_of (listed_tree_again symbols t) others (layouts_of (listed_tree_again symbols t) others) ≡ (program_in symbols t).data_blocks)

-- it breaks no rule of layouts, and none of statements
abbrev pub AreLayoutsRight : Type 0
AreLayoutsRight =
    OfListings (λ symbols t others. LaysOutRight (types_of_source others (listed_tree_again symbols t).blocks) (layouts_of (listed_tree_again symbols t) others) (listed_tree_again symbols t).blocks)

abbrev pub AreStatementsRight : Type 0
AreStatementsRight =
    OfListings
    (λ symbols t others. StatesRight (first_context others (layouts_of (listed_tree_again symbols t) others) (listed_tree_again symbols t).blocks) (listed_tree_again symbols t).blocks)

-- ---- the law

pub listings_compiled : AreReadAgain → AreWholeAgain → AreBodiesKeptAgain → AreDataBlocksKept → AreLayoutsRight → AreStatementsRight → AreListingsCompiled
listings_compiled read whole bodies datas layouts statements source file symbols t accepted bytes file_bytes short few =
    let text = read source file symbols t accepted bytes file_bytes in
    let named = names_kept accepted.language file symbols accepted.named in
    let code = code_blocks_kept source file symbols t accepted bytes file_bytes others (bodies source file symbols t accepted bytes file_bytes others right) in
    let stored = datas source file symbols t accepted bytes file_bytes others right in
    record {
      list = others;
      tokens = text.0;
      tree = listed_tree_again symbols t;
      named = sym (names_read accepted.language file symbols accepted.named);
      lexed = text.1;
      parsed = text.2;
      right = ap least
          (ap (λ (z : List Refusal). z ++ statement_refusals (listed_tree_again symbols t) others (layouts_of (listed_tree_again symbols t) others))
          (no_layout_refusals others (listed_tree_again symbols t) (layouts source file symbols t accepted bytes file_bytes others right))
          ∙ no_statement_refusals others (listed_tree_again symbols t) (layouts_of (listed_tree_again symbols t) others)
          (statements source file symbols t accepted bytes file_bytes others right));
      program = λ i. record { code_blocks = code i; data_blocks = stored i; names = named i };
    }
  where
    others : List Symbol
    others = map symbol_of (name_entries_of symbols)

    right : IsWholeAgain symbols t others
    right = whole source file symbols t accepted bytes file_bytes others
