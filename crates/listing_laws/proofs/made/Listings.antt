-- A listing compiles back to its program: the parts of its rules joined, and sources as files hold them.
use Rattle.std.proofs.Common.{◌≡◌, ◌≤◌, ℕ, List, [], ap, ◌∙◌, sym, subst, length}
use Rattle.flat_code.specs.Programs.{Program}
use Rattle.stl_ast.specs.declared.blocks.Block.{Block}
use Rattle.stl_lexer.specs.Limits.{source_limit}
use Rattle.stl_symbols.specs.Symbol.{Symbol}
use Rattle.stl_symbols.specs.Symbols.{symbols_limit}
use Rattle.stl_symbols.specs.declared.languages.Language.TheVariants.{English}
use Rattle.block_layout.specs.Measures.{types_of_source}
use Rattle.block_layout.specs.Rule44.{rule_44}
use Rattle.block_layout.specs.Types.{Types}
use Rattle.block_layout.specs.declared.blocks.BlockLayout.{BlockLayout}
use Rattle.stl_types.specs.Bodies.{first_context}
use Rattle.block_layout.specs.Layouts.{layouts_of}
use Rattle.stl_types.specs.Context.{Context}
use Rattle.stl_list.specs.Listing.{listed_source}
use Rattle.stl_list.specs.Symbols.{listed_names}
use Rattle.sem_kept.specs.Compiles.{CompilesTo}
use Rattle.sem_kept.proofs.RunLemmas.{accepted}
use Rattle.listing_laws.specs.ListedSource.{listed_tree_again}
use Rattle.listing_laws.specs.ListingCompiles.{AreListingsCompiled, ListingsCompile}
use Rattle.listing_laws.specs.Instances.{AreListedSettingsRight}
use Rattle.listing_laws.specs.RightBodies.{AreListedBodiesRight}
use Rattle.listing_laws.specs.Whole.{AreBlocksRightAgain}
use Rattle.listing_laws.proofs.IdLemmas.{source_symbols}
use Rattle.listing_laws.proofs.made.Compiled.{AreLayoutsRight, AreStatementsRight}
use Rattle.listing_laws.proofs.made.Refusals.{by_20, by_23, by_41, by_42}

-- ---- the rules of layouts and of statements

pub layouts_right : AreBlocksRightAgain → AreListedSettingsRight → AreListedBodiesRight → AreLayoutsRight
layouts_right heads settings bodies source file symbols t accepted bytes file_bytes others whole =
    let h = heads source file symbols t accepted bytes file_bytes others in
    let s = settings source file symbols t accepted bytes file_bytes others whole in
    let b = bodies source file symbols t accepted bytes file_bytes others whole in
    record {
      by_21 = h.by_21;
      by_22 = h.by_22;
      by_23 = by_23 y blocks h.heads_23 h.declared_23 b.by_23;
      by_41 = by_41 l blocks h.declared_41 s.by_41;
      by_42 = by_42 y l blocks h.declared_42 s.by_42 b.by_42;
      by_43 = h.by_43;
      by_44 = subst (λ (z : List Symbol). rule_44 z blocks ≡ []) (sym (source_symbols others blocks)) h.by_44;
      by_50 = h.by_50;
      by_51 = h.by_51;
      by_52 = h.by_52;
      by_53 = h.by_53;
      by_54 = h.by_54;
      by_55 = h.by_55;
      by_56 = h.by_56;
    }
  where
    blocks : List Block
    blocks = (listed_tree_again symbols t).blocks

    y : Types
    y = types_of_source others blocks

    l : List BlockLayout
    l = layouts_of (listed_tree_again symbols t) others

pub statements_right : AreListedSettingsRight → AreListedBodiesRight → AreStatementsRight
statements_right settings bodies source file symbols t accepted bytes file_bytes others whole =
    let s = settings source file symbols t accepted bytes file_bytes others whole in
    let b = bodies source file symbols t accepted bytes file_bytes others whole in
    record {
      by_20 = by_20 c blocks s.by_20 b.by_20;
      by_24 = b.by_24;
      by_dates = b.dates;
      by_26 = b.by_26;
      by_27 = b.by_27;
      by_29 = b.by_29;
      by_30 = b.by_30;
      by_31 = b.by_31;
      by_32 = b.by_32;
      by_33 = b.by_33;
      by_34 = b.by_34;
      by_35 = b.by_35;
      by_36 = b.by_36;
      by_37 = b.by_37;
      by_38 = b.by_38;
      by_40 = b.by_40;
      by_46 = b.by_46;
      by_47 = b.by_47;
      by_48 = b.by_48;
      by_49 = b.by_49;
    }
  where
    blocks : List Block
    blocks = (listed_tree_again symbols t).blocks

    c : Context
    c = first_context others (layouts_of (listed_tree_again symbols t) others) blocks

-- ---- sources as files hold them

pub listings_compile : AreListingsCompiled → ListingsCompile
listings_compile compiled language source symbols p files made short few =
    subst (λ (q : Program). CompilesTo English (listed_source q) (listed_names q.names) q) made.program
    (compiled source symbols made.list made.tree
    (accepted language source symbols made.list made.tokens made.tree files made.named made.lexed made.parsed made.right)
    files.source_bytes files.symbols_bytes
    (subst (λ (q : Program). length (listed_source q) ≤ source_limit) (sym made.program) short)
    (subst (λ (q : Program). length (listed_names q.names) ≤ symbols_limit) (sym made.program) few))
