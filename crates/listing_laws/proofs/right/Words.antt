-- The listed bodies break none of the rules that go by instruction words, labels and lines alone.
use Rattle.std.proofs.Common.{◌≡◌, ℕ, List, [], Some, sym, ap, ◌∙◌}
use Rattle.std.specs.Prelude.{slice_get}
use Rattle.std.proofs.lemmas.Option.{same_Some}
use Rattle.plc_base.specs.declared.blocks.BlockId.{BlockId}
use Rattle.plc_base.specs.declared.refusals.Refusal.{Refusal}
use Rattle.stl_ast.specs.declared.blocks.Block.{Block}
use Rattle.stl_ast.specs.declared.blocks.Tree.{Tree}
use Rattle.stl_ast.specs.declared.statements.Statement.{Statement}
use Rattle.stl_symbols.specs.Symbol.{Symbol}
use Rattle.block_layout.specs.declared.blocks.BlockLayout.{BlockLayout}
use Rattle.stl_types.specs.Labels.{labels_of}
use Rattle.stl_types.specs.Landings.{crossing_jumps, landings_at_labels, empty_nesting}
use Rattle.stl_types.specs.Lists.{lists_from}
use Rattle.stl_codegen.specs.CompiledBlock.{compiled_block, lines_in}
use Rattle.stl_codegen.specs.GeneratedProgram.{code_block}
use Rattle.stl_list.specs.CodeBlocks.{listed_block}
use Rattle.stl_list.specs.Statements.{listing_context}
use Rattle.sem_kept.specs.AcceptedSource.{program_in}
use Rattle.sem_kept.proofs.accepted.Accepted.{IsSoundBody}
use Rattle.sem_kept.proofs.accepted.JumpsRules.{AreRightFrom, right_body}
use Rattle.listing_laws.specs.ListedSource.{IsMadeOf, listed_tree_again, source_context_at}
use Rattle.listing_laws.specs.ListedDeclarations.{signatures_in}
use Rattle.listing_laws.specs.JumpLists.{AreListsKept}
use Rattle.listing_laws.specs.ListedLandings.{AreLandingsKept}
use Rattle.listing_laws.specs.Statements.{statement_offset}
use Rattle.listing_laws.proofs.right.Numbered.{landings_kept, lists_kept}
use Rattle.listing_laws.proofs.right.Placed.{body_is, listed_as, source_block}

pub right_from : (body : List Statement) → IsSoundBody body → AreRightFrom body [] body
right_from body h = right_body body (record {
  by_26 = h.by_26;
  by_29 = h.by_29;
  by_31 = h.by_31;
  by_32 = h.by_32;
  by_33 = h.by_33;
  by_47 = h.by_47;
  by_49 = h.by_49;
})

-- the listed block at its place
pub listed_is : (symbols : List Symbol) (t : Tree) (again place : ℕ) (b : Block) (l : BlockLayout) (id : BlockId) (made : IsMadeOf symbols t again place b l id) (x : Block)
    → slice_get (listed_tree_again symbols t).blocks again ≡ Some x
    → listed_block (signatures_in (program_in symbols t)) made.reached (compiled_block (code_block (source_context_at symbols t place) b l id)) ≡ x
listed_is symbols t again place b l id made x e =
    same_Some (listed_block (signatures_in (program_in symbols t)) made.reached (compiled_block (code_block (source_context_at symbols t place) b l id))) x (sym made.listed ∙ e)

pub listed_lists : AreListsKept
listed_lists source file symbols t accepted bytes file_bytes again place b l id made x e =
    let c = source_context_at symbols t place in
    let stated = code_block c b l id in
    let sur = listing_context (signatures_in (program_in symbols t)) (lines_in stated.statements) (compiled_block stated) in
    let is = body_is source file symbols t accepted bytes again place b l id made in
    ap (λ (z : Block). lists_from [] z.body) (sym (listed_is symbols t again place b l id made x e))
    ∙ ap (lists_from []) is.is
    ∙ lists_kept b.body sur.targets (listed_as sur (statement_offset stated.statements) c b.body)
    (right_from b.body (source_block source file symbols t accepted again place b l id made).body) is.placed

abbrev pub crossing_in : List Statement → List Refusal
crossing_in body = crossing_jumps (labels_of body) (landings_at_labels empty_nesting body) body

pub listed_landings : AreLandingsKept
listed_landings source file symbols t accepted bytes file_bytes again place b l id made x e =
    let c = source_context_at symbols t place in
    let stated = code_block c b l id in
    let sur = listing_context (signatures_in (program_in symbols t)) (lines_in stated.statements) (compiled_block stated) in
    let is = body_is source file symbols t accepted bytes again place b l id made in
    ap (λ (z : Block). crossing_in z.body) (sym (listed_is symbols t again place b l id made x e))
    ∙ ap crossing_in is.is
    ∙ landings_kept b.body sur.targets (listed_as sur (statement_offset stated.statements) c b.body) is.placed
    (source_block source file symbols t accepted again place b l id made).body.by_33
