-- The bodies of a listing break no rule.
use Rattle.std.proofs.Common.{◌≡◌, ℕ, zero, suc, ◌+◌, ◌≤◌, Bool, true, false, List, [], ◌∷◌, ◌++◌, length, Option, Some, None, refl, sym, ap, subst, ◌∙◌, add-one, arith}
use Rattle.std.specs.Prelude.{slice_get, nat_lt}
use Rattle.std.specs.List.{AllByRecursion, flat_map}
use Rattle.std.proofs.lemmas.Bool.{ltb-false, ltb-true}
use Rattle.plc_base.specs.Least.{broken_if}
use Rattle.plc_base.specs.declared.blocks.BlockId.{BlockId}
use Rattle.plc_base.specs.declared.refusals.Refusal.{Refusal}
use Rattle.flat_code.specs.Programs.{DataBlock, Program}
use Rattle.stl_ast.specs.Literals.{AreBytes}
use Rattle.stl_ast.specs.declared.blocks.Block.{Block}
use Rattle.stl_ast.specs.declared.blocks.Tree.{Tree}
use Rattle.stl_ast.specs.declared.statements.Statement.{Statement}
use Rattle.stl_symbols.specs.Symbol.{Symbol}
use Rattle.block_layout.specs.ByPlace.{by_place}
use Rattle.block_layout.specs.Layouts.{layouts_of}
use Rattle.block_layout.specs.Measures.{types_of_source}
use Rattle.block_layout.specs.Operands.{in_body}
use Rattle.block_layout.specs.Rule23.{operand_23}
use Rattle.block_layout.specs.Rule42.{operand_42}
use Rattle.block_layout.specs.Types.{Types}
use Rattle.block_layout.specs.declared.blocks.BlockLayout.{BlockLayout}
use Rattle.stl_types.specs.Bodies.{in_bodies, in_contexts}
use Rattle.stl_types.specs.Brackets.{closes_no_bracket, is_eighth_bracket, brackets_left_open, rule_29, rule_30, rule_31, with_brackets}
use Rattle.stl_types.specs.Calls.{call_37, calls_unknown, dates_in, has_wrong_instance, is_bare_call, lacks_actual, rule_24_of_actuals, rule_34, rule_35, rule_36, rule_37, rule_38, rule_40, rule_46, actuals_supplied_twice, actuals_without_formal}
use Rattle.stl_types.specs.Context.{Context}
use Rattle.stl_types.specs.Labels.{labels_of, labels_twice, rule_26, rule_27, unknown_labels}
use Rattle.stl_types.specs.Landings.{rule_33}
use Rattle.stl_types.specs.Lists.{lists_from, rule_32}
use Rattle.stl_types.specs.Operands.{operands_24, rules_24_25_39}
use Rattle.stl_types.specs.Unknown.{operand_20}
use Rattle.stl_types.specs.Zones.{ends_no_zone, is_ninth_zone, rule_47, rule_48, rule_49, with_zones, zones_left_open}
use Rattle.stl_list.specs.CodeBlocks.{in_lines, line_reached, listed_blocks}
use Rattle.stl_list.specs.DataBlocks.{listed_data, listed_data_blocks}
use Rattle.stl_list.specs.Listing.{listed_tree}
use Rattle.stl_list.specs.Signatures.{Signature, formals_of_block}
use Rattle.sem_kept.specs.AcceptedSource.{IsAccepted, program_in}
use Rattle.sem_kept.specs.SettledStatements.{context_at}
use Rattle.sem_kept.proofs.accepted.Accepted.{AllFrom}
use Rattle.block_layout.proofs.CommonLemmas.{all_there}
use Rattle.block_layout.proofs.LayoutLemmas.{measured_symbols}
use Rattle.sem_kept.proofs.accepted.OperandsViews.{ids_same}
use Rattle.listing_laws.specs.ListedSource.{IsMadeOf, IsWholeAgain, again_at, listed_tree_again, source_context_at}
use Rattle.listing_laws.specs.CallsAgain.{IsRightStatement}
use Rattle.listing_laws.specs.ListedDeclarations.{signatures_in}
use Rattle.listing_laws.specs.Instructions.{IsRightOperand}
use Rattle.listing_laws.specs.RightBodies.{AreBodiesRight, AreListedBodiesRight}
use Rattle.listing_laws.proofs.made.Found.{data_found}
use Rattle.listing_laws.proofs.made.Origins.{blocks_count, lines_count, made_of_source, tree_blocks}
use Rattle.listing_laws.proofs.remade.Calls.{calls_again}
use Rattle.listing_laws.proofs.remade.Parameters.{parameters_again}
use Rattle.listing_laws.proofs.remade.Right.{operands_right}
use Rattle.listing_laws.proofs.right.Bodies.{IsBodyReady, IsRightBody, by_calls, made_right, none_right}
use Rattle.listing_laws.proofs.right.Named.{AreTypesOf}
use Rattle.listing_laws.proofs.right.Words.{crossing_in, listed_is}

-- ---- rules over the blocks of a tree

empty_both : {A : Type 0} (xs ys : List A) → xs ≡ [] → ys ≡ [] → xs ++ ys ≡ []
empty_both xs ys e h = ap (λ (z : List _). z ++ ys) e ∙ h

-- what holds of each block by its place
from_each : (P : ℕ → Block → Type 0) (k : ℕ) (bs : List Block) → ((i : ℕ) (b : Block) → slice_get bs i ≡ Some b → P (k + i) b) → AllFrom P k bs
from_each P k [] h = tt
from_each P k (b ∷ bs) h = (
  subst (λ (n : ℕ). P n b) (first k) (h 0 b refl),
  from_each P (suc k) bs (λ i x e. subst (λ (n : ℕ). P n x) (next k i) (h (suc i) x e)),
)
  where
    first : (k : ℕ) → k + 0 ≡ k
    first k = omega arith

    next : (k i : ℕ) → k + suc i ≡ suc k + i
    next k i = omega arith

bodies_empty : (broken : List Statement → List Refusal) (k : ℕ) (bs : List Block) → AllFrom (λ k b. broken b.body ≡ []) k bs → in_bodies broken bs ≡ []
bodies_empty broken k [] h = refl
bodies_empty broken k (b ∷ bs) h = empty_both (broken b.body) (in_bodies broken bs) h.0 (bodies_empty broken (suc k) bs h.1)

contexts_empty : (broken : Context → List Statement → List Refusal) (symbols : List Symbol) (t : Tree) (k : ℕ) (bs : List Block)
    → AllFrom (λ k b. broken (context_at symbols t k) b.body ≡ []) k bs → in_contexts broken (context_at symbols t k) bs ≡ []
contexts_empty broken symbols t k [] h = refl
contexts_empty broken symbols t k (b ∷ bs) h =
    empty_both (broken (context_at symbols t k) b.body) (in_contexts broken (context_at symbols t (k + 1)) bs) h.0
    (ap (λ (n : ℕ). in_contexts broken (context_at symbols t n) bs) (add-one k) ∙ contexts_empty broken symbols t (suc k) bs h.1)

places_empty : (broken : ℕ → Block → List Refusal) (k : ℕ) (bs : List Block) → AllFrom (λ k b. broken k b ≡ []) k bs → by_place broken k bs ≡ []
places_empty broken k [] h = refl
places_empty broken k (b ∷ bs) h =
    empty_both (broken k b) (by_place broken (k + 1) bs) h.0 (ap (λ (n : ℕ). by_place broken n bs) (add-one k) ∙ places_empty broken (suc k) bs h.1)

all_from_mapped : (P Q : ℕ → Block → Type 0) → ((k : ℕ) (b : Block) → P k b → Q k b) → (k : ℕ) (bs : List Block) → AllFrom P k bs → AllFrom Q k bs
all_from_mapped P Q f k [] h = tt
all_from_mapped P Q f k (b ∷ bs) h = (f k b h.0, all_from_mapped P Q f (suc k) bs h.1)

-- each body breaks none
abbrev AreAllRight : (symbols : List Symbol) → Tree → Type 0
AreAllRight symbols t = AllFrom (λ k b. IsRightBody (types_of_source symbols t.blocks) (context_at symbols t k) b.body) 0 t.blocks

module _ (symbols : List Symbol) (t : Tree) (h : AreAllRight symbols t) where
  y : Types
  y = types_of_source symbols t.blocks

  each : (Q : ℕ → Block → Type 0) → ((k : ℕ) (b : Block) → IsRightBody (types_of_source symbols t.blocks) (context_at symbols t k) b.body → Q k b) → AllFrom Q 0 t.blocks
  each Q f = all_from_mapped (λ k b. IsRightBody (types_of_source symbols t.blocks) (context_at symbols t k) b.body) Q f 0 t.blocks h

  bodies : (broken : List Statement → List Refusal) → ((k : ℕ) (b : Block) → IsRightBody (types_of_source symbols t.blocks) (context_at symbols t k) b.body → broken b.body ≡ []) → in_bodies broken t.blocks ≡ []
  bodies broken f = bodies_empty broken 0 t.blocks (each (λ k b. broken b.body ≡ []) f)

  contexts : (broken : Context → List Statement → List Refusal) → ((k : ℕ) (b : Block) → IsRightBody (types_of_source symbols t.blocks) (context_at symbols t k) b.body → broken (context_at symbols t k) b.body ≡ [])
      → in_contexts broken (context_at symbols t 0) t.blocks ≡ []
  contexts broken f = contexts_empty broken symbols t 0 t.blocks (each (λ k b. broken (context_at symbols t k) b.body ≡ []) f)

  tree_right : AreBodiesRight (types_of_source symbols t.blocks) (context_at symbols t 0) t.blocks
  unfolding rules_24_25_39 rule_24_of_actuals rule_26 rule_27 rule_29 rule_30 rule_31 rule_32 rule_33 rule_34 rule_35 rule_36 rule_37 rule_38 rule_40 rule_46 rule_47 rule_48 rule_49
  tree_right = record {
    by_20 = contexts (λ c body. in_body (operand_20 c) body) (λ k b r. r.by_20);
    by_23 = bodies (λ body. in_body (operand_23 (types_of_source symbols t.blocks)) body) (λ k b r. r.by_23);
    by_24 = contexts operands_24 (λ k b r. r.by_24);
    dates = contexts dates_in (λ k b r. r.dates);
    by_26 = bodies (λ body. unknown_labels (labels_of body) body) (λ k b r. r.by_26);
    by_27 = bodies (λ body. labels_twice [] body) (λ k b r. r.by_27);
    by_29 = bodies (with_brackets (λ brackets s. broken_if (closes_no_bracket brackets s) s.line 29) []) (λ k b r. r.by_29);
    by_30 = bodies brackets_left_open (λ k b r. r.by_30);
    by_31 = bodies (with_brackets (λ brackets s. broken_if (is_eighth_bracket brackets s) s.line 31) []) (λ k b r. r.by_31);
    by_32 = bodies (λ body. lists_from [] body) (λ k b r. r.by_32);
    by_33 = bodies crossing_in (λ k b r. r.by_33);
    by_34 = contexts (by_calls (λ c callee s. actuals_without_formal callee.formals s.actuals)) (λ k b r. r.by_34);
    by_35 = contexts (by_calls (λ c callee s. actuals_supplied_twice callee.formals [] s.actuals)) (λ k b r. r.by_35);
    by_36 = contexts (by_calls (λ c callee s. broken_if (lacks_actual callee s) s.line 36)) (λ k b r. r.by_36);
    by_37 = contexts (by_calls call_37) (λ k b r. r.by_37);
    by_38 = contexts (by_calls (λ c callee s. broken_if (has_wrong_instance c callee s.operand) s.line 38)) (λ k b r. r.by_38);
    by_40 = contexts (by_calls (λ c callee s. broken_if (is_bare_call callee s) s.line 40)) (λ k b r. r.by_40);
    by_42 =
        places_empty (λ k b. in_body (operand_42 (types_of_source symbols t.blocks) (layouts_of t symbols) k) b.body) 0 t.blocks
        (each (λ k b. in_body (operand_42 (types_of_source symbols t.blocks) (layouts_of t symbols) k) b.body ≡ []) (λ k b r. r.by_42));
    by_46 = contexts (λ c body. flat_map (λ s. broken_if (calls_unknown c s.operand) s.line 46) body) (λ k b r. r.by_46);
    by_47 = bodies (with_zones (λ zones s. broken_if (ends_no_zone zones s) s.line 47) []) (λ k b r. r.by_47);
    by_48 = bodies zones_left_open (λ k b r. r.by_48);
    by_49 = bodies (with_zones (λ zones s. broken_if (is_ninth_zone zones s) s.line 49) []) (λ k b r. r.by_49);
  }

-- ---- the blocks of a listing

types_are : (symbols : List Symbol) (t : Tree) (k : ℕ) → AreTypesOf (types_of_source symbols t.blocks) (context_at symbols t k)
types_are symbols t k = record { symbols = measured_symbols symbols t.blocks; ids = sym (ids_same symbols t) }

-- behind the code blocks stand data blocks, which have no statements
bodiless : (signatures : List Signature) (line number : ℕ) (bytes : List ℕ) (of : Option ℕ) → (listed_data signatures line number bytes of).body ≡ []
bodiless signatures line number bytes None = refl
bodiless signatures line number bytes (Some of) = refl

all_bodiless : (signatures : List Signature) (line : ℕ) (ds : List DataBlock) → AllByRecursion (λ (x : Block). x.body ≡ []) (listed_data_blocks signatures line ds)
all_bodiless signatures line [] = tt
all_bodiless signatures line (d ∷ ds) = (bodiless signatures line d.number d.bytes d.instance_of, all_bodiless signatures line ds)

behind_front : {A : Type 0} (P : A → Type 0) (front rest : List A) (i : ℕ) (x : A) → length front ≤ i → slice_get (front ++ rest) i ≡ Some x → AllByRecursion P rest → P x
behind_front P [] rest i x le e h = all_there P rest i x h e
behind_front P (y ∷ front) rest zero x le e h = absurd (omega (arith, le))
behind_front P (y ∷ front) rest (suc i) x le e h = behind_front P front rest i x (omega (arith, le)) e h

data_bodiless : (p : Program) (i : ℕ) (x : Block) → length p.code_blocks ≤ i → slice_get (listed_tree p).blocks i ≡ Some x → x.body ≡ []
data_bodiless p i x le e =
    let names : List Signature = signatures_in p in
    let one = blocks_count names 1 (in_lines p.code_blocks) in
    let two = lines_count p.code_blocks in
    behind_front (λ (z : Block). z.body ≡ []) (listed_blocks names 1 (in_lines p.code_blocks)) (listed_data_blocks names (line_reached 1 (in_lines p.code_blocks)) p.data_blocks) i x
    (omega (arith, one, two, le)) (ap (λ (bs : List Block). slice_get bs i) (sym (tree_blocks p)) ∙ e) (all_bodiless names (line_reached 1 (in_lines p.code_blocks)) p.data_blocks)

-- ---- all of them

right_operands : (symbols : List Symbol) (ss : List Statement) → AllByRecursion (IsRightStatement symbols) ss → AllByRecursion (λ (s : Statement). IsRightOperand symbols s.operand) ss
right_operands symbols [] h = tt
right_operands symbols (s ∷ ss) h = (h.0.operand, right_operands symbols ss h.1)

-- what a body of an accepted source names and calls is there
body_ready : (source file : List ℕ) (symbols : List Symbol) (t : Tree) → IsAccepted source file symbols t → AreBytes source → AreBytes file → (others : List Symbol) → IsWholeAgain symbols t others
    → (again place : ℕ) (b : Block) (l : BlockLayout) (id : BlockId) → IsMadeOf symbols t again place b l id
    → IsBodyReady (source_context_at symbols t place) (again_at symbols t others again) (signatures_in (program_in symbols t)) (formals_of_block (signatures_in (program_in symbols t)) id) b.body
body_ready source file symbols t accepted bytes file_bytes others whole again place b l id made = record {
  has = record {
    data_blocks = data_found symbols t others place again whole;
    parameter = parameters_again source file symbols t accepted bytes file_bytes others whole again place b l id made;
  };
  operands = right_operands symbols b.body
      (all_there (λ (x : Block). AllByRecursion (IsRightStatement symbols) x.body) t.blocks place b (operands_right source file symbols t accepted bytes) made.source.block);
  calls = calls_again source file symbols t accepted bytes file_bytes others whole again place b l id made;
}

pub listed_bodies_right : AreListedBodiesRight
listed_bodies_right source file symbols t accepted bytes file_bytes others whole =
    tree_right others (listed_tree_again symbols t)
    (from_each (λ k b. IsRightBody (types_of_source others (listed_tree_again symbols t).blocks) (context_at others (listed_tree_again symbols t) k) b.body) 0 (listed_tree_again symbols t).blocks
    (λ i x e. subst (λ (n : ℕ). IsRightBody y (context_at others (listed_tree_again symbols t) n) x.body) (from_zero i) (at i x e)))
  where
    y : Types
    y = types_of_source others (listed_tree_again symbols t).blocks

    from_zero : (i : ℕ) → i ≡ 0 + i
    from_zero i = omega arith

    at : (i : ℕ) (x : Block) → slice_get (listed_tree_again symbols t).blocks i ≡ Some x → IsRightBody y (context_at others (listed_tree_again symbols t) i) x.body
    at i x e = by (nat_lt i (length (program_in symbols t).code_blocks)) refl
      where
        by : (code : Bool) → nat_lt i (length (program_in symbols t).code_blocks) ≡ code → IsRightBody y (context_at others (listed_tree_again symbols t) i) x.body
        by true low =
            let found = made_of_source source file symbols t accepted bytes file_bytes i (ltb-true i (length (program_in symbols t).code_blocks) low) in
            subst (λ (z : Block). IsRightBody y (context_at others (listed_tree_again symbols t) i) z.body) (listed_is symbols t i found.0 found.1 found.2 found.3 found.4 x e)
            (made_right source file symbols t accepted bytes i found.0 found.1 found.2 found.3 found.4 y others
            (types_are others (listed_tree_again symbols t) i)
            (body_ready source file symbols t accepted bytes file_bytes others whole i found.0 found.1 found.2 found.3 found.4))
        by false high =
            subst (λ (body : List Statement). IsRightBody y (context_at others (listed_tree_again symbols t) i) body)
            (sym (data_bodiless (program_in symbols t) i x (ltb-false i (length (program_in symbols t).code_blocks) high) e))
            (none_right y (context_at others (listed_tree_again symbols t) i))
