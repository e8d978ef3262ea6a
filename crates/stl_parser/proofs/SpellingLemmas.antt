-- A list of clauses spells one tree at most: the tree is read off the clauses, from the last to the first.
use Rattle.std.proofs.Common.{ℕ, ◌≡◌, Bool, true, false, List, [], ◌∷◌, ◌++◌, map, filter, Option, Some, None, if◌then◌else◌, refl, sym, ◌∙◌, ap, subst}
use Rattle.std.specs.List.{flat_map}
use Rattle.std.specs.List.{AllByRecursion}
use Rattle.std.proofs.lemmas.List.Elements.{recursion_from_All, filter_passes}
use Rattle.std.proofs.lemmas.Bool.{false≢true}
use Rattle.stl_ast.specs.declared.blocks.Block.{Block}
use Rattle.stl_ast.specs.declared.blocks.Part.{Part}
use Rattle.stl_ast.specs.declared.blocks.Setting.{Setting}
use Rattle.stl_ast.specs.declared.blocks.Tree.{Tree}
use Rattle.stl_ast.specs.declared.declarations.Bounds.{Bounds}
use Rattle.stl_ast.specs.declared.declarations.Declaration.{Declaration}
use Rattle.stl_ast.specs.declared.declarations.ElementType.{ElementType}
use Rattle.stl_ast.specs.declared.declarations.ElementType.TheVariants as element
use Rattle.stl_ast.specs.declared.declarations.TypeTree.{TypeTree}
use Rattle.stl_ast.specs.declared.names.BlockName.{BlockName}
use Rattle.stl_ast.specs.declared.statements.Statement.{Statement}
use Rattle.stl_parser.specs.declared.clauses.Clause.{Clause}
use Rattle.stl_parser.specs.declared.clauses.Clause.TheVariants as clause
use Rattle.stl_parser.specs.Spelling.{is_kept_by_tree, is_udt, unspelled_clauses, spelled_part, spelled_type, spelled_shape, spelled_block}
use Rattle.stl_parser.specs.Source.{IsTreeUnique, TreeExcludesViolation}
use Rattle.stl_parser.proofs.LawLemmas.{one_list, list_or_violation}

-- what is read of a block from its end on, and the blocks behind it: `pending` are declarations whose section or
-- structure is yet to come
record Open : Type 0 where
  end_line : ℕ
  body : List Statement
  settings : List Setting
  shape : Option TypeTree
  instance_of : Option BlockName
  components : List Declaration
  parts : List Part
  pending : List Declaration
  blocks : List Block

-- nothing is read but the END clause and the blocks behind it
abbrev open_at_end : ℕ → List Block → Open
open_at_end line bs =
    record {
      end_line = line;
      body = [];
      settings = [];
      shape = None;
      instance_of = None;
      components = [];
      parts = [];
      pending = [];
      blocks = bs;
    }

abbrev with_body : List Statement → Open → Open
with_body xs o = record o { body = xs }

abbrev with_settings : List Setting → Open → Open
with_settings xs o = record o { settings = xs }

abbrev with_pending : List Declaration → Open → Open
with_pending xs o = record o { pending = xs }

abbrev with_parts : List Part → Open → Open
with_parts xs o = record o { parts = xs }

abbrev with_shape : Option TypeTree → Option BlockName → List Declaration → Open → Open
with_shape s i ds o = record o { shape = s; instance_of = i; components = ds }

abbrev single : ElementType → Option TypeTree
single of_ = Some (record { arrays = []; of = of_ })

-- a name stands for a user-defined data type, or for the function block of an instance
abbrev based_on : Bool → BlockName → Open → Open
based_on true name o = with_shape (single (element.Udt name)) None [] o
based_on false name o = with_shape None (Some name) [] o

-- one clause more, in front of what is read
abbrev open_with_clause : Clause → Open → Open
open_with_clause (clause.Head line k name result) o =
    open_at_end 0
    (record {
      line = line;
      end_line = o.end_line;
      kind = k;
      name = name;
      result = result;
      parts = o.parts;
      shape = o.shape;
      components = o.components;
      instance_of = o.instance_of;
      settings = o.settings;
      body = o.body;
    } ∷ o.blocks)
open_with_clause (clause.Ends line k) o = open_at_end line o.blocks
open_with_clause (clause.Section line k) o = with_pending [] (with_parts (record { line = line; kind = k; items = o.pending } ∷ o.parts) o)
open_with_clause clause.EndSection o = o
open_with_clause clause.Begins o = o
open_with_clause clause.Network o = o
open_with_clause clause.Structure o = with_pending [] (with_shape (single element.Structure) None o.pending o)
open_with_clause clause.EndStructure o = o
open_with_clause (clause.Based name) o = based_on (is_udt name) name o
open_with_clause clause.Note o = o
open_with_clause clause.Title o = o
open_with_clause (clause.Declares d) o = with_pending (d ∷ o.pending) o
open_with_clause (clause.Sets s) o = with_settings (s ∷ o.settings) o
open_with_clause (clause.Runs s) o = with_body (s ∷ o.body) o

-- some clauses more
abbrev open_with_clauses : List Clause → Open → Open
open_with_clauses [] o = o
open_with_clauses (c ∷ cs) o = open_with_clause c (open_with_clauses cs o)

with_both : (cs ds : List Clause) (o : Open) → open_with_clauses (cs ++ ds) o ≡ open_with_clauses cs (open_with_clauses ds o)
with_both [] ds o = refl
with_both (c ∷ cs) ds o = ap (open_with_clause c) (with_both cs ds o)

bodies : (xs : List Statement) (o : Open) → open_with_clauses (map clause.Runs xs) (with_body [] o) ≡ with_body xs o
bodies [] o = refl
bodies (x ∷ xs) o = ap (open_with_clause (clause.Runs x)) (bodies xs o)

all_settings : (xs : List Setting) (o : Open) → open_with_clauses (map clause.Sets xs) (with_settings [] o) ≡ with_settings xs o
all_settings [] o = refl
all_settings (x ∷ xs) o = ap (open_with_clause (clause.Sets x)) (all_settings xs o)

declarations_pending : (xs : List Declaration) (o : Open) → open_with_clauses (map clause.Declares xs) (with_pending [] o) ≡ with_pending xs o
declarations_pending [] o = refl
declarations_pending (x ∷ xs) o = ap (open_with_clause (clause.Declares x)) (declarations_pending xs o)

sections : (ps : List Part) (o : Open) →
    open_with_clauses (flat_map spelled_part ps) (with_parts [] (with_pending [] o)) ≡ with_parts ps (with_pending [] o)
sections [] o = refl
sections (p ∷ ps) o =
    with_both (spelled_part p) (flat_map spelled_part ps) (with_parts [] (with_pending [] o))
    ∙ ap (open_with_clauses (spelled_part p)) (sections ps o)
    ∙ ap (open_with_clause (clause.Section p.line p.kind)) (declarations_pending p.items (with_parts ps o))

-- all of the clauses are kept
abbrev AreAllKept : List Clause → Type 0
AreAllKept cs = AllByRecursion (λ c. is_kept_by_tree c ≡ true) cs

kept_left : (cs ds : List Clause) → AreAllKept (cs ++ ds) → AreAllKept cs
kept_left [] ds h = tt
kept_left (c ∷ cs) ds h = (h.0, kept_left cs ds h.1)

kept_right : (cs ds : List Clause) → AreAllKept (cs ++ ds) → AreAllKept ds
kept_right [] ds h = h
kept_right (c ∷ cs) ds h = kept_right cs ds h.1

not_nowhere : AreAllKept unspelled_clauses → ⊥
not_nowhere h = false≢true h.0

-- no shape is read
abbrev shapeless : Open → Open
shapeless o = with_shape None None [] (with_pending [] o)

udt_of : (name : BlockName) (b : Bool) (o : Open) → is_udt name ≡ b → AreAllKept (if b then clause.Based name ∷ [] else unspelled_clauses) →
    open_with_clauses (if b then clause.Based name ∷ [] else unspelled_clauses) (shapeless o)
    ≡ with_shape (single (element.Udt name)) None [] (with_pending [] o)
udt_of name true o same h = ap (λ b. based_on b name (shapeless o)) same
udt_of name false o same h = absurd (not_nowhere h)

instance : (name : BlockName) (b : Bool) (o : Open) → is_udt name ≡ b → AreAllKept (if b then unspelled_clauses else clause.Based name ∷ []) →
    open_with_clauses (if b then unspelled_clauses else clause.Based name ∷ []) (shapeless o) ≡ with_shape None (Some name) [] (with_pending [] o)
instance name true o same h = absurd (not_nowhere h)
instance name false o same h = ap (λ b. based_on b name (shapeless o)) same

spelled_type_kept : (arrays : List Bounds) (of_ : ElementType) (ds : List Declaration) (o : Open) → AreAllKept (spelled_type arrays of_ ds) →
    open_with_clauses (spelled_type arrays of_ ds) (shapeless o)
    ≡ with_shape (Some (record { arrays = arrays; of = of_ })) None ds (with_pending [] o)
spelled_type_kept [] (element.Plain k) ds o h = absurd (not_nowhere h)
spelled_type_kept [] element.Structure ds o h = ap (open_with_clause clause.Structure) (declarations_pending ds (shapeless o))
spelled_type_kept [] (element.Udt name) [] o h = udt_of name (is_udt name) o refl h
spelled_type_kept [] (element.Udt name) (d ∷ ds) o h = absurd (not_nowhere h)
spelled_type_kept [] element.DateAndTime ds o h = absurd (not_nowhere h)
spelled_type_kept (b ∷ bs) of_ ds o h = absurd (not_nowhere h)

spelled_shape_kept : (s : Option TypeTree) (i : Option BlockName) (ds : List Declaration) (o : Open) → AreAllKept (spelled_shape s i ds) →
    open_with_clauses (spelled_shape s i ds) (shapeless o) ≡ with_shape s i ds (with_pending [] o)
spelled_shape_kept None None [] o h = refl
spelled_shape_kept None None (d ∷ ds) o h = absurd (not_nowhere h)
spelled_shape_kept None (Some name) [] o h = instance name (is_udt name) o refl h
spelled_shape_kept None (Some name) (d ∷ ds) o h = absurd (not_nowhere h)
spelled_shape_kept (Some of_) None ds o h = spelled_type_kept of_.arrays of_.of ds o h
spelled_shape_kept (Some of_) (Some name) ds o h = absurd (not_nowhere h)

-- a whole block
abbrev tail_of : Block → List Clause
tail_of b = map clause.Runs b.body ++ clause.Ends b.end_line b.kind ∷ []

abbrev data_of : Block → List Clause
data_of b = map clause.Sets b.settings ++ tail_of b

abbrev clauses_inside : Block → List Clause
clauses_inside b = spelled_shape b.shape b.instance_of b.components ++ data_of b

whole_block : (b : Block) (bs : List Block) → AreAllKept (spelled_block b) → open_with_clauses (spelled_block b) (open_at_end 0 bs) ≡ open_at_end 0 (b ∷ bs)
whole_block b bs h =
    let none = open_at_end 0 bs in
    let shape = spelled_shape b.shape b.instance_of b.components in
    let kept : AreAllKept shape = kept_left shape (data_of b) (kept_right (flat_map spelled_part b.parts) (clauses_inside b) h.1) in
    let o0 = open_at_end b.end_line bs in
    let o1 = with_body b.body o0 in
    let o2 = with_settings b.settings o1 in
    let o3 = with_shape b.shape b.instance_of b.components o2 in
    let e1 : open_with_clauses (tail_of b) none ≡ o1 =
    with_both (map clause.Runs b.body) (clause.Ends b.end_line b.kind ∷ []) none ∙ bodies b.body o0 in
    let e2 : open_with_clauses (data_of b) none ≡ o2 =
    with_both (map clause.Sets b.settings) (tail_of b) none ∙ ap (open_with_clauses (map clause.Sets b.settings)) e1
    ∙ all_settings b.settings o1 in
    let e3 : open_with_clauses (clauses_inside b) none ≡ o3 =
    with_both shape (data_of b) none ∙ ap (open_with_clauses shape) e2 ∙ spelled_shape_kept b.shape b.instance_of b.components o2 kept in
    let e4 : open_with_clauses (flat_map spelled_part b.parts ++ clauses_inside b) none ≡ with_parts b.parts o3 =
    with_both (flat_map spelled_part b.parts) (clauses_inside b) none ∙ ap (open_with_clauses (flat_map spelled_part b.parts)) e3
    ∙ sections b.parts o3 in
    ap (open_with_clause (clause.Head b.line b.kind b.name b.result)) e4

-- the blocks are read off their clauses
all_blocks : (bs : List Block) → AreAllKept (flat_map spelled_block bs) → open_with_clauses (flat_map spelled_block bs) (open_at_end 0 []) ≡ open_at_end 0 bs
all_blocks [] h = refl
all_blocks (b ∷ bs) h =
    with_both (spelled_block b) (flat_map spelled_block bs) (open_at_end 0 [])
    ∙ ap (open_with_clauses (spelled_block b)) (all_blocks bs (kept_right (spelled_block b) (flat_map spelled_block bs) h))
    ∙ whole_block b bs (kept_left (spelled_block b) (flat_map spelled_block bs) h)

same_tree : (t u : Tree) → AreAllKept (flat_map spelled_block t.blocks) → flat_map spelled_block t.blocks ≡ flat_map spelled_block u.blocks →
    t ≡ u
same_tree t u kept same =
    let read : List Clause → Tree = λ cs. record { blocks = (open_with_clauses cs (open_at_end 0 [])).blocks } in
    let tree_of : Open → Tree = λ o. record { blocks = o.blocks } in
    sym (ap tree_of (all_blocks t.blocks kept)) ∙ ap read same ∙ ap tree_of (all_blocks u.blocks (subst AreAllKept same kept))

all_kept : (cs ds : List Clause) → cs ≡ filter is_kept_by_tree ds → AreAllKept cs
all_kept cs ds those =
    subst AreAllKept (sym those) (recursion_from_All (λ c. is_kept_by_tree c ≡ true) (filter is_kept_by_tree ds) (filter_passes is_kept_by_tree ds))

pub one_tree : IsTreeUnique
one_tree source tokens t u a b =
    let same = one_list source tokens a.clauses b.clauses a.reads b.reads in
    same_tree t u (all_kept _ a.clauses a.those) (a.those ∙ ap (filter is_kept_by_tree) same ∙ sym b.those)

pub tree_or_violation : TreeExcludesViolation
tree_or_violation source tokens t line rule a v = list_or_violation source tokens a.clauses line rule a.reads v
