-- What a tree keeps of the clauses that are printed of it; the tree is read.
use Rattle.std.proofs.Common.{◌≡◌, refl, sym, ◌∙◌, ap, subst, ℕ, Bool, true, false, List, [], ◌∷◌, ◌++◌, map, filter, Option, Some, None, append_assoc, inl, inr}
use Rattle.std.specs.Prelude.{if◌then◌else◌}
use Rattle.std.specs.List.{AllByRecursion, flat_map}
use Rattle.plc_base.specs.Kinds.{is_data_type}
use Rattle.plc_base.specs.declared.blocks.BlockKind.{BlockKind}
use Rattle.plc_base.specs.declared.blocks.BlockKind.TheVariants as kinds
use Rattle.stl_ast.specs.declared.blocks.Block.{Block}
use Rattle.stl_ast.specs.declared.blocks.Part.{Part}
use Rattle.stl_ast.specs.declared.blocks.Setting.{Setting}
use Rattle.stl_ast.specs.declared.declarations.Declaration.{Declaration}
use Rattle.stl_ast.specs.declared.declarations.ElementType.TheVariants as element
use Rattle.stl_ast.specs.declared.declarations.Simple.{Simple}
use Rattle.stl_ast.specs.declared.declarations.TypeTree.{TypeTree}
use Rattle.stl_ast.specs.declared.names.BlockName.{BlockName}
use Rattle.stl_ast.specs.declared.names.BlockName.TheVariants as block
use Rattle.stl_ast.specs.declared.statements.Statement.{Statement}
use Rattle.stl_parser.specs.Frame.{next_place, next_place_behind_shape}
use Rattle.stl_parser.specs.Spelling.{is_kept_by_tree, is_udt, unspelled_clauses, spelled_block, spelled_part, spelled_shape}
use Rattle.stl_parser.specs.declared.clauses.Clause.{Clause}
use Rattle.stl_parser.specs.declared.clauses.Clause.TheVariants as clause
use Rattle.stl_parser.specs.declared.places.ClausePlace.TheVariants as place
use Rattle.stl_print.specs.Trees.{begin_clauses, block_clauses, instance_clauses, part_clauses, pieces_of_tree, shape_clauses, type_clauses}
use Rattle.print_laws.specs.Reading.{ArePrintedTreesRead, IsCodeBlock, IsPrintedDataShape, IsFunctionBlock, IsNumberedBlockOf, IsPrintedBlock, IsPrintedData, IsPrintedDeclaration, IsPrintedPart, IsPrintedSetting}
use Rattle.print_laws.proofs.parsing.Trees.{all_components, all_printed, all_set, based_step, begin_step, code_clauses, code_is, code_walk, data_ends, flat_declared, head_step, no_function, structure_end_step, structure_step}
use Rattle.print_laws.proofs.parsing.Walks.{Walk, walk_joined, walk_read}

-- ---- clauses that are kept

kept_joined : (cs ds : List Clause) → filter is_kept_by_tree (cs ++ ds) ≡ filter is_kept_by_tree cs ++ filter is_kept_by_tree ds
kept_joined [] ds = refl
kept_joined (c ∷ cs) ds = by (is_kept_by_tree c) (kept_joined cs ds)
  where
    by : (b : Bool) → filter is_kept_by_tree (cs ++ ds) ≡ filter is_kept_by_tree cs ++ filter is_kept_by_tree ds
        → (if b then c ∷ filter is_kept_by_tree (cs ++ ds) else filter is_kept_by_tree (cs ++ ds)) ≡ (if b then c ∷ filter is_kept_by_tree cs else filter is_kept_by_tree cs) ++ filter is_kept_by_tree ds
    by true e = ap (λ (l : List Clause). c ∷ l) e
    by false e = e

kept_runs : (ss : List Statement) → filter is_kept_by_tree (map clause.Runs ss) ≡ map clause.Runs ss
kept_runs [] = refl
kept_runs (s ∷ ss) = ap (λ (l : List Clause). clause.Runs s ∷ l) (kept_runs ss)

kept_sets : (ss : List Setting) → filter is_kept_by_tree (map clause.Sets ss) ≡ map clause.Sets ss
kept_sets [] = refl
kept_sets (s ∷ ss) = ap (λ (l : List Clause). clause.Sets s ∷ l) (kept_sets ss)

kept_declares : (ds : List Declaration) (cs : List Clause) → filter is_kept_by_tree (map clause.Declares ds ++ cs) ≡ map clause.Declares ds ++ filter is_kept_by_tree cs
kept_declares [] cs = refl
kept_declares (d ∷ ds) cs = ap (λ (l : List Clause). clause.Declares d ∷ l) (kept_declares ds cs)

all_kept : (cs : List Clause) → cs ++ [] ≡ cs
all_kept [] = refl
all_kept (c ∷ cs) = ap (λ (l : List Clause). c ∷ l) (all_kept cs)

kept_part : (k : BlockKind) (p : Part) → IsPrintedPart k p → filter is_kept_by_tree (part_clauses p) ≡ spelled_part p
unfolding part_clauses
kept_part k p h =
    ap (λ (cs : List Clause). clause.Section p.line p.kind ∷ filter is_kept_by_tree (cs ++ clause.EndSection ∷ [])) (flat_declared p.items (all_printed k p.kind p.items h.items))
    ∙ ap (λ (l : List Clause). clause.Section p.line p.kind ∷ l) (kept_declares p.items (clause.EndSection ∷ []) ∙ all_kept (map clause.Declares p.items))

kept_parts : (k : BlockKind) (ps : List Part) → AllByRecursion (IsPrintedPart k) ps → filter is_kept_by_tree (flat_map part_clauses ps) ≡ flat_map spelled_part ps
kept_parts k [] h = refl
kept_parts k (p ∷ ps) h =
    kept_joined (part_clauses p) (flat_map part_clauses ps)
    ∙ ap (λ (l : List Clause). l ++ filter is_kept_by_tree (flat_map part_clauses ps)) (kept_part k p h.0)
    ∙ ap (λ (l : List Clause). spelled_part p ++ l) (kept_parts k ps h.1)

kept_begin : (k : BlockKind) → filter is_kept_by_tree (begin_clauses k) ≡ []
kept_begin k = by (is_data_type k)
  where
    by : (b : Bool) → filter is_kept_by_tree (if b then [] else clause.Begins ∷ []) ≡ []
    by true = refl
    by false = refl

-- ---- code blocks

-- what a tree keeps of a code block
abbrev kept_code : Block → List Clause
kept_code b =
    clause.Head b.line b.kind b.name b.result
    ∷ (flat_map spelled_part b.parts ++ (map clause.Runs b.body ++ clause.Ends b.end_line b.kind ∷ []))

code_kept : (b : Block) → IsCodeBlock b → filter is_kept_by_tree (code_clauses b) ≡ kept_code b
code_kept b h =
    ap (λ (l : List Clause). clause.Head b.line b.kind b.name b.result ∷ l)
    (kept_joined (flat_map part_clauses b.parts) (begin_clauses b.kind ++ (map clause.Runs b.body ++ clause.Ends b.end_line b.kind ∷ []))
    ∙ ap (λ (l : List Clause). l ++ filter is_kept_by_tree (begin_clauses b.kind ++ (map clause.Runs b.body ++ clause.Ends b.end_line b.kind ∷ []))) (kept_parts b.kind b.parts h.parts)
    ∙ ap (λ (l : List Clause). flat_map spelled_part b.parts ++ l)
    (kept_joined (begin_clauses b.kind) (map clause.Runs b.body ++ clause.Ends b.end_line b.kind ∷ [])
    ∙ ap (λ (l : List Clause). l ++ filter is_kept_by_tree (map clause.Runs b.body ++ clause.Ends b.end_line b.kind ∷ [])) (kept_begin b.kind)
    ∙ kept_joined (map clause.Runs b.body) (clause.Ends b.end_line b.kind ∷ [])
    ∙ ap (λ (l : List Clause). l ++ clause.Ends b.end_line b.kind ∷ []) (kept_runs b.body)))

code_spelled : (b : Block) → IsCodeBlock b → spelled_block b ≡ kept_code b
code_spelled b h =
    ap (λ (t : Option TypeTree). shaped (spelled_shape t b.instance_of b.components)) h.shape
    ∙ ap (λ (i : Option BlockName). shaped (spelled_shape None i b.components)) h.instance
    ∙ ap (λ (ds : List Declaration). shaped (spelled_shape None None ds)) h.components
    ∙ ap (λ (ss : List Setting). set (map clause.Sets ss)) h.settings
  where
    set : List Clause → List Clause
    set cs =
        clause.Head b.line b.kind b.name b.result
        ∷ (flat_map spelled_part b.parts ++ (cs ++ (map clause.Runs b.body ++ clause.Ends b.end_line b.kind ∷ [])))

    shaped : List Clause → List Clause
    shaped cs =
        clause.Head b.line b.kind b.name b.result
        ∷ (flat_map spelled_part b.parts ++ (cs ++ (map clause.Sets b.settings ++ (map clause.Runs b.body ++ clause.Ends b.end_line b.kind ∷ []))))

-- a block whose clauses lead from outside to outside, and spell it
pub record IsRead (b : Block) : Type 0 where
  pub walk : Walk place.Outside (block_clauses b) place.Outside
  pub spelled : spelled_block b ≡ filter is_kept_by_tree (block_clauses b)

pub code_read : (b : Block) → IsNumberedBlockOf b.kind b.name → IsCodeBlock b → IsRead b
code_read b named h =
    record {
      walk = subst (λ (cs : List Clause). Walk place.Outside cs place.Outside) (sym (code_is b h)) (code_walk b named h);
      spelled = code_spelled b h ∙ sym (code_kept b h) ∙ ap (filter is_kept_by_tree) (sym (code_is b h));
    }

-- ---- data blocks

-- the clauses of a data block
abbrev pub data_clauses : (line end_line : ℕ) → BlockName → Option TypeTree → List Declaration → Option BlockName → List Setting → List Clause
data_clauses line end_line name shape components instance settings =
    clause.Head line kinds.Db name None
    ∷ (shape_clauses shape components ++ (instance_clauses instance ++ (clause.Begins ∷ (map clause.Sets settings ++ clause.Ends end_line kinds.Db ∷ []))))

abbrev pub data_spelled : (line end_line : ℕ) → BlockName → Option TypeTree → List Declaration → Option BlockName → List Setting → List Clause
data_spelled line end_line name shape components instance settings =
    clause.Head line kinds.Db name None ∷ (spelled_shape shape instance components ++ (map clause.Sets settings ++ clause.Ends end_line kinds.Db ∷ []))

begins_settings : (settings : List Setting) (end_line : ℕ) → AllByRecursion IsPrintedSetting settings
    → Walk (place.Shaped kinds.Db) (clause.Begins ∷ (map clause.Sets settings ++ clause.Ends end_line kinds.Db ∷ [])) place.Outside
unfolding next_place next_place_behind_shape
begins_settings settings end_line h = (
  place.Settings,
  begin_step (place.Shaped kinds.Db) place.Settings refl,
  walk_joined (map clause.Sets settings) (clause.Ends end_line kinds.Db ∷ []) place.Settings place.Settings place.Outside (all_set settings h)
      (place.Outside, data_ends end_line, refl),
)

abbrev structure : TypeTree
structure = record { arrays = []; of = element.Structure }

structure_walk : (line end_line : ℕ) (name : BlockName) (components : List Declaration) → IsNumberedBlockOf kinds.Db name → AllByRecursion IsPrintedDeclaration components
    → Walk place.Outside (data_clauses line end_line name (Some structure) components None []) place.Outside
unfolding type_clauses
structure_walk line end_line name components named h = (
  place.Head kinds.Db,
  head_step line kinds.Db name None no_function named refl,
  (
    place.Shape kinds.Db 0,
    structure_step,
    subst (λ (cs : List Clause). Walk (place.Shape kinds.Db 0) ((cs ++ clause.EndStructure ∷ []) ++ (clause.Begins ∷ (clause.Ends end_line kinds.Db ∷ []))) place.Outside)
        (sym (flat_declared components h))
        (walk_joined (map clause.Declares components ++ clause.EndStructure ∷ []) (clause.Begins ∷ (clause.Ends end_line kinds.Db ∷ []))
        (place.Shape kinds.Db 0) (place.Shaped kinds.Db) place.Outside
        (walk_joined (map clause.Declares components) (clause.EndStructure ∷ []) (place.Shape kinds.Db 0) (place.Shape kinds.Db 0) (place.Shaped kinds.Db)
        (all_components components h) (place.Shaped kinds.Db, structure_end_step, refl))
        (begins_settings [] end_line tt)),
  ),
)

structure_kept : (line end_line : ℕ) (name : BlockName) (components : List Declaration) → AllByRecursion IsPrintedDeclaration components
    → data_spelled line end_line name (Some structure) components None [] ≡ filter is_kept_by_tree (data_clauses line end_line name (Some structure) components None [])
unfolding type_clauses
structure_kept line end_line name components h =
    ap (λ (l : List Clause). clause.Head line kinds.Db name None ∷ clause.Structure ∷ l)
    (sym (ap (λ (cs : List Clause). filter is_kept_by_tree ((cs ++ clause.EndStructure ∷ []) ++ (clause.Begins ∷ (clause.Ends end_line kinds.Db ∷ [])))) (flat_declared components h)
    ∙ ap (filter is_kept_by_tree) (append_assoc (map clause.Declares components) (clause.EndStructure ∷ []) (clause.Begins ∷ (clause.Ends end_line kinds.Db ∷ [])))
    ∙ kept_declares components (clause.EndStructure ∷ clause.Begins ∷ clause.Ends end_line kinds.Db ∷ [])))

instance_walk : (line end_line : ℕ) (name of_ : BlockName) (components : List Declaration) (settings : List Setting) → IsNumberedBlockOf kinds.Db name → IsFunctionBlock of_
    → AllByRecursion IsPrintedSetting settings → Walk place.Outside (data_clauses line end_line name None components (Some of_) settings) place.Outside
instance_walk line end_line name of_ components settings named is h =
    (place.Head kinds.Db, head_step line kinds.Db name None no_function named refl, (place.Shaped kinds.Db, based_step of_ is, begins_settings settings end_line h))

no_udt : (name : BlockName) → IsFunctionBlock name → is_udt name ≡ false
no_udt (block.Number id) h = ap is_data_type h.0
no_udt (block.Quoted name) h = absurd h

instance_kept : (line end_line : ℕ) (name of_ : BlockName) (settings : List Setting) → IsFunctionBlock of_
    → data_spelled line end_line name None [] (Some of_) settings ≡ filter is_kept_by_tree (data_clauses line end_line name None [] (Some of_) settings)
instance_kept line end_line name of_ settings is =
    ap (λ (b : Bool). clause.Head line kinds.Db name None ∷ ((if b then unspelled_clauses else clause.Based of_ ∷ []) ++ (map clause.Sets settings ++ clause.Ends end_line kinds.Db ∷ []))) (no_udt of_ is)
    ∙ ap (λ (l : List Clause). clause.Head line kinds.Db name None ∷ clause.Based of_ ∷ l)
    (sym (kept_joined (map clause.Sets settings) (clause.Ends end_line kinds.Db ∷ []) ∙ ap (λ (l : List Clause). l ++ clause.Ends end_line kinds.Db ∷ []) (kept_sets settings)))

pub record DataRead (line end_line : ℕ) (name : BlockName) (shape : Option TypeTree) (components : List Declaration) (instance : Option BlockName) (settings : List Setting) : Type 0 where
  pub walk : Walk place.Outside (data_clauses line end_line name shape components instance settings) place.Outside
  pub kept : data_spelled line end_line name shape components instance settings ≡ filter is_kept_by_tree (data_clauses line end_line name shape components instance settings)

pub shape_read : (line end_line : ℕ) (name : BlockName) (shape : Option TypeTree) (components : List Declaration) (instance : Option BlockName) (settings : List Setting)
    → IsNumberedBlockOf kinds.Db name → IsPrintedDataShape shape components instance settings → DataRead line end_line name shape components instance settings
shape_read line end_line name (Some of_) components None settings named h =
    subst (λ (t : TypeTree). DataRead line end_line name (Some t) components None settings) (sym h.0)
    (subst (λ (ss : List Setting). DataRead line end_line name (Some structure) components None ss) (sym h.2)
    (record { walk = structure_walk line end_line name components named h.1; kept = structure_kept line end_line name components h.1 }))
shape_read line end_line name None components (Some of_) settings named h =
    subst (λ (ds : List Declaration). DataRead line end_line name None ds (Some of_) settings) (sym h.1)
    (record { walk = instance_walk line end_line name of_ [] settings named h.0 h.2; kept = instance_kept line end_line name of_ settings h.0 })
shape_read line end_line name None components None settings named h = absurd h
shape_read line end_line name (Some of_) components (Some i) settings named h = absurd h

-- a data block by its fields
data_is : (b : Block) → IsPrintedData b → block_clauses b ≡ data_clauses b.line b.end_line b.name b.shape b.components b.instance_of b.settings
unfolding block_clauses
data_is b h =
    ap (λ (k : BlockKind). by_kind k) h.kind
    ∙ ap (λ (r : Option Simple). by_result r) h.result
    ∙ ap (λ (ps : List Part). by_parts ps) h.parts
    ∙ ap (λ (ss : List Statement). by_body ss) h.body
  where
    by_body : List Statement → List Clause
    by_body ss =
        clause.Head b.line kinds.Db b.name None
        ∷ (shape_clauses b.shape b.components ++ (instance_clauses b.instance_of ++ (clause.Begins ∷ (map clause.Sets b.settings ++ (map clause.Runs ss ++ clause.Ends b.end_line kinds.Db ∷ [])))))

    by_parts : List Part → List Clause
    by_parts ps =
        clause.Head b.line kinds.Db b.name None
        ∷ (flat_map part_clauses ps ++ (shape_clauses b.shape b.components ++ (instance_clauses b.instance_of ++ (clause.Begins ∷ (map clause.Sets b.settings ++ (map clause.Runs b.body ++ clause.Ends b.end_line kinds.Db ∷ []))))))

    by_result : Option Simple → List Clause
    by_result r =
        clause.Head b.line kinds.Db b.name r
        ∷ (flat_map part_clauses b.parts ++ (shape_clauses b.shape b.components ++ (instance_clauses b.instance_of ++ (clause.Begins ∷ (map clause.Sets b.settings ++ (map clause.Runs b.body ++ clause.Ends b.end_line kinds.Db ∷ []))))))

    by_kind : BlockKind → List Clause
    by_kind k =
        clause.Head b.line k b.name b.result
        ∷ (flat_map part_clauses b.parts ++ (shape_clauses b.shape b.components ++ (instance_clauses b.instance_of ++ (begin_clauses k ++ (map clause.Sets b.settings ++ (map clause.Runs b.body ++ clause.Ends b.end_line k ∷ []))))))

data_spelled_is : (b : Block) → IsPrintedData b → spelled_block b ≡ data_spelled b.line b.end_line b.name b.shape b.components b.instance_of b.settings
data_spelled_is b h =
    ap (λ (k : BlockKind). by_kind k) h.kind
    ∙ ap (λ (r : Option Simple). by_result r) h.result
    ∙ ap (λ (ps : List Part). by_parts ps) h.parts
    ∙ ap (λ (ss : List Statement). by_body ss) h.body
  where
    by_body : List Statement → List Clause
    by_body ss =
        clause.Head b.line kinds.Db b.name None
        ∷ (spelled_shape b.shape b.instance_of b.components ++ (map clause.Sets b.settings ++ (map clause.Runs ss ++ clause.Ends b.end_line kinds.Db ∷ [])))

    by_parts : List Part → List Clause
    by_parts ps =
        clause.Head b.line kinds.Db b.name None
        ∷ (flat_map spelled_part ps ++ (spelled_shape b.shape b.instance_of b.components ++ (map clause.Sets b.settings ++ (map clause.Runs b.body ++ clause.Ends b.end_line kinds.Db ∷ []))))

    by_result : Option Simple → List Clause
    by_result r =
        clause.Head b.line kinds.Db b.name r
        ∷ (flat_map spelled_part b.parts ++ (spelled_shape b.shape b.instance_of b.components ++ (map clause.Sets b.settings ++ (map clause.Runs b.body ++ clause.Ends b.end_line kinds.Db ∷ []))))

    by_kind : BlockKind → List Clause
    by_kind k =
        clause.Head b.line k b.name b.result
        ∷ (flat_map spelled_part b.parts ++ (spelled_shape b.shape b.instance_of b.components ++ (map clause.Sets b.settings ++ (map clause.Runs b.body ++ clause.Ends b.end_line k ∷ []))))

data_read : (b : Block) → IsNumberedBlockOf b.kind b.name → IsPrintedData b → IsRead b
data_read b named h =
    let r : DataRead b.line b.end_line b.name b.shape b.components b.instance_of b.settings =
    shape_read b.line b.end_line b.name b.shape b.components b.instance_of b.settings
    (subst (λ (k : BlockKind). IsNumberedBlockOf k b.name) h.kind named) h.shape
    in
    record {
      walk = subst (λ (cs : List Clause). Walk place.Outside cs place.Outside) (sym (data_is b h)) r.walk;
      spelled = data_spelled_is b h ∙ r.kept ∙ ap (filter is_kept_by_tree) (sym (data_is b h));
    }

-- ---- trees

block_read : (b : Block) → IsPrintedBlock b → IsRead b
block_read b (named, inl h) = code_read b named h
block_read b (named, inr h) = data_read b named h

blocks_walk : (bs : List Block) → AllByRecursion IsPrintedBlock bs → Walk place.Outside (flat_map block_clauses bs) place.Outside
blocks_walk [] h = refl
blocks_walk (b ∷ bs) h =
    walk_joined (block_clauses b) (flat_map block_clauses bs) place.Outside place.Outside place.Outside (block_read b h.0).walk (blocks_walk bs h.1)

blocks_spelled : (bs : List Block) → AllByRecursion IsPrintedBlock bs → flat_map spelled_block bs ≡ filter is_kept_by_tree (flat_map block_clauses bs)
blocks_spelled [] h = refl
blocks_spelled (b ∷ bs) h =
    ap (λ (l : List Clause). l ++ flat_map spelled_block bs) (block_read b h.0).spelled
    ∙ ap (λ (l : List Clause). filter is_kept_by_tree (block_clauses b) ++ l) (blocks_spelled bs h.1)
    ∙ sym (kept_joined (block_clauses b) (flat_map block_clauses bs))

pub trees_read : ArePrintedTreesRead
unfolding pieces_of_tree
trees_read source t h shown =
    record {
      clauses = flat_map block_clauses t.blocks;
      reads = walk_read (flat_map block_clauses t.blocks) source 0 1 0 place.Outside place.Outside (blocks_walk t.blocks h.blocks) h.lines refl shown;
      those = blocks_spelled t.blocks h.blocks;
    }
