-- The instance of a listed call is one of the function block that is called.
use Rattle.std.proofs.Common.{◌≡◌, ℕ, zero, suc, ◌+◌, Bool, true, false, ◌&&◌, ◌||◌, not, List, [], ◌∷◌, length, map, Option, Some, None, option_map, if◌then◌else◌, is_some, refl, sym, ap, ap₂, subst, ◌∙◌, eqb-true, arith}
use Rattle.std.specs.Prelude.{slice_get}
use Rattle.std.specs.List.{AllByRecursion}
use Rattle.std.specs.Option.{option_and_then}
use Rattle.std.proofs.lemmas.Option.{same_Some}
use Rattle.plc_base.specs.Kinds.{is_function, is_function_block, is_system_function}
use Rattle.plc_base.specs.declared.blocks.BlockId.{BlockId}
use Rattle.plc_base.specs.declared.blocks.BlockKind.{BlockKind}
use Rattle.plc_base.specs.declared.blocks.BlockKind.TheVariants as kinds
use Rattle.flat_code.specs.Programs.{CodeBlock, DataBlock, Program}
use Rattle.flat_code.specs.declared.operations.CallOperation.{CallOperation}
use Rattle.stl_ast.specs.Statements.{names_called_block}
use Rattle.stl_ast.specs.declared.blocks.Block.{Block}
use Rattle.stl_ast.specs.declared.blocks.Tree.{Tree}
use Rattle.stl_ast.specs.declared.names.BlockName.{BlockName}
use Rattle.stl_ast.specs.declared.names.BlockName.TheVariants as block
use Rattle.stl_ast.specs.declared.operands.Operand.{Operand}
use Rattle.stl_ast.specs.declared.operands.Operand.TheVariants as operand
use Rattle.stl_ast.specs.declared.statements.Statement.{Statement}
use Rattle.stl_symbols.specs.Symbol.{Symbol}
use Rattle.block_layout.specs.Blocks.{ids_of, known_block, named_block}
use Rattle.block_layout.specs.Layouts.{block_layout, layouts_by, layouts_from, layouts_of}
use Rattle.block_layout.specs.Lengths.{shape_at, shape_of}
use Rattle.block_layout.specs.Measures.{types_of_source}
use Rattle.block_layout.specs.Paths.{if_whole, whole_at, whole_block as whole_layout}
use Rattle.block_layout.specs.Rule23.{is_unknown_called, is_unknown_data, names_unknown}
use Rattle.block_layout.specs.Rule44.{rule_44}
use Rattle.block_layout.specs.Types.{Types}
use Rattle.block_layout.specs.declared.blocks.BlockLayout.{BlockLayout}
use Rattle.block_layout.specs.declared.blocks.Shape.{Shape}
use Rattle.block_layout.specs.declared.blocks.Shape.TheVariants as shape
use Rattle.stl_types.specs.Calls.{has_wrong_instance, is_instance, is_no_instance, is_of_block}
use Rattle.stl_types.specs.Context.{Context, data_number, data_place, source_block_ids, number_of_block, whole_data_place, whole_place}
use Rattle.stl_types.specs.OperandRules.{operand_rule_of}
use Rattle.stl_types.specs.Parameters.{Callee, callee_at, callee_by, callee_of, source_callee, system_callee}
use Rattle.stl_types.specs.Resolution.{resolution_of_call, instance_number, resolution_of, whole_called_block}
use Rattle.stl_types.specs.ResolvedStatement.{resolved_operand}
use Rattle.stl_types.specs.declared.parameters.Formal.{Formal}
use Rattle.stl_types.specs.declared.resolved_operands.Resolution.TheVariants.{Resolved}
use Rattle.stl_types.specs.declared.resolved_operands.ResolvedOperand.TheVariants as resolved
use Rattle.stl_codegen.specs.GeneratedProgram.{generated_data_block, function_block_number, instance_in}
use Rattle.stl_codegen.specs.Operations.{call_operation_of}
use Rattle.stl_list.specs.CodeBlocks.{in_lines, line_reached}
use Rattle.stl_list.specs.DataBlocks.{function_block, listed_data}
use Rattle.stl_parser.specs.Operands.{data_block_name}
use Rattle.stl_list.specs.Signatures.{Signature}
use Rattle.sem_kept.specs.AcceptedSource.{program_in}
use Rattle.sem_kept.specs.SettledStatements.{context_at}
use Rattle.sem_kept.proofs.accepted.Accepted.{IsSoundStatement, IsSoundTree}
use Rattle.block_layout.proofs.BlockLemmas.{known_there}
use Rattle.block_layout.proofs.LayoutLemmas.{measured_symbols}
use Rattle.block_layout.proofs.CommonLemmas.{origin, or_second}
use Rattle.sem_kept.proofs.accepted.OperandsMembers.{data_block_there}
use Rattle.sem_kept.proofs.accepted.OperandsViews.{IsKnownDataBlock, data_there, ids_same, whole_is}
use Rattle.listing_laws.specs.ListedSource.{listed_tree_again}
use Rattle.listing_laws.specs.Calls.{IsInstanceAt}
use Rattle.listing_laws.specs.ListedDeclarations.{signatures_in}
use Rattle.listing_laws.specs.Ids.{data_id_of_number, program_ids}
use Rattle.listing_laws.specs.Instructions.{HasAgain}
use Rattle.listing_laws.proofs.IdLemmas.{blocks_found, source_ids}
use Rattle.listing_laws.proofs.made.Origins.{at_back, data_listed, lines_count, mapped_at}
use Rattle.listing_laws.proofs.ruled.Calling.{rule_called, same_kind}
use Rattle.listing_laws.proofs.ruled.Instructions.{rule_broken, what_seen}
use Rattle.listing_laws.proofs.ruled.Rules.{taken_view}

-- ---- lists

-- each element of a list stands there at a place
abbrev StandsIn : {A : Type 0} → List A → A → Type 0
StandsIn all x = (j : ℕ) × (slice_get all j ≡ Some x)

stands_from : {A : Type 0} (all : List A) (k : ℕ) (xs : List A) → ((i : ℕ) (x : A) → slice_get xs i ≡ Some x → slice_get all (k + i) ≡ Some x) → AllByRecursion (StandsIn all) xs
stands_from all k [] f = tt
stands_from {A = A} all k (x ∷ xs) f = (
  (k + 0, f 0 x refl),
  stands_from all (suc k) xs (λ i z e. subst (λ (n : ℕ). slice_get all n ≡ Some z) (next k i) (f (suc i) z e)),
)
  where
    next : (k i : ℕ) → k + suc i ≡ suc k + i
    next k i = omega arith

stands_all : {A : Type 0} (xs : List A) → AllByRecursion (StandsIn xs) xs
stands_all xs = stands_from xs 0 xs (λ i x e. subst (λ (n : ℕ). slice_get xs n ≡ Some x) (first i) e)
  where
    first : (i : ℕ) → i ≡ 0 + i
    first i = omega arith

-- ---- a data block of a program in its listing

map_length : {A B : Type 0} (f : A → B) (xs : List A) → length (map f xs) ≡ length xs
map_length f [] = refl
map_length f (x ∷ xs) = ap suc (map_length f xs)

id_at : (p : Program) (j : ℕ) (d : DataBlock) → slice_get p.data_blocks j ≡ Some d → slice_get (program_ids p) (length p.code_blocks + j) ≡ Some (data_id_of_number d.number)
id_at p j d e =
    let front : List BlockId = map (λ (b : CodeBlock). b.id) (in_lines p.code_blocks) in
    let size = map_length (λ (b : CodeBlock). b.id) (in_lines p.code_blocks) in
    let count = lines_count p.code_blocks in
    at_back front (map (λ (d : DataBlock). data_id_of_number d.number) p.data_blocks) (length p.code_blocks + j) j (omega (arith, size, count))
    ∙ mapped_at (λ (d : DataBlock). data_id_of_number d.number) p.data_blocks j d e

-- ---- layouts

laid_shape : (y : Types) (blocks before bs : List Block) (k : ℕ) (b : Block) (l : BlockLayout) → slice_get bs k ≡ Some b → slice_get (layouts_from y blocks before bs) k ≡ Some l → l.shape ≡ shape_of y b
unfolding block_layout
laid_shape y blocks before [] k b l e f = absurd cc
laid_shape y blocks before (x ∷ bs) zero b l e f = ap (λ (z : BlockLayout). z.shape) (sym (same_Some (block_layout y blocks before x) l f)) ∙ ap (shape_of y) (same_Some x b e)
laid_shape y blocks before (x ∷ bs) (suc k) b l e f = laid_shape y blocks (x ∷ before) bs k b l e f

shape_laid : (symbols : List Symbol) (t : Tree) (k : ℕ) (b : Block) (l : BlockLayout) → slice_get t.blocks k ≡ Some b → slice_get (layouts_of t symbols) k ≡ Some l → l.shape ≡ shape_of (types_of_source symbols t.blocks) b
unfolding layouts_of layouts_by
shape_laid symbols t k b l e f = laid_shape (types_of_source symbols t.blocks) t.blocks [] t.blocks k b l e f

-- a whole block at a place
record IsWholeAt (l : List BlockLayout) (p : ℕ) : Type 0 where
  layout : BlockLayout
  there : slice_get l p ≡ Some layout
  is : if_whole l p ≡ Some p

whole_there : (l : List BlockLayout) (p n : ℕ) → option_and_then (λ (b : BlockLayout). number_of_block b.id) (whole_at l p) ≡ Some n → IsWholeAt l p
whole_there l p n e = by (slice_get l p) refl e
  where
    by : (o : Option BlockLayout) → slice_get l p ≡ o → option_and_then (λ (b : BlockLayout). number_of_block b.id) (whole_layout o) ≡ Some n → IsWholeAt l p
    by None is e = absurd cc
    by (Some at) is e = whether at.broken refl e
      where
        whether : (broken : Bool) → at.broken ≡ broken → option_and_then (λ (b : BlockLayout). number_of_block b.id) (if broken then None else Some at) ≡ Some n → IsWholeAt l p
        whether true b e = absurd cc
        whether false b e = record { layout = at; there = is; is = ap (λ (o : Option BlockLayout). if is_some o then Some p else None) (whole_is l p at is b) }

-- ---- the function block that is called

whole_known : (l : List BlockLayout) (place : Option ℕ) (q : ℕ) → option_and_then (if_whole l) place ≡ Some q → place ≡ Some q
whole_known l None q e = absurd cc
whole_known l (Some p) q e = by (is_some (whole_at l p)) e
  where
    by : (b : Bool) → (if b then Some p else None) ≡ Some q → Some p ≡ Some q
    by true e = e
    by false e = absurd cc

-- a callee with its place
record IsCalleeAt (c : Context) (id : BlockId) (callee : Callee) : Type 0 where
  place : ℕ
  is : callee.place ≡ Some place
  known : known_block id (source_block_ids c) ≡ Some place

place_mapped : (c : Context) (id : BlockId) (p : ℕ) (o : Option (List Formal)) (callee : Callee) → option_map (λ (formals : List Formal). record { id = id; place = Some p; formals = formals }) o ≡ Some callee → callee.place ≡ Some p
place_mapped c id p None callee e = absurd cc
place_mapped c id p (Some formals) callee e = ap (λ (x : Callee). x.place) (sym (same_Some (record { id = id; place = Some p; formals = formals }) callee e))

source_placed : (c : Context) (id : BlockId) (callee : Callee) → source_callee c id ≡ Some callee → IsCalleeAt c id callee
source_placed c id callee e = by (whole_place c id) refl e
  where
    by : (place : Option ℕ) → whole_place c id ≡ place → option_and_then (callee_at c id) place ≡ Some callee → IsCalleeAt c id callee
    by None is e = absurd cc
    by (Some q) is e = record { place = q; is = place_mapped c id q _ callee e; known = whole_known c.layouts (known_block id (source_block_ids c)) q is }

callee_placed : (c : Context) (id : BlockId) (callee : Callee) → is_function_block id.kind ≡ true → callee_by c id id.kind ≡ Some callee → IsCalleeAt c id callee
callee_placed c id callee fb e = source_placed c id callee (by id.kind fb e)
  where
    by : (k : BlockKind) → is_function_block k ≡ true → callee_by c id k ≡ Some callee → source_callee c id ≡ Some callee
    by kinds.Fb fb e = e
    by _ fb e = absurd cc

id_mapped : (id : BlockId) (place : Option ℕ) (o : Option (List Formal)) (callee : Callee) → option_map (λ (formals : List Formal). record { id = id; place = place; formals = formals }) o ≡ Some callee → callee.id ≡ id
id_mapped id place None callee e = absurd cc
id_mapped id place (Some formals) callee e = ap (λ (x : Callee). x.id) (sym (same_Some (record { id = id; place = place; formals = formals }) callee e))

callee_id : (c : Context) (id : BlockId) (callee : Callee) → callee_by c id id.kind ≡ Some callee → callee.id ≡ id
callee_id c id callee e = by (is_system_function id.kind) (is_function id.kind) (is_function_block id.kind) e
  where
    in_source : source_callee c id ≡ Some callee → callee.id ≡ id
    in_source e = placed (whole_place c id) e
      where
        placed : (place : Option ℕ) → option_and_then (callee_at c id) place ≡ Some callee → callee.id ≡ id
        placed None e = absurd cc
        placed (Some q) e = id_mapped id (Some q) _ callee e

    by : (system function block : Bool) → (if system then system_callee id else if function then source_callee c id else if block then source_callee c id else None) ≡ Some callee → callee.id ≡ id
    by true function block e = id_mapped id None _ callee e
    by false true block e = in_source e
    by false false true e = in_source e
    by false false false e = absurd cc

-- a function block by its number
function_block_is : (id : BlockId) → is_function_block id.kind ≡ true → id ≡ function_block id.number
function_block_is id e = by id.kind e
  where
    by : (k : BlockKind) → is_function_block k ≡ true → record { kind = k; number = id.number } ≡ function_block id.number
    by kinds.Fb e = refl
    by _ e = absurd cc

-- ---- what the source says of a call with an instance

record NamesInstance (c : Context) (o : Operand) (callee : Callee) (n : ℕ) : Type 0 where
  name : BlockName
  instance_name : BlockName
  is : o ≡ operand.Called name (Some instance_name)
  number : data_number c instance_name ≡ Some n
  id : BlockId
  found : callee_by c id id.kind ≡ Some callee

some_called : (x y : BlockId) (i : Option ℕ) (n : ℕ) → Resolved (resolved.Called x i) ≡ Resolved (resolved.Called y (Some n)) → i ≡ Some n
some_called x y i n e = cc

found_named : (c : Context) (o : Option BlockId) (callee : Callee) → option_and_then (λ (id : BlockId). callee_by c id id.kind) o ≡ Some callee → (id : BlockId) × (callee_by c id id.kind ≡ Some callee)
found_named c None callee e = absurd cc
found_named c (Some id) callee e = (id, e)

names_numbered : (c : Context) (w : Option BlockId) (i : Option BlockName) (id : BlockId) (n : ℕ) → resolution_of_call w i (instance_number c i) ≡ Resolved (resolved.Called id (Some n)) → (name : BlockName) × (i ≡ Some name) × (data_number c name ≡ Some n)
names_numbered c None i id n e = absurd cc
names_numbered c (Some x) None id n e = let no = some_called x id None n e in absurd cc
names_numbered c (Some x) (Some name) id n e = by (data_number c name) refl e
  where
    by : (o : Option ℕ) → data_number c name ≡ o → resolution_of_call (Some x) (Some name) o ≡ Resolved (resolved.Called id (Some n)) → (other : BlockName) × (Some name ≡ Some other) × (data_number c other ≡ Some n)
    by None is e = absurd cc
    by (Some m) is e = (name, refl, is ∙ some_called x id (Some m) n e)

names_instance : (c : Context) (o : Operand) (id : BlockId) (n : ℕ) (callee : Callee) → resolution_of c o ≡ Resolved (resolved.Called id (Some n)) → callee_of c o ≡ Some callee → NamesInstance c o callee n
unfolding resolution_of callee_of
names_instance c (operand.Called name i) id n callee e f =
    let numbered = names_numbered c (whole_called_block c (named_block c.symbols name)) i id n e in
    let named = found_named c (named_block c.symbols name) callee f in
    record {
      name = name;
      instance_name = numbered.0;
      is = ap (operand.Called name) numbered.1;
      number = numbered.2;
      id = named.0;
      found = named.1;
    }
names_instance c _ id n callee e f = absurd cc

-- its data block has the structure of the function block
not_false : (b : Bool) → not b ≡ false → b ≡ true
not_false true e = refl
not_false false e = absurd cc

of_block : (q : ℕ) (s : Shape) → is_of_block (Some q) s ≡ true → s ≡ shape.Of q
of_block q (shape.Of block) e = ap (λ (n : ℕ). shape.Of n) (sym (eqb-true q block e))
of_block q shape.Own e = absurd cc
of_block q shape.Unknown e = absurd cc

and_true : (a b : Bool) → a ≡ true → (a && b) ≡ false → b ≡ false
and_true true b e f = f
and_true false b e f = absurd cc

-- of an accepted source: the program has this data block as an instance of the function block
record IsSourceInstance (symbols : List Symbol) (t : Tree) (id : BlockId) (n : ℕ) : Type 0 where
  stored : DataBlock
  place : ℕ
  there : slice_get (program_in symbols t).data_blocks place ≡ Some stored
  number : stored.number ≡ n
  of : stored.instance_of ≡ Some id.number

number_in : (l : List BlockLayout) (q : ℕ) (id : BlockId) → is_function_block id.kind ≡ true → slice_get (map (λ (b : BlockLayout). b.id) l) q ≡ Some (Some id) → instance_in l (shape.Of q) ≡ Some id.number
number_in l q id fb e =
    let from = origin (λ (b : BlockLayout). b.id) l q (Some id) e in
    ap (λ (o : Option BlockLayout). option_and_then (λ (l : BlockLayout). function_block_number l.id) o) from.there
    ∙ ap function_block_number from.image
    ∙ ap (λ (b : Bool). if b then Some id.number else None) fb

source_instance : (symbols : List Symbol) (t : Tree) → IsSoundTree symbols t → (k : ℕ) (s : Statement) → IsSoundStatement (types_of_source symbols t.blocks) (context_at symbols t k) s
    → (id : BlockId) (n : ℕ) (callee : Callee) → is_function_block id.kind ≡ true → callee.id ≡ id
    → NamesInstance (context_at symbols t k) s.operand callee n → has_wrong_instance (context_at symbols t k) callee s.operand ≡ false
    → IsSourceInstance symbols t id n
source_instance symbols t tree k s sound id n callee fb same names right = record {
  stored = generated_data_block (context_at symbols t there.place) there.block.layout there.block.id;
  place = stands.0;
  there = stands.1;
  number = number;
  of = ap (instance_in (layouts_of t symbols)) is_of ∙ number_in (layouts_of t symbols) placed.place id fb known;
}
  where
    c : Context
    c = context_at symbols t k

    unknown : (is_unknown_called (types_of_source symbols t.blocks) names.name || is_unknown_data (types_of_source symbols t.blocks) names.instance_name) ≡ false
    unknown = ap (names_unknown (types_of_source symbols t.blocks)) (sym names.is) ∙ sound.there

    there : IsKnownDataBlock symbols t k names.instance_name
    there =
        data_there symbols t tree k names.instance_name
        (or_second (is_unknown_called (types_of_source symbols t.blocks) names.name) (is_unknown_data (types_of_source symbols t.blocks) names.instance_name) unknown)

    number : there.block.id.number ≡ n
    number = same_Some there.block.id.number n (sym there.number ∙ names.number)

    stands : StandsIn (program_in symbols t).data_blocks (generated_data_block (context_at symbols t there.place) there.block.layout there.block.id)
    stands =
        data_block_there symbols t (StandsIn (program_in symbols t).data_blocks) (stands_all (program_in symbols t).data_blocks)
        there.place there.block.block there.block.layout there.block.id there.block.sound there.block.is there.block.kind

    own_id : callee.id ≡ names.id
    own_id = callee_id c names.id callee names.found

    id_is : names.id ≡ id
    id_is = sym own_id ∙ same

    placed : IsCalleeAt c id callee
    placed = subst (λ (i : BlockId). IsCalleeAt c i callee) id_is (callee_placed c names.id callee (ap (λ (i : BlockId). is_function_block i.kind) id_is ∙ fb) names.found)

    known : slice_get (map (λ (b : BlockLayout). b.id) (layouts_of t symbols)) placed.place ≡ Some (Some id)
    known = known_there id (source_block_ids c) placed.place placed.known

    whole_place_is : whole_data_place c names.instance_name ≡ Some there.place
    whole_place_is =
        ap (option_and_then (if_whole (layouts_of t symbols))) there.found
        ∙ ap (λ (o : Option BlockLayout). if is_some o then Some there.place else None)
        (whole_is (layouts_of t symbols) there.place there.block.layout there.block.laid there.block.sound.whole)

    unbroken : (is_function_block callee.id.kind && is_no_instance c callee.place (whole_data_place c names.instance_name)) ≡ false
    unbroken = ap (has_wrong_instance c callee) (sym names.is) ∙ right

    is_of : there.block.layout.shape ≡ shape.Of placed.place
    is_of =
        of_block placed.place there.block.layout.shape
        (not_false (is_of_block (Some placed.place) there.block.layout.shape)
        (ap (λ (o : Option ℕ). not (is_of_block o there.block.layout.shape)) (sym placed.is)
        ∙ ap (λ (o : Option BlockLayout). not (is_instance callee.place o)) (sym there.block.laid)
        ∙ ap (is_no_instance c callee.place) (sym whole_place_is)
        ∙ and_true (is_function_block callee.id.kind) (is_no_instance c callee.place (whole_data_place c names.instance_name))
        (ap (λ (i : BlockId). is_function_block i.kind) same ∙ fb) unbroken))

-- ---- in the listing

rule_44_of : (symbols : List Symbol) (t : Tree) → IsSoundTree symbols t → rule_44 symbols t.blocks ≡ []
rule_44_of symbols t tree = ap (λ (s : List Symbol). rule_44 s t.blocks) (sym (measured_symbols symbols t.blocks)) ∙ tree.by_layout.by_44

listed_ids : (symbols : List Symbol) (t : Tree) (others : List Symbol) → map (λ (b : BlockLayout). b.id) (layouts_of (listed_tree_again symbols t) others) ≡ ids_of others (listed_tree_again symbols t).blocks
listed_ids symbols t others = ids_same others (listed_tree_again symbols t) ∙ source_ids others (listed_tree_again symbols t).blocks

instance_placed : (symbols : List Symbol) (t : Tree) → IsSoundTree symbols t → (others : List Symbol) (again : ℕ) (id : BlockId) (n : ℕ) (found : Callee)
    → is_function_block id.kind ≡ true → IsSourceInstance symbols t id n → IsCalleeAt (context_at others (listed_tree_again symbols t) again) id found
    → data_number (context_at others (listed_tree_again symbols t) again) (data_block_name n) ≡ Some n
    → IsInstanceAt (context_at others (listed_tree_again symbols t) again) found.place (Some (data_block_name n))
instance_placed symbols t tree others again id n found fb inst placed numbered = (m, whole.layout, placed.place, placed.is, place_is, whole.there, shape_is)
  where
    p : Program
    p = program_in symbols t

    listed : Tree
    listed = listed_tree_again symbols t

    c : Context
    c = context_at others (listed_tree_again symbols t) again

    m : ℕ
    m = length p.code_blocks + inst.place

    there : known_block (data_id_of_number n) (source_block_ids c) ≡ Some m
    there =
        ap (known_block (data_id_of_number n)) (listed_ids symbols t others)
        ∙ blocks_found t symbols others m (data_id_of_number n) tree.by_layout.by_22 (rule_44_of symbols t tree)
        (id_at p inst.place inst.stored inst.there ∙ ap (λ (k : ℕ). Some (data_id_of_number k)) inst.number)

    data_is : data_place c (data_block_name n) ≡ Some m
    data_is = there

    whole : IsWholeAt (layouts_of listed others) m
    whole =
        whole_there (layouts_of listed others) m n
        (ap (λ (o : Option ℕ). option_and_then (λ (b : BlockLayout). number_of_block b.id) (option_and_then (whole_at (layouts_of listed others)) o)) (sym data_is) ∙ numbered)

    place_is : whole_data_place c (data_block_name n) ≡ Some m
    place_is = ap (option_and_then (if_whole (layouts_of listed others))) data_is ∙ whole.is

    names : List Signature
    names = signatures_in p

    line : ℕ
    line = line_reached 1 (in_lines p.code_blocks)

    y : Types
    y = types_of_source others (listed_tree_again symbols t).blocks

    refers : (of : Option ℕ) → of ≡ Some id.number → shape_of y (listed_data names line inst.stored.number inst.stored.bytes of) ≡ shape_at (known_block (function_block id.number) y.ids)
    refers of e = ap (λ (o : Option ℕ). shape_of y (listed_data names line inst.stored.number inst.stored.bytes o)) e

    shape_is : whole.layout.shape ≡ shape.Of placed.place
    shape_is =
        shape_laid others listed m (listed_data names line inst.stored.number inst.stored.bytes inst.stored.instance_of) whole.layout (data_listed p inst.place inst.stored inst.there) whole.there
        ∙ refers inst.stored.instance_of inst.of
        ∙ ap₂ (λ (i : BlockId) (is : List (Option BlockId)). shape_at (known_block i is)) (sym (function_block_is id fb)) (sym (ids_same others listed))
        ∙ ap shape_at placed.known

callee_is : (c : Context) (id : BlockId) (instance : Option BlockName) (callee : Callee) → callee_of c (operand.Called (block.Number id) instance) ≡ Some callee → callee_by c id id.kind ≡ Some callee
unfolding callee_of
callee_is c id instance callee e = e

pub instance_there : (symbols : List Symbol) (t : Tree) → IsSoundTree symbols t → (k : ℕ) (s : Statement) → IsSoundStatement (types_of_source symbols t.blocks) (context_at symbols t k) s
    → (others : List Symbol) (again : ℕ) (own : List Formal) → HasAgain (context_at symbols t k) (context_at others (listed_tree_again symbols t) again) own
    → (how : CallOperation) (id : BlockId) (instance : Option ℕ) (callee found : Callee)
    → call_operation_of s.code ≡ Some how → names_called_block s.operand ≡ true → resolved_operand (context_at symbols t k) s ≡ Some (resolved.Called id instance)
    → callee_of (context_at symbols t k) s.operand ≡ Some callee → callee.id ≡ id
    → callee_of (context_at others (listed_tree_again symbols t) again) (operand.Called (block.Number id) (option_map data_block_name instance)) ≡ Some found
    → IsInstanceAt (context_at others (listed_tree_again symbols t) again) found.place (option_map data_block_name instance)
instance_there symbols t tree k s sound others again own has how id None callee found h is_call e f same g = tt
instance_there symbols t tree k s sound others again own has how id (Some n) callee found h is_call e f same g =
    let c = context_at symbols t k in
    let listed = context_at others (listed_tree_again symbols t) again in
    let sees = what_seen c s (resolved.Called id (Some n)) e in
    let rule = rule_called c (operand_rule_of s.code) s.operand (resolved.Called id (Some n)) is_call (rule_broken c s (resolved.Called id (Some n)) e) sees in
    let fb : is_function_block id.kind ≡ true = same_kind s.code how (resolved.Called id (Some n)) h (taken_view (operand_rule_of s.code) (resolved.Called id (Some n)) rule) in
    let names = names_instance c s.operand id n callee sees f in
    instance_placed symbols t tree others again id n found fb
    (source_instance symbols t tree k s sound id n callee fb same names (sound.calls callee f).instance)
    (callee_placed listed id found fb (callee_is listed id (Some (data_block_name n)) found g))
    (has.data_blocks names.instance_name n names.number)
