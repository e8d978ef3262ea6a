-- Right clauses have a tree: what the frame lets follow at a place is what a tree spells from there on.
use Rattle.plc_base.specs.Kinds.{is_code, is_data_block, kind_order, is_data_type}
use Rattle.stl_parser.proofs.LevelLemmas.{IsAt, read_level}
use Rattle.std.proofs.Common.{arith, inl, inr, ℕ, zero, suc, ◌+◌, ◌≤◌, ◌⊎◌, ◌≡◌, Bool, true, false, List, [], ◌∷◌, ◌++◌, map, filter, cond, length, Option, Some, None, Result, Ok, Err, if◌then◌else◌, refl, sym, ◌∙◌, ap, subst}
use Rattle.std.specs.Prelude.{nat_eq, nat_lt, ◌&&◌}
use Rattle.std.specs.List.{flat_map, AllByRecursion}
use Rattle.std.proofs.lemmas.Bool.Decides.{nat_tests}
use Rattle.plc_base.specs.declared.blocks.BlockKind.{BlockKind}
use Rattle.plc_base.specs.declared.blocks.BlockKind.TheVariants as kinds
use Rattle.stl_lexer.specs.declared.kinds.Token.{Token}
use Rattle.stl_ast.specs.declared.blocks.Block.{Block}
use Rattle.stl_ast.specs.declared.blocks.Part.{Part}
use Rattle.stl_ast.specs.declared.blocks.PartKind.{PartKind}
use Rattle.stl_ast.specs.declared.blocks.Setting.{Setting}
use Rattle.stl_ast.specs.declared.declarations.Declaration.{Declaration}
use Rattle.stl_ast.specs.declared.declarations.ElementType.TheVariants as element
use Rattle.stl_ast.specs.declared.declarations.TypeTree.{TypeTree}
use Rattle.stl_ast.specs.declared.declarations.Simple.{Simple}
use Rattle.stl_ast.specs.declared.names.BlockName.{BlockName}
use Rattle.stl_ast.specs.declared.names.BlockName.TheVariants as block
use Rattle.stl_ast.specs.Outline.{IsOutline, level_behind}
use Rattle.stl_ast.specs.declared.statements.Statement.{Statement}
use Rattle.stl_parser.specs.declared.clauses.Clause.{Clause}
use Rattle.stl_parser.specs.declared.clauses.Clause.TheVariants as clause
use Rattle.stl_parser.specs.declared.places.ClausePlace.{ClausePlace}
use Rattle.stl_parser.specs.declared.places.ClausePlace.TheVariants as place
use Rattle.stl_parser.specs.Clauses.{ClauseReading, level_at, clause_at}
use Rattle.stl_parser.specs.Frame.{next_place, next_place_outside, next_place_in_head, next_place_in_section, next_place_between, next_place_in_shape, next_place_behind_shape, next_place_in_body, next_place_in_settings}
use Rattle.stl_ast.specs.Blocks.{may_have_section, may_declare, has_shape, part_rank, is_date_and_time}
use Rattle.stl_ast.specs.Operands.{IsNameOf}
use Rattle.stl_ast.specs.Statements.{IsStatement}
use Rattle.stl_ast.specs.WellFormed.{IsSourceKind, IsHeadName, MayReturn, AreDeclaredIn, IsSection, AreSectionsInOrder, AreSections, IsComponent, AreComponents, IsShapeOf, IsSetting, AreSettings, IsBody, IsBlock}
use Rattle.stl_parser.proofs.OptionLemmas.{some_holds}
use Rattle.stl_parser.proofs.ClauseLemmas.{IsBaseName, IsRightClause, Fits, IsReadAt, clause_holds}
use Rattle.stl_parser.specs.Spelling.{is_kept_by_tree, is_udt, unspelled_clauses, spelled_part, spelled_shape, spelled_block}
use Rattle.stl_parser.specs.Source.{ClauseStep, step_of, step_of_reading, place_or_rule, step_or_rule, ReadsClauses, ClausesHaveTree}
use Rattle.std.proofs.lemmas.List.{append_assoc}
use Rattle.plc_base.proofs.TruthLemmas.{and_first, and_second}
use Rattle.stl_parser.proofs.TreeLemmas.{block_is_spelled}

-- the END clause of a block, and the blocks behind it
abbrev spelled_end : BlockKind → ℕ → List Block → List Clause
spelled_end k line bs = clause.Ends line k ∷ flat_map spelled_block bs

abbrev spelled_body : BlockKind → List Statement → ℕ → List Block → List Clause
spelled_body k xs line bs = map clause.Runs xs ++ spelled_end k line bs

abbrev spelled_settings : BlockKind → List Setting → ℕ → List Block → List Clause
spelled_settings k ss line bs = map clause.Sets ss ++ spelled_end k line bs

-- what is behind the head of a block
abbrev spelled_inside : BlockKind → List Part → Option TypeTree → Option BlockName → List Declaration → List Setting → List Statement →
    ℕ → List Block → List Clause
spelled_inside k ps s i ds ss xs line bs =
    flat_map spelled_part ps ++ (spelled_shape s i ds ++ (map clause.Sets ss ++ spelled_body k xs line bs))

abbrev AreRightBlocks : List Block → Type 0
AreRightBlocks bs = AllByRecursion IsBlock bs

-- sections in their order, none before the rank `least`
abbrev AreSectionsFrom : ℕ → BlockKind → List Part → Type 0
AreSectionsFrom least k ps = AreSectionsInOrder least ps × AllByRecursion (IsSection k) ps

-- declarations of a section from a level on
abbrev AreBehind : BlockKind → PartKind → ℕ → List Declaration → Type 0
AreBehind k p level ds = IsOutline level ds × AreDeclaredIn k p ds

abbrev AreComponentsBehind : ℕ → List Declaration → Type 0
AreComponentsBehind level ds = IsOutline level ds × AllByRecursion IsComponent ds

abbrev AreStatements : List Statement → Type 0
AreStatements xs = AllByRecursion IsStatement xs

-- what is behind the head of a block
record IsBlockInside (k : BlockKind) (ps : List Part) (s : Option TypeTree) (i : Option BlockName) (ds : List Declaration)
    (ss : List Setting) (xs : List Statement) : Type 0 where
  head : IsSourceKind k
  sections : AreSections k ps
  shaped : IsShapeOf k s i ds
  set : AreSettings k ss
  runs : IsBody k xs

-- the kept clauses from a place on are those of the rest of a tree, which is well-formed
abbrev Spells : ClausePlace → List Clause → Type 0
Spells place.Outside cs = (bs : List Block) × (cs ≡ flat_map spelled_block bs) × AreRightBlocks bs
Spells (place.Head k) cs =
    (ps : List Part) × (s : Option TypeTree) × (i : Option BlockName) × (ds : List Declaration) × (ss : List Setting)
    × (xs : List Statement) × (line : ℕ) × (bs : List Block) × (cs ≡ spelled_inside k ps s i ds ss xs line bs)
    × IsBlockInside k ps s i ds ss xs × AreRightBlocks bs
Spells (place.Section k p level) cs =
    (ds : List Declaration) × (ps : List Part) × (xs : List Statement) × (line : ℕ) × (bs : List Block)
    × (cs ≡ map clause.Declares ds ++ (flat_map spelled_part ps ++ spelled_body k xs line bs))
    × AreBehind k p level ds × AreSectionsFrom (part_rank p + 1) k ps × AreStatements xs × AreRightBlocks bs
Spells (place.Between k p) cs =
    (ps : List Part) × (xs : List Statement) × (line : ℕ) × (bs : List Block)
    × (cs ≡ flat_map spelled_part ps ++ spelled_body k xs line bs) × AreSectionsFrom (part_rank p + 1) k ps × AreStatements xs
    × AreRightBlocks bs
Spells (place.Shape k level) cs =
    (ds : List Declaration) × (ss : List Setting) × (line : ℕ) × (bs : List Block)
    × (cs ≡ map clause.Declares ds ++ spelled_settings k ss line bs) × AreComponentsBehind level ds × AreSettings k ss × AreRightBlocks bs
Spells (place.Shaped k) cs =
    (ss : List Setting) × (line : ℕ) × (bs : List Block) × (cs ≡ spelled_settings k ss line bs) × AreSettings k ss × AreRightBlocks bs
Spells (place.Body k) cs =
    (xs : List Statement) × (line : ℕ) × (bs : List Block) × (cs ≡ spelled_body k xs line bs) × AreStatements xs × AreRightBlocks bs
Spells place.Settings cs =
    (ss : List Setting) × (line : ℕ) × (bs : List Block) × (cs ≡ spelled_settings kinds.Db ss line bs) × AllByRecursion IsSetting ss
    × AreRightBlocks bs

-- the same behind a clause, where it may stand
abbrev SpellsBehind : Option ClausePlace → List Clause → Type 0
SpellsBehind None cs = ⊥
SpellsBehind (Some q) cs = Spells q cs

-- a clause and the kept ones behind it
abbrev kept_with : Clause → List Clause → List Clause
kept_with c cs = cond (is_kept_by_tree c) (c ∷ cs) cs

passes : (b : Bool) (q : ClausePlace) (cs : List Clause) → SpellsBehind (if b then Some q else None) cs → (b ≡ true) × Spells q cs
passes true q cs h = (refl, h)
passes false q cs h = absurd h

pub same_kind : (e k : BlockKind) → nat_eq (kind_order e) (kind_order k) ≡ true → e ≡ k
same_kind kinds.Ob kinds.Ob h = refl
same_kind kinds.Fc kinds.Fc h = refl
same_kind kinds.Fb kinds.Fb h = refl
same_kind kinds.Db kinds.Db h = refl
same_kind kinds.Sfc kinds.Sfc h = refl
same_kind kinds.Udt kinds.Udt h = refl
same_kind _ _ h = cc

true_is_no_false : {A : Type 0} (b : Bool) → b ≡ true → b ≡ false → A
true_is_no_false true h k = cc
true_is_no_false false h k = cc

-- a block and those behind it
head_spells : (line : ℕ) (k : BlockKind) (name : BlockName) (result : Option Simple) (cs : List Clause) → IsHeadName k name →
    MayReturn k result → Spells (place.Head k) cs → Spells place.Outside (clause.Head line k name result ∷ cs)
head_spells line k name result cs named returns (ps, s, i, ds, ss, xs, end_line, bs, e, inside, blocks) =
    let b : Block =
    record {
      line = line;
      end_line = end_line;
      kind = k;
      name = name;
      result = result;
      parts = ps;
      shape = s;
      components = ds;
      instance_of = i;
      settings = ss;
      body = xs;
    } in (
      b ∷ bs,
      block_is_spelled (clause.Head line k name result) (flat_map spelled_part ps) (spelled_shape s i ds) (map clause.Sets ss)
          (map clause.Runs xs) (clause.Ends end_line k) cs (spelled_shape s i ds ++ (map clause.Sets ss ++ spelled_body k xs end_line bs))
          (map clause.Sets ss ++ spelled_body k xs end_line bs) (spelled_body k xs end_line bs) (spelled_end k end_line bs)
          (flat_map spelled_block bs) e refl refl refl refl,
      (
        record {
          head = inside.head;
          named = named;
          returns = returns;
          sections = inside.sections;
          shaped = inside.shaped;
          set = inside.set;
          runs = inside.runs;
        },
        blocks,
      ),
    )

from_outside : (c : Clause) (cs : List Clause) → IsRightClause place.Outside c → SpellsBehind (next_place_outside c) cs →
    Spells place.Outside (kept_with c cs)
unfolding next_place_outside
from_outside (clause.Head line k name result) cs right h = head_spells line k name result cs right.0 right.1 h
from_outside _ cs right h = absurd h

-- a section in front of more of them
section_spells : (line : ℕ) (p : PartKind) (ds : List Declaration) (ps : List Part) (cs rest : List Clause) →
    cs ≡ map clause.Declares ds ++ (flat_map spelled_part ps ++ rest) →
    clause.Section line p ∷ cs ≡ flat_map spelled_part (record { line = line; kind = p; items = ds } ∷ ps) ++ rest
section_spells line p ds ps cs rest e =
    ap (λ xs. clause.Section line p ∷ xs) (e ∙ sym (append_assoc (map clause.Declares ds) (flat_map spelled_part ps) rest))

udt_name : (name : BlockName) → IsBaseName name → is_udt name ≡ true → IsNameOf (λ k. k ≡ kinds.Udt) name
udt_name (block.Number id) h test = (udt_kind id.kind test, h.1)
  where
    udt_kind : (k : BlockKind) → is_data_type k ≡ true → k ≡ kinds.Udt
    udt_kind kinds.Udt test = refl
    udt_kind _ test = cc
udt_name (block.Quoted name) h test = tt

fb_kind : (k : BlockKind) → (k ≡ kinds.Fb) ⊎ (k ≡ kinds.Udt) → is_data_type k ≡ false → k ≡ kinds.Fb
fb_kind k (inl h) test = h
fb_kind k (inr h) test = true_is_no_false (is_data_type k) (ap is_data_type h) test

fb_name : (name : BlockName) → IsBaseName name → is_udt name ≡ false → IsNameOf (λ k. k ≡ kinds.Fb) name
fb_name (block.Number id) h test = (fb_kind id.kind h.0 test, h.1)
fb_name (block.Quoted name) h test = tt

-- a data block that is based on this
based_spells : (name : BlockName) (b : Bool) (cs : List Clause) → IsBaseName name → is_udt name ≡ b → Spells (place.Shaped kinds.Db) cs →
    Spells (place.Head kinds.Db) (clause.Based name ∷ cs)
based_spells name true cs base udt (ss, line, bs, e, set, blocks) =
    let shape : Bool → List Clause = λ b. (if b then clause.Based name ∷ [] else unspelled_clauses) ++ spelled_settings kinds.Db ss line bs in (
      [],
      Some (record { arrays = []; of = element.Udt name }),
      None,
      [],
      ss,
      [],
      line,
      bs,
      ap (λ xs. clause.Based name ∷ xs) e ∙ sym (ap shape udt),
      record {
        head = tt;
        sections = (tt, tt);
        shaped = (refl, (udt_name name base udt, refl));
        set = set;
        runs = (tt, λ lacks. refl);
      },
      blocks,
    )
based_spells name false cs base udt (ss, line, bs, e, set, blocks) =
    let shape : Bool → List Clause = λ b. (if b then unspelled_clauses else clause.Based name ∷ []) ++ spelled_settings kinds.Db ss line bs in (
      [],
      None,
      Some name,
      [],
      ss,
      [],
      line,
      bs,
      ap (λ xs. clause.Based name ∷ xs) e ∙ sym (ap shape udt),
      record {
        head = tt;
        sections = (tt, tt);
        shaped = (fb_name name base udt, refl);
        set = set;
        runs = (tt, λ lacks. refl);
      },
      blocks,
    )

-- a block with sections has a body
with_section : (k : BlockKind) (p : PartKind) → may_have_section k p ≡ true → is_code k ≡ true
unfolding may_have_section
with_section kinds.Ob p h = refl
with_section kinds.Fc p h = refl
with_section kinds.Fb p h = refl
with_section _ p h = cc

block_with_body : (k : BlockKind) (ps : List Part) (xs : List Statement) → IsSourceKind k → AreSections k ps → IsShapeOf k None None [] →
    is_code k ≡ true → AreStatements xs → IsBlockInside k ps None None [] [] xs
block_with_body k ps xs head sections shaped h runs =
    record {
      head = head;
      sections = sections;
      shaped = shaped;
      set = (tt, λ lacks. refl);
      runs = (runs, λ lacks. true_is_no_false (is_code k) h lacks);
    }

-- a block with a body has no shape
shapeless : (k : BlockKind) (ps : List Part) (xs : List Statement) → is_code k ≡ true → AreSections k ps → AreStatements xs →
    IsBlockInside k ps None None [] [] xs
shapeless kinds.Ob ps xs h sections runs = block_with_body kinds.Ob ps xs tt sections (refl, refl, refl) h runs
shapeless kinds.Fc ps xs h sections runs = block_with_body kinds.Fc ps xs tt sections (refl, refl, refl) h runs
shapeless kinds.Fb ps xs h sections runs = block_with_body kinds.Fb ps xs tt sections (refl, refl, refl) h runs
shapeless _ ps xs h sections runs = cc

-- a block with a shape has no body
shaped_inside : (k : BlockKind) (ds : List Declaration) (ss : List Setting) → has_shape k ≡ true → AreComponents ds → AreSettings k ss →
    IsBlockInside k [] (Some (record { arrays = []; of = element.Structure })) None ds ss []
shaped_inside kinds.Db ds ss h components set =
    record { head = tt; sections = (tt, tt); shaped = (refl, components); set = set; runs = (tt, λ lacks. refl) }
shaped_inside kinds.Udt ds ss h components set =
    record { head = tt; sections = (tt, tt); shaped = (refl, refl, components); set = set; runs = (tt, λ lacks. refl) }
shaped_inside _ ds ss h components set = cc

from_based : (k : BlockKind) (name : BlockName) (cs : List Clause) → IsBaseName name → nat_eq (kind_order k) (kind_order kinds.Db) ≡ true →
    Spells (place.Shaped k) cs → Spells (place.Head k) (clause.Based name ∷ cs)
from_based kinds.Db name cs base test h = based_spells name (is_udt name) cs base refl h
from_based _ name cs base test h = cc

from_head : (k : BlockKind) (c : Clause) (cs : List Clause) → IsRightClause (place.Head k) c → SpellsBehind (next_place_in_head k c) cs →
    Spells (place.Head k) (kept_with c cs)
unfolding next_place_in_head
from_head k clause.Note cs right h = h
from_head k clause.Title cs right h = h
from_head k (clause.Section line p) cs right h =
    let passed = passes (may_have_section k p) (place.Section k p 0) cs h in
    let s = passed.1 in
    let part : Part = record { line = line; kind = p; items = s.0 } in (
      part ∷ s.1,
      None,
      None,
      [],
      [],
      s.2,
      s.3,
      s.4,
      section_spells line p s.0 s.1 cs _ s.5,
      shapeless k (part ∷ s.1) s.2 (with_section k p passed.0)
          ((omega arith, s.7.0), ((passed.0, s.6.0, s.6.1), s.7.1)) s.8,
      s.9,
    )
from_head k clause.Begins cs right h =
    let passed = passes (is_code k) (place.Body k) cs h in
    let s = passed.1 in ([], None, None, [], [], s.0, s.1, s.2, s.3, shapeless k [] s.0 passed.0 (tt, tt) s.4, s.5)
from_head k clause.Structure cs right h =
    let passed = passes (has_shape k) (place.Shape k 0) cs h in
    let s = passed.1 in (
      [],
      Some (record { arrays = []; of = element.Structure }),
      None,
      s.0,
      s.1,
      [],
      s.2,
      s.3,
      ap (λ xs. clause.Structure ∷ xs) s.4,
      shaped_inside k s.0 s.1 passed.0 s.5 s.6,
      s.7,
    )
from_head k (clause.Based name) cs right h =
    let passed = passes (nat_eq (kind_order k) (kind_order kinds.Db)) (place.Shaped k) cs h in from_based k name cs right passed.0 passed.1
from_head k _ cs right h = absurd h

-- an outline of a level is one of the next
deeper : (level : ℕ) (ds : List Declaration) → IsOutline level ds → IsOutline (suc level) ds
deeper level [] h = tt
deeper level (d ∷ ds) h = (omega (arith, h.0), h.1)

-- a declaration at the level in front of those that it leaves open
one_deeper : (level : ℕ) (d : Declaration) (ds : List Declaration) → d.level ≡ level → IsOutline (level_behind level d.of.of) ds →
    IsOutline level (d ∷ ds)
one_deeper level d ds at h = (omega (arith, at), subst (λ n. IsOutline (level_behind n d.of.of) ds) (sym at) h)

from_section : (k : BlockKind) (p : PartKind) (level : ℕ) (c : Clause) (cs : List Clause) → IsRightClause (place.Section k p level) c →
    IsAt level c → SpellsBehind (next_place_in_section k p level c) cs → Spells (place.Section k p level) (kept_with c cs)
unfolding next_place_in_section
from_section k p level clause.EndSection cs right at h =
    let s = (passes (nat_eq level 0) (place.Between k p) cs h).1 in ([], s.0, s.1, s.2, s.3, s.4, (tt, tt), s.5, s.6, s.7)
from_section k p level (clause.Declares d) cs right at h =
    let passed = passes (may_declare k p level d) (place.Section k p (level_behind level d.of.of)) cs h in
    let s = passed.1 in
    let may : may_declare k p d.level d ≡ true = subst (λ n. may_declare k p n d ≡ true) (sym at) passed.0 in (
      d ∷ s.0,
      s.1,
      s.2,
      s.3,
      s.4,
      ap (λ xs. clause.Declares d ∷ xs) s.5,
      (one_deeper level d s.0 at s.6.0, ((right.0, may, right.1), s.6.1)),
      s.7,
      s.8,
      s.9,
    )
from_section k p zero clause.EndStructure cs right at h = absurd h
from_section k p (suc level) clause.EndStructure cs right at h =
    (h.0, h.1, h.2, h.3, h.4, h.5, (deeper level h.0 h.6.0, h.6.1), h.7, h.8, h.9)
from_section k p level _ cs right at h = absurd h

-- a later section
later : (m n : ℕ) → nat_lt m n ≡ true → m + 1 ≤ n
later m n test = grind (arith, nat_tests)

from_between : (k : BlockKind) (p : PartKind) (c : Clause) (cs : List Clause) → SpellsBehind (next_place_between k p c) cs →
    Spells (place.Between k p) (kept_with c cs)
unfolding next_place_between
from_between k p (clause.Section line q) cs h =
    let passed = passes (may_have_section k q && nat_lt (part_rank p) (part_rank q)) (place.Section k q 0) cs h in
    let s = passed.1 in (
      record { line = line; kind = q; items = s.0 } ∷ s.1,
      s.2,
      s.3,
      s.4,
      section_spells line q s.0 s.1 cs _ s.5,
      (
        (later (part_rank p) (part_rank q) (and_second (may_have_section k q) _ passed.0), s.7.0),
        ((and_first (may_have_section k q) _ passed.0, s.6.0, s.6.1), s.7.1),
      ),
      s.8,
      s.9,
    )
from_between k p clause.Begins cs h = ([], h.0, h.1, h.2, h.3, (tt, tt), h.4, h.5)
from_between k p _ cs h = absurd h

not_date : (b : Bool) (q : ClausePlace) (cs : List Clause) → SpellsBehind (if b then None else Some q) cs → (b ≡ false) × Spells q cs
not_date true q cs h = absurd h
not_date false q cs h = (refl, h)

from_shape : (k : BlockKind) (level : ℕ) (c : Clause) (cs : List Clause) → IsRightClause (place.Shape k level) c → IsAt level c →
    SpellsBehind (next_place_in_shape k level c) cs → Spells (place.Shape k level) (kept_with c cs)
unfolding next_place_in_shape
from_shape k level (clause.Declares d) cs right at h =
    let passed = not_date (is_date_and_time d.of.of) (place.Shape k (level_behind level d.of.of)) cs h in
    let s = passed.1 in (
      d ∷ s.0,
      s.1,
      s.2,
      s.3,
      ap (λ xs. clause.Declares d ∷ xs) s.4,
      (one_deeper level d s.0 at s.5.0, ((right.0, passed.0), s.5.1)),
      s.6,
      s.7,
    )
from_shape k zero clause.EndStructure cs right at h = ([], h.0, h.1, h.2, h.3, (tt, tt), h.4, h.5)
from_shape k (suc level) clause.EndStructure cs right at h =
    (h.0, h.1, h.2, h.3, h.4, (deeper level h.0 h.5.0, h.5.1), h.6, h.7)
from_shape k level _ cs right at h = absurd h

-- the END clause of a block, and what is behind it
end_spells : (line : ℕ) (k : BlockKind) (cs : List Clause) → Spells place.Outside cs → Spells (place.Shaped k) (clause.Ends line k ∷ cs)
end_spells line k cs h = ([], line, h.0, ap (λ xs. clause.Ends line k ∷ xs) h.1, (tt, λ lacks. refl), h.2)

from_shaped : (k : BlockKind) (c : Clause) (cs : List Clause) → SpellsBehind (next_place_behind_shape k c) cs → Spells (place.Shaped k) (kept_with c cs)
unfolding next_place_behind_shape
from_shaped kinds.Db clause.Begins cs h =
    (h.0, h.1, h.2, h.3, (h.4, λ lacks. true_is_no_false (is_data_block kinds.Db) refl lacks), h.5)
from_shaped kinds.Udt (clause.Ends line kinds.Udt) cs h = end_spells line kinds.Udt cs h
from_shaped _ _ cs h = absurd h

from_body : (k : BlockKind) (c : Clause) (cs : List Clause) → IsRightClause (place.Body k) c → SpellsBehind (next_place_in_body k c) cs →
    Spells (place.Body k) (kept_with c cs)
unfolding next_place_in_body
from_body k (clause.Runs s) cs right h = (s ∷ h.0, h.1, h.2, ap (λ xs. clause.Runs s ∷ xs) h.3, (right, h.4), h.5)
from_body k clause.Network cs right h = h
from_body k clause.Title cs right h = h
from_body k (clause.Ends line e) cs right h =
    let s = passes (nat_eq (kind_order e) (kind_order k)) place.Outside cs h in
    ([], line, s.1.0, ap (λ x. clause.Ends line x ∷ cs) (same_kind e k s.0) ∙ ap (λ xs. clause.Ends line k ∷ xs) s.1.1, tt, s.1.2)
from_body k _ cs right h = absurd h

from_settings : (c : Clause) (cs : List Clause) → IsRightClause place.Settings c → SpellsBehind (next_place_in_settings c) cs →
    Spells place.Settings (kept_with c cs)
unfolding next_place_in_settings
from_settings (clause.Sets s) cs right h = (s ∷ h.0, h.1, h.2, ap (λ xs. clause.Sets s ∷ xs) h.3, (right, h.4), h.5)
from_settings (clause.Ends line kinds.Db) cs right h =
    ([], line, h.0, ap (λ xs. clause.Ends line kinds.Db ∷ xs) h.1, tt, h.2)
from_settings _ cs right h = absurd h

one_more : (p : ClausePlace) (c : Clause) (cs : List Clause) → IsRightClause p c → IsAt (level_at p) c → SpellsBehind (next_place p c) cs →
    Spells p (kept_with c cs)
unfolding next_place
one_more place.Outside c cs right at h = from_outside c cs right h
one_more (place.Head k) c cs right at h = from_head k c cs right h
one_more (place.Section k p level) c cs right at h = from_section k p level c cs right at h
one_more (place.Between k p) c cs right at h = from_between k p c cs h
one_more (place.Shape k level) c cs right at h = from_shape k level c cs right at h
one_more (place.Shaped k) c cs right at h = from_shaped k c cs h
one_more (place.Body k) c cs right at h = from_body k c cs right h
one_more place.Settings c cs right at h = from_settings c cs right h

was_placed : (p : ClausePlace) (c : Clause) (rest : List Token) (long : Bool) (f : Option ClausePlace) (d : Clause) (behind : List Token) (q : ClausePlace) →
    step_or_rule c rest (place_or_rule long f) ≡ Ok (d, behind, q) → next_place p c ≡ f →
    (◌≡◌ {A = ClauseReading} (Some (c, rest, long)) (Some (d, behind, false))) × (next_place p d ≡ Some q)
was_placed p c rest long None d behind q same followed = cc
was_placed p c rest true (Some next) d behind q same followed = cc
was_placed p c rest false (Some next) d behind q same followed =
    let read_of : Result ClauseStep ℕ → ClauseReading = λ r. elim r [ Ok s ↦ Some (s.0, s.1, false) | Err e ↦ None ] in
    let clause_of : Result ClauseStep ℕ → Clause = λ r. elim r [ Ok s ↦ s.0 | Err e ↦ c ] in
    let next_of : Result ClauseStep ℕ → ClausePlace = λ r. elim r [ Ok s ↦ s.2 | Err e ↦ next ] in
    (ap read_of same, sym (ap (λ r. next_place p (clause_of r)) same) ∙ followed ∙ ap (λ r. Some (next_of r)) same)

was_right : (p : ClausePlace) (read : ClauseReading) (d : Clause) (behind : List Token) (q : ClausePlace) → step_of_reading p read ≡ Ok (d, behind, q) →
    (read ≡ Some (d, behind, false)) × (next_place p d ≡ Some q)
was_right p None d behind q same = cc
was_right p (Some r) d behind q same = was_placed p r.0 r.1 r.2 (next_place p r.0) d behind q same refl

pub level_of : (source : List ℕ) (p : ClausePlace) (tokens : List Token) (c : Clause) (rest : List Token) →
    clause_at source p tokens ≡ Some (c, rest, false) → IsAt (level_at p) c
level_of source p tokens (clause.Declares d) rest h = read_level source p tokens d rest false h
level_of source p tokens _ rest h = tt

-- a right clause has no label that is too long, and the frame lets it stand there
pub right_clause : (source : List ℕ) (p : ClausePlace) (tokens : List Token) (c : Clause) (behind : List Token) (q : ClausePlace) →
    step_of source p tokens ≡ Ok (c, behind, q) → (clause_at source p tokens ≡ Some (c, behind, false)) × (next_place p c ≡ Some q)
unfolding step_of
right_clause source p tokens c behind q same = was_right p (clause_at source p tokens) c behind q same

-- what is read keeps what a right clause keeps, and its code fits into its tokens
pub read_holds : (source : List ℕ) (p : ClausePlace) (tokens : List Token) (c : Clause) (rest : List Token) →
    clause_at source p tokens ≡ Some (c, rest, false) → IsRightClause p c × Fits (length tokens) c (length rest)
read_holds source p tokens c rest h =
    let held = some_holds (clause_at source p tokens) (c, rest, false) (IsReadAt p (length tokens)) h (clause_holds source p tokens) in
    (held.0 refl, held.1)

reads_spell : (source : List ℕ) (p : ClausePlace) (ts : List Token) (cs : List Clause) (rest : List Token) →
    ReadsClauses source p ts cs place.Outside rest → Spells p (filter is_kept_by_tree cs)
reads_spell source p ts [] rest reads = subst (λ q. Spells q []) (sym reads.0) ([], refl, tt)
reads_spell source p ts (c ∷ cs) rest reads =
    let right = right_clause source p ts c reads.0 reads.1 reads.2 in
    one_more p c (filter is_kept_by_tree cs) (read_holds source p ts c reads.0 right.0).0 (level_of source p ts c reads.0 right.0)
    (subst (λ f. SpellsBehind f (filter is_kept_by_tree cs)) (sym right.1) (reads_spell source reads.1 reads.0 cs rest reads.3))

pub tree_there : ClausesHaveTree
tree_there source tokens cs right =
    let spelled = reads_spell source place.Outside tokens cs [] right in
    (record { blocks = spelled.0 }, record { clauses = cs; reads = right; those = sym spelled.1 }, spelled.2)
