-- Where clauses stand inside a block, and what a tree keeps of them.
use Rattle.std.proofs.Common.{arith, ℕ, zero, suc, ◌+◌, ◌≤◌, ◌<◌, ◌≡◌, ◌⊎◌, inl, inr, Bool, true, false, List, [], ◌∷◌, ◌++◌, map, filter, length, Option, Some, None, Result, Ok, Err, if◌then◌else◌, refl, sym, ◌∙◌, ap, subst}
use Rattle.std.specs.Prelude.{nat_eq, nat_lt, ◌&&◌}
use Rattle.std.specs.List.{flat_map}
use Rattle.std.proofs.lemmas.List.{append_assoc, append-nil, map-append}
use Rattle.std.proofs.lemmas.Option.{same_Some}
use Rattle.plc_base.specs.Kinds.{is_code, kind_order}
use Rattle.plc_base.specs.declared.blocks.BlockKind.{BlockKind}
use Rattle.plc_base.specs.declared.blocks.BlockKind.TheVariants as kinds
use Rattle.stl_lexer.specs.Limits.{source_limit}
use Rattle.stl_lexer.specs.declared.kinds.Token.{Token}
use Rattle.stl_ast.specs.declared.blocks.Block.{Block}
use Rattle.stl_ast.specs.declared.blocks.Part.{Part}
use Rattle.stl_ast.specs.declared.blocks.PartKind.{PartKind}
use Rattle.stl_ast.specs.declared.blocks.Setting.{Setting}
use Rattle.stl_ast.specs.declared.declarations.Declaration.{Declaration}
use Rattle.stl_ast.specs.declared.declarations.ElementType.{ElementType}
use Rattle.stl_ast.specs.declared.declarations.Simple.{Simple}
use Rattle.stl_ast.specs.declared.names.BlockName.{BlockName}
use Rattle.stl_ast.specs.declared.declarations.ElementType.TheVariants as element
use Rattle.stl_ast.specs.declared.statements.Statement.{Statement}
use Rattle.stl_ast.specs.Outline.{IsOutline, deepest_behind, level_behind}
use Rattle.stl_ast.proofs.Outlines.{IsOutline-push, deepest_behind-push}
use Rattle.stl_ast.specs.Blocks.{may_have_section, may_declare, has_shape, is_date_and_time, part_rank}
use Rattle.stl_parser.specs.declared.clauses.Clause.{Clause}
use Rattle.stl_parser.specs.declared.clauses.Clause.TheVariants as clause
use Rattle.stl_parser.specs.declared.places.ClausePlace.{ClausePlace}
use Rattle.stl_parser.specs.declared.places.ClausePlace.TheVariants as place
use Rattle.stl_parser.specs.BlockReading.{is_inside, behind_inside, declarations_of_clause, settings_of_clause, statements_of_clause, opens_shape, opens_part, opened_place, ReadsContent, ReadsShape}
use Rattle.stl_parser.specs.Clauses.{level_at}
use Rattle.stl_parser.specs.Frame.{next_place, next_place_outside, next_place_in_head, next_place_in_section, next_place_between, next_place_in_shape, next_place_behind_shape, next_place_in_body, next_place_in_settings}
use Rattle.stl_parser.specs.Source.{ClauseStep, step_of, is_outside, ReadsClauses, ReadsKeptClauses}
use Rattle.stl_parser.specs.Spelling.{is_kept_by_tree, spelled_part, spelled_behind_head, spelled_block}
use Rattle.stl_parser.proofs.FrameLemmas.{right_clause, level_of, same_kind}
use Rattle.stl_parser.proofs.LawLemmas.{end_is_stuck}
use Rattle.stl_parser.proofs.LevelLemmas.{IsAt}
use Rattle.stl_parser.proofs.SourceLemmas.{kept_then, kept_more}
use Rattle.stl_parser.proofs.TotalLemmas.{fewer_left}
use Rattle.stl_parser.proofs.TreeLemmas.{flat_map_last}

if_some : {A : Type 0} (b : Bool) (x q : A) → (if b then Some x else None) ≡ Some q → (b ≡ true) × (q ≡ x)
if_some true x q h = (refl, cc)
if_some false x q h = cc

if_none : {A : Type 0} (b : Bool) (x q : A) → (if b then None else Some x) ≡ Some q → q ≡ x
if_none true x q h = cc
if_none false x q h = cc

ok_no_err : {A B : Type 0} (a : A) (b : B) → ◌≡◌ {A = Result A B} (Ok a) (Err b) → ⊥
ok_no_err a b same = cc

-- a right clause takes a token at least
pub fewer : (source : List ℕ) (p : ClausePlace) (ts : List Token) (c : Clause) (behind : List Token) (q : ClausePlace) →
    step_of source p ts ≡ Ok (c, behind, q) → length behind < length ts
fewer source p [] c behind q found = absurd (ok_no_err {A = ClauseStep} {B = ℕ} (c, behind, q) 10 (sym found ∙ end_is_stuck source p))
fewer source p (t ∷ ts) c behind q found = fewer_left source p (t ∷ ts) c behind q (omega arith) (sym found)

-- inside a section or a structure: the level behind a clause is at most so great
abbrev pub level_after : ℕ → Clause → ℕ
level_after level (clause.Declares d) = level_behind level d.of.of
level_after level _ = level

-- where the next clause stands: inside, too, or behind the end
abbrev StaysInside : ClausePlace → Clause → ClausePlace → Type 0
StaysInside p c q =
    (behind_inside q ≡ behind_inside p) × (filter is_kept_by_tree (c ∷ []) ≡ map clause.Declares (declarations_of_clause c))
    × (level_at q ≤ level_after (level_at p) c)

abbrev EndsInside : ClausePlace → Clause → ClausePlace → Type 0
EndsInside p c q = (q ≡ behind_inside p) × (filter is_kept_by_tree (c ∷ []) ≡ [])

abbrev InsideStep : ClausePlace → Clause → ClausePlace → Bool → Type 0
InsideStep p c q true = StaysInside p c q
InsideStep p c q false = EndsInside p c q

in_section : (k : BlockKind) (p : PartKind) (level : ℕ) (c : Clause) (q : ClausePlace) → next_place_in_section k p level c ≡ Some q →
    InsideStep (place.Section k p level) c q (is_inside q)
unfolding next_place_in_section
in_section k p level (clause.Declares d) q h =
    subst (λ x. InsideStep (place.Section k p level) (clause.Declares d) x (is_inside x))
    (sym (if_some (may_declare k p level d) (place.Section k p (level_behind level d.of.of)) q h).1) (refl, refl, omega arith)
in_section k p level clause.EndSection q h =
    subst (λ x. InsideStep (place.Section k p level) clause.EndSection x (is_inside x))
    (sym (if_some (nat_eq level 0) (place.Between k p) q h).1) (refl, refl)
in_section k p zero clause.EndStructure q h = cc
in_section k p (suc level) clause.EndStructure q h =
    subst (λ x. InsideStep (place.Section k p (suc level)) clause.EndStructure x (is_inside x)) (sym (same_Some q _ (sym h))) (refl, refl, omega arith)
in_section k p level _ q h = cc

in_shape : (k : BlockKind) (level : ℕ) (c : Clause) (q : ClausePlace) → next_place_in_shape k level c ≡ Some q →
    InsideStep (place.Shape k level) c q (is_inside q)
unfolding next_place_in_shape
in_shape k level (clause.Declares d) q h =
    subst (λ x. InsideStep (place.Shape k level) (clause.Declares d) x (is_inside x))
    (sym (if_none (is_date_and_time d.of.of) (place.Shape k (level_behind level d.of.of)) q h)) (refl, refl, omega arith)
in_shape k zero clause.EndStructure q h =
    subst (λ x. InsideStep (place.Shape k zero) clause.EndStructure x (is_inside x)) (sym (same_Some q _ (sym h))) (refl, refl)
in_shape k (suc level) clause.EndStructure q h =
    subst (λ x. InsideStep (place.Shape k (suc level)) clause.EndStructure x (is_inside x)) (sym (same_Some q _ (sym h))) (refl, refl, omega arith)
in_shape k level _ q h = cc

inside_follows : (p : ClausePlace) (c : Clause) (q : ClausePlace) → is_inside p ≡ true → next_place p c ≡ Some q → InsideStep p c q (is_inside q)
unfolding next_place
inside_follows (place.Section k p level) c q inside h = in_section k p level c q h
inside_follows (place.Shape k level) c q inside h = in_shape k level c q h
inside_follows _ c q inside h = cc

pub inside_is_open : (p : ClausePlace) → is_inside p ≡ true → is_outside p ≡ false
inside_is_open place.Outside h = cc
inside_is_open _ h = refl

-- one declaration more, or none
pub outline_more : (level next : ℕ) (c : Clause) (ds : List Declaration) → IsAt level c → IsOutline 0 ds → level ≤ deepest_behind 0 ds →
    next ≤ level_after level c → IsOutline 0 (ds ++ declarations_of_clause c) × (next ≤ deepest_behind 0 (ds ++ declarations_of_clause c))
outline_more level next (clause.Declares d) ds at outline deepest within = (
  IsOutline-push 0 ds d outline (omega (arith, at, deepest)),
  omega (arith, deepest_behind-push 0 ds d, within, ap (λ l. level_behind l d.of.of) at),
)
outline_more level next _ ds at outline deepest within = rw (append-nil ds) (outline, omega (arith, deepest, within))

level_rises : (level : ℕ) (c : Clause) → level_after level c ≤ level + 1
level_rises level (clause.Declares d) = by_type level d.of.of
  where
    by_type : (l : ℕ) (t : ElementType) → level_behind l t ≤ l + 1
    by_type l (element.Plain kind) = omega arith
    by_type l element.Structure = omega arith
    by_type l (element.Udt name) = omega arith
    by_type l element.DateAndTime = omega arith
level_rises level _ = omega arith

-- what the loop over declarations has read
pub record DeclarationsRead (source : List ℕ) (from : ClausePlace) (tokens : List Token) (items : List Declaration) (at : ClausePlace)
    (rest : List Token) : Type 0 where
  pub reads : ReadsKeptClauses source from tokens (map clause.Declares items) at rest
  pub inside : is_inside at ≡ true
  pub end : behind_inside at ≡ behind_inside from
  pub outline : IsOutline 0 items
  pub deepest : level_at at ≤ deepest_behind 0 items
  pub few : level_at at + length rest ≤ source_limit

inside_step : (source : List ℕ) (p : ClausePlace) (rest : List Token) (c : Clause) (behind : List Token) (q : ClausePlace) (b : Bool) →
    is_inside p ≡ true → step_of source p rest ≡ Ok (c, behind, q) → is_inside q ≡ b → InsideStep p c q b
inside_step source p rest c behind q b inside found is =
    subst (InsideStep p c q) is (inside_follows p c q inside (right_clause source p rest c behind q found).1)

pub declarations_more : (source : List ℕ) (from : ClausePlace) (tokens : List Token) (items : List Declaration) (at : ClausePlace)
    (rest : List Token) (c : Clause) (behind : List Token) (next : ClausePlace) (now : List Declaration) →
    DeclarationsRead source from tokens items at rest → step_of source at rest ≡ Ok (c, behind, next) → is_inside next ≡ true →
    now ≡ items ++ declarations_of_clause c → DeclarationsRead source from tokens now next behind
declarations_more source from tokens items at rest c behind next now so_far found inside kept =
    let stays = inside_step source at rest c behind next true so_far.inside found inside in
    let right = right_clause source at rest c behind next found in
    let more = outline_more (level_at at) (level_at next) c items (level_of source at rest c behind right.0) so_far.outline so_far.deepest stays.2 in
    let spelled : map clause.Declares items ++ filter is_kept_by_tree (c ∷ []) ≡ map clause.Declares (items ++ declarations_of_clause c) =
    ap (λ ks. map clause.Declares items ++ ks) stays.1 ∙ sym (map-append clause.Declares items (declarations_of_clause c)) in
    rw kept (record {
      reads = subst (λ ks. ReadsKeptClauses source from tokens ks next behind) spelled
          (kept_more source from tokens (map clause.Declares items) at rest c behind next so_far.reads found);
      inside = inside;
      end = stays.0 ∙ so_far.end;
      outline = more.0;
      deepest = more.1;
      few = omega (arith, so_far.few, stays.2, level_rises (level_at at) c, fewer source at rest c behind next found);
    })

pub declarations_end : (source : List ℕ) (from : ClausePlace) (tokens : List Token) (items : List Declaration) (at : ClausePlace)
    (rest : List Token) (c : Clause) (behind : List Token) (next : ClausePlace) →
    DeclarationsRead source from tokens items at rest → step_of source at rest ≡ Ok (c, behind, next) → is_inside next ≡ false →
    ReadsKeptClauses source from tokens (map clause.Declares items) (behind_inside from) behind
declarations_end source from tokens items at rest c behind next so_far found inside =
    let ends = inside_step source at rest c behind next false so_far.inside found inside in
    let spelled : map clause.Declares items ++ filter is_kept_by_tree (c ∷ []) ≡ map clause.Declares items =
    ap (λ ks. map clause.Declares items ++ ks) ends.1 ∙ append-nil (map clause.Declares items) in
    subst (λ q. ReadsKeptClauses source from tokens (map clause.Declares items) q behind) (ends.0 ∙ so_far.end)
    (subst (λ ks. ReadsKeptClauses source from tokens ks next behind) spelled
    (kept_more source from tokens (map clause.Declares items) at rest c behind next so_far.reads found))

-- in a body: the END clause of the block, or the place stays
abbrev pub BodyStep : BlockKind → Clause → ClausePlace → Type 0
BodyStep k (clause.Ends line e) q = (e ≡ k) × (q ≡ place.Outside)
BodyStep k c q = (q ≡ place.Body k) × (filter is_kept_by_tree (c ∷ []) ≡ map clause.Runs (statements_of_clause c))

body_follows : (k : BlockKind) (c : Clause) (q : ClausePlace) → next_place_in_body k c ≡ Some q → BodyStep k c q
unfolding next_place_in_body
body_follows k (clause.Runs s) q h = (same_Some q _ (sym h), refl)
body_follows k clause.Network q h = (same_Some q _ (sym h), refl)
body_follows k clause.Title q h = (same_Some q _ (sym h), refl)
body_follows k (clause.Ends line e) q h =
    let s = if_some (nat_eq (kind_order e) (kind_order k)) place.Outside q h in (same_kind e k s.0, s.1)
body_follows k _ q h = cc

pub body_step : (source : List ℕ) (k : BlockKind) (rest : List Token) (c : Clause) (behind : List Token) (q : ClausePlace) →
    step_of source (place.Body k) rest ≡ Ok (c, behind, q) → BodyStep k c q
unfolding next_place
body_step source k rest c behind q found = body_follows k c q (right_clause source (place.Body k) rest c behind q found).1

-- behind the type of a block and among its settings
abbrev pub IsTail : BlockKind → ClausePlace → Type 0
IsTail k (place.Shaped j) = j ≡ k
IsTail k place.Settings = kinds.Db ≡ k
IsTail k _ = ⊥

abbrev pub TailStep : BlockKind → Clause → ClausePlace → Type 0
TailStep k (clause.Ends line e) q = (e ≡ k) × (q ≡ place.Outside)
TailStep k c q = IsTail k q × (filter is_kept_by_tree (c ∷ []) ≡ map clause.Sets (settings_of_clause c))

shaped_follows : (k : BlockKind) (c : Clause) (q : ClausePlace) → next_place_behind_shape k c ≡ Some q → TailStep k c q
unfolding next_place_behind_shape
shaped_follows kinds.Db clause.Begins q h = (subst (IsTail kinds.Db) (same_Some _ q h) refl, refl)
shaped_follows kinds.Udt (clause.Ends line kinds.Udt) q h = (refl, same_Some q _ (sym h))
shaped_follows _ _ q h = cc

settings_follow : (c : Clause) (q : ClausePlace) → next_place_in_settings c ≡ Some q → TailStep kinds.Db c q
unfolding next_place_in_settings
settings_follow (clause.Sets s) q h = (subst (IsTail kinds.Db) (same_Some _ q h) refl, refl)
settings_follow (clause.Ends line kinds.Db) q h = (refl, same_Some q _ (sym h))
settings_follow _ q h = cc

tail_follows : (k : BlockKind) (p : ClausePlace) (c : Clause) (q : ClausePlace) → IsTail k p → next_place p c ≡ Some q → TailStep k c q
unfolding next_place
tail_follows k (place.Shaped j) c q is h = subst (λ k. TailStep k c q) is (shaped_follows j c q h)
tail_follows k place.Settings c q is h = subst (λ k. TailStep k c q) is (settings_follow c q h)
tail_follows k _ c q is h = absurd is

pub tail_step : (source : List ℕ) (k : BlockKind) (p : ClausePlace) (rest : List Token) (c : Clause) (behind : List Token) (q : ClausePlace) →
    IsTail k p → step_of source p rest ≡ Ok (c, behind, q) → TailStep k c q
tail_step source k p rest c behind q is found = tail_follows k p c q is (right_clause source p rest c behind q found).1

pub tail_is_open : (k : BlockKind) (p : ClausePlace) → IsTail k p → is_outside p ≡ false
tail_is_open k (place.Shaped j) is = refl
tail_is_open k place.Settings is = refl
tail_is_open k _ is = absurd is

pub tail_level : (k : BlockKind) (p : ClausePlace) → IsTail k p → level_at p ≡ 0
tail_level k (place.Shaped j) is = refl
tail_level k place.Settings is = refl
tail_level k _ is = absurd is

-- behind the head of a block
head_follows : (k : BlockKind) (c : Clause) (q : ClausePlace) → next_place_in_head k c ≡ Some q → opened_place k c ≡ q
unfolding next_place_in_head
head_follows k clause.Note q h = same_Some _ q h
head_follows k clause.Title q h = same_Some _ q h
head_follows k (clause.Section line p) q h = sym (if_some (may_have_section k p) (place.Section k p 0) q h).1
head_follows k clause.Begins q h = sym (if_some (is_code k) (place.Body k) q h).1
head_follows k clause.Structure q h = sym (if_some (has_shape k) (place.Shape k 0) q h).1
head_follows k (clause.Based name) q h = sym (if_some (nat_eq (kind_order k) (kind_order kinds.Db)) (place.Shaped k) q h).1
head_follows k _ q h = cc

head_opens : (k : BlockKind) (c : Clause) (q : ClausePlace) → next_place_in_head k c ≡ Some q → (c ≡ clause.Note → ⊥) → (c ≡ clause.Title → ⊥) →
    opens_part c ≡ true
unfolding next_place_in_head
head_opens k clause.Note q h no_note no_title = absurd (no_note refl)
head_opens k clause.Title q h no_note no_title = absurd (no_title refl)
head_opens k (clause.Section line p) q h no_note no_title = refl
head_opens k clause.Begins q h no_note no_title = refl
head_opens k clause.Structure q h no_note no_title = refl
head_opens k (clause.Based name) q h no_note no_title = refl
head_opens k _ q h no_note no_title = cc

-- a clause more behind the head, where nothing was kept before
pub opening_read : (source : List ℕ) (k : BlockKind) (tokens rest : List Token) (c : Clause) (behind : List Token) (q : ClausePlace) →
    ReadsKeptClauses source (place.Head k) tokens [] (place.Head k) rest → step_of source (place.Head k) rest ≡ Ok (c, behind, q) →
    ReadsKeptClauses source (place.Head k) tokens (filter is_kept_by_tree (c ∷ [])) (opened_place k c) behind
unfolding next_place
opening_read source k tokens rest c behind q so_far found =
    subst (λ p. ReadsKeptClauses source (place.Head k) tokens (filter is_kept_by_tree (c ∷ [])) p behind)
    (sym (head_follows k c q (right_clause source (place.Head k) rest c behind q found).1))
    (kept_more source (place.Head k) tokens [] (place.Head k) rest c behind q so_far found)

-- it is a note
pub note_more : (source : List ℕ) (k : BlockKind) (tokens : List Token) (c : Clause) (behind : List Token) →
    ReadsKeptClauses source (place.Head k) tokens (filter is_kept_by_tree (c ∷ [])) (opened_place k c) behind →
    (c ≡ clause.Note) ⊎ (c ≡ clause.Title) → ReadsKeptClauses source (place.Head k) tokens [] (place.Head k) behind
note_more source k tokens clause.Note behind read is = read
note_more source k tokens clause.Title behind read is = read
note_more source k tokens c behind read (inl is) = cc
note_more source k tokens c behind read (inr is) = cc

-- or it opens a part
pub no_note_opens : (source : List ℕ) (k : BlockKind) (rest : List Token) (c : Clause) (behind : List Token) (q : ClausePlace) →
    step_of source (place.Head k) rest ≡ Ok (c, behind, q) → (c ≡ clause.Note → ⊥) → (c ≡ clause.Title → ⊥) → opens_part c ≡ true
unfolding next_place
no_note_opens source k rest c behind q found no_note no_title =
    head_opens k c q (right_clause source (place.Head k) rest c behind q found).1 no_note no_title

between_follows : (k : BlockKind) (last : PartKind) (c : Clause) (q : ClausePlace) → next_place_between k last c ≡ Some q →
    (opened_place k c ≡ q) × (opens_part c ≡ true)
unfolding next_place_between
between_follows k last (clause.Section line p) q h =
    (sym (if_some (may_have_section k p && nat_lt (part_rank last) (part_rank p)) (place.Section k p 0) q h).1, refl)
between_follows k last clause.Begins q h = (same_Some _ q h, refl)
between_follows k last _ q h = cc

pub between_step : (source : List ℕ) (k : BlockKind) (last : PartKind) (rest : List Token) (c : Clause) (behind : List Token) (q : ClausePlace) →
    step_of source (place.Between k last) rest ≡ Ok (c, behind, q) → (opened_place k c ≡ q) × (opens_part c ≡ true)
unfolding next_place
between_step source k last rest c behind q found =
    between_follows k last c q (right_clause source (place.Between k last) rest c behind q found).1

-- between blocks
abbrev pub OutsideStep : Clause → ClausePlace → Type 0
OutsideStep (clause.Head line k name result) q = q ≡ place.Head k
OutsideStep _ q = ⊥

outside_follows : (c : Clause) (q : ClausePlace) → next_place_outside c ≡ Some q → OutsideStep c q
unfolding next_place_outside
outside_follows (clause.Head line k name result) q h = same_Some q _ (sym h)
outside_follows _ q h = cc

pub outside_step : (source : List ℕ) (rest : List Token) (c : Clause) (behind : List Token) (q : ClausePlace) →
    step_of source place.Outside rest ≡ Ok (c, behind, q) → OutsideStep c q
unfolding next_place
outside_step source rest c behind q found = outside_follows c q (right_clause source place.Outside rest c behind q found).1

-- no more tokens are left
reads_fewer : (source : List ℕ) (p : ClausePlace) (tokens : List Token) (cs : List Clause) (q : ClausePlace) (rest : List Token) →
    ReadsClauses source p tokens cs q rest → length rest ≤ length tokens
reads_fewer source p tokens [] q rest reads = omega (arith, ap length reads.1)
reads_fewer source p tokens (c ∷ cs) q rest reads =
    omega (arith, fewer source p tokens c reads.0 reads.1 reads.2, reads_fewer source reads.1 reads.0 cs q rest reads.3)

pub kept_fewer : (source : List ℕ) (p : ClausePlace) (tokens : List Token) (kept : List Clause) (q : ClausePlace) (rest : List Token) →
    ReadsKeptClauses source p tokens kept q rest → length rest ≤ length tokens
kept_fewer source p tokens kept q rest read = reads_fewer source p tokens read.clauses q rest read.reads

-- a body: one clause more, or its end
abbrev pub not_end : Clause → Bool
not_end (clause.Ends line k) = false
not_end _ = true

pub never_ends : (c : Clause) → ((line : ℕ) (k : BlockKind) → c ≡ clause.Ends line k → ⊥) → not_end c ≡ true
never_ends (clause.Ends line k) never = absurd (never line k refl)
never_ends _ never = refl

stays_in_body : (k : BlockKind) (c : Clause) (q : ClausePlace) → not_end c ≡ true → BodyStep k c q →
    (q ≡ place.Body k) × (filter is_kept_by_tree (c ∷ []) ≡ map clause.Runs (statements_of_clause c))
stays_in_body k (clause.Ends line e) q no_end h = cc
stays_in_body k _ q no_end h = h

pub body_more : (source : List ℕ) (k : BlockKind) (tokens : List Token) (ss : List Statement) (rest : List Token) (c : Clause)
    (behind : List Token) (q : ClausePlace) (now : List Statement) →
    ReadsKeptClauses source (place.Body k) tokens (map clause.Runs ss) (place.Body k) rest →
    step_of source (place.Body k) rest ≡ Ok (c, behind, q) → not_end c ≡ true → now ≡ ss ++ statements_of_clause c →
    ReadsKeptClauses source (place.Body k) tokens (map clause.Runs now) (place.Body k) behind
body_more source k tokens ss rest c behind q now so_far found no_end kept =
    let stays = stays_in_body k c q no_end (body_step source k rest c behind q found) in
    let spelled : map clause.Runs ss ++ filter is_kept_by_tree (c ∷ []) ≡ map clause.Runs now =
    ap (λ ks. map clause.Runs ss ++ ks) stays.1 ∙ sym (map-append clause.Runs ss (statements_of_clause c)) ∙ ap (map clause.Runs) (sym kept) in
    subst (λ p. ReadsKeptClauses source (place.Body k) tokens (map clause.Runs now) p behind) stays.0
    (subst (λ ks. ReadsKeptClauses source (place.Body k) tokens ks q behind) spelled
    (kept_more source (place.Body k) tokens (map clause.Runs ss) (place.Body k) rest c behind q so_far found))

pub body_end : (source : List ℕ) (k : BlockKind) (tokens : List Token) (ss : List Statement) (rest : List Token) (line : ℕ) (e : BlockKind)
    (behind : List Token) (q : ClausePlace) →
    ReadsKeptClauses source (place.Body k) tokens (map clause.Runs ss) (place.Body k) rest →
    step_of source (place.Body k) rest ≡ Ok (clause.Ends line e, behind, q) →
    ReadsKeptClauses source (place.Body k) tokens (map clause.Runs ss ++ clause.Ends line k ∷ []) place.Outside behind
body_end source k tokens ss rest line e behind q so_far found =
    let ends = body_step source k rest (clause.Ends line e) behind q found in
    subst (λ p. ReadsKeptClauses source (place.Body k) tokens (map clause.Runs ss ++ clause.Ends line k ∷ []) p behind) ends.1
    (subst (λ x. ReadsKeptClauses source (place.Body k) tokens (map clause.Runs ss ++ clause.Ends line x ∷ []) q behind) ends.0
    (kept_more source (place.Body k) tokens (map clause.Runs ss) (place.Body k) rest (clause.Ends line e) behind q so_far found))

-- settings: one clause more, or the end
pub record SettingsRead (source : List ℕ) (k : BlockKind) (tokens : List Token) (ss : List Setting) (at : ClausePlace) (rest : List Token) : Type 0 where
  pub reads : ReadsKeptClauses source (place.Shaped k) tokens (map clause.Sets ss) at rest
  pub tail : IsTail k at

stays_in_tail : (k : BlockKind) (c : Clause) (q : ClausePlace) → not_end c ≡ true → TailStep k c q →
    IsTail k q × (filter is_kept_by_tree (c ∷ []) ≡ map clause.Sets (settings_of_clause c))
stays_in_tail k (clause.Ends line e) q no_end h = cc
stays_in_tail k _ q no_end h = h

pub settings_more : (source : List ℕ) (k : BlockKind) (tokens : List Token) (ss : List Setting) (at : ClausePlace) (rest : List Token) (c : Clause)
    (behind : List Token) (q : ClausePlace) (now : List Setting) → SettingsRead source k tokens ss at rest →
    step_of source at rest ≡ Ok (c, behind, q) → not_end c ≡ true → now ≡ ss ++ settings_of_clause c → SettingsRead source k tokens now q behind
settings_more source k tokens ss at rest c behind q now so_far found no_end kept =
    let stays = stays_in_tail k c q no_end (tail_step source k at rest c behind q so_far.tail found) in
    let spelled : map clause.Sets ss ++ filter is_kept_by_tree (c ∷ []) ≡ map clause.Sets now =
    ap (λ ks. map clause.Sets ss ++ ks) stays.1 ∙ sym (map-append clause.Sets ss (settings_of_clause c)) ∙ ap (map clause.Sets) (sym kept) in
    record {
      reads = subst (λ ks. ReadsKeptClauses source (place.Shaped k) tokens ks q behind) spelled
          (kept_more source (place.Shaped k) tokens (map clause.Sets ss) at rest c behind q so_far.reads found);
      tail = stays.0;
    }

pub settings_end : (source : List ℕ) (k : BlockKind) (tokens : List Token) (ss : List Setting) (at : ClausePlace) (rest : List Token) (line : ℕ)
    (e : BlockKind) (behind : List Token) (q : ClausePlace) → SettingsRead source k tokens ss at rest →
    step_of source at rest ≡ Ok (clause.Ends line e, behind, q) →
    ReadsKeptClauses source (place.Shaped k) tokens (map clause.Sets ss ++ clause.Ends line k ∷ []) place.Outside behind
settings_end source k tokens ss at rest line e behind q so_far found =
    let ends = tail_step source k at rest (clause.Ends line e) behind q so_far.tail found in
    subst (λ p. ReadsKeptClauses source (place.Shaped k) tokens (map clause.Sets ss ++ clause.Ends line k ∷ []) p behind) ends.1
    (subst (λ x. ReadsKeptClauses source (place.Shaped k) tokens (map clause.Sets ss ++ clause.Ends line x ∷ []) q behind) ends.0
    (kept_more source (place.Shaped k) tokens (map clause.Sets ss) at rest (clause.Ends line e) behind q so_far.reads found))

-- sections: one more
pub record SectionsRead (source : List ℕ) (k : BlockKind) (tokens : List Token) (parts : List Part) (c : Clause) (rest : List Token) : Type 0 where
  pub reads : ReadsKeptClauses source (place.Head k) tokens (flat_map spelled_part parts ++ filter is_kept_by_tree (c ∷ [])) (opened_place k c) rest
  pub opens : opens_part c ≡ true
  pub few : length rest ≤ source_limit

pub sections_none : (source : List ℕ) (k : BlockKind) (tokens : List Token) (c : Clause) (rest : List Token) →
    ReadsKeptClauses source (place.Head k) tokens (filter is_kept_by_tree (c ∷ [])) (opened_place k c) rest → opens_part c ≡ true → length tokens ≤ source_limit →
    SectionsRead source k tokens [] c rest
sections_none source k tokens c rest reads opens few =
    record {
      reads = reads;
      opens = opens;
      few = omega (arith, few, kept_fewer source (place.Head k) tokens (filter is_kept_by_tree (c ∷ [])) (opened_place k c) rest reads);
    }

-- a section whose declarations are read
pub section_read : (source : List ℕ) (k : BlockKind) (tokens : List Token) (parts : List Part) (line : ℕ) (p : PartKind)
    (rest : List Token) (items : List Declaration) (behind : List Token) →
    SectionsRead source k tokens parts (clause.Section line p) rest →
    ReadsKeptClauses source (place.Section k p 0) rest (map clause.Declares items) (place.Between k p) behind →
    ReadsKeptClauses source (place.Head k) tokens (flat_map spelled_part (parts ++ record { line = line; kind = p; items = items } ∷ []))
    (place.Between k p) behind
section_read source k tokens parts line p rest items behind so_far read =
    let both = kept_then source (place.Head k) tokens (flat_map spelled_part parts ++ clause.Section line p ∷ []) (place.Section k p 0) rest
    (map clause.Declares items) (place.Between k p) behind so_far.reads read in
    let spelled : (flat_map spelled_part parts ++ clause.Section line p ∷ []) ++ map clause.Declares items
    ≡ flat_map spelled_part (parts ++ record { line = line; kind = p; items = items } ∷ []) =
    append_assoc (flat_map spelled_part parts) (clause.Section line p ∷ []) (map clause.Declares items)
    ∙ sym (flat_map_last spelled_part parts (record { line = line; kind = p; items = items })) in
    subst (λ ks. ReadsKeptClauses source (place.Head k) tokens ks (place.Between k p) behind) spelled both

pub sections_more : (source : List ℕ) (k : BlockKind) (tokens : List Token) (parts : List Part) (last : PartKind)
    (rest : List Token) (c : Clause) (behind : List Token) (q : ClausePlace) → length tokens ≤ source_limit →
    ReadsKeptClauses source (place.Head k) tokens (flat_map spelled_part parts) (place.Between k last) rest →
    step_of source (place.Between k last) rest ≡ Ok (c, behind, q) → SectionsRead source k tokens parts c behind
sections_more source k tokens parts last rest c behind q few so_far found =
    let step = between_step source k last rest c behind q found in
    let reads = kept_more source (place.Head k) tokens (flat_map spelled_part parts) (place.Between k last) rest c behind q so_far found in
    record {
      reads = subst (λ p. ReadsKeptClauses source (place.Head k) tokens (flat_map spelled_part parts ++ filter is_kept_by_tree (c ∷ [])) p behind) (sym step.0) reads;
      opens = step.1;
      few = omega (arith, few, kept_fewer source (place.Head k) tokens (flat_map spelled_part parts ++ filter is_kept_by_tree (c ∷ [])) q behind reads);
    }

-- a body is read behind the clause that opens it
pub body_read : (source : List ℕ) (k : BlockKind) (tokens : List Token) (shape : List Clause) (sets : List Setting) (runs : List Clause)
    (rest : List Token) → ReadsKeptClauses source (place.Body k) tokens runs place.Outside rest → shape ≡ [] → sets ≡ [] →
    ReadsContent source k clause.Begins tokens (shape ++ (map clause.Sets sets ++ runs)) rest
body_read source k tokens shape sets runs rest inside none no_sets = record { kept = runs; reads = inside; whole = rw (none, no_sets) refl }

opens_kept : (c : Clause) → opens_shape c ≡ true → filter is_kept_by_tree (c ∷ []) ≡ c ∷ []
opens_kept clause.Structure opens = refl
opens_kept (clause.Based name) opens = refl
opens_kept _ opens = cc

-- a shape is read with the settings behind it
pub shape_read : (source : List ℕ) (k : BlockKind) (c : Clause) (tokens : List Token) (shape : List Clause) (between : List Token)
    (sets : List Clause) (line : ℕ) (runs : List Statement) (rest : List Token) → opens_shape c ≡ true →
    ReadsShape source k c tokens shape between → ReadsKeptClauses source (place.Shaped k) between (sets ++ clause.Ends line k ∷ []) place.Outside rest →
    runs ≡ [] → ReadsContent source k c tokens (shape ++ (sets ++ (map clause.Runs runs ++ clause.Ends line k ∷ []))) rest
shape_read source k c tokens shape between sets line runs rest opens read inside none =
    let behind = sets ++ clause.Ends line k ∷ [] in
    let whole : shape ++ behind ≡ filter is_kept_by_tree (c ∷ []) ++ (read.kept ++ behind) =
    ap (λ ks. ks ++ behind) read.whole ∙ ap (λ ks. ks ++ (read.kept ++ behind)) (sym (opens_kept c opens)) in
    let reads = kept_then source (opened_place k c) tokens read.kept (place.Shaped k) between behind place.Outside rest read.reads inside in
    rw none (record { kept = read.kept ++ behind; reads = reads; whole = whole })

-- the content of a block is read behind its sections
pub block_read : (source : List ℕ) (k : BlockKind) (tokens : List Token) (xs : List Clause) (c : Clause) (between : List Token)
    (spelled : List Clause) (rest : List Token) →
    ReadsKeptClauses source (place.Head k) tokens (xs ++ filter is_kept_by_tree (c ∷ [])) (opened_place k c) between →
    ReadsContent source k c between spelled rest → ReadsKeptClauses source (place.Head k) tokens (xs ++ spelled) place.Outside rest
block_read source k tokens xs c between spelled rest head content =
    let opened = filter is_kept_by_tree (c ∷ []) in
    subst (λ ks. ReadsKeptClauses source (place.Head k) tokens ks place.Outside rest)
    (append_assoc xs opened content.kept ∙ ap (λ ks. xs ++ ks) (sym content.whole))
    (kept_then source (place.Head k) tokens (xs ++ opened) (opened_place k c) between content.kept place.Outside rest head content.reads)

-- only a head stands between blocks
pub only_heads : (source : List ℕ) (rest : List Token) (c : Clause) (behind : List Token) (q : ClausePlace) →
    step_of source place.Outside rest ≡ Ok (c, behind, q) →
    ((line : ℕ) (k : BlockKind) (name : BlockName) (returns : Option Simple) → c ≡ clause.Head line k name returns → ⊥) → ⊥
only_heads source rest (clause.Head line k name returns) behind q found never = never line k name returns refl
only_heads source rest _ behind q found never = absurd (outside_step source rest _ behind q found)

-- a head is read
pub head_read : (source : List ℕ) (tokens : List Token) (kept : List Clause) (rest : List Token) (line : ℕ) (k : BlockKind)
    (name : BlockName) (returns : Option Simple) (behind : List Token) (q : ClausePlace) →
    ReadsKeptClauses source place.Outside tokens kept place.Outside rest →
    step_of source place.Outside rest ≡ Ok (clause.Head line k name returns, behind, q) →
    ReadsKeptClauses source place.Outside tokens (kept ++ clause.Head line k name returns ∷ []) (place.Head k) behind
head_read source tokens kept rest line k name returns behind q so_far found =
    subst (λ p. ReadsKeptClauses source place.Outside tokens (kept ++ clause.Head line k name returns ∷ []) p behind)
    (outside_step source rest (clause.Head line k name returns) behind q found)
    (kept_more source place.Outside tokens kept place.Outside rest (clause.Head line k name returns) behind q so_far found)

-- one block more
pub blocks_more : (source : List ℕ) (tokens : List Token) (bs : List Block) (rest : List Token) (line : ℕ) (k : BlockKind)
    (name : BlockName) (returns : Option Simple) (behind : List Token) (q : ClausePlace) (b : Block) (left : List Token) →
    ReadsKeptClauses source place.Outside tokens (flat_map spelled_block bs) place.Outside rest →
    step_of source place.Outside rest ≡ Ok (clause.Head line k name returns, behind, q) →
    ReadsKeptClauses source (place.Head k) behind (spelled_behind_head b) place.Outside left →
    spelled_block b ≡ clause.Head line k name returns ∷ spelled_behind_head b →
    ReadsKeptClauses source place.Outside tokens (flat_map spelled_block (bs ++ b ∷ [])) place.Outside left
blocks_more source tokens bs rest line k name returns behind q b left so_far found read head =
    let first = head_read source tokens (flat_map spelled_block bs) rest line k name returns behind q so_far found in
    let both = kept_then source place.Outside tokens (flat_map spelled_block bs ++ clause.Head line k name returns ∷ []) (place.Head k) behind
    (spelled_behind_head b) place.Outside left first read in
    let spelled : (flat_map spelled_block bs ++ clause.Head line k name returns ∷ []) ++ spelled_behind_head b ≡ flat_map spelled_block (bs ++ b ∷ []) =
    append_assoc (flat_map spelled_block bs) (clause.Head line k name returns ∷ []) (spelled_behind_head b)
    ∙ ap (λ ks. flat_map spelled_block bs ++ ks) (sym head) ∙ sym (flat_map_last spelled_block bs b) in
    subst (λ ks. ReadsKeptClauses source place.Outside tokens ks place.Outside left) spelled both
