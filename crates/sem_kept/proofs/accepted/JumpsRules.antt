-- What the rules of labels, brackets, zones and jumps leave of a body: each of its statements, with
-- those before and behind it.
use Rattle.std.proofs.Common.{◌≡◌, ℕ, suc, ◌+◌, ◌-◌, ◌<◌, ◌≤◌, Bool, true, false, ◌&&◌, ◌||◌, if◌then◌else◌, List, [], ◌∷◌, ◌++◌, length, length-append, map, take, append_assoc, Option, Some, None, option_map, option_and_then, refl, sym, ap, ◌∙◌, arith}
use Rattle.std.specs.Prelude.{is_some, nat_le, nat_eq, not}
use Rattle.std.specs.List.{slice_get}
use Rattle.std.specs.Option.{is_none}
use Rattle.std.specs.Str.{bytes_eq}
use Rattle.std.proofs.lemmas.Bool.{eqb-true, leb-false}
use Rattle.std.proofs.lemmas.List.{append-nil, length-map, length-take-le, take_all}
use Rattle.std.proofs.lemmas.Slice.Eq.{bytes_eq-Decides}
use Rattle.plc_base.specs.declared.refusals.Refusal.{Refusal}
use Rattle.stl_ast.specs.declared.operands.Operand.{Operand}
use Rattle.stl_ast.specs.declared.operands.Operand.TheVariants as operand
use Rattle.stl_ast.specs.declared.statements.Statement.{Statement}
use Rattle.plc_base.specs.RefusalsAlong.{refusals_along}
use Rattle.plc_base.specs.Least.{broken_if}
use Rattle.stl_symbols.specs.Names.{name_place}
use Rattle.stl_types.specs.Brackets.{brackets_behind, brackets_behind_all, is_closing_bracket, closes_no_bracket, is_eighth_bracket, brackets_after_opening, bracket_function, with_brackets}
use Rattle.stl_types.specs.Labels.{is_unknown_label, label_of, labels_of, unknown_labels}
use Rattle.stl_types.specs.Landings.{Landing, SourceNesting, are_unequal, crosses_nesting, landings_differ, functions_of, landing_at, landing_here, landing_of, landings_at_labels, lands_elsewhere, nesting_behind, empty_nesting}
use Rattle.stl_types.specs.Lists.{has_label, is_list_jump, is_list_to, is_wrong_list, lacks_list, lists_from}
use Rattle.stl_types.specs.Zones.{ends_no_zone, is_ninth_zone, with_zones, zones_behind, zones_behind_all}
use Rattle.stl_types.specs.declared.brackets.SourceBracket.{SourceBracket}
use Rattle.stl_codegen.specs.Bodies.{count_of_statements}
use Rattle.stl_codegen.specs.Instruction.{count_of_statement, target_in}
use Rattle.block_layout.proofs.CommonLemmas.{none_left, none_right, not_broken}

-- ---- statements behind others

pub behind_more : (bs : List SourceBracket) (xs ys : List Statement)
    → brackets_behind_all bs (xs ++ ys) ≡ brackets_behind_all (brackets_behind_all bs xs) ys
behind_more bs [] ys = refl
behind_more bs (x ∷ xs) ys = behind_more (brackets_behind bs x) xs ys

pub zones_more : (zones : List ℕ) (xs ys : List Statement)
    → zones_behind_all zones (xs ++ ys) ≡ zones_behind_all (zones_behind_all zones xs) ys
zones_more zones [] ys = refl
zones_more zones (x ∷ xs) ys = zones_more (zones_behind zones x) xs ys

-- what is open behind statements
abbrev pub nesting_after : SourceNesting → List Statement → SourceNesting
nesting_after n ss = record {
  brackets = brackets_behind_all n.brackets ss;
  zones = zones_behind_all n.zones ss;
}

nesting_more : (pre : List Statement) (s : Statement)
    → nesting_behind (nesting_after empty_nesting pre) s ≡ nesting_after empty_nesting (pre ++ s ∷ [])
nesting_more pre s =
    ap (λ (z : List SourceBracket). nested z (zones_behind (zones_behind_all [] pre) s))
    (sym (behind_more [] pre (s ∷ [])))
    ∙ ap (nested (brackets_behind_all [] (pre ++ s ∷ []))) (sym (zones_more [] pre (s ∷ [])))
  where
    nested : List SourceBracket → (zones : List ℕ) → SourceNesting
    nested brackets zones = record { brackets = brackets; zones = zones }

pub labels_more : (xs ys : List Statement) → labels_of (xs ++ ys) ≡ labels_of xs ++ labels_of ys
labels_more [] ys = refl
labels_more (x ∷ xs) ys =
    ap (λ (z : List (List ℕ)). label_of x.label ++ z) (labels_more xs ys)
    ∙ sym (append_assoc (label_of x.label) (labels_of xs) (labels_of ys))

labels_one : (pre : List Statement) (s : Statement)
    → labels_of (pre ++ s ∷ []) ≡ labels_of pre ++ label_of s.label
labels_one pre s =
    labels_more pre (s ∷ [])
    ∙ ap (λ (z : List (List ℕ)). labels_of pre ++ z) (append-nil (label_of s.label))

-- ---- a statement at its place

-- a statement of a body breaks none of these rules; `pre` are the statements before it, `post` those
-- behind it
pub record IsRightAt (body pre : List Statement) (s : Statement) (post : List Statement) : Type 0 where
  pub known : is_unknown_label (labels_of body) s.operand ≡ false
  pub closes : closes_no_bracket (brackets_behind_all [] pre) s ≡ false
  pub few : is_eighth_bracket (brackets_behind_all [] pre) s ≡ false
  pub ends : ends_no_zone (zones_behind_all [] pre) s ≡ false
  pub ninth : is_ninth_zone (zones_behind_all [] pre) s ≡ false
  pub lands : crosses_nesting (labels_of body) (landings_at_labels empty_nesting body) (nesting_after empty_nesting pre)
      s.operand ≡ false
  pub listed : is_wrong_list (labels_of (pre ++ s ∷ [])) s post ≡ false

abbrev pub AreRightFrom : (body pre : List Statement) → List Statement → Type 0
AreRightFrom body pre [] = Unit {0}
AreRightFrom body pre (s ∷ post) = IsRightAt body pre s post × AreRightFrom body (pre ++ s ∷ []) post

abbrev pub by_29 : List SourceBracket → List Statement → List Refusal
by_29 bs body = with_brackets (λ brackets s. broken_if (closes_no_bracket brackets s) s.line 29) bs body

abbrev pub by_31 : List SourceBracket → List Statement → List Refusal
by_31 bs body = with_brackets (λ brackets s. broken_if (is_eighth_bracket brackets s) s.line 31) bs body

abbrev pub by_47 : (zones : List ℕ) → List Statement → List Refusal
by_47 zones body = with_zones (λ zones s. broken_if (ends_no_zone zones s) s.line 47) zones body

abbrev pub by_49 : (zones : List ℕ) → List Statement → List Refusal
by_49 zones body = with_zones (λ zones s. broken_if (is_ninth_zone zones s) s.line 49) zones body

abbrev pub by_33 : (labels : List (List ℕ)) → List Landing → SourceNesting → List Statement → List Refusal
by_33 labels landings n body =
    refusals_along (λ s. false) (λ n s. broken_if (crosses_nesting labels landings n s.operand) s.line 33)
    nesting_behind n body

-- the statements of a body from a place on break none of these rules
pub record BreakNone (body pre post : List Statement) : Type 0 where
  pub by_26 : unknown_labels (labels_of body) post ≡ []
  pub by_29 : by_29 (brackets_behind_all [] pre) post ≡ []
  pub by_31 : by_31 (brackets_behind_all [] pre) post ≡ []
  pub by_32 : lists_from (labels_of pre) post ≡ []
  pub by_33 : by_33 (labels_of body) (landings_at_labels empty_nesting body) (nesting_after empty_nesting pre)
      post ≡ []
  pub by_47 : by_47 (zones_behind_all [] pre) post ≡ []
  pub by_49 : by_49 (zones_behind_all [] pre) post ≡ []

-- so the first of them breaks none
first_right : (body pre : List Statement) (s : Statement) (post : List Statement)
    → BreakNone body pre (s ∷ post) → IsRightAt body pre s post
first_right body pre s post h =
    let labels = labels_of body in
    let landings = landings_at_labels empty_nesting body in
    let bs = brackets_behind_all [] pre in
    let zones = zones_behind_all [] pre in
    let n = nesting_after empty_nesting pre in
    let before = labels_of pre ++ label_of s.label in
    record {
      known = not_broken _ s.line 26
          (none_left (broken_if (is_unknown_label labels s.operand) s.line 26)
          (unknown_labels labels post) h.by_26);
      closes = not_broken _ s.line 29
          (none_left (broken_if (closes_no_bracket bs s) s.line 29) (by_29 (brackets_behind bs s) post) h.by_29);
      few = not_broken _ s.line 31
          (none_left (broken_if (is_eighth_bracket bs s) s.line 31) (by_31 (brackets_behind bs s) post) h.by_31);
      ends = not_broken _ s.line 47
          (none_left (broken_if (ends_no_zone zones s) s.line 47) (by_47 (zones_behind zones s) post)
          h.by_47);
      ninth = not_broken _ s.line 49
          (none_left (broken_if (is_ninth_zone zones s) s.line 49) (by_49 (zones_behind zones s) post)
          h.by_49);
      lands = not_broken _ s.line 33
          (none_left (broken_if (crosses_nesting labels landings n s.operand) s.line 33)
          (by_33 labels landings (nesting_behind n s) post) h.by_33);
      listed = ap (λ (z : List (List ℕ)). is_wrong_list z s post) (labels_one pre s)
          ∙ not_broken _ s.line 32
          (none_left (broken_if (is_wrong_list before s post) s.line 32) (lists_from before post)
          h.by_32);
    }

-- and neither do those behind it
others_right : (body pre : List Statement) (s : Statement) (post : List Statement)
    → BreakNone body pre (s ∷ post) → BreakNone body (pre ++ s ∷ []) post
others_right body pre s post h =
    let labels = labels_of body in
    let landings = landings_at_labels empty_nesting body in
    let bs = brackets_behind_all [] pre in
    let zones = zones_behind_all [] pre in
    let n = nesting_after empty_nesting pre in
    let before = labels_of pre ++ label_of s.label in
    let behind_s : brackets_behind_all [] (pre ++ s ∷ []) ≡ brackets_behind bs s = behind_more [] pre (s ∷ []) in
    let zones_behind_s : zones_behind_all [] (pre ++ s ∷ []) ≡ zones_behind zones s =
    zones_more [] pre (s ∷ []) in
    record {
      by_26 = none_right (broken_if (is_unknown_label labels s.operand) s.line 26)
          (unknown_labels labels post) h.by_26;
      by_29 = ap (λ (z : List SourceBracket). by_29 z post) behind_s
          ∙ none_right (broken_if (closes_no_bracket bs s) s.line 29) (by_29 (brackets_behind bs s) post) h.by_29;
      by_31 = ap (λ (z : List SourceBracket). by_31 z post) behind_s
          ∙ none_right (broken_if (is_eighth_bracket bs s) s.line 31) (by_31 (brackets_behind bs s) post) h.by_31;
      by_32 = ap (λ (z : List (List ℕ)). lists_from z post) (labels_one pre s)
          ∙ none_right (broken_if (is_wrong_list before s post) s.line 32) (lists_from before post)
          h.by_32;
      by_33 = ap (λ (z : SourceNesting). by_33 labels landings z post) (sym (nesting_more pre s))
          ∙ none_right (broken_if (crosses_nesting labels landings n s.operand) s.line 33)
          (by_33 labels landings (nesting_behind n s) post) h.by_33;
      by_47 = ap (λ (z : List ℕ). by_47 z post) zones_behind_s
          ∙ none_right (broken_if (ends_no_zone zones s) s.line 47) (by_47 (zones_behind zones s) post)
          h.by_47;
      by_49 = ap (λ (z : List ℕ). by_49 z post) zones_behind_s
          ∙ none_right (broken_if (is_ninth_zone zones s) s.line 49) (by_49 (zones_behind zones s) post)
          h.by_49;
    }

right_from : (body pre post : List Statement) → BreakNone body pre post → AreRightFrom body pre post
right_from body pre [] h = tt
right_from body pre (s ∷ post) h = (
  first_right body pre s post h,
  right_from body (pre ++ s ∷ []) post (others_right body pre s post h),
)

pub right_body : (body : List Statement) → BreakNone body [] body → AreRightFrom body [] body
right_body body h = right_from body [] body h

-- ---- at most seven brackets

few_closed : (bs : List SourceBracket) → length bs ≤ 7 → length (take (length bs - 1) bs) ≤ 7
few_closed bs few =
    let same = length-take-le (length bs - 1) bs (omega arith) in
    omega (arith, same, few)

few_behind : (bs : List SourceBracket) (s : Statement) → length bs ≤ 7 → is_eighth_bracket bs s ≡ false
    → length (brackets_behind bs s) ≤ 7
few_behind bs s few e = by (bracket_function s.code) e
  where
    shut : (c : Bool) → length (if c then take (length bs - 1) bs else bs) ≤ 7
    shut true = few_closed bs few
    shut false = few

    by : (o : Option ℕ) → (is_some o && nat_le 7 (length bs)) ≡ false → length (brackets_after_opening bs s o) ≤ 7
    by None h = shut (is_closing_bracket s.code)
    by (Some function) h =
        let less : length bs < 7 = leb-false 7 (length bs) h in
        let same = length-append bs (record { function = function; line = s.line } ∷ []) in
        omega (arith, less, same)

few_on : (bs : List SourceBracket) (xs ys : List Statement) → length bs ≤ 7 → by_31 bs (xs ++ ys) ≡ []
    → length (brackets_behind_all bs xs) ≤ 7
few_on bs [] ys few e = few
few_on bs (x ∷ xs) ys few e =
    let one = broken_if (is_eighth_bracket bs x) x.line 31 in
    few_on (brackets_behind bs x) xs ys
    (few_behind bs x few (not_broken _ x.line 31 (none_left one (by_31 (brackets_behind bs x) (xs ++ ys)) e)))
    (none_right one (by_31 (brackets_behind bs x) (xs ++ ys)) e)

pub few_open : (body pre post : List Statement) → body ≡ pre ++ post → by_31 [] body ≡ []
    → length (brackets_behind_all [] pre) ≤ 7
few_open body pre post e by =
    few_on [] pre post (omega arith) (ap (by_31 []) (sym e) ∙ by)

-- ---- the statement of a label

-- the first statement that has a label, with those before it
pub record IsLabelOfJump (body : List Statement) (n : SourceNesting) (name : List ℕ) : Type 0 where
  pub before : List Statement
  pub rest : List Statement
  pub whole : body ≡ before ++ rest
  pub count : target_in name body ≡ count_of_statements before
  pub landing : landing_at (labels_of body) (landings_at_labels n body) name
      ≡ Some (landing_of (nesting_after n before))

-- the same of statements of which the first has this label
record IsTargetBy (s : Statement) (ss : List Statement) (n : SourceNesting) (name : List ℕ)
    (label : Option (List ℕ)) : Type 0 where
  before : List Statement
  rest : List Statement
  whole : s ∷ ss ≡ before ++ rest
  count : (if has_label name label then 0 else count_of_statement s + target_in name ss) ≡ count_of_statements before
  landing : landing_at (label_of label ++ labels_of ss)
      (landing_here n label ++ landings_at_labels (nesting_behind n s) ss) name
      ≡ Some (landing_of (nesting_after n before))

moved_landing : (x : Landing) (xs : List Landing) (place : Option ℕ)
    → option_and_then (slice_get (x ∷ xs)) (option_map (λ k. suc k) place)
    ≡ option_and_then (slice_get xs) place
moved_landing x xs None = refl
moved_landing x xs (Some place) = refl

further_place : (place : Option ℕ) (k : ℕ) → option_map (λ k. suc k) place ≡ Some k
    → (n : ℕ) × (place ≡ Some n)
further_place None k e = absurd cc
further_place (Some n) k e = (n, refl)

no_further : (place : Option ℕ) → option_map (λ k. suc k) place ≡ None → place ≡ None
no_further None e = refl
no_further (Some n) e = absurd cc

-- one more statement before
later : (s : Statement) (ss : List Statement) (n : SourceNesting) (name : List ℕ)
    → IsLabelOfJump ss (nesting_behind n s) name → IsTargetBy s ss n name None
later s ss n name r = record {
  before = s ∷ r.before;
  rest = r.rest;
  whole = ap (λ (z : List Statement). s ∷ z) r.whole;
  count = ap (λ (k : ℕ). count_of_statement s + k) r.count;
  landing = r.landing;
}

-- a label that is this one or isn't
record IsTargetIf (s : Statement) (ss : List Statement) (n : SourceNesting) (name : List ℕ)
    (same : Bool) : Type 0 where
  before : List Statement
  rest : List Statement
  whole : s ∷ ss ≡ before ++ rest
  count : (if same then 0 else count_of_statement s + target_in name ss) ≡ count_of_statements before
  landing : option_and_then (slice_get (landing_of n ∷ landings_at_labels (nesting_behind n s) ss))
      (if same then Some 0 else option_map (λ k. suc k) (name_place name (labels_of ss)))
      ≡ Some (landing_of (nesting_after n before))

by_label : (s : Statement) (ss : List Statement) (n : SourceNesting) (name l : List ℕ) (k : ℕ)
    → ((j : ℕ) → name_place name (labels_of ss) ≡ Some j → IsLabelOfJump ss (nesting_behind n s) name)
    → name_place name (l ∷ labels_of ss) ≡ Some k → IsTargetBy s ss n name (Some l)
by_label s ss n name l k more e =
    let r = by (bytes_eq name l) e in
    record {
      before = r.before;
      rest = r.rest;
      whole = r.whole;
      count = r.count;
      landing = r.landing;
    }
  where
    by : (same : Bool)
        → (if same then Some 0 else option_map (λ k. suc k) (name_place name (labels_of ss))) ≡ Some k
        → IsTargetIf s ss n name same
    by true h =
        record { before = []; rest = s ∷ ss; whole = refl; count = refl; landing = refl }
    by false h =
        let there = further_place (name_place name (labels_of ss)) k h in
        let r = later s ss n name (more there.0 there.1) in
        record {
          before = r.before;
          rest = r.rest;
          whole = r.whole;
          count = r.count;
          landing = moved_landing (landing_of n) (landings_at_labels (nesting_behind n s) ss)
              (name_place name (labels_of ss))
              ∙ r.landing;
        }

target_from : (body : List Statement) (n : SourceNesting) (name : List ℕ) (k : ℕ)
    → name_place name (labels_of body) ≡ Some k → IsLabelOfJump body n name
unfolding target_in
target_from [] n name k e = absurd cc
target_from (s ∷ ss) n name k e =
    let r = by (λ j g. target_from ss (nesting_behind n s) name j g) s.label e in
    record {
      before = r.before;
      rest = r.rest;
      whole = r.whole;
      count = r.count;
      landing = r.landing;
    }
  where
    by : ((j : ℕ) → name_place name (labels_of ss) ≡ Some j → IsLabelOfJump ss (nesting_behind n s) name)
        → (label : Option (List ℕ)) → name_place name (label_of label ++ labels_of ss) ≡ Some k
        → IsTargetBy s ss n name label
    by more None h = later s ss n name (more k h)
    by more (Some l) h = by_label s ss n name l k more h

-- a label that is known
pub target_is : (body : List Statement) (name : List ℕ)
    → is_unknown_label (labels_of body) (operand.Label name) ≡ false → IsLabelOfJump body empty_nesting name
target_is body name e = by (name_place name (labels_of body)) refl e
  where
    by : (place : Option ℕ) → name_place name (labels_of body) ≡ place → is_none place ≡ false
        → IsLabelOfJump body empty_nesting name
    by None is h = absurd cc
    by (Some k) is h = target_from body empty_nesting name k is

-- ---- a label behind others

past_if : (same : Bool) (place : Option ℕ) (count more : ℕ)
    → (if same then Some 0 else option_map (λ k. suc k) place) ≡ None
    → (place ≡ None → more ≡ count)
    → (if same then 0 else more) ≡ count
past_if true place count more e h = absurd cc
past_if false place count more e h = h (no_further place e)

pub target_past : (name : List ℕ) (xs ys : List Statement) → name_place name (labels_of xs) ≡ None
    → target_in name (xs ++ ys) ≡ count_of_statements xs + target_in name ys
unfolding target_in
target_past name [] ys e = omega arith
target_past name (x ∷ xs) ys e = by (λ none. target_past name xs ys none) x.label e
  where
    by : (name_place name (labels_of xs) ≡ None
        → target_in name (xs ++ ys) ≡ count_of_statements xs + target_in name ys)
        → (label : Option (List ℕ)) → name_place name (label_of label ++ labels_of xs) ≡ None
        → (if has_label name label then 0 else count_of_statement x + target_in name (xs ++ ys))
        ≡ count_of_statement x + count_of_statements xs + target_in name ys
    by brackets_behind None h = let more = brackets_behind h in omega (arith, more)
    by brackets_behind (Some l) h =
        past_if (bytes_eq name l) (name_place name (labels_of xs)) (count_of_statement x + count_of_statements xs + target_in name ys)
        (count_of_statement x + target_in name (xs ++ ys)) h
        (λ none. let more = brackets_behind none in omega (arith, more))

-- ---- the list of a JL

pub record HasList (body pre : List Statement) (s : Statement) (name : List ℕ) (post : List Statement)
    : Type 0 where
  pub new : name_place name (labels_of (pre ++ s ∷ [])) ≡ None
  pub leads : is_list_to 255 name post ≡ true

list_is : (before : List (List ℕ)) (name : List ℕ) (post : List Statement)
    → lacks_list before (operand.Label name) post ≡ false
    → (name_place name before ≡ None) × (is_list_to 255 name post ≡ true)
list_is before name post e = by (name_place name before) (is_list_to 255 name post) e
  where
    by : (place : Option ℕ) (led : Bool) → not (not (is_some place) && led) ≡ false
        → (place ≡ None) × (led ≡ true)
    by None true h = (refl, refl)
    by None false h = absurd cc
    by (Some k) led h = absurd cc

pub has_list : (body pre : List Statement) (s : Statement) (name : List ℕ) (post : List Statement)
    → IsRightAt body pre s post → is_list_jump s.code ≡ true → s.operand ≡ operand.Label name
    → HasList body pre s name post
has_list body pre s name post h jl label =
    let before = labels_of (pre ++ s ∷ []) in
    let right : lacks_list before (operand.Label name) post ≡ false =
    ap (λ (o : Operand). lacks_list before o post) (sym label)
    ∙ ap (λ (b : Bool). b && lacks_list before s.operand post) (sym jl) ∙ h.listed in
    let r = list_is before name post right in
    record { new = r.0; leads = r.1 }

-- ---- what is open at a jump and at its label

-- lists of at most seven are compared
equal_lists : (xs ys : List ℕ) → length xs ≤ 7 → are_unequal xs ys ≡ false → xs ≡ ys
equal_lists xs ys few e = by (nat_eq (length xs) 8) refl (nat_eq (length ys) 8) (bytes_eq xs ys) refl e
  where
    by : (a : Bool) → nat_eq (length xs) 8 ≡ a → (b c : Bool) → bytes_eq xs ys ≡ c
        → (not (a && b) && not c) ≡ false → xs ≡ ys
    by true is b c same h = let eight = eqb-true (length xs) 8 is in absurd (omega (arith, eight, few))
    by false is b true same h = (bytes_eq-Decides xs ys).0 same
    by false is b false same h = absurd cc

abbrev pub functions : List SourceBracket → List ℕ
functions bs = map (λ b. b.function) bs

functions_few : (bs : List SourceBracket) → length bs ≤ 7 → functions_of bs ≡ functions bs
functions_few bs few = ap functions (take_all 8 bs (omega (arith, few)))

-- two landings that don't differ
alike : (here there : Landing) → landings_differ here there ≡ false
    → (are_unequal here.functions there.functions ≡ false) × (here.zones ≡ there.zones)
alike here there e =
    by (are_unequal here.functions there.functions) refl (nat_eq here.zones there.zones) refl e
  where
    by : (a : Bool) → are_unequal here.functions there.functions ≡ a
        → (b : Bool) → nat_eq here.zones there.zones ≡ b → (a || not b) ≡ false
        → (are_unequal here.functions there.functions ≡ false) × (here.zones ≡ there.zones)
    by true a b is h = absurd cc
    by false a true is h = (a, eqb-true here.zones there.zones is)
    by false a false is h = absurd cc

-- behind these statements and behind those the same brackets are open, and as many zones
pub record AreNestedAlike (pre before : List Statement) : Type 0 where
  pub functions : functions (brackets_behind_all [] pre) ≡ functions (brackets_behind_all [] before)
  pub zones : length (zones_behind_all [] pre) ≡ length (zones_behind_all [] before)

pub same_landings : (body pre before : List Statement) (s : Statement) (post : List Statement)
    (name : List ℕ)
    → IsRightAt body pre s post → s.operand ≡ operand.Label name
    → length (brackets_behind_all [] pre) ≤ 7 → length (brackets_behind_all [] before) ≤ 7
    → landing_at (labels_of body) (landings_at_labels empty_nesting body) name
    ≡ Some (landing_of (nesting_after empty_nesting before))
    → AreNestedAlike pre before
same_landings body pre before s post name h label few few' there = record {
  functions = equal_lists (functions here) (functions there_open) (omega (arith, few, count))
      (ap (λ (z : List ℕ). are_unequal z (functions there_open)) (sym (functions_few here few))
      ∙ ap (are_unequal (functions_of here)) (sym (functions_few there_open few'))
      ∙ same.0);
  zones = same.1;
}
  where
    here : List SourceBracket
    here = brackets_behind_all [] pre

    there_open : List SourceBracket
    there_open = brackets_behind_all [] before

    count : length (functions here) ≡ length here
    count = length-map here (λ b. b.function)

    from : SourceNesting
    from = nesting_after empty_nesting pre

    same : (are_unequal (functions_of here) (functions_of there_open) ≡ false)
        × (length (zones_behind_all [] pre) ≡ length (zones_behind_all [] before))
    same = alike (landing_of from) (landing_of (nesting_after empty_nesting before))
        (ap (lands_elsewhere (landing_of from)) (sym there)
        ∙ ap (crosses_nesting (labels_of body) (landings_at_labels empty_nesting body) from) (sym label)
        ∙ h.lands)
