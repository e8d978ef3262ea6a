-- Items that are appended one part after the other.
use Rattle.std.proofs.Common.{◌≡◌, ℕ, ◌+◌, Bool, true, false, ◌&&◌, List, [], ◌∷◌, ◌++◌, map, length, drop, get_or, Option, Some, None, refl, sym, ap, subst, ◌∙◌, append_assoc, ◌<◌, ◌≤◌}
use Rattle.std.proofs.Math.ListN.{drop_of_length-le}
use Rattle.std.proofs.lemmas.List.{append-nil, drop_more}
use Rattle.std.specs.List.{AllByRecursion, flat_map}
use Rattle.std.specs.Option.{IfNone}
use Rattle.plc_base.proofs.ListLemmas.{all_front, all_back}
use Rattle.plc_base.proofs.TruthLemmas.{and_unmet, and_unmet_behind}
use Rattle.flat_code.specs.Codes.{are_ops}
use Rattle.flat_code.specs.Ops.{OpData, is_op}
use Rattle.stl_codegen.specs.CompiledBlock.{op_with_target}
use Rattle.stl_codegen.specs.Fitting.{AreItemsAppended, AreOpsAppended, HasNoOp}

and_same : (a b c : Bool) → (a && (b && c)) ≡ ((a && b) && c)
and_same true b c = refl
and_same false b c = refl

are_both : (f : ℕ → ℕ) (xs ys : List OpData) → are_ops (map (op_with_target f) (xs ++ ys)) ≡ (are_ops (map (op_with_target f) xs) && are_ops (map (op_with_target f) ys))
are_both f [] ys = refl
are_both f (x ∷ xs) ys =
    let here : Bool = is_op (op_with_target f x).code (op_with_target f x).operand in
    ap (λ (t : Bool). here && t) (are_both f xs ys) ∙ and_same here _ _

-- one of the first is no op, or one of the others
pub front_has_none : (xs ys : List OpData) → HasNoOp xs → HasNoOp (xs ++ ys)
front_has_none xs ys h = record { never = λ f. are_both f xs ys ∙ and_unmet _ _ (h.never f) }

pub back_has_none : (xs ys : List OpData) → HasNoOp ys → HasNoOp (xs ++ ys)
back_has_none xs ys h = record { never = λ f. are_both f xs ys ∙ and_unmet_behind _ _ (h.never f) }

-- ops behind others that were appended
pub appended_then : (old now new xs ys : List OpData) (done : Option (Unit {0})) → now ≡ old ++ xs → AreOpsAppended now new ys done → AreOpsAppended old new (xs ++ ys) done
appended_then old now new xs ys (Some u) first h = h ∙ ap (λ (l : List OpData). l ++ ys) first ∙ append_assoc old xs ys
appended_then old now new xs ys None first h = back_has_none xs ys h

-- by what is known of the answer
pub appended_some : (old now ops : List OpData) (done : Option (Unit {0})) (u : Unit {0}) → done ≡ Some u → AreOpsAppended old now ops done → now ≡ old ++ ops
appended_some old now ops answer u is h = subst (AreOpsAppended old now ops) is h

pub appended_none : (old now ops : List OpData) (done : Option (Unit {0})) → done ≡ None → AreOpsAppended old now ops done → HasNoOp ops
appended_none old now ops answer is h = subst (AreOpsAppended old now ops) is h

pub added_some : {A : Type 0} (P : A → Type 0) (old now items : List A) (done : Option (Unit {0})) (u : Unit {0}) → done ≡ Some u → AreItemsAppended P old now items done → now ≡ old ++ items
added_some P old now items answer u is h = subst (AreItemsAppended P old now items) is h

pub added_none : {A : Type 0} (P : A → Type 0) (old now items : List A) (done : Option (Unit {0})) → done ≡ None → AreItemsAppended P old now items done → AllByRecursion P items → ⊥
added_none P old now items answer is h = subst (AreItemsAppended P old now items) is h

pub if_none : {T : Type 0} (P : Type 0) (o : Option T) → o ≡ None → IfNone o P → P
if_none {T = T} P o is h = subst (λ (x : Option T). IfNone x P) is h

pub none_from : {T : Type 0} (P Q : Type 0) (o : Option T) → (P → Q) → IfNone o P → IfNone o Q
none_from P Q None f h = f h
none_from P Q (Some x) f h = tt

-- part of a whole was appended, and the rest is left
pub record Between {A : Type 0} (old now left whole : List A) : Type 0 where
  pub done : List A
  pub so_far : now ≡ old ++ done
  pub all : whole ≡ done ++ left

pub between_start : {A : Type 0} (old now whole : List A) → now ≡ old → Between old now whole whole
between_start old now whole same = record { done = []; so_far = same ∙ sym (append-nil old); all = refl }

pub between_turn : {A : Type 0} (old now next left here rest whole : List A) → Between old now left whole → left ≡ here ++ rest → next ≡ now ++ here → Between old next rest whole
between_turn {A = A} old now next left here rest whole b split more = record {
  done = b.done ++ here;
  so_far = more ∙ ap (λ (l : List A). l ++ here) b.so_far ∙ append_assoc old b.done here;
  all = b.all ∙ ap (λ (l : List A). b.done ++ l) split ∙ sym (append_assoc b.done here rest);
}

pub between_end : {A : Type 0} (old now left whole : List A) → Between old now left whole → left ≡ [] → now ≡ old ++ whole
between_end {A = A} old now left whole b over =
    b.so_far ∙ ap (λ (l : List A). old ++ l) (sym (b.all ∙ ap (λ (l : List A). b.done ++ l) over ∙ append-nil b.done))

-- a part that has no op
pub between_stop : (old now left here rest whole : List OpData) → Between old now left whole → left ≡ here ++ rest → HasNoOp here → HasNoOp whole
between_stop old now left here rest whole b split none =
    let all : whole ≡ b.done ++ (here ++ rest) = b.all ∙ ap (λ (l : List OpData). b.done ++ l) split in
    subst HasNoOp (sym all) (back_has_none b.done (here ++ rest) (front_has_none here rest none))

-- a part that doesn't fit
pub between_misfit : {A : Type 0} (P : A → Type 0) (old now left here rest whole : List A) → Between old now left whole → left ≡ here ++ rest → (AllByRecursion P here → ⊥) → AllByRecursion P whole → ⊥
between_misfit {A = A} P old now left here rest whole b split none all =
    let parted : whole ≡ b.done ++ (here ++ rest) = b.all ∙ ap (λ (l : List A). b.done ++ l) split in
    none (all_front P here rest (all_back P b.done (here ++ rest) (subst (AllByRecursion P) parted all)))

-- what items add one behind the other
pub flat_turn : {A B : Type 0} (f : A → List B) (xs : List A) (i : ℕ) (x : A) → i < length xs → x ≡ get_or xs i x → flat_map f (drop i xs) ≡ f x ++ flat_map f (drop (i + 1) xs)
flat_turn {A = A} f xs i x within is = ap (flat_map f) (drop_more xs i x within ∙ ap (λ (y : A). y ∷ drop (i + 1) xs) (sym is))

pub flat_end : {A B : Type 0} (f : A → List B) (xs : List A) (i : ℕ) → length xs ≤ i → flat_map f (drop i xs) ≡ []
flat_end f xs i over = ap (flat_map f) (drop_of_length-le xs over)

pub item_is : {A : Type 0} (xs ys : List A) (i : ℕ) (x : A) → xs ≡ ys → x ≡ get_or xs i x → x ≡ get_or ys i x
item_is {A = A} xs ys i x same is = is ∙ ap (λ (l : List A). get_or l i x) same
