-- Chains of passings: what is joined by labels, and which labels are marked.
use Rattle.std.proofs.Common.{◌≡◌, ◌⊎◌, inl, inr, ⊎_elim, ℕ, zero, suc, ◌+◌, ◌<◌, Bool, true, false, List, [], ◌∷◌, length, map, get_or, replicate, Option, Some, None, option_map, slice_get, slice_set, fold, refl, sym, ap, ap₂, subst, ◌∙◌, arith, if◌then◌else◌, eq-eqb, eqb-true}
use Rattle.std.specs.Prelude.{◌==◌, unwrap_or}
use Rattle.std.specs.List.{AllByRecursion, range_with_len}
use Rattle.std.proofs.lemmas.Option.{same_Some, slice_get-get_or, slice_get_within}
use Rattle.std.proofs.lemmas.List.{length-set, length-replicate}
use Rattle.std.proofs.lemmas.List.FromFn.{length-range_with_len}
use Rattle.plc_base.specs.declared.places.Width.{Width}
use Rattle.plc_base.specs.declared.places.Width.TheVariants as width
use Rattle.flat_code.specs.Programs.{CodeBlock}
use Rattle.stl_ast.specs.declared.declarations.Simple.{Simple}
use Rattle.stl_ast.specs.declared.declarations.Simple.TheVariants as simple
use Rattle.block_layout.specs.Offsets.{width_of}
use Rattle.stl_list.specs.declared.links.Link.{Link}
use Rattle.stl_list.specs.declared.links.Link.TheVariants.{Joins, Has}
use Rattle.stl_list.specs.JoinedParameters.{chains_of, is_int_kind, is_time_kind, kind_at, kind_by, chain_labels, links, mark_at, marks_after_link, marks_of, total_parameter_count, merged_labels, labels_after_link, replaced_label, set_label}
use Rattle.stl_list.specs.Parameters.{kind_of_width}
use Rattle.listing_laws.specs.Chains.{AreChained, AreLabelsJoined, AreMarksHanded, AreTypesKept, HasSeed, HasStep, LinksHaveType, IsLinkBelow, IsPassingChain, IsHandedType, IsKeptBy, IsSeed, IsPassingStep, is_listed_type}

-- ---- chains

step_back : (l : Link) (m n : ℕ) → IsPassingStep l m n → IsPassingStep l n m
step_back (Joins own other) m n (inl h) = inr h
step_back (Joins own other) m n (inr h) = inl h
step_back (Has own kind) m n h = absurd h

steps_back : (ls : List Link) (m n : ℕ) → HasStep ls m n → HasStep ls n m
steps_back [] m n h = absurd h
steps_back (l ∷ ls) m n (inl h) = inl (step_back l m n h)
steps_back (l ∷ ls) m n (inr h) = inr (steps_back ls m n h)

single : (ls : List Link) (m n : ℕ) → HasStep ls m n → AreChained ls m n
single ls m n h = (n ∷ [], (h, refl))

chain_more : (ls : List Link) (m : ℕ) (over : List ℕ) (k n : ℕ) → IsPassingChain ls m over k → AreChained ls k n → AreChained ls m n
chain_more ls m [] k n h c = subst (λ (j : ℕ). AreChained ls j n) (sym h) c
chain_more ls m (j ∷ over) k n h c =
    let rest = chain_more ls j over k n h.1 c in
    (j ∷ rest.0, (h.0, rest.1))

chain_joined : (ls : List Link) (m k n : ℕ) → AreChained ls m k → AreChained ls k n → AreChained ls m n
chain_joined ls m k n b c = chain_more ls m b.0 k n b.1 c

back : (ls : List Link) (m : ℕ) (over : List ℕ) (n : ℕ) → IsPassingChain ls m over n → AreChained ls n m
back ls m [] n h = ([], sym h)
back ls m (k ∷ over) n h = chain_joined ls n k m (back ls k over n h.1) (single ls k m (steps_back ls m k h.0))

chain_back : (ls : List Link) (m n : ℕ) → AreChained ls m n → AreChained ls n m
chain_back ls m n c = back ls m c.0 n c.1

-- ---- labels after a link

got_map : (f : ℕ → ℕ) (xs : List ℕ) (i : ℕ) → slice_get (map f xs) i ≡ option_map f (slice_get xs i)
got_map f [] i = refl
got_map f (x ∷ xs) zero = refl
got_map f (x ∷ xs) (suc i) = got_map f xs i

mapped_long : (f : ℕ → ℕ) (xs : List ℕ) → length (map f xs) ≡ length xs
mapped_long f [] = refl
mapped_long f (x ∷ xs) = ap suc (mapped_long f xs)

relabelled_long : (a b : Option ℕ) (labels : List ℕ) → length (merged_labels a b labels) ≡ length labels
relabelled_long (Some from) (Some to) labels = mapped_long (replaced_label from to) labels
relabelled_long None b labels = refl
relabelled_long (Some from) None labels = refl

relinked_long : (labels : List ℕ) (l : Link) → length (labels_after_link labels l) ≡ length labels
relinked_long labels (Joins own other) = relabelled_long (slice_get labels own) (slice_get labels other) labels
relinked_long labels (Has own kind) = refl

fold_long : (labels : List ℕ) (ls : List Link) → length (fold labels_after_link labels ls) ≡ length labels
fold_long labels [] = refl
fold_long labels (l ∷ ls) = fold_long (labels_after_link labels l) ls ∙ relinked_long labels l

-- what has one label keeps one
relabelled_same : (a b : Option ℕ) (labels : List ℕ) (m n : ℕ) → slice_get labels m ≡ slice_get labels n
    → slice_get (merged_labels a b labels) m ≡ slice_get (merged_labels a b labels) n
relabelled_same (Some from) (Some to) labels m n e =
    got_map (replaced_label from to) labels m ∙ ap (option_map (replaced_label from to)) e ∙ sym (got_map (replaced_label from to) labels n)
relabelled_same None b labels m n e = e
relabelled_same (Some from) None labels m n e = e

relinked_same : (labels : List ℕ) (l : Link) (m n : ℕ) → slice_get labels m ≡ slice_get labels n
    → slice_get (labels_after_link labels l) m ≡ slice_get (labels_after_link labels l) n
relinked_same labels (Joins own other) m n e = relabelled_same (slice_get labels own) (slice_get labels other) labels m n e
relinked_same labels (Has own kind) m n e = e

fold_same : (labels : List ℕ) (ls : List Link) (m n : ℕ) → slice_get labels m ≡ slice_get labels n
    → slice_get (fold labels_after_link labels ls) m ≡ slice_get (fold labels_after_link labels ls) n
fold_same labels [] m n e = e
fold_same labels (l ∷ ls) m n e = fold_same (labels_after_link labels l) ls m n (relinked_same labels l m n e)

-- what a link joins has one label
replaced_from : (a b : ℕ) → replaced_label a b a ≡ b
replaced_from a b = ap (λ (t : Bool). if t then b else a) (eq-eqb a a refl)

replaced_to : (a b : ℕ) → replaced_label a b b ≡ b
replaced_to a b = by (b == a)
  where
    by : (t : Bool) → (if t then b else b) ≡ b
    by true = refl
    by false = refl

some_label : (labels : List ℕ) (m : ℕ) → m < length labels → slice_get labels m ≡ Some (get_or labels m 0)
some_label labels m h = slice_get-get_or labels m 0 h

now_same : (labels : List ℕ) (own other a b : ℕ) → slice_get labels own ≡ Some a → slice_get labels other ≡ Some b
    → slice_get (labels_after_link labels (Joins own other)) own ≡ slice_get (labels_after_link labels (Joins own other)) other
now_same labels own other a b e f =
    ap₂ (λ (x y : Option ℕ). slice_get (merged_labels x y labels) own) e f
    ∙ got_map (replaced_label a b) labels own
    ∙ ap (option_map (replaced_label a b)) e
    ∙ ap Some (replaced_from a b ∙ sym (replaced_to a b))
    ∙ sym (ap (option_map (replaced_label a b)) f)
    ∙ sym (got_map (replaced_label a b) labels other)
    ∙ sym (ap₂ (λ (x y : Option ℕ). slice_get (merged_labels x y labels) other) e f)

step_same : (labels : List ℕ) (l : Link) (m n : ℕ) → IsLinkBelow (length labels) l → IsPassingStep l m n
    → slice_get (labels_after_link labels l) m ≡ slice_get (labels_after_link labels l) n
step_same labels (Has own kind) m n below h = absurd h
step_same labels (Joins own other) m n below h =
    ⊎_elim
    (λ (p : (own ≡ m) × (other ≡ n)).
    subst (λ (i : ℕ). slice_get (labels_after_link labels (Joins own other)) i ≡ slice_get (labels_after_link labels (Joins own other)) n) p.0
    (subst (λ (j : ℕ). slice_get (labels_after_link labels (Joins own other)) own ≡ slice_get (labels_after_link labels (Joins own other)) j) p.1 now))
    (λ (p : (own ≡ n) × (other ≡ m)).
    subst (λ (i : ℕ). slice_get (labels_after_link labels (Joins own other)) i ≡ slice_get (labels_after_link labels (Joins own other)) n) p.1
    (subst (λ (j : ℕ). slice_get (labels_after_link labels (Joins own other)) other ≡ slice_get (labels_after_link labels (Joins own other)) j) p.0 (sym now)))
    h
  where
    now : slice_get (labels_after_link labels (Joins own other)) own ≡ slice_get (labels_after_link labels (Joins own other)) other
    now = now_same labels own other (get_or labels own 0) (get_or labels other 0) (some_label labels own below.0) (some_label labels other below.1)

steps_same : (labels : List ℕ) (ls : List Link) (count : ℕ) → length labels ≡ count → AllByRecursion (IsLinkBelow count) ls
    → (m n : ℕ) → HasStep ls m n → slice_get (fold labels_after_link labels ls) m ≡ slice_get (fold labels_after_link labels ls) n
steps_same labels [] count long below m n h = absurd h
steps_same labels (l ∷ ls) count long below m n h =
    ⊎_elim
    (λ (s : IsPassingStep l m n). fold_same (labels_after_link labels l) ls m n (step_same labels l m n (subst (λ (k : ℕ). IsLinkBelow k l) (sym long) below.0) s))
    (λ (s : HasStep ls m n). steps_same (labels_after_link labels l) ls count (relinked_long labels l ∙ long) below.1 m n s)
    h

chain_same : (labels : List ℕ) (ls : List Link) → ((m n : ℕ) → HasStep ls m n → slice_get labels m ≡ slice_get labels n)
    → (m : ℕ) (over : List ℕ) (n : ℕ) → IsPassingChain ls m over n → slice_get labels m ≡ slice_get labels n
chain_same labels ls one m [] n h = ap (slice_get labels) h
chain_same labels ls one m (k ∷ over) n h = one m k h.0 ∙ chain_same labels ls one k over n h.1

-- ---- what has one label is joined

abbrev AreJoined : List Link → List ℕ → Type 0
AreJoined all labels = (m n x : ℕ) → slice_get labels m ≡ Some x → slice_get labels n ≡ Some x → AreChained all m n

-- a label before a link, by the one behind it
abbrev WasLabel : (a b : ℕ) → List ℕ → (m x : ℕ) → Type 0
WasLabel a b labels m x = (slice_get labels m ≡ Some x) ⊎ ((slice_get labels m ≡ Some a) × (x ≡ b))

was_label : (a b : ℕ) (labels : List ℕ) (m x : ℕ) → slice_get (map (replaced_label a b) labels) m ≡ Some x → WasLabel a b labels m x
was_label a b labels m x e = by (slice_get labels m) refl (sym (got_map (replaced_label a b) labels m) ∙ e)
  where
    by : (o : Option ℕ) → slice_get labels m ≡ o → option_map (replaced_label a b) o ≡ Some x → WasLabel a b labels m x
    by None is h = absurd cc
    by (Some y) is h = at (y == a) refl (same_Some (replaced_label a b y) x h)
      where
        at : (t : Bool) → (y == a) ≡ t → (if t then b else y) ≡ x → WasLabel a b labels m x
        at true e h = inr (is ∙ ap Some (eqb-true y a e), sym h)
        at false e h = inl (is ∙ ap Some h)

joined_more : (all : List Link) (labels : List ℕ) (own other a b : ℕ) → HasStep all own other → AreJoined all labels
    → slice_get labels own ≡ Some a → slice_get labels other ≡ Some b → AreJoined all (map (replaced_label a b) labels)
joined_more all labels own other a b step joined is_a is_b m n x e f =
    by (was_label a b labels m x e) (was_label a b labels n x f)
  where
    over : (m n : ℕ) → slice_get labels m ≡ Some a → slice_get labels n ≡ Some b → AreChained all m n
    over m n e f = chain_joined all m own n (joined m own a e is_a) (chain_joined all own other n (single all own other step) (joined other n b is_b f))

    by : WasLabel a b labels m x → WasLabel a b labels n x → AreChained all m n
    by (inl h) (inl k) = joined m n x h k
    by (inr h) (inr k) = joined m n a h.0 k.0
    by (inr h) (inl k) = over m n h.0 (k ∙ ap Some h.1)
    by (inl h) (inr k) = chain_back all n m (over n m k.0 (h ∙ ap Some k.1))

joined_link : (all : List Link) (labels : List ℕ) (l : Link) → ((m n : ℕ) → IsPassingStep l m n → HasStep all m n) → AreJoined all labels
    → AreJoined all (labels_after_link labels l)
joined_link all labels (Has own kind) step joined = joined
joined_link all labels (Joins own other) step joined = by (slice_get labels own) (slice_get labels other) refl refl
  where
    by : (a b : Option ℕ) → slice_get labels own ≡ a → slice_get labels other ≡ b → AreJoined all (merged_labels a b labels)
    by (Some a) (Some b) e f = joined_more all labels own other a b (step own other (inl (refl, refl))) joined e f
    by None b e f = joined
    by (Some a) None e f = joined

joined_fold : (all : List Link) (labels : List ℕ) (ls : List Link) → ((m n : ℕ) → HasStep ls m n → HasStep all m n) → AreJoined all labels
    → AreJoined all (fold labels_after_link labels ls)
joined_fold all labels [] steps joined = joined
joined_fold all labels (l ∷ ls) steps joined =
    joined_fold all (labels_after_link labels l) ls (λ m n h. steps m n (inr h)) (joined_link all labels l (λ m n h. steps m n (inl h)) joined)

-- at first each has its own
range_at : (a n m x : ℕ) → slice_get (range_with_len a n) m ≡ Some x → x ≡ a + m
range_at a zero m x e = absurd cc
range_at a (suc n) zero x e = let same : a ≡ x = same_Some a x e in omega (arith, same)
range_at a (suc n) (suc m) x e = let rest = range_at (a + 1) n m x e in omega (arith, rest)

joined_first : (all : List Link) (count : ℕ) → AreJoined all (range_with_len 0 count)
joined_first all count m n x e f =
    let one = range_at 0 count m x e in
    let two = range_at 0 count n x f in
    ([], omega (arith, one, two))

labels_long : (count : ℕ) (ls : List Link) → length (chain_labels count ls) ≡ count
unfolding chain_labels
labels_long count ls = fold_long (range_with_len 0 count) ls ∙ length-range_with_len 0 count

to_chain : (count : ℕ) (ls : List Link) → AreJoined ls (chain_labels count ls)
unfolding chain_labels
to_chain count ls = joined_fold ls (range_with_len 0 count) ls (λ m n h. h) (joined_first ls count)

from_step : (count : ℕ) (ls : List Link) → AllByRecursion (IsLinkBelow count) ls → (m n : ℕ) → HasStep ls m n
    → slice_get (chain_labels count ls) m ≡ slice_get (chain_labels count ls) n
unfolding chain_labels
from_step count ls below m n h = steps_same (range_with_len 0 count) ls count (length-range_with_len 0 count) below m n h

from_chain : (count : ℕ) (ls : List Link) → AllByRecursion (IsLinkBelow count) ls → (m n : ℕ) → AreChained ls m n
    → slice_get (chain_labels count ls) m ≡ slice_get (chain_labels count ls) n
from_chain count ls below m n c = chain_same (chain_labels count ls) ls (from_step count ls below) m c.0 n c.1

has_label : (count : ℕ) (ls : List Link) (m : ℕ) → m < count → (x : ℕ) × (slice_get (chain_labels count ls) m ≡ Some x)
has_label count ls m h =
    (get_or (chain_labels count ls) m 0, some_label (chain_labels count ls) m (subst (λ (k : ℕ). m < k) (sym (labels_long count ls)) h))

pub labels_joined : AreLabelsJoined
labels_joined count ls below m n h k = (
  λ e. let x = has_label count ls m h in to_chain count ls m n x.0 x.1 (sym e ∙ x.1),
  from_chain count ls below m n,
)

-- ---- marks

-- labels are numbers of parameters
abbrev AreFew : ℕ → List ℕ → Type 0
AreFew count labels = (m x : ℕ) → slice_get labels m ≡ Some x → x < count

few_link : (count : ℕ) (labels : List ℕ) (l : Link) → AreFew count labels → AreFew count (labels_after_link labels l)
few_link count labels (Has own kind) few = few
few_link count labels (Joins own other) few = by (slice_get labels own) (slice_get labels other) refl
  where
    by : (a b : Option ℕ) → slice_get labels other ≡ b → AreFew count (merged_labels a b labels)
    by (Some a) (Some b) f = λ m x e.
        ⊎_elim
        (λ (h : slice_get labels m ≡ Some x). few m x h)
        (λ (h : (slice_get labels m ≡ Some a) × (x ≡ b)). subst (λ (y : ℕ). y < count) (sym h.1) (few other b f))
        (was_label a b labels m x e)
    by None b f = few
    by (Some a) None f = few

few_fold : (count : ℕ) (labels : List ℕ) (ls : List Link) → AreFew count labels → AreFew count (fold labels_after_link labels ls)
few_fold count labels [] few = few
few_fold count labels (l ∷ ls) few = few_fold count (labels_after_link labels l) ls (few_link count labels l few)

few_first : (count : ℕ) → AreFew count (range_with_len 0 count)
few_first count m x e =
    let at = range_at 0 count m x e in
    let within = slice_get_within (range_with_len 0 count) m x e in
    let long = length-range_with_len 0 count in
    omega (arith, at, within, long)

labels_few : (count : ℕ) (ls : List Link) → AreFew count (chain_labels count ls)
unfolding chain_labels
labels_few count ls = few_fold count (range_with_len 0 count) ls (few_first count)

abbrev is_marked : List Bool → ℕ → Bool
is_marked marks n = unwrap_or (slice_get marks n) false

set_read : (marks : List Bool) (label n : ℕ) → is_marked (slice_set marks label true) n ≡ true → (label ≡ n) ⊎ (is_marked marks n ≡ true)
set_read [] label n e = inr e
set_read (b ∷ marks) zero zero e = inl refl
set_read (b ∷ marks) zero (suc n) e = inr e
set_read (b ∷ marks) (suc label) zero e = inr e
set_read (b ∷ marks) (suc label) (suc n) e = ⊎_elim (λ (h : label ≡ n). inl (ap suc h)) (λ (h : is_marked marks n ≡ true). inr h) (set_read marks label n e)

set_stays : (marks : List Bool) (label n : ℕ) → is_marked marks n ≡ true → is_marked (slice_set marks label true) n ≡ true
set_stays [] label n e = e
set_stays (b ∷ marks) zero zero e = refl
set_stays (b ∷ marks) zero (suc n) e = e
set_stays (b ∷ marks) (suc label) zero e = e
set_stays (b ∷ marks) (suc label) (suc n) e = set_stays marks label n e

set_here : (marks : List Bool) (label : ℕ) → label < length marks → is_marked (slice_set marks label true) label ≡ true
set_here [] label h = absurd (omega (arith, h))
set_here (b ∷ marks) zero h = refl
set_here (b ∷ marks) (suc label) h = set_here marks label (omega (arith, h))

-- a mark is that of the label of a parameter of a type that is meant
abbrev HasMark : (Simple → Bool) → List Link → List ℕ → ℕ → Type 0
HasMark is_meant all labels x = (own : ℕ) × HasSeed is_meant all own × (slice_get labels own ≡ Some x)

abbrev AreMarks : (Simple → Bool) → List Link → List ℕ → List Bool → Type 0
AreMarks is_meant all labels marks = (x : ℕ) → is_marked marks x ≡ true → HasMark is_meant all labels x

marks_link : (is_meant : Simple → Bool) (all : List Link) (labels : List ℕ) (marks : List Bool) (l : Link)
    → ((n : ℕ) → IsSeed is_meant l n → HasSeed is_meant all n) → AreMarks is_meant all labels marks
    → AreMarks is_meant all labels (marks_after_link is_meant labels marks l)
marks_link is_meant all labels marks (Joins own other) seed are = are
marks_link is_meant all labels marks (Has own kind) seed are = by (is_meant kind) refl
  where
    at : is_meant kind ≡ true → (o : Option ℕ) → slice_get labels own ≡ o → AreMarks is_meant all labels (set_label marks o)
    at e None is = are
    at e (Some label) is = λ x h.
        ⊎_elim
        (λ (s : label ≡ x). (own, seed own (refl, e), is ∙ ap Some s))
        (λ (s : is_marked marks x ≡ true). are x s)
        (set_read marks label x h)

    by : (t : Bool) → is_meant kind ≡ t → AreMarks is_meant all labels (if t then set_label marks (slice_get labels own) else marks)
    by true e = at e (slice_get labels own) refl
    by false e = are

marks_fold : (is_meant : Simple → Bool) (all : List Link) (labels : List ℕ) (marks : List Bool) (ls : List Link)
    → ((n : ℕ) → HasSeed is_meant ls n → HasSeed is_meant all n) → AreMarks is_meant all labels marks
    → AreMarks is_meant all labels (fold (marks_after_link is_meant labels) marks ls)
marks_fold is_meant all labels marks [] seeds are = are
marks_fold is_meant all labels marks (l ∷ ls) seeds are =
    marks_fold is_meant all labels (marks_after_link is_meant labels marks l) ls (λ n h. seeds n (inr h)) (marks_link is_meant all labels marks l (λ n h. seeds n (inl h)) are)

none_marked : (is_meant : Simple → Bool) (all : List Link) (labels : List ℕ) (k : ℕ) → AreMarks is_meant all labels (replicate k false)
none_marked is_meant all labels k x e = absurd (never k x e)
  where
    never : (k x : ℕ) → is_marked (replicate k false) x ≡ true → ⊥
    never zero x e = absurd cc
    never (suc k) zero e = absurd cc
    never (suc k) (suc x) e = never k x e

to_mark : (is_meant : Simple → Bool) (labels : List ℕ) (ls : List Link) → AreMarks is_meant ls labels (marks_of is_meant labels ls)
unfolding marks_of
to_mark is_meant labels ls =
    marks_fold is_meant ls labels (replicate (length labels) false) ls (λ n h. h) (none_marked is_meant ls labels (length labels))

-- and each such label is marked
marked_stays : (is_meant : Simple → Bool) (labels : List ℕ) (marks : List Bool) (l : Link) (x : ℕ) → is_marked marks x ≡ true
    → is_marked (marks_after_link is_meant labels marks l) x ≡ true
marked_stays is_meant labels marks (Joins own other) x e = e
marked_stays is_meant labels marks (Has own kind) x e = by (is_meant kind)
  where
    at : (o : Option ℕ) → is_marked (set_label marks o) x ≡ true
    at None = e
    at (Some label) = set_stays marks label x e

    by : (t : Bool) → is_marked (if t then set_label marks (slice_get labels own) else marks) x ≡ true
    by true = at (slice_get labels own)
    by false = e

fold_stays : (is_meant : Simple → Bool) (labels : List ℕ) (marks : List Bool) (ls : List Link) (x : ℕ) → is_marked marks x ≡ true
    → is_marked (fold (marks_after_link is_meant labels) marks ls) x ≡ true
fold_stays is_meant labels marks [] x e = e
fold_stays is_meant labels marks (l ∷ ls) x e = fold_stays is_meant labels (marks_after_link is_meant labels marks l) ls x (marked_stays is_meant labels marks l x e)

marked_long : (is_meant : Simple → Bool) (labels : List ℕ) (marks : List Bool) (l : Link) → length (marks_after_link is_meant labels marks l) ≡ length marks
marked_long is_meant labels marks (Joins own other) = refl
marked_long is_meant labels marks (Has own kind) = by (is_meant kind)
  where
    at : (o : Option ℕ) → length (set_label marks o) ≡ length marks
    at None = refl
    at (Some label) = length-set marks label true

    by : (t : Bool) → length (if t then set_label marks (slice_get labels own) else marks) ≡ length marks
    by true = at (slice_get labels own)
    by false = refl

seed_marked : (is_meant : Simple → Bool) (labels : List ℕ) (marks : List Bool) (l : Link) (n x : ℕ) → IsSeed is_meant l n
    → slice_get labels n ≡ Some x → x < length marks → is_marked (marks_after_link is_meant labels marks l) x ≡ true
seed_marked is_meant labels marks (Joins own other) n x h e few = absurd h
seed_marked is_meant labels marks (Has own kind) n x h e few =
    ap (λ (t : Bool). is_marked (if t then set_label marks (slice_get labels own) else marks) x) h.1
    ∙ ap (λ (o : Option ℕ). is_marked (set_label marks o) x) (ap (slice_get labels) h.0 ∙ e)
    ∙ set_here marks x few

seeds_marked : (is_meant : Simple → Bool) (labels : List ℕ) (marks : List Bool) (ls : List Link) (n x : ℕ) → HasSeed is_meant ls n
    → slice_get labels n ≡ Some x → x < length marks → is_marked (fold (marks_after_link is_meant labels) marks ls) x ≡ true
seeds_marked is_meant labels marks [] n x h e few = absurd h
seeds_marked is_meant labels marks (l ∷ ls) n x h e few =
    ⊎_elim
    (λ (s : IsSeed is_meant l n). fold_stays is_meant labels (marks_after_link is_meant labels marks l) ls x (seed_marked is_meant labels marks l n x s e few))
    (λ (s : HasSeed is_meant ls n). seeds_marked is_meant labels (marks_after_link is_meant labels marks l) ls n x s e (subst (λ (k : ℕ). x < k) (sym (marked_long is_meant labels marks l)) few))
    h

from_mark : (is_meant : Simple → Bool) (labels : List ℕ) (ls : List Link) (n x : ℕ) → HasSeed is_meant ls n
    → slice_get labels n ≡ Some x → x < length labels → is_marked (marks_of is_meant labels ls) x ≡ true
unfolding marks_of
from_mark is_meant labels ls n x h e few =
    seeds_marked is_meant labels (replicate (length labels) false) ls n x h e (subst (λ (k : ℕ). x < k) (sym (length-replicate (length labels) false)) few)

pub marks_handed : AreMarksHanded
marks_handed is_meant count ls below n h = (
  λ e. to (to_mark is_meant (chain_labels count ls) ls x.0 (sym (ap (mark_at (marks_of is_meant (chain_labels count ls) ls)) x.1) ∙ e)),
  λ (k : IsHandedType is_meant ls n).
      ap (mark_at (marks_of is_meant (chain_labels count ls) ls)) x.1
      ∙ from_mark is_meant (chain_labels count ls) ls k.0 x.0 k.1 (from_chain count ls below k.0 n k.2 ∙ x.1)
      (subst (λ (i : ℕ). x.0 < i) (sym (labels_long count ls)) (labels_few count ls n x.0 x.1)),
)
  where
    x : (x : ℕ) × (slice_get (chain_labels count ls) n ≡ Some x)
    x = has_label count ls n h

    to : HasMark is_meant ls (chain_labels count ls) x.0 → IsHandedType is_meant ls n
    to m = (m.0, m.1, to_chain count ls m.0 n x.0 m.2 x.1)

-- ---- types

kept_step : (declared : ℕ → Simple) (l : Link) (m n : ℕ) → IsKeptBy declared l → IsPassingStep l m n → declared m ≡ declared n
kept_step declared (Has own kind) m n k h = absurd h
kept_step declared (Joins own other) m n k (inl h) = sym (ap declared h.0) ∙ k ∙ ap declared h.1
kept_step declared (Joins own other) m n k (inr h) = sym (ap declared h.1) ∙ sym k ∙ ap declared h.0

kept_steps : (declared : ℕ → Simple) (ls : List Link) (m n : ℕ) → AllByRecursion (IsKeptBy declared) ls → HasStep ls m n → declared m ≡ declared n
kept_steps declared [] m n k h = absurd h
kept_steps declared (l ∷ ls) m n k (inl h) = kept_step declared l m n k.0 h
kept_steps declared (l ∷ ls) m n k (inr h) = kept_steps declared ls m n k.1 h

kept_chain : (declared : ℕ → Simple) (ls : List Link) → AllByRecursion (IsKeptBy declared) ls → (m : ℕ) (over : List ℕ) (n : ℕ) → IsPassingChain ls m over n
    → declared m ≡ declared n
kept_chain declared ls k m [] n h = ap declared h
kept_chain declared ls k m (j ∷ over) n h = kept_steps declared ls m j k h.0 ∙ kept_chain declared ls k j over n h.1

kept_seed : (is_meant : Simple → Bool) (declared : ℕ → Simple) (ls : List Link) (n : ℕ) → AllByRecursion (IsKeptBy declared) ls → HasSeed is_meant ls n
    → is_meant (declared n) ≡ true
kept_seed is_meant declared [] n k h = absurd h
kept_seed is_meant declared (l ∷ ls) n k (inr h) = kept_seed is_meant declared ls n k.1 h
kept_seed is_meant declared (Joins own other ∷ ls) n k (inl h) = absurd h
kept_seed is_meant declared (Has own kind ∷ ls) n k (inl h) =
    ap (λ (i : ℕ). is_meant (declared i)) (sym h.0) ∙ ap is_meant k.0 ∙ h.1

kept_handed : (is_meant : Simple → Bool) (declared : ℕ → Simple) (ls : List Link) (n : ℕ) → AllByRecursion (IsKeptBy declared) ls → IsHandedType is_meant ls n
    → is_meant (declared n) ≡ true
kept_handed is_meant declared ls n k h = ap is_meant (sym (kept_chain declared ls k h.0 h.2.0 n h.2.1)) ∙ kept_seed is_meant declared ls h.0 k h.1

int_is : (kind : Simple) → is_int_kind kind ≡ true → kind ≡ simple.Int
int_is simple.Int e = refl
int_is _ e = absurd cc

time_is : (kind : Simple) → is_time_kind kind ≡ true → kind ≡ simple.Time
time_is simple.Time e = refl
time_is _ e = absurd cc

-- the marks of a parameter
abbrev int_mark : (count : ℕ) → List Link → ℕ → Bool
int_mark count ls n = mark_at (marks_of is_int_kind (chain_labels count ls) ls) (slice_get (chain_labels count ls) n)

abbrev time_mark : (count : ℕ) → List Link → ℕ → Bool
time_mark count ls n = mark_at (marks_of is_time_kind (chain_labels count ls) ls) (slice_get (chain_labels count ls) n)

kind_is : (blocks : List CodeBlock) (n : ℕ) (w : Width)
    → kind_at (chains_of blocks) n w ≡ kind_by (int_mark (total_parameter_count blocks) (links blocks) n) (time_mark (total_parameter_count blocks) (links blocks) n) w
unfolding kind_at chains_of
kind_is blocks n w = refl

no_int : (w : Width) → is_int_kind (kind_of_width w) ≡ true → ⊥
no_int width.Bit e = absurd cc
no_int width.Byte e = absurd cc
no_int width.Word e = absurd cc
no_int width.Dword e = absurd cc

no_time : (w : Width) → is_time_kind (kind_of_width w) ≡ true → ⊥
no_time width.Bit e = absurd cc
no_time width.Byte e = absurd cc
no_time width.Word e = absurd cc
no_time width.Dword e = absurd cc

int_by : (int time : Bool) (w : Width) → is_int_kind (kind_by int time w) ≡ true → int ≡ true
int_by true time w e = refl
int_by false true w e = absurd cc
int_by false false w e = absurd (no_int w e)

time_by : (int time : Bool) (w : Width) → is_time_kind (kind_by int time w) ≡ true → time ≡ true
time_by true time w e = absurd cc
time_by false true w e = refl
time_by false false w e = absurd (no_time w e)

plain_width : (w : Width) → width_of (kind_of_width w) ≡ w
plain_width width.Bit = refl
plain_width width.Byte = refl
plain_width width.Word = refl
plain_width width.Dword = refl

width_by : (int time : Bool) (kind : Simple) → (int ≡ true → kind ≡ simple.Int) → (time ≡ true → kind ≡ simple.Time)
    → width_of (kind_by int time (width_of kind)) ≡ width_of kind
width_by true time kind h k = ap width_of (sym (h refl))
width_by false true kind h k = ap width_of (sym (k refl))
width_by false false kind h k = plain_width (width_of kind)

-- a type of a system function, by the marks of what is passed for it
seed_by : (int time : Bool) (kind : Simple) → (int ≡ true → kind ≡ simple.Int) → (time ≡ true → kind ≡ simple.Time)
    → (is_int_kind kind ≡ true → int ≡ true) → (is_time_kind kind ≡ true → time ≡ true) → is_listed_type kind ≡ true
    → kind_by int time (width_of kind) ≡ kind
seed_by true time kind h k i t listed = sym (h refl)
seed_by false true kind h k i t listed = sym (k refl)
seed_by false false simple.Int h k i t listed = let never = i refl in absurd cc
seed_by false false simple.Time h k i t listed = let never = t refl in absurd cc
seed_by false false simple.Bool h k i t listed = refl
seed_by false false simple.Byte h k i t listed = refl
seed_by false false simple.Word h k i t listed = refl
seed_by false false simple.Dword h k i t listed = refl
seed_by false false simple.Char h k i t listed = absurd cc
seed_by false false simple.S5time h k i t listed = absurd cc
seed_by false false simple.Dint h k i t listed = absurd cc

typed_seed : (is_meant : Simple → Bool) (ls : List Link) (n : ℕ) (type : Simple) → LinksHaveType ls n type → is_meant type ≡ true → HasSeed is_meant ls n
typed_seed is_meant [] n type h e = absurd h
typed_seed is_meant (l ∷ ls) n type (inr h) e = inr (typed_seed is_meant ls n type h e)
typed_seed is_meant (Joins own other ∷ ls) n type (inl h) e = absurd h
typed_seed is_meant (Has own kind ∷ ls) n type (inl h) e = inl (h.0, ap is_meant h.1 ∙ e)

typed_declared : (declared : ℕ → Simple) (ls : List Link) (n : ℕ) (type : Simple) → AllByRecursion (IsKeptBy declared) ls → LinksHaveType ls n type
    → declared n ≡ type
typed_declared declared [] n type k h = absurd h
typed_declared declared (l ∷ ls) n type k (inr h) = typed_declared declared ls n type k.1 h
typed_declared declared (Joins own other ∷ ls) n type k (inl h) = absurd h
typed_declared declared (Has own kind ∷ ls) n type k (inl h) = ap declared (sym h.0) ∙ k.0 ∙ h.1

typed_below : (count : ℕ) (ls : List Link) (n : ℕ) (type : Simple) → AllByRecursion (IsLinkBelow count) ls → LinksHaveType ls n type → n < count
typed_below count [] n type k h = absurd h
typed_below count (l ∷ ls) n type k (inr h) = typed_below count ls n type k.1 h
typed_below count (Joins own other ∷ ls) n type k (inl h) = absurd h
typed_below count (Has own kind ∷ ls) n type k (inl h) = subst (λ (i : ℕ). i < count) h.0 k.0

pub types_kept : AreTypesKept
types_kept blocks declared below kept = record {
  ints = λ n h w e. was_int n h (int_by (int n) (time n) w (ap is_int_kind (sym (kind_is blocks n w)) ∙ e));
  times = λ n h w e. was_time n h (time_by (int n) (time n) w (ap is_time_kind (sym (kind_is blocks n w)) ∙ e));
  widths = λ n h. ap width_of (kind_is blocks n (width_of (declared n))) ∙ width_by (int n) (time n) (declared n) (was_int n h) (was_time n h);
  ends = λ m n h w.
      let same = from_step count (links blocks) below m n h in
      kind_is blocks m w
      ∙ ap₂ (λ (i t : Bool). kind_by i t w)
      (ap (mark_at (marks_of is_int_kind (chain_labels count (links blocks)) (links blocks))) same)
      (ap (mark_at (marks_of is_time_kind (chain_labels count (links blocks)) (links blocks))) same)
      ∙ sym (kind_is blocks n w);
  seeds = λ n type h listed.
      let few = typed_below count (links blocks) n type below h in
      let was = typed_declared declared (links blocks) n type kept h in
      kind_is blocks n (width_of type)
      ∙ seed_by (int n) (time n) type (λ e. sym was ∙ was_int n few e) (λ e. sym was ∙ was_time n few e)
      (λ e. (marks_handed is_int_kind count (links blocks) below n few).1 (n, typed_seed is_int_kind (links blocks) n type h e, ([], refl)))
      (λ e. (marks_handed is_time_kind count (links blocks) below n few).1 (n, typed_seed is_time_kind (links blocks) n type h e, ([], refl))) listed;
}
  where
    count : ℕ
    count = total_parameter_count blocks

    int : ℕ → Bool
    int n = int_mark (total_parameter_count blocks) (links blocks) n

    time : ℕ → Bool
    time n = time_mark (total_parameter_count blocks) (links blocks) n

    was_int : (n : ℕ) → n < total_parameter_count blocks → int_mark (total_parameter_count blocks) (links blocks) n ≡ true → declared n ≡ simple.Int
    was_int n h e =
        int_is (declared n) (kept_handed is_int_kind declared (links blocks) n kept ((marks_handed is_int_kind (total_parameter_count blocks) (links blocks) below n h).0 e))

    was_time : (n : ℕ) → n < total_parameter_count blocks → time_mark (total_parameter_count blocks) (links blocks) n ≡ true → declared n ≡ simple.Time
    was_time n h e =
        time_is (declared n) (kept_handed is_time_kind declared (links blocks) n kept ((marks_handed is_time_kind (total_parameter_count blocks) (links blocks) below n h).0 e))
