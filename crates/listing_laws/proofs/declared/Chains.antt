-- The types that chains of passings give to parameters have the widths of these.
use Rattle.std.proofs.Common.{◌≡◌, ℕ, zero, suc, ◌+◌, Bool, true, false, List, [], ◌∷◌, ◌++◌, append_assoc, length, length-append, map, replicate, Option, Some, None, refl, sym, ap, ◌∙◌, arith}
use Rattle.std.specs.Prelude.{◌==◌, if◌then◌else◌, nat_eq, slice_get, slice_set, unwrap_or}
use Rattle.std.specs.List.{AllByRecursion, fold, range_with_len}
use Rattle.std.proofs.lemmas.Bool.{eqb-true}
use Rattle.std.proofs.lemmas.List.{length-map}
use Rattle.std.proofs.lemmas.Bool.Decides.{nat_tests}
use Rattle.plc_base.specs.Kinds.{is_function}
use Rattle.plc_base.specs.declared.places.Width.{Width}
use Rattle.plc_base.specs.declared.places.Width.TheVariants as width
use Rattle.flat_code.specs.Programs.{CodeBlock}
use Rattle.flat_code.specs.declared.programs.Param.{Param}
use Rattle.stl_ast.specs.declared.declarations.Simple.{Simple}
use Rattle.stl_ast.specs.declared.declarations.Simple.TheVariants as simple
use Rattle.block_layout.specs.Offsets.{width_of}
use Rattle.stl_list.specs.JoinedParameters.{chains_by, is_int_kind, is_time_kind, kind_at, kind_by, chain_labels, mark_at, marks_after_link, marks_of, merged_labels, labels_after_link, replaced_label, set_label}
use Rattle.stl_list.specs.Parameters.{kind_of_width}
use Rattle.stl_list.specs.Signatures.{formals_from, is_behind, signatures_from}
use Rattle.stl_list.specs.declared.links.Link.{Link}
use Rattle.stl_list.specs.declared.links.Link.TheVariants.{Joins, Has}
use Rattle.listing_laws.specs.ListedDeclarations.{AreWide}

-- the widths of the parameters of all blocks
abbrev pub widths : List CodeBlock → List Width
widths [] = []
widths (b ∷ bs) = map (λ p. p.width) b.params ++ widths bs

-- both ends of a passing have one width, and a type is as wide as what has it
abbrev pub IsGoodLink : List Width → Link → Type 0
IsGoodLink ws (Joins own other) = slice_get ws own ≡ slice_get ws other
IsGoodLink ws (Has own kind) = slice_get ws own ≡ Some (width_of kind)

-- ---- labels

-- a label is a parameter as wide
AreLabels : List Width → List ℕ → Type 0
AreLabels ws labels = (n l : ℕ) → slice_get labels n ≡ Some l → slice_get ws l ≡ slice_get ws n

in_range : (a count n l : ℕ) → slice_get (range_with_len a count) n ≡ Some l → l ≡ a + n
in_range a zero n l e = absurd cc
in_range a (suc count) zero l e = let same : a ≡ l = cc in omega (arith, same)
in_range a (suc count) (suc n) l e = let more = in_range (a + 1) count n l e in omega (arith, more)

first_labels : (ws : List Width) (count : ℕ) → AreLabels ws (range_with_len 0 count)
unfolding AreLabels
first_labels ws count n l e = let same = in_range 0 count n l e in let is : l ≡ n = omega (arith, same) in ap (slice_get ws) is

replaced_width : (ws : List Width) (from to n m l : ℕ) → slice_get ws from ≡ slice_get ws to → slice_get ws m ≡ slice_get ws n → replaced_label from to m ≡ l → slice_get ws l ≡ slice_get ws n
replaced_width ws from to n m l same own e = ap (slice_get ws) (sym e) ∙ by (m == from) refl
  where
    by : (t : Bool) → (m == from) ≡ t → slice_get ws (if t then to else m) ≡ slice_get ws n
    by true is = sym same ∙ ap (slice_get ws) (sym (eqb-true m from is)) ∙ own
    by false is = own

mapped_label : (ws : List Width) (from to : ℕ) (labels : List ℕ) → slice_get ws from ≡ slice_get ws to → (n k l : ℕ)
    → ((m j : ℕ) → slice_get labels m ≡ Some j → slice_get ws j ≡ slice_get ws (k + m)) → slice_get (map (replaced_label from to) labels) n ≡ Some l → slice_get ws l ≡ slice_get ws (k + n)
mapped_label ws from to [] same n k l h e = absurd cc
mapped_label ws from to (m ∷ labels) same zero k l h e = replaced_width ws from to (k + 0) m l same (h 0 m refl) (let it : replaced_label from to m ≡ l = cc in it)
mapped_label ws from to (m ∷ labels) same (suc n) k l h e =
    let there : suc k + n ≡ k + suc n = omega arith in
    ap (λ z. z) (mapped_label ws from to labels same n (suc k) l (λ i j f. h (suc i) j f ∙ ap (slice_get ws) (shift i)) e) ∙ ap (slice_get ws) there
  where
    shift : (i : ℕ) → k + suc i ≡ suc k + i
    shift i = omega arith

relinked_labels : (ws : List Width) (labels : List ℕ) (link : Link) → IsGoodLink ws link → AreLabels ws labels → AreLabels ws (labels_after_link labels link)
unfolding AreLabels
relinked_labels ws labels (Has own kind) good h n l e = h n l e
relinked_labels ws labels (Joins own other) good h n l e = by (slice_get labels own) (slice_get labels other) refl refl e
  where
    none_before : (m : ℕ) → m ≡ 0 + m
    none_before m = omega arith

    by : (f t : Option ℕ) → slice_get labels own ≡ f → slice_get labels other ≡ t → slice_get (merged_labels f t labels) n ≡ Some l → slice_get ws l ≡ slice_get ws n
    by None t a b e = h n l e
    by (Some from) None a b e = h n l e
    by (Some from) (Some to) a b e =
        mapped_label ws from to labels (h own from a ∙ good ∙ sym (h other to b)) n 0 l (λ m j f. h m j f ∙ ap (slice_get ws) (none_before m)) e
        ∙ ap (slice_get ws) (sym (none_before n))

all_relinked : (ws : List Width) (labels : List ℕ) (links : List Link) → AllByRecursion (IsGoodLink ws) links → AreLabels ws labels → AreLabels ws (fold labels_after_link labels links)
all_relinked ws labels [] good h = h
all_relinked ws labels (link ∷ links) (one, more) h = all_relinked ws (labels_after_link labels link) links more (relinked_labels ws labels link one h)

labels_wide : (ws : List Width) (count : ℕ) (links : List Link) → AllByRecursion (IsGoodLink ws) links → AreLabels ws (chain_labels count links)
unfolding chain_labels
labels_wide ws count links good = all_relinked ws (range_with_len 0 count) links good (first_labels ws count)

-- ---- marks

-- what is marked has a width
AreMarks : List Width → Width → List Bool → Type 0
AreMarks ws w marks = (l : ℕ) → unwrap_or (slice_get marks l) false ≡ true → slice_get ws l ≡ Some w

no_marks : (n l : ℕ) → unwrap_or (slice_get (replicate n false) l) false ≡ false
no_marks zero l = refl
no_marks (suc n) zero = refl
no_marks (suc n) (suc l) = no_marks n l

first_marks : (ws : List Width) (w : Width) (n : ℕ) → AreMarks ws w (replicate n false)
unfolding AreMarks
first_marks ws w n l e = let none = no_marks n l in absurd cc

set_other : (marks : List Bool) (i l : ℕ) → nat_eq l i ≡ false → slice_get (slice_set marks i true) l ≡ slice_get marks l
set_other [] i l e = refl
set_other (m ∷ marks) zero zero e = absurd cc
set_other (m ∷ marks) zero (suc l) e = refl
set_other (m ∷ marks) (suc i) zero e = refl
set_other (m ∷ marks) (suc i) (suc l) e = set_other marks i l (fewer l i e)
  where
    fewer : (a b : ℕ) → nat_eq (suc a) (suc b) ≡ false → nat_eq a b ≡ false
    fewer a b e = grind (arith, nat_tests)

set_marks : (ws : List Width) (w : Width) (marks : List Bool) (label : Option ℕ) → ((l : ℕ) → label ≡ Some l → slice_get ws l ≡ Some w) → AreMarks ws w marks → AreMarks ws w (set_label marks label)
unfolding AreMarks
set_marks ws w marks None is h l e = h l e
set_marks ws w marks (Some i) is h l e = by (nat_eq l i) refl
  where
    by : (t : Bool) → nat_eq l i ≡ t → slice_get ws l ≡ Some w
    by true same = ap (slice_get ws) (eqb-true l i same) ∙ is i refl
    by false other = h l (ap (λ o. unwrap_or o false) (sym (set_other marks i l other)) ∙ e)

marked_wide : (is_meant : Simple → Bool) (ws : List Width) (w : Width) (labels : List ℕ) → ((k : Simple) → is_meant k ≡ true → width_of k ≡ w) → AreLabels ws labels
    → (marks : List Bool) (link : Link) → IsGoodLink ws link → AreMarks ws w marks → AreMarks ws w (marks_after_link is_meant labels marks link)
unfolding AreLabels
marked_wide is_meant ws w labels meant wide marks (Joins own other) good h = h
marked_wide is_meant ws w labels meant wide marks (Has own kind) good h = by (is_meant kind) refl
  where
    by : (t : Bool) → is_meant kind ≡ t → AreMarks ws w (if t then set_label marks (slice_get labels own) else marks)
    by true e = set_marks ws w marks (slice_get labels own) (λ l is. wide own l is ∙ good ∙ ap Some (meant kind e)) h
    by false e = h

all_marked : (is_meant : Simple → Bool) (ws : List Width) (w : Width) (labels : List ℕ) → ((k : Simple) → is_meant k ≡ true → width_of k ≡ w) → AreLabels ws labels
    → (marks : List Bool) (links : List Link) → AllByRecursion (IsGoodLink ws) links → AreMarks ws w marks → AreMarks ws w (fold (marks_after_link is_meant labels) marks links)
all_marked is_meant ws w labels meant wide marks [] good h = h
all_marked is_meant ws w labels meant wide marks (link ∷ links) (one, more) h =
    all_marked is_meant ws w labels meant wide (marks_after_link is_meant labels marks link) links more (marked_wide is_meant ws w labels meant wide marks link one h)

marks_wide : (is_meant : Simple → Bool) (ws : List Width) (w : Width) (labels : List ℕ) (links : List Link) → ((k : Simple) → is_meant k ≡ true → width_of k ≡ w) → AreLabels ws labels
    → AllByRecursion (IsGoodLink ws) links → AreMarks ws w (marks_of is_meant labels links)
unfolding marks_of
marks_wide is_meant ws w labels links meant wide good =
    all_marked is_meant ws w labels meant wide (replicate (length labels) false) links good (first_marks ws w (length labels))

int_wide : (k : Simple) → is_int_kind k ≡ true → width_of k ≡ width.Word
int_wide simple.Int e = refl
int_wide simple.Bool e = absurd cc
int_wide simple.Byte e = absurd cc
int_wide simple.Char e = absurd cc
int_wide simple.Word e = absurd cc
int_wide simple.S5time e = absurd cc
int_wide simple.Dword e = absurd cc
int_wide simple.Dint e = absurd cc
int_wide simple.Time e = absurd cc

time_wide : (k : Simple) → is_time_kind k ≡ true → width_of k ≡ width.Dword
time_wide simple.Time e = refl
time_wide simple.Bool e = absurd cc
time_wide simple.Byte e = absurd cc
time_wide simple.Char e = absurd cc
time_wide simple.Word e = absurd cc
time_wide simple.Int e = absurd cc
time_wide simple.S5time e = absurd cc
time_wide simple.Dword e = absurd cc
time_wide simple.Dint e = absurd cc

-- ---- types

plain_wide : (w : Width) → width_of (kind_of_width w) ≡ w
plain_wide width.Bit = refl
plain_wide width.Byte = refl
plain_wide width.Word = refl
plain_wide width.Dword = refl

-- what a chain marks is as wide as its label
mark_wide : (ws : List Width) (w own : Width) (labels : List ℕ) (marks : List Bool) (n : ℕ) → AreLabels ws labels → AreMarks ws w marks → slice_get ws n ≡ Some own
    → mark_at marks (slice_get labels n) ≡ true → own ≡ w
unfolding AreLabels AreMarks
mark_wide ws w own labels marks n wide h there e = by (slice_get labels n) refl e
  where
    by : (o : Option ℕ) → slice_get labels n ≡ o → mark_at marks o ≡ true → own ≡ w
    by None is e = absurd cc
    by (Some l) is e = let same : Some own ≡ Some w = sym there ∙ sym (wide n l is) ∙ h l e in cc

kind_wide : (ws : List Width) (links : List Link) (count n : ℕ) (own : Width) → AllByRecursion (IsGoodLink ws) links → slice_get ws n ≡ Some own
    → width_of (kind_at (chains_by (chain_labels count links) links) n own) ≡ own
unfolding kind_at
kind_wide ws links count n own good there =
    by (mark_at (marks_of is_int_kind labels links) (slice_get labels n)) (mark_at (marks_of is_time_kind labels links) (slice_get labels n)) refl refl
  where
    labels : List ℕ
    labels = chain_labels count links

    wide : AreLabels ws labels
    wide = labels_wide ws count links good

    by : (i t : Bool) → mark_at (marks_of is_int_kind labels links) (slice_get labels n) ≡ i → mark_at (marks_of is_time_kind labels links) (slice_get labels n) ≡ t → width_of (kind_by i t own) ≡ own
    by true t e f = sym (mark_wide ws width.Word own labels (marks_of is_int_kind labels links) n wide (marks_wide is_int_kind ws width.Word labels links int_wide wide good) there e)
    by false true e f = sym (mark_wide ws width.Dword own labels (marks_of is_time_kind labels links) n wide (marks_wide is_time_kind ws width.Dword labels links time_wide wide good) there f)
    by false false e f = plain_wide own

-- ---- the formal parameters of all blocks

at_seam : (front : List Width) (w : Width) (rest : List Width) (n : ℕ) → n ≡ length front → slice_get (front ++ w ∷ rest) n ≡ Some w
at_seam [] w rest zero e = refl
at_seam [] w rest (suc n) e = absurd (omega (arith, e))
at_seam (x ∷ front) w rest zero e = absurd (omega (arith, e))
at_seam (x ∷ front) w rest (suc n) e = at_seam front w rest n (omega (arith, e))

formals_wide : (whole : List Width) (links : List Link) (count : ℕ) (returns behind : Bool) (index first : ℕ) (front : List Width) (ps : List Param) (rest : List Width)
    → AllByRecursion (IsGoodLink whole) links → first ≡ length front → whole ≡ front ++ (map (λ p. p.width) ps ++ rest)
    → AreWide ps (formals_from (chains_by (chain_labels count links) links) returns behind index first ps)
formals_wide whole links count returns behind index first front [] rest good e are = tt
formals_wide whole links count returns behind index first front (p ∷ ps) rest good e are =
    let there : slice_get whole first ≡ Some p.width = ap (λ z. slice_get z first) are ∙ at_seam front p.width (map (λ q. q.width) ps ++ rest) first e in
    let size = length-append front (p.width ∷ []) in (
      kind_wide whole links count first p.width good there,
      formals_wide whole links count returns (is_behind returns behind p) (suc index) (suc first) (front ++ p.width ∷ []) ps rest good (omega (arith, e, size))
          (are ∙ sym (append_assoc front (p.width ∷ []) (map (λ q. q.width) ps ++ rest))),
    )

pub signatures_wide : (whole : List Width) (links : List Link) (count : ℕ) (first : ℕ) (front : List Width) (bs : List CodeBlock) → AllByRecursion (IsGoodLink whole) links → first ≡ length front
    → whole ≡ front ++ widths bs → AllByRecursion (λ s. AreWide s.params s.formals) (signatures_from (chains_by (chain_labels count links) links) first bs)
signatures_wide whole links count first front [] good e are = tt
signatures_wide whole links count first front (b ∷ bs) good e are =
    let own = map (λ (p : Param). p.width) b.params in
    let size = length-append front own in
    let few = length-map b.params (λ (p : Param). p.width) in (
      formals_wide whole links count (is_function b.id.kind) false 0 first front b.params (widths bs) good e are,
      signatures_wide whole links count (first + length b.params) (front ++ own) bs good (omega (arith, e, size, few)) (are ∙ sym (append_assoc front own (widths bs))),
    )
