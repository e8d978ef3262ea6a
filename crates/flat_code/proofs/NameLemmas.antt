-- What a name finds among names that rise.
use Rattle.std.proofs.Common.{◌≡◌, ℕ, zero, suc, ◌<◌, ◌≤◌, Bool, true, false, not, ◌&&◌, List, [], ◌∷◌, length, get_or, ltb, Some, None, refl, sym, ap, ◌∙◌, arith}
use Rattle.std.specs.Char.{to_ascii_uppercase, is_ascii_lowercase}
use Rattle.std.specs.Cmp.Lexicographic.{slice_cmp}
use Rattle.std.specs.List.{list_all}
use Rattle.std.specs.List.Sorted.{IsNonDecreasingBy, IsPartitionPoint}
use Rattle.std.specs.Ordering.{is_lt, is_eq, nat_cmp, ordering_index}
use Rattle.std.specs.Str.{bytes_eq}
use Rattle.std.specs.declared.cmp.Ordering.{Ordering}
use Rattle.std.specs.declared.cmp.Ordering.TheVariants.{Less, Equal, Greater}
use Rattle.std.proofs.lemmas.Bool.{and_parts}
use Rattle.std.proofs.lemmas.Bool.Decides.{nat_tests}
use Rattle.std.proofs.lemmas.Cmp.{nat_list_cmp_total, alike_right, same_from_slice_cmp}
use Rattle.std.proofs.lemmas.Map.Text.{is_eq-slice_cmp}
use Rattle.plc_base.specs.Folding.{upper_case_name, is_same_name}
use Rattle.plc_base.specs.declared.places.Place.{Place}
use Rattle.plc_base.specs.declared.places.Width.{Width}
use Rattle.flat_code.specs.Programs.{NameEntry}
use Rattle.flat_code.specs.Names.{names_rise, find}
use Rattle.flat_code.specs.Faults.{is_earlier_name, is_upper}

-- a name stands before another where it compares as less
pub before_is_less : (a b : List ℕ) (o : Ordering) → o ≡ slice_cmp nat_cmp a b → is_lt o ≡ is_earlier_name a b
before_is_less = same_from_slice_cmp nat_cmp is_lt is_earlier_name refl (λ _ _. refl) (λ _ _. refl) (λ x y xs ys o h. grind (arith, nat_tests))

is_less : (o : Ordering) → is_lt o ≡ true → o ≡ Less
is_less Less h = refl
is_less Equal h = absurd cc
is_less Greater h = absurd cc

less : (a b : List ℕ) → is_earlier_name a b ≡ true → slice_cmp nat_cmp a b ≡ Less
less a b h = is_less (slice_cmp nat_cmp a b) (before_is_less a b (slice_cmp nat_cmp a b) refl ∙ h)

pub upper_is_all : (name : List ℕ) → list_all (λ b. not (is_ascii_lowercase b)) name ≡ is_upper name
upper_is_all [] = refl
upper_is_all (b ∷ bs) = ap (λ (t : Bool). not (is_ascii_lowercase b) && t) (upper_is_all bs)

upper_byte : (b : ℕ) → not (is_ascii_lowercase b) ≡ true → to_ascii_uppercase b ≡ b
upper_byte b h = grind (arith, nat_tests)

-- a name in upper case is its own upper case
upper_kept : (name : List ℕ) → is_upper name ≡ true → upper_case_name name ≡ name
upper_kept [] h = refl
upper_kept (b ∷ bs) h =
    let p = and_parts (not (is_ascii_lowercase b)) (is_upper bs) h in
    rw (upper_byte b p.0, upper_kept bs p.1) refl

same_is : (a name : List ℕ) → is_upper a ≡ true → is_same_name a name ≡ is_eq (slice_cmp nat_cmp a (upper_case_name name))
same_is a name h = ap (λ (z : List ℕ). bytes_eq z (upper_case_name name)) (upper_kept a h) ∙ sym (is_eq-slice_cmp a (upper_case_name name))

record Rises (before : List ℕ) (entry : NameEntry) (entries : List NameEntry) : Type 0 where
  after : slice_cmp nat_cmp before entry.name ≡ Less
  upper : is_upper entry.name ≡ true
  more : names_rise entry.name entries ≡ true

parts_of : (before : List ℕ) (entry : NameEntry) (entries : List NameEntry) → names_rise before (entry ∷ entries) ≡ true → Rises before entry entries
parts_of before entry entries h =
    let p = and_parts (is_earlier_name before entry.name && is_upper entry.name) (names_rise entry.name entries) h in
    let q = and_parts (is_earlier_name before entry.name) (is_upper entry.name) p.0 in
    record { after = less before entry.name q.0; upper = q.1; more = p.1 }

-- every name stands after what they rise from
later : (before : List ℕ) (es : List NameEntry) → names_rise before es ≡ true → (k : ℕ) (d : NameEntry) → k < length es → slice_cmp nat_cmp before (get_or es k d).name ≡ Less
later before [] h k d lt = absurd (omega arith)
later before (e ∷ es) h zero d lt = (parts_of before e es h).after
later before (e ∷ es) h (suc k) d lt =
    let p = parts_of before e es h in
    nat_list_cmp_total.trans before e.name (get_or es k d).name p.after (later e.name es p.more k d (omega arith))

-- a name before another compares no higher with a third
below : (a b t : List ℕ) (r : Ordering) → slice_cmp nat_cmp b t ≡ r → slice_cmp nat_cmp a b ≡ Less → ordering_index (slice_cmp nat_cmp a t) ≤ ordering_index r
below a b t Less e h = rw (nat_list_cmp_total.trans a b t h e) (omega arith)
below a b t Equal e h = rw (sym (alike_right nat_list_cmp_total b t a e) ∙ h) (omega arith)
below a b t Greater e h = least (slice_cmp nat_cmp a t)
  where
    least : (o : Ordering) → ordering_index o ≤ 2
    least Less = omega arith
    least Equal = omega arith
    least Greater = omega arith

pub rises : (t before : List ℕ) (es : List NameEntry) → names_rise before es ≡ true → IsNonDecreasingBy (λ y. ordering_index (slice_cmp nat_cmp y.name t)) es
rises t before [] h i j d le lt = absurd (omega arith)
rises t before (e ∷ es) h zero zero d le lt = omega arith
rises t before (e ∷ es) h zero (suc j) d le lt =
    let p = parts_of before e es h in
    below e.name (get_or es j d).name t _ refl (later e.name es p.more j d (omega arith))
rises t before (e ∷ es) h (suc i) zero d le lt = absurd (omega arith)
rises t before (e ∷ es) h (suc i) (suc j) d le lt = rises t e.name es (parts_of before e es h).more i j d (omega arith) (omega arith)

-- the variable of an entry whose name this is
name_found : (name before : List ℕ) (es : List NameEntry) → names_rise before es ≡ true → (i : ℕ) (d : NameEntry) → i < length es
    → slice_cmp nat_cmp (get_or es i d).name (upper_case_name name) ≡ Equal → find es name ≡ Some ((get_or es i d).place, (get_or es i d).width)
unfolding find
name_found name before [] h i d lt is = absurd (omega arith)
name_found name before (e ∷ es) h zero d lt is =
    let p = parts_of before e es h in
    rw (same_is e.name name p.upper ∙ ap is_eq is) refl
name_found name before (e ∷ es) h (suc i) d lt is =
    let p = parts_of before e es h in
    let less : slice_cmp nat_cmp e.name (upper_case_name name) ≡ Less = sym (alike_right nat_list_cmp_total (get_or es i d).name (upper_case_name name) e.name is) ∙ later e.name es p.more i d (omega arith) in
    rw (same_is e.name name p.upper ∙ ap is_eq less) (name_found name e.name es p.more i d (omega arith) is)

-- the variable that was read from such an entry
pub found_in : (name : List ℕ) (es : List NameEntry) → names_rise [] es ≡ true → (i : ℕ) (entry : NameEntry) (variable : Place × Width) → i < length es
    → slice_cmp nat_cmp (get_or es i entry).name (upper_case_name name) ≡ Equal → entry ≡ get_or es i entry → variable ≡ (entry.place, entry.width) → Some variable ≡ find es name
found_in name es h i entry variable lt is at reads =
    ap Some reads ∙ ap (λ (e : NameEntry). Some (e.place, e.width)) at ∙ sym (name_found name [] es h i entry lt is)

-- where no entry has the name, it finds nothing
none_found : (name before : List ℕ) (es : List NameEntry) → names_rise before es ≡ true
    → ((k : ℕ) (d : NameEntry) → k < length es → is_eq (slice_cmp nat_cmp (get_or es k d).name (upper_case_name name)) ≡ false) → find es name ≡ None
unfolding find
none_found name before [] h none = refl
none_found name before (e ∷ es) h none =
    let p = parts_of before e es h in
    rw (same_is e.name name p.upper ∙ none 0 e (omega arith)) (none_found name e.name es p.more (λ k d lt. none (suc k) d (omega arith)))

pub absent : (name : List ℕ) (es : List NameEntry) (i : ℕ) → names_rise [] es ≡ true
    → IsPartitionPoint (λ y. slice_cmp nat_cmp y.name (upper_case_name name) ≡ Less) (λ y. slice_cmp nat_cmp y.name (upper_case_name name) ≡ Greater) es i → find es name ≡ None
absent name es i h parts = none_found name [] es h (λ k d lt. side k d lt (ltb k i) refl)
  where
    side : (k : ℕ) (d : NameEntry) → k < length es → (b : Bool) → ltb k i ≡ b → is_eq (slice_cmp nat_cmp (get_or es k d).name (upper_case_name name)) ≡ false
    side k d lt true e = ap is_eq (parts.0 k d (omega arith) (grind (arith, nat_tests)))
    side k d lt false e = ap is_eq (parts.1 k d (grind (arith, nat_tests)) lt)
