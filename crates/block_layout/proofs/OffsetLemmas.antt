-- Where components lie: the least places, and no others.
use Rattle.std.proofs.Common.{ℕ, zero, suc, ◌≡◌, ◌<◌, ◌≤◌, ◌+◌, ◌⊎◌, inl, inr, ⊎_elim, List, [], ◌∷◌, ◌++◌, Option, Some, None, Bool, true, false, ◌&&◌, nat_eq, nat_lt, refl, sym, ◌∙◌, ap, subst, arith, length, drop, map, add-one, if◌then◌else◌}
use Rattle.std.proofs.lemmas.Bool.{cases_Bool}
use Rattle.std.specs.List.{filter, slice_get}
use Rattle.std.specs.Str.{bytes_eq}
use Rattle.stl_ast.specs.declared.declarations.Simple.TheVariants as simple
use Rattle.block_layout.specs.declared.cells.Cell.{Cell}
use Rattle.block_layout.specs.declared.cells.Element.{Element}
use Rattle.block_layout.specs.declared.cells.Element.TheVariants.{Plain, Structure, DateAndTime, Udt, Unknown}
use Rattle.block_layout.specs.Sizes.{largest_size}
use Rattle.block_layout.specs.declared.members.Member.{Member}
use Rattle.block_layout.specs.Members.{component_of_name, members_of}
use Rattle.block_layout.specs.Places.{AreOffsets, FindsSound, IsLeastPlace, IsOneOf, Sibling, is_sound_cell, siblings, sound_offsets}
use Rattle.block_layout.specs.Sizes.{alignment, capped_size, cell_bits, element_alignment, element_of, components_end, end_behind_cell, next_multiple}

-- a place that is the least is one alone
pub same_place : (end align p q : ℕ) → IsLeastPlace end align p → IsLeastPlace end align q → p ≡ q
same_place end align p q a b = let le = a.least q b.behind b.meets in let ge = b.least p a.behind a.meets in omega arith

one_places : (end : ℕ) (ss : List Sibling) (ps qs : List ℕ) → AreOffsets end ss ps → AreOffsets end ss qs → ps ≡ qs
one_places end [] [] [] a b = refl
one_places end [] [] (q ∷ qs) a b = absurd b
one_places end [] (p ∷ ps) qs a b = absurd a
one_places end (s ∷ ss) [] qs a b = absurd a
one_places end (s ∷ ss) (p ∷ ps) [] a b = absurd b
one_places end (s ∷ ss) (p ∷ ps) (q ∷ qs) a b =
    let here : p ≡ q = same_place end s.align p q a.0 b.0 in
    ap (λ (n : ℕ). n ∷ ps) here
    ∙ ap (λ (l : List ℕ). q ∷ l) (one_places (q + s.bits) ss ps qs (subst (λ (n : ℕ). AreOffsets (n + s.bits) ss ps) here a.1) b.1)

-- the alignments that there are
abbrev IsAlignment : ℕ → Type 0
IsAlignment n = (n ≡ 1) ⊎ ((n ≡ 8) ⊎ (n ≡ 16))

element_aligned : (e : Element) → IsAlignment (element_alignment e)
element_aligned (Plain simple.Bool) = inl refl
element_aligned (Plain simple.Byte) = inr (inl refl)
element_aligned (Plain simple.Char) = inr (inl refl)
element_aligned (Plain simple.Word) = inr (inr refl)
element_aligned (Plain simple.Int) = inr (inr refl)
element_aligned (Plain simple.S5time) = inr (inr refl)
element_aligned (Plain simple.Dword) = inr (inr refl)
element_aligned (Plain simple.Dint) = inr (inr refl)
element_aligned (Plain simple.Time) = inr (inr refl)
element_aligned Structure = inr (inr refl)
element_aligned DateAndTime = inr (inr refl)
element_aligned (Udt block bits) = inr (inr refl)
element_aligned Unknown = inr (inr refl)

or_even : (opens one : Bool) (n : ℕ) → IsAlignment n → IsAlignment (if opens then 16 else if one then n else 16)
or_even true one n h = inr (inr refl)
or_even false true n h = h
or_even false false n h = inr (inr refl)

aligned : (c : Cell) → IsAlignment (alignment c)
aligned c = or_even c.opens (nat_eq (length c.bounds) 0) (element_alignment c.of) (element_aligned c.of)

least_1 : (n : ℕ) → IsLeastPlace n 1 (next_multiple n 1)
unfolding next_multiple
least_1 n = record { behind = omega arith; meets = omega arith; least = λ m at meets. omega arith }

least_8 : (n : ℕ) → IsLeastPlace n 8 (next_multiple n 8)
unfolding next_multiple
least_8 n = record { behind = omega arith; meets = omega arith; least = λ m at meets. omega arith }

least_16 : (n : ℕ) → IsLeastPlace n 16 (next_multiple n 16)
unfolding next_multiple
least_16 n = record { behind = omega arith; meets = omega arith; least = λ m at meets. omega arith }

up_is_least : (n align : ℕ) → IsAlignment align → IsLeastPlace n align (next_multiple n align)
up_is_least n align h =
    ⊎_elim
    (λ one. subst (λ (a : ℕ). IsLeastPlace n a (next_multiple n a)) (sym one) (least_1 n))
    (λ more. ⊎_elim
    (λ eight. subst (λ (a : ℕ). IsLeastPlace n a (next_multiple n a)) (sym eight) (least_8 n))
    (λ sixteen. subst (λ (a : ℕ). IsLeastPlace n a (next_multiple n a)) (sym sixteen) (least_16 n))
    more)
    h

pub here_least : (n : ℕ) (c : Cell) → IsLeastPlace n (alignment c) (next_multiple n (alignment c))
here_least n c = up_is_least n (alignment c) (aligned c)

-- the end of components is no lower than where they begin
pub record Grows (at next : ℕ) : Type 0 where
  pub above : at ≤ next
  pub near : next ≤ largest_size

grows_by : (here sound : Bool) (at first bits : ℕ) → at ≤ largest_size → at ≤ first → Grows at (if here then if sound then capped_size (first + bits) else at else at)
grows_by true true at first bits near past_ = record { above = omega arith; near = omega arith }
grows_by true false at first bits near past_ = record { above = omega arith; near = near }
grows_by false sound at first bits near past_ = record { above = omega arith; near = near }

pub step_grows : (level at : ℕ) (c : Cell) (bits : ℕ) → at ≤ largest_size → Grows at (end_behind_cell level at c bits)
step_grows level at c bits near = grows_by (nat_eq c.level level) c.sound at (next_multiple at (alignment c)) bits near (here_least at c).behind

pub end_step : (level at : ℕ) (c : Cell) (cs : List Cell) → nat_lt c.level level ≡ false → components_end level at (c ∷ cs) ≡ components_end level (end_behind_cell level at c (cell_bits c cs)) cs
unfolding components_end element_of
end_step level at c cs stays = rw stays refl

end_stop : (level at : ℕ) (c : Cell) (cs : List Cell) → nat_lt c.level level ≡ true → components_end level at (c ∷ cs) ≡ at
unfolding components_end
end_stop level at c cs lower = rw lower refl

end_none : (level at : ℕ) → components_end level at [] ≡ at
unfolding components_end
end_none level at = refl

pub end_grows : (level at : ℕ) (cells : List Cell) → at ≤ largest_size → at ≤ components_end level at cells
end_grows level at [] near = let none = end_none level at in omega arith
end_grows level at (c ∷ cs) near =
    ⊎_elim
    (λ lower. let stop = end_stop level at c cs lower in omega arith)
    (λ stays.
    let step = end_step level at c cs stays in
    let grows = step_grows level at c (cell_bits c cs) near in
    let later = end_grows level (end_behind_cell level at c (cell_bits c cs)) cs grows.near in
    omega (arith, step, grows.above, later))
    (cases_Bool (nat_lt c.level level))

-- the offsets of the sound components, one behind the other
abbrev offsets_from : (level at : ℕ) → List Cell → List ℕ
offsets_from level at [] = []
offsets_from level at (c ∷ cs) =
    if nat_lt c.level level then []
    else (if c.sound && nat_eq c.level level then next_multiple at (alignment c) ∷ [] else []) ++ offsets_from level (end_behind_cell level at c (cell_bits c cs)) cs

pub step_here : (level at : ℕ) (c : Cell) (bits : ℕ) → (c.sound && nat_eq c.level level) ≡ true → end_behind_cell level at c bits ≡ capped_size (next_multiple at (alignment c) + bits)
step_here level at c bits here = by_tests c.sound (nat_eq c.level level) here where
  by_tests : (sound same : Bool) → (sound && same) ≡ true → (if same then if sound then capped_size (next_multiple at (alignment c) + bits) else at else at) ≡ capped_size (next_multiple at (alignment c) + bits)
  by_tests true true h = refl
  by_tests true false h = cc
  by_tests false same h = cc

pub step_stays : (level at : ℕ) (c : Cell) (bits : ℕ) → (c.sound && nat_eq c.level level) ≡ false → end_behind_cell level at c bits ≡ at
step_stays level at c bits other = by_tests c.sound (nat_eq c.level level) other where
  by_tests : (sound same : Bool) → (sound && same) ≡ false → (if same then if sound then capped_size (next_multiple at (alignment c) + bits) else at else at) ≡ at
  by_tests true true h = cc
  by_tests true false h = refl
  by_tests false true h = refl
  by_tests false false h = refl

-- the first of those that are left, and those behind it
from_here : (level at : ℕ) (c : Cell) (cs : List Cell) (next : ℕ) → (c.sound && nat_eq c.level level) ≡ true → nat_lt c.level level ≡ false → next ≡ next_multiple at (alignment c) + cell_bits c cs →
    end_behind_cell level at c (cell_bits c cs) ≡ next → AreOffsets next (siblings level cs) (offsets_from level next cs) → AreOffsets at (siblings level (c ∷ cs)) (offsets_from level at (c ∷ cs))
from_here level at c cs next here stays is_next is_step later =
    rw stays (rw here (rw is_step (here_least at c, subst (λ (n : ℕ). AreOffsets n (siblings level cs) (offsets_from level next cs)) is_next later)))

from_there : (level at : ℕ) (c : Cell) (cs : List Cell) → (c.sound && nat_eq c.level level) ≡ false → nat_lt c.level level ≡ false →
    end_behind_cell level at c (cell_bits c cs) ≡ at → AreOffsets at (siblings level cs) (offsets_from level at cs) → AreOffsets at (siblings level (c ∷ cs)) (offsets_from level at (c ∷ cs))
from_there level at c cs other stays is_step later = rw stays (rw other (rw is_step later))

are_from : (level at : ℕ) (cells : List Cell) → at ≤ largest_size → components_end level at cells < largest_size → AreOffsets at (siblings level cells) (offsets_from level at cells)
are_from level at [] near short = tt
are_from level at (c ∷ cs) near short =
    ⊎_elim
    (λ lower. rw lower tt)
    (λ stays.
    let next = end_behind_cell level at c (cell_bits c cs) in
    let grows = step_grows level at c (cell_bits c cs) near in
    let ends : components_end level next cs < largest_size = subst (λ (n : ℕ). n < largest_size) (end_step level at c cs stays) short in
    let later = are_from level next cs grows.near ends in
    ⊎_elim
    (λ here.
    let below = end_grows level next cs grows.near in
    let is = step_here level at c (cell_bits c cs) here in
    let whole : next ≡ next_multiple at (alignment c) + cell_bits c cs = omega (arith, is, below, ends) in
    from_here level at c cs next here stays whole refl later)
    (λ other.
    let is = step_stays level at c (cell_bits c cs) other in
    from_there level at c cs other stays is (subst (λ (n : ℕ). AreOffsets n (siblings level cs) (offsets_from level n cs)) is later))
    (cases_Bool (c.sound && nat_eq c.level level)))
    (cases_Bool (nat_lt c.level level))

-- the cell at a place, and those behind it
pub at_place : (all : List Cell) (p : ℕ) (c : Cell) (cs : List Cell) → drop p all ≡ c ∷ cs → slice_get all p ≡ Some c
at_place [] zero c cs e = cc
at_place [] (suc p) c cs e = cc
at_place (x ∷ xs) zero c cs e = cc
at_place (x ∷ xs) (suc p) c cs e = at_place xs p c cs e

behind_place : (all : List Cell) (p : ℕ) (c : Cell) (cs : List Cell) → drop p all ≡ c ∷ cs → drop (p + 1) all ≡ cs
behind_place [] zero c cs e = cc
behind_place [] (suc p) c cs e = cc
behind_place (x ∷ xs) zero c cs e = cc
behind_place (x ∷ xs) (suc p) c cs e = rw add-one (let h = behind_place xs p c cs e in rw add-one at h)

abbrev sound_from : List Cell → List Member → List ℕ
sound_from all ms = map (λ m. m.offset) (filter (λ m. is_sound_cell (slice_get all m.place)) ms)

-- a member that is there by two tests
one_sound : (all : List Cell) (c : Cell) (p offset : ℕ) (same sound : Bool) (ms : List Member) → slice_get all p ≡ Some c → c.sound ≡ sound →
    sound_from all ((if same then record { place = p; offset = offset } ∷ [] else []) ++ ms) ≡ (if sound && same then offset ∷ [] else []) ++ sound_from all ms
one_sound all c p offset true true ms there is = rw there (rw is refl)
one_sound all c p offset true false ms there is = rw there (rw is refl)
one_sound all c p offset false true ms there is = refl
one_sound all c p offset false false ms there is = refl

from_members : (all : List Cell) (level at p : ℕ) (cells : List Cell) → drop p all ≡ cells → sound_from all (members_of level at p cells) ≡ offsets_from level at cells
unfolding members_of
from_members all level at p [] e = refl
from_members all level at p (c ∷ cs) e =
    ⊎_elim
    (λ lower. rw lower refl)
    (λ stays.
    rw stays
    (one_sound all c p (next_multiple at (alignment c)) (nat_eq c.level level) c.sound (members_of level (end_behind_cell level at c (cell_bits c cs)) (p + 1) cs) (at_place all p c cs e) refl
    ∙ ap (λ (l : List ℕ). (if c.sound && nat_eq c.level level then next_multiple at (alignment c) ∷ [] else []) ++ l)
    (from_members all level (end_behind_cell level at c (cell_bits c cs)) (p + 1) cs (behind_place all p c cs e))))
    (cases_Bool (nat_lt c.level level))

pub offsets_are : (level : ℕ) (cells : List Cell) → components_end level 0 cells < largest_size → AreOffsets 0 (siblings level cells) (sound_offsets level cells)
offsets_are level cells short =
    subst (λ (l : List ℕ). AreOffsets 0 (siblings level cells) l) (sym (from_members cells level 0 0 cells refl)) (are_from level 0 cells (omega arith) short)

pub offsets_alone : (level : ℕ) (cells : List Cell) (places : List ℕ) → components_end level 0 cells < largest_size → AreOffsets 0 (siblings level cells) places → places ≡ sound_offsets level cells
offsets_alone level cells places short are = one_places 0 (siblings level cells) places (sound_offsets level cells) are (offsets_are level cells short)

-- ---- a component that is found by its name

-- the sound ones of some components of these cells
abbrev sound_ones : List Cell → List Member → List Member
sound_ones all ms = filter (λ k. is_sound_cell (slice_get all k.place)) ms

kept_here : (all : List Cell) (m : Member) (ms : List Member) → is_sound_cell (slice_get all m.place) ≡ true → IsOneOf m (sound_ones all (m ∷ ms))
kept_here all m ms sound = rw sound (inl refl)

kept_behind : (all : List Cell) (m n : Member) (ms : List Member) → IsOneOf m (sound_ones all ms) → IsOneOf m (sound_ones all (n ∷ ms))
kept_behind all m n ms more = by (is_sound_cell (slice_get all n.place))
  where
    by : (t : Bool) → IsOneOf m (if t then n ∷ sound_ones all ms else sound_ones all ms)
    by true = inr more
    by false = more

found_sound : (all : List Cell) (level at p : ℕ) (cells : List Cell) (name : List ℕ) (m : Member) → component_of_name level at p name cells ≡ Some m →
    is_sound_cell (slice_get all m.place) ≡ true → IsOneOf m (sound_ones all (members_of level at p cells))
unfolding component_of_name members_of
found_sound all level at p [] name m e sound = absurd cc
found_sound all level at p (c ∷ cs) name m e sound =
    by (nat_lt c.level level) (nat_eq c.level level) (bytes_eq name c.name) e
    (λ h. found_sound all level (end_behind_cell level at c (cell_bits c cs)) (p + 1) cs name m h sound)
  where
    here : Member
    here = record { place = p; offset = next_multiple at (alignment c) }

    rest : Option Member
    rest = component_of_name level (end_behind_cell level at c (cell_bits c cs)) (p + 1) name cs

    others : List Member
    others = members_of level (end_behind_cell level at c (cell_bits c cs)) (p + 1) cs

    some_same : (x y : Member) → Some x ≡ Some y → x ≡ y
    some_same x y k = cc

    by : (low same called : Bool) → (if low then None else if same && called then Some here else rest) ≡ Some m →
        (rest ≡ Some m → IsOneOf m (sound_ones all others)) →
        IsOneOf m (sound_ones all (if low then [] else (if same then here ∷ [] else []) ++ others))
    by true same called e more = absurd cc
    by false true true e more =
        subst (λ (k : Member). IsOneOf m (sound_ones all (k ∷ others))) (sym (some_same here m e)) (kept_here all m others sound)
    by false true false e more = kept_behind all m here others (more e)
    by false false called e more = more e

pub finds_sound : FindsSound
finds_sound level name cells m e sound = found_sound cells level 0 0 cells name m e sound
