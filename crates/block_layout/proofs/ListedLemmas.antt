-- Parameters that are declared again lie where they lay, and the instance is as long.
use Rattle.std.proofs.Common.{arith, ℕ, suc, ◌+◌, ◌-◌, ◌*◌, ◌/◌, ◌%◌, ◌≡◌, ◌≤◌, ◌<◌, Bool, true, false, List, [], ◌∷◌, ◌++◌, map, Option, Some, None, refl, sym, ◌∙◌, ap, subst}
use Rattle.std.specs.Prelude.{nat_eq, nat_lt, ◌&&◌, min, length, if◌then◌else◌}
use Rattle.std.specs.List.{AllByRecursion}
use Rattle.std.specs.Str.{bytes_eq}
use Rattle.std.proofs.lemmas.Bool.Decides.{nat_tests}
use Rattle.std.proofs.lemmas.Slice.Eq.{bytes_eq-Decides}
use Rattle.stl_ast.specs.declared.declarations.Simple.{Simple}
use Rattle.block_layout.specs.declared.cells.Cell.{Cell}
use Rattle.block_layout.specs.declared.cells.Element.TheVariants.{Plain}
use Rattle.block_layout.specs.declared.members.Member.{Member}
use Rattle.block_layout.specs.Members.{component_of_name}
use Rattle.block_layout.specs.Sizes.{alignment, array_bits, capped_size, cell_bits, element_alignment, element_bits, element_of, components_end, component_end, plain_bits, end_behind_cell, structure_bits, next_multiple}
use Rattle.block_layout.specs.ListedParameters.{AreAlike, CellNamesDiffer, IsAlike, IsBytes, IsElementary, LengthStays, OffsetsStay, offset_of_member, offsets_in}

-- what the layout takes from an elementary component
align : Bool → ℕ → ℕ
align opens bits = if opens then 16 else min bits 16

alignment_is : (c : Cell) (kind : Simple) → IsElementary c kind → alignment c ≡ align c.opens (plain_bits kind)
unfolding align
alignment_is c kind h = rw (h.bounds, h.of) refl

bits_is : (c : Cell) (cs : List Cell) (kind : Simple) → IsElementary c kind → cell_bits c cs ≡ plain_bits kind
unfolding element_of
bits_is c cs kind h = rw (h.bounds, h.of) refl

-- where the next component may begin
next : (at : ℕ) → Bool → ℕ → ℕ
next at opens bits = capped_size (next_multiple at (align opens bits) + bits)

stepped_is : (at : ℕ) (c : Cell) (cs : List Cell) (kind : Simple) → IsElementary c kind → end_behind_cell 0 at c (cell_bits c cs) ≡ next at c.opens (plain_bits kind)
unfolding next
stepped_is at c cs kind h = rw (bits_is c cs kind h, h.level, h.sound, alignment_is c kind h) refl

same_name : (name : List ℕ) → bytes_eq name name ≡ true
same_name name = (bytes_eq-Decides name name).1 refl

-- the component of the first name, and of another one
first_component : (at place : ℕ) (c : Cell) (cs : List Cell) (kind : Simple) → IsElementary c kind → component_of_name 0 at place c.name (c ∷ cs) ≡ Some (record { place = place; offset = next_multiple at (align c.opens (plain_bits kind)) })
unfolding component_of_name
first_component at place c cs kind h = rw (h.level, same_name c.name, alignment_is c kind h) refl

later_component : (at place : ℕ) (name : List ℕ) (c : Cell) (cs : List Cell) (kind : Simple) → IsElementary c kind → bytes_eq name c.name ≡ false → component_of_name 0 at place name (c ∷ cs) ≡ component_of_name 0 (next at c.opens (plain_bits kind)) (place + 1) name cs
unfolding component_of_name
later_component at place name c cs kind h other = rw (sym (stepped_is at c cs kind h), h.level, other) refl

-- the offsets of some components among those from a place on
offsets_from : (at place : ℕ) → List Cell → List Cell → List ℕ
offsets_from at place all cells = map (λ c. offset_of_member (component_of_name 0 at place c.name all)) cells

offsets_behind : (at place : ℕ) (c : Cell) (rest cells : List Cell) (kind : Simple) → IsElementary c kind → AllByRecursion (λ d. bytes_eq d.name c.name ≡ false) cells → offsets_from at place (c ∷ rest) cells ≡ offsets_from (next at c.opens (plain_bits kind)) (place + 1) rest cells
unfolding offsets_from
offsets_behind at place c rest [] kind h others = refl
offsets_behind at place c rest (d ∷ ds) kind h (other, others) =
    let one = later_component at place d.name c rest kind h other in
    let more = offsets_behind at place c rest ds kind h others in
    λ i. offset_of_member (one i) ∷ more i

offsets_alike : (at place place' : ℕ) (ps vs qs ws : List Cell) → AreAlike ps qs → CellNamesDiffer ps → CellNamesDiffer qs → offsets_from at place (ps ++ vs) ps ≡ offsets_from at place' (qs ++ ws) qs
unfolding offsets_from
offsets_alike at place place' [] vs [] ws alike apart apart' = refl
offsets_alike at place place' [] vs (q ∷ qs) ws alike apart apart' = absurd alike
offsets_alike at place place' (p ∷ ps) vs [] ws alike apart apart' = absurd alike
offsets_alike at place place' (p ∷ ps) vs (q ∷ qs) ws (one, more) (apart, others) (apart', others') =
    let here = first_component at place p (ps ++ vs) one.kind one.first in
    let there = first_component at place' q (qs ++ ws) one.other one.second in
    let same : next_multiple at (align p.opens (plain_bits one.kind)) ≡ next_multiple at (align q.opens (plain_bits one.other)) = λ i. next_multiple at (align (one.opens i) (one.bits i)) in
    let head : offset_of_member (component_of_name 0 at place p.name (p ∷ ps ++ vs)) ≡ offset_of_member (component_of_name 0 at place' q.name (q ∷ qs ++ ws)) = ap offset_of_member here ∙ same ∙ sym (ap offset_of_member there) in
    let step : next at p.opens (plain_bits one.kind) ≡ next at q.opens (plain_bits one.other) = λ i. next at (one.opens i) (one.bits i) in
    let tail = offsets_behind at place p (ps ++ vs) ps one.kind one.first apart
    ∙ offsets_alike (next at p.opens (plain_bits one.kind)) (place + 1) (place' + 1) ps vs qs ws more others others'
    ∙ ap (λ n. offsets_from n (place' + 1) (qs ++ ws) qs) step
    ∙ sym (offsets_behind at place' q (qs ++ ws) qs one.other one.second apart') in
    λ i. head i ∷ tail i

pub offsets_stay : OffsetsStay
unfolding offsets_from
offsets_stay ps vs qs ws alike apart apart' = offsets_alike 0 0 0 ps vs qs ws alike apart apart'

-- ---- the length

end_first : (at : ℕ) (c : Cell) (cs : List Cell) (kind : Simple) → IsElementary c kind → components_end 0 at (c ∷ cs) ≡ components_end 0 (next at c.opens (plain_bits kind)) cs
unfolding components_end element_of
end_first at c cs kind h = rw (sym (stepped_is at c cs kind h), h.level) refl

end_alike : (at : ℕ) (ps qs : List Cell) → AreAlike ps qs → components_end 0 at ps ≡ components_end 0 at qs
unfolding components_end
end_alike at [] [] alike = refl
end_alike at [] (q ∷ qs) alike = absurd alike
end_alike at (p ∷ ps) [] alike = absurd alike
end_alike at (p ∷ ps) (q ∷ qs) (one, more) =
    let step : next at p.opens (plain_bits one.kind) ≡ next at q.opens (plain_bits one.other) = λ i. next at (one.opens i) (one.bits i) in
    end_first at p ps one.kind one.first ∙ end_alike (next at p.opens (plain_bits one.kind)) ps qs more ∙ ap (λ n. components_end 0 n qs) step ∙ sym (end_first at q qs one.other one.second)

end_append : (at : ℕ) (ps qs rest : List Cell) → AreAlike ps qs → components_end 0 at (qs ++ rest) ≡ components_end 0 (components_end 0 at qs) rest
unfolding components_end
end_append at [] [] rest alike = refl
end_append at [] (q ∷ qs) rest alike = absurd alike
end_append at (p ∷ ps) [] rest alike = absurd alike
end_append at (p ∷ ps) (q ∷ qs) rest (one, more) =
    end_first at q (qs ++ rest) one.other one.second ∙ end_append (next at q.opens (plain_bits one.other)) ps qs rest more ∙ ap (λ n. components_end 0 n rest) (sym (end_first at q qs one.other one.second))

even : (bytes : ℕ) → bytes % 2 ≡ 0 → next_multiple (8 * bytes) 16 ≡ 8 * bytes
unfolding next_multiple
even bytes h = omega (arith, h)

up_twice : (n bytes : ℕ) → bytes % 2 ≡ 0 → next_multiple (next_multiple n 16 + 8 * bytes) 16 ≡ 8 * bytes + next_multiple n 16
unfolding next_multiple
up_twice n bytes h = omega (arith, h)

size_uncapped : (n : ℕ) → n ≤ 131072 → capped_size n ≡ n
size_uncapped n h = grind (arith, nat_tests)

bytes_bits : (s : Cell) (bytes : ℕ) → IsBytes s bytes → bytes % 2 ≡ 0 → 8 * bytes ≤ 131072 → cell_bits s [] ≡ 8 * bytes
unfolding element_of
bytes_bits s bytes h is_even short =
    let whole : bytes * 8 ≡ 8 * bytes = omega arith in
    rw (h.array, h.of, h.size, whole, size_uncapped (8 * bytes) short, even bytes is_even, size_uncapped (8 * bytes) short) refl

end_bytes : (at : ℕ) (s : Cell) (bytes : ℕ) → IsBytes s bytes → components_end 0 at (s ∷ []) ≡ capped_size (next_multiple at 16 + cell_bits s [])
unfolding components_end element_of
end_bytes at s bytes h = rw (h.level, h.sound, h.opens) refl

pub length_stays : LengthStays
unfolding structure_bits
length_stays ps vs qs s bytes alike some total is_even is short =
    let from : components_end 0 0 ps ≡ components_end 0 0 qs = end_alike 0 ps qs alike in
    let whole : structure_bits (ps ++ vs) ≡ 8 * bytes + next_multiple (components_end 0 0 qs) 16 = total ∙ ap (λ n. 8 * bytes + next_multiple n 16) from in
    let sum : 8 * bytes + next_multiple (components_end 0 0 qs) 16 ≤ 131072 = subst (λ n. n ≤ 131072) whole short in
    let ends : components_end 0 0 (qs ++ s ∷ []) ≡ next_multiple (components_end 0 0 qs) 16 + 8 * bytes =
    end_append 0 ps qs (s ∷ []) alike ∙ end_bytes (components_end 0 0 qs) s bytes is
    ∙ ap (λ n. capped_size (next_multiple (components_end 0 0 qs) 16 + n)) (bytes_bits s bytes is is_even (omega (arith, sum)))
    ∙ size_uncapped (next_multiple (components_end 0 0 qs) 16 + 8 * bytes) (omega (arith, sum)) in
    ap (λ n. capped_size (next_multiple n 16)) ends ∙ ap capped_size (up_twice (components_end 0 0 qs) bytes is_even) ∙ size_uncapped (8 * bytes + next_multiple (components_end 0 0 qs) 16) sum ∙ sym whole
