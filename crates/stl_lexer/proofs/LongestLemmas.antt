-- The longest of two forms.
use Rattle.std.proofs.Common.{◌≡◌, ℕ, ◌||◌, ◌⊎◌, List, take, drop, Option, None, Some, inl, inr, subst, arith}
use Rattle.std.proofs.lemmas.Bool.{cases_lt, or_cases, or_left, or_right}
use Rattle.stl_lexer.specs.Longest.{Form, IsFormAt, FindsLongest, longer_of}

-- forms that say the same have the same longest
pub same_form : (F G : Form) (text : List ℕ) (found : Option ℕ) → ((s after : List ℕ) → F s after ≡ G s after) → FindsLongest F text found → FindsLongest G text found
same_form F G text found same h =
    let forms : F ≡ G = λ i s after. same s after i in
    subst (λ H. FindsLongest H text found) forms h

abbrev either : Form → Form → Form
either F G s after = F s after || G s after

by_left : (F G : Form) (text : List ℕ) (n : ℕ) → IsFormAt F text n → IsFormAt (either F G) text n
by_left F G text n at = record { some = at.some; within = at.within; fits = or_left (F (take n text) (drop n text)) (G (take n text) (drop n text)) at.fits }

by_right : (F G : Form) (text : List ℕ) (n : ℕ) → IsFormAt G text n → IsFormAt (either F G) text n
by_right F G text n at = record { some = at.some; within = at.within; fits = or_right (F (take n text) (drop n text)) (G (take n text) (drop n text)) at.fits }

by_which : (F G : Form) (text : List ℕ) (n : ℕ) → IsFormAt (either F G) text n → IsFormAt F text n ⊎ IsFormAt G text n
by_which F G text n at = elim (or_cases (F (take n text) (drop n text)) (G (take n text) (drop n text)) at.fits) [
  | inl e ↦ inl (record { some = at.some; within = at.within; fits = e })
  | inr e ↦ inr (record { some = at.some; within = at.within; fits = e })
]

-- the longer of the longest of two forms is the longest of either
pub either_longest : (F G : Form) (text : List ℕ) (a b : Option ℕ) → FindsLongest F text a → FindsLongest G text b → FindsLongest (λ s after. F s after || G s after) text (longer_of a b)
either_longest F G text None None f g = λ n at. elim (by_which F G text n at) [ inl x ↦ f n x | inr y ↦ g n y ]
either_longest F G text None (Some b) f g = record {
  fits = by_right F G text b g.fits;
  longest = λ m at. elim (by_which F G text m at) [ inl x ↦ absurd (f m x) | inr y ↦ g.longest m y ];
}
either_longest F G text (Some a) None f g = record {
  fits = by_left F G text a f.fits;
  longest = λ m at. elim (by_which F G text m at) [ inl x ↦ f.longest m x | inr y ↦ absurd (g m y) ];
}
either_longest F G text (Some a) (Some b) f g = record {
  fits = elim (cases_lt a b) [
    | inl lt ↦ subst (IsFormAt (either F G) text) (omega arith) (by_right F G text b g.fits)
    | inr le ↦ subst (IsFormAt (either F G) text) (omega arith) (by_left F G text a f.fits)
  ];
  longest = λ m at. elim (by_which F G text m at) [ inl x ↦ omega (arith, f.longest m x) | inr y ↦ omega (arith, g.longest m y) ];
}
