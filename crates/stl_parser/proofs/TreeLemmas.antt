-- The clauses of blocks and of the parts of a block follow one another in the list of all clauses.
use Rattle.std.proofs.Common.{◌≡◌, List, [], ◌∷◌, ◌++◌, sym, ◌∙◌, ap}
use Rattle.std.proofs.lemmas.Grind.{flat_map-append}
use Rattle.std.proofs.lemmas.List.{append_assoc, append-nil}
use Rattle.std.specs.List.{flat_map}

pub flat_map_last : {X C : Type 0} (f : X → List C) (xs : List X) (x : X) → flat_map f (xs ++ x ∷ []) ≡ flat_map f xs ++ f x
flat_map_last f xs x = flat_map-append f xs (x ∷ []) ∙ ap (λ ys. flat_map f xs ++ ys) (append-nil (f x))

-- the parts of a block, one behind the other
pub block_is_spelled : {C : Type 0} (h : C) (p s t b : List C) (e : C) (r0 r1 r2 r3 r4 r5 : List C) →
    r0 ≡ p ++ r1 → r1 ≡ s ++ r2 → r2 ≡ t ++ r3 → r3 ≡ b ++ r4 → r4 ≡ e ∷ r5 →
    h ∷ r0 ≡ (h ∷ (p ++ (s ++ (t ++ (b ++ e ∷ []))))) ++ r5
block_is_spelled h p s t b e r0 r1 r2 r3 r4 r5 e0 e1 e2 e3 e4 =
    let x3 : r3 ≡ (b ++ e ∷ []) ++ r5 = e3 ∙ ap (λ y. b ++ y) e4 ∙ sym (append_assoc b (e ∷ []) r5) in
    let x2 : r2 ≡ (t ++ (b ++ e ∷ [])) ++ r5 = e2 ∙ ap (λ y. t ++ y) x3 ∙ sym (append_assoc t (b ++ e ∷ []) r5) in
    let x1 : r1 ≡ (s ++ (t ++ (b ++ e ∷ []))) ++ r5 = e1 ∙ ap (λ y. s ++ y) x2 ∙ sym (append_assoc s (t ++ (b ++ e ∷ [])) r5) in
    let x0 : r0 ≡ (p ++ (s ++ (t ++ (b ++ e ∷ [])))) ++ r5 =
    e0 ∙ ap (λ y. p ++ y) x1 ∙ sym (append_assoc p (s ++ (t ++ (b ++ e ∷ []))) r5) in
    ap (λ y. h ∷ y) x0
