-- What a map from names to places knows when one more name is added.
use Rattle.std.proofs.Common.{ℕ, ◌≡◌, List, [], ◌∷◌, ◌++◌, Option, Some, None, Bool, true, false, cond, sym, ◌∙◌, ap, subst, arith, length, map, if◌then◌else◌, Vec, ⊎_elim}
use Rattle.std.proofs.lemmas.List.{map-append, length-map}
use Rattle.std.specs.Option.{option_or, IsSome}
use Rattle.std.specs.Str.{bytes_eq}
use Rattle.std.specs.Map.{lookup, IsKeyTest, AreApart, KeepsOthers}
use Rattle.std.specs.BTreeMap as tree
use Rattle.std.specs.BTreeMap.{BTreeMap}
use Rattle.std.specs.Ordering.{is_eq, nat_cmp}
use Rattle.std.specs.Cmp.{eq_by_cmp_equiv}
use Rattle.std.specs.Cmp.Lexicographic.{slice_cmp}
use Rattle.std.proofs.lemmas.Cmp.{nat_list_cmp_total, nat_list_eq_equiv}
use Rattle.std.proofs.lemmas.Map.Text.{is_eq-slice_cmp}
use Rattle.std.proofs.lemmas.Slice.Eq.{bytes_eq-Decides}
use Rattle.std.proofs.lemmas.Bool.{cases_Bool, cond-true, cond-false}
use Rattle.stl_symbols.specs.Names.{name_place}

-- a name behind the others
pub place_more : (q : List ℕ) (ns : List (List ℕ)) (n : List ℕ) → name_place q (ns ++ n ∷ []) ≡ option_or (name_place q ns) (if bytes_eq q n then Some (length ns) else None)
place_more q [] n = grind arith
place_more q (m ∷ ns) n = let later = place_more q ns n in grind arith

other_entries : {K X : Type 0} (eq : K → K → Bool) (test : K → Bool) (old new : List (K × X)) → KeepsOthers eq test old new → (other : K → Bool) → IsKeyTest eq other → AreApart test other → lookup other new ≡ lookup other old
unfolding KeepsOthers
other_entries eq test old new h = h

bytes_symmetric : (xs ys : List ℕ) → bytes_eq xs ys ≡ bytes_eq ys xs
bytes_symmetric xs ys = nat_list_eq_equiv.symm xs ys

apart_in_order : (bs cs ks : List ℕ) → bytes_eq bs cs ≡ false → is_eq (slice_cmp nat_cmp bs ks) ≡ true → is_eq (slice_cmp nat_cmp cs ks) ≡ false
apart_in_order bs cs ks n y =
    let same : bs ≡ ks = (bytes_eq-Decides bs ks).0 (sym (is_eq-slice_cmp bs ks) ∙ y) in
    is_eq-slice_cmp cs ks ∙ subst (λ (l : List ℕ). bytes_eq cs l ≡ false) same (bytes_symmetric cs bs ∙ n)

-- a map at names, after a change at one
pub vec_updates : {Y : Type 0} (bs : List ℕ) → {X : Type 0} (m n : BTreeMap (Vec ℕ Y) X) (w : Option X) →
    tree.UpdatesBy (λ x y. slice_cmp nat_cmp x.items y.items) (λ k. slice_cmp nat_cmp bs k.items) m n w →
    (cs : List ℕ) → tree.get_by (λ k. slice_cmp nat_cmp cs k.items) n ≡ cond (bytes_eq bs cs) w (tree.get_by (λ k. slice_cmp nat_cmp cs k.items) m)
vec_updates bs m n w h cs =
    ⊎_elim
    (λ y. subst (λ (l : List ℕ). tree.get_by (λ k. slice_cmp nat_cmp l k.items) n ≡ w) ((bytes_eq-Decides bs cs).0 y) h.1 ∙ sym (cond-true (bytes_eq bs cs) w (tree.get_by (λ k. slice_cmp nat_cmp cs k.items) m) y))
    (λ d. other_entries _ _ _ _ h.3 _ (λ x y. (eq_by_cmp_equiv nat_list_cmp_total).congr cs x.items y.items) (λ k. apart_in_order bs cs k.items d) ∙ sym (cond-false (bytes_eq bs cs) w (tree.get_by (λ k. slice_cmp nat_cmp cs k.items) m) d))
    (cases_Bool (bytes_eq bs cs))

-- the first place of each name, with a name behind that was there
pub place_known : (ns : List (List ℕ)) (n : List ℕ) → IsSome (name_place n ns) → (q : List ℕ) → name_place q ns ≡ name_place q (ns ++ n ∷ [])
place_known ns n known q =
    let more = place_more q ns n in
    ⊎_elim
    (λ y. let same = (bytes_eq-Decides q n).0 y in let here : IsSome (name_place q ns) = subst (λ (l : List ℕ). IsSome (name_place l ns)) (sym same) known in grind (arith, here, more))
    (λ d. grind (arith, more, d))
    (cases_Bool (bytes_eq q n))

-- and with a new one
pub place_new : (ns : List (List ℕ)) (n : List ℕ) → name_place n ns ≡ None → (q : List ℕ) → cond (bytes_eq n q) (Some (length ns)) (name_place q ns) ≡ name_place q (ns ++ n ∷ [])
place_new ns n unknown q =
    let more = place_more q ns n in
    let turned = bytes_symmetric n q in
    ⊎_elim
    (λ y. let same = (bytes_eq-Decides q n).0 y in let none : name_place q ns ≡ None = subst (λ (l : List ℕ). name_place l ns ≡ None) (sym same) unknown in grind (arith, none, more, turned, y))
    (λ d. grind (arith, more, d, turned))
    (cases_Bool (bytes_eq q n))

pub known_names : {Y : Type 0} (before : List ℕ → Option ℕ) (old new : List (Vec ℕ Y)) (own : Vec ℕ Y) (name : List ℕ) →
    ((q : List ℕ) → before q ≡ name_place q (map (λ v. v.items) old)) → IsSome (before name) → own.items ≡ name → new ≡ old ++ own ∷ [] →
    (q : List ℕ) → before q ≡ name_place q (map (λ v. v.items) new)
known_names before old new own name is_index known own_is new_is q =
    is_index q ∙ place_known (map (λ v. v.items) old) name (subst (λ (o : Option ℕ). IsSome o) (is_index name) known) q
    ∙ ap (λ (l : List (List ℕ)). name_place q l) (sym (ap (λ (l : List (Vec ℕ _)). map (λ v. v.items) l) new_is ∙ map-append (λ v. v.items) old (own ∷ []) ∙ ap (λ (n : List ℕ). map (λ v. v.items) old ++ n ∷ []) own_is))

pub new_names : {Y : Type 0} (before after : List ℕ → Option ℕ) (old new : List (Vec ℕ Y)) (own : Vec ℕ Y) (name : List ℕ) →
    ((q : List ℕ) → before q ≡ name_place q (map (λ v. v.items) old)) → before name ≡ None → own.items ≡ name → new ≡ old ++ own ∷ [] →
    ((q : List ℕ) → after q ≡ cond (bytes_eq name q) (Some (length old)) (before q)) →
    (q : List ℕ) → after q ≡ name_place q (map (λ v. v.items) new)
new_names before after old new own name is_index unknown own_is new_is updates q =
    updates q ∙ ap (λ (o : Option ℕ). cond (bytes_eq name q) (Some (length old)) o) (is_index q)
    ∙ ap (λ (n : ℕ). cond (bytes_eq name q) (Some n) (name_place q (map (λ v. v.items) old))) (sym (length-map old (λ v. v.items)))
    ∙ place_new (map (λ v. v.items) old) name (sym (is_index name) ∙ unknown) q
    ∙ ap (λ (l : List (List ℕ)). name_place q l) (sym (ap (λ (l : List (Vec ℕ _)). map (λ v. v.items) l) new_is ∙ map-append (λ v. v.items) old (own ∷ []) ∙ ap (λ (n : List ℕ). map (λ v. v.items) old ++ n ∷ []) own_is))
