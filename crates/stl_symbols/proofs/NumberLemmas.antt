-- What a map from numbers to places knows when one more number is added.
use Rattle.std.proofs.Common.{ℕ, ◌≡◌, ◌<◌, nat_eq, nat_lt, List, [], ◌∷◌, ◌++◌, Option, Some, None, true, false, cond, sym, ◌∙◌, ap, subst, arith, length, if◌then◌else◌, ⊎_elim}
use Rattle.std.specs.Option.{option_or, IsSome}
use Rattle.std.specs.Ordering.{is_eq, nat_cmp}
use Rattle.std.specs.Cmp.{nat_cmp_is}
use Rattle.std.specs.declared.cmp.Ordering.{Ordering}
use Rattle.std.specs.declared.cmp.Ordering.TheVariants.{Less, Equal, Greater}
use Rattle.std.proofs.lemmas.Bool.{cases_Bool}
use Rattle.std.proofs.lemmas.Bool.Decides.{nat_tests}
use Rattle.stl_symbols.specs.Numbers.{number_place}

order_apart : (n q : ℕ) → nat_eq q n ≡ false → is_eq (nat_cmp n q) ≡ false
order_apart n q d =
    ⊎_elim
    (λ y. let below : n < q = grind (arith, nat_tests) in sym (ap (λ (o : Ordering). is_eq o) (nat_cmp_is n q Less below)))
    (λ z. let above : q < n = grind (arith, nat_tests) in sym (ap (λ (o : Ordering). is_eq o) (nat_cmp_is n q Greater above)))
    (cases_Bool (nat_lt n q))

number_more : (q : ℕ) (ns : List ℕ) (n : ℕ) → number_place q (ns ++ n ∷ []) ≡ option_or (number_place q ns) (if nat_eq q n then Some (length ns) else None)
number_more q [] n = grind arith
number_more q (m ∷ ns) n = let later = number_more q ns n in grind arith

pub number_known : (before : ℕ → Option ℕ) (ns now : List ℕ) (n : ℕ) → ((q : ℕ) → before q ≡ number_place q ns) → IsSome (before n) → now ≡ ns ++ n ∷ [] → (q : ℕ) → before q ≡ number_place q now
number_known before ns now n is_index known is_now q =
    let more = number_more q ns n in
    is_index q ∙ ⊎_elim
    (λ y.
    let same : n ≡ q = grind (arith, nat_tests) in
    let here : IsSome (number_place q ns) = subst (λ (m : ℕ). IsSome (number_place m ns)) same (subst (λ (o : Option ℕ). IsSome o) (is_index n) known) in
    grind (arith, here, more))
    (λ d. grind (arith, more, d))
    (cases_Bool (nat_eq q n)) ∙ ap (λ (l : List ℕ). number_place q l) (sym is_now)

pub number_new : (before after : ℕ → Option ℕ) (ns now : List ℕ) (n : ℕ) → ((q : ℕ) → before q ≡ number_place q ns) → before n ≡ None → now ≡ ns ++ n ∷ [] →
    ((q : ℕ) → after q ≡ cond (is_eq (nat_cmp n q)) (Some (length ns)) (before q)) → (q : ℕ) → after q ≡ number_place q now
number_new before after ns now n is_index unknown is_now updates q =
    let more = number_more q ns n in
    let here = is_index q in
    let at_n : number_place n ns ≡ None = sym (is_index n) ∙ unknown in
    updates q ∙ ⊎_elim
    (λ y.
    let same : n ≡ q = grind (arith, nat_tests) in
    let none : number_place q ns ≡ None = subst (λ (m : ℕ). number_place m ns ≡ None) same at_n in
    let tie : is_eq (nat_cmp n q) ≡ true = sym (ap (λ (o : Ordering). is_eq o) (nat_cmp_is n q Equal same)) in
    grind (arith, none, more, y, tie))
    (λ d.
    let apart : is_eq (nat_cmp n q) ≡ false = order_apart n q d in
    grind (arith, more, d, apart, here))
    (cases_Bool (nat_eq q n)) ∙ ap (λ (l : List ℕ). number_place q l) (sym is_now)
