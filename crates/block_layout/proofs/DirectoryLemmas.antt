-- The first places of numbers among blocks, kept as the blocks are gone through.
use Rattle.std.proofs.Common.{ℕ, ◌≡◌, ◌<◌, nat_eq, nat_lt, List, [], ◌∷◌, ◌++◌, Option, Some, None, true, false, cond, refl, sym, ◌∙◌, ap, subst, arith, length, if◌then◌else◌, ⊎_elim}
use Rattle.std.specs.Option.{option_or, IsSome}
use Rattle.std.specs.Ordering.{is_eq, nat_cmp}
use Rattle.std.specs.Cmp.{nat_cmp_is}
use Rattle.std.specs.declared.cmp.Ordering.{Ordering}
use Rattle.std.specs.declared.cmp.Ordering.TheVariants.{Less, Equal, Greater}
use Rattle.std.proofs.lemmas.Bool.{cases_Bool}
use Rattle.std.proofs.lemmas.Bool.Decides.{nat_tests}
use Rattle.plc_base.specs.Kinds.{is_same_kind}
use Rattle.plc_base.specs.declared.blocks.BlockId.{BlockId}
use Rattle.block_layout.specs.Blocks.{place_of_block, is_id}
use Rattle.block_layout.specs.BlockNumbers.{block_has_number, numbered_place, number_of_kind, numbers_of_kind}

order_apart : (n q : ℕ) → nat_eq q n ≡ false → is_eq (nat_cmp n q) ≡ false
order_apart n q d =
    ⊎_elim
    (λ y. let below : n < q = grind (arith, nat_tests) in sym (ap (λ (o : Ordering). is_eq o) (nat_cmp_is n q Less below)))
    (λ z. let above : q < n = grind (arith, nat_tests) in sym (ap (λ (o : Ordering). is_eq o) (nat_cmp_is n q Greater above)))
    (cases_Bool (nat_lt n q))

one_more : (q : ℕ) (ns : List (Option ℕ)) (m : Option ℕ) →
    numbered_place q (ns ++ m ∷ []) ≡ option_or (numbered_place q ns) (if block_has_number q m then Some (length ns) else None)
one_more q [] m = grind arith
one_more q (n ∷ ns) m = let later = one_more q ns m in grind arith

nothing_more : (o : Option ℕ) → option_or o None ≡ o
nothing_more None = refl
nothing_more (Some n) = refl

pub place_skipped : (before : ℕ → Option ℕ) (ns now : List (Option ℕ)) → ((q : ℕ) → before q ≡ numbered_place q ns) → now ≡ ns ++ None ∷ [] → (q : ℕ) → before q ≡ numbered_place q now
place_skipped before ns now is_index is_now q =
    is_index q ∙ sym (nothing_more (numbered_place q ns)) ∙ sym (one_more q ns None) ∙ ap (λ (l : List (Option ℕ)). numbered_place q l) (sym is_now)

pub number_known : (before : ℕ → Option ℕ) (ns now : List (Option ℕ)) (n : ℕ) → ((q : ℕ) → before q ≡ numbered_place q ns) → IsSome (before n) → now ≡ ns ++ Some n ∷ [] → (q : ℕ) → before q ≡ numbered_place q now
number_known before ns now n is_index known is_now q =
    let more = one_more q ns (Some n) in
    is_index q ∙ ⊎_elim
    (λ y.
    let same : n ≡ q = grind (arith, nat_tests) in
    let here : IsSome (numbered_place q ns) = subst (λ (m : ℕ). IsSome (numbered_place m ns)) same (subst (λ (o : Option ℕ). IsSome o) (is_index n) known) in
    grind (arith, here, more))
    (λ d. grind (arith, more, d))
    (cases_Bool (nat_eq q n)) ∙ ap (λ (l : List (Option ℕ)). numbered_place q l) (sym is_now)

pub number_new : (before after : ℕ → Option ℕ) (ns now : List (Option ℕ)) (n : ℕ) → ((q : ℕ) → before q ≡ numbered_place q ns) → before n ≡ None → now ≡ ns ++ Some n ∷ [] →
    ((q : ℕ) → after q ≡ cond (is_eq (nat_cmp n q)) (Some (length ns)) (before q)) → (q : ℕ) → after q ≡ numbered_place q now
number_new before after ns now n is_index unknown is_now updates q =
    let more = one_more q ns (Some n) in
    let here = is_index q in
    let at_n : numbered_place n ns ≡ None = sym (is_index n) ∙ unknown in
    updates q ∙ ⊎_elim
    (λ y.
    let same : n ≡ q = grind (arith, nat_tests) in
    let none : numbered_place q ns ≡ None = subst (λ (m : ℕ). numbered_place m ns ≡ None) same at_n in
    let tie : is_eq (nat_cmp n q) ≡ true = sym (ap (λ (o : Ordering). is_eq o) (nat_cmp_is n q Equal same)) in
    grind (arith, none, more, y, tie))
    (λ d.
    let apart : is_eq (nat_cmp n q) ≡ false = order_apart n q d in
    grind (arith, more, d, apart, here))
    (cases_Bool (nat_eq q n)) ∙ ap (λ (l : List (Option ℕ)). numbered_place q l) (sym is_now)

same_number : (id : BlockId) (other : Option BlockId) → block_has_number id.number (number_of_kind id.kind other) ≡ is_id id other
same_number id None = refl
same_number id (Some other) =
    ⊎_elim
    (λ y. rw y refl)
    (λ n. rw n refl)
    (cases_Bool (is_same_kind id.kind other.kind))

pub place_by_kind : (id : BlockId) (ids : List (Option BlockId)) → numbered_place id.number (numbers_of_kind id.kind ids) ≡ place_of_block id ids
place_by_kind id [] = refl
place_by_kind id (i ∷ is) = let here = same_number id i in let later = place_by_kind id is in rw here (rw later refl)
