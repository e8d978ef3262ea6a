-- A called block of which a layer says most.
use Rattle.std.proofs.Common.{◌≡◌, ◌⊎◌, inl, inr, ℕ, ◌<◌, ◌≤◌, Bool, true, false, List, [], ◌∷◌, Option, Some, None, refl, sym, ap, ◌∙◌, subst, arith, if◌then◌else◌}
use Rattle.std.specs.Prelude.{max, nat_lt}
use Rattle.std.proofs.lemmas.Bool.Decides.{nat_tests}
use Rattle.plc_base.specs.declared.blocks.BlockId.{BlockId}
use Rattle.flat_code.specs.Ops.{OpData}
use Rattle.stack_bound.specs.Calls.{CallsIn, callee_of_op}
use Rattle.stack_bound.specs.Deepest.{IsMostCalled, best_callee_from, better_callee}
use Rattle.stack_bound.specs.Layers.{most_called, measure_in_layer}
use Rattle.stack_bound.specs.declared.certificates.Bound.{Bound}
use Rattle.stack_bound.specs.declared.deepest.Best.{Best}
use Rattle.stack_bound.specs.declared.measures.Measure.{Measure}

-- what is best is called by ops, or none is
abbrev IsBestOfOps : Measure → List Bound → List OpData → Best → Type 0
IsBestOfOps m layer ops best =
    ((called : BlockId) → best.block ≡ Some called
    → CallsIn ops called × (measure_in_layer m layer (Some called) ≡ best.most) × (0 < best.most))
    × (best.block ≡ None → best.most ≡ 0)

less_of : (a b : ℕ) → nat_lt a b ≡ true → a < b
less_of a b is = grind (arith, nat_tests)

more_of : (a b : ℕ) → nat_lt a b ≡ false → b ≤ a
more_of a b is = grind (arith, nat_tests)

positive : (a b : ℕ) → a < b → 0 < b
positive a b less = omega (arith, less)

nothing_in : (m : Measure) (layer : List Bound) (a : ℕ) (callee : Option BlockId) → a < measure_in_layer m layer callee
    → callee ≡ None → ⊥
nothing_in m layer a callee less is =
    absurd (omega (arith, subst (λ (o : Option BlockId). a < measure_in_layer m layer o) is less))

max_with : (a b c : ℕ) → a < b → max b c ≡ max a (max b c)
max_with a b c less = omega (arith, less)

max_without : (a b c : ℕ) → b ≤ a → max a c ≡ max a (max b c)
max_without a b c more = omega (arith, more)

-- the ops before, among which is the best so far, and those to come
most_so : (m : Measure) (layer : List Bound) (best : Best) (ops : List OpData)
    → (best_callee_from m layer best ops).most ≡ max best.most (most_called m layer ops)
most_so m layer best [] = omega arith
most_so m layer best (op ∷ ops) =
    most_so m layer (better_callee m layer best op) ops
    ∙ by (nat_lt best.most (measure_in_layer m layer (callee_of_op op))) refl
  where
    by : (test : Bool) → nat_lt best.most (measure_in_layer m layer (callee_of_op op)) ≡ test
        → max (if test then record { block = callee_of_op op; most = measure_in_layer m layer (callee_of_op op) } else best).most
        (most_called m layer ops)
        ≡ max best.most (max (measure_in_layer m layer (callee_of_op op)) (most_called m layer ops))
    by true is =
        max_with best.most (measure_in_layer m layer (callee_of_op op)) (most_called m layer ops)
        (less_of best.most (measure_in_layer m layer (callee_of_op op)) is)
    by false is =
        max_without best.most (measure_in_layer m layer (callee_of_op op)) (most_called m layer ops)
        (more_of best.most (measure_in_layer m layer (callee_of_op op)) is)

-- the best of ops is called by one of them, or it is the one from before
abbrev IsBestCallee : Measure → List Bound → Best → List OpData → Best → Type 0
IsBestCallee m layer before ops best =
    (best ≡ before)
    ⊎ ((called : BlockId) × (best.block ≡ Some called) × CallsIn ops called
    × (measure_in_layer m layer (Some called) ≡ best.most) × (0 < best.most))

best_is : (m : Measure) (layer : List Bound) (best : Best) (ops : List OpData)
    → IsBestCallee m layer best ops (best_callee_from m layer best ops)
best_is m layer best [] = inl refl
best_is m layer best (op ∷ ops) =
    by (nat_lt best.most (measure_in_layer m layer (callee_of_op op))) refl
    (best_is m layer (better_callee m layer best op) ops)
  where
    later : (before r : Best) → (r ≡ before) ⊎ ((called : BlockId) × (r.block ≡ Some called) × CallsIn ops called × (measure_in_layer m layer (Some called) ≡ r.most) × (0 < r.most))
        → IsBestCallee m layer before (op ∷ ops) r
    later before r (inl same) = inl same
    later before r (inr found) = inr (found.0, found.1, inr found.2, found.3, found.4)

    here : (called : Option BlockId) → callee_of_op op ≡ called → best.most < measure_in_layer m layer called
        → (r : Best) → r ≡ record { block = callee_of_op op; most = measure_in_layer m layer (callee_of_op op) }
        → IsBestCallee m layer best (op ∷ ops) r
    here None is less r same = absurd (omega (arith, less))
    here (Some called) is less r same =
        inr (
          called,
          ap (λ (b : Best). b.block) same ∙ is,
          inl is,
          ap (λ (o : Option BlockId). measure_in_layer m layer o) (sym is) ∙ sym (ap (λ (b : Best). b.most) same),
          subst (λ (n : ℕ). 0 < n)
              (ap (λ (o : Option BlockId). measure_in_layer m layer o) (sym is) ∙ sym (ap (λ (b : Best). b.most) same))
              (positive best.most (measure_in_layer m layer (Some called)) less),
        )

    from : (r : Best) → nat_lt best.most (measure_in_layer m layer (callee_of_op op)) ≡ true
        → IsBestCallee m layer (record { block = callee_of_op op; most = measure_in_layer m layer (callee_of_op op) }) ops r
        → IsBestCallee m layer best (op ∷ ops) r
    from r is (inl same) =
        here (callee_of_op op) refl (less_of best.most (measure_in_layer m layer (callee_of_op op)) is) r same
    from r is (inr found) = inr (found.0, found.1, inr found.2, found.3, found.4)

    by : (test : Bool) → nat_lt best.most (measure_in_layer m layer (callee_of_op op)) ≡ test
        → IsBestCallee m layer (if test then record { block = callee_of_op op; most = measure_in_layer m layer (callee_of_op op) } else best) ops
        (best_callee_from m layer (better_callee m layer best op) ops)
        → IsBestCallee m layer best (op ∷ ops) (best_callee_from m layer (better_callee m layer best op) ops)
    by true is of = from (best_callee_from m layer (better_callee m layer best op) ops) is of
    by false is of = later best (best_callee_from m layer (better_callee m layer best op) ops) of

nothing : Best
nothing = record { block = None; most = 0 }

pub best_called : (m : Measure) (layer : List Bound) (ops : List OpData)
    → IsMostCalled m layer ops (best_callee_from m layer (record { block = None; most = 0 }) ops).block
best_called m layer ops =
    by (best_callee_from m layer (record { block = None; most = 0 }) ops) (best_is m layer (record { block = None; most = 0 }) ops)
    (most_so m layer (record { block = None; most = 0 }) ops)
  where
    by : (r : Best) → IsBestCallee m layer (record { block = None; most = 0 }) ops r
        → r.most ≡ max 0 (most_called m layer ops) → IsMostCalled m layer ops r.block
    by r (inl same) most =
        subst (λ (o : Option BlockId). IsMostCalled m layer ops o) (sym (ap (λ (b : Best). b.block) same))
        (nil (most_called m layer ops) r.most (ap (λ (b : Best). b.most) same) most)
      where
        nil : (a b : ℕ) → b ≡ 0 → b ≡ max 0 a → a ≡ 0
        nil a b zero is = omega (arith, zero, is)
    by r (inr found) most =
        subst (λ (o : Option BlockId). IsMostCalled m layer ops o) (sym found.1)
        (found.2, found.3 ∙ most_is, subst (λ (n : ℕ). 0 < n) most_is found.4)
      where
        most_is : r.most ≡ most_called m layer ops
        most_is = omega (arith, most)
