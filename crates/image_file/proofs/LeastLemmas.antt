-- The fault that one pass keeps is the least.
use Rattle.std.proofs.Common.{◌⊎◌, ◌≡◌, ℕ, Bool, true, false, cond, eqb, ltb, ◌&&◌, ◌||◌, List, [], ◌∷◌, Some, None, refl, sym, ap, subst, ◌∙◌, arith, inl, inr}
use Rattle.std.proofs.lemmas.Bool.{ltb-true, ltb-false, eqb-true, eqb-false}
use Rattle.std.proofs.lemmas.Option.{same_Some}
use Rattle.image_file.specs.declared.faults.LoadFault.{LoadFault}
use Rattle.image_file.specs.Least.{is_fault_less, fault_of_pair, with_faults, IsUpTo, IsLeastFault, IsFaultAmong}

not_less : (f : ℕ × ℕ) (g : LoadFault) (b c d : Bool) → ltb f.0 g.at ≡ b → eqb f.0 g.at ≡ c → ltb f.1 g.code ≡ d → (b || c && d) ≡ false → IsUpTo g f
not_less f g true c d p q r e = absurd cc
not_less f g false true true p q r e = absurd cc
not_less f g false true false p q r e = inr (sym (eqb-true f.0 g.at q), ltb-false f.1 g.code r)
not_less f g false false d p q r e = inl (let le = ltb-false f.0 g.at p in let ne = eqb-false f.0 g.at q in grind (arith, le, ne))

less : (f : ℕ × ℕ) (g : LoadFault) (b c d : Bool) → ltb f.0 g.at ≡ b → eqb f.0 g.at ≡ c → ltb f.1 g.code ≡ d → (b || c && d) ≡ true → IsUpTo (fault_of_pair f) (g.at, g.code)
less f g true c d p q r e = inl (ltb-true f.0 g.at p)
less f g false true true p q r e = inr (eqb-true f.0 g.at q, let lt = ltb-true f.1 g.code r in omega arith)
less f g false true false p q r e = absurd cc
less f g false false d p q r e = absurd cc

pub trans : (f : LoadFault) (g h : ℕ × ℕ) → IsUpTo f g → IsUpTo (fault_of_pair g) h → IsUpTo f h
trans f g h (inl a) (inl b) = inl (omega (arith, a, b))
trans f g h (inl a) (inr b) = inl (omega (arith, a, b.0))
trans f g h (inr a) (inl b) = inl (omega (arith, a.0, b))
trans f g h (inr a) (inr b) = inr (a.0 ∙ b.0, omega (arith, a.1, b.1))

same : (f : ℕ × ℕ) → IsUpTo (fault_of_pair f) f
same f = inr (refl, omega arith)

-- what one pass keeps of a fault so far and of those to come
record Keeps (g f : LoadFault) (fs : List (ℕ × ℕ)) : Type 0 where
  one : (g ≡ f) ⊎ IsFaultAmong (f.at, f.code) fs
  old : IsUpTo f (g.at, g.code)
  others : (h : ℕ × ℕ) → IsFaultAmong h fs → IsUpTo f h

by_test : (x : ℕ × ℕ) (g f : LoadFault) (fs : List (ℕ × ℕ)) → ((g : LoadFault) → with_faults (Some g) fs ≡ Some f → Keeps g f fs) → (b : Bool) → is_fault_less x g ≡ b → with_faults (cond b (Some (fault_of_pair x)) (Some g)) fs ≡ Some f → Keeps g f (x ∷ fs)
by_test x g f fs inner true t h =
    let k = inner (fault_of_pair x) h in
    record {
      one = inr (elim k.one as (λ _. (x ≡ (f.at, f.code)) ⊎ IsFaultAmong (f.at, f.code) fs) [ inl p ↦ inl (ap (λ (z : LoadFault). let y : ℕ × ℕ = (z.at, z.code) in y) p) | inr q ↦ inr q ]);
      old = trans f x (g.at, g.code) k.old (less x g (ltb x.0 g.at) (eqb x.0 g.at) (ltb x.1 g.code) refl refl refl t);
      others = λ y among. elim among as (λ _. IsUpTo f y) [ inl here ↦ subst (λ (z : ℕ × ℕ). IsUpTo f z) here k.old | inr there ↦ k.others y there ];
    }
by_test x g f fs inner false t h =
    let k = inner g h in
    let gx : IsUpTo g x = not_less x g (ltb x.0 g.at) (eqb x.0 g.at) (ltb x.1 g.code) refl refl refl t in
    record {
      one = elim k.one as (λ _. (g ≡ f) ⊎ IsFaultAmong (f.at, f.code) (x ∷ fs)) [ inl p ↦ inl p | inr q ↦ inr (inr q) ];
      old = k.old;
      others = λ y among. elim among as (λ _. IsUpTo f y) [ inl here ↦ subst (λ (z : ℕ × ℕ). IsUpTo f z) here (trans f (g.at, g.code) x k.old gx) | inr there ↦ k.others y there ];
    }

keeps : (fs : List (ℕ × ℕ)) (g f : LoadFault) → with_faults (Some g) fs ≡ Some f → Keeps g f fs
unfolding with_faults
keeps [] g f e = let p = same_Some g f e in record { one = inl p; old = subst (λ (z : LoadFault). IsUpTo z (g.at, g.code)) p (same (g.at, g.code)); others = λ h no. absurd no }
keeps (x ∷ fs) g f e = by_test x g f fs (λ g h. keeps fs g f h) (is_fault_less x g) refl e

-- the fault that is kept in the end is the least
pub kept_is_least : (fs : List (ℕ × ℕ)) (f : LoadFault) → with_faults None fs ≡ Some f → IsLeastFault f fs
unfolding with_faults
kept_is_least [] f e = absurd cc
kept_is_least (x ∷ fs) f e =
    let k = keeps fs (fault_of_pair x) f e in
    record {
      one = elim k.one as (λ _. (x ≡ (f.at, f.code)) ⊎ IsFaultAmong (f.at, f.code) fs) [ inl p ↦ inl (ap (λ (z : LoadFault). let y : ℕ × ℕ = (z.at, z.code) in y) p) | inr q ↦ inr q ];
      least = λ y among. elim among as (λ _. IsUpTo f y) [ inl here ↦ subst (λ (z : ℕ × ℕ). IsUpTo f z) here k.old | inr there ↦ k.others y there ];
    }
