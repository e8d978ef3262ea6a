-- The settings of an instance.
use Rattle.std.proofs.Common.{◌≡◌, ℕ, zero, suc, ◌≤◌, List, [], ◌∷◌, length, drop, refl, arith}
use Rattle.std.specs.Prelude.{min}
use Rattle.flat_code.specs.declared.programs.Param.{Param}
use Rattle.stl_types.specs.declared.parameters.Formal.{Formal}
use Rattle.stl_list.specs.Initial.{parameter_settings}

settings_none : (line : ℕ) (bytes : List ℕ) (fs : List Formal) → parameter_settings line bytes fs [] ≡ []
settings_none line bytes [] = refl
settings_none line bytes (f ∷ fs) = refl

-- behind the last parameter there are none
pub settings_end : (line : ℕ) (bytes : List ℕ) (fs : List Formal) (ps : List Param) (n : ℕ) → min (length fs) (length ps) ≤ n → parameter_settings line bytes (drop n fs) (drop n ps) ≡ []
settings_end line bytes [] ps zero h = refl
settings_end line bytes [] ps (suc n) h = refl
settings_end line bytes (f ∷ fs) [] zero h = refl
settings_end line bytes (f ∷ fs) [] (suc n) h = settings_none line bytes (drop n fs)
settings_end line bytes (f ∷ fs) (p ∷ ps) zero h = absurd (omega (arith, h))
settings_end line bytes (f ∷ fs) (p ∷ ps) (suc n) h = settings_end line bytes fs ps n (omega (arith, h))
