-- Bytes load in one way: as one program with one profile, or with one least fault.
use Rattle.std.proofs.Common.{◌≡◌, inl, inr, sym, ◌∙◌, ap, subst, ℕ, List, Option, Some, Ok, Err, Result, arith}
use Rattle.std.specs.Option.{option_map}
use Rattle.flat_code.specs.Layout.{Cursor}
use Rattle.flat_code.specs.Loading.{faults_of}
use Rattle.flat_code.specs.Programs.{Program}
use Rattle.flat_code.specs.Stamps.{profile_of}
use Rattle.flat_code.specs.declared.stamps.Stamp.{Stamp}
use Rattle.image_file.specs.Images.{IsImageOf}
use Rattle.image_file.specs.Least.{IsFaultAmong, IsLeastFault, IsUpTo}
use Rattle.image_file.specs.LoadedProgram.{LoadedProgram}
use Rattle.image_file.specs.declared.faults.LoadFault.{LoadFault}
use Rattle.s7_cli.specs.Loads.{IsImageOfLoadable, LoadsAs}

same-fault : (f g : LoadFault) → f.at ≡ g.at → f.code ≡ g.code → f ≡ g
same-fault f g at code = λ i. record { at = at i; code = code i }

-- two faults, neither of which stands behind the other, are the same
not-behind : (f g : LoadFault) → IsUpTo f (g.at, g.code) → IsUpTo g (f.at, f.code) → f ≡ g
not-behind f g (inl less) (inl more) = absurd (omega (arith, less, more))
not-behind f g (inl less) (inr (same, code)) = absurd (omega (arith, less, same))
not-behind f g (inr (same, code)) (inl less) = absurd (omega (arith, same, less))
not-behind f g (inr (same, code)) (inr (also, other)) = same-fault f g same (omega (arith, code, other))

least-one : (faults : List (ℕ × ℕ)) (f g : LoadFault) → IsLeastFault f faults → IsLeastFault g faults → f ≡ g
least-one faults f g p q = not-behind f g (p.least (g.at, g.code) q.one) (q.least (f.at, f.code) p.one)

same-loaded : (l m : LoadedProgram) → l.program ≡ m.program → l.profile ≡ m.profile → l ≡ m
same-loaded l m program profile = λ i. record { program = program i; profile = profile i }

found-one : (bytes : List ℕ) (l m : LoadedProgram) → IsImageOf bytes l → IsImageOf bytes m → l ≡ m
found-one bytes l m one other = same-loaded l m program (one.profile ∙ ap profile_of stamp ∙ sym other.profile)
  where
    found : ◌≡◌ {A = Option ((Stamp × Program) × Cursor)} (Some ((one.stamp, l.program), one.given.end))
        (Some ((other.stamp, m.program), other.given.end))
    found = sym one.given.found ∙ other.given.found

    stamp : one.stamp ≡ other.stamp
    stamp =
        let same : Some one.stamp ≡ Some other.stamp = ap (option_map (λ (z : (Stamp × Program) × Cursor). z.0.0)) found in cc

    program : l.program ≡ m.program
    program =
        let same : Some l.program ≡ Some m.program = ap (option_map (λ (z : (Stamp × Program) × Cursor). z.0.1)) found in cc

faultless : (bytes : List ℕ) (l : LoadedProgram) (f : LoadFault) → IsImageOfLoadable bytes l → IsLeastFault f (faults_of bytes) → ⊥
faultless bytes l f loads least = subst (IsFaultAmong (f.at, f.code)) loads.image.given.clean least.one

pub loads-one : (bytes : List ℕ) (v w : Result LoadedProgram LoadFault) → LoadsAs bytes v → LoadsAs bytes w → v ≡ w
loads-one bytes (Ok l) (Ok m) a b = ap Ok (found-one bytes l m a.image b.image)
loads-one bytes (Ok l) (Err f) a b = absurd (faultless bytes l f a b)
loads-one bytes (Err f) (Ok l) a b = absurd (faultless bytes l f b a)
loads-one bytes (Err f) (Err g) a b = ap Err (least-one (faults_of bytes) f g a b)
